use Rattle.std.proofs.Common.{◌≡◌, ◌<◌, ℕ, set, length, inl, inr, refl, sym, ◌∙◌, ap, arith}
use Rattle.std.proofs.lemmas.Bool.{cases_eq}
use Rattle.std.proofs.lemmas.List.{same_lists, get_or_default, length-set, get_or-set_same, get_or-set_other}
use Rattle.sb_update.specs.raid_types_Search.{tabulate}
use Rattle.sb_update.proofs.raid_types_Tabulated.{length-tabulate, get_or-tabulate}
use Rattle.sb_update.specs.sb_specs_the_Give_TheVariants.{Same}
use Rattle.sb_update.specs.sb_specs_Update.{give_of}
use Rattle.reshape_sb_updates.specs.Ending.{dropped_give}
use Rattle.reshape_sb_updates.proofs.ending.dropped_gives.Goals as goal

pub loop-slot-init : goal.loop-slot-init
loop-slot-init c = (refl, λ s lt. absurd (omega (arith, lt)))

pub loop-slot-preserved : goal.loop-slot-preserved
loop-slot-preserved c = (
  length-set c.loop-slot.gives c.loop-slot.slot c.dropped_give.result ∙ c.loop-slot.invariant.0,
  λ s lt. elim (cases_eq s c.loop-slot.slot) [
    | inl same ↦ ap (λ (t : ℕ). give_of (set c.loop-slot.gives c.loop-slot.slot c.dropped_give.result) t) same ∙ get_or-set_same c.loop-slot.gives c.loop-slot.slot c.dropped_give.result Same here
        ∙ c.dropped_give.ensures ∙ sym (ap (dropped_give c.args.roles.now c.args.disks) same)
    | inr apart ↦ get_or-set_other c.loop-slot.gives c.loop-slot.slot s c.dropped_give.result Same apart ∙ c.loop-slot.invariant.1 s (omega (arith, lt, apart))
  ],
)
  where
    here : c.loop-slot.slot < length c.loop-slot.gives
    here = let long = c.loop-slot.invariant.0 in let more = c.loop-slot-test.true in omega (arith, long, more)

pub returns : goal.returns
returns c =
    let f = dropped_give c.args.roles.now c.args.disks in
    let all : c.loop-slot.slot ≡ 32 = omega arith in
    same_lists c.loop-slot.gives (tabulate 32 f) (c.loop-slot.invariant.0 ∙ sym (length-tabulate 32 f)) (λ k d lt.
    let below : k < 32 = (let long = c.loop-slot.invariant.0 in omega (arith, lt, long)) in
    get_or_default c.loop-slot.gives k d Same lt ∙ c.loop-slot.invariant.1 k (omega (arith, below, all)) ∙ sym (get_or-tabulate 32 f k d below))
