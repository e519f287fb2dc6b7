use Rattle.std.proofs.Common.{◌≡◌, ◌+◌, ◌<◌, ◌&&◌, ℕ, Bool, cond, nat_lt, set, length, inl, inr, refl, sym, ◌∙◌, ap, ap₂, arith}
use Rattle.std.proofs.lemmas.Bool.{cases_eq}
use Rattle.std.proofs.lemmas.List.{same_lists, get_or_default, length-set, get_or-set_same, get_or-set_other}
use Rattle.sb_update.specs.raid_types_Search.{tabulate, count_below}
use Rattle.sb_update.proofs.raid_types_Tabulated.{length-tabulate, get_or-tabulate}
use Rattle.sb_update.specs.sb_specs_the_Give_TheVariants.{Same}
use Rattle.sb_update.specs.sb_specs_Reads.{has_spare}
use Rattle.sb_update.specs.sb_specs_Update.{give_of}
use Rattle.reshape_sb_updates.specs.Beginning.{give_where, new_give}
use Rattle.reshape_sb_updates.proofs.Counts.{count-none, count-more, count-most, as-many, byte-is}
use Rattle.reshape_sb_updates.proofs.beginning.new_gives.Goals as goal

pub loop-slot-init : goal.loop-slot-init
loop-slot-init c = (refl, (let none = count-none (has_spare c.args.spares.now) in omega (arith, none)), λ s lt. absurd (omega (arith, lt)))

pub overflow_add-role : goal.overflow_add-role
overflow_add-role c =
    let so-far = c.loop-slot.invariant.1 in
    let most = count-most c.loop-slot.slot (has_spare c.args.spares.now) in
    let one = as-many c.contains-is_spare.result c.from-role.result (c.from-role.ensures ∙ byte-is c.contains-is_spare.result) in
    let first = c.requires.first in
    let more = c.loop-slot-test.true in
    omega (arith, so-far, most, one, first, more)

pub loop-slot-preserved : goal.loop-slot-preserved
loop-slot-preserved c = (
  length-set c.loop-slot.gives c.loop-slot.slot c.give_for.result ∙ c.loop-slot.invariant.0,
  ap₂ (λ (a b : ℕ). a + b) c.loop-slot.invariant.1 (c.from-role.ensures ∙ byte-is c.contains-is_spare.result) ∙ next,
  λ s lt. elim (cases_eq s c.loop-slot.slot) [
    | inl same ↦ ap (λ (t : ℕ). give_of (set c.loop-slot.gives c.loop-slot.slot c.give_for.result) t) same ∙ get_or-set_same c.loop-slot.gives c.loop-slot.slot c.give_for.result Same here ∙ given-here
        ∙ sym (ap (new_give c.args.spares.now c.args.first c.args.disks) same)
    | inr apart ↦ get_or-set_other c.loop-slot.gives c.loop-slot.slot s c.give_for.result Same apart ∙ c.loop-slot.invariant.2 s (omega (arith, lt, apart))
  ],
)
  where
    here : c.loop-slot.slot < length c.loop-slot.gives
    here = let long = c.loop-slot.invariant.0 in let more = c.loop-slot-test.true in omega (arith, long, more)

    next : c.args.first + count_below c.loop-slot.slot (has_spare c.args.spares.now) + cond c.contains-is_spare.result 1 0 ≡ c.args.first + count_below (c.loop-slot.slot + 1) (has_spare c.args.spares.now)
    next =
        let more = count-more c.loop-slot.slot (has_spare c.args.spares.now) in
        let same : ◌≡◌ {A = ℕ} (cond c.contains-is_spare.result 1 0) (cond (has_spare c.args.spares.now c.loop-slot.slot) 1 0) = ap (λ (b : Bool). cond b 1 0) c.contains-is_spare.ensures in
        omega (arith, more, same)

    given-here : c.give_for.result ≡ new_give c.args.spares.now c.args.first c.args.disks c.loop-slot.slot
    given-here = c.give_for.ensures ∙ ap₂ (λ (b : Bool) (r : ℕ). give_where (b && nat_lt r c.args.disks) r) c.contains-is_spare.ensures c.loop-slot.invariant.1

pub returns : goal.returns
returns c =
    let f = new_give c.args.spares.now c.args.first c.args.disks in
    let all : c.loop-slot.slot ≡ 32 = omega arith in
    same_lists c.loop-slot.gives (tabulate 32 f) (c.loop-slot.invariant.0 ∙ sym (length-tabulate 32 f)) (λ k d lt.
    let below : k < 32 = (let long = c.loop-slot.invariant.0 in omega (arith, lt, long)) in
    get_or_default c.loop-slot.gives k d Same lt ∙ c.loop-slot.invariant.2 k (omega (arith, below, all)) ∙ sym (get_or-tabulate 32 f k d below))
