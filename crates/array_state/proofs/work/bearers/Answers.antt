use Rattle.std.proofs.Common.{◌≡◌, ◌==◌, ◌+◌, ◌&&◌, ℕ, Bool, false, nat_lt, sym, ◌∙◌, subst, arith}
use Rattle.std.specs.Option.{option_map_or}
use Rattle.std.proofs.lemmas.Bool.Decides.{nat_tests}
use Rattle.stripe_io.specs.raid_types_Shapes.{has_slot}
use Rattle.sb_add_spare.specs.sb_specs_Update.{own_in}
use Rattle.sb_add_spare.proofs.sb_specs_SlotSets.{none_there, one_more, none_more, is-set_of}
use Rattle.array_state.proofs.work.bearers.Goals as goal
use Rattle.array_state.proofs.work.bearers.Goals.{then-bears, else-bears}

pub loop-slot-init : goal.loop-slot-init
loop-slot-init c s = none_there s ∙ nothing s (option_map_or (λ sb. sb.dev_number == c.args.number) (own_in c.args.members.now.own s) false)
  where
    nothing : (t : ℕ) (b : Bool) → false ≡ (nat_lt t 0 && b)
    nothing t b = grind (arith, nat_tests)

pub loop-slot-preserved : goal.loop-slot-preserved
loop-slot-preserved c =
    let test : ℕ → Bool = λ s. option_map_or (λ sb. sb.dev_number == c.args.number) (own_in c.args.members.now.own s) false in
    elim c.if-bears.branch [
      | then-bears w ↦
          subst (λ (n : ℕ). (s : ℕ) → has_slot n s ≡ (nat_lt s (c.loop-slot.slot + 1) && test s)) (sym w.slots-is)
          (one_more c.loop-slot.slots w.with-slots.result c.loop-slot.slot test c.loop-slot.invariant (sym c.bears.ensures ∙ w.if-bears.true) w.with-slots.ensures)
      | else-bears w ↦
          subst (λ (n : ℕ). (s : ℕ) → has_slot n s ≡ (nat_lt s (c.loop-slot.slot + 1) && test s)) (sym w.slots-is)
          (none_more c.loop-slot.slots c.loop-slot.slot test c.loop-slot.invariant (sym c.bears.ensures ∙ w.if-bears.false))
    ]

pub returns : goal.returns
returns c =
    let all : c.loop-slot.slot ≡ 32 = omega arith in
    is-set_of c.loop-slot.slots (λ s. option_map_or (λ sb. sb.dev_number == c.args.number) (own_in c.args.members.now.own s) false)
    (subst (λ (n : ℕ). (s : ℕ) → has_slot c.loop-slot.slots s ≡ (nat_lt s n && option_map_or (λ sb. sb.dev_number == c.args.number) (own_in c.args.members.now.own s) false)) all c.loop-slot.invariant)
