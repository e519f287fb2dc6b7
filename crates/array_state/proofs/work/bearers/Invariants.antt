use Rattle.std.proofs.Common.{◌≡◌, ◌==◌, ◌&&◌, ℕ, false, nat_lt}
use Rattle.std.specs.Option.{option_map_or}
use Rattle.stripe_io.specs.raid_types_Shapes.{has_slot}
use Rattle.sb_add_spare.specs.sb_specs_Update.{own_in}
use Rattle.array_state.proofs.work.bearers.Given as goal

-- of the slots before this one those that do
abbrev pub invariant-loop-slot : goal.invariant-loop-slot
invariant-loop-slot l = (s : ℕ) → has_slot l.slots s ≡ (nat_lt s l.slot && option_map_or (λ sb. sb.dev_number == l.number) (own_in l.members.own s) false)
