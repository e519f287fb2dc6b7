use Rattle.std.proofs.Common.{◌==◌}
use Rattle.std.specs.Prelude.{slice_index}
use Rattle.sb_safe_updates.specs.array_members_Numbers.{bearers}
use Rattle.sb_add_spare.proofs.Bearers.{AreBearersOf}
use Rattle.sb_add_spare.proofs.device.bear.Given as goal

-- of the numbers before this one the slots are worked out
abbrev pub invariant-loop-other : goal.invariant-loop-other
invariant-loop-other l = AreBearersOf (λ n. bearers l.only l.slot (n == l.number) (slice_index l.work.carried n)) l.other l.carried
