use Rattle.std.proofs.Common.{◌≡◌, ◌<◌, ◌&&◌, ℕ, false, not, nat_le}
use Rattle.sb_safe_updates.specs.sb_specs_Reading.{entry_of}
use Rattle.sb_safe_updates.specs.array_members_Numbers.{is_carried}
use Rattle.sb_add_spare.proofs.device.free_number.Given as goal

-- no number before this one is free
abbrev pub invariant-loop-number : goal.invariant-loop-number
invariant-loop-number l = (number : ℕ) → number < l.number → (not (is_carried l.work number) && nat_le 0xfffe (entry_of l.newest number)) ≡ false
