use Rattle.std.proofs.Common.{◌≡◌, ℕ, ◌<◌, ◌*◌, ◌+◌, [], take, drop, get_or}
use Rattle.bank.proofs.slot_sectors.SlotSectors.read.Given as goal

abbrev pub invariant-loop-i : goal.invariant-loop-i
invariant-loop-i l = (j : ℕ) → j < l.i → take 512 (drop (512 * j) l.into) ≡ get_or l.self (l.at + j) []
