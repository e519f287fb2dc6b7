use Rattle.std.proofs.Common.{◌≡◌, ◌<◌, ℕ, length, get_or, nat_lt, cond}
use Rattle.array_create_assemble.proofs.device.role_entries.Given as goal

-- the entries before this number are roles, and the others are as they were
abbrev pub invariant-loop-number : goal.invariant-loop-number
invariant-loop-number l = record {
  long : length l.entries ≡ 384;
  each : (i : ℕ) → i < 384 → get_or l.entries i 0 ≡ cond (nat_lt i l.number) i 0xfffe;
}
