use Rattle.std.proofs.Common.{◌≡◌, ◌<◌, ◌≤◌, ℕ, length, get_or}
use Rattle.sb_election.proofs.reads.lengths.Given as goal

-- those before this slot, and zeros
abbrev pub invariant-loop-slot : goal.invariant-loop-slot
invariant-loop-slot g l = record {
  long : length l.lengths ≡ 32;
  done : (s : ℕ) → s < l.slot → get_or l.lengths s 0 ≡ (g.B.Bank.given l.bank).sectors s;
  rest : (s : ℕ) → l.slot ≤ s → get_or l.lengths s 0 ≡ 0;
}
