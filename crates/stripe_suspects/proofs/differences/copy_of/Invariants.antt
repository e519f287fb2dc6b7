use Rattle.std.proofs.Common.{◌≡◌, ℕ, ◌<◌, length, get_or}
use Rattle.raid_parity.specs.Rows.{byte_of}
use Rattle.stripe_suspects.proofs.differences.copy_of.Given as goal

abbrev pub invariant-loop-at : goal.invariant-loop-at
invariant-loop-at l = record {
  whole : length l.copy ≡ 512;
  done : (k : ℕ) → k < l.at → get_or l.copy k 0 ≡ byte_of l.row l.role k;
}
