use Rattle.std.proofs.Common.{◌≡◌, ℕ, ◌<◌, length, get_or}
use Rattle.std.specs.Int.Bits.{bit_xor}
use Rattle.raid_parity.specs.Rows.{byte_of}
use Rattle.stripe_suspects.proofs.differences.difference.Given as goal

abbrev pub invariant-loop-at : goal.invariant-loop-at
invariant-loop-at l = record {
  whole : length l.sum ≡ 512;
  done : (k : ℕ) → k < l.at → get_or l.sum k 0 ≡ bit_xor (byte_of l.row l.role k) (get_or l.sector k 0);
}
