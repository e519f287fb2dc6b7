-- The blocks so far are stored.
use Rattle.std.proofs.Common.{◌≡◌, ℕ, ◌<◌, ◌*◌, ◌+◌, ◌%◌, length, get_or}
use Rattle.script_words.proofs.sector_bytes.counted_sector.Given as goal

abbrev pub invariant-loop-block : goal.invariant-loop-block
invariant-loop-block l = record {
  size : length l.sector ≡ 512;
  done : (k : ℕ) → k < 64 * l.block → get_or l.sector k 0 ≡ (l.first + k) % 256;
}
