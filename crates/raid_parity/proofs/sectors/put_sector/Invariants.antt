use Rattle.std.proofs.Common.{◌≡◌, ◌≢◌, ℕ, ◌<◌, get_or}
use Rattle.raid_parity.specs.Rows.{byte_of}
use Rattle.raid_parity.proofs.sectors.put_sector.Given as goal

abbrev pub invariant-loop-at : goal.invariant-loop-at
invariant-loop-at l = record {
  there : (k : ℕ) → k < l.at → byte_of l.row l.role k ≡ get_or l.from k 0;
  others : (other k : ℕ) → k < 512 → other ≢ l.role → byte_of l.row other k ≡ byte_of l.fn.row other k;
}
