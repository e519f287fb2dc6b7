-- The sectors so far are written.
use Rattle.script.proofs.SeedLaws.{Written}
use Rattle.script.proofs.seeds.seed_sectors.Given as goal

abbrev pub invariant-loop-k : goal.invariant-loop-k
invariant-loop-k l = Written l.seed l.at l.k l.bytes.items
