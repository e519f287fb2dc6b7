use Rattle.std.proofs.Common.{arith}
use Rattle.stripe_io.proofs.array_members_Fit.{force-valid}
use Rattle.stripe_region_read.proofs.ChunkReads.{chunk-run}
use Rattle.stripe_region_read.proofs.chunks.run_at.Goals as goal

pub returns-clause-run : goal.returns-clause-run
returns-clause-run c =
    let shape = c.stretch_at-stretch.result.shape in
    let valid = force-valid c.args.members.now.newest c.requires.fit shape c.stretch_at-stretch.ensures.force in
    let least = c.min.ensures in
    chunk-run shape valid c.args.from c.min.result (omega (arith, least))
