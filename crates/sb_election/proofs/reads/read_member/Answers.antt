use Rattle.std.proofs.Common.{sym, ◌∙◌}
use Rattle.sb_election.proofs.reads.read_member.Goals as goal

pub returns-clause-found : goal.returns-clause-found
returns-clause-found g c =
    let e = sym c.is_backup.ensures ∙ c.if-is_backup.false in
    simp e c.read_superblock.ensures.found
