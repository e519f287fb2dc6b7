use Rattle.sb_election.proofs.reads.decoded.Goals as goal

pub returns-clause-bytes : goal.returns-clause-bytes
returns-clause-bytes c = c.fits-sectors
