use Rattle.sb_election.proofs.fields.bad_offset.Goals as goal

pub returns : goal.returns
returns c = cc
