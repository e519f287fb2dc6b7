use Rattle.std.proofs.Common.{◌≡◌, drop}
use Rattle.sb_specs.specs.Reading.{uuid_of_first}
use Rattle.sb_election.proofs.found.first_uuid.Given as goal

-- none of the superblocks before this place
abbrev pub invariant-loop-superblock : goal.invariant-loop-superblock
invariant-loop-superblock l = uuid_of_first l.seen ≡ uuid_of_first (drop l.superblock-index l.seen)
