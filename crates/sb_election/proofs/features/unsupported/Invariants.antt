use Rattle.std.proofs.Common.{◌≡◌, drop}
use Rattle.sb_specs.specs.Verdict.{unsupported}
use Rattle.sb_election.proofs.features.unsupported.Given as goal

-- none of the slots before this place has any
abbrev pub invariant-loop-sb : goal.invariant-loop-sb
invariant-loop-sb l = unsupported l.fresh ≡ unsupported (drop l.sb-index l.fresh)
