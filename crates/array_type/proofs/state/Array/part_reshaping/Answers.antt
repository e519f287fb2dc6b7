use Rattle.std.proofs.Common.{ap, ◌∙◌}
use Rattle.sb_election.specs.sb_specs_Reading.{is_reshaping}
use Rattle.array_type.proofs.state.Array.part_reshaping.Goals as goal

pub returns-clause-ready : goal.returns-clause-ready
returns-clause-ready g c = (c.self.invariant.moves (ap (λ p. is_reshaping p.parts.members.newest) c.self.view_is ∙ c.requires.active)).1
