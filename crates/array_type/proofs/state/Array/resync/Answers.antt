use Rattle.std.proofs.Common.{ap, ◌∙◌, subst}
use Rattle.std.specs.Prelude.{IfSome, ◌≤◌}
use Rattle.sb_election.specs.sb_specs_Reading.{is_reshaping}
use Rattle.array_parts.specs.array_members_Status.{stripes_of}
use Rattle.array_type.proofs.state.Array.resync.Goals as goal

pub returns-clause-progress : goal.returns-clause-progress
returns-clause-progress g c = λ still.
    subst (λ p. IfSome c.self.inside.work.resync (λ mended. mended ≤ stripes_of p.parts.members)) c.self.view_is
    (c.self.invariant.rests (ap (λ p. is_reshaping p.parts.members.newest) c.self.view_is ∙ still)).1.kept.progress
