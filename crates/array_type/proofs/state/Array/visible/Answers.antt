use Rattle.std.proofs.Common.{ℕ, sym, ◌∙◌, ap, arith}
use Rattle.sb_election.specs.sb_specs_Reading.{list_length}
use Rattle.array_reshaping_laws.specs.array_reshaping_state_Left.{visible_by}
use Rattle.array_type.proofs.Alike.{alike}
use Rattle.array_type.proofs.state.Array.visible.Goals as goal

pub returns-clause-visible : goal.returns-clause-visible
returns-clause-visible g c =
    rw (← c.self.view_is) (c.visible_of.ensures.value ∙ ap (λ (n : ℕ). visible_by n c.self.inside.limit) (c.length.ensures.length ∙ ap (λ p. list_length p.parts.members.newest) (sym c.self.view_is)))

pub returns-clause-few : goal.returns-clause-few
returns-clause-few g c = omega (arith, c.visible_of.ensures.within, c.length.ensures.few)

pub returns-clause-limited : goal.returns-clause-limited
returns-clause-limited g c = rw (← c.self.view_is) (alike c.self.invariant).limited

pub returns-clause-sized : goal.returns-clause-sized
returns-clause-sized g c = rw (← c.self.view_is) (alike c.self.invariant).sized
