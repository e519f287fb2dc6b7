use Rattle.std.proofs.Common.{◌∙◌, sym}
use Rattle.array.proofs.state.Running.next.Goals as goal

pub next_in_reshape-requires : goal.next_in_reshape-requires
next_in_reshape-requires g c = record { active = sym c.is_reshaping.ensures ∙ c.if-is_reshaping.true }

pub next_at_rest-requires : goal.next_at_rest-requires
next_at_rest-requires g c = record { still = sym c.is_reshaping.ensures ∙ c.if-is_reshaping.false }

pub returns-then-is_reshaping-clause-next : goal.returns-then-is_reshaping-clause-next
returns-then-is_reshaping-clause-next g c = rw (← c.self.view_is) c.next_in_reshape.ensures.next

pub returns-then-is_reshaping-clause-some : goal.returns-then-is_reshaping-clause-some
returns-then-is_reshaping-clause-some g c = rw (← c.self.view_is) c.next_in_reshape.ensures.some

pub returns-else-is_reshaping-clause-next : goal.returns-else-is_reshaping-clause-next
returns-else-is_reshaping-clause-next g c = rw (← c.self.view_is) c.next_at_rest.ensures.next

pub returns-else-is_reshaping-clause-some : goal.returns-else-is_reshaping-clause-some
returns-else-is_reshaping-clause-some g c = rw (← c.self.view_is) c.next_at_rest.ensures.some
