use Rattle.std.proofs.Common.{sym, ap, ◌∙◌, refl, inl, inr}
use Rattle.raid_types.specs.declared.places.RowRoles.{RowRoles}
use Rattle.tool_layout.proofs.cells.cell_of.Goals as goal

pub returns-then-row_of-role : goal.returns-then-row_of-role
returns-then-row_of-role c = sym c.if-row_of-role.true ∙ ap (λ (r : RowRoles). r.p) c.row_of.ensures.roles

pub returns-else-row_of-role : goal.returns-else-row_of-role
returns-else-row_of-role c =
    elim (c.in-None.ensures.parity.0 refl) [
      | inl h ↦ absurd (c.if-row_of-role.false (ap (λ (r : RowRoles). r.p) c.row_of.ensures.roles ∙ sym h))
      | inr h ↦ sym h
    ]
