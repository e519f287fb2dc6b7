use Rattle.std.proofs.Common.{◌≡◌, ℕ, ◌<◌, length, get_or}
use Rattle.tool_layout.specs.Cells.{IsCell}
use Rattle.tool_layout.specs.declared.cells.Cell.{Cell}
use Rattle.tool_layout.proofs.cells.cells_of.Given as goal

-- those of the roles so far
abbrev pub invariant-loop-role : goal.invariant-loop-role
invariant-loop-role l = (length l.cells.items ≡ l.role) × ((role : ℕ) (none : Cell) → role < l.role → IsCell l.shape l.row role (get_or l.cells.items role none))
