use Rattle.std.proofs.Common.{◌≡◌, ◌++◌, take}
use Rattle.std.specs.List.{flat_map}
use Rattle.tool_layout.specs.Cells.{cell_text, padded}
use Rattle.tool_layout.proofs.drawing.push_cells.Given as goal

-- those so far
abbrev pub invariant-loop-cell : goal.invariant-loop-cell
invariant-loop-cell l = l.into.items ≡ l.initial.into.items ++ flat_map (λ cell. padded (cell_text l.chunk cell)) (take l.cell-index l.cells)
