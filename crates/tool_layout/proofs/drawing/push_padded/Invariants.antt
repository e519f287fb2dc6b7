use Rattle.std.proofs.Common.{◌≡◌, ◌++◌, replicate}
use Rattle.tool_layout.proofs.drawing.push_padded.Given as goal

-- so many spaces
abbrev pub invariant-loop-place : goal.invariant-loop-place
invariant-loop-place l = l.into.items ≡ l.initial.into.items ++ replicate l._place 32
