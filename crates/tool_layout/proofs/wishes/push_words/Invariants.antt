use Rattle.std.proofs.Common.{◌≡◌, ◌++◌, ◌∷◌, map, string_bytes, take}
use Rattle.std.specs.List.{flat_map}
use Rattle.tool_layout.proofs.wishes.push_words.Given as goal

-- those so far
abbrev pub invariant-loop-i : goal.invariant-loop-i
invariant-loop-i l = l.line.items ≡ l.initial.line.items ++ flat_map (λ word. 32 ∷ word) (map string_bytes (take l.i l.words))
