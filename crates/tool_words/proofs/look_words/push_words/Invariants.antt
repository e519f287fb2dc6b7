use Rattle.std.proofs.Common.{◌≡◌, ◌++◌, map, string_bytes, take}
use Rattle.tool_words.proofs.look_words.push_words.Given as goal

-- those so far
abbrev pub invariant-loop-i : goal.invariant-loop-i
invariant-loop-i l = map string_bytes l.words.items ≡ map string_bytes l.fn.words.items ++ map string_bytes (take l.i l.more)
