use Rattle.std.proofs.Common.{◌≡◌, ◌++◌, map, string_bytes, take}
use Rattle.script_argv.proofs.paths.push_copies.Given as goal

abbrev pub invariant-loop-i : goal.invariant-loop-i
invariant-loop-i l = map string_bytes l.into.items ≡ map string_bytes l.fn.into.items ++ map (λ t. t.now) (take l.i l.texts)
