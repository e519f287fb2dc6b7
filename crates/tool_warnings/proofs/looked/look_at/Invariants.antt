-- the slots so far
use Rattle.std.proofs.Common.{◌≡◌, ◌++◌, drop, map, string_bytes}
use Rattle.tool_warnings.specs.Looks.{slots_of, paths_of, numbers_below, AreShort}
use Rattle.tool_warnings.proofs.looked.look_at.Given as goal

abbrev pub invariant-loop-at : goal.invariant-loop-at
invariant-loop-at g l = record {
  slots : slots_of l.looked.items ≡ numbers_below l.at;
  paths : paths_of l.looked.items ++ map string_bytes (drop l.at l.paths) ≡ map string_bytes l.paths;
  short : AreShort l.looked.items;
}
