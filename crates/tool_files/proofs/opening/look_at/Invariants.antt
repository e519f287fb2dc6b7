use Rattle.std.proofs.Common.{◌≡◌, length, vec_len, vec_capacity}
use Rattle.tool_files.proofs.opening.look_at.Given as goal

-- one device for each path so far
abbrev pub invariant-loop-path : goal.invariant-loop-path
invariant-loop-path g l = (vec_len l.devices ≡ l.path-index) × (vec_capacity l.devices ≡ length l.fn.paths)
