use Rattle.std.proofs.Common.{◌≡◌, ◌<◌, ◌^◌, length, vec_len, vec_capacity}
use Rattle.tool_files.proofs.images.take_images.Given as goal

-- one image for each path so far
abbrev pub invariant-loop-path : goal.invariant-loop-path
invariant-loop-path g l = (vec_len l.images ≡ l.path-index) × (vec_len l.images < 2 ^ 32) × (vec_capacity l.images ≡ length l.fn.paths)
