use Rattle.std.proofs.Common.{◌≡◌, ◌<◌, ◌^◌, length, map, replicate, vec_len, vec_capacity}
use Rattle.bank_file.proofs.file_bank.FileBank+ImageFile.from_paths.Given as goal

-- one image for each path so far
abbrev pub invariant-loop-path : goal.invariant-loop-path
invariant-loop-path g l = (vec_len l.images ≡ l.path-index) × (vec_len l.images < 2 ^ 32) × (vec_capacity l.images ≡ length l.fn.paths) × (map (λ image. image.faults) l.images.items ≡ replicate l.path-index 0)
