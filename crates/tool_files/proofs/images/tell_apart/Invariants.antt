use Rattle.std.proofs.Common.{◌≡◌, ◌≢◌, ◌<◌, ◌^◌, length, vec_len, vec_capacity}
use Rattle.std.specs.List.{All, AllPairs, Contains}
use Rattle.tool_files.proofs.images.tell_apart.Given as goal

-- one file for each path so far, all apart
abbrev pub invariant-loop-path : goal.invariant-loop-path
invariant-loop-path g l = record {
  each : vec_len l.files ≡ l.path-index;
  few : vec_len l.files < 2 ^ 32;
  room : vec_capacity l.files ≡ length l.fn.paths;
  apart : AllPairs (λ one other. one ≢ other) l.files.items;
  free : All (λ file. ¬ Contains l.taken file) l.files.items;
}
