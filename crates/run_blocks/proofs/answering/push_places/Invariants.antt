-- The answers so far are those by the replies so far, all of which tell a place.
use Rattle.std.proofs.Common.{◌≡◌, ◌+◌, ◌≤◌, ◌++◌, length, drop, vec_capacity}
use Rattle.run_line_answers.specs.run_specs_Blocks.{places_told}
use Rattle.run_blocks.specs.Answers.{insides}
use Rattle.run_blocks.proofs.answering.push_places.Given as goal

abbrev pub invariant-loop-i : goal.invariant-loop-i
invariant-loop-i l = record {
  whole : l.whats.items ++ insides l.epoch (places_told (drop l.i l.replies)) ≡ l.fn.whats.items ++ insides l.epoch (places_told l.replies);
  few : length l.whats.items ≤ length l.fn.whats.items + l.i;
  room : vec_capacity l.fn.whats ≤ vec_capacity l.whats;
}
