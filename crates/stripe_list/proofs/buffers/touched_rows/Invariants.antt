use Rattle.std.proofs.Common.{◌+◌, ◌-◌, ◌<◌, ◌≤◌, ℕ, vec_len, vec_capacity}
use Rattle.std.specs.Prelude.{Contains}
use Rattle.raid_layout.specs.Layout.{place}
use Rattle.stripe_list.specs.Buffers.{IsTouched, AreDistinct}
use Rattle.stripe_list.proofs.buffers.touched_rows.Given as goal

abbrev pub invariant-loop-x : goal.invariant-loop-x
invariant-loop-x l = record {
  all : (x : ℕ) → l.first ≤ x → x < l.x → Contains l.rows.items (place l.shape x).row;
  only : (r : ℕ) → Contains l.rows.items r → IsTouched l.shape l.first (l.x - l.first) r;
  once : AreDistinct l.rows.items;
  few : vec_len l.rows + l.first ≤ vec_len l.fn.rows + l.x;
  capacity : vec_capacity l.fn.rows ≤ vec_capacity l.rows;
}
