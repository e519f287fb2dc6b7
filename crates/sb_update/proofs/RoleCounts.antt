-- The number of roles of what an update plans is that of the fields that it takes.
use Rattle.std.proofs.Common.{◌≡◌, ℕ, ◌+◌, ◌-◌, ◌^◌, ◌<◌, ◌==◌, Bool, if◌then◌else◌, max, min, bit_and, ◌∙◌, ap, arith}
use Rattle.std.specs.Prelude.{pos, ◌-ℤ◌, Option, Some, None, unwrap_or}
use Rattle.sb_specs.specs.raid_types_the_Shape.{Shape}
use Rattle.std.specs.Int.{bit_at}
use Rattle.std.proofs.lemmas.Nat.Bits.{bit_at_and, bit_at_or, bit_at-lt}
use Rattle.sb_specs.specs.sb_codec_the_Sb.{Sb}
use Rattle.sb_specs.specs.Reading.{count_of, is_reshaping, role_count}
use Rattle.sb_specs.specs.Update.{with_shared}
use Rattle.sb_specs.specs.Updating.{IsLater, planned_newest}

shared_bit : (r l a b s : ℕ) → s < 2 → r ≡ max l a → l ≡ min b 0 → a ≡ min s 1 → r ≡ s
shared_bit r l a b s small is left right = omega (arith, is, left, right)

same_reshaping : (shared own : Sb) → is_reshaping (with_shared shared own) ≡ is_reshaping shared
same_reshaping shared own =
    ap (λ (n : ℕ). n == 1) (shared_bit _ (bit_at (bit_and own.feature_map (2 ^ 32 - 1 - (4 + 32))) 2) (bit_at (bit_and shared.feature_map (4 + 32)) 2) (bit_at own.feature_map 2) (bit_at shared.feature_map 2)
    (bit_at-lt shared.feature_map 2)
    (bit_at_or (bit_and own.feature_map (2 ^ 32 - 1 - (4 + 32))) (bit_and shared.feature_map (4 + 32)) 2)
    (bit_at_and own.feature_map (2 ^ 32 - 1 - (4 + 32)) 2)
    (bit_at_and shared.feature_map (4 + 32) 2))

-- the count, by that bit
abbrev pub shape_by : Bool → Sb → Shape
shape_by reshaping sb = record {
  level = sb.level;
  layout = sb.layout;
  chunk = sb.chunksize;
  disks = if reshaping then count_of (pos sb.raid_disks -ℤ sb.delta_disks) else sb.raid_disks;
}

abbrev pub target_by : Bool → Sb → Option Shape
target_by reshaping sb =
    if reshaping then Some (record { level = sb.new_level; layout = sb.new_layout; chunk = sb.new_chunk; disks = sb.raid_disks }) else None

abbrev pub count_by : Bool → Sb → ℕ
count_by reshaping sb = max (shape_by reshaping sb).disks (unwrap_or (target_by reshaping sb) (shape_by reshaping sb)).disks

pub same_count : (shared former newest : Sb) → IsLater (planned_newest shared former) newest → role_count newest ≡ role_count shared
same_count shared former newest later = ap role_count later.same ∙ ap (λ (b : Bool). count_by b shared) (same_reshaping shared former)
