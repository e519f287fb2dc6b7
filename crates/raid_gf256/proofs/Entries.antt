-- What the two tables have at each place.
use Rattle.std.proofs.Common.{◌≡◌, ℕ, ◌+◌, ◌*◌, ◌/◌, ◌%◌, ◌<◌, inl, inr, sym, ap, ◌∙◌, refl, arith, Bool, true, nat_eq, nat_lt, eqb-true, ◌||◌, ◌&&◌, slice_index_or}
use Rattle.std.proofs.lemmas.Bool.{agree_below_at, and_parts, or_cases}
use borrow.Author.Tests.{ltb-true}
use Rattle.raid_gf256.specs.Field.{double, product, power_of_two}
use Rattle.raid_gf256.specs.declared.tables.TheConstants.{LOGS, POWERS}
use Rattle.raid_gf256.proofs.FieldLaws.{IsLog, power-cycles, product-powers, product-one_l}

abbrev is_power : ℕ → Bool
is_power k = nat_eq (slice_index_or POWERS k 0) (power_of_two k)

pub powers-at : (k : ℕ) → k < 255 → slice_index_or POWERS k 0 ≡ power_of_two k
unfolding power_of_two double
powers-at k h = eqb-true (slice_index_or POWERS k 0) (power_of_two k) (agree_below_at is_power (λ (x : ℕ). true) 255 k refl h)

abbrev is_log : ℕ → Bool
is_log a = nat_eq a 0 || (nat_lt (slice_index_or LOGS a 0) 255 && nat_eq (power_of_two (slice_index_or LOGS a 0)) a)

logs_pass : (a : ℕ) → a < 256 → is_log a ≡ true
unfolding power_of_two double
logs_pass a h = agree_below_at is_log (λ (x : ℕ). true) 256 a refl h

pub logs-at : (a : ℕ) → a < 256 → 0 < a → IsLog a (slice_index_or LOGS a 0)
logs-at a h pos =
    elim (or_cases (nat_eq a 0) (nat_lt (slice_index_or LOGS a 0) 255 && nat_eq (power_of_two (slice_index_or LOGS a 0)) a) (logs_pass a h)) [
      | inl z ↦ absurd (omega (arith, eqb-true a 0 z))
      | inr both ↦
          let parts = and_parts (nat_lt (slice_index_or LOGS a 0) 255) (nat_eq (power_of_two (slice_index_or LOGS a 0)) a) both in
          record { below = ltb-true (slice_index_or LOGS a 0) 255 parts.0; value = eqb-true (power_of_two (slice_index_or LOGS a 0)) a parts.1 }
    ]

pub power-mod : (k : ℕ) → power_of_two (k % 255) ≡ power_of_two k
power-mod k =
    let e : k ≡ 255 * (k / 255) + k % 255 = omega arith in
    sym (ap power_of_two e ∙ sym (product-powers (255 * (k / 255)) (k % 255)) ∙ ap (λ (x : ℕ). product x (power_of_two (k % 255))) (power-cycles (k / 255))
    ∙ product-one_l (power_of_two (k % 255)))
