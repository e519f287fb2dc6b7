-- What is planned for a slot is planned again of what it got.
use Rattle.std.proofs.Common.{◌≡◌, inl, inr, ℕ, ◌+◌, ◌-◌, ◌^◌, ◌<◌, ◌≤◌, max, min, ◌++◌, take, length, Some, None, bit_and, bit_or, refl, sym, ◌∙◌, ap, arith}
use Rattle.std.specs.Int.{bit_at}
use Rattle.std.proofs.lemmas.Bool.{cases_lt}
use Rattle.std.proofs.lemmas.Nat.Bits.{bit_at_and, bit_at-lt, bit_at-zero, bit_at_above, same_from_bits}
use Rattle.sb_specs.specs.sb_codec_the_Sb.{Sb}
use Rattle.sb_specs.specs.declared.change.Give.{Give}
use Rattle.sb_specs.specs.declared.change.Give.TheVariants.{Same, Spare}
use Rattle.sb_specs.specs.declared.change.Give.TheVariants as give
use Rattle.sb_specs.specs.Update.{planned, with_shared}
use Rattle.sb_specs.proofs.PlannedSb.{shared_map, joined_drop, shared_bit, set_bit, clear_bit, others_bit, but_bit}

-- a bit of the constants: that of the bits 4 and 32, of all others, of bit 2, and of all but it
record AreConstants (k c t u : ℕ) : Type 0 where
  others : c ≤ 1 - k
  recovery : t ≤ c
  but : k ≤ u

constants : (i : ℕ) → AreConstants (bit_at (4 + 32) i) (bit_at (2 ^ 32 - 1 - (4 + 32)) i) (bit_at 2 i) (bit_at (2 ^ 32 - 1 - 2) i)
constants i =
    let apart : min (bit_at (4 + 32) i) (bit_at 2 i) ≡ 0 = sym (bit_at_and (4 + 32) 2 i) ∙ bit_at-zero i in
    elim (cases_lt i 32) [
      | inl below ↦
          let c = others_bit i below in
          let u = but_bit i below in
          let k_small = bit_at-lt (4 + 32) i in
          let t_small = bit_at-lt 2 i in
          record { others = omega (arith, c); recovery = omega (arith, c, apart, k_small, t_small); but = omega (arith, u, apart, k_small, t_small) }
      | inr past ↦
          let k = bit_at_above (4 + 32) 32 i (omega arith) past in
          let c = bit_at_above (2 ^ 32 - 1 - (4 + 32)) 32 i (omega arith) past in
          let t = bit_at_above 2 32 i (omega arith) past in
          record { others = omega (arith, c); recovery = omega (arith, t); but = omega (arith, k) }
    ]

again_bit : (a b e k c : ℕ) → a < 2 → b < 2 → e < 2 → k < 2 → c ≤ 1 - k → max (min (max (min a c) (min b k)) c) (min e k) ≡ max (min a c) (min e k)
again_bit a b e k c ha hb he hk h = omega (arith, h)

again_set : (a b e k c t : ℕ) → a < 2 → b < 2 → e < 2 → k < 2 → t < 2 → c ≤ 1 - k → t ≤ c
    → max (min (max (max (min a c) (min b k)) t) c) (min e k) ≡ max (max (min a c) (min e k)) t
again_set a b e k c t ha hb he hk ht h h' = omega (arith, h, h')

again_clear : (a b e k c u : ℕ) → a < 2 → b < 2 → e < 2 → k < 2 → u < 2 → c ≤ 1 - k → k ≤ u
    → max (min (min (max (min a c) (min b k)) u) c) (min e k) ≡ min (max (min a c) (min e k)) u
again_clear a b e k c u ha hb he hk hu h h' = omega (arith, h, h')

module _ (o n m : ℕ) where
  shared_at : (own shared i : ℕ) → bit_at (shared_map own shared) i ≡ max (min (bit_at own i) (bit_at (2 ^ 32 - 1 - (4 + 32)) i)) (min (bit_at shared i) (bit_at (4 + 32) i))
  shared_at own shared i = shared_bit own shared i (bit_at (2 ^ 32 - 1 - (4 + 32)) i) (bit_at (4 + 32) i) refl refl

  map-again : shared_map (shared_map o n) m ≡ shared_map o m
  map-again = same_from_bits (shared_map (shared_map o n) m) (shared_map o m) (λ i.
      let k = constants i in
      shared_at (shared_map o n) m i ∙ ap (λ x. max (min x (bit_at (2 ^ 32 - 1 - (4 + 32)) i)) (min (bit_at m i) (bit_at (4 + 32) i))) (shared_at o n i)
      ∙ again_bit (bit_at o i) (bit_at n i) (bit_at m i) (bit_at (4 + 32) i) (bit_at (2 ^ 32 - 1 - (4 + 32)) i) (bit_at-lt o i) (bit_at-lt n i) (bit_at-lt m i) (bit_at-lt (4 + 32) i) k.others
      ∙ sym (shared_at o m i))

  set-again : shared_map (bit_or (shared_map o n) 2) m ≡ bit_or (shared_map o m) 2
  set-again = same_from_bits (shared_map (bit_or (shared_map o n) 2) m) (bit_or (shared_map o m) 2) (λ i.
      let k = constants i in
      shared_at (bit_or (shared_map o n) 2) m i
      ∙ ap (λ x. max (min x (bit_at (2 ^ 32 - 1 - (4 + 32)) i)) (min (bit_at m i) (bit_at (4 + 32) i))) (set_bit (shared_map o n) i (bit_at 2 i) refl ∙ ap (λ x. max x (bit_at 2 i)) (shared_at o n i))
      ∙ again_set (bit_at o i) (bit_at n i) (bit_at m i) (bit_at (4 + 32) i) (bit_at (2 ^ 32 - 1 - (4 + 32)) i) (bit_at 2 i)
      (bit_at-lt o i) (bit_at-lt n i) (bit_at-lt m i) (bit_at-lt (4 + 32) i) (bit_at-lt 2 i) k.others k.recovery
      ∙ sym (set_bit (shared_map o m) i (bit_at 2 i) refl ∙ ap (λ x. max x (bit_at 2 i)) (shared_at o m i)))

  clear-again : shared_map (bit_and (shared_map o n) (2 ^ 32 - 1 - 2)) m ≡ bit_and (shared_map o m) (2 ^ 32 - 1 - 2)
  clear-again = same_from_bits (shared_map (bit_and (shared_map o n) (2 ^ 32 - 1 - 2)) m) (bit_and (shared_map o m) (2 ^ 32 - 1 - 2)) (λ i.
      let k = constants i in
      shared_at (bit_and (shared_map o n) (2 ^ 32 - 1 - 2)) m i
      ∙ ap (λ x. max (min x (bit_at (2 ^ 32 - 1 - (4 + 32)) i)) (min (bit_at m i) (bit_at (4 + 32) i)))
      (clear_bit (shared_map o n) i (bit_at (2 ^ 32 - 1 - 2) i) refl ∙ ap (λ x. min x (bit_at (2 ^ 32 - 1 - 2) i)) (shared_at o n i))
      ∙ again_clear (bit_at o i) (bit_at n i) (bit_at m i) (bit_at (4 + 32) i) (bit_at (2 ^ 32 - 1 - (4 + 32)) i) (bit_at (2 ^ 32 - 1 - 2) i)
      (bit_at-lt o i) (bit_at-lt n i) (bit_at-lt m i) (bit_at-lt (4 + 32) i) (bit_at-lt (2 ^ 32 - 1 - 2) i) k.others k.but
      ∙ sym (clear_bit (shared_map o m) i (bit_at (2 ^ 32 - 1 - 2) i) refl ∙ ap (λ x. min x (bit_at (2 ^ 32 - 1 - 2) i)) (shared_at o m i)))

-- the newer newest alone counts
pub planned-again : (N M own : Sb) (g : Give) → 128 ≤ length N.dev_roles → planned M Same (planned N g own) ≡ planned M g own
planned-again N M own Same long i = record (with_shared M own) {
  feature_map = map-again own.feature_map N.feature_map M.feature_map i;
  events = M.events;
  dev_roles = take 128 M.dev_roles ++ joined_drop N.dev_roles own.dev_roles long i;
}
planned-again N M own Spare long i = record (with_shared M own) {
  feature_map = map-again own.feature_map N.feature_map M.feature_map i;
  events = M.events;
  dev_roles = take 128 M.dev_roles ++ joined_drop N.dev_roles own.dev_roles long i;
}
planned-again N M own (give.Role role (Some offset)) long i = record (with_shared M own) {
  feature_map = set-again own.feature_map N.feature_map M.feature_map i;
  recovery_offset = offset;
  events = M.events;
  dev_roles = take 128 M.dev_roles ++ joined_drop N.dev_roles own.dev_roles long i;
}
planned-again N M own (give.Role role None) long i = record (with_shared M own) {
  feature_map = clear-again own.feature_map N.feature_map M.feature_map i;
  recovery_offset = 0;
  events = M.events;
  dev_roles = take 128 M.dev_roles ++ joined_drop N.dev_roles own.dev_roles long i;
}
