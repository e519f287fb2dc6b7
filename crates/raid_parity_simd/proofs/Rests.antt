-- The sum of all roles but one and Q.
use Rattle.std.proofs.Common.{◌≡◌, ℕ, ◌<◌, inl, inr, Bool, true, false, cond, eqb, eq-eqb, ne_eqb, ◌||◌, refl, sym, ap, ◌∙◌}
use Rattle.std.proofs.lemmas.Bool.{cases_eq}
use Rattle.std.specs.Int.Bits.{bit_xor, xor_assoc, xor_self, xor_zero_r}
use Rattle.raid_parity.specs.raid_gf256_Field.{product}
use Rattle.raid_parity.proofs.raid_gf256_FieldLaws.{product-one_l, product-zero_l}
use Rattle.raid_parity.specs.raid_types_Search.{tabulate}
use Rattle.raid_parity.specs.raid_types_the_RowRoles.{RowRoles}
use Rattle.raid_parity.specs.Exponents.{is_q}
use Rattle.raid_parity.specs.Parity.{p_byte}
use Rattle.raid_parity.specs.Rows.{IsRowRoles, p_weight}
use Rattle.raid_parity.proofs.Totals.{total, total-same, total-put, put, put-same, put-other}
use Rattle.raid_parity.proofs.Columns.{p_rest}
use Rattle.raid_parity_simd.specs.Places.{plain_sum}
use Rattle.raid_parity_simd.proofs.PlaceSums.{plain_sum-total}

-- what is added twice is gone
pub xor_twice : (a b : ℕ) → bit_xor (bit_xor a b) b ≡ a
xor_twice a b = xor_assoc a b b ∙ ap (bit_xor a) (xor_self b) ∙ xor_zero_r a

-- the sum of all roles but one and Q
pub rest_of_others : (roles : RowRoles) → IsRowRoles roles → (m : ℕ) → m < roles.disks → is_q roles m ≡ false → (f : ℕ → ℕ)
    → plain_sum roles.disks (λ r. cond (eqb r m || is_q roles r) 0 (f r)) ≡ bit_xor (bit_xor (p_byte roles (tabulate roles.disks f)) (f roles.p)) (f m)
rest_of_others roles is m hm not_q f =
    let h : ℕ → ℕ = λ r. cond (eqb r m || is_q roles r) 0 (f r) in
    let weigh : ℕ → ℕ = λ r. product (p_weight roles r) (f r) in
    let nothing : h m ≡ 0 = ap (λ b. cond (b || is_q roles m) 0 (f m)) (eq-eqb m m refl) in
    let same : (r : ℕ) → r < roles.disks → weigh r ≡ put h m (f m) r = λ r _. elim (cases_eq r m) [
      | inl e ↦ rw e (ap (λ b. product (cond b 0 1) (f m)) not_q ∙ product-one_l (f m) ∙ sym (put-same h m (f m)))
      | inr ne ↦
          weighed_or_not (is_q roles r) (f r) ∙ sym (put-other h m (f m) r ne ∙ ap (λ b. cond (b || is_q roles r) 0 (f r)) (ne_eqb r m ne))
    ] in
    plain_sum-total roles.disks h
    ∙ sym (ap (λ x. bit_xor x (f m)) (p_rest roles is f ∙ total-same roles.disks weigh (put h m (f m)) same ∙ total-put roles.disks m (f m) h hm nothing)
    ∙ xor_twice (total roles.disks h) (f m))
  where
    weighed_or_not : (b : Bool) (x : ℕ) → product (cond b 0 1) x ≡ cond b 0 x
    weighed_or_not true x = product-zero_l x
    weighed_or_not false x = product-one_l x
