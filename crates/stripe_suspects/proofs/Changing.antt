-- What another sector on one role does to the two equations of a row.
use Rattle.std.proofs.Common.{◌≡◌, ◌≢◌, inl, inr, ℕ, ◌<◌, true, cond, eq-eqb, ne_eqb, ◌&&◌, get_or, Some, refl, sym, ap, ◌∙◌}
use Rattle.std.proofs.lemmas.Bool.{cases_eq, and_parts}
use Rattle.std.specs.Int.Bits.{bit_xor, xor_assoc, xor_self, xor_zero_l, xor_zero_r}
use Rattle.raid_parity.specs.raid_gf256_Field.{product}
use Rattle.raid_parity.proofs.raid_gf256_FieldLaws.{product-add_r, product-lt}
use Rattle.raid_parity.specs.raid_types_the_RowRoles.{RowRoles}
use Rattle.raid_parity.specs.raid_types_Search.{tabulate}
use Rattle.raid_types.specs.Sectors.{Sector, IsSector}
use Rattle.raid_parity.specs.Parity.{p_holds, q_holds}
use Rattle.raid_parity.specs.Rows.{IsRowRoles, p_weight, q_weight}
use Rattle.raid_parity.proofs.Totals.{total-same, total-add, total-alone, total-lt, put, put-same, put-other}
use Rattle.raid_parity.proofs.Columns.{rest, p_rest, q_rest, p_holds-gives, p_holds-from, q_holds-gives, q_holds-from}
use Rattle.raid_parity.proofs.Contents.{filled-whole, whole-good}
use Rattle.stripe_suspects.specs.Suspects.{IsGood, with_sector}
use Rattle.stripe_suspects.specs.Rule.{p_difference, q_difference}

-- ---- one byte

-- a + (a + b) is b
pub xor_twice : (a b : ℕ) → bit_xor a (bit_xor a b) ≡ b
xor_twice a b = sym (xor_assoc a a b) ∙ ap (λ x. bit_xor x b) (xor_self a) ∙ xor_zero_l b

-- the sum over all roles changes by the change of the one
pub rest-changed : (n m : ℕ) (weight f g : ℕ → ℕ) → m < n → f m < 256 → g m < 256 → ((r : ℕ) → r < n → r ≢ m → g r ≡ f r)
    → rest n weight g ≡ bit_xor (rest n weight f) (product (weight m) (bit_xor (f m) (g m)))
rest-changed n m weight f g lt small_f small_g same =
    total-same n (λ r. product (weight r) (g r)) (λ r. bit_xor (product (weight r) (f r)) (put (λ k. 0) m change r)) (λ r l. elim (cases_eq r m) [
      | inl e ↦ rw e (sym (ap (bit_xor (product (weight m) (f m))) (put-same (λ k. 0) m change ∙ product-add_r (weight m) (f m) (g m) small_f small_g)
          ∙ xor_twice (product (weight m) (f m)) (product (weight m) (g m))))
      | inr ne ↦ ap (product (weight r)) (same r l ne) ∙ sym (ap (bit_xor (product (weight r) (f r))) (put-other (λ k. 0) m change r ne) ∙ xor_zero_r (product (weight r) (f r)))
    ])
    ∙ total-add n (λ r. product (weight r) (f r)) (put (λ k. 0) m change)
    ∙ ap (bit_xor (rest n weight f)) (total-alone n m (put (λ k. 0) m change) lt (λ r l ne. put-other (λ k. 0) m change r ne) ∙ put-same (λ k. 0) m change)
  where
    change : ℕ
    change = product (weight m) (bit_xor (f m) (g m))

-- ---- rows as sums

module _ (roles : RowRoles) (is : IsRowRoles roles) (q : ℕ) (has_q : roles.q ≡ Some q) where
  -- byte `at` of a role
  abbrev pub byte : (ℕ → Sector) → ℕ → ℕ → ℕ
  byte sectors at role = get_or (sectors role) at 0

  pub p_is : (sectors : ℕ → Sector) (at : ℕ) → p_difference roles sectors at ≡ rest roles.disks (p_weight roles) (byte sectors at)
  p_is sectors at = p_rest roles is (byte sectors at)

  pub q_is : (sectors : ℕ → Sector) (at : ℕ) → q_difference roles q sectors at ≡ rest roles.disks (q_weight roles q) (byte sectors at)
  q_is sectors at = q_rest roles is (byte sectors at) q has_q

  -- a row is good where both sums are zero
  pub good-gives : (sectors : ℕ → Sector) → IsGood roles sectors → (at : ℕ) → at < 512
      → (rest roles.disks (p_weight roles) (byte sectors at) ≡ 0) × (rest roles.disks (q_weight roles q) (byte sectors at) ≡ 0)
  good-gives sectors good at lt =
      let both : (p_holds roles (tabulate roles.disks (byte sectors at)) && q_holds roles (tabulate roles.disks (byte sectors at))) ≡ true =
      sym (ap (λ c. p_holds roles c && q_holds roles c) (filled-whole roles roles.disks sectors at lt)) ∙ good at lt in
      let parts = and_parts (p_holds roles (tabulate roles.disks (byte sectors at))) (q_holds roles (tabulate roles.disks (byte sectors at))) both in
      (p_holds-gives roles is (byte sectors at) parts.0, q_holds-gives roles is (byte sectors at) q has_q parts.1)

  pub good-from : (sectors : ℕ → Sector)
      → ((at : ℕ) → at < 512 → (rest roles.disks (p_weight roles) (byte sectors at) ≡ 0) × (rest roles.disks (q_weight roles q) (byte sectors at) ≡ 0))
      → IsGood roles sectors
  good-from sectors zero = whole-good roles roles.disks sectors
      (λ at lt. p_holds-from roles is (byte sectors at) (zero at lt).0) (λ at lt. q_holds-from roles is (byte sectors at) q has_q (zero at lt).1)

  pub rest-small : (weight : ℕ → ℕ) (sectors : ℕ → Sector) → ((r : ℕ) → r < roles.disks → IsSector (sectors r)) → (at : ℕ)
      → rest roles.disks weight (byte sectors at) < 256
  rest-small weight sectors whole at =
      total-lt roles.disks (λ r. product (weight r) (byte sectors at r)) (λ r lt. product-lt (weight r) (byte sectors at r) ((whole r lt).bytes at))

-- ---- the weights of a role

pub with-same : (sectors : ℕ → Sector) (role : ℕ) (sector : Sector) → with_sector sectors role sector role ≡ sector
with-same sectors role sector = ap (λ b. cond b sector (sectors role)) (eq-eqb role role refl)

pub with-other : (sectors : ℕ → Sector) (role : ℕ) (sector : Sector) (r : ℕ) → r ≢ role → with_sector sectors role sector r ≡ sectors r
with-other sectors role sector r ne = ap (λ b. cond b sector (sectors r)) (ne_eqb r role ne)
