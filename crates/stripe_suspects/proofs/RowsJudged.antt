-- From the differences that were computed to what is told of the row.
use Rattle.std.proofs.Common.{◌≡◌, ℕ, ◌+◌, ◌*◌, ◌<◌, inl, inr, true, eqb-true, ◌&&◌, List, get_or, Option, Some, None, IsSome, sym, ap, ap₂, ◌∙◌, arith}
use Rattle.std.proofs.lemmas.Bool.{and_parts, cases_lt}
use Rattle.std.proofs.lemmas.List.{get_or_past}
use Rattle.raid_parity.specs.raid_gf256_Field.{power_of_two}
use Rattle.raid_parity.specs.raid_types_the_RowRoles.{RowRoles}
use Rattle.raid_parity.specs.raid_types_Search.{tabulate}
use Rattle.raid_types.specs.Sectors.{Sector, IsSector}
use Rattle.raid_parity.proofs.raid_types_Tabulated.{get_or-tabulate}
use Rattle.raid_parity.specs.Exponents.{is_data, exponent}
use Rattle.raid_parity.specs.Parity.{p_byte, q_byte, p_holds, q_holds, q_holds_at}
use Rattle.raid_parity.specs.Rows.{IsRowRoles, IsRowOf, sector_of, byte_of}
use Rattle.raid_parity.proofs.Bytes.{sector_byte}
use Rattle.raid_parity.proofs.RowBytes.{sector_of-length}
use Rattle.raid_parity.proofs.Columns.{data_sum-agrees, p_rest, p_holds-gives, p_holds-from, q_of}
use Rattle.raid_parity.proofs.Contents.{filled-whole, whole-good}
use Rattle.stripe_suspects.specs.declared.judged.Judged.{Judged}
use Rattle.stripe_suspects.specs.declared.judged.Judged.TheVariants.{Good, Suspect, Unknown}
use Rattle.stripe_suspects.specs.Suspects.{IsGood, IsJudged}
use Rattle.stripe_suspects.specs.Rule.{column_of, p_difference, q_difference, explains, AreZero, IsFound}
use Rattle.stripe_suspects.proofs.Changing.{p_is, q_is, good-gives, good-from}
use Rattle.stripe_suspects.proofs.Exact.{found, only}

-- the sectors of a row of bytes
pub row-whole : (n : ℕ) (bytes : List ℕ) → IsRowOf n bytes → ((place : ℕ) → get_or bytes place 0 < 256) → (r : ℕ) → r < n → IsSector (sector_of bytes r)
row-whole n bytes row small r lt = record {
  whole = sector_of-length bytes n r row lt;
  bytes = λ at. elim (cases_lt at 512) [
    | inl below ↦ rw (sector_byte bytes r at below) (small (512 * r + at))
    | inr past ↦ let zero : get_or (sector_of bytes r) at 0 ≡ 0 = get_or_past (sector_of bytes r) at 0 (omega (arith, past, sector_of-length bytes n r row lt)) in omega (arith, zero)
  ];
}

-- ---- the parity that was set is that of the data

module _ (roles : RowRoles) (is : IsRowRoles roles) (old new : List ℕ) (good : IsGood roles (sector_of new))
    (data_same : (r : ℕ) → is_data roles r ≡ true → sector_of new r ≡ sector_of old r) (at : ℕ) (lt : at < 512) where
  abbrev column_new : List ℕ
  column_new = tabulate roles.disks (λ r. get_or (sector_of new r) at 0)

  both : (p_holds roles column_new ≡ true) × (q_holds roles column_new ≡ true)
  both = and_parts (p_holds roles column_new) (q_holds roles column_new)
      (sym (ap (λ c. p_holds roles c && q_holds roles c) (filled-whole roles roles.disks (sector_of new) at lt)) ∙ good at lt)

  pub p-set : byte_of new roles.p at ≡ p_byte roles (column_of roles (sector_of old) at)
  p-set =
      sym (sector_byte new roles.p at lt) ∙ sym (get_or-tabulate roles.disks (λ r. get_or (sector_of new r) at 0) roles.p 0 is.p)
      ∙ sym (eqb-true (p_byte roles column_new) (get_or column_new roles.p 0) both.0)
      ∙ data_sum-agrees (λ role. 1) roles roles.disks (λ r. get_or (sector_of new r) at 0) (λ r. get_or (sector_of old r) at 0) (λ r l d. ap (λ s. get_or s at 0) (data_same r d))

  pub q-set : (q : ℕ) → roles.q ≡ Some q → byte_of new q at ≡ q_byte roles q (column_of roles (sector_of old) at)
  q-set q has_q =
      let holds : q_holds_at roles column_new (Some q) ≡ true = ap (q_holds_at roles column_new) (sym has_q) ∙ both.1 in
      sym (sector_byte new q at lt) ∙ sym (get_or-tabulate roles.disks (λ r. get_or (sector_of new r) at 0) q 0 (q_of roles is q has_q).0)
      ∙ sym (eqb-true (q_byte roles q column_new) (get_or column_new q 0) holds)
      ∙ data_sum-agrees (λ role. power_of_two (exponent roles q role)) roles roles.disks (λ r. get_or (sector_of new r) at 0) (λ r. get_or (sector_of old r) at 0) (λ r l d. ap (λ s. get_or s at 0) (data_same r d))

-- ---- a row with a Q

module _ (roles : RowRoles) (is : IsRowRoles roles) (q : ℕ) (has_q : roles.q ≡ Some q) (sectors : ℕ → Sector)
    (whole : (r : ℕ) → r < roles.disks → IsSector (sectors r)) (e f : ℕ → ℕ)
    (e_is : (at : ℕ) → at < 512 → e at ≡ p_difference roles sectors at) (f_is : (at : ℕ) → at < 512 → f at ≡ q_difference roles q sectors at) where
  zero-good : AreZero e f → IsGood roles sectors
  zero-good zero = good-from roles is q has_q sectors (λ at lt.
      (sym (p_is roles is q has_q sectors at) ∙ sym (e_is at lt) ∙ (zero at lt).0, sym (q_is roles is q has_q sectors at) ∙ sym (f_is at lt) ∙ (zero at lt).1))

  good-zero : IsGood roles sectors → AreZero e f
  good-zero good at lt =
      let zeros = good-gives roles is q has_q sectors good at lt in
      (e_is at lt ∙ p_is roles is q has_q sectors at ∙ zeros.0, f_is at lt ∙ q_is roles is q has_q sectors at ∙ zeros.1)

  pub judged-from : (told : Judged) → IsFound roles q e f told → IsJudged roles sectors told
  judged-from Good zero = zero-good zero
  judged-from (Suspect role) (bad, below, explained) =
      found roles is q has_q sectors whole role below (λ good. bad (good-zero good))
      (λ at lt. ap₂ (λ x y. explains roles q role x y) (sym (e_is at lt)) (sym (f_is at lt)) ∙ explained at lt)
  judged-from Unknown (bad, none) = (
    (λ good. bad (good-zero good)),
    λ role suspect. none role suspect.below (λ at lt.
        ap₂ (λ x y. explains roles q role x y) (e_is at lt) (f_is at lt) ∙ only roles is q has_q sectors whole role suspect.below suspect at lt),
  )

-- ---- a row without one

module _ (roles : RowRoles) (is : IsRowRoles roles) (none : roles.q ≡ None) (sectors : ℕ → Sector) (e : ℕ → ℕ)
    (e_is : (at : ℕ) → at < 512 → e at ≡ p_difference roles sectors at) where
  pub good-alone : AreZero e e → IsGood roles sectors
  good-alone zero = whole-good roles roles.disks sectors
      (λ at lt. p_holds-from roles is (λ r. get_or (sectors r) at 0) (sym (p_rest roles is (λ r. get_or (sectors r) at 0)) ∙ sym (e_is at lt) ∙ (zero at lt).0))
      (λ at lt. ap (q_holds_at roles (tabulate roles.disks (λ r. get_or (sectors r) at 0))) none)

  pub zero-alone : IsGood roles sectors → AreZero e e
  zero-alone good at lt =
      let parts = and_parts (p_holds roles (tabulate roles.disks (λ r. get_or (sectors r) at 0))) (q_holds roles (tabulate roles.disks (λ r. get_or (sectors r) at 0)))
      (sym (ap (λ c. p_holds roles c && q_holds roles c) (filled-whole roles roles.disks sectors at lt)) ∙ good at lt) in
      let zero : e at ≡ 0 = e_is at lt ∙ p_rest roles is (λ r. get_or (sectors r) at 0) ∙ p_holds-gives roles is (λ r. get_or (sectors r) at 0) parts.0 in
      (zero, zero)

  no_q : IsSome roles.q → ⊥
  no_q some = among roles.q none some
    where
      among : (o : Option ℕ) → o ≡ None → IsSome o → ⊥
      among None e some = absurd (cc)
      among (Some q) e some = absurd (cc)

  pub unknown-alone : (AreZero e e → ⊥) → IsJudged roles sectors Unknown
  unknown-alone bad = ((λ good. bad (zero-alone good)), λ role suspect. no_q suspect.level)
