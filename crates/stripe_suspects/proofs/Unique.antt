-- A bad row has one suspect at most: with both sectors taken away, what makes the row good again is one row alone.
use Rattle.std.proofs.Common.{◌≡◌, ◌≢◌, inl, inr, ℕ, ◌<◌, Bool, true, false, eqb, eq-eqb, ◌||◌, length, Option, Some, None, IsSome, IsFalse, refl, sym, ap, ◌∙◌, arith}
use Rattle.std.proofs.lemmas.Bool.{cases_eq}
use Rattle.std.specs.Option.{option_map_or}
use Rattle.raid_parity.specs.raid_types_the_RowRoles.{RowRoles}
use Rattle.raid_types.specs.Sectors.{Sector, IsSector}
use Rattle.raid_parity.specs.Parity.{lacking_in}
use Rattle.raid_parity.specs.Rows.{parity_count, row_without, whole_row}
use Rattle.raid_parity.specs.Fills.{IsGoodBut}
use Rattle.raid_parity.proofs.Columns.{tabulate-same}
use Rattle.raid_parity.proofs.Lacking.{lacking_in-row, lack_list-two}
use Rattle.raid_parity.proofs.OwnFills.{fills-are-unique}
use Rattle.stripe_suspects.specs.Suspects.{IsGood, IsSuspect, with_sector}
use Rattle.stripe_suspects.specs.Rule.{SuspectsAreUnique}
use Rattle.stripe_suspects.proofs.Changing.{with-same, with-other}

two_parities : (roles : RowRoles) → IsSome roles.q → parity_count roles ≡ 2
two_parities roles some = among roles.q some
  where
    among : (o : Option ℕ) → IsSome o → ◌≡◌ {A = ℕ} (option_map_or (λ q. 2) o 1) 2
    among None some = absurd (cc)
    among (Some q) some = refl

lacks : ℕ → ℕ → ℕ → Bool
lacks one two r = eqb r one || eqb r two

two_lack : (one two n : ℕ) (sectors : ℕ → Sector) → one < n → two < n → one ≢ two
    → length (lacking_in (row_without (λ r. eqb r one || eqb r two) n sectors)) ≡ 2
two_lack one two n sectors ho ht ne =
    ap length (lacking_in-row (λ r. eqb r one || eqb r two) n sectors)
    ∙ elim (lack_list-two one two n ho ht ne) [ inl e ↦ ap length e | inr e ↦ ap length e ]

not_either : (a b : Bool) → (a || b) ≡ false → (a ≡ false) × (b ≡ false)
not_either false false e = (refl, refl)
not_either false true e = absurd (cc)
not_either true b e = absurd (cc)

from_ne : (r m : ℕ) → eqb r m ≡ false → r ≢ m
from_ne r m e same = let true_too : eqb r m ≡ true = eq-eqb r m same in absurd (cc)

with_whole : (n : ℕ) (sectors : ℕ → Sector) (m : ℕ) (sector : Sector) → ((r : ℕ) → r < n → IsSector (sectors r)) → IsSector sector
    → (r : ℕ) → r < n → IsSector (with_sector sectors m sector r)
with_whole n sectors m sector whole own r lt = elim (cases_eq r m) [
  | inl e ↦ rw (ap (with_sector sectors m sector) e ∙ with-same sectors m sector) own
  | inr ne ↦ rw (with-other sectors m sector r ne) (whole r lt)
]

pub suspects-are-unique : SuspectsAreUnique
suspects-are-unique roles sectors one two is whole first second = elim (cases_eq one two) [
  | inl e ↦ e
  | inr ne ↦ absurd (first.bad (good ne))
]
  where
    n : ℕ
    n = roles.disks

    some_lacks : ℕ → Bool
    some_lacks r = eqb r one || eqb r two

    but : one ≢ two → (m : ℕ) (suspect : IsSuspect roles sectors m) → IsGoodBut roles (with_sector sectors m suspect.contents) (λ r. eqb r one || eqb r two)
    but ne m suspect = record {
      valid = is;
      whole = with_whole roles.disks sectors m suspect.contents whole suspect.whole;
      good = suspect.mends;
      tolerated = let count = two_parities roles first.level in
          let lack = two_lack one two roles.disks (with_sector sectors m suspect.contents) first.below second.below ne in
          omega (arith, count, lack);
    }

    agree : (r : ℕ) → r < roles.disks → IsFalse (eqb r one || eqb r two) → with_sector sectors one first.contents r ≡ with_sector sectors two second.contents r
    agree r lt there =
        let neither = not_either (eqb r one) (eqb r two) there in
        with-other sectors one first.contents r (from_ne r one neither.0) ∙ sym (with-other sectors two second.contents r (from_ne r two neither.1))

    own : one ≢ two → first.contents ≡ sectors one
    own ne =
        sym (with-same sectors one first.contents)
        ∙ fills-are-unique roles (with_sector sectors one first.contents) (with_sector sectors two second.contents) (λ r. eqb r one || eqb r two)
        (but ne one first) (but ne two second) agree one first.below
        ∙ with-other sectors two second.contents one ne

    same : one ≢ two → (r : ℕ) → with_sector sectors one first.contents r ≡ sectors r
    same ne r = elim (cases_eq r one) [
      | inl e ↦ ap (with_sector sectors one first.contents) e ∙ with-same sectors one first.contents ∙ own ne ∙ ap sectors (sym e)
      | inr other ↦ with-other sectors one first.contents r other
    ]

    good : one ≢ two → IsGood roles sectors
    good ne =
        let row : whole_row roles.disks (with_sector sectors one first.contents) ≡ whole_row roles.disks sectors =
        tabulate-same roles.disks (λ r. Some (with_sector sectors one first.contents r)) (λ r. Some (sectors r)) (λ r lt. ap (λ s. Some s) (same ne r)) in
        rw (sym row) first.mends
