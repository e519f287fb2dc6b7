-- What the lacking roles of a row are filled with: nothing else fits, and a good row gets its own sectors back.
use Rattle.std.proofs.Common.{◌≡◌, ◌≢◌, inl, inr, ℕ, ◌<◌, ◌≤◌, Bool, true, false, cond, eqb-true, ◌&&◌, List, [], ◌∷◌, length, get_or, Option, Some, None, refl, sym, ap, ap₂, ◌∙◌, arith}
use Rattle.std.proofs.lemmas.Bool.{and_parts}
use Rattle.std.proofs.lemmas.List.{ext_get_or}
use Rattle.std.specs.Option.{option_map_or}
use Rattle.raid_types.specs.declared.places.RowRoles.{RowRoles}
use Rattle.raid_types.specs.Search.{tabulate}
use Rattle.raid_types.specs.Sectors.{Sector}
use Rattle.raid_types.proofs.Tabulated.{length-tabulate, get_or-tabulate}
use Rattle.raid_parity.specs.Exponents.{is_this_q, is_q}
use Rattle.raid_parity.specs.Parity.{Row, p_holds, q_holds, fits, filled, fill, lacking_in, column, AreEquationsMet}
use Rattle.raid_parity.specs.Rows.{IsRowRoles, IsSector, parity_count, row_without, whole_row, p_weight, q_weight}
use Rattle.raid_parity.proofs.Columns.{bool_cases, tabulate-same, p_holds-gives, p_holds-from, q_holds-gives, q_holds-from}
use Rattle.raid_parity.proofs.Filling.{filled_one, filled_two, det_pos, q_at_q}
use Rattle.raid_parity.proofs.Lacking.{lack_list, lack_list-none, lacking_in-row, Known, known, held, held-lacking, held-there, column-row}

pub q_from : (roles : RowRoles) (a : ℕ) → is_q roles a ≡ true → roles.q ≡ Some a
q_from roles a e = among roles.q e
  where
    among : (o : Option ℕ) → is_this_q o a ≡ true → o ≡ Some a
    among None e = absurd (cc)
    among (Some q) e = ap (λ x. Some x) (eqb-true q a e)

two_parities : (roles : RowRoles) → 2 ≤ parity_count roles → (q : ℕ) × (roles.q ≡ Some q)
two_parities roles le = among roles.q le
  where
    among : (o : Option ℕ) → 2 ≤ option_map_or (λ q. 2) o 1 → (q : ℕ) × (o ≡ Some q)
    among None le = absurd (omega arith)
    among (Some q) le = (q, refl)

parity_count-le : (roles : RowRoles) → parity_count roles ≤ 2
parity_count-le roles = among roles.q
  where
    among : (o : Option ℕ) → option_map_or (λ q. 2) o 1 ≤ 2
    among None = omega arith
    among (Some q) = omega arith

-- ---- one column

pub filled-none : (roles : RowRoles) (c : List ℕ) → filled roles [] c ≡ c
unfolding filled
filled-none roles c = refl

pub fits_q : (roles : RowRoles) (m : ℕ) (c : List ℕ) → is_q roles m ≡ true → fits roles (m ∷ []) c ≡ q_holds roles c
fits_q roles m c e = ap (λ b. cond b (q_holds roles c) (p_holds roles c)) e

pub fits_p : (roles : RowRoles) (m : ℕ) (c : List ℕ) → is_q roles m ≡ false → fits roles (m ∷ []) c ≡ p_holds roles c
fits_p roles m c e = ap (λ b. cond b (q_holds roles c) (p_holds roles c)) e

module _ (roles : RowRoles) (is : IsRowRoles roles) where
  -- A column that has the held bytes, and meets the equations that are used, is the only one.
  pub filled-unique : (lacks : ℕ → Bool) (g : ℕ → ℕ) → ((r : ℕ) → r < roles.disks → g r < 256)
      → length (lack_list lacks roles.disks) ≤ parity_count roles
      → fits roles (lack_list lacks roles.disks) (tabulate roles.disks g) ≡ true
      → filled roles (lack_list lacks roles.disks) (tabulate roles.disks (held lacks g)) ≡ tabulate roles.disks g
  filled-unique lacks g small few fit = by_list (lack_list lacks roles.disks) (known lacks roles.disks) few fit
    where
      by_list : (xs : List ℕ) → Known lacks roles.disks xs → length xs ≤ parity_count roles → fits roles xs (tabulate roles.disks g) ≡ true
          → filled roles xs (tabulate roles.disks (held lacks g)) ≡ tabulate roles.disks g
      by_list [] all few fit =
          filled-none roles (tabulate roles.disks (held lacks g)) ∙ tabulate-same roles.disks (held lacks g) g (λ r lt. held-there lacks g r (all r lt))
      by_list (a ∷ []) one few fit = elim (bool_cases (is_q roles a)) [
        | inl at_q ↦
            let has_q : roles.q ≡ Some a = q_from roles a at_q in
            filled_one roles roles.disks a (q_weight roles a) (held lacks g) g one.0 (held-lacking lacks g a one.1) (small a one.0)
            (λ r lt ne. sym (held-there lacks g r (one.2 r lt ne))) (q_at_q roles is a has_q)
            (λ h f. q_holds-gives roles is h a has_q (sym (fits_q roles a (tabulate roles.disks h) at_q) ∙ f))
            (λ h e. fits_q roles a (tabulate roles.disks h) at_q ∙ q_holds-from roles is h a has_q e)
            (q_holds-gives roles is g a has_q (sym (fits_q roles a (tabulate roles.disks g) at_q) ∙ fit))
        | inr not_q ↦
            filled_one roles roles.disks a (p_weight roles) (held lacks g) g one.0 (held-lacking lacks g a one.1) (small a one.0)
            (λ r lt ne. sym (held-there lacks g r (one.2 r lt ne))) (ap (λ b. cond b 0 1) not_q)
            (λ h f. p_holds-gives roles is h (sym (fits_p roles a (tabulate roles.disks h) not_q) ∙ f))
            (λ h e. fits_p roles a (tabulate roles.disks h) not_q ∙ p_holds-from roles is h e)
            (p_holds-gives roles is g (sym (fits_p roles a (tabulate roles.disks g) not_q) ∙ fit))
      ]
      by_list (a ∷ b ∷ []) two few fit =
          let q : (q : ℕ) × (roles.q ≡ Some q) = two_parities roles few in
          let both = and_parts (p_holds roles (tabulate roles.disks g)) (q_holds roles (tabulate roles.disks g)) fit in
          let below : a < roles.disks = omega (arith, two.0, two.1) in
          let differ : a ≢ b = λ e. omega (arith, two.0, e) in
          filled_two roles is q.0 q.1 a b (held lacks g) g below two.1 differ (det_pos roles is q.0 q.1 a b below two.1 differ)
          (held-lacking lacks g a two.2) (held-lacking lacks g b two.3) (small a below) (small b two.1)
          (λ r lt na nb. sym (held-there lacks g r (two.4 r lt na nb)))
          (p_holds-gives roles is g both.0) (q_holds-gives roles is g q.0 q.1 both.1)
      by_list (a ∷ b ∷ c ∷ more) three few fit = absurd (omega (arith, few, parity_count-le roles))

  -- where both equations hold, so do those that are used
  pub both_fit : (xs : List ℕ) (c : List ℕ) → p_holds roles c ≡ true → q_holds roles c ≡ true → fits roles xs c ≡ true
  both_fit [] c hp hq = refl
  both_fit (one ∷ []) c hp hq = ap₂ (λ x y. cond (is_q roles one) x y) hq hp ∙ same (is_q roles one)
    where
      same : (b : Bool) → cond b true true ≡ true
      same true = refl
      same false = refl
  both_fit (one ∷ two ∷ more) c hp hq = ap₂ (λ x y. x && y) hp hq

-- ---- a whole sector

-- a sector with these bytes is the fill
pub fill-is : (roles : RowRoles) (row : Row) (role : ℕ) (sector : Sector) → length sector ≡ 512
    → ((at : ℕ) → at < 512 → get_or (filled roles (lacking_in row) (column row at)) role 0 ≡ get_or sector at 0) → fill roles row role ≡ sector
unfolding fill
fill-is roles row role sector whole same =
    ext_get_or 0 (tabulate 512 (λ at. get_or (filled roles (lacking_in row) (column row at)) role 0)) sector
    (length-tabulate 512 (λ at. get_or (filled roles (lacking_in row) (column row at)) role 0) ∙ sym whole)
    (λ at lt.
    let below : at < 512 = omega (arith, lt, length-tabulate 512 (λ at. get_or (filled roles (lacking_in row) (column row at)) role 0)) in
    get_or-tabulate 512 (λ at. get_or (filled roles (lacking_in row) (column row at)) role 0) at 0 below ∙ same at below)

-- ---- rows that lack nothing

pub filled-whole : (roles : RowRoles) (n : ℕ) (sectors : ℕ → Sector) (at : ℕ) → at < 512
    → filled roles (lacking_in (whole_row n sectors)) (column (whole_row n sectors) at) ≡ tabulate n (λ r. get_or (sectors r) at 0)
filled-whole roles n sectors at lt =
    ap₂ (λ xs c. filled roles xs c) (lacking_in-row (λ r. false) n sectors ∙ lack_list-none n) (column-row (λ r. false) n sectors at lt)
    ∙ filled-none roles (tabulate n (held (λ r. false) (λ r. get_or (sectors r) at 0)))
    ∙ tabulate-same n (held (λ r. false) (λ r. get_or (sectors r) at 0)) (λ r. get_or (sectors r) at 0) (λ r l. held-there (λ k. false) (λ k. get_or (sectors k) at 0) r refl)

-- a row is good where each column meets both equations
pub whole-good : (roles : RowRoles) (n : ℕ) (sectors : ℕ → Sector)
    → ((at : ℕ) → at < 512 → p_holds roles (tabulate n (λ r. get_or (sectors r) at 0)) ≡ true)
    → ((at : ℕ) → at < 512 → q_holds roles (tabulate n (λ r. get_or (sectors r) at 0)) ≡ true)
    → AreEquationsMet roles (whole_row n sectors)
whole-good roles n sectors hp hq at lt =
    ap (λ c. p_holds roles c && q_holds roles c) (filled-whole roles n sectors at lt) ∙ ap₂ (λ x y. x && y) (hp at lt) (hq at lt)

-- ---- a good row of which tolerated roles lack

module _ (roles : RowRoles) (is : IsRowRoles roles) (sectors : ℕ → Sector) (whole : (r : ℕ) → r < roles.disks → IsSector (sectors r))
    (good : AreEquationsMet roles (whole_row roles.disks sectors)) (lacks : ℕ → Bool)
    (tolerated : length (lacking_in (row_without lacks roles.disks sectors)) ≤ parity_count roles) where
  abbrev n : ℕ
  n = roles.disks

  both_at : (at : ℕ) → at < 512 → (p_holds roles (tabulate n (λ r. get_or (sectors r) at 0)) ≡ true) × (q_holds roles (tabulate n (λ r. get_or (sectors r) at 0)) ≡ true)
  both_at at lt =
      let both : (p_holds roles (tabulate n (λ r. get_or (sectors r) at 0)) && q_holds roles (tabulate n (λ r. get_or (sectors r) at 0))) ≡ true =
      sym (ap (λ c. p_holds roles c && q_holds roles c) (filled-whole roles n sectors at lt)) ∙ good at lt in
      and_parts (p_holds roles (tabulate n (λ r. get_or (sectors r) at 0))) (q_holds roles (tabulate n (λ r. get_or (sectors r) at 0))) both

  -- each column gets its own bytes back
  pub filled-own : (at : ℕ) → at < 512
      → filled roles (lacking_in (row_without lacks n sectors)) (column (row_without lacks n sectors) at) ≡ tabulate n (λ r. get_or (sectors r) at 0)
  filled-own at lt =
      let both = both_at at lt in
      let few : length (lack_list lacks n) ≤ parity_count roles = omega (arith, tolerated, ap length (lacking_in-row lacks n sectors)) in
      ap₂ (λ xs c. filled roles xs c) (lacking_in-row lacks n sectors) (column-row lacks n sectors at lt)
      ∙ filled-unique roles is lacks (λ r. get_or (sectors r) at 0) (λ r l. (whole r l).bytes at) few
      (both_fit roles is (lack_list lacks n) (tabulate n (λ r. get_or (sectors r) at 0)) both.0 both.1)

  -- each role its own sector
  pub fill-own : (role : ℕ) → role < n → fill roles (row_without lacks n sectors) role ≡ sectors role
  fill-own role lt = fill-is roles (row_without lacks n sectors) role (sectors role) (whole role lt).whole (λ at l.
      ap (λ c. get_or c role 0) (filled-own at l) ∙ get_or-tabulate n (λ r. get_or (sectors r) at 0) role 0 lt)

  -- and the row is as good as before
  pub good-without : AreEquationsMet roles (row_without lacks n sectors)
  good-without at lt =
      let both = both_at at lt in
      ap (λ c. p_holds roles c && q_holds roles c) (filled-own at lt) ∙ ap₂ (λ x y. x && y) both.0 both.1
