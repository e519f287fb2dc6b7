-- The parity of a new row, and how few of a row's roles lack.
use Rattle.std.proofs.Common.{◌≡◌, ◌⊎◌, inl, inr, ℕ, ◌+◌, ◌*◌, ◌<◌, ◌≤◌, Bool, true, false, not, if◌then◌else◌, eqb, eq-eqb, List, [], ◌∷◌, length, get_or, Option, Some, None, refl, sym, ◌∙◌, ap, subst, arith}
use Rattle.std.specs.Option.{option_map_or}
use Rattle.std.proofs.lemmas.Bool.{cases_eq, cases_lt, not-true}
use Rattle.std.proofs.lemmas.List.{get_or_past}
use Rattle.raid_parity_simd.specs.raid_types_the_RowRoles.{RowRoles}
use Rattle.sb_specs.specs.raid_types_the_Shape.{Shape}
use Rattle.sb_specs.specs.raid_types_Sectors.{Sector}
use Rattle.sb_specs.specs.raid_layout_Layout.{row_roles}
use Rattle.raid_parity_simd.specs.raid_parity_Exponents.{is_data, is_q}
use Rattle.raid_parity_simd.specs.raid_parity_Parity.{Row, fill, lacking_in, AreEquationsMet}
use Rattle.raid_parity_simd.specs.raid_parity_Rows.{IsRowRoles, IsRowOf, IsSector, parity_count, row_without, whole_row, filled_sector, sector_of}
use Rattle.raid_parity_simd.proofs.raid_parity_Bytes.{sector_byte}
use Rattle.raid_parity_simd.proofs.raid_parity_Columns.{bool_cases, tabulate-same, data_else}
use Rattle.raid_parity_simd.proofs.raid_parity_Contents.{q_from}
use Rattle.raid_parity_simd.proofs.raid_parity_Lacking.{lack_list, lacking_in-row, Known, known}
use Rattle.raid_parity_simd.proofs.raid_parity_OwnFills.{fills-are-own}
use Rattle.raid_parity_simd.proofs.raid_parity_RowBytes.{sector_of-length}
use Rattle.sb_specs.specs.Reading.{Reading}
use Rattle.stripe_row.specs.Rows.{is_held, IsTolerated}
use Rattle.stripe_row.specs.Writes.{is_parity, new_sector, IsGoodRow}
use Rattle.stripe_row.proofs.Lacks.{has_q, no_third}

-- ---- how few roles lack

few_known : (lacks : ℕ → Bool) (n most : ℕ) (xs : List ℕ) → Known lacks n xs → 1 ≤ most
    → ((a b : ℕ) → a < b → b < n → lacks a ≡ true → lacks b ≡ true → 2 ≤ most)
    → ((a b c : ℕ) → a < b → b < c → c < n → lacks a ≡ true → lacks b ≡ true → lacks c ≡ true → ⊥) → length xs ≤ most
few_known lacks n most [] is one two three = omega arith
few_known lacks n most (a ∷ []) is one two three = one
few_known lacks n most (a ∷ b ∷ []) is one two three = two a b is.0 is.1 is.2 is.3
few_known lacks n most (a ∷ b ∷ c ∷ xs) is one two three = absurd (three a b c is.0 is.1 is.2 is.3 is.4 is.5)

few_lack : (lacks : ℕ → Bool) (n most : ℕ) (sectors : ℕ → Sector) → 1 ≤ most
    → ((a b : ℕ) → a < b → b < n → lacks a ≡ true → lacks b ≡ true → 2 ≤ most)
    → ((a b c : ℕ) → a < b → b < c → c < n → lacks a ≡ true → lacks b ≡ true → lacks c ≡ true → ⊥) → length (lacking_in (row_without lacks n sectors)) ≤ most
few_lack lacks n most sectors one two three =
    subst (λ (l : List ℕ). length l ≤ most) (sym (lacking_in-row lacks n sectors)) (few_known lacks n most (lack_list lacks n) (known lacks n) one two three)

one_parity : (o : Option ℕ) → 1 ≤ option_map_or (λ q. 2) o 1
one_parity None = omega arith
one_parity (Some q) = omega arith

two_parities : (roles : RowRoles) (q : ℕ) → roles.q ≡ Some q → 2 ≤ parity_count roles
two_parities roles q is = subst (λ (o : Option ℕ). 2 ≤ option_map_or (λ q. 2) o 1) (sym is) (omega arith)

-- a parity role is P or Q
parity_role : (roles : RowRoles) (role : ℕ) → is_parity roles role ≡ true → (role ≡ roles.p) ⊎ (roles.q ≡ Some role)
parity_role roles role is = elim (cases_eq role roles.p) [
  | inl same ↦ inl same
  | inr apart ↦ elim (bool_cases (is_q roles role)) [
    | inl here ↦ inr (q_from roles role here)
    | inr other ↦ absurd (let e = data_else roles role apart other in let e' = ap not e in cc)
  ]
]

same_q : (roles : RowRoles) (a b : ℕ) → roles.q ≡ Some a → roles.q ≡ Some b → a ≡ b
same_q roles a b one two = let e : ◌≡◌ {A = Option ℕ} (Some a) (Some b) = sym one ∙ two in cc

-- no more roles are parity than are counted
pub parity_few : (roles : RowRoles) (sectors : ℕ → Sector) → length (lacking_in (row_without (is_parity roles) roles.disks sectors)) ≤ parity_count roles
parity_few roles sectors = few_lack (is_parity roles) roles.disks (parity_count roles) sectors (one_parity roles.q)
    (λ a b lt below pa pb. two a b lt (parity_role roles a pa) (parity_role roles b pb))
    (λ a b c lt lt' below pa pb pc. three a b c lt lt' (parity_role roles a pa) (parity_role roles b pb) (parity_role roles c pc))
  where
    two : (a b : ℕ) → a < b → (a ≡ roles.p) ⊎ (roles.q ≡ Some a) → (b ≡ roles.p) ⊎ (roles.q ≡ Some b) → 2 ≤ parity_count roles
    two a b lt (inr q) other = two_parities roles a q
    two a b lt (inl p) (inr q) = two_parities roles b q
    two a b lt (inl p) (inl p') = absurd (omega (arith, lt, p, p'))

    three : (a b c : ℕ) → a < b → b < c → (a ≡ roles.p) ⊎ (roles.q ≡ Some a) → (b ≡ roles.p) ⊎ (roles.q ≡ Some b) → (c ≡ roles.p) ⊎ (roles.q ≡ Some c) → ⊥
    three a b c lt lt' (inl p) (inl p') last = omega (arith, lt, p, p')
    three a b c lt lt' (inl p) (inr q) (inl p') = omega (arith, lt, lt', p, p')
    three a b c lt lt' (inl p) (inr q) (inr q') = omega (arith, lt', same_q roles b c q q')
    three a b c lt lt' (inr q) (inl p) (inl p') = omega (arith, lt', p, p')
    three a b c lt lt' (inr q) (inl p) (inr q') = omega (arith, lt, lt', same_q roles a c q q')
    three a b c lt lt' (inr q) (inr q') last = omega (arith, lt, same_q roles a b q q')

-- at level 6 there are two
six_parities : (shape : Shape) (row : ℕ) → shape.level ≡ 6 → 2 ≤ parity_count (row_roles shape row)
six_parities shape row six = by_test (eqb shape.level 6) (eq-eqb shape.level 6 six) _
  where
    by_test : (b : Bool) → b ≡ true → (q : ℕ) → 2 ≤ option_map_or (λ q. 2) (if b then Some q else None) 1
    by_test true is q = omega arith
    by_test false is q = absurd (cc)

-- no more roles lack than there are parities, where no more are missing than the shape tolerates
pub lacking_few : (r : Reading) (shape : Shape) (row : ℕ) (sectors : ℕ → Sector) → row < r.newest.size → IsTolerated r shape
    → length (lacking_in (row_without (λ role. not (is_held r role row)) shape.disks sectors)) ≤ parity_count (row_roles shape row)
lacking_few r shape row sectors below few = few_lack (λ role. not (is_held r role row)) shape.disks (parity_count (row_roles shape row)) sectors (one_parity (row_roles shape row).q)
    (λ a b lt within la lb. six_parities shape row (has_q r shape row a b below few (omega (arith, lt)) within (not-true (is_held r a row) la) (not-true (is_held r b row) lb)))
    (λ a b c lt lt' within la lb lc.
    let held = no_third r shape row a b below few (omega (arith, lt)) (omega (arith, lt', within)) (not-true (is_held r a row) la) (not-true (is_held r b row) lb) c lt' within in
    let lacks = not-true (is_held r c row) lc in
    absurd (cc))

-- ---- sectors of bytes

pub whole_sector : (bytes : List ℕ) (n role : ℕ) → IsRowOf n bytes → ((place : ℕ) → get_or bytes place 0 < 256) → role < n → IsSector (sector_of bytes role)
whole_sector bytes n role whole small lt =
    let size = sector_of-length bytes n role whole lt in
    record {
      whole = size;
      bytes = λ at. elim (cases_lt at 512) [
        | inl below ↦ subst (λ (x : ℕ). x < 256) (sym (sector_byte bytes role at below)) (small (512 * role + at))
        | inr past ↦ subst (λ (x : ℕ). x < 256) (sym (get_or_past (sector_of bytes role) at 0 (omega (arith, size, past)))) (omega arith)
      ];
    }

-- ---- the parity that was set

one_of : (b : Bool) (x y : Sector) → (b ≡ false → x ≡ y) → ◌≡◌ {A = Option Sector} (if b then None else Some x) (if b then None else Some y)
one_of true x y same = refl
one_of false x y same = ap (λ s. Some s) (same refl)

chosen_sector : (b : Bool) (x f s : Sector) → (b ≡ true → x ≡ f) → (b ≡ false → x ≡ s) → x ≡ (if b then f else s)
chosen_sector true x f s met other = met refl
chosen_sector false x f s met other = other refl

data_of : (b : Bool) → not b ≡ false → b ≡ true
data_of true is = refl
data_of false is = absurd (cc)

module _ (roles : RowRoles) (valid : IsRowRoles roles) (old new : ℕ → Sector) (whole : (role : ℕ) → role < roles.disks → IsSector (new role))
    (good : AreEquationsMet roles (whole_row roles.disks new)) (same : (role : ℕ) → is_data roles role ≡ true → new role ≡ old role) where
  new_is : (role : ℕ) → role < roles.disks → new role ≡ filled_sector roles (is_parity roles) roles.disks old role
  new_is role lt = chosen_sector (is_parity roles role) (new role) (fill roles (row_without (is_parity roles) roles.disks old) role) (old role)
      (λ parity. sym (fills-are-own roles new (is_parity roles) role (record { valid = valid; whole = whole; good = good; tolerated = parity_few roles new }) lt)
      ∙ ap (λ (w : Row). fill roles w role) (tabulate-same roles.disks (λ r. if is_parity roles r then None else Some (new r)) (λ r. if is_parity roles r then None else Some (old r))
      (λ r l. one_of (is_parity roles r) (new r) (old r) (λ here. same r (data_of (is_data roles r) here)))))
      (λ here. same role (data_of (is_data roles role) here))

  new_good : IsGoodRow roles (filled_sector roles (is_parity roles) roles.disks old)
  new_good = record {
    valid = valid;
    whole = λ role lt. subst IsSector (new_is role lt) (whole role lt);
    good = subst (λ (w : Row). AreEquationsMet roles w)
        (tabulate-same roles.disks (λ r. Some (new r)) (λ r. Some (filled_sector roles (is_parity roles) roles.disks old r)) (λ r lt. ap (λ (s : Sector). Some s) (new_is r lt))) good;
  }

-- both, of the bytes of a row
pub record IsNewRow (shape : Shape) (row : ℕ) (old new : List ℕ) : Type 0 where
  pub sectors : (role : ℕ) → role < shape.disks → sector_of new role ≡ new_sector shape row old role
  pub good : IsGoodRow (row_roles shape row) (new_sector shape row old)

pub new_row : (shape : Shape) (row : ℕ) (roles : RowRoles) (old new : List ℕ) → roles ≡ row_roles shape row → IsRowRoles roles → IsRowOf shape.disks new → ((place : ℕ) → get_or new place 0 < 256)
    → AreEquationsMet roles (whole_row roles.disks (sector_of new)) → ((role : ℕ) → is_data roles role ≡ true → sector_of new role ≡ sector_of old role) → IsNewRow shape row old new
new_row shape row roles old new are valid size small good same =
    let valid' : IsRowRoles (row_roles shape row) = subst IsRowRoles are valid in
    let good' = subst (λ (rs : RowRoles). AreEquationsMet rs (whole_row rs.disks (sector_of new))) are good in
    let same' = subst (λ (rs : RowRoles). (role : ℕ) → is_data rs role ≡ true → sector_of new role ≡ sector_of old role) are same in
    let whole : (role : ℕ) → role < shape.disks → IsSector (sector_of new role) = λ role lt. whole_sector new shape.disks role size small lt in
    record {
      sectors = new_is (row_roles shape row) valid' (sector_of old) (sector_of new) whole good' same';
      good = new_good (row_roles shape row) valid' (sector_of old) (sector_of new) whole good' same';
    }
