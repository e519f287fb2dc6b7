-- The parity of new rows.
use Rattle.std.proofs.Common.{◌≡◌, ℕ, ◌+◌, ◌-◌, ◌*◌, ◌<◌, ◌≤◌, Bool, true, false, not, if◌then◌else◌, List, length, get_or, drop, Option, Some, None, inl, inr, refl, sym, ◌∙◌, ap, subst, arith}
use Rattle.std.proofs.lemmas.Bool.{cases_lt}
use Rattle.std.proofs.lemmas.List.{get_or_past, length-take, length-drop}
use Rattle.raid_layout.specs.raid_types_the_Shape.{Shape}
use Rattle.raid_layout.specs.raid_types_the_RowRoles.{RowRoles}
use Rattle.raid_layout.specs.raid_types_Sectors.{Sector}
use Rattle.raid_layout.specs.Layout.{row_roles}
use Rattle.stripe_row.specs.raid_parity_Exponents.{is_data}
use Rattle.stripe_row.specs.raid_parity_Parity.{Row, fill, AreEquationsMet}
use Rattle.stripe_row.specs.raid_parity_Rows.{IsRowRoles, IsSector, row_without, whole_row, filled_sector, sector_of}
use Rattle.raid_parity_simd.proofs.raid_parity_Bytes.{sector_byte}
use Rattle.stripe_row.proofs.raid_parity_Columns.{tabulate-same}
use Rattle.stripe_row.proofs.raid_parity_OwnFills.{fills-are-own}
use Rattle.stripe_row.specs.Writes.{is_parity, IsGoodRow}
use Rattle.stripe_row.proofs.NewRow.{parity_few}
use Rattle.stripe_runs.specs.Writing.{new_sector_of}

-- a sector of bytes
pub whole_in : (bytes : List ℕ) (k : ℕ) → 512 * k + 512 ≤ length bytes → ((place : ℕ) → get_or bytes place 0 < 256) → IsSector (sector_of bytes k)
whole_in bytes k within small =
    let size : length (sector_of bytes k) ≡ 512 = length-take (512 * k + 512 - 512 * k) (drop (512 * k) bytes) ∙ omega (arith, length-drop (512 * k) bytes, within) in
    record {
      whole = size;
      bytes = λ at. elim (cases_lt at 512) [
        | inl below ↦ subst (λ (x : ℕ). x < 256) (sym (sector_byte bytes k at below)) (small (512 * k + at))
        | inr past ↦ subst (λ (x : ℕ). x < 256) (sym (get_or_past (sector_of bytes k) at 0 (omega (arith, size, past)))) (omega arith)
      ];
    }

one_of : (b : Bool) (x y : Sector) → (b ≡ false → x ≡ y) → ◌≡◌ {A = Option Sector} (if b then None else Some x) (if b then None else Some y)
one_of true x y same = refl
one_of false x y same = ap (λ s. Some s) (same refl)

chosen_sector : (b : Bool) (x f s : Sector) → (b ≡ true → x ≡ f) → (b ≡ false → x ≡ s) → x ≡ (if b then f else s)
chosen_sector true x f s met other = met refl
chosen_sector false x f s met other = other refl

data_of : (b : Bool) → not b ≡ false → b ≡ true
data_of true is = refl
data_of false is = absurd (cc)

-- rows with the same data whose equations hold are the new ones
module _ (roles : RowRoles) (valid : IsRowRoles roles) (old new : ℕ → Sector) (whole : (role : ℕ) → role < roles.disks → IsSector (new role))
    (good : AreEquationsMet roles (whole_row roles.disks new)) (same : (role : ℕ) → is_data roles role ≡ true → new role ≡ old role) where
  new_is : (role : ℕ) → role < roles.disks → new role ≡ filled_sector roles (is_parity roles) roles.disks old role
  new_is role lt = chosen_sector (is_parity roles role) (new role) (fill roles (row_without (is_parity roles) roles.disks old) role) (old role)
      (λ parity. sym (fills-are-own roles new (is_parity roles) role (record { valid = valid; whole = whole; good = good; tolerated = parity_few roles new }) lt)
      ∙ ap (λ (w : Row). fill roles w role) (tabulate-same roles.disks (λ r. if is_parity roles r then None else Some (new r)) (λ r. if is_parity roles r then None else Some (old r))
      (λ r l. one_of (is_parity roles r) (new r) (old r) (λ here. same r (data_of (is_data roles r) here)))))
      (λ here. same role (data_of (is_data roles role) here))

  new_good : IsGoodRow roles (filled_sector roles (is_parity roles) roles.disks old)
  new_good = record {
    valid = valid;
    whole = λ role lt. subst IsSector (new_is role lt) (whole role lt);
    good = subst (λ (w : Row). AreEquationsMet roles w)
        (tabulate-same roles.disks (λ r. Some (new r)) (λ r. Some (filled_sector roles (is_parity roles) roles.disks old r)) (λ r lt. ap (λ (s : Sector). Some s) (new_is r lt))) good;
  }

pub record IsNewRow (shape : Shape) (row : ℕ) (old new : ℕ → Sector) : Type 0 where
  pub sectors : (role : ℕ) → role < shape.disks → new role ≡ new_sector_of shape row old role
  pub good : IsGoodRow (row_roles shape row) (new_sector_of shape row old)

pub new_row : (shape : Shape) (row : ℕ) (roles : RowRoles) (old new : ℕ → Sector) → roles ≡ row_roles shape row → IsRowRoles roles → ((role : ℕ) → role < shape.disks → IsSector (new role))
    → AreEquationsMet roles (whole_row roles.disks new) → ((role : ℕ) → is_data roles role ≡ true → new role ≡ old role) → IsNewRow shape row old new
new_row shape row roles old new are valid whole good same =
    let valid' : IsRowRoles (row_roles shape row) = subst IsRowRoles are valid in
    let good' = subst (λ (rs : RowRoles). AreEquationsMet rs (whole_row rs.disks new)) are good in
    let same' = subst (λ (rs : RowRoles). (role : ℕ) → is_data rs role ≡ true → new role ≡ old role) are same in
    record {
      sectors = new_is (row_roles shape row) valid' old new whole good' same';
      good = new_good (row_roles shape row) valid' old new whole good' same';
    }
