-- What a row's writing leaves.
use Rattle.std.proofs.Common.{◌≡◌, ℕ, ◌<◌, Bool, true, false, ◌||◌, List, [], ◌∷◌, ◌⊎◌, inl, inr, lit<, refl, sym, ◌∙◌, ap}
use Rattle.std.specs.Prelude.{Contains}
use Rattle.sb_safe_updates.specs.sb_specs_Reading.{Reading}
use Rattle.sb_safe_updates.specs.raid_types_the_Shape.{Shape}
use Rattle.sb_safe_updates.specs.raid_types_the_Place.{Place}
use Rattle.sb_safe_updates.specs.raid_types_Sectors.{Sector}
use Rattle.sb_safe_updates.specs.raid_types_Shapes.{has_slot, is_valid_shape}
use Rattle.sb_safe_updates.specs.raid_layout_Layout.{place, row_roles}
use Rattle.sb_safe_updates.specs.raid_parity_Rows.{sector_of}
use Rattle.sb_safe_updates.specs.stripe_row_Writes.{is_parity, is_due, new_sector}
use Rattle.sb_safe_updates.specs.stripe_list_Full.{full_sector}
use Rattle.sb_safe_updates.specs.stripe_list_Writing.{AreDataOf, MayHaveFull, IsPutting}
use Rattle.sb_safe_updates.proofs.stripe_list_FullLaws.{full-data, new-full, sector_there}
use Rattle.stripe_delayed_store.specs.Rows.{DifferWhereChanged, StoredRowsCanBeWritten}

both_false : (a b : Bool) → (a || b) ≡ false → (a ≡ false) × (b ≡ false)
both_false true b none = absurd (cc)
both_false false b none = (refl, none)

-- the new row is the list's
pub out-full : (shape : Shape) (row : ℕ) (bytes : List ℕ) (list : ℕ → Sector) → is_valid_shape shape ≡ true → AreDataOf shape list row (sector_of bytes)
    → (role : ℕ) → role < shape.disks → new_sector shape row bytes role ≡ full_sector shape list row role
out-full shape row bytes list valid own = new-full shape list row bytes valid (λ role x lt at. ap (λ (p : Place). sector_of bytes p.role) (sym at) ∙ own x (ap (λ (p : Place). p.row) at))

-- what isn't written has the same full sector by both lists
pub out-unwritten : (shape : Shape) (row changed : ℕ) (stored list : ℕ → Sector) → is_valid_shape shape ≡ true → DifferWhereChanged shape row changed stored list
    → (role : ℕ) → role < shape.disks → is_due shape row changed role ≡ false → full_sector shape stored row role ≡ full_sector shape list row role
out-unwritten shape row changed stored list valid differ role lt kept =
    let no = both_false (has_slot changed role) (is_parity (row_roles shape row) role) kept in
    let there : (x : ℕ) × (place shape x ≡ record { role = role; row = row }) = sector_there shape role row valid lt no.1 in
    full-data shape stored role row there.0 valid there.1
    ∙ differ there.0 (ap (λ (p : Place). p.row) there.1) (ap (λ (p : Place). has_slot changed p.role) there.1 ∙ no.0)
    ∙ sym (full-data shape list role row there.0 valid there.1)

pub can-be-written : StoredRowsCanBeWritten
can-be-written r c shape row changed bytes stored list valid stands own differ role slot lt kept held =
    let no = both_false (has_slot changed role) (is_parity (row_roles shape row) role) kept in
    let there : (x : ℕ) × (place shape x ≡ record { role = role; row = row }) = sector_there shape role row valid lt no.1 in
    ap (λ (p : Place). sector_of bytes p.role) (sym there.1) ∙ own there.0 (ap (λ (p : Place). p.row) there.1)
    ∙ sym (differ there.0 (ap (λ (p : Place). p.row) there.1) (ap (λ (p : Place). has_slot changed p.role) there.1 ∙ no.0))
    ∙ sym (full-data shape stored role row there.0 valid there.1)
    ∙ sym (stands role slot lt no.1 held)

-- a row alone is a list of one
pub one-row : (r : Reading) (shape : Shape) (list : ℕ → Sector) (row : ℕ) (d e : ℕ → ℕ → List Sector) → IsPutting r shape list (λ other. other ≡ row) d e → IsPutting r shape list (Contains (row ∷ [])) d e
one-row r shape list row d e put s k = at (put s k)
  where
    at : (e s k ≡ d s k) ⊎ MayHaveFull r shape list (λ other. other ≡ row) s k (d s k) (e s k) → (e s k ≡ d s k) ⊎ MayHaveFull r shape list (Contains (row ∷ [])) s k (d s k) (e s k)
    at (inl same) = inl same
    at (inr has) = inr (record { row = has.row; role = has.role; among = (0, lit< tt, sym has.among); within = has.within; held = has.held; place = has.place; values = has.values })
