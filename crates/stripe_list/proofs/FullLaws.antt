-- The full sectors of a row: where they are the list's, and what they give of a row that stands.
use Rattle.std.proofs.Common.{◌≡◌, ◌≢◌, inl, inr, ℕ, ◌+◌, ◌*◌, ◌/◌, ◌%◌, ◌<◌, ◌==◌, Bool, true, false, not, ◌&&◌, if◌then◌else◌, eq-eqb, eqb-true, List, Option, Some, None, unwrap_or, refl, sym, ap, ap₂, ◌∙◌, subst, arith}
use Rattle.std.specs.Prelude.{IfSome}
use Rattle.std.proofs.lemmas.Bool.Decides.{nat_tests}
use Rattle.std.proofs.lemmas.Nat.{mod_below, mod-mul-add}
use Rattle.raid_layout.specs.raid_types_the_Shape.{Shape}
use Rattle.raid_layout.specs.raid_types_the_Place.{Place}
use Rattle.raid_layout.specs.raid_types_the_RowRoles.{RowRoles}
use Rattle.raid_layout.specs.raid_types_Search.{least_below}
use Rattle.raid_layout.specs.raid_types_Sectors.{Sector}
use Rattle.raid_layout.specs.raid_types_Shapes.{is_valid_shape, data_disks}
use Rattle.raid_layout.proofs.raid_types_Least.{least_below-only}
use Rattle.stripe_row.specs.bank_Tape.{Contents}
use Rattle.raid_layout.specs.Layout.{place, row_roles, stripe_of, stripe_data, data_index, IsParity}
use Rattle.raid_layout.proofs.Limits.{limited}
use Rattle.raid_layout.proofs.Places.{chunk_some, data_index-below, sector_at-parts, stripe_of-row, place-apart, parity-or_sector, row_roles-p_below, row_roles-q_apart}
use Rattle.raid_layout.proofs.Stripes.{stripe_data-only}
use Rattle.stripe_row.specs.raid_parity_Exponents.{is_data, is_this_q}
use Rattle.stripe_row.specs.raid_parity_Parity.{fill}
use Rattle.stripe_row.specs.raid_parity_Fills.{IsGoodBut}
use Rattle.stripe_row.specs.raid_parity_Rows.{IsRowRoles, IsSector, row_without, sector_of}
use Rattle.stripe_row.proofs.raid_parity_Columns.{bool_cases, data_at_p, data_at_q, q_at}
use Rattle.stripe_row.proofs.raid_parity_OwnFills.{fills-are-own}
use Rattle.stripe_row.specs.sb_specs_the_Members.{Members}
use Rattle.stripe_row.specs.sb_specs_Reading.{Reading, data_offset_of}
use Rattle.stripe_row.specs.Rows.{reading_of, is_held, held_slot, members_without}
use Rattle.stripe_row.specs.Writes.{is_parity, new_sector, IsGoodRow}
use Rattle.stripe_row.proofs.Losses.{held_slot-after, all_stand}
use Rattle.stripe_row.proofs.NewRow.{lacking_few}
use Rattle.stripe_list.specs.Full.{listed_at, full_sector, AreWholeIn, DataStands, ParityStands, RowStands}
use Rattle.stripe_list.specs.Laws.{PlacesAreFull, StandingIsFull, LosingKeeps, KeptRowsStand}
use Rattle.stripe_list.proofs.Parities.{filled-good, filled-same}

-- ---- which roles are parity

data_by : (p : ℕ) (q : Option ℕ) (role : ℕ) → role ≢ p → q ≢ Some role → (not (role == p) && not (is_this_q q role)) ≡ true
data_by p None role not_p not_q = grind (arith, nat_tests, not_p)
data_by p (Some q) role not_p not_q = let ne : q ≢ role = λ e. not_q (ap (λ (r : ℕ). Some r) e) in grind (arith, nat_tests, not_p, ne)

-- a role on which a sector of the list stands has data
pub data_here : (shape : Shape) (role row x : ℕ) → is_valid_shape shape ≡ true → place shape x ≡ record { role = role; row = row } → is_parity (row_roles shape row) role ≡ false
data_here shape role row x valid placed = ap not (data_by (row_roles shape row).p (row_roles shape row).q role
    (λ e. place-apart shape valid role row (inl e) x placed) (λ e. place-apart shape valid role row (inr e) x placed))

parity_there : (roles : RowRoles) (role : ℕ) → IsParity roles role → is_parity roles role ≡ true
parity_there roles role (inl p) = ap not (ap (is_data roles) p ∙ data_at_p roles)
parity_there roles role (inr q) = ap not (data_at_q roles role (q_at roles role q))

-- a role without parity in the row has a sector of the list there
pub sector_there : (shape : Shape) (role row : ℕ) → is_valid_shape shape ≡ true → role < shape.disks → is_parity (row_roles shape row) role ≡ false
    → (x : ℕ) × (place shape x ≡ record { role = role; row = row })
sector_there shape role row valid lt here = elim (parity-or_sector shape valid role row lt) [
  | inl parity ↦ absurd (let e = parity_there (row_roles shape row) role parity in cc)
  | inr found ↦ found
]

pub row_roles-valid : (shape : Shape) (row : ℕ) → is_valid_shape shape ≡ true → IsRowRoles (row_roles shape row)
row_roles-valid shape row valid = record {
  most = (limited shape valid).most;
  p = row_roles-p_below shape valid row;
  q = at_q (row_roles shape row).q refl;
}
  where
    at_q : (o : Option ℕ) → (row_roles shape row).q ≡ o → IfSome o (λ q. (q < shape.disks) × (q ≢ (row_roles shape row).p))
    at_q None has = tt
    at_q (Some q) has = row_roles-q_apart shape valid row q has

-- ---- the sector of the list at a place

listed-own : (shape : Shape) (x : ℕ) → is_valid_shape shape ≡ true → listed_at shape (place shape x).row (place shape x).role ≡ x
listed-own shape x valid =
    let role = (place shape x).role in
    let stripe : (place shape x).row / shape.chunk ≡ stripe_of shape x = stripe_of-row shape valid x in
    let rest : (place shape x).row % shape.chunk ≡ x % shape.chunk = mod-mul-add (stripe_of shape x) shape.chunk (x % shape.chunk) (mod_below x shape.chunk (chunk_some shape valid)) in
    let found : least_below (data_disks shape) (λ i. stripe_data shape (stripe_of shape x) i == role) ≡ Some (data_index shape x) =
    least_below-only (data_disks shape) (λ i. stripe_data shape (stripe_of shape x) i == role) (data_index shape x) (data_index-below shape valid x) (eq-eqb role role refl)
    (λ j lt passes. stripe_data-only shape valid (stripe_of shape x) j (data_index shape x) lt (data_index-below shape valid x) (eqb-true (stripe_data shape (stripe_of shape x) j) role passes)) in
    ap₂ (λ (s o : ℕ). (s * data_disks shape + unwrap_or (least_below (data_disks shape) (λ i. stripe_data shape s i == role)) 0) * shape.chunk + o) stripe rest
    ∙ ap (λ (i : Option ℕ). (stripe_of shape x * data_disks shape + unwrap_or i 0) * shape.chunk + x % shape.chunk) found
    ∙ sector_at-parts shape x

pub listed-is : (shape : Shape) (role row x : ℕ) → is_valid_shape shape ≡ true → place shape x ≡ record { role = role; row = row } → listed_at shape row role ≡ x
listed-is shape role row x valid at = ap (λ (p : Place). listed_at shape p.row p.role) (sym at) ∙ listed-own shape x valid

-- the full sector of a data role
pub full-data : (shape : Shape) (list : ℕ → Sector) (role row x : ℕ) → is_valid_shape shape ≡ true → place shape x ≡ record { role = role; row = row } → full_sector shape list row role ≡ list x
full-data shape list role row x valid at =
    let roles = row_roles shape row in
    ap (λ (b : Bool). if b then fill roles (row_without (is_parity roles) shape.disks (λ r. list (listed_at shape row r))) role else list (listed_at shape row role)) (data_here shape role row x valid at)
    ∙ ap list (listed-is shape role row x valid at)

pub places-are-full : PlacesAreFull
places-are-full shape list x valid = full-data shape list (place shape x).role (place shape x).row x valid refl

-- ---- the full row

pub full-good : (shape : Shape) (list : ℕ → Sector) (row : ℕ) → is_valid_shape shape ≡ true → AreWholeIn shape list row → IsGoodRow (row_roles shape row) (full_sector shape list row)
full-good shape list row valid whole = filled-good (row_roles shape row) (row_roles-valid shape row valid) (λ r. list (listed_at shape row r)) (λ r lt here.
    let found = sector_there shape r row valid lt (ap not here) in
    subst IsSector (ap list (sym (listed-is shape r row found.0 valid found.1))) (whole found.0 (ap (λ (p : Place). p.row) found.1)))

-- a row of bytes that has the list's data is the full row
pub new-full : (shape : Shape) (list : ℕ → Sector) (row : ℕ) (bytes : List ℕ) → is_valid_shape shape ≡ true
    → ((role x : ℕ) → role < shape.disks → place shape x ≡ record { role = role; row = row } → sector_of bytes role ≡ list x)
    → (role : ℕ) → role < shape.disks → new_sector shape row bytes role ≡ full_sector shape list row role
new-full shape list row bytes valid same = filled-same (row_roles shape row) shape.disks (sector_of bytes) (λ r. list (listed_at shape row r)) (λ r lt here.
    let found = sector_there shape r row valid lt here in
    same r found.0 lt found.1 ∙ ap list (sym (listed-is shape r row found.0 valid found.1)))

-- ---- what stands

-- each sector that is held is the full one
pub held-full : {r : Reading} {c : Contents} {shape : Shape} {list : ℕ → Sector} {row : ℕ} → RowStands r c shape list row
    → (role slot : ℕ) → role < shape.disks → held_slot r role row ≡ Some slot → full_sector shape list row role ≡ c slot (data_offset_of r slot + row)
held-full {shape = shape} {row = row} stands role slot lt held = elim (bool_cases (is_parity (row_roles shape row) role)) [
  | inl parity ↦ sym (stands.parity role slot lt parity held)
  | inr here ↦ sym (stands.sectors role slot lt here held)
]

pub standing-is-full : StandingIsFull
standing-is-full r c shape list row valid below few stands role lt =
    let full = full-good shape list row valid stands.whole in
    let but : IsGoodBut (row_roles shape row) (full_sector shape list row) (λ role. not (is_held r role row)) =
    record { valid = full.valid; whole = full.whole; good = full.good; tolerated = lacking_few r shape row (full_sector shape list row) below few } in
    sym (all_stand c r shape row (full_sector shape list row) (full_sector shape list row) (held-full stands) (λ other l held. refl)
    (λ other l lacks. sym (fills-are-own (row_roles shape row) (full_sector shape list row) (λ role. not (is_held r role row)) other but l)) role lt)

-- ---- losses

pub data-kept : (members : Members) (lost : ℕ) (c : Contents) (shape : Shape) (list : ℕ → Sector) (row : ℕ) → DataStands (reading_of members) c shape list row
    → DataStands (reading_of (members_without lost members)) c shape list row
data-kept members lost c shape list row stands role slot lt here held = stands role slot lt here (held_slot-after members lost role row slot held).0

pub parity-kept : (members : Members) (lost : ℕ) (c : Contents) (shape : Shape) (list : ℕ → Sector) (row : ℕ) → ParityStands (reading_of members) c shape list row
    → ParityStands (reading_of (members_without lost members)) c shape list row
parity-kept members lost c shape list row stands role slot lt here held = stands role slot lt here (held_slot-after members lost role row slot held).0

pub losing-keeps : LosingKeeps
losing-keeps members lost c shape list row = (data-kept members lost c shape list row, parity-kept members lost c shape list row)

-- lists with the same sectors in a row have the same full row
pub full-same : (shape : Shape) (list list' : ℕ → Sector) (row : ℕ) → is_valid_shape shape ≡ true → ((x : ℕ) → (place shape x).row ≡ row → list' x ≡ list x)
    → (role : ℕ) → role < shape.disks → full_sector shape list row role ≡ full_sector shape list' row role
full-same shape list list' row valid same = filled-same (row_roles shape row) shape.disks (λ r. list (listed_at shape row r)) (λ r. list' (listed_at shape row r)) (λ r lt here.
    let found = sector_there shape r row valid lt here in
    ap list (listed-is shape r row found.0 valid found.1) ∙ sym (same found.0 (ap (λ (p : Place). p.row) found.1)) ∙ ap list' (sym (listed-is shape r row found.0 valid found.1)))

pub kept-rows-stand : KeptRowsStand
kept-rows-stand members lost before after shape list list' row valid kept same = (
  λ stands role slot lt here held. kept slot ∙ stands role slot lt here (held_slot-after members lost role row slot held).0 ∙ full-same shape list list' row valid same role lt,
  λ stands role slot lt here held. kept slot ∙ stands role slot lt here (held_slot-after members lost role row slot held).0 ∙ full-same shape list list' row valid same role lt,
)
