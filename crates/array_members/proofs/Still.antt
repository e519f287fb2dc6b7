-- Members of one shape by the definitions for one shape or two: they are placed, and the list and its rows lie alike.
use Rattle.std.proofs.Common.{◌≡◌, ◌⊎◌, inl, inr, ℕ, ◌+◌, ◌<◌, ◌||◌, max, Bool, true, false, not, cond, ◌/◌, ◌%◌, List, [], ◌∷◌, Option, Some, None, refl, sym, ◌∙◌, ap, subst, arith}
use Rattle.std.proofs.lemmas.Bool.Decides.{nat_tests}
use Rattle.std.proofs.lemmas.Nat.{mod_below}
use Rattle.std.proofs.Math.Nat.{div-add-mod'}
use Rattle.crash_role_laws.specs.raid_types_Sectors.{Sector}
use Rattle.crash_role_laws.specs.raid_types_the_Shape.{Shape}
use Rattle.crash_role_laws.specs.raid_types_the_Place.{Place}
use Rattle.crash_role_laws.specs.raid_types_the_Span.{Span}
use Rattle.crash_role_laws.specs.raid_types_the_Refusal_TheVariants.{BackupAbsent}
use Rattle.crash_role_laws.specs.bank_Given.{Given}
use Rattle.crash_role_laws.specs.bank_Tape.{Contents, IsIn, IsDrawn, disk}
use Rattle.crash_role_laws.specs.sb_codec_the_Sb.{Sb}
use Rattle.crash_role_laws.specs.raid_layout_Layout.{place}
use Rattle.crash_role_laws.proofs.raid_layout_Places.{chunk_some, data_some, place-sector, place-sector_below, place-row_below, sector_at}
use Rattle.crash_role_laws.specs.reshape_geometry_Geometry.{window}
use Rattle.crash_role_laws.specs.sb_specs_the_Members.{Members}
use Rattle.crash_role_laws.specs.sb_specs_Reading.{Scope, is_reshaping, is_backward, shape_of, final_shape, role_count, list_length, next_window, role_state, holder, data_offset_of}
use Rattle.crash_role_laws.proofs.sb_read_laws_SaidSlots.{role-known}
use Rattle.crash_role_laws.specs.stripe_row_Rows.{reading_of, present, held_slot, is_missing, IsTolerated}
use Rattle.crash_role_laws.proofs.stripe_row_Losses.{holder-of}
use Rattle.crash_role_laws.specs.stripe_list_Full.{RowStands}
use Rattle.crash_role_laws.specs.history_Stands.{has_room, backup_absent, covers, reach_of}
use Rattle.crash_role_laws.specs.history_ActiveSection.{section_for}
use Rattle.crash_role_laws.specs.crash_views_Regions.{backup_of, header_in, open_by, place_by, ArePlaced, DoWithout}
use Rattle.crash_role_laws.specs.crash_views_Views.{Disk, Ledger, IsTail, IsTailZero, IsOutside, IsSettled}
use Rattle.crash_role_laws.specs.crash_views_Windows.{IsOfRegion}
use Rattle.crash_role_laws.proofs.crash_views_Stands.{for-still, final-still, list-still}
use Rattle.crash_role_laws.specs.crash_safety_laws_Held.{IsHeldBy}
use Rattle.crash_role_laws.specs.crash_safety_laws_Steady.{IsMoreTold, AreGoneTold}
use Rattle.crash_role_laws.proofs.crash_safety_laws_Stretch.{seen-own}
use Rattle.array_members.specs.Whole.{list_size}
use Rattle.array_members.specs.Placed.{places_of, IsPlaced}
use Rattle.array_members.specs.Lacking.{DoesWithout}
use Rattle.array_members.specs.Still.{HeldIsPlaced, FlushedIsSettled}
use Rattle.array_members.proofs.Fit.{valid, multiple}

-- nothing more is told
pub told-same : (told : Ledger) → IsMoreTold told told
told-same told = record { size = refl; values = λ x lt v may. may; gone = λ role is. is; unclean = λ is. is; reshaping = λ is. is; carried = λ slot number is. is }

-- ---- what the newest superblock says

module _ (newest : Sb) (still : is_reshaping newest ≡ false) where
  pub count-still : role_count newest ≡ (shape_of newest).disks
  count-still = ap (λ (s : Shape). max (shape_of newest).disks s.disks) (final-still newest still) ∙ same (shape_of newest).disks
    where
      same : (n : ℕ) → max n n ≡ n
      same n = grind (arith, nat_tests)

  -- there is no tail
  pub untailed : (x : ℕ) → IsTail newest x → ⊥
  untailed x tail = absurd (let active = tail.active in let clash = sym still ∙ active in cc)

  pub tail-still : (list : ℕ → Sector) → IsTailZero newest list
  tail-still list x tail = absurd (untailed x tail)

  pub open-still : (scope : Scope) (header : Sector) → open_by scope newest header ≡ None
  open-still scope header = ap (λ (w : Option Span). section_for scope (λ s k. header) scope.backup w) none ∙ nothing scope.backup
    where
      none : next_window newest ≡ None
      none = ap (λ (b : Bool). cond b (window (shape_of newest) (final_shape newest) newest.size (is_backward newest) newest.reshape_position) None) still

      nothing : (backup : Option ℕ) → section_for scope (λ s k. header) backup None ≡ None
      nothing (Some b) = refl
      nothing None = refl

  pub outside-still : (scope : Scope) (m : Members) (header : Sector) (x : ℕ) → m.newest ≡ newest → x < list_length newest → IsOutside scope m header x
  outside-still scope m header x is lt = record {
    within = subst (λ (n : Sb). x < list_length n) (sym is) lt;
    outside = ap (λ (o : Option Span). covers o x) (ap (λ (n : Sb). open_by scope n header) is ∙ open-still scope header);
  }

-- ---- the members

-- the list is as long
pub length-still : (m : Members) → is_reshaping m.newest ≡ false → list_length m.newest ≡ list_size (places_of m)
length-still m still = list-still m.newest still

pub placed-still : (m : Members) (x : ℕ) → is_reshaping m.newest ≡ false → place_by m.newest x ≡ place (shape_of m.newest) x
placed-still m x still = ap (λ (s : Shape). place s x) (for-still m.newest still x)

-- it does without as many
pub without-still : (m : Members) → is_reshaping m.newest ≡ false → DoesWithout (shape_of m.newest) m → DoWithout m
without-still m still does = record { old = does; final = subst (λ (s : Shape). IsTolerated (reading_of m) s) (sym (final-still m.newest still)) does }

-- each row is of the one region
pub region-still : (m : Members) (touched : ℕ → Type 0) → is_reshaping m.newest ≡ false → IsOfRegion m (shape_of m.newest) touched
region-still m touched still x lt at = for-still m.newest still x

-- what is missing is told alike
pub gone-still : (told : Ledger) (m : Members) → is_reshaping m.newest ≡ false → ((role : ℕ) → role < (shape_of m.newest).disks → is_missing (reading_of m) role ≡ true → told.gone role ≡ true) → AreGoneTold told m
gone-still told m still gone role lt missing = gone role (subst (λ (n : ℕ). role < n) (count-still m.newest still) lt) missing

pub still-gone : (told : Ledger) (m : Members) → is_reshaping m.newest ≡ false → AreGoneTold told m → (role : ℕ) → role < (shape_of m.newest).disks → is_missing (reading_of m) role ≡ true → told.gone role ≡ true
still-gone told m still gone role lt missing = gone role (subst (λ (n : ℕ). role < n) (sym (count-still m.newest still)) lt) missing

-- ---- they are placed

module _ (scope : Scope) (given : Given) (m : Members) (placed : IsPlaced given m) (backup : backup_absent scope m.newest ≡ None)
    (own : (role slot : ℕ) → holder (role_state (reading_of m) role) ≡ Some slot → scope.backup ≡ Some slot → ⊥) where
  pub placed-two : ArePlaced scope given m
  placed-two = record {
    fit = placed.fit;
    roles = placed.roles;
    holders = placed.holders;
    behind = placed.behind;
    members_own = own;
    apart = placed.apart;
    backup = backup;
  }

-- an array of one shape needs no backup
pub backup-still : (scope : Scope) (newest : Sb) → is_reshaping newest ≡ false → backup_absent scope newest ≡ None
backup-still scope newest still = ap (λ (b : Bool). cond (not b || has_room scope (reach_of newest)) None (Some BackupAbsent)) still

-- so where the superblocks are held
pub held-own : (scope : Scope) (m : Members) (d : Disk) → IsHeldBy scope m d → (role slot : ℕ) → holder (role_state (reading_of m) role) ≡ Some slot → scope.backup ≡ Some slot → ⊥
held-own scope m d held role slot holds =
    let known = (role-known scope held.known m held.said role slot holds).0 in
    seen-own scope slot (held.updated.held.each slot known).seen

pub held-placed : HeldIsPlaced
held-placed scope given m d placed backup held = placed-two scope given m placed backup (held-own scope m d held)

-- ---- rows that are settled

-- rows that stand as a list of allowed values, whatever is drawn
pub settled-still : (scope : Scope) (given : Given) (m : Members) (values : ℕ → List Sector) (d : Disk) (list : ℕ → Sector) → IsPlaced given m → is_reshaping m.newest ≡ false
    → ((x : ℕ) → x < list_size (places_of m) → IsIn (values x) (list x))
    → ((c : Contents) → IsDrawn d c → (row : ℕ) → row < m.newest.size → RowStands (reading_of m) c (shape_of m.newest) list row) → IsSettled scope m values d
settled-still scope given m values d list placed still allowed rows = record {
  list = list;
  allowed = λ x lt. allowed x (subst (λ (n : ℕ). x < n) (length-still m still) lt);
  rows = λ c drawn x out.
      let short : x < list_size (places_of m) = subst (λ (n : ℕ). x < n) (length-still m still) out.within in
      subst (λ (s : Shape). RowStands (reading_of m) c s list (place s x).row) (sym (for-still m.newest still x))
      (rows c drawn (place (shape_of m.newest) x).row (place-row_below (shape_of m.newest) (valid given m placed) x m.newest.size (multiple given m placed) short));
  zeros = tail-still m.newest still list;
}

-- and the other way
pub still-settled : (scope : Scope) (given : Given) (m : Members) (values : ℕ → List Sector) (d : Disk) → IsPlaced given m → is_reshaping m.newest ≡ false → (s : IsSettled scope m values d)
    → (c : Contents) → IsDrawn d c → (row : ℕ) → row < m.newest.size → RowStands (reading_of m) c (shape_of m.newest) s.list row
still-settled scope given m values d placed still s c drawn row lt =
    let shape = shape_of m.newest in
    let x : ℕ = sector_at shape (row / shape.chunk) 0 (row % shape.chunk) in
    let at : (place shape x).row ≡ row =
    ap (λ (p : Place). p.row) (place-sector shape (row / shape.chunk) 0 (row % shape.chunk) (data_some shape (valid given m placed)) (mod_below row shape.chunk (chunk_some shape (valid given m placed))))
    ∙ div-add-mod' row shape.chunk in
    let inside : x < list_size (places_of m) = place-sector_below shape (valid given m placed) x m.newest.size (multiple given m placed) (omega (arith, at, lt)) in
    let out : IsOutside scope m (header_in scope c) x = outside-still m.newest still scope m (header_in scope c) x refl (subst (λ (n : ℕ). x < n) (sym (length-still m still)) inside) in
    subst (RowStands (reading_of m) c shape s.list) at
    (subst (λ (s' : Shape). RowStands (reading_of m) c s' s.list (place s' x).row) (for-still m.newest still x) (s.rows c drawn x out))

pub flushed-is-settled : FlushedIsSettled
flushed-is-settled scope given members tape values list placed flushed stand allowed = record {
  list = list;
  allowed = allowed;
  rows = λ c drawn x out.
      let row = (place_by members.newest x).row in
      let stands = stand.rows (header_in scope c) (drawn (backup_of scope) 0) x (record { within = out.within; outside = out.outside }) in
      record {
        whole = stands.whole;
        sectors = λ role slot below sound held. here c drawn row role slot held ∙ stands.sectors role slot below sound held;
        parity = λ role slot below parity held. here c drawn row role slot held ∙ stands.parity role slot below parity held;
      };
  zeros = stand.zeros;
}
  where
    alone : (v w : Sector) (values : List Sector) → values ≡ w ∷ [] → IsIn values v → v ≡ w
    alone v w values is may = only (subst (λ (l : List Sector). IsIn l v) is may)
      where
        only : (v ≡ w) ⊎ ⊥ → v ≡ w
        only (inl same) = same
        only (inr none) = absurd none

    here : (c : Contents) → IsDrawn (disk given.start tape) c → (row role slot : ℕ) → held_slot (reading_of members) role row ≡ Some slot
        → c slot (data_offset_of (reading_of members) slot + row) ≡ present given tape slot (data_offset_of (reading_of members) slot + row)
    here c drawn row role slot held =
        let holds = holder-of (reading_of members) role row slot held in
        let behind = placed.behind role slot holds in
        let k = data_offset_of (reading_of members) slot + row in
        alone (c slot k) (present given tape slot k) (disk given.start tape slot k) (flushed role slot k holds (λ e. absurd (omega (arith, behind, e)))) (drawn slot k)
