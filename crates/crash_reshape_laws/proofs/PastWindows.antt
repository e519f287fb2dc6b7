-- Behind a window its section isn't active; and rows past the end of a list that has gone through may be written.
use Rattle.std.proofs.Common.{◌≡◌, ◌≢◌, ℕ, ◌-◌, ◌<◌, ◌&&◌, Bool, true, false, cond, Option, Some, None, refl, sym, ◌∙◌, ap, arith}
use Rattle.std.proofs.lemmas.Bool.{and_parts, eqb-true}
use Rattle.std.proofs.Math.Nat.{div-add-mod'}
use Rattle.crash_safety_laws.specs.raid_types_the_Shape.{Shape}
use Rattle.crash_safety_laws.specs.raid_types_the_Span.{Span}
use Rattle.crash_safety_laws.specs.raid_types_Bytes.{field}
use Rattle.crash_safety_laws.specs.raid_types_Sectors.{Sector}
use Rattle.crash_safety_laws.specs.raid_types_Shapes.{has_slot}
use Rattle.crash_safety_laws.specs.raid_layout_Layout.{place}
use Rattle.crash_safety_laws.specs.reshape_geometry_Geometry.{window, unit, beyond}
use Rattle.crash_safety_laws.proofs.stripe_region_laws_RegionLaws.{forward-is, backward-is}
use Rattle.crash_safety_laws.proofs.reshape_geometry_Rows.{rows_hold}
use Rattle.crash_safety_laws.proofs.reshape_geometry_Valid.{bounded_pair}
use Rattle.crash_safety_laws.specs.sb_specs_the_Members.{Members}
use Rattle.crash_safety_laws.specs.bank_Given.{Given}
use Rattle.crash_safety_laws.specs.sb_specs_Reading.{Scope, is_reshaping, is_backward, shape_of, final_shape, list_length, next_window}
use Rattle.crash_safety_laws.specs.bank_backup_Section.{names_span, has_section}
use Rattle.crash_safety_laws.specs.history_ActiveSection.{section_for}
use Rattle.crash_safety_laws.specs.crash_views_Regions.{backup_of, place_by, ArePlaced}
use Rattle.crash_safety_laws.specs.crash_views_Views.{Disk}
use Rattle.crash_safety_laws.specs.crash_views_Windows.{moved_past}
use Rattle.crash_safety_laws.specs.Updates.{PastWindowsArePlain, IsAtEnd, IsPastPlace, ZeroingStaysRight}
use Rattle.crash_safety_laws.proofs.LessViews.{ends-place}
use Rattle.crash_safety_laws.proofs.crash_views_UnderWay.{is-reshaping, window-is, under-way}
use Rattle.crash_safety_laws.proofs.crash_views_Tails.{row-within}
use Rattle.crash_safety_laws.proofs.crash_views_WindowLaws.{IsUnread, unread-right, at-rows, open-some}

-- the next window begins elsewhere
module _ (old new : Shape) (size : ℕ) (span next : Span) (some : 0 < unit old new) where
  pub begins-apart : (back : Bool) (position : ℕ) → window old new size back position ≡ Some span → window old new size back (beyond back span) ≡ Some next → next.lo ≢ span.lo
  begins-apart false position is then same =
      let at = forward-is old new size position span is in
      let behind = forward-is old new size span.hi next then in
      absurd (omega (arith, at.0, at.1, at.2, behind.1, same, some))
  begins-apart true position is then same =
      let behind = backward-is old new size span.lo next then in
      let e = div-add-mod' (span.lo - 1) (unit old new) in
      absurd (omega (arith, behind.0, behind.1, same, e))

names-low : (header : Sector) (span : Span) → names_span header span ≡ true → field header 48 8 ≡ span.lo
names-low header span is = eqb-true (field header 48 8) span.lo (and_parts _ _ (and_parts _ _ (and_parts _ _ is).0).0).1

pub past-windows-plain : PastWindowsArePlain
past-windows-plain scope given m span header placed next named = of scope.backup (next_window (moved_past span m).newest) refl
  where
    active : is_reshaping m.newest ≡ true
    active = is-reshaping m.newest span next

    other : (then : Span) → next_window (moved_past span m).newest ≡ Some then → names_span header then ≡ true → ⊥
    other then is names =
        begins-apart (shape_of m.newest) (final_shape m.newest) m.newest.size span then (bounded_pair (shape_of m.newest) (final_shape m.newest) m.newest.size (under-way m.newest placed.fit active).force).some_unit
        (is_backward m.newest) m.newest.reshape_position (window-is m.newest span next) (window-is (moved_past span m).newest then is)
        (sym (names-low header then names) ∙ names-low header span named)

    chosen : (b : ℕ) (then : Span) (t : Bool) → (has_slot scope.given b && has_section scope.uuid (scope.sizes.sectors b) (λ k. header) then) ≡ t → next_window (moved_past span m).newest ≡ Some then
        → ◌≡◌ {A = Option Span} (cond t (Some then) None) None
    chosen b then true is here = absurd (other then here (and_parts _ _ (and_parts _ _ (and_parts _ _ is).1).0).1)
    chosen b then false is here = refl

    of : (backup : Option ℕ) (w : Option Span) → next_window (moved_past span m).newest ≡ w → section_for scope (λ s k. header) backup (next_window (moved_past span m).newest) ≡ None
    of None w is = refl
    of (Some b) None is = ap (section_for scope (λ s k. header) (Some b)) is
    of (Some b) (Some then) is = ap (section_for scope (λ s k. header) (Some b)) is ∙ chosen b then (has_slot scope.given b && has_section scope.uuid (scope.sizes.sectors b) (λ k. header) then) refl is

-- ---- past the end

pub zeroing-unread : (scope : Scope) (given : Given) (m : Members) (d : Disk) → ArePlaced scope given m → is_reshaping m.newest ≡ true → IsAtEnd m.newest → IsUnread scope m d (IsPastPlace m)
zeroing-unread scope given m d placed active last = record {
  header = λ there. at-rows scope given m placed there.role (backup_of scope) there.row 0 there.held there.place refl;
  section = λ header may span opened k there. placed.members_own there.role (backup_of scope) there.held (open-some scope m header span opened);
  rows = λ header may x role slot outside held there. (
      let shape = (ends-place m.newest x active outside.within).1 last in
      let below = (rows_hold (final_shape m.newest) (record { lo = 0; hi = list_length m.newest }) x placed.fit.valid.final (omega arith, outside.within)).1 in
      let row : (place_by m.newest x).row ≡ (place (final_shape m.newest) x).row = ap (λ (s : Shape). (place s x).row) shape in
      let at = there.place in
      let far = there.past in
      absurd (omega (arith, row, below, at, far)));
  tails = λ x slot tail held there. (
      let within = row-within m.newest placed.fit x tail in
      let far = there.past in
      let at = there.place in
      absurd (omega (arith, within, far, at)));
}

pub zeroing-right : (sound : Type 0) → ZeroingStaysRight sound
zeroing-right sound scope given told m d e some active none last written right =
    unread-right sound scope given told m d e (IsPastPlace m) some written (zeroing-unread scope given m d right.placed active last) right
