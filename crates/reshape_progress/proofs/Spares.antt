-- Members that differ in spares alone stand in the same course.
use Rattle.std.proofs.Common.{◌≡◌, ℕ, ◌+◌, nat_lt, cond, if◌then◌else◌, true, false, List, Option, Some, None, refl, sym, ◌∙◌, ap, subst}
use Rattle.std.specs.Option.{option_map_or}
use Rattle.reshape_request.specs.raid_types_Sectors.{Sector, zero_sector}
use Rattle.reshape_request.specs.raid_types_the_Shape.{Shape}
use Rattle.reshape_request.specs.raid_types_the_Role.{Role}
use Rattle.reshape_request.specs.raid_types_the_Role_TheVariants.{Whole, Recovering, Missing}
use Rattle.reshape_request.specs.bank_Tape.{Contents}
use Rattle.reshape_request.specs.sb_codec_the_Sb.{Sb}
use Rattle.reshape_request.specs.raid_layout_Layout.{place}
use Rattle.reshape_window_steps.specs.sb_specs_the_Members.{Members}
use Rattle.reshape_window_steps.specs.sb_specs_Reading.{Scope, is_reshaping, final_shape, role_state, rows_held, holder, data_offset_of}
use Rattle.reshape_window_steps.specs.sb_specs_Update.{own_in}
use Rattle.reshape_window_steps.specs.stripe_row_Rows.{reading_of, held_slot}
use Rattle.reshape_window_steps.proofs.stripe_row_Losses.{holder-of}
use Rattle.reshape_window_steps.specs.stripe_list_Full.{RowStands}
use Rattle.reshape_window_steps.specs.history_Stands.{shape_for}
use Rattle.reshape_window_steps.specs.crash_views_Regions.{place_by}
use Rattle.reshape_window_steps.specs.crash_views_Views.{Disk}
use Rattle.reshape_window_steps.specs.array_members_Lacking.{DoesWithout}
use Rattle.reshape_window_steps.specs.array_members_Rebuilding.{with_spare}
use Rattle.reshape_window_steps.proofs.array_members_AddedMembers.{own-other}
use Rattle.reshape_progress.specs.declared.course.Course.{Course}
use Rattle.reshape_request.specs.declared.window.Window.{Window}
use Rattle.reshape_request.specs.declared.window.Window.TheVariants.{Closed, Entered, Unsure}
use Rattle.reshape_progress.specs.Course.{IsStoredAs, IsStored, StandsInCourse}
use Rattle.reshape_progress.specs.Laws.{DifferInSpares, SparesLeaveCourses, SparesLeaveStored}

-- ---- what else the members have than their newest superblock and their roles

module _ (old : Members) (own : List (Option Sb)) (spares : List ℕ) (lost : ℕ)
    (same : (role slot : ℕ) → holder (role_state (reading_of old) role) ≡ Some slot → own_in own slot ≡ own_in old.own slot) where
  abbrev pub with_others : Members
  with_others = record old { own = own; spares = spares; lost = lost }

  offset-as : (role slot : ℕ) → holder (role_state (reading_of old) role) ≡ Some slot → data_offset_of (reading_of with_others) slot ≡ data_offset_of (reading_of old) slot
  offset-as role slot held = ap (λ (o : Option Sb). option_map_or (λ (x : Sb). x.data_offset) o 0) (same role slot held)

  -- each role has as many rows
  rows-as : (role : ℕ) (state : Role) → role_state (reading_of old) role ≡ state → rows_held (reading_of with_others) state ≡ rows_held (reading_of old) state
  rows-as role (Whole slot) is = refl
  rows-as role (Recovering slot) is =
      ap (λ (o : Option Sb). if is_reshaping old.newest then 0 else option_map_or (λ (x : Sb). x.recovery_offset) o 0) (same role slot (ap holder is))
  rows-as role Missing is = refl

  held-as : (role row slot : ℕ) → held_slot (reading_of with_others) role row ≡ Some slot → held_slot (reading_of old) role row ≡ Some slot
  held-as role row slot held = sym (ap (λ (n : ℕ). cond (nat_lt row n) (holder (role_state (reading_of old) role)) None) (rows-as role (role_state (reading_of old) role) refl)) ∙ held

  -- what a holder has stands where it did
  there : (c : Contents) (role row slot : ℕ) → held_slot (reading_of with_others) role row ≡ Some slot
      → c slot (data_offset_of (reading_of with_others) slot + row) ≡ c slot (data_offset_of (reading_of old) slot + row)
  there c role row slot held = ap (λ (n : ℕ). c slot (n + row)) (offset-as role slot (holder-of (reading_of old) role row slot (held-as role row slot held)))

  row-as : (c : Contents) (shape : Shape) (list : ℕ → Sector) (row : ℕ) → RowStands (reading_of old) c shape list row → RowStands (reading_of with_others) c shape list row
  row-as c shape list row was = record {
    whole = was.whole;
    sectors = λ role slot lt part held. there c role row slot held ∙ was.sectors role slot lt part (held-as role row slot held);
    parity = λ role slot lt part held. there c role row slot held ∙ was.parity role slot lt part (held-as role row slot held);
  }

  pub others-stand : (sound : Type 0) (among : Shape → Type 0) (course : Course) (buffer : List ℕ) (c : Contents) (list : ℕ → Sector) → StandsInCourse sound among old course buffer c list → StandsInCourse sound among with_others course buffer c list
  others-stand sound among course buffer c list was = record {
    stands = λ x slot own shown held.
        there c (place_by old.newest x).role (place_by old.newest x).row slot held
        ∙ was.stands x slot own shown (held-as (place_by old.newest x).role (place_by old.newest x).row slot held);
    window = was.window;
    zeros = was.zeros;
    copied = λ own row at. row-as c (final_shape old.newest) list row (was.copied own row at);
    tail = λ own x slot tail held.
        there c (place (final_shape old.newest) x).role (place (final_shape old.newest) x).row slot held
        ∙ was.tail own x slot tail (held-as (place (final_shape old.newest) x).role (place (final_shape old.newest) x).row slot held);
    zeroed = λ own row at. row-as c (final_shape old.newest) (λ x. zero_sector) row (was.zeroed own row at);
    rows = λ so x own shown. row-as c (shape_for old.newest x) list (place_by old.newest x).row (was.rows so x own shown);
  }

  pub others-stored : (scope : Scope) (window : Window) (buffer : List ℕ) (d : Disk) → IsStored scope old window buffer d → IsStored scope with_others window buffer d
  others-stored scope window buffer d was = record { section = of window was.section; sectors = was.sectors; headers = was.headers }
    where
      of : (window : Window) → IsStoredAs scope old window d → IsStoredAs scope with_others window d
      of Closed is = is
      of (Entered span copied true) is = is
      of (Entered span copied false) is = is
      of (Unsure span) is = is

-- ---- the laws

-- so the members are: the newest superblock and the roles of those
others-are : (old new : Members) → DifferInSpares old new → record old { own = new.own; spares = new.spares; lost = new.lost } ≡ new
others-are old new is = λ i. record new { newest = sym is.newest i; roles = sym is.roles i }

pub spares-leave : (sound : Type 0) (among : Shape → Type 0) → SparesLeaveCourses sound among
spares-leave sound among old new course buffer c list is was =
    subst (λ (m : Members). StandsInCourse sound among m course buffer c list) (others-are old new is) (others-stand old new.own new.spares new.lost is.own sound among course buffer c list was)

-- and they do without as much
pub spares-without : (old new : Members) → DifferInSpares old new → (shape : Shape) → DoesWithout shape new → DoesWithout shape old
spares-without old new is shape = subst (λ (m : Members). DoesWithout shape m → DoesWithout shape old) (others-are old new is) (λ does. does)

pub spares-stored : SparesLeaveStored
spares-stored scope old new window buffer d is was =
    subst (λ (m : Members). IsStored scope m window buffer d) (others-are old new is) (others-stored old new.own new.spares new.lost is.own scope window buffer d was)

-- a slot that holds no role is made a spare
pub differ-with : (m : Members) (slot : ℕ) (sb : Sb) → ((role : ℕ) → holder (role_state (reading_of m) role) ≡ Some slot → ⊥) → DifferInSpares m (with_spare slot sb m)
differ-with m slot sb untaken = record {
  newest = refl;
  roles = refl;
  own = λ role s held. own-other m slot sb s (λ same. untaken role (held ∙ ap (λ (n : ℕ). Some n) same));
}
