-- Members that differ in spares alone stand in the same course, a resync pending or not.
use Rattle.std.proofs.Common.{◌≡◌, ℕ, ◌+◌, nat_lt, cond, if◌then◌else◌, List, Option, Some, None, refl, sym, ◌∙◌, ap, subst}
use Rattle.std.specs.Option.{option_map_or}
use Rattle.reshape_progress.specs.raid_types_Sectors.{Sector}
use Rattle.reshape_progress.specs.raid_types_the_Shape.{Shape}
use Rattle.reshape_progress.specs.raid_types_the_Role.{Role}
use Rattle.reshape_progress.specs.raid_types_the_Role_TheVariants.{Whole, Recovering, Missing}
use Rattle.reshape_progress.specs.bank_Tape.{Contents}
use Rattle.reshape_progress.specs.sb_codec_the_Sb.{Sb}
use Rattle.reshape_progress.specs.raid_layout_Layout.{place}
use Rattle.reshape_progress.specs.sb_specs_the_Members.{Members}
use Rattle.reshape_progress.specs.sb_specs_Reading.{is_reshaping, role_state, rows_held, holder, data_offset_of}
use Rattle.reshape_progress.specs.sb_specs_Update.{own_in}
use Rattle.reshape_progress.specs.stripe_row_Rows.{reading_of, held_slot}
use Rattle.reshape_progress.proofs.stripe_row_Losses.{holder-of}
use Rattle.reshape_progress.specs.stripe_list_Full.{RowStands}
use Rattle.reshape_progress.specs.history_Stands.{shape_for}
use Rattle.reshape_progress.specs.crash_views_Regions.{place_by}
use Rattle.stripe_region_resync.specs.Mends.{low_shape}
use Rattle.reshape_progress.specs.declared.course.Course.{Course}
use Rattle.reshape_progress.specs.Laws.{DifferInSpares}
use Rattle.reshape_progress.proofs.Spares.{with_others, others-stand}
use Rattle.reshape_progress_resync_laws.specs.Mended.{StandsSynced, SparesLeaveSynced}

module _ (old : Members) (own : List (Option Sb)) (spares : List ℕ) (lost : ℕ)
    (same : (role slot : ℕ) → holder (role_state (reading_of old) role) ≡ Some slot → own_in own slot ≡ own_in old.own slot) where
  abbrev new : Members
  new = with_others old own spares lost same

  offset-as : (role slot : ℕ) → holder (role_state (reading_of old) role) ≡ Some slot → data_offset_of (reading_of new) slot ≡ data_offset_of (reading_of old) slot
  offset-as role slot held = ap (λ (o : Option Sb). option_map_or (λ (x : Sb). x.data_offset) o 0) (same role slot held)

  -- each role has as many rows
  rows-as : (role : ℕ) (state : Role) → role_state (reading_of old) role ≡ state → rows_held (reading_of new) state ≡ rows_held (reading_of old) state
  rows-as role (Whole slot) is = refl
  rows-as role (Recovering slot) is =
      ap (λ (o : Option Sb). if is_reshaping old.newest then 0 else option_map_or (λ (x : Sb). x.recovery_offset) o 0) (same role slot (ap holder is))
  rows-as role Missing is = refl

  held-as : (role row slot : ℕ) → held_slot (reading_of new) role row ≡ Some slot → held_slot (reading_of old) role row ≡ Some slot
  held-as role row slot held = sym (ap (λ (n : ℕ). cond (nat_lt row n) (holder (role_state (reading_of old) role)) None) (rows-as role (role_state (reading_of old) role) refl)) ∙ held

  -- what a holder has stands where it did
  there : (c : Contents) (role row slot : ℕ) → held_slot (reading_of new) role row ≡ Some slot
      → c slot (data_offset_of (reading_of new) slot + row) ≡ c slot (data_offset_of (reading_of old) slot + row)
  there c role row slot held = ap (λ (n : ℕ). c slot (n + row)) (offset-as role slot (holder-of (reading_of old) role row slot (held-as role row slot held)))

  row-as : (c : Contents) (shape : Shape) (list : ℕ → Sector) (row : ℕ) → RowStands (reading_of old) c shape list row → RowStands (reading_of new) c shape list row
  row-as c shape list row was = record {
    whole = was.whole;
    sectors = λ role slot lt part held. there c role row slot held ∙ was.sectors role slot lt part (held-as role row slot held);
    parity = λ role slot lt part held. there c role row slot held ∙ was.parity role slot lt part (held-as role row slot held);
  }

  mended-as : (sound : Type 0) (among : Shape → Type 0) (resync : Option ℕ) (course : Course) (buffer : List ℕ) (c : Contents) (list : ℕ → Sector) → StandsSynced sound among resync old course buffer c list
      → StandsSynced sound among resync new course buffer c list
  mended-as sound among resync course buffer c list was = record {
    in_course = others-stand old own spares lost same ⊥ among course buffer c list was.in_course;
    ends = λ some aside low x slot past under held.
        there c (place (low_shape old.newest) x).role (place (low_shape old.newest) x).row slot held
        ∙ was.ends some aside low x slot past under (held-as (place (low_shape old.newest) x).role (place (low_shape old.newest) x).row slot held);
    whole = was.whole;
    rows = λ so x below own shown. row-as c (shape_for old.newest x) list (place_by old.newest x).row (was.rows so x below own shown);
  }

-- the members are: the newest superblock and the roles of those
others-are : (old new : Members) → DifferInSpares old new → record old { own = new.own; spares = new.spares; lost = new.lost } ≡ new
others-are old new is = λ i. record new { newest = sym is.newest i; roles = sym is.roles i }

pub spares-leave-mended : (sound : Type 0) (among : Shape → Type 0) → SparesLeaveSynced sound among
spares-leave-mended sound among old new resync course buffer c list is was =
    subst (λ (m : Members). StandsSynced sound among resync m course buffer c list) (others-are old new is)
    (mended-as old new.own new.spares new.lost is.own sound among resync course buffer c list was)
