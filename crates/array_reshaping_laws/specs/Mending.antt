-- The steps of a pending resync of an array in a reshape: when they are due, and what they leave.
use Rattle.std.specs.Prelude.{◌≡◌, ℕ, ◌<◌, List, None, Some}
use Rattle.array_fixed_laws.specs.raid_types_Sectors.{Sector}
use Rattle.reshape_window_backup.specs.bank_the_Operation.{Operation}
use Rattle.reshape_window_backup.specs.bank_Given.{Given}
use Rattle.reshape_window_backup.specs.bank_Tape.{Contents}
use Rattle.array_reshaping_resync_laws.specs.sb_specs_the_Members.{Members}
use Rattle.array_reshaping_resync_laws.specs.sb_specs_Reading.{list_length}
use Rattle.array_reshaping_resync_laws.specs.array_members_Lacking.{DoesWithout}
use Rattle.array_reshaping_resync_laws.specs.stripe_region_read_Stretches.{RowsStandIn}
use Rattle.array_reshaping_resync_laws.specs.stripe_region_resync_Resyncs.{resync_stripes}
use Rattle.array_reshaping_resync_laws.specs.reshape_progress_resync_laws_Synced.{IsAside}
use Rattle.array_fixed_laws.specs.array_specs_Parts.{RunningParts}
use Rattle.array_fixed_laws.specs.array_specs_Calls.{IsCalled}

-- no window is entered, and the next stripe of the resync is to be mended
pub record IsResyncDue {B : Type 0} (array : RunningParts B) : Type 0 where
  pub mended : ℕ
  pub is : array.parts.work.resync ≡ Some mended
  pub more : mended < resync_stripes array.parts.members.newest
  pub aside : IsAside array.course.window

-- no window is entered, and all its stripes are mended
pub record IsResyncEndDue {B : Type 0} (array : RunningParts B) : Type 0 where
  pub is : array.parts.work.resync ≡ Some (resync_stripes array.parts.members.newest)
  pub aside : IsAside array.course.window

-- What a step leaves, done or refused: all that each call does (`IsCalled`), but that the work may be another.
abbrev pub IsResyncCalled : {B : Type 0} → Type 0 → Given → List Operation → List Operation → (ℕ → ℕ) → (ℕ → ℕ) → RunningParts B → RunningParts B → Type 0
IsResyncCalled tells given tape tape' before after old new =
    IsCalled tells given tape tape' before after old (record new { parts = record new.parts { work = old.parts.work } })

-- The list, which is this one as far as it goes, stands on the members by each shape that does without what is missing of it, with the rows of all its sectors.
abbrev pub AreRowsGood : Members → Contents → (ℕ → Sector) → Type 0
AreRowsGood m c current = (list : ℕ → Sector) × ((x : ℕ) → x < list_length m.newest → list x ≡ current x)
    × RowsStandIn (λ shape. DoesWithout shape m) None (list_length m.newest) m c list
