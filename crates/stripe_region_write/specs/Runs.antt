-- A write of the list of an array in a reshape: the runs that it is cut in, which rows it touches, and why it isn't done.
use Rattle.std.specs.Prelude.{◌≡◌, ◌⊎◌, ℕ, ◌-◌, ◌<◌, ◌≤◌, true, false, List, length, Contains, Option, Some}
use Rattle.stripe_region_read.specs.raid_types_the_Span.{Span}
use Rattle.stripe_region_read.specs.raid_types_the_Shape.{Shape}
use Rattle.stripe_region_read.specs.raid_types_Shapes.{data_disks}
use Rattle.stripe_region_read.specs.raid_types_the_Refusal.{Refusal}
use Rattle.stripe_region_read.specs.raid_types_Sectors.{Sector}
use Rattle.stripe_region_read.specs.sb_codec_the_Sb.{Sb}
use Rattle.stripe_region_read.specs.bank_Tape.{Contents}
use Rattle.stripe_region_read.specs.raid_layout_Layout.{place}
use Rattle.stripe_region_read.specs.sb_specs_the_Members.{Members}
use Rattle.stripe_region_read.specs.sb_specs_Reading.{is_reshaping, list_length, next_window}
use Rattle.stripe_region_read.specs.stripe_row_Rows.{reading_of}
use Rattle.stripe_region_read.specs.stripe_list_Buffers.{AreTouched}
use Rattle.stripe_region_read.specs.stripe_list_Full.{RowStands}
use Rattle.stripe_region_read.specs.stripe_list_Writing.{IsWritten, AreDataFrom, IsFull, StaysRebuilt}
use Rattle.stripe_region_read.specs.history_Stands.{covers, shape_for}
use Rattle.stripe_region_read.specs.crash_views_Regions.{place_by}
use Rattle.stripe_region_read.specs.array_members_Placed.{IsInForce}
use Rattle.stripe_region_read.specs.array_members_Lacking.{DoesWithout, LacksTooMany, IsNotResynced}
use Rattle.stripe_region_read.specs.Stretches.{IsStretch, relied_rows}
use Rattle.stripe_region_write.specs.declared.runs.Run.{Run}

-- the run's sectors are of the list, and placed by its shape, which is in force
pub record IsRun (newest : Sb) (run : Run) : Type 0 where
  pub force : IsInForce newest run.shape
  pub one : IsStretch newest run.shape run.first run.end
  pub order : run.first ≤ run.end
  pub within : run.end ≤ list_length newest

-- The run tells whether parity is relied on in each row that it touches, where that is so up to this sector of the list, and in the window, if there is one.
pub record IsRelied (newest : Sb) (window : Option Span) (relied : ℕ) (run : Run) : Type 0 where
  pub rows : run.synced ≡ true → (x : ℕ) → run.first ≤ x → x < run.end → covers window x ≡ false → (place run.shape x).row < relied_rows newest relied run.shape
  pub some : run.synced ≡ false → (x : ℕ) × (run.first ≤ x) × (x < run.end) × (covers window x ≡ false) × (relied_rows newest relied run.shape ≤ (place run.shape x).row)

-- Two runs, of which the second may be empty; where it isn't, it begins at the position, and the first one's shape has as many data disks or more.
pub record AreRuns (newest : Sb) (window : Option Span) (relied first to : ℕ) (one two : Run) : Type 0 where
  pub low : IsRun newest one
  pub high : IsRun newest two
  pub low_relied : IsRelied newest window relied one
  pub high_relied : IsRelied newest window relied two
  pub begins : one.first ≡ first
  pub some : one.first < one.end
  pub meet : two.first ≡ one.end
  pub ends : two.end ≡ to
  pub apart : one.end < to → (is_reshaping newest ≡ true) × (one.end ≡ newest.reshape_position)
  pub empty : one.end ≡ to → two.shape ≡ one.shape
  pub wider : data_disks two.shape ≤ data_disks one.shape

-- these rows are those that the run touches
pub record AreRowsOf (run : Run) (size : ℕ) (rows : List ℕ) : Type 0 where
  pub touched : AreTouched run.shape run.first (run.end - run.first) rows
  pub below : (row : ℕ) → Contains rows row → row < size
  pub few : length rows ≤ 128

-- each of these rows is full in the end, by each list that was read, with the sectors of the write put in
abbrev pub AreFull : Members → Contents → Shape → ℕ → List ℕ → List ℕ → List ℕ → Type 0
AreFull new after shape first from rows buffer = (list list' : ℕ → Sector) → IsWritten list list' first from → AreDataFrom 0 shape list rows buffer
    → (row : ℕ) → Contains rows row → IsFull (reading_of new) after shape list' row

-- What was rebuilt of these rows on a recovering slot stays so, by each list that was read, with the sectors of the write put in.
abbrev pub StayRebuilt : Members → Contents → Contents → Shape → ℕ → List ℕ → List ℕ → List ℕ → Type 0
StayRebuilt new before after shape first from rows buffer = (list list' : ℕ → Sector) → IsWritten list list' first from → AreDataFrom 0 shape list rows buffer
    → (row : ℕ) → Contains rows row → StaysRebuilt (reading_of new) before after shape list list' row

-- one of the sectors from one of the list up to another has its place in the row
abbrev pub IsListTouched : Sb → ℕ → ℕ → ℕ → Type 0
IsListTouched newest from to row = (x : ℕ) × (from ≤ x) × (x < to) × ((place_by newest x).row ≡ row)

-- so it is of one of these sectors whose shape misses more roles than it tolerates
abbrev pub IsTornTouched : Sb → ℕ → ℕ → Members → ℕ → Type 0
IsTornTouched newest from to m row = (x : ℕ) × (from ≤ x) × (x < to) × (DoesWithout (shape_for newest x) m → ⊥) × ((place_by newest x).row ≡ row)

-- the sectors that are hidden, if any, are those of the next window
abbrev pub MayBeHidden : Sb → Option Span → Type 0
MayBeHidden newest hidden = (span : Span) → hidden ≡ Some span → next_window newest ≡ Some span

-- each sector of the list in the window stands in a row that stands as the list
abbrev pub WindowRowsStand : Option Span → Members → Contents → (ℕ → Sector) → Type 0
WindowRowsStand window m c list = (x : ℕ) → covers window x ≡ true → x < list_length m.newest → RowStands (reading_of m) c (shape_for m.newest x) list (place_by m.newest x).row

-- ---- why a write isn't done

-- of the shape of one of these sectors more roles are missing than it tolerates
abbrev pub IsListTorn : ℕ → ℕ → Members → Refusal → Type 0
IsListTorn from to m refusal = (x : ℕ) × (from ≤ x) × (x < to) × LacksTooMany (shape_for m.newest x) m refusal

-- Why a write isn't done: too many roles are missing; or where each shape does without them, a sector outside the open window, if there is one, stands in a row
-- whose parity isn't relied on, and a role of its shape is missing that has data.
abbrev pub IsListUnwritten : Option Span → ℕ → ℕ → ℕ → Members → Refusal → Type 0
IsListUnwritten window relied from to m refusal = IsListTorn from to m refusal
    ⊎ (((y : ℕ) → from ≤ y → y < to → DoesWithout (shape_for m.newest y) m)
    × ((x : ℕ) × (from ≤ x) × (x < to) × (covers window x ≡ false) × (relied_rows m.newest relied (shape_for m.newest x) ≤ (place_by m.newest x).row)
    × IsNotResynced (shape_for m.newest x) false m refusal))

-- the same of two runs
abbrev pub AreRunsTorn : Run → Run → Members → Refusal → Type 0
AreRunsTorn low high m refusal = LacksTooMany low.shape m refusal ⊎ LacksTooMany high.shape m refusal

abbrev pub AreRunsUnwritten : Run → Run → Members → Refusal → Type 0
AreRunsUnwritten low high m refusal = AreRunsTorn low high m refusal
    ⊎ (DoesWithout low.shape m × DoesWithout high.shape m × (IsNotResynced low.shape low.synced m refusal ⊎ IsNotResynced high.shape high.synced m refusal))
