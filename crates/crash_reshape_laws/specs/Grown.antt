-- What stands once a forward reshape has ended: the list as it stood, and zeros behind it; and what a change of the length tells.
use Rattle.std.specs.Prelude.{◌≡◌, ℕ, ◌<◌, ◌≤◌, true, false, List, [], ◌∷◌, ◌++◌, None}
use Rattle.crash_safety_laws.specs.raid_types_Sectors.{Sector, zero_sector}
use Rattle.crash_safety_laws.specs.bank_Given.{Given}
use Rattle.crash_safety_laws.specs.bank_Tape.{Contents, IsIn}
use Rattle.crash_safety_laws.specs.reshape_geometry_Geometry.{rows}
use Rattle.crash_safety_laws.specs.sb_specs_the_Members.{Members}
use Rattle.crash_safety_laws.specs.sb_specs_Reading.{Scope, is_reshaping, is_backward, shape_of, final_shape, list_length}
use Rattle.crash_safety_laws.specs.stripe_row_Rows.{reading_of}
use Rattle.crash_safety_laws.specs.stripe_list_Full.{DataStands, RowStands}
use Rattle.crash_safety_laws.specs.history_the_Event_TheVariants.{Resized}
use Rattle.crash_safety_laws.specs.history_the_Entry.{Entry}
use Rattle.crash_safety_laws.specs.history_Flat.{values_of, values_after, length_of, length_after}
use Rattle.crash_safety_laws.specs.crash_views_Regions.{ArePlaced, DoWithout}
use Rattle.crash_safety_laws.specs.crash_views_Windows.{ListStands, RowsStand, AreTailsStanding}
use Rattle.crash_reshape_laws.specs.Ends.{AreMissingKept, IsEnded}

-- behind the list's end there are zeros
abbrev pub IsZeroPast : ℕ → (ℕ → Sector) → Type 0
IsZeroPast n list = (x : ℕ) → n ≤ x → list x ≡ zero_sector

-- a row past those of the list, of the new shape
abbrev pub IsPastRow : Members → ℕ → Type 0
IsPastRow m row = (rows (final_shape m.newest) 0 (list_length m.newest)).hi ≤ row

-- The list that stood, with its tail and the zeroed rows, stands on as the longer one; and so do its rows.
abbrev pub GrownStands : Type 0
GrownStands = (scope : Scope) (given : Given) (m plan : Members) (c : Contents) (list : ℕ → Sector) → IsEnded m plan → ArePlaced scope given m → ArePlaced scope given plan → is_backward m.newest ≡ false
    → IsZeroPast (list_length m.newest) list
    → (ListStands None m c list → AreTailsStanding m c list → ((row : ℕ) → IsPastRow m row → DataStands (reading_of m) c (final_shape m.newest) (λ x. zero_sector) row) → ListStands None plan c list)
    × (RowsStand None m c list → ((row : ℕ) → IsPastRow m row → RowStands (reading_of m) c (final_shape m.newest) (λ x. zero_sector) row) → RowsStand None plan c list)

-- Forward the old shape misses no more than the new one.
abbrev pub GrownDoesWithout : Type 0
GrownDoesWithout = (scope : Scope) (given : Given) (m plan : Members) → ArePlaced scope given m → is_reshaping m.newest ≡ true → is_backward m.newest ≡ false → is_reshaping plan.newest ≡ false
    → shape_of plan.newest ≡ final_shape m.newest → AreMissingKept m plan (final_shape m.newest).disks → DoWithout plan → DoWithout m

-- the entries leave the list as it is
abbrev pub LeaveList : List Entry → Type 0
LeaveList [] = Unit {0}
LeaveList (e ∷ entries) = ((x : ℕ) (values : List Sector) → values_after x values e.event ≡ values) × ((n : ℕ) → length_after n e.event ≡ n) × LeaveList entries

-- Two tellings, without a change of the length and with it, before entries that leave the list: each sector that the list keeps has the values that it had,
-- one that it gets is zero, and the length is the new one.
abbrev pub ResizedIsTold : Type 0
ResizedIsTold = (list : List Sector) (before behind : List Entry) (e : Entry) (n : ℕ) → e.event ≡ Resized n → LeaveList behind
    → ((x : ℕ) (v : Sector) → x < n → IsIn (values_of list (before ++ behind) x) v → IsIn (values_of list (before ++ e ∷ behind) x) v)
    × ((x : ℕ) → x < n → values_of list (before ++ behind) x ≡ [] → IsIn (values_of list (before ++ e ∷ behind) x) zero_sector)
    × ((first : ℕ) → length_of first (before ++ e ∷ behind) ≡ n)
