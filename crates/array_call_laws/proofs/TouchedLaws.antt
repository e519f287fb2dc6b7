-- What a call on some rows leaves of the whole list of an array of one shape: by what it says of the rows that it touches, and that the others are
-- kept.
use Rattle.std.proofs.Common.{◌≡◌, ◌⊎◌, inl, inr, ℕ, ◌/◌, ◌<◌, ◌≤◌, Bool, true, false, List, length, refl, sym, subst, ◌∙◌}
use Rattle.array_call_specs.specs.raid_types_Sectors.{Sector}
use Rattle.array_call_specs.specs.raid_types_the_Shape.{Shape}
use Rattle.array_call_specs.specs.raid_types_the_Role_TheVariants.{Recovering}
use Rattle.array_call_specs.specs.bank_Given.{Given}
use Rattle.array_call_specs.specs.bank_Tape.{Contents}
use Rattle.array_call_specs.specs.bank_the_Operation.{Operation}
use Rattle.array_call_specs.specs.raid_layout_Layout.{place}
use Rattle.array_call_specs.specs.sb_specs_the_Members.{Members}
use Rattle.array_call_specs.specs.sb_specs_Reading.{is_reshaping, shape_of, role_state, rows_held}
use Rattle.array_call_specs.specs.stripe_row_Rows.{reading_of, present}
use Rattle.array_call_specs.specs.stripe_list_Buffers.{IsTouched}
use Rattle.array_call_specs.specs.stripe_list_Full.{DataStands, RowStands, AreWholeIn}
use Rattle.array_call_specs.specs.stripe_list_Writing.{IsWritten, HasFull}
use Rattle.array_call_specs.specs.history_World.{World}
use Rattle.array_call_specs.specs.history_Sound.{OpensFit}
use Rattle.array_call_specs.specs.crash_views_Views.{Ledger, IsTailZero}
use Rattle.array_call_specs.specs.crash_views_Regions.{DoWithout}
use Rattle.array_call_specs.specs.crash_views_Windows.{IsOfRegion}
use Rattle.array_call_specs.specs.crash_safety_laws_Safety.{HasRoomLeft}
use Rattle.array_call_specs.specs.crash_safety_laws_Steady.{IsSafeOver, KeepsSafe, AreGoneTold, AreWritesAllowed}
use Rattle.array_call_specs.specs.array_members_Placed.{AreWhole, IsPlaced}
use Rattle.array_call_specs.specs.array_members_Moving.{IsMoved}
use Rattle.array_call_specs.specs.array_members_Lacking.{DoesWithout, ListStands, RowsStand, RowsStandBelow, DataStandsAmong, RowsStandAmong, AreOtherRowsKept, IsOfStripe}
use Rattle.array_call_specs.proofs.array_members_PutLists.{touched-or-not, stripe-or-not, untouched-same, list-put, row-put, rebuilt-put}
use Rattle.array_call_specs.proofs.array_members_Still.{region-still, tail-still}

-- ---- some rows of the list

module _ (shape : Shape) (m : Members) (same : shape ≡ shape_of m.newest) (c : Contents) (list : ℕ → Sector) where
  -- the data of each row stands where the list does
  pub list-among : (among : ℕ → Type 0) → ListStands m c list → DataStandsAmong shape among m c list
  list-among among stands row has below = subst (λ (s : Shape). DataStands (reading_of m) c s list row) (sym same) (stands row below)

  -- and each row where all do
  pub rows-among : (among : ℕ → Type 0) → RowsStand m c list → RowsStandAmong shape among m c list
  rows-among among stands row has below = subst (λ (s : Shape). RowStands (reading_of m) c s list row) (sym same) (stands row below)

  -- those of some rows that are mended
  pub below-among : (mended : ℕ) (among : ℕ → Type 0) → RowsStandBelow mended m c list → RowsStandAmong shape (λ row. among row × (row < mended)) m c list
  below-among mended among stands row has below = subst (λ (s : Shape). RowStands (reading_of m) c s list row) (sym same) (stands row has.1 below)

-- each row is of the one region
pub region-in : (m : Members) (shape : Shape) (touched : ℕ → Type 0) → shape ≡ shape_of m.newest → is_reshaping m.newest ≡ false → IsOfRegion m shape touched
region-in m shape touched same still = subst (λ (s : Shape). IsOfRegion m s touched) (sym same) (region-still m touched still)

-- ---- a read

-- what is fetched by the rows that it touches is so by the whole list
pub holds-fetched : {tells : Type 0} (shape : Shape) (old new : Members) → shape ≡ shape_of old.newest → (c : Contents) (touched : ℕ → Type 0) (mended : ℕ) (Holds : (ℕ → Sector) → Type 0)
    → (tells → (list : ℕ → Sector) → DataStandsAmong shape touched old c list → AreWhole new ⊎ RowsStandAmong shape (λ row. touched row × (row < mended)) old c list → Holds list)
    → tells → (list : ℕ → Sector) → ListStands old c list → AreWhole new ⊎ RowsStandBelow mended old c list → Holds list
holds-fetched shape old new same c touched mended Holds holds t list stands rows = holds t list (list-among shape old same c list touched stands) (of rows)
  where
    of : AreWhole new ⊎ RowsStandBelow mended old c list → AreWhole new ⊎ RowsStandAmong shape (λ row. touched row × (row < mended)) old c list
    of (inl whole) = inl whole
    of (inr below) = inr (below-among shape old same c list mended touched below)

-- ---- a write

module _ (given : Given) (old new : Members) (moved : IsMoved given old new) (was : IsPlaced given old) (shape : Shape) (same : shape ≡ shape_of old.newest) (first count : ℕ) (from : List ℕ) (synced : Bool)
    (tape tape' : List Operation) where
  -- the rows that it touches
  abbrev pub Touched : ℕ → Type 0
  Touched = IsTouched shape first count

  -- where they are synced, they stand, or every role is whole
  abbrev pub AreSynced : (ℕ → Sector) → Type 0
  AreSynced list = synced ≡ true → AreWhole new ⊎ RowsStandAmong shape Touched old (present given tape) list

  module _ {tells : Type 0} where
    -- it keeps the array safe, by the whole list
    pub safe-put : is_reshaping old.newest ≡ false → {begun : Bool}
        → (tells → (world : World) → (told : Ledger) → HasRoomLeft old tape tape' → AreGoneTold told new → told.unclean ≡ true → (list list' : ℕ → Sector) → IsWritten list list' first from
        → DataStandsAmong shape Touched old (present given tape) list → AreSynced list → IsOfRegion old shape Touched → (begun ≡ true → AreWritesAllowed old told.values list')
        → (OpensFit world → IsTailZero old.newest list') → IsSafeOver world given told old tape → KeepsSafe world given told new tape tape')
        → tells → (world : World) → (told : Ledger) → HasRoomLeft old tape tape' → AreGoneTold told new → told.unclean ≡ true → (list list' : ℕ → Sector) → IsWritten list list' first from
        → ListStands old (present given tape) list → AreSynced list → (begun ≡ true → AreWritesAllowed old told.values list')
        → IsSafeOver world given told old tape → KeepsSafe world given told new tape tape'
    safe-put still safe t world told room gone unclean list list' written stands rows allowed began =
        safe t world told room gone unclean list list' written (list-among shape old same (present given tape) list Touched stands) rows (region-in old shape Touched same still) allowed (λ fit. tail-still old.newest still list') began

    module _ (fits : length from / 512 ≤ count) (others : tells → AreOtherRowsKept Touched (reading_of new) (present given tape) (present given tape')) where
      -- the other rows hold what they held
      apart : (list list' : ℕ → Sector) → IsWritten list list' first from → (row : ℕ) → (Touched row → ⊥) → (x : ℕ) → (place (shape_of old.newest) x).row ≡ row → list' x ≡ list x
      apart list list' written row none x at = untouched-same shape first count from fits list list' written row none x (subst (λ (s : Shape). (place s x).row ≡ row) (sym same) at)

      -- the whole list stands behind it
      pub list-written : (tells → (list list' : ℕ → Sector) → IsWritten list list' first from → DataStandsAmong shape Touched old (present given tape) list → DataStandsAmong shape Touched new (present given tape') list')
          → tells → (list list' : ℕ → Sector) → IsWritten list list' first from → ListStands old (present given tape) list → ListStands new (present given tape') list'
      list-written put t list list' written stands =
          list-put given old new moved was (present given tape) (present given tape') Touched (touched-or-not shape first count) (others t) list list' (apart list list' written) stands
          (subst (λ (s : Shape). DataStandsAmong s Touched new (present given tape') list') same (put t list list' written (list-among shape old same (present given tape) list Touched stands)))

      -- a row stands that it touches, or that stood before
      pub rows-written : (tells → (list list' : ℕ → Sector) → IsWritten list list' first from → DataStandsAmong shape Touched old (present given tape) list → AreSynced list
          → (row : ℕ) → Touched row → row < old.newest.size → AreWholeIn shape list row → RowStands (reading_of new) (present given tape') shape list' row)
          → tells → (list list' : ℕ → Sector) → IsWritten list list' first from → ListStands old (present given tape) list → AreSynced list
          → (row : ℕ) → row < old.newest.size → AreWholeIn shape list row → Touched row ⊎ RowStands (reading_of old) (present given tape) shape list row → RowStands (reading_of new) (present given tape') shape list' row
      rows-written good t list list' written stands rows row below whole is = by is (touched-or-not shape first count row)
        where
          here : Touched row → RowStands (reading_of new) (present given tape') shape list' row
          here at = good t list list' written (list-among shape old same (present given tape) list Touched stands) rows row at below whole

          by : Touched row ⊎ RowStands (reading_of old) (present given tape) shape list row → Touched row ⊎ (Touched row → ⊥) → RowStands (reading_of new) (present given tape') shape list' row
          by (inl at) which = here at
          by (inr stood) (inl at) = here at
          by (inr stood) (inr none) = subst (λ (s : Shape). RowStands (reading_of new) (present given tape') s list' row) (sym same)
              (row-put given old new moved was (present given tape) (present given tape') Touched (touched-or-not shape first count) (others t) list list' (apart list list' written) row none (apart list list' written row none)
              (subst (λ (s : Shape). RowStands (reading_of old) (present given tape) s list row) same stood))

      -- what was rebuilt stays so
      pub rebuilt-written : (tells → (list list' : ℕ → Sector) → IsWritten list list' first from → DataStandsAmong shape Touched old (present given tape) list → AreSynced list
          → (role slot row : ℕ) → role < shape.disks → role_state (reading_of new) role ≡ Recovering slot → Touched row → row < old.newest.size
          → HasFull (reading_of old) (present given tape) shape list row role slot → HasFull (reading_of new) (present given tape') shape list' row role slot)
          → tells → (list list' : ℕ → Sector) → IsWritten list list' first from → ListStands old (present given tape) list → AreSynced list
          → (role slot row : ℕ) → role < shape.disks → role_state (reading_of new) role ≡ Recovering slot → row < old.newest.size
          → HasFull (reading_of old) (present given tape) shape list row role slot → HasFull (reading_of new) (present given tape') shape list' row role slot
      rebuilt-written rebuilt t list list' written stands rows role slot row lt is below full = elim (touched-or-not shape first count row) [
        | inl at ↦ rebuilt t list list' written (list-among shape old same (present given tape) list Touched stands) rows role slot row lt is at below full
        | inr none ↦ subst (λ (s : Shape). HasFull (reading_of new) (present given tape') s list' row role slot) (sym same)
            (rebuilt-put given old new moved was (present given tape) (present given tape') Touched (touched-or-not shape first count) (others t) list list' (apart list list' written) role slot row none
            (subst (λ (s : Shape). role < s.disks) same lt) is (subst (λ (s : Shape). HasFull (reading_of old) (present given tape) s list row role slot) same full))
      ]

-- ---- a stripe

module _ (given : Given) (old new : Members) (moved : IsMoved given old new) (was : IsPlaced given old) (shape : Shape) (same : shape ≡ shape_of old.newest) (stripe : ℕ) (tape tape' : List Operation) where
  -- its rows
  abbrev pub Striped : ℕ → Type 0
  Striped = IsOfStripe shape stripe

  among-list : (list : ℕ → Sector) → ListStands old (present given tape) list → DataStandsAmong shape Striped old (present given tape) list
  among-list list stands = list-among shape old same (present given tape) list Striped stands

  module _ {tells : Type 0} where
    -- a mend keeps the array safe, by the whole list
    pub safe-mend : is_reshaping old.newest ≡ false
        → (tells → (world : World) → (told : Ledger) → HasRoomLeft old tape tape' → AreGoneTold told new → told.unclean ≡ true → (list : ℕ → Sector) → DataStandsAmong shape Striped old (present given tape) list
        → IsOfRegion old shape Striped → AreWritesAllowed old told.values list → (OpensFit world → IsTailZero old.newest list) → IsSafeOver world given told old tape → KeepsSafe world given told new tape tape')
        → tells → (world : World) → (told : Ledger) → HasRoomLeft old tape tape' → AreGoneTold told new → told.unclean ≡ true → (list : ℕ → Sector) → ListStands old (present given tape) list
        → AreWritesAllowed old told.values list → IsSafeOver world given told old tape → KeepsSafe world given told new tape tape'
    safe-mend still safe t world told room gone unclean list stands allowed began =
        safe t world told room gone unclean list (among-list list stands) (region-in old shape Striped same still) allowed (λ fit. tail-still old.newest still list) began

    -- and makes its rows stand
    pub rows-mended : (tells → (list : ℕ → Sector) → DataStandsAmong shape Striped old (present given tape) list → (row : ℕ) → Striped row → AreWholeIn shape list row → RowStands (reading_of new) (present given tape') shape list row)
        → tells → (list : ℕ → Sector) → ListStands old (present given tape) list → (row : ℕ) → Striped row → AreWholeIn shape list row → RowStands (reading_of new) (present given tape') shape list row
    rows-mended mended t list stands = mended t list (among-list list stands)

    -- a rebuild fills its rows in, by the whole list and all rows
    pub full-filled : (role slot : ℕ)
        → (tells → (list : ℕ → Sector) → DataStandsAmong shape Striped old (present given tape) list → RowsStandAmong shape Striped old (present given tape) list → (row : ℕ) → Striped row
        → rows_held (reading_of old) (Recovering slot) ≤ row → HasFull (reading_of new) (present given tape') shape list row role slot)
        → tells → (list : ℕ → Sector) → ListStands old (present given tape) list → RowsStand old (present given tape) list → (row : ℕ) → Striped row
        → rows_held (reading_of old) (Recovering slot) ≤ row → HasFull (reading_of new) (present given tape') shape list row role slot
    full-filled role slot filled t list stands rows = filled t list (among-list list stands) (rows-among shape old same (present given tape) list Striped rows)

    module _ (others : tells → AreOtherRowsKept Striped (reading_of new) (present given tape) (present given tape')) where
      -- no less is missing of the shape
      without-in : DoWithout new → DoesWithout shape new
      without-in does = subst (λ (s : Shape). DoesWithout s new) (moved.shape ∙ sym same) does.old

      -- the whole list stands behind a mend
      pub list-mended : (DoesWithout shape new → tells → (list : ℕ → Sector) → DataStandsAmong shape Striped old (present given tape) list → DataStandsAmong shape Striped new (present given tape') list)
          → DoWithout new → tells → (list : ℕ → Sector) → ListStands old (present given tape) list → ListStands new (present given tape') list
      list-mended stood does t list stands =
          list-put given old new moved was (present given tape) (present given tape') Striped (stripe-or-not shape stripe) (others t) list list (λ row none x at. refl) stands
          (subst (λ (s : Shape). DataStandsAmong s Striped new (present given tape') list) same (stood (without-in does) t list (among-list list stands)))

      -- each row that stood stands
      pub rows-stay : (DoesWithout shape new → tells → (list : ℕ → Sector) → DataStandsAmong shape Striped old (present given tape) list → (row : ℕ) → Striped row
          → RowStands (reading_of old) (present given tape) shape list row → RowStands (reading_of new) (present given tape') shape list row)
          → DoWithout new → tells → (list : ℕ → Sector) → ListStands old (present given tape) list → (row : ℕ) → row < old.newest.size
          → RowStands (reading_of old) (present given tape) shape list row → RowStands (reading_of new) (present given tape') shape list row
      rows-stay kept does t list stands row below stood = elim (stripe-or-not shape stripe row) [
        | inl at ↦ kept (without-in does) t list (among-list list stands) row at stood
        | inr none ↦ subst (λ (s : Shape). RowStands (reading_of new) (present given tape') s list row) (sym same)
            (row-put given old new moved was (present given tape) (present given tape') Striped (stripe-or-not shape stripe) (others t) list list (λ r out x at. refl) row none (λ x at. refl)
            (subst (λ (s : Shape). RowStands (reading_of old) (present given tape) s list row) same stood))
      ]

      -- and what was rebuilt stays so
      pub rebuilt-stays : (DoesWithout shape new → tells → (list : ℕ → Sector) → DataStandsAmong shape Striped old (present given tape) list → (role slot row : ℕ) → role < shape.disks
          → role_state (reading_of new) role ≡ Recovering slot → Striped row → HasFull (reading_of old) (present given tape) shape list row role slot → HasFull (reading_of new) (present given tape') shape list row role slot)
          → DoWithout new → tells → (list : ℕ → Sector) → ListStands old (present given tape) list → (role slot row : ℕ) → role < shape.disks
          → role_state (reading_of new) role ≡ Recovering slot → row < old.newest.size
          → HasFull (reading_of old) (present given tape) shape list row role slot → HasFull (reading_of new) (present given tape') shape list row role slot
      rebuilt-stays rebuilt does t list stands role slot row lt is below full = elim (stripe-or-not shape stripe row) [
        | inl at ↦ rebuilt (without-in does) t list (among-list list stands) role slot row lt is at full
        | inr none ↦ subst (λ (s : Shape). HasFull (reading_of new) (present given tape') s list row role slot) (sym same)
            (rebuilt-put given old new moved was (present given tape) (present given tape') Striped (stripe-or-not shape stripe) (others t) list list (λ r out x at. refl) role slot row none
            (subst (λ (s : Shape). role < s.disks) same lt) is (subst (λ (s : Shape). HasFull (reading_of old) (present given tape) s list row role slot) same full))
      ]
