-- What entering a window leaves, by how far its section came.
use Rattle.std.proofs.Common.{◌≡◌, ◌≢◌, ◌⊎◌, inl, inr, ℕ, ◌+◌, ◌<◌, Bool, true, false, Option, Some, None, List, refl, sym, ◌∙◌, ap, subst, arith}
use Rattle.std.specs.Prelude.{MatchOption, Result, Ok, Err, IsErr, is_some}
use Rattle.stripe_region_read.specs.raid_types_Sectors.{Sector}
use Rattle.stripe_region_read.specs.raid_types_the_Refusal.{Refusal}
use Rattle.reshape_progress.specs.raid_types_the_Refusal_TheVariants.{BackupFault}
use Rattle.stripe_region_read.specs.raid_types_the_Span.{Span}
use Rattle.stripe_region_read.specs.bank_the_Operation.{Operation}
use Rattle.stripe_region_read.specs.bank_Given.{Given, IsFaulted, NeverFalls}
use Rattle.stripe_region_read.specs.bank_Tape.{disk}
use Rattle.reshape_progress.proofs.bank_Causes.{faulted_longer}
use Rattle.reshape_progress.specs.sb_specs_the_Members.{Members}
use Rattle.reshape_progress.specs.sb_specs_Reading.{Scope, data_offset_of}
use Rattle.reshape_progress.specs.stripe_row_Rows.{present, reading_of}
use Rattle.reshape_progress.proofs.stripe_row_Written.{present-same}
use Rattle.reshape_progress.specs.bank_backup_the_SectionFault.{SectionFault}
use Rattle.reshape_progress.specs.bank_backup_the_SectionFault_TheVariants.{Before, Attempted}
use Rattle.reshape_progress.specs.crash_views_Regions.{backup_of, DoWithout}
use Rattle.reshape_progress.specs.crash_views_Views.{Disk}
use Rattle.reshape_progress.specs.crash_views_Windows.{HasNoSection}
use Rattle.reshape_progress.proofs.crash_views_Headers.{backup-is}
use Rattle.reshape_progress.specs.crash_safety_laws_Marking.{AreOthersPresent}
use Rattle.reshape_progress.specs.array_members_Lacking.{AreOtherRowsKept, AreTooMany}
use Rattle.reshape_progress.specs.array_members_Moving.{IsMoved}
use Rattle.reshape_progress.specs.array_members_Placed.{IsPlaced}
use Rattle.reshape_progress.proofs.array_members_LackingWrites.{others-same}
use Rattle.reshape_progress.specs.sb_safe_updates_Unused.{IsUnused, IsUnusedKept}
use Rattle.reshape_progress.proofs.sb_safe_updates_Unused.{unused-moved, unused-role}
use Rattle.reshape_progress.specs.reshape_window_rows_Copies.{HasWindow, IsRoomFor}
use Rattle.reshape_progress.proofs.reshape_window_steps_CopyLaws.{open-alike}
use Rattle.reshape_progress.specs.reshape_request_the_Window.{Window}
use Rattle.reshape_progress.specs.reshape_request_the_Window_TheVariants.{Closed, Entered, Unsure}
use Rattle.reshape_progress.specs.Course.{HasWindowIn}
use Rattle.reshape_window_backup.specs.Entering.{window_behind, refusal_in}

-- ---- the backup

-- no section is active on members that lost slots, none of them the backup
pub none-kept : (scope : Scope) (given : Given) (old new : Members) (slot : ℕ) (d e : Disk) → scope.backup ≡ Some slot → IsMoved given old new → IsUnused old slot → IsUnusedKept old d e
    → HasNoSection scope old d → HasNoSection scope new e
none-kept scope given old new slot d e there moved aside kept none header may =
    open-alike old.newest new.newest moved.reshape moved.shape moved.size scope header
    ∙ none header (kept (backup_of scope) 0 header (subst (IsUnused old) (sym (backup-is scope slot there)) aside) may)

-- no row is written where the backup alone is
pub rows-beside : (given : Given) (old new : Members) (slot : ℕ) (one two three : List Operation) → IsMoved given old new → IsPlaced given old → IsUnused old slot → AreOthersPresent (present given one) (present given two)
    → ((s k : ℕ) → s ≢ slot → disk given.start three s k ≡ disk given.start two s k) → AreOtherRowsKept (λ row. ⊥) (reading_of new) (present given one) (present given three)
rows-beside given old new slot one two three moved placed aside first beside row out role s held =
    present-same given two three s (data_offset_of (reading_of new) s + row)
    (beside s (data_offset_of (reading_of new) s + row) (λ at. unused-role given new moved.placed slot (unused-moved given old new moved slot aside) role (held ∙ ap (λ (a : ℕ). Some a) at)))
    ∙ others-same given (λ row. ⊥) old new (present given one) (present given two) moved placed first row out role s held

-- ---- the answer

pub none-in : (refusal : Option Refusal) → is_some refusal ≡ false → refusal ≡ None
none-in None is = refl
none-in (Some why) is = absurd (cc)

module _ {T : Type 0} where
  pub refused-in : (slot : ℕ) (m : Members) (a b c : ℕ → ℕ) (stored : Result T SectionFault) → DoWithout m → NeverFalls a b → NeverFalls b c → (IsErr stored → IsFaulted slot b c)
      → MatchOption (refusal_in stored) (DoWithout m) (λ refusal. AreTooMany m refusal ⊎ ((refusal ≡ BackupFault) × IsFaulted slot a c))
  refused-in slot m a b c (Ok x) does first second failed = does
  refused-in slot m a b c (Err fault) does first second failed = inr (refl, faulted_longer slot a b c c (first slot) (omega arith) (second slot) (failed (cc)))

  pub window-in : (span : Span) (sectioned : Bool) (stored : Result T SectionFault) (window : Window) → window ≡ window_behind span sectioned stored → (IsErr stored → sectioned ≡ true)
      → MatchOption (refusal_in stored) (window ≡ Entered span 0 sectioned) (λ refusal. (window ≡ Closed) ⊎ ((window ≡ Unsure span) × (sectioned ≡ true)))
  window-in span sectioned (Ok x) window is due = is
  window-in span sectioned (Err Before) window is due = inl is
  window-in span sectioned (Err Attempted) window is due = inr (is, due (cc))

  pub dead-in : (slot : ℕ) (span unsure : Span) (sectioned : Bool) (b c : ℕ → ℕ) (stored : Result T SectionFault) → window_behind span sectioned stored ≡ Unsure unsure → NeverFalls b c → (IsErr stored → IsFaulted slot b c) → 0 < c slot
  dead-in slot span unsure sectioned b c (Ok x) is rises failed = absurd (cc)
  dead-in slot span unsure sectioned b c (Err Before) is rises failed = absurd (cc)
  dead-in slot span unsure sectioned b c (Err Attempted) is rises failed = of (failed (cc))
    where
      of : IsFaulted slot b c → 0 < c slot
      of (inl rose) = omega (arith, rose)
      of (inr full) = let more = rises slot in omega (arith, full, more)

  pub has-in : (span : Span) (sectioned : Bool) (stored : Result T SectionFault) (bytes : List ℕ) (list : ℕ → Sector) → IsRoomFor span bytes → HasWindow span bytes list → HasWindowIn (window_behind span sectioned stored) bytes list
  has-in span sectioned (Ok x) bytes list room has = (room, has)
  has-in span sectioned (Err Before) bytes list room has = tt
  has-in span sectioned (Err Attempted) bytes list room has = (room, has)
