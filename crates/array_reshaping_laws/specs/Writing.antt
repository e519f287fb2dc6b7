-- What a write of an array in a reshape enters, and why it isn't done.
use Rattle.std.specs.Prelude.{◌≡◌, ◌⊎◌, ℕ, ◌+◌, ◌-◌, ◌<◌, ◌≤◌, ◌++◌, Bool, true, List, [], ◌∷◌, Result, Ok, Err}
use Rattle.std.specs.List.{All}
use Rattle.array_fixed_laws.specs.raid_types_Sectors.{Sector}
use Rattle.array_fixed_laws.specs.raid_types_the_Fault.{Fault}
use Rattle.array_fixed_laws.specs.raid_types_the_Fault_TheVariants.{Refused as IsRefusedWith, NoMemory}
use Rattle.array_fixed_laws.specs.raid_types_the_Refusal.{Refusal}
use Rattle.array_fixed_laws.specs.raid_types_the_Refusal_TheVariants.{BackupFault}
use Rattle.array_fixed_laws.specs.raid_types_the_Who.{Who}
use Rattle.array_fixed_laws.specs.raid_types_the_Span.{Span}
use Rattle.reshape_window_backup.specs.sb_codec_the_Sb.{Sb}
use Rattle.array_reshaping_resync_laws.specs.sb_specs_the_Members.{Members}
use Rattle.array_reshaping_resync_laws.specs.history_the_Entry.{Entry}
use Rattle.array_reshaping_resync_laws.specs.history_the_Event.{Event}
use Rattle.array_reshaping_resync_laws.specs.history_the_Event_TheVariants.{Step, Wrote, Refused}
use Rattle.array_reshaping_resync_laws.specs.history_the_Request.{Request}
use Rattle.array_reshaping_resync_laws.specs.history_the_Request_TheVariants.{Write as AsksWrite}
use Rattle.array_reshaping_resync_laws.specs.history_OneShape.{IsOfCall, OneShapeFits}
use Rattle.array_reshaping_resync_laws.specs.history_the_StepKind_TheVariants.{WindowFinished as FinishesWindow}
use Rattle.array_reshaping_resync_laws.specs.history_Plain.{entries_of}
use Rattle.array_reshaping_resync_laws.specs.history_Stands.{covers}
use Rattle.array_reshaping_resync_laws.specs.array_members_Lacking.{AreTooMany}
use Rattle.array_reshaping_resync_laws.specs.history_append_Losing.{failure_events}
use Rattle.array_fixed_laws.specs.array_call_specs_Calls.{IsBehind, StandsInside}
use Rattle.array_reshaping_resync_laws.specs.history_invariant_Recorded.{entry_of}
use Rattle.array_reshaping_resync_laws.specs.stripe_region_write_Runs.{IsListUnwritten}
use Rattle.array_reshaping_resync_laws.specs.reshape_request_the_Window.{Window}
use Rattle.array_reshaping_resync_laws.specs.reshape_request_the_Window_TheVariants.{Closed, Entered, Unsure}
use Rattle.array_reshaping_resync_laws.specs.reshape_request_Left.{stripes_in}
use Rattle.array_reshaping_resync_laws.specs.reshape_progress_Laws.{entered}
use Rattle.array_fixed_laws.specs.array_reshaping_state_Due.{open_in, unsure_in}
use Rattle.array_fixed_laws.specs.array_specs_Parts.{RunningParts}

-- a window is entered
pub record IsWindowOpen {B : Type 0} (array : RunningParts B) : Type 0 where
  pub span : Span
  pub copied : ℕ
  pub sectioned : Bool
  pub is : array.course ≡ entered span copied sectioned

-- the steps that an entered window still has: its stripes that are left to copy, and its recording
abbrev pub steps_in : Sb → Window → ℕ
steps_in newest Closed = 0
steps_in newest (Entered span copied sectioned) = (stripes_in newest span - copied) + 1
steps_in newest (Unsure span) = 0

-- one of the sectors from this one up to that one lies in the entered window
abbrev pub TouchesWindow : Window → ℕ → ℕ → Type 0
TouchesWindow window from to = (x : ℕ) × (from ≤ x) × (x < to) × (covers (open_in window) x ≡ true)

-- Why a write isn't done: too many roles are missing, or one of its sectors outside the entered window can't be written; or it touches that window, and more roles of
-- a shape in force are missing than it tolerates.
abbrev pub IsWriteLacked : Window → ℕ → ℕ → ℕ → Members → Refusal → Type 0
IsWriteLacked window relied from to m refusal = IsListUnwritten (open_in window) relied from to m refusal ⊎ (TouchesWindow window from to × AreTooMany m refusal)

-- one of them lies in a window that is unsure
abbrev pub TouchesUnsure : Window → ℕ → ℕ → Type 0
TouchesUnsure window from to = (x : ℕ) × (from ≤ x) × (x < to) × (covers (unsure_in window) x ≡ true)

-- So it is of each write; but one that touches an unsure window isn't done, as the backup has failed.
abbrev pub IsWriteBarred : Window → ℕ → ℕ → ℕ → Members → Refusal → Type 0
IsWriteBarred window relied from to m refusal = IsWriteLacked window relied from to m refusal ⊎ (TouchesUnsure window from to × (refusal ≡ BackupFault))

-- A call entered what it lost, and behind it that the sectors are written, or why they aren't, behind what it tore.
abbrev pub IsPutEntered : {T : Type 0} → Who → List Entry → List Entry → ℕ → List Sector → Result T Fault → Type 0
IsPutEntered who old new at body (Ok x) = IsBehind who old new (Wrote at body)
IsPutEntered who old new at body (Err (IsRefusedWith refusal)) = (roles : ℕ) × (spares : ℕ) × (torn : Bool) × (end : ℕ) × (new ≡ old ++ entries_of who end (failure_events roles spares torn at body refusal))
IsPutEntered who old new at body (Err NoMemory) = ⊥

-- a call entered nothing but why it isn't done
abbrev pub IsRefusedAlone : {T : Type 0} → Who → List Entry → List Entry → Result T Fault → Type 0
IsRefusedAlone who old new (Ok x) = ⊥
IsRefusedAlone who old new (Err (IsRefusedWith refusal)) = (end : ℕ) × (new ≡ old ++ entry_of who end (Refused refusal) ∷ [])
IsRefusedAlone who old new (Err NoMemory) = ⊥

-- If it touches the entered window, what was lost as that was finished, and that it was, with the steps that were left then, stand before.
abbrev pub IsFinishedFirst : Window → ℕ → ℕ → Who → List Entry → List Entry → ℕ → Type 0
IsFinishedFirst window from to who old mid left =
    (TouchesWindow window from to × IsBehind who old mid (Step FinishesWindow left)) ⊎ ((TouchesWindow window from to → ⊥) × (mid ≡ old))

-- So it is of a write; but one that is refused may leave the window as it was.
abbrev pub IsWriteEntered : {T : Type 0} → Window → ℕ → ℕ → List Sector → Who → List Entry → List Entry → ℕ → Result T Fault → Type 0
IsWriteEntered window at to body who old new left (Ok x) = (mid : List Entry) × IsFinishedFirst window at to who old mid left × IsBehind who mid new (Wrote at body)
IsWriteEntered window at to body who old new left (Err (IsRefusedWith refusal)) = (mid : List Entry) × (IsFinishedFirst window at to who old mid left ⊎ (mid ≡ old))
    × (roles : ℕ) × (spares : ℕ) × (torn : Bool) × (end : ℕ) × (new ≡ mid ++ entries_of who end (failure_events roles spares torn at body refusal))
IsWriteEntered window at to body who old new left (Err NoMemory) = new ≡ old

-- ---- its reply

-- A call was answered by this event, which fits its request and stands behind the other entries of the call, those of a step that it took first among them.
pub record IsRepliedBehind (size : ℕ) (request : Request) (who : Who) (old new : List Entry) (event : Event) : Type 0 where
  pub call : List Entry
  pub end : ℕ
  pub own : All (λ e. IsOfCall who e × StandsInside e.event) call
  pub is : new ≡ old ++ (call ++ entry_of who end event ∷ [])
  pub fits : OneShapeFits size (old ++ call) (entry_of who end event) request

-- the reply of a write by its answer
abbrev pub IsWriteAnswered : {T : Type 0} → ℕ → ℕ → List Sector → Who → List Entry → List Entry → Result T Fault → Type 0
IsWriteAnswered size at body who old new (Ok x) = IsRepliedBehind size (AsksWrite at body) who old new (Wrote at body)
IsWriteAnswered size at body who old new (Err (IsRefusedWith refusal)) = IsRepliedBehind size (AsksWrite at body) who old new (Refused refusal)
IsWriteAnswered size at body who old new (Err NoMemory) = new ≡ old

-- So it is of each write; but where the backup has failed, its refusal is all that was entered.
abbrev pub IsWriteReplied : {T : Type 0} → ℕ → ℕ → List Sector → Who → List Entry → List Entry → Result T Fault → Type 0
IsWriteReplied size at body who old new (Ok x) = IsRepliedBehind size (AsksWrite at body) who old new (Wrote at body)
IsWriteReplied size at body who old new (Err (IsRefusedWith BackupFault)) = (end : ℕ) × (new ≡ old ++ entry_of who end (Refused BackupFault) ∷ [])
IsWriteReplied size at body who old new (Err (IsRefusedWith refusal)) = IsRepliedBehind size (AsksWrite at body) who old new (Refused refusal)
IsWriteReplied size at body who old new (Err NoMemory) = new ≡ old
