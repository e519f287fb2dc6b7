-- A write of an array in a reshape whose window may be unsure: why it isn't done, and its reply.
use Rattle.std.specs.Prelude.{IfSome, IsErr, OnOk, OnErr}
use Rattle.std.proofs.Common.{◌≡◌, ◌⊎◌, inl, inr, ℕ, ◌+◌, false, Option, Result, Ok, Err, List, length, refl, sym, ap, subst}
use Rattle.array_fixed_laws.specs.raid_types_Sectors.{Sector}
use Rattle.array_fixed_laws.specs.raid_types_the_Fault.{Fault as AnyFault}
use Rattle.array_fixed_laws.specs.raid_types_the_Fault_TheVariants.{Refused as IsRefusedWith, NoMemory}
use Rattle.array_fixed_laws.specs.raid_types_the_Refusal.{Refusal}
use Rattle.array_fixed_laws.specs.raid_types_the_Refusal_TheVariants.{PastEnd, BackupFault}
use Rattle.array_fixed_laws.specs.raid_types_the_Who.{Who}
use Rattle.array_fixed_laws.specs.raid_types_the_Span.{Span}
use Rattle.reshape_window_backup.specs.bank_Given.{IsFaulted}
use Rattle.array_reshaping_resync_laws.specs.sb_specs_the_Members.{Members}
use Rattle.array_reshaping_resync_laws.specs.history_the_Entry.{Entry}
use Rattle.array_reshaping_resync_laws.specs.history_the_Event_TheVariants.{Refused}
use Rattle.array_reshaping_resync_laws.specs.history_Flat.{next_number, length_of, limit_of}
use Rattle.array_reshaping_resync_laws.specs.crash_views_Regions.{DoWithout}
use Rattle.array_reshaping_resync_laws.specs.array_members_Lacking.{AreTooMany}
use Rattle.array_reshaping_resync_laws.proofs.array_members_LackingLaws.{never-both}
use Rattle.array_fixed_laws.specs.array_call_specs_Calls.{IsRefusedFor, IsCausedBy}
use Rattle.array_fixed_laws.proofs.array_call_specs_LossLaws.{behind-alone}
use Rattle.array_reshaping_resync_laws.specs.reshape_request_the_Window.{Window}
use Rattle.array_reshaping_resync_laws.specs.reshape_request_the_Window_TheVariants.{Unsure}
use Rattle.array_reshaping_resync_laws.specs.reshape_progress_the_Course.{Course}
use Rattle.array_reshaping_resync_laws.specs.reshape_progress_Laws.{closed, unsure}
use Rattle.array_reshaping_resync_laws.specs.stripe_region_write_Runs.{IsListUnwritten}
use Rattle.array_fixed_laws.specs.array_reshaping_state_Left.{visible_by}
use Rattle.array_fixed_laws.specs.array_specs_Calls.{IsStepTaken, IsEnterCaused}
use Rattle.array_reshaping_resync_laws.specs.history_the_StepKind.{StepKind}
use Rattle.array_fixed_laws.specs.array_reshaping_state_Due.{open_in}
use Rattle.array_reshaping_laws.specs.Writing.{TouchesUnsure, IsWriteLacked, IsWriteBarred, IsWriteEntered, IsWriteAnswered, IsWriteReplied, IsRefusedAlone}
use Rattle.array_reshaping_laws.proofs.WriteReplies.{lacked-missing, write-answered}

-- ---- none of its sectors lies in an unsure window

pub sure-caused : {T : Type 0} (window : Window) (visible relied at to : ℕ) (old new : Members) (result : Result T AnyFault) → (TouchesUnsure window at to → ⊥)
    → IsCausedBy visible to (IsWriteLacked window relied at to) old new result → IsCausedBy visible to (IsWriteBarred window relied at to) old new result
sure-caused window visible relied at to old new (Ok x) none caused = (caused.0, λ refusal which. elim which [ inl lacked ↦ caused.1 refusal lacked | inr barred ↦ none barred.0 ])
sure-caused window visible relied at to old new (Err (IsRefusedWith refusal)) none caused = by refusal caused
  where
    by : (refusal : Refusal) → IsRefusedFor visible to (IsWriteLacked window relied at to) old new refusal → IsRefusedFor visible to (IsWriteBarred window relied at to) old new refusal
    by (PastEnd told) is = is
    by refusal is = (is.0, inl is.1)
sure-caused window visible relied at to old new (Err NoMemory) none caused = caused

pub sure-replied : {T : Type 0} (window : Window) (size visible relied at to : ℕ) (body : List Sector) (who : Who) (old new : List Entry) (m m' : Members) (result : Result T AnyFault)
    → IsCausedBy visible to (IsWriteLacked window relied at to) m m' result → IsWriteAnswered size at body who old new result → IsWriteReplied size at body who old new result
sure-replied window size visible relied at to body who old new m m' (Ok x) caused answered = answered
sure-replied window size visible relied at to body who old new m m' (Err (IsRefusedWith refusal)) caused answered = by refusal caused answered
  where
    by : (refusal : Refusal) → IsRefusedFor visible to (IsWriteLacked window relied at to) m m' refusal → IsWriteAnswered {T = ℕ} size at body who old new (Err (IsRefusedWith refusal))
        → IsWriteReplied {T = ℕ} size at body who old new (Err (IsRefusedWith refusal))
    by BackupFault why answered = absurd ((lacked-missing window relied at to m' BackupFault why.1).0)
    by refusal why answered = answered
sure-replied window size visible relied at to body who old new m m' (Err NoMemory) caused answered = answered

-- ---- one of them does

-- nothing is entered but why it isn't done
pub alone-taken : {T : Type 0} (who : Who) (old new : List Entry) (kind : StepKind) (left : ℕ) (result : Result T AnyFault) → IsRefusedAlone who old new result → IsStepTaken who old new kind left result
alone-taken who old new kind left (Ok x) alone = absurd alone
alone-taken who old new kind left (Err (IsRefusedWith refusal)) alone = behind-alone who alone.0 (Refused refusal) refl alone.1
alone-taken who old new kind left (Err NoMemory) alone = absurd alone

pub err-ok : {T E : Type 0} (P : Type 0) (result : Result T E) → IsErr result → OnOk result P
err-ok P (Ok x) is = absurd (cc)
err-ok P (Err e) is = tt

-- it ends past the list, or too many roles are missing
pub unwritten-barred : (window : Window) (visible relied at to : ℕ) (m : Members) (refusal : Refusal) → IsRefusedFor visible to (IsListUnwritten (open_in window) relied at to) m m refusal → IsRefusedFor visible to (IsWriteBarred window relied at to) m m refusal
unwritten-barred window visible relied at to m (PastEnd told) is = is
unwritten-barred window visible relied at to m refusal is = (is.0, inl (inl is.1))

pub barred-entered : {T : Type 0} (window : Window) (at to : ℕ) (body : List Sector) (who : Who) (old mid new : List Entry) (left : ℕ) (result : Result T AnyFault) → mid ≡ old → IsRefusedAlone who mid new result
    → IsWriteEntered window at to body who old new left result
barred-entered window at to body who old mid new left (Ok x) same alone = absurd alone
barred-entered window at to body who old mid new left (Err (IsRefusedWith refusal)) same alone = let behind = behind-alone who alone.0 (Refused refusal) refl alone.1 in (mid, inr same, behind.roles, behind.spares, false, behind.end, behind.is)
barred-entered window at to body who old mid new left (Err NoMemory) same alone = absurd alone

module _ (window : Window) (size : ℕ) (limit : Option ℕ) (relied at to : ℕ) (body : List Sector) (who : Who) (old new : List Entry) (m m' : Members) (left : ℕ) (end-is : to ≡ at + length body)
    (number : who.number ≡ next_number who.caller old) (sized : length_of size old ≡ size) (limited : limit_of old ≡ limit) where
  pub barred-replied : {T : Type 0} (result : Result T AnyFault) → IsRefusedAlone who old new result → IsCausedBy (visible_by size limit) to (IsWriteBarred window relied at to) m m' result → IsWriteReplied size at body who old new result
  barred-replied (Ok x) alone caused = absurd alone
  barred-replied (Err (IsRefusedWith refusal)) alone caused = by refusal alone caused
    where
      entered : (refusal : Refusal) → IsRefusedAlone {T = ℕ} who old new (Err (IsRefusedWith refusal)) → IsWriteEntered {T = ℕ} window at to body who old new left (Err (IsRefusedWith refusal))
      entered refusal alone = let behind = behind-alone who alone.0 (Refused refusal) refl alone.1 in (old, inr refl, behind.roles, behind.spares, false, behind.end, behind.is)

      by : (refusal : Refusal) → IsRefusedAlone {T = ℕ} who old new (Err (IsRefusedWith refusal)) → IsRefusedFor (visible_by size limit) to (IsWriteBarred window relied at to) m m' refusal
          → IsWriteReplied {T = ℕ} size at body who old new (Err (IsRefusedWith refusal))
      by BackupFault alone why = alone
      by (PastEnd told) alone why = write-answered window size limit relied at to body who old new m m' left end-is number sized limited {T = ℕ} (Err (IsRefusedWith (PastEnd told))) (entered (PastEnd told) alone) why
      by refusal alone why = write-answered window size limit relied at to body who old new m m' left end-is number sized limited {T = ℕ} (Err (IsRefusedWith refusal)) (entered refusal alone)
          (why.0, elim why.1 [ inl lacked ↦ lacked | inr barred ↦ absurd (let other = barred.1 in cc) ])
  barred-replied (Err NoMemory) alone caused = absurd alone

-- it is never refused for the backup where none does
pub sure-never : {T : Type 0} {P : Type 0} (window : Window) (visible relied at to : ℕ) (old new : Members) (result : Result T AnyFault) → IsCausedBy visible to (IsWriteLacked window relied at to) old new result
    → result ≡ Err (IsRefusedWith BackupFault) → P
sure-never {T = T} window visible relied at to old new result caused is =
    let why = subst (λ (r : Result T AnyFault). IsCausedBy visible to (IsWriteLacked window relied at to) old new r) is caused in
    absurd ((lacked-missing window relied at to new BackupFault why.1).0)

-- ---- a window is entered, or not

-- where a window that is unsure speaks for more missing roles than the shapes tolerate, and these do without, none is
pub closed-of : (course : Course) (span : Span) (m : Members) → (course ≡ closed 0) ⊎ (course ≡ unsure span) → ((s : Span) → course.window ≡ Unsure s → (refusal : Refusal) × AreTooMany m refusal) → DoWithout m → course ≡ closed 0
closed-of course span m (inl is) sure does = is
closed-of course span m (inr is) sure does = absurd (let many = sure span (ap (λ (k : Course). k.window) is) in never-both m many.0 does many.1)

-- the backup failed again
pub barred-enter : {T : Type 0} (backup : Option ℕ) (old new : Members) (before after : ℕ → ℕ) (result : Result T AnyFault) → result ≡ Err (IsRefusedWith BackupFault) → IfSome backup (λ slot. IsFaulted slot before after)
    → IsEnterCaused backup old new before after result
barred-enter {T = T} backup old new before after result is failed = subst (λ (r : Result T AnyFault). IsEnterCaused backup old new before after r) (sym is) (inr (refl, failed))

pub refused-err : {T : Type 0} (result : Result T AnyFault) (refusal : Refusal) → result ≡ Err (IsRefusedWith refusal) → IsErr result
refused-err result refusal is = cc

pub err-any : {T E : Type 0} {P : Type 0} (result : Result T E) → P → OnErr result P
err-any (Ok x) is = tt
err-any (Err e) is = is

-- what fails isn't done
pub never-done : {T E : Type 0} (result : Result T E) (x : T) → result ≡ Ok x → IsErr result → ⊥
never-done (Ok y) x is failed = absurd (cc)
never-done (Err e) x is failed = absurd (cc)
