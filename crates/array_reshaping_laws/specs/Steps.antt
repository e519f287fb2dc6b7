-- Which step of an array in a reshape is done next, what it makes of a pending resync and of the mark, and why it isn't done.
use Rattle.std.specs.Prelude.{◌≡◌, ℕ, true, Option, Some, None, Result, OnOk}
use Rattle.array_fixed_laws.specs.raid_types_the_Fault.{Fault}
use Rattle.array_reshaping_resync_laws.specs.sb_specs_the_Members.{Members}
use Rattle.array_reshaping_resync_laws.specs.sb_specs_Reading.{is_clean, list_length}
use Rattle.array_reshaping_resync_laws.specs.history_the_StepKind.{StepKind}
use Rattle.array_reshaping_resync_laws.specs.history_the_StepKind_TheVariants.{Entered, Copied, Checkpointed, Zeroed, Finished, ResyncStripe, ResyncEnded}
use Rattle.array_reshaping_resync_laws.specs.array_members_Lacking.{AreTooMany}
use Rattle.array_reshaping_resync_laws.specs.stripe_region_resync_Resyncs.{resync_shape, IsNotSynced}
use Rattle.array_fixed_laws.specs.array_call_specs_Calls.{one_more, IsCausedBy}
use Rattle.array_fixed_laws.specs.array_reshaping_state_the_Due.{Due}
use Rattle.array_fixed_laws.specs.array_reshaping_state_the_Due_TheVariants.{Copy, Record, Mend, EndResync, Enter, Zero, Finish}
use Rattle.array_fixed_laws.specs.array_specs_Calls.{IsEnterCaused}

-- the kind of the step that is entered where this one is done
abbrev pub kind_of : Due → StepKind
kind_of Copy = Copied
kind_of Record = Checkpointed
kind_of Mend = ResyncStripe
kind_of EndResync = ResyncEnded
kind_of Enter = Entered
kind_of Zero = Zeroed
kind_of Finish = Finished

-- how many stripes a pending resync has mended behind it
abbrev pub resync_behind : Due → Option ℕ → Option ℕ
resync_behind Mend resync = one_more resync
resync_behind EndResync resync = None
resync_behind due resync = resync

-- the end of a resync marks the array clean; each other step leaves the mark
abbrev pub IsMarkedBehind : {T : Type 0} → Due → Members → Members → Result T Fault → Type 0
IsMarkedBehind EndResync old new result = OnOk result (is_clean new.newest ≡ true)
IsMarkedBehind due old new result = is_clean new.newest ≡ is_clean old.newest

-- A step is done only where the array does without what it misses, and refused only where it doesn't behind it. A stripe isn't mended either where a role is missing that
-- has data by its shape; nor is a window entered where the backup failed.
abbrev pub IsStepCaused : {T : Type 0} → Due → Option ℕ → Option ℕ → Members → Members → (ℕ → ℕ) → (ℕ → ℕ) → Result T Fault → Type 0
IsStepCaused Enter resync backup old new before after result = IsEnterCaused backup old new before after result
IsStepCaused Mend resync backup old new before after result = (mended : ℕ) → resync ≡ Some mended → IsCausedBy (list_length old.newest) 0 (IsNotSynced (resync_shape old.newest mended)) old new result
IsStepCaused due resync backup old new before after result = IsCausedBy (list_length old.newest) 0 AreTooMany old new result
