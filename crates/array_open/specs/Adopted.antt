-- An array in a reshape that is taken over from its superblocks.
use Rattle.std.specs.Prelude.{◌≡◌, ◌⊎◌, ℕ, List, [], length, replicate, Some, None}
use Rattle.array_create_assemble.specs.raid_types_Search.{tabulate}
use Rattle.array_create_assemble.specs.raid_types_the_Fault.{Fault}
use Rattle.array_create_assemble.specs.raid_types_the_Fault_TheVariants.{Refused, NoMemory}
use Rattle.array_create_assemble.specs.raid_types_the_Refusal_TheVariants.{BackupAbsent}
use Rattle.array_create_assemble.specs.bank_the_Operation.{Operation}
use Rattle.array_create_assemble.specs.bank_Given.{Given, IsFaulted}
use Rattle.array_create_assemble.specs.sb_specs_the_Members.{Members}
use Rattle.array_steps.specs.stripe_row_Rows.{present, members_without}
use Rattle.array_steps.specs.crash_views_Regions.{header_in, open_by}
use Rattle.array_create_assemble.specs.array_members_the_Work.{Work}
use Rattle.array_steps.specs.array_call_specs_Adopting.{bearers_of}
use Rattle.array_reshaping_open_laws.specs.reshape_request_Left.{phases_of}
use Rattle.array_reshaping_open_laws.specs.array_open_window_Finding.{window_for}
use Rattle.array_reshaping_open_laws.specs.array_open_window_Recovering.{AreRecovering}
use Rattle.array_reshaping_open_laws.specs.Opening.{scope_of, opening_entries, found_course, found_resync}
use Rattle.array_steps.specs.array_specs_Parts.{RunningParts}

-- What is under way beside the reshape: a resync, where the array is dirty. No role is rebuilt.
abbrev pub moving_work : Members → Work
moving_work members = record {
  resync = found_resync members;
  rebuilt = replicate 16 0;
  carried = tabulate 128 (bearers_of members.own);
}

-- An array in a reshape that was just taken over, as its superblocks say, but that the slots are lost which recover a role: the losses that it found stand first. Its window is the one
-- that the backup's header tells, with nothing copied and nothing zeroed, and it has no plan behind the reshape, and no limit.
pub record IsMovingAdopted {B : Type 0} (tells : Type 0) (bank : Given) (tape : List Operation) (slots backup : ℕ) (former : Members) (made : RunningParts B) : Type 0 where
  pub uuid : made.parts.uuid ≡ former.newest.set_uuid
  pub given : made.parts.given ≡ slots
  pub first : tells → made.parts.first ≡ length tape
  pub last : made.parts.last ≡ made.parts.first
  pub entries : made.parts.entries ≡ opening_entries made.parts.first made.parts.members
  pub backup_is : made.parts.backup ≡ Some backup
  pub recovering : ℕ
  pub are : AreRecovering former recovering
  pub members_are : made.parts.members ≡ members_without recovering former
  pub work : made.parts.work ≡ moving_work made.parts.members
  pub course : made.course ≡ found_course made.course.window
  pub window : tells → made.course.window ≡ window_for (open_by (scope_of bank slots backup former) former.newest (header_in (scope_of bank slots backup former) (present bank tape)))
  pub planless : phases_of made.ahead ≡ []
  pub unlimited : made.limit ≡ None

-- why it isn't taken over: there was no memory, before any device call, or the backup failed
abbrev pub IsNotAdopted : {B : Type 0} → ℕ → B → B → (ℕ → ℕ) → (ℕ → ℕ) → Fault → Type 0
IsNotAdopted backup bank left before after fault = ((fault ≡ NoMemory) × (left ≡ bank)) ⊎ ((fault ≡ Refused BackupAbsent) × IsFaulted backup before after)
