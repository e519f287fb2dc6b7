-- An array that an opening found, and that runs.
use Rattle.std.specs.Prelude.{◌≡◌, ℕ, true, List, [], length, map, Option, Some, None, IfSome, MatchBool}
use Rattle.array_create_assemble.specs.bank_the_Operation.{Operation}
use Rattle.array_create_assemble.specs.bank_Given.{Given}
use Rattle.array_create_assemble.specs.bank_Tape.{contents}
use Rattle.array_create_assemble.specs.sb_specs_the_Members.{Members}
use Rattle.array_create_assemble.specs.sb_specs_Reading.{is_reshaping}
use Rattle.array_create_assemble.specs.history_Left.{opened_role}
use Rattle.array_steps.specs.crash_views_Regions.{DoWithout}
use Rattle.array_reshaping_open_laws.specs.reshape_request_Left.{phases_of}
use Rattle.array_steps.specs.array_specs_Parts.{RunningParts}
use Rattle.array_create_assemble.specs.Opening.{AreGiven, IsFound}
use Rattle.array_create_assemble.specs.Running.{IsAssembled}
use Rattle.array_open.specs.Adopted.{IsMovingAdopted}

-- An array without an active reshape: it was just found, of the uuid that was asked for, if one was, and has neither a plan nor a limit.
pub record IsStillFound {B : Type 0} (tells : Type 0) (bank : Given) (tape : List Operation) (backup : Option ℕ) (asked : Option (List ℕ)) (before after : ℕ → ℕ) (found : RunningParts B) : Type 0 where
  pub assembled : IsAssembled tells bank tape backup asked before after found.parts
  pub planless : phases_of found.ahead ≡ []
  pub unlimited : found.limit ≡ None

-- An array in a reshape: what was found is taken over, with its roles as an opening counts them, so that a slot that recovers one counts as absent; and it can do without what is missing.
pub record IsMovingFound {B : Type 0} (tells : Type 0) (bank : Given) (tape : List Operation) (backup : Option ℕ) (asked : Option (List ℕ)) (before after : ℕ → ℕ) (found : RunningParts B) : Type 0 where
  pub former : Members
  pub slot : ℕ
  pub backup_is : backup ≡ Some slot
  pub opened : IsFound tells bank (contents bank.start tape (length tape)) backup asked (record { members = former; given = found.parts.given })
  pub active : is_reshaping former.newest ≡ true
  pub adopted : IsMovingAdopted tells bank tape found.parts.given slot former found
  pub roles : found.parts.members.roles ≡ map (opened_role true) former.roles
  pub does : DoWithout found.parts.members
  pub given : AreGiven bank found.parts.given before after
  pub named : IfSome asked (λ uuid. found.parts.uuid ≡ uuid)

-- It is in a reshape or not as its superblocks tell.
abbrev pub IsRunningFound : {B : Type 0} → Type 0 → Given → List Operation → Option ℕ → Option (List ℕ) → (ℕ → ℕ) → (ℕ → ℕ) → RunningParts B → Type 0
IsRunningFound tells bank tape backup asked before after found =
    MatchBool (is_reshaping found.parts.members.newest) (IsMovingFound tells bank tape backup asked before after found) (IsStillFound tells bank tape backup asked before after found)
