-- Members that say what the stored superblocks do, also after an update.
use Rattle.std.specs.Prelude.{◌≡◌, ℕ, true, false, List, Option, Some, None}
use Rattle.sb_specs.specs.raid_types_Sectors.{Sector}
use Rattle.sb_specs.specs.raid_types_Shapes.{has_slot}
use Rattle.sb_specs.specs.sb_codec_the_Sb.{Sb}
use Rattle.sb_specs.specs.declared.change.Change.{Change}
use Rattle.sb_specs.specs.declared.members.Members.{Members}
use Rattle.sb_specs.specs.Reading.{Scope, is_recovering, data_offset_of}
use Rattle.sb_specs.specs.Update.{give_of, own_in, planned_role, is_planned_spare}
use Rattle.sb_specs.specs.Outcome.{live_set, planned_roles, planned_spares}
use Rattle.sb_specs.specs.Reads.{has_spare}
use Rattle.sb_specs.specs.Held.{AreHeld, said_by}
use Rattle.sb_specs.specs.Stages.{AreLeft, AreKept}
use Rattle.sb_specs.specs.Rounds.{Round, IsReady}
use Rattle.sb_specs.specs.Crash.{IsWithin, AreHeldAsPlanned}
use Rattle.sb_specs.specs.Plans.{next_newest, IsFitChange}

-- the roles and the spares are those that the known superblocks say
pub record AreSaid (scope : Scope) (known : ℕ) (members : Members) : Type 0 where
  pub roles : members.roles ≡ (said_by scope known members.own members.newest).roles
  pub spares : members.spares ≡ (said_by scope known members.own members.newest).spares

-- A slot that becomes a spare doesn't recover, and has no role.
abbrev pub AreSparesFit : ℕ → Members → Change → Type 0
AreSparesFit left members change =
    (s : ℕ) (sb : Sb) → has_slot left s ≡ true → own_in members.own s ≡ Some sb → has_spare members.spares s ≡ false
    → is_planned_spare members.spares change.added (give_of change.gives s) s ≡ true
    → (is_recovering sb ≡ false) × (planned_role members.roles (give_of change.gives s) s ≡ None)

-- The superblocks that are kept of an update, in which the newest is this one, say the roles and the spares that it plans without these
-- lost slots, and each slot has the data offset that it had.
pub record AreSaidAsPlanned (scope : Scope) (known lost left : ℕ) (members : Members) (change : Change) (newest : Sb) (own' : List (Option Sb)) : Type 0 where
  pub roles : (said_by scope left own' newest).roles ≡ planned_roles members change lost
  pub spares : (said_by scope left own' newest).spares ≡ planned_spares members change lost
  pub starts : (s : ℕ) → has_slot left s ≡ true → data_offset_of (said_by scope left own' newest) s ≡ data_offset_of (said_by scope known members.own members.newest) s

-- So they do in one in which no slot is lost, where the members said what was known before it.
abbrev pub MembersStaySaid : Type 0
MembersStaySaid = (scope : Scope) (known lost left : ℕ) (members : Members) (change : Change) (own' : List (Option Sb)) (d : ℕ → ℕ → List Sector)
    → AreHeld scope known lost members.newest members.own d → IsWithin left known → IsFitChange known lost left members change → AreLeft (live_set members change) lost left
    → AreKept (next_newest members change lost lost) change.gives members.own left own' → AreSaid scope known members → AreSparesFit left members change
    → AreSaidAsPlanned scope known lost left members change (next_newest members change lost lost) own'

-- And in one in which slots are lost, live ones alone: without the slots that its last round named.
abbrev pub MembersStaySaidInRounds : Type 0
MembersStaySaidInRounds = (scope : Scope) (known left before : ℕ) (members : Members) (change : Change) (d : ℕ → ℕ → List Sector) (last : Round)
    → IsReady scope known left members change (live_set members change) d → AreSaid scope known members → AreSparesFit left members change
    → (end : AreHeldAsPlanned scope members change before (live_set members change) last)
    → ((s : ℕ) → has_slot before s ≡ false → has_slot end.named s ≡ true → has_slot (live_set members change) s ≡ true)
    → AreSaidAsPlanned scope known end.named end.known members change last.newest end.own
