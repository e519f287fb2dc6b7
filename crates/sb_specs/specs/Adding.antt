-- An update that makes a slot a spare, by what images read.
use Rattle.std.specs.Prelude.{◌≡◌, ◌≢◌, ◌⊎◌, ℕ, ◌+◌, ◌^◌, ◌<◌, ◌≤◌, true, false, find, List, [], length, Option, Some, None, bytes_eq}
use Rattle.bank.specs.raid_types_Sectors.{Sector}
use Rattle.reshape_geometry.specs.raid_types_Shapes.{has_slot}
use Rattle.sb_codec.specs.declared.sb.Sb.{Sb}
use Rattle.bank.specs.Tape.{Contents, IsIn}
use Rattle.sb_specs.specs.declared.change.Change.{Change}
use Rattle.sb_specs.specs.declared.members.Members.{Members}
use Rattle.sb_specs.specs.Updating.{planned_newest, IsLater, AreNamed}
use Rattle.sb_specs.specs.Reading.{Scope, is_seen, is_fresh, lies_within}
use Rattle.sb_specs.specs.Verdict.{judged_fields}
use Rattle.sb_specs.specs.Update.{give_of, own_in, planned_role}
use Rattle.sb_specs.specs.Plans.{IsFitChange}
use Rattle.sb_specs.specs.Outcome.{with_added}
use Rattle.sb_specs.specs.Rounds.{Round, IsCatchingUpTo, IsInFirst, IsPastFirst, IsInNaming, ArePast, members_at, IsReadAsBefore}
use Rattle.sb_specs.specs.Reads.{HasNoLateRoles, IsSuited, IsReadAs}
use Rattle.sb_specs.specs.Held.{AreDrawn, MayRead, IsStamped, IsSecondHalf, Shows, AreHeld, AreExact, said_by}
use Rattle.sb_specs.specs.Stages.{AreLeft, AreKept}
use Rattle.sb_specs.specs.Crash.{IsWithin}

-- An image reads as planned, by the superblocks that are planned for live slots. Those that were lost by then are named, but
-- perhaps for such ones, which have no part in it. All that are named are among these last ones.
pub record IsReadAsPlannedBut (scope : Scope) (members : Members) (change : Change) (before live last : ℕ) (Unnamed : ℕ → Type 0) (c : Contents) : Type 0 where
  pub newest : Sb
  pub named : ℕ
  pub gone : ℕ
  pub lost : ℕ
  pub left : ℕ
  pub own : List (Option Sb)
  pub are : AreLeft live gone left
  pub more : (s : ℕ) → has_slot members.lost s ≡ true → has_slot named s ≡ true
  pub named_gone : (s : ℕ) → has_slot named s ≡ true → has_slot gone s ≡ true
  pub unnamed : (s : ℕ) → has_slot gone s ≡ true → (has_slot named s ≡ true) ⊎ Unnamed s
  pub grown : (s : ℕ) → has_slot gone s ≡ true → has_slot lost s ≡ true
  pub within : (s : ℕ) → has_slot named s ≡ true → has_slot last s ≡ true
  pub later : IsLater (planned_newest change.shared members.newest) newest
  pub plan : AreNamed members change before named newest
  pub table : length newest.dev_roles ≡ 384
  pub kept : AreKept newest change.gives members.own left own
  pub reads : IsReadAs scope lost (said_by scope left own newest) c

-- it reads as before the update, with the slot's former sector, or as planned
abbrev pub IsReadInAdding : Scope → ℕ → Members → Change → ℕ → ℕ → ℕ → ℕ → (ℕ → ℕ → List Sector) → (ℕ → Type 0) → Contents → Type 0
IsReadInAdding scope known members change before live last slot d Unnamed c =
    (IsIn (d slot 8) (c slot 8) × IsReadAsBefore scope known members c) ⊎ IsReadAsPlannedBut scope members change before live last Unnamed c

-- The slot that is made a spare has no part in the array before. It is to have this superblock, which isn't behind, and whose later entries
-- are those that stand in its second sector. In no image has another slot its device number.
pub record IsNewcomer (scope : Scope) (known : ℕ) (newest : Sb) (own : List (Option Sb)) (slot : ℕ) (sb : Sb) (d : ℕ → ℕ → List Sector) : Type 0 where
  pub unknown : has_slot known slot ≡ false
  pub events : sb.events ≡ newest.events
  pub second : (sector : Sector) → IsIn (d slot 9) sector → IsSecondHalf sb sector
  pub seen : is_seen scope slot ≡ true
  pub long : 10 ≤ scope.sizes.sectors slot
  pub there : slot < scope.sizes.slots
  pub array : bytes_eq sb.set_uuid scope.uuid ≡ true
  pub number : sb.dev_number < 128
  pub late : HasNoLateRoles sb
  pub lies : lies_within newest (scope.sizes.sectors slot) sb ≡ true
  pub suited : IsSuited newest (scope.sizes.sectors slot) sb
  pub apart : (s : ℕ) (a : Sb) → s ≢ slot → Shows scope known own d s a → is_fresh newest a ≡ true → a.dev_number ≢ sb.dev_number

-- The start of an update that makes a slot a spare: what is held, where these slots are lost, the slots that are live and weren't lost, each but
-- that one with its superblock alone, and a change that fits, gives it no role, and whose other fields are right at any event count.
pub record IsReadyToAdd (scope : Scope) (known left lost : ℕ) (members : Members) (change : Change) (live slot : ℕ) (d : ℕ → ℕ → List Sector) : Type 0 where
  pub held : AreHeld scope known lost members.newest members.own d
  pub sb : Sb
  pub is : own_in members.own slot ≡ Some sb
  pub new : IsNewcomer scope known members.newest members.own slot sb d
  pub is_live : has_slot live slot ≡ true
  pub found : has_slot members.lost slot ≡ false
  pub same : (s : ℕ) → s ≢ slot → has_slot members.lost s ≡ has_slot lost s
  pub are : AreLeft live members.lost left
  pub within : (s : ℕ) → s ≢ slot → has_slot live s ≡ true → has_slot known s ≡ true
  pub exact : (s : ℕ) (sb : Sb) (at : Option Sb) → s ≢ slot → has_slot left s ≡ true → own_in members.own s ≡ Some sb → MayRead scope d s at → IsStamped sb at
  pub idle : planned_role members.roles (give_of change.gives slot) slot ≡ None
  pub fits : IsFitChange known members.lost left members change
  pub fields : (events : ℕ) → events < 2 ^ 62 → find (λ f. f.1) (judged_fields (record (planned_newest change.shared members.newest) { events = events }) []) ≡ None

-- The same of the members before that slot is taken in among them, and of the superblock that it is to have.
pub record IsAdding (scope : Scope) (known left : ℕ) (members : Members) (change : Change) (live slot : ℕ) (sb : Sb) (d : ℕ → ℕ → List Sector) : Type 0 where
  pub added : change.added ≡ Some (slot, sb)
  pub below : slot < 32
  pub count : length members.own ≡ 32
  pub few : members.lost < 2 ^ 32
  pub held : AreHeld scope known members.lost members.newest members.own d
  pub new : IsNewcomer scope known members.newest members.own slot (record sb { events = members.newest.events }) d
  pub is_live : has_slot live slot ≡ true
  pub are : AreLeft live (with_added members change.added).lost left
  pub within : (s : ℕ) → s ≢ slot → has_slot live s ≡ true → has_slot known s ≡ true
  pub exact : (s : ℕ) (own : Sb) (at : Option Sb) → s ≢ slot → has_slot left s ≡ true → own_in members.own s ≡ Some own → MayRead scope d s at → IsStamped own at
  pub idle : planned_role members.roles (give_of change.gives slot) slot ≡ None
  pub fits : IsFitChange known (with_added members change.added).lost left (with_added members change.added) change
  pub fields : (events : ℕ) → events < 2 ^ 62 → find (λ f. f.1) (judged_fields (record (planned_newest change.shared members.newest) { events = events }) []) ≡ None

-- then such an update may start
abbrev pub AddingIsReady : Type 0
AddingIsReady = (scope : Scope) (known left : ℕ) (members : Members) (change : Change) (live slot : ℕ) (sb : Sb) (d : ℕ → ℕ → List Sector)
    → IsAdding scope known left members change live slot sb d → IsReadyToAdd scope known left members.lost (with_added members change.added) change live slot d

-- At each of its marks: while slots are brought to the newest event count each image reads as before. In the first round, where it
-- has the slot's former sector, it reads as before, or as planned without that spare, else as planned. Afterwards it reads
-- as planned, but perhaps without that spare, where it was lost.
abbrev pub UpdateAddingReads : Type 0
UpdateAddingReads = (scope : Scope) (known left lost : ℕ) (members : Members) (change : Change) (before live last slot : ℕ) (d e : ℕ → ℕ → List Sector)
    → IsReadyToAdd scope known left lost members change live slot d
    → (IsCatchingUpTo members.newest members.own live members.lost d e → (c : Contents) → AreDrawn e c → IsReadAs scope lost (said_by scope known members.own members.newest) c)
    × ((at : IsInFirst members change before live d e) → IsWithin at.mid.lost last → (c : Contents) → AreDrawn e c
    → IsReadInAdding scope known members change before live last slot d (λ s. (s ≡ slot) × IsIn (d slot 8) (c slot 8)) c)
    × ((first : Round) → IsPastFirst members change before live d first → (at : IsInNaming (members_at members first) change before live first e) → IsWithin at.start.lost last
    → members.newest.events + 2 + at.rounds < 2 ^ 62 → (c : Contents) → AreDrawn e c → IsReadInAdding scope known members change before live last slot d (λ s. s ≡ slot) c)

-- Its end: the slots are held by the superblocks that were planned, those that are left by these alone. Each that was lost is named, but
-- perhaps for those that were lost last, or that slot.
pub record AreHeldAsAdded (scope : Scope) (members : Members) (change : Change) (before live slot : ℕ) (last : Round) : Type 0 where
  pub known : ℕ
  pub named : ℕ
  pub gone : ℕ
  pub own : List (Option Sb)
  pub held : AreHeld scope known last.lost last.newest own last.disk
  pub exact : (left : ℕ) → AreLeft live last.lost left → AreExact scope left own last.disk
  pub are : AreLeft live gone known
  pub more : (s : ℕ) → has_slot members.lost s ≡ true → has_slot named s ≡ true
  pub named_gone : (s : ℕ) → has_slot named s ≡ true → has_slot gone s ≡ true
  pub unnamed : (s : ℕ) → has_slot gone s ≡ true → (has_slot named s ≡ true) ⊎ (s ≡ slot)
  pub grown : (s : ℕ) → has_slot gone s ≡ true → has_slot last.lost s ≡ true
  pub later : IsLater (planned_newest change.shared members.newest) last.newest
  pub plan : AreNamed members change before named last.newest
  pub kept : AreKept last.newest change.gives members.own known own
  pub reads : (c : Contents) → AreDrawn last.disk c → IsReadAs scope last.lost (said_by scope known own last.newest) c

-- where a live slot is left
abbrev pub UpdateAddingEnds : Type 0
UpdateAddingEnds = (scope : Scope) (known left lost : ℕ) (members : Members) (change : Change) (before live slot : ℕ) (d : ℕ → ℕ → List Sector) (last : Round)
    → IsReadyToAdd scope known left lost members change live slot d → (past : ArePast members change before live d last) → members.newest.events + 1 + past.named.0 < 2 ^ 62
    → (s : ℕ) × (has_slot live s ≡ true) × (has_slot last.lost s ≡ false) → AreHeldAsAdded scope members change before live slot last
