-- What a stop may do to the reading of a running array.
use Rattle.std.specs.Prelude.{◌≡◌, ◌⊎◌, ℕ, ◌+◌, ◌^◌, ◌<◌, true, false, List, Option, replicate}
use Rattle.bank.specs.raid_types_Sectors.{Sector}
use Rattle.reshape_geometry.specs.raid_types_Shapes.{has_slot}
use Rattle.sb_codec.specs.declared.sb.Sb.{Sb}
use Rattle.bank.specs.Tape.{Contents}
use Rattle.sb_specs.specs.declared.change.Give.{Give}
use Rattle.sb_specs.specs.declared.change.Give.TheVariants.{Same}
use Rattle.sb_specs.specs.declared.change.Change.{Change}
use Rattle.sb_specs.specs.declared.members.Members.{Members}
use Rattle.sb_specs.specs.Updating.{planned_newest, IsLater, AreNamed}
use Rattle.sb_specs.specs.Rounds.{Round, IsRewriting, IsInFirst, IsPastFirst, IsInNaming, ArePast, members_at, IsReadInUpdate, IsReady}
use Rattle.sb_specs.specs.Reading.{Scope, Reading}
use Rattle.sb_specs.specs.Update.{give_of, is_recovery}
use Rattle.sb_specs.specs.Reads.{IsReadAs}
use Rattle.sb_specs.specs.Held.{AreDrawn, AreHeld, AreLevel, AreExact, said_by}
use Rattle.sb_specs.specs.Stages.{IsCatchingUp, IsTaking, AreTaken, IsInUpdate, IsStaged, IsFitPlan, AreLeft, AreKept}

-- each image that may be left reads so
abbrev pub EachReads : Scope → ℕ → Reading → (ℕ → ℕ → List Sector) → Type 0
EachReads scope lost q d = (c : Contents) → AreDrawn d c → IsReadAs scope lost q c

-- each of them reads in one way or in the other
abbrev pub EachReadsEither : Scope → ℕ → Reading → Reading → (ℕ → ℕ → List Sector) → Type 0
EachReadsEither scope lost q r d = (c : Contents) → AreDrawn d c → IsReadAs scope lost q c ⊎ IsReadAs scope lost r c

-- the one set's slots are among the other's
abbrev pub IsWithin : ℕ → ℕ → Type 0
IsWithin set other = (s : ℕ) → has_slot set s ≡ true → has_slot other s ≡ true

-- between updates each image reads as the known superblocks say
abbrev pub HeldReads : Type 0
HeldReads = (scope : Scope) (known lost : ℕ) (newest : Sb) (own : List (Option Sb)) (d : ℕ → ℕ → List Sector) → AreHeld scope known lost newest own d
    → EachReads scope lost (said_by scope known own newest) d

-- and so while slots are brought to the newest event count, which leaves them held
abbrev pub CatchingUpReads : Type 0
CatchingUpReads = (scope : Scope) (known lost left : ℕ) (newest : Sb) (own : List (Option Sb)) (d e : ℕ → ℕ → List Sector) → AreHeld scope known lost newest own d
    → IsWithin left known → IsCatchingUp newest own left d e → EachReads scope lost (said_by scope known own newest) e × AreHeld scope known lost newest own e

-- The start of a round that writes what is planned: what is held, the slots that are written, which are at the newest event count, the
-- plan, and the superblocks that will be kept.
pub record IsRound (scope : Scope) (known lost left : ℕ) (former newest : Sb) (gives : List Give) (own own' : List (Option Sb)) (d : ℕ → ℕ → List Sector) : Type 0 where
  pub held : AreHeld scope known lost former own d
  pub within : IsWithin left known
  pub level : AreLevel scope left former d
  pub fit : IsFitPlan scope lost former newest gives own left d
  pub kept : AreKept newest gives own left own'

-- at each mark of it an image reads as before, or as the planned superblocks say
abbrev pub RoundReads : Type 0
RoundReads = (scope : Scope) (known lost left : ℕ) (former newest : Sb) (gives : List Give) (own own' : List (Option Sb)) (d e : ℕ → ℕ → List Sector)
    → IsRound scope known lost left former newest gives own own' d → IsTaking newest gives own left d e
    → EachReadsEither scope lost (said_by scope known own former) (said_by scope left own' newest) e

-- The end of a round: the slots that were written and not lost hold what is planned alone, among them the one that gets a recovery
-- offset, and some are left.
pub record IsRoundEnd (lost lost' left taken : ℕ) (newest : Sb) (gives : List Give) (own : List (Option Sb)) (d e : ℕ → ℕ → List Sector) : Type 0 where
  pub stage : IsTaking newest gives own left d e
  pub whole : AreTaken newest gives own taken e
  pub some : (s : ℕ) × (has_slot taken s ≡ true)
  pub within : IsWithin taken left
  pub first : (s : ℕ) → has_slot left s ≡ true → is_recovery (give_of gives s) ≡ true → has_slot taken s ≡ true
  pub more : IsWithin lost lost'

-- Then all that were written are held as planned, those that were lost too, and the others are at the newest event count.
abbrev pub RoundEndIsHeld : Type 0
RoundEndIsHeld = (scope : Scope) (known lost lost' left taken : ℕ) (former newest : Sb) (gives : List Give) (own own' : List (Option Sb)) (d e : ℕ → ℕ → List Sector)
    → IsRound scope known lost left former newest gives own own' d → IsRoundEnd lost lost' left taken newest gives own d e
    → AreHeld scope left lost' newest own' e × AreLevel scope taken newest e

-- ---- an update in which no slot is lost

-- Its start: what is held, the slots that are written, each with its superblock alone, the plan, and the superblocks that will be kept.
pub record IsWhole (scope : Scope) (known lost left : ℕ) (former newest : Sb) (gives : List Give) (own own' : List (Option Sb)) (d : ℕ → ℕ → List Sector) : Type 0 where
  pub held : AreHeld scope known lost former own d
  pub within : IsWithin left known
  pub exact : AreExact scope left own d
  pub fit : IsFitPlan scope lost former newest gives own left d
  pub kept : AreKept newest gives own left own'

-- at each mark of it an image reads as before it, or as the planned superblocks say
abbrev pub WholeReads : Type 0
WholeReads = (scope : Scope) (known lost left : ℕ) (former newest : Sb) (gives : List Give) (own own' : List (Option Sb)) (d e : ℕ → ℕ → List Sector)
    → IsWhole scope known lost left former newest gives own own' d → IsInUpdate former newest gives own left d e
    → EachReadsEither scope lost (said_by scope known own former) (said_by scope left own' newest) e

-- At its end, where some slot was written, each image reads as the planned superblocks say, and the next update may start.
pub record IsUpdatedTo (scope : Scope) (lost left : ℕ) (newest : Sb) (own : List (Option Sb)) (e : ℕ → ℕ → List Sector) : Type 0 where
  pub held : AreHeld scope left lost newest own e
  pub exact : AreExact scope left own e
  pub reads : EachReads scope lost (said_by scope left own newest) e

abbrev pub WholeEndReads : Type 0
WholeEndReads = (scope : Scope) (known lost left : ℕ) (former newest : Sb) (gives : List Give) (own own' : List (Option Sb)) (d e : ℕ → ℕ → List Sector)
    → IsWhole scope known lost left former newest gives own own' d → IsStaged former newest gives own left d e → AreTaken newest gives own left e
    → (s : ℕ) × (has_slot left s ≡ true) → IsUpdatedTo scope lost left newest own' e

-- ---- an update in which slots may be lost, but none that gets a recovery offset

-- each image that may be left reads as before the update, or as planned by one of its rounds, in which no others are named than these
abbrev pub EachReadsInUpdate : Scope → ℕ → Members → Change → ℕ → ℕ → ℕ → (ℕ → ℕ → List Sector) → Type 0
EachReadsInUpdate scope known members change before live last e = (c : Contents) → AreDrawn e c → IsReadInUpdate scope known members change before live last c

-- at each of its marks: while slots are brought to the newest event count, in the first round, and in one that names lost slots
abbrev pub UpdateInRoundsReads : Type 0
UpdateInRoundsReads = (scope : Scope) (known left : ℕ) (members : Members) (change : Change) (before live last : ℕ) (d e : ℕ → ℕ → List Sector) → IsReady scope known left members change live d
    → (IsRewriting members.newest (replicate 32 Same) members.own live members.lost d e → EachReadsInUpdate scope known members change before live last e)
    × ((at : IsInFirst members change before live d e) → IsWithin at.mid.lost last → EachReadsInUpdate scope known members change before live last e)
    × ((first : Round) → IsPastFirst members change before live d first → (at : IsInNaming (members_at members first) change before live first e) → IsWithin at.start.lost last
    → members.newest.events + 2 + at.rounds < 2 ^ 62 → EachReadsInUpdate scope known members change before live last e)

-- Its end: the slots are held by the superblocks that were planned, those that are left by these alone, and each image reads as they say.
pub record AreHeldAsPlanned (scope : Scope) (members : Members) (change : Change) (before live : ℕ) (last : Round) : Type 0 where
  pub known : ℕ
  pub named : ℕ
  pub own : List (Option Sb)
  pub held : AreHeld scope known last.lost last.newest own last.disk
  pub exact : (left : ℕ) → AreLeft live last.lost left → AreExact scope left own last.disk
  pub are : AreLeft live named known
  pub more : IsWithin members.lost named
  pub grown : IsWithin named last.lost
  pub later : IsLater (planned_newest change.shared members.newest) last.newest
  pub plan : AreNamed members change before named last.newest
  pub kept : AreKept last.newest change.gives members.own known own
  pub reads : (c : Contents) → AreDrawn last.disk c → IsReadAs scope last.lost (said_by scope known own last.newest) c

-- where a live slot is left
abbrev pub UpdateInRoundsEnds : Type 0
UpdateInRoundsEnds = (scope : Scope) (known left : ℕ) (members : Members) (change : Change) (before live : ℕ) (d : ℕ → ℕ → List Sector) (last : Round)
    → IsReady scope known left members change live d → (past : ArePast members change before live d last) → members.newest.events + 1 + past.named.0 < 2 ^ 62
    → (s : ℕ) × (has_slot live s ≡ true) × (has_slot last.lost s ≡ false) → AreHeldAsPlanned scope members change before live last
