-- An update in rounds: the first writes what is planned, and each further one names the slots that were lost since.
use Rattle.std.specs.Prelude.{◌≡◌, ◌⊎◌, ℕ, zero, suc, ◌+◌, ◌-◌, ◌^◌, ◌<◌, ◌≤◌, min, find, [], true, false, List, length, Option, None, replicate}
use Rattle.bank.specs.raid_types_Sectors.{Sector}
use Rattle.reshape_geometry.specs.raid_types_Shapes.{has_slot}
use Rattle.sb_codec.specs.declared.sb.Sb.{Sb}
use Rattle.bank.specs.declared.bank.Operation.{Operation}
use Rattle.bank.specs.Tape.{Contents, IsIn, disk}
use Rattle.sb_specs.specs.declared.change.Give.{Give}
use Rattle.sb_specs.specs.declared.change.Change.{Change}
use Rattle.sb_specs.specs.declared.members.Members.{Members}
use Rattle.sb_specs.specs.Update.{give_of, own_in, is_behind, is_recovery, with_roles}
use Rattle.sb_specs.specs.Writing.{IsPlanned}
use Rattle.sb_specs.specs.declared.change.Give.TheVariants.{Same}
use Rattle.sb_specs.specs.Reading.{Scope}
use Rattle.sb_specs.specs.Verdict.{judged_fields}
use Rattle.sb_specs.specs.Updating.{planned_newest, IsLater, AreNamed}
use Rattle.sb_specs.specs.Reads.{IsReadAs}
use Rattle.sb_specs.specs.Held.{AreHeld, AreExact, said_by}
use Rattle.sb_specs.specs.Plans.{IsFitChange}
use Rattle.sb_specs.specs.Stages.{AreNinthKept, IsLevelled, AreFirstKept, AreLeft, AreKept}

-- the newest superblock, the slots that were lost, and what a stop may leave, between two rounds
pub record Round : Type 0 where
  pub newest : Sb
  pub lost : ℕ
  pub disk : ℕ → ℕ → List Sector

-- at the end of these operations
abbrev pub round_at : Sb → ℕ → Contents → List Operation → Round
round_at newest lost start tape = record { newest = newest; lost = lost; disk = disk start tape }

-- the newest superblock one event later, which names these lost slots
abbrev pub naming : Members → Change → ℕ → ℕ → Sb → Sb
naming members change before lost newest =
    record newest { events = min (newest.events + 1) (2 ^ 64 - 1); dev_roles = with_roles members change before lost newest.dev_roles }

-- what is planned is written to live slots that weren't lost
pub record IsRewriting (newest : Sb) (gives : List Give) (own : List (Option Sb)) (live lost : ℕ) (d e : ℕ → ℕ → List Sector) : Type 0 where
  pub values : (s : ℕ) (v : Sector) → IsIn (e s 8) v
      → IsIn (d s 8) v ⊎ ((has_slot live s ≡ true) × (has_slot lost s ≡ false) × IsPlanned newest (give_of gives s) (own_in own s) v)
  pub ninth : AreNinthKept d e

-- a round to its end: the live slots that weren't lost hold what is planned alone
pub record IsRewritten (newest : Sb) (gives : List Give) (own : List (Option Sb)) (live lost lost' : ℕ) (d e : ℕ → ℕ → List Sector) : Type 0 where
  pub stage : IsRewriting newest gives own live lost d e
  pub whole : (s : ℕ) (v : Sector) → has_slot live s ≡ true → has_slot lost' s ≡ false → IsIn (e s 8) v → IsPlanned newest (give_of gives s) (own_in own s) v
  pub more : (s : ℕ) → has_slot lost s ≡ true → has_slot lost' s ≡ true

-- a round that names the slots that are lost at its start
pub record IsNaming (members : Members) (change : Change) (before live : ℕ) (a b : Round) : Type 0 where
  pub newest : b.newest ≡ naming members change before a.lost a.newest
  pub written : IsRewritten b.newest change.gives members.own live a.lost b.lost a.disk b.disk

-- so many of them
unfoldable pub AreNamings : Members → Change → ℕ → ℕ → ℕ → Round → Round → Type 0
AreNamings members change before live zero a b = a ≡ b
AreNamings members change before live (suc n) a c = (b : Round) × AreNamings members change before live n a b × IsNaming members change before live b c

-- some are over, and one more goes on
pub record IsInNaming (members : Members) (change : Change) (before live : ℕ) (a : Round) (e : ℕ → ℕ → List Sector) : Type 0 where
  pub rounds : ℕ
  pub start : Round
  pub over : AreNamings members change before live rounds a start
  pub stage : IsRewriting (naming members change before start.lost start.newest) change.gives members.own live start.lost start.disk e

-- So it is where the last round is to end with these slots lost and this event count. The one that goes on began with no others lost, and at
-- no later event count. Its own is no later either, or it has written nothing.
pub record IsInNamingUpTo (members : Members) (change : Change) (before live last events : ℕ) (a : Round) (e : ℕ → ℕ → List Sector) : Type 0 where
  pub at : IsInNaming members change before live a e
  pub within : (s : ℕ) → has_slot at.start.lost s ≡ true → has_slot last s ≡ true
  pub earlier : at.start.newest.events ≤ events
  pub this : ((naming members change before at.start.lost at.start.newest).events ≤ events) ⊎ ((s : ℕ) → e s 8 ≡ at.start.disk s 8)

-- all are over
abbrev pub IsNamed : Members → Change → ℕ → ℕ → Round → Round → Type 0
IsNamed members change before live a b = (n : ℕ) × AreNamings members change before live n a b

-- ---- a whole update

-- the newest superblock that the first round writes, where these slots are lost at its start
abbrev pub first_newest : Members → Change → ℕ → ℕ → Sb → Sb
first_newest members change before lost newest =
    record (planned_newest change.shared newest) { dev_roles = with_roles members change before lost newest.dev_roles }

-- a slot that isn't behind holds what it held
abbrev pub AreStill : Sb → List (Option Sb) → (ℕ → ℕ → List Sector) → (ℕ → ℕ → List Sector) → Type 0
AreStill former own d e = (s : ℕ) → is_behind former (own_in own s) ≡ false → e s 8 ≡ d s 8

-- slots are brought to the newest event count, and no other one is written
pub record IsCatchingUpTo (former : Sb) (own : List (Option Sb)) (live lost : ℕ) (d e : ℕ → ℕ → List Sector) : Type 0 where
  pub stage : IsRewriting former (replicate 32 Same) own live lost d e
  pub still : AreStill former own d e

-- Slots were brought to the newest event count, and those that weren't lost are there. No other one was written or lost.
pub record IsCaughtUpTo (former : Sb) (own : List (Option Sb)) (live lost : ℕ) (d : ℕ → ℕ → List Sector) (mid : Round) : Type 0 where
  pub newest : mid.newest ≡ former
  pub stage : IsRewriting former (replicate 32 Same) own live lost d mid.disk
  pub level : (s : ℕ) → has_slot live s ≡ true → has_slot mid.lost s ≡ false → IsLevelled former (own_in own s) (d s 8) (mid.disk s 8)
  pub more : (s : ℕ) → has_slot lost s ≡ true → has_slot mid.lost s ≡ true
  pub still : AreStill former own d mid.disk
  pub due : (s : ℕ) → has_slot mid.lost s ≡ true → has_slot lost s ≡ false → is_behind former (own_in own s) ≡ true

-- the first round, which first writes where a recovery offset is given
pub record IsFirstRewriting (newest : Sb) (gives : List Give) (own : List (Option Sb)) (live lost : ℕ) (d e : ℕ → ℕ → List Sector) : Type 0 where
  pub stage : IsRewriting newest gives own live lost d e
  pub order : ((s : ℕ) (v : Sector) → is_recovery (give_of gives s) ≡ false → IsIn (e s 8) v → IsIn (d s 8) v)
      ⊎ ((s : ℕ) (v : Sector) → has_slot live s ≡ true → has_slot lost s ≡ false → is_recovery (give_of gives s) ≡ true → IsIn (e s 8) v
      → IsPlanned newest (give_of gives s) (own_in own s) v)

-- the first round to its end
pub record IsFirstRewritten (members : Members) (change : Change) (before live : ℕ) (mid first : Round) : Type 0 where
  pub newest : first.newest ≡ first_newest members change before mid.lost mid.newest
  pub written : IsRewritten first.newest change.gives members.own live mid.lost first.lost mid.disk first.disk
  pub stage : IsFirstRewriting first.newest change.gives members.own live mid.lost mid.disk first.disk
  pub kept : AreFirstKept change.gives mid.lost first.lost

-- the members as they stand between two rounds
abbrev pub members_at : Members → Round → Members
members_at members a = record members { newest = a.newest; lost = a.lost }

-- the first round goes on
pub record IsInFirst (members : Members) (change : Change) (before live : ℕ) (d e : ℕ → ℕ → List Sector) : Type 0 where
  pub mid : Round
  pub caught : IsCaughtUpTo members.newest members.own live members.lost d mid
  pub stage : IsFirstRewriting (first_newest members change before mid.lost mid.newest) change.gives members.own live mid.lost mid.disk e

-- the first round is over
pub record IsPastFirst (members : Members) (change : Change) (before live : ℕ) (d : ℕ → ℕ → List Sector) (first : Round) : Type 0 where
  pub mid : Round
  pub caught : IsCaughtUpTo members.newest members.own live members.lost d mid
  pub written : IsFirstRewritten members change before live mid first

-- A mark of an update in which no slot that gets a recovery offset is lost, and which ends with these slots lost and this event count: slots
-- are brought to the newest event count, or the first round goes on, or one that names lost slots. It began with no others lost.
abbrev pub IsInRounds : Members → Change → ℕ → ℕ → ℕ → ℕ → (ℕ → ℕ → List Sector) → (ℕ → ℕ → List Sector) → Type 0
IsInRounds members change before live last events d e =
    IsCatchingUpTo members.newest members.own live members.lost d e
    ⊎ (((at : IsInFirst members change before live d e) × ((s : ℕ) → has_slot at.mid.lost s ≡ true → has_slot last s ≡ true))
    ⊎ ((first : Round) × IsPastFirst members change before live d first × IsInNamingUpTo (members_at members first) change before live last events first e))

-- the end of such an update
pub record ArePast (members : Members) (change : Change) (before live : ℕ) (d : ℕ → ℕ → List Sector) (last : Round) : Type 0 where
  pub first : Round
  pub past : IsPastFirst members change before live d first
  pub named : IsNamed (members_at members first) change before live first last

-- ---- what images read in it

-- An image reads as planned: by the superblocks that are planned for the live slots that weren't lost by then, with those named that were,
-- all of them among these last ones.
pub record IsReadAsPlanned (scope : Scope) (members : Members) (change : Change) (before live last : ℕ) (c : Contents) : Type 0 where
  pub newest : Sb
  pub named : ℕ
  pub lost : ℕ
  pub left : ℕ
  pub own : List (Option Sb)
  pub are : AreLeft live named left
  pub more : (s : ℕ) → has_slot members.lost s ≡ true → has_slot named s ≡ true
  pub within : (s : ℕ) → has_slot named s ≡ true → has_slot last s ≡ true
  pub later : IsLater (planned_newest change.shared members.newest) newest
  pub plan : AreNamed members change before named newest
  pub table : length newest.dev_roles ≡ 384
  pub kept : AreKept newest change.gives members.own left own
  pub reads : IsReadAs scope lost (said_by scope left own newest) c

-- it reads as before the update, but perhaps for spares that are lost
pub record IsReadAsBefore (scope : Scope) (known : ℕ) (members : Members) (c : Contents) : Type 0 where
  pub lost : ℕ
  pub more : (s : ℕ) → has_slot members.lost s ≡ true → has_slot lost s ≡ true
  pub reads : IsReadAs scope lost (said_by scope known members.own members.newest) c

-- it reads as before the update, or as planned
abbrev pub IsReadInUpdate : Scope → ℕ → Members → Change → ℕ → ℕ → ℕ → Contents → Type 0
IsReadInUpdate scope known members change before live last c =
    IsReadAsBefore scope known members c ⊎ IsReadAsPlanned scope members change before live last c

-- The start of an update: what is held, the slots that are live and weren't lost, each with its superblock alone, and a change that fits
-- and whose other fields are right at any event count.
pub record IsReady (scope : Scope) (known left : ℕ) (members : Members) (change : Change) (live : ℕ) (d : ℕ → ℕ → List Sector) : Type 0 where
  pub held : AreHeld scope known members.lost members.newest members.own d
  pub are : AreLeft live members.lost left
  pub within : (s : ℕ) → has_slot live s ≡ true → has_slot known s ≡ true
  pub exact : AreExact scope left members.own d
  pub fits : IsFitChange known members.lost left members change
  pub fields : (events : ℕ) → events < 2 ^ 62 → find (λ f. f.1) (judged_fields (record (planned_newest change.shared members.newest) { events = events }) []) ≡ None
