-- A round in which the slot that gets a recovery offset is lost in its own write: the other slots get what names it faulty, at the same
-- event count.
use Rattle.std.specs.Prelude.{◌≡◌, ◌≢◌, ◌⊎◌, ℕ, ◌<◌, ◌==◌, ◌&&◌, true, false, if◌then◌else◌, List, [], ◌∷◌, Option, Some, None}
use Rattle.bank.specs.raid_types_Sectors.{Sector}
use Rattle.reshape_geometry.specs.raid_types_Shapes.{has_slot}
use Rattle.sb_codec.specs.declared.sb.Sb.{Sb}
use Rattle.bank.specs.Tape.{Contents, IsIn}
use Rattle.sb_specs.specs.declared.change.Give.{Give}
use Rattle.sb_specs.specs.Reading.{Scope}
use Rattle.sb_specs.specs.declared.change.Change.{Change}
use Rattle.sb_specs.specs.declared.members.Members.{Members}
use Rattle.sb_specs.specs.Update.{planned, give_of, own_in, is_recovery, with_roles}
use Rattle.sb_specs.specs.Updating.{AreOthersKept, AreRecoveriesKept, AreRecoveriesWritten, IsSomeLeft}
use Rattle.sb_specs.specs.Rounds.{Round, IsRewriting, first_newest, IsCatchingUpTo, IsCaughtUpTo, members_at, IsInNamingUpTo, IsNamed, IsReady}
use Rattle.sb_specs.specs.Writing.{IsPlanned}
use Rattle.sb_specs.specs.Reads.{IsReadAs, held_in}
use Rattle.sb_specs.specs.Held.{AreDrawn, AreHeld, AreLevel, said_by}
use Rattle.sb_specs.specs.Stages.{AreNinthKept, IsTaking, AreTaken, IsFitPlan, AreKept}
use Rattle.sb_specs.specs.Crash.{IsWithin, IsRound, IsRoundEnd, EachReadsInUpdate}

-- Its start: the round as it was planned, and what is planned without that slot, by which it holds no role.
pub record IsLosing (scope : Scope) (known lost gone left rest slot : ℕ) (former newest named : Sb) (gives : List Give) (own own' rest_own : List (Option Sb)) (d : ℕ → ℕ → List Sector) : Type 0 where
  pub round : IsRound scope known lost left former newest gives own own' d
  pub is_left : has_slot left slot ≡ true
  pub recovery : is_recovery (give_of gives slot) ≡ true
  pub out : has_slot rest slot ≡ false
  pub others : (s : ℕ) → s ≢ slot → has_slot rest s ≡ has_slot left s
  pub more : (s : ℕ) → has_slot lost s ≡ true → has_slot gone s ≡ true
  pub is_gone : has_slot gone slot ≡ true
  pub events : named.events ≡ newest.events
  pub fit : IsFitPlan scope gone former named gives own rest d
  pub kept : AreKept named gives own rest rest_own
  pub faulty : (sb : Sb) (role : ℕ) → own_in own slot ≡ Some sb → role < 16 → held_in named role slot (Some (planned newest (give_of gives slot) sb)) ≡ None

-- A mark of it: that slot holds former values or what was planned for it, and the others former ones or what is planned without it.
pub record IsTakingWithout (newest named : Sb) (gives : List Give) (own : List (Option Sb)) (rest slot : ℕ) (d e : ℕ → ℕ → List Sector) : Type 0 where
  pub half : (v : Sector) → IsIn (e slot 8) v → IsIn (d slot 8) v ⊎ IsPlanned newest (give_of gives slot) (own_in own slot) v
  pub values : (s : ℕ) (v : Sector) → s ≢ slot → IsIn (e s 8) v → IsIn (d s 8) v ⊎ ((has_slot rest s ≡ true) × IsPlanned named (give_of gives s) (own_in own s) v)
  pub ninth : AreNinthKept d e

-- At each mark of it an image with that slot's former sector reads as before, or as planned without the slot. With its new sector it reads as
-- planned, the slot recovering, or as planned without it.
abbrev pub RoundLosingReads : Type 0
RoundLosingReads = (scope : Scope) (known lost gone left rest slot : ℕ) (former newest named : Sb) (gives : List Give) (own own' rest_own : List (Option Sb)) (d e : ℕ → ℕ → List Sector)
    → IsLosing scope known lost gone left rest slot former newest named gives own own' rest_own d → IsTakingWithout newest named gives own rest slot d e
    → (c : Contents) → AreDrawn e c
    → (IsIn (d slot 8) (c slot 8) × (IsReadAs scope gone (said_by scope known own former) c ⊎ IsReadAs scope gone (said_by scope rest rest_own named) c))
    ⊎ (IsReadAs scope gone (said_by scope left own' newest) c ⊎ IsReadAs scope gone (said_by scope rest rest_own named) c)

-- The end of such a round: these slots, of those that weren't lost, hold what is planned without that slot alone, and some are left.
pub record IsLost (rest gone lost taken slot : ℕ) (newest named : Sb) (gives : List Give) (own : List (Option Sb)) (d e : ℕ → ℕ → List Sector) : Type 0 where
  pub stage : IsTakingWithout newest named gives own rest slot d e
  pub whole : AreTaken named gives own taken e
  pub some : (s : ℕ) × (has_slot taken s ≡ true)
  pub within : IsWithin taken rest
  pub more : IsWithin gone lost

-- with that slot's former values
abbrev pub with_former : ℕ → (ℕ → ℕ → List Sector) → (ℕ → ℕ → List Sector) → ℕ → ℕ → List Sector
with_former slot d e s k = if (s == slot) && (k == 8) then d slot 8 else e s k

-- The round that follows, an event later, in which no slot gets a recovery offset, and by which that slot holds no role.
pub record IsNamingAfter (scope : Scope) (lost left taken slot : ℕ) (newest named next : Sb) (gives gives' : List Give) (own rest_own next_own : List (Option Sb)) (d e : ℕ → ℕ → List Sector) : Type 0 where
  pub within : IsWithin left taken
  pub fit : IsFitPlan scope lost named next gives' rest_own left (with_former slot d e)
  pub kept : AreKept next gives' rest_own left next_own
  pub none : (s : ℕ) → has_slot left s ≡ true → is_recovery (give_of gives' s) ≡ false
  pub faulty : (sb : Sb) (role : ℕ) → own_in own slot ≡ Some sb → role < 16 → held_in next role slot (Some (planned newest (give_of gives slot) sb)) ≡ None

-- At each mark of it an image reads as planned, the slot recovering, or with it named, or as planned by this round. It can't read as before.
abbrev pub RoundAfterLosingReads : Type 0
RoundAfterLosingReads = (scope : Scope) (known lost gone lost' left rest taken left' slot : ℕ) (former newest named next : Sb) (gives gives' : List Give) (own own' rest_own next_own : List (Option Sb))
    (d m e : ℕ → ℕ → List Sector) → IsLosing scope known lost gone left rest slot former newest named gives own own' rest_own d → IsLost rest gone lost' taken slot newest named gives own d m
    → IsNamingAfter scope lost' left' taken slot newest named next gives gives' own rest_own next_own d m → IsTaking next gives' rest_own left' m e → (c : Contents) → AreDrawn e c
    → IsReadAs scope lost' (said_by scope left own' newest) c ⊎ (IsReadAs scope lost' (said_by scope rest rest_own named) c ⊎ IsReadAs scope lost' (said_by scope left' next_own next) c)

-- At its end the slots are held as planned by it.
abbrev pub RoundAfterLosingEnds : Type 0
RoundAfterLosingEnds = (scope : Scope) (known lost gone lost' lost'' left rest taken left' taken' slot : ℕ) (former newest named next : Sb) (gives gives' : List Give) (own own' rest_own next_own : List (Option Sb))
    (d m e : ℕ → ℕ → List Sector) → IsLosing scope known lost gone left rest slot former newest named gives own own' rest_own d → IsLost rest gone lost' taken slot newest named gives own d m
    → IsNamingAfter scope lost' left' taken slot newest named next gives gives' own rest_own next_own d m → IsRoundEnd lost' lost'' left' taken' next gives' rest_own m e
    → AreHeld scope left' lost'' next next_own e × AreLevel scope taken' next e

-- ---- what an update writes, whichever slots are lost in it

-- The slots that get a recovery offset were written, and no other one. Those that were lost in it are named in what the others get.
pub record AreRecoveriesOver (members : Members) (change : Change) (before live : ℕ) (d : ℕ → ℕ → List Sector) (over : Round) : Type 0 where
  pub stage : IsRewriting members.newest change.gives members.own live members.lost d over.disk
  pub others : AreOthersKept change.gives d over.disk
  pub whole : AreRecoveriesWritten members.newest change.gives members.own live over.lost over.disk
  pub who : (s : ℕ) → has_slot over.lost s ≡ true → has_slot members.lost s ≡ false → is_recovery (give_of change.gives s) ≡ true
  pub more : (s : ℕ) → has_slot members.lost s ≡ true → has_slot over.lost s ≡ true
  pub newest : ((over.lost ≡ members.lost) × (over.newest ≡ members.newest))
      ⊎ (over.newest ≡ record members.newest { dev_roles = with_roles members change before over.lost members.newest.dev_roles })

-- they are written, or the others are, by what names those that were lost, all of them among these last ones
abbrev pub AreTakenInTurn : Members → Change → ℕ → ℕ → ℕ → (ℕ → ℕ → List Sector) → (ℕ → ℕ → List Sector) → Type 0
AreTakenInTurn members change before live last d e =
    (IsWithin members.lost last × IsRewriting members.newest change.gives members.own live members.lost d e × AreOthersKept change.gives d e)
    ⊎ ((over : Round) × IsWithin over.lost last × AreRecoveriesOver members change before live d over × IsRewriting over.newest change.gives members.own live over.lost over.disk e
    × AreRecoveriesKept change.gives over.disk e)

-- All were written. In this round the newest superblock is the one that the others got.
pub record IsPastTurns (members : Members) (change : Change) (before live : ℕ) (d : ℕ → ℕ → List Sector) (first : Round) : Type 0 where
  pub over : Round
  pub recoveries : AreRecoveriesOver members change before live d over
  pub newest : first.newest ≡ over.newest
  pub stage : IsRewriting over.newest change.gives members.own live over.lost over.disk first.disk
  pub kept : AreRecoveriesKept change.gives over.disk first.disk
  pub whole : (s : ℕ) → has_slot live s ≡ true → has_slot first.lost s ≡ false → is_recovery (give_of change.gives s) ≡ false
      → (v : Sector) × IsPlanned over.newest (give_of change.gives s) (own_in members.own s) v × (first.disk s 8 ≡ v ∷ [])
  pub more : (s : ℕ) → has_slot over.lost s ≡ true → has_slot first.lost s ≡ true

-- the members as the first round finds them, with what it plans
abbrev pub planned_at : Members → Change → ℕ → Round → Members
planned_at members change before mid = record members { newest = first_newest members change before mid.lost members.newest; lost = mid.lost }

-- A mark of an update that ends with these slots lost and this event count: slots are brought to the newest event count, the first round goes
-- on, or one that names lost slots.
abbrev pub IsInTurns : Members → Change → ℕ → ℕ → ℕ → ℕ → (ℕ → ℕ → List Sector) → (ℕ → ℕ → List Sector) → Type 0
IsInTurns members change before live last events d e =
    IsCatchingUpTo members.newest members.own live members.lost d e
    ⊎ (((mid : Round) × IsCaughtUpTo members.newest members.own live members.lost d mid × AreTakenInTurn (planned_at members change before mid) change before live last mid.disk e)
    ⊎ ((mid : Round) × IsCaughtUpTo members.newest members.own live members.lost d mid × (first : Round) × IsPastTurns (planned_at members change before mid) change before live mid.disk first
    × IsInNamingUpTo (members_at members first) change before live last events first e))

-- All rounds are over that name slots. Where the lost slots weren't these at their start, and a live one is left, there was one.
abbrev pub IsNamedSince : Members → Change → ℕ → ℕ → ℕ → Round → Round → Type 0
IsNamedSince members change before live named a b = (over : IsNamed members change before live a b) × (a.lost ≢ named → IsSomeLeft live b.lost → 0 < over.0)

-- the end of an update: where a slot was lost in the first round, and a live one is left, another round followed
pub record ArePastTurns (members : Members) (change : Change) (before live : ℕ) (d : ℕ → ℕ → List Sector) (last : Round) : Type 0 where
  pub mid : Round
  pub caught : IsCaughtUpTo members.newest members.own live members.lost d mid
  pub first : Round
  pub past : IsPastTurns (planned_at members change before mid) change before live mid.disk first
  pub named : IsNamed (members_at members first) change before live first last
  pub again : IsSomeLeft live last.lost → (s : ℕ) → has_slot first.lost s ≡ true → has_slot mid.lost s ≡ false → 0 < named.0

-- While the slots that get a recovery offset are written, an image reads as before or as planned, also where one of them is lost then.
abbrev pub RecoveriesRead : Type 0
RecoveriesRead = (scope : Scope) (known left : ℕ) (members : Members) (change : Change) (before live last : ℕ) (d e : ℕ → ℕ → List Sector) (mid : Round)
    → IsReady scope known left members change live d → IsCaughtUpTo members.newest members.own live members.lost d mid
    → IsRewriting (planned_at members change before mid).newest change.gives members.own live mid.lost mid.disk e → AreOthersKept change.gives mid.disk e → IsWithin mid.lost last
    → EachReadsInUpdate scope known members change before live last e
