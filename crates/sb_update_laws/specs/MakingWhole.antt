-- An update that makes a recovering slot whole, by what images read.
use Rattle.std.specs.Prelude.{◌≡◌, ◌≢◌, ◌⊎◌, ℕ, ◌^◌, ◌<◌, List, replicate, Option, Some, None, true, false}
use Rattle.sb_read_laws.specs.raid_types_Sectors.{Sector}
use Rattle.sb_read_laws.specs.raid_types_Shapes.{has_slot}
use Rattle.sb_read_laws.specs.sb_codec_the_Sb.{Sb}
use Rattle.sb_read_laws.specs.bank_Tape.{Contents}
use Rattle.sb_read_laws.specs.sb_specs_the_Give_TheVariants.{Same}
use Rattle.sb_read_laws.specs.sb_specs_the_Give_TheVariants as give
use Rattle.sb_read_laws.specs.sb_specs_the_Change.{Change}
use Rattle.sb_read_laws.specs.sb_specs_the_Members.{Members}
use Rattle.sb_read_laws.specs.sb_specs_Reading.{Scope, is_recovering}
use Rattle.sb_read_laws.specs.sb_specs_Update.{give_of, own_in, role_from}
use Rattle.sb_read_laws.specs.sb_specs_Updating.{AreNamed, IsSomeLeft}
use Rattle.sb_read_laws.specs.sb_specs_Outcome.{AreStored, is_left, live_set}
use Rattle.sb_read_laws.specs.sb_specs_Rounds.{Round, IsInRounds, ArePast, IsReady, IsReadAsBefore, IsReadAsPlanned}
use Rattle.sb_read_laws.specs.sb_specs_Held.{AreDrawn}
use Rattle.sb_read_laws.specs.sb_specs_Crash.{AreHeldAsPlanned}
use Rattle.sb_read_laws.specs.Following.{IsFollowedBy}
use Rattle.sb_read_laws.specs.Said.{AreSaid, AreSaidAsPlanned}

-- the same change, which leaves each slot what it is
abbrev pub without_gives : Change → Change
without_gives change = record change { gives = replicate 32 Same }

-- The change makes the holder of this role whole, which recovers it, and leaves each other slot what it is.
pub record IsMakingWhole (members : Members) (change : Change) (slot role : ℕ) : Type 0 where
  pub sb : Sb
  pub is : own_in members.own slot ≡ Some sb
  pub recovers : is_recovering sb ≡ true
  pub holds : role_from slot 0 members.roles ≡ Some role
  pub gives : give_of change.gives slot ≡ give.Role role None
  pub others : (s : ℕ) → s ≢ slot → give_of change.gives s ≡ Same
  pub none : change.added ≡ None

-- Each image reads as before the update, or as planned, or as planned with the slot still recovering. No others are named than these.
abbrev pub EachReadsInWholing : Scope → ℕ → Members → Change → ℕ → ℕ → ℕ → (ℕ → ℕ → List Sector) → Type 0
EachReadsInWholing scope known members change before live last e = (c : Contents) → AreDrawn e c
    → IsReadAsBefore scope known members c ⊎ (IsReadAsPlanned scope members change before live last c ⊎ IsReadAsPlanned scope members (without_gives change) before live last c)

-- So it is at each of its marks: while slots are brought to the newest event count, in the first round, and in one that names lost slots.
abbrev pub UpdateMakingWholeReads : Type 0
UpdateMakingWholeReads = (scope : Scope) (known left : ℕ) (members : Members) (change : Change) (before live slot role last events : ℕ) (d e : ℕ → ℕ → List Sector)
    → IsMakingWhole members change slot role → IsReady scope known left members (without_gives change) live d
    → events < 2 ^ 62 → IsInRounds members change before live last events d e → EachReadsInWholing scope known members change before live last e

-- At its end the slots are held as planned, where a live one is left, the lost ones are named, and of those that are left the superblocks
-- are kept as they were stored. Where the slot was lost in its own write, and isn't named, it may still recover in some images.
abbrev pub UpdateMakingWholeEnds : Type 0
UpdateMakingWholeEnds = (scope : Scope) (known left : ℕ) (members : Members) (change : Change) (before live slot role : ℕ) (d : ℕ → ℕ → List Sector) (last : Round)
    → IsMakingWhole members change slot role → IsReady scope known left members (without_gives change) live d → ArePast members change before live d last → last.newest.events < 2 ^ 62
    → IsSomeLeft live last.lost → AreNamed members change before last.lost last.newest
    → (own : List (Option Sb)) → AreStored last.newest change.gives (is_left live last.lost) members.own own
    → AreHeldAsPlanned scope members change before live last

-- Then the slots that are left hold what the members have for them, and the next update may start.
abbrev pub UpdateMakingWholeMayFollow : Type 0
UpdateMakingWholeMayFollow = (scope : Scope) (known left : ℕ) (members : Members) (change : Change) (before live slot role : ℕ) (d : ℕ → ℕ → List Sector) (last : Round)
    → IsMakingWhole members change slot role → IsReady scope known left members (without_gives change) live d → ArePast members change before live d last → last.newest.events < 2 ^ 62
    → IsFollowedBy scope members change before live last

-- The members then say what the stored superblocks do: as planned, without the slots that the last round named.
abbrev pub MembersMadeWholeStaySaid : Type 0
MembersMadeWholeStaySaid = (scope : Scope) (known left before : ℕ) (members : Members) (change : Change) (slot role : ℕ) (d : ℕ → ℕ → List Sector) (last : Round)
    → IsMakingWhole members change slot role → IsReady scope known left members (without_gives change) (live_set members change) d → AreSaid scope known members
    → (end : AreHeldAsPlanned scope members change before (live_set members change) last)
    → ((s : ℕ) → has_slot before s ≡ false → has_slot end.named s ≡ true → has_slot (live_set members change) s ≡ true)
    → AreSaidAsPlanned scope known end.named end.known members change last.newest end.own
