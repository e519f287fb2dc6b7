-- What is kept of an array of one shape or two that loses members, between and in the calls that write its superblocks and its rows.
use Rattle.std.specs.Prelude.{◌≡◌, ◌⊎◌, ℕ, ◌+◌, ◌<◌, ◌≤◌, ◌++◌, Bool, true, false, not, ◌&&◌, ◌||◌, ◌==◌, List, [], ◌∷◌, Contains, Some, ⊤}
use Rattle.crash_views.specs.raid_types_Sectors.{Sector}
use Rattle.crash_views.specs.raid_types_Shapes.{has_slot}
use Rattle.crash_views.specs.raid_types_the_Shape.{Shape}
use Rattle.crash_views.specs.raid_types_the_Role_TheVariants.{Recovering}
use Rattle.crash_views.specs.bank_the_Operation.{Operation}
use Rattle.crash_views.specs.bank_Given.{Given}
use Rattle.crash_views.specs.bank_Tape.{Contents, EachMark, IsIn, AreFlushes, disk}
use Rattle.crash_views.specs.sb_specs_the_Members.{Members}
use Rattle.crash_views.specs.sb_specs_Reading.{Scope, Reading, reading, is_seen, is_clean, list_length, role_count, role_state, rows_held, holder, data_offset_of}
use Rattle.crash_views.specs.stripe_row_Rows.{reading_of, is_missing, members_without, IsHolder}
use Rattle.crash_views.specs.stripe_list_Writing.{IsPutting, AreSuperblocksKept}
use Rattle.crash_views.specs.history_World.{World}
use Rattle.crash_views.specs.history_Sound.{OpensFit}
use Rattle.crash_views.specs.Regions.{IsReadOf}
use Rattle.crash_views.specs.Views.{Disk, Ledger, IsTailZero, IsViewRight, IsSeenRight}
use Rattle.crash_views.specs.Windows.{IsOfRegion}
use Rattle.crash_safety_laws.specs.Carried.{AreCarried, AreToldAnew}
use Rattle.crash_safety_laws.specs.Held.{IsHeldBy}
use Rattle.crash_safety_laws.specs.Rounds.{IsHeldSince}
use Rattle.crash_safety_laws.specs.Safety.{HasLiveSlot}

-- ---- what is seen

-- a choice of what each slot that is looked at may hold in its superblock
pub record AreDrawnSuperblocks (scope : Scope) (d : Disk) (c : Contents) : Type 0 where
  pub eighth : (slot : ℕ) → is_seen scope slot ≡ true → IsIn (d slot 8) (c slot 8)
  pub ninth : (slot : ℕ) → is_seen scope slot ≡ true → IsIn (d slot 9) (c slot 9)

-- whatever superblocks are drawn, the image is read as a view that is right
abbrev pub AreViewsRight : Type 0 → Scope → Given → Ledger → Disk → Type 0
AreViewsRight sound scope given told d = (c : Contents) → AreDrawnSuperblocks scope d c → IsSeenRight sound scope given told d c

-- Where the superblocks are held, each image is read as the members say.
abbrev pub HeldIsRead : Type 0
HeldIsRead = (scope : Scope) (given : Given) (members : Members) (tape : List Operation) → IsHeldBy scope members (disk given.start tape)
    → (c : Contents) → AreDrawnSuperblocks scope (disk given.start tape) c → (r : Reading) × (reading scope c ≡ Some r) × IsReadOf scope members r

-- ---- when an array is safe

-- The superblocks are held as former members had it, of which slots may have been lost since, that view is right, and the device numbers
-- are told.
pub record IsSteady (sound : Type 0) (scope : Scope) (given : Given) (told : Ledger) (members : Members) (d : Disk) : Type 0 where
  pub former : Members
  pub since : IsHeldSince scope former members d
  pub right : IsViewRight sound scope given told former d
  pub numbers : AreCarried scope told.carried former.own d

-- no live slot is left, and each view is right: nothing is written any more
pub record IsSpent (sound : Type 0) (scope : Scope) (given : Given) (told : Ledger) (members : Members) (d : Disk) : Type 0 where
  pub right : AreViewsRight sound scope given told d
  pub none : HasLiveSlot members → ⊥

-- one of the two
abbrev pub IsSafeNow : Type 0 → Scope → Given → Ledger → Members → Disk → Type 0
IsSafeNow sound scope given told members d = IsSteady sound scope given told members d ⊎ IsSpent sound scope given told members d

-- it is steady, and each lost slot that held a role is named: the former members have the same roles
pub record IsNamedNow (sound : Type 0) (scope : Scope) (given : Given) (told : Ledger) (members : Members) (d : Disk) : Type 0 where
  pub steady : IsSteady sound scope given told members d
  pub roles : steady.former.roles ≡ members.roles

-- a stretch of a call: each view is right at each of its marks, and at its end the array is as safe as before
pub record IsSafeStretch (sound : Type 0) (scope : Scope) (given : Given) (told : Ledger) (members : Members) (before after : List Operation) : Type 0 where
  pub marks : EachMark ⊤ given.start before after (AreViewsRight sound scope given told)
  pub next : IsSafeNow sound scope given told members (disk given.start after)

-- ---- what keeps an array safe

-- each image is read as a view that is right
abbrev pub SafeIsSeen : (sound : Type 0) → Type 0
SafeIsSeen sound = (scope : Scope) (given : Given) (told : Ledger) (members : Members) (tape : List Operation)
    → IsSafeNow sound scope given told members (disk given.start tape) → AreViewsRight sound scope given told (disk given.start tape)

-- more is told of a list of the same length: values and numbers are only added, roles only lost, and what was unsettled stays so
pub record IsMoreTold (told more : Ledger) : Type 0 where
  pub size : told.size ≡ more.size
  pub values : (x : ℕ) → x < told.size → (v : Sector) → IsIn (told.values x) v → IsIn (more.values x) v
  pub gone : (role : ℕ) → told.gone role ≡ true → more.gone role ≡ true
  pub unclean : told.unclean ≡ true → more.unclean ≡ true
  pub reshaping : told.reshaping ≡ true → more.reshaping ≡ true
  pub carried : (slot number : ℕ) → told.carried slot number ≡ true → more.carried slot number ≡ true

-- slots that are lost leave it safe, and so does more that is told
abbrev pub LosingStaysSafe : (sound : Type 0) → Type 0
LosingStaysSafe sound = (scope : Scope) (given : Given) (lost : ℕ) (told more : Ledger) (members : Members) (d : Disk) → IsMoreTold told more
    → IsSafeNow sound scope given told members d → IsSafeNow sound scope given more (members_without lost members) d

-- the device numbers that its slots may bear may be told anew
abbrev pub NumbersStaySafe : (sound : Type 0) → Type 0
NumbersStaySafe sound = (scope : Scope) (given : Given) (told : Ledger) (carried : ℕ → ℕ → Bool) (members : Members) (d : Disk) → AreToldAnew members told.carried carried
    → IsSafeNow sound scope given told members d → IsSafeNow sound scope given (record told { carried = carried }) members d

-- flushes leave it safe
abbrev pub FlushesStaySafe : (sound : Type 0) → Type 0
FlushesStaySafe sound = (scope : Scope) (given : Given) (told : Ledger) (members : Members) (tape ops : List Operation) → AreFlushes ops
    → IsSafeNow sound scope given told members (disk given.start tape)
    → EachMark ⊤ given.start tape (tape ++ ops) (IsSafeNow sound scope given told members)

-- each slot that holds a role is one of the bank's, and has room for its rows
abbrev pub AreHolders : Given → Members → Type 0
AreHolders given members = (role slot : ℕ) → holder (role_state (reading_of members) role) ≡ Some slot → IsHolder given (reading_of members) slot

-- no slot that holds a role was lost
abbrev pub AreUnlost : Members → Type 0
AreUnlost members = (role slot : ℕ) → holder (role_state (reading_of members) role) ≡ Some slot → has_slot members.lost slot ≡ false

-- the sectors of the list that may be written are allowed
abbrev pub AreWritesAllowed : Members → (ℕ → List Sector) → (ℕ → Sector) → Type 0
AreWritesAllowed members values list = (x : ℕ) → x < list_length members.newest → IsIn (values x) (list x)

-- Rows of one region that are written in a dirty array, by a list that is zero in the tail, keep it safe, whichever slots are lost meanwhile.
abbrev pub WritesStaySafe : (sound : Type 0) → Type 0
WritesStaySafe sound = (scope : Scope) (given : Given) (told : Ledger) (members : Members) (shape : Shape) (list : ℕ → Sector) (rows : List ℕ) (lost : ℕ) (d e : Disk)
    → AreHolders given members → is_clean members.newest ≡ false → AreUnlost members → IsOfRegion members shape (Contains rows) → AreWritesAllowed members told.values list
    → (sound → IsTailZero members.newest list)
    → IsPutting (reading_of members) shape list (Contains rows) d e → AreSuperblocksKept d e
    → IsSafeNow sound scope given told members d → IsSafeNow sound scope given told (members_without lost members) e

-- the place of a role's row on a slot, which the slot doesn't hold yet
pub record IsUnheldPlace (members : Members) (role slot : ℕ) (s k : ℕ) : Type 0 where
  pub row : ℕ
  pub here : s ≡ slot
  pub beyond : rows_held (reading_of members) (role_state (reading_of members) role) ≤ row
  pub place : k ≡ data_offset_of (reading_of members) slot + row

-- Rows of a role that its recovering slot doesn't hold yet are written there: no view has them.
abbrev pub FillingStaysSafe : (sound : Type 0) → Type 0
FillingStaysSafe sound = (scope : Scope) (given : Given) (told : Ledger) (members : Members) (role slot : ℕ) (tape : List Operation) (e : Disk)
    → AreHolders given members → AreUnlost members → role_state (reading_of members) role ≡ Recovering slot
    → ((s k : ℕ) → (e s k ≡ disk given.start tape s k) ⊎ IsUnheldPlace members role slot s k)
    → IsSafeNow sound scope given told members (disk given.start tape) → IsSafeNow sound scope given told members e

-- ---- the same in the world of an epoch, where the premise is that it opened clean and sound

abbrev pub IsSafeOver : World → Given → Ledger → Members → List Operation → Type 0
IsSafeOver world given told members tape = IsSafeNow (OpensFit world) world.scope given told members (disk given.start tape)

abbrev pub IsNamedOver : World → Given → Ledger → Members → List Operation → Type 0
IsNamedOver world given told members tape = IsNamedNow (OpensFit world) world.scope given told members (disk given.start tape)

abbrev pub KeepsSafe : World → Given → Ledger → Members → List Operation → List Operation → Type 0
KeepsSafe world given told members before after = IsSafeStretch (OpensFit world) world.scope given told members before after

-- each role that is missing is told gone
abbrev pub AreGoneTold : Ledger → Members → Type 0
AreGoneTold told members = (role : ℕ) → role < role_count members.newest → is_missing (reading_of members) role ≡ true → told.gone role ≡ true

-- where the superblocks say dirty, a write is told unsettled
abbrev pub IsUncleanTold : Ledger → Members → Type 0
IsUncleanTold told members = is_clean members.newest ≡ false → told.unclean ≡ true

-- this list alone is told, where all is settled but in an array whose resync is pending
abbrev pub settled_ledger : Bool → (ℕ → Sector) → Ledger → Ledger
settled_ledger unsynced list told = record told { values = λ x. list x ∷ []; unclean = unsynced }

-- the same, but for this role, which isn't gone any more
abbrev pub given_back : ℕ → Ledger → Ledger
given_back role told = record told { gone = λ r. told.gone r && not (r == role) }

-- the same, and the slot may bear this number
abbrev pub with_number : ℕ → ℕ → Ledger → Ledger
with_number slot number told = record told { carried = λ s n. told.carried s n || ((s == slot) && (n == number)) }
