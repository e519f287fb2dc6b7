-- What an epoch leaves is what the next epoch opens with.
use Rattle.std.specs.Prelude.{◌≡◌, ◌⊎◌, ℕ, ◌<◌, ◌≤◌, List, [], ◌∷◌, ◌++◌, length, slice_index_or, Some, None, IsTrue}
use Rattle.raid_types.specs.Shapes.{has_slot}
use Rattle.raid_types.specs.Sectors.{Sector}
use Rattle.bank.specs.Tape.{Contents, OnlyFlushesBetween}
use Rattle.sb_read_laws.specs.sb_specs_Reading.{Scope, Reading, reading}
use Rattle.history.specs.declared.events.Event.TheVariants.{Flushed, Stopped}
use Rattle.history.specs.declared.events.Entry.{Entry}
use Rattle.history.specs.World.{World, contents_at, opening_list}
use Rattle.history.specs.Stands.{verdict}
use Rattle.history.specs.Flat.{length_of, now}
use Rattle.history.specs.Legal.{last_end}
use Rattle.history.specs.CrashSafe.{last_resized, IsCrashSafe}
use Rattle.history.specs.Growing.{EndBy}
use Rattle.history.specs.Opened.{OpensSound}
use Rattle.history.specs.Sound.{OpensFit, StaysSound}

-- what the opening found is refused for nothing
abbrev pub OpensAccepted : World → Type 0
OpensAccepted world = verdict world.scope (contents_at world world.first) ≡ None

-- the last entry is a flush or a stop
pub record EndsSettled (entries : List Entry) : Type 0 where
  pub before : List Entry
  pub entry : Entry
  pub is : entries ≡ before ++ entry ∷ []
  pub event : (entry.event ≡ Flushed) ⊎ (entry.event ≡ Stopped)

-- The next epoch begins on the same bank, in the same slots, behind the last entry and nothing but flushes.
pub record IsReopened (world : World) (entries : List Entry) (next : World) : Type 0 where
  pub start : next.start ≡ world.start
  pub tape : next.tape ≡ world.tape
  pub scope : next.scope ≡ world.scope
  pub later : world.first ≤ next.first
  pub within : next.first ≤ length world.tape
  pub made : EndBy next.first entries
  pub flushes : OnlyFlushesBetween world.tape (last_end world entries) next.first

-- By what the contents hold, the array is the same in these slots and in those, or in fewer of them, with the backup in both or in none: its
-- newest superblock, and who holds each role. So it is where the slots that lack have no part in it any more.
pub record IsSameArray (scope fewer : Scope) (c : Contents) : Type 0 where
  pub uuid : fewer.uuid ≡ scope.uuid
  pub backup : fewer.backup ≡ scope.backup
  pub sizes : fewer.sizes ≡ scope.sizes
  pub within : (slot : ℕ) → IsTrue (has_slot fewer.given slot) → IsTrue (has_slot scope.given slot)
  pub sections : (slot : ℕ) → scope.backup ≡ Some slot → has_slot fewer.given slot ≡ has_slot scope.given slot
  pub says : (r q : Reading) → reading scope c ≡ Some r → reading fewer c ≡ Some q → (q.newest ≡ r.newest) × (q.roles ≡ r.roles)

-- The next epoch is of the same array on the same bank, perhaps in fewer slots, and begins behind the last entry and nothing but flushes.
pub record IsFoundLater (world : World) (entries : List Entry) (next : World) : Type 0 where
  pub start : next.start ≡ world.start
  pub tape : next.tape ≡ world.tape
  pub array : IsSameArray world.scope next.scope (contents_at world next.first)
  pub later : world.first ≤ next.first
  pub within : next.first ≤ length world.tape
  pub made : EndBy next.first entries
  pub flushes : OnlyFlushesBetween world.tape (last_end world entries) next.first

-- it opens with what these entries make of a list
pub record OpensWith (next : World) (list : List Sector) (entries : List Entry) : Type 0 where
  pub count : length (opening_list next) ≡ length_of (length list) entries
  pub each : (x : ℕ) → x < length (opening_list next) → slice_index_or (opening_list next) x [] ≡ now list entries x

-- What was flushed or stopped is found again, sector by sector, by a next epoch that opens accepted, where the length stayed. Roles may
-- have been lost, and slots with them.
abbrev pub SettledListsAreFound : Type 0
SettledListsAreFound = (world next : World) (entries : List Entry) (last : ℕ) → last_resized entries ≡ None → IsCrashSafe world last entries
    → next.first ≤ last → IsFoundLater world entries next → OpensAccepted next → EndsSettled entries → OpensWith next (opening_list world) entries

-- What was opened fit, and stays sound, is found sound by a next epoch that opens accepted.
abbrev pub SoundArraysAreFound : Type 0
SoundArraysAreFound = (world next : World) (entries : List Entry) (last : ℕ) → OpensFit world → StaysSound world last entries
    → next.first ≤ last → IsReopened world entries next → OpensAccepted next → OpensSound next
