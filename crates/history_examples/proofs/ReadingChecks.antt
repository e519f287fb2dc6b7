-- A created array of three members: what its superblocks are read as, computed.
use Rattle.std.proofs.Common.{◌≡◌, ℕ, zero, suc, ◌+◌, ◌/◌, ◌%◌, List, [], ◌∷◌, ◌++◌, true, replicate, refl, Some, None, length, Option}
use Rattle.history.specs.raid_types_the_Refusal_TheVariants.{NoSuperblock, BadField, TwoHolders, MembersMissing, DirtyDegraded}
use Rattle.history.specs.raid_types_the_Refusal.{Refusal}
use Rattle.history.proofs.bank_Listed.{Slot, listed, listed_sizes}
use Rattle.history.specs.raid_types_Search.{tabulate, least_below, count_below, any_below}
use Rattle.history.specs.raid_types_Sectors.{Sector}
use Rattle.history.specs.bank_Tape.{Contents}
use Rattle.history.specs.sb_codec_Superblock.{checksum, is_valid, sb_of}
use Rattle.history.specs.raid_layout_Layout.{place}
use Rattle.history.specs.sb_specs_Reading.{Scope, reading, reading_by, superblocks}
use Rattle.history.specs.raid_types_the_Shape.{Shape}
use Rattle.history.specs.Created.{Device, created, added}
use Rattle.history.specs.Stands.{verdict, standing_sector}

-- n as so many bytes, the lowest first
abbrev bytes : ℕ → ℕ → List ℕ
bytes zero n = []
bytes (suc k) n = (n % 256) ∷ bytes k (n / 256)

abbrev uuid : List ℕ
uuid = replicate 16 7

abbrev pub ones : List ℕ
ones = replicate 8 255

-- a superblock by the values that differ here
abbrev head : ℕ → List ℕ
head level = bytes 4 0xa92b4efc ++ bytes 4 1 ++ bytes 8 0 ++ uuid ++ replicate 40 0
    ++ bytes 4 level ++ bytes 4 2 ++ bytes 8 40 ++ bytes 4 8 ++ bytes 4 3 ++ replicate 32 0

abbrev device : ℕ → ℕ → List ℕ → List ℕ
device dev events resync = bytes 8 16 ++ bytes 8 40 ++ bytes 8 8 ++ bytes 8 0 ++ bytes 4 dev ++ replicate 28 0 ++ bytes 8 0
    ++ bytes 8 events ++ resync

-- so many unused role entries, fffe each
abbrev unused : ℕ → List ℕ
unused zero = []
unused (suc n) = 254 ∷ 255 ∷ unused n

abbrev tail : List ℕ
tail = bytes 4 128 ++ replicate 32 0 ++ bytes 2 0 ++ bytes 2 1 ++ bytes 2 2 ++ unused 125

abbrev unsummed : ℕ → ℕ → ℕ → List ℕ → List ℕ → List ℕ
unsummed level dev events resync sum = head level ++ device dev events resync ++ sum ++ tail

abbrev pub superblock : ℕ → ℕ → ℕ → List ℕ → Sector
superblock level dev events resync =
    unsummed level dev events resync (bytes 4 (checksum (unsummed level dev events resync (bytes 4 0) ++ replicate 512 0)))

size_is : length (superblock 5 0 1 ones) ≡ 512
size_is = refl

valid : is_valid (superblock 5 0 1 ones ++ replicate 512 0) ≡ true
valid = refl

-- a slot of 56 sectors: data sector k of member m is the list [m, k]
abbrev data_of : ℕ → ℕ → ℕ → List Sector
data_of zero m k = []
data_of (suc n) m k = (m ∷ k ∷ []) ∷ data_of n m (k + 1)

abbrev pub slot : ℕ → Sector → Slot
slot m sb = replicate 8 [] ++ sb ∷ replicate 512 0 ∷ replicate 6 [] ++ data_of 40 m 0

-- these slots, of which the given ones are looked at
abbrev pub scope_of : ℕ → List Slot → Scope
scope_of given slots = record { uuid = uuid; given = given; backup = None; sizes = listed_sizes slots }

abbrev verdict_of : ℕ → List Slot → Option Refusal
verdict_of given slots = verdict (scope_of given slots) (listed slots)

abbrev pub whole_slots : List Slot
whole_slots = slot 0 (superblock 5 0 1 ones) ∷ slot 1 (superblock 5 1 1 ones) ∷ slot 2 (superblock 5 2 1 ones) ∷ []

abbrev pub whole : Contents
whole = listed whole_slots

abbrev pub scope : Scope
scope = scope_of 7 whole_slots

assembles : verdict scope whole ≡ None
unfolding tabulate least_below count_below any_below reading verdict
assembles = refl

-- member 1 is two events behind
degraded : verdict_of 7 (slot 0 (superblock 5 0 5 ones) ∷ slot 1 (superblock 5 1 3 ones) ∷ slot 2 (superblock 5 2 5 ones) ∷ []) ≡ None
unfolding tabulate least_below count_below any_below reading verdict
degraded = refl

-- dirty and degraded
refused : verdict_of 7 (slot 0 (superblock 5 0 5 (bytes 8 0)) ∷ slot 1 (superblock 5 1 3 ones) ∷ slot 2 (superblock 5 2 5 ones) ∷ []) ≡ Some (DirtyDegraded 1)
unfolding tabulate least_below count_below any_below reading verdict
refused = refl

-- one member left; the same device number twice; level 4; nothing given
one_left : verdict_of 1 whole_slots ≡ Some (MembersMissing 2 1)
unfolding tabulate least_below count_below any_below reading verdict
one_left = refl

twice : verdict_of 7 (slot 0 (superblock 5 0 1 ones) ∷ slot 1 (superblock 5 0 1 ones) ∷ slot 2 (superblock 5 2 1 ones) ∷ []) ≡ Some (TwoHolders 0)
unfolding tabulate least_below count_below any_below reading verdict
twice = refl

level_four : verdict_of 7 (slot 0 (superblock 4 0 1 ones) ∷ []) ≡ Some (BadField 72)
unfolding tabulate least_below count_below any_below reading verdict
level_four = refl

none_given : verdict_of 0 whole_slots ≡ Some NoSuperblock
unfolding tabulate reading verdict
none_given = refl

-- sector 9 of the list is in stripe 0, data 1, on role 1; without its member it is filled from data 0 and P
held : standing_sector scope whole (reading_by scope.sizes.sectors (superblocks scope whole) (sb_of (superblock 5 0 1 ones ++ replicate 512 0))) 9 ≡ 1 ∷ 1 ∷ []
unfolding tabulate least_below count_below any_below reading verdict
held = refl

-- the list: sector 24 of left-symmetric level 5 on 3 disks is in stripe 1, where P is on role 1 and data 1 on role 0
sector_24 : place (record { level = 5; layout = 2; chunk = 8; disks = 3 }) 24 ≡ record { role = 0; row = 8 }
sector_24 = refl

-- these are the superblocks of a created array
abbrev three_disks : Shape
three_disks = record { level = 5; layout = 2; chunk = 8; disks = 3 }

abbrev device_of : ℕ → Device
device_of number = record { number = number; offset = 16; size = 40; uuid = replicate 16 0; second = replicate 256 0 }

abbrev bytes_of_second : List ℕ
bytes_of_second = superblock 5 2 1 ones ++ replicate 512 0

is-created : sb_of bytes_of_second ≡ record (created uuid three_disks 40 (device_of 2)) { sb_csum = checksum bytes_of_second }
unfolding tabulate
is-created = refl

-- what a slot gets that is added to an array as it was created

is-added : added (created uuid three_disks 40 (device_of 2)) (device_of 3) ≡ created uuid three_disks 40 (device_of 3)
unfolding tabulate
is-added = refl
