-- What a list that stands on the roles gives of each sector, whatever is missing.
use Rattle.std.specs.Prelude.{◌≡◌, ℕ, ◌<◌, IsTrue}
use Rattle.raid_layout.specs.raid_types_the_Shape.{Shape}
use Rattle.raid_layout.specs.raid_types_Sectors.{Sector}
use Rattle.raid_layout.specs.raid_types_Shapes.{is_valid_shape}
use Rattle.stripe_row.specs.bank_Tape.{Contents}
use Rattle.raid_layout.specs.Layout.{place}
use Rattle.stripe_row.specs.sb_specs_the_Members.{Members}
use Rattle.stripe_row.specs.sb_specs_Reading.{Reading}
use Rattle.stripe_row.specs.Rows.{reading_of, standing_sector, members_without, IsTolerated}
use Rattle.stripe_list.specs.Full.{full_sector, DataStands, ParityStands, RowStands}
use Rattle.stripe_list.specs.Writing.{IsRowKept}

-- the full sector at a place is the list's sector
abbrev pub PlacesAreFull : Type 0
PlacesAreFull = (shape : Shape) (list : ℕ → Sector) (x : ℕ) → IsTrue (is_valid_shape shape) → full_sector shape list (place shape x).row (place shape x).role ≡ list x

-- where the row stands as the list, each role has its full sector, whether a slot holds it or it is filled in
abbrev pub StandingIsFull : Type 0
StandingIsFull = (r : Reading) (c : Contents) (shape : Shape) (list : ℕ → Sector) (row : ℕ) → IsTrue (is_valid_shape shape) → row < r.newest.size → IsTolerated r shape
    → RowStands r c shape list row → (role : ℕ) → role < shape.disks → standing_sector c r shape row role ≡ full_sector shape list row role

-- the loss of slots leaves both as they are
abbrev pub LosingKeeps : Type 0
LosingKeeps = (members : Members) (lost : ℕ) (c : Contents) (shape : Shape) (list : ℕ → Sector) (row : ℕ)
    → (DataStands (reading_of members) c shape list row → DataStands (reading_of (members_without lost members)) c shape list row)
    × (ParityStands (reading_of members) c shape list row → ParityStands (reading_of (members_without lost members)) c shape list row)

-- A row that is kept stands on, whatever slots are lost, and by any list that has the same sectors there.
abbrev pub KeptRowsStand : Type 0
KeptRowsStand = (members : Members) (lost : ℕ) (before after : Contents) (shape : Shape) (list list' : ℕ → Sector) (row : ℕ) → IsTrue (is_valid_shape shape)
    → IsRowKept (reading_of members) before after row → ((x : ℕ) → (place shape x).row ≡ row → list' x ≡ list x)
    → (DataStands (reading_of members) before shape list row → DataStands (reading_of (members_without lost members)) after shape list' row)
    × (ParityStands (reading_of members) before shape list row → ParityStands (reading_of (members_without lost members)) after shape list' row)
