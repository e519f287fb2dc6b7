-- Spares, the roles that they get, and what is rebuilt of these.
use Rattle.std.specs.Prelude.{◌≡◌, ◌≢◌, ◌⊎◌, ℕ, ◌+◌, ◌*◌, ◌<◌, ◌≤◌, Bool, true, false, not, ◌&&◌, ◌||◌, ◌==◌, List, [], ◌∷◌, slice_set, option_map, Option, Some, None, MatchOption, IsTrue, ⊤}
use Rattle.std.specs.List.{list_any}
use Rattle.crash_role_laws.specs.raid_types_Sectors.{Sector}
use Rattle.crash_role_laws.specs.raid_types_Shapes.{has_slot}
use Rattle.crash_role_laws.specs.raid_types_the_Role.{Role}
use Rattle.crash_role_laws.specs.raid_types_the_Role_TheVariants.{Whole, Recovering}
use Rattle.crash_role_laws.specs.sb_codec_the_Sb.{Sb}
use Rattle.crash_role_laws.specs.bank_Given.{Given}
use Rattle.crash_role_laws.specs.bank_Tape.{Contents}
use Rattle.crash_role_laws.specs.sb_specs_the_Members.{Members}
use Rattle.crash_role_laws.specs.sb_specs_Reading.{shape_of, role_state, rows_held, holder, data_offset_of}
use Rattle.crash_role_laws.specs.sb_specs_Reads.{has_spare}
use Rattle.crash_role_laws.specs.sb_specs_Update.{own_in, with_recovery}
use Rattle.crash_role_laws.specs.sb_specs_Outcome.{with_added, slots_below}
use Rattle.crash_role_laws.specs.stripe_row_Rows.{reading_of, IsHolder}
use Rattle.crash_role_laws.specs.stripe_list_Full.{full_sector}
use Rattle.crash_role_laws.specs.stripe_list_Writing.{HasFull}
use Rattle.crash_role_laws.specs.history_the_Entry.{Entry}
use Rattle.crash_role_laws.specs.history_the_Event.{Event}
use Rattle.crash_role_laws.specs.history_the_Event_TheVariants.{Rebuilt}
use Rattle.array_members.specs.declared.work.Work.{Work}
use Rattle.array_members.specs.Status.{rebuilt_of}

-- ---- spares

-- The slot has room for the rows of a role, behind its superblock, holds none, and wasn't lost.
pub record IsFree (given : Given) (members : Members) (slot : ℕ) : Type 0 where
  pub room : IsHolder given (reading_of members) slot
  pub behind : 10 ≤ data_offset_of (reading_of members) slot
  pub none : (role : ℕ) → holder (role_state (reading_of members) role) ≡ Some slot → ⊥
  pub unlost : has_slot members.lost slot ≡ false

-- so it is of each spare
abbrev pub AreSparesFree : Given → Members → Type 0
AreSparesFree given members = (slot : ℕ) → has_spare members.spares slot ≡ true → IsFree given members slot

-- the members with this slot as a spare, which has this superblock
abbrev pub with_spare : ℕ → Sb → Members → Members
with_spare slot sb members = record (with_added members (Some (slot, sb))) { spares = slots_below 32 (λ s. has_spare members.spares s || (slot == s)) }

-- the slot has a superblock of which this holds
abbrev pub IfOwn : Members → ℕ → (Sb → Type 0) → Type 0
IfOwn members slot Fact = MatchOption (own_in members.own slot) ⊥ Fact

-- ---- a spare that gets a role

-- the members with this role in that state, where its slot has that recovery offset, or none
abbrev pub with_state : ℕ → Role → ℕ → Option ℕ → Members → Members
with_state role state slot recovery members = record members {
  own = slice_set members.own slot (option_map (with_recovery recovery) (own_in members.own slot));
  roles = slice_set members.roles role state;
  spares = slots_below 32 (λ s. has_spare members.spares s && not (slot == s));
}

-- the members with this role given to a spare, which has nothing of it yet
abbrev pub with_recovering : ℕ → ℕ → Members → Members
with_recovering role slot members = with_state role (Recovering slot) slot (Some 0) members

-- the members with this role whole on the slot that recovered it
abbrev pub with_whole : ℕ → ℕ → Members → Members
with_whole role slot members = with_state role (Whole slot) slot None members

-- ---- what is rebuilt

-- Each recovering slot has its role's sectors of the list in the rows of the stripes that are rebuilt, those beyond what it holds already.
abbrev pub AreRebuilt : Work → Members → Contents → (ℕ → Sector) → Type 0
AreRebuilt work members c list = (role slot row : ℕ) → role < (shape_of members.newest).disks → role_state (reading_of members) role ≡ Recovering slot
    → rows_held (reading_of members) (Recovering slot) ≤ row → row < rebuilt_of work role * (shape_of members.newest).chunk → row < members.newest.size
    → HasFull (reading_of members) c (shape_of members.newest) list row role slot

-- the slot's place of one of these rows of the role, which it doesn't hold yet
abbrev pub IsUnheld : Members → ℕ → ℕ → (ℕ → Type 0) → ℕ → ℕ → Type 0
IsUnheld members role slot among s k = (s ≡ slot) × ((row : ℕ) × among row × (row < members.newest.size)
    × (rows_held (reading_of members) (role_state (reading_of members) role) ≤ row) × (k ≡ data_offset_of (reading_of members) slot + row))

-- what a stop may leave of each sector is as it was, or it is such a place
abbrev pub IsFilling : Members → ℕ → ℕ → (ℕ → ℕ → List Sector) → (ℕ → ℕ → List Sector) → Type 0
IsFilling members role slot d e = (s k : ℕ) → (e s k ≡ d s k) ⊎ IsUnheld members role slot (λ row. ⊤) s k

-- each sector but the superblocks is as it was, or it is such a place of one of these rows
abbrev pub IsFilledAmong : Members → ℕ → ℕ → (ℕ → Type 0) → Contents → Contents → Type 0
IsFilledAmong members role slot among before after = (s k : ℕ) → k ≢ 8 → (after s k ≡ before s k) ⊎ IsUnheld members role slot among s k

-- the slot has the role's sector of each row, as it belongs to the list
abbrev pub AreRowsFull : Members → ℕ → ℕ → (ℕ → Sector) → Contents → Type 0
AreRowsFull members role slot list c = (row : ℕ) → row < members.newest.size → HasFull (reading_of members) c (shape_of members.newest) list row role slot

-- so it has, and a stop leaves that alone
abbrev pub IsFlushedFull : Members → ℕ → ℕ → (ℕ → Sector) → (ℕ → ℕ → List Sector) → Type 0
IsFlushedFull members role slot list d = (row : ℕ) → row < members.newest.size
    → d slot (data_offset_of (reading_of members) slot + row) ≡ full_sector (shape_of members.newest) list row role ∷ []

-- no role was rebuilt in these entries
abbrev pub is_rebuilt : Event → Bool
is_rebuilt (Rebuilt role) = true
is_rebuilt event = false

abbrev pub HasNoRebuilt : List Entry → Type 0
HasNoRebuilt entries = IsTrue (not (list_any (λ e. is_rebuilt e.event) entries))

-- the slot held the role
abbrev pub Held : Members → ℕ → ℕ → Type 0
Held members role slot = holder (role_state (reading_of members) role) ≡ Some slot

-- it held it, or it was a spare, which a step may give the role
abbrev pub MayHold : Members → ℕ → ℕ → Type 0
MayHold members role slot = Held members role slot ⊎ (has_spare members.spares slot ≡ true)
