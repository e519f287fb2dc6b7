-- What calls on a list take, and what became of them.
use Rattle.std.specs.Prelude.{◌≡◌, ℕ, ◌+◌, ◌^◌, ◌<◌, ◌≤◌, Bool, true, false, length, Some, Result, Ok, Err, IsTrue}
use Rattle.raid_layout.specs.raid_types_the_Shape.{Shape}
use Rattle.raid_layout.specs.raid_types_Sectors.{Sector}
use Rattle.raid_layout.specs.raid_types_Shapes.{is_valid_shape, is_multiple, tolerance}
use Rattle.stripe_row.specs.bank_Given.{Given, NeverFalls}
use Rattle.stripe_row.specs.bank_Tape.{Contents}
use Rattle.raid_layout.specs.Layout.{place}
use Rattle.stripe_row.specs.sb_specs_the_Members.{Members}
use Rattle.stripe_row.specs.sb_specs_Reading.{Reading, role_state, holder}
use Rattle.stripe_row.specs.Rows.{reading_of, is_held, is_missing, missing_count, members_without, IsHolder, HaveFailed, IsTolerated}
use Rattle.stripe_list.specs.declared.outcome.Unavailable.{Unavailable}
use Rattle.stripe_list.specs.declared.outcome.Unavailable.TheVariants.{TooManyMissing, NotResynced}
use Rattle.stripe_list.specs.Full.{DataStands, RowStands}

-- The members have the rows of a valid shape: a slot that holds a role has the rows below the size, a whole number of chunks.
pub record HasRows (given : Given) (r : Reading) (shape : Shape) : Type 0 where
  pub valid : IsTrue (is_valid_shape shape)
  pub multiple : IsTrue (is_multiple r.newest.size shape.chunk)
  pub short : r.newest.size ≤ 2 ^ 48
  pub roles : shape.disks ≤ length r.roles
  pub few : length r.roles ≤ 16
  pub holders : (role slot : ℕ) → holder (role_state r role) ≡ Some slot → IsHolder given r slot

-- What a call leaves of the members: these slots are lost, and each of them held a role and has failed in the call.
pub record AreLost (shape : Shape) (old new : Members) (lost : ℕ) (before after : ℕ → ℕ) : Type 0 where
  pub members : new ≡ members_without lost old
  pub failed : HaveFailed (reading_of old) shape.disks lost before after
  pub never_falls : NeverFalls before after

-- What a call answers, by the roles that are missing in the end: too many of them, or else, in an array that isn't synced,
-- one that was asked for, or none that matters.
abbrev pub IsAnswer : {T : Type 0} → Shape → Bool → Reading → (ℕ → Type 0) → Result T Unavailable → Type 0
IsAnswer shape synced r asked (Ok done) = IsTolerated r shape
IsAnswer shape synced r asked (Err TooManyMissing) = tolerance shape < missing_count r shape
IsAnswer shape synced r asked (Err (NotResynced role)) = IsTolerated r shape × (synced ≡ false) × (is_missing r role ≡ true) × asked role

-- one of so many sectors from this one on has its place on the role
abbrev pub IsAsked : Shape → ℕ → ℕ → ℕ → Type 0
IsAsked shape first count role = (x : ℕ) × (first ≤ x) × (x < first + count) × ((place shape x).role ≡ role)

-- What was read of sector x is the list's, where the data roles of its row stood as the list, and, if the array is synced and
-- no slot holds the sector in the end, its parity did so too.
abbrev pub IsListed : Shape → Bool → Reading → Reading → Contents → ℕ → Sector → Type 0
IsListed shape synced old new c x sector = (list : ℕ → Sector) → DataStands old c shape list (place shape x).row
    → (synced ≡ true → is_held new (place shape x).role (place shape x).row ≡ false → RowStands old c shape list (place shape x).row) → sector ≡ list x
