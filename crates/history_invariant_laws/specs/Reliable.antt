-- What a history says can be relied on, who is gone by it, and what it says of its last step and past the list's end.
use Rattle.std.specs.Prelude.{◌≡◌, ℕ, ◌<◌, ◌≤◌, true, List, [], length}
use Rattle.history_invariant.specs.sb_specs_the_Members.{Members}
use Rattle.history_invariant.specs.sb_specs_Reading.{role_count}
use Rattle.history_invariant.specs.stripe_row_Rows.{reading_of, is_missing}
use Rattle.history_invariant.specs.history_the_Entry.{Entry}
use Rattle.history_invariant.specs.history_Epochs.{HasRoomForEvents}
use Rattle.history_invariant.specs.history_Flat.{values_of}
use Rattle.history_invariant.specs.history_Legal.{end_before}
use Rattle.history_invariant.specs.history_Losses.{is_gone_after}
use Rattle.history_invariant.specs.history_World.{World, opening_list}
use Rattle.history_invariant.specs.Safe.{IsFilledRight}

-- What is filled in is right, and the superblocks can be read, for the event counts have room.
pub record IsReliable (world : World) (entries : List Entry) : Type 0 where
  pub fills : IsFilledRight world entries
  pub room : HasRoomForEvents world

-- each role that is missing is gone by the history
abbrev pub AreToldGone : World → List Entry → Members → Type 0
AreToldGone world entries members = (role : ℕ) → role < role_count members.newest → is_missing (reading_of members) role ≡ true → is_gone_after world entries role ≡ true

-- past the end of a list of this size no sector has a value
abbrev pub IsNonePast : World → List Entry → ℕ → Type 0
IsNonePast world entries size = IsFilledRight world entries → (x : ℕ) → size ≤ x → values_of (opening_list world) entries x ≡ []

-- So it is, and the last entry but for losses ended with the tape.
pub record HasLastStep (world : World) (entries : List Entry) (size : ℕ) : Type 0 where
  pub last : end_before world entries ≡ length world.tape
  pub past : IsNonePast world entries size
