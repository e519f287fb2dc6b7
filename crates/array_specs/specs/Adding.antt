-- What a call leaves that makes a slot a spare.
use Rattle.std.specs.Prelude.{◌≡◌, ◌⊎◌, ℕ, true, List}
use Rattle.array_reshaping_state.specs.bank_the_Operation.{Operation}
use Rattle.array_reshaping_state.specs.bank_Given.{Given, NeverFalls}
use Rattle.array_reshaping_state.specs.sb_specs_the_Members.{Members}
use Rattle.array_reshaping_state.specs.sb_specs_Reads.{has_spare}
use Rattle.array_reshaping_state.specs.array_members_Placed.{AreStillHeld}
use Rattle.array_reshaping_state.specs.array_members_Moving.{Grows}
use Rattle.array_reshaping_state.specs.array_call_specs_Calls.{AreLossesOf, IsEndOf, IsWorkAdded}
use Rattle.array_specs.specs.Parts.{RunningParts}
use Rattle.array_specs.specs.Calls.{moving_world, IsSameReshape}

-- each spare was one before, or it is this slot
abbrev pub AreSparesBut : ℕ → Members → Members → Type 0
AreSparesBut slot old new = (s : ℕ) → has_spare new.spares s ≡ true → (has_spare old.spares s ≡ true) ⊎ (s ≡ slot)

-- What a call leaves that may make this slot a spare, done or refused: it is as after each call (`IsCalled`), but that the slot may be a spare then, and that
-- its superblock may bear one number more, which was free, or that one alone.
pub record IsAddCalled {B : Type 0} (tells : Type 0) (given : Given) (tape tape' : List Operation) (before after : ℕ → ℕ) (slot : ℕ) (old new : RunningParts B) : Type 0 where
  pub grows : Grows tells tape tape'
  pub ended : IsEndOf tells new.parts.first new.parts.entries tape'
  pub held : AreStillHeld old.parts.members new.parts.members
  pub spares : AreSparesBut slot old.parts.members new.parts.members
  pub losses : AreLossesOf old.parts.members before after old.parts.entries new.parts.entries
  pub never_falls : NeverFalls before after
  pub work : IsWorkAdded old.parts.members.newest slot old.parts.work new.parts.work
  pub same : IsSameReshape tells old new (moving_world given tape old) (moving_world given tape' new)
