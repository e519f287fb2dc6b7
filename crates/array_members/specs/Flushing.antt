-- What flushes leave.
use Rattle.std.specs.Prelude.{◌≡◌, ℕ, ◌<◌, ◌≤◌, true, false, List, [], ◌∷◌, ◌++◌, length, Some}
use Rattle.crash_role_laws.specs.raid_types_Shapes.{has_slot}
use Rattle.crash_role_laws.specs.bank_the_Operation.{Operation}
use Rattle.crash_role_laws.specs.bank_Given.{Given, IsFaulted}
use Rattle.crash_role_laws.specs.bank_Tape.{contents, disk, AreFlushes}
use Rattle.crash_role_laws.specs.sb_specs_Reading.{Reading, role_state, holder}

-- no count falls, and only those of the bank's slots may rise
pub record OnlyItsSlotsFail (bank : Given) (before after : ℕ → ℕ) : Type 0 where
  pub never_falls : (s : ℕ) → before s ≤ after s
  pub others : (s : ℕ) → bank.slots ≤ s → after s ≡ before s

-- the tape got flushes alone
abbrev pub OnlyFlushesAdded : List Operation → List Operation → Type 0
OnlyFlushesAdded old new = (ops : List Operation) × AreFlushes ops × (new ≡ old ++ ops)

-- Each of the first n slots was flushed, unless it was lost; those that were lost since have failed.
pub record AreTried (tells : Type 0) (bank : Given) (tape : List Operation) (n old new : ℕ) (before after : ℕ → ℕ) : Type 0 where
  pub flushed : tells → (s k : ℕ) → s < n → has_slot new s ≡ false → disk bank.start tape s k ≡ contents bank.start tape (length tape) s k ∷ []
  pub sound : (s : ℕ) → s < n → has_slot new s ≡ false → before s ≡ 0
  pub stay : (s : ℕ) → has_slot old s ≡ true → has_slot new s ≡ true
  pub known : (s : ℕ) → has_slot new s ≡ true → has_slot old s ≡ false → s < n
  pub failed : (s : ℕ) → has_slot new s ≡ true → has_slot old s ≡ false → IsFaulted s before after

-- each slot that holds a role was flushed, but for these
abbrev pub AreMembersFlushed : Type 0 → Given → List Operation → Reading → ℕ → Type 0
AreMembersFlushed tells bank tape r lost = tells → (role slot : ℕ) → holder (role_state r role) ≡ Some slot → has_slot lost slot ≡ false
    → (k : ℕ) → disk bank.start tape slot k ≡ contents bank.start tape (length tape) slot k ∷ []

-- the slots that hold a role
pub record AreHolders (r : Reading) (set : ℕ) : Type 0 where
  pub all : (role slot : ℕ) → holder (role_state r role) ≡ Some slot → has_slot set slot ≡ true
  pub only : (slot : ℕ) → has_slot set slot ≡ true → (role : ℕ) × (holder (role_state r role) ≡ Some slot)
