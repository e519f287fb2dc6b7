-- An array of which no live slot is left: none that holds a role can be written any more.
use Rattle.std.proofs.Common.{◌≡◌, ◌⊎◌, inl, inr, ℕ, ◌||◌, ◌&&◌, Bool, true, false, nat_lt, List, Some, ◌∙◌, arith}
use Rattle.std.proofs.lemmas.Bool.Decides.{nat_tests}
use Rattle.crash_views.specs.raid_types_Sectors.{Sector}
use Rattle.crash_views.specs.raid_types_Shapes.{has_slot}
use Rattle.crash_views.specs.raid_types_the_Shape.{Shape}
use Rattle.crash_views.specs.bank_Given.{Given}
use Rattle.crash_views.specs.sb_specs_the_Members.{Members}
use Rattle.crash_views.specs.sb_specs_Reading.{holder, role_state}
use Rattle.crash_views.specs.sb_specs_Updating.{IsSomeLeft}
use Rattle.crash_views.specs.sb_specs_Outcome.{live_set}
use Rattle.crash_views.specs.sb_specs_Reads.{has_spare}
use Rattle.crash_views.specs.stripe_row_Rows.{reading_of}
use Rattle.crash_views.specs.stripe_list_Writing.{MayHaveFull, IsPutting}
use Rattle.crash_safety_laws.specs.Steady.{AreHolders, AreUnlost}
use Rattle.crash_safety_laws.specs.Marking.{marking}
use Rattle.crash_safety_laws.proofs.Without.{any-held, live-is}

-- a slot that holds a role is live
pub live-holder : (given : Given) (m : Members) (clean : Bool) (role slot : ℕ) → AreHolders given m → holder (role_state (reading_of m) role) ≡ Some slot
    → has_slot (live_set m (marking m clean)) slot ≡ true
live-holder given m clean role slot holders holds =
    live-is m clean slot
    ∙ (λ i. below i && ((any-held slot m.roles role holds i || has_spare m.spares slot) || false))
  where
    below : nat_lt slot 32 ≡ true
    below = let small = (holders role slot holds).small in grind (arith, nat_tests, small)

-- so no row can be put
pub nothing-put : (given : Given) (m : Members) (shape : Shape) (list : ℕ → Sector) (touched : ℕ → Type 0) (d e : ℕ → ℕ → List Sector) → AreHolders given m → AreUnlost m
    → (IsSomeLeft (live_set m (marking m false)) m.lost → ⊥) → IsPutting (reading_of m) shape list touched d e → (s k : ℕ) → e s k ≡ d s k
nothing-put given m shape list touched d e holders unlost none putting s k = by (putting s k)
  where
    by : (e s k ≡ d s k) ⊎ MayHaveFull (reading_of m) shape list touched s k (d s k) (e s k) → e s k ≡ d s k
    by (inl same) = same
    by (inr full) = absurd (none (s, live-holder given m false full.role s holders full.held, unlost full.role s full.held))
