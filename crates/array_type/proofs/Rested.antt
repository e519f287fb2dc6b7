-- What members have that are placed, and what a call leaves that did nothing, as the calls below them ask it.
use Rattle.std.proofs.Common.{◌≡◌, inl, ℕ, ◌+◌, ◌-◌, ◌*◌, ◌/◌, ◌<◌, ◌≤◌, Option, Some, length, sym, ◌∙◌, subst, arith, Fits, w64}
use Rattle.std.specs.Prelude.{◌^◌}
use Rattle.std.proofs.Math.Nat.{div-le_self, le_trans}
use Rattle.array_state.specs.raid_types_the_Shape.{Shape}
use Rattle.sb_election.specs.bank_Given.{Given}
use Rattle.sb_election.specs.sb_specs_the_Members.{Members}
use Rattle.sb_election.specs.sb_specs_Reading.{shape_of}
use Rattle.sb_election.proofs.sb_specs_ValidFields.{few-roles}
use Rattle.array_parts.specs.array_members_the_Work.{Work}
use Rattle.array_parts.specs.array_members_Moving.{IsMoved}
use Rattle.array_parts.specs.array_members_Placed.{IsPlaced}
use Rattle.array_parts.specs.array_members_Status.{stripes_of}
use Rattle.array_parts.proofs.array_members_Fit.{short, disks-within, force-disks, count-alike}
use Rattle.array_parts.specs.reshape_request_the_PhasesLeft.{PhasesLeft}
use Rattle.array_reshaping_laws.specs.array_specs_Parts.{still_left}

pub le-of : {a b : ℕ} → a ≡ b → a ≤ b
le-of same = omega (arith, same)

pub from-0 : (n : ℕ) → 0 ≤ n
from-0 n = omega arith

-- ---- the shape

module _ (given : Given) (m : Members) (placed : IsPlaced given m) (shape : Shape) (is : shape ≡ shape_of m.newest) where
  pub shape-few : shape.disks ≤ 32
  shape-few = le_trans (force-disks m.newest placed.fit shape (inl is)) (le_trans (few-roles m.newest placed.fit.valid) (omega arith))

  pub shape-known : shape.disks ≤ length m.roles
  shape-known = disks-within given m placed shape (inl is)

-- as many roles as before
pub count-moved : {given : Given} {old new : Members} (count : ℕ) → IsPlaced given old → IsMoved given old new → count ≡ length old.roles → count ≤ length new.roles
count-moved {old = old} {new = new} count placed moved is =
    le-of (is ∙ placed.roles ∙ sym (count-alike old.newest new.newest moved.reshape moved.shape moved.size) ∙ sym moved.placed.roles)

-- ---- stripes

-- one more can be counted
pub stripe-fits : (given : Given) (m : Members) → IsPlaced given m → (stripe : ℕ) → stripe < stripes_of m → Fits w64 (stripe + 1)
stripe-fits given m placed stripe lt =
    let few : stripes_of m ≤ m.newest.size = div-le_self m.newest.size (shape_of m.newest).chunk in
    let rows : m.newest.size ≤ 2 ^ 48 = short given m placed in
    omega (arith, lt, few, rows)

pub stripe-more : {given : Given} {old new : Members} (stripe : ℕ) → IsMoved given old new → stripe < stripes_of old → stripe + 1 ≤ stripes_of new
stripe-more {old = old} {new = new} stripe moved lt =
    let same : stripes_of new ≡ stripes_of old = λ i. moved.size i / (moved.shape i).chunk in
    omega (arith, lt, same)

-- a resync that is pending is a step at least
pub pending-left : (work : Work) (m : Members) (ahead : PhasesLeft) (mended : ℕ) → work.resync ≡ Some mended → still_left work m ahead ≡ 0 → ⊥
pending-left work m ahead mended is none = some (subst (λ (o : Option ℕ). still_left (record work { resync = o }) m ahead ≡ 0) is none)
  where
    some : still_left (record work { resync = Some mended }) m ahead ≡ 0 → ⊥
    some none = omega (arith, none)

-- ---- steps and room

pub one-less : (was steps : ℕ) → was ≡ steps → 1 ≤ steps → was - 1 + 1 ≡ steps
one-less was steps same some = omega (arith, same, some)

pub room-of-step : (steps room : ℕ) → 50 * steps < room → 1 ≤ steps → 49 ≤ room
room-of-step steps room left some = omega (arith, left, some)

pub room-50 : (n room : ℕ) → 50 ≤ n → n ≤ room → 50 ≤ room
room-50 n room most left = omega (arith, most, left)

pub room-49 : (room : ℕ) → 50 ≤ room → 49 ≤ room
room-49 room left = omega (arith, left)

pub room-1 : (room : ℕ) → 50 ≤ room → 0 < room
room-1 room left = omega (arith, left)

-- ---- nothing was done
