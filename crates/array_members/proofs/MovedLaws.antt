-- What device calls leave of an array's places.
use Rattle.std.proofs.Common.{◌≡◌, inl, inr, ℕ, ◌*◌, ◌<◌, ◌≤◌, ◌||◌, Bool, true, false, not, cond, List, [], ◌++◌, length, get_or, Option, Some, None, refl, sym, ◌∙◌, ap, ap₂, subst, arith, append_assoc, append-nil}
use Rattle.std.proofs.lemmas.Bool.{cases_lt, cases_eq}
use Rattle.std.proofs.lemmas.List.{get_or_past}
use Rattle.crash_role_laws.specs.raid_types_Shapes.{has_slot, data_disks}
use Rattle.crash_role_laws.specs.raid_types_the_Shape.{Shape}
use Rattle.crash_role_laws.specs.raid_types_the_Role.{Role}
use Rattle.crash_role_laws.specs.raid_types_the_Role_TheVariants.{Whole, Recovering, Missing}
use Rattle.crash_role_laws.specs.bank_Given.{Given}
use Rattle.crash_role_laws.specs.bank_the_Operation.{Operation}
use Rattle.crash_role_laws.specs.sb_specs_the_Members.{Members}
use Rattle.crash_role_laws.specs.sb_specs_Reading.{Reading, role_state, rows_held, holder, is_whole, role_count}
use Rattle.crash_role_laws.specs.sb_specs_Reads.{has_spare}
use Rattle.crash_role_laws.specs.stripe_row_Rows.{reading_of, role_without, members_without}
use Rattle.crash_role_laws.proofs.stripe_row_Losses.{state_kept}
use Rattle.array_members.specs.Whole.{list_size}
use Rattle.array_members.specs.Placed.{places_of, AreWhole, IsPlaced, AreLost, AreStillHeld, AreLess, IsInForce}
use Rattle.crash_role_laws.specs.crash_safety_laws_Steady.{AreUnlost}
use Rattle.array_members.specs.Moving.{Grows, IsMoved}
use Rattle.array_members.specs.Rebuilding.{IsFree}
use Rattle.array_members.specs.Lacking.{lacking}
use Rattle.array_members.proofs.PlacedLaws.{kept-roles, none-lost, places-same}
use Rattle.crash_role_laws.proofs.crash_safety_laws_Without.{state-without, in-both}
use Rattle.array_members.proofs.HeldRows.{state-less}
use Rattle.array_members.proofs.MemberLaws.{less-without, none_missing, placed-without, unlost-without}
use Rattle.array_members.proofs.Fit.{count-alike, reshape-same, reshape-then}

-- ---- the tape

pub grows-none : {tells : Type 0} {before after : List Operation} → (tells → after ≡ before) → Grows tells before after
grows-none {before = before} same = record { more = λ told. ([], same told ∙ sym (append-nil before)) }

pub grows-then : {tells : Type 0} {before mid after : List Operation} → Grows tells before mid → Grows tells mid after → Grows tells before after
grows-then {before = before} one two = record {
  more = λ told.
      let first = one.more told in
      let second = two.more told in
      (first.0 ++ second.0, second.1 ∙ ap (λ (l : List Operation). l ++ second.0) first.1 ∙ append_assoc before first.0 second.0);
}

-- ---- the places

-- the role's slot isn't lost, where the role is whole afterwards
pub whole-kept : (lost slot : ℕ) (state : Role) → not (is_whole (role_without lost state)) ≡ false → holder state ≡ Some slot → has_slot lost slot ≡ false
whole-kept lost slot (Whole s) whole held = by (has_slot lost s) refl whole
  where
    by : (b : Bool) → has_slot lost s ≡ b → not (is_whole (cond b Missing (Whole s))) ≡ false → has_slot lost slot ≡ false
    by true gone w = absurd (cc)
    by false kept w = let same : s ≡ slot = cc in ap (has_slot lost) (sym same) ∙ kept
whole-kept lost slot (Recovering s) whole held = by (has_slot lost s) refl whole
  where
    by : (b : Bool) → has_slot lost s ≡ b → not (is_whole (cond b Missing (Recovering s))) ≡ false → has_slot lost slot ≡ false
    by true gone w = absurd (cc)
    by false kept w = let same : s ≡ slot = cc in ap (has_slot lost) (sym same) ∙ kept
whole-kept lost slot Missing whole held = absurd (cc)

module _ (given : Given) (lost : ℕ) (old new : Members) (less : AreLess lost old new) (was : IsPlaced given old) where
  pub state-is : (role : ℕ) → role_state (reading_of new) role ≡ role_without lost (role_state (reading_of old) role)
  state-is role = ap (λ (l : List Role). get_or l role Missing) less.roles ∙ state-without lost old.roles role

  -- where all roles are whole afterwards, none lost its slot
  pub less-whole : AreWhole new → AreLess 0 old new
  less-whole whole = record {
    reshape = less.reshape;
    shape = less.shape;
    size = less.size;
    roles = less.roles ∙ kept-roles lost old.roles kept ∙ sym (none-lost old.roles);
    offsets = less.offsets;
    rows = less.rows;
  }
    where
      kept : (role slot : ℕ) → holder (get_or old.roles role Missing) ≡ Some slot → has_slot lost slot ≡ false
      kept role slot held = elim (cases_lt role (role_count old.newest)) [
        | inl below ↦ whole-kept lost slot (get_or old.roles role Missing)
            (ap (λ (s : Role). not (is_whole s)) (sym (state-is role)) ∙ whole role (subst (λ (n : ℕ). role < n) (sym (count-alike old.newest new.newest less.reshape less.shape less.size)) below)) held
        | inr above ↦ absurd (let past : get_or old.roles role Missing ≡ Missing = get_or_past old.roles role Missing (omega (arith, above, was.roles)) in
            let none : ◌≡◌ {A = Option ℕ} None (Some slot) = sym (ap holder past) ∙ held in cc)
      ]

  whole-before : AreWhole new → AreWhole old
  whole-before whole role below =
      ap (λ (s : Role). not (is_whole s)) (sym (ap (λ (l : List Role). get_or l role Missing) ((less-whole whole).roles ∙ none-lost old.roles)))
      ∙ whole role (subst (λ (n : ℕ). role < n) (sym (count-alike old.newest new.newest less.reshape less.shape less.size)) below)

  still-held : AreStillHeld old new
  still-held role slot held = (state_kept lost slot (role_state (reading_of old) role) (ap holder (sym (state-is role)) ∙ held)).holder

  -- a free slot that isn't lost is free
  still-free : (slot : ℕ) → IsFree given old slot → has_slot new.lost slot ≡ false → IsFree given new slot
  still-free slot free unlost = record {
    room = record {
      small = free.room.small;
      known = free.room.known;
      short = free.room.short;
      within = let within = free.room.within in let offset = less.offsets slot in let size = less.size in omega (arith, within, offset, size);
    };
    behind = subst (λ (n : ℕ). 10 ≤ n) (sym (less.offsets slot)) free.behind;
    none = λ role held. free.none role (still-held role slot held);
    unlost = unlost;
  }

  -- where there are no more spares, and none that was free is lost
  pub moved-less : IsPlaced given new → AreUnlost new → (length old.spares ≤ 32 → length new.spares ≤ 32) → ((slot : ℕ) → has_spare new.spares slot ≡ true → has_spare old.spares slot ≡ true)
      → ((slot : ℕ) → has_spare new.spares slot ≡ true → IsFree given old slot → has_slot new.lost slot ≡ false) → IsMoved given old new
  moved-less placed unlost spares fewer out = record {
    placed = placed;
    unlost = unlost;
    held = still-held;
    states = λ role slot held. state-less lost old new less role slot held;
    rows = λ role. less.rows (role_state (reading_of new) role);
    spares = spares;
    fewer = fewer;
    free = λ all slot has. let free = all slot (fewer slot has) in still-free slot free (out slot has free);
    reshape = less.reshape;
    shape = less.shape;
    size = less.size;
    offsets = less.offsets;
    whole = whole-before;
    same = λ whole. places-same old new (less-whole whole);
  }

-- nothing was done to the members
pub moved-same : (given given' : Given) (old new : Members) → given' ≡ given → new ≡ old → IsPlaced given old → AreUnlost old → IsMoved given old new
moved-same given given' old new same is placed unlost =
    subst (λ (m : Members). IsMoved given old m) (sym is) (record {
      placed = placed;
      unlost = unlost;
      held = λ role slot held. held;
      states = λ role slot held. refl;
      rows = λ role. refl;
      spares = λ few. few;
      fewer = λ slot has. has;
      free = λ all. all;
      reshape = reshape-same old.newest;
      shape = refl;
      size = refl;
      offsets = λ slot. refl;
      whole = λ w. w;
      same = λ w. refl;
    })

-- from the same bank and members
pub moved-from : (given given' : Given) (old old' new : Members) → given' ≡ given → old' ≡ old → IsMoved given' old' new → IsMoved given old new
moved-from given given' old old' new same is moved = subst (λ (g : Given). IsMoved g old new) same (subst (λ (m : Members). IsMoved given' m new) is moved)

-- as many rows are held in a later state, which is the former one where a slot still holds the role
rows-then : (a b : Reading) (former later : Role) → ((slot : ℕ) → holder later ≡ Some slot → later ≡ former) → rows_held b former ≡ rows_held a former → rows_held b later ≡ rows_held a later
rows-then a b former (Whole slot) same rows = subst (λ (s : Role). rows_held b s ≡ rows_held a s) (sym (same slot refl)) rows
rows-then a b former (Recovering slot) same rows = subst (λ (s : Role). rows_held b s ≡ rows_held a s) (sym (same slot refl)) rows
rows-then a b former Missing same rows = refl

pub moved-then : (given : Given) (a b c : Members) → IsMoved given a b → IsMoved given b c → IsMoved given a c
moved-then given a b c one two = record {
  placed = two.placed;
  unlost = two.unlost;
  held = λ role slot held. one.held role slot (two.held role slot held);
  states = λ role slot held. two.states role slot held ∙ one.states role slot (two.held role slot held);
  rows = λ role. two.rows role ∙ rows-then (reading_of a) (reading_of b) (role_state (reading_of b) role) (role_state (reading_of c) role) (two.states role) (one.rows role);
  spares = λ few. two.spares (one.spares few);
  fewer = λ slot has. one.fewer slot (two.fewer slot has);
  free = λ all. two.free (one.free all);
  reshape = reshape-then a.newest b.newest c.newest one.reshape two.reshape;
  shape = two.shape ∙ one.shape;
  size = two.size ∙ one.size;
  offsets = λ slot. two.offsets slot ∙ one.offsets slot;
  whole = λ whole. one.whole (two.whole whole);
  same = λ whole. two.same whole ∙ one.same (two.whole whole);
}

pub size-moved : (given : Given) (old new : Members) → IsMoved given old new → list_size (places_of new) ≡ list_size (places_of old)
size-moved given old new moved = ap₂ (λ (s : Shape) (n : ℕ). data_disks s * n) moved.shape moved.size

-- ---- slots that failed

neither : (a b : Bool) → a ≡ false → b ≡ false → (a || b) ≡ false
neither a b one two = ap₂ (λ (x y : Bool). x || y) one two

-- the loss of slots that held roles
pub moved-without : (given : Given) (m : Members) (lost : ℕ) → IsPlaced given m → AreUnlost m → ((slot : ℕ) → has_slot lost slot ≡ true → (role : ℕ) × (holder (role_state (reading_of m) role) ≡ Some slot))
    → IsMoved given m (members_without lost m)
moved-without given m lost was unlost held =
    moved-less given lost m (members_without lost m) (less-without m lost) was (placed-without given m lost was) (unlost-without m lost unlost) (λ few. few) (λ slot has. has)
    (λ slot has free. in-both m.lost lost slot ∙ neither _ _ free.unlost (none slot (has_slot lost slot) refl free))
  where
    none : (slot : ℕ) (b : Bool) → has_slot lost slot ≡ b → IsFree given m slot → b ≡ false
    none slot true here free = absurd (let of = held slot here in free.none of.0 of.1)
    none slot false here free = refl

-- what failed slots leave, by the call that lost them
module _ (given : Given) (shape : Shape) (old new : Members) (lost : ℕ) (before after : ℕ → ℕ) (was : IsPlaced given old) (did : AreLost given shape old new lost before after) where
  pub moved-lost : AreUnlost old → IsMoved given old new
  moved-lost unlost = subst (IsMoved given old) (sym did.members) (moved-without given old lost was unlost (λ slot gone. let failed = did.failed slot gone in (failed.1, failed.3)))

-- with a role missing, not every role is whole
pub not-whole : (given : Given) (m : Members) → IsPlaced given m → (shape : Shape) → IsInForce m.newest shape → 0 < lacking shape m → AreWhole m → ⊥
not-whole given m placed shape force some whole = absurd (let none = none_missing given m placed whole shape force in omega (arith, none, some))

-- where no role is missing afterwards, none was lost
pub lost-none : (given : Given) (shape : Shape) (old new : Members) (lost : ℕ) (before after : ℕ → ℕ) → AreLost given shape old new lost before after → IsInForce old.newest shape → AreWhole new → lost ≡ 0
lost-none given shape old new lost before after did force whole = elim (cases_eq lost 0) [
  | inl is ↦ is
  | inr some ↦ absurd (not-whole given new did.placed shape (subst (λ (m : Members). IsInForce m.newest shape) (sym did.members) force) (did.missing some) whole)
]
