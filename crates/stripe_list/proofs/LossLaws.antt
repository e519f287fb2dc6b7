-- Losses one after another, and what they leave of the members.
use Rattle.std.proofs.Common.{◌≡◌, ◌⊎◌, inl, inr, ℕ, ◌<◌, ◌≤◌, ◌==◌, ◌||◌, Bool, true, false, nat_lt, if◌then◌else◌, max, bit_or, List, [], ◌∷◌, map, Some, eqb-true, refl, sym, ap, ap₂, ◌∙◌, subst, arith}
use Rattle.std.specs.Int.{bit_at}
use Rattle.std.proofs.lemmas.Bool.Decides.{nat_tests}
use Rattle.std.proofs.lemmas.Nat.Bits.{bit_at_or, bit_at-lt}
use Rattle.raid_layout.specs.raid_types_the_Shape.{Shape}
use Rattle.raid_layout.specs.raid_types_the_Role.{Role}
use Rattle.raid_layout.specs.raid_types_the_Role_TheVariants.{Whole, Recovering, Missing}
use Rattle.raid_layout.specs.raid_types_Shapes.{has_slot}
use Rattle.stripe_row.specs.bank_Given.{Given, IsFaulted, NeverFalls}
use Rattle.stripe_row.proofs.bank_Causes.{faulted_longer}
use Rattle.stripe_row.specs.sb_specs_the_Members.{Members}
use Rattle.stripe_row.specs.sb_specs_Reading.{Reading, role_state, rows_held, holder}
use Rattle.stripe_row.proofs.sb_specs_SlotSets.{same_set, none_there}
use Rattle.stripe_row.specs.Rows.{reading_of, is_held, role_without, members_without, IsRow, IsTolerated}
use Rattle.stripe_row.proofs.Losses.{holder-after, state_after, state_kept}
use Rattle.stripe_row.proofs.Tables.{length-mapped}
use Rattle.stripe_row.proofs.Written.{members_without-none}
use Rattle.stripe_list.specs.Calls.{HasRows, AreLost}

-- ---- sets

bit_of : (m a b : ℕ) → m ≡ max a b → a < 2 → b < 2 → (m == 1) ≡ ((a == 1) || (b == 1))
bit_of m a b is la lb = grind (arith, nat_tests)

pub slot_of_both : (a b s : ℕ) → has_slot (bit_or a b) s ≡ (has_slot a s || has_slot b s)
slot_of_both a b s = bit_of (bit_at (bit_or a b) s) (bit_at a s) (bit_at b s) (bit_at_or a b s) (bit_at-lt a s) (bit_at-lt b s)

either : (a b : Bool) → (a || b) ≡ true → (a ≡ true) ⊎ (b ≡ true)
either true b is = inl refl
either false b is = inr is

or_or : (a b c : Bool) → ((a || b) || c) ≡ (a || (b || c))
or_or true b c = refl
or_or false b c = refl

or_assoc : (a b c : ℕ) → bit_or (bit_or a b) c ≡ bit_or a (bit_or b c)
or_assoc a b c = same_set (bit_or (bit_or a b) c) (bit_or a (bit_or b c)) (λ s.
    slot_of_both (bit_or a b) c s ∙ ap (λ (x : Bool). x || has_slot c s) (slot_of_both a b s) ∙ or_or (has_slot a s) (has_slot b s) (has_slot c s)
    ∙ sym (slot_of_both a (bit_or b c) s ∙ ap (λ (x : Bool). has_slot a s || x) (slot_of_both b c s)))

-- ---- one loss after another

state_then : (x y : Bool) (state : Role) (b s : ℕ) → holder state ≡ Some s → has_slot b s ≡ y
    → role_without b (if x then Missing else state) ≡ (if (x || y) then Missing else state)
state_then true y state b s held bit = refl
state_then false y (Whole t) b s held bit = let same : t ≡ s = cc in ap (λ (z : Bool). if z then Missing else Whole t) (ap (has_slot b) same ∙ bit)
state_then false y (Recovering t) b s held bit = let same : t ≡ s = cc in ap (λ (z : Bool). if z then Missing else Recovering t) (ap (has_slot b) same ∙ bit)
state_then false y Missing b s held bit = absurd (cc)

without_then : (a b : ℕ) (state : Role) → role_without b (role_without a state) ≡ role_without (bit_or a b) state
without_then a b (Whole s) = state_then (has_slot a s) (has_slot b s) (Whole s) b s refl refl ∙ sym (ap (λ (z : Bool). if z then Missing else Whole s) (slot_of_both a b s))
without_then a b (Recovering s) = state_then (has_slot a s) (has_slot b s) (Recovering s) b s refl refl ∙ sym (ap (λ (z : Bool). if z then Missing else Recovering s) (slot_of_both a b s))
without_then a b Missing = refl

roles_then : (a b : ℕ) (roles : List Role) → map (role_without b) (map (role_without a) roles) ≡ map (role_without (bit_or a b)) roles
roles_then a b [] = refl
roles_then a b (state ∷ roles) = ap₂ (λ (x : Role) (xs : List Role). x ∷ xs) (without_then a b state) (roles_then a b roles)

pub members_then : (a b : ℕ) (m : Members) → members_without b (members_without a m) ≡ members_without (bit_or a b) m
members_then a b m = ap₂ (λ (roles : List Role) (lost : ℕ). record m { roles = roles; lost = lost }) (roles_then a b m.roles) (or_assoc m.lost a b)

pub none_lost : (shape : Shape) (m : Members) (before after : ℕ → ℕ) → NeverFalls before after → AreLost shape m m 0 before after
none_lost shape m before after never = record { members = members_without-none m; failed = λ s gone. absurd (let e = none_there s in cc); never_falls = never }

pub lost_then : {shape : Shape} {old mid new : Members} {a b : ℕ} {first before after : ℕ → ℕ} → AreLost shape old mid a first before → AreLost shape mid new b before after
    → AreLost shape old new (bit_or a b) first after
lost_then {shape = shape} {old = old} {mid = mid} {new = new} {a = a} {b = b} {first = first} {before = before} {after = after} one two = record {
  members = two.members ∙ ap (members_without b) one.members ∙ members_then a b old;
  failed = λ s gone. at s (either (has_slot a s) (has_slot b s) (sym (slot_of_both a b s) ∙ gone));
  never_falls = λ s. omega (arith, one.never_falls s, two.never_falls s);
}
  where
    at : (s : ℕ) → (has_slot a s ≡ true) ⊎ (has_slot b s ≡ true) → IsFaulted s first after × (role : ℕ) × (role < shape.disks) × (holder (role_state (reading_of old) role) ≡ Some s)
    at s (inl gone) =
        let f = one.failed s gone in
        (faulted_longer s first first before after (omega arith) (two.never_falls s) (one.never_falls s) f.0, f.1, f.2, f.3)
    at s (inr gone) =
        let f = two.failed s gone in (
          faulted_longer s first before after after (one.never_falls s) (omega arith) (two.never_falls s) f.0,
          f.1,
          f.2,
          holder-after old a f.1 s (subst (λ (m : Members). holder (role_state (reading_of m) f.1) ≡ Some s) one.members f.3),
        )

-- one slot, which held a role and failed
pub slot_lost : (shape : Shape) (old new : Members) (lost slot role : ℕ) (before after : ℕ → ℕ) → new ≡ members_without lost old → ((s : ℕ) → has_slot lost s ≡ (slot == s))
    → role < shape.disks → holder (role_state (reading_of old) role) ≡ Some slot → IsFaulted slot before after → NeverFalls before after → AreLost shape old new lost before after
slot_lost shape old new lost slot role before after is alone lt held failed never = record {
  members = is;
  failed = λ s gone.
      let same : slot ≡ s = eqb-true slot s (sym (alone s) ∙ gone) in
      (subst (λ (t : ℕ). IsFaulted t before after) same failed, role, lt, held ∙ ap (λ (t : ℕ). Some t) same);
  never_falls = never;
}

-- ---- what stays

pub rows_kept : {given : Given} {shape : Shape} (m : Members) (lost : ℕ) → HasRows given (reading_of m) shape → HasRows given (reading_of (members_without lost m)) shape
rows_kept {shape = shape} m lost has = record {
  valid = has.valid;
  multiple = has.multiple;
  short = has.short;
  roles = subst (λ (n : ℕ). shape.disks ≤ n) (sym (length-mapped (role_without lost) m.roles)) has.roles;
  few = subst (λ (n : ℕ). n ≤ 16) (sym (length-mapped (role_without lost) m.roles)) has.few;
  holders = λ role slot held.
      let was = has.holders role slot (holder-after m lost role slot held) in
      record { small = was.small; known = was.known; short = was.short; within = was.within };
}

pub rows_by : {given given' : Given} {shape : Shape} {new : Members} (old : Members) (lost : ℕ) → given' ≡ given → new ≡ members_without lost old → HasRows given (reading_of old) shape → HasRows given' (reading_of new) shape
rows_by {given = given} {shape = shape} {new = new} old lost same is has =
    subst (λ (g : Given). HasRows g (reading_of new) shape) (sym same) (subst (λ (m : Members). HasRows given (reading_of m) shape) (sym is) (rows_kept old lost has))

pub row_in : {given : Given} {r : Reading} {shape : Shape} {row : ℕ} → HasRows given r shape → row < r.newest.size → IsRow given r shape row
row_in has below = record { valid = has.valid; roles = has.roles; few = has.few; below = below; short = has.short; holders = has.holders }

-- a role that isn't held isn't held after a loss
none_held : (b : Bool) (r : Reading) (state : Role) (row : ℕ) → nat_lt row (rows_held r state) ≡ false → nat_lt row (rows_held r (if b then Missing else state)) ≡ false
none_held true r state row lacks = none row
  where
    none : (n : ℕ) → nat_lt n 0 ≡ false
    none n = grind (arith, nat_tests)
none_held false r state row lacks = lacks

lacks_by : (r : Reading) (lost row : ℕ) (state : Role) → nat_lt row (rows_held r state) ≡ false → nat_lt row (rows_held r (role_without lost state)) ≡ false
lacks_by r lost row (Whole s) lacks = none_held (has_slot lost s) r (Whole s) row lacks
lacks_by r lost row (Recovering s) lacks = none_held (has_slot lost s) r (Recovering s) row lacks
lacks_by r lost row Missing lacks = lacks

pub lacks_after : (m : Members) (lost role row : ℕ) → is_held (reading_of m) role row ≡ false → is_held (reading_of (members_without lost m)) role row ≡ false
lacks_after m lost role row lacks =
    ap (λ (s : Role). nat_lt row (rows_held (reading_of m) s)) (state_after m lost role) ∙ lacks_by (reading_of m) lost row (role_state (reading_of m) role) lacks

-- a slot that is recovering afterwards was so before, and isn't lost
pub recovering-after : (m : Members) (lost role slot : ℕ) → role_state (reading_of (members_without lost m)) role ≡ Recovering slot
    → (role_state (reading_of m) role ≡ Recovering slot) × (has_slot lost slot ≡ false)
recovering-after m lost role slot is =
    let left : role_without lost (role_state (reading_of m) role) ≡ Recovering slot = sym (state_after m lost role) ∙ is in
    let kept = state_kept lost slot (role_state (reading_of m) role) (ap holder left) in
    (sym kept.same ∙ left, kept.here)

-- no loss leaves no more missing
pub tolerated_by : (shape : Shape) (old new : Members) → new ≡ members_without 0 old → IsTolerated (reading_of old) shape → IsTolerated (reading_of new) shape
tolerated_by shape old new is few = subst (λ (m : Members). IsTolerated (reading_of m) shape) (members_without-none old ∙ sym is) few
