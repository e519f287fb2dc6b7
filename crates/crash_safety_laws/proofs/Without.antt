-- Roles without lost slots, and the slots that are live: as in array/proofs/Without, with what every update needs besides.
use Rattle.std.proofs.Common.{◌≡◌, ℕ, zero, suc, ◌+◌, ◌<◌, ◌==◌, ◌||◌, ◌&&◌, Bool, true, false, not, cond, nat_lt, max, bit_or, map, List, [], ◌∷◌, get_or, Option, Some, None, refl, sym, ◌∙◌, ap, ap₂, arith}
use Rattle.std.specs.Int.{bit_at}
use Rattle.std.specs.List.{list_any}
use Rattle.std.specs.Option.{is_some}
use Rattle.std.proofs.lemmas.Bool.Decides.{nat_tests}
use Rattle.std.proofs.lemmas.Nat.Bits.{bit_at_or, bit_at-lt}
use Rattle.crash_views.specs.raid_types_Shapes.{has_slot}
use Rattle.crash_views.specs.raid_types_the_Role.{Role}
use Rattle.crash_views.specs.raid_types_the_Role_TheVariants.{Whole, Recovering, Missing}
use Rattle.sb_update_laws.specs.sb_codec_the_Sb.{Sb}
use Rattle.crash_views.specs.sb_specs_the_Change.{Change}
use Rattle.crash_views.specs.sb_specs_the_Members.{Members}
use Rattle.crash_views.specs.sb_specs_Reading.{holder}
use Rattle.crash_views.specs.sb_specs_Update.{is_held_by, is_live, is_added, role_from}
use Rattle.crash_views.specs.sb_specs_Outcome.{is_in_update, live_set}
use Rattle.crash_views.specs.sb_specs_Reads.{has_spare}
use Rattle.crash_views.proofs.sb_specs_SlotSets.{has-set_of, some_role, none_there, same_set}
use Rattle.crash_views.proofs.sb_read_laws_SaidLists.{role-holder}
use Rattle.crash_views.specs.stripe_row_Rows.{role_without, members_without}
use Rattle.crash_safety_laws.specs.Marking.{marking}

-- ---- sets

or_of : (x a b : ℕ) → x ≡ max a b → a < 2 → b < 2 → (x == 1) ≡ ((a == 1) || (b == 1))
or_of x a b is small small' = grind (arith, nat_tests)

pub in-both : (a b s : ℕ) → has_slot (bit_or a b) s ≡ (has_slot a s || has_slot b s)
in-both a b s = or_of (bit_at (bit_or a b) s) (bit_at a s) (bit_at b s) (bit_at_or a b s) (bit_at-lt a s) (bit_at-lt b s)

-- ---- a role

held-by : (L s t : ℕ) (x : Bool) → (t == s) ≡ x → (b : Bool) → has_slot L t ≡ b → cond b false (t == s) ≡ (not (has_slot L s) && (t == s))
held-by L s t false other b is = by b ∙ sym (ap (λ (x : Bool). not (has_slot L s) && x) other ∙ none (not (has_slot L s)))
  where
    by : (b : Bool) → cond b false (t == s) ≡ false
    by true = refl
    by false = other

    none : (x : Bool) → (x && false) ≡ false
    none true = refl
    none false = refl
held-by L s t true here b is = by b (ap (has_slot L) same ∙ is)
  where
    same : s ≡ t
    same = grind (arith, nat_tests, here)

    by : (b : Bool) → has_slot L s ≡ b → cond b false (t == s) ≡ (not (has_slot L s) && (t == s))
    by true gone = sym (ap (λ (x : Bool). not x && (t == s)) gone)
    by false kept = sym (ap (λ (x : Bool). not x && (t == s)) kept)

none-held : (x : Bool) → false ≡ (x && false)
none-held true = refl
none-held false = refl

pub held-without : (L s : ℕ) (state : Role) → is_held_by s (role_without L state) ≡ (not (has_slot L s) && is_held_by s state)
held-without L s (Whole t) = by (has_slot L t) ∙ held-by L s t (t == s) refl (has_slot L t) refl
  where
    by : (b : Bool) → is_held_by s (cond b Missing (Whole t)) ≡ cond b false (t == s)
    by true = refl
    by false = refl
held-without L s (Recovering t) = by (has_slot L t) ∙ held-by L s t (t == s) refl (has_slot L t) refl
  where
    by : (b : Bool) → is_held_by s (cond b Missing (Recovering t)) ≡ cond b false (t == s)
    by true = refl
    by false = refl
held-without L s Missing = none-held (not (has_slot L s))

pub any-without : (L s : ℕ) (roles : List Role) → list_any (is_held_by s) (map (role_without L) roles) ≡ (not (has_slot L s) && list_any (is_held_by s) roles)
any-without L s [] = none-held (not (has_slot L s))
any-without L s (state ∷ roles) = ap₂ (λ (a b : Bool). a || b) (held-without L s state) (any-without L s roles) ∙ joined (not (has_slot L s)) (is_held_by s state) (list_any (is_held_by s) roles)
  where
    joined : (n a b : Bool) → ((n && a) || (n && b)) ≡ (n && (a || b))
    joined true a b = refl
    joined false a b = refl

-- a slot that isn't lost holds the same role
pub from-without : (L s i : ℕ) (roles : List Role) → has_slot L s ≡ false → role_from s i (map (role_without L) roles) ≡ role_from s i roles
from-without L s i [] kept = refl
from-without L s i (state ∷ roles) kept =
    ap₂ (λ (b : Bool) (rest : Option ℕ). cond b (Some i) rest) (held-without L s state ∙ ap (λ (x : Bool). not x && is_held_by s state) kept) (from-without L s (i + 1) roles kept)

twice : (L gone : ℕ) → ((s : ℕ) → has_slot gone s ≡ true → has_slot L s ≡ true) → (state : Role) → role_without L (role_without gone state) ≡ role_without L state
twice L gone more (Whole t) = by (has_slot gone t) refl
  where
    by : (b : Bool) → has_slot gone t ≡ b → role_without L (cond b Missing (Whole t)) ≡ role_without L (Whole t)
    by true is = sym (ap (λ (b : Bool). cond b Missing (Whole t)) (more t is))
    by false is = refl
twice L gone more (Recovering t) = by (has_slot gone t) refl
  where
    by : (b : Bool) → has_slot gone t ≡ b → role_without L (cond b Missing (Recovering t)) ≡ role_without L (Recovering t)
    by true is = sym (ap (λ (b : Bool). cond b Missing (Recovering t)) (more t is))
    by false is = refl
twice L gone more Missing = refl

-- of more slots that are lost, some were before
pub without-twice : (L gone : ℕ) → ((s : ℕ) → has_slot gone s ≡ true → has_slot L s ≡ true) → (roles : List Role) → map (role_without L) (map (role_without gone) roles) ≡ map (role_without L) roles
without-twice L gone more [] = refl
without-twice L gone more (state ∷ roles) = ap₂ (λ (r : Role) (l : List Role). r ∷ l) (twice L gone more state) (without-twice L gone more roles)

-- ---- who is live

pub any-holds : (s : ℕ) (roles : List Role) → list_any (is_held_by s) roles ≡ true → (role : ℕ) × (holder (get_or roles role Missing) ≡ Some s)
any-holds s roles is = of (role_from s 0 roles) refl (some_role s 0 roles ∙ is)
  where
    of : (found : Option ℕ) → role_from s 0 roles ≡ found → is_some (role_from s 0 roles) ≡ true → (role : ℕ) × (holder (get_or roles role Missing) ≡ Some s)
    of None e some = absurd (let none = ap is_some e in let both = sym some ∙ none in cc)
    of (Some role) e some = (role, role-holder s roles role e)

-- a role that is held is one of the list's
pub any-held : (s : ℕ) (roles : List Role) (role : ℕ) → holder (get_or roles role Missing) ≡ Some s → list_any (is_held_by s) roles ≡ true
any-held s [] role is = absurd (cc)
any-held s (state ∷ roles) zero is = ap (λ (b : Bool). b || list_any (is_held_by s) roles) (here state is)
  where
    here : (state : Role) → holder state ≡ Some s → is_held_by s state ≡ true
    here (Whole t) e = let same : t ≡ s = cc in grind (arith, nat_tests, same)
    here (Recovering t) e = let same : t ≡ s = cc in grind (arith, nat_tests, same)
    here Missing e = absurd (cc)
any-held s (state ∷ roles) (suc role) is = ap (λ (b : Bool). is_held_by s state || b) (any-held s roles role is) ∙ or_true (is_held_by s state)
  where
    or_true : (b : Bool) → (b || true) ≡ true
    or_true true = refl
    or_true false = refl

pub state-without : (lost : ℕ) (roles : List Role) (role : ℕ) → get_or (map (role_without lost) roles) role Missing ≡ role_without lost (get_or roles role Missing)
state-without lost [] role = refl
state-without lost (state ∷ roles) zero = refl
state-without lost (state ∷ roles) (suc role) = state-without lost roles role

-- a slot that still holds a role held it before, in the same state
pub without-holder : (lost : ℕ) (state : Role) (slot : ℕ) → holder (role_without lost state) ≡ Some slot → role_without lost state ≡ state
without-holder lost (Whole s) slot is = by (has_slot lost s) is
  where
    by : (b : Bool) → holder (cond b Missing (Whole s)) ≡ Some slot → cond b Missing (Whole s) ≡ Whole s
    by true e = absurd (cc)
    by false e = refl
without-holder lost (Recovering s) slot is = by (has_slot lost s) is
  where
    by : (b : Bool) → holder (cond b Missing (Recovering s)) ≡ Some slot → cond b Missing (Recovering s) ≡ Recovering s
    by true e = absurd (cc)
    by false e = refl
without-holder lost Missing slot is = refl

-- ---- who is live in an update that adds no slot

pub live-of : (m : Members) (change : Change) → change.added ≡ None → (s : ℕ) → has_slot (live_set m change) s ≡ (nat_lt s 32 && is_live m.roles m.spares s)
live-of m change none s =
    has-set_of 32 (is_in_update m change) s
    ∙ ap (λ (o : Option (ℕ × Sb)). nat_lt s 32 && (is_live m.roles m.spares s || is_added o s)) none
    ∙ ap (λ (b : Bool). nat_lt s 32 && b) (or_false (is_live m.roles m.spares s))
  where
    or_false : (b : Bool) → (b || false) ≡ b
    or_false true = refl
    or_false false = refl

-- such a slot is live, if it is one of the first
pub in-live : (m : Members) (change : Change) (s : ℕ) → s < 32 → is_in_update m change s ≡ true → has_slot (live_set m change) s ≡ true
in-live m change s lt is = has-set_of 32 (is_in_update m change) s ∙ (λ i. is-below s 32 lt i && is i)
  where
    is-below : (a b : ℕ) → a < b → nat_lt a b ≡ true
    is-below a b lt = grind (arith, nat_tests)

-- ---- who is live in a mark

pub live-is : (m : Members) (clean : Bool) (s : ℕ) → has_slot (live_set m (marking m clean)) s ≡ (nat_lt s 32 && ((list_any (is_held_by s) m.roles || has_spare m.spares s) || false))
live-is m clean s = has-set_of 32 (is_in_update m (marking m clean)) s

-- a slot that isn't lost is as live as before
pub live-without : (m : Members) (gone : ℕ) (clean : Bool) (s : ℕ) → has_slot gone s ≡ false
    → has_slot (live_set (members_without gone m) (marking (members_without gone m) clean)) s ≡ has_slot (live_set m (marking m clean)) s
live-without m gone clean s kept =
    live-is (members_without gone m) clean s
    ∙ ap (λ (b : Bool). nat_lt s 32 && ((b || has_spare m.spares s) || false)) (any-without gone s m.roles ∙ ap (λ (x : Bool). not x && list_any (is_held_by s) m.roles) kept)
    ∙ sym (live-is m clean s)

-- and one that is live was live
pub live-before : (m : Members) (gone : ℕ) (clean : Bool) (s : ℕ) → has_slot (live_set (members_without gone m) (marking (members_without gone m) clean)) s ≡ true
    → has_slot (live_set m (marking m clean)) s ≡ true
live-before m gone clean s is =
    live-is m clean s
    ∙ wider (nat_lt s 32) (not (has_slot gone s)) (list_any (is_held_by s) m.roles) (has_spare m.spares s)
    (ap (λ (b : Bool). nat_lt s 32 && ((b || has_spare m.spares s) || false)) (sym (any-without gone s m.roles)) ∙ sym (live-is (members_without gone m) clean s) ∙ is)
  where
    wider : (below kept role spare : Bool) → (below && (((kept && role) || spare) || false)) ≡ true → (below && ((role || spare) || false)) ≡ true
    wider false kept role spare e = absurd (cc)
    wider true true role spare e = e
    wider true false true spare e = refl
    wider true false false spare e = e

-- ---- none lost

pub without-none : (m : Members) → members_without 0 m ≡ m
without-none m = (λ i. record m { roles = none-lost m.roles i; lost = no-more i })
  where
    none-lost : (roles : List Role) → map (role_without 0) roles ≡ roles
    none-lost [] = refl
    none-lost (state ∷ roles) = ap₂ (λ (r : Role) (l : List Role). r ∷ l) (of state) (none-lost roles)
      where
        by : (s : ℕ) (state : Role) → (b : Bool) → has_slot 0 s ≡ b → cond b Missing state ≡ state
        by s state true is = absurd (let none = none_there s in let both = sym is ∙ none in cc)
        by s state false is = refl

        of : (state : Role) → role_without 0 state ≡ state
        of (Whole s) = by s (Whole s) (has_slot 0 s) refl
        of (Recovering s) = by s (Recovering s) (has_slot 0 s) refl
        of Missing = refl

    no-more : bit_or m.lost 0 ≡ m.lost
    no-more = same_set (bit_or m.lost 0) m.lost (λ s. in-both m.lost 0 s ∙ ap (λ (b : Bool). has_slot m.lost s || b) (none_there s) ∙ or_false (has_slot m.lost s))
      where
        or_false : (b : Bool) → (b || false) ≡ b
        or_false true = refl
        or_false false = refl
