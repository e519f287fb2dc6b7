-- A role table in which lost slots are named, and then these and more, is the one in which all are named at once.
use Rattle.std.proofs.Common.{◌≡◌, ◌≢◌, inl, inr, ℕ, zero, suc, ◌<◌, Bool, true, false, cond, nat_lt, List, [], ◌∷◌, ◌++◌, take, drop, map, set, Option, Some, None, refl, sym, ◌∙◌, ap, ap₂, arith}
use Rattle.std.proofs.lemmas.Bool.{cases_eq}
use Rattle.std.proofs.lemmas.Bool.Decides.{nat_tests}
use Rattle.sb_read_laws.specs.raid_types_Shapes.{has_slot}
use Rattle.sb_read_laws.specs.sb_codec_the_Sb.{Sb}
use Rattle.sb_read_laws.specs.sb_specs_the_Change.{Change}
use Rattle.sb_read_laws.specs.sb_specs_the_Members.{Members}
use Rattle.sb_read_laws.specs.sb_specs_Update.{give_of, own_in, planned_role, is_planned_spare, slot_entry, entry_for, with_entry, with_entries, with_roles, faulty_role}

-- ---- lists

set_twice : (l : List ℕ) (i x y : ℕ) → set (set l i x) i y ≡ set l i y
set_twice [] i x y = refl
set_twice (z ∷ l) zero x y = refl
set_twice (z ∷ l) (suc i) x y = ap (λ (r : List ℕ). z ∷ r) (set_twice l i x y)

set_apart : (l : List ℕ) (i j x y : ℕ) → i ≢ j → set (set l i x) j y ≡ set (set l j y) i x
set_apart [] i j x y apart = refl
set_apart (z ∷ l) zero zero x y apart = absurd (apart refl)
set_apart (z ∷ l) zero (suc j) x y apart = refl
set_apart (z ∷ l) (suc i) zero x y apart = refl
set_apart (z ∷ l) (suc i) (suc j) x y apart = ap (λ (r : List ℕ). z ∷ r) (set_apart l i j x y (omega (arith, apart)))

-- the first n entries are faulty where they were roles
abbrev front : ℕ → List ℕ → List ℕ
front n l = map faulty_role (take n l) ++ drop n l

front_set : (n : ℕ) (l : List ℕ) (i e : ℕ) → i < n → front n (set l i e) ≡ set (front n l) i (faulty_role e)
front_set zero l i e lt = absurd (omega (arith, lt))
front_set (suc n) [] i e lt = refl
front_set (suc n) (x ∷ l) zero e lt = refl
front_set (suc n) (x ∷ l) (suc i) e lt = ap (λ (r : List ℕ). faulty_role x ∷ r) (front_set n l i e (omega (arith, lt)))

faulty_twice : (e : ℕ) → faulty_role (faulty_role e) ≡ faulty_role e
faulty_twice e = omega arith

front_twice : (n : ℕ) (l : List ℕ) → front n (front n l) ≡ front n l
front_twice zero l = refl
front_twice (suc n) [] = refl
front_twice (suc n) (x ∷ l) = ap₂ (λ (y : ℕ) (r : List ℕ). y ∷ r) (faulty_twice x) (front_twice n l)

-- ---- entries

less : (a b : ℕ) → nat_lt a b ≡ true → a < b
less a b h = grind (arith, nat_tests)

-- an entry that is set last hides what stood there
hidden_entry : (e : Option ℕ) (held : Option Sb) (l l' : List ℕ) (i y : ℕ) → set l i y ≡ set l' i y → set (with_entry e held l) i y ≡ set (with_entry e held l') i y
hidden_entry None held l l' i y same = same
hidden_entry (Some e) None l l' i y same = same
hidden_entry (Some e) (Some sb) l l' i y same = of (nat_lt sb.dev_number 128)
  where
    of : (b : Bool) → set (cond b (set l sb.dev_number e) l) i y ≡ set (cond b (set l' sb.dev_number e) l') i y
    of false = same
    of true = elim (cases_eq sb.dev_number i) [
      | inl here ↦ (λ k. set (set l (here k) e) i y) ∙ set_twice l i e y ∙ same ∙ sym (set_twice l' i e y) ∙ (λ k. set (set l' (sym here k) e) i y)
      | inr apart ↦ set_apart l sb.dev_number i e y apart ∙ ap (λ (r : List ℕ). set r sb.dev_number e) same ∙ sym (set_apart l' sb.dev_number i e y apart)
    ]

hidden : (entries : ℕ → Option ℕ) (own : List (Option Sb)) (n : ℕ) (l : List ℕ) (i x y : ℕ) → set (with_entries entries own n (set l i x)) i y ≡ set (with_entries entries own n l) i y
unfolding with_entries
hidden entries own zero l i x y = set_twice l i x y
hidden entries own (suc n) l i x y = hidden_entry (entries n) (own_in own n) (with_entries entries own n (set l i x)) (with_entries entries own n l) i y (hidden entries own n l i x y)

-- a slot that has an entry first has one again
again_entry : (e e' : Option ℕ) (held : Option Sb) (l : List ℕ) (Rest : List ℕ → List ℕ) → ((r : List ℕ) (i x y : ℕ) → set (Rest (set r i x)) i y ≡ set (Rest r) i y)
    → ((entry : ℕ) → e ≡ Some entry → (other : ℕ) × (e' ≡ Some other)) → with_entry e' held (Rest (front 128 (with_entry e held l))) ≡ with_entry e' held (Rest (front 128 l))
again_entry None e' held l Rest hide covers = refl
again_entry (Some e) e' None l Rest hide covers = refl
again_entry (Some e) e' (Some sb) l Rest hide covers = of (nat_lt sb.dev_number 128) refl
  where
    other : ℕ
    other = (covers e refl).0

    is : e' ≡ Some other
    is = (covers e refl).1

    of : (b : Bool) → nat_lt sb.dev_number 128 ≡ b
        → with_entry e' (Some sb) (Rest (front 128 (cond b (set l sb.dev_number e) l))) ≡ with_entry e' (Some sb) (Rest (front 128 l))
    of false past = refl
    of true below = ap (λ (r : List ℕ). with_entry e' (Some sb) (Rest r)) (front_set 128 l sb.dev_number e (less sb.dev_number 128 below))
        ∙ (λ k. with_entry (is k) (Some sb) (Rest (set (front 128 l) sb.dev_number (faulty_role e))))
        ∙ ap (λ b. cond b (set (Rest (set (front 128 l) sb.dev_number (faulty_role e))) sb.dev_number other) (Rest (set (front 128 l) sb.dev_number (faulty_role e)))) below
        ∙ hide (front 128 l) sb.dev_number (faulty_role e) other
        ∙ ap (λ b. cond b (set (Rest (front 128 l)) sb.dev_number other) (Rest (front 128 l))) (sym below)
        ∙ (λ k. with_entry (sym is k) (Some sb) (Rest (front 128 l)))

entries_twice : (entries entries' : ℕ → Option ℕ) (own : List (Option Sb)) (n : ℕ) (l : List ℕ) → ((s entry : ℕ) → entries s ≡ Some entry → (other : ℕ) × (entries' s ≡ Some other))
    → with_entries entries' own n (front 128 (with_entries entries own n (front 128 l))) ≡ with_entries entries' own n (front 128 l)
unfolding with_entries
entries_twice entries entries' own zero l covers = front_twice 128 l
entries_twice entries entries' own (suc n) l covers =
    again_entry (entries n) (entries' n) (own_in own n) (with_entries entries own n (front 128 l)) (with_entries entries' own n) (hidden entries' own n) (covers n)
    ∙ ap (with_entry (entries' n) (own_in own n)) (entries_twice entries entries' own n l covers)

-- ---- slots

-- a slot that has an entry has one still where it is lost
stays : (before lost gone : Bool) (role : Option ℕ) (spare : Bool) → (before ≡ true → lost ≡ true) → (lost ≡ true → gone ≡ true) → (entry : ℕ) → slot_entry before lost role spare ≡ Some entry
    → (other : ℕ) × (slot_entry before gone role spare ≡ Some other)
stays true true gone role spare first more entry is = absurd (cc)
stays true false gone role spare first more entry is = absurd (let no = first refl in cc)
stays false true true role spare first more entry is = (0xfffe, refl)
stays false true false role spare first more entry is = absurd (let no = more refl in cc)
stays false false true role spare first more entry is = (0xfffe, refl)
stays false false false role spare first more entry is = (entry, is)

pub named-twice : (members : Members) (change : Change) (before lost gone : ℕ) (table : List ℕ) → ((s : ℕ) → has_slot before s ≡ true → has_slot lost s ≡ true)
    → ((s : ℕ) → has_slot lost s ≡ true → has_slot gone s ≡ true)
    → with_roles members change before gone (with_roles members change before lost table) ≡ with_roles members change before gone table
named-twice members change before lost gone table first more =
    entries_twice (entry_for members change before lost) (entry_for members change before gone) members.own 32 table
    (λ s entry is. stays (has_slot before s) (has_slot lost s) (has_slot gone s) (planned_role members.roles (give_of change.gives s) s)
    (is_planned_spare members.spares change.added (give_of change.gives s) s) (first s) (more s) entry is)
