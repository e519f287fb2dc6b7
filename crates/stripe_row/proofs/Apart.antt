-- No slot holds two roles where an election has given them.
use Rattle.std.proofs.Common.{◌≡◌, inl, inr, ℕ, ◌+◌, ◌≤◌, Bool, true, false, eqb, eqb-true, if◌then◌else◌, List, [], ◌∷◌, Option, Some, None, refl, sym, ◌∙◌, ap, arith}
use Rattle.std.proofs.lemmas.Bool.{and_parts, cases_lt}
use Rattle.std.proofs.lemmas.List.{get_or_past}
use Rattle.sb_specs.specs.raid_types_the_Role_TheVariants.{Whole, Recovering, Missing}
use Rattle.raid_parity_simd.specs.raid_types_Search.{tabulate}
use Rattle.sb_specs.proofs.raid_types_Tabulated.{length-tabulate, get_or-tabulate}
use Rattle.sb_specs.specs.sb_codec_the_Sb.{Sb}
use Rattle.sb_specs.specs.Reading.{reading_by, role_count, role_state, holder, holder_from, holds_role, state_of, is_fresh, is_recovering, entry_of}
use Rattle.stripe_row.specs.Laws.{ReadingsAreApart}

held_here : (slot : ℕ) (sb : Sb) → holder (state_of slot sb) ≡ Some slot
held_here slot sb = by_test (is_recovering sb)
  where
    by_test : (b : Bool) → holder (if b then Recovering slot else Whole slot) ≡ Some slot
    by_test true = refl
    by_test false = refl

-- the holder stands at this slot or behind it
at_or_behind : (newest : Sb) (role slot : ℕ) (own : List (Option Sb)) (s : ℕ) → holder (holder_from newest role slot own) ≡ Some s → slot ≤ s
at_or_behind newest role slot [] s is = absurd (cc)
at_or_behind newest role slot (None ∷ own) s is = omega (arith, at_or_behind newest role (slot + 1) own s is)
at_or_behind newest role slot (Some sb ∷ own) s is = by_test (holds_role newest role sb) (λ later. at_or_behind newest role (slot + 1) own s later) is
  where
    by_test : (b : Bool) → (holder (holder_from newest role (slot + 1) own) ≡ Some s → slot + 1 ≤ s)
        → holder (if b then state_of slot sb else holder_from newest role (slot + 1) own) ≡ Some s → slot ≤ s
    by_test true behind is' = let e : ◌≡◌ {A = Option ℕ} (Some slot) (Some s) = sym (held_here slot sb) ∙ is' in let same : slot ≡ s = cc in omega (arith, same)
    by_test false behind is' = omega (arith, behind is')

one_role : (newest : Sb) (a b : ℕ) (sb : Sb) → holds_role newest a sb ≡ true → holds_role newest b sb ≡ true → a ≡ b
one_role newest a b sb one two =
    let first = and_parts (is_fresh newest sb) (eqb (entry_of newest sb.dev_number) a) one in
    let second = and_parts (is_fresh newest sb) (eqb (entry_of newest sb.dev_number) b) two in
    sym (eqb-true (entry_of newest sb.dev_number) a first.1) ∙ eqb-true (entry_of newest sb.dev_number) b second.1

same_role : (newest : Sb) (a b slot : ℕ) (own : List (Option Sb)) (s : ℕ) → holder (holder_from newest a slot own) ≡ Some s → holder (holder_from newest b slot own) ≡ Some s → a ≡ b
same_role newest a b slot [] s one two = absurd (cc)
same_role newest a b slot (None ∷ own) s one two = same_role newest a b (slot + 1) own s one two
same_role newest a b slot (Some sb ∷ own) s one two = by_tests (holds_role newest a sb) (holds_role newest b sb) refl refl (same_role newest a b (slot + 1) own s) one two
  where
    not_behind : (role : ℕ) → holder (state_of slot sb) ≡ Some s → holder (holder_from newest role (slot + 1) own) ≡ Some s → ⊥
    not_behind role here behind =
        let e : ◌≡◌ {A = Option ℕ} (Some slot) (Some s) = sym (held_here slot sb) ∙ here in
        let same : slot ≡ s = cc in
        omega (arith, same, at_or_behind newest role (slot + 1) own s behind)

    by_tests : (p q : Bool) → holds_role newest a sb ≡ p → holds_role newest b sb ≡ q
        → (holder (holder_from newest a (slot + 1) own) ≡ Some s → holder (holder_from newest b (slot + 1) own) ≡ Some s → a ≡ b)
        → holder (if p then state_of slot sb else holder_from newest a (slot + 1) own) ≡ Some s
        → holder (if q then state_of slot sb else holder_from newest b (slot + 1) own) ≡ Some s → a ≡ b
    by_tests true true pa pb rest one' two' = one_role newest a b sb pa pb
    by_tests true false pa pb rest one' two' = absurd (not_behind b one' two')
    by_tests false true pa pb rest one' two' = absurd (not_behind a two' one')
    by_tests false false pa pb rest one' two' = rest one' two'

-- the state of a role that has a holder
state_read : (sectors : ℕ → ℕ) (own : List (Option Sb)) (newest : Sb) (role s : ℕ) → holder (role_state (reading_by sectors own newest) role) ≡ Some s
    → holder (holder_from newest role 0 own) ≡ Some s
state_read sectors own newest role s is = elim (cases_lt role (role_count newest)) [
  | inl below ↦ ap holder (sym (get_or-tabulate (role_count newest) (λ r. holder_from newest r 0 own) role Missing below)) ∙ is
  | inr past ↦ absurd (let none : holder (role_state (reading_by sectors own newest) role) ≡ None =
      ap holder (get_or_past (tabulate (role_count newest) (λ r. holder_from newest r 0 own)) role Missing (omega (arith, length-tabulate (role_count newest) (λ r. holder_from newest r 0 own), past))) in cc)
]

pub readings-are-apart : ReadingsAreApart
readings-are-apart sectors own newest a b s one two = same_role newest a b 0 own s (state_read sectors own newest a s one) (state_read sectors own newest b s two)
