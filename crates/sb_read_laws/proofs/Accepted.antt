-- What holds of each fresh superblock of a reading that is refused for nothing.
use Rattle.std.proofs.Common.{◌≡◌, ◌≢◌, inl, inr, ℕ, zero, suc, ◌+◌, ◌*◌, ◌<◌, ◌≤◌, ◌==◌, Bool, true, false, cond, not, ◌||◌, ◌&&◌, nat_lt, List, [], ◌∷◌, get_or, Option, Some, None, option_map, refl, sym, ◌∙◌, ap, ap₂, subst, arith}
use Rattle.std.specs.Prelude.{find, nat_le}
use Rattle.std.specs.Option.{option_or}
use Rattle.std.specs.List.{list_any}
use Rattle.std.proofs.lemmas.Bool.{cases_lt}
use Rattle.std.proofs.lemmas.Bool.Decides.{nat_tests}
use Rattle.sb_specs.proofs.raid_types_Least.{least_below-none}
use Rattle.sb_specs.specs.raid_types_the_Refusal.{Refusal}
use Rattle.sb_specs.specs.raid_types_the_Refusal_TheVariants.{BadField, TwoHolders}
use Rattle.sb_specs.specs.sb_codec_the_Sb.{Sb}
use Rattle.sb_specs.specs.sb_codec_Features.{refused_bits}
use Rattle.sb_specs.specs.Reading.{reading_by, is_fresh, entry_of, lies_within, role_count}
use Rattle.sb_specs.specs.Verdict.{members_refusal, members_missing, dirty_degraded, off_unit, first_of_all, unsupported, bad_field, judged_fields, is_bad_entry, is_late_entry, first_bad_entry, is_role, is_holder, fresh_from, two_holders, shared_dev, has_dev, lower}
use Rattle.sb_specs.proofs.ReadLists.{Own}
use Rattle.sb_specs.proofs.ReadAlike.{none_below, fields-alone}

-- ---- a list of fresh ones

or_false : (a b : Bool) → (a || b) ≡ false → (a ≡ false) × (b ≡ false)
or_false true b e = absurd (cc)
or_false false b e = (refl, e)

pub none-found : {A : Type 0} (test : A → Bool) (l : List A) → find test l ≡ None → list_any test l ≡ false
none-found test [] e = refl
none-found test (x ∷ l) e = by (test x) refl e (λ rest. none-found test l rest)
  where
    by : (b : Bool) → test x ≡ b → cond b (Some x) (find test l) ≡ None → (find test l ≡ None → list_any test l ≡ false) → (test x || list_any test l) ≡ false
    by true is e rest = absurd (cc)
    by false is e rest = ap (λ b. b || list_any test l) is ∙ rest e

any-split : (b : Bool) (test : Sb × ℕ → Bool) (s : Sb × ℕ) (rest : List (Sb × ℕ)) → list_any test (cond b (s ∷ rest) rest) ≡ false → (b ≡ true → test s ≡ false) × (list_any test rest ≡ false)
any-split true test s rest e = let parts = or_false (test s) (list_any test rest) e in (λ is. parts.0, parts.1)
any-split false test s rest e = (λ is. absurd (cc), e)

-- each fresh one fails a test that none passes
pub each-fresh : (N : Sb) (sectors : ℕ → ℕ) (test : Sb × ℕ → Bool) (i : ℕ) (X : Own) → list_any test (fresh_from N sectors i X) ≡ false → (k : ℕ) (sb : Sb) → get_or X k None ≡ Some sb → is_fresh N sb ≡ true
    → test (sb, sectors (i + k)) ≡ false
each-fresh N sectors test i [] none k sb is fresh = absurd (cc)
each-fresh N sectors test i (None ∷ X) none zero sb is fresh = absurd (cc)
each-fresh N sectors test i (None ∷ X) none (suc k) sb is fresh =
    let next : i + 1 + k ≡ i + suc k = omega arith in subst (λ (j : ℕ). test (sb, sectors j) ≡ false) next (each-fresh N sectors test (i + 1) X none k sb is fresh)
each-fresh N sectors test i (Some x ∷ X) none zero sb is fresh =
    let same : x ≡ sb = cc in
    let first : i ≡ i + 0 = omega arith in
    subst (λ (j : ℕ). test (sb, sectors j) ≡ false) first
    (subst (λ (y : Sb). test (y, sectors i) ≡ false) same
    ((any-split (is_fresh N x) test (x, sectors i) (fresh_from N sectors (i + 1) X) none).0 (ap (is_fresh N) same ∙ fresh)))
each-fresh N sectors test i (Some x ∷ X) none (suc k) sb is fresh =
    let next : i + 1 + k ≡ i + suc k = omega arith in
    subst (λ (j : ℕ). test (sb, sectors j) ≡ false) next
    (each-fresh N sectors test (i + 1) X (any-split (is_fresh N x) test (x, sectors i) (fresh_from N sectors (i + 1) X) none).1 k sb is fresh)

shared-split : (b : Bool) (s : Sb × ℕ) (rest : List (Sb × ℕ)) → shared_dev (cond b (s ∷ rest) rest) ≡ None → (b ≡ true → has_dev s.0.dev_number rest ≡ false) × (shared_dev rest ≡ None)
shared-split true s rest e = by (has_dev s.0.dev_number rest) refl e
  where
    by : (h : Bool) → has_dev s.0.dev_number rest ≡ h → cond h (Some (lower s.0.dev_number (shared_dev rest))) (shared_dev rest) ≡ None → (true ≡ true → has_dev s.0.dev_number rest ≡ false) × (shared_dev rest ≡ None)
    by true is e = absurd (cc)
    by false is e = (λ t. is, e)
shared-split false s rest e = (λ is. absurd (cc), e)

differs : (a b : ℕ) → (b == a) ≡ false → a ≢ b
differs a b h e = let same : (b == a) ≡ true = self (sym e) in let both = sym h ∙ same in absurd (cc)
  where
    self : b ≡ a → (b == a) ≡ true
    self e = grind (arith, nat_tests)

-- two of them have two device numbers
ordered : (N : Sb) (sectors : ℕ → ℕ) (i : ℕ) (X : Own) → shared_dev (fresh_from N sectors i X) ≡ None → (s t : ℕ) (a b : Sb) → s < t → get_or X s None ≡ Some a → get_or X t None ≡ Some b
    → is_fresh N a ≡ true → is_fresh N b ≡ true → a.dev_number ≢ b.dev_number
ordered N sectors i [] none s t a b lt is is' fresh fresh' = absurd (cc)
ordered N sectors i (x ∷ X) none s zero a b lt is is' fresh fresh' = absurd (omega (arith, lt))
ordered N sectors i (None ∷ X) none zero (suc t) a b lt is is' fresh fresh' = absurd (cc)
ordered N sectors i (None ∷ X) none (suc s) (suc t) a b lt is is' fresh fresh' = ordered N sectors (i + 1) X none s t a b (omega (arith, lt)) is is' fresh fresh'
ordered N sectors i (Some x ∷ X) none zero (suc t) a b lt is is' fresh fresh' =
    let same : x ≡ a = cc in
    let none' = (shared-split (is_fresh N x) (x, sectors i) (fresh_from N sectors (i + 1) X) none).0 (ap (is_fresh N) same ∙ fresh) in
    let other = each-fresh N sectors (λ s. s.0.dev_number == x.dev_number) (i + 1) X none' t b is' fresh' in
    differs a.dev_number b.dev_number (subst (λ (y : Sb). (b.dev_number == y.dev_number) ≡ false) same other)
ordered N sectors i (Some x ∷ X) none (suc s) (suc t) a b lt is is' fresh fresh' =
    ordered N sectors (i + 1) X (shared-split (is_fresh N x) (x, sectors i) (fresh_from N sectors (i + 1) X) none).1 s t a b (omega (arith, lt)) is is' fresh fresh'

pub each-apart : (N : Sb) (sectors : ℕ → ℕ) (X : Own) → shared_dev (fresh_from N sectors 0 X) ≡ None → (s t : ℕ) (a b : Sb) → s ≢ t → get_or X s None ≡ Some a → get_or X t None ≡ Some b
    → is_fresh N a ≡ true → is_fresh N b ≡ true → a.dev_number ≢ b.dev_number
each-apart N sectors X none s t a b apart is is' fresh fresh' = elim (cases_lt s t) [
  | inl below ↦ ordered N sectors 0 X none s t a b below is is' fresh fresh'
  | inr past ↦ λ same. ordered N sectors 0 X none t s b a (omega (arith, past, apart)) is' is fresh' fresh (sym same)
]

-- ---- a reading that is refused for nothing

pub record IsAccepted (sectors : ℕ → ℕ) (newest : Sb) (X : Own) : Type 0 where
  pub bits : (s : ℕ) (sb : Sb) → get_or X s None ≡ Some sb → is_fresh newest sb ≡ true → refused_bits sb.feature_map ≡ 0
  pub room : (s : ℕ) (sb : Sb) → get_or X s None ≡ Some sb → is_fresh newest sb ≡ true → 128 ≤ sb.max_dev
  pub within : (s : ℕ) (sb : Sb) → get_or X s None ≡ Some sb → is_fresh newest sb ≡ true → is_holder newest sb ≡ true → lies_within newest (sectors s) sb ≡ true
  pub apart : (s t : ℕ) (a b : Sb) → s ≢ t → get_or X s None ≡ Some a → get_or X t None ≡ Some b → is_fresh newest a ≡ true → is_fresh newest b ≡ true → a.dev_number ≢ b.dev_number
  pub fields : bad_field newest [] ≡ None
  pub entries : (j : ℕ) → j < 384 → is_bad_entry newest j ≡ false
  pub late : (s : ℕ) (sb : Sb) → get_or X s None ≡ Some sb → is_fresh newest sb ≡ true → (j : ℕ) → 128 ≤ j → j < 384 → is_role (entry_of sb j) ≡ false

both_none : {A : Type 0} (a b : Option A) → option_or a b ≡ None → (a ≡ None) × (b ≡ None)
both_none None b e = (refl, e)
both_none (Some x) b e = absurd (cc)

no_map : {A B : Type 0} (f : A → B) (a : Option A) → option_map f a ≡ None → a ≡ None
no_map f None e = refl
no_map f (Some x) e = absurd (cc)

-- the test of a judged field
field-fails : (l : List (ℕ × Bool)) (k : ℕ) → find (λ (f : ℕ × Bool). f.1) l ≡ None → (get_or l k (0, false)).1 ≡ false
field-fails [] k e = refl
field-fails (x ∷ l) zero e = by x.1 e
  where
    by : (b : Bool) → cond b (Some x) (find (λ (f : ℕ × Bool). f.1) l) ≡ None → b ≡ false
    by true e = absurd (cc)
    by false e = refl
field-fails (x ∷ l) (suc k) e = field-fails l k (by x.1 e)
  where
    by : (b : Bool) → cond b (Some x) (find (λ (f : ℕ × Bool). f.1) l) ≡ None → find (λ (f : ℕ × Bool). f.1) l ≡ None
    by true e = absurd (cc)
    by false e = e

module _ (sectors : ℕ → ℕ) (newest : Sb) (X : Own) (none : members_refusal sectors (reading_by sectors X newest) ≡ None) where
  abbrev slots : List (Sb × ℕ)
  slots = fresh_from newest sectors 0 X

  abbrev rest : Option Refusal
  rest = first_of_all (members_missing newest (reading_by sectors X newest).roles ∷ dirty_degraded newest (reading_by sectors X newest).roles ∷ off_unit newest ∷ [])

  first : (unsupported (fresh_from newest sectors 0 X) ≡ None) × (bad_field newest (fresh_from newest sectors 0 X) ≡ None) × (two_holders (fresh_from newest sectors 0 X) ≡ None)
  first =
      let a = both_none (unsupported slots) (first_of_all (bad_field newest slots ∷ two_holders slots ∷ members_missing newest (reading_by sectors X newest).roles ∷ dirty_degraded newest (reading_by sectors X newest).roles ∷ off_unit newest ∷ [])) none in
      let b = both_none (bad_field newest slots) (first_of_all (two_holders slots ∷ members_missing newest (reading_by sectors X newest).roles ∷ dirty_degraded newest (reading_by sectors X newest).roles ∷ off_unit newest ∷ [])) a.1 in
      let c = both_none (two_holders slots) rest b.1 in
      (a.0, b.0, c.0)

  bits : list_any (λ s. not (refused_bits s.0.feature_map == 0)) (fresh_from newest sectors 0 X) ≡ false
  bits = none-found (λ s. not (refused_bits s.0.feature_map == 0)) slots (no_map _ (find (λ s. not (refused_bits s.0.feature_map == 0)) slots) first.0)

  parts : (find (λ (f : ℕ × Bool). f.1) (judged_fields newest (fresh_from newest sectors 0 X)) ≡ None) × (first_bad_entry newest (fresh_from newest sectors 0 X) ≡ None)
  parts =
      let p = both_none (option_map (λ (f : ℕ × Bool). BadField f.0) (find (λ (f : ℕ × Bool). f.1) (judged_fields newest slots)))
      (option_map (λ (index : ℕ). BadField (256 + 2 * index)) (first_bad_entry newest slots)) first.1 in (
        no_map (λ (f : ℕ × Bool). BadField f.0) (find (λ (f : ℕ × Bool). f.1) (judged_fields newest slots)) p.0,
        no_map (λ (index : ℕ). BadField (256 + 2 * index)) (first_bad_entry newest slots) p.1,
      )

  lies : list_any (λ s. is_holder newest s.0 && not (lies_within newest s.1 s.0)) (fresh_from newest sectors 0 X) ≡ false
  lies = field-fails (judged_fields newest slots) 10 parts.0

  room : list_any (λ s. nat_lt s.0.max_dev 128) (fresh_from newest sectors 0 X) ≡ false
  room = field-fails (judged_fields newest slots) 12 parts.0

  is-zero : (n : ℕ) → not (n == 0) ≡ false → n ≡ 0
  is-zero n h = grind (arith, nat_tests)

  is-past : (n : ℕ) → nat_lt n 128 ≡ false → 128 ≤ n
  is-past n h = grind (arith, nat_tests)

  so : (a b : Bool) → (a && not b) ≡ false → a ≡ true → b ≡ true
  so true true e h = refl
  so true false e h = absurd (cc)
  so false b e h = absurd (cc)

  entry-fine : (j : ℕ) → j < 384 → (is_late_entry (fresh_from newest sectors 0 X) j ≡ false) × (is_bad_entry newest j ≡ false)
  entry-fine j below = neither (is_late_entry slots j) (is_bad_entry newest j) (none_below 384 (λ k. is_late_entry slots k || is_bad_entry newest k) j below parts.1)
    where
      neither : (a b : Bool) → (a || b) ≡ false → (a ≡ false) × (b ≡ false)
      neither true b e = absurd (cc)
      neither false b e = (refl, e)

  late-fine : (j : ℕ) → 128 ≤ j → j < 384 → list_any (λ s. is_role (entry_of s.0 j)) (fresh_from newest sectors 0 X) ≡ false
  late-fine j past below = alone (list_any (λ s. is_role (entry_of s.0 j)) slots) (nat_le 128 j) (at-least j past) (entry-fine j below).0
    where
      at-least : (n : ℕ) → 128 ≤ n → nat_le 128 n ≡ true
      at-least n h = grind (arith, nat_tests)

      alone : (a b : Bool) → b ≡ true → (a && b) ≡ false → a ≡ false
      alone true true is e = absurd (cc)
      alone true false is e = absurd (cc)
      alone false b is e = refl

  pub is-accepted : IsAccepted sectors newest X
  is-accepted = record {
    bits = λ s sb is fresh. is-zero (refused_bits sb.feature_map) (each-fresh newest sectors (λ s. not (refused_bits s.0.feature_map == 0)) 0 X bits s sb is fresh);
    room = λ s sb is fresh. is-past sb.max_dev (each-fresh newest sectors (λ s. nat_lt s.0.max_dev 128) 0 X room s sb is fresh);
    within = λ s sb is fresh holds.
        let here : 0 + s ≡ s = omega arith in
        so (is_holder newest sb) (lies_within newest (sectors s) sb)
        (subst (λ (j : ℕ). (is_holder newest sb && not (lies_within newest (sectors j) sb)) ≡ false) here
        (each-fresh newest sectors (λ s. is_holder newest s.0 && not (lies_within newest s.1 s.0)) 0 X lies s sb is fresh)) holds;
    apart = each-apart newest sectors X (no_map (λ (dev : ℕ). TwoHolders dev) (shared_dev slots) first.2);
    fields = ap₂ (λ (f : Option (ℕ × Bool)) (e : Option ℕ). option_or (option_map (λ (g : ℕ × Bool). BadField g.0) f) (option_map (λ (index : ℕ). BadField (256 + 2 * index)) e))
        (fields-alone newest slots lies room parts.0) (least_below-none 384 (is_bad_entry newest) (λ j below. (entry-fine j below).1));
    entries = λ j below. (entry-fine j below).1;
    late = λ s sb is fresh j past below. each-fresh newest sectors (λ s. is_role (entry_of s.0 j)) 0 X (late-fine j past below) s sb is fresh;
  }
