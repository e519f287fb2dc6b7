-- What is read from a list of superblocks, by what each slot has.
use Rattle.std.proofs.Common.{◌≡◌, ◌≢◌, ◌⊎◌, inl, inr, ℕ, zero, suc, ◌+◌, ◌<◌, ◌≤◌, ◌==◌, Bool, true, false, cond, ◌||◌, not, nat_lt, List, [], ◌∷◌, length, get_or, Option, Some, None, unwrap_or, option_map, refl, sym, ◌∙◌, ap, ap₂, subst, arith}
use Rattle.std.specs.Prelude.{find}
use Rattle.std.specs.List.{list_any}
use Rattle.std.proofs.lemmas.Bool.Decides.{nat_tests}
use Rattle.bank.specs.raid_types_the_Role.{Role}
use Rattle.bank.specs.raid_types_the_Role_TheVariants.{Whole, Recovering}
use Rattle.sb_codec.specs.declared.sb.Sb.{Sb}
use Rattle.sb_codec.specs.Features.{refused_bits}
use Rattle.sb_specs.specs.Reading.{newest_of, newer, holder_from, spares_from, holds_role, state_of, is_fresh, is_recovering, holder}
use Rattle.sb_specs.specs.Verdict.{fresh_from, unsupported, has_dev, shared_dev, lower}
use Rattle.sb_specs.specs.Reads.{held_in, spare_in, has_spare}

abbrev pub Own : Type 0
Own = List (Option Sb)

pub by_bool : (b : Bool) → (b ≡ true) ⊎ (b ≡ false)
by_bool true = inl refl
by_bool false = inr refl

-- ---- the newest

-- of a list with a superblock there is a newest one, which is in it, and no other is newer, nor as new at a lower slot
pub record IsTop (X : Own) (N : Sb) : Type 0 where
  pub slot : ℕ
  pub there : get_or X slot None ≡ Some N
  pub most : (s : ℕ) (sb : Sb) → get_or X s None ≡ Some sb → sb.events ≤ N.events
  pub lowest : (s : ℕ) (sb : Sb) → get_or X s None ≡ Some sb → sb.events ≡ N.events → slot ≤ s

pub record HasNewest (X : Own) : Type 0 where
  pub newest : Sb
  pub is : newest_of X ≡ Some newest
  pub top : IsTop X newest

no_newest : (X : Own) → newest_of X ≡ None → (s : ℕ) (sb : Sb) → get_or X s None ≡ Some sb → ⊥
no_newest [] e s sb is = absurd (cc)
no_newest (None ∷ X) e zero sb is = absurd (cc)
no_newest (None ∷ X) e (suc s) sb is = no_newest X e s sb is
no_newest (Some x ∷ X) e s sb is = absurd (cc)

skip : (X : Own) → HasNewest X → HasNewest (None ∷ X)
skip X h = record {
  newest = h.newest;
  is = h.is;
  top = record { slot = suc h.top.slot; there = h.top.there; most = most; lowest = lowest };
}
  where
    lowest : (s : ℕ) (sb : Sb) → get_or (None ∷ X) s None ≡ Some sb → sb.events ≡ h.newest.events → suc h.top.slot ≤ s
    lowest zero sb is same = absurd (cc)
    lowest (suc s) sb is same = omega (arith, h.top.lowest s sb is same)

    most : (s : ℕ) (sb : Sb) → get_or (None ∷ X) s None ≡ Some sb → sb.events ≤ h.newest.events
    most zero sb is = absurd (cc)
    most (suc s) sb is = h.top.most s sb is

alone : (x : Sb) (X : Own) → newest_of X ≡ None → HasNewest (Some x ∷ X)
alone x X none = record {
  newest = x;
  is = ap (λ n. Some (newer x n)) none;
  top = record { slot = 0; there = refl; most = most; lowest = λ s sb is same. omega arith };
}
  where
    most : (s : ℕ) (sb : Sb) → get_or (Some x ∷ X) s None ≡ Some sb → sb.events ≤ x.events
    most zero sb is = let same : x ≡ sb = cc in omega (arith, ap (λ (y : Sb). y.events) same)
    most (suc s) sb is = absurd (no_newest X none s sb is)

both : (x : Sb) (X : Own) → HasNewest X → HasNewest (Some x ∷ X)
both x X h = ⊎_by (by_bool (nat_lt x.events h.newest.events))
  where
    is_newer : (b : Bool) → nat_lt x.events h.newest.events ≡ b → newest_of (Some x ∷ X) ≡ Some (cond b h.newest x)
    is_newer b e = ap (λ n. Some (newer x n)) h.is ∙ ap (λ c. Some (cond c h.newest x)) e

    less : nat_lt x.events h.newest.events ≡ true → x.events < h.newest.events
    less e = grind (arith, nat_tests)

    more : nat_lt x.events h.newest.events ≡ false → h.newest.events ≤ x.events
    more e = grind (arith, nat_tests)

    most : nat_lt x.events h.newest.events ≡ true → (s : ℕ) (sb : Sb) → get_or (Some x ∷ X) s None ≡ Some sb → sb.events ≤ h.newest.events
    most e zero sb is = let same : x ≡ sb = cc in omega (arith, ap (λ (y : Sb). y.events) same, less e)
    most e (suc s) sb is = h.top.most s sb is

    most_first : nat_lt x.events h.newest.events ≡ false → (s : ℕ) (sb : Sb) → get_or (Some x ∷ X) s None ≡ Some sb → sb.events ≤ x.events
    most_first e zero sb is = let same : x ≡ sb = cc in omega (arith, ap (λ (y : Sb). y.events) same)
    most_first e (suc s) sb is = omega (arith, h.top.most s sb is, more e)

    lowest : nat_lt x.events h.newest.events ≡ true → (s : ℕ) (sb : Sb) → get_or (Some x ∷ X) s None ≡ Some sb → sb.events ≡ h.newest.events → suc h.top.slot ≤ s
    lowest e zero sb is same = let it : x ≡ sb = cc in absurd (omega (arith, ap (λ (y : Sb). y.events) it, less e, same))
    lowest e (suc s) sb is same = omega (arith, h.top.lowest s sb is same)

    ⊎_by : (nat_lt x.events h.newest.events ≡ true) ⊎ (nat_lt x.events h.newest.events ≡ false) → HasNewest (Some x ∷ X)
    ⊎_by (inl e) = record { newest = h.newest; is = is_newer true e; top = record { slot = suc h.top.slot; there = h.top.there; most = most e; lowest = lowest e } }
    ⊎_by (inr e) = record { newest = x; is = is_newer false e; top = record { slot = 0; there = refl; most = most_first e; lowest = λ s sb is same. omega arith } }

pub found_newest : (X : Own) (n : Option Sb) → newest_of X ≡ n → (n ≡ None) ⊎ HasNewest X
found_newest [] n e = inl (sym e)
found_newest (None ∷ X) n e = ⊎_by (found_newest X (newest_of X) refl)
  where
    ⊎_by : (newest_of X ≡ None) ⊎ HasNewest X → (n ≡ None) ⊎ HasNewest (None ∷ X)
    ⊎_by (inl none) = inl (sym e ∙ none)
    ⊎_by (inr h) = inr (skip X h)
found_newest (Some x ∷ X) n e = ⊎_by (found_newest X (newest_of X) refl)
  where
    ⊎_by : (newest_of X ≡ None) ⊎ HasNewest X → (n ≡ None) ⊎ HasNewest (Some x ∷ X)
    ⊎_by (inl none) = inr (alone x X none)
    ⊎_by (inr h) = inr (both x X h)

pub has-newest : (X : Own) (s : ℕ) (sb : Sb) → get_or X s None ≡ Some sb → HasNewest X
has-newest X s sb is = ⊎_by (found_newest X (newest_of X) refl)
  where
    ⊎_by : (newest_of X ≡ None) ⊎ HasNewest X → HasNewest X
    ⊎_by (inl none) = absurd (no_newest X none s sb is)
    ⊎_by (inr h) = h

-- ---- the holders

choose : (b : Bool) (a rest : Role) → cond b a rest ≡ unwrap_or (cond b (Some a) None) rest
choose true a rest = refl
choose false a rest = refl

pub holder-step : (N : Sb) (role slot : ℕ) (x : Option Sb) (X : Own) → holder_from N role slot (x ∷ X) ≡ unwrap_or (held_in N role slot x) (holder_from N role (slot + 1) X)
holder-step N role slot None X = refl
holder-step N role slot (Some sb) X = choose (holds_role N role sb) (state_of slot sb) (holder_from N role (slot + 1) X)

pub holder-same : (N M : Sb) (role i : ℕ) (X Y : Own) → length X ≡ length Y
    → ((k : ℕ) → held_in N role (i + k) (get_or X k None) ≡ held_in M role (i + k) (get_or Y k None))
    → holder_from N role i X ≡ holder_from M role i Y
holder-same N M role i [] [] long same = refl
holder-same N M role i [] (y ∷ Y) long same = absurd (omega (arith, long))
holder-same N M role i (x ∷ X) [] long same = absurd (omega (arith, long))
holder-same N M role i (x ∷ X) (y ∷ Y) long same =
    let first : i + 0 ≡ i = omega arith in
    holder-step N role i x X
    ∙ ap₂ (λ a b. unwrap_or a b)
    (subst (λ (j : ℕ). held_in N role j x ≡ held_in M role j y) first (same 0))
    (holder-same N M role (i + 1) X Y (omega (arith, long))
    (λ k. let next : i + suc k ≡ i + 1 + k = omega arith in subst (λ (j : ℕ). held_in N role j (get_or X k None) ≡ held_in M role j (get_or Y k None)) next (same (suc k))))
    ∙ sym (holder-step M role i y Y)

holder_slot : (slot : ℕ) (sb : Sb) → holder (state_of slot sb) ≡ Some slot
holder_slot slot sb = of (is_recovering sb)
  where
    of : (b : Bool) → holder (cond b (Recovering slot) (Whole slot)) ≡ Some slot
    of true = refl
    of false = refl

-- a role's holder holds it
abbrev pub HeldAt : Sb → ℕ → ℕ → Own → ℕ → Type 0
HeldAt N role i X slot = (k : ℕ) × (slot ≡ i + k) × (state : Role) × (held_in N role (i + k) (get_or X k None) ≡ Some state)

held_next : (N : Sb) (role i : ℕ) (x : Option Sb) (X : Own) (slot : ℕ) → HeldAt N role (i + 1) X slot → HeldAt N role i (x ∷ X) slot
held_next N role i x X slot h =
    let next : i + 1 + h.0 ≡ i + suc h.0 = omega arith in
    (suc h.0, h.1 ∙ next, h.2, subst (λ (j : ℕ). held_in N role j (get_or X h.0 None) ≡ Some h.2) next h.3)

held_first : (N : Sb) (role i : ℕ) (sb : Sb) (X : Own) (slot : ℕ) (b : Bool) → holds_role N role sb ≡ b
    → (holder (holder_from N role (i + 1) X) ≡ Some slot → HeldAt N role (i + 1) X slot)
    → holder (cond b (state_of i sb) (holder_from N role (i + 1) X)) ≡ Some slot → HeldAt N role i (Some sb ∷ X) slot
held_first N role i sb X slot true e rest is =
    let first : i + 0 ≡ i = omega arith in
    let here : Some i ≡ Some slot = sym (holder_slot i sb) ∙ is in
    let same : slot ≡ i + 0 = (let j : i ≡ slot = cc in sym j ∙ sym first) in
    (0, same, state_of (i + 0) sb, ap (λ c. cond c (Some (state_of (i + 0) sb)) None) e)
held_first N role i sb X slot false e rest is = held_next N role i (Some sb) X slot (rest is)

pub held-at : (N : Sb) (role i : ℕ) (X : Own) (slot : ℕ) → holder (holder_from N role i X) ≡ Some slot → HeldAt N role i X slot
held-at N role i [] slot is = absurd (cc)
held-at N role i (None ∷ X) slot is = held_next N role i None X slot (held-at N role (i + 1) X slot is)
held-at N role i (Some sb ∷ X) slot is = held_first N role i sb X slot (holds_role N role sb) refl (held-at N role (i + 1) X slot) is

pub held-here : (N : Sb) (role : ℕ) (X : Own) (slot : ℕ) → holder (holder_from N role 0 X) ≡ Some slot → (state : Role) × (held_in N role slot (get_or X slot None) ≡ Some state)
held-here N role X slot is = of (held-at N role 0 X slot is)
  where
    of : HeldAt N role 0 X slot → (state : Role) × (held_in N role slot (get_or X slot None) ≡ Some state)
    of (k, at, state, held) =
        let here : 0 + k ≡ slot = sym at in
        let same : k ≡ slot = omega (arith, at) in
        (state, (λ i. held_in N role (sym here i) (get_or X (sym same i) None)) ∙ held)

-- ---- the spares

after_head : (b : Bool) (i : ℕ) (rest : List ℕ) (t : ℕ) → i ≢ t → has_spare (cond b (i ∷ rest) rest) t ≡ has_spare rest t
after_head true i rest t apart = ap (λ b. b || has_spare rest t) (differ i t apart)
  where
    differ : (a b : ℕ) → a ≢ b → (a == b) ≡ false
    differ a b h = grind (arith, nat_tests)
after_head false i rest t apart = refl

pub spare-step : (N : Sb) (sectors : ℕ → ℕ) (i : ℕ) (x : Option Sb) (X : Own)
    → spares_from N sectors i (x ∷ X) ≡ cond (spare_in N (sectors i) x) (i ∷ spares_from N sectors (i + 1) X) (spares_from N sectors (i + 1) X)
spare-step N sectors i None X = refl
spare-step N sectors i (Some sb) X = refl

none_before : (N : Sb) (sectors : ℕ → ℕ) (i t : ℕ) (X : Own) → t < i → has_spare (spares_from N sectors i X) t ≡ false
none_before N sectors i t [] below = refl
none_before N sectors i t (x ∷ X) below =
    ap (λ l. has_spare l t) (spare-step N sectors i x X)
    ∙ after_head (spare_in N (sectors i) x) i (spares_from N sectors (i + 1) X) t (omega (arith, below))
    ∙ none_before N sectors (i + 1) t X (omega (arith, below))

at_head : (b : Bool) (i : ℕ) (rest : List ℕ) → has_spare rest i ≡ false → has_spare (cond b (i ∷ rest) rest) i ≡ b
at_head true i rest none = ap (λ b. b || has_spare rest i) (same i)
  where
    same : (a : ℕ) → (a == a) ≡ true
    same a = grind (arith, nat_tests)
at_head false i rest none = none

pub spares-at : (N : Sb) (sectors : ℕ → ℕ) (i k t : ℕ) (X : Own) → t ≡ i + k → has_spare (spares_from N sectors i X) t ≡ spare_in N (sectors t) (get_or X k None)
spares-at N sectors i k t [] at = refl
spares-at N sectors i zero t (x ∷ X) at =
    let here : t ≡ i = omega (arith, at) in
    subst (λ (j : ℕ). has_spare (spares_from N sectors i (x ∷ X)) j ≡ spare_in N (sectors j) x) (sym here)
    (ap (λ l. has_spare l i) (spare-step N sectors i x X)
    ∙ at_head (spare_in N (sectors i) x) i (spares_from N sectors (i + 1) X) (none_before N sectors (i + 1) i X (omega arith)))
spares-at N sectors i (suc k) t (x ∷ X) at =
    ap (λ l. has_spare l t) (spare-step N sectors i x X)
    ∙ after_head (spare_in N (sectors i) x) i (spares_from N sectors (i + 1) X) t (omega (arith, at))
    ∙ spares-at N sectors (i + 1) k t X (omega (arith, at))

-- ---- the fresh ones

any_step : (b : Bool) (test : Sb × ℕ → Bool) (s : Sb × ℕ) (rest : List (Sb × ℕ)) → (b ≡ true → test s ≡ false) → list_any test rest ≡ false → list_any test (cond b (s ∷ rest) rest) ≡ false
any_step true test s rest fails none = ap₂ (λ a b. a || b) (fails refl) none
any_step false test s rest fails none = none

-- no fresh one passes a test
pub none-fresh : (N : Sb) (sectors : ℕ → ℕ) (test : Sb × ℕ → Bool) (i : ℕ) (X : Own)
    → ((k : ℕ) (sb : Sb) → get_or X k None ≡ Some sb → is_fresh N sb ≡ true → test (sb, sectors (i + k)) ≡ false)
    → list_any test (fresh_from N sectors i X) ≡ false
none-fresh N sectors test i [] fails = refl
none-fresh N sectors test i (None ∷ X) fails =
    none-fresh N sectors test (i + 1) X (λ k sb is fresh. let next : i + suc k ≡ i + 1 + k = omega arith in subst (λ (j : ℕ). test (sb, sectors j) ≡ false) next (fails (suc k) sb is fresh))
none-fresh N sectors test i (Some x ∷ X) fails =
    any_step (is_fresh N x) test (x, sectors i) (fresh_from N sectors (i + 1) X)
    (λ fresh. let first : i + 0 ≡ i = omega arith in subst (λ (j : ℕ). test (x, sectors j) ≡ false) first (fails 0 x refl fresh))
    (none-fresh N sectors test (i + 1) X (λ k sb is fresh. let next : i + suc k ≡ i + 1 + k = omega arith in subst (λ (j : ℕ). test (sb, sectors j) ≡ false) next (fails (suc k) sb is fresh)))

find_step : (test : Sb × ℕ → Bool) (s : Sb × ℕ) (l : List (Sb × ℕ)) (b : Bool) → test s ≡ b → (list_any test l ≡ false → find test l ≡ None)
    → (b || list_any test l) ≡ false → cond b (Some s) (find test l) ≡ None
find_step test s l true e rest none = absurd (cc)
find_step test s l false e rest none = rest none

find-none : (test : Sb × ℕ → Bool) (l : List (Sb × ℕ)) → list_any test l ≡ false → find test l ≡ None
find-none test [] none = refl
find-none test (s ∷ l) none = find_step test s l (test s) refl (find-none test l) none

pub none-unsupported : (l : List (Sb × ℕ)) → list_any (λ s. not (refused_bits s.0.feature_map == 0)) l ≡ false → unsupported l ≡ None
none-unsupported l none = ap (option_map _) (find-none (λ s. not (refused_bits s.0.feature_map == 0)) l none)

shared_step : (b : Bool) (s : Sb × ℕ) (rest : List (Sb × ℕ)) → (b ≡ true → has_dev s.0.dev_number rest ≡ false) → shared_dev rest ≡ None → shared_dev (cond b (s ∷ rest) rest) ≡ None
shared_step true s rest apart none = ap (λ c. cond c (Some (lower s.0.dev_number (shared_dev rest))) (shared_dev rest)) (apart refl) ∙ none
shared_step false s rest apart none = none

pub none-shared : (N : Sb) (sectors : ℕ → ℕ) (i : ℕ) (X : Own)
    → ((s t : ℕ) (a b : Sb) → s ≢ t → get_or X s None ≡ Some a → get_or X t None ≡ Some b → is_fresh N a ≡ true → is_fresh N b ≡ true → a.dev_number ≢ b.dev_number)
    → shared_dev (fresh_from N sectors i X) ≡ None
none-shared N sectors i [] apart = refl
none-shared N sectors i (None ∷ X) apart = none-shared N sectors (i + 1) X (λ s t a b differ is is' fresh fresh'. apart (suc s) (suc t) a b (omega (arith, differ)) is is' fresh fresh')
none-shared N sectors i (Some x ∷ X) apart =
    shared_step (is_fresh N x) (x, sectors i) (fresh_from N sectors (i + 1) X)
    (λ fresh. none-fresh N sectors (λ s. s.0.dev_number == x.dev_number) (i + 1) X
    (λ k sb is fresh'. differ sb.dev_number x.dev_number (apart (suc k) 0 sb x (omega arith) is refl fresh' fresh)))
    (none-shared N sectors (i + 1) X (λ s t a b differ is is' fresh fresh'. apart (suc s) (suc t) a b (omega (arith, differ)) is is' fresh fresh'))
  where
    differ : (a b : ℕ) → a ≢ b → (a == b) ≡ false
    differ a b h = grind (arith, nat_tests)
