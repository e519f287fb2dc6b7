-- What members say that say what the known superblocks do: each slot of a role, and each spare, is known.
use Rattle.std.proofs.Common.{◌≡◌, inl, inr, ℕ, zero, suc, ◌+◌, ◌<◌, ◌==◌, Bool, true, false, cond, nat_lt, ◌&&◌, ◌||◌, List, [], ◌∷◌, length, get_or, Option, Some, None, option_map, refl, sym, ◌∙◌, ap, arith}
use Rattle.std.proofs.lemmas.Bool.{cases_lt}
use Rattle.std.proofs.lemmas.Bool.Decides.{nat_tests}
use Rattle.std.proofs.lemmas.List.{get_or_past}
use Rattle.std.proofs.lemmas.List.Folds.{list_any-append}
use Rattle.sb_specs.specs.raid_types_Shapes.{has_slot}
use Rattle.sb_specs.specs.raid_types_Search.{tabulate}
use Rattle.sb_specs.specs.raid_types_the_Role.{Role}
use Rattle.sb_specs.specs.raid_types_the_Role_TheVariants.{Missing}
use Rattle.sb_specs.proofs.raid_types_Tabulated.{length-tabulate, get_or-tabulate}
use Rattle.sb_specs.specs.sb_codec_the_Sb.{Sb}
use Rattle.sb_specs.specs.bank_Tape.{Contents}
use Rattle.sb_specs.specs.declared.members.Members.{Members}
use Rattle.sb_specs.specs.Reading.{Scope, Reading, reading, reading_by, superblocks, newest_of, role_count, role_state, holder, holder_from, own_of}
use Rattle.sb_specs.specs.Update.{own_in}
use Rattle.sb_specs.specs.Outcome.{slots_below}
use Rattle.sb_specs.specs.Reads.{held_in, spare_in, has_spare}
use Rattle.sb_specs.specs.Held.{known_of, said_by}
use Rattle.sb_read_laws.specs.Said.{AreSaid}
use Rattle.sb_specs.proofs.ReadLists.{Own, held-here, spares-at}
use Rattle.sb_specs.proofs.HeldReads.{known_at}

-- ---- a reading

pub below-length : (roles : List Role) (role slot : ℕ) → holder (get_or roles role Missing) ≡ Some slot → role < length roles
below-length [] role slot is = absurd (cc)
below-length (state ∷ roles) zero slot is = omega arith
below-length (state ∷ roles) (suc role) slot is = let rest = below-length roles role slot is in omega (arith, rest)

has-own : (newest : Sb) (role slot : ℕ) (found : Option Sb) (state : Role) → held_in newest role slot found ≡ Some state → (sb : Sb) × (found ≡ Some sb)
has-own newest role slot None state is = absurd (cc)
has-own newest role slot (Some sb) state is = (sb, refl)

-- the holder of a role has a superblock
pub holder-own : (sectors : ℕ → ℕ) (own : Own) (newest : Sb) (role slot : ℕ) → holder (role_state (reading_by sectors own newest) role) ≡ Some slot → (sb : Sb) × (get_or own slot None ≡ Some sb)
holder-own sectors own newest role slot is =
    let roles : List Role = tabulate (role_count newest) (λ role. holder_from newest role 0 own) in
    let below : role < role_count newest = omega (arith, below-length roles role slot is, length-tabulate (role_count newest) (λ role. holder_from newest role 0 own)) in
    let state = get_or-tabulate (role_count newest) (λ role. holder_from newest role 0 own) role Missing below in
    let found = held-here newest role own slot (ap holder (sym state) ∙ is) in
    has-own newest role slot (get_or own slot None) found.0 found.1

-- and so in the reading of some contents
pub read-own : (scope : Scope) (c : Contents) (r : Reading) (role slot : ℕ) → reading scope c ≡ Some r → holder (role_state r role) ≡ Some slot → (sb : Sb) × (own_of r slot ≡ Some sb)
unfolding reading
read-own scope c r role slot is holds = of (newest_of (superblocks scope c)) is
  where
    of : (found : Option Sb) → option_map (reading_by scope.sizes.sectors (superblocks scope c)) found ≡ Some r → (sb : Sb) × (own_of r slot ≡ Some sb)
    of None e = absurd (cc)
    of (Some newest) e =
        let same : reading_by scope.sizes.sectors (superblocks scope c) newest ≡ r = cc in
        let found = holder-own scope.sizes.sectors (superblocks scope c) newest role slot (ap (λ (q : Reading). holder (role_state q role)) same ∙ holds) in
        (found.0, ap (λ (q : Reading). own_of q slot) (sym same) ∙ found.1)

-- a reading is that of its contents' superblocks, by the newest of them
pub read-parts : (scope : Scope) (c : Contents) (r : Reading) → reading scope c ≡ Some r → (newest_of (superblocks scope c) ≡ Some r.newest) × (r ≡ reading_by scope.sizes.sectors (superblocks scope c) r.newest)
unfolding reading
read-parts scope c r is = of (newest_of (superblocks scope c)) refl is
  where
    of : (found : Option Sb) → newest_of (superblocks scope c) ≡ found → option_map (reading_by scope.sizes.sectors (superblocks scope c)) found ≡ Some r
        → (newest_of (superblocks scope c) ≡ Some r.newest) × (r ≡ reading_by scope.sizes.sectors (superblocks scope c) r.newest)
    of None e found = absurd (cc)
    of (Some newest) e found =
        let same : reading_by scope.sizes.sectors (superblocks scope c) newest ≡ r = cc in
        let first : newest ≡ r.newest = ap (λ (q : Reading). q.newest) same in
        (e ∙ ap (λ (z : Sb). Some z) first, sym same ∙ ap (reading_by scope.sizes.sectors (superblocks scope c)) first)

-- ---- the known superblocks

module _ (scope : Scope) (known : ℕ) (own : List (Option Sb)) where
  listed_at : (b : Bool) (found : Option Sb) (slot : ℕ) (sb : Sb) → has_slot known slot ≡ b → cond b found None ≡ Some sb → (has_slot known slot ≡ true) × (found ≡ Some sb)
  listed_at true found slot sb is e = (is, e)
  listed_at false found slot sb is e = absurd (cc)

  -- what is listed is known
  pub listed : (slot : ℕ) (sb : Sb) → get_or (known_of scope known own) slot None ≡ Some sb → (has_slot known slot ≡ true) × (own_in own slot ≡ Some sb)
  listed slot sb is = elim (cases_lt slot scope.sizes.slots) [
    | inl below ↦ listed_at (has_slot known slot) (own_in own slot) slot sb refl (sym (get_or-tabulate scope.sizes.slots (known_at known own) slot None below) ∙ is)
    | inr past ↦ absurd (let none = get_or_past (tabulate scope.sizes.slots (known_at known own)) slot None (omega (arith, length-tabulate scope.sizes.slots (known_at known own), past)) in let both = sym none ∙ is in cc)
  ]

-- ---- members that say the same

module _ (scope : Scope) (known : ℕ) (members : Members) (said : AreSaid scope known members) where
  abbrev q : Reading
  q = said_by scope known members.own members.newest

  pub roles-count : length members.roles ≡ role_count members.newest
  roles-count = ap length said.roles ∙ length-tabulate (role_count members.newest) (λ role. holder_from members.newest role 0 (known_of scope known members.own))

  pub role-said : (role : ℕ) → get_or members.roles role Missing ≡ role_state (said_by scope known members.own members.newest) role
  role-said role = ap (λ (l : List Role). get_or l role Missing) said.roles

  pub role-below : (role slot : ℕ) → holder (get_or members.roles role Missing) ≡ Some slot → role < role_count members.newest
  role-below role slot is = omega (arith, below-length members.roles role slot is, roles-count)

  -- a role's slot is known
  pub role-known : (role slot : ℕ) → holder (get_or members.roles role Missing) ≡ Some slot
      → (has_slot known slot ≡ true) × (sb : Sb) × (own_in members.own slot ≡ Some sb) × (get_or (known_of scope known members.own) slot None ≡ Some sb)
  role-known role slot is =
      let found = holder-own scope.sizes.sectors (known_of scope known members.own) members.newest role slot (ap holder (sym (role-said role)) ∙ is) in
      let there = listed scope known members.own slot found.0 found.1 in
      (there.0, found.0, there.1, found.1)

  -- and a spare is
  pub spare-known : (slot : ℕ) → has_spare members.spares slot ≡ true → has_slot known slot ≡ true
  spare-known slot is = of (get_or (known_of scope known members.own) slot None) refl
      (let here : slot ≡ 0 + slot = omega arith in sym (ap (λ (l : List ℕ). has_spare l slot) said.spares ∙ spares-at members.newest scope.sizes.sectors 0 slot slot (known_of scope known members.own) here) ∙ is)
    where
      of : (found : Option Sb) → get_or (known_of scope known members.own) slot None ≡ found → spare_in members.newest (scope.sizes.sectors slot) found ≡ true → has_slot known slot ≡ true
      of None e it = absurd (cc)
      of (Some sb) e it = (listed scope known members.own slot sb e).0

-- ---- a list of the slots that pass

pub has-slots_below : (f : ℕ → Bool) (s n : ℕ) → has_spare (slots_below n f) s ≡ (nat_lt s n && f s)
unfolding slots_below
has-slots_below f s zero = nothing (f s)
  where
    nothing : (t : Bool) → false ≡ (nat_lt s 0 && t)
    nothing t = grind (arith, nat_tests)
has-slots_below f s (suc n) =
    list_any-append (λ x. x == s) (slots_below n f) (cond (f n) (n ∷ []) [])
    ∙ ap (λ b. b || has_spare (cond (f n) (n ∷ []) []) s) (has-slots_below f s n)
    ∙ last (f n) refl
  where
    last : (b : Bool) → f n ≡ b → ((nat_lt s n && f s) || has_spare (cond b (n ∷ []) []) s) ≡ (nat_lt s (suc n) && f s)
    last b is = elim (cases_lt s n) [
      | inl below ↦ before b (f s) below
      | inr past ↦ elim (cases_lt n s) [
        | inl above ↦ after b (f s) above
        | inr least ↦ let same : n ≡ s = omega (arith, past, least) in here b (f s) same (ap f (sym same) ∙ is)
      ]
    ]
      where
        before : (b t : Bool) → s < n → ((nat_lt s n && t) || has_spare (cond b (n ∷ []) []) s) ≡ (nat_lt s (suc n) && t)
        before true true lt = grind (arith, nat_tests)
        before true false lt = grind (arith, nat_tests)
        before false true lt = grind (arith, nat_tests)
        before false false lt = grind (arith, nat_tests)

        after : (b t : Bool) → n < s → ((nat_lt s n && t) || has_spare (cond b (n ∷ []) []) s) ≡ (nat_lt s (suc n) && t)
        after true true lt = grind (arith, nat_tests)
        after true false lt = grind (arith, nat_tests)
        after false true lt = grind (arith, nat_tests)
        after false false lt = grind (arith, nat_tests)

        here : (b t : Bool) → n ≡ s → t ≡ b → ((nat_lt s n && t) || has_spare (cond b (n ∷ []) []) s) ≡ (nat_lt s (suc n) && t)
        here true true same e = grind (arith, nat_tests)
        here false false same e = grind (arith, nat_tests)
        here true false same e = absurd (cc)
        here false true same e = absurd (cc)
