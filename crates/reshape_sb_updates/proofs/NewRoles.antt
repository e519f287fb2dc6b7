-- Which slots get the new roles.
use Rattle.std.proofs.Common.{◌≡◌, ◌⊎◌, ℕ, ◌+◌, ◌-◌, ◌<◌, ◌≤◌, ◌&&◌, Bool, true, false, nat_lt, List, Option, None, inl, inr, refl, sym, ◌∙◌, ap, subst, arith}
use Rattle.std.proofs.lemmas.Bool.{cases_lt}
use Rattle.std.proofs.lemmas.Bool.Decides.{nat_tests}
use Rattle.std.proofs.lemmas.List.{get_or_past}
use Rattle.sb_update.specs.raid_types_Search.{tabulate, count_below}
use Rattle.sb_update.proofs.raid_types_Tabulated.{length-tabulate, get_or-tabulate}
use Rattle.sb_update.specs.sb_specs_the_Give.{Give}
use Rattle.sb_update.specs.sb_specs_the_Give_TheVariants.{Same}
use Rattle.sb_update.specs.sb_specs_the_Give_TheVariants as give
use Rattle.sb_update.specs.sb_specs_Reads.{has_spare}
use Rattle.sb_update.specs.sb_specs_Update.{give_of}
use Rattle.reshape_sb_updates.specs.Beginning.{give_where, new_role, new_give}
use Rattle.reshape_sb_updates.proofs.Counts.{count-strict, count-find}

module _ (spares : List ℕ) (first disks : ℕ) where
  abbrev Gives : List Give
  Gives = tabulate 32 (new_give spares first disks)

  -- such a slot is a spare, and gets the role of its number
  pub record IsGivenNew (slot role : ℕ) : Type 0 where
    pub small : slot < 32
    pub spare : has_spare spares slot ≡ true
    pub mine : new_role spares first slot ≡ role
    pub below : role < disks
    pub gets : give_of Gives slot ≡ give.Role role None

  lt-true : (a b : ℕ) → nat_lt a b ≡ true → a < b
  lt-true a b is = grind (arith, nat_tests)

  true-lt : (a b : ℕ) → a < b → nat_lt a b ≡ true
  true-lt a b lt = grind (arith, nat_tests)

  in-range : (slot : ℕ) → slot < 32 → give_of Gives slot ≡ new_give spares first disks slot
  in-range slot lt = get_or-tabulate 32 (new_give spares first disks) slot Same lt

  -- each gets nothing, or its new role
  pub new-or : (slot : ℕ) → (give_of Gives slot ≡ Same) ⊎ ((role : ℕ) × IsGivenNew slot role)
  new-or slot = elim (cases_lt slot 32) [
    | inl lt ↦ of lt (has_spare spares slot) (nat_lt (new_role spares first slot) disks) refl refl
    | inr past ↦ inl (get_or_past Gives slot Same (let long = length-tabulate 32 (new_give spares first disks) in omega (arith, past, long)))
  ]
    where
      of : slot < 32 → (a b : Bool) → has_spare spares slot ≡ a → nat_lt (new_role spares first slot) disks ≡ b → (give_of Gives slot ≡ Same) ⊎ ((role : ℕ) × IsGivenNew slot role)
      of lt true true is there = inr (
        new_role spares first slot,
        record {
          small = lt;
          spare = is;
          mine = refl;
          below = lt-true (new_role spares first slot) disks there;
          gets = in-range slot lt ∙ (λ i. give_where (is i && there i) (new_role spares first slot));
        },
      )
      of lt true false is there = inl (in-range slot lt ∙ (λ i. give_where (is i && there i) (new_role spares first slot)))
      of lt false b is there = inl (in-range slot lt ∙ ap (λ (t : Bool). give_where (t && nat_lt (new_role spares first slot) disks) (new_role spares first slot)) is)

  -- who gets a role gets it so
  pub new-given : (slot role : ℕ) (recovery : Option ℕ) → give_of Gives slot ≡ give.Role role recovery → IsGivenNew slot role × (recovery ≡ None)
  new-given slot role recovery gets = elim (new-or slot) [
    | inl same ↦ absurd (let both = sym same ∙ gets in cc)
    | inr (other, new) ↦ (
        let both : give.Role other None ≡ give.Role role recovery = sym new.gets ∙ gets in
        let same : other ≡ role = cc in
        let whole : recovery ≡ None = cc in
        (subst (IsGivenNew slot) same new, whole))
  ]

  -- two slots get two roles
  pub new-apart : (s t role : ℕ) → IsGivenNew s role → IsGivenNew t role → s ≡ t
  new-apart s t role a b = elim (cases_lt s t) [
    | inl lt ↦ absurd (
        let more = count-strict t s (has_spare spares) lt a.spare in
        let one = a.mine in
        let two = b.mine in
        omega (arith, more, one, two)
        )
    | inr le ↦ elim (cases_lt t s) [
      | inl lt ↦ absurd (
          let more = count-strict s t (has_spare spares) lt b.spare in
          let one = a.mine in
          let two = b.mine in
          omega (arith, more, one, two)
          )
      | inr le' ↦ omega (arith, le, le')
    ]
  ]

  -- with spares enough, each new role is given
  pub new-taken : (role : ℕ) → first ≤ role → role < disks → disks ≤ first + count_below 32 (has_spare spares) → (slot : ℕ) × IsGivenNew slot role
  new-taken role from below enough =
      let found = count-find 32 (role - first) (has_spare spares) (omega (arith, from, below, enough)) in
      let mine : new_role spares first found.0 ≡ role = (let count = found.3 in omega (arith, count, from)) in
      let there : nat_lt (new_role spares first found.0) disks ≡ true = true-lt (new_role spares first found.0) disks (omega (arith, mine, below)) in (
        found.0,
        record {
          small = found.1;
          spare = found.2;
          mine = mine;
          below = below;
          gets = in-range found.0 found.1 ∙ (λ i. give_where (found.2 i && there i) (mine i));
        },
      )
