-- The walk round the roles of a row that has a Q: each role lies some steps behind Q.
use Rattle.std.proofs.Common.{◌≡◌, ℕ, ◌+◌, ◌-◌, ◌%◌, ◌<◌, ◌≤◌, inl, inr, ap, ◌∙◌, arith}
use Rattle.std.proofs.Math.Nat.{add-mod_left, mod-eq_of_lt}
use Rattle.std.proofs.lemmas.Bool.{cases_lt}
use Rattle.raid_types.specs.declared.places.RowRoles.{RowRoles}
use Rattle.raid_parity.specs.Exponents.{steps_behind}

module _ (roles : RowRoles) (q : ℕ) (q_below : q < roles.disks) where
  pub steps_after : (r : ℕ) → r < roles.disks → q < r → steps_behind roles q r ≡ r - (q + 1)
  steps_after r lt after =
      let e : r + roles.disks - (q + 1) ≡ roles.disks + (r - (q + 1)) = omega arith in
      ap (λ k. k % roles.disks) e ∙ add-mod_left roles.disks (r - (q + 1)) ∙ mod-eq_of_lt (omega arith)

  pub steps_upto : (r : ℕ) → r ≤ q → steps_behind roles q r ≡ r + roles.disks - (q + 1)
  steps_upto r le = mod-eq_of_lt (omega arith)

  -- the role before another is one step nearer, and the last comes before the first
  pub steps_of_q : steps_behind roles q q ≡ roles.disks - 1
  steps_of_q = steps_upto q (omega arith) ∙ omega arith

  pub steps-lt : (r : ℕ) → r < roles.disks → steps_behind roles q r < roles.disks
  steps-lt r lt =
      elim (cases_lt q r) [
        | inl after ↦ omega (arith, steps_after r lt after)
        | inr upto ↦ omega (arith, steps_upto r upto)
      ]

  pub steps-injective : (r m : ℕ) → r < roles.disks → m < roles.disks → steps_behind roles q r ≡ steps_behind roles q m → r ≡ m
  steps-injective r m hr hm e =
      elim (cases_lt q r) [
        | inl after ↦ elim (cases_lt q m) [
          | inl also ↦ omega (arith, e, steps_after r hr after, steps_after m hm also)
          | inr upto ↦ omega (arith, e, steps_after r hr after, steps_upto m upto)
        ]
        | inr before ↦ elim (cases_lt q m) [
          | inl also ↦ omega (arith, e, steps_upto r before, steps_after m hm also)
          | inr upto ↦ omega (arith, e, steps_upto r before, steps_upto m upto)
        ]
      ]

  pub steps_back : (r k : ℕ) → r < roles.disks → 0 < r → steps_behind roles q r ≡ k + 1 → steps_behind roles q (r - 1) ≡ k
  steps_back r k hr pos e =
      elim (cases_lt q r) [
        | inl after ↦ elim (cases_lt q (r - 1)) [
          | inl also ↦ steps_after (r - 1) (omega arith) also ∙ omega (arith, e, steps_after r hr after)
          | inr upto ↦ absurd (omega (arith, e, steps_after r hr after))
        ]
        | inr before ↦ steps_upto (r - 1) (omega arith) ∙ omega (arith, e, steps_upto r before)
      ]

  pub steps_round : (k : ℕ) → steps_behind roles q 0 ≡ k + 1 → steps_behind roles q (roles.disks - 1) ≡ k
  steps_round k e =
      let at : roles.disks - (q + 1) ≡ k + 1 = omega (arith, e, steps_upto 0 (omega arith)) in
      steps_after (roles.disks - 1) (omega arith) (omega arith) ∙ omega arith
