use Rattle.std.proofs.Common.{◌≡◌, ◌⊎◌, ◌==◌, ◌||◌, Bool, ℕ, true, false, inl, inr, eqb-true, refl, sym, ◌∙◌, ap, arith}
use Rattle.std.proofs.lemmas.Bool.Decides.{nat_tests}
use Rattle.stripe_list.proofs.rows.with_changed.Goals as goal

-- a role in the set that was given one more
put_in : {P : Type 0} (a b : Bool) (role r : ℕ) → b ≡ (a || (role == r)) → b ≡ true → P → (a ≡ true) ⊎ ((r ≡ role) × P)
put_in true b role r is has p = inl refl
put_in false b role r is has p = inr (sym (eqb-true role r (sym is ∙ has)), p)

-- the one that was put in is there
itself : (role : ℕ) → (role == role) ≡ true
itself role = grind (arith, nat_tests)

there : {X : Type 0} (a b t : Bool) → b ≡ (a || t) → t ≡ true → b ≡ false → X
there true b t is holds out = absurd (cc)
there false b t is holds out = absurd (cc)

pub returns-then-is_changed-clause-changed : goal.returns-then-is_changed-clause-changed
returns-then-is_changed-clause-changed c = λ r has. put_in _ _ c.args.role r (c.with.ensures r) has (c.is_changed.ensures.changed c.if-is_changed.true)

pub returns-then-is_changed-clause-left : goal.returns-then-is_changed-clause-left
returns-then-is_changed-clause-left c = λ out plain. there _ _ (c.args.role == c.args.role) (c.with.ensures c.args.role) (itself c.args.role) out

pub returns-then-is_changed-clause-stay : goal.returns-then-is_changed-clause-stay
returns-then-is_changed-clause-stay c = λ r has. c.with.ensures r ∙ ap (λ (b : Bool). b || (c.args.role == r)) has

pub returns-else-is_changed-clause-left : goal.returns-else-is_changed-clause-left
returns-else-is_changed-clause-left c = λ out plain. c.is_changed.ensures.left c.if-is_changed.false plain
