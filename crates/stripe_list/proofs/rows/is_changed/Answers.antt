use Rattle.std.proofs.Common.{◌≡◌, ◌+◌, ◌≤◌, ℕ, nat_lt, false, inr, arith}
use Rattle.std.proofs.lemmas.Bool.Decides.{nat_tests}
use Rattle.stripe_list.proofs.FullLaws.{sector_there}
use Rattle.stripe_list.proofs.rows.is_changed.Goals as goal

not_below : (a b : ℕ) → nat_lt a b ≡ false → b ≤ a
not_below a b out = grind (arith, nat_tests, out)

pub returns-then-first-x-clause-left : goal.returns-then-first-x-clause-left
returns-then-first-x-clause-left c = λ out plain. (c.in-Some.x, c.in-Some.ensures.stands, inr (not_below c.in-Some.x (c.args.first + c.args.count) out))

pub returns-in-None-clause-left : goal.returns-in-None-clause-left
returns-in-None-clause-left c = λ out plain.
    let found = sector_there c.args.shape.now c.args.role c.args.row c.requires.shape c.requires.role plain in
    absurd (c.in-None.ensures.stands found.0 found.1)
