use Rattle.std.proofs.Common.{◌≡◌, ◌==◌, ◌^◌, ◌<◌, ℕ, false, sym, subst, arith, Option}
use Rattle.std.specs.List.{list_any}
use Rattle.std.proofs.lemmas.Bool.Decides.{nat_tests}
use Rattle.std.proofs.lemmas.List.Folds.{list_any_none}
use Rattle.bank.specs.Memory.{calls_before}
use Rattle.bank.proofs.memory.contains_next.Goals as goal

unequal : (n : ℕ) → n < 2 ^ 64 → (n == 2 ^ 64) ≡ false
unequal n lt = grind (arith, nat_tests)

pub returns-in-None : goal.returns-in-None
returns-in-None c =
    subst (λ (o : Option ℕ). false ≡ list_any (λ (number : ℕ). number == calls_before o) c.args.failing.now.items) (sym c.in-None.is)
    (sym (list_any_none (λ (number : ℕ). number == 2 ^ 64) c.args.failing.now.items (λ k d lt. unequal _ (c.type_inv.failing k d lt))))
