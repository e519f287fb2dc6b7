use Rattle.std.proofs.Common.{◌≡◌, ℕ, List, refl, sym, ap, ◌∙◌, Option, Some, None, Result, Ok, Err, true≢false}
use Rattle.script.specs.Reading.{or_mistake}
use Rattle.script.specs.declared.mistakes.Mistake.{Mistake}
use Rattle.script.specs.declared.mistakes.Mistake.TheVariants.{NotAUuid}
use Rattle.script.proofs.reader.judge_uuid.Goals as goal

nothing : (o : Option (List ℕ)) → ((u : List ℕ) → o ≡ Some u → ⊥) → Err NotAUuid ≡ or_mistake NotAUuid o
nothing None none = refl
nothing (Some u) none = absurd (none u refl)

pub returns-in-Err : goal.returns-in-Err
returns-in-Err c = nothing _ (λ u e. true≢false (sym (c.in-Err.ensures.ok.1 (u, e))))
