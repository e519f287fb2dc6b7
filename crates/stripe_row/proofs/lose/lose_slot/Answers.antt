use Rattle.std.proofs.Common.{Bool, ◌||◌, ◌==◌, ◌∙◌, ap}
use Rattle.sb_specs.proofs.SlotSets.{none_there}
use Rattle.stripe_row.proofs.lose.lose_slot.Goals as goal

pub returns-clause-alone : goal.returns-clause-alone
returns-clause-alone c s = c.with-lost.ensures s ∙ ap (λ (b : Bool). b || (c.args.slot == s)) (none_there s)
