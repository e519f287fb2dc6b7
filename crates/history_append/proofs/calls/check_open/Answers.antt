use Rattle.std.proofs.Common.{◌≤◌, length, subst, ℕ}
use Rattle.history_append.proofs.StepLaws.{open-few}
use Rattle.history_append.proofs.calls.check_open.Goals as goal

pub returns : goal.returns
returns c = open-few c.args.entries.now.items c.args.who c.requires (subst (λ (n : ℕ). n ≤ length c.args.entries.now.items) c.next_number.ensures.number c.next_number.ensures.few)
