use Rattle.std.proofs.Common.{◌≤◌, length, subst, ℕ}
use Rattle.array_fixed_sync.proofs.history_invariant_Records.{going-few}
use Rattle.array_takeover.proofs.taking.check_going.Goals as goal

pub returns : goal.returns
returns c =
    going-few c.args.entries.now.items c.args.who c.requires (subst (λ (n : ℕ). n ≤ length c.args.entries.now.items) c.next_number.ensures.number c.next_number.ensures.few)
