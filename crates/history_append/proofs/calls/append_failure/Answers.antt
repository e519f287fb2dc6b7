use Rattle.std.proofs.Common.{◌++◌, [], ◌∷◌, sym, ◌∙◌, ap, Bool}
use Rattle.array_members.specs.history_Plain.{entries_of}
use Rattle.array_members.specs.history_the_Event_TheVariants.{Torn, Refused}
use Rattle.history_append.specs.Losing.{losses_of, failure_events}
use Rattle.history_append.proofs.LosingLaws.{entered-more}
use Rattle.history_append.proofs.calls.append_failure.Goals as goal

pub returns-clause-items : goal.returns-clause-items
returns-clause-items c =
    entered-more c.args.who c.args.end c.args.epoch.now.entries.items c.append_after_losses-2.new.epoch.entries.items c.append_entry.new.epoch.entries.items
    (losses_of c.args.roles c.args.spares ++ Torn c.args.at c.args.body ∷ []) (Refused c.args.refusal ∷ []) c.append_after_losses-2.ensures.items c.append_entry.ensures.items
    ∙ ap (λ (b : Bool). c.args.epoch.now.entries.items ++ entries_of c.args.who c.args.end (failure_events c.args.roles c.args.spares b c.args.at c.args.body c.args.refusal)) (sym c.if-not-torn.false)
