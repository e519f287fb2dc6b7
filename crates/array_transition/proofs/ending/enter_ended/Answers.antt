use Rattle.std.proofs.Common.{List, [], ◌∷◌, ◌++◌, sym, ◌∙◌, ap, append_assoc}
use Rattle.array_reshaping_steps.specs.history_the_Entry.{Entry}
use Rattle.array_reshaping_steps.specs.history_the_Event_TheVariants.{Step}
use Rattle.array_reshaping_steps.specs.history_the_StepKind_TheVariants.{Finished}
use Rattle.array_reshaping_steps.specs.history_Plain.{entries_of}
use Rattle.array_reshaping_steps.specs.history_append_Losing.{losses_of}
use Rattle.array_reshaping_steps.proofs.history_append_LosingLaws.{entries-both}
use Rattle.array_transition.specs.Ended.{ended_length}
use Rattle.array_transition.proofs.ending.enter_ended.Goals as goal

pub returns-clause-items : goal.returns-clause-items
returns-clause-items c =
    let a = c.args in
    let old = a.epoch.now.entries.items in
    let early = entries_of a.who a.end (losses_of a.told.now.roles a.told.now.spares) in
    let step = entries_of a.who a.end (Step Finished a.left ∷ []) in
    let sized = entries_of a.who a.end (ended_length a.told.now.before a.told.now.size) in
    let lost = entries_of a.who a.end (losses_of a.told.now.late a.told.now.late_spares) in
    c.append_lost.ensures.items
    ∙ ap (λ (l : List Entry). l ++ lost) (c.enter_longer.ensures.items ∙ ap (λ (l : List Entry). l ++ sized) (c.append_after_losses.ensures.items ∙ ap (λ (l : List Entry). old ++ l) (entries-both a.who a.end (losses_of a.told.now.roles a.told.now.spares) (Step Finished a.left ∷ []))))
    ∙ append_assoc (old ++ (early ++ step)) sized lost ∙ append_assoc old (early ++ step) (sized ++ lost)
    ∙ ap (λ (l : List Entry). old ++ l) (append_assoc early step (sized ++ lost))
    ∙ ap (λ (l : List Entry). old ++ (early ++ (step ++ l))) (sym (entries-both a.who a.end (ended_length a.told.now.before a.told.now.size) (losses_of a.told.now.late a.told.now.late_spares)))
    ∙ ap (λ (l : List Entry). old ++ l) (sym (entries-both a.who a.end (losses_of a.told.now.roles a.told.now.spares) (Step Finished a.left ∷ (ended_length a.told.now.before a.told.now.size ++ losses_of a.told.now.late a.told.now.late_spares))))
