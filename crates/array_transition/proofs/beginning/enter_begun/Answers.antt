use Rattle.std.proofs.Common.{List, [], ◌∷◌, ◌++◌, sym, ◌∙◌, ap, append_assoc}
use Rattle.array_reshaping_steps.specs.history_the_Entry.{Entry}
use Rattle.array_reshaping_steps.specs.history_the_Event_TheVariants.{Step}
use Rattle.array_reshaping_steps.specs.history_the_StepKind_TheVariants.{Begun}
use Rattle.array_reshaping_steps.specs.history_Plain.{entries_of}
use Rattle.array_reshaping_steps.specs.history_append_Losing.{losses_of}
use Rattle.array_reshaping_steps.proofs.history_append_LosingLaws.{entries-both}
use Rattle.array_transition.specs.Begun.{begun_length}
use Rattle.array_transition.proofs.beginning.enter_begun.Goals as goal

pub returns-clause-items : goal.returns-clause-items
returns-clause-items c =
    let a = c.args in
    let old = a.epoch.now.entries.items in
    let first = entries_of a.who a.end (Step Begun a.told.now.left ∷ []) in
    let sized = entries_of a.who a.end (begun_length a.told.now.back a.told.now.size) in
    let lost = entries_of a.who a.end (losses_of a.told.now.roles a.told.now.spares) in
    c.append_lost.ensures.items
    ∙ ap (λ (l : List Entry). l ++ lost) (c.enter_length.ensures.items ∙ ap (λ (l : List Entry). l ++ sized) c.append_entry.ensures.items)
    ∙ append_assoc (old ++ first) sized lost ∙ append_assoc old first (sized ++ lost)
    ∙ ap (λ (l : List Entry). old ++ (first ++ l)) (sym (entries-both a.who a.end (begun_length a.told.now.back a.told.now.size) (losses_of a.told.now.roles a.told.now.spares)))
