use Rattle.std.proofs.Common.{◌&&◌, Bool, not, inl, inr, sym, ◌∙◌, ap, arith}
use Rattle.std.proofs.lemmas.Bool.{cases_lt}
use Rattle.array_reshaping_steps.specs.raid_types_Shapes.{has_slot}
use Rattle.array_reshaping_steps.proofs.sb_specs_SlotSets.{none_above}
use Rattle.array_transition.proofs.ending.told_of.Goals as goal

pub returns-clause-late_spares : goal.returns-clause-late_spares
returns-clause-late_spares c slot =
    elim (cases_lt slot 32) [
      | inl below ↦ c.without.ensures slot below
      | inr above ↦ none_above c.without.result slot (omega arith) above
          ∙ sym (ap (λ (b : Bool). b && not (has_slot c.args.was.now.held slot)) (none_above c.args.done.now.lost slot (omega arith) above))
    ]
