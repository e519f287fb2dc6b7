use Rattle.std.proofs.Common.{inl, inr, ap, sym, ◌∙◌}
use Rattle.array_reshaping_steps.specs.sb_specs_Reading.{holder}
use Rattle.array_transition.proofs.ending.holders_below.Goals as goal

pub with-set-requires : goal.with-set-requires
with-set-requires c =
    elim c.in-Whole.is [
      | inl whole ↦ c.requires.small c.loop-role.role c.in-Whole.slot (ap holder (sym c.get.ensures ∙ whole))
      | inr first ↦ c.requires.small c.loop-role.role c.in-Whole.slot (ap holder (sym c.get.ensures ∙ first))
    ]
