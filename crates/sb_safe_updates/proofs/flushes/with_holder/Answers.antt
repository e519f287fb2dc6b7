use Rattle.std.proofs.Common.{inl, inr, ap}
use Rattle.sb_update.specs.sb_specs_Reading.{holder}
use Rattle.sb_safe_updates.proofs.flushes.with_holder.Goals as goal

pub with-requires : goal.with-requires
with-requires c = elim c.in-Whole.is [ inl whole ↦ c.requires c.in-Whole.slot (ap holder whole) | inr first ↦ c.requires c.in-Whole.slot (ap holder first) ]
