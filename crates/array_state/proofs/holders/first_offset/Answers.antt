use Rattle.std.proofs.Common.{ap, ◌∙◌, sym, inl, inr}
use Rattle.stripe_io.specs.sb_specs_Reading.{holder}
use Rattle.sb_add_spare.specs.array_members_Rebuilding.{Held}
use Rattle.array_state.proofs.holders.first_offset.Goals as goal

pub data_offset-requires : goal.data_offset-requires
data_offset-requires c = c.requires.small c.loop-role.role c.in-Whole.slot held
  where
    held : Held c.args.members.now c.loop-role.role c.in-Whole.slot
    held = elim c.in-Whole.is [ inl whole ↦ ap holder (sym c.get.ensures ∙ whole) | inr recovering ↦ ap holder (sym c.get.ensures ∙ recovering) ]
