use Rattle.std.proofs.Common.{false, ◌∙◌, ap}
use Rattle.stripe_io.specs.raid_types_the_Shape.{Shape}
use Rattle.stripe_io.specs.sb_specs_Reading.{shape_of}
use Rattle.sb_add_spare.specs.sb_safe_updates_First.{write_refusal}
use Rattle.array_state.proofs.FirstLaws.{write-told}
use Rattle.array_state.proofs.UnmendableLaws.{unmended-told}
use Rattle.array_state.proofs.refusing.first_resync_refusal.Goals as goal

pub returns-clause-first : goal.returns-clause-first
returns-clause-first c = c.first_write_refusal.ensures ∙ ap (λ (s : Shape). write_refusal s false c.args.members.now) c.shape_in.ensures

pub returns-clause-why : goal.returns-clause-why
returns-clause-why c =
    let m = c.args.members.now in
    unmended-told m c.first_write_refusal.result c.requires.still (write-told (shape_of m.newest) false m c.first_write_refusal.result
    (c.first_write_refusal.ensures ∙ ap (λ (s : Shape). write_refusal s false m) c.shape_in.ensures))
