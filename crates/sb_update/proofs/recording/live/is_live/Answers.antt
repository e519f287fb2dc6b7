use Rattle.std.proofs.Common.{◌||◌, ◌==◌, Bool, sym, ◌∙◌, ap}
use Rattle.std.specs.List.{list_any}
use Rattle.std.specs.Option.{is_some}
use Rattle.sb_specs.specs.Update.{is_held_by}
use Rattle.sb_specs.proofs.SlotSets.{some_role}
use Rattle.sb_update.proofs.recording.live.is_live.Goals as goal

pub returns-then-is_some : goal.returns-then-is_some
returns-then-is_some c =
    let held = c.is_some.ensures ∙ ap is_some c.role_of.ensures.role ∙ some_role c.args.slot 0 c.as_slice.result.now ∙ ap (list_any (is_held_by c.args.slot)) c.as_slice.ensures in
    c.if-is_some.true ∙ sym (ap (λ (b : Bool). b || list_any (λ spare. spare == c.args.slot) c.args.spares.now) (sym held ∙ c.if-is_some.true))

pub returns-else-is_some : goal.returns-else-is_some
returns-else-is_some c =
    let held = c.is_some.ensures ∙ ap is_some c.role_of.ensures.role ∙ some_role c.args.slot 0 c.as_slice.result.now ∙ ap (list_any (is_held_by c.args.slot)) c.as_slice.ensures in
    c.contains.ensures ∙ sym (ap (λ (b : Bool). b || list_any (λ spare. spare == c.args.slot) c.args.spares.now) (sym held ∙ c.if-is_some.false))
