use Rattle.std.proofs.Common.{refl, sym, ◌∙◌}
use Rattle.sb_specs.specs.Update.{give_of}
use Rattle.sb_specs.specs.Outcome.{is_planned_holder}
use Rattle.sb_update.proofs.RoleStates.{least_below-lt, state-found, state-none}
use Rattle.sb_update.proofs.recording.roles.planned_state.Goals as goal

pub returns-in-Some : goal.returns-in-Some
returns-in-Some c =
    let m = c.args.members.now in
    let gives = c.args.gives.now in
    let slot = c.in-Some.slot in
    c.held_state.ensures ∙ state-found m.roles gives m.lost c.args.role c.former_state.result (give_of gives slot) slot c.former_state.ensures refl (sym c.in-Some.is ∙ c.requires)

pub returns-in-None : goal.returns-in-None
returns-in-None c = let m = c.args.members.now in state-none m.roles c.args.gives.now m.lost c.args.role (sym c.in-None.is ∙ c.requires)

pub bounds-gives-slot : goal.bounds-gives-slot
bounds-gives-slot c =
    let m = c.args.members.now in
    least_below-lt 32 (is_planned_holder m.roles c.args.gives.now m.lost c.args.role) c.in-Some.slot (sym (sym c.in-Some.is ∙ c.requires))
