use Rattle.std.proofs.Common.{◌≡◌, refl, sym, ◌∙◌, ap, arith}
use Rattle.std.proofs.lemmas.List.{take_all, length-set}
use Rattle.sb_specs.specs.raid_types_Search.{tabulate}
use Rattle.sb_specs.specs.Outcome.{planned_state}
use Rattle.sb_update.proofs.RoleStates.{tabulate-first, states-more}
use Rattle.sb_update.proofs.recording.roles.planned_states.Goals as goal

pub loop-role-init : goal.loop-role-init
loop-role-init c = record { long = refl; set = sym (tabulate-first (planned_state c.args.members.now.roles c.args.gives.now c.args.members.now.lost)) }

pub loop-role-preserved : goal.loop-role-preserved
loop-role-preserved c =
    let m = c.args.members.now in
    let v = c.loop-role.invariant in
    record {
      long = length-set c.loop-role.states c.loop-role.role c.planned_state.result ∙ v.long;
      set = states-more (planned_state m.roles c.args.gives.now m.lost) c.loop-role.states c.loop-role.role c.planned_state.result (omega (arith, v.long)) v.set c.planned_state.ensures;
    }

pub returns : goal.returns
returns c =
    let m = c.args.members.now in
    let v = c.loop-role.invariant in
    let all : c.loop-role.role ≡ 16 = omega arith in
    sym (take_all c.loop-role.role c.loop-role.states (omega (arith, v.long, all))) ∙ v.set ∙ ap (λ n. tabulate n (planned_state m.roles c.args.gives.now m.lost)) all
