use Rattle.std.proofs.Common.{◌≡◌, ◌∙◌, ℕ, sym, ap, arith, Some, None, if◌then◌else◌}
use Rattle.std.proofs.lemmas.List.{get_or-replicate}
use Rattle.std.specs.Option.{option_or}
use Rattle.sb_specs.specs.raid_types_Search.{least_below}
use Rattle.sb_specs.specs.Outcome.{is_same, is_planned_holder}
use Rattle.sb_update.proofs.RoleStates.{least_below-start, least_below-more}
use Rattle.sb_update.proofs.recording.roles.first_holders.Goals as goal

pub loop-slot-init : goal.loop-slot-init
loop-slot-init c role lt = get_or-replicate 16 role None None lt ∙ sym (least_below-start (is_planned_holder c.args.members.now.roles c.args.gives.now c.args.members.now.lost role))

pub loop-slot-preserved : goal.loop-slot-preserved
loop-slot-preserved c role lt =
    let m = c.args.members.now in
    let slot = c.loop-slot.slot in
    let here : is_same role c.role_after-role.result ≡ is_planned_holder m.roles c.args.gives.now m.lost role slot = c.role_after-role.ensures.role role in
    let before = c.loop-slot.invariant role lt in
    c.note_holder.ensures role lt ∙ (λ j. option_or (before j) (if here j then Some slot else None)) ∙ sym (least_below-more slot (is_planned_holder m.roles c.args.gives.now m.lost role))

pub returns : goal.returns
returns c role lt =
    let m = c.args.members.now in
    let all : c.loop-slot.slot ≡ 32 = omega arith in
    c.loop-slot.invariant role lt ∙ ap (λ (n : ℕ). least_below n (is_planned_holder m.roles c.args.gives.now m.lost role)) all
