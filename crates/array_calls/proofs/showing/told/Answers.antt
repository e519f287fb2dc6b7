use Rattle.std.proofs.Common.{◌∙◌, ap, arith}
use Rattle.array_type.specs.sb_specs_Reading.{is_reshaping, is_clean, shape_of, target_of}
use Rattle.array_type.proofs.sb_specs_ValidFields.{few-roles}
use Rattle.std.specs.Prelude.{if◌then◌else◌}
use Rattle.array_type.proofs.Alike.{alike}
use Rattle.array_calls.proofs.Shown.{shown-as}
use Rattle.array_calls.proofs.showing.told.Goals as goal

pub copy_roles-requires : goal.copy_roles-requires
copy_roles-requires g c =
    let placed = (alike c.array.invariant).kept.members_are.placed in
    let most = few-roles c.array.inside.members.newest placed.fit.valid in
    omega (arith, placed.roles, most)

pub returns : goal.returns
returns g c =
    shown-as (record {
      shape = c.shape_in.ensures ∙ ap (λ p. shape_of p.parts.members.newest) c.array.view_is;
      size = ap (λ p. p.parts.members.newest.size) c.array.view_is;
      length = c.length.ensures.length;
      visible = c.visible.ensures.visible;
      clean = c.is_clean.ensures ∙ ap (λ p. is_clean p.parts.members.newest) c.array.view_is;
      events = ap (λ p. p.parts.members.newest.events) c.array.view_is;
      roles = c.in-Ok.ensures ∙ ap (λ p. p.parts.members.roles) c.array.view_is;
      spares = c.in-Ok-copy_slots.ensures ∙ ap (λ p. p.parts.members.spares) c.array.view_is;
    }) (c.target_of.ensures ∙ ap (λ p. target_of p.parts.members.newest) c.array.view_is)
    (c.position_of.ensures ∙ ap (λ p. if is_reshaping p.parts.members.newest then p.parts.members.newest.reshape_position else 0) c.array.view_is)
    c.left.ensures.exact
