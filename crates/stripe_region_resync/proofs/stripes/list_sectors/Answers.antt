use Rattle.std.proofs.Common.{sym, ◌∙◌, ap, subst}
use Rattle.reshape_request.specs.raid_types_the_Shape.{Shape}
use Rattle.reshape_request.specs.reshape_geometry_Geometry.{AreInForce, list_end}
use Rattle.reshape_request.specs.sb_specs_Reading.{shape_of}
use Rattle.stripe_region_resync.proofs.stripes.list_sectors.Goals as goal

pub list_end-requires : goal.list_end-requires
list_end-requires c =
    let newest = c.args.members.now.newest in
    let fit = c.requires.fit in
    subst (λ (s : Shape). AreInForce s c.final_in.result newest.size) (sym c.shape_in.ensures)
    (subst (λ (s : Shape). AreInForce (shape_of newest) s newest.size) (sym c.final_in.ensures)
    (record { old_valid = fit.valid.old; new_valid = fit.valid.final; old_size = fit.size; new_size = fit.final_size }))

pub returns : goal.returns
returns c =
    let newest = c.args.members.now.newest in
    c.list_end.ensures.value ∙ ap (λ (s : Shape). list_end s c.final_in.result newest.size) c.shape_in.ensures ∙ ap (λ (s : Shape). list_end (shape_of newest) s newest.size) c.final_in.ensures
