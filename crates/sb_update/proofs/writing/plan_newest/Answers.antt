use Rattle.std.proofs.Common.{◌∙◌, ap}
use Rattle.sb_specs.specs.sb_codec_the_Sb.{Sb}
use Rattle.sb_specs.specs.Update.{with_roles}
use Rattle.sb_update.proofs.writing.plan_newest.Goals as goal

pub returns : goal.returns
returns c =
    let m = c.args.members.now in
    c.enter_roles.ensures
    ∙ ap (λ (n : Sb). record m { newest = record n { dev_roles = with_roles m c.args.change.now c.args.before m.lost n.dev_roles } }) c.planned_newest-members.ensures
