use Rattle.std.proofs.Common.{◌∙◌, ap, arith}
use Rattle.stripe_io.specs.sb_codec_the_Sb.{Sb}
use Rattle.array_call_laws.proofs.AddLaws.{spare-made}
use Rattle.sb_add_spare.proofs.array_members_Fit.{few}
use Rattle.array_state.proofs.adding.spare_for.Goals as goal

pub first_offset-offset-requires-clause-few : goal.first_offset-offset-requires-clause-few
first_offset-offset-requires-clause-few g c = few (g.B.Bank.given c.args.bank.now) c.args.members.now c.requires.placed

pub first_offset-offset-requires-clause-small : goal.first_offset-offset-requires-clause-small
first_offset-offset-requires-clause-small g c role slot held = (c.requires.placed.holders role slot held).small

pub spare_sb-requires-clause-long : goal.spare_sb-requires-clause-long
spare_sb-requires-clause-long g c =
    let fits = c.requires.fits c.first_offset-offset.result c.first_offset-offset.ensures in
    let is = c.len-sectors.ensures in
    omega (arith, fits, is)

pub returns-clause-made : goal.returns-clause-made
returns-clause-made g c =
    spare-made (g.B.Bank.given c.args.bank.now) c.args.slot c.args.members.now c.requires.placed c.requires.does c.args.uuid.now c.args.number c.first_offset-offset.result c.len-sectors.result c.args.second.now c.spare_sb.result
    c.requires.few c.requires.free c.first_offset-offset.ensures (c.requires.fits c.first_offset-offset.result c.first_offset-offset.ensures) c.len-sectors.ensures (omega (arith, c.len-sectors.type_inv)) c.told-second c.fits-second c.spare_sb.ensures.all

pub returns-clause-offset : goal.returns-clause-offset
returns-clause-offset g c role slot held none = ap (λ (sb : Sb). sb.data_offset) c.spare_sb.ensures.all ∙ c.first_offset-offset.ensures role slot held none
