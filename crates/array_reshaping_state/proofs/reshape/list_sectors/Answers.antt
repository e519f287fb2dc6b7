use Rattle.std.proofs.Common.{◌∙◌}
use Rattle.array_reshaping_state.proofs.ReshapeLaws.{forced-by, end-by}
use Rattle.array_reshaping_state.proofs.reshape.list_sectors.Goals as goal

pub list_end-requires : goal.list_end-requires
list_end-requires c = forced-by c.args.members.now.newest c.requires.fit c.shape_in.result c.final_in.result c.shape_in.ensures c.final_in.ensures

pub returns-clause-length : goal.returns-clause-length
returns-clause-length c = c.list_end.ensures.value ∙ end-by c.args.members.now.newest c.shape_in.result c.final_in.result c.shape_in.ensures c.final_in.ensures
