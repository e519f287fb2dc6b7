use Rattle.std.proofs.Common.{◌≡◌, rules, arith}
use Rattle.tool_warnings.specs.Fronts.{superblock_sectors}
use Rattle.tool_warnings.proofs.FrontLaws.{decoded}
use Rattle.tool_warnings.proofs.fronts.superblock_in.Goals as goal

pub returns : goal.returns
returns c =
    let same : c.copy_from_slice.new.self ≡ superblock_sectors c.args.front.now = search rules in
    decoded c.args.front.now c.copy_from_slice.new.self c.decode.result (omega arith) same c.decode.ensures.valid c.decode.ensures.fields
