use Rattle.std.proofs.Common.{arith}
use Rattle.std.proofs.Math.Nat.{mul-pos}
use Rattle.reshape_geometry.proofs.Valid.{bounded}
use Rattle.reshape_geometry.proofs.shapes.stripe_sectors.Goals as goal

pub returns-clause-positive : goal.returns-clause-positive
returns-clause-positive c =
    let b = bounded c.args.shape.now c.requires in
    mul-pos (omega (arith, b.some_chunk, c.from.ensures)) (omega (arith, b.some_data, c.data_disks.ensures))
