-- What is right of more values is right of fewer.
use Rattle.bank.proofs.Images.{image-drawn, drawn-fewer}
use Rattle.history.specs.World.{may_hold}
use Rattle.history.specs.Growing.{MoreValuesSuffice}

pub more-values-suffice : MoreValuesSuffice
more-values-suffice world entries mark d within fewer safe c image =
    safe c (drawn-fewer (may_hold world mark) d c fewer (image-drawn world.start world.tape mark c within image))
