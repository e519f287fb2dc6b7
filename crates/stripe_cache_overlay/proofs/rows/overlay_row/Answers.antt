use Rattle.std.proofs.Common.{◌≡◌, ◌*◌, length, ◌∙◌, arith}
use Rattle.stripe_delayed_rows.specs.stripe_cache_Rows.{held_row}
use Rattle.stripe_cache_overlay.proofs.OverlaidLaws.{same-used, look-fits, laid-row}
use Rattle.stripe_cache_overlay.proofs.rows.overlay_row.Goals as goal

pub look-found-requires : goal.look-found-requires
look-found-requires c = look-fits (held_row c.args.side c.args.row c.args.cache.now) c.args.shape.now.disks (length c.args.into.now) (c.requires.rows c.args.row) c.requires.size

pub returns-clause-over : goal.returns-clause-over
returns-clause-over c = λ role lt. laid-row (held_row c.args.side c.args.row c.args.cache.now) role c.args.into.now c.look-found.new.into c.look-found.ensures.body
    (let size : length c.look-found.new.into ≡ 512 * c.args.shape.now.disks = c.look-found.auto.into ∙ c.requires.size in omega (arith, size, lt))

pub returns-clause-same : goal.returns-clause-same
returns-clause-same c = same-used c.args.side c.args.row c.args.cache.now c.look-found.new.self c.requires.cache c.look-found.ensures.rows
