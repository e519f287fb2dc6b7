use Rattle.std.proofs.Common.{◌∙◌, arith}
use Rattle.stripe_list.proofs.stripe_row_RowBytes.{sector-put_here, sector-put_other}
use Rattle.stripe_cache_overlay.proofs.sectors.copy_sector.Goals as goal

pub returns-clause-others : goal.returns-clause-others
returns-clause-others c = λ i ne. sector-put_other c.args.into.now c.copy_from_slice.new.self c.args.index i c.requires.index (omega (arith, c.copy_from_slice.auto.self, c.requires.index)) ne

pub returns-clause-here : goal.returns-clause-here
returns-clause-here c = sector-put_here c.args.into.now c.copy_from_slice.new.self c.args.index c.requires.index (omega (arith, c.copy_from_slice.auto.self, c.requires.index)) ∙ c.copy_from_slice.ensures.after
