use Rattle.std.proofs.Common.{true, false, ◌∙◌, sym}
use Rattle.array_fixed_io.specs.history_the_StepKind_TheVariants.{ResyncStripe, ResyncEnded}
use Rattle.array_fixed_io.specs.sb_specs_Reading.{list_length}
use Rattle.array_fixed_io.specs.array_specs_Parts.{still_left}
use Rattle.array_fixed_sync.specs.Resyncing.{is_at_end}
use Rattle.array_fixed_sync.proofs.ResyncLaws.{kept-settled, at_end-is, caused-as, ok-so}
use Rattle.array_fixed_sync.proofs.resyncing.resync_step.Goals as goal

pub returns-then-eq-clause-list : goal.returns-then-eq-clause-list
returns-then-eq-clause-list g c =
    kept-settled c.args.who c.args.still.now.parts.entries c.end_resync.new.still.parts.entries ResyncEnded (still_left c.end_resync.new.still.parts.work c.end_resync.new.still.parts.members c.end_resync.new.still.ahead) c.end_resync.result c.end_resync.ensures.entered

pub returns-then-eq-clause-caused : goal.returns-then-eq-clause-caused
returns-then-eq-clause-caused g c =
    caused-as (list_length c.args.still.now.parts.members.newest) (is_at_end c.args.still.now.parts.work.resync c.args.still.now.parts.members) true c.args.still.now.parts.members c.end_resync.new.still.parts.members c.end_resync.result
    (at_end-is c.resync.result c.args.still.now.parts.work.resync c.stripes.result c.args.still.now.parts.members true c.resync.ensures.resync c.stripes.ensures (sym c.eq.ensures ∙ c.if-eq.true))
    c.end_resync.ensures.caused

pub returns-else-eq-clause-list : goal.returns-else-eq-clause-list
returns-else-eq-clause-list g c =
    kept-settled c.args.who c.args.still.now.parts.entries c.resync_stripe.new.still.parts.entries ResyncStripe (still_left c.resync_stripe.new.still.parts.work c.resync_stripe.new.still.parts.members c.resync_stripe.new.still.ahead) c.resync_stripe.result c.resync_stripe.ensures.entered

pub returns-else-eq-clause-caused : goal.returns-else-eq-clause-caused
returns-else-eq-clause-caused g c =
    caused-as (list_length c.args.still.now.parts.members.newest) (is_at_end c.args.still.now.parts.work.resync c.args.still.now.parts.members) false c.args.still.now.parts.members c.resync_stripe.new.still.parts.members c.resync_stripe.result
    (at_end-is c.resync.result c.args.still.now.parts.work.resync c.stripes.result c.args.still.now.parts.members false c.resync.ensures.resync c.stripes.ensures (sym c.eq.ensures ∙ c.if-eq.false))
    c.resync_stripe.ensures.caused

pub returns-then-eq-clause-good : goal.returns-then-eq-clause-good
returns-then-eq-clause-good g c = ok-so c.end_resync.result (λ good end. good) c.end_resync.ensures.good

pub returns-then-eq-clause-still : goal.returns-then-eq-clause-still
returns-then-eq-clause-still g c = c.end_resync.ensures.still

pub returns-else-eq-clause-still : goal.returns-else-eq-clause-still
returns-else-eq-clause-still g c = c.resync_stripe.ensures.still
