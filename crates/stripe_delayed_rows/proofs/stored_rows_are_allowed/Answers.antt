use Rattle.stripe_delayed_rows.proofs.OverlayLaws.{storing, more-allowed, flushed}
use Rattle.stripe_delayed_rows.proofs.stored_rows_are_allowed.Goals as goal

pub returns-clause-rows : goal.returns-clause-rows
returns-clause-rows c = storing

pub returns-clause-more : goal.returns-clause-more
returns-clause-more c = more-allowed

pub returns-clause-flushed : goal.returns-clause-flushed
returns-clause-flushed c = flushed
