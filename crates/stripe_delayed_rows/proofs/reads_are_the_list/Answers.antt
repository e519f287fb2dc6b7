use Rattle.stripe_delayed_rows.proofs.OverlayLaws.{reads}
use Rattle.stripe_delayed_rows.proofs.reads_are_the_list.Goals as goal

pub returns : goal.returns
returns c = reads
