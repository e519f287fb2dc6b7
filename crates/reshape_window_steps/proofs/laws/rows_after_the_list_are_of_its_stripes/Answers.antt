use Rattle.reshape_window_steps.proofs.StripeRows.{past-rows-of-stripes}
use Rattle.reshape_window_steps.proofs.laws.rows_after_the_list_are_of_its_stripes.Goals as goal

pub returns : goal.returns
returns c = past-rows-of-stripes
