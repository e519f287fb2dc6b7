use Rattle.reshape_window_steps.proofs.StripeRows.{rows-of-stripes}
use Rattle.reshape_window_steps.proofs.laws.a_windows_rows_are_of_its_stripes.Goals as goal

pub returns : goal.returns
returns c = rows-of-stripes
