use Rattle.std.proofs.Common.{◌≡◌, ◌<◌, ℕ}
use Rattle.reshape_begin_end.specs.raid_parity_Rows.{sector_of}
use Rattle.reshape_begin_end.specs.stripe_list_Buffers.{buffered}
use Rattle.reshape_window_rows.proofs.runs.gather.Given as goal

abbrev pub invariant-loop-i : goal.invariant-loop-i
invariant-loop-i l = record { gathered : (i : ℕ) → i < l.i → sector_of l.into i ≡ buffered l.rows i l.role }
