use Rattle.std.proofs.Common.{◌≡◌, ◌-◌, ◌<◌, ◌≤◌, ℕ}
use Rattle.reshape_window_rows.specs.raid_types_Sectors.{Sector}
use Rattle.reshape_window_rows.specs.sb_specs_Reading.{is_clean}
use Rattle.reshape_window_rows.specs.stripe_row_Rows.{present, reading_of}
use Rattle.reshape_window_rows.specs.stripe_list_Full.{RowStands}
use Rattle.reshape_window_rows.specs.history_World.{World}
use Rattle.reshape_window_rows.specs.crash_views_Views.{Ledger}
use Rattle.reshape_window_rows.specs.crash_safety_laws_Safety.{HasLiveSlot, HasRoomLeft}
use Rattle.reshape_window_rows.specs.sb_safe_updates_Named.{AreNamedMissing}
use Rattle.reshape_window_rows.specs.crash_safety_laws_Steady.{IsSafeOver, KeepsSafe, AreGoneTold, IsUncleanTold}
use Rattle.reshape_window_rows.specs.array_members_Lacking.{AreOtherRowsKept}
use Rattle.reshape_window_rows.specs.Copies.{tail_of, IsZeroIn}
use Rattle.reshape_window_steps.specs.Copying.{IsOfStripeFrom, AreHeadersKept}
use Rattle.reshape_window_rows.specs.bank_Tape.{disk}
use Rattle.reshape_window_rows.specs.sb_safe_updates_Frame.{Keeps}
use Rattle.reshape_window_steps.proofs.zeroing.zero.Given as goal

abbrev pub decreases-loop-done : goal.decreases-loop-done
decreases-loop-done g l = l.chunk - l.done

abbrev pub invariant-loop-done : goal.invariant-loop-done
invariant-loop-done g l = record {
  keeps : Keeps g.B.Bank.tells g.B.Bank.given g.B.Bank.tape g.B.Bank.faults_of l.fn.bank l.bank l.fn.members l.members l.spares;
  clean : is_clean l.members.newest ≡ is_clean l.fn.members.newest;
  within : l.done ≤ l.chunk;
  named : 0 < l.done → HasLiveSlot l.members → AreNamedMissing l.members;
  stands : g.B.Bank.tells → (list : ℕ → Sector) → IsZeroIn (tail_of l.fn.members.newest) list → (row : ℕ) → IsOfStripeFrom l.shape l.stripe 0 l.done row
      → RowStands (reading_of l.members) (present (g.B.Bank.given l.fn.bank) (g.B.Bank.tape l.bank)) l.shape list row;
  others : g.B.Bank.tells → AreOtherRowsKept (IsOfStripeFrom l.shape l.stripe 0 l.shape.chunk) (reading_of l.members) (present (g.B.Bank.given l.fn.bank) (g.B.Bank.tape l.fn.bank)) (present (g.B.Bank.given l.fn.bank) (g.B.Bank.tape l.bank));
  headers : g.B.Bank.tells → AreHeadersKept (disk (g.B.Bank.given l.fn.bank).start (g.B.Bank.tape l.fn.bank)) (disk (g.B.Bank.given l.fn.bank).start (g.B.Bank.tape l.bank));
  safe : g.B.Bank.tells → (world : World) → (told : Ledger) → HasRoomLeft l.fn.members (g.B.Bank.tape l.fn.bank) (g.B.Bank.tape l.bank)
      → AreGoneTold told l.members → IsUncleanTold told l.fn.members
      → IsSafeOver world (g.B.Bank.given l.fn.bank) told l.fn.members (g.B.Bank.tape l.fn.bank)
      → KeepsSafe world (g.B.Bank.given l.fn.bank) told l.members (g.B.Bank.tape l.fn.bank) (g.B.Bank.tape l.bank);
}
