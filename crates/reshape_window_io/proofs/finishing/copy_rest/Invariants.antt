use Rattle.std.proofs.Common.{◌≡◌, ◌+◌, ◌-◌, ◌≤◌, ℕ}
use Rattle.stripe_region_read.specs.bank_Tape.{disk}
use Rattle.stripe_region_read.specs.raid_types_Sectors.{Sector}
use Rattle.stripe_region_read.specs.reshape_geometry_Geometry.{stripes}
use Rattle.stripe_region_read.specs.sb_specs_Reading.{is_clean}
use Rattle.reshape_window_steps.specs.stripe_row_Rows.{present, reading_of}
use Rattle.reshape_window_steps.specs.history_World.{World}
use Rattle.reshape_window_steps.specs.crash_views_Views.{Ledger}
use Rattle.reshape_window_steps.specs.crash_views_Windows.{IsCopyable}
use Rattle.reshape_window_steps.specs.crash_safety_laws_Safety.{HasRoomLeft}
use Rattle.reshape_window_steps.specs.crash_safety_laws_Steady.{IsSafeOver, KeepsSafe, AreGoneTold, IsUncleanTold}
use Rattle.reshape_window_steps.specs.array_members_Lacking.{AreOtherRowsKept}
use Rattle.reshape_window_steps.specs.reshape_window_rows_Copies.{tail_of, IsCopied}
use Rattle.reshape_window_steps.specs.Copying.{AreHeadersKept}
use Rattle.reshape_window_io.specs.Finishing.{IsOfRest, AreStripesCopied}
use Rattle.reshape_window_steps.specs.sb_safe_updates_Frame.{Keeps}
use Rattle.reshape_window_io.proofs.finishing.copy_rest.Given as goal

abbrev pub decreases-loop-at : goal.decreases-loop-at
decreases-loop-at g l = l.end - l.at

abbrev pub invariant-loop-at : goal.invariant-loop-at
invariant-loop-at g l = record {
  keeps : Keeps g.B.Bank.tells g.B.Bank.given g.B.Bank.tape g.B.Bank.faults_of l.fn.bank l.bank l.fn.members l.members l.spares;
  clean : is_clean l.members.newest ≡ is_clean l.fn.members.newest;
  reached : l.first + l.from ≤ l.at;
  within : l.at ≤ l.first + stripes l.shape l.span.lo l.span.hi;
  stands : g.B.Bank.tells → (list : ℕ → Sector) → IsCopied l.span l.buffer (tail_of l.fn.members.newest) list
      → AreStripesCopied l.shape l.span l.from l.fn.members (present (g.B.Bank.given l.fn.bank) (g.B.Bank.tape l.fn.bank)) list
      → AreStripesCopied l.shape l.span (l.at - l.first) l.members (present (g.B.Bank.given l.fn.bank) (g.B.Bank.tape l.bank)) list;
  others : g.B.Bank.tells → AreOtherRowsKept (IsOfRest l.shape l.span l.from) (reading_of l.members) (present (g.B.Bank.given l.fn.bank) (g.B.Bank.tape l.fn.bank)) (present (g.B.Bank.given l.fn.bank) (g.B.Bank.tape l.bank));
  safe : g.B.Bank.tells → (world : World) → (told : Ledger) → HasRoomLeft l.fn.members (g.B.Bank.tape l.fn.bank) (g.B.Bank.tape l.bank)
      → AreGoneTold told l.members → IsUncleanTold told l.fn.members → IsCopyable world.scope l.fn.members l.span (disk (g.B.Bank.given l.fn.bank).start (g.B.Bank.tape l.fn.bank))
      → IsSafeOver world (g.B.Bank.given l.fn.bank) told l.fn.members (g.B.Bank.tape l.fn.bank)
      → KeepsSafe world (g.B.Bank.given l.fn.bank) told l.members (g.B.Bank.tape l.fn.bank) (g.B.Bank.tape l.bank);
  copyable : g.B.Bank.tells → (world : World) → IsCopyable world.scope l.fn.members l.span (disk (g.B.Bank.given l.fn.bank).start (g.B.Bank.tape l.fn.bank))
      → IsCopyable world.scope l.members l.span (disk (g.B.Bank.given l.fn.bank).start (g.B.Bank.tape l.bank));
  headers : g.B.Bank.tells → AreHeadersKept (disk (g.B.Bank.given l.fn.bank).start (g.B.Bank.tape l.fn.bank)) (disk (g.B.Bank.given l.fn.bank).start (g.B.Bank.tape l.bank));
}
