use Rattle.std.proofs.Common.{◌≡◌, ◌-◌, ◌≤◌, ℕ, true, false, length, Contains}
use Rattle.sb_safe_updates.specs.raid_types_Sectors.{Sector}
use Rattle.sb_safe_updates.specs.sb_specs_Reading.{is_clean}
use Rattle.sb_safe_updates.specs.stripe_row_Rows.{present}
use Rattle.sb_safe_updates.specs.stripe_list_Writing.{IsWritten, AreDataFrom}
use Rattle.sb_safe_updates.specs.array_members_Placed.{AreWhole}
use Rattle.sb_safe_updates.specs.array_members_Lacking.{AreRowsWritten}
use Rattle.sb_safe_updates.specs.history_World.{World}
use Rattle.sb_safe_updates.specs.history_Sound.{OpensFit}
use Rattle.sb_safe_updates.specs.crash_safety_laws_Safety.{HasRoomLeft}
use Rattle.sb_safe_updates.specs.crash_views_Views.{Ledger, IsTailZero}
use Rattle.sb_safe_updates.specs.crash_views_Windows.{IsOfRegion}
use Rattle.sb_safe_updates.specs.crash_safety_laws_Steady.{IsSafeOver, KeepsSafe, AreGoneTold, AreWritesAllowed}
use Rattle.sb_safe_updates.specs.Frame.{Keeps}
use Rattle.stripe_io.proofs.putting.write_list_rows.Given as goal

abbrev pub decreases-loop-next : goal.decreases-loop-next
decreases-loop-next g l = length l.rows - l.next

abbrev pub invariant-loop-next : goal.invariant-loop-next
invariant-loop-next g l = record {
  keeps : Keeps g.B.Bank.tells g.B.Bank.given g.B.Bank.tape g.B.Bank.faults_of l.fn.bank l.bank l.fn.members l.members l.spares;
  written : g.B.Bank.tells → AreRowsWritten l.shape l.first l.from l.rows 0 l.next l.members
      (present (g.B.Bank.given l.fn.bank) (g.B.Bank.tape l.fn.bank)) (present (g.B.Bank.given l.fn.bank) (g.B.Bank.tape l.bank)) l.fn.buffer.items l.buffer.items;
  within : l.next ≤ length l.rows;
  clean : is_clean l.members.newest ≡ is_clean l.fn.members.newest;
  kept : AreWhole l.members → l.members ≡ l.fn.members;
  safe : g.B.Bank.tells → (world : World) → (told : Ledger) → HasRoomLeft l.fn.members (g.B.Bank.tape l.fn.bank) (g.B.Bank.tape l.bank)
      → AreGoneTold told l.members → told.unclean ≡ true → is_clean l.fn.members.newest ≡ false → IsOfRegion l.fn.members l.shape (Contains l.rows) → (list list' : ℕ → Sector) → IsWritten list list' l.first l.from
      → (g.B.Bank.tells → AreDataFrom 0 l.shape list l.rows l.fn.buffer.items) → AreWritesAllowed l.fn.members told.values list'
      → (OpensFit world → IsTailZero l.fn.members.newest list') → IsSafeOver world (g.B.Bank.given l.fn.bank) told l.fn.members (g.B.Bank.tape l.fn.bank)
      → KeepsSafe world (g.B.Bank.given l.fn.bank) told l.members (g.B.Bank.tape l.fn.bank) (g.B.Bank.tape l.bank);
  size : length l.buffer.items ≡ length l.fn.buffer.items;
}
