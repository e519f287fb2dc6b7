use Rattle.std.proofs.Common.{◌≡◌, ◌-◌, ◌≤◌, ℕ, length, vec_capacity}
use Rattle.sb_safe_updates.specs.raid_types_Sectors.{Sector}
use Rattle.sb_safe_updates.specs.raid_types_the_Role_TheVariants.{Recovering}
use Rattle.sb_safe_updates.specs.sb_specs_Reading.{is_clean, role_state, rows_held}
use Rattle.sb_safe_updates.specs.stripe_row_Rows.{reading_of, present}
use Rattle.sb_safe_updates.specs.stripe_list_Writing.{HasFull}
use Rattle.sb_safe_updates.specs.crash_safety_laws_Safety.{HasRoomLeft}
use Rattle.sb_safe_updates.specs.array_members_Lacking.{DataStandsAmong, RowsStandAmong, IsOfStripe}
use Rattle.sb_safe_updates.specs.history_World.{World}
use Rattle.sb_safe_updates.specs.array_members_Rebuilding.{IsFilledAmong}
use Rattle.sb_safe_updates.specs.crash_views_Views.{Ledger}
use Rattle.sb_safe_updates.specs.crash_safety_laws_Steady.{IsSafeOver, KeepsSafe, AreGoneTold, IsUncleanTold}
use Rattle.sb_safe_updates.proofs.array_members_SyncedParts.{IsInParts}
use Rattle.sb_safe_updates.specs.Frame.{KeepsMembers}
use Rattle.stripe_io.proofs.filling.fill.Given as goal

abbrev pub decreases-loop-done : goal.decreases-loop-done
decreases-loop-done g l = l.chunk - l.done

abbrev pub invariant-loop-done : goal.invariant-loop-done
invariant-loop-done g l = record {
  keeps : KeepsMembers g.B.Bank.tells g.B.Bank.given g.B.Bank.tape g.B.Bank.faults_of l.fn.bank l.bank l.fn.members l.members l.spares;
  clean : is_clean l.members.newest ≡ is_clean l.fn.members.newest;
  within : l.done ≤ l.chunk;
  full : g.B.Bank.tells → (list : ℕ → Sector) → DataStandsAmong l.shape (IsOfStripe l.shape l.stripe) l.fn.members (present (g.B.Bank.given l.fn.bank) (g.B.Bank.tape l.fn.bank)) list
      → RowsStandAmong l.shape (IsOfStripe l.shape l.stripe) l.fn.members (present (g.B.Bank.given l.fn.bank) (g.B.Bank.tape l.fn.bank)) list
      → role_state (reading_of l.members) l.role ≡ Recovering l.slot → (row : ℕ) → IsInParts l.shape l.stripe l.done row → rows_held (reading_of l.fn.members) (Recovering l.slot) ≤ row
      → HasFull (reading_of l.members) (present (g.B.Bank.given l.fn.bank) (g.B.Bank.tape l.bank)) l.shape list row l.role l.slot;
  others : g.B.Bank.tells → IsFilledAmong l.fn.members l.role l.slot (IsInParts l.shape l.stripe l.done)
      (present (g.B.Bank.given l.fn.bank) (g.B.Bank.tape l.fn.bank)) (present (g.B.Bank.given l.fn.bank) (g.B.Bank.tape l.bank));
  safe : g.B.Bank.tells → (world : World) → (told : Ledger) → HasRoomLeft l.fn.members (g.B.Bank.tape l.fn.bank) (g.B.Bank.tape l.bank)
      → AreGoneTold told l.members → IsUncleanTold told l.fn.members → IsSafeOver world (g.B.Bank.given l.fn.bank) told l.fn.members (g.B.Bank.tape l.fn.bank)
      → KeepsSafe world (g.B.Bank.given l.fn.bank) told l.members (g.B.Bank.tape l.fn.bank) (g.B.Bank.tape l.bank);
  rows : vec_capacity l.fn.rows ≤ vec_capacity l.rows;
  buffer : length l.buffer.items ≡ length l.fn.buffer.items;
}
