use Rattle.std.proofs.Common.{◌≡◌, ℕ, [], ◌∷◌, true, false, length, Contains}
use Rattle.stripe_delayed_store.specs.bank_Given.{NeverFalls}
use Rattle.stripe_delayed_store.specs.raid_types_Sectors.{Sector}
use Rattle.stripe_delayed_store.specs.sb_specs_Reading.{is_clean}
use Rattle.stripe_delayed_store.specs.stripe_row_Rows.{present}
use Rattle.stripe_delayed_store.specs.array_members_Moving.{Grows, IsMoved}
use Rattle.stripe_delayed_store.specs.array_members_Lacking.{HaveFailedSince, ListStands}
use Rattle.stripe_delayed_store.specs.history_World.{World}
use Rattle.stripe_delayed_store.specs.history_Sound.{OpensFit}
use Rattle.stripe_delayed_store.specs.crash_safety_laws_Safety.{HasRoomLeft, IsRisen}
use Rattle.stripe_delayed_store.specs.crash_views_Views.{Ledger, IsTailZero}
use Rattle.stripe_delayed_store.specs.crash_views_Windows.{IsOfRegion}
use Rattle.stripe_delayed_store.specs.crash_safety_laws_Steady.{IsSafeOver, KeepsSafe, AreGoneTold, AreWritesAllowed}
use Rattle.stripe_delayed_rows.specs.stripe_cache_Apart.{IsCache}
use Rattle.stripe_delayed_rows.specs.Overlay.{AreDelayed, AreRowsOfSides}
use Rattle.stripe_write_back.specs.WrittenOut.{IsWrittenOut, AreRowsStanding, one_side}
use Rattle.stripe_write_back.proofs.writing_out.write_out.Given as goal

abbrev pub decreases-loop-row : goal.decreases-loop-row
decreases-loop-row g l = length l.cache.held

abbrev pub invariant-loop-row : goal.invariant-loop-row
invariant-loop-row g l = record {
  moved : IsMoved (g.B.Bank.given l.fn.bank) l.fn.members l.members;
  failed : HaveFailedSince l.fn.members l.members l.spares (g.B.Bank.faults_of l.fn.bank) (g.B.Bank.faults_of l.bank);
  grows : Grows g.B.Bank.tells (g.B.Bank.tape l.fn.bank) (g.B.Bank.tape l.bank);
  cache : IsCache l.cache;
  rows : AreRowsOfSides (one_side l.fn.side l.shape) l.fn.members.newest.size l.cache;
  out : g.B.Bank.tells → IsWrittenOut (one_side l.fn.side l.shape) l.fn.members l.members (present (g.B.Bank.given l.fn.bank) (g.B.Bank.tape l.fn.bank)) (present (g.B.Bank.given l.fn.bank) (g.B.Bank.tape l.bank)) l.fn.cache l.cache;
  standing : g.B.Bank.tells → AreRowsStanding l.members (present (g.B.Bank.given l.fn.bank) (g.B.Bank.tape l.bank)) l.fn.side l.cache;
  clean : is_clean l.members.newest ≡ is_clean l.fn.members.newest;
  rise : IsRisen g.B.Bank.tells l.fn.members l.members (g.B.Bank.tape l.fn.bank) (g.B.Bank.tape l.bank);
  safe : g.B.Bank.tells → (world : World) → (told : Ledger) → HasRoomLeft l.fn.members (g.B.Bank.tape l.fn.bank) (g.B.Bank.tape l.bank)
      → AreGoneTold told l.members → told.unclean ≡ true → is_clean l.fn.members.newest ≡ false → ((row : ℕ) → IsOfRegion l.fn.members l.shape (Contains (row ∷ []))) → (stored list : ℕ → Sector)
      → AreDelayed (one_side l.fn.side l.shape) l.fn.cache stored list → ListStands l.fn.members (present (g.B.Bank.given l.fn.bank) (g.B.Bank.tape l.fn.bank)) stored → AreWritesAllowed l.fn.members told.values list
      → (OpensFit world → IsTailZero l.fn.members.newest list) → IsSafeOver world (g.B.Bank.given l.fn.bank) told l.fn.members (g.B.Bank.tape l.fn.bank)
      → KeepsSafe world (g.B.Bank.given l.fn.bank) told l.members (g.B.Bank.tape l.fn.bank) (g.B.Bank.tape l.bank);
  given : g.B.Bank.given l.bank ≡ g.B.Bank.given l.fn.bank;
  counts : NeverFalls (g.B.Bank.faults_of l.fn.bank) (g.B.Bank.faults_of l.bank);
}
