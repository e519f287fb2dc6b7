use Rattle.std.proofs.Common.{◌≡◌, ◌⊎◌, ◌+◌, ◌-◌, ◌<◌, ◌≤◌, ℕ, Option}
use Rattle.stripe_io.specs.bank_Given.{NeverFalls}
use Rattle.stripe_io.specs.raid_types_Sectors.{Sector}
use Rattle.stripe_io.specs.raid_types_the_Span.{Span}
use Rattle.stripe_io.specs.raid_parity_Rows.{sector_of}
use Rattle.stripe_io.specs.stripe_row_Rows.{present, members_without}
use Rattle.stripe_io.specs.crash_views_Windows.{IsShown}
use Rattle.stripe_io.specs.array_members_Placed.{AreWhole}
use Rattle.stripe_io.specs.array_members_Moving.{IsMoved}
use Rattle.stripe_io.specs.array_members_Lacking.{HaveFailedSince}
use Rattle.stripe_region_read.specs.Stretches.{IsShapeOf, ListStandsIn, RowsStandIn}
use Rattle.stripe_region_read.proofs.fetching.read_stretches.Given as goal

abbrev pub decreases-loop-at : goal.decreases-loop-at
decreases-loop-at g l = l.to - l.at

abbrev pub invariant-loop-at : goal.invariant-loop-at
invariant-loop-at g l = record {
  moved : IsMoved (g.B.Bank.given l.fn.bank) l.fn.members l.members;
  lost : (lost : ℕ) × (l.members ≡ members_without lost l.fn.members);
  failed : HaveFailedSince l.fn.members l.members 0 (g.B.Bank.faults_of l.fn.bank) (g.B.Bank.faults_of l.bank);
  kept : AreWhole l.members → l.members ≡ l.fn.members;
  from : l.first ≤ l.at;
  within : l.at ≤ l.to;
  holds : g.B.Bank.tells → (hidden : Option Span) → (list : ℕ → Sector) → ListStandsIn (IsShapeOf l.fn.members.newest l.first l.to) hidden l.fn.members (present (g.B.Bank.given l.fn.bank) (g.B.Bank.tape l.fn.bank)) list
      → AreWhole l.members ⊎ RowsStandIn (IsShapeOf l.fn.members.newest l.first l.to) hidden l.relied l.fn.members (present (g.B.Bank.given l.fn.bank) (g.B.Bank.tape l.fn.bank)) list
      → (i : ℕ) → l.first + i < l.at → IsShown hidden l.fn.members.newest (l.first + i) → sector_of l.into i ≡ list (l.first + i);
  tape : g.B.Bank.tells → g.B.Bank.tape l.bank ≡ g.B.Bank.tape l.fn.bank;
  given : g.B.Bank.given l.bank ≡ g.B.Bank.given l.fn.bank;
  counts : NeverFalls (g.B.Bank.faults_of l.fn.bank) (g.B.Bank.faults_of l.bank);
}
