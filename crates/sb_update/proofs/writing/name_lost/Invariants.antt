use Rattle.std.proofs.Common.{◌≡◌, ◌⊎◌, ◌<◌, ◌≤◌, ◌+◌, ◌^◌, ℕ, true, false, length}
use Rattle.bank.specs.Given.{NeverFalls}
use Rattle.bank.specs.Tape.{disk, EachMark}
use Rattle.sb_specs.specs.Rounds.{round_at, IsNamed, IsInNamingUpTo}
use Rattle.sb_specs.specs.raid_types_Shapes.{has_slot}
use Rattle.sb_specs.specs.Updating.{IsUpdate, AreLosses, IsLater, IsRecorded, ArePlanned, AreNamed, IsSomeLeft}
use Rattle.sb_update.proofs.Naming.{left_of}
use Rattle.sb_update.proofs.writing.name_lost.Given as goal

abbrev pub invariant-loop-members : goal.invariant-loop-members
invariant-loop-members g l = record {
  given : g.B.Bank.given l.bank ≡ g.B.Bank.given l.initial.bank;
  members : l.members ≡ record l.initial.members { newest = l.members.newest; lost = l.members.lost };
  newest : IsLater l.initial.members.newest l.members.newest;
  update : IsUpdate g.B.Bank.tells l.live l.initial.members.lost l.members.lost (IsRecorded l.initial.members.newest l.change.gives l.initial.members.own)
      (g.B.Bank.given l.initial.bank).start (g.B.Bank.tape l.initial.bank) (g.B.Bank.tape l.bank);
  losses : AreLosses l.live l.initial.members.lost l.members.lost (g.B.Bank.faults_of l.initial.bank) (g.B.Bank.faults_of l.bank);
  counts : NeverFalls (g.B.Bank.faults_of l.initial.bank) (g.B.Bank.faults_of l.bank);
  planned : l.members.lost ≡ l.named → g.B.Bank.tells → ArePlanned l.members.newest l.change.gives l.initial.members.own l.live l.members.lost (disk (g.B.Bank.given l.initial.bank).start (g.B.Bank.tape l.bank));
  named : l.members.lost ≡ l.named → AreNamed l.initial.members l.change l.before l.members.lost l.members.newest;
  small : l.named < 2 ^ 32;
  known : (s : ℕ) → has_slot l.named s ≡ true → has_slot l.members.lost s ≡ true;
  since : (s : ℕ) → has_slot l.members.lost s ≡ true → has_slot l.named s ≡ false → has_slot l.live s ≡ true;
  kept : l.initial.members.lost ≡ l.initial.named → (l.members ≡ l.initial.members) × (l.named ≡ l.initial.named);
  idle : l.initial.members.lost ≡ l.initial.named → g.B.Bank.tape l.bank ≡ g.B.Bank.tape l.initial.bank;
  rounds : g.B.Bank.tells → (over : IsNamed l.initial.members l.change l.before l.live
      (round_at l.initial.members.newest l.initial.members.lost (g.B.Bank.given l.initial.bank).start (g.B.Bank.tape l.initial.bank))
      (round_at l.members.newest l.members.lost (g.B.Bank.given l.initial.bank).start (g.B.Bank.tape l.bank)))
      × (over.0 ≡ 0 → (l.members.lost ≡ l.initial.members.lost) × (l.named ≡ l.initial.named));
  naming : EachMark g.B.Bank.tells (g.B.Bank.given l.initial.bank).start (g.B.Bank.tape l.initial.bank) (g.B.Bank.tape l.bank)
      (IsInNamingUpTo l.initial.members l.change l.before l.live l.members.lost l.members.newest.events (round_at l.initial.members.newest l.initial.members.lost (g.B.Bank.given l.initial.bank).start (g.B.Bank.tape l.initial.bank)));
  rise : g.B.Bank.tells → l.members.newest.events + length (g.B.Bank.tape l.initial.bank) ≤ l.initial.members.newest.events + length (g.B.Bank.tape l.bank) + 1;
  left_rise : g.B.Bank.tells → IsSomeLeft l.live l.members.lost → l.members.newest.events + length (g.B.Bank.tape l.initial.bank) ≤ l.initial.members.newest.events + length (g.B.Bank.tape l.bank);
  begun : (l.members.newest.events ≡ l.initial.members.newest.events) ⊎ IsSomeLeft l.live l.initial.members.lost;
}

abbrev pub decreases-loop-members : goal.decreases-loop-members
decreases-loop-members g l = left_of l.live l.named
