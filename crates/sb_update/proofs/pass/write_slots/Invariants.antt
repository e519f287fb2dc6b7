use Rattle.std.proofs.Common.{◌≡◌}
use Rattle.sb_specs.specs.Update.{is_due}
use Rattle.sb_specs.specs.Writing.{plan_of}
use Rattle.sb_update.proofs.Passes.{Passed}
use Rattle.sb_update.proofs.pass.write_slots.Given as goal

abbrev pub invariant-loop-slot : goal.invariant-loop-slot
invariant-loop-slot g l = record {
  given : g.B.Bank.given l.bank ≡ g.B.Bank.given l.initial.bank;
  members : l.members ≡ record l.initial.members { lost = l.members.lost };
  passed : Passed g.B.Bank.tells (plan_of l.initial.members.newest l.gives l.initial.members.own)
      (is_due l.part l.initial.members.newest l.gives l.initial.members.own l.live l.initial.members.lost)
      (g.B.Bank.given l.initial.bank).start (g.B.Bank.tape l.initial.bank) (g.B.Bank.tape l.bank)
      l.initial.members.lost l.members.lost (g.B.Bank.faults_of l.initial.bank) (g.B.Bank.faults_of l.bank) l.slot;
}
