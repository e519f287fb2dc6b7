use Rattle.std.proofs.Common.{◌≡◌, ◌++◌, ◌-◌, ◌≤◌, length, replicate}
use Rattle.std.specs.Prelude.{vec_capacity}
use Rattle.bank.proofs.slot_sectors.fill_up.Given as goal

abbrev pub invariant-loop-i : goal.invariant-loop-i
invariant-loop-i l = record {
  from : length l.initial.filled.items ≤ l._i;
  upto : l._i - length l.initial.filled.items ≤ l.count - length l.initial.filled.items;
  items : l.filled.items ≡ l.initial.filled.items ++ replicate (l._i - length l.initial.filled.items) (replicate 512 0);
  capacity : vec_capacity l.initial.filled ≤ vec_capacity l.filled;
}
