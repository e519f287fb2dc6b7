use Rattle.std.proofs.Common.{◌≡◌, ◌++◌, take, drop, map}
use Rattle.sb_specs.specs.Update.{with_entries, entry_for, faulty_role}
use Rattle.sb_specs.proofs.roles.entered.Given as goal

abbrev pub invariant-loop-slot : goal.invariant-loop-slot
invariant-loop-slot l =
    l.entries ≡ with_entries (entry_for l.members l.change l.before l.members.lost) l.members.own l.slot
    (map faulty_role (take 128 l.members.newest.dev_roles) ++ drop 128 l.members.newest.dev_roles)
