use Rattle.std.proofs.Common.{◌≡◌, ◌+◌, ◌≤◌, length, ◌++◌, drop, vec_capacity}
use Rattle.script_status.specs.Texts.{marks}
use Rattle.script_status.proofs.mdstat.push_marks.Given as goal

-- what is written so far, with the marks of the roles that are left, is the whole
abbrev pub invariant-loop-role : goal.invariant-loop-role
invariant-loop-role l = record {
  whole : l.text.items ++ marks (drop l.role-index l.roles) ≡ l.fn.text.items ++ marks l.roles;
  few : length l.text.items ≤ length l.fn.text.items + l.role-index;
  room : vec_capacity l.fn.text ≤ vec_capacity l.text;
}
