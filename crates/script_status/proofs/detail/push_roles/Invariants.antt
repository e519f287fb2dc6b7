use Rattle.std.proofs.Common.{◌≡◌, ◌+◌, ◌*◌, ◌≤◌, length, ◌++◌, drop, vec_capacity}
use Rattle.script_status.specs.Texts.{role_lines}
use Rattle.script_status.proofs.detail.push_roles.Given as goal

-- what is written so far, with the lines of the roles that are left, is the whole
abbrev pub invariant-loop-role : goal.invariant-loop-role
invariant-loop-role l = record {
  whole : l.text.items ++ role_lines l.role (drop l.role l.roles) ≡ l.fn.text.items ++ role_lines 0 l.roles;
  few : length l.text.items ≤ length l.fn.text.items + 70 * l.role;
  room : vec_capacity l.fn.text ≤ vec_capacity l.text;
}
