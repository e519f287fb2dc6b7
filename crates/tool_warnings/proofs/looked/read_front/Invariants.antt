use Rattle.std.proofs.Common.{◌≡◌, ◌≤◌, ◌-◌, length}
use Rattle.tool_warnings.proofs.looked.read_front.Given as goal

-- as many bytes as there is room for, at most
abbrev pub invariant-loop-count : goal.invariant-loop-count
invariant-loop-count l = record {
  within : l.count ≤ length l.front;
  long : length l.front ≡ length l.fn.front;
}

-- as many bytes as there is still room for
abbrev pub decreases-loop-count : goal.decreases-loop-count
decreases-loop-count l = length l.front - l.count
