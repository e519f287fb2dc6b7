-- The slots that are left decide, and nothing is appended before.
use Rattle.std.proofs.Common.{◌≡◌, drop}
use Rattle.tool_warnings.specs.Held.{holder_words}
use Rattle.tool_warnings.proofs.held.push_loser.Given as goal

abbrev pub invariant-loop-looked : goal.invariant-loop-looked
invariant-loop-looked l = record {
  rest : holder_words l.newest l.role l.slots ≡ holder_words l.newest l.role (drop l.looked-index l.slots);
  same : l.into.items ≡ l.initial.into.items;
}
