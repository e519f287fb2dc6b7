use Rattle.std.proofs.Common.{◌≡◌, ◌<◌, ◌||◌, ℕ, false}
use Rattle.sb_specs.specs.Verdict.{is_bad_entry, is_late_entry}
use Rattle.sb_election.proofs.fields.bad_entry.Given as goal

-- none of the entries before this one
abbrev pub invariant-loop-index : goal.invariant-loop-index
invariant-loop-index l = (k : ℕ) → k < l.index → (is_late_entry l.fresh k || is_bad_entry l.newest k) ≡ false
