use Rattle.std.proofs.Common.{◌≡◌, ◌<◌, ℕ, false, nat_eq}
use Rattle.sb_specs.specs.Reading.{entry_of}
use Rattle.sb_election.proofs.fields.repeats.Given as goal

-- none of the entries before this one
abbrev pub invariant-loop-before : goal.invariant-loop-before
invariant-loop-before l = (k : ℕ) → k < l.before → nat_eq (entry_of l.newest k) l.entry ≡ false
