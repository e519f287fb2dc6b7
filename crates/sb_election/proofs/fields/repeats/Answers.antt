use Rattle.std.proofs.Common.{rules, nat_eq, sym, ◌∙◌, ap, arith}
use Rattle.sb_specs.specs.Reading.{entry_of}
use Rattle.sb_specs.proofs.Searches.{any_below-some, any_below-none}
use Rattle.sb_election.proofs.fields.repeats.Goals as goal

pub returns-then-entry_of-entry : goal.returns-then-entry_of-entry
returns-then-entry_of-entry c =
    sym (any_below-some c.args.index (λ before. nat_eq (entry_of c.args.newest.now before) c.args.entry) c.loop-before.before c.loop-before-test.true
    (ap (λ entry. nat_eq entry c.args.entry) (sym c.entry_of.ensures) ∙ search rules))

pub returns : goal.returns
returns c = sym (any_below-none c.args.index (λ before. nat_eq (entry_of c.args.newest.now before) c.args.entry)
    (λ k h. c.loop-before.invariant k (omega (arith, h))))
