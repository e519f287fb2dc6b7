use Rattle.std.proofs.Common.{◌||◌, sym, ◌∙◌, arith}
use Rattle.sb_specs.proofs.raid_types_Least.{least_below-none}
use Rattle.sb_specs.specs.Verdict.{is_bad_entry, is_late_entry}
use Rattle.sb_specs.proofs.Searches.{least_below-first}
use Rattle.sb_election.proofs.fields.bad_entry.Goals as goal

pub returns-then-is_out : goal.returns-then-is_out
returns-then-is_out c =
    sym (least_below-first 384 (λ index. is_late_entry c.args.fresh.now index || is_bad_entry c.args.newest.now index) c.loop-index.index c.loop-index-test.true
    (sym c.is_out.ensures ∙ c.if-is_out.true) c.loop-index.invariant)

pub returns : goal.returns
returns c = sym (least_below-none 384 (λ index. is_late_entry c.args.fresh.now index || is_bad_entry c.args.newest.now index) (λ k h. c.loop-index.invariant k (omega (arith, h))))
