use Rattle.std.proofs.Common.{◌≡◌, ◌+◌, ◌-◌, ℕ, inl, inr, sym, subst, arith}
use Rattle.std.specs.Prelude.{slice_index}
use Rattle.std.proofs.lemmas.Bool.{cases_eq}
use Rattle.std.proofs.lemmas.List.Elements.{All-contains_itself}
use Rattle.raid_layout.proofs.Limits.{limited}
use Rattle.raid_layout.proofs.Places.{chunk_some}
use Rattle.stripe_row.specs.Rows.{reading_of, is_held}
use Rattle.stripe_runs.proofs.AlikeLaws.{stripe_same, stripe_most, run_listed, run_within, run_stripe, run_held}
use Rattle.stripe_runs.proofs.runs.run_at.Goals as goal

pub rows_listed-count-requires-clause-short : goal.rows_listed-count-requires-clause-short
rows_listed-count-requires-clause-short c =
    let low = c.requires.below (slice_index c.args.rows.now c.args.at) (All-contains_itself c.args.rows.now c.args.at 0 c.requires.at) in
    let chunk = (limited c.args.shape.now c.requires.shape).chunk in
    omega (arith, low, chunk.1, c.requires.short)

pub loop-role-init : goal.loop-role-init
loop-role-init c = record {
  some = c.rows_listed-count.ensures.some;
  most = omega arith;
  held = λ role j none lt. absurd (omega (arith, none));
  longest = λ run at is. c.rows_listed-count.ensures.longest run.count
      (stripe_most (slice_index c.args.rows.now c.args.at) run.count c.args.shape.now.chunk (chunk_some c.args.shape.now c.requires.shape)
      (run_stripe (reading_of c.args.members.now) c.args.shape.now c.args.rows.now c.args.at run at is))
      (run_within (reading_of c.args.members.now) c.args.shape.now c.args.rows.now c.args.at run at is)
      (run_listed (reading_of c.args.members.now) c.args.shape.now c.args.rows.now c.args.at run at is);
}

pub rows_alike-count-requires-clause-below : goal.rows_alike-count-requires-clause-below
rows_alike-count-requires-clause-below c =
    let rows = c.args.rows.now in
    let was = c.loop-role.invariant in
    let last : ℕ = c.loop-role.count - 1 in
    let there = c.rows_listed-count.ensures.rows last (omega (arith, was.some, was.most)) in
    let low = c.requires.below (slice_index rows (c.args.at + last)) (All-contains_itself rows (c.args.at + last) 0 (omega (arith, was.some, was.most, c.rows_listed-count.ensures.within))) in
    omega (arith, there, low, was.some)

pub loop-role-preserved : goal.loop-role-preserved
loop-role-preserved c =
    let was = c.loop-role.invariant in
    let did = c.rows_alike-count.ensures in
    let r = reading_of c.args.members.now in
    let row = slice_index c.args.rows.now c.args.at in
    record {
      some = did.some;
      most = omega (arith, was.most, did.most);
      held = λ role j lt within. elim (cases_eq role c.loop-role.role) [
        | inl same ↦ subst (λ (k : ℕ). is_held r k (row + j) ≡ is_held r k row) (sym same) (did.held j within)
        | inr other ↦ was.held role j (omega (arith, lt, other)) (omega (arith, within, did.most))
      ];
      longest = λ run at is. did.longest run.count (was.longest run at is)
          (λ j lt. run_held r c.args.shape.now c.args.rows.now c.args.at run at is c.loop-role.role j c.loop-role-test.true lt);
    }

pub returns-clause-run : goal.returns-clause-run
returns-clause-run c =
    let was = c.loop-role.invariant in
    let listed = c.rows_listed-count.ensures in
    record {
      some = was.some;
      within = omega (arith, was.most, listed.within);
      listed = λ j lt. listed.rows j (omega (arith, lt, was.most));
      alike = record {
        stripe = λ j lt. stripe_same (slice_index c.args.rows.now c.args.at) j c.args.shape.now.chunk (omega (arith, lt, was.most, listed.most));
        held = λ role j lt within. was.held role j (omega (arith, lt, c.loop-role-test.false)) within;
      };
    }
