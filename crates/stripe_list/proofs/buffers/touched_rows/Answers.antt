use Rattle.std.proofs.Common.{ℕ, inl, inr, sym, ◌∙◌, ap, subst, arith}
use Rattle.std.proofs.lemmas.Bool.{cases_eq}
use Rattle.std.specs.Prelude.{Contains}
use Rattle.raid_layout.specs.raid_types_the_Place.{Place}
use Rattle.raid_layout.specs.Layout.{place}
use Rattle.stripe_list.proofs.buffers.touched_rows.Goals as goal

pub loop-x-preserved : goal.loop-x-preserved
loop-x-preserved c =
    let was = c.loop-x.invariant in
    let did = c.touch.ensures in
    let rows = c.touch.new.rows.items in
    record {
      all = λ x low lt. elim (cases_eq x c.loop-x.x) [
        | inl same ↦ subst (λ (y : ℕ). Contains rows (place c.args.shape.now y).row) (sym same) (subst (λ (p : Place). Contains rows p.row) c.place.ensures.place did.has)
        | inr other ↦ did.keeps (place c.args.shape.now x).row (was.all x low (omega (arith, lt, other)))
      ];
      only = λ r has. elim (did.only r has) [
        | inl before ↦ (let t = was.only r before in (t.0, t.1, omega (arith, t.2), t.3))
        | inr here ↦ (c.loop-x.x, c.loop-x.auto.x, omega (arith, c.loop-x.auto.x), sym (here ∙ ap (λ (p : Place). p.row) c.place.ensures.place))
      ];
      once = did.once was.once;
      few = omega (arith, was.few, did.few);
      capacity = omega (arith, was.capacity, did.capacity);
    }

pub returns-clause-touched : goal.returns-clause-touched
returns-clause-touched c =
    let low = c.loop-x.auto.x in
    let high = c.loop-x.auto.x-end in
    let end = c.loop-x-test.false in
    record {
      all = λ x from to. c.loop-x.invariant.all x from (omega (arith, to, end));
      only = λ r has. (let t = c.loop-x.invariant.only r has in (t.0, t.1, omega (arith, t.2, low, high (omega arith)), t.3));
      once = c.loop-x.invariant.once;
    }
