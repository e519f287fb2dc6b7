use Rattle.std.proofs.Common.{◌≡◌, inl, inr, ◌<◌, true, refl, sym, ap, arith, false}
use Rattle.stripe_region_read.specs.raid_types_Shapes.{data_disks}
use Rattle.stripe_region_read.specs.sb_specs_Reading.{is_reshaping}
use Rattle.stripe_region_read.specs.history_Stands.{shape_for}
use Rattle.stripe_region_write.proofs.Together.{wider-low}
use Rattle.stripe_region_write.proofs.runs.runs_of.Goals as goal

true-false : {X : Type 0} → true ≡ false → X
true-false is = absurd (cc)

pub returns-then-low-to : goal.returns-then-low-to
returns-then-low-to c =
    let did = c.run_at-low.ensures in
    let end : c.run_at-low.result.end ≡ c.args.to = c.if-low-to.true in
    record {
      low = did.run;
      high = record {
        force = did.run.force;
        one = λ x low high. absurd (omega (arith, low, high));
        order = omega arith;
        within = c.requires.within;
      };
      low_relied = did.relied;
      high_relied = record {
        rows = λ synced x low high out. absurd (omega (arith, low, high));
        some = λ unsynced. true-false unsynced;
      };
      begins = did.first;
      some = let some = did.some in let first = did.first in omega (arith, some, first);
      meet = sym end;
      ends = refl;
      apart = λ more. absurd (omega (arith, more, end));
      empty = λ whole. refl;
      wider = omega arith;
    }

pub returns : goal.returns
returns c =
    let one = c.run_at-low.ensures in
    let two = c.run_at.ensures in
    let more : c.run_at-low.result.end < c.args.to = (let end = one.within in let not = c.if-low-to.false in omega (arith, end, not)) in
    let cut : (is_reshaping c.args.members.now.newest ≡ true) × (c.run_at-low.result.end ≡ c.args.members.now.newest.reshape_position) = elim one.longest [
      | inl whole ↦ absurd (omega (arith, more, whole))
      | inr cut ↦ cut
    ] in
    record {
      low = one.run;
      high = two.run;
      low_relied = one.relied;
      high_relied = two.relied;
      begins = one.first;
      some = let some = one.some in let first = one.first in omega (arith, some, first);
      meet = two.first;
      ends = elim two.longest [
        | inl whole ↦ whole
        | inr later ↦ absurd (let some = two.some in let here = cut.1 in let there = later.1 in omega (arith, some, here, there))
      ];
      apart = λ less. cut;
      empty = λ whole. absurd (omega (arith, more, whole));
      wider =
          let newest = c.args.members.now.newest in
          let first = one.first in
          let some = one.some in
          let begins = two.first in
          let later = two.some in
          let at = cut.1 in
          let low : shape_for newest c.args.first ≡ c.run_at-low.result.shape = one.run.one c.args.first (omega (arith, first)) some in
          let high : shape_for newest c.run_at-low.result.end ≡ c.run_at.result.shape = two.run.one c.run_at-low.result.end (omega (arith, begins)) later in
          let le = wider-low newest c.requires.fit cut.0 c.args.first c.run_at-low.result.end (omega (arith, some, at)) (omega (arith, at)) in
          let a = ap data_disks low in
          let b = ap data_disks high in
          omega (arith, le, a, b);
    }
