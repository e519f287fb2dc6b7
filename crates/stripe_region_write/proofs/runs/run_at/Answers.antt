use Rattle.std.proofs.Common.{◌≡◌, inl, inr, ℕ, ◌-◌, ◌<◌, ◌≤◌, nat_le, true, false, sym, ◌∙◌, subst, arith}
use Rattle.std.proofs.lemmas.Bool.{cases_lt}
use Rattle.std.proofs.lemmas.Bool.Decides.{nat_tests}
use Rattle.stripe_region_read.proofs.raid_layout_Places.{place-row_below, place-sector_below}
use Rattle.stripe_region_read.specs.raid_layout_Layout.{place}
use Rattle.stripe_region_read.proofs.array_members_Fit.{force-valid, fit-short}
use Rattle.stripe_region_write.proofs.runs.run_at.Goals as goal

le-of : (a b : ℕ) → nat_le a b ≡ true → a ≤ b
le-of a b is = grind (arith, nat_tests, is)

above : (a b : ℕ) → nat_le a b ≡ false → b < a
above a b is = grind (arith, nat_tests, is)

pub list_length-requires-clause-size : goal.list_length-requires-clause-size
list_length-requires-clause-size c = let within = c.relied_rows-rows.ensures.within in let short = fit-short c.args.members.now.newest c.requires.fit in omega (arith, within, short)

pub returns-clause-run : goal.returns-clause-run
returns-clause-run c =
    let did = c.stretch_at-stretch.ensures in
    record {
      force = did.force;
      one = did.one;
      order = let some = did.some in omega (arith, some);
      within = let end = did.within in omega (arith, end, c.requires.within);
    }

pub returns-clause-relied : goal.returns-clause-relied
returns-clause-relied c =
    let newest = c.args.members.now.newest in
    let did = c.stretch_at-stretch.ensures in
    let shape = c.stretch_at-stretch.result.shape in
    let end = c.end_beside-end.result in
    let beside = c.end_beside-end.ensures in
    let rows = c.relied_rows-rows.result in
    let valid = force-valid newest c.requires.fit shape did.force in
    let long = c.list_length.ensures in
    let most = c.max.ensures in
    record {
      rows = λ synced x low high out. subst (λ (n : ℕ). (place shape x).row < n) c.relied_rows-rows.ensures.rows
          (place-row_below shape valid x rows c.relied_rows-rows.ensures.stripes (elim (cases_lt x end) [
            | inl under ↦ (let all = le-of end c.max.result synced in omega (arith, all, most, low, under, long))
            | inr past ↦ absurd (let both = sym out ∙ beside.inside x past high in cc)
          ]));
      some = λ unsynced.
          let far = above end c.max.result unsynced in
          let within = beside.within in (
            end - 1,
            omega (arith, far, most),
            omega (arith, far, within),
            beside.last (omega (arith, far)),
            subst (λ (n : ℕ). n ≤ (place shape (end - 1)).row) c.relied_rows-rows.ensures.rows
                (elim (cases_lt (place shape (end - 1)).row rows) [
                  | inl low ↦ absurd (let near = place-sector_below shape valid (end - 1) rows c.relied_rows-rows.ensures.stripes low in omega (arith, near, long, far, most))
                  | inr high ↦ high
                ]),
          );
    }
