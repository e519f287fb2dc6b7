use Rattle.std.proofs.Common.{◌≡◌, ℕ, ◌+◌, Bool, true, false, cond, refl, sym, ap, ap₂, ◌∙◌, arith, add-one, add-zero}
use Rattle.std.specs.Prelude.{not}
use Rattle.std.proofs.lemmas.List.{get_or_default}
use Rattle.sb_specs.specs.raid_types_the_Role.{Role}
use Rattle.sb_specs.specs.raid_types_the_Role_TheVariants.{Missing, Whole}
use Rattle.sb_specs.specs.raid_types_Search.{count_below}
use Rattle.sb_specs.specs.Reading.{is_whole}
use Rattle.sb_specs.specs.Verdict.{is_missing}
use Rattle.sb_election.proofs.missing.missing_count.Goals as goal
use Rattle.sb_election.proofs.missing.missing_count.Goals.{then-not-is_whole, else-not-is_whole}

next : (n : ℕ) (test : ℕ → Bool) → count_below (n + 1) test ≡ count_below n test + cond (test n) 1 0
unfolding count_below
next n test = rw add-one refl

one_more : (n missing : ℕ) (test : ℕ → Bool) → missing ≡ count_below n test → test n ≡ true → missing + 1 ≡ count_below (n + 1) test
one_more n missing test was passes = ap₂ (λ a b. a + cond b 1 0) was (sym passes) ∙ sym (next n test)

no_more : (n missing : ℕ) (test : ℕ → Bool) → missing ≡ count_below n test → test n ≡ false → missing ≡ count_below (n + 1) test
no_more n missing test was fails = sym (add-zero missing) ∙ ap₂ (λ a b. a + cond b 1 0) was (sym fails) ∙ sym (next n test)

pub loop-role-init : goal.loop-role-init
unfolding count_below
loop-role-init c = record { count = refl; few = omega arith }

pub loop-role-preserved : goal.loop-role-preserved
loop-role-preserved c =
    let at = ap (λ (r : Role). not (is_whole r))
    (get_or_default c.args.roles.now c.loop-role.role Missing (Whole 0) (omega (arith, c.requires))) in
    elim c.if-not-is_whole.branch [
      | then-not-is_whole w ↦ record {
        count = w.missing-is ∙ one_more c.loop-role.role c.loop-role.missing (is_missing c.args.roles.now) c.loop-role.invariant.count
            (at ∙ ap not (sym c.is_whole.ensures ∙ w.if-not-is_whole.true));
        few = omega arith;
      }
      | else-not-is_whole w ↦ record {
        count = w.missing-is ∙ no_more c.loop-role.role c.loop-role.missing (is_missing c.args.roles.now) c.loop-role.invariant.count
            (at ∙ ap not (sym c.is_whole.ensures ∙ w.if-not-is_whole.false));
        few = omega arith;
      }
    ]
