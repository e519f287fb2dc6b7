use Rattle.std.proofs.Common.{◌≡◌, ℕ, Bool, false, cond, None, sym, ap₂, ◌∙◌, arith, option_map, ◌&&◌, below_more}
use Rattle.sb_specs.specs.raid_types_the_Refusal_TheVariants.{DirtyDegraded}
use Rattle.sb_specs.proofs.raid_types_Least.{least_below-none}
use Rattle.sb_specs.specs.Reading.{role_count}
use Rattle.sb_specs.specs.Verdict.{is_missing, holds_data}
use Rattle.sb_specs.proofs.Searches.{least_below-first}
use Rattle.sb_election.proofs.missing.dirty_degraded.Goals as goal

pub returns-then-misses_data : goal.returns-then-misses_data
returns-then-misses_data c =
    let test : ℕ → Bool = λ role. is_missing c.args.roles.now role && holds_data c.args.newest.now role in
    sym (ap₂ (λ clean found. cond clean None (option_map (λ role. DirtyDegraded role) found)) (sym c.is_clean.ensures ∙ c.if-is_clean.false)
    (least_below-first (role_count c.args.newest.now) test c.loop-role.role (omega (arith, c.requires.roles))
    (sym c.misses_data.ensures ∙ c.if-misses_data.true) c.loop-role.invariant))

pub returns : goal.returns
returns c =
    let test : ℕ → Bool = λ role. is_missing c.args.roles.now role && holds_data c.args.newest.now role in
    sym (ap₂ (λ clean found. cond clean None (option_map (λ role. DirtyDegraded role) found)) (sym c.is_clean.ensures ∙ c.if-is_clean.false)
    (least_below-none (role_count c.args.newest.now) test (λ k h. c.loop-role.invariant k (omega (arith, h, c.requires.roles)))))

pub loop-role-preserved : goal.loop-role-preserved
loop-role-preserved c =
    below_more (λ k. (is_missing c.args.roles.now k && holds_data c.args.newest.now k) ≡ false) c.loop-role.role c.loop-role.invariant
    (sym c.misses_data.ensures ∙ c.if-misses_data.false)
