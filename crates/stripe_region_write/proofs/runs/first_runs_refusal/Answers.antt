use Rattle.std.proofs.Common.{inl, sym, ◌∙◌, ◌≤◌, ℕ, subst}
use Rattle.stripe_region_write.proofs.RunLaws.{told-none, told-first-of, unsynced-first, unsynced-then}
use Rattle.stripe_region_read.proofs.array_members_Fit.{force-valid, force-disks}
use Rattle.stripe_region_write.proofs.runs.first_runs_refusal.Goals as goal

pub returns-then-is_some : goal.returns-then-is_some
returns-then-is_some c = told-first-of _ _ _ _ c.too_many_runs-refusal.result (sym c.is_some.ensures ∙ c.if-is_some.true) (λ refusal many. inl many) c.too_many_runs-refusal.ensures

pub returns-then-is_some-2 : goal.returns-then-is_some-2
returns-then-is_some-2 c =
    let does = told-none _ c.too_many_runs-refusal.result (sym c.is_some.ensures ∙ c.if-is_some.false) c.too_many_runs-refusal.ensures in
    unsynced-first c.args.low.now c.args.high.now c.args.members.now does.0 does.1 _ c.first_write_refusal-refusal.result (sym c.is_some-2.ensures ∙ c.if-is_some-2.true) c.first_write_refusal-refusal.ensures

pub returns : goal.returns
returns c =
    let does = told-none _ c.too_many_runs-refusal.result (sym c.is_some.ensures ∙ c.if-is_some.false) c.too_many_runs-refusal.ensures in
    unsynced-then c.args.low.now c.args.high.now c.args.members.now does.0 does.1 c.first_write_refusal-refusal.result c.first_write_refusal.result (sym c.is_some-2.ensures ∙ c.if-is_some-2.false) c.first_write_refusal-refusal.ensures c.first_write_refusal.ensures

pub first_write_refusal-refusal-requires-clause-shape : goal.first_write_refusal-refusal-requires-clause-shape
first_write_refusal-refusal-requires-clause-shape c = force-valid c.args.members.now.newest c.requires.fit c.args.low.now.shape c.requires.low

pub first_write_refusal-refusal-requires-clause-roles : goal.first_write_refusal-refusal-requires-clause-roles
first_write_refusal-refusal-requires-clause-roles c = subst (λ (n : ℕ). c.args.low.now.shape.disks ≤ n) (sym c.requires.roles) (force-disks c.args.members.now.newest c.requires.fit c.args.low.now.shape c.requires.low)

pub first_write_refusal-requires-clause-shape : goal.first_write_refusal-requires-clause-shape
first_write_refusal-requires-clause-shape c = force-valid c.args.members.now.newest c.requires.fit c.args.high.now.shape c.requires.high

pub first_write_refusal-requires-clause-roles : goal.first_write_refusal-requires-clause-roles
first_write_refusal-requires-clause-roles c = subst (λ (n : ℕ). c.args.high.now.shape.disks ≤ n) (sym c.requires.roles) (force-disks c.args.members.now.newest c.requires.fit c.args.high.now.shape c.requires.high)
