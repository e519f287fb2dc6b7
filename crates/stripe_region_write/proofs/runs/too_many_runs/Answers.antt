use Rattle.std.proofs.Common.{inl, inr, sym, ◌∙◌, ◌≤◌, ℕ, subst}
use Rattle.stripe_region_write.proofs.RunLaws.{told-none, told-later, told-first-of}
use Rattle.stripe_region_read.proofs.array_members_Fit.{force-valid, force-disks}
use Rattle.stripe_region_write.proofs.runs.too_many_runs.Goals as goal

pub returns-then-is_some : goal.returns-then-is_some
returns-then-is_some c = told-first-of _ _ _ _ c.too_many_of-refusal.result (sym c.is_some.ensures ∙ c.if-is_some.true) (λ refusal many. inl many) c.too_many_of-refusal.ensures

pub returns : goal.returns
returns c = told-later _ _ _ _ c.too_many_of.result (λ few. (told-none _ c.too_many_of-refusal.result (sym c.is_some.ensures ∙ c.if-is_some.false) c.too_many_of-refusal.ensures, few)) (λ refusal many. inr many) c.too_many_of.ensures

pub too_many_of-refusal-requires-clause-shape : goal.too_many_of-refusal-requires-clause-shape
too_many_of-refusal-requires-clause-shape c = force-valid c.args.members.now.newest c.requires.fit c.args.low.now.shape c.requires.low

pub too_many_of-refusal-requires-clause-roles : goal.too_many_of-refusal-requires-clause-roles
too_many_of-refusal-requires-clause-roles c = subst (λ (n : ℕ). c.args.low.now.shape.disks ≤ n) (sym c.requires.roles) (force-disks c.args.members.now.newest c.requires.fit c.args.low.now.shape c.requires.low)

pub too_many_of-requires-clause-shape : goal.too_many_of-requires-clause-shape
too_many_of-requires-clause-shape c = force-valid c.args.members.now.newest c.requires.fit c.args.high.now.shape c.requires.high

pub too_many_of-requires-clause-roles : goal.too_many_of-requires-clause-roles
too_many_of-requires-clause-roles c = subst (λ (n : ℕ). c.args.high.now.shape.disks ≤ n) (sym c.requires.roles) (force-disks c.args.members.now.newest c.requires.fit c.args.high.now.shape c.requires.high)
