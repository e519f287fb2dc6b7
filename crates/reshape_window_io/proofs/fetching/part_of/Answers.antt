use Rattle.std.proofs.Common.{min, ℕ, ap, ◌∙◌}
use Rattle.reshape_window_io.proofs.Beside.{out-before, out-behind}
use Rattle.reshape_window_io.proofs.fetching.part_of.Goals as goal

pub returns-clause-before : goal.returns-clause-before
returns-clause-before c = λ x low high.
    out-before c.args.span.now c.args.first c.args.to c.min-lo.result c.min.result x (c.min-lo.ensures ∙ ap (λ (n : ℕ). min n c.args.to) c.max.ensures) (c.min.ensures ∙ ap (λ (n : ℕ). min n c.args.to) c.max-2.ensures) low high

pub returns-clause-behind : goal.returns-clause-behind
returns-clause-behind c = λ x low high.
    out-behind c.args.span.now c.args.first c.args.to c.min-lo.result c.min.result x (c.min-lo.ensures ∙ ap (λ (n : ℕ). min n c.args.to) c.max.ensures) (c.min.ensures ∙ ap (λ (n : ℕ). min n c.args.to) c.max-2.ensures) low high
