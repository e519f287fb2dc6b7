use Rattle.std.proofs.Common.{◌≡◌, ◌/◌, ℕ, ap, sym, ◌∙◌, arith}
use Rattle.array_call_specs.specs.raid_types_the_Shape.{Shape}
use Rattle.reshape_progress.proofs.reshape_geometry_ClosedForms.{zeroed_value}
use Rattle.reshape_progress.proofs.reshape_geometry_Valid.{list_fits}
use Rattle.reshape_progress.specs.sb_specs_Reading.{is_backward, shape_of, final_shape}
use Rattle.array_reshaping_state.proofs.ReshapeLaws.{forced, none-to-zero}
use Rattle.array_reshaping_state.proofs.reshape.stripes_to_zero.Goals as goal

pub returns-then-is_backward : goal.returns-then-is_backward
returns-then-is_backward c = none-to-zero c.args.members.now.newest (sym c.is_backward.ensures ∙ c.if-is_backward.true)

pub overflow_sub-result : goal.overflow_sub-result
overflow_sub-result c =
    let newest = c.args.members.now.newest in
    let fits = list_fits (shape_of newest) (final_shape newest) newest.size (forced newest c.requires.fit) in
    let value = c.past_stripe.ensures.value in
    let same : newest.size / c.from.result ≡ newest.size / (final_shape newest).chunk = ap (λ (n : ℕ). newest.size / n) (c.from.ensures ∙ ap (λ (s : Shape). s.chunk) c.final_in.ensures) in
    omega (arith, fits, value, same)

pub returns : goal.returns
returns c =
    let newest = c.args.members.now.newest in
    zeroed_value (shape_of newest) (final_shape newest) newest.size (is_backward newest) c.past_stripe.result c.from.result (sym c.is_backward.ensures ∙ c.if-is_backward.false) c.past_stripe.ensures.value
    (c.from.ensures ∙ ap (λ (s : Shape). s.chunk) c.final_in.ensures)
