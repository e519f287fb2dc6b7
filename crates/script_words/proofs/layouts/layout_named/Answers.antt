use Rattle.std.proofs.Common.{◌≡◌, sym, ◌∙◌, subst, refl, None, arith}
use Rattle.raid_types.specs.Search.{least_below}
use Rattle.script_words.specs.Layouts.{layout_name, is_name}
use Rattle.script_words.proofs.LeastLaws.{least_below-reached, least_below-passed}
use Rattle.script_words.proofs.layouts.layout_named.Goals as goal

pub loop-layout-init : goal.loop-layout-init
unfolding least_below
loop-layout-init c = refl

pub returns-then-is_name_of : goal.returns-then-is_name_of
returns-then-is_name_of c =
    sym (least_below-reached 21 (λ layout. is_name (layout_name layout) c.args.name.now) c.loop-layout.layout
    (omega arith) c.loop-layout.invariant (sym c.is_name_of.ensures ∙ c.if-is_name_of.true))

pub loop-layout-preserved : goal.loop-layout-preserved
loop-layout-preserved c =
    least_below-passed (λ layout. is_name (layout_name layout) c.args.name.now) c.loop-layout.layout
    c.loop-layout.invariant (sym c.is_name_of.ensures ∙ c.if-is_name_of.false)

pub returns : goal.returns
returns c =
    let e : c.loop-layout.layout ≡ 21 = omega arith in
    sym (subst (λ n. least_below n (λ layout. is_name (layout_name layout) c.args.name.now) ≡ None) e c.loop-layout.invariant)
