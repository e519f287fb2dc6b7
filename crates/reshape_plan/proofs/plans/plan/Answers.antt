use Rattle.std.proofs.Common.{sym, ◌∙◌, subst}
use Rattle.reshape_plan.specs.Plans.{AreSound}
use Rattle.reshape_plan.proofs.Sound.{good_target, levelled, some_chunk, sound_target}
use Rattle.reshape_plan.proofs.plans.plan.Goals as goal

pub is_multiple-requires : goal.is_multiple-requires
is_multiple-requires c =
    let good = good_target c.args.now.now c.args.wish.now c.wished_level-level.result c.target-to.result c.requires.valid c.wished_level-level.ensures c.target-to.ensures (sym c.bad_field.ensures ∙ c.in_default.is) in
    some_chunk _ good.chunk

pub plan_to-requires-clause-sound : goal.plan_to-requires-clause-sound
plan_to-requires-clause-sound c =
    let good = good_target c.args.now.now c.args.wish.now c.wished_level-level.result c.target-to.result c.requires.valid c.wished_level-level.ensures c.target-to.ensures (sym c.bad_field.ensures ∙ c.in_default.is) in
    let at = levelled c.args.now.now c.args.wish.now c.wished_level-level.result c.target-to.result c.wished_level-level.ensures c.target-to.ensures good.good in
    (sound_target c.args.now.now c.args.size c.wished_level-level.result c.target-to.result c.requires.valid c.requires.sized at good (sym c.is_multiple.ensures ∙ c.if-not-is_multiple.false)).sound

pub plan_to-requires-clause-few : goal.plan_to-requires-clause-few
plan_to-requires-clause-few c =
    let good = good_target c.args.now.now c.args.wish.now c.wished_level-level.result c.target-to.result c.requires.valid c.wished_level-level.ensures c.target-to.ensures (sym c.bad_field.ensures ∙ c.in_default.is) in
    let at = levelled c.args.now.now c.args.wish.now c.wished_level-level.result c.target-to.result c.wished_level-level.ensures c.target-to.ensures good.good in
    (sound_target c.args.now.now c.args.size c.wished_level-level.result c.target-to.result c.requires.valid c.requires.sized at good (sym c.is_multiple.ensures ∙ c.if-not-is_multiple.false)).few

pub returns-clause-sound : goal.returns-clause-sound
returns-clause-sound c =
    let good = good_target c.args.now.now c.args.wish.now c.wished_level-level.result c.target-to.result c.requires.valid c.wished_level-level.ensures c.target-to.ensures (sym c.bad_field.ensures ∙ c.in_default.is) in
    let at = levelled c.args.now.now c.args.wish.now c.wished_level-level.result c.target-to.result c.wished_level-level.ensures c.target-to.ensures good.good in
    let sound = (sound_target c.args.now.now c.args.size c.wished_level-level.result c.target-to.result c.requires.valid c.requires.sized at good (sym c.is_multiple.ensures ∙ c.if-not-is_multiple.false)).sound in
    subst (AreSound c.args.now.now c.args.size) (sym c.plan_to.ensures.phases) sound
