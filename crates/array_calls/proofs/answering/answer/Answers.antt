use Rattle.std.proofs.Common.{◌≤◌, [], ◌∷◌, inl, refl, sym, subst, arith, ap, ◌∙◌}
use Rattle.array_type.specs.history_Plain.{entries_of}
use Rattle.array_type.specs.array_members_Rebuilding.{Held}
use Rattle.array_type.proofs.array_members_MovedLaws.{grows-none, moved-same}
use Rattle.array_type.specs.array_call_specs_Calls.{WasSpare}
use Rattle.array_type.proofs.array_call_specs_LossLaws.{ended-behind}
use Rattle.array_type.proofs.array_call_specs_ReadyLaws.{scope-same}
use Rattle.array_type.specs.history_invariant_Recorded.{IsCallGoing}
use Rattle.array_type.proofs.array_specs_Called.{alone-lossless, called}
use Rattle.array_type.specs.array_specs_Calls.{moving_world}
use Rattle.array_type.specs.array_specs_Plans.{ArePlansKept}
use Rattle.array_type.specs.array_fixed_laws_Steps.{IsStepsReplyNow, MayAnswer}
use Rattle.array_type.proofs.array_fixed_laws_Kept.{ready, rows-same}
use Rattle.array_type.proofs.array_fixed_laws_StepLaws.{shapes-same, stepped}
use Rattle.array_type.proofs.array_fixed_laws_AnswerLaws.{answer-stands, reply-keeps, reply-lossless}
use Rattle.array_type.proofs.array_fixed_laws_PlainBehind.{answered-plain}
use Rattle.array_type.proofs.array_reshaping_laws_Kept.{ready as r-ready, shapes-same as r-shapes-same}
use Rattle.array_calls.specs.Replies.{IsReplyInReshape}
use Rattle.array_calls.proofs.AnswerLaws.{answer-moves, reply-keeps as r-reply-keeps, reply-lossless as r-reply-lossless}
use Rattle.array_type.proofs.Rest.{on-both}
use Rattle.array_type.proofs.Alike.{alike, goes-on, stays-at-rest}
use Rattle.array_type.specs.sb_specs_Reading.{is_reshaping}
use Rattle.array_calls.proofs.answering.answer.Goals as goal

pub invariant_of-array : goal.invariant_of-array
invariant_of-array g c =
    on-both (is_reshaping c.array.inside.members.newest)
    (λ active. goes-on (c.array.invariant.moves active).0 (
    let was = (c.array.invariant.moves active).1 in
    let a = c.array.inside in
    let who = c.args.who in
    let end = c.ops-end.result in
    let goes : IsCallGoing a.epoch.entries.items who = subst (λ p. IsCallGoing p.parts.entries who) (sym c.array.view_is) c.requires.open in
    let some : 1 ≤ a.steps = subst (λ p. 1 ≤ p.parts.steps) (sym c.array.view_is) c.requires.room in
    let reply : IsReplyInReshape a.work a.members a.course a.ahead c.args.event = subst (λ p. IsReplyInReshape p.parts.work p.parts.members p.course p.ahead c.args.event) (sym c.array.view_is) (c.requires.reply_in_reshape (ap (λ p. is_reshaping p.parts.members.newest) (sym c.array.view_is) ∙ active)) in
    r-ready (entries_of who end (c.args.event ∷ [])) was (grows-none (λ t. refl)) (r-shapes-same a.members.newest)
    (answer-moves a.work a.course a.ahead who end c.args.event was.kept goes c.requires.caller c.ops-end.ensures.count reply)
    refl (λ slot. omega arith) (r-reply-keeps a.work a.members a.course a.ahead who end c.args.event reply) (λ none whole. whole) refl
    (scope-same (g.B.Bank.given a.bank) a.backup refl c.append_entry.ensures.uuid c.append_entry.ensures.given) c.append_entry.ensures.first refl c.append_entry.ensures.items
    (omega (arith, c.append_entry.ensures.room, was.room_left, some))))
    (λ still. stays-at-rest (c.array.invariant.rests still).0 (
    let was = (c.array.invariant.rests still).1 in
    let a = c.array.inside in
    let given = g.B.Bank.given a.bank in
    let goes : IsCallGoing a.epoch.entries.items c.args.who = subst (λ p. IsCallGoing p.parts.entries c.args.who) (sym c.array.view_is) c.requires.open in
    let some : 1 ≤ a.steps = subst (λ p. 1 ≤ p.parts.steps) (sym c.array.view_is) c.requires.room in
    let plans = subst (λ p. ArePlansKept g.B.Bank.tells (moving_world (g.B.Bank.given p.parts.bank) (g.B.Bank.tape p.parts.bank) p) p) (sym c.array.view_is) (c.requires.plans (ap (λ p. is_reshaping p.parts.members.newest) (sym c.array.view_is) ∙ still)) in
    let may = subst (λ p. MayAnswer p.parts.entries p.parts.work p.parts.members p.ahead c.args.event) (sym c.array.view_is) (c.requires.closable (ap (λ p. is_reshaping p.parts.members.newest) (sym c.array.view_is) ∙ still)) in
    let reply = subst (λ p. IsStepsReplyNow p.parts.work p.parts.members p.ahead c.args.event) (sym c.array.view_is) (c.requires.reply_at_rest (ap (λ p. is_reshaping p.parts.members.newest) (sym c.array.view_is) ∙ still)) in
    let end = c.ops-end.result in
    ready (entries_of c.args.who end (c.args.event ∷ [])) was (rows-same a.members.newest)
    (answer-stands a.work a.members a.ahead c.args.who end c.args.event was.kept goes c.requires.caller c.ops-end.ensures.count plans may reply)
    (answered-plain was c.args.who end goes c.requires.caller c.ops-end.ensures.count (grows-none (λ t. refl)) c.args.event reply)
    (λ slot. omega arith) (reply-keeps a.work a.members a.ahead c.args.who end c.args.event reply)
    refl (scope-same given a.backup refl c.append_entry.ensures.uuid c.append_entry.ensures.given) c.append_entry.ensures.first refl c.append_entry.ensures.items
    (omega (arith, c.append_entry.ensures.room, was.room_left, some))))

pub returns-clause-stepped : goal.returns-clause-stepped
returns-clause-stepped g c =
    λ when. let was = (alike c.array.invariant) in
    let a = c.array.inside in
    let faults = g.B.Bank.faults_of a.bank in
    let end = c.ops-end.result in
    let lossless = reply-lossless c.args.array.now.parts.work c.args.array.now.parts.members c.args.array.now.ahead (Held a.members) (WasSpare a.members) faults faults c.args.event (c.requires.reply_at_rest when) in
    rw (← c.array.view_is) (stepped (grows-none (λ t. refl)) (shapes-same a.members.newest)
    (ended-behind (g.B.Bank.tape a.bank) c.append_entry.new.epoch.first a.epoch.entries.items c.args.who end [] c.args.event c.append_entry.ensures.items c.ops-end.ensures.count)
    (λ role slot held. inl held)
    (alone-lossless a.members faults faults a.epoch.entries.items a.epoch.entries.items c.append_entry.new.epoch.entries.items c.args.who end c.args.event lossless refl c.append_entry.ensures.items)
    (λ slot. omega arith)
    (record { uuid = c.append_entry.ensures.uuid; given = c.append_entry.ensures.given; first = c.append_entry.ensures.first; backup = refl; ahead = refl; limit = refl })
    (λ t. (was.kept.recorded t).begun))

pub returns-clause-called : goal.returns-clause-called
returns-clause-called g c =
    on-both (is_reshaping c.array.inside.members.newest)
    (λ active. let was = (c.array.invariant.moves active).1 in
    let a = c.array.inside in
    let given = g.B.Bank.given a.bank in
    let faults = g.B.Bank.faults_of a.bank in
    let end = c.ops-end.result in
    let reply : IsReplyInReshape a.work a.members a.course a.ahead c.args.event = subst (λ p. IsReplyInReshape p.parts.work p.parts.members p.course p.ahead c.args.event) (sym c.array.view_is) (c.requires.reply_in_reshape (ap (λ p. is_reshaping p.parts.members.newest) (sym c.array.view_is) ∙ active)) in
    rw (← c.array.view_is) (called (grows-none (λ t. refl)) (moved-same given given a.members a.members refl refl was.kept.members_are.placed was.kept.members_are.unlost)
    (ended-behind (g.B.Bank.tape a.bank) c.append_entry.new.epoch.first a.epoch.entries.items c.args.who end [] c.args.event c.append_entry.ensures.items c.ops-end.ensures.count)
    (alone-lossless a.members faults faults a.epoch.entries.items a.epoch.entries.items c.append_entry.new.epoch.entries.items c.args.who end c.args.event (r-reply-lossless a.work a.members a.course a.ahead (Held a.members) (WasSpare a.members) faults faults c.args.event reply) refl c.append_entry.ensures.items)
    (λ slot. omega arith)
    (record { uuid = c.append_entry.ensures.uuid; given = c.append_entry.ensures.given; first = c.append_entry.ensures.first; backup = refl; work = refl; ahead = refl; limit = refl })
    (λ t. (was.kept.recorded t).begun)))
    (λ still. let was = (c.array.invariant.rests still).1 in
    let a = c.array.inside in
    let given = g.B.Bank.given a.bank in
    let faults = g.B.Bank.faults_of a.bank in
    let end = c.ops-end.result in
    let reply : IsStepsReplyNow a.work a.members a.ahead c.args.event = subst (λ p. IsStepsReplyNow p.parts.work p.parts.members p.ahead c.args.event) (sym c.array.view_is) (c.requires.reply_at_rest (ap (λ p. is_reshaping p.parts.members.newest) (sym c.array.view_is) ∙ still)) in
    rw (← c.array.view_is) (called (grows-none (λ t. refl)) (moved-same given given a.members a.members refl refl was.kept.members_are.placed was.kept.members_are.unlost)
    (ended-behind (g.B.Bank.tape a.bank) c.append_entry.new.epoch.first a.epoch.entries.items c.args.who end [] c.args.event c.append_entry.ensures.items c.ops-end.ensures.count)
    (alone-lossless a.members faults faults a.epoch.entries.items a.epoch.entries.items c.append_entry.new.epoch.entries.items c.args.who end c.args.event (reply-lossless a.work a.members a.ahead (Held a.members) (WasSpare a.members) faults faults c.args.event reply) refl c.append_entry.ensures.items)
    (λ slot. omega arith)
    (record { uuid = c.append_entry.ensures.uuid; given = c.append_entry.ensures.given; first = c.append_entry.ensures.first; backup = refl; work = refl; ahead = refl; limit = refl })
    (λ t. (was.kept.recorded t).begun)))

pub returns-clause-active : goal.returns-clause-active
returns-clause-active g c =
    ap (λ p. is_reshaping p.parts.members.newest) c.array.view_is
