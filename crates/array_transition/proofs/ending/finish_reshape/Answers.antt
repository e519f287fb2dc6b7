use Rattle.std.proofs.Common.{◌≡◌, ℕ, ◌*◌, ◌≤◌, ◌&&◌, ◌||◌, nat_lt, not, Option, List, [], ◌∷◌, ◌++◌, refl, sym, ◌∙◌, ap, subst, arith}
use Rattle.std.specs.Prelude.{MatchOption, IfSome}
use Rattle.std.proofs.lemmas.Bool.{and_parts}
use Rattle.array_reshaping_steps.specs.raid_types_Shapes.{has_slot, data_disks}
use Rattle.array_reshaping_steps.specs.raid_types_the_Refusal.{Refusal}
use Rattle.array_reshaping_steps.specs.raid_types_the_Shape.{Shape}
use Rattle.array_reshaping_steps.specs.reshape_plan_Plans.{AreSound}
use Rattle.array_reshaping_steps.specs.sb_specs_Reading.{shape_of, list_length, holder, is_reshaping}
use Rattle.array_reshaping_steps.proofs.sb_specs_ValidFields.{few-roles}
use Rattle.array_reshaping_steps.specs.stripe_row_Rows.{reading_of}
use Rattle.array_reshaping_steps.specs.history_the_Event.{Event}
use Rattle.array_reshaping_steps.specs.history_the_Event_TheVariants.{Step, Refused}
use Rattle.array_reshaping_steps.specs.history_the_StepKind_TheVariants.{Finished}
use Rattle.array_reshaping_steps.specs.history_Plain.{entries_of}
use Rattle.array_reshaping_steps.specs.history_Transfers.{last_end_from}
use Rattle.array_reshaping_steps.specs.reshape_begin_end_Finished.{IsOver}
use Rattle.array_reshaping_steps.specs.array_members_Lacking.{AreTooMany}
use Rattle.array_reshaping_steps.specs.array_members_Numbers.{bears}
use Rattle.array_reshaping_steps.specs.array_members_Placed.{is_unassigned}
use Rattle.array_reshaping_steps.specs.array_members_Status.{stripes_of}
use Rattle.array_reshaping_steps.proofs.array_members_Fit.{count-alike, fit-short}
use Rattle.array_reshaping_steps.proofs.array_members_LackingLaws.{lost-since, never-both}
use Rattle.array_reshaping_steps.proofs.array_members_MovedLaws.{grows-none, moved-same}
use Rattle.array_reshaping_steps.specs.history_append_Losing.{losses_of}
use Rattle.array_reshaping_steps.specs.array_call_specs_Kept.{scope_in}
use Rattle.array_reshaping_steps.proofs.array_call_specs_LossLaws.{losses-behind, ended-behind, behind-alone}
use Rattle.array_reshaping_steps.proofs.array_call_specs_ReadyLaws.{scope-same}
use Rattle.array_reshaping_steps.specs.history_invariant_Recorded.{IsCallGoing}
use Rattle.array_reshaping_steps.specs.history_invariant_Safe.{world_in}
use Rattle.array_reshaping_steps.proofs.array_reshaping_invariant_Refusals.{quiet-refusal, refused-right}
use Rattle.array_reshaping_steps.proofs.array_reshaping_invariant_Resting.{resting-moves}
use Rattle.array_reshaping_steps.proofs.array_reshaping_invariant_Steps.{missing-since}
use Rattle.array_reshaping_steps.specs.reshape_request_Left.{phases_of}
use Rattle.array_reshaping_end_laws.proofs.Ending.{ending-last}
use Rattle.array_reshaping_steps.specs.array_reshaping_state_Due.{due_of}
use Rattle.array_reshaping_steps.specs.array_reshaping_state_the_Due_TheVariants.{Finish}
use Rattle.array_reshaping_steps.specs.array_specs_Calls.{moving_world}
use Rattle.array_reshaping_steps.specs.array_specs_Parts.{left_in, still_left}
use Rattle.array_reshaping_steps.proofs.array_specs_Called.{not_254, called, alone-lossless}
use Rattle.array_reshaping_steps.specs.array_reshaping_laws_Ready.{bytes_in}
use Rattle.array_reshaping_steps.proofs.array_reshaping_laws_Kept.{ready, shapes-same, shapes-moved, behind-keeps, behind-whole}
use Rattle.array_reshaping_steps.specs.array_specs_Plans.{ArePlansKept}
use Rattle.array_reshaping_steps.proofs.Told.{called-as}
use Rattle.array_reshaping_steps.proofs.array_specs_Lengths.{alone-keeps}
use Rattle.array_transition.specs.Ended.{ended_length}
use Rattle.array_transition.proofs.Ended.{kept-or-failed, late-held, length-same, ended-ready, ended-losses}
use Rattle.array_transition.proofs.EndedStill.{IsFinished, ended-long}
use Rattle.array_transition.proofs.Finishing.{end-due, flush-failed, refused-behind, final-few, dropped-or-failed, spare-or-dropped, spares-kept, spares-told, dropped-told, none-lost, roles-told, finish-stepped, finish-left}
use Rattle.array_transition.proofs.Parted.{both-given, both-course, both-steps, room-for-two}
use Rattle.array_transition.proofs.Told.{many-as, behind-as, ended-as}
use Rattle.array_transition.proofs.ending.finish_reshape.Goals as goal

-- ---- refused before anything is done

pub of_reshaping-requires-clause-ready : goal.of_reshaping-requires-clause-ready
of_reshaping-requires-clause-ready g c =
    let p = c.part_reshaping-pieces.result.0 in
    let course = c.part_reshaping-pieces.result.1 in
    let window = c.part_reshaping-pieces.result.2 in
    let was = c.part_reshaping-pieces.ensures.ready in
    let given = g.B.Bank.given p.bank in
    let scope = scope_in given p.epoch.uuid p.epoch.given p.backup in
    let who = c.args.who in
    let end = c.ops-end.result in
    let refusal = c.in-Some-too_many.refusal in
    let goes : IsCallGoing p.epoch.entries.items who = subst (λ s. IsCallGoing s.parts.entries who) c.part_reshaping-pieces.ensures.same c.requires.open in
    let some : 2 ≤ p.steps = subst (λ s. 2 ≤ s.parts.steps) c.part_reshaping-pieces.ensures.same c.requires.room in
    let kept = resting-moves g.B.Bank.tells given (g.B.Bank.tape p.bank) scope p.epoch.first p.epoch.entries.items p.members (bears p.work) p.work.resync course (bytes_in course.window window.items) (left_in p.work p.members course p.ahead)
    who end (Refused refusal) was.kept goes (not_254 who.caller c.requires.caller) c.ops-end.ensures.count (quiet-refusal refusal) (λ told is. is)
    (λ t right. refused-right (world_in given (g.B.Bank.tape p.bank) scope p.epoch.first) p.epoch.entries.items given p.members was.kept.members_are.placed (was.kept.gone t right) (was.kept.levelled t right) refusal c.in-Some-too_many.ensures) in
    ready (entries_of who end (Refused refusal ∷ [])) was (grows-none (λ t. refl)) (shapes-same p.members.newest) kept
    refl (λ slot. omega arith) (alone-keeps who end (Refused refusal) (λ n. refl) (λ limit. refl)) (λ none whole. whole) refl (scope-same given p.backup refl c.append_entry.ensures.uuid c.append_entry.ensures.given) c.append_entry.ensures.first refl c.append_entry.ensures.items
    (let had = was.room_left in let room = c.append_entry.ensures.room in omega (arith, had, room, some))

pub returns-in-Some-too_many-clause-refused : goal.returns-in-Some-too_many-clause-refused
returns-in-Some-too_many-clause-refused g c =
    behind-as c.args.who (Refused c.in-Some-too_many.refusal) c.args.moving c.of_reshaping.result _ _ c.part_reshaping-pieces.ensures.same c.of_reshaping.ensures.same (behind-alone c.args.who c.ops-end.result (Refused c.in-Some-too_many.refusal) refl c.append_entry.ensures.items)

pub returns-in-Some-too_many-clause-caused : goal.returns-in-Some-too_many-clause-caused
returns-in-Some-too_many-clause-caused g c = many-as c.of_reshaping.result _ c.in-Some-too_many.refusal c.of_reshaping.ensures.same c.in-Some-too_many.ensures

pub returns-in-Some-too_many-clause-called : goal.returns-in-Some-too_many-clause-called
returns-in-Some-too_many-clause-called g c =
    let p = c.part_reshaping-pieces.result.0 in
    let was = c.part_reshaping-pieces.ensures.ready in
    let given = g.B.Bank.given p.bank in
    let faults = g.B.Bank.faults_of p.bank in
    let who = c.args.who in
    let end = c.ops-end.result in
    let refusal = c.in-Some-too_many.refusal in
    called-as g.B.Bank.given g.B.Bank.tape g.B.Bank.faults_of c.args.moving c.of_reshaping.result _ _ c.part_reshaping-pieces.ensures.same c.of_reshaping.ensures.same
    (called (grows-none (λ t. refl)) (moved-same given given p.members p.members refl refl was.kept.members_are.placed was.kept.members_are.unlost)
    (ended-behind (g.B.Bank.tape p.bank) c.append_entry.new.epoch.first p.epoch.entries.items who end [] (Refused refusal) c.append_entry.ensures.items c.ops-end.ensures.count)
    (alone-lossless p.members faults faults p.epoch.entries.items p.epoch.entries.items c.append_entry.new.epoch.entries.items who end (Refused refusal) tt refl c.append_entry.ensures.items)
    (λ slot. omega arith)
    (record { uuid = c.append_entry.ensures.uuid; given = c.append_entry.ensures.given; first = c.append_entry.ensures.first; backup = refl; work = refl; ahead = refl; limit = refl })
    (λ t. (was.kept.recorded t).begun))

-- ---- what is asked of the parts

pub before_end-was-requires-clause-small : goal.before_end-was-requires-clause-small
before_end-was-requires-clause-small g c role slot held = (c.part_reshaping-pieces.ensures.ready.kept.members_are.placed.holders role slot held).small

pub finish-done-requires-clause-last : goal.finish-done-requires-clause-last
finish-done-requires-clause-last g c =
    let p = c.part_reshaping-pieces.result.0 in
    let kept = c.part_reshaping-pieces.ensures.ready.kept in
    let due = subst (λ s. due_of s.parts.members.newest s.course s.parts.work.resync ≡ Finish) c.part_reshaping-pieces.ensures.same c.requires.due in
    (end-due p.members.newest c.part_reshaping-pieces.result.1 p.work.resync kept.members_are.placed.fit kept.members_are.active kept.course_is kept.progress due).1.last

pub newly_unassigned-roles-requires-clause-known : goal.newly_unassigned-roles-requires-clause-known
newly_unassigned-roles-requires-clause-known g c =
    let p = c.part_reshaping-pieces.result.0 in
    let m = c.finish-done.new.members in
    let moved = (c.finish-done.ensures.refused c.in-Some-refusal.refusal c.in-Some-refusal.is).1 in
    let count = c.before_end-was.ensures.count in
    let long = c.part_reshaping-pieces.ensures.ready.kept.members_are.placed.roles in
    let same = count-alike p.members.newest m.newest moved.reshape moved.shape moved.size in
    let then = moved.placed.roles in
    omega (arith, count, long, same, then)

pub newly_unassigned-roles-requires-clause-few : goal.newly_unassigned-roles-requires-clause-few
newly_unassigned-roles-requires-clause-few g c =
    let placed = c.part_reshaping-pieces.ensures.ready.kept.members_are.placed in
    let few = few-roles c.part_reshaping-pieces.result.0.members.newest placed.fit.valid in
    let count = c.before_end-was.ensures.count in
    let long = placed.roles in
    omega (arith, few, count, long)

pub ended_left-left-requires-clause-size : goal.ended_left-left-requires-clause-size
ended_left-left-requires-clause-size g c = fit-short c.finish-done.new.members.newest c.finish-done.ensures.placed.fit

pub ended_left-left-requires-clause-progress : goal.ended_left-left-requires-clause-progress
ended_left-left-requires-clause-progress g c =
    let p = c.part_reshaping-pieces.result.0 in
    let kept = c.part_reshaping-pieces.ensures.ready.kept in
    let due = subst (λ s. due_of s.parts.members.newest s.course s.parts.work.resync ≡ Finish) c.part_reshaping-pieces.ensures.same c.requires.due in
    let at = end-due p.members.newest c.part_reshaping-pieces.result.1 p.work.resync kept.members_are.placed.fit kept.members_are.active kept.course_is kept.progress due in
    subst (λ (o : Option ℕ). IfSome o (λ mended. mended ≤ stripes_of c.finish-done.new.members)) (sym at.2) tt

pub told_of-told-requires-clause-size : goal.told_of-told-requires-clause-size
told_of-told-requires-clause-size g c = fit-short c.finish-done.new.members.newest c.finish-done.ensures.placed.fit

-- ---- refused behind the flush

pub of_reshaping-requires-in-Some-refusal-clause-ready : goal.of_reshaping-requires-in-Some-refusal-clause-ready
of_reshaping-requires-in-Some-refusal-clause-ready g c =
    let p = c.part_reshaping-pieces.result.0 in
    let course = c.part_reshaping-pieces.result.1 in
    let was = c.part_reshaping-pieces.ensures.ready in
    let here = was.kept.members_are in
    let given = g.B.Bank.given p.bank in
    let scope = scope_in given p.epoch.uuid p.epoch.given p.backup in
    let who = c.args.who in
    let goes : IsCallGoing p.epoch.entries.items who = subst (λ s. IsCallGoing s.parts.entries who) c.part_reshaping-pieces.ensures.same c.requires.open in
    let some : 2 ≤ p.steps = subst (λ s. 2 ≤ s.parts.steps) c.part_reshaping-pieces.ensures.same c.requires.room in
    let m = c.finish-done.new.members in
    let did = c.finish-done.ensures in
    let before = g.B.Bank.faults_of p.bank in
    let after = g.B.Bank.faults_of c.finish-done.new.bank in
    let vacant = c.before_end-was.result.vacant in
    let roles = c.newly_unassigned-roles.result in
    let spares = c.finish-done.result.spares in
    let end = c.ops-end-2.result in
    let refusal = c.in-Some-refusal.refusal in
    let is = c.in-Some-refusal.is in
    let moved = (did.refused refusal is).1 in
    let failed = flush-failed given p.members m c.finish-done.result.roles spares c.finish-done.result.lost before after (did.refused refusal is).0 here.free moved did.failed in
    let since = lost-since given p.members m c.before_end-was.result.count vacant roles spares before after here.placed moved failed
    (c.before_end-was.ensures.count ∙ here.placed.roles)
    (λ role. c.before_end-was.ensures.vacant role ∙ ap (λ (n : ℕ). nat_lt role n && is_unassigned (reading_of p.members) role) (sym c.before_end-was.ensures.count)) c.newly_unassigned-roles.ensures in
    let many = subst (λ (o : Option Refusal). MatchOption o (IsOver p.members.newest m.newest) (AreTooMany m)) is did.answer in
    let kept = refused-behind course p.ahead who end roles spares refusal was.kept c.in_default-too_many.ensures goes c.requires.caller c.ops-end-2.ensures.count did.bank.grows moved since (did.untouched refusal is).0 many
    did.rise (did.untouched refusal is).1 did.others (did.kept refusal is) in
    ready (entries_of who end (losses_of roles spares ++ Refused refusal ∷ [])) was did.bank.grows (shapes-moved given p.members m moved) kept
    refl did.bank.counts (behind-keeps who end roles spares (Refused refusal) (λ n. refl) (λ limit. refl))
    (behind-whole (g.B.Bank.tape c.finish-done.new.bank) scope p.epoch.first p.epoch.entries.items who end roles spares (Refused refusal) moved (missing-since roles moved since.vacant))
    did.bank.same (scope-same given p.backup did.bank.same c.append_after_losses.ensures.uuid c.append_after_losses.ensures.given) c.append_after_losses.ensures.first refl c.append_after_losses.ensures.items
    (let had = was.room_left in let room = c.append_after_losses.ensures.room in omega (arith, had, room, some))

pub returns-in-Some-refusal-clause-caused : goal.returns-in-Some-refusal-clause-caused
returns-in-Some-refusal-clause-caused g c =
    let p = c.part_reshaping-pieces.result.0 in
    let m = c.finish-done.new.members in
    many-as c.of_reshaping-in-Some-refusal.result _ c.in-Some-refusal.refusal c.of_reshaping-in-Some-refusal.ensures.same (subst (λ (o : Option Refusal). MatchOption o (IsOver p.members.newest m.newest) (AreTooMany m)) c.in-Some-refusal.is c.finish-done.ensures.answer)

pub returns-in-Some-refusal-clause-called : goal.returns-in-Some-refusal-clause-called
returns-in-Some-refusal-clause-called g c =
    let p = c.part_reshaping-pieces.result.0 in
    let was = c.part_reshaping-pieces.ensures.ready in
    let here = was.kept.members_are in
    let given = g.B.Bank.given p.bank in
    let who = c.args.who in
    let m = c.finish-done.new.members in
    let did = c.finish-done.ensures in
    let before = g.B.Bank.faults_of p.bank in
    let after = g.B.Bank.faults_of c.finish-done.new.bank in
    let vacant = c.before_end-was.result.vacant in
    let roles = c.newly_unassigned-roles.result in
    let spares = c.finish-done.result.spares in
    let end = c.ops-end-2.result in
    let refusal = c.in-Some-refusal.refusal in
    let is = c.in-Some-refusal.is in
    let moved = (did.refused refusal is).1 in
    let failed = flush-failed given p.members m c.finish-done.result.roles spares c.finish-done.result.lost before after (did.refused refusal is).0 here.free moved did.failed in
    let since = lost-since given p.members m c.before_end-was.result.count vacant roles spares before after here.placed moved failed
    (c.before_end-was.ensures.count ∙ here.placed.roles)
    (λ role. c.before_end-was.ensures.vacant role ∙ ap (λ (n : ℕ). nat_lt role n && is_unassigned (reading_of p.members) role) (sym c.before_end-was.ensures.count)) c.newly_unassigned-roles.ensures in
    called-as g.B.Bank.given g.B.Bank.tape g.B.Bank.faults_of c.args.moving c.of_reshaping-in-Some-refusal.result _ _ c.part_reshaping-pieces.ensures.same c.of_reshaping-in-Some-refusal.ensures.same (called did.bank.grows moved
    (ended-behind (g.B.Bank.tape c.finish-done.new.bank) c.append_after_losses.new.epoch.first p.epoch.entries.items who end (losses_of roles spares) (Refused refusal) c.append_after_losses.ensures.items c.ops-end-2.ensures.count)
    (losses-behind p.members m before after p.epoch.entries.items p.epoch.entries.items c.append_after_losses.new.epoch.entries.items who end roles spares (Refused refusal) since tt refl c.append_after_losses.ensures.items)
    did.bank.counts
    (record { uuid = c.append_after_losses.ensures.uuid; given = c.append_after_losses.ensures.given; first = c.append_after_losses.ensures.first; backup = refl; work = refl; ahead = refl; limit = refl })
    (λ t. (was.kept.recorded t).begun))

-- ---- it is done

pub of_fixed-requires : goal.of_fixed-requires
of_fixed-requires g c =
    let p = c.part_reshaping-pieces.result.0 in
    let same = c.part_reshaping-pieces.ensures.same in
    let was = c.part_reshaping-pieces.ensures.ready in
    let here = was.kept.members_are in
    let given = g.B.Bank.given p.bank in
    let tape = g.B.Bank.tape p.bank in
    let who = c.args.who in
    let goes : IsCallGoing p.epoch.entries.items who = subst (λ s. IsCallGoing s.parts.entries who) same c.requires.open in
    let some : 2 ≤ p.steps = subst (λ s. 2 ≤ s.parts.steps) same c.requires.room in
    let due = subst (λ s. due_of s.parts.members.newest s.course s.parts.work.resync ≡ Finish) same c.requires.due in
    let plans = subst (λ s. ArePlansKept g.B.Bank.tells (moving_world (g.B.Bank.given s.parts.bank) (g.B.Bank.tape s.parts.bank) s) s) same c.requires.plans in
    let at = end-due p.members.newest c.part_reshaping-pieces.result.1 p.work.resync here.placed.fit here.active was.kept.course_is was.kept.progress due in
    let m = c.finish-done.new.members in
    let did = c.finish-done.ensures in
    let none = c.in_default-refusal.is in
    let roles = c.finish-done.result.roles in
    let spares = c.finish-done.result.spares in
    let end = c.ops-end-2.result in
    let told = c.told_of-told.result in
    let tell = c.told_of-told.ensures in
    let over = subst (λ (o : Option Refusal). MatchOption o (IsOver p.members.newest m.newest) (AreTooMany m)) none did.answer in
    let finished : IsFinished g.B.Bank.tells given tape (g.B.Bank.tape c.finish-done.new.bank) p.members m roles spares c.finish-done.result.lost (g.B.Bank.faults_of p.bank) (g.B.Bank.faults_of c.finish-done.new.bank) = record {
      over = over;
      ended = did.ended none;
      placed = did.placed;
      unlost = did.unlost;
      free = did.free;
      states = did.states;
      offsets = did.offsets;
      others = did.others;
      grows = did.bank.grows;
      rise = did.rise;
      failed = did.failed;
      safe = did.safe none;
      counts = did.bank.counts;
    } in
    let left_is : c.ended_left-left.result ≡ still_left p.work m p.ahead = c.ended_left-left.ensures in
    let before_is : told.before ≡ list_length p.members.newest = tell.before ∙ c.before_end-was.ensures.size in
    let size_is : told.size ≡ list_length m.newest = tell.size ∙ (λ i. data_disks (over.shape i) * over.size i) ∙ sym (ended-long p.members m over) in
    let items = c.enter_ended.ensures.items
    ∙ (λ i. p.epoch.entries.items ++ entries_of who end (losses_of (tell.roles i) (tell.spares i) ++ Step Finished (left_is i) ∷ (ended_length (before_is i) (size_is i) ++ losses_of told.late told.late_spares)))
    ∙ ap (λ (l : List Event). p.epoch.entries.items ++ entries_of who end (losses_of roles spares ++ Step Finished (still_left p.work m p.ahead) ∷ (l ++ losses_of told.late told.late_spares)))
    (length-same (nat_lt (list_length p.members.newest) (list_length m.newest)) (list_length m.newest)) in
    record {
      ready = ended-ready p.ahead who end c.before_end-was.result.vacant roles spares c.finish-done.result.lost told.late told.late_spares was at.0 at.2 goes c.requires.caller at.1.last finished c.ops-end-2.ensures.count
          c.before_end-was.ensures.vacant tell.late
          (finish-stepped given p.members m p.work p.ahead c.part_reshaping-pieces.result.1 who end c.before_end-was.result.vacant roles spares told.late told.late_spares here.placed here.whole at.0 at.1 did.placed over at.2
          did.states c.before_end-was.ensures.vacant tell.late)
          plans did.bank.same (scope-same given p.backup did.bank.same c.enter_ended.ensures.uuid c.enter_ended.ensures.given) c.enter_ended.ensures.first refl items
          (let had = was.room_left in let room = c.enter_ended.ensures.room in omega (arith, had, room, some));
    }

pub returns-clause-ended : goal.returns-clause-ended
returns-clause-ended g c =
    let p = c.part_reshaping-pieces.result.0 in
    let same = c.part_reshaping-pieces.ensures.same in
    let was = c.part_reshaping-pieces.ensures.ready in
    let here = was.kept.members_are in
    let given = g.B.Bank.given p.bank in
    let who = c.args.who in
    let some : 2 ≤ p.steps = subst (λ s. 2 ≤ s.parts.steps) same c.requires.room in
    let due = subst (λ s. due_of s.parts.members.newest s.course s.parts.work.resync ≡ Finish) same c.requires.due in
    let at = end-due p.members.newest c.part_reshaping-pieces.result.1 p.work.resync here.placed.fit here.active was.kept.course_is was.kept.progress due in
    let m = c.finish-done.new.members in
    let did = c.finish-done.ensures in
    let none = c.in_default-refusal.is in
    let before = g.B.Bank.faults_of p.bank in
    let after = g.B.Bank.faults_of c.finish-done.new.bank in
    let vacant = c.before_end-was.result.vacant in
    let roles = c.finish-done.result.roles in
    let spares = c.finish-done.result.spares in
    let lost = c.finish-done.result.lost in
    let end = c.ops-end-2.result in
    let told = c.told_of-told.result in
    let tell = c.told_of-told.ensures in
    let over = subst (λ (o : Option Refusal). MatchOption o (IsOver p.members.newest m.newest) (AreTooMany m)) none did.answer in
    let left = still_left p.work m p.ahead in
    let long = list_length m.newest in
    let longer = nat_lt (list_length p.members.newest) (list_length m.newest) in
    let left_is : c.ended_left-left.result ≡ still_left p.work m p.ahead = c.ended_left-left.ensures in
    let before_is : told.before ≡ list_length p.members.newest = tell.before ∙ c.before_end-was.ensures.size in
    let size_is : told.size ≡ list_length m.newest = tell.size ∙ (λ i. data_disks (over.shape i) * over.size i) ∙ sym (ended-long p.members m over) in
    let entered = c.enter_ended.ensures.items
    ∙ (λ i. p.epoch.entries.items ++ entries_of who end (losses_of (tell.roles i) (tell.spares i) ++ Step Finished (left_is i) ∷ (ended_length (before_is i) (size_is i) ++ losses_of told.late told.late_spares))) in
    let items = entered
    ∙ ap (λ (l : List Event). p.epoch.entries.items ++ entries_of who end (losses_of roles spares ++ Step Finished (still_left p.work m p.ahead) ∷ (l ++ losses_of told.late told.late_spares)))
    (length-same (nat_lt (list_length p.members.newest) (list_length m.newest)) (list_length m.newest)) in
    ended-as g.B.Bank.given g.B.Bank.tape g.B.Bank.faults_of who c.args.moving c.of_fixed.result _ _ same c.of_fixed.ensures.same (record {
      could = λ refusal many. never-both p.members refusal c.in_default-too_many.ensures many;
      entered = record {
        roles = roles;
        spares = spares;
        late = told.late;
        late_spares = told.late_spares;
        end = end;
        roles_told = roles-told given p.members m p.work p.ahead c.part_reshaping-pieces.result.1 who end vacant roles spares told.late told.late_spares here.placed here.whole at.0 at.1 did.placed over at.2
            did.states c.before_end-was.ensures.vacant tell.late;
        spares_told = spares-told given p.members m c.before_end-was.result.held roles spares lost told.late_spares before after here.placed here.free did.placed over did.failed tell.late_spares c.before_end-was.ensures.only;
        dropped_told = dropped-told given p.members m c.before_end-was.result.held roles spares lost told.late_spares before after here.placed here.free did.placed over did.failed tell.late_spares c.before_end-was.ensures.only;
        is = entered;
      };
      ended = λ t. ap (last_end_from c.enter_ended.new.epoch.first) items
          ∙ ending-last who end roles spares left longer long told.late told.late_spares c.enter_ended.new.epoch.first p.epoch.entries.items ∙ c.ops-end-2.ensures.count t;
      grows = did.bank.grows;
      over = over;
      left = λ whole none_told. finish-left given p.members m p.work p.ahead c.part_reshaping-pieces.result.1 who end vacant roles spares told.late told.late_spares here.placed here.whole at.0 at.1 did.placed over at.2
          did.states c.before_end-was.ensures.vacant tell.late whole
          (none-lost p.epoch.entries.items c.enter_ended.new.epoch.entries.items who end roles spares left long told.late told.late_spares longer items none_told);
      long = ended-long p.members m over;
      held = λ role slot held. ap holder (sym (did.states role slot held)) ∙ held;
      kept = kept-or-failed p.members m roles spares lost before after did.failed;
      dropped = dropped-or-failed given p.members m roles spares lost before after did.placed over did.failed;
      spares = spare-or-dropped g.B.Bank.tells given p.members m roles (g.B.Bank.tape p.bank) (g.B.Bank.tape c.finish-done.new.bank) here.active here.whole (did.ended none);
      spares_kept = spares-kept p.members m roles spares lost before after did.failed;
      losses = ended-losses p.members m roles spares lost before after did.failed told.late told.late_spares
          (late-held p.members m roles spares lost before after did.failed vacant told.late c.before_end-was.ensures.vacant (final-few given p.members here.placed)
          (λ role. tell.late role ∙ ap (λ (s : Shape). (nat_lt role s.disks && is_unassigned (reading_of m) role) && not (has_slot vacant role || has_slot roles role)) over.shape))
          (λ slot has. (and_parts (has_slot lost slot) (not (has_slot c.before_end-was.result.held slot)) (sym (tell.late_spares slot) ∙ has)).0) c.before_end-was.result.held
          (λ slot has. (and_parts (has_slot lost slot) (not (has_slot c.before_end-was.result.held slot)) (sym (tell.late_spares slot) ∙ has)).1)
          c.before_end-was.ensures.held
          p.epoch.entries.items p.epoch.entries.items c.enter_ended.new.epoch.entries.items who end left long longer refl items;
      never_falls = did.bank.counts;
      others = did.others;
      course = refl;
      ahead = refl;
      steps = omega (arith, some);
      same = record { uuid = c.enter_ended.ensures.uuid; given = c.enter_ended.ensures.given; first = c.enter_ended.ensures.first; backup = refl; work = refl; limit = refl };
    })

-- ---- what the calls ask for

pub overflow_sub-pieces : goal.overflow_sub-pieces
overflow_sub-pieces g c = subst (λ s. 2 ≤ s.parts.steps) c.part_reshaping-pieces.ensures.same c.requires.room

pub check_going-requires : goal.check_going-requires
check_going-requires g c = subst (λ s. IsCallGoing s.parts.entries c.args.who) c.part_reshaping-pieces.ensures.same c.requires.open

pub too_many-requires-clause-shapes : goal.too_many-requires-clause-shapes
too_many-requires-clause-shapes g c = c.part_reshaping-pieces.ensures.ready.kept.members_are.placed.fit.valid

pub too_many-requires-clause-roles : goal.too_many-requires-clause-roles
too_many-requires-clause-roles g c = c.part_reshaping-pieces.ensures.ready.kept.members_are.placed.roles

pub append_entry-requires-clause-room : goal.append_entry-requires-clause-room
append_entry-requires-clause-room g c =
    room-for-two 1 c.part_reshaping-pieces.result.0.steps c.part_reshaping-pieces.result.0.epoch.entries.room c.part_reshaping-pieces.ensures.ready.room_left (subst (λ s. 2 ≤ s.parts.steps) c.part_reshaping-pieces.ensures.same c.requires.room) (omega arith)

pub before_end-was-requires-clause-fit : goal.before_end-was-requires-clause-fit
before_end-was-requires-clause-fit g c = c.part_reshaping-pieces.ensures.ready.kept.members_are.placed.fit

pub before_end-was-requires-clause-roles : goal.before_end-was-requires-clause-roles
before_end-was-requires-clause-roles g c = c.part_reshaping-pieces.ensures.ready.kept.members_are.placed.roles

pub finish-done-requires-clause-stands : goal.finish-done-requires-clause-stands
finish-done-requires-clause-stands g c =
    record {
      slots = c.part_reshaping-pieces.ensures.ready.kept.slots;
      placed = c.part_reshaping-pieces.ensures.ready.kept.members_are.placed;
      unlost = c.part_reshaping-pieces.ensures.ready.kept.members_are.unlost;
      free = c.part_reshaping-pieces.ensures.ready.kept.members_are.free;
    }

pub finish-done-requires-clause-active : goal.finish-done-requires-clause-active
finish-done-requires-clause-active g c = c.part_reshaping-pieces.ensures.ready.kept.members_are.active

pub finish-done-requires-clause-whole : goal.finish-done-requires-clause-whole
finish-done-requires-clause-whole g c = c.part_reshaping-pieces.ensures.ready.kept.members_are.whole

pub append_after_losses-requires-clause-room : goal.append_after_losses-requires-clause-room
append_after_losses-requires-clause-room g c =
    room-for-two 49 c.part_reshaping-pieces.result.0.steps c.part_reshaping-pieces.result.0.epoch.entries.room c.part_reshaping-pieces.ensures.ready.room_left (subst (λ s. 2 ≤ s.parts.steps) c.part_reshaping-pieces.ensures.same c.requires.room) (omega arith)

pub enter_ended-requires-clause-room : goal.enter_ended-requires-clause-room
enter_ended-requires-clause-room g c =
    room-for-two 98 c.part_reshaping-pieces.result.0.steps c.part_reshaping-pieces.result.0.epoch.entries.room c.part_reshaping-pieces.ensures.ready.room_left (subst (λ s. 2 ≤ s.parts.steps) c.part_reshaping-pieces.ensures.same c.requires.room) (omega arith)

pub ended_left-left-requires-clause-shape : goal.ended_left-left-requires-clause-shape
ended_left-left-requires-clause-shape g c = c.finish-done.ensures.placed.fit.valid.old

pub told_of-told-requires-clause-shape : goal.told_of-told-requires-clause-shape
told_of-told-requires-clause-shape g c = c.finish-done.ensures.placed.fit.valid.old

-- ---- what is as it was

pub returns-in-Some-too_many-clause-course : goal.returns-in-Some-too_many-clause-course
returns-in-Some-too_many-clause-course g c = both-course c.args.moving c.of_reshaping.result _ _ c.part_reshaping-pieces.ensures.same c.of_reshaping.ensures.same refl

pub returns-in-Some-too_many-clause-steps : goal.returns-in-Some-too_many-clause-steps
returns-in-Some-too_many-clause-steps g c =
    both-steps 2 c.args.moving c.of_reshaping.result _ _ c.part_reshaping-pieces.ensures.same c.of_reshaping.ensures.same refl (subst (λ s. 2 ≤ s.parts.steps) c.part_reshaping-pieces.ensures.same c.requires.room)

pub returns-in-Some-too_many-clause-left_given : goal.returns-in-Some-too_many-clause-left_given
returns-in-Some-too_many-clause-left_given g c =
    both-given g.B.Bank.given c.args.moving c.of_reshaping.result _ _ c.part_reshaping-pieces.ensures.same c.of_reshaping.ensures.same refl

pub returns-in-Some-refusal-clause-course : goal.returns-in-Some-refusal-clause-course
returns-in-Some-refusal-clause-course g c =
    both-course c.args.moving c.of_reshaping-in-Some-refusal.result _ _ c.part_reshaping-pieces.ensures.same c.of_reshaping-in-Some-refusal.ensures.same refl

pub returns-in-Some-refusal-clause-steps : goal.returns-in-Some-refusal-clause-steps
returns-in-Some-refusal-clause-steps g c =
    both-steps 2 c.args.moving c.of_reshaping-in-Some-refusal.result _ _ c.part_reshaping-pieces.ensures.same c.of_reshaping-in-Some-refusal.ensures.same refl (subst (λ s. 2 ≤ s.parts.steps) c.part_reshaping-pieces.ensures.same c.requires.room)

pub returns-in-Some-refusal-clause-left_given : goal.returns-in-Some-refusal-clause-left_given
returns-in-Some-refusal-clause-left_given g c =
    both-given g.B.Bank.given c.args.moving c.of_reshaping-in-Some-refusal.result _ _ c.part_reshaping-pieces.ensures.same c.of_reshaping-in-Some-refusal.ensures.same c.finish-done.ensures.bank.same

pub returns-in-Some-refusal-clause-refused : goal.returns-in-Some-refusal-clause-refused
returns-in-Some-refusal-clause-refused g c =
    behind-as c.args.who (Refused c.in-Some-refusal.refusal) c.args.moving c.of_reshaping-in-Some-refusal.result _ _ c.part_reshaping-pieces.ensures.same c.of_reshaping-in-Some-refusal.ensures.same
    (record { roles = c.newly_unassigned-roles.result; spares = c.finish-done.result.spares; end = c.ops-end-2.result; is = c.append_after_losses.ensures.items })

pub returns-clause-given : goal.returns-clause-given
returns-clause-given g c =
    both-given g.B.Bank.given c.args.moving c.of_fixed.result _ _ c.part_reshaping-pieces.ensures.same c.of_fixed.ensures.same c.finish-done.ensures.bank.same

pub ended_left-left-requires-clause-sound : goal.ended_left-left-requires-clause-sound
ended_left-left-requires-clause-sound g c =
    let p = c.part_reshaping-pieces.result.0 in
    let m = c.finish-done.new.members in
    let over = subst (λ (o : Option Refusal). MatchOption o (IsOver p.members.newest m.newest) (AreTooMany m)) c.in_default-refusal.is c.finish-done.ensures.answer in
    subst (λ (n : ℕ). AreSound (shape_of m.newest) n (phases_of p.ahead)) (sym over.size) (subst (λ (s : Shape). AreSound s p.members.newest.size (phases_of p.ahead)) (sym over.shape) c.part_reshaping-pieces.ensures.ready.planned)

-- ---- whether a reshape is active

pub returns-in-Some-too_many-clause-left_active : goal.returns-in-Some-too_many-clause-left_active
returns-in-Some-too_many-clause-left_active g c = ap (λ s. is_reshaping s.parts.members.newest) c.of_reshaping.ensures.same ∙ c.part_reshaping-pieces.ensures.ready.kept.members_are.active

pub returns-in-Some-refusal-clause-left_active : goal.returns-in-Some-refusal-clause-left_active
returns-in-Some-refusal-clause-left_active g c =
    ap (λ s. is_reshaping s.parts.members.newest) c.of_reshaping-in-Some-refusal.ensures.same
    ∙ ((c.finish-done.ensures.refused c.in-Some-refusal.refusal c.in-Some-refusal.is).1.reshape.reshaping ∙ c.part_reshaping-pieces.ensures.ready.kept.members_are.active)

pub returns-clause-still : goal.returns-clause-still
returns-clause-still g c =
    let over = subst (λ (o : Option Refusal). MatchOption o (IsOver c.part_reshaping-pieces.result.0.members.newest c.finish-done.new.members.newest) (AreTooMany c.finish-done.new.members)) c.in_default-refusal.is c.finish-done.ensures.answer in
    ap (λ s. is_reshaping s.parts.members.newest) c.of_fixed.ensures.same ∙ over.still
