use Rattle.std.proofs.Common.{◌⊎◌, inl, ◌≤◌, ℕ, ◌-◌, ◌*◌, List, [], ◌∷◌, ◌++◌, take, Some, refl, sym, subst, arith, ◌∙◌, ap}
use Rattle.std.specs.Vec.{with_items}
use Rattle.array_type.specs.sb_specs_Reading.{final_shape, list_length, is_clean, is_reshaping}
use Rattle.array_type.specs.stripe_row_Rows.{present}
use Rattle.array_type.specs.history_the_Event_TheVariants.{Refused, Step}
use Rattle.array_type.specs.history_the_StepKind_TheVariants.{WindowFinished as FinishesWindow}
use Rattle.array_type.specs.history_Plain.{entries_of}
use Rattle.array_type.specs.crash_views_Windows.{moved_past}
use Rattle.array_type.specs.array_members_Lacking.{AreTooMany, HaveRolesFailed}
use Rattle.array_type.specs.array_members_Numbers.{bears}
use Rattle.array_type.proofs.array_members_LackingLaws.{never-both}
use Rattle.array_type.proofs.array_members_MovedLaws.{grows-none, moved-same}
use Rattle.array_type.specs.history_append_Losing.{losses_of}
use Rattle.array_type.specs.array_call_specs_Kept.{scope_in}
use Rattle.array_type.proofs.array_call_specs_LossLaws.{losses-behind, ended-behind, behind-alone}
use Rattle.array_type.proofs.array_call_specs_ReadyLaws.{scope-same, list-same}
use Rattle.array_type.proofs.array_call_specs_ReplyLaws.{too-many-of, refused-for}
use Rattle.array_type.specs.history_invariant_Recorded.{IsCallGoing}
use Rattle.array_type.specs.history_invariant_Safe.{world_in}
use Rattle.array_type.specs.reshape_progress_the_Course.{Course}
use Rattle.array_type.specs.reshape_request_the_Window.{Window}
use Rattle.array_type.specs.reshape_progress_Course.{IsWindowOf}
use Rattle.array_type.specs.reshape_progress_resync_laws_Synced.{IsAside, IsUnsynced}
use Rattle.array_type.proofs.array_reshaping_state_ReshapeLaws.{window-reach, under-way-of}
use Rattle.array_type.proofs.array_reshaping_invariant_FinishedCall.{IsFinishedBy}
use Rattle.array_type.proofs.array_reshaping_invariant_Going.{going-on}
use Rattle.array_type.proofs.array_reshaping_invariant_Refusals.{quiet-refusal, refused-right}
use Rattle.array_type.proofs.array_reshaping_invariant_Resting.{resting-moves}
use Rattle.array_type.proofs.array_reshaping_invariant_Steps.{missing-since}
use Rattle.array_type.specs.array_reshaping_invariant_Moving.{IsWindowStanding}
use Rattle.array_type.specs.array_reshaping_state_Due.{open_in}
use Rattle.array_type.specs.array_specs_Parts.{left_in}
use Rattle.array_type.specs.array_reshaping_laws_Ready.{bytes_in}
use Rattle.array_type.specs.array_reshaping_laws_Writing.{IsWindowOpen}
use Rattle.array_type.proofs.array_specs_Called.{not_254, called, alone-lossless, many-of}
use Rattle.array_type.proofs.array_reshaping_laws_Kept.{ready, ready-moved, shapes-same, shapes-moved, behind-keeps, behind-whole, with-buffer}
use Rattle.array_type.proofs.array_reshaping_laws_RecordLaws.{moved-if, moved-none, shapes-past}
use Rattle.array_type.proofs.array_reshaping_laws_WriteLaws.{finish-relied, finished-missing, open-is, finish-left, finish-done, finish-stands, finish-refused, recorded-as}
use Rattle.array_type.specs.reshape_request_Left.{phases_of}
use Rattle.array_type.specs.array_call_specs_Calls.{IsRefusedFor}
use Rattle.array_type.proofs.ReshapingCalls.{room-49, one-less, many-refused, sound-same, closed-sure, never-falls, room-after-1, room-after-49, scratch-of, step-entered, called-over, zero-le}
use Rattle.array_type.specs.stripe_region_resync_Resyncs.{relied_sector}
use Rattle.array_type.proofs.array_specs_Lengths.{alone-keeps}
use Rattle.array_type.proofs.Alike.{alike, goes-on}
use Rattle.array_reshaping_steps.proofs.finishing.finish_open.Goals as goal

-- ---- the members lack too many

pub invariant_of-moving : goal.invariant_of-moving
invariant_of-moving g c =
    goes-on (c.moving.invariant.moves (ap (λ p. is_reshaping p.parts.members.newest) c.moving.view_is ∙ c.requires.active)).0 (
    let was = (c.moving.invariant.moves (ap (λ p. is_reshaping p.parts.members.newest) c.moving.view_is ∙ c.requires.active)).1 in
    let a = c.moving.inside in
    let given = g.B.Bank.given a.bank in
    let scope = scope_in given a.epoch.uuid a.epoch.given a.backup in
    let goes : IsCallGoing a.epoch.entries.items c.args.who = subst (λ p. IsCallGoing p.parts.entries c.args.who) (sym c.moving.view_is) c.requires.open in
    let steps : 1 ≤ a.steps = subst (λ p. 1 ≤ p.parts.steps) (sym c.moving.view_is) c.requires.room in
    let tape = g.B.Bank.tape a.bank in
    let end = c.ops-end.result in
    let refusal = c.in-Some.refusal in
    let kept = resting-moves g.B.Bank.tells given tape scope a.epoch.first a.epoch.entries.items a.members (bears a.work) a.work.resync a.course (bytes_in a.course.window a.window.items) (left_in a.work a.members a.course a.ahead)
    c.args.who end (Refused refusal) was.kept goes (not_254 c.args.who.caller c.requires.caller) c.ops-end.ensures.count (quiet-refusal refusal) (λ told is. is)
    (λ t right. refused-right (world_in given tape scope a.epoch.first) a.epoch.entries.items given a.members was.kept.members_are.placed (was.kept.gone t right) (was.kept.levelled t right) refusal c.in-Some.ensures) in
    ready (entries_of c.args.who end (Refused refusal ∷ [])) was (grows-none (λ t. refl)) (shapes-same a.members.newest) kept
    refl (never-falls _) (alone-keeps c.args.who end (Refused refusal) (λ n. refl) (λ limit. refl)) (λ none whole. whole) refl (scope-same given a.backup refl c.append_entry.ensures.uuid c.append_entry.ensures.given) c.append_entry.ensures.first refl c.append_entry.ensures.items
    (room-after-1 a.steps a.epoch.entries.room c.append_entry.new.epoch.entries.room was.room_left c.append_entry.ensures.room steps))

pub returns-in-Some-clause-called : goal.returns-in-Some-clause-called
returns-in-Some-clause-called g c =
    let was = (alike c.moving.invariant) in
    let a = c.moving.inside in
    let given = g.B.Bank.given a.bank in
    let faults = g.B.Bank.faults_of a.bank in
    let end = c.ops-end.result in
    let refusal = c.in-Some.refusal in
    called-over g.B.Bank.given g.B.Bank.tape g.B.Bank.faults_of c.moving.view_is (called (grows-none (λ t. refl)) (moved-same given given a.members a.members refl refl was.kept.members_are.placed was.kept.members_are.unlost)
    (ended-behind (g.B.Bank.tape a.bank) c.append_entry.new.epoch.first a.epoch.entries.items c.args.who end [] (Refused refusal) c.append_entry.ensures.items c.ops-end.ensures.count)
    (alone-lossless a.members faults faults a.epoch.entries.items a.epoch.entries.items c.append_entry.new.epoch.entries.items c.args.who end (Refused refusal) tt refl c.append_entry.ensures.items)
    (never-falls _)
    (record { uuid = c.append_entry.ensures.uuid; given = c.append_entry.ensures.given; first = c.append_entry.ensures.first; backup = refl; work = refl; ahead = refl; limit = refl })
    (λ t. (was.kept.recorded t).begun))

pub returns-in-Some-clause-entered : goal.returns-in-Some-clause-entered
returns-in-Some-clause-entered g c =
    rw (← c.moving.view_is) (behind-alone c.args.who c.ops-end.result (Refused c.in-Some.refusal) refl c.append_entry.ensures.items)

-- ---- the window

pub finish_rest-rest-requires-clause-next : goal.finish_rest-rest-requires-clause-next
finish_rest-rest-requires-clause-next g c =
    let a = c.moving.inside in
    let due = open-is _ c.in-Entered.span c.in-Entered.copied c.in-Entered.sectioned (subst (λ p. IsWindowOpen p) (sym c.moving.view_is) c.requires.due) c.in-Entered.is in
    (subst (λ (k : Course). IsWindowOf a.members.newest k.window) due (c.moving.invariant.moves (ap (λ p. is_reshaping p.parts.members.newest) c.moving.view_is ∙ c.requires.active)).1.kept.course_is.window).0

pub finish_rest-rest-requires-clause-from : goal.finish_rest-rest-requires-clause-from
finish_rest-rest-requires-clause-from g c =
    let a = c.moving.inside in
    let due = open-is _ c.in-Entered.span c.in-Entered.copied c.in-Entered.sectioned (subst (λ p. IsWindowOpen p) (sym c.moving.view_is) c.requires.due) c.in-Entered.is in
    (subst (λ (k : Course). IsWindowOf a.members.newest k.window) due (c.moving.invariant.moves (ap (λ p. is_reshaping p.parts.members.newest) c.moving.view_is ∙ c.requires.active)).1.kept.course_is.window).1

pub finish_rest-rest-requires-clause-wide : goal.finish_rest-rest-requires-clause-wide
finish_rest-rest-requires-clause-wide g c =
    let was = (c.moving.invariant.moves (ap (λ p. is_reshaping p.parts.members.newest) c.moving.view_is ∙ c.requires.active)).1 in
    let a = c.moving.inside in
    let due = open-is _ c.in-Entered.span c.in-Entered.copied c.in-Entered.sectioned (subst (λ p. IsWindowOpen p) (sym c.moving.view_is) c.requires.due) c.in-Entered.is in
    let window = (subst (λ (k : Course). IsWindowOf a.members.newest k.window) due was.kept.course_is.window).0 in
    let reach = window-reach a.members.newest was.kept.members_are.placed.fit c.in-Entered.span window in
    let wide = was.wide in
    omega (arith, reach, wide)

-- ---- it isn't finished

pub invariant_of-moving-in-Some-refusal : goal.invariant_of-moving-in-Some-refusal
invariant_of-moving-in-Some-refusal g c =
    goes-on (c.moving.invariant.moves (ap (λ p. is_reshaping p.parts.members.newest) c.moving.view_is ∙ c.requires.active)).0 (
    let was = (c.moving.invariant.moves (ap (λ p. is_reshaping p.parts.members.newest) c.moving.view_is ∙ c.requires.active)).1 in
    let a = c.moving.inside in
    let given = g.B.Bank.given a.bank in
    let scope = scope_in given a.epoch.uuid a.epoch.given a.backup in
    let goes : IsCallGoing a.epoch.entries.items c.args.who = subst (λ p. IsCallGoing p.parts.entries c.args.who) (sym c.moving.view_is) c.requires.open in
    let steps : 1 ≤ a.steps = subst (λ p. 1 ≤ p.parts.steps) (sym c.moving.view_is) c.requires.room in
    let m = c.finish_rest-rest.new.members in
    let did = c.finish_rest-rest.ensures in
    let tape = g.B.Bank.tape a.bank in
    let tape' = g.B.Bank.tape c.finish_rest-rest.new.bank in
    let roles = c.finish_rest-rest.result.roles in
    let spares = c.finish_rest-rest.result.spares in
    let end = c.ops-end-2.result in
    let refusal = c.in-Some-refusal.refusal in
    let span = c.in-Entered.span in
    let due = open-is _ span c.in-Entered.copied c.in-Entered.sectioned (subst (λ p. IsWindowOpen p) (sym c.moving.view_is) c.requires.due) c.in-Entered.is in
    let by : IsFinishedBy g.B.Bank.tells given tape tape' a.members m (final_shape a.members.newest) span c.in-Entered.copied c.finish_rest-rest.result.copied (take (512 * (span.hi - span.lo)) c.as_slice.result.now) roles c.finish_rest-rest.result.refusal =
    record {
      final = refl;
      moved = did.moved;
      refused = did.refused;
      clean = did.clean;
      all = did.all;
      stands = did.stands;
      others = did.others;
      plain = did.plain;
      rise = did.rise;
      unused = did.unused;
      since = finished-missing given a.members m span c.finish_rest-rest.result.refusal did.moved did.since;
      safe = did.safe;
    } in
    let kept = finish-refused a.course a.ahead a.window.items span c.in-Entered.copied c.finish_rest-rest.result.copied c.in-Entered.sectioned c.args.who end roles spares was.kept due goes c.requires.caller c.ops-end-2.ensures.count
    did.bank.grows c.in_default.ensures c.finish_rest-rest.result.refusal
    (subst (λ (l : List ℕ). IsFinishedBy g.B.Bank.tells given tape tape' a.members m (final_shape a.members.newest) span c.in-Entered.copied c.finish_rest-rest.result.copied (take (512 * (span.hi - span.lo)) l) roles c.finish_rest-rest.result.refusal) c.as_slice.ensures.value by)
    refusal c.in-Some-refusal.is in
    let moved = moved-if given span a.members m c.finish_rest-rest.result.refusal refusal c.in-Some-refusal.is did.moved in
    with-buffer (let len = (with_items a.buffer c.finish_rest-rest.new.scratch).ok.0 in let ok = a.buffer.ok.0 in omega (arith, len, ok, was.buffer_fits))
    (ready (entries_of c.args.who end (losses_of roles spares ++ Refused refusal ∷ [])) was did.bank.grows (shapes-moved given a.members m moved) kept
    refl did.bank.counts (behind-keeps c.args.who end roles spares (Refused refusal) (λ n. refl) (λ limit. refl))
    (behind-whole tape' scope a.epoch.first a.epoch.entries.items c.args.who end roles spares (Refused refusal) moved (missing-since roles moved did.since.vacant)) did.bank.same (scope-same given a.backup did.bank.same c.append_after_losses.ensures.uuid c.append_after_losses.ensures.given) c.append_after_losses.ensures.first refl c.append_after_losses.ensures.items
    (room-after-49 a.steps a.epoch.entries.room c.append_after_losses.new.epoch.entries.room was.room_left c.append_after_losses.ensures.room steps)))

pub returns-in-Some-refusal-clause-called : goal.returns-in-Some-refusal-clause-called
returns-in-Some-refusal-clause-called g c =
    let was = (alike c.moving.invariant) in
    let a = c.moving.inside in
    let given = g.B.Bank.given a.bank in
    let m = c.finish_rest-rest.new.members in
    let did = c.finish_rest-rest.ensures in
    let before = g.B.Bank.faults_of a.bank in
    let after = g.B.Bank.faults_of c.finish_rest-rest.new.bank in
    let roles = c.finish_rest-rest.result.roles in
    let spares = c.finish_rest-rest.result.spares in
    let end = c.ops-end-2.result in
    let event = Refused c.in-Some-refusal.refusal in
    called-over g.B.Bank.given g.B.Bank.tape g.B.Bank.faults_of c.moving.view_is (called did.bank.grows (moved-if given c.in-Entered.span a.members m c.finish_rest-rest.result.refusal c.in-Some-refusal.refusal c.in-Some-refusal.is did.moved)
    (ended-behind (g.B.Bank.tape c.finish_rest-rest.new.bank) c.append_after_losses.new.epoch.first a.epoch.entries.items c.args.who end (losses_of roles spares) event c.append_after_losses.ensures.items c.ops-end-2.ensures.count)
    (losses-behind a.members m before after a.epoch.entries.items a.epoch.entries.items c.append_after_losses.new.epoch.entries.items c.args.who end roles spares event did.since tt refl c.append_after_losses.ensures.items)
    did.bank.counts
    (record { uuid = c.append_after_losses.ensures.uuid; given = c.append_after_losses.ensures.given; first = c.append_after_losses.ensures.first; backup = refl; work = refl; ahead = refl; limit = refl })
    (λ t. (was.kept.recorded t).begun))

pub returns-in-Some-refusal-clause-caused : goal.returns-in-Some-refusal-clause-caused
returns-in-Some-refusal-clause-caused g c =
    let a = c.moving.inside in
    let m = c.finish_rest-rest.new.members in
    let refusal = c.in-Some-refusal.refusal in
    let many = many-of m c.finish_rest-rest.result.refusal refusal c.in-Some-refusal.is c.finish_rest-rest.ensures.refused in
    rw (← c.moving.view_is) (refused-for (list_length a.members.newest) 0 AreTooMany a.members m refusal (too-many-of m refusal many) (zero-le _) many)

-- ---- it is finished

pub invariant_of-moving-2 : goal.invariant_of-moving-2
invariant_of-moving-2 g c =
    goes-on (c.moving.invariant.moves (ap (λ p. is_reshaping p.parts.members.newest) c.moving.view_is ∙ c.requires.active)).0 (
    let was = (c.moving.invariant.moves (ap (λ p. is_reshaping p.parts.members.newest) c.moving.view_is ∙ c.requires.active)).1 in
    let a = c.moving.inside in
    let given = g.B.Bank.given a.bank in
    let scope = scope_in given a.epoch.uuid a.epoch.given a.backup in
    let goes : IsCallGoing a.epoch.entries.items c.args.who = subst (λ p. IsCallGoing p.parts.entries c.args.who) (sym c.moving.view_is) c.requires.open in
    let steps : 1 ≤ a.steps = subst (λ p. 1 ≤ p.parts.steps) (sym c.moving.view_is) c.requires.room in
    let m = c.finish_rest-rest.new.members in
    let did = c.finish_rest-rest.ensures in
    let tape = g.B.Bank.tape a.bank in
    let tape' = g.B.Bank.tape c.finish_rest-rest.new.bank in
    let roles = c.finish_rest-rest.result.roles in
    let spares = c.finish_rest-rest.result.spares in
    let end = c.ops-end-2.result in
    let left = c.left_in_reshape-left.result in
    let none = c.in_default-refusal.is in
    let span = c.in-Entered.span in
    let due = open-is _ span c.in-Entered.copied c.in-Entered.sectioned (subst (λ p. IsWindowOpen p) (sym c.moving.view_is) c.requires.due) c.in-Entered.is in
    let by : IsFinishedBy g.B.Bank.tells given tape tape' a.members m (final_shape a.members.newest) span c.in-Entered.copied c.finish_rest-rest.result.copied (take (512 * (span.hi - span.lo)) c.as_slice.result.now) roles c.finish_rest-rest.result.refusal =
    record {
      final = refl;
      moved = did.moved;
      refused = did.refused;
      clean = did.clean;
      all = did.all;
      stands = did.stands;
      others = did.others;
      plain = did.plain;
      rise = did.rise;
      unused = did.unused;
      since = finished-missing given a.members m span c.finish_rest-rest.result.refusal did.moved did.since;
      safe = did.safe;
    } in
    let kept = finish-done a.course a.ahead a.window.items span c.in-Entered.copied c.finish_rest-rest.result.copied c.in-Entered.sectioned c.args.who end roles spares was.kept due goes c.requires.caller c.ops-end-2.ensures.count
    did.bank.grows c.in_default.ensures c.finish_rest-rest.result.refusal
    (subst (λ (l : List ℕ). IsFinishedBy g.B.Bank.tells given tape tape' a.members m (final_shape a.members.newest) span c.in-Entered.copied c.finish_rest-rest.result.copied (take (512 * (span.hi - span.lo)) l) roles c.finish_rest-rest.result.refusal) c.as_slice.ensures.value by)
    left none c.left_in_reshape-left.ensures in
    let moved = moved-none given span a.members m c.finish_rest-rest.result.refusal none did.moved in
    with-buffer (let len = (with_items a.buffer c.finish_rest-rest.new.scratch).ok.0 in let ok = a.buffer.ok.0 in omega (arith, len, ok, was.buffer_fits))
    (ready-moved (entries_of c.args.who end (losses_of roles spares ++ Step FinishesWindow left ∷ [])) was did.bank.grows (shapes-past given a.members m span moved) kept (λ next is. closed-sure next is)
    refl did.bank.counts (behind-keeps c.args.who end roles spares (Step FinishesWindow left) (λ n. refl) (λ limit. refl))
    (behind-whole {old = moved_past span a.members} tape' scope a.epoch.first a.epoch.entries.items c.args.who end roles spares (Step FinishesWindow left) moved (missing-since {old = moved_past span a.members} roles moved did.since.vacant)) did.bank.same (scope-same given a.backup did.bank.same c.append_after_losses-2.ensures.uuid c.append_after_losses-2.ensures.given) c.append_after_losses-2.ensures.first refl c.append_after_losses-2.ensures.items
    (room-after-49 a.steps a.epoch.entries.room c.append_after_losses-2.new.epoch.entries.room was.room_left c.append_after_losses-2.ensures.room steps)))

pub returns-clause-stood : goal.returns-clause-stood
returns-clause-stood g c =
    let was = (c.moving.invariant.moves (ap (λ p. is_reshaping p.parts.members.newest) c.moving.view_is ∙ c.requires.active)).1 in
    let a = c.moving.inside in
    let given = g.B.Bank.given a.bank in
    let scope = scope_in given a.epoch.uuid a.epoch.given a.backup in
    let goes : IsCallGoing a.epoch.entries.items c.args.who = subst (λ p. IsCallGoing p.parts.entries c.args.who) (sym c.moving.view_is) c.requires.open in
    let m = c.finish_rest-rest.new.members in
    let did = c.finish_rest-rest.ensures in
    let tape = g.B.Bank.tape a.bank in
    let tape' = g.B.Bank.tape c.finish_rest-rest.new.bank in
    let given' = g.B.Bank.given c.finish_rest-rest.new.bank in
    let roles = c.finish_rest-rest.result.roles in
    let spares = c.finish_rest-rest.result.spares in
    let end = c.ops-end-2.result in
    let left = c.left_in_reshape-left.result in
    let none = c.in_default-refusal.is in
    let span = c.in-Entered.span in
    let epoch = c.append_after_losses-2.new.epoch in
    let due = open-is _ span c.in-Entered.copied c.in-Entered.sectioned (subst (λ p. IsWindowOpen p) (sym c.moving.view_is) c.requires.due) c.in-Entered.is in
    let by : IsFinishedBy g.B.Bank.tells given tape tape' a.members m (final_shape a.members.newest) span c.in-Entered.copied c.finish_rest-rest.result.copied (take (512 * (span.hi - span.lo)) c.as_slice.result.now) roles c.finish_rest-rest.result.refusal =
    record {
      final = refl;
      moved = did.moved;
      refused = did.refused;
      clean = did.clean;
      all = did.all;
      stands = did.stands;
      others = did.others;
      plain = did.plain;
      rise = did.rise;
      unused = did.unused;
      since = finished-missing given a.members m span c.finish_rest-rest.result.refusal did.moved did.since;
      safe = did.safe;
    } in
    let stands = finish-stands a.course a.ahead a.window.items span c.in-Entered.copied c.finish_rest-rest.result.copied c.in-Entered.sectioned c.args.who end roles spares was.kept due goes c.requires.caller c.ops-end-2.ensures.count
    did.bank.grows c.in_default.ensures c.finish_rest-rest.result.refusal
    (subst (λ (l : List ℕ). IsFinishedBy g.B.Bank.tells given tape tape' a.members m (final_shape a.members.newest) span c.in-Entered.copied c.finish_rest-rest.result.copied (take (512 * (span.hi - span.lo)) l) roles c.finish_rest-rest.result.refusal) c.as_slice.ensures.value by)
    left none c.left_in_reshape-left.ensures in
    rw (← c.moving.view_is) (λ t.
    subst (λ (w : Window). IsWindowStanding (open_in w) (world_in given' tape' (scope_in given' epoch.uuid epoch.given a.backup) epoch.first) epoch.entries.items m (present given' tape')) (sym c.in-Entered.is)
    (recorded-as (Some span) tape' m did.bank.same (scope-same given a.backup did.bank.same c.append_after_losses-2.ensures.uuid c.append_after_losses-2.ensures.given) c.append_after_losses-2.ensures.first c.append_after_losses-2.ensures.items (stands t)))

pub returns-clause-goes : goal.returns-clause-goes
returns-clause-goes g c =
    let was = (alike c.moving.invariant) in
    let a = c.moving.inside in
    let goes : IsCallGoing a.epoch.entries.items c.args.who = subst (λ p. IsCallGoing p.parts.entries c.args.who) (sym c.moving.view_is) c.requires.open in
    let roles = c.finish_rest-rest.result.roles in
    let spares = c.finish_rest-rest.result.spares in
    subst (λ l. IsCallGoing l c.args.who) (sym c.append_after_losses-2.ensures.items) (going-on a.epoch.entries.items c.args.who c.ops-end-2.result roles spares (Step FinishesWindow c.left_in_reshape-left.result) goes tt)

pub returns-clause-called : goal.returns-clause-called
returns-clause-called g c =
    let was = (alike c.moving.invariant) in
    let a = c.moving.inside in
    let given = g.B.Bank.given a.bank in
    let scope = scope_in given a.epoch.uuid a.epoch.given a.backup in
    let m = c.finish_rest-rest.new.members in
    let did = c.finish_rest-rest.ensures in
    let before = g.B.Bank.faults_of a.bank in
    let after = g.B.Bank.faults_of c.finish_rest-rest.new.bank in
    let roles = c.finish_rest-rest.result.roles in
    let spares = c.finish_rest-rest.result.spares in
    let end = c.ops-end-2.result in
    let event = Step FinishesWindow c.left_in_reshape-left.result in
    let moved = moved-none given c.in-Entered.span a.members m c.finish_rest-rest.result.refusal c.in_default-refusal.is did.moved in
    called-over g.B.Bank.given g.B.Bank.tape g.B.Bank.faults_of c.moving.view_is (record {
      grows = did.bank.grows;
      ended = ended-behind (g.B.Bank.tape c.finish_rest-rest.new.bank) c.append_after_losses-2.new.epoch.first a.epoch.entries.items c.args.who end (losses_of roles spares) event c.append_after_losses-2.ensures.items c.ops-end-2.ensures.count;
      held = moved.held;
      spares = moved.fewer;
      losses = losses-behind a.members m before after a.epoch.entries.items a.epoch.entries.items c.append_after_losses-2.new.epoch.entries.items c.args.who end roles spares event did.since tt refl c.append_after_losses-2.ensures.items;
      never_falls = did.bank.counts;
      work = refl;
      same = record {
        array = record {
          uuid = c.append_after_losses-2.ensures.uuid;
          given = c.append_after_losses-2.ensures.given;
          first = c.append_after_losses-2.ensures.first;
          backup = refl;
          shape = moved.shape;
          size = moved.size;
          list = list-same given scope a.epoch.first refl
              (scope-same given a.backup refl c.append_after_losses-2.ensures.uuid c.append_after_losses-2.ensures.given) c.append_after_losses-2.ensures.first did.bank.grows (λ t. (was.kept.recorded t).begun);
        };
        final = moved.reshape.final;
        backward = moved.reshape.backward;
        ahead = refl;
        limit = refl;
      };
    })

pub returns-clause-caused : goal.returns-clause-caused
returns-clause-caused g c =
    rw (← c.moving.view_is) (zero-le _, λ refusal many. never-both c.moving.inside.members refusal c.in_default.ensures many)

-- ---- what failed, and what is left

pub returns-in-Some-clause-failed : goal.returns-in-Some-clause-failed
returns-in-Some-clause-failed g c = rw (← c.moving.view_is) (λ role slot held. inl held)

pub returns-in-Some-refusal-clause-failed : goal.returns-in-Some-refusal-clause-failed
returns-in-Some-refusal-clause-failed g c =
    subst (λ p. HaveRolesFailed p.parts.members c.finish_rest-rest.new.members (g.B.Bank.faults_of p.parts.bank) (g.B.Bank.faults_of c.finish_rest-rest.new.bank)) c.moving.view_is c.finish_rest-rest.ensures.failed.roles

pub returns-clause-failed : goal.returns-clause-failed
returns-clause-failed g c =
    subst (λ p. HaveRolesFailed p.parts.members c.finish_rest-rest.new.members (g.B.Bank.faults_of p.parts.bank) (g.B.Bank.faults_of c.finish_rest-rest.new.bank)) c.moving.view_is c.finish_rest-rest.ensures.failed.roles

pub returns-clause-left : goal.returns-clause-left
returns-clause-left g c =
    let a = c.moving.inside in
    let m = c.finish_rest-rest.new.members in
    let span = c.in-Entered.span in
    let due = open-is _ span c.in-Entered.copied c.in-Entered.sectioned (subst (λ p. IsWindowOpen p) (sym c.moving.view_is) c.requires.due) c.in-Entered.is in
    rw (← c.moving.view_is) (finish-left (g.B.Bank.given a.bank) a.members m a.work.resync a.course a.ahead span c.in-Entered.copied c.in-Entered.sectioned due
    (moved-none (g.B.Bank.given a.bank) span a.members m c.finish_rest-rest.result.refusal c.in_default-refusal.is c.finish_rest-rest.ensures.moved) (c.moving.invariant.moves (ap (λ p. is_reshaping p.parts.members.newest) c.moving.view_is ∙ c.requires.active)).1.kept.members_are.active)

pub returns-clause-relied : goal.returns-clause-relied
returns-clause-relied g c =
    let a = c.moving.inside in
    let m = c.finish_rest-rest.new.members in
    let span = c.in-Entered.span in
    let given = g.B.Bank.given a.bank in
    let kept = (c.moving.invariant.moves (ap (λ p. is_reshaping p.parts.members.newest) c.moving.view_is ∙ c.requires.active)).1.kept in
    finish-relied given a.members m a.work.resync span kept.members_are.placed (moved-none given span a.members m c.finish_rest-rest.result.refusal c.in_default-refusal.is c.finish_rest-rest.ensures.moved)
    (subst (λ (w : Window). IsAside w ⊎ IsUnsynced a.work.resync) c.in-Entered.is kept.beside) ∙ ap (λ p. relied_sector p.parts.members.newest p.parts.work.resync) c.moving.view_is

-- ---- by what stands above

pub check_going-requires : goal.check_going-requires
check_going-requires g c = subst (λ p. IsCallGoing p.parts.entries c.args.who) (sym c.moving.view_is) c.requires.open

pub returns-in-Some-clause-caused : goal.returns-in-Some-clause-caused
returns-in-Some-clause-caused g c =
    let a = c.moving.inside in
    subst (λ p. IsRefusedFor (list_length p.parts.members.newest) 0 AreTooMany p.parts.members a.members c.in-Some.refusal) c.moving.view_is (many-refused a.members c.in-Some.refusal c.in-Some.ensures)

pub returns-in-Some-clause-room : goal.returns-in-Some-clause-room
returns-in-Some-clause-room g c =
    one-less c.moving.inside.steps (subst (λ p. 1 ≤ p.parts.steps) (sym c.moving.view_is) c.requires.room) ∙ ap (λ p. p.parts.steps) c.moving.view_is

pub returns-in-Some-refusal-clause-room : goal.returns-in-Some-refusal-clause-room
returns-in-Some-refusal-clause-room g c =
    one-less c.moving.inside.steps (subst (λ p. 1 ≤ p.parts.steps) (sym c.moving.view_is) c.requires.room) ∙ ap (λ p. p.parts.steps) c.moving.view_is

pub returns-clause-room : goal.returns-clause-room
returns-clause-room g c =
    one-less c.moving.inside.steps (subst (λ p. 1 ≤ p.parts.steps) (sym c.moving.view_is) c.requires.room) ∙ ap (λ p. p.parts.steps) c.moving.view_is

pub append_after_losses-requires-clause-room : goal.append_after_losses-requires-clause-room
append_after_losses-requires-clause-room g c =
    room-49 c.moving.inside.steps c.moving.inside.epoch.entries.room (subst (λ p. 1 ≤ p.parts.steps) (sym c.moving.view_is) c.requires.room) (alike c.moving.invariant).room_left

pub append_after_losses-requires-2-clause-room : goal.append_after_losses-requires-2-clause-room
append_after_losses-requires-2-clause-room g c =
    room-49 c.moving.inside.steps c.moving.inside.epoch.entries.room (subst (λ p. 1 ≤ p.parts.steps) (sym c.moving.view_is) c.requires.room) (alike c.moving.invariant).room_left

pub append_after_losses-requires-clause-number : goal.append_after_losses-requires-clause-number
append_after_losses-requires-clause-number g c = c.check_going.ensures

pub append_after_losses-requires-2-clause-number : goal.append_after_losses-requires-2-clause-number
append_after_losses-requires-2-clause-number g c = c.check_going.ensures

pub append_entry-requires-clause-number : goal.append_entry-requires-clause-number
append_entry-requires-clause-number g c = c.check_going.ensures

pub returns-in-Some-refusal-clause-entered : goal.returns-in-Some-refusal-clause-entered
returns-in-Some-refusal-clause-entered g c =
    rw (← c.moving.view_is) (record { roles = c.finish_rest-rest.result.roles; spares = c.finish_rest-rest.result.spares; end = c.ops-end-2.result; is = c.append_after_losses.ensures.items })

pub returns-clause-entered : goal.returns-clause-entered
returns-clause-entered g c =
    step-entered c.finish_rest-rest.result.roles c.finish_rest-rest.result.spares c.ops-end-2.result c.append_after_losses-2.ensures.items c.left_in_reshape-left.ensures (ap (λ p. p.parts.entries) c.moving.view_is)

pub finish_rest-rest-requires-clause-stands : goal.finish_rest-rest-requires-clause-stands
finish_rest-rest-requires-clause-stands g c =
    record {
      slots = (alike c.moving.invariant).kept.slots;
      placed = (alike c.moving.invariant).kept.members_are.placed;
      unlost = (alike c.moving.invariant).kept.members_are.unlost;
      free = (alike c.moving.invariant).kept.members_are.free;
    }

pub returns-in-Some-refusal-clause-given : goal.returns-in-Some-refusal-clause-given
returns-in-Some-refusal-clause-given g c = c.finish_rest-rest.ensures.bank.same ∙ ap (λ p. g.B.Bank.given p.parts.bank) c.moving.view_is

pub returns-clause-given : goal.returns-clause-given
returns-clause-given g c = c.finish_rest-rest.ensures.bank.same ∙ ap (λ p. g.B.Bank.given p.parts.bank) c.moving.view_is

pub returns-in-Some-clause-given : goal.returns-in-Some-clause-given
returns-in-Some-clause-given g c = ap (λ p. g.B.Bank.given p.parts.bank) c.moving.view_is

pub returns-in-Some-clause-course : goal.returns-in-Some-clause-course
returns-in-Some-clause-course g c = ap (λ p. p.course) c.moving.view_is

pub returns-in-Some-refusal-clause-course : goal.returns-in-Some-refusal-clause-course
returns-in-Some-refusal-clause-course g c = ap (λ p. p.course) c.moving.view_is

pub returns-in-Some-clause-clean : goal.returns-in-Some-clause-clean
returns-in-Some-clause-clean g c = ap (λ p. is_clean p.parts.members.newest) c.moving.view_is

pub returns-in-Some-refusal-clause-clean : goal.returns-in-Some-refusal-clause-clean
returns-in-Some-refusal-clause-clean g c = c.finish_rest-rest.ensures.clean ∙ ap (λ p. is_clean p.parts.members.newest) c.moving.view_is

pub returns-clause-clean : goal.returns-clause-clean
returns-clause-clean g c = c.finish_rest-rest.ensures.clean ∙ ap (λ p. is_clean p.parts.members.newest) c.moving.view_is

pub left_in_reshape-left-requires-clause-reshape : goal.left_in_reshape-left-requires-clause-reshape
left_in_reshape-left-requires-clause-reshape g c =
    let moved = moved-none (g.B.Bank.given c.moving.inside.bank) c.in-Entered.span c.moving.inside.members c.finish_rest-rest.new.members c.finish_rest-rest.result.refusal c.in_default-refusal.is c.finish_rest-rest.ensures.moved in
    under-way-of c.finish_rest-rest.new.members.newest moved.placed.fit (moved.reshape.reshaping ∙ (c.moving.invariant.moves (ap (λ p. is_reshaping p.parts.members.newest) c.moving.view_is ∙ c.requires.active)).1.kept.members_are.active)

pub left_in_reshape-left-requires-clause-fit : goal.left_in_reshape-left-requires-clause-fit
left_in_reshape-left-requires-clause-fit g c =
    let moved = moved-none (g.B.Bank.given c.moving.inside.bank) c.in-Entered.span c.moving.inside.members c.finish_rest-rest.new.members c.finish_rest-rest.result.refusal c.in_default-refusal.is c.finish_rest-rest.ensures.moved in
    moved.placed.fit

pub left_in_reshape-left-requires-clause-sound : goal.left_in_reshape-left-requires-clause-sound
left_in_reshape-left-requires-clause-sound g c =
    sound-same (phases_of c.moving.inside.ahead) (shapes-past (g.B.Bank.given c.moving.inside.bank) c.moving.inside.members c.finish_rest-rest.new.members c.in-Entered.span (moved-none (g.B.Bank.given c.moving.inside.bank) c.in-Entered.span c.moving.inside.members c.finish_rest-rest.new.members c.finish_rest-rest.result.refusal c.in_default-refusal.is c.finish_rest-rest.ensures.moved)) (c.moving.invariant.moves (ap (λ p. is_reshaping p.parts.members.newest) c.moving.view_is ∙ c.requires.active)).1.planned

pub overflow_sub-moving : goal.overflow_sub-moving
overflow_sub-moving g c = subst (λ p. 1 ≤ p.parts.steps) (sym c.moving.view_is) c.requires.room

pub finish_rest-rest-requires-clause-scratch : goal.finish_rest-rest-requires-clause-scratch
finish_rest-rest-requires-clause-scratch g c = scratch-of _ _ c.as_mut_slice.ensures.value (alike c.moving.invariant).buffer_fits

pub returns-in-Some-clause-active : goal.returns-in-Some-clause-active
returns-in-Some-clause-active g c = (ap (λ p. is_reshaping p.parts.members.newest) c.moving.view_is ∙ c.requires.active)

pub returns-in-Some-refusal-clause-active : goal.returns-in-Some-refusal-clause-active
returns-in-Some-refusal-clause-active g c =
    (moved-if (g.B.Bank.given c.moving.inside.bank) c.in-Entered.span c.moving.inside.members c.finish_rest-rest.new.members c.finish_rest-rest.result.refusal c.in-Some-refusal.refusal c.in-Some-refusal.is c.finish_rest-rest.ensures.moved).reshape.reshaping ∙ (ap (λ p. is_reshaping p.parts.members.newest) c.moving.view_is ∙ c.requires.active)

pub returns-clause-active : goal.returns-clause-active
returns-clause-active g c =
    (moved-none (g.B.Bank.given c.moving.inside.bank) c.in-Entered.span c.moving.inside.members c.finish_rest-rest.new.members c.finish_rest-rest.result.refusal c.in_default-refusal.is c.finish_rest-rest.ensures.moved).reshape.reshaping ∙ (ap (λ p. is_reshaping p.parts.members.newest) c.moving.view_is ∙ c.requires.active)
