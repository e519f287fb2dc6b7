use Rattle.std.proofs.Common.{◌≡◌, ◌≤◌, [], ◌∷◌, ◌++◌, Some, refl, sym, ◌∙◌, ap, subst, arith, zero-le}
use Rattle.array_type.specs.sb_specs_Reading.{list_length, next_window, is_clean, is_reshaping}
use Rattle.array_type.proofs.sb_specs_ValidFields.{few-roles}
use Rattle.array_type.specs.history_the_Event_TheVariants.{Refused, Step}
use Rattle.array_type.specs.history_the_StepKind_TheVariants.{Checkpointed as RecordsWindow}
use Rattle.array_type.specs.history_Plain.{entries_of}
use Rattle.array_type.specs.crash_views_Windows.{moved_past}
use Rattle.array_type.specs.array_members_Lacking.{AreTooMany}
use Rattle.array_type.proofs.array_members_LackingLaws.{lost-since, never-both}
use Rattle.array_type.proofs.array_members_MovedLaws.{grows-none, moved-same}
use Rattle.array_type.specs.history_append_Losing.{losses_of}
use Rattle.array_type.specs.array_call_specs_Kept.{scope_in}
use Rattle.array_type.proofs.array_call_specs_LossLaws.{losses-behind, ended-behind, behind-alone}
use Rattle.array_type.proofs.array_call_specs_ReadyLaws.{scope-same, list-same}
use Rattle.array_type.proofs.array_call_specs_ReplyLaws.{refused-for, too-many-of}
use Rattle.array_type.specs.history_invariant_Recorded.{IsCallGoing}
use Rattle.array_type.specs.history_invariant_Safe.{world_in}
use Rattle.array_type.specs.array_members_Numbers.{bears}
use Rattle.array_type.specs.raid_types_the_Span.{Span}
use Rattle.array_type.specs.reshape_progress_the_Course.{Course}
use Rattle.array_type.proofs.array_reshaping_invariant_Refusals.{quiet-refusal, refused-right}
use Rattle.array_type.proofs.array_reshaping_invariant_Resting.{resting-moves}
use Rattle.array_type.proofs.array_reshaping_invariant_Steps.{missing-since}
use Rattle.array_type.specs.array_specs_Calls.{IsRecordDue}
use Rattle.array_type.specs.array_specs_Parts.{left_in}
use Rattle.array_type.specs.array_reshaping_laws_Ready.{bytes_in}
use Rattle.array_type.proofs.array_specs_Called.{not_254, called, alone-lossless, many-of}
use Rattle.array_type.proofs.array_reshaping_laws_Kept.{ready, ready-moved, shapes-same, shapes-moved, behind-keeps, behind-whole, live-of}
use Rattle.array_type.proofs.array_reshaping_laws_RecordLaws.{window-next, all_copied, record-left, moved-if, moved-none, safe-none-of, shapes-past, since-past, record-refused, record-done}
use Rattle.array_type.specs.reshape_request_Left.{phases_of}
use Rattle.array_type.proofs.StepLaws.{one-fewer, room-behind, taken-behind, under-way-moved, sound-moved, roles-past}
use Rattle.array_type.proofs.ReshapingCalls.{closed-sure}
use Rattle.array_type.proofs.array_specs_Lengths.{alone-keeps}
use Rattle.array_type.proofs.array_reshaping_laws_WriteLaws.{same-span}
use Rattle.array_type.proofs.Alike.{alike, goes-on}
use Rattle.array_reshaping_steps.proofs.recording.record_window.Goals as goal

-- ---- refused before anything is done

pub invariant_of-moving : goal.invariant_of-moving
invariant_of-moving g c =
    goes-on (c.moving.invariant.moves (ap (λ p. is_reshaping p.parts.members.newest) c.moving.view_is ∙ c.requires.active)).0 (
    let was = (c.moving.invariant.moves (ap (λ p. is_reshaping p.parts.members.newest) c.moving.view_is ∙ c.requires.active)).1 in
    let a = c.moving.inside in
    let given = g.B.Bank.given a.bank in
    let scope = scope_in given a.epoch.uuid a.epoch.given a.backup in
    let goes : IsCallGoing a.epoch.entries.items c.args.who = subst (λ p. IsCallGoing p.parts.entries c.args.who) (sym c.moving.view_is) c.requires.open in
    let some : 1 ≤ a.steps = subst (λ p. 1 ≤ p.parts.steps) (sym c.moving.view_is) c.requires.room in
    let tape = g.B.Bank.tape a.bank in
    let end = c.ops-end.result in
    let refusal = c.in-Some.refusal in
    let kept = resting-moves g.B.Bank.tells given tape scope a.epoch.first a.epoch.entries.items a.members (bears a.work) a.work.resync a.course (bytes_in a.course.window a.window.items) (left_in a.work a.members a.course a.ahead)
    c.args.who end (Refused refusal) was.kept goes (not_254 c.args.who.caller c.requires.caller) c.ops-end.ensures.count (quiet-refusal refusal) (λ told is. is)
    (λ t right. refused-right (world_in given tape scope a.epoch.first) a.epoch.entries.items given a.members was.kept.members_are.placed (was.kept.gone t right) (was.kept.levelled t right) refusal c.in-Some.ensures) in
    ready (entries_of c.args.who end (Refused refusal ∷ [])) was (grows-none (λ t. refl)) (shapes-same a.members.newest) kept
    refl (λ slot. omega arith) (alone-keeps c.args.who end (Refused refusal) (λ n. refl) (λ limit. refl)) (λ none whole. whole) refl (scope-same given a.backup refl c.append_entry.ensures.uuid c.append_entry.ensures.given) c.append_entry.ensures.first refl c.append_entry.ensures.items
    (omega (arith, c.append_entry.ensures.room, was.room_left, some)))

pub returns-in-Some-clause-entered : goal.returns-in-Some-clause-entered
returns-in-Some-clause-entered g c =
    rw (← c.moving.view_is) (behind-alone c.args.who c.ops-end.result (Refused c.in-Some.refusal) refl c.append_entry.ensures.items)

pub returns-in-Some-clause-called : goal.returns-in-Some-clause-called
returns-in-Some-clause-called g c =
    let was = (alike c.moving.invariant) in
    let a = c.moving.inside in
    let given = g.B.Bank.given a.bank in
    let faults = g.B.Bank.faults_of a.bank in
    let end = c.ops-end.result in
    let refusal = c.in-Some.refusal in
    rw (← c.moving.view_is) (called (grows-none (λ t. refl)) (moved-same given given a.members a.members refl refl was.kept.members_are.placed was.kept.members_are.unlost)
    (ended-behind (g.B.Bank.tape a.bank) c.append_entry.new.epoch.first a.epoch.entries.items c.args.who end [] (Refused refusal) c.append_entry.ensures.items c.ops-end.ensures.count)
    (alone-lossless a.members faults faults a.epoch.entries.items a.epoch.entries.items c.append_entry.new.epoch.entries.items c.args.who end (Refused refusal) tt refl c.append_entry.ensures.items)
    (λ slot. omega arith)
    (record { uuid = c.append_entry.ensures.uuid; given = c.append_entry.ensures.given; first = c.append_entry.ensures.first; backup = refl; work = refl; ahead = refl; limit = refl })
    (λ t. (was.kept.recorded t).begun))

-- ---- the roles

pub overflow_cast-count : goal.overflow_cast-count
overflow_cast-count g c =
    let members = (c.moving.invariant.moves (ap (λ p. is_reshaping p.parts.members.newest) c.moving.view_is ∙ c.requires.active)).1.kept.members_are in
    let few = few-roles c.moving.inside.members.newest members.placed.fit.valid in
    let roles = members.backed.roles in
    let long = c.len-count.ensures in
    omega (arith, few, roles, long)

pub unassigned_roles-before-requires-clause-few : goal.unassigned_roles-before-requires-clause-few
unassigned_roles-before-requires-clause-few g c =
    let members = (c.moving.invariant.moves (ap (λ p. is_reshaping p.parts.members.newest) c.moving.view_is ∙ c.requires.active)).1.kept.members_are in
    let few = few-roles c.moving.inside.members.newest members.placed.fit.valid in
    let roles = members.backed.roles in
    let long = c.len-count.ensures in
    omega (arith, few, roles, long)

pub newly_unassigned-roles-requires-clause-few : goal.newly_unassigned-roles-requires-clause-few
newly_unassigned-roles-requires-clause-few g c =
    let members = (c.moving.invariant.moves (ap (λ p. is_reshaping p.parts.members.newest) c.moving.view_is ∙ c.requires.active)).1.kept.members_are in
    let few = few-roles c.moving.inside.members.newest members.placed.fit.valid in
    let roles = members.backed.roles in
    let long = c.len-count.ensures in
    omega (arith, few, roles, long)

-- ---- it is refused

pub invariant_of-moving-in-Some-refusal : goal.invariant_of-moving-in-Some-refusal
invariant_of-moving-in-Some-refusal g c =
    goes-on (c.moving.invariant.moves (ap (λ p. is_reshaping p.parts.members.newest) c.moving.view_is ∙ c.requires.active)).0 (
    let was = (c.moving.invariant.moves (ap (λ p. is_reshaping p.parts.members.newest) c.moving.view_is ∙ c.requires.active)).1 in
    let here = was.kept.members_are in
    let a = c.moving.inside in
    let given = g.B.Bank.given a.bank in
    let goes : IsCallGoing a.epoch.entries.items c.args.who = subst (λ p. IsCallGoing p.parts.entries c.args.who) (sym c.moving.view_is) c.requires.open in
    let some : 1 ≤ a.steps = subst (λ p. 1 ≤ p.parts.steps) (sym c.moving.view_is) c.requires.room in
    let m = c.record-done.new.members in
    let did = c.record-done.ensures in
    let tape = g.B.Bank.tape a.bank in
    let tape' = g.B.Bank.tape c.record-done.new.bank in
    let before = g.B.Bank.faults_of a.bank in
    let after = g.B.Bank.faults_of c.record-done.new.bank in
    let roles = c.newly_unassigned-roles.result in
    let spares = c.record-done.result.spares in
    let end = c.ops-end-2.result in
    let refusal = c.in-Some-refusal.refusal in
    let moved = moved-if given c.in-Entered.span a.members m c.record-done.result.refusal refusal c.in-Some-refusal.is did.moved in
    let since = lost-since given a.members m c.len-count.result c.unassigned_roles-before.result roles spares before after here.placed moved did.failed
    (c.len-count.ensures ∙ here.backed.roles) c.unassigned_roles-before.ensures c.newly_unassigned-roles.ensures in
    let kept = record-refused a.course a.ahead c.in-Entered.span c.args.who end roles spares was.kept (live-of was.kept c.in_default.ensures) goes c.requires.caller c.ops-end-2.ensures.count did.bank.grows since did.clean did.rise did.others
    c.record-done.result.refusal refusal c.in-Some-refusal.is moved (many-of m c.record-done.result.refusal refusal c.in-Some-refusal.is did.refused) did.unused did.safe in
    ready (entries_of c.args.who end (losses_of roles spares ++ Refused refusal ∷ [])) was did.bank.grows (shapes-moved given a.members m moved) kept
    refl did.bank.counts (behind-keeps c.args.who end roles spares (Refused refusal) (λ n. refl) (λ limit. refl)) (behind-whole tape' (scope_in given a.epoch.uuid a.epoch.given a.backup) a.epoch.first a.epoch.entries.items c.args.who end roles spares (Refused refusal) moved (missing-since roles moved since.vacant)) did.bank.same (scope-same given a.backup did.bank.same c.append_after_losses.ensures.uuid c.append_after_losses.ensures.given) c.append_after_losses.ensures.first refl c.append_after_losses.ensures.items
    (omega (arith, c.append_after_losses.ensures.room, was.room_left, some)))

pub returns-in-Some-refusal-clause-called : goal.returns-in-Some-refusal-clause-called
returns-in-Some-refusal-clause-called g c =
    let was = (c.moving.invariant.moves (ap (λ p. is_reshaping p.parts.members.newest) c.moving.view_is ∙ c.requires.active)).1 in
    let here = was.kept.members_are in
    let a = c.moving.inside in
    let given = g.B.Bank.given a.bank in
    let m = c.record-done.new.members in
    let did = c.record-done.ensures in
    let before = g.B.Bank.faults_of a.bank in
    let after = g.B.Bank.faults_of c.record-done.new.bank in
    let roles = c.newly_unassigned-roles.result in
    let spares = c.record-done.result.spares in
    let end = c.ops-end-2.result in
    let refusal = c.in-Some-refusal.refusal in
    let moved = moved-if given c.in-Entered.span a.members m c.record-done.result.refusal refusal c.in-Some-refusal.is did.moved in
    let since = lost-since given a.members m c.len-count.result c.unassigned_roles-before.result roles spares before after here.placed moved did.failed
    (c.len-count.ensures ∙ here.backed.roles) c.unassigned_roles-before.ensures c.newly_unassigned-roles.ensures in
    rw (← c.moving.view_is) (called did.bank.grows moved
    (ended-behind (g.B.Bank.tape c.record-done.new.bank) c.append_after_losses.new.epoch.first a.epoch.entries.items c.args.who end (losses_of roles spares) (Refused refusal) c.append_after_losses.ensures.items c.ops-end-2.ensures.count)
    (losses-behind a.members m before after a.epoch.entries.items a.epoch.entries.items c.append_after_losses.new.epoch.entries.items c.args.who end roles spares (Refused refusal) since tt refl c.append_after_losses.ensures.items)
    did.bank.counts
    (record { uuid = c.append_after_losses.ensures.uuid; given = c.append_after_losses.ensures.given; first = c.append_after_losses.ensures.first; backup = refl; work = refl; ahead = refl; limit = refl })
    (λ t. (was.kept.recorded t).begun))

pub returns-in-Some-refusal-clause-caused : goal.returns-in-Some-refusal-clause-caused
returns-in-Some-refusal-clause-caused g c =
    let a = c.moving.inside in
    let m = c.record-done.new.members in
    let refusal = c.in-Some-refusal.refusal in
    let many = many-of m c.record-done.result.refusal refusal c.in-Some-refusal.is c.record-done.ensures.refused in
    rw (← c.moving.view_is) (refused-for (list_length a.members.newest) 0 AreTooMany a.members m refusal (too-many-of m refusal many) (omega arith) many)

-- ---- it is done

pub invariant_of-moving-2 : goal.invariant_of-moving-2
invariant_of-moving-2 g c =
    goes-on (c.moving.invariant.moves (ap (λ p. is_reshaping p.parts.members.newest) c.moving.view_is ∙ c.requires.active)).0 (
    let was = (c.moving.invariant.moves (ap (λ p. is_reshaping p.parts.members.newest) c.moving.view_is ∙ c.requires.active)).1 in
    let here = was.kept.members_are in
    let a = c.moving.inside in
    let given = g.B.Bank.given a.bank in
    let goes : IsCallGoing a.epoch.entries.items c.args.who = subst (λ p. IsCallGoing p.parts.entries c.args.who) (sym c.moving.view_is) c.requires.open in
    let some : 1 ≤ a.steps = subst (λ p. 1 ≤ p.parts.steps) (sym c.moving.view_is) c.requires.room in
    let due = subst (λ p. IsRecordDue p) (sym c.moving.view_is) c.requires.due in
    let same : c.in-Entered.span ≡ due.span = same-span c.in-Entered.span due.span c.in-Entered.copied _ c.in-Entered.sectioned due.sectioned (sym c.in-Entered.is ∙ ap (λ (k : Course). k.window) due.is) in
    let is : a.course ≡ all_copied a.members c.in-Entered.span due.sectioned = due.is ∙ ap (λ (s : Span). all_copied a.members s due.sectioned) (sym same) in
    let m = c.record-done.new.members in
    let did = c.record-done.ensures in
    let none = c.in_default-refusal.is in
    let tape = g.B.Bank.tape a.bank in
    let tape' = g.B.Bank.tape c.record-done.new.bank in
    let before = g.B.Bank.faults_of a.bank in
    let after = g.B.Bank.faults_of c.record-done.new.bank in
    let roles = c.newly_unassigned-roles.result in
    let spares = c.record-done.result.spares in
    let end = c.ops-end-2.result in
    let left = c.left_in_reshape-left.result in
    let moved = moved-none given c.in-Entered.span a.members m c.record-done.result.refusal none did.moved in
    let next = subst (λ (s : Span). next_window a.members.newest ≡ Some s) (sym same) (window-next a.course due.span _ due.sectioned due.is was.kept.course_is) in
    let since = since-past given a.members m c.in-Entered.span c.len-count.result c.unassigned_roles-before.result roles spares before after here.placed next moved did.failed
    (c.len-count.ensures ∙ here.backed.roles) c.unassigned_roles-before.ensures c.newly_unassigned-roles.ensures in
    let kept = record-done a.course a.ahead c.in-Entered.span c.args.who end roles spares was.kept (live-of was.kept c.in_default.ensures) goes c.requires.caller c.ops-end-2.ensures.count did.bank.grows since did.clean did.rise did.others
    due.sectioned left is c.left_in_reshape-left.ensures moved c.in_default.ensures (λ t. did.plain none t (scope_in given a.epoch.uuid a.epoch.given a.backup)) (safe-none-of c.record-done.result.refusal none did.safe) in
    ready-moved (entries_of c.args.who end (losses_of roles spares ++ Step RecordsWindow left ∷ [])) was did.bank.grows (shapes-past given a.members m c.in-Entered.span moved) kept (λ span is. closed-sure span is)
    refl did.bank.counts (behind-keeps c.args.who end roles spares (Step RecordsWindow left) (λ n. refl) (λ limit. refl)) (behind-whole {old = moved_past c.in-Entered.span a.members} tape' (scope_in given a.epoch.uuid a.epoch.given a.backup) a.epoch.first a.epoch.entries.items c.args.who end roles spares (Step RecordsWindow left) moved (missing-since {old = moved_past c.in-Entered.span a.members} roles moved since.vacant)) did.bank.same (scope-same given a.backup did.bank.same c.append_after_losses-2.ensures.uuid c.append_after_losses-2.ensures.given) c.append_after_losses-2.ensures.first refl c.append_after_losses-2.ensures.items
    (omega (arith, c.append_after_losses-2.ensures.room, was.room_left, some)))

pub returns-clause-called : goal.returns-clause-called
returns-clause-called g c =
    let was = (c.moving.invariant.moves (ap (λ p. is_reshaping p.parts.members.newest) c.moving.view_is ∙ c.requires.active)).1 in
    let here = was.kept.members_are in
    let a = c.moving.inside in
    let given = g.B.Bank.given a.bank in
    let scope = scope_in given a.epoch.uuid a.epoch.given a.backup in
    let due = subst (λ p. IsRecordDue p) (sym c.moving.view_is) c.requires.due in
    let same : c.in-Entered.span ≡ due.span = same-span c.in-Entered.span due.span c.in-Entered.copied _ c.in-Entered.sectioned due.sectioned (sym c.in-Entered.is ∙ ap (λ (k : Course). k.window) due.is) in
    let m = c.record-done.new.members in
    let did = c.record-done.ensures in
    let before = g.B.Bank.faults_of a.bank in
    let after = g.B.Bank.faults_of c.record-done.new.bank in
    let roles = c.newly_unassigned-roles.result in
    let spares = c.record-done.result.spares in
    let end = c.ops-end-2.result in
    let event = Step RecordsWindow c.left_in_reshape-left.result in
    let moved = moved-none given c.in-Entered.span a.members m c.record-done.result.refusal c.in_default-refusal.is did.moved in
    let next = subst (λ (s : Span). next_window a.members.newest ≡ Some s) (sym same) (window-next a.course due.span _ due.sectioned due.is was.kept.course_is) in
    let since = since-past given a.members m c.in-Entered.span c.len-count.result c.unassigned_roles-before.result roles spares before after here.placed next moved did.failed
    (c.len-count.ensures ∙ here.backed.roles) c.unassigned_roles-before.ensures c.newly_unassigned-roles.ensures in
    rw (← c.moving.view_is) (record {
      grows = did.bank.grows;
      ended = ended-behind (g.B.Bank.tape c.record-done.new.bank) c.append_after_losses-2.new.epoch.first a.epoch.entries.items c.args.who end (losses_of roles spares) event c.append_after_losses-2.ensures.items c.ops-end-2.ensures.count;
      held = moved.held;
      spares = moved.fewer;
      losses = losses-behind a.members m before after a.epoch.entries.items a.epoch.entries.items c.append_after_losses-2.new.epoch.entries.items c.args.who end roles spares event since tt refl c.append_after_losses-2.ensures.items;
      never_falls = did.bank.counts;
      work = refl;
      same = record {
        array = record {
          uuid = c.append_after_losses-2.ensures.uuid;
          given = c.append_after_losses-2.ensures.given;
          first = c.append_after_losses-2.ensures.first;
          backup = refl;
          shape = moved.shape;
          size = moved.size;
          list = list-same given scope a.epoch.first refl
              (scope-same given a.backup refl c.append_after_losses-2.ensures.uuid c.append_after_losses-2.ensures.given) c.append_after_losses-2.ensures.first did.bank.grows (λ t. (was.kept.recorded t).begun);
        };
        final = moved.reshape.final;
        backward = moved.reshape.backward;
        ahead = refl;
        limit = refl;
      };
    })

pub returns-clause-caused : goal.returns-clause-caused
returns-clause-caused g c =
    rw (← c.moving.view_is) (omega arith, λ refusal many. never-both c.moving.inside.members refusal c.in_default.ensures many)

pub returns-clause-left : goal.returns-clause-left
returns-clause-left g c =
    let a = c.moving.inside in
    let given = g.B.Bank.given a.bank in
    let m = c.record-done.new.members in
    let due = subst (λ p. IsRecordDue p) (sym c.moving.view_is) c.requires.due in
    let same : c.in-Entered.span ≡ due.span = same-span c.in-Entered.span due.span c.in-Entered.copied _ c.in-Entered.sectioned due.sectioned (sym c.in-Entered.is ∙ ap (λ (k : Course). k.window) due.is) in
    let is : a.course ≡ all_copied a.members c.in-Entered.span due.sectioned = due.is ∙ ap (λ (s : Span). all_copied a.members s due.sectioned) (sym same) in
    let moved = moved-none given c.in-Entered.span a.members m c.record-done.result.refusal c.in_default-refusal.is c.record-done.ensures.moved in
    rw (← c.moving.view_is) (record-left given a.members m a.work.resync c.in-Entered.span due.sectioned a.ahead moved (c.moving.invariant.moves (ap (λ p. is_reshaping p.parts.members.newest) c.moving.view_is ∙ c.requires.active)).1.kept.members_are.active
    ∙ sym (ap (λ (k : Course). left_in a.work a.members k a.ahead) is))

-- ---- what the searches would find too, for longer

pub check_going-requires : goal.check_going-requires
check_going-requires g c = subst (λ p. IsCallGoing p.parts.entries c.args.who) (sym c.moving.view_is) c.requires.open

pub append_entry-requires-clause-number : goal.append_entry-requires-clause-number
append_entry-requires-clause-number g c = c.check_going.ensures

pub returns-in-Some-clause-clean : goal.returns-in-Some-clause-clean
returns-in-Some-clause-clean g c = ap (λ p. is_clean p.parts.members.newest) c.moving.view_is

pub returns-in-Some-clause-caused : goal.returns-in-Some-clause-caused
returns-in-Some-clause-caused g c =
    let a = c.moving.inside in
    let refusal = c.in-Some.refusal in
    rw (← c.moving.view_is) (refused-for (list_length a.members.newest) 0 AreTooMany a.members a.members refusal (too-many-of a.members refusal c.in-Some.ensures) zero-le c.in-Some.ensures)

pub returns-in-Some-clause-course : goal.returns-in-Some-clause-course
returns-in-Some-clause-course g c = ap (λ p. p.course) c.moving.view_is

pub returns-in-Some-clause-room : goal.returns-in-Some-clause-room
returns-in-Some-clause-room g c = one-fewer c.moving.inside.steps c.args.moving.now.parts.steps (ap (λ p. p.parts.steps) c.moving.view_is) c.requires.room

pub returns-in-Some-clause-given : goal.returns-in-Some-clause-given
returns-in-Some-clause-given g c = ap (λ p. g.B.Bank.given p.parts.bank) c.moving.view_is

pub record-done-requires-clause-stands : goal.record-done-requires-clause-stands
record-done-requires-clause-stands g c =
    record {
      slots = (alike c.moving.invariant).kept.slots;
      placed = (alike c.moving.invariant).kept.members_are.placed;
      unlost = (alike c.moving.invariant).kept.members_are.unlost;
      free = (alike c.moving.invariant).kept.members_are.free;
    }

pub record-done-requires-clause-next : goal.record-done-requires-clause-next
record-done-requires-clause-next g c =
    let due = subst (λ p. IsRecordDue p) (sym c.moving.view_is) c.requires.due in
    let same : c.in-Entered.span ≡ due.span = same-span c.in-Entered.span due.span c.in-Entered.copied _ c.in-Entered.sectioned due.sectioned (sym c.in-Entered.is ∙ ap (λ (k : Course). k.window) due.is) in
    let next = subst (λ (s : Span). next_window c.moving.inside.members.newest ≡ Some s) (sym same) (window-next c.moving.inside.course due.span _ due.sectioned due.is (c.moving.invariant.moves (ap (λ p. is_reshaping p.parts.members.newest) c.moving.view_is ∙ c.requires.active)).1.kept.course_is) in
    next

pub newly_unassigned-roles-requires-clause-known : goal.newly_unassigned-roles-requires-clause-known
newly_unassigned-roles-requires-clause-known g c =
    roles-past (g.B.Bank.given c.moving.inside.bank) c.moving.inside.members c.record-done.new.members c.in-Entered.span c.record-done.result.refusal c.record-done.ensures.moved c.len-count.result c.len-count.ensures (alike c.moving.invariant).kept.members_are.placed.roles

pub append_after_losses-requires-clause-room : goal.append_after_losses-requires-clause-room
append_after_losses-requires-clause-room g c =
    room-behind c.moving.inside.steps c.args.moving.now.parts.steps c.moving.inside.epoch.entries.room (ap (λ p. p.parts.steps) c.moving.view_is) c.requires.room (alike c.moving.invariant).room_left

pub append_after_losses-requires-clause-number : goal.append_after_losses-requires-clause-number
append_after_losses-requires-clause-number g c = c.check_going.ensures

pub returns-in-Some-refusal-clause-entered : goal.returns-in-Some-refusal-clause-entered
returns-in-Some-refusal-clause-entered g c =
    rw (← c.moving.view_is) (record { roles = c.newly_unassigned-roles.result; spares = c.record-done.result.spares; end = c.ops-end-2.result; is = c.append_after_losses.ensures.items })

pub returns-in-Some-refusal-clause-clean : goal.returns-in-Some-refusal-clause-clean
returns-in-Some-refusal-clause-clean g c = c.record-done.ensures.clean ∙ ap (λ p. is_clean p.parts.members.newest) c.moving.view_is

pub returns-in-Some-refusal-clause-course : goal.returns-in-Some-refusal-clause-course
returns-in-Some-refusal-clause-course g c = ap (λ p. p.course) c.moving.view_is

pub returns-in-Some-refusal-clause-room : goal.returns-in-Some-refusal-clause-room
returns-in-Some-refusal-clause-room g c = one-fewer c.moving.inside.steps c.args.moving.now.parts.steps (ap (λ p. p.parts.steps) c.moving.view_is) c.requires.room

pub returns-in-Some-refusal-clause-given : goal.returns-in-Some-refusal-clause-given
returns-in-Some-refusal-clause-given g c = c.record-done.ensures.bank.same ∙ ap (λ p. g.B.Bank.given p.parts.bank) c.moving.view_is

pub left_in_reshape-left-requires-clause-fit : goal.left_in_reshape-left-requires-clause-fit
left_in_reshape-left-requires-clause-fit g c =
    (moved-none (g.B.Bank.given c.moving.inside.bank) c.in-Entered.span c.moving.inside.members c.record-done.new.members c.record-done.result.refusal c.in_default-refusal.is c.record-done.ensures.moved).placed.fit

pub left_in_reshape-left-requires-clause-reshape : goal.left_in_reshape-left-requires-clause-reshape
left_in_reshape-left-requires-clause-reshape g c =
    under-way-moved (g.B.Bank.given c.moving.inside.bank) (moved_past c.in-Entered.span c.moving.inside.members) c.record-done.new.members (moved-none (g.B.Bank.given c.moving.inside.bank) c.in-Entered.span c.moving.inside.members c.record-done.new.members c.record-done.result.refusal c.in_default-refusal.is c.record-done.ensures.moved) (c.moving.invariant.moves (ap (λ p. is_reshaping p.parts.members.newest) c.moving.view_is ∙ c.requires.active)).1.kept.members_are.active

pub left_in_reshape-left-requires-clause-sound : goal.left_in_reshape-left-requires-clause-sound
left_in_reshape-left-requires-clause-sound g c =
    sound-moved (g.B.Bank.given c.moving.inside.bank) (moved_past c.in-Entered.span c.moving.inside.members) c.record-done.new.members (moved-none (g.B.Bank.given c.moving.inside.bank) c.in-Entered.span c.moving.inside.members c.record-done.new.members c.record-done.result.refusal c.in_default-refusal.is c.record-done.ensures.moved) (phases_of c.moving.inside.ahead) (c.moving.invariant.moves (ap (λ p. is_reshaping p.parts.members.newest) c.moving.view_is ∙ c.requires.active)).1.planned

pub append_after_losses-requires-2-clause-room : goal.append_after_losses-requires-2-clause-room
append_after_losses-requires-2-clause-room g c =
    room-behind c.moving.inside.steps c.args.moving.now.parts.steps c.moving.inside.epoch.entries.room (ap (λ p. p.parts.steps) c.moving.view_is) c.requires.room (alike c.moving.invariant).room_left

pub append_after_losses-requires-2-clause-number : goal.append_after_losses-requires-2-clause-number
append_after_losses-requires-2-clause-number g c = c.check_going.ensures

pub returns-clause-entered : goal.returns-clause-entered
returns-clause-entered g c =
    rw (← c.moving.view_is) (taken-behind c.args.who c.ops-end-2.result c.newly_unassigned-roles.result c.record-done.result.spares RecordsWindow c.left_in_reshape-left.result _ c.left_in_reshape-left.ensures c.append_after_losses-2.ensures.items)

pub returns-clause-clean : goal.returns-clause-clean
returns-clause-clean g c = c.record-done.ensures.clean ∙ ap (λ p. is_clean p.parts.members.newest) c.moving.view_is

pub returns-clause-room : goal.returns-clause-room
returns-clause-room g c = one-fewer c.moving.inside.steps c.args.moving.now.parts.steps (ap (λ p. p.parts.steps) c.moving.view_is) c.requires.room

pub returns-clause-given : goal.returns-clause-given
returns-clause-given g c = c.record-done.ensures.bank.same ∙ ap (λ p. g.B.Bank.given p.parts.bank) c.moving.view_is

pub returns-in-Some-clause-active : goal.returns-in-Some-clause-active
returns-in-Some-clause-active g c = (ap (λ p. is_reshaping p.parts.members.newest) c.moving.view_is ∙ c.requires.active)

pub returns-in-Some-refusal-clause-active : goal.returns-in-Some-refusal-clause-active
returns-in-Some-refusal-clause-active g c =
    (moved-if (g.B.Bank.given c.moving.inside.bank) c.in-Entered.span c.moving.inside.members c.record-done.new.members c.record-done.result.refusal c.in-Some-refusal.refusal c.in-Some-refusal.is c.record-done.ensures.moved).reshape.reshaping ∙ (ap (λ p. is_reshaping p.parts.members.newest) c.moving.view_is ∙ c.requires.active)

pub returns-clause-active : goal.returns-clause-active
returns-clause-active g c =
    (moved-none (g.B.Bank.given c.moving.inside.bank) c.in-Entered.span c.moving.inside.members c.record-done.new.members c.record-done.result.refusal c.in_default-refusal.is c.record-done.ensures.moved).reshape.reshaping ∙ (ap (λ p. is_reshaping p.parts.members.newest) c.moving.view_is ∙ c.requires.active)
