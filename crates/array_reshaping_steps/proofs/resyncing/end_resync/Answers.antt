use Rattle.std.proofs.Common.{◌≤◌, [], ◌∷◌, ◌++◌, false, refl, sym, ◌∙◌, subst, arith, ap, None}
use Rattle.array_type.specs.sb_specs_Reading.{list_length, is_reshaping}
use Rattle.array_type.proofs.sb_specs_ValidFields.{few-roles}
use Rattle.array_type.specs.history_the_Event_TheVariants.{Refused, Step}
use Rattle.array_type.specs.history_the_StepKind_TheVariants.{ResyncEnded as EndsResync}
use Rattle.array_type.specs.history_Plain.{entries_of}
use Rattle.array_type.specs.array_members_Lacking.{AreTooMany, AreHoldersFlushed}
use Rattle.array_type.specs.array_members_Numbers.{bears}
use Rattle.array_type.proofs.array_members_LackingLaws.{lost-since, never-both}
use Rattle.array_type.proofs.array_members_MovedLaws.{grows-none, moved-same}
use Rattle.array_type.specs.history_append_Losing.{losses_of}
use Rattle.array_type.specs.array_call_specs_Kept.{scope_in}
use Rattle.array_type.proofs.array_call_specs_LossLaws.{losses-behind, ended-behind, behind-alone}
use Rattle.array_type.proofs.array_call_specs_ReadyLaws.{scope-same}
use Rattle.array_type.proofs.array_call_specs_ReplyLaws.{refused-for, too-many-of}
use Rattle.array_type.specs.history_invariant_Recorded.{IsCallGoing}
use Rattle.array_type.specs.history_invariant_Safe.{world_in}
use Rattle.array_type.proofs.array_reshaping_invariant_Flushing.{AreFlushed, AreSettled}
use Rattle.array_type.proofs.array_reshaping_invariant_Refusals.{quiet-refusal, refused-right}
use Rattle.array_type.proofs.array_reshaping_invariant_Resting.{resting-moves}
use Rattle.array_type.proofs.array_reshaping_invariant_Steps.{missing-since}
use Rattle.array_type.specs.array_specs_Parts.{left_in}
use Rattle.array_type.proofs.array_specs_Called.{not_254, called, alone-lossless, risen-told, many-of}
use Rattle.array_type.specs.array_reshaping_laws_Resyncing.{IsResyncEndDue}
use Rattle.array_type.specs.array_reshaping_laws_Ready.{bytes_in}
use Rattle.array_type.proofs.array_reshaping_laws_Kept.{ready, ready-with, shapes-same, shapes-moved, behind-keeps, behind-whole}
use Rattle.array_type.proofs.array_reshaping_laws_ResyncLaws.{aside-right, end-refused, end-done, end-left, rows-good}
use Rattle.array_type.specs.reshape_request_Left.{phases_of}
use Rattle.array_type.specs.array_call_specs_Calls.{IsRefusedFor}
use Rattle.array_type.proofs.array_reshaping_state_ReshapeLaws.{under-way-of}
use Rattle.array_type.proofs.array_specs_Lengths.{alone-keeps}
use Rattle.array_type.proofs.ReshapingCalls.{room-49, one-less, many-refused, sound-same, zeroed-moved, known-moved, never-falls, room-after-1, room-after-49, step-entered, zero-le}
use Rattle.array_type.specs.stripe_row_Rows.{reading_of}
use Rattle.array_type.proofs.Alike.{alike, goes-on}
use Rattle.array_reshaping_steps.proofs.resyncing.end_resync.Goals as goal

-- ---- refused before anything is done

pub invariant_of-moving : goal.invariant_of-moving
invariant_of-moving g c =
    goes-on (c.moving.invariant.moves (ap (λ p. is_reshaping p.parts.members.newest) c.moving.view_is ∙ c.requires.active)).0 (
    let was = (c.moving.invariant.moves (ap (λ p. is_reshaping p.parts.members.newest) c.moving.view_is ∙ c.requires.active)).1 in
    let a = c.moving.inside in
    let given = g.B.Bank.given a.bank in
    let scope = scope_in given a.epoch.uuid a.epoch.given a.backup in
    let goes : IsCallGoing a.epoch.entries.items c.args.who = subst (λ p. IsCallGoing p.parts.entries c.args.who) (sym c.moving.view_is) c.requires.open in
    let some : 1 ≤ a.steps = subst (λ p. 1 ≤ p.parts.steps) (sym c.moving.view_is) c.requires.room in
    let tape = g.B.Bank.tape a.bank in
    let end = c.ops-end.result in
    let refusal = c.in-Some.refusal in
    let kept = resting-moves g.B.Bank.tells given tape scope a.epoch.first a.epoch.entries.items a.members (bears a.work) a.work.resync a.course (bytes_in a.course.window a.window.items) (left_in a.work a.members a.course a.ahead)
    c.args.who end (Refused refusal) was.kept goes (not_254 c.args.who.caller c.requires.caller) c.ops-end.ensures.count (quiet-refusal refusal) (λ told is. is)
    (λ t right. refused-right (world_in given tape scope a.epoch.first) a.epoch.entries.items given a.members was.kept.members_are.placed (was.kept.gone t right) (was.kept.levelled t right) refusal c.in-Some.ensures) in
    ready (entries_of c.args.who end (Refused refusal ∷ [])) was (grows-none (λ t. refl)) (shapes-same a.members.newest) kept
    refl (never-falls _) (alone-keeps c.args.who end (Refused refusal) (λ n. refl) (λ limit. refl)) (λ none whole. whole) refl (scope-same given a.backup refl c.append_entry.ensures.uuid c.append_entry.ensures.given) c.append_entry.ensures.first refl c.append_entry.ensures.items
    (room-after-1 a.steps a.epoch.entries.room c.append_entry.new.epoch.entries.room was.room_left c.append_entry.ensures.room some))

pub returns-in-Some-clause-entered : goal.returns-in-Some-clause-entered
returns-in-Some-clause-entered g c =
    rw (← c.moving.view_is) (behind-alone c.args.who c.ops-end.result (Refused c.in-Some.refusal) refl c.append_entry.ensures.items)

pub returns-in-Some-clause-called : goal.returns-in-Some-clause-called
returns-in-Some-clause-called g c =
    let was = (alike c.moving.invariant) in
    let a = c.moving.inside in
    let given = g.B.Bank.given a.bank in
    let faults = g.B.Bank.faults_of a.bank in
    let end = c.ops-end.result in
    let refusal = c.in-Some.refusal in
    rw (← c.moving.view_is) (called (grows-none (λ t. refl)) (moved-same given given a.members a.members refl refl was.kept.members_are.placed was.kept.members_are.unlost)
    (ended-behind (g.B.Bank.tape a.bank) c.append_entry.new.epoch.first a.epoch.entries.items c.args.who end [] (Refused refusal) c.append_entry.ensures.items c.ops-end.ensures.count)
    (alone-lossless a.members faults faults a.epoch.entries.items a.epoch.entries.items c.append_entry.new.epoch.entries.items c.args.who end (Refused refusal) tt refl c.append_entry.ensures.items)
    (never-falls _)
    (record { uuid = c.append_entry.ensures.uuid; given = c.append_entry.ensures.given; first = c.append_entry.ensures.first; backup = refl; work = refl; ahead = refl; limit = refl })
    (λ t. (was.kept.recorded t).begun))

-- ---- the roles

pub overflow_cast-count : goal.overflow_cast-count
overflow_cast-count g c =
    let members = (c.moving.invariant.moves (ap (λ p. is_reshaping p.parts.members.newest) c.moving.view_is ∙ c.requires.active)).1.kept.members_are in
    let few = few-roles c.moving.inside.members.newest members.placed.fit.valid in
    let roles = members.backed.roles in
    let long = c.len-count.ensures in
    omega (arith, few, roles, long)

pub unassigned_roles-before-requires-clause-few : goal.unassigned_roles-before-requires-clause-few
unassigned_roles-before-requires-clause-few g c =
    let members = (c.moving.invariant.moves (ap (λ p. is_reshaping p.parts.members.newest) c.moving.view_is ∙ c.requires.active)).1.kept.members_are in
    let few = few-roles c.moving.inside.members.newest members.placed.fit.valid in
    let roles = members.backed.roles in
    let long = c.len-count.ensures in
    omega (arith, few, roles, long)

pub newly_unassigned-lost-requires-clause-few : goal.newly_unassigned-lost-requires-clause-few
newly_unassigned-lost-requires-clause-few g c =
    let members = (c.moving.invariant.moves (ap (λ p. is_reshaping p.parts.members.newest) c.moving.view_is ∙ c.requires.active)).1.kept.members_are in
    let few = few-roles c.moving.inside.members.newest members.placed.fit.valid in
    let roles = members.backed.roles in
    let long = c.len-count.ensures in
    omega (arith, few, roles, long)

-- ---- it is refused

pub invariant_of-moving-in-Some-refusal : goal.invariant_of-moving-in-Some-refusal
invariant_of-moving-in-Some-refusal g c =
    goes-on (c.moving.invariant.moves (ap (λ p. is_reshaping p.parts.members.newest) c.moving.view_is ∙ c.requires.active)).0 (
    let was = (c.moving.invariant.moves (ap (λ p. is_reshaping p.parts.members.newest) c.moving.view_is ∙ c.requires.active)).1 in
    let here = was.kept.members_are in
    let a = c.moving.inside in
    let given = g.B.Bank.given a.bank in
    let goes : IsCallGoing a.epoch.entries.items c.args.who = subst (λ p. IsCallGoing p.parts.entries c.args.who) (sym c.moving.view_is) c.requires.open in
    let some : 1 ≤ a.steps = subst (λ p. 1 ≤ p.parts.steps) (sym c.moving.view_is) c.requires.room in
    let due = subst (λ p. IsResyncEndDue p) (sym c.moving.view_is) c.requires.due in
    let m = c.flush_and_mark-settled.new.members in
    let did = c.flush_and_mark-settled.ensures in
    let tape = g.B.Bank.tape a.bank in
    let tape' = g.B.Bank.tape c.flush_and_mark-settled.new.bank in
    let before = g.B.Bank.faults_of a.bank in
    let after = g.B.Bank.faults_of c.flush_and_mark-settled.new.bank in
    let roles = c.newly_unassigned-lost.result in
    let spares = c.flush_and_mark-settled.result.spares in
    let end = c.ops-end-2.result in
    let refusal = c.in-Some-refusal.refusal in
    let since = lost-since given a.members m c.len-count.result c.unassigned_roles-before.result roles spares before after here.placed did.keeps.moved did.keeps.failed
    (c.len-count.ensures ∙ here.backed.roles) c.unassigned_roles-before.ensures c.newly_unassigned-lost.ensures in
    let flushed : AreFlushed g.B.Bank.tells given tape tape' a.members m roles false = record {
      moved = did.keeps.moved;
      few = few-roles m.newest did.keeps.moved.placed.fit.valid;
      since = missing-since roles did.keeps.moved since.vacant;
      stays = did.stays;
      rise = risen-told did.keeps.rise;
      others = did.others;
      unused = did.keeps.unused;
      safe = did.safe;
    } in
    let kept = end-refused a.work a.course a.ahead c.args.who end roles spares due.is due.aside was.kept c.in_default.ensures goes c.requires.caller c.ops-end-2.ensures.count did.keeps.bank.grows flushed refusal
    (many-of m c.flush_and_mark-settled.result.refusal refusal c.in-Some-refusal.is did.refused) in
    ready (entries_of c.args.who end (losses_of roles spares ++ Refused refusal ∷ [])) was did.keeps.bank.grows (shapes-moved given a.members m did.keeps.moved) kept
    refl did.keeps.bank.counts (behind-keeps c.args.who end roles spares (Refused refusal) (λ n. refl) (λ limit. refl)) (behind-whole tape' (scope_in given a.epoch.uuid a.epoch.given a.backup) a.epoch.first a.epoch.entries.items c.args.who end roles spares (Refused refusal) did.keeps.moved (missing-since roles did.keeps.moved since.vacant)) did.keeps.bank.same (scope-same given a.backup did.keeps.bank.same c.append_after_losses.ensures.uuid c.append_after_losses.ensures.given) c.append_after_losses.ensures.first refl c.append_after_losses.ensures.items
    (room-after-49 a.steps a.epoch.entries.room c.append_after_losses.new.epoch.entries.room was.room_left c.append_after_losses.ensures.room some))

pub returns-in-Some-refusal-clause-called : goal.returns-in-Some-refusal-clause-called
returns-in-Some-refusal-clause-called g c =
    let was = (c.moving.invariant.moves (ap (λ p. is_reshaping p.parts.members.newest) c.moving.view_is ∙ c.requires.active)).1 in
    let here = was.kept.members_are in
    let a = c.moving.inside in
    let given = g.B.Bank.given a.bank in
    let m = c.flush_and_mark-settled.new.members in
    let did = c.flush_and_mark-settled.ensures in
    let before = g.B.Bank.faults_of a.bank in
    let after = g.B.Bank.faults_of c.flush_and_mark-settled.new.bank in
    let roles = c.newly_unassigned-lost.result in
    let spares = c.flush_and_mark-settled.result.spares in
    let end = c.ops-end-2.result in
    let refusal = c.in-Some-refusal.refusal in
    let since = lost-since given a.members m c.len-count.result c.unassigned_roles-before.result roles spares before after here.placed did.keeps.moved did.keeps.failed
    (c.len-count.ensures ∙ here.backed.roles) c.unassigned_roles-before.ensures c.newly_unassigned-lost.ensures in
    rw (← c.moving.view_is) (called did.keeps.bank.grows did.keeps.moved
    (ended-behind (g.B.Bank.tape c.flush_and_mark-settled.new.bank) c.append_after_losses.new.epoch.first a.epoch.entries.items c.args.who end (losses_of roles spares) (Refused refusal) c.append_after_losses.ensures.items c.ops-end-2.ensures.count)
    (losses-behind a.members m before after a.epoch.entries.items a.epoch.entries.items c.append_after_losses.new.epoch.entries.items c.args.who end roles spares (Refused refusal) since tt refl c.append_after_losses.ensures.items)
    did.keeps.bank.counts
    (record { uuid = c.append_after_losses.ensures.uuid; given = c.append_after_losses.ensures.given; first = c.append_after_losses.ensures.first; backup = refl; work = refl; ahead = refl; limit = refl })
    (λ t. (was.kept.recorded t).begun))

pub returns-in-Some-refusal-clause-caused : goal.returns-in-Some-refusal-clause-caused
returns-in-Some-refusal-clause-caused g c =
    let a = c.moving.inside in
    let m = c.flush_and_mark-settled.new.members in
    let refusal = c.in-Some-refusal.refusal in
    let many = many-of m c.flush_and_mark-settled.result.refusal refusal c.in-Some-refusal.is c.flush_and_mark-settled.ensures.refused in
    rw (← c.moving.view_is) (refused-for (list_length a.members.newest) 0 AreTooMany a.members m refusal (too-many-of m refusal many) (zero-le _) many)

-- ---- it is done

pub left_in_reshape-left-requires-clause-open : goal.left_in_reshape-left-requires-clause-open
left_in_reshape-left-requires-clause-open g c =
    let a = c.moving.inside in
    let due = subst (λ p. IsResyncEndDue p) (sym c.moving.view_is) c.requires.due in
    aside-right c.flush_and_mark-settled.new.members.newest a.course.window due.aside

pub invariant_of-moving-2 : goal.invariant_of-moving-2
invariant_of-moving-2 g c =
    goes-on (c.moving.invariant.moves (ap (λ p. is_reshaping p.parts.members.newest) c.moving.view_is ∙ c.requires.active)).0 (
    let was = (c.moving.invariant.moves (ap (λ p. is_reshaping p.parts.members.newest) c.moving.view_is ∙ c.requires.active)).1 in
    let here = was.kept.members_are in
    let a = c.moving.inside in
    let given = g.B.Bank.given a.bank in
    let goes : IsCallGoing a.epoch.entries.items c.args.who = subst (λ p. IsCallGoing p.parts.entries c.args.who) (sym c.moving.view_is) c.requires.open in
    let some : 1 ≤ a.steps = subst (λ p. 1 ≤ p.parts.steps) (sym c.moving.view_is) c.requires.room in
    let due = subst (λ p. IsResyncEndDue p) (sym c.moving.view_is) c.requires.due in
    let m = c.flush_and_mark-settled.new.members in
    let did = c.flush_and_mark-settled.ensures in
    let tape = g.B.Bank.tape a.bank in
    let tape' = g.B.Bank.tape c.flush_and_mark-settled.new.bank in
    let before = g.B.Bank.faults_of a.bank in
    let after = g.B.Bank.faults_of c.flush_and_mark-settled.new.bank in
    let roles = c.newly_unassigned-lost.result in
    let spares = c.flush_and_mark-settled.result.spares in
    let end = c.ops-end-2.result in
    let left = c.left_in_reshape-left.result in
    let since = lost-since given a.members m c.len-count.result c.unassigned_roles-before.result roles spares before after here.placed did.keeps.moved did.keeps.failed
    (c.len-count.ensures ∙ here.backed.roles) c.unassigned_roles-before.ensures c.newly_unassigned-lost.ensures in
    let flushed : AreFlushed g.B.Bank.tells given tape tape' a.members m roles false = record {
      moved = did.keeps.moved;
      few = few-roles m.newest did.keeps.moved.placed.fit.valid;
      since = missing-since roles did.keeps.moved since.vacant;
      stays = did.stays;
      rise = risen-told did.keeps.rise;
      others = did.others;
      unused = did.keeps.unused;
      safe = did.safe;
    } in
    let done : AreSettled g.B.Bank.tells given tape tape' a.members m false = record { clean = did.clean c.in_default-refusal.is; settled = did.settled c.in_default-refusal.is } in
    let kept = end-done a.work a.course a.ahead c.args.who end roles spares due.is due.aside was.kept c.in_default.ensures goes c.requires.caller c.ops-end-2.ensures.count did.keeps.bank.grows flushed left c.left_in_reshape-left.ensures done in
    ready-with (entries_of c.args.who end (losses_of roles spares ++ Step EndsResync left ∷ [])) was did.keeps.bank.grows (shapes-moved given a.members m did.keeps.moved) kept
    refl did.keeps.bank.counts (behind-keeps c.args.who end roles spares (Step EndsResync left) (λ n. refl) (λ limit. refl)) (behind-whole tape' (scope_in given a.epoch.uuid a.epoch.given a.backup) a.epoch.first a.epoch.entries.items c.args.who end roles spares (Step EndsResync left) did.keeps.moved (missing-since roles did.keeps.moved since.vacant)) did.keeps.bank.same (scope-same given a.backup did.keeps.bank.same c.append_after_losses-2.ensures.uuid c.append_after_losses-2.ensures.given) c.append_after_losses-2.ensures.first refl c.append_after_losses-2.ensures.items
    (room-after-49 a.steps a.epoch.entries.room c.append_after_losses-2.new.epoch.entries.room was.room_left c.append_after_losses-2.ensures.room some))

pub returns-clause-called : goal.returns-clause-called
returns-clause-called g c =
    let was = (c.moving.invariant.moves (ap (λ p. is_reshaping p.parts.members.newest) c.moving.view_is ∙ c.requires.active)).1 in
    let here = was.kept.members_are in
    let a = c.moving.inside in
    let given = g.B.Bank.given a.bank in
    let m = c.flush_and_mark-settled.new.members in
    let did = c.flush_and_mark-settled.ensures in
    let before = g.B.Bank.faults_of a.bank in
    let after = g.B.Bank.faults_of c.flush_and_mark-settled.new.bank in
    let roles = c.newly_unassigned-lost.result in
    let spares = c.flush_and_mark-settled.result.spares in
    let end = c.ops-end-2.result in
    let event = Step EndsResync c.left_in_reshape-left.result in
    let since = lost-since given a.members m c.len-count.result c.unassigned_roles-before.result roles spares before after here.placed did.keeps.moved did.keeps.failed
    (c.len-count.ensures ∙ here.backed.roles) c.unassigned_roles-before.ensures c.newly_unassigned-lost.ensures in
    rw (← c.moving.view_is) (called did.keeps.bank.grows did.keeps.moved
    (ended-behind (g.B.Bank.tape c.flush_and_mark-settled.new.bank) c.append_after_losses-2.new.epoch.first a.epoch.entries.items c.args.who end (losses_of roles spares) event c.append_after_losses-2.ensures.items c.ops-end-2.ensures.count)
    (losses-behind a.members m before after a.epoch.entries.items a.epoch.entries.items c.append_after_losses-2.new.epoch.entries.items c.args.who end roles spares event since tt refl c.append_after_losses-2.ensures.items)
    did.keeps.bank.counts
    (record { uuid = c.append_after_losses-2.ensures.uuid; given = c.append_after_losses-2.ensures.given; first = c.append_after_losses-2.ensures.first; backup = refl; work = refl; ahead = refl; limit = refl })
    (λ t. (was.kept.recorded t).begun))

pub returns-clause-left : goal.returns-clause-left
returns-clause-left g c =
    let was = (c.moving.invariant.moves (ap (λ p. is_reshaping p.parts.members.newest) c.moving.view_is ∙ c.requires.active)).1 in
    let a = c.moving.inside in
    let due = subst (λ p. IsResyncEndDue p) (sym c.moving.view_is) c.requires.due in
    end-left (g.B.Bank.given a.bank) a.members c.flush_and_mark-settled.new.members a.work a.course a.ahead was.kept.members_are.placed.fit was.kept.members_are.active due.is c.flush_and_mark-settled.ensures.keeps.moved due.aside ∙ ap (λ p. left_in p.parts.work p.parts.members p.course p.ahead) c.moving.view_is

pub returns-clause-caused : goal.returns-clause-caused
returns-clause-caused g c =
    rw (← c.moving.view_is) (zero-le _, λ refusal many. never-both c.moving.inside.members refusal c.in_default.ensures many)

pub returns-clause-clean : goal.returns-clause-clean
returns-clause-clean g c = c.flush_and_mark-settled.ensures.clean c.in_default-refusal.is refl

pub returns-clause-good : goal.returns-clause-good
returns-clause-good g c =
    let due = subst (λ p. IsResyncEndDue p) (sym c.moving.view_is) c.requires.due in
    λ t fit. rows-good c.moving.inside.course due.aside ((invariant_of-moving-2 g c).moves (c.flush_and_mark-settled.ensures.keeps.moved.reshape.reshaping ∙ (ap (λ p. is_reshaping p.parts.members.newest) c.moving.view_is ∙ c.requires.active))).1.kept t fit

pub returns-clause-flushed : goal.returns-clause-flushed
returns-clause-flushed g c =
    subst (λ p. g.B.Bank.tells → AreHoldersFlushed (reading_of c.flush_and_mark-settled.new.members) (g.B.Bank.given p.parts.bank) (g.B.Bank.tape c.flush_and_mark-settled.new.bank)) c.moving.view_is c.flush_and_mark-settled.ensures.flushed

-- ---- by what stands above

pub check_going-requires : goal.check_going-requires
check_going-requires g c = subst (λ p. IsCallGoing p.parts.entries c.args.who) (sym c.moving.view_is) c.requires.open

pub returns-in-Some-clause-caused : goal.returns-in-Some-clause-caused
returns-in-Some-clause-caused g c =
    let a = c.moving.inside in
    subst (λ p. IsRefusedFor (list_length p.parts.members.newest) 0 AreTooMany p.parts.members a.members c.in-Some.refusal) c.moving.view_is (many-refused a.members c.in-Some.refusal c.in-Some.ensures)

pub returns-in-Some-clause-room : goal.returns-in-Some-clause-room
returns-in-Some-clause-room g c =
    one-less c.moving.inside.steps (subst (λ p. 1 ≤ p.parts.steps) (sym c.moving.view_is) c.requires.room) ∙ ap (λ p. p.parts.steps) c.moving.view_is

pub returns-in-Some-refusal-clause-room : goal.returns-in-Some-refusal-clause-room
returns-in-Some-refusal-clause-room g c =
    one-less c.moving.inside.steps (subst (λ p. 1 ≤ p.parts.steps) (sym c.moving.view_is) c.requires.room) ∙ ap (λ p. p.parts.steps) c.moving.view_is

pub returns-clause-room : goal.returns-clause-room
returns-clause-room g c =
    one-less c.moving.inside.steps (subst (λ p. 1 ≤ p.parts.steps) (sym c.moving.view_is) c.requires.room) ∙ ap (λ p. p.parts.steps) c.moving.view_is

pub append_after_losses-requires-clause-room : goal.append_after_losses-requires-clause-room
append_after_losses-requires-clause-room g c =
    room-49 c.moving.inside.steps c.moving.inside.epoch.entries.room (subst (λ p. 1 ≤ p.parts.steps) (sym c.moving.view_is) c.requires.room) (alike c.moving.invariant).room_left

pub append_after_losses-requires-2-clause-room : goal.append_after_losses-requires-2-clause-room
append_after_losses-requires-2-clause-room g c =
    room-49 c.moving.inside.steps c.moving.inside.epoch.entries.room (subst (λ p. 1 ≤ p.parts.steps) (sym c.moving.view_is) c.requires.room) (alike c.moving.invariant).room_left

pub append_after_losses-requires-clause-number : goal.append_after_losses-requires-clause-number
append_after_losses-requires-clause-number g c = c.check_going.ensures

pub append_after_losses-requires-2-clause-number : goal.append_after_losses-requires-2-clause-number
append_after_losses-requires-2-clause-number g c = c.check_going.ensures

pub append_entry-requires-clause-number : goal.append_entry-requires-clause-number
append_entry-requires-clause-number g c = c.check_going.ensures

pub returns-in-Some-refusal-clause-entered : goal.returns-in-Some-refusal-clause-entered
returns-in-Some-refusal-clause-entered g c =
    rw (← c.moving.view_is) (record { roles = c.newly_unassigned-lost.result; spares = c.flush_and_mark-settled.result.spares; end = c.ops-end-2.result; is = c.append_after_losses.ensures.items })

pub returns-clause-entered : goal.returns-clause-entered
returns-clause-entered g c =
    step-entered c.newly_unassigned-lost.result c.flush_and_mark-settled.result.spares c.ops-end-2.result c.append_after_losses-2.ensures.items c.left_in_reshape-left.ensures (ap (λ p. p.parts.entries) c.moving.view_is)

pub flush_and_mark-settled-requires : goal.flush_and_mark-settled-requires
flush_and_mark-settled-requires g c =
    record {
      stands = record {
        slots = (alike c.moving.invariant).kept.slots;
        placed = (alike c.moving.invariant).kept.members_are.placed;
        unlost = (alike c.moving.invariant).kept.members_are.unlost;
        free = (alike c.moving.invariant).kept.members_are.free;
      };
    }

pub returns-in-Some-refusal-clause-given : goal.returns-in-Some-refusal-clause-given
returns-in-Some-refusal-clause-given g c = c.flush_and_mark-settled.ensures.keeps.bank.same ∙ ap (λ p. g.B.Bank.given p.parts.bank) c.moving.view_is

pub returns-clause-given : goal.returns-clause-given
returns-clause-given g c = c.flush_and_mark-settled.ensures.keeps.bank.same ∙ ap (λ p. g.B.Bank.given p.parts.bank) c.moving.view_is

pub returns-in-Some-clause-given : goal.returns-in-Some-clause-given
returns-in-Some-clause-given g c = ap (λ p. g.B.Bank.given p.parts.bank) c.moving.view_is

pub returns-in-Some-clause-course : goal.returns-in-Some-clause-course
returns-in-Some-clause-course g c = ap (λ p. p.course) c.moving.view_is

pub returns-in-Some-refusal-clause-course : goal.returns-in-Some-refusal-clause-course
returns-in-Some-refusal-clause-course g c = ap (λ p. p.course) c.moving.view_is

pub left_in_reshape-left-requires-clause-reshape : goal.left_in_reshape-left-requires-clause-reshape
left_in_reshape-left-requires-clause-reshape g c =
    let moved = c.flush_and_mark-settled.ensures.keeps.moved in
    under-way-of c.flush_and_mark-settled.new.members.newest moved.placed.fit (moved.reshape.reshaping ∙ (c.moving.invariant.moves (ap (λ p. is_reshaping p.parts.members.newest) c.moving.view_is ∙ c.requires.active)).1.kept.members_are.active)

pub left_in_reshape-left-requires-clause-fit : goal.left_in_reshape-left-requires-clause-fit
left_in_reshape-left-requires-clause-fit g c =
    let moved = c.flush_and_mark-settled.ensures.keeps.moved in
    moved.placed.fit

pub left_in_reshape-left-requires-clause-sound : goal.left_in_reshape-left-requires-clause-sound
left_in_reshape-left-requires-clause-sound g c =
    sound-same (phases_of c.moving.inside.ahead) (shapes-moved (g.B.Bank.given c.moving.inside.bank) c.moving.inside.members c.flush_and_mark-settled.new.members c.flush_and_mark-settled.ensures.keeps.moved) (c.moving.invariant.moves (ap (λ p. is_reshaping p.parts.members.newest) c.moving.view_is ∙ c.requires.active)).1.planned

pub left_in_reshape-left-requires-clause-zeroed : goal.left_in_reshape-left-requires-clause-zeroed
left_in_reshape-left-requires-clause-zeroed g c =
    let moved = c.flush_and_mark-settled.ensures.keeps.moved in
    zeroed-moved _ moved (c.moving.invariant.moves (ap (λ p. is_reshaping p.parts.members.newest) c.moving.view_is ∙ c.requires.active)).1.kept.course_is.few

pub newly_unassigned-lost-requires-clause-known : goal.newly_unassigned-lost-requires-clause-known
newly_unassigned-lost-requires-clause-known g c =
    known-moved c.len-count.result c.flush_and_mark-settled.ensures.keeps.moved c.len-count.ensures (alike c.moving.invariant).kept.members_are.placed.roles

pub returns-in-Some-clause-work : goal.returns-in-Some-clause-work
returns-in-Some-clause-work g c = ap (λ p. p.parts.work) c.moving.view_is

pub returns-in-Some-refusal-clause-work : goal.returns-in-Some-refusal-clause-work
returns-in-Some-refusal-clause-work g c = ap (λ p. p.parts.work) c.moving.view_is

pub returns-clause-course : goal.returns-clause-course
returns-clause-course g c = ap (λ p. p.course) c.moving.view_is

pub returns-clause-work : goal.returns-clause-work
returns-clause-work g c = ap (λ p. record p.parts.work { resync = None }) c.moving.view_is

pub overflow_sub-moving : goal.overflow_sub-moving
overflow_sub-moving g c = subst (λ p. 1 ≤ p.parts.steps) (sym c.moving.view_is) c.requires.room

pub returns-in-Some-clause-active : goal.returns-in-Some-clause-active
returns-in-Some-clause-active g c = (ap (λ p. is_reshaping p.parts.members.newest) c.moving.view_is ∙ c.requires.active)

pub returns-in-Some-refusal-clause-active : goal.returns-in-Some-refusal-clause-active
returns-in-Some-refusal-clause-active g c = c.flush_and_mark-settled.ensures.keeps.moved.reshape.reshaping ∙ (ap (λ p. is_reshaping p.parts.members.newest) c.moving.view_is ∙ c.requires.active)

pub returns-clause-active : goal.returns-clause-active
returns-clause-active g c = c.flush_and_mark-settled.ensures.keeps.moved.reshape.reshaping ∙ (ap (λ p. is_reshaping p.parts.members.newest) c.moving.view_is ∙ c.requires.active)
