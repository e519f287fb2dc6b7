use Rattle.std.proofs.Common.{◌≤◌, [], ◌∷◌, ◌++◌, false, None, inl, inr, refl, sym, ◌∙◌, ap, subst, arith}
use Rattle.array_fixed_io.specs.raid_types_the_Shape.{Shape}
use Rattle.array_fixed_io.specs.sb_specs_Reading.{list_length, is_reshaping}
use Rattle.array_fixed_io.specs.history_the_Event_TheVariants.{Refused, Step}
use Rattle.array_fixed_io.specs.history_the_StepKind_TheVariants.{ResyncEnded}
use Rattle.array_fixed_io.specs.history_Plain.{entries_of}
use Rattle.array_fixed_io.specs.array_members_Lacking.{AreLostSince, AreTooMany, AreHoldersFlushed}
use Rattle.array_fixed_io.specs.array_members_Status.{left_of}
use Rattle.array_fixed_io.proofs.array_members_LackingLaws.{lost-since, never-both}
use Rattle.array_fixed_io.proofs.array_members_Still.{count-still}
use Rattle.array_fixed_io.specs.history_append_Losing.{losses_of}
use Rattle.array_fixed_io.specs.array_call_specs_Calls.{IsAllSynced, AreSparesFewer}
use Rattle.array_fixed_io.proofs.array_call_specs_LossLaws.{losses-behind, ended-behind}
use Rattle.array_fixed_io.proofs.array_call_specs_ReadyLaws.{scope-same}
use Rattle.array_fixed_io.proofs.array_call_specs_ReplyLaws.{too-many-of, refused-for}
use Rattle.array_fixed_io.proofs.array_call_specs_StepsLeft.{left-ended, steps-fewer, steps-kept}
use Rattle.array_fixed_io.specs.history_invariant_Recorded.{IsCallGoing}
use Rattle.array_fixed_io.specs.array_specs_Parts.{visible_size}
use Rattle.array_fixed_io.proofs.array_fixed_invariant_Flushing.{IsFlushedStill, IsSettledStill}
use Rattle.array_fixed_io.specs.array_specs_Calls.{moving_world}
use Rattle.array_fixed_io.specs.array_specs_Plans.{ArePlansKept}
use Rattle.array_fixed_io.proofs.array_specs_Called.{risen-told}
use Rattle.array_fixed_io.proofs.array_specs_Lengths.{alone-keeps, behind-keeps}
use Rattle.array_fixed_io.proofs.array_fixed_laws_Kept.{ready, rows-moved}
use Rattle.array_fixed_io.proofs.array_fixed_laws_Going.{step-going}
use Rattle.array_fixed_io.proofs.array_fixed_laws_StepLaws.{refused-of, shapes-moved, planned-same, stepped, fewer-more, kept-more}
use Rattle.array_fixed_io.proofs.array_fixed_laws_ResyncLaws.{resync-done, resync-refused}
use Rattle.array_fixed_io.proofs.array_call_specs_DegradedLaws.{too-many-here}
use Rattle.array_fixed_io.proofs.array_fixed_laws_PlainBehind.{plain-refused}
use Rattle.array_fixed_io.proofs.array_fixed_laws_PlainSteps.{resynced-plain}
use Rattle.array_fixed_io.specs.array_members_the_Work.{Work}
use Rattle.array_fixed_io.proofs.array_members_Fit.{short}
use Rattle.array_fixed_io.proofs.array_type_Asked.{known-at, few-at, known-behind, sound-behind, step-taken, room-for-step, one-entered, step-behind, room-after}
use Rattle.array_fixed_io.specs.array_members_Placed.{AreStillHeld}
use Rattle.array_fixed_io.specs.stripe_row_Rows.{reading_of}
use Rattle.array_fixed_io.proofs.array_type_Alike.{alike, stays-at-rest}
use Rattle.array_fixed_sync.proofs.mending.end_resync.Goals as goal

-- ---- refused before anything is done

pub refuse_step-requires-clause-why : goal.refuse_step-requires-clause-why
refuse_step-requires-clause-why g c = rw (← c.still.view_is) (inl c.in-Some.ensures)

pub refuse_step-requires-clause-synced : goal.refuse_step-requires-clause-synced
refuse_step-requires-clause-synced g c = rw (← c.still.view_is) (λ none. c.in-Some.ensures)

pub returns-in-Some-clause-caused : goal.returns-in-Some-clause-caused
returns-in-Some-clause-caused g c =
    let a = c.still.inside in
    let refusal = c.in-Some.refusal in
    let many : AreTooMany c.args.still.now.parts.members refusal = subst (λ p. AreTooMany p.parts.members refusal) c.still.view_is c.in-Some.ensures in
    refused-for (list_length c.args.still.now.parts.members.newest) 0 AreTooMany c.args.still.now.parts.members c.refuse_step.new.still.parts.members refusal
    (too-many-of a.members refusal c.in-Some.ensures) (omega arith) (subst (λ m. AreTooMany m refusal) (sym c.refuse_step.ensures.members) many)

-- ---- refused behind the losses

pub invariant_of-still : goal.invariant_of-still
invariant_of-still g c =
    stays-at-rest (c.still.invariant.rests (ap (λ p. is_reshaping p.parts.members.newest) c.still.view_is ∙ c.requires.still)).0 (
    let was = (c.still.invariant.rests (ap (λ p. is_reshaping p.parts.members.newest) c.still.view_is ∙ c.requires.still)).1 in
    let here = was.kept.members_are in
    let a = c.still.inside in
    let given = g.B.Bank.given a.bank in
    let goes : IsCallGoing a.epoch.entries.items c.args.who = subst (λ p. IsCallGoing p.parts.entries c.args.who) (sym c.still.view_is) c.requires.open in
    let all : IsAllSynced a.work.resync a.members = subst (λ p. IsAllSynced p.parts.work.resync p.parts.members) (sym c.still.view_is) c.requires.pending in
    let some : 1 ≤ a.steps = subst (λ p. 1 ≤ p.parts.steps) (sym c.still.view_is) c.requires.room in
    let did = c.flush_and_mark-settled.ensures in
    let m = c.flush_and_mark-settled.new.members in
    let before = g.B.Bank.faults_of a.bank in
    let after = g.B.Bank.faults_of c.flush_and_mark-settled.new.bank in
    let roles = c.newly_unassigned-roles.result in
    let spares = c.flush_and_mark-settled.result.spares in
    let end = c.ops-end.result in
    let refusal = c.in-Some-refusal.refusal in
    let since : AreLostSince a.members m roles spares before after = lost-since given a.members m c.shape_in-disks.result.disks c.unassigned_roles-before.result roles spares before after here.placed did.keeps.moved did.keeps.failed
    (ap (λ (s : Shape). s.disks) c.shape_in-disks.ensures ∙ sym (count-still a.members.newest here.still)) c.unassigned_roles-before.ensures c.newly_unassigned-roles.ensures in
    let leaves : IsFlushedStill g.B.Bank.tells given (g.B.Bank.tape a.bank) (g.B.Bank.tape c.flush_and_mark-settled.new.bank) a.members m roles spares before after false = record {
      moved = did.keeps.moved;
      since = since;
      grows = did.keeps.bank.grows;
      rise = risen-told did.keeps.rise;
      others = did.others;
      safe = did.safe;
    } in
    ready (entries_of c.args.who end (losses_of roles spares ++ Refused refusal ∷ [])) was (rows-moved given a.members m did.keeps.moved)
    (resync-refused a.ahead c.args.who end roles spares was.kept c.in_default.ensures goes c.requires.caller c.ops-end.ensures.count all leaves refusal
    (refused-of (AreTooMany m) c.flush_and_mark-settled.result.refusal refusal c.in-Some-refusal.is did.refused))
    (plain-refused was c.args.who end goes c.requires.caller c.ops-end.ensures.count did.keeps.bank.grows did.keeps.moved since refusal
    (too-many-here (visible_size a.members a.limit) a.work.resync m refusal (refused-of (AreTooMany m) c.flush_and_mark-settled.result.refusal refusal c.in-Some-refusal.is did.refused)))
    did.keeps.bank.counts (behind-keeps c.args.who end roles spares (Refused refusal ∷ []) (alone-keeps c.args.who end (Refused refusal) (λ n. refl) (λ limit. refl)))
    did.keeps.bank.same (scope-same given a.backup did.keeps.bank.same c.append_after_losses.ensures.uuid c.append_after_losses.ensures.given) c.append_after_losses.ensures.first refl c.append_after_losses.ensures.items
    (room-after was.room_left some c.append_after_losses.ensures.room))

pub returns-in-Some-refusal-clause-stepped : goal.returns-in-Some-refusal-clause-stepped
returns-in-Some-refusal-clause-stepped g c =
    let was = (c.still.invariant.rests (ap (λ p. is_reshaping p.parts.members.newest) c.still.view_is ∙ c.requires.still)).1 in
    let here = was.kept.members_are in
    let a = c.still.inside in
    let given = g.B.Bank.given a.bank in
    let did = c.flush_and_mark-settled.ensures in
    let m = c.flush_and_mark-settled.new.members in
    let before = g.B.Bank.faults_of a.bank in
    let after = g.B.Bank.faults_of c.flush_and_mark-settled.new.bank in
    let roles = c.newly_unassigned-roles.result in
    let spares = c.flush_and_mark-settled.result.spares in
    let end = c.ops-end.result in
    let refusal = c.in-Some-refusal.refusal in
    let since : AreLostSince a.members m roles spares before after = lost-since given a.members m c.shape_in-disks.result.disks c.unassigned_roles-before.result roles spares before after here.placed did.keeps.moved did.keeps.failed
    (ap (λ (s : Shape). s.disks) c.shape_in-disks.ensures ∙ sym (count-still a.members.newest here.still)) c.unassigned_roles-before.ensures c.newly_unassigned-roles.ensures in
    rw (← c.still.view_is) (stepped did.keeps.bank.grows (shapes-moved did.keeps.moved)
    (ended-behind (g.B.Bank.tape c.flush_and_mark-settled.new.bank) c.append_after_losses.new.epoch.first a.epoch.entries.items c.args.who end (losses_of roles spares) (Refused refusal) c.append_after_losses.ensures.items c.ops-end.ensures.count)
    did.keeps.failed.roles
    (losses-behind a.members m before after a.epoch.entries.items a.epoch.entries.items c.append_after_losses.new.epoch.entries.items c.args.who end roles spares (Refused refusal) since tt refl c.append_after_losses.ensures.items)
    did.keeps.bank.counts
    (record { uuid = c.append_after_losses.ensures.uuid; given = c.append_after_losses.ensures.given; first = c.append_after_losses.ensures.first; backup = refl; ahead = refl; limit = refl })
    (λ t. (was.kept.recorded t).begun))

pub returns-in-Some-refusal-clause-stays : goal.returns-in-Some-refusal-clause-stays
returns-in-Some-refusal-clause-stays g c =
    let was = (c.still.invariant.rests (ap (λ p. is_reshaping p.parts.members.newest) c.still.view_is ∙ c.requires.still)).1 in
    let here = was.kept.members_are in
    let a = c.still.inside in
    let did = c.flush_and_mark-settled.ensures in
    let m = c.flush_and_mark-settled.new.members in
    let before = g.B.Bank.faults_of a.bank in
    let after = g.B.Bank.faults_of c.flush_and_mark-settled.new.bank in
    let roles = c.newly_unassigned-roles.result in
    let spares = c.flush_and_mark-settled.result.spares in
    let since : AreLostSince a.members m roles spares before after = lost-since (g.B.Bank.given a.bank) a.members m c.shape_in-disks.result.disks c.unassigned_roles-before.result roles spares before after here.placed did.keeps.moved did.keeps.failed
    (ap (λ (s : Shape). s.disks) c.shape_in-disks.ensures ∙ sym (count-still a.members.newest here.still)) c.unassigned_roles-before.ensures c.newly_unassigned-roles.ensures in
    rw (← c.still.view_is) (kept-more (planned-same a.ahead (shapes-moved did.keeps.moved))
    (steps-kept a.work c.args.who c.ops-end.result (Refused c.in-Some-refusal.refusal ∷ []) did.keeps.moved since c.append_after_losses.ensures.items))

pub returns-in-Some-refusal-clause-caused : goal.returns-in-Some-refusal-clause-caused
returns-in-Some-refusal-clause-caused g c =
    let a = c.still.inside in
    let m = c.flush_and_mark-settled.new.members in
    let refusal = c.in-Some-refusal.refusal in
    let many = refused-of (AreTooMany m) c.flush_and_mark-settled.result.refusal refusal c.in-Some-refusal.is c.flush_and_mark-settled.ensures.refused in
    rw (← c.still.view_is) (refused-for (list_length a.members.newest) 0 AreTooMany a.members m refusal (too-many-of m refusal many) (omega arith) many)

pub returns-in-Some-refusal-clause-held : goal.returns-in-Some-refusal-clause-held
returns-in-Some-refusal-clause-held g c =
    subst (λ p. AreStillHeld p.parts.members c.flush_and_mark-settled.new.members) c.still.view_is c.flush_and_mark-settled.ensures.keeps.moved.held

pub returns-in-Some-refusal-clause-spares : goal.returns-in-Some-refusal-clause-spares
returns-in-Some-refusal-clause-spares g c =
    subst (λ p. AreSparesFewer p.parts.members c.flush_and_mark-settled.new.members) c.still.view_is c.flush_and_mark-settled.ensures.keeps.moved.fewer

-- ---- ended

pub invariant_of-still-2 : goal.invariant_of-still-2
invariant_of-still-2 g c =
    stays-at-rest (c.still.invariant.rests (ap (λ p. is_reshaping p.parts.members.newest) c.still.view_is ∙ c.requires.still)).0 (
    let was = (c.still.invariant.rests (ap (λ p. is_reshaping p.parts.members.newest) c.still.view_is ∙ c.requires.still)).1 in
    let here = was.kept.members_are in
    let a = c.still.inside in
    let given = g.B.Bank.given a.bank in
    let goes : IsCallGoing a.epoch.entries.items c.args.who = subst (λ p. IsCallGoing p.parts.entries c.args.who) (sym c.still.view_is) c.requires.open in
    let all : IsAllSynced a.work.resync a.members = subst (λ p. IsAllSynced p.parts.work.resync p.parts.members) (sym c.still.view_is) c.requires.pending in
    let plans = subst (λ p. ArePlansKept g.B.Bank.tells (moving_world (g.B.Bank.given p.parts.bank) (g.B.Bank.tape p.parts.bank) p) p) (sym c.still.view_is) c.requires.plans in
    let some : 1 ≤ a.steps = subst (λ p. 1 ≤ p.parts.steps) (sym c.still.view_is) c.requires.room in
    let did = c.flush_and_mark-settled.ensures in
    let m = c.flush_and_mark-settled.new.members in
    let before = g.B.Bank.faults_of a.bank in
    let after = g.B.Bank.faults_of c.flush_and_mark-settled.new.bank in
    let roles = c.newly_unassigned-roles.result in
    let spares = c.flush_and_mark-settled.result.spares in
    let end = c.ops-end.result in
    let left = c.left_at_rest-left.result in
    let since : AreLostSince a.members m roles spares before after = lost-since given a.members m c.shape_in-disks.result.disks c.unassigned_roles-before.result roles spares before after here.placed did.keeps.moved did.keeps.failed
    (ap (λ (s : Shape). s.disks) c.shape_in-disks.ensures ∙ sym (count-still a.members.newest here.still)) c.unassigned_roles-before.ensures c.newly_unassigned-roles.ensures in
    let leaves : IsFlushedStill g.B.Bank.tells given (g.B.Bank.tape a.bank) (g.B.Bank.tape c.flush_and_mark-settled.new.bank) a.members m roles spares before after false = record {
      moved = did.keeps.moved;
      since = since;
      grows = did.keeps.bank.grows;
      rise = risen-told did.keeps.rise;
      others = did.others;
      safe = did.safe;
    } in
    let done : IsSettledStill g.B.Bank.tells given (g.B.Bank.tape a.bank) (g.B.Bank.tape c.flush_and_mark-settled.new.bank) a.members m false = record {
      clean = did.clean c.in_default-refusal.is;
      stays = did.stays;
      settled = did.settled c.in_default-refusal.is;
    } in
    ready (entries_of c.args.who end (losses_of roles spares ++ Step ResyncEnded left ∷ [])) was (rows-moved given a.members m did.keeps.moved)
    (resync-done a.ahead c.args.who end roles spares was.kept c.in_default.ensures goes c.requires.caller c.ops-end.ensures.count all leaves left c.left_at_rest-left.ensures plans done)
    (resynced-plain was c.args.who end goes c.requires.caller c.ops-end.ensures.count did.keeps.bank.grows did.keeps.moved since left all c.left_at_rest-left.ensures)
    did.keeps.bank.counts (behind-keeps c.args.who end roles spares (Step ResyncEnded left ∷ []) (alone-keeps c.args.who end (Step ResyncEnded left) (λ n. refl) (λ limit. refl)))
    did.keeps.bank.same (scope-same given a.backup did.keeps.bank.same c.append_after_losses-2.ensures.uuid c.append_after_losses-2.ensures.given) c.append_after_losses-2.ensures.first refl c.append_after_losses-2.ensures.items
    (room-after was.room_left some c.append_after_losses-2.ensures.room))

pub returns-clause-stepped : goal.returns-clause-stepped
returns-clause-stepped g c =
    let was = (c.still.invariant.rests (ap (λ p. is_reshaping p.parts.members.newest) c.still.view_is ∙ c.requires.still)).1 in
    let here = was.kept.members_are in
    let a = c.still.inside in
    let given = g.B.Bank.given a.bank in
    let did = c.flush_and_mark-settled.ensures in
    let m = c.flush_and_mark-settled.new.members in
    let before = g.B.Bank.faults_of a.bank in
    let after = g.B.Bank.faults_of c.flush_and_mark-settled.new.bank in
    let roles = c.newly_unassigned-roles.result in
    let spares = c.flush_and_mark-settled.result.spares in
    let end = c.ops-end.result in
    let event = Step ResyncEnded c.left_at_rest-left.result in
    let since : AreLostSince a.members m roles spares before after = lost-since given a.members m c.shape_in-disks.result.disks c.unassigned_roles-before.result roles spares before after here.placed did.keeps.moved did.keeps.failed
    (ap (λ (s : Shape). s.disks) c.shape_in-disks.ensures ∙ sym (count-still a.members.newest here.still)) c.unassigned_roles-before.ensures c.newly_unassigned-roles.ensures in
    rw (← c.still.view_is) (stepped did.keeps.bank.grows (shapes-moved did.keeps.moved)
    (ended-behind (g.B.Bank.tape c.flush_and_mark-settled.new.bank) c.append_after_losses-2.new.epoch.first a.epoch.entries.items c.args.who end (losses_of roles spares) event c.append_after_losses-2.ensures.items c.ops-end.ensures.count)
    did.keeps.failed.roles
    (losses-behind a.members m before after a.epoch.entries.items a.epoch.entries.items c.append_after_losses-2.new.epoch.entries.items c.args.who end roles spares event since tt refl c.append_after_losses-2.ensures.items)
    did.keeps.bank.counts
    (record { uuid = c.append_after_losses-2.ensures.uuid; given = c.append_after_losses-2.ensures.given; first = c.append_after_losses-2.ensures.first; backup = refl; ahead = refl; limit = refl })
    (λ t. (was.kept.recorded t).begun))

pub returns-clause-left : goal.returns-clause-left
returns-clause-left g c =
    let was = (c.still.invariant.rests (ap (λ p. is_reshaping p.parts.members.newest) c.still.view_is ∙ c.requires.still)).1 in
    let here = was.kept.members_are in
    let a = c.still.inside in
    let all : IsAllSynced a.work.resync a.members = subst (λ p. IsAllSynced p.parts.work.resync p.parts.members) (sym c.still.view_is) c.requires.pending in
    let did = c.flush_and_mark-settled.ensures in
    let m = c.flush_and_mark-settled.new.members in
    let before = g.B.Bank.faults_of a.bank in
    let after = g.B.Bank.faults_of c.flush_and_mark-settled.new.bank in
    let roles = c.newly_unassigned-roles.result in
    let spares = c.flush_and_mark-settled.result.spares in
    let since : AreLostSince a.members m roles spares before after = lost-since (g.B.Bank.given a.bank) a.members m c.shape_in-disks.result.disks c.unassigned_roles-before.result roles spares before after here.placed did.keeps.moved did.keeps.failed
    (ap (λ (s : Shape). s.disks) c.shape_in-disks.ensures ∙ sym (count-still a.members.newest here.still)) c.unassigned_roles-before.ensures c.newly_unassigned-roles.ensures in
    rw (← c.still.view_is) (fewer-more (planned-same a.ahead (shapes-moved did.keeps.moved))
    (steps-fewer (record a.work { resync = None }) (left_of a.work a.members) c.args.who c.ops-end.result (Step ResyncEnded c.left_at_rest-left.result ∷ []) did.keeps.moved since
    (left-ended a.work a.members all) c.append_after_losses-2.ensures.items))

pub returns-clause-caused : goal.returns-clause-caused
returns-clause-caused g c =
    rw (← c.still.view_is) (omega arith, λ refusal many. never-both c.still.inside.members refusal c.in_default.ensures many)

pub returns-clause-good : goal.returns-clause-good
returns-clause-good g c = λ t does fit row low. (((invariant_of-still-2 g c).rests (c.flush_and_mark-settled.ensures.keeps.moved.reshape.reshaping ∙ (ap (λ p. is_reshaping p.parts.members.newest) c.still.view_is ∙ c.requires.still))).1.kept.listed t does (inr fit)).rows fit row low low

pub returns-clause-flushed : goal.returns-clause-flushed
returns-clause-flushed g c =
    subst (λ p. g.B.Bank.tells → AreHoldersFlushed (reading_of c.flush_and_mark-settled.new.members) (g.B.Bank.given p.parts.bank) (g.B.Bank.tape c.flush_and_mark-settled.new.bank)) c.still.view_is c.flush_and_mark-settled.ensures.flushed

pub returns-clause-held : goal.returns-clause-held
returns-clause-held g c =
    subst (λ p. AreStillHeld p.parts.members c.flush_and_mark-settled.new.members) c.still.view_is c.flush_and_mark-settled.ensures.keeps.moved.held

pub returns-clause-spares : goal.returns-clause-spares
returns-clause-spares g c =
    subst (λ p. AreSparesFewer p.parts.members c.flush_and_mark-settled.new.members) c.still.view_is c.flush_and_mark-settled.ensures.keeps.moved.fewer

-- ---- the call goes on

pub returns-in-Some-refusal-clause-open : goal.returns-in-Some-refusal-clause-open
returns-in-Some-refusal-clause-open g c =
    step-going c.args.who c.ops-end.result c.newly_unassigned-roles.result c.flush_and_mark-settled.result.spares (Refused c.in-Some-refusal.refusal) c.requires.open tt (ap (λ p. p.parts.entries) c.still.view_is) c.append_after_losses.ensures.items

pub returns-clause-open : goal.returns-clause-open
returns-clause-open g c =
    step-going c.args.who c.ops-end.result c.newly_unassigned-roles.result c.flush_and_mark-settled.result.spares (Step ResyncEnded c.left_at_rest-left.result) c.requires.open tt (ap (λ p. p.parts.entries) c.still.view_is) c.append_after_losses-2.ensures.items

-- ---- what the calls ask

pub check_going-requires : goal.check_going-requires
check_going-requires g c = subst (λ p. IsCallGoing p.parts.entries c.args.who) (sym c.still.view_is) c.requires.open

pub unassigned_roles-before-requires-clause-known : goal.unassigned_roles-before-requires-clause-known
unassigned_roles-before-requires-clause-known g c = known-at (alike c.still.invariant).kept.members_are.placed c.shape_in-disks.ensures

pub unassigned_roles-before-requires-clause-few : goal.unassigned_roles-before-requires-clause-few
unassigned_roles-before-requires-clause-few g c = few-at (alike c.still.invariant).kept.members_are.placed c.shape_in-disks.ensures

pub newly_unassigned-roles-requires-clause-known : goal.newly_unassigned-roles-requires-clause-known
newly_unassigned-roles-requires-clause-known g c = known-behind c.flush_and_mark-settled.ensures.keeps.moved c.shape_in-disks.ensures

pub newly_unassigned-roles-requires-clause-few : goal.newly_unassigned-roles-requires-clause-few
newly_unassigned-roles-requires-clause-few g c = few-at (alike c.still.invariant).kept.members_are.placed c.shape_in-disks.ensures

pub left_at_rest-left-requires-clause-shape : goal.left_at_rest-left-requires-clause-shape
left_at_rest-left-requires-clause-shape g c = c.flush_and_mark-settled.ensures.keeps.moved.placed.fit.valid.old

pub left_at_rest-left-requires-clause-size : goal.left_at_rest-left-requires-clause-size
left_at_rest-left-requires-clause-size g c =
    short (g.B.Bank.given c.still.inside.bank) c.flush_and_mark-settled.new.members c.flush_and_mark-settled.ensures.keeps.moved.placed

pub left_at_rest-left-requires-clause-roles : goal.left_at_rest-left-requires-clause-roles
left_at_rest-left-requires-clause-roles g c = known-at c.flush_and_mark-settled.ensures.keeps.moved.placed refl

pub left_at_rest-left-requires-clause-sound : goal.left_at_rest-left-requires-clause-sound
left_at_rest-left-requires-clause-sound g c =
    sound-behind c.still.inside.ahead c.flush_and_mark-settled.ensures.keeps.moved (c.still.invariant.rests (ap (λ p. is_reshaping p.parts.members.newest) c.still.view_is ∙ c.requires.still)).1.planned

pub append_after_losses-requires-clause-room : goal.append_after_losses-requires-clause-room
append_after_losses-requires-clause-room g c = room-for-step (ap (λ p. p.parts.steps) c.still.view_is) (alike c.still.invariant).room_left c.requires.room

pub append_after_losses-requires-clause-number : goal.append_after_losses-requires-clause-number
append_after_losses-requires-clause-number g c = c.check_going.ensures

pub append_after_losses-requires-2-clause-room : goal.append_after_losses-requires-2-clause-room
append_after_losses-requires-2-clause-room g c = room-for-step (ap (λ p. p.parts.steps) c.still.view_is) (alike c.still.invariant).room_left c.requires.room

pub append_after_losses-requires-2-clause-number : goal.append_after_losses-requires-2-clause-number
append_after_losses-requires-2-clause-number g c = c.check_going.ensures

-- ---- what it enters, and what it leaves as it was

pub returns-in-Some-clause-stays : goal.returns-in-Some-clause-stays
returns-in-Some-clause-stays g c = c.refuse_step.ensures.stays

pub returns-in-Some-refusal-clause-entered : goal.returns-in-Some-refusal-clause-entered
returns-in-Some-refusal-clause-entered g c =
    one-entered c.args.who c.ops-end.result c.newly_unassigned-roles.result c.flush_and_mark-settled.result.spares (Refused c.in-Some-refusal.refusal) (ap (λ p. p.parts.entries) c.still.view_is) c.append_after_losses.ensures.items

pub returns-in-Some-refusal-clause-work : goal.returns-in-Some-refusal-clause-work
returns-in-Some-refusal-clause-work g c = ap (λ p. p.parts.work) c.still.view_is

pub returns-in-Some-refusal-clause-room : goal.returns-in-Some-refusal-clause-room
returns-in-Some-refusal-clause-room g c = step-taken (ap (λ p. p.parts.steps) c.still.view_is) c.requires.room

pub returns-in-Some-refusal-clause-given : goal.returns-in-Some-refusal-clause-given
returns-in-Some-refusal-clause-given g c = c.flush_and_mark-settled.ensures.keeps.bank.same ∙ ap (λ p. g.B.Bank.given p.parts.bank) c.still.view_is

pub returns-clause-entered : goal.returns-clause-entered
returns-clause-entered g c =
    step-behind c.args.who c.ops-end.result c.newly_unassigned-roles.result c.flush_and_mark-settled.result.spares ResyncEnded (ap (λ p. p.parts.entries) c.still.view_is) c.left_at_rest-left.ensures c.append_after_losses-2.ensures.items

pub returns-clause-work : goal.returns-clause-work
returns-clause-work g c = ap (λ (w : Work). record w { resync = None }) (ap (λ p. p.parts.work) c.still.view_is)

pub returns-clause-closable : goal.returns-clause-closable
returns-clause-closable g c = λ none. inr (inr (c.flush_and_mark-settled.ensures.clean c.in_default-refusal.is refl))

pub returns-clause-clean : goal.returns-clause-clean
returns-clause-clean g c = c.flush_and_mark-settled.ensures.clean c.in_default-refusal.is refl

pub returns-clause-room : goal.returns-clause-room
returns-clause-room g c = step-taken (ap (λ p. p.parts.steps) c.still.view_is) c.requires.room

pub returns-clause-given : goal.returns-clause-given
returns-clause-given g c = c.flush_and_mark-settled.ensures.keeps.bank.same ∙ ap (λ p. g.B.Bank.given p.parts.bank) c.still.view_is

pub flush_and_mark-settled-requires : goal.flush_and_mark-settled-requires
flush_and_mark-settled-requires g c =
    record {
      stands = record {
        slots = (alike c.still.invariant).kept.slots;
        placed = (alike c.still.invariant).kept.members_are.placed;
        unlost = (alike c.still.invariant).kept.members_are.unlost;
        free = (alike c.still.invariant).kept.members_are.free;
      };
    }

pub returns-in-Some-clause-still : goal.returns-in-Some-clause-still
returns-in-Some-clause-still g c = c.refuse_step.ensures.still

pub returns-in-Some-refusal-clause-still : goal.returns-in-Some-refusal-clause-still
returns-in-Some-refusal-clause-still g c = c.flush_and_mark-settled.ensures.keeps.moved.reshape.reshaping ∙ (ap (λ p. is_reshaping p.parts.members.newest) c.still.view_is ∙ c.requires.still)

pub returns-clause-still : goal.returns-clause-still
returns-clause-still g c = c.flush_and_mark-settled.ensures.keeps.moved.reshape.reshaping ∙ (ap (λ p. is_reshaping p.parts.members.newest) c.still.view_is ∙ c.requires.still)
