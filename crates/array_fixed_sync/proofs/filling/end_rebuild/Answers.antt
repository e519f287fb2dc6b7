use Rattle.std.proofs.Common.{◌≡◌, ℕ, ◌≤◌, ◌<◌, [], ◌∷◌, ◌++◌, List, None, length, inl, inr, refl, sym, ◌∙◌, ap, subst, arith, Option}
use Rattle.std.proofs.lemmas.List.Elements.{All-nil, All-cons}
use Rattle.array_fixed_io.specs.raid_types_the_Shape.{Shape}
use Rattle.array_fixed_io.specs.raid_types_the_Role_TheVariants.{Whole, Recovering}
use Rattle.array_fixed_io.proofs.raid_layout_Limits.{limited}
use Rattle.array_fixed_io.specs.sb_specs_Reading.{shape_of, list_length, role_state, is_clean, is_reshaping}
use Rattle.array_fixed_io.specs.stripe_row_Rows.{reading_of}
use Rattle.array_fixed_io.specs.history_the_Entry.{Entry}
use Rattle.array_fixed_io.specs.history_the_Event_TheVariants.{Lost, Step, Rebuilt}
use Rattle.array_fixed_io.specs.history_the_LostCause_TheVariants.{Fault}
use Rattle.array_fixed_io.specs.history_the_StepKind_TheVariants.{RebuildEnded}
use Rattle.array_fixed_io.specs.history_Plain.{entries_of}
use Rattle.array_fixed_io.specs.history_Transfers.{last_end_from}
use Rattle.array_fixed_io.specs.array_members_Lacking.{AreLostSince, AreTooMany, synced_rows}
use Rattle.array_fixed_io.specs.array_members_Rebuilding.{Held, with_whole}
use Rattle.array_fixed_io.specs.array_members_Status.{left_of, stripes_of}
use Rattle.array_fixed_io.proofs.array_members_Fit.{valid, short}
use Rattle.array_fixed_io.proofs.array_members_GivenMembers.{placed-given, spare-before}
use Rattle.array_fixed_io.proofs.array_members_LackingLaws.{lost-since, never-both}
use Rattle.array_fixed_io.proofs.array_members_Still.{count-still}
use Rattle.array_fixed_io.specs.history_append_Losing.{losses_of}
use Rattle.array_fixed_io.proofs.history_append_CallLaws.{losses-are}
use Rattle.array_fixed_io.proofs.history_append_PlainLaws.{one}
use Rattle.array_fixed_io.specs.array_call_specs_Kept.{scope_in}
use Rattle.array_fixed_io.specs.array_call_specs_Calls.{IsLossBy, WasSpare, AreStripesRebuilt}
use Rattle.array_fixed_io.proofs.array_call_specs_LossLaws.{losses-tail, ended-behind}
use Rattle.array_fixed_io.proofs.array_call_specs_ReadyLaws.{scope-same}
use Rattle.array_fixed_io.proofs.array_call_specs_ReplyLaws.{too-many-of, refused-for}
use Rattle.array_fixed_io.proofs.array_call_specs_StepsLeft.{steps-fewer}
use Rattle.array_fixed_io.proofs.array_call_laws_RebuildEnded.{whole-vacant, whole-after, failed-still, holder-before}
use Rattle.array_fixed_io.proofs.array_call_laws_RebuildGiven.{receiver-recovering}
use Rattle.array_fixed_io.proofs.array_call_laws_RebuildLaws.{losses-open, losses-end}
use Rattle.array_fixed_io.specs.history_invariant_Safe.{world_in}
use Rattle.array_fixed_io.proofs.array_fixed_invariant_Ending.{IsMadeWhole}
use Rattle.array_fixed_io.specs.array_specs_Calls.{moving_world}
use Rattle.array_fixed_io.specs.array_specs_Plans.{ArePlansKept}
use Rattle.array_fixed_io.specs.array_fixed_laws_Steps.{IsCallUnbroken}
use Rattle.array_fixed_io.proofs.array_specs_Called.{risen-told}
use Rattle.array_fixed_io.proofs.array_specs_Lengths.{behind-keeps}
use Rattle.array_fixed_io.proofs.array_fixed_laws_Kept.{ready, rows-moved}
use Rattle.array_fixed_io.proofs.array_fixed_laws_Going.{still-going}
use Rattle.array_fixed_io.proofs.array_fixed_laws_StepLaws.{shapes-moved, planned-same, stepped, fewer-more, losses-keep}
use Rattle.array_fixed_io.proofs.array_fixed_laws_RebuildLaws.{alone, both, among-vacant, whole-held, whole-less, whole-done, end-lost}
use Rattle.array_fixed_io.proofs.array_fixed_laws_PlainSteps.{gone-plain, whole-plain}
use Rattle.std.specs.Prelude.{IfSome}
use Rattle.std.proofs.Math.Nat.{le_trans}
use Rattle.array_fixed_io.proofs.array_type_Asked.{known-at, known-behind, role-at, role-of-shape, sound-behind, step-taken, room-for-step, room-for-losses, done-at-all, refused-at-all, number-behind, room-behind-step, room-after-losses}
use Rattle.array_fixed_io.proofs.array_type_Alike.{alike, stays-at-rest}
use Rattle.array_fixed_sync.proofs.filling.end_rebuild.Goals as goal

-- ---- refused before anything is done

pub refuse_step-requires-clause-why : goal.refuse_step-requires-clause-why
refuse_step-requires-clause-why g c = rw (← c.still.view_is) (inl c.in-Some.ensures)

pub refuse_step-requires-clause-synced : goal.refuse_step-requires-clause-synced
refuse_step-requires-clause-synced g c = rw (← c.still.view_is) (λ none. c.in-Some.ensures)

pub returns-in-Some-clause-caused : goal.returns-in-Some-clause-caused
returns-in-Some-clause-caused g c =
    let refusal = c.in-Some.refusal in
    let many : AreTooMany c.args.still.now.parts.members refusal = subst (λ p. AreTooMany p.parts.members refusal) c.still.view_is c.in-Some.ensures in
    refused-for (list_length c.args.still.now.parts.members.newest) 0 AreTooMany c.args.still.now.parts.members c.refuse_step.new.still.parts.members refusal
    (too-many-of c.still.inside.members refusal c.in-Some.ensures) (omega arith) (subst (λ m. AreTooMany m refusal) (sym c.refuse_step.ensures.members) many)

pub refuse_step-requires-clause-open : goal.refuse_step-requires-clause-open
refuse_step-requires-clause-open g c = c.requires.open.goes

-- ---- the role

pub check_going-requires : goal.check_going-requires
check_going-requires g c =
    let was = (alike c.still.invariant) in
    let here = was.kept.members_are in
    let a = c.still.inside in
    let given = g.B.Bank.given a.bank in
    let unbroken : IsCallUnbroken g.B.Bank.tells (world_in given (g.B.Bank.tape a.bank) (scope_in given a.epoch.uuid a.epoch.given a.backup) a.epoch.first) a.epoch.entries.items c.args.who =
    subst (λ p. IsCallUnbroken g.B.Bank.tells (moving_world (g.B.Bank.given p.parts.bank) (g.B.Bank.tape p.parts.bank) p) p.parts.entries c.args.who) (sym c.still.view_is) c.requires.open in
    unbroken.goes

pub unassigned_roles-before-requires-clause-few : goal.unassigned_roles-before-requires-clause-few
unassigned_roles-before-requires-clause-few g c =
    let a = c.still.inside in
    let most = (limited (shape_of a.members.newest) (valid (g.B.Bank.given a.bank) a.members (alike c.still.invariant).kept.members_are.placed)).most in
    let disks = ap (λ (s : Shape). s.disks) c.shape_in-disks.ensures in
    omega (arith, most, disks)

pub newly_unassigned-roles-requires-clause-few : goal.newly_unassigned-roles-requires-clause-few
newly_unassigned-roles-requires-clause-few g c =
    let a = c.still.inside in
    let most = (limited (shape_of a.members.newest) (valid (g.B.Bank.given a.bank) a.members (alike c.still.invariant).kept.members_are.placed)).most in
    let disks = ap (λ (s : Shape). s.disks) c.shape_in-disks.ensures in
    omega (arith, most, disks)

-- ---- the slot is lost

pub invariant_of-still : goal.invariant_of-still
invariant_of-still g c =
    stays-at-rest (c.still.invariant.rests (ap (λ p. is_reshaping p.parts.members.newest) c.still.view_is ∙ c.requires.still)).0 (
    let was = (c.still.invariant.rests (ap (λ p. is_reshaping p.parts.members.newest) c.still.view_is ∙ c.requires.still)).1 in
    let here = was.kept.members_are in
    let a = c.still.inside in
    let given = g.B.Bank.given a.bank in
    let unbroken : IsCallUnbroken g.B.Bank.tells (world_in given (g.B.Bank.tape a.bank) (scope_in given a.epoch.uuid a.epoch.given a.backup) a.epoch.first) a.epoch.entries.items c.args.who =
    subst (λ p. IsCallUnbroken g.B.Bank.tells (moving_world (g.B.Bank.given p.parts.bank) (g.B.Bank.tape p.parts.bank) p) p.parts.entries c.args.who) (sym c.still.view_is) c.requires.open in
    let some : 1 ≤ a.steps = subst (λ p. 1 ≤ p.parts.steps) (sym c.still.view_is) c.requires.room in
    let did = c.record_and_name-spares.ensures in
    let m = c.record_and_name-spares.new.members in
    let tape = g.B.Bank.tape a.bank in
    let tape' = g.B.Bank.tape c.record_and_name-spares.new.bank in
    let before = g.B.Bank.faults_of a.bank in
    let after = g.B.Bank.faults_of c.record_and_name-spares.new.bank in
    let roles = c.newly_unassigned-roles.result in
    let spares = c.record_and_name-spares.result in
    let end = c.ops-end.result in
    let role = c.args.role in
    let slot = c.in-Some-recovering_slot.slot in
    let recovers : role_state (reading_of a.members) role ≡ Recovering slot = c.in-Some-recovering_slot.ensures.some in
    let pending : AreStripesRebuilt a.work a.members role = subst (λ p. AreStripesRebuilt p.parts.work p.parts.members role) (sym c.still.view_is) c.requires.pending in
    let below : role < (shape_of a.members.newest).disks = subst (λ (n : ℕ). role < n) (count-still a.members.newest here.still) pending.0.0 in
    let to = receiver-recovering given a.members here.placed here.unlost role slot below recovers in
    let synced : a.work.resync ≡ None = subst (λ p. p.parts.work.resync ≡ None) (sym c.still.view_is) c.requires.synced in
    let since : AreLostSince (with_whole role slot a.members) m roles spares before after = lost-since given (with_whole role slot a.members) m c.shape_in-disks.result.disks c.unassigned_roles-before.result roles spares before after
    (placed-given given a.members here.placed None role slot to) did.moved did.failed (ap (λ (s : Shape). s.disks) c.shape_in-disks.ensures ∙ sym (count-still a.members.newest here.still))
    (λ r. c.unassigned_roles-before.ensures r ∙ whole-vacant given a.members m here.placed role slot to here.free recovers did.moved c.shape_in-disks.result.disks r) c.newly_unassigned-roles.ensures in
    let leaves : IsMadeWhole g.B.Bank.tells given tape tape' a.members m role slot roles spares before after = record {
      below = below;
      recovers = recovers;
      moved = did.moved;
      since = since;
      grows = did.grows;
      clean = did.clean;
      missing = did.missing;
      rise = risen-told did.rise;
      others = did.others;
      safe = did.safe;
      back = did.given_back;
    } in
    let vacant = sym c.is_unassigned.ensures ∙ c.if-is_unassigned.true in
    ready (entries_of c.args.who end (losses_of roles spares)) was (rows-moved given (with_whole role slot a.members) m did.moved)
    (end-lost a.ahead c.args.who end role slot roles spares was.kept c.in_default.ensures unbroken.goes c.requires.caller c.ops-end.ensures.count pending.1 synced leaves vacant)
    (gone-plain was c.args.who end c.in_default.ensures unbroken.goes c.requires.caller c.ops-end.ensures.count pending.1 synced leaves vacant)
    did.counts (losses-keep c.args.who end roles spares)
    did.given (scope-same given a.backup did.given c.append_lost.ensures.uuid c.append_lost.ensures.given) c.append_lost.ensures.first refl c.append_lost.ensures.items
    (room-after-losses was.room_left some c.append_lost.ensures.room))

pub returns-then-is_unassigned-clause-entered : goal.returns-then-is_unassigned-clause-entered
returns-then-is_unassigned-clause-entered g c =
    let was = (c.still.invariant.rests (ap (λ p. is_reshaping p.parts.members.newest) c.still.view_is ∙ c.requires.still)).1 in
    let here = was.kept.members_are in
    let a = c.still.inside in
    let given = g.B.Bank.given a.bank in
    let did = c.record_and_name-spares.ensures in
    let m = c.record_and_name-spares.new.members in
    let tape = g.B.Bank.tape a.bank in
    let tape' = g.B.Bank.tape c.record_and_name-spares.new.bank in
    let before = g.B.Bank.faults_of a.bank in
    let after = g.B.Bank.faults_of c.record_and_name-spares.new.bank in
    let roles = c.newly_unassigned-roles.result in
    let spares = c.record_and_name-spares.result in
    let end = c.ops-end.result in
    let role = c.args.role in
    let slot = c.in-Some-recovering_slot.slot in
    let recovers : role_state (reading_of a.members) role ≡ Recovering slot = c.in-Some-recovering_slot.ensures.some in
    let pending : AreStripesRebuilt a.work a.members role = subst (λ p. AreStripesRebuilt p.parts.work p.parts.members role) (sym c.still.view_is) c.requires.pending in
    let below : role < (shape_of a.members.newest).disks = subst (λ (n : ℕ). role < n) (count-still a.members.newest here.still) pending.0.0 in
    let to = receiver-recovering given a.members here.placed here.unlost role slot below recovers in
    let since : AreLostSince (with_whole role slot a.members) m roles spares before after = lost-since given (with_whole role slot a.members) m c.shape_in-disks.result.disks c.unassigned_roles-before.result roles spares before after
    (placed-given given a.members here.placed None role slot to) did.moved did.failed (ap (λ (s : Shape). s.disks) c.shape_in-disks.ensures ∙ sym (count-still a.members.newest here.still))
    (λ r. c.unassigned_roles-before.ensures r ∙ whole-vacant given a.members m here.placed role slot to here.free recovers did.moved c.shape_in-disks.result.disks r) c.newly_unassigned-roles.ensures in
    let vacant = sym c.is_unassigned.ensures ∙ c.if-is_unassigned.true in
    let told = among-vacant did.moved since role pending.0.0 (whole-held given a.members here.placed role slot to) vacant in
    rw (← c.still.view_is) (inr (record { roles = roles; spares = spares; end = end; is = c.append_lost.ensures.items; among = told }, vacant))

pub returns-then-is_unassigned-clause-stepped : goal.returns-then-is_unassigned-clause-stepped
returns-then-is_unassigned-clause-stepped g c =
    let was = (c.still.invariant.rests (ap (λ p. is_reshaping p.parts.members.newest) c.still.view_is ∙ c.requires.still)).1 in
    let here = was.kept.members_are in
    let a = c.still.inside in
    let given = g.B.Bank.given a.bank in
    let did = c.record_and_name-spares.ensures in
    let m = c.record_and_name-spares.new.members in
    let tape = g.B.Bank.tape a.bank in
    let tape' = g.B.Bank.tape c.record_and_name-spares.new.bank in
    let before = g.B.Bank.faults_of a.bank in
    let after = g.B.Bank.faults_of c.record_and_name-spares.new.bank in
    let roles = c.newly_unassigned-roles.result in
    let spares = c.record_and_name-spares.result in
    let end = c.ops-end.result in
    let role = c.args.role in
    let slot = c.in-Some-recovering_slot.slot in
    let recovers : role_state (reading_of a.members) role ≡ Recovering slot = c.in-Some-recovering_slot.ensures.some in
    let pending : AreStripesRebuilt a.work a.members role = subst (λ p. AreStripesRebuilt p.parts.work p.parts.members role) (sym c.still.view_is) c.requires.pending in
    let below : role < (shape_of a.members.newest).disks = subst (λ (n : ℕ). role < n) (count-still a.members.newest here.still) pending.0.0 in
    let to = receiver-recovering given a.members here.placed here.unlost role slot below recovers in
    let since : AreLostSince (with_whole role slot a.members) m roles spares before after = lost-since given (with_whole role slot a.members) m c.shape_in-disks.result.disks c.unassigned_roles-before.result roles spares before after
    (placed-given given a.members here.placed None role slot to) did.moved did.failed (ap (λ (s : Shape). s.disks) c.shape_in-disks.ensures ∙ sym (count-still a.members.newest here.still))
    (λ r. c.unassigned_roles-before.ensures r ∙ whole-vacant given a.members m here.placed role slot to here.free recovers did.moved c.shape_in-disks.result.disks r) c.newly_unassigned-roles.ensures in
    let vacant = sym c.is_unassigned.ensures ∙ c.if-is_unassigned.true in
    let told = among-vacant did.moved since role pending.0.0 (whole-held given a.members here.placed role slot to) vacant in
    rw (← c.still.view_is) (stepped did.grows (shapes-moved did.moved)
    (λ t. subst (λ (l : List Entry). last_end_from c.append_lost.new.epoch.first l ≡ length (g.B.Bank.tape c.record_and_name-spares.new.bank)) (sym c.append_lost.ensures.items)
    (losses-end c.append_lost.new.epoch.first a.epoch.entries.items c.args.who end (losses_of roles spares) (Lost role Fault) told ∙ c.ops-end.ensures.count t))
    (failed-still given a.members m here.placed role slot to here.free recovers did.moved spares before after did.failed).roles
    (losses-tail (Held a.members) (WasSpare a.members) (with_whole role slot a.members) m (λ r s held. holder-before given a.members m here.placed role slot to here.free recovers did.moved r s held)
    (λ s spare. (spare-before given a.members here.placed None role slot to s spare).0) before after a.epoch.entries.items a.epoch.entries.items c.append_lost.new.epoch.entries.items
    c.args.who end roles spares since refl [] (All-nil (λ e. IsLossBy (Held a.members) (WasSpare a.members) before after e.event))
    (alone a.epoch.entries.items c.append_lost.new.epoch.entries.items c.args.who end (losses_of roles spares) c.append_lost.ensures.items))
    did.counts
    (record { uuid = c.append_lost.ensures.uuid; given = c.append_lost.ensures.given; first = c.append_lost.ensures.first; backup = refl; ahead = refl; limit = refl })
    (λ t. (was.kept.recorded t).begun))

pub returns-then-is_unassigned-clause-whole : goal.returns-then-is_unassigned-clause-whole
returns-then-is_unassigned-clause-whole g c = rw (← c.still.view_is) (inr (sym c.is_unassigned.ensures ∙ c.if-is_unassigned.true))

pub returns-then-is_unassigned-clause-good : goal.returns-then-is_unassigned-clause-good
returns-then-is_unassigned-clause-good g c =
    let a = c.still.inside in
    let m = c.record_and_name-spares.new.members in
    let synced : a.work.resync ≡ None = subst (λ p. p.parts.work.resync ≡ None) (sym c.still.view_is) c.requires.synced in
    λ t does fit row low. (((invariant_of-still g c).rests (c.record_and_name-spares.ensures.moved.reshape.reshaping ∙ (ap (λ p. is_reshaping p.parts.members.newest) c.still.view_is ∙ c.requires.still))).1.kept.listed t does (inr fit)).rows fit row (subst (λ o. row < synced_rows o m) (sym synced) low) low

pub returns-then-is_unassigned-clause-held : goal.returns-then-is_unassigned-clause-held
returns-then-is_unassigned-clause-held g c =
    let was = (c.still.invariant.rests (ap (λ p. is_reshaping p.parts.members.newest) c.still.view_is ∙ c.requires.still)).1 in
    let here = was.kept.members_are in
    let a = c.still.inside in
    let given = g.B.Bank.given a.bank in
    let role = c.args.role in
    let slot = c.in-Some-recovering_slot.slot in
    let recovers : role_state (reading_of a.members) role ≡ Recovering slot = c.in-Some-recovering_slot.ensures.some in
    let pending : AreStripesRebuilt a.work a.members role = subst (λ p. AreStripesRebuilt p.parts.work p.parts.members role) (sym c.still.view_is) c.requires.pending in
    let below : role < (shape_of a.members.newest).disks = subst (λ (n : ℕ). role < n) (count-still a.members.newest here.still) pending.0.0 in
    let to = receiver-recovering given a.members here.placed here.unlost role slot below recovers in
    let did = c.record_and_name-spares.ensures in
    let m = c.record_and_name-spares.new.members in
    rw (← c.still.view_is) (λ r s held. holder-before given a.members m here.placed role slot to here.free recovers did.moved r s (did.moved.held r s held))

pub returns-then-is_unassigned-clause-spares : goal.returns-then-is_unassigned-clause-spares
returns-then-is_unassigned-clause-spares g c =
    let was = (c.still.invariant.rests (ap (λ p. is_reshaping p.parts.members.newest) c.still.view_is ∙ c.requires.still)).1 in
    let here = was.kept.members_are in
    let a = c.still.inside in
    let given = g.B.Bank.given a.bank in
    let role = c.args.role in
    let slot = c.in-Some-recovering_slot.slot in
    let recovers : role_state (reading_of a.members) role ≡ Recovering slot = c.in-Some-recovering_slot.ensures.some in
    let pending : AreStripesRebuilt a.work a.members role = subst (λ p. AreStripesRebuilt p.parts.work p.parts.members role) (sym c.still.view_is) c.requires.pending in
    let below : role < (shape_of a.members.newest).disks = subst (λ (n : ℕ). role < n) (count-still a.members.newest here.still) pending.0.0 in
    let to = receiver-recovering given a.members here.placed here.unlost role slot below recovers in
    rw (← c.still.view_is) (λ s has. (spare-before given a.members here.placed None role slot to s (c.record_and_name-spares.ensures.moved.fewer s has)).0)

pub returns-then-is_unassigned-clause-left : goal.returns-then-is_unassigned-clause-left
returns-then-is_unassigned-clause-left g c =
    let was = (c.still.invariant.rests (ap (λ p. is_reshaping p.parts.members.newest) c.still.view_is ∙ c.requires.still)).1 in
    let here = was.kept.members_are in
    let a = c.still.inside in
    let given = g.B.Bank.given a.bank in
    let unbroken : IsCallUnbroken g.B.Bank.tells (world_in given (g.B.Bank.tape a.bank) (scope_in given a.epoch.uuid a.epoch.given a.backup) a.epoch.first) a.epoch.entries.items c.args.who =
    subst (λ p. IsCallUnbroken g.B.Bank.tells (moving_world (g.B.Bank.given p.parts.bank) (g.B.Bank.tape p.parts.bank) p) p.parts.entries c.args.who) (sym c.still.view_is) c.requires.open in
    let did = c.record_and_name-spares.ensures in
    let m = c.record_and_name-spares.new.members in
    let tape = g.B.Bank.tape a.bank in
    let tape' = g.B.Bank.tape c.record_and_name-spares.new.bank in
    let before = g.B.Bank.faults_of a.bank in
    let after = g.B.Bank.faults_of c.record_and_name-spares.new.bank in
    let roles = c.newly_unassigned-roles.result in
    let spares = c.record_and_name-spares.result in
    let end = c.ops-end.result in
    let role = c.args.role in
    let slot = c.in-Some-recovering_slot.slot in
    let recovers : role_state (reading_of a.members) role ≡ Recovering slot = c.in-Some-recovering_slot.ensures.some in
    let pending : AreStripesRebuilt a.work a.members role = subst (λ p. AreStripesRebuilt p.parts.work p.parts.members role) (sym c.still.view_is) c.requires.pending in
    let below : role < (shape_of a.members.newest).disks = subst (λ (n : ℕ). role < n) (count-still a.members.newest here.still) pending.0.0 in
    let to = receiver-recovering given a.members here.placed here.unlost role slot below recovers in
    let synced : a.work.resync ≡ None = subst (λ p. p.parts.work.resync ≡ None) (sym c.still.view_is) c.requires.synced in
    let since : AreLostSince (with_whole role slot a.members) m roles spares before after = lost-since given (with_whole role slot a.members) m c.shape_in-disks.result.disks c.unassigned_roles-before.result roles spares before after
    (placed-given given a.members here.placed None role slot to) did.moved did.failed (ap (λ (s : Shape). s.disks) c.shape_in-disks.ensures ∙ sym (count-still a.members.newest here.still))
    (λ r. c.unassigned_roles-before.ensures r ∙ whole-vacant given a.members m here.placed role slot to here.free recovers did.moved c.shape_in-disks.result.disks r) c.newly_unassigned-roles.ensures in
    let leaves : IsMadeWhole g.B.Bank.tells given tape tape' a.members m role slot roles spares before after = record {
      below = below;
      recovers = recovers;
      moved = did.moved;
      since = since;
      grows = did.grows;
      clean = did.clean;
      missing = did.missing;
      rise = risen-told did.rise;
      others = did.others;
      safe = did.safe;
      back = did.given_back;
    } in
    let less = whole-less a.ahead c.args.who end role slot roles spares was.kept c.in_default.ensures unbroken.goes c.requires.caller c.ops-end.ensures.count pending.1 synced leaves in
    rw (← c.still.view_is) (fewer-more (planned-same a.ahead (shapes-moved did.moved))
    (steps-fewer a.work (left_of a.work a.members) c.args.who end [] did.moved since less (alone a.epoch.entries.items c.append_lost.new.epoch.entries.items c.args.who end (losses_of roles spares) c.append_lost.ensures.items)))

pub returns-then-is_unassigned-clause-caused : goal.returns-then-is_unassigned-clause-caused
returns-then-is_unassigned-clause-caused g c =
    rw (← c.still.view_is) (omega arith, λ refusal many. never-both c.still.inside.members refusal c.in_default.ensures many)

-- ---- the role is whole

pub invariant_of-still-2 : goal.invariant_of-still-2
invariant_of-still-2 g c =
    stays-at-rest (c.still.invariant.rests (ap (λ p. is_reshaping p.parts.members.newest) c.still.view_is ∙ c.requires.still)).0 (
    let was = (c.still.invariant.rests (ap (λ p. is_reshaping p.parts.members.newest) c.still.view_is ∙ c.requires.still)).1 in
    let here = was.kept.members_are in
    let a = c.still.inside in
    let given = g.B.Bank.given a.bank in
    let unbroken : IsCallUnbroken g.B.Bank.tells (world_in given (g.B.Bank.tape a.bank) (scope_in given a.epoch.uuid a.epoch.given a.backup) a.epoch.first) a.epoch.entries.items c.args.who =
    subst (λ p. IsCallUnbroken g.B.Bank.tells (moving_world (g.B.Bank.given p.parts.bank) (g.B.Bank.tape p.parts.bank) p) p.parts.entries c.args.who) (sym c.still.view_is) c.requires.open in
    let some : 1 ≤ a.steps = subst (λ p. 1 ≤ p.parts.steps) (sym c.still.view_is) c.requires.room in
    let plans = subst (λ p. ArePlansKept g.B.Bank.tells (moving_world (g.B.Bank.given p.parts.bank) (g.B.Bank.tape p.parts.bank) p) p) (sym c.still.view_is) c.requires.plans in
    let did = c.record_and_name-spares.ensures in
    let m = c.record_and_name-spares.new.members in
    let tape = g.B.Bank.tape a.bank in
    let tape' = g.B.Bank.tape c.record_and_name-spares.new.bank in
    let before = g.B.Bank.faults_of a.bank in
    let after = g.B.Bank.faults_of c.record_and_name-spares.new.bank in
    let roles = c.newly_unassigned-roles.result in
    let spares = c.record_and_name-spares.result in
    let end = c.ops-end.result in
    let role = c.args.role in
    let slot = c.in-Some-recovering_slot.slot in
    let recovers : role_state (reading_of a.members) role ≡ Recovering slot = c.in-Some-recovering_slot.ensures.some in
    let pending : AreStripesRebuilt a.work a.members role = subst (λ p. AreStripesRebuilt p.parts.work p.parts.members role) (sym c.still.view_is) c.requires.pending in
    let below : role < (shape_of a.members.newest).disks = subst (λ (n : ℕ). role < n) (count-still a.members.newest here.still) pending.0.0 in
    let to = receiver-recovering given a.members here.placed here.unlost role slot below recovers in
    let synced : a.work.resync ≡ None = subst (λ p. p.parts.work.resync ≡ None) (sym c.still.view_is) c.requires.synced in
    let since : AreLostSince (with_whole role slot a.members) m roles spares before after = lost-since given (with_whole role slot a.members) m c.shape_in-disks.result.disks c.unassigned_roles-before.result roles spares before after
    (placed-given given a.members here.placed None role slot to) did.moved did.failed (ap (λ (s : Shape). s.disks) c.shape_in-disks.ensures ∙ sym (count-still a.members.newest here.still))
    (λ r. c.unassigned_roles-before.ensures r ∙ whole-vacant given a.members m here.placed role slot to here.free recovers did.moved c.shape_in-disks.result.disks r) c.newly_unassigned-roles.ensures in
    let leaves : IsMadeWhole g.B.Bank.tells given tape tape' a.members m role slot roles spares before after = record {
      below = below;
      recovers = recovers;
      moved = did.moved;
      since = since;
      grows = did.grows;
      clean = did.clean;
      missing = did.missing;
      rise = risen-told did.rise;
      others = did.others;
      safe = did.safe;
      back = did.given_back;
    } in
    let whole_is : role_state (reading_of m) role ≡ Whole slot = whole-after given a.members m here.placed role slot to here.free recovers did.moved (sym c.is_unassigned.ensures ∙ c.if-is_unassigned.false) in
    let left = c.left_at_rest-left.result in
    ready (entries_of c.args.who end (losses_of roles spares ++ Step RebuildEnded left ∷ Rebuilt role ∷ [])) was (rows-moved given (with_whole role slot a.members) m did.moved)
    (whole-done a.ahead c.args.who end role slot roles spares was.kept c.in_default.ensures unbroken.goes c.requires.caller c.ops-end.ensures.count pending.1 synced leaves left c.left_at_rest-left.ensures plans whole_is unbroken.kept)
    (whole-plain was c.args.who end c.in_default.ensures unbroken.goes c.requires.caller c.ops-end.ensures.count pending.1 synced leaves left whole_is c.left_at_rest-left.ensures)
    did.counts (behind-keeps c.args.who end roles spares (Step RebuildEnded left ∷ Rebuilt role ∷ []) (record { long = λ n. refl; free = λ limit. refl }))
    did.given (scope-same given a.backup did.given (c.append_entry.ensures.uuid ∙ c.append_after_losses.ensures.uuid) (c.append_entry.ensures.given ∙ c.append_after_losses.ensures.given)) (c.append_entry.ensures.first ∙ c.append_after_losses.ensures.first) refl
    (both a.epoch.entries.items c.append_after_losses.new.epoch.entries.items c.append_entry.new.epoch.entries.items c.args.who end (losses_of roles spares) (Step RebuildEnded c.left_at_rest-left.result) (Rebuilt role) c.append_after_losses.ensures.items c.append_entry.ensures.items)
    (omega (arith, c.append_after_losses.ensures.room, c.append_entry.ensures.room, was.room_left, some)))

pub returns-clause-entered : goal.returns-clause-entered
returns-clause-entered g c =
    let was = (alike c.still.invariant) in
    let here = was.kept.members_are in
    let a = c.still.inside in
    let given = g.B.Bank.given a.bank in
    let did = c.record_and_name-spares.ensures in
    let m = c.record_and_name-spares.new.members in
    let tape = g.B.Bank.tape a.bank in
    let tape' = g.B.Bank.tape c.record_and_name-spares.new.bank in
    let before = g.B.Bank.faults_of a.bank in
    let after = g.B.Bank.faults_of c.record_and_name-spares.new.bank in
    let roles = c.newly_unassigned-roles.result in
    let spares = c.record_and_name-spares.result in
    let end = c.ops-end.result in
    let role = c.args.role in
    rw (← c.still.view_is) (inl (
      roles,
      spares,
      end,
      subst (λ (n : ℕ). c.append_entry.new.epoch.entries.items ≡ a.epoch.entries.items ++ entries_of c.args.who end (losses_of roles spares ++ Step RebuildEnded n ∷ Rebuilt role ∷ [])) c.left_at_rest-left.ensures
          (both a.epoch.entries.items c.append_after_losses.new.epoch.entries.items c.append_entry.new.epoch.entries.items c.args.who end (losses_of roles spares) (Step RebuildEnded c.left_at_rest-left.result) (Rebuilt role) c.append_after_losses.ensures.items c.append_entry.ensures.items),
    ))

pub returns-clause-stepped : goal.returns-clause-stepped
returns-clause-stepped g c =
    let was = (c.still.invariant.rests (ap (λ p. is_reshaping p.parts.members.newest) c.still.view_is ∙ c.requires.still)).1 in
    let here = was.kept.members_are in
    let a = c.still.inside in
    let given = g.B.Bank.given a.bank in
    let did = c.record_and_name-spares.ensures in
    let m = c.record_and_name-spares.new.members in
    let tape = g.B.Bank.tape a.bank in
    let tape' = g.B.Bank.tape c.record_and_name-spares.new.bank in
    let before = g.B.Bank.faults_of a.bank in
    let after = g.B.Bank.faults_of c.record_and_name-spares.new.bank in
    let roles = c.newly_unassigned-roles.result in
    let spares = c.record_and_name-spares.result in
    let end = c.ops-end.result in
    let role = c.args.role in
    let slot = c.in-Some-recovering_slot.slot in
    let recovers : role_state (reading_of a.members) role ≡ Recovering slot = c.in-Some-recovering_slot.ensures.some in
    let pending : AreStripesRebuilt a.work a.members role = subst (λ p. AreStripesRebuilt p.parts.work p.parts.members role) (sym c.still.view_is) c.requires.pending in
    let below : role < (shape_of a.members.newest).disks = subst (λ (n : ℕ). role < n) (count-still a.members.newest here.still) pending.0.0 in
    let to = receiver-recovering given a.members here.placed here.unlost role slot below recovers in
    let since : AreLostSince (with_whole role slot a.members) m roles spares before after = lost-since given (with_whole role slot a.members) m c.shape_in-disks.result.disks c.unassigned_roles-before.result roles spares before after
    (placed-given given a.members here.placed None role slot to) did.moved did.failed (ap (λ (s : Shape). s.disks) c.shape_in-disks.ensures ∙ sym (count-still a.members.newest here.still))
    (λ r. c.unassigned_roles-before.ensures r ∙ whole-vacant given a.members m here.placed role slot to here.free recovers did.moved c.shape_in-disks.result.disks r) c.newly_unassigned-roles.ensures in
    let P = λ (e : Entry). IsLossBy (Held a.members) (WasSpare a.members) before after e.event in
    rw (← c.still.view_is) (stepped did.grows (shapes-moved did.moved)
    (ended-behind tape' c.append_entry.new.epoch.first c.append_after_losses.new.epoch.entries.items c.args.who end [] (Rebuilt role) c.append_entry.ensures.items c.ops-end.ensures.count)
    (failed-still given a.members m here.placed role slot to here.free recovers did.moved spares before after did.failed).roles
    (losses-tail (Held a.members) (WasSpare a.members) (with_whole role slot a.members) m (λ r s held. holder-before given a.members m here.placed role slot to here.free recovers did.moved r s held)
    (λ s spare. (spare-before given a.members here.placed None role slot to s spare).0) before after a.epoch.entries.items a.epoch.entries.items c.append_entry.new.epoch.entries.items
    c.args.who end roles spares since refl (Step RebuildEnded c.left_at_rest-left.result ∷ Rebuilt role ∷ [])
    (All-cons P (one c.args.who end (Step RebuildEnded c.left_at_rest-left.result)) (one c.args.who end (Rebuilt role) ∷ []) tt (All-cons P (one c.args.who end (Rebuilt role)) [] tt (All-nil P)))
    (both a.epoch.entries.items c.append_after_losses.new.epoch.entries.items c.append_entry.new.epoch.entries.items c.args.who end (losses_of roles spares) (Step RebuildEnded c.left_at_rest-left.result) (Rebuilt role) c.append_after_losses.ensures.items c.append_entry.ensures.items))
    did.counts
    (record { uuid = (c.append_entry.ensures.uuid ∙ c.append_after_losses.ensures.uuid); given = (c.append_entry.ensures.given ∙ c.append_after_losses.ensures.given); first = (c.append_entry.ensures.first ∙ c.append_after_losses.ensures.first); backup = refl; ahead = refl; limit = refl })
    (λ t. (was.kept.recorded t).begun))

pub returns-clause-whole : goal.returns-clause-whole
returns-clause-whole g c =
    let was = (c.still.invariant.rests (ap (λ p. is_reshaping p.parts.members.newest) c.still.view_is ∙ c.requires.still)).1 in
    let here = was.kept.members_are in
    let a = c.still.inside in
    let given = g.B.Bank.given a.bank in
    let role = c.args.role in
    let slot = c.in-Some-recovering_slot.slot in
    let recovers : role_state (reading_of a.members) role ≡ Recovering slot = c.in-Some-recovering_slot.ensures.some in
    let pending : AreStripesRebuilt a.work a.members role = subst (λ p. AreStripesRebuilt p.parts.work p.parts.members role) (sym c.still.view_is) c.requires.pending in
    let below : role < (shape_of a.members.newest).disks = subst (λ (n : ℕ). role < n) (count-still a.members.newest here.still) pending.0.0 in
    let to = receiver-recovering given a.members here.placed here.unlost role slot below recovers in
    let did = c.record_and_name-spares.ensures in
    let m = c.record_and_name-spares.new.members in
    let whole_is : role_state (reading_of m) role ≡ Whole slot = whole-after given a.members m here.placed role slot to here.free recovers did.moved (sym c.is_unassigned.ensures ∙ c.if-is_unassigned.false) in
    rw (← c.still.view_is) (inl (slot, recovers, whole_is))

pub returns-clause-good : goal.returns-clause-good
returns-clause-good g c =
    let a = c.still.inside in
    let m = c.record_and_name-spares.new.members in
    let synced : a.work.resync ≡ None = subst (λ p. p.parts.work.resync ≡ None) (sym c.still.view_is) c.requires.synced in
    λ t does fit row low. (((invariant_of-still-2 g c).rests (c.record_and_name-spares.ensures.moved.reshape.reshaping ∙ (ap (λ p. is_reshaping p.parts.members.newest) c.still.view_is ∙ c.requires.still))).1.kept.listed t does (inr fit)).rows fit row (subst (λ o. row < synced_rows o m) (sym synced) low) low

pub returns-clause-held : goal.returns-clause-held
returns-clause-held g c =
    let was = (c.still.invariant.rests (ap (λ p. is_reshaping p.parts.members.newest) c.still.view_is ∙ c.requires.still)).1 in
    let here = was.kept.members_are in
    let a = c.still.inside in
    let given = g.B.Bank.given a.bank in
    let role = c.args.role in
    let slot = c.in-Some-recovering_slot.slot in
    let recovers : role_state (reading_of a.members) role ≡ Recovering slot = c.in-Some-recovering_slot.ensures.some in
    let pending : AreStripesRebuilt a.work a.members role = subst (λ p. AreStripesRebuilt p.parts.work p.parts.members role) (sym c.still.view_is) c.requires.pending in
    let below : role < (shape_of a.members.newest).disks = subst (λ (n : ℕ). role < n) (count-still a.members.newest here.still) pending.0.0 in
    let to = receiver-recovering given a.members here.placed here.unlost role slot below recovers in
    let did = c.record_and_name-spares.ensures in
    let m = c.record_and_name-spares.new.members in
    rw (← c.still.view_is) (λ r s held. holder-before given a.members m here.placed role slot to here.free recovers did.moved r s (did.moved.held r s held))

pub returns-clause-spares : goal.returns-clause-spares
returns-clause-spares g c =
    let was = (c.still.invariant.rests (ap (λ p. is_reshaping p.parts.members.newest) c.still.view_is ∙ c.requires.still)).1 in
    let here = was.kept.members_are in
    let a = c.still.inside in
    let given = g.B.Bank.given a.bank in
    let role = c.args.role in
    let slot = c.in-Some-recovering_slot.slot in
    let recovers : role_state (reading_of a.members) role ≡ Recovering slot = c.in-Some-recovering_slot.ensures.some in
    let pending : AreStripesRebuilt a.work a.members role = subst (λ p. AreStripesRebuilt p.parts.work p.parts.members role) (sym c.still.view_is) c.requires.pending in
    let below : role < (shape_of a.members.newest).disks = subst (λ (n : ℕ). role < n) (count-still a.members.newest here.still) pending.0.0 in
    let to = receiver-recovering given a.members here.placed here.unlost role slot below recovers in
    rw (← c.still.view_is) (λ s has. (spare-before given a.members here.placed None role slot to s (c.record_and_name-spares.ensures.moved.fewer s has)).0)

pub returns-clause-left : goal.returns-clause-left
returns-clause-left g c =
    let was = (c.still.invariant.rests (ap (λ p. is_reshaping p.parts.members.newest) c.still.view_is ∙ c.requires.still)).1 in
    let here = was.kept.members_are in
    let a = c.still.inside in
    let given = g.B.Bank.given a.bank in
    let unbroken : IsCallUnbroken g.B.Bank.tells (world_in given (g.B.Bank.tape a.bank) (scope_in given a.epoch.uuid a.epoch.given a.backup) a.epoch.first) a.epoch.entries.items c.args.who =
    subst (λ p. IsCallUnbroken g.B.Bank.tells (moving_world (g.B.Bank.given p.parts.bank) (g.B.Bank.tape p.parts.bank) p) p.parts.entries c.args.who) (sym c.still.view_is) c.requires.open in
    let did = c.record_and_name-spares.ensures in
    let m = c.record_and_name-spares.new.members in
    let tape = g.B.Bank.tape a.bank in
    let tape' = g.B.Bank.tape c.record_and_name-spares.new.bank in
    let before = g.B.Bank.faults_of a.bank in
    let after = g.B.Bank.faults_of c.record_and_name-spares.new.bank in
    let roles = c.newly_unassigned-roles.result in
    let spares = c.record_and_name-spares.result in
    let end = c.ops-end.result in
    let role = c.args.role in
    let slot = c.in-Some-recovering_slot.slot in
    let recovers : role_state (reading_of a.members) role ≡ Recovering slot = c.in-Some-recovering_slot.ensures.some in
    let pending : AreStripesRebuilt a.work a.members role = subst (λ p. AreStripesRebuilt p.parts.work p.parts.members role) (sym c.still.view_is) c.requires.pending in
    let below : role < (shape_of a.members.newest).disks = subst (λ (n : ℕ). role < n) (count-still a.members.newest here.still) pending.0.0 in
    let to = receiver-recovering given a.members here.placed here.unlost role slot below recovers in
    let synced : a.work.resync ≡ None = subst (λ p. p.parts.work.resync ≡ None) (sym c.still.view_is) c.requires.synced in
    let since : AreLostSince (with_whole role slot a.members) m roles spares before after = lost-since given (with_whole role slot a.members) m c.shape_in-disks.result.disks c.unassigned_roles-before.result roles spares before after
    (placed-given given a.members here.placed None role slot to) did.moved did.failed (ap (λ (s : Shape). s.disks) c.shape_in-disks.ensures ∙ sym (count-still a.members.newest here.still))
    (λ r. c.unassigned_roles-before.ensures r ∙ whole-vacant given a.members m here.placed role slot to here.free recovers did.moved c.shape_in-disks.result.disks r) c.newly_unassigned-roles.ensures in
    let leaves : IsMadeWhole g.B.Bank.tells given tape tape' a.members m role slot roles spares before after = record {
      below = below;
      recovers = recovers;
      moved = did.moved;
      since = since;
      grows = did.grows;
      clean = did.clean;
      missing = did.missing;
      rise = risen-told did.rise;
      others = did.others;
      safe = did.safe;
      back = did.given_back;
    } in
    let less = whole-less a.ahead c.args.who end role slot roles spares was.kept c.in_default.ensures unbroken.goes c.requires.caller c.ops-end.ensures.count pending.1 synced leaves in
    rw (← c.still.view_is) (fewer-more (planned-same a.ahead (shapes-moved did.moved))
    (steps-fewer a.work (left_of a.work a.members) c.args.who end (Step RebuildEnded c.left_at_rest-left.result ∷ Rebuilt role ∷ []) did.moved since less
    (both a.epoch.entries.items c.append_after_losses.new.epoch.entries.items c.append_entry.new.epoch.entries.items c.args.who end (losses_of roles spares) (Step RebuildEnded c.left_at_rest-left.result) (Rebuilt role) c.append_after_losses.ensures.items c.append_entry.ensures.items)))

pub returns-clause-caused : goal.returns-clause-caused
returns-clause-caused g c =
    rw (← c.still.view_is) (omega arith, λ refusal many. never-both c.still.inside.members refusal c.in_default.ensures many)

-- ---- the call goes on

pub returns-then-is_unassigned-clause-open : goal.returns-then-is_unassigned-clause-open
returns-then-is_unassigned-clause-open g c =
    let losses = losses_of c.newly_unassigned-roles.result c.record_and_name-spares.result in
    still-going c.args.who c.ops-end.result (losses ++ []) c.requires.open.goes (losses-open losses [] (losses-are c.newly_unassigned-roles.result c.record_and_name-spares.result) tt) (ap (λ p. p.parts.entries) c.still.view_is)
    (alone c.still.inside.epoch.entries.items c.append_lost.new.epoch.entries.items c.args.who c.ops-end.result losses c.append_lost.ensures.items)

pub returns-clause-open : goal.returns-clause-open
returns-clause-open g c =
    let a = c.still.inside in
    let role = c.args.role in
    let roles = c.newly_unassigned-roles.result in
    let spares = c.record_and_name-spares.result in
    let end = c.ops-end.result in
    still-going c.args.who end (losses_of roles spares ++ Step RebuildEnded c.left_at_rest-left.result ∷ Rebuilt role ∷ []) c.requires.open.goes
    (losses-open (losses_of roles spares) (Step RebuildEnded c.left_at_rest-left.result ∷ Rebuilt role ∷ []) (losses-are roles spares) (tt, (tt, tt))) (ap (λ p. p.parts.entries) c.still.view_is)
    (both a.epoch.entries.items c.append_after_losses.new.epoch.entries.items c.append_entry.new.epoch.entries.items c.args.who end (losses_of roles spares) (Step RebuildEnded c.left_at_rest-left.result) (Rebuilt role) c.append_after_losses.ensures.items c.append_entry.ensures.items)

pub returns-then-is_unassigned-clause-closable : goal.returns-then-is_unassigned-clause-closable
returns-then-is_unassigned-clause-closable g c = λ none. inr (inl c.record_and_name-spares.ensures.missing)

pub returns-clause-closable : goal.returns-clause-closable
returns-clause-closable g c = λ none. inr (inl c.record_and_name-spares.ensures.missing)

-- ---- what the calls ask

pub unassigned_roles-before-requires-clause-known : goal.unassigned_roles-before-requires-clause-known
unassigned_roles-before-requires-clause-known g c = known-at (alike c.still.invariant).kept.members_are.placed c.shape_in-disks.ensures

pub recovering_slot-requires : goal.recovering_slot-requires
recovering_slot-requires g c =
    let pending : AreStripesRebuilt c.still.inside.work c.still.inside.members c.args.role = subst (λ p. AreStripesRebuilt p.parts.work p.parts.members c.args.role) (sym c.still.view_is) c.requires.pending in
    role-at (alike c.still.invariant).kept.members_are.placed pending.0.0

pub unreachable-requires : goal.unreachable-requires
unreachable-requires g c =
    let pending : AreStripesRebuilt c.still.inside.work c.still.inside.members c.args.role = subst (λ p. AreStripesRebuilt p.parts.work p.parts.members c.args.role) (sym c.still.view_is) c.requires.pending in
    c.in_default-recovering_slot.ensures.none pending.0.1 pending.0.2

pub record_and_name-spares-requires-clause-placed : goal.record_and_name-spares-requires-clause-placed
record_and_name-spares-requires-clause-placed g c = (alike c.still.invariant).kept.members_are.placed

pub record_and_name-spares-requires-clause-unlost : goal.record_and_name-spares-requires-clause-unlost
record_and_name-spares-requires-clause-unlost g c = (alike c.still.invariant).kept.members_are.unlost

pub record_and_name-spares-requires-clause-free : goal.record_and_name-spares-requires-clause-free
record_and_name-spares-requires-clause-free g c = (alike c.still.invariant).kept.members_are.free

pub record_and_name-spares-requires-clause-few : goal.record_and_name-spares-requires-clause-few
record_and_name-spares-requires-clause-few g c = (alike c.still.invariant).kept.members_are.spares

pub record_and_name-spares-requires-clause-still : goal.record_and_name-spares-requires-clause-still
record_and_name-spares-requires-clause-still g c =
    (c.still.invariant.rests (ap (λ p. is_reshaping p.parts.members.newest) c.still.view_is ∙ c.requires.still)).1.kept.members_are.still

pub record_and_name-spares-requires-clause-role : goal.record_and_name-spares-requires-clause-role
record_and_name-spares-requires-clause-role g c =
    let pending : AreStripesRebuilt c.still.inside.work c.still.inside.members c.args.role = subst (λ p. AreStripesRebuilt p.parts.work p.parts.members c.args.role) (sym c.still.view_is) c.requires.pending in
    role-of-shape (c.still.invariant.rests (ap (λ p. is_reshaping p.parts.members.newest) c.still.view_is ∙ c.requires.still)).1.kept.members_are refl pending.0.0

pub record_and_name-spares-requires-clause-recovering : goal.record_and_name-spares-requires-clause-recovering
record_and_name-spares-requires-clause-recovering g c = c.in-Some-recovering_slot.ensures.some

pub newly_unassigned-roles-requires-clause-known : goal.newly_unassigned-roles-requires-clause-known
newly_unassigned-roles-requires-clause-known g c = known-behind c.record_and_name-spares.ensures.moved c.shape_in-disks.ensures

pub is_unassigned-requires : goal.is_unassigned-requires
is_unassigned-requires g c =
    let pending : AreStripesRebuilt c.still.inside.work c.still.inside.members c.args.role = subst (λ p. AreStripesRebuilt p.parts.work p.parts.members c.args.role) (sym c.still.view_is) c.requires.pending in
    le_trans (role-of-shape (c.still.invariant.rests (ap (λ p. is_reshaping p.parts.members.newest) c.still.view_is ∙ c.requires.still)).1.kept.members_are refl pending.0.0) (known-behind c.record_and_name-spares.ensures.moved refl)

pub left_at_rest-left-requires-clause-shape : goal.left_at_rest-left-requires-clause-shape
left_at_rest-left-requires-clause-shape g c = c.record_and_name-spares.ensures.moved.placed.fit.valid.old

pub left_at_rest-left-requires-clause-size : goal.left_at_rest-left-requires-clause-size
left_at_rest-left-requires-clause-size g c =
    short (g.B.Bank.given c.still.inside.bank) c.record_and_name-spares.new.members c.record_and_name-spares.ensures.moved.placed

pub left_at_rest-left-requires-clause-roles : goal.left_at_rest-left-requires-clause-roles
left_at_rest-left-requires-clause-roles g c = known-at c.record_and_name-spares.ensures.moved.placed refl

pub left_at_rest-left-requires-clause-progress : goal.left_at_rest-left-requires-clause-progress
left_at_rest-left-requires-clause-progress g c =
    subst (λ (o : Option ℕ). IfSome o (λ mended. mended ≤ stripes_of c.record_and_name-spares.new.members)) (sym (ap (λ p. p.parts.work.resync) c.still.view_is ∙ c.requires.synced)) tt

pub left_at_rest-left-requires-clause-sound : goal.left_at_rest-left-requires-clause-sound
left_at_rest-left-requires-clause-sound g c =
    sound-behind c.still.inside.ahead c.record_and_name-spares.ensures.moved (c.still.invariant.rests (ap (λ p. is_reshaping p.parts.members.newest) c.still.view_is ∙ c.requires.still)).1.planned

pub append_lost-requires-clause-room : goal.append_lost-requires-clause-room
append_lost-requires-clause-room g c = room-for-losses (ap (λ p. p.parts.steps) c.still.view_is) (alike c.still.invariant).room_left c.requires.room

pub append_lost-requires-clause-number : goal.append_lost-requires-clause-number
append_lost-requires-clause-number g c = c.check_going.ensures

pub append_after_losses-requires-clause-room : goal.append_after_losses-requires-clause-room
append_after_losses-requires-clause-room g c = room-for-step (ap (λ p. p.parts.steps) c.still.view_is) (alike c.still.invariant).room_left c.requires.room

pub append_after_losses-requires-clause-number : goal.append_after_losses-requires-clause-number
append_after_losses-requires-clause-number g c = c.check_going.ensures

pub append_entry-requires-clause-room : goal.append_entry-requires-clause-room
append_entry-requires-clause-room g c =
    room-behind-step (ap (λ p. p.parts.steps) c.still.view_is) (alike c.still.invariant).room_left c.requires.room c.append_after_losses.ensures.room

pub append_entry-requires-clause-number : goal.append_entry-requires-clause-number
append_entry-requires-clause-number g c = number-behind _ _ c.append_after_losses.ensures.items c.check_going.ensures

-- ---- what it leaves as it was

pub returns-in-Some-clause-stays : goal.returns-in-Some-clause-stays
returns-in-Some-clause-stays g c = c.refuse_step.ensures.stays

pub returns-in-Some-clause-memory : goal.returns-in-Some-clause-memory
returns-in-Some-clause-memory g c = refused-at-all c.in-Some.refusal

pub returns-then-is_unassigned-clause-memory : goal.returns-then-is_unassigned-clause-memory
returns-then-is_unassigned-clause-memory g c = done-at-all tt

pub returns-then-is_unassigned-clause-work : goal.returns-then-is_unassigned-clause-work
returns-then-is_unassigned-clause-work g c = ap (λ p. p.parts.work) c.still.view_is

pub returns-then-is_unassigned-clause-clean : goal.returns-then-is_unassigned-clause-clean
returns-then-is_unassigned-clause-clean g c = c.record_and_name-spares.ensures.clean ∙ ap (λ p. is_clean p.parts.members.newest) c.still.view_is

pub returns-then-is_unassigned-clause-room : goal.returns-then-is_unassigned-clause-room
returns-then-is_unassigned-clause-room g c = step-taken (ap (λ p. p.parts.steps) c.still.view_is) c.requires.room

pub returns-then-is_unassigned-clause-given : goal.returns-then-is_unassigned-clause-given
returns-then-is_unassigned-clause-given g c = c.record_and_name-spares.ensures.given ∙ ap (λ p. g.B.Bank.given p.parts.bank) c.still.view_is

pub returns-clause-memory : goal.returns-clause-memory
returns-clause-memory g c = done-at-all tt

pub returns-clause-work : goal.returns-clause-work
returns-clause-work g c = ap (λ p. p.parts.work) c.still.view_is

pub returns-clause-clean : goal.returns-clause-clean
returns-clause-clean g c = c.record_and_name-spares.ensures.clean ∙ ap (λ p. is_clean p.parts.members.newest) c.still.view_is

pub returns-clause-room : goal.returns-clause-room
returns-clause-room g c = step-taken (ap (λ p. p.parts.steps) c.still.view_is) c.requires.room

pub returns-clause-given : goal.returns-clause-given
returns-clause-given g c = c.record_and_name-spares.ensures.given ∙ ap (λ p. g.B.Bank.given p.parts.bank) c.still.view_is

pub returns-in-Some-clause-still : goal.returns-in-Some-clause-still
returns-in-Some-clause-still g c = c.refuse_step.ensures.still

pub returns-then-is_unassigned-clause-still : goal.returns-then-is_unassigned-clause-still
returns-then-is_unassigned-clause-still g c = c.record_and_name-spares.ensures.moved.reshape.reshaping ∙ (ap (λ p. is_reshaping p.parts.members.newest) c.still.view_is ∙ c.requires.still)

pub returns-clause-still : goal.returns-clause-still
returns-clause-still g c = c.record_and_name-spares.ensures.moved.reshape.reshaping ∙ (ap (λ p. is_reshaping p.parts.members.newest) c.still.view_is ∙ c.requires.still)
