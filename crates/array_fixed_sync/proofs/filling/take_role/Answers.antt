use Rattle.std.proofs.Common.{◌≡◌, ◌≤◌, ◌<◌, true, [], ◌∷◌, ◌++◌, Some, inl, inr, refl, sym, ◌∙◌, ap, subst, arith}
use Rattle.array_fixed_io.specs.raid_types_the_Shape.{Shape}
use Rattle.array_fixed_io.proofs.raid_layout_Limits.{limited}
use Rattle.array_fixed_io.specs.sb_specs_Reading.{shape_of, list_length, is_clean, is_reshaping}
use Rattle.array_fixed_io.specs.sb_specs_Reads.{has_spare}
use Rattle.array_fixed_io.specs.stripe_row_Rows.{reading_of}
use Rattle.array_fixed_io.specs.history_the_Event_TheVariants.{Step}
use Rattle.array_fixed_io.specs.history_the_StepKind_TheVariants.{RebuildTaken}
use Rattle.array_fixed_io.specs.history_Plain.{entries_of}
use Rattle.array_fixed_io.specs.array_members_the_Work.{Work}
use Rattle.array_fixed_io.specs.array_members_Lacking.{AreLostSince, AreTooMany}
use Rattle.array_fixed_io.specs.array_members_Placed.{is_unassigned}
use Rattle.array_fixed_io.specs.array_members_Rebuilding.{with_recovering}
use Rattle.array_fixed_io.specs.array_members_Status.{left_of, stripes_of}
use Rattle.array_fixed_io.proofs.array_members_Fit.{valid, short}
use Rattle.array_fixed_io.proofs.array_members_GivenMembers.{placed-given, spare-before}
use Rattle.array_fixed_io.proofs.array_members_LackingLaws.{lost-since, never-both}
use Rattle.array_fixed_io.proofs.array_members_Still.{count-still}
use Rattle.array_fixed_io.specs.history_append_Losing.{losses_of}
use Rattle.array_fixed_io.specs.array_call_specs_Kept.{scope_in}
use Rattle.array_fixed_io.specs.array_call_specs_Calls.{IsHeldOrGiven, WasSpare, AreStepsFewer, with_rebuilt}
use Rattle.array_fixed_io.proofs.array_call_specs_LossLaws.{losses-before, ended-behind}
use Rattle.array_fixed_io.proofs.array_call_specs_ReadyLaws.{scope-same}
use Rattle.array_fixed_io.proofs.array_call_specs_ReplyLaws.{too-many-of, refused-for}
use Rattle.array_fixed_io.proofs.array_call_specs_StepsLeft.{steps-fewer}
use Rattle.array_fixed_io.proofs.array_call_laws_RebuildGiven.{receiver-spare, taken-vacant, taken-held, taken-by, taken-before, taken-after}
use Rattle.array_fixed_io.specs.history_invariant_Recorded.{IsCallGoing}
use Rattle.array_fixed_io.specs.array_fixed_invariant_Still.{IsStill}
use Rattle.array_fixed_io.proofs.array_fixed_invariant_Rebuilding.{IsTaken}
use Rattle.array_fixed_io.specs.array_specs_Parts.{still_left}
use Rattle.array_fixed_io.specs.array_specs_Calls.{moving_world}
use Rattle.array_fixed_io.specs.array_specs_Plans.{ArePlansKept}
use Rattle.array_fixed_io.proofs.array_specs_Called.{risen-told}
use Rattle.array_fixed_io.proofs.array_specs_Lengths.{alone-keeps, behind-keeps}
use Rattle.array_fixed_io.proofs.array_fixed_laws_Kept.{ready, rows-moved}
use Rattle.array_fixed_io.proofs.array_fixed_laws_Going.{step-going}
use Rattle.array_fixed_io.proofs.array_fixed_laws_StepLaws.{shapes-moved, planned-same, stepped, stepped-more, fewer-more}
use Rattle.array_fixed_io.proofs.array_fixed_laws_RebuildLaws.{taken-less, take-done}
use Rattle.array_fixed_io.proofs.array_fixed_laws_PlainSteps.{taken-plain}
use Rattle.std.specs.Prelude.{IfSome}
use Rattle.array_fixed_io.proofs.array_fixed_invariant_Staying.{progress-same}
use Rattle.array_fixed_io.proofs.array_type_Asked.{known-at, known-behind, sound-behind, step-taken, room-for-step, done-at-all, refused-at-all, step-entered, room-after}
use Rattle.array_fixed_io.proofs.array_type_Alike.{alike, stays-at-rest}
use Rattle.array_fixed_sync.proofs.filling.take_role.Goals as goal

-- ---- refused before anything is done

pub refuse_step-requires-clause-why : goal.refuse_step-requires-clause-why
refuse_step-requires-clause-why g c = rw (← c.still.view_is) (inl c.in-Some.ensures)

pub refuse_step-requires-clause-synced : goal.refuse_step-requires-clause-synced
refuse_step-requires-clause-synced g c = rw (← c.still.view_is) (λ none. c.in-Some.ensures)

pub returns-in-Some-clause-caused : goal.returns-in-Some-clause-caused
returns-in-Some-clause-caused g c =
    let refusal = c.in-Some.refusal in
    let many : AreTooMany c.args.still.now.parts.members refusal = subst (λ p. AreTooMany p.parts.members refusal) c.still.view_is c.in-Some.ensures in
    refused-for (list_length c.args.still.now.parts.members.newest) 0 AreTooMany c.args.still.now.parts.members c.refuse_step.new.still.parts.members refusal
    (too-many-of c.still.inside.members refusal c.in-Some.ensures) (omega arith) (subst (λ m. AreTooMany m refusal) (sym c.refuse_step.ensures.members) many)

pub returns-in-Some-clause-stepped : goal.returns-in-Some-clause-stepped
returns-in-Some-clause-stepped g c = stepped-more (λ role slot held. inl held) c.refuse_step.ensures.stepped

pub returns-in-Some-clause-held : goal.returns-in-Some-clause-held
returns-in-Some-clause-held g c =
    record { roles = λ role slot held. inl (c.refuse_step.ensures.held role slot held); spares = c.refuse_step.ensures.spares }

-- ---- the spare gets the role

pub unassigned_roles-requires-clause-few : goal.unassigned_roles-requires-clause-few
unassigned_roles-requires-clause-few g c =
    let most = (limited (shape_of c.still.inside.members.newest) (valid (g.B.Bank.given c.still.inside.bank) c.still.inside.members (alike c.still.invariant).kept.members_are.placed)).most in
    let disks = ap (λ (s : Shape). s.disks) c.shape_in-disks.ensures in
    omega (arith, most, disks)

pub newly_unassigned-roles-requires-clause-few : goal.newly_unassigned-roles-requires-clause-few
newly_unassigned-roles-requires-clause-few g c =
    let most = (limited (shape_of c.still.inside.members.newest) (valid (g.B.Bank.given c.still.inside.bank) c.still.inside.members (alike c.still.invariant).kept.members_are.placed)).most in
    let disks = ap (λ (s : Shape). s.disks) c.shape_in-disks.ensures in
    omega (arith, most, disks)

pub with-requires : goal.with-requires
with-requires g c =
    let a = c.still.inside in
    let below : c.args.role < (shape_of a.members.newest).disks = subst (λ p. c.args.role < (shape_of p.parts.members.newest).disks) (sym c.still.view_is) c.requires.role in
    let most = (limited (shape_of a.members.newest) (valid (g.B.Bank.given a.bank) a.members (alike c.still.invariant).kept.members_are.placed)).most in
    omega (arith, most, below)

pub set_rebuilt-requires : goal.set_rebuilt-requires
set_rebuilt-requires g c =
    let a = c.still.inside in
    let below : c.args.role < (shape_of a.members.newest).disks = subst (λ p. c.args.role < (shape_of p.parts.members.newest).disks) (sym c.still.view_is) c.requires.role in
    let most = (limited (shape_of a.members.newest) (valid (g.B.Bank.given a.bank) a.members (alike c.still.invariant).kept.members_are.placed)).most in
    omega (arith, most, below)

pub invariant_of-still : goal.invariant_of-still
invariant_of-still g c =
    stays-at-rest (c.still.invariant.rests (ap (λ p. is_reshaping p.parts.members.newest) c.still.view_is ∙ c.requires.still)).0 (
    let was = (c.still.invariant.rests (ap (λ p. is_reshaping p.parts.members.newest) c.still.view_is ∙ c.requires.still)).1 in
    let here = was.kept.members_are in
    let a = c.still.inside in
    let given = g.B.Bank.given a.bank in
    let goes : IsCallGoing a.epoch.entries.items c.args.who = subst (λ p. IsCallGoing p.parts.entries c.args.who) (sym c.still.view_is) c.requires.open in
    let some : 1 ≤ a.steps = subst (λ p. 1 ≤ p.parts.steps) (sym c.still.view_is) c.requires.room in
    let plans = subst (λ p. ArePlansKept g.B.Bank.tells (moving_world (g.B.Bank.given p.parts.bank) (g.B.Bank.tape p.parts.bank) p) p) (sym c.still.view_is) c.requires.plans in
    let did = c.give_and_name-spares.ensures in
    let m = c.give_and_name-spares.new.members in
    let before = g.B.Bank.faults_of a.bank in
    let after = g.B.Bank.faults_of c.give_and_name-spares.new.bank in
    let roles = c.newly_unassigned-roles.result in
    let spares = c.give_and_name-spares.result in
    let end = c.ops-end.result in
    let tape = g.B.Bank.tape a.bank in
    let tape' = g.B.Bank.tape c.give_and_name-spares.new.bank in
    let role = c.args.role in
    let slot = c.args.slot in
    let below : role < (shape_of a.members.newest).disks = subst (λ p. role < (shape_of p.parts.members.newest).disks) (sym c.still.view_is) c.requires.role in
    let vacant : is_unassigned (reading_of a.members) role ≡ true = subst (λ p. is_unassigned (reading_of p.parts.members) role ≡ true) (sym c.still.view_is) c.requires.vacant in
    let spare : has_spare a.members.spares slot ≡ true = subst (λ p. has_spare p.parts.members.spares slot ≡ true) (sym c.still.view_is) c.requires.spare in
    let to = receiver-spare given a.members here.placed here.free role slot below vacant spare in
    let most = (limited (shape_of a.members.newest) (valid given a.members here.placed)).most in
    let few : c.shape_in-disks.result.disks ≤ 32 = (let disks = ap (λ (s : Shape). s.disks) c.shape_in-disks.ensures in omega (arith, most, disks)) in
    let since : AreLostSince (with_recovering role slot a.members) m roles spares before after = lost-since given (with_recovering role slot a.members) m c.shape_in-disks.result.disks c.without-before.result roles spares before after
    (placed-given given a.members here.placed (Some 0) role slot to) did.moved did.failed (ap (λ (s : Shape). s.disks) c.shape_in-disks.ensures ∙ sym (count-still a.members.newest here.still))
    (taken-vacant given a.members here.placed role slot to c.shape_in-disks.result.disks c.unassigned_roles.result c.with.result c.without-before.result few (omega arith) c.unassigned_roles.ensures c.with.ensures c.without-before.ensures)
    c.newly_unassigned-roles.ensures in
    let leaves : IsTaken g.B.Bank.tells given tape tape' a.members m role slot roles spares before after = record {
      below = below;
      vacant = vacant;
      spare = spare;
      moved = did.moved;
      since = since;
      grows = did.grows;
      clean = did.clean;
      missing = did.missing;
      rise = risen-told did.rise;
      others = did.others;
      safe = did.safe;
    } in
    let left = c.left_at_rest-left.result in
    let next : c.set_rebuilt.new.work ≡ with_rebuilt role 0 a.work = c.set_rebuilt.ensures.work in
    let told = c.left_at_rest-left.ensures ∙ ap (λ (w : Work). still_left w m a.ahead) next in
    let kept = subst (λ (w : Work). IsStill g.B.Bank.tells given tape' (scope_in given a.epoch.uuid a.epoch.given a.backup) a.epoch.first (a.epoch.entries.items ++ entries_of c.args.who end (losses_of roles spares ++ Step RebuildTaken left ∷ [])) m w (still_left w m a.ahead)) (sym next)
    (take-done a.ahead c.args.who end role slot roles spares was.kept c.in_default.ensures goes c.requires.caller c.ops-end.ensures.count c.set_rebuilt.ensures.known leaves left told plans) in
    ready (entries_of c.args.who end (losses_of roles spares ++ Step RebuildTaken left ∷ [])) was (rows-moved given (with_recovering role slot a.members) m did.moved)
    kept (taken-plain was c.args.who end c.in_default.ensures goes c.requires.caller c.ops-end.ensures.count c.set_rebuilt.ensures.known leaves left told)
    did.counts (behind-keeps c.args.who end roles spares (Step RebuildTaken left ∷ []) (alone-keeps c.args.who end (Step RebuildTaken left) (λ n. refl) (λ limit. refl)))
    did.given (scope-same given a.backup did.given c.append_after_losses.ensures.uuid c.append_after_losses.ensures.given) c.append_after_losses.ensures.first refl c.append_after_losses.ensures.items
    (room-after was.room_left some c.append_after_losses.ensures.room))

pub returns-clause-stepped : goal.returns-clause-stepped
returns-clause-stepped g c =
    let was = (c.still.invariant.rests (ap (λ p. is_reshaping p.parts.members.newest) c.still.view_is ∙ c.requires.still)).1 in
    let here = was.kept.members_are in
    let a = c.still.inside in
    let given = g.B.Bank.given a.bank in
    let did = c.give_and_name-spares.ensures in
    let m = c.give_and_name-spares.new.members in
    let before = g.B.Bank.faults_of a.bank in
    let after = g.B.Bank.faults_of c.give_and_name-spares.new.bank in
    let roles = c.newly_unassigned-roles.result in
    let spares = c.give_and_name-spares.result in
    let end = c.ops-end.result in
    let role = c.args.role in
    let slot = c.args.slot in
    let below : role < (shape_of a.members.newest).disks = subst (λ p. role < (shape_of p.parts.members.newest).disks) (sym c.still.view_is) c.requires.role in
    let vacant : is_unassigned (reading_of a.members) role ≡ true = subst (λ p. is_unassigned (reading_of p.parts.members) role ≡ true) (sym c.still.view_is) c.requires.vacant in
    let spare : has_spare a.members.spares slot ≡ true = subst (λ p. has_spare p.parts.members.spares slot ≡ true) (sym c.still.view_is) c.requires.spare in
    let to = receiver-spare given a.members here.placed here.free role slot below vacant spare in
    let most = (limited (shape_of a.members.newest) (valid given a.members here.placed)).most in
    let few : c.shape_in-disks.result.disks ≤ 32 = (let disks = ap (λ (s : Shape). s.disks) c.shape_in-disks.ensures in omega (arith, most, disks)) in
    let since : AreLostSince (with_recovering role slot a.members) m roles spares before after = lost-since given (with_recovering role slot a.members) m c.shape_in-disks.result.disks c.without-before.result roles spares before after
    (placed-given given a.members here.placed (Some 0) role slot to) did.moved did.failed (ap (λ (s : Shape). s.disks) c.shape_in-disks.ensures ∙ sym (count-still a.members.newest here.still))
    (taken-vacant given a.members here.placed role slot to c.shape_in-disks.result.disks c.unassigned_roles.result c.with.result c.without-before.result few (omega arith) c.unassigned_roles.ensures c.with.ensures c.without-before.ensures)
    c.newly_unassigned-roles.ensures in
    let event = Step RebuildTaken c.left_at_rest-left.result in
    rw (← c.still.view_is) (stepped did.grows (shapes-moved did.moved)
    (ended-behind (g.B.Bank.tape c.give_and_name-spares.new.bank) c.append_after_losses.new.epoch.first a.epoch.entries.items c.args.who end (losses_of roles spares) event c.append_after_losses.ensures.items c.ops-end.ensures.count)
    (λ r s held. did.failed.roles r s (taken-held given a.members here.placed role slot to r s held))
    (losses-before (IsHeldOrGiven a.members role slot) (WasSpare a.members) (with_recovering role slot a.members) m (taken-by given a.members here.placed role slot to)
    (λ s spare. (spare-before given a.members here.placed (Some 0) role slot to s spare).0) before after a.epoch.entries.items a.epoch.entries.items c.append_after_losses.new.epoch.entries.items c.args.who end
    roles spares since refl event tt c.append_after_losses.ensures.items)
    did.counts
    (record { uuid = c.append_after_losses.ensures.uuid; given = c.append_after_losses.ensures.given; first = c.append_after_losses.ensures.first; backup = refl; ahead = refl; limit = refl })
    (λ t. (was.kept.recorded t).begun))

pub returns-clause-taken : goal.returns-clause-taken
returns-clause-taken g c =
    let was = (alike c.still.invariant) in
    let here = was.kept.members_are in
    let a = c.still.inside in
    let given = g.B.Bank.given a.bank in
    let role = c.args.role in
    let slot = c.args.slot in
    let below : role < (shape_of a.members.newest).disks = subst (λ p. role < (shape_of p.parts.members.newest).disks) (sym c.still.view_is) c.requires.role in
    let vacant : is_unassigned (reading_of a.members) role ≡ true = subst (λ p. is_unassigned (reading_of p.parts.members) role ≡ true) (sym c.still.view_is) c.requires.vacant in
    let spare : has_spare a.members.spares slot ≡ true = subst (λ p. has_spare p.parts.members.spares slot ≡ true) (sym c.still.view_is) c.requires.spare in
    let to = receiver-spare given a.members here.placed here.free role slot below vacant spare in
    taken-after given a.members here.placed role slot to c.give_and_name-spares.new.members c.give_and_name-spares.ensures.moved

pub returns-clause-held : goal.returns-clause-held
returns-clause-held g c =
    let was = (alike c.still.invariant) in
    let here = was.kept.members_are in
    let a = c.still.inside in
    let given = g.B.Bank.given a.bank in
    let role = c.args.role in
    let slot = c.args.slot in
    let below : role < (shape_of a.members.newest).disks = subst (λ p. role < (shape_of p.parts.members.newest).disks) (sym c.still.view_is) c.requires.role in
    let vacant : is_unassigned (reading_of a.members) role ≡ true = subst (λ p. is_unassigned (reading_of p.parts.members) role ≡ true) (sym c.still.view_is) c.requires.vacant in
    let spare : has_spare a.members.spares slot ≡ true = subst (λ p. has_spare p.parts.members.spares slot ≡ true) (sym c.still.view_is) c.requires.spare in
    let to = receiver-spare given a.members here.placed here.free role slot below vacant spare in
    let did = c.give_and_name-spares.ensures in
    rw (← c.still.view_is) (record {
      roles = λ r s held. taken-before given a.members here.placed role slot to spare r s (did.moved.held r s held);
      spares = λ s has. (spare-before given a.members here.placed (Some 0) role slot to s (did.moved.fewer s has)).0;
    })

pub returns-clause-left : goal.returns-clause-left
returns-clause-left g c =
    let was = (c.still.invariant.rests (ap (λ p. is_reshaping p.parts.members.newest) c.still.view_is ∙ c.requires.still)).1 in
    let here = was.kept.members_are in
    let a = c.still.inside in
    let given = g.B.Bank.given a.bank in
    let goes : IsCallGoing a.epoch.entries.items c.args.who = subst (λ p. IsCallGoing p.parts.entries c.args.who) (sym c.still.view_is) c.requires.open in
    let did = c.give_and_name-spares.ensures in
    let m = c.give_and_name-spares.new.members in
    let before = g.B.Bank.faults_of a.bank in
    let after = g.B.Bank.faults_of c.give_and_name-spares.new.bank in
    let roles = c.newly_unassigned-roles.result in
    let spares = c.give_and_name-spares.result in
    let end = c.ops-end.result in
    let tape = g.B.Bank.tape a.bank in
    let tape' = g.B.Bank.tape c.give_and_name-spares.new.bank in
    let role = c.args.role in
    let slot = c.args.slot in
    let below : role < (shape_of a.members.newest).disks = subst (λ p. role < (shape_of p.parts.members.newest).disks) (sym c.still.view_is) c.requires.role in
    let vacant : is_unassigned (reading_of a.members) role ≡ true = subst (λ p. is_unassigned (reading_of p.parts.members) role ≡ true) (sym c.still.view_is) c.requires.vacant in
    let spare : has_spare a.members.spares slot ≡ true = subst (λ p. has_spare p.parts.members.spares slot ≡ true) (sym c.still.view_is) c.requires.spare in
    let to = receiver-spare given a.members here.placed here.free role slot below vacant spare in
    let most = (limited (shape_of a.members.newest) (valid given a.members here.placed)).most in
    let few : c.shape_in-disks.result.disks ≤ 32 = (let disks = ap (λ (s : Shape). s.disks) c.shape_in-disks.ensures in omega (arith, most, disks)) in
    let since : AreLostSince (with_recovering role slot a.members) m roles spares before after = lost-since given (with_recovering role slot a.members) m c.shape_in-disks.result.disks c.without-before.result roles spares before after
    (placed-given given a.members here.placed (Some 0) role slot to) did.moved did.failed (ap (λ (s : Shape). s.disks) c.shape_in-disks.ensures ∙ sym (count-still a.members.newest here.still))
    (taken-vacant given a.members here.placed role slot to c.shape_in-disks.result.disks c.unassigned_roles.result c.with.result c.without-before.result few (omega arith) c.unassigned_roles.ensures c.with.ensures c.without-before.ensures)
    c.newly_unassigned-roles.ensures in
    let leaves : IsTaken g.B.Bank.tells given tape tape' a.members m role slot roles spares before after = record {
      below = below;
      vacant = vacant;
      spare = spare;
      moved = did.moved;
      since = since;
      grows = did.grows;
      clean = did.clean;
      missing = did.missing;
      rise = risen-told did.rise;
      others = did.others;
      safe = did.safe;
    } in
    let less = taken-less a.ahead c.args.who end role slot roles spares was.kept c.in_default.ensures goes c.requires.caller c.ops-end.ensures.count c.set_rebuilt.ensures.known leaves in
    rw (← c.still.view_is) (subst (λ (w : Work). AreStepsFewer a.epoch.entries.items c.append_after_losses.new.epoch.entries.items (still_left a.work a.members a.ahead) (still_left w m a.ahead)) (sym c.set_rebuilt.ensures.work)
    (fewer-more (planned-same a.ahead (shapes-moved did.moved))
    (steps-fewer (with_rebuilt role 0 a.work) (left_of a.work a.members) c.args.who end (Step RebuildTaken c.left_at_rest-left.result ∷ []) did.moved since less c.append_after_losses.ensures.items)))

pub returns-clause-work : goal.returns-clause-work
returns-clause-work g c = rw (← c.still.view_is) c.set_rebuilt.ensures.work

pub returns-clause-caused : goal.returns-clause-caused
returns-clause-caused g c =
    rw (← c.still.view_is) (omega arith, λ refusal many. never-both c.still.inside.members refusal c.in_default.ensures many)

-- ---- the call goes on

pub returns-clause-open : goal.returns-clause-open
returns-clause-open g c =
    step-going c.args.who c.ops-end.result c.newly_unassigned-roles.result c.give_and_name-spares.result (Step RebuildTaken c.left_at_rest-left.result) c.requires.open tt (ap (λ p. p.parts.entries) c.still.view_is) c.append_after_losses.ensures.items

pub returns-clause-closable : goal.returns-clause-closable
returns-clause-closable g c = λ none. inr (inl c.give_and_name-spares.ensures.missing)

-- ---- what the calls ask

pub check_going-requires : goal.check_going-requires
check_going-requires g c = subst (λ p. IsCallGoing p.parts.entries c.args.who) (sym c.still.view_is) c.requires.open

pub unassigned_roles-requires-clause-known : goal.unassigned_roles-requires-clause-known
unassigned_roles-requires-clause-known g c = known-at (alike c.still.invariant).kept.members_are.placed c.shape_in-disks.ensures

pub give_and_name-spares-requires-clause-role : goal.give_and_name-spares-requires-clause-role
give_and_name-spares-requires-clause-role g c = subst (λ p. c.args.role < (shape_of p.parts.members.newest).disks) (sym c.still.view_is) c.requires.role

pub newly_unassigned-roles-requires-clause-known : goal.newly_unassigned-roles-requires-clause-known
newly_unassigned-roles-requires-clause-known g c = known-behind c.give_and_name-spares.ensures.moved c.shape_in-disks.ensures

pub left_at_rest-left-requires-clause-shape : goal.left_at_rest-left-requires-clause-shape
left_at_rest-left-requires-clause-shape g c = c.give_and_name-spares.ensures.moved.placed.fit.valid.old

pub left_at_rest-left-requires-clause-size : goal.left_at_rest-left-requires-clause-size
left_at_rest-left-requires-clause-size g c =
    short (g.B.Bank.given c.still.inside.bank) c.give_and_name-spares.new.members c.give_and_name-spares.ensures.moved.placed

pub left_at_rest-left-requires-clause-roles : goal.left_at_rest-left-requires-clause-roles
left_at_rest-left-requires-clause-roles g c = known-at c.give_and_name-spares.ensures.moved.placed refl

pub left_at_rest-left-requires-clause-progress : goal.left_at_rest-left-requires-clause-progress
left_at_rest-left-requires-clause-progress g c =
    subst (λ (w : Work). IfSome w.resync (λ mended. mended ≤ stripes_of c.give_and_name-spares.new.members)) (sym c.set_rebuilt.ensures.work)
    (progress-same c.give_and_name-spares.ensures.moved c.still.inside.work.resync (c.still.invariant.rests (ap (λ p. is_reshaping p.parts.members.newest) c.still.view_is ∙ c.requires.still)).1.kept.progress)

pub left_at_rest-left-requires-clause-sound : goal.left_at_rest-left-requires-clause-sound
left_at_rest-left-requires-clause-sound g c =
    sound-behind c.still.inside.ahead c.give_and_name-spares.ensures.moved (c.still.invariant.rests (ap (λ p. is_reshaping p.parts.members.newest) c.still.view_is ∙ c.requires.still)).1.planned

pub append_after_losses-requires-clause-room : goal.append_after_losses-requires-clause-room
append_after_losses-requires-clause-room g c = room-for-step (ap (λ p. p.parts.steps) c.still.view_is) (alike c.still.invariant).room_left c.requires.room

pub append_after_losses-requires-clause-number : goal.append_after_losses-requires-clause-number
append_after_losses-requires-clause-number g c = c.check_going.ensures

-- ---- what it enters, and what it leaves as it was

pub returns-in-Some-clause-stays : goal.returns-in-Some-clause-stays
returns-in-Some-clause-stays g c = c.refuse_step.ensures.stays

pub returns-in-Some-clause-memory : goal.returns-in-Some-clause-memory
returns-in-Some-clause-memory g c = refused-at-all c.in-Some.refusal

pub returns-clause-entered : goal.returns-clause-entered
returns-clause-entered g c =
    inl (step-entered c.args.who c.ops-end.result c.newly_unassigned-roles.result c.give_and_name-spares.result RebuildTaken (ap (λ p. p.parts.entries) c.still.view_is) c.left_at_rest-left.ensures c.append_after_losses.ensures.items)

pub returns-clause-memory : goal.returns-clause-memory
returns-clause-memory g c = done-at-all tt

pub returns-clause-clean : goal.returns-clause-clean
returns-clause-clean g c = c.give_and_name-spares.ensures.clean ∙ ap (λ p. is_clean p.parts.members.newest) c.still.view_is

pub returns-clause-room : goal.returns-clause-room
returns-clause-room g c = step-taken (ap (λ p. p.parts.steps) c.still.view_is) c.requires.room

pub returns-clause-given : goal.returns-clause-given
returns-clause-given g c = c.give_and_name-spares.ensures.given ∙ ap (λ p. g.B.Bank.given p.parts.bank) c.still.view_is

pub returns-in-Some-clause-still : goal.returns-in-Some-clause-still
returns-in-Some-clause-still g c = c.refuse_step.ensures.still

pub returns-clause-still : goal.returns-clause-still
returns-clause-still g c = c.give_and_name-spares.ensures.moved.reshape.reshaping ∙ (ap (λ p. is_reshaping p.parts.members.newest) c.still.view_is ∙ c.requires.still)

pub give_and_name-spares-requires-clause-unlost : goal.give_and_name-spares-requires-clause-unlost
give_and_name-spares-requires-clause-unlost g c = (alike c.still.invariant).kept.members_are.unlost

pub give_and_name-spares-requires-clause-free : goal.give_and_name-spares-requires-clause-free
give_and_name-spares-requires-clause-free g c = (alike c.still.invariant).kept.members_are.free
