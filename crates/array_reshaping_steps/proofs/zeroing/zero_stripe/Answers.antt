use Rattle.std.proofs.Common.{None, ◌≡◌, ◌+◌, ◌≤◌, ◌<◌, List, [], ◌∷◌, ◌++◌, refl, sym, ◌∙◌, ap, subst, arith, ℕ, length, zero-le}
use Rattle.std.specs.Vec.{with_items}
use Rattle.std.proofs.Math.Nat.{div-le_self}
use Rattle.array_type.specs.raid_types_the_Shape.{Shape}
use Rattle.array_type.specs.sb_specs_Reading.{final_shape, list_length, is_clean, is_reshaping}
use Rattle.array_type.proofs.sb_specs_ValidFields.{few-roles}
use Rattle.array_type.specs.history_the_Event_TheVariants.{Refused, Step}
use Rattle.array_type.specs.history_the_StepKind_TheVariants.{Zeroed as ZeroesStripe}
use Rattle.array_type.specs.history_Plain.{entries_of}
use Rattle.array_type.specs.array_members_Lacking.{AreTooMany}
use Rattle.array_type.proofs.array_members_Fit.{fit-short}
use Rattle.array_type.proofs.array_members_LackingLaws.{lost-since, never-both}
use Rattle.array_type.proofs.array_members_MovedLaws.{grows-none, moved-same}
use Rattle.array_type.specs.history_append_Losing.{losses_of}
use Rattle.array_type.specs.array_call_specs_Kept.{scope_in}
use Rattle.array_type.proofs.array_call_specs_LossLaws.{losses-behind, ended-behind, behind-alone}
use Rattle.array_type.proofs.array_call_specs_ReadyLaws.{scope-same}
use Rattle.array_type.proofs.array_call_specs_ReplyLaws.{refused-for, too-many-of}
use Rattle.array_type.specs.reshape_request_Left.{zeroed_by, phases_of, IsWindowRight}
use Rattle.array_type.specs.reshape_progress_the_Course.{Course}
use Rattle.array_type.specs.history_invariant_Recorded.{IsCallGoing}
use Rattle.array_type.specs.history_invariant_Safe.{world_in}
use Rattle.array_type.specs.array_members_Numbers.{bears}
use Rattle.array_type.proofs.array_reshaping_invariant_Refusals.{quiet-refusal, refused-right}
use Rattle.array_type.proofs.array_reshaping_invariant_Resting.{resting-moves}
use Rattle.array_type.proofs.array_reshaping_invariant_Steps.{missing-since}
use Rattle.array_type.proofs.array_reshaping_state_ReshapeLaws.{through-of}
use Rattle.array_type.specs.array_specs_Calls.{IsZeroDue}
use Rattle.array_type.specs.array_specs_Parts.{left_in}
use Rattle.array_type.specs.array_reshaping_laws_Ready.{bytes_in}
use Rattle.array_type.proofs.array_specs_Called.{not_254, called, alone-lossless, many-of}
use Rattle.array_type.proofs.array_reshaping_laws_Kept.{ready, shapes-same, shapes-moved, behind-keeps, behind-whole, with-buffer, live-of}
use Rattle.array_type.proofs.array_reshaping_laws_ZeroLaws.{closed-at, zero-step, rows-zeroed, zero-refused, zero-done, zero-left}
use Rattle.array_type.specs.reshape_window_rows_Copies.{IsPastStripe}
use Rattle.array_type.proofs.StepLaws.{one-fewer, room-behind, next-within, scratch-for, taken-behind, under-way-moved, zeroed-moved, sound-moved, roles-moved}
use Rattle.array_type.proofs.array_specs_Lengths.{alone-keeps}
use Rattle.array_type.proofs.Alike.{alike, goes-on}
use Rattle.array_reshaping_steps.proofs.zeroing.zero_stripe.Goals as goal

-- ---- refused before anything is done

pub invariant_of-moving : goal.invariant_of-moving
invariant_of-moving g c =
    goes-on (c.moving.invariant.moves (ap (λ p. is_reshaping p.parts.members.newest) c.moving.view_is ∙ c.requires.active)).0 (
    let was = (c.moving.invariant.moves (ap (λ p. is_reshaping p.parts.members.newest) c.moving.view_is ∙ c.requires.active)).1 in
    let a = c.moving.inside in
    let given = g.B.Bank.given a.bank in
    let scope = scope_in given a.epoch.uuid a.epoch.given a.backup in
    let goes : IsCallGoing a.epoch.entries.items c.args.who = subst (λ p. IsCallGoing p.parts.entries c.args.who) (sym c.moving.view_is) c.requires.open in
    let some : 1 ≤ a.steps = subst (λ p. 1 ≤ p.parts.steps) (sym c.moving.view_is) c.requires.room in
    let tape = g.B.Bank.tape a.bank in
    let end = c.ops-end.result in
    let refusal = c.in-Some.refusal in
    let kept = resting-moves g.B.Bank.tells given tape scope a.epoch.first a.epoch.entries.items a.members (bears a.work) a.work.resync a.course (bytes_in a.course.window a.window.items) (left_in a.work a.members a.course a.ahead)
    c.args.who end (Refused refusal) was.kept goes (not_254 c.args.who.caller c.requires.caller) c.ops-end.ensures.count (quiet-refusal refusal) (λ told is. is)
    (λ t right. refused-right (world_in given tape scope a.epoch.first) a.epoch.entries.items given a.members was.kept.members_are.placed (was.kept.gone t right) (was.kept.levelled t right) refusal c.in-Some.ensures) in
    ready (entries_of c.args.who end (Refused refusal ∷ [])) was (grows-none (λ t. refl)) (shapes-same a.members.newest) kept
    refl (λ slot. omega arith) (alone-keeps c.args.who end (Refused refusal) (λ n. refl) (λ limit. refl)) (λ none whole. whole) refl (scope-same given a.backup refl c.append_entry.ensures.uuid c.append_entry.ensures.given) c.append_entry.ensures.first refl c.append_entry.ensures.items
    (omega (arith, c.append_entry.ensures.room, was.room_left, some)))

pub returns-in-Some-clause-entered : goal.returns-in-Some-clause-entered
returns-in-Some-clause-entered g c =
    rw (← c.moving.view_is) (behind-alone c.args.who c.ops-end.result (Refused c.in-Some.refusal) refl c.append_entry.ensures.items)

pub returns-in-Some-clause-called : goal.returns-in-Some-clause-called
returns-in-Some-clause-called g c =
    let was = (alike c.moving.invariant) in
    let a = c.moving.inside in
    let given = g.B.Bank.given a.bank in
    let faults = g.B.Bank.faults_of a.bank in
    let end = c.ops-end.result in
    let refusal = c.in-Some.refusal in
    rw (← c.moving.view_is) (called (grows-none (λ t. refl)) (moved-same given given a.members a.members refl refl was.kept.members_are.placed was.kept.members_are.unlost)
    (ended-behind (g.B.Bank.tape a.bank) c.append_entry.new.epoch.first a.epoch.entries.items c.args.who end [] (Refused refusal) c.append_entry.ensures.items c.ops-end.ensures.count)
    (alone-lossless a.members faults faults a.epoch.entries.items a.epoch.entries.items c.append_entry.new.epoch.entries.items c.args.who end (Refused refusal) tt refl c.append_entry.ensures.items)
    (λ slot. omega arith)
    (record { uuid = c.append_entry.ensures.uuid; given = c.append_entry.ensures.given; first = c.append_entry.ensures.first; backup = refl; work = refl; ahead = refl; limit = refl })
    (λ t. (was.kept.recorded t).begun))

-- ---- the roles

pub overflow_cast-count : goal.overflow_cast-count
overflow_cast-count g c =
    let members = (c.moving.invariant.moves (ap (λ p. is_reshaping p.parts.members.newest) c.moving.view_is ∙ c.requires.active)).1.kept.members_are in
    let few = few-roles c.moving.inside.members.newest members.placed.fit.valid in
    let roles = members.backed.roles in
    let long = c.len-count.ensures in
    omega (arith, few, roles, long)

pub unassigned_roles-before-requires-clause-few : goal.unassigned_roles-before-requires-clause-few
unassigned_roles-before-requires-clause-few g c =
    let members = (c.moving.invariant.moves (ap (λ p. is_reshaping p.parts.members.newest) c.moving.view_is ∙ c.requires.active)).1.kept.members_are in
    let few = few-roles c.moving.inside.members.newest members.placed.fit.valid in
    let roles = members.backed.roles in
    let long = c.len-count.ensures in
    omega (arith, few, roles, long)

pub newly_unassigned-roles-requires-clause-few : goal.newly_unassigned-roles-requires-clause-few
newly_unassigned-roles-requires-clause-few g c =
    let members = (c.moving.invariant.moves (ap (λ p. is_reshaping p.parts.members.newest) c.moving.view_is ∙ c.requires.active)).1.kept.members_are in
    let few = few-roles c.moving.inside.members.newest members.placed.fit.valid in
    let roles = members.backed.roles in
    let long = c.len-count.ensures in
    omega (arith, few, roles, long)

-- ---- the stripe

pub zero-done-requires-clause-through : goal.zero-done-requires-clause-through
zero-done-requires-clause-through g c =
    let due = subst (λ p. IsZeroDue p) (sym c.moving.view_is) c.requires.due in
    let here = (c.moving.invariant.moves (ap (λ p. is_reshaping p.parts.members.newest) c.moving.view_is ∙ c.requires.active)).1.kept.members_are in
    through-of c.moving.inside.members.newest here.placed.fit here.active due.through

-- ---- it is refused

pub invariant_of-moving-in-Some-refusal : goal.invariant_of-moving-in-Some-refusal
invariant_of-moving-in-Some-refusal g c =
    goes-on (c.moving.invariant.moves (ap (λ p. is_reshaping p.parts.members.newest) c.moving.view_is ∙ c.requires.active)).0 (
    let was = (c.moving.invariant.moves (ap (λ p. is_reshaping p.parts.members.newest) c.moving.view_is ∙ c.requires.active)).1 in
    let here = was.kept.members_are in
    let a = c.moving.inside in
    let given = g.B.Bank.given a.bank in
    let goes : IsCallGoing a.epoch.entries.items c.args.who = subst (λ p. IsCallGoing p.parts.entries c.args.who) (sym c.moving.view_is) c.requires.open in
    let some : 1 ≤ a.steps = subst (λ p. 1 ≤ p.parts.steps) (sym c.moving.view_is) c.requires.room in
    let due = subst (λ p. IsZeroDue p) (sym c.moving.view_is) c.requires.due in
    let synced : a.work.resync ≡ None = ap (λ p. p.parts.work.resync) c.moving.view_is ∙ c.requires.synced in
    let is = closed-at a.course due.zeroed due.is in
    let m = c.zero-done.new.members in
    let did = c.zero-done.ensures in
    let tape = g.B.Bank.tape a.bank in
    let tape' = g.B.Bank.tape c.zero-done.new.bank in
    let before = g.B.Bank.faults_of a.bank in
    let after = g.B.Bank.faults_of c.zero-done.new.bank in
    let roles = c.newly_unassigned-roles.result in
    let spares = c.zero-done.result.spares in
    let end = c.ops-end-2.result in
    let refusal = c.in-Some-refusal.refusal in
    let since = lost-since given a.members m c.len-count.result c.unassigned_roles-before.result roles spares before after here.placed did.keeps.moved did.keeps.failed
    (c.len-count.ensures ∙ here.backed.roles) c.unassigned_roles-before.ensures c.newly_unassigned-roles.ensures in
    let step = zero-step given a.members m tape tape' c.final_in-shape.result c.stripe_to_zero-stripe.result a.course.zeroed roles spares before after c.final_in-shape.ensures c.stripe_to_zero-stripe.ensures.value
    did.keeps.moved did.keeps.bank.grows since did.clean did.keeps.rise did.keeps.unused did.others did.safe in
    let kept = zero-refused a.course a.ahead c.args.who end roles spares is due.through synced was.kept (live-of was.kept c.in_default.ensures) goes c.requires.caller c.ops-end-2.ensures.count step refusal
    (many-of m c.zero-done.result.refusal refusal c.in-Some-refusal.is did.refused) in
    with-buffer (let len = (with_items a.buffer c.zero-done.new.scratch).ok.0 in let ok = a.buffer.ok.0 in omega (arith, len, ok, was.buffer_fits))
    (ready (entries_of c.args.who end (losses_of roles spares ++ Refused refusal ∷ [])) was did.keeps.bank.grows (shapes-moved given a.members m did.keeps.moved) kept
    refl did.keeps.bank.counts (behind-keeps c.args.who end roles spares (Refused refusal) (λ n. refl) (λ limit. refl)) (behind-whole tape' (scope_in given a.epoch.uuid a.epoch.given a.backup) a.epoch.first a.epoch.entries.items c.args.who end roles spares (Refused refusal) did.keeps.moved (missing-since roles did.keeps.moved since.vacant)) did.keeps.bank.same (scope-same given a.backup did.keeps.bank.same c.append_after_losses.ensures.uuid c.append_after_losses.ensures.given) c.append_after_losses.ensures.first refl c.append_after_losses.ensures.items
    (omega (arith, c.append_after_losses.ensures.room, was.room_left, some))))

pub returns-in-Some-refusal-clause-called : goal.returns-in-Some-refusal-clause-called
returns-in-Some-refusal-clause-called g c =
    let was = (c.moving.invariant.moves (ap (λ p. is_reshaping p.parts.members.newest) c.moving.view_is ∙ c.requires.active)).1 in
    let here = was.kept.members_are in
    let a = c.moving.inside in
    let given = g.B.Bank.given a.bank in
    let m = c.zero-done.new.members in
    let did = c.zero-done.ensures in
    let before = g.B.Bank.faults_of a.bank in
    let after = g.B.Bank.faults_of c.zero-done.new.bank in
    let roles = c.newly_unassigned-roles.result in
    let spares = c.zero-done.result.spares in
    let end = c.ops-end-2.result in
    let refusal = c.in-Some-refusal.refusal in
    let since = lost-since given a.members m c.len-count.result c.unassigned_roles-before.result roles spares before after here.placed did.keeps.moved did.keeps.failed
    (c.len-count.ensures ∙ here.backed.roles) c.unassigned_roles-before.ensures c.newly_unassigned-roles.ensures in
    rw (← c.moving.view_is) (called did.keeps.bank.grows did.keeps.moved
    (ended-behind (g.B.Bank.tape c.zero-done.new.bank) c.append_after_losses.new.epoch.first a.epoch.entries.items c.args.who end (losses_of roles spares) (Refused refusal) c.append_after_losses.ensures.items c.ops-end-2.ensures.count)
    (losses-behind a.members m before after a.epoch.entries.items a.epoch.entries.items c.append_after_losses.new.epoch.entries.items c.args.who end roles spares (Refused refusal) since tt refl c.append_after_losses.ensures.items)
    did.keeps.bank.counts
    (record { uuid = c.append_after_losses.ensures.uuid; given = c.append_after_losses.ensures.given; first = c.append_after_losses.ensures.first; backup = refl; work = refl; ahead = refl; limit = refl })
    (λ t. (was.kept.recorded t).begun))

pub returns-in-Some-refusal-clause-caused : goal.returns-in-Some-refusal-clause-caused
returns-in-Some-refusal-clause-caused g c =
    let a = c.moving.inside in
    let m = c.zero-done.new.members in
    let refusal = c.in-Some-refusal.refusal in
    let many = many-of m c.zero-done.result.refusal refusal c.in-Some-refusal.is c.zero-done.ensures.refused in
    rw (← c.moving.view_is) (refused-for (list_length a.members.newest) 0 AreTooMany a.members m refusal (too-many-of m refusal many) (omega arith) many)

-- ---- it is done

pub overflow_add-moving : goal.overflow_add-moving
overflow_add-moving g c =
    let newest = c.moving.inside.members.newest in
    let at = c.stripe_to_zero-stripe.ensures.value in
    let past = c.stripe_to_zero-stripe.ensures.stripe.1 in
    let less = div-le_self newest.size (final_shape newest).chunk in
    let short = fit-short newest (alike c.moving.invariant).kept.members_are.placed.fit in
    omega (arith, at, past, less, short)

pub invariant_of-moving-2 : goal.invariant_of-moving-2
invariant_of-moving-2 g c =
    goes-on (c.moving.invariant.moves (ap (λ p. is_reshaping p.parts.members.newest) c.moving.view_is ∙ c.requires.active)).0 (
    let was = (c.moving.invariant.moves (ap (λ p. is_reshaping p.parts.members.newest) c.moving.view_is ∙ c.requires.active)).1 in
    let here = was.kept.members_are in
    let a = c.moving.inside in
    let given = g.B.Bank.given a.bank in
    let goes : IsCallGoing a.epoch.entries.items c.args.who = subst (λ p. IsCallGoing p.parts.entries c.args.who) (sym c.moving.view_is) c.requires.open in
    let some : 1 ≤ a.steps = subst (λ p. 1 ≤ p.parts.steps) (sym c.moving.view_is) c.requires.room in
    let due = subst (λ p. IsZeroDue p) (sym c.moving.view_is) c.requires.due in
    let synced : a.work.resync ≡ None = ap (λ p. p.parts.work.resync) c.moving.view_is ∙ c.requires.synced in
    let is = closed-at a.course due.zeroed due.is in
    let at : a.course.zeroed ≡ due.zeroed = ap (λ (k : Course). k.zeroed) due.is in
    let most = due.more in
    let more : a.course.zeroed < zeroed_by a.members.newest = omega (arith, at, most) in
    let m = c.zero-done.new.members in
    let did = c.zero-done.ensures in
    let tape = g.B.Bank.tape a.bank in
    let tape' = g.B.Bank.tape c.zero-done.new.bank in
    let before = g.B.Bank.faults_of a.bank in
    let after = g.B.Bank.faults_of c.zero-done.new.bank in
    let roles = c.newly_unassigned-roles.result in
    let spares = c.zero-done.result.spares in
    let end = c.ops-end-2.result in
    let left = c.left_in_reshape-left.result in
    let since = lost-since given a.members m c.len-count.result c.unassigned_roles-before.result roles spares before after here.placed did.keeps.moved did.keeps.failed
    (c.len-count.ensures ∙ here.backed.roles) c.unassigned_roles-before.ensures c.newly_unassigned-roles.ensures in
    let step = zero-step given a.members m tape tape' c.final_in-shape.result c.stripe_to_zero-stripe.result a.course.zeroed roles spares before after c.final_in-shape.ensures c.stripe_to_zero-stripe.ensures.value
    did.keeps.moved did.keeps.bank.grows since did.clean did.keeps.rise did.keeps.unused did.others did.safe in
    let kept = zero-done a.course a.ahead c.args.who end roles spares is due.through synced was.kept (live-of was.kept c.in_default.ensures) goes c.requires.caller c.ops-end-2.ensures.count step left c.left_in_reshape-left.ensures more
    (rows-zeroed given a.members m tape' c.final_in-shape.result c.stripe_to_zero-stripe.result a.course.zeroed c.final_in-shape.ensures c.stripe_to_zero-stripe.ensures.value (did.stands c.in_default-refusal.is)) in
    with-buffer (let len = (with_items a.buffer c.zero-done.new.scratch).ok.0 in let ok = a.buffer.ok.0 in omega (arith, len, ok, was.buffer_fits))
    (ready (entries_of c.args.who end (losses_of roles spares ++ Step ZeroesStripe left ∷ [])) was did.keeps.bank.grows (shapes-moved given a.members m did.keeps.moved) kept
    refl did.keeps.bank.counts (behind-keeps c.args.who end roles spares (Step ZeroesStripe left) (λ n. refl) (λ limit. refl)) (behind-whole tape' (scope_in given a.epoch.uuid a.epoch.given a.backup) a.epoch.first a.epoch.entries.items c.args.who end roles spares (Step ZeroesStripe left) did.keeps.moved (missing-since roles did.keeps.moved since.vacant)) did.keeps.bank.same (scope-same given a.backup did.keeps.bank.same c.append_after_losses-2.ensures.uuid c.append_after_losses-2.ensures.given) c.append_after_losses-2.ensures.first refl c.append_after_losses-2.ensures.items
    (omega (arith, c.append_after_losses-2.ensures.room, was.room_left, some))))

pub returns-clause-called : goal.returns-clause-called
returns-clause-called g c =
    let was = (c.moving.invariant.moves (ap (λ p. is_reshaping p.parts.members.newest) c.moving.view_is ∙ c.requires.active)).1 in
    let here = was.kept.members_are in
    let a = c.moving.inside in
    let given = g.B.Bank.given a.bank in
    let m = c.zero-done.new.members in
    let did = c.zero-done.ensures in
    let before = g.B.Bank.faults_of a.bank in
    let after = g.B.Bank.faults_of c.zero-done.new.bank in
    let roles = c.newly_unassigned-roles.result in
    let spares = c.zero-done.result.spares in
    let end = c.ops-end-2.result in
    let event = Step ZeroesStripe c.left_in_reshape-left.result in
    let since = lost-since given a.members m c.len-count.result c.unassigned_roles-before.result roles spares before after here.placed did.keeps.moved did.keeps.failed
    (c.len-count.ensures ∙ here.backed.roles) c.unassigned_roles-before.ensures c.newly_unassigned-roles.ensures in
    rw (← c.moving.view_is) (called did.keeps.bank.grows did.keeps.moved
    (ended-behind (g.B.Bank.tape c.zero-done.new.bank) c.append_after_losses-2.new.epoch.first a.epoch.entries.items c.args.who end (losses_of roles spares) event c.append_after_losses-2.ensures.items c.ops-end-2.ensures.count)
    (losses-behind a.members m before after a.epoch.entries.items a.epoch.entries.items c.append_after_losses-2.new.epoch.entries.items c.args.who end roles spares event since tt refl c.append_after_losses-2.ensures.items)
    did.keeps.bank.counts
    (record { uuid = c.append_after_losses-2.ensures.uuid; given = c.append_after_losses-2.ensures.given; first = c.append_after_losses-2.ensures.first; backup = refl; work = refl; ahead = refl; limit = refl })
    (λ t. (was.kept.recorded t).begun))

-- ---- what the searches would find too, for longer

pub check_going-requires : goal.check_going-requires
check_going-requires g c = subst (λ p. IsCallGoing p.parts.entries c.args.who) (sym c.moving.view_is) c.requires.open

pub append_entry-requires-clause-number : goal.append_entry-requires-clause-number
append_entry-requires-clause-number g c = c.check_going.ensures

pub returns-in-Some-clause-clean : goal.returns-in-Some-clause-clean
returns-in-Some-clause-clean g c = ap (λ p. is_clean p.parts.members.newest) c.moving.view_is

pub returns-in-Some-clause-caused : goal.returns-in-Some-clause-caused
returns-in-Some-clause-caused g c =
    let a = c.moving.inside in
    let refusal = c.in-Some.refusal in
    rw (← c.moving.view_is) (refused-for (list_length a.members.newest) 0 AreTooMany a.members a.members refusal (too-many-of a.members refusal c.in-Some.ensures) zero-le c.in-Some.ensures)

pub returns-in-Some-clause-course : goal.returns-in-Some-clause-course
returns-in-Some-clause-course g c = ap (λ p. p.course) c.moving.view_is

pub returns-in-Some-clause-room : goal.returns-in-Some-clause-room
returns-in-Some-clause-room g c = one-fewer c.moving.inside.steps c.args.moving.now.parts.steps (ap (λ p. p.parts.steps) c.moving.view_is) c.requires.room

pub returns-in-Some-clause-given : goal.returns-in-Some-clause-given
returns-in-Some-clause-given g c = ap (λ p. g.B.Bank.given p.parts.bank) c.moving.view_is

pub stripe_to_zero-stripe-requires-clause-zeroed : goal.stripe_to_zero-stripe-requires-clause-zeroed
stripe_to_zero-stripe-requires-clause-zeroed g c =
    let due = subst (λ p. IsZeroDue p) (sym c.moving.view_is) c.requires.due in
    subst (λ (k : Course). k.zeroed < zeroed_by c.moving.inside.members.newest) (sym due.is) due.more

pub zero-done-requires-clause-stands : goal.zero-done-requires-clause-stands
zero-done-requires-clause-stands g c =
    record {
      slots = (alike c.moving.invariant).kept.slots;
      placed = (alike c.moving.invariant).kept.members_are.placed;
      unlost = (alike c.moving.invariant).kept.members_are.unlost;
      free = (alike c.moving.invariant).kept.members_are.free;
    }

pub zero-done-requires-clause-shape : goal.zero-done-requires-clause-shape
zero-done-requires-clause-shape g c = c.final_in-shape.ensures

pub zero-done-requires-clause-scratch : goal.zero-done-requires-clause-scratch
zero-done-requires-clause-scratch g c =
    scratch-for (length c.moving.inside.buffer.items) (length c.as_mut_slice.result.now) (ap (λ (l : List ℕ). length l) c.as_mut_slice.ensures.value) (alike c.moving.invariant).buffer_fits

pub newly_unassigned-roles-requires-clause-known : goal.newly_unassigned-roles-requires-clause-known
newly_unassigned-roles-requires-clause-known g c =
    roles-moved (g.B.Bank.given c.moving.inside.bank) c.moving.inside.members c.zero-done.new.members c.zero-done.ensures.keeps.moved c.len-count.result c.len-count.ensures (alike c.moving.invariant).kept.members_are.placed.roles

pub append_after_losses-requires-clause-room : goal.append_after_losses-requires-clause-room
append_after_losses-requires-clause-room g c =
    room-behind c.moving.inside.steps c.args.moving.now.parts.steps c.moving.inside.epoch.entries.room (ap (λ p. p.parts.steps) c.moving.view_is) c.requires.room (alike c.moving.invariant).room_left

pub append_after_losses-requires-clause-number : goal.append_after_losses-requires-clause-number
append_after_losses-requires-clause-number g c = c.check_going.ensures

pub returns-in-Some-refusal-clause-entered : goal.returns-in-Some-refusal-clause-entered
returns-in-Some-refusal-clause-entered g c =
    rw (← c.moving.view_is) (record { roles = c.newly_unassigned-roles.result; spares = c.zero-done.result.spares; end = c.ops-end-2.result; is = c.append_after_losses.ensures.items })

pub returns-in-Some-refusal-clause-clean : goal.returns-in-Some-refusal-clause-clean
returns-in-Some-refusal-clause-clean g c = c.zero-done.ensures.clean ∙ ap (λ p. is_clean p.parts.members.newest) c.moving.view_is

pub returns-in-Some-refusal-clause-course : goal.returns-in-Some-refusal-clause-course
returns-in-Some-refusal-clause-course g c = ap (λ p. p.course) c.moving.view_is

pub returns-in-Some-refusal-clause-room : goal.returns-in-Some-refusal-clause-room
returns-in-Some-refusal-clause-room g c = one-fewer c.moving.inside.steps c.args.moving.now.parts.steps (ap (λ p. p.parts.steps) c.moving.view_is) c.requires.room

pub returns-in-Some-refusal-clause-given : goal.returns-in-Some-refusal-clause-given
returns-in-Some-refusal-clause-given g c = c.zero-done.ensures.keeps.bank.same ∙ ap (λ p. g.B.Bank.given p.parts.bank) c.moving.view_is

pub left_in_reshape-left-requires-clause-fit : goal.left_in_reshape-left-requires-clause-fit
left_in_reshape-left-requires-clause-fit g c = c.zero-done.ensures.keeps.moved.placed.fit

pub left_in_reshape-left-requires-clause-reshape : goal.left_in_reshape-left-requires-clause-reshape
left_in_reshape-left-requires-clause-reshape g c =
    under-way-moved (g.B.Bank.given c.moving.inside.bank) c.moving.inside.members c.zero-done.new.members c.zero-done.ensures.keeps.moved (c.moving.invariant.moves (ap (λ p. is_reshaping p.parts.members.newest) c.moving.view_is ∙ c.requires.active)).1.kept.members_are.active

pub left_in_reshape-left-requires-clause-open : goal.left_in_reshape-left-requires-clause-open
left_in_reshape-left-requires-clause-open g c =
    let due = subst (λ p. IsZeroDue p) (sym c.moving.view_is) c.requires.due in
    subst (λ (k : Course). IsWindowRight c.zero-done.new.members.newest k.window) (sym due.is) tt

pub left_in_reshape-left-requires-clause-zeroed : goal.left_in_reshape-left-requires-clause-zeroed
left_in_reshape-left-requires-clause-zeroed g c =
    let due = subst (λ p. IsZeroDue p) (sym c.moving.view_is) c.requires.due in
    zeroed-moved (g.B.Bank.given c.moving.inside.bank) c.moving.inside.members c.zero-done.new.members c.zero-done.ensures.keeps.moved (c.moving.inside.course.zeroed + 1)
    (next-within c.moving.inside.course.zeroed _ (subst (λ (k : Course). k.zeroed < zeroed_by c.moving.inside.members.newest) (sym due.is) due.more))

pub left_in_reshape-left-requires-clause-sound : goal.left_in_reshape-left-requires-clause-sound
left_in_reshape-left-requires-clause-sound g c =
    sound-moved (g.B.Bank.given c.moving.inside.bank) c.moving.inside.members c.zero-done.new.members c.zero-done.ensures.keeps.moved (phases_of c.moving.inside.ahead) (c.moving.invariant.moves (ap (λ p. is_reshaping p.parts.members.newest) c.moving.view_is ∙ c.requires.active)).1.planned

pub append_after_losses-requires-2-clause-room : goal.append_after_losses-requires-2-clause-room
append_after_losses-requires-2-clause-room g c =
    room-behind c.moving.inside.steps c.args.moving.now.parts.steps c.moving.inside.epoch.entries.room (ap (λ p. p.parts.steps) c.moving.view_is) c.requires.room (alike c.moving.invariant).room_left

pub append_after_losses-requires-2-clause-number : goal.append_after_losses-requires-2-clause-number
append_after_losses-requires-2-clause-number g c = c.check_going.ensures

pub returns-clause-entered : goal.returns-clause-entered
returns-clause-entered g c =
    rw (← c.moving.view_is) (taken-behind c.args.who c.ops-end-2.result c.newly_unassigned-roles.result c.zero-done.result.spares ZeroesStripe c.left_in_reshape-left.result _ c.left_in_reshape-left.ensures c.append_after_losses-2.ensures.items)

pub returns-clause-clean : goal.returns-clause-clean
returns-clause-clean g c = c.zero-done.ensures.clean ∙ ap (λ p. is_clean p.parts.members.newest) c.moving.view_is

pub returns-clause-caused : goal.returns-clause-caused
returns-clause-caused g c = rw (← c.moving.view_is) (zero-le, λ refusal many. never-both c.moving.inside.members refusal c.in_default.ensures many)

pub returns-clause-left : goal.returns-clause-left
returns-clause-left g c =
    let a = c.moving.inside in
    let due = subst (λ p. IsZeroDue p) (sym c.moving.view_is) c.requires.due in
    rw (← c.moving.view_is) (zero-left (g.B.Bank.given c.moving.inside.bank) a.members c.zero-done.new.members a.work.resync a.course a.ahead c.zero-done.ensures.keeps.moved (c.moving.invariant.moves (ap (λ p. is_reshaping p.parts.members.newest) c.moving.view_is ∙ c.requires.active)).1.kept.members_are.active (closed-at a.course due.zeroed due.is)
    (subst (λ (k : Course). k.zeroed < zeroed_by c.moving.inside.members.newest) (sym due.is) due.more))

pub returns-clause-zeroed : goal.returns-clause-zeroed
returns-clause-zeroed g c =
    let a = c.moving.inside in
    let due = subst (λ p. IsZeroDue p) (sym c.moving.view_is) c.requires.due in
    rw (← c.moving.view_is) (ap (λ (k : Course). record k { zeroed = a.course.zeroed + 1 }) (closed-at a.course due.zeroed due.is))

pub returns-clause-room : goal.returns-clause-room
returns-clause-room g c = one-fewer c.moving.inside.steps c.args.moving.now.parts.steps (ap (λ p. p.parts.steps) c.moving.view_is) c.requires.room

pub returns-clause-given : goal.returns-clause-given
returns-clause-given g c = c.zero-done.ensures.keeps.bank.same ∙ ap (λ p. g.B.Bank.given p.parts.bank) c.moving.view_is

pub zero-done-requires-clause-stripe : goal.zero-done-requires-clause-stripe
zero-done-requires-clause-stripe g c =
    let n = c.moving.inside.members.newest in
    subst (λ (s : Shape). IsPastStripe s n.size (list_length n) c.stripe_to_zero-stripe.result) (sym c.final_in-shape.ensures) c.stripe_to_zero-stripe.ensures.stripe

pub returns-in-Some-clause-active : goal.returns-in-Some-clause-active
returns-in-Some-clause-active g c = (ap (λ p. is_reshaping p.parts.members.newest) c.moving.view_is ∙ c.requires.active)

pub returns-in-Some-refusal-clause-active : goal.returns-in-Some-refusal-clause-active
returns-in-Some-refusal-clause-active g c = c.zero-done.ensures.keeps.moved.reshape.reshaping ∙ (ap (λ p. is_reshaping p.parts.members.newest) c.moving.view_is ∙ c.requires.active)

pub returns-clause-active : goal.returns-clause-active
returns-clause-active g c = c.zero-done.ensures.keeps.moved.reshape.reshaping ∙ (ap (λ p. is_reshaping p.parts.members.newest) c.moving.view_is ∙ c.requires.active)
