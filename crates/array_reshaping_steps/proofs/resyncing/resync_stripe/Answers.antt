use Rattle.std.proofs.Common.{◌≡◌, ◌≤◌, [], ◌∷◌, ◌++◌, None, Some, refl, sym, ◌∙◌, subst, arith, ap}
use Rattle.std.specs.Prelude.{⊤}
use Rattle.array_type.proofs.sb_specs_ValidFields.{few-roles}
use Rattle.array_type.specs.history_the_Event_TheVariants.{Refused, Step}
use Rattle.array_type.specs.history_the_StepKind_TheVariants.{ResyncStripe as ResyncsStripe}
use Rattle.array_type.specs.history_Plain.{entries_of}
use Rattle.array_type.specs.crash_views_Regions.{DoWithout}
use Rattle.array_type.proofs.array_members_LackingLaws.{lost-since}
use Rattle.array_type.proofs.array_members_MovedLaws.{grows-none, moved-same}
use Rattle.array_type.specs.array_members_Numbers.{bears}
use Rattle.array_type.specs.history_append_Losing.{losses_of}
use Rattle.array_type.specs.array_call_specs_Kept.{scope_in}
use Rattle.array_type.proofs.array_call_specs_LossLaws.{losses-behind, ended-behind, behind-alone}
use Rattle.array_type.proofs.array_call_specs_ReadyLaws.{scope-same}
use Rattle.array_type.specs.history_invariant_Recorded.{IsCallGoing}
use Rattle.array_type.specs.stripe_region_resync_Resyncs.{resync_shape, refusal_of_resync, IsNotSynced}
use Rattle.array_type.proofs.array_reshaping_invariant_Steps.{missing-since}
use Rattle.array_type.proofs.array_reshaping_resync_laws_Resync.{untried-moves}
use Rattle.array_type.specs.array_specs_Parts.{left_in}
use Rattle.array_type.specs.array_reshaping_laws_Resyncing.{IsResyncDue}
use Rattle.array_type.specs.array_reshaping_laws_Ready.{bytes_in}
use Rattle.array_type.proofs.array_specs_Called.{not_254, called, alone-lossless}
use Rattle.array_type.proofs.array_reshaping_laws_Kept.{ready, ready-with, shapes-same, shapes-moved, behind-keeps, behind-whole}
use Rattle.array_type.proofs.array_reshaping_laws_ResyncLaws.{next-of, aside-right, with-buffers, mends-short, not-mended-for, mendable-for, first-for, one-more, refused-why, done-why, mend-step, mend-refused, mend-done, mend-left, was-dirty}
use Rattle.array_type.specs.sb_specs_Reading.{is_clean, is_reshaping}
use Rattle.array_type.specs.reshape_request_Left.{phases_of}
use Rattle.array_type.proofs.array_specs_Lengths.{alone-keeps}
use Rattle.array_type.proofs.StepLaws.{one-fewer, room-behind, taken-behind, under-way-moved, zeroed-moved, sound-moved, roles-moved}
use Rattle.array_type.proofs.Alike.{alike, goes-on}
use Rattle.array_reshaping_steps.proofs.resyncing.resync_stripe.Goals as goal

-- ---- the stripe

pub first_resync_refusal-requires-clause-pending : goal.first_resync_refusal-requires-clause-pending
first_resync_refusal-requires-clause-pending g c =
    (next-of _ c.unwrap_or-stripes.result (subst (λ p. IsResyncDue p) (sym c.moving.view_is) c.requires.due) c.unwrap_or-stripes.ensures).1

-- ---- refused before anything is done

pub invariant_of-moving : goal.invariant_of-moving
invariant_of-moving g c =
    goes-on (c.moving.invariant.moves (ap (λ p. is_reshaping p.parts.members.newest) c.moving.view_is ∙ c.requires.active)).0 (
    let was = (c.moving.invariant.moves (ap (λ p. is_reshaping p.parts.members.newest) c.moving.view_is ∙ c.requires.active)).1 in
    let a = c.moving.inside in
    let given = g.B.Bank.given a.bank in
    let scope = scope_in given a.epoch.uuid a.epoch.given a.backup in
    let goes : IsCallGoing a.epoch.entries.items c.args.who = subst (λ p. IsCallGoing p.parts.entries c.args.who) (sym c.moving.view_is) c.requires.open in
    let some : 1 ≤ a.steps = subst (λ p. 1 ≤ p.parts.steps) (sym c.moving.view_is) c.requires.room in
    let next = next-of _ c.unwrap_or-stripes.result (subst (λ p. IsResyncDue p) (sym c.moving.view_is) c.requires.due) c.unwrap_or-stripes.ensures in
    let end = c.ops-end.result in
    let refusal = c.in-Some.refusal in
    let kept = untried-moves g.B.Bank.tells given (g.B.Bank.tape a.bank) scope a.epoch.first a.epoch.entries.items a.members (bears a.work) a.work.resync a.course (bytes_in a.course.window a.window.items) (left_in a.work a.members a.course a.ahead)
    c.args.who end c.unwrap_or-stripes.result refusal was.kept goes (not_254 c.args.who.caller c.requires.caller) c.ops-end.ensures.count next.0 next.1 c.in-Some.ensures.why in
    ready (entries_of c.args.who end (Refused refusal ∷ [])) was (grows-none (λ t. refl)) (shapes-same a.members.newest) kept
    refl (λ slot. omega arith) (alone-keeps c.args.who end (Refused refusal) (λ n. refl) (λ limit. refl)) (λ none whole. whole) refl (scope-same given a.backup refl c.append_entry.ensures.uuid c.append_entry.ensures.given) c.append_entry.ensures.first refl c.append_entry.ensures.items
    (omega (arith, c.append_entry.ensures.room, was.room_left, some)))

pub returns-in-Some-clause-entered : goal.returns-in-Some-clause-entered
returns-in-Some-clause-entered g c =
    rw (← c.moving.view_is) (behind-alone c.args.who c.ops-end.result (Refused c.in-Some.refusal) refl c.append_entry.ensures.items)

pub returns-in-Some-clause-called : goal.returns-in-Some-clause-called
returns-in-Some-clause-called g c =
    let was = (alike c.moving.invariant) in
    let a = c.moving.inside in
    let given = g.B.Bank.given a.bank in
    let faults = g.B.Bank.faults_of a.bank in
    let end = c.ops-end.result in
    let refusal = c.in-Some.refusal in
    rw (← c.moving.view_is) (called (grows-none (λ t. refl)) (moved-same given given a.members a.members refl refl was.kept.members_are.placed was.kept.members_are.unlost)
    (ended-behind (g.B.Bank.tape a.bank) c.append_entry.new.epoch.first a.epoch.entries.items c.args.who end [] (Refused refusal) c.append_entry.ensures.items c.ops-end.ensures.count)
    (alone-lossless a.members faults faults a.epoch.entries.items a.epoch.entries.items c.append_entry.new.epoch.entries.items c.args.who end (Refused refusal) tt refl c.append_entry.ensures.items)
    (λ slot. omega arith)
    (record { uuid = c.append_entry.ensures.uuid; given = c.append_entry.ensures.given; first = c.append_entry.ensures.first; backup = refl; work = refl; ahead = refl; limit = refl })
    (λ t. (was.kept.recorded t).begun))

pub returns-in-Some-clause-caused : goal.returns-in-Some-clause-caused
returns-in-Some-clause-caused g c =
    let a = c.moving.inside in
    let next = next-of _ c.unwrap_or-stripes.result (subst (λ p. IsResyncDue p) (sym c.moving.view_is) c.requires.due) c.unwrap_or-stripes.ensures in
    rw (← c.moving.view_is) (not-mended-for a.members.newest a.members a.members c.in-Some.refusal a.work.resync c.unwrap_or-stripes.result next.0 c.in-Some.ensures.why)

pub returns-in-Some-clause-first : goal.returns-in-Some-clause-first
returns-in-Some-clause-first g c =
    let a = c.moving.inside in
    let next = next-of _ c.unwrap_or-stripes.result (subst (λ p. IsResyncDue p) (sym c.moving.view_is) c.requires.due) c.unwrap_or-stripes.ensures in
    rw (← c.moving.view_is) (first-for a.members.newest a.members (Some c.in-Some.refusal) a.work.resync c.unwrap_or-stripes.result next.0 (sym c.in-Some.ensures.first))

-- ---- the roles

pub overflow_cast-count : goal.overflow_cast-count
overflow_cast-count g c =
    let members = (c.moving.invariant.moves (ap (λ p. is_reshaping p.parts.members.newest) c.moving.view_is ∙ c.requires.active)).1.kept.members_are in
    let few = few-roles c.moving.inside.members.newest members.placed.fit.valid in
    let roles = members.backed.roles in
    let long = c.len-count.ensures in
    omega (arith, few, roles, long)

pub unassigned_roles-before-requires-clause-few : goal.unassigned_roles-before-requires-clause-few
unassigned_roles-before-requires-clause-few g c =
    let members = (c.moving.invariant.moves (ap (λ p. is_reshaping p.parts.members.newest) c.moving.view_is ∙ c.requires.active)).1.kept.members_are in
    let few = few-roles c.moving.inside.members.newest members.placed.fit.valid in
    let roles = members.backed.roles in
    let long = c.len-count.ensures in
    omega (arith, few, roles, long)

pub newly_unassigned-roles-requires-clause-few : goal.newly_unassigned-roles-requires-clause-few
newly_unassigned-roles-requires-clause-few g c =
    let members = (c.moving.invariant.moves (ap (λ p. is_reshaping p.parts.members.newest) c.moving.view_is ∙ c.requires.active)).1.kept.members_are in
    let few = few-roles c.moving.inside.members.newest members.placed.fit.valid in
    let roles = members.backed.roles in
    let long = c.len-count.ensures in
    omega (arith, few, roles, long)

-- ---- the stripe is mended

pub resync_list-mended-requires-clause-pending : goal.resync_list-mended-requires-clause-pending
resync_list-mended-requires-clause-pending g c =
    (next-of _ c.unwrap_or-stripes.result (subst (λ p. IsResyncDue p) (sym c.moving.view_is) c.requires.due) c.unwrap_or-stripes.ensures).1

pub resync_list-mended-requires-clause-dirty : goal.resync_list-mended-requires-clause-dirty
resync_list-mended-requires-clause-dirty g c =
    let a = c.moving.inside in
    let next = next-of _ c.unwrap_or-stripes.result (subst (λ p. IsResyncDue p) (sym c.moving.view_is) c.requires.due) c.unwrap_or-stripes.ensures in
    was-dirty c.unwrap_or-stripes.result (c.moving.invariant.moves (ap (λ p. is_reshaping p.parts.members.newest) c.moving.view_is ∙ c.requires.active)).1.kept next.0 c.in_default.ensures.why

-- ---- it is refused

pub invariant_of-moving-in-Some-refusal : goal.invariant_of-moving-in-Some-refusal
invariant_of-moving-in-Some-refusal g c =
    goes-on (c.moving.invariant.moves (ap (λ p. is_reshaping p.parts.members.newest) c.moving.view_is ∙ c.requires.active)).0 (
    let was = (c.moving.invariant.moves (ap (λ p. is_reshaping p.parts.members.newest) c.moving.view_is ∙ c.requires.active)).1 in
    let here = was.kept.members_are in
    let a = c.moving.inside in
    let given = g.B.Bank.given a.bank in
    let goes : IsCallGoing a.epoch.entries.items c.args.who = subst (λ p. IsCallGoing p.parts.entries c.args.who) (sym c.moving.view_is) c.requires.open in
    let some : 1 ≤ a.steps = subst (λ p. 1 ≤ p.parts.steps) (sym c.moving.view_is) c.requires.room in
    let due = subst (λ p. IsResyncDue p) (sym c.moving.view_is) c.requires.due in
    let stripes = c.unwrap_or-stripes.result in
    let next = next-of _ stripes due c.unwrap_or-stripes.ensures in
    let m = c.resync_list-mended.new.members in
    let did = c.resync_list-mended.ensures in
    let tape = g.B.Bank.tape a.bank in
    let tape' = g.B.Bank.tape c.resync_list-mended.new.bank in
    let before = g.B.Bank.faults_of a.bank in
    let after = g.B.Bank.faults_of c.resync_list-mended.new.bank in
    let roles = c.newly_unassigned-roles.result in
    let spares = c.resync_list-mended.result.spares in
    let end = c.ops-end-2.result in
    let refusal = c.in-Some-refusal.refusal in
    let since = lost-since given a.members m c.len-count.result c.unassigned_roles-before.result roles spares before after here.placed did.keeps.moved did.keeps.failed
    (c.len-count.ensures ∙ here.backed.roles) c.unassigned_roles-before.ensures c.newly_unassigned-roles.ensures in
    let step = mend-step given a.members m tape tape' stripes roles spares before after did.keeps.moved did.keeps.bank.grows since did.dirty did.keeps.rise did.keeps.unused did.others did.kept did.stands did.tail did.ends did.safe in
    let kept = mend-refused a.work a.course a.ahead c.args.who end roles spares stripes next.0 next.1 due.aside was.kept c.in_default.ensures.why goes c.requires.caller c.ops-end-2.ensures.count step refusal
    (refused-why (IsNotSynced (resync_shape a.members.newest stripes) m) (DoWithout m) c.resync_list-mended.result.refusal refusal c.in-Some-refusal.is did.refused) in
    with-buffers (omega (arith, was.rows_fit, did.rows)) (rw did.buffer was.buffer_fits)
    (ready (entries_of c.args.who end (losses_of roles spares ++ Refused refusal ∷ [])) was did.keeps.bank.grows (shapes-moved given a.members m did.keeps.moved) kept
    refl did.keeps.bank.counts (behind-keeps c.args.who end roles spares (Refused refusal) (λ n. refl) (λ limit. refl)) (behind-whole tape' (scope_in given a.epoch.uuid a.epoch.given a.backup) a.epoch.first a.epoch.entries.items c.args.who end roles spares (Refused refusal) did.keeps.moved (missing-since roles did.keeps.moved since.vacant)) did.keeps.bank.same (scope-same given a.backup did.keeps.bank.same c.append_after_losses.ensures.uuid c.append_after_losses.ensures.given) c.append_after_losses.ensures.first refl c.append_after_losses.ensures.items
    (omega (arith, c.append_after_losses.ensures.room, was.room_left, some))))

pub returns-in-Some-refusal-clause-called : goal.returns-in-Some-refusal-clause-called
returns-in-Some-refusal-clause-called g c =
    let was = (c.moving.invariant.moves (ap (λ p. is_reshaping p.parts.members.newest) c.moving.view_is ∙ c.requires.active)).1 in
    let here = was.kept.members_are in
    let a = c.moving.inside in
    let given = g.B.Bank.given a.bank in
    let m = c.resync_list-mended.new.members in
    let did = c.resync_list-mended.ensures in
    let before = g.B.Bank.faults_of a.bank in
    let after = g.B.Bank.faults_of c.resync_list-mended.new.bank in
    let roles = c.newly_unassigned-roles.result in
    let spares = c.resync_list-mended.result.spares in
    let end = c.ops-end-2.result in
    let refusal = c.in-Some-refusal.refusal in
    let since = lost-since given a.members m c.len-count.result c.unassigned_roles-before.result roles spares before after here.placed did.keeps.moved did.keeps.failed
    (c.len-count.ensures ∙ here.backed.roles) c.unassigned_roles-before.ensures c.newly_unassigned-roles.ensures in
    rw (← c.moving.view_is) (called did.keeps.bank.grows did.keeps.moved
    (ended-behind (g.B.Bank.tape c.resync_list-mended.new.bank) c.append_after_losses.new.epoch.first a.epoch.entries.items c.args.who end (losses_of roles spares) (Refused refusal) c.append_after_losses.ensures.items c.ops-end-2.ensures.count)
    (losses-behind a.members m before after a.epoch.entries.items a.epoch.entries.items c.append_after_losses.new.epoch.entries.items c.args.who end roles spares (Refused refusal) since tt refl c.append_after_losses.ensures.items)
    did.keeps.bank.counts
    (record { uuid = c.append_after_losses.ensures.uuid; given = c.append_after_losses.ensures.given; first = c.append_after_losses.ensures.first; backup = refl; work = refl; ahead = refl; limit = refl })
    (λ t. (was.kept.recorded t).begun))

pub returns-in-Some-refusal-clause-caused : goal.returns-in-Some-refusal-clause-caused
returns-in-Some-refusal-clause-caused g c =
    let a = c.moving.inside in
    let next = next-of _ c.unwrap_or-stripes.result (subst (λ p. IsResyncDue p) (sym c.moving.view_is) c.requires.due) c.unwrap_or-stripes.ensures in
    let m = c.resync_list-mended.new.members in
    rw (← c.moving.view_is) (not-mended-for a.members.newest a.members m c.in-Some-refusal.refusal a.work.resync c.unwrap_or-stripes.result next.0
    (refused-why (IsNotSynced (resync_shape a.members.newest c.unwrap_or-stripes.result) m) (DoWithout m) c.resync_list-mended.result.refusal c.in-Some-refusal.refusal c.in-Some-refusal.is c.resync_list-mended.ensures.refused))

pub returns-in-Some-refusal-clause-first : goal.returns-in-Some-refusal-clause-first
returns-in-Some-refusal-clause-first g c =
    let a = c.moving.inside in
    let next = next-of _ c.unwrap_or-stripes.result (subst (λ p. IsResyncDue p) (sym c.moving.view_is) c.requires.due) c.unwrap_or-stripes.ensures in
    let m = c.resync_list-mended.new.members in
    rw (← c.moving.view_is) (first-for a.members.newest m (Some c.in-Some-refusal.refusal) a.work.resync c.unwrap_or-stripes.result next.0
    (refused-why (λ refusal. refusal_of_resync (resync_shape a.members.newest c.unwrap_or-stripes.result) m ≡ Some refusal) ⊤ c.resync_list-mended.result.refusal c.in-Some-refusal.refusal c.in-Some-refusal.is c.resync_list-mended.ensures.first))

pub returns-in-Some-refusal-clause-clean : goal.returns-in-Some-refusal-clause-clean
returns-in-Some-refusal-clause-clean g c =
    let a = c.moving.inside in
    let next = next-of _ c.unwrap_or-stripes.result (subst (λ p. IsResyncDue p) (sym c.moving.view_is) c.requires.due) c.unwrap_or-stripes.ensures in
    rw (← c.moving.view_is) (c.resync_list-mended.ensures.dirty ∙ sym (was-dirty c.unwrap_or-stripes.result (c.moving.invariant.moves (ap (λ p. is_reshaping p.parts.members.newest) c.moving.view_is ∙ c.requires.active)).1.kept next.0 c.in_default.ensures.why))

-- ---- it is done

pub overflow_add-moving : goal.overflow_add-moving
overflow_add-moving g c =
    let a = c.moving.inside in
    let next = next-of _ c.unwrap_or-stripes.result (subst (λ p. IsResyncDue p) (sym c.moving.view_is) c.requires.due) c.unwrap_or-stripes.ensures in
    let short = mends-short a.members.newest (alike c.moving.invariant).kept.members_are.placed.fit in
    let below = next.1 in
    omega (arith, below, short)

pub left_in_reshape-left-requires-clause-open : goal.left_in_reshape-left-requires-clause-open
left_in_reshape-left-requires-clause-open g c =
    let a = c.moving.inside in
    let due = subst (λ p. IsResyncDue p) (sym c.moving.view_is) c.requires.due in
    aside-right c.resync_list-mended.new.members.newest a.course.window due.aside

pub invariant_of-moving-2 : goal.invariant_of-moving-2
invariant_of-moving-2 g c =
    goes-on (c.moving.invariant.moves (ap (λ p. is_reshaping p.parts.members.newest) c.moving.view_is ∙ c.requires.active)).0 (
    let was = (c.moving.invariant.moves (ap (λ p. is_reshaping p.parts.members.newest) c.moving.view_is ∙ c.requires.active)).1 in
    let here = was.kept.members_are in
    let a = c.moving.inside in
    let given = g.B.Bank.given a.bank in
    let goes : IsCallGoing a.epoch.entries.items c.args.who = subst (λ p. IsCallGoing p.parts.entries c.args.who) (sym c.moving.view_is) c.requires.open in
    let some : 1 ≤ a.steps = subst (λ p. 1 ≤ p.parts.steps) (sym c.moving.view_is) c.requires.room in
    let due = subst (λ p. IsResyncDue p) (sym c.moving.view_is) c.requires.due in
    let stripes = c.unwrap_or-stripes.result in
    let next = next-of _ stripes due c.unwrap_or-stripes.ensures in
    let m = c.resync_list-mended.new.members in
    let did = c.resync_list-mended.ensures in
    let tape = g.B.Bank.tape a.bank in
    let tape' = g.B.Bank.tape c.resync_list-mended.new.bank in
    let before = g.B.Bank.faults_of a.bank in
    let after = g.B.Bank.faults_of c.resync_list-mended.new.bank in
    let roles = c.newly_unassigned-roles.result in
    let spares = c.resync_list-mended.result.spares in
    let end = c.ops-end-2.result in
    let left = c.left_in_reshape-left.result in
    let since = lost-since given a.members m c.len-count.result c.unassigned_roles-before.result roles spares before after here.placed did.keeps.moved did.keeps.failed
    (c.len-count.ensures ∙ here.backed.roles) c.unassigned_roles-before.ensures c.newly_unassigned-roles.ensures in
    let step = mend-step given a.members m tape tape' stripes roles spares before after did.keeps.moved did.keeps.bank.grows since did.dirty did.keeps.rise did.keeps.unused did.others did.kept did.stands did.tail did.ends did.safe in
    let kept = mend-done a.work a.course a.ahead c.args.who end roles spares stripes next.0 next.1 due.aside was.kept c.in_default.ensures.why goes c.requires.caller c.ops-end-2.ensures.count step
    left c.left_in_reshape-left.ensures
    (done-why (IsNotSynced (resync_shape a.members.newest stripes) m) (DoWithout m) c.resync_list-mended.result.refusal c.in_default-refusal.is did.refused) (did.mended c.in_default-refusal.is) in
    with-buffers (omega (arith, was.rows_fit, did.rows)) (rw did.buffer was.buffer_fits)
    (ready-with (entries_of c.args.who end (losses_of roles spares ++ Step ResyncsStripe left ∷ [])) was did.keeps.bank.grows (shapes-moved given a.members m did.keeps.moved) kept
    refl did.keeps.bank.counts (behind-keeps c.args.who end roles spares (Step ResyncsStripe left) (λ n. refl) (λ limit. refl)) (behind-whole tape' (scope_in given a.epoch.uuid a.epoch.given a.backup) a.epoch.first a.epoch.entries.items c.args.who end roles spares (Step ResyncsStripe left) did.keeps.moved (missing-since roles did.keeps.moved since.vacant)) did.keeps.bank.same (scope-same given a.backup did.keeps.bank.same c.append_after_losses-2.ensures.uuid c.append_after_losses-2.ensures.given) c.append_after_losses-2.ensures.first refl c.append_after_losses-2.ensures.items
    (omega (arith, c.append_after_losses-2.ensures.room, was.room_left, some))))

pub returns-clause-called : goal.returns-clause-called
returns-clause-called g c =
    let was = (c.moving.invariant.moves (ap (λ p. is_reshaping p.parts.members.newest) c.moving.view_is ∙ c.requires.active)).1 in
    let here = was.kept.members_are in
    let a = c.moving.inside in
    let given = g.B.Bank.given a.bank in
    let m = c.resync_list-mended.new.members in
    let did = c.resync_list-mended.ensures in
    let before = g.B.Bank.faults_of a.bank in
    let after = g.B.Bank.faults_of c.resync_list-mended.new.bank in
    let roles = c.newly_unassigned-roles.result in
    let spares = c.resync_list-mended.result.spares in
    let end = c.ops-end-2.result in
    let event = Step ResyncsStripe c.left_in_reshape-left.result in
    let since = lost-since given a.members m c.len-count.result c.unassigned_roles-before.result roles spares before after here.placed did.keeps.moved did.keeps.failed
    (c.len-count.ensures ∙ here.backed.roles) c.unassigned_roles-before.ensures c.newly_unassigned-roles.ensures in
    rw (← c.moving.view_is) (called did.keeps.bank.grows did.keeps.moved
    (ended-behind (g.B.Bank.tape c.resync_list-mended.new.bank) c.append_after_losses-2.new.epoch.first a.epoch.entries.items c.args.who end (losses_of roles spares) event c.append_after_losses-2.ensures.items c.ops-end-2.ensures.count)
    (losses-behind a.members m before after a.epoch.entries.items a.epoch.entries.items c.append_after_losses-2.new.epoch.entries.items c.args.who end roles spares event since tt refl c.append_after_losses-2.ensures.items)
    did.keeps.bank.counts
    (record { uuid = c.append_after_losses-2.ensures.uuid; given = c.append_after_losses-2.ensures.given; first = c.append_after_losses-2.ensures.first; backup = refl; work = refl; ahead = refl; limit = refl })
    (λ t. (was.kept.recorded t).begun))

pub returns-clause-work : goal.returns-clause-work
returns-clause-work g c =
    let a = c.moving.inside in
    let next = next-of _ c.unwrap_or-stripes.result (subst (λ p. IsResyncDue p) (sym c.moving.view_is) c.requires.due) c.unwrap_or-stripes.ensures in
    rw (← c.moving.view_is) (one-more a.work c.unwrap_or-stripes.result next.0)

pub returns-clause-left : goal.returns-clause-left
returns-clause-left g c =
    let was = (c.moving.invariant.moves (ap (λ p. is_reshaping p.parts.members.newest) c.moving.view_is ∙ c.requires.active)).1 in
    let a = c.moving.inside in
    let due = subst (λ p. IsResyncDue p) (sym c.moving.view_is) c.requires.due in
    let next = next-of _ c.unwrap_or-stripes.result due c.unwrap_or-stripes.ensures in
    rw (← c.moving.view_is) (mend-left (g.B.Bank.given a.bank) a.members c.resync_list-mended.new.members a.work a.course a.ahead c.unwrap_or-stripes.result was.kept.members_are.placed.fit was.kept.members_are.active next.0 next.1
    c.resync_list-mended.ensures.keeps.moved due.aside)

pub returns-clause-caused : goal.returns-clause-caused
returns-clause-caused g c =
    let a = c.moving.inside in
    let next = next-of _ c.unwrap_or-stripes.result (subst (λ p. IsResyncDue p) (sym c.moving.view_is) c.requires.due) c.unwrap_or-stripes.ensures in
    rw (← c.moving.view_is) (λ mended is. (omega arith, mendable-for a.members.newest a.members a.work.resync c.unwrap_or-stripes.result next.0 c.in_default.ensures.why (sym c.in_default.ensures.first) mended is))

pub returns-clause-first : goal.returns-clause-first
returns-clause-first g c =
    let a = c.moving.inside in
    let next = next-of _ c.unwrap_or-stripes.result (subst (λ p. IsResyncDue p) (sym c.moving.view_is) c.requires.due) c.unwrap_or-stripes.ensures in
    rw (← c.moving.view_is) (first-for a.members.newest a.members None a.work.resync c.unwrap_or-stripes.result next.0 (sym c.in_default.ensures.first))

pub returns-clause-clean : goal.returns-clause-clean
returns-clause-clean g c =
    let a = c.moving.inside in
    let next = next-of _ c.unwrap_or-stripes.result (subst (λ p. IsResyncDue p) (sym c.moving.view_is) c.requires.due) c.unwrap_or-stripes.ensures in
    rw (← c.moving.view_is) (c.resync_list-mended.ensures.dirty ∙ sym (was-dirty c.unwrap_or-stripes.result (c.moving.invariant.moves (ap (λ p. is_reshaping p.parts.members.newest) c.moving.view_is ∙ c.requires.active)).1.kept next.0 c.in_default.ensures.why))

-- ---- what the searches would find too, for longer

pub check_going-requires : goal.check_going-requires
check_going-requires g c = subst (λ p. IsCallGoing p.parts.entries c.args.who) (sym c.moving.view_is) c.requires.open

pub append_entry-requires-clause-number : goal.append_entry-requires-clause-number
append_entry-requires-clause-number g c = c.check_going.ensures

pub returns-in-Some-clause-clean : goal.returns-in-Some-clause-clean
returns-in-Some-clause-clean g c = ap (λ p. is_clean p.parts.members.newest) c.moving.view_is

pub returns-in-Some-clause-course : goal.returns-in-Some-clause-course
returns-in-Some-clause-course g c = ap (λ p. p.course) c.moving.view_is

pub returns-in-Some-clause-room : goal.returns-in-Some-clause-room
returns-in-Some-clause-room g c = one-fewer c.moving.inside.steps c.args.moving.now.parts.steps (ap (λ p. p.parts.steps) c.moving.view_is) c.requires.room

pub returns-in-Some-clause-given : goal.returns-in-Some-clause-given
returns-in-Some-clause-given g c = ap (λ p. g.B.Bank.given p.parts.bank) c.moving.view_is

pub resync_list-mended-requires-clause-stands : goal.resync_list-mended-requires-clause-stands
resync_list-mended-requires-clause-stands g c =
    record {
      slots = (alike c.moving.invariant).kept.slots;
      placed = (alike c.moving.invariant).kept.members_are.placed;
      unlost = (alike c.moving.invariant).kept.members_are.unlost;
      free = (alike c.moving.invariant).kept.members_are.free;
    }

pub newly_unassigned-roles-requires-clause-known : goal.newly_unassigned-roles-requires-clause-known
newly_unassigned-roles-requires-clause-known g c =
    roles-moved (g.B.Bank.given c.moving.inside.bank) c.moving.inside.members c.resync_list-mended.new.members c.resync_list-mended.ensures.keeps.moved c.len-count.result c.len-count.ensures (alike c.moving.invariant).kept.members_are.placed.roles

pub append_after_losses-requires-clause-room : goal.append_after_losses-requires-clause-room
append_after_losses-requires-clause-room g c =
    room-behind c.moving.inside.steps c.args.moving.now.parts.steps c.moving.inside.epoch.entries.room (ap (λ p. p.parts.steps) c.moving.view_is) c.requires.room (alike c.moving.invariant).room_left

pub append_after_losses-requires-clause-number : goal.append_after_losses-requires-clause-number
append_after_losses-requires-clause-number g c = c.check_going.ensures

pub returns-in-Some-refusal-clause-entered : goal.returns-in-Some-refusal-clause-entered
returns-in-Some-refusal-clause-entered g c =
    rw (← c.moving.view_is) (record { roles = c.newly_unassigned-roles.result; spares = c.resync_list-mended.result.spares; end = c.ops-end-2.result; is = c.append_after_losses.ensures.items })

pub returns-in-Some-refusal-clause-course : goal.returns-in-Some-refusal-clause-course
returns-in-Some-refusal-clause-course g c = ap (λ p. p.course) c.moving.view_is

pub returns-in-Some-refusal-clause-room : goal.returns-in-Some-refusal-clause-room
returns-in-Some-refusal-clause-room g c = one-fewer c.moving.inside.steps c.args.moving.now.parts.steps (ap (λ p. p.parts.steps) c.moving.view_is) c.requires.room

pub returns-in-Some-refusal-clause-given : goal.returns-in-Some-refusal-clause-given
returns-in-Some-refusal-clause-given g c = c.resync_list-mended.ensures.keeps.bank.same ∙ ap (λ p. g.B.Bank.given p.parts.bank) c.moving.view_is

pub left_in_reshape-left-requires-clause-fit : goal.left_in_reshape-left-requires-clause-fit
left_in_reshape-left-requires-clause-fit g c = c.resync_list-mended.ensures.keeps.moved.placed.fit

pub left_in_reshape-left-requires-clause-reshape : goal.left_in_reshape-left-requires-clause-reshape
left_in_reshape-left-requires-clause-reshape g c =
    under-way-moved (g.B.Bank.given c.moving.inside.bank) c.moving.inside.members c.resync_list-mended.new.members c.resync_list-mended.ensures.keeps.moved (c.moving.invariant.moves (ap (λ p. is_reshaping p.parts.members.newest) c.moving.view_is ∙ c.requires.active)).1.kept.members_are.active

pub left_in_reshape-left-requires-clause-zeroed : goal.left_in_reshape-left-requires-clause-zeroed
left_in_reshape-left-requires-clause-zeroed g c =
    zeroed-moved (g.B.Bank.given c.moving.inside.bank) c.moving.inside.members c.resync_list-mended.new.members c.resync_list-mended.ensures.keeps.moved c.moving.inside.course.zeroed (c.moving.invariant.moves (ap (λ p. is_reshaping p.parts.members.newest) c.moving.view_is ∙ c.requires.active)).1.kept.course_is.few

pub left_in_reshape-left-requires-clause-sound : goal.left_in_reshape-left-requires-clause-sound
left_in_reshape-left-requires-clause-sound g c =
    sound-moved (g.B.Bank.given c.moving.inside.bank) c.moving.inside.members c.resync_list-mended.new.members c.resync_list-mended.ensures.keeps.moved (phases_of c.moving.inside.ahead) (c.moving.invariant.moves (ap (λ p. is_reshaping p.parts.members.newest) c.moving.view_is ∙ c.requires.active)).1.planned

pub append_after_losses-requires-2-clause-room : goal.append_after_losses-requires-2-clause-room
append_after_losses-requires-2-clause-room g c =
    room-behind c.moving.inside.steps c.args.moving.now.parts.steps c.moving.inside.epoch.entries.room (ap (λ p. p.parts.steps) c.moving.view_is) c.requires.room (alike c.moving.invariant).room_left

pub append_after_losses-requires-2-clause-number : goal.append_after_losses-requires-2-clause-number
append_after_losses-requires-2-clause-number g c = c.check_going.ensures

pub returns-clause-entered : goal.returns-clause-entered
returns-clause-entered g c =
    rw (← c.moving.view_is) (taken-behind c.args.who c.ops-end-2.result c.newly_unassigned-roles.result c.resync_list-mended.result.spares ResyncsStripe c.left_in_reshape-left.result _ c.left_in_reshape-left.ensures c.append_after_losses-2.ensures.items)

pub returns-clause-course : goal.returns-clause-course
returns-clause-course g c = ap (λ p. p.course) c.moving.view_is

pub returns-clause-room : goal.returns-clause-room
returns-clause-room g c = one-fewer c.moving.inside.steps c.args.moving.now.parts.steps (ap (λ p. p.parts.steps) c.moving.view_is) c.requires.room

pub returns-clause-given : goal.returns-clause-given
returns-clause-given g c = c.resync_list-mended.ensures.keeps.bank.same ∙ ap (λ p. g.B.Bank.given p.parts.bank) c.moving.view_is

pub returns-in-Some-clause-active : goal.returns-in-Some-clause-active
returns-in-Some-clause-active g c = (ap (λ p. is_reshaping p.parts.members.newest) c.moving.view_is ∙ c.requires.active)

pub returns-in-Some-refusal-clause-active : goal.returns-in-Some-refusal-clause-active
returns-in-Some-refusal-clause-active g c = c.resync_list-mended.ensures.keeps.moved.reshape.reshaping ∙ (ap (λ p. is_reshaping p.parts.members.newest) c.moving.view_is ∙ c.requires.active)

pub returns-clause-active : goal.returns-clause-active
returns-clause-active g c = c.resync_list-mended.ensures.keeps.moved.reshape.reshaping ∙ (ap (λ p. is_reshaping p.parts.members.newest) c.moving.view_is ∙ c.requires.active)
