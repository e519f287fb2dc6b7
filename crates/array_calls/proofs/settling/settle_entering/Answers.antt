use Rattle.std.proofs.Common.{◌≡◌, [], ◌∷◌, ◌++◌, refl, sym, ◌∙◌, ap, arith, inl, List, subst, ℕ}
use Rattle.array_type.proofs.sb_specs_ValidFields.{few-roles}
use Rattle.array_type.specs.history_the_Event_TheVariants.{Refused}
use Rattle.array_type.specs.history_Flat.{next_number}
use Rattle.array_type.specs.history_Plain.{entries_of}
use Rattle.array_type.proofs.array_members_LackingLaws.{lost-since, never-both}
use Rattle.array_type.proofs.array_members_LiveLeft.{without-left}
use Rattle.array_type.proofs.array_members_MovedLaws.{grows-none, moved-same}
use Rattle.array_type.specs.history_append_Losing.{losses_of}
use Rattle.array_type.specs.array_call_specs_Kept.{scope_in}
use Rattle.array_type.proofs.array_call_specs_LossLaws.{losses-behind, ended-behind, behind-alone, settling-no-loss}
use Rattle.array_type.proofs.array_call_specs_ReadyLaws.{scope-same}
use Rattle.array_type.proofs.history_invariant_Records.{begins-going}
use Rattle.array_type.proofs.array_fixed_invariant_Flushing.{IsFlushedStill, unflushed-stands}
use Rattle.array_type.specs.array_specs_Parts.{visible_size, still_left, left_in}
use Rattle.array_type.proofs.array_specs_Called.{not_254, called, alone-lossless, risen-told, many-of}
use Rattle.array_type.proofs.array_specs_Lengths.{alone-keeps, behind-keeps}
use Rattle.array_type.proofs.array_fixed_laws_Asking.{many-alone}
use Rattle.array_type.proofs.array_fixed_laws_Kept.{ready, rows-same, rows-moved, roomier}
use Rattle.array_type.proofs.array_fixed_laws_Left.{left-alike}
use Rattle.array_type.proofs.array_fixed_laws_Settled.{settled-stands, left-settled, settling-keeps}
use Rattle.array_type.proofs.array_call_specs_DegradedLaws.{too-many-here}
use Rattle.array_type.proofs.array_fixed_laws_PlainBehind.{plain-refused, plain-settled, here-plain}
use Rattle.std.specs.Prelude.{is_some}
use Rattle.array_type.specs.sb_specs_Reading.{list_length}
use Rattle.array_type.specs.stripe_row_Rows.{reading_of, present}
use Rattle.array_type.specs.history_the_Entry.{Entry}
use Rattle.array_type.specs.array_members_Lacking.{AreHoldersFlushed, AreTooMany, HaveRolesFailed}
use Rattle.array_type.specs.array_members_Placed.{AreWhole}
use Rattle.array_type.specs.crash_safety_laws_Marking.{AreOthersPresent}
use Rattle.array_type.specs.array_call_specs_Calls.{IsRefusedFor}
use Rattle.array_type.proofs.array_call_specs_ReplyLaws.{refused-for, too-many-of}
use Rattle.array_type.proofs.array_call_laws_SettledLaws.{all-mended}
use Rattle.array_type.proofs.Rested.{count-moved, from-0, le-of, room-1, room-49}
use Rattle.array_type.proofs.Asked.{entries-alike, undone-called}
use Rattle.array_type.specs.history_invariant_Safe.{world_in}
use Rattle.array_type.specs.array_members_Numbers.{bears}
use Rattle.array_type.specs.array_reshaping_invariant_Moving.{IsMoving}
use Rattle.array_type.proofs.array_reshaping_invariant_Flushing.{flushed-moves, unflushed-moves, AreFlushed}
use Rattle.array_type.proofs.array_reshaping_invariant_Refusals.{quiet-refusal, refused-right}
use Rattle.array_type.proofs.array_reshaping_invariant_Resting.{resting-moves}
use Rattle.array_type.proofs.array_reshaping_invariant_Steps.{missing-since}
use Rattle.array_type.specs.array_reshaping_laws_Ready.{bytes_in}
use Rattle.array_type.proofs.array_reshaping_laws_Kept.{ready as r-ready, shapes-same, shapes-moved, left-moved, behind-keeps as r-behind-keeps, behind-whole, live-of, roomier as r-roomier}
use Rattle.array_type.proofs.array_reshaping_laws_Settled.{settling-long, settling-free, settles-so}
use Rattle.array_type.proofs.Rest.{on-both}
use Rattle.array_type.proofs.Alike.{alike, goes-on, stays-at-rest}
use Rattle.array_type.specs.sb_specs_Reading.{is_reshaping}
use Rattle.array_calls.proofs.settling.settle_entering.Goals as goal

pub overflow_cast-count : goal.overflow_cast-count
overflow_cast-count g c =
    let members = (alike c.array.invariant).kept.members_are in
    let few = few-roles c.array.inside.members.newest members.placed.fit.valid in
    let roles = members.placed.roles in
    let long = c.len-count.ensures in
    omega (arith, few, roles, long)

pub unassigned_roles-before-requires-clause-few : goal.unassigned_roles-before-requires-clause-few
unassigned_roles-before-requires-clause-few g c =
    let members = (alike c.array.invariant).kept.members_are in
    let few = few-roles c.array.inside.members.newest members.placed.fit.valid in
    let roles = members.placed.roles in
    let long = c.len-count.ensures in
    omega (arith, few, roles, long)

pub newly_unassigned-roles-requires-clause-few : goal.newly_unassigned-roles-requires-clause-few
newly_unassigned-roles-requires-clause-few g c =
    let members = (alike c.array.invariant).kept.members_are in
    let few = few-roles c.array.inside.members.newest members.placed.fit.valid in
    let roles = members.placed.roles in
    let long = c.len-count.ensures in
    omega (arith, few, roles, long)

-- ---- too many are missing

pub invariant_of-array-in-Some : goal.invariant_of-array-in-Some
invariant_of-array-in-Some g c =
    on-both (is_reshaping c.array.inside.members.newest)
    (λ active. goes-on (c.array.invariant.moves active).0 (
    let was = (c.array.invariant.moves active).1 in
    let a = c.array.inside in
    let given = g.B.Bank.given a.bank in
    let scope = scope_in given a.epoch.uuid a.epoch.given a.backup in
    let number : c.args.who.number ≡ next_number c.args.who.caller a.epoch.entries.items = c.requires.next ∙ ap (λ p. next_number c.args.who.caller p.parts.entries) (sym c.array.view_is) in
    let tape = g.B.Bank.tape a.bank in
    let end = c.ops-end.result in
    let refusal = c.in-Some.refusal in
    let kept = resting-moves g.B.Bank.tells given tape scope a.epoch.first a.epoch.entries.items a.members (bears a.work) a.work.resync a.course (bytes_in a.course.window a.window.items) (left_in a.work a.members a.course a.ahead)
    c.args.who end (Refused refusal) was.kept (begins-going a.epoch.entries.items c.args.who number) (not_254 c.args.who.caller c.requires.caller) c.ops-end.ensures.count (quiet-refusal refusal) (λ told is. is)
    (λ t right. refused-right (world_in given tape scope a.epoch.first) a.epoch.entries.items given a.members was.kept.members_are.placed (was.kept.gone t right) (was.kept.levelled t right) refusal c.in-Some.ensures) in
    r-ready (entries_of c.args.who end (Refused refusal ∷ [])) was (grows-none (λ t. refl)) (shapes-same a.members.newest) kept
    refl (λ slot. omega arith) (alone-keeps c.args.who end (Refused refusal) (λ n. refl) (λ limit. refl)) (λ none whole. whole) refl (scope-same given a.backup refl c.append_entry.ensures.uuid c.append_entry.ensures.given) c.append_entry.ensures.first c.make_room.ensures.items c.append_entry.ensures.items
    (omega (arith, c.append_entry.ensures.room, c.in-Ok.ensures.ok))))
    (λ still. stays-at-rest (c.array.invariant.rests still).0 (
    let was = (c.array.invariant.rests still).1 in
    let a = c.array.inside in
    let given = g.B.Bank.given a.bank in
    let number : c.args.who.number ≡ next_number c.args.who.caller a.epoch.entries.items = c.requires.next ∙ ap (λ p. next_number c.args.who.caller p.parts.entries) (sym c.array.view_is) in
    let end = c.ops-end.result in
    let refusal = c.in-Some.refusal in
    ready (entries_of c.args.who end (Refused refusal ∷ [])) was (rows-same a.members.newest)
    (many-alone c.args.who end was.kept number c.requires.caller c.ops-end.ensures.count refusal c.in-Some.ensures)
    (here-plain was c.args.who end (begins-going a.epoch.entries.items c.args.who number) c.requires.caller c.ops-end.ensures.count (grows-none (λ t. refl)) refusal
    (too-many-here (visible_size a.members a.limit) a.work.resync a.members refusal c.in-Some.ensures))
    (λ slot. omega arith) (alone-keeps c.args.who end (Refused refusal) (λ n. refl) (λ limit. refl))
    refl (scope-same given a.backup refl c.append_entry.ensures.uuid c.append_entry.ensures.given) c.append_entry.ensures.first c.make_room.ensures.items c.append_entry.ensures.items
    (omega (arith, c.append_entry.ensures.room, c.in-Ok.ensures.ok))))

pub returns-in-Some-clause-answered : goal.returns-in-Some-clause-answered
returns-in-Some-clause-answered g c =
    rw (← c.array.view_is) (behind-alone c.args.who c.ops-end.result (Refused c.in-Some.refusal) c.make_room.ensures.items c.append_entry.ensures.items)

pub returns-in-Some-clause-called : goal.returns-in-Some-clause-called
returns-in-Some-clause-called g c =
    let was = (alike c.array.invariant) in
    let a = c.array.inside in
    let given = g.B.Bank.given a.bank in
    let faults = g.B.Bank.faults_of a.bank in
    let end = c.ops-end.result in
    let refusal = c.in-Some.refusal in
    rw (← c.array.view_is) (called (grows-none (λ t. refl)) (moved-same given given a.members a.members refl refl was.kept.members_are.placed was.kept.members_are.unlost)
    (ended-behind (g.B.Bank.tape a.bank) c.append_entry.new.epoch.first c.make_room.new.self.items c.args.who end [] (Refused refusal) c.append_entry.ensures.items c.ops-end.ensures.count)
    (alone-lossless a.members faults faults a.epoch.entries.items c.make_room.new.self.items c.append_entry.new.epoch.entries.items c.args.who end (Refused refusal) tt c.make_room.ensures.items c.append_entry.ensures.items)
    (λ slot. omega arith)
    (record { uuid = c.append_entry.ensures.uuid; given = c.append_entry.ensures.given; first = c.append_entry.ensures.first; backup = refl; work = refl; ahead = refl; limit = refl })
    (λ t. (was.kept.recorded t).begun))

-- ---- it is refused behind what it lost

pub invariant_of-array-in-Some-refusal : goal.invariant_of-array-in-Some-refusal
invariant_of-array-in-Some-refusal g c =
    on-both (is_reshaping c.array.inside.members.newest)
    (λ active. goes-on (c.array.invariant.moves active).0 (
    let was = (c.array.invariant.moves active).1 in
    let a = c.array.inside in
    let given = g.B.Bank.given a.bank in
    let scope = scope_in given a.epoch.uuid a.epoch.given a.backup in
    let number : c.args.who.number ≡ next_number c.args.who.caller a.epoch.entries.items = c.requires.next ∙ ap (λ p. next_number c.args.who.caller p.parts.entries) (sym c.array.view_is) in
    let m = c.flush_and_mark-settled.new.members in
    let did = c.flush_and_mark-settled.ensures in
    let tape = g.B.Bank.tape a.bank in
    let tape' = g.B.Bank.tape c.flush_and_mark-settled.new.bank in
    let roles = c.newly_unassigned-roles.result in
    let spares = c.flush_and_mark-settled.result.spares in
    let end = c.ops-end-2.result in
    let refusal = c.in-Some-refusal.refusal in
    let since = lost-since given a.members m c.len-count.result c.unassigned_roles-before.result roles spares (g.B.Bank.faults_of a.bank) (g.B.Bank.faults_of c.flush_and_mark-settled.new.bank) was.kept.members_are.placed did.keeps.moved did.keeps.failed
    (c.len-count.ensures ∙ was.kept.members_are.backed.roles) c.unassigned_roles-before.ensures c.newly_unassigned-roles.ensures in
    let flushed : AreFlushed g.B.Bank.tells given tape tape' a.members m roles c.is_some.result =
    record {
      moved = did.keeps.moved;
      few = few-roles m.newest did.keeps.moved.placed.fit.valid;
      since = missing-since roles did.keeps.moved since.vacant;
      stays = did.stays;
      rise = risen-told did.keeps.rise;
      others = did.others;
      unused = did.keeps.unused;
      safe = did.safe;
    } in
    let kept = unflushed-moves g.B.Bank.tells given tape tape' scope a.epoch.first a.epoch.entries.items a.members m (bears a.work) a.work.resync a.course (bytes_in a.course.window a.window.items) (left_in a.work a.members a.course a.ahead)
    c.args.who end roles spares c.is_some.result was.kept (live-of was.kept c.in_default.ensures) (begins-going a.epoch.entries.items c.args.who number) (not_254 c.args.who.caller c.requires.caller) c.ops-end-2.ensures.count did.keeps.bank.grows flushed c.is_some.ensures refusal
    (many-of m c.flush_and_mark-settled.result.refusal refusal c.in-Some-refusal.is did.refused) in
    r-ready (entries_of c.args.who end (losses_of roles spares ++ Refused refusal ∷ [])) was did.keeps.bank.grows (shapes-moved given a.members m did.keeps.moved)
    (subst (λ (left : ℕ). IsMoving g.B.Bank.tells given tape' scope a.epoch.first (a.epoch.entries.items ++ entries_of c.args.who end (losses_of roles spares ++ Refused refusal ∷ [])) m (bears a.work) a.work.resync a.course (bytes_in a.course.window a.window.items) left)
    (sym (left-moved given a.members m a.work.resync a.course a.ahead did.keeps.moved)) kept)
    refl did.keeps.bank.counts (r-behind-keeps c.args.who end roles spares (Refused refusal) (λ n. refl) (λ limit. refl)) (behind-whole tape' (scope_in given a.epoch.uuid a.epoch.given a.backup) a.epoch.first a.epoch.entries.items c.args.who end roles spares (Refused refusal) did.keeps.moved (missing-since roles did.keeps.moved since.vacant)) did.keeps.bank.same (scope-same given a.backup did.keeps.bank.same c.append_after_losses.ensures.uuid c.append_after_losses.ensures.given) c.append_after_losses.ensures.first c.make_room.ensures.items c.append_after_losses.ensures.items
    (omega (arith, c.append_after_losses.ensures.room, c.in-Ok.ensures.ok))))
    (λ still. stays-at-rest (c.array.invariant.rests still).0 (
    let was = (c.array.invariant.rests still).1 in
    let here = was.kept.members_are in
    let a = c.array.inside in
    let given = g.B.Bank.given a.bank in
    let scope = scope_in given a.epoch.uuid a.epoch.given a.backup in
    let number : c.args.who.number ≡ next_number c.args.who.caller a.epoch.entries.items = c.requires.next ∙ ap (λ p. next_number c.args.who.caller p.parts.entries) (sym c.array.view_is) in
    let m = c.flush_and_mark-settled.new.members in
    let did = c.flush_and_mark-settled.ensures in
    let tape = g.B.Bank.tape a.bank in
    let tape' = g.B.Bank.tape c.flush_and_mark-settled.new.bank in
    let before = g.B.Bank.faults_of a.bank in
    let after = g.B.Bank.faults_of c.flush_and_mark-settled.new.bank in
    let roles = c.newly_unassigned-roles.result in
    let spares = c.flush_and_mark-settled.result.spares in
    let end = c.ops-end-2.result in
    let refusal = c.in-Some-refusal.refusal in
    let left = still_left a.work a.members a.ahead in
    let left' = still_left a.work m a.ahead in
    let since = lost-since given a.members m c.len-count.result c.unassigned_roles-before.result roles spares before after here.placed did.keeps.moved did.keeps.failed
    (c.len-count.ensures ∙ here.placed.roles) c.unassigned_roles-before.ensures c.newly_unassigned-roles.ensures in
    let flushed : IsFlushedStill g.B.Bank.tells given tape tape' a.members m roles spares before after c.is_some.result =
    record { moved = did.keeps.moved; since = since; grows = did.keeps.bank.grows; rise = risen-told did.keeps.rise; others = did.others; safe = did.safe } in
    ready (entries_of c.args.who end (losses_of roles spares ++ Refused refusal ∷ [])) was (rows-moved given a.members m did.keeps.moved)
    (unflushed-stands g.B.Bank.tells given tape tape' scope a.epoch.first a.epoch.entries.items a.members m a.work left c.args.who end roles spares before after c.is_some.result was.kept
    (without-left given a.members here.placed here.unlost c.in_default.ensures) (begins-going a.epoch.entries.items c.args.who number) (not_254 c.args.who.caller c.requires.caller) c.ops-end-2.ensures.count
    (all-mended a.members a.work.resync c.is_some.result c.is_some.ensures) flushed left' refusal (many-of m c.flush_and_mark-settled.result.refusal refusal c.in-Some-refusal.is did.refused)
    (left-alike a.work a.ahead roles spares before after did.keeps.moved since))
    (plain-refused was c.args.who end (begins-going a.epoch.entries.items c.args.who number) c.requires.caller c.ops-end-2.ensures.count did.keeps.bank.grows did.keeps.moved since refusal
    (too-many-here (visible_size a.members a.limit) a.work.resync m refusal (many-of m c.flush_and_mark-settled.result.refusal refusal c.in-Some-refusal.is did.refused)))
    did.keeps.bank.counts (behind-keeps c.args.who end roles spares (Refused refusal ∷ []) (alone-keeps c.args.who end (Refused refusal) (λ n. refl) (λ limit. refl)))
    did.keeps.bank.same (scope-same given a.backup did.keeps.bank.same c.append_after_losses.ensures.uuid c.append_after_losses.ensures.given) c.append_after_losses.ensures.first c.make_room.ensures.items c.append_after_losses.ensures.items
    (omega (arith, c.append_after_losses.ensures.room, c.in-Ok.ensures.ok))))

pub returns-in-Some-refusal-clause-called : goal.returns-in-Some-refusal-clause-called
returns-in-Some-refusal-clause-called g c =
    let was = (alike c.array.invariant) in
    let here = was.kept.members_are in
    let a = c.array.inside in
    let given = g.B.Bank.given a.bank in
    let m = c.flush_and_mark-settled.new.members in
    let did = c.flush_and_mark-settled.ensures in
    let before = g.B.Bank.faults_of a.bank in
    let after = g.B.Bank.faults_of c.flush_and_mark-settled.new.bank in
    let roles = c.newly_unassigned-roles.result in
    let spares = c.flush_and_mark-settled.result.spares in
    let end = c.ops-end-2.result in
    let event = Refused c.in-Some-refusal.refusal in
    let since = lost-since given a.members m c.len-count.result c.unassigned_roles-before.result roles spares before after here.placed did.keeps.moved did.keeps.failed
    (c.len-count.ensures ∙ here.placed.roles) c.unassigned_roles-before.ensures c.newly_unassigned-roles.ensures in
    rw (← c.array.view_is) (called did.keeps.bank.grows did.keeps.moved
    (ended-behind (g.B.Bank.tape c.flush_and_mark-settled.new.bank) c.append_after_losses.new.epoch.first c.make_room.new.self.items c.args.who end (losses_of roles spares) event c.append_after_losses.ensures.items c.ops-end-2.ensures.count)
    (losses-behind a.members m before after a.epoch.entries.items c.make_room.new.self.items c.append_after_losses.new.epoch.entries.items c.args.who end roles spares event since tt c.make_room.ensures.items c.append_after_losses.ensures.items)
    did.keeps.bank.counts
    (record { uuid = c.append_after_losses.ensures.uuid; given = c.append_after_losses.ensures.given; first = c.append_after_losses.ensures.first; backup = refl; work = refl; ahead = refl; limit = refl })
    (λ t. (was.kept.recorded t).begun))

-- ---- it is done

pub invariant_of-array-2 : goal.invariant_of-array-2
invariant_of-array-2 g c =
    on-both (is_reshaping c.array.inside.members.newest)
    (λ active. goes-on (c.array.invariant.moves active).0 (
    let was = (c.array.invariant.moves active).1 in
    let a = c.array.inside in
    let given = g.B.Bank.given a.bank in
    let scope = scope_in given a.epoch.uuid a.epoch.given a.backup in
    let number : c.args.who.number ≡ next_number c.args.who.caller a.epoch.entries.items = c.requires.next ∙ ap (λ p. next_number c.args.who.caller p.parts.entries) (sym c.array.view_is) in
    let m = c.flush_and_mark-settled.new.members in
    let did = c.flush_and_mark-settled.ensures in
    let tape = g.B.Bank.tape a.bank in
    let tape' = g.B.Bank.tape c.flush_and_mark-settled.new.bank in
    let roles = c.newly_unassigned-roles.result in
    let spares = c.flush_and_mark-settled.result.spares in
    let end = c.ops-end-2.result in
    let since = lost-since given a.members m c.len-count.result c.unassigned_roles-before.result roles spares (g.B.Bank.faults_of a.bank) (g.B.Bank.faults_of c.flush_and_mark-settled.new.bank) was.kept.members_are.placed did.keeps.moved did.keeps.failed
    (c.len-count.ensures ∙ was.kept.members_are.backed.roles) c.unassigned_roles-before.ensures c.newly_unassigned-roles.ensures in
    let flushed : AreFlushed g.B.Bank.tells given tape tape' a.members m roles c.is_some.result =
    record {
      moved = did.keeps.moved;
      few = few-roles m.newest did.keeps.moved.placed.fit.valid;
      since = missing-since roles did.keeps.moved since.vacant;
      stays = did.stays;
      rise = risen-told did.keeps.rise;
      others = did.others;
      unused = did.keeps.unused;
      safe = did.safe;
    } in
    let kept = flushed-moves g.B.Bank.tells given tape tape' scope a.epoch.first a.epoch.entries.items a.members m (bears a.work) a.work.resync a.course (bytes_in a.course.window a.window.items) (left_in a.work a.members a.course a.ahead)
    c.args.who end roles spares c.is_some.result was.kept (live-of was.kept c.in_default.ensures) (begins-going a.epoch.entries.items c.args.who number) (not_254 c.args.who.caller c.requires.caller) c.ops-end-2.ensures.count did.keeps.bank.grows flushed c.is_some.ensures c.args.event (settles-so c.args.event c.requires.event)
    (record { clean = did.clean c.in_default-refusal.is; settled = did.settled c.in_default-refusal.is }) in
    r-ready (entries_of c.args.who end (losses_of roles spares ++ c.args.event ∷ [])) was did.keeps.bank.grows (shapes-moved given a.members m did.keeps.moved)
    (subst (λ (left : ℕ). IsMoving g.B.Bank.tells given tape' scope a.epoch.first (a.epoch.entries.items ++ entries_of c.args.who end (losses_of roles spares ++ c.args.event ∷ [])) m (bears a.work) a.work.resync a.course (bytes_in a.course.window a.window.items) left)
    (sym (left-moved given a.members m a.work.resync a.course a.ahead did.keeps.moved)) kept)
    refl did.keeps.bank.counts (r-behind-keeps c.args.who end roles spares c.args.event (settling-long c.args.event c.requires.event) (settling-free c.args.event c.requires.event)) (behind-whole tape' (scope_in given a.epoch.uuid a.epoch.given a.backup) a.epoch.first a.epoch.entries.items c.args.who end roles spares c.args.event did.keeps.moved (missing-since roles did.keeps.moved since.vacant)) did.keeps.bank.same (scope-same given a.backup did.keeps.bank.same c.append_after_losses-2.ensures.uuid c.append_after_losses-2.ensures.given) c.append_after_losses-2.ensures.first c.make_room.ensures.items c.append_after_losses-2.ensures.items
    (omega (arith, c.append_after_losses-2.ensures.room, c.in-Ok.ensures.ok))))
    (λ still. stays-at-rest (c.array.invariant.rests still).0 (
    let was = (c.array.invariant.rests still).1 in
    let here = was.kept.members_are in
    let a = c.array.inside in
    let given = g.B.Bank.given a.bank in
    let number : c.args.who.number ≡ next_number c.args.who.caller a.epoch.entries.items = c.requires.next ∙ ap (λ p. next_number c.args.who.caller p.parts.entries) (sym c.array.view_is) in
    let m = c.flush_and_mark-settled.new.members in
    let did = c.flush_and_mark-settled.ensures in
    let tape = g.B.Bank.tape a.bank in
    let tape' = g.B.Bank.tape c.flush_and_mark-settled.new.bank in
    let before = g.B.Bank.faults_of a.bank in
    let after = g.B.Bank.faults_of c.flush_and_mark-settled.new.bank in
    let roles = c.newly_unassigned-roles.result in
    let spares = c.flush_and_mark-settled.result.spares in
    let end = c.ops-end-2.result in
    let since = lost-since given a.members m c.len-count.result c.unassigned_roles-before.result roles spares before after here.placed did.keeps.moved did.keeps.failed
    (c.len-count.ensures ∙ here.placed.roles) c.unassigned_roles-before.ensures c.newly_unassigned-roles.ensures in
    let flushed : IsFlushedStill g.B.Bank.tells given tape tape' a.members m roles spares before after c.is_some.result =
    record { moved = did.keeps.moved; since = since; grows = did.keeps.bank.grows; rise = risen-told did.keeps.rise; others = did.others; safe = did.safe } in
    ready (entries_of c.args.who end (losses_of roles spares ++ c.args.event ∷ [])) was (rows-moved given a.members m did.keeps.moved)
    (settled-stands (still_left a.work m a.ahead) c.args.who end c.args.event c.requires.event was.kept (without-left given a.members here.placed here.unlost c.in_default.ensures)
    (begins-going a.epoch.entries.items c.args.who number) (not_254 c.args.who.caller c.requires.caller) c.ops-end-2.ensures.count c.is_some.ensures flushed
    (record { clean = did.clean c.in_default-refusal.is; stays = did.stays; settled = did.settled c.in_default-refusal.is })
    (left-alike a.work a.ahead roles spares before after did.keeps.moved since))
    (plain-settled was c.args.who end (begins-going a.epoch.entries.items c.args.who number) c.requires.caller c.ops-end-2.ensures.count did.keeps.bank.grows did.keeps.moved since c.args.event c.requires.event)
    did.keeps.bank.counts (behind-keeps c.args.who end roles spares (c.args.event ∷ []) (settling-keeps c.args.who end c.args.event c.requires.event))
    did.keeps.bank.same (scope-same given a.backup did.keeps.bank.same c.append_after_losses-2.ensures.uuid c.append_after_losses-2.ensures.given) c.append_after_losses-2.ensures.first c.make_room.ensures.items c.append_after_losses-2.ensures.items
    (omega (arith, c.append_after_losses-2.ensures.room, c.in-Ok.ensures.ok))))

pub returns-clause-called : goal.returns-clause-called
returns-clause-called g c =
    let was = (alike c.array.invariant) in
    let here = was.kept.members_are in
    let a = c.array.inside in
    let given = g.B.Bank.given a.bank in
    let m = c.flush_and_mark-settled.new.members in
    let did = c.flush_and_mark-settled.ensures in
    let before = g.B.Bank.faults_of a.bank in
    let after = g.B.Bank.faults_of c.flush_and_mark-settled.new.bank in
    let roles = c.newly_unassigned-roles.result in
    let spares = c.flush_and_mark-settled.result.spares in
    let end = c.ops-end-2.result in
    let since = lost-since given a.members m c.len-count.result c.unassigned_roles-before.result roles spares before after here.placed did.keeps.moved did.keeps.failed
    (c.len-count.ensures ∙ here.placed.roles) c.unassigned_roles-before.ensures c.newly_unassigned-roles.ensures in
    rw (← c.array.view_is) (called did.keeps.bank.grows did.keeps.moved
    (ended-behind (g.B.Bank.tape c.flush_and_mark-settled.new.bank) c.append_after_losses-2.new.epoch.first c.make_room.new.self.items c.args.who end (losses_of roles spares) c.args.event c.append_after_losses-2.ensures.items c.ops-end-2.ensures.count)
    (losses-behind a.members m before after a.epoch.entries.items c.make_room.new.self.items c.append_after_losses-2.new.epoch.entries.items c.args.who end roles spares c.args.event since
    (settling-no-loss a.members before after c.args.event c.requires.event) c.make_room.ensures.items c.append_after_losses-2.ensures.items)
    did.keeps.bank.counts
    (record { uuid = c.append_after_losses-2.ensures.uuid; given = c.append_after_losses-2.ensures.given; first = c.append_after_losses-2.ensures.first; backup = refl; work = refl; ahead = refl; limit = refl })
    (λ t. (was.kept.recorded t).begun))

pub returns-clause-left : goal.returns-clause-left
returns-clause-left g c =
    let here = (alike c.array.invariant).kept.members_are in
    let a = c.array.inside in
    let given = g.B.Bank.given a.bank in
    let m = c.flush_and_mark-settled.new.members in
    let did = c.flush_and_mark-settled.ensures in
    let before = g.B.Bank.faults_of a.bank in
    let after = g.B.Bank.faults_of c.flush_and_mark-settled.new.bank in
    let roles = c.newly_unassigned-roles.result in
    let spares = c.flush_and_mark-settled.result.spares in
    let since = lost-since given a.members m c.len-count.result c.unassigned_roles-before.result roles spares before after here.placed did.keeps.moved did.keeps.failed
    (c.len-count.ensures ∙ here.placed.roles) c.unassigned_roles-before.ensures c.newly_unassigned-roles.ensures in
    rw (← c.array.view_is) (λ t. left-settled given a.members m a.epoch.entries.items c.make_room.new.self.items c.append_after_losses-2.new.epoch.entries.items c.args.who c.ops-end-2.result roles spares c.args.event before after
    (g.B.Bank.tape c.flush_and_mark-settled.new.bank) here.placed did.keeps.moved (few-roles m.newest did.keeps.moved.placed.fit.valid) since c.make_room.ensures.items c.append_after_losses-2.ensures.items (did.flushed t))

pub returns-clause-caused : goal.returns-clause-caused
returns-clause-caused g c =
    rw (← c.array.view_is) (omega arith, λ refusal many. never-both c.array.inside.members refusal c.in_default.ensures many)

-- ---- what is handed down, and what is left of it

pub invariant_of-array : goal.invariant_of-array
invariant_of-array g c =
    on-both (is_reshaping c.array.inside.members.newest)
    (λ active. goes-on (c.array.invariant.moves active).0 (r-roomier (c.array.invariant.moves active).1 c.make_room.ensures.items c.make_room.ensures.keeps))
    (λ still. stays-at-rest (c.array.invariant.rests still).0 (roomier (c.array.invariant.rests still).1 c.make_room.ensures.items c.make_room.ensures.keeps))

pub returns-in-Err-clause-answered : goal.returns-in-Err-clause-answered
returns-in-Err-clause-answered g c =
    c.make_room.ensures.items ∙ ap (λ p. p.parts.entries) c.array.view_is

pub returns-in-Err-clause-unchanged : goal.returns-in-Err-clause-unchanged
returns-in-Err-clause-unchanged g c =
    entries-alike c.make_room.new.self.items c.array.view_is c.make_room.ensures.items

pub returns-in-Err-clause-called : goal.returns-in-Err-clause-called
returns-in-Err-clause-called g c =
    let kept = (alike c.array.invariant).kept in
    rw (← c.array.view_is) (undone-called kept.members_are.placed kept.members_are.unlost (λ t. (kept.recorded t).ended) (λ t. (kept.recorded t).begun) (entries-alike c.make_room.new.self.items refl c.make_room.ensures.items))

pub returns-in-Err-clause-whole : goal.returns-in-Err-clause-whole
returns-in-Err-clause-whole g c =
    subst (λ p. AreWhole c.array.inside.members → AreWhole p.parts.members) c.array.view_is (λ whole. whole)

pub returns-in-Err-clause-caused : goal.returns-in-Err-clause-caused
returns-in-Err-clause-caused g c =
    ap (λ p. p.parts.members) c.array.view_is

pub returns-in-Err-clause-failed : goal.returns-in-Err-clause-failed
returns-in-Err-clause-failed g c =
    let a = c.array.inside in
    subst (λ p. HaveRolesFailed p.parts.members a.members (g.B.Bank.faults_of p.parts.bank) (g.B.Bank.faults_of a.bank)) c.array.view_is (λ role slot held. inl held)

pub returns-in-Err-clause-given : goal.returns-in-Err-clause-given
returns-in-Err-clause-given g c =
    ap (λ p. g.B.Bank.given p.parts.bank) c.array.view_is

pub check_number-requires : goal.check_number-requires
check_number-requires g c =
    c.requires.next ∙ ap (λ p. next_number c.args.who.caller p.parts.entries) (sym c.array.view_is) ∙ ap (λ (l : List Entry). next_number c.args.who.caller l) (sym c.make_room.ensures.items)

pub append_entry-requires-clause-room : goal.append_entry-requires-clause-room
append_entry-requires-clause-room g c =
    room-1 c.make_room.new.self.room c.in-Ok.ensures.ok

pub append_entry-requires-clause-number : goal.append_entry-requires-clause-number
append_entry-requires-clause-number g c =
    c.check_number.ensures

pub returns-in-Some-clause-whole : goal.returns-in-Some-clause-whole
returns-in-Some-clause-whole g c =
    subst (λ p. AreWhole c.array.inside.members → AreWhole p.parts.members) c.array.view_is (λ whole. whole)

pub returns-in-Some-clause-others : goal.returns-in-Some-clause-others
returns-in-Some-clause-others g c =
    let a = c.array.inside in
    subst (λ p. g.B.Bank.tells → AreOthersPresent (present (g.B.Bank.given p.parts.bank) (g.B.Bank.tape p.parts.bank)) (present (g.B.Bank.given p.parts.bank) (g.B.Bank.tape a.bank))) c.array.view_is (λ t s k apart. refl)

pub returns-in-Some-clause-caused : goal.returns-in-Some-clause-caused
returns-in-Some-clause-caused g c =
    let m = c.array.inside.members in
    let refusal = c.in-Some.refusal in
    subst (λ p. IsRefusedFor (list_length p.parts.members.newest) 0 AreTooMany p.parts.members m refusal) c.array.view_is
    (refused-for (list_length m.newest) 0 AreTooMany m m refusal (too-many-of m refusal c.in-Some.ensures) (from-0 (list_length m.newest)) c.in-Some.ensures)

pub returns-in-Some-clause-failed : goal.returns-in-Some-clause-failed
returns-in-Some-clause-failed g c =
    let a = c.array.inside in
    subst (λ p. HaveRolesFailed p.parts.members a.members (g.B.Bank.faults_of p.parts.bank) (g.B.Bank.faults_of a.bank)) c.array.view_is (λ role slot held. inl held)

pub returns-in-Some-clause-given : goal.returns-in-Some-clause-given
returns-in-Some-clause-given g c =
    ap (λ p. g.B.Bank.given p.parts.bank) c.array.view_is

pub unassigned_roles-before-requires-clause-known : goal.unassigned_roles-before-requires-clause-known
unassigned_roles-before-requires-clause-known g c =
    le-of c.len-count.ensures

pub flush_and_mark-settled-requires : goal.flush_and_mark-settled-requires
flush_and_mark-settled-requires g c =
    record { stands = record { slots = (alike c.array.invariant).kept.slots; placed = (alike c.array.invariant).kept.members_are.placed; unlost = (alike c.array.invariant).kept.members_are.unlost; free = (alike c.array.invariant).kept.members_are.free } }

pub newly_unassigned-roles-requires-clause-known : goal.newly_unassigned-roles-requires-clause-known
newly_unassigned-roles-requires-clause-known g c =
    count-moved c.len-count.result (alike c.array.invariant).kept.members_are.placed c.flush_and_mark-settled.ensures.keeps.moved c.len-count.ensures

pub append_after_losses-requires-clause-room : goal.append_after_losses-requires-clause-room
append_after_losses-requires-clause-room g c =
    room-49 c.make_room.new.self.room c.in-Ok.ensures.ok

pub append_after_losses-requires-clause-number : goal.append_after_losses-requires-clause-number
append_after_losses-requires-clause-number g c =
    c.check_number.ensures

pub returns-in-Some-refusal-clause-answered : goal.returns-in-Some-refusal-clause-answered
returns-in-Some-refusal-clause-answered g c =
    let end = c.ops-end-2.result in
    let roles = c.newly_unassigned-roles.result in
    let spares = c.flush_and_mark-settled.result.spares in
    let refusal = c.in-Some-refusal.refusal in
    record {
      roles = roles;
      spares = spares;
      end = end;
      is = c.append_after_losses.ensures.items ∙ ap (λ (l : List Entry). l ++ entries_of c.args.who end (losses_of roles spares ++ Refused refusal ∷ [])) (c.make_room.ensures.items ∙ ap (λ p. p.parts.entries) c.array.view_is);
    }

pub returns-in-Some-refusal-clause-caused : goal.returns-in-Some-refusal-clause-caused
returns-in-Some-refusal-clause-caused g c =
    let a = c.array.inside in
    let m = c.flush_and_mark-settled.new.members in
    let refusal = c.in-Some-refusal.refusal in
    let many = many-of m c.flush_and_mark-settled.result.refusal refusal c.in-Some-refusal.is c.flush_and_mark-settled.ensures.refused in
    subst (λ p. IsRefusedFor (list_length p.parts.members.newest) 0 AreTooMany p.parts.members m refusal) c.array.view_is
    (refused-for (list_length a.members.newest) 0 AreTooMany a.members m refusal (too-many-of m refusal many) (from-0 (list_length a.members.newest)) many)

pub returns-in-Some-refusal-clause-given : goal.returns-in-Some-refusal-clause-given
returns-in-Some-refusal-clause-given g c =
    c.flush_and_mark-settled.ensures.keeps.bank.same ∙ ap (λ p. g.B.Bank.given p.parts.bank) c.array.view_is

pub append_after_losses-requires-2-clause-room : goal.append_after_losses-requires-2-clause-room
append_after_losses-requires-2-clause-room g c =
    room-49 c.make_room.new.self.room c.in-Ok.ensures.ok

pub append_after_losses-requires-2-clause-number : goal.append_after_losses-requires-2-clause-number
append_after_losses-requires-2-clause-number g c =
    c.check_number.ensures

pub returns-clause-answered : goal.returns-clause-answered
returns-clause-answered g c =
    let end = c.ops-end-2.result in
    let roles = c.newly_unassigned-roles.result in
    let spares = c.flush_and_mark-settled.result.spares in
    record {
      roles = roles;
      spares = spares;
      end = end;
      is = c.append_after_losses-2.ensures.items ∙ ap (λ (l : List Entry). l ++ entries_of c.args.who end (losses_of roles spares ++ c.args.event ∷ [])) (c.make_room.ensures.items ∙ ap (λ p. p.parts.entries) c.array.view_is);
    }

pub returns-clause-clean : goal.returns-clause-clean
returns-clause-clean g c =
    λ none. c.flush_and_mark-settled.ensures.clean c.in_default-refusal.is (c.is_some.ensures ∙ ap (λ p. is_some p.parts.work.resync) c.array.view_is ∙ ap is_some none)

pub returns-clause-last : goal.returns-clause-last
returns-clause-last g c =
    λ t. c.append_after_losses-2.ensures.last ∙ c.ops-end-2.ensures.count t

pub returns-clause-given : goal.returns-clause-given
returns-clause-given g c =
    c.flush_and_mark-settled.ensures.keeps.bank.same ∙ ap (λ p. g.B.Bank.given p.parts.bank) c.array.view_is

-- ---- what it leaves of the members

pub returns-in-Some-refusal-clause-others : goal.returns-in-Some-refusal-clause-others
returns-in-Some-refusal-clause-others g c =
    subst (λ p. g.B.Bank.tells → AreOthersPresent (present (g.B.Bank.given p.parts.bank) (g.B.Bank.tape p.parts.bank)) (present (g.B.Bank.given p.parts.bank) (g.B.Bank.tape c.flush_and_mark-settled.new.bank))) c.array.view_is c.flush_and_mark-settled.ensures.others

pub returns-in-Some-refusal-clause-failed : goal.returns-in-Some-refusal-clause-failed
returns-in-Some-refusal-clause-failed g c =
    subst (λ p. HaveRolesFailed p.parts.members c.flush_and_mark-settled.new.members (g.B.Bank.faults_of p.parts.bank) (g.B.Bank.faults_of c.flush_and_mark-settled.new.bank)) c.array.view_is c.flush_and_mark-settled.ensures.keeps.failed.roles

pub returns-in-Some-refusal-clause-whole : goal.returns-in-Some-refusal-clause-whole
returns-in-Some-refusal-clause-whole g c =
    subst (λ p. AreWhole c.flush_and_mark-settled.new.members → AreWhole p.parts.members) c.array.view_is c.flush_and_mark-settled.ensures.keeps.moved.whole

pub returns-clause-others : goal.returns-clause-others
returns-clause-others g c =
    subst (λ p. g.B.Bank.tells → AreOthersPresent (present (g.B.Bank.given p.parts.bank) (g.B.Bank.tape p.parts.bank)) (present (g.B.Bank.given p.parts.bank) (g.B.Bank.tape c.flush_and_mark-settled.new.bank))) c.array.view_is c.flush_and_mark-settled.ensures.others

pub returns-clause-failed : goal.returns-clause-failed
returns-clause-failed g c =
    subst (λ p. HaveRolesFailed p.parts.members c.flush_and_mark-settled.new.members (g.B.Bank.faults_of p.parts.bank) (g.B.Bank.faults_of c.flush_and_mark-settled.new.bank)) c.array.view_is c.flush_and_mark-settled.ensures.keeps.failed.roles

pub returns-clause-whole : goal.returns-clause-whole
returns-clause-whole g c =
    subst (λ p. AreWhole c.flush_and_mark-settled.new.members → AreWhole p.parts.members) c.array.view_is c.flush_and_mark-settled.ensures.keeps.moved.whole

pub returns-clause-flushed : goal.returns-clause-flushed
returns-clause-flushed g c =
    subst (λ p. g.B.Bank.tells → AreHoldersFlushed (reading_of c.flush_and_mark-settled.new.members) (g.B.Bank.given p.parts.bank) (g.B.Bank.tape c.flush_and_mark-settled.new.bank)) c.array.view_is c.flush_and_mark-settled.ensures.flushed

pub returns-in-Err-clause-course : goal.returns-in-Err-clause-course
returns-in-Err-clause-course g c =
    ap (λ p. p.course) c.array.view_is

pub returns-in-Some-clause-course : goal.returns-in-Some-clause-course
returns-in-Some-clause-course g c =
    ap (λ p. p.course) c.array.view_is

pub returns-in-Some-refusal-clause-course : goal.returns-in-Some-refusal-clause-course
returns-in-Some-refusal-clause-course g c =
    ap (λ p. p.course) c.array.view_is

pub returns-clause-course : goal.returns-clause-course
returns-clause-course g c =
    ap (λ p. p.course) c.array.view_is

pub returns-in-Err-clause-active : goal.returns-in-Err-clause-active
returns-in-Err-clause-active g c =
    ap (λ p. is_reshaping p.parts.members.newest) c.array.view_is

pub returns-in-Some-clause-active : goal.returns-in-Some-clause-active
returns-in-Some-clause-active g c =
    ap (λ p. is_reshaping p.parts.members.newest) c.array.view_is

pub returns-in-Some-refusal-clause-active : goal.returns-in-Some-refusal-clause-active
returns-in-Some-refusal-clause-active g c =
    c.flush_and_mark-settled.ensures.keeps.moved.reshape.reshaping ∙ ap (λ p. is_reshaping p.parts.members.newest) c.array.view_is

pub returns-clause-active : goal.returns-clause-active
returns-clause-active g c =
    c.flush_and_mark-settled.ensures.keeps.moved.reshape.reshaping ∙ ap (λ p. is_reshaping p.parts.members.newest) c.array.view_is
