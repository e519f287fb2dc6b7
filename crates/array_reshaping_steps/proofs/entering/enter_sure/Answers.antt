use Rattle.std.proofs.Common.{None, ◌≡◌, ◌<◌, ◌≤◌, inl, inr, ℕ, ◌-◌, ◌*◌, List, [], ◌∷◌, ◌++◌, length, take, Some, refl, sym, ◌∙◌, ap, subst, arith, le_of_eq}
use Rattle.std.specs.Vec.{with_items}
use Rattle.array_type.specs.bank_Tape.{disk}
use Rattle.array_type.specs.raid_types_the_Refusal.{Refusal}
use Rattle.array_type.specs.raid_types_the_Span.{Span}
use Rattle.array_type.specs.reshape_geometry_Geometry.{is_critical}
use Rattle.array_type.specs.sb_specs_Reading.{is_backward, shape_of, final_shape, next_window, is_clean, is_reshaping}
use Rattle.array_type.specs.history_the_Event_TheVariants.{Refused, Step}
use Rattle.array_type.specs.history_the_StepKind_TheVariants.{Entered as EntersWindow}
use Rattle.array_type.specs.history_Plain.{entries_of}
use Rattle.array_type.specs.array_members_Lacking.{AreTooMany}
use Rattle.array_type.specs.array_members_Numbers.{bears}
use Rattle.array_type.specs.sb_safe_updates_Unused.{IsUnused}
use Rattle.array_type.proofs.array_members_LackingLaws.{never-both}
use Rattle.array_type.proofs.array_members_MovedLaws.{grows-none, moved-same}
use Rattle.array_type.specs.history_append_Losing.{losses_of}
use Rattle.array_type.specs.array_call_specs_Kept.{scope_in}
use Rattle.array_type.proofs.array_call_specs_LossLaws.{losses-behind, ended-behind, behind-alone}
use Rattle.array_type.proofs.array_call_specs_ReadyLaws.{scope-same}
use Rattle.array_type.specs.history_invariant_Recorded.{IsCallGoing}
use Rattle.array_type.specs.history_invariant_Safe.{world_in, OpensOnCourse}
use Rattle.array_type.specs.reshape_request_the_Window_TheVariants.{Unsure}
use Rattle.array_type.specs.reshape_progress_the_Course.{Course}
use Rattle.array_type.specs.reshape_progress_Course.{IsStored}
use Rattle.array_type.specs.array_fixed_invariant_reshape_progress_Laws.{entered}
use Rattle.array_type.specs.array_reshaping_invariant_Moving.{IsMoving}
use Rattle.array_type.proofs.array_reshaping_invariant_Refusals.{quiet-refusal, refused-right}
use Rattle.array_type.proofs.array_reshaping_invariant_Resting.{resting-moves}
use Rattle.array_type.proofs.array_reshaping_invariant_Steps.{missing-since}
use Rattle.array_type.specs.array_specs_Calls.{IsEnterDue}
use Rattle.array_type.specs.array_specs_Parts.{left_in}
use Rattle.array_type.specs.array_reshaping_laws_Ready.{bytes_in}
use Rattle.array_type.proofs.array_specs_Called.{not_254, called, alone-lossless, risen-told}
use Rattle.array_type.proofs.array_reshaping_laws_Kept.{ready, ready-moved, shapes-same, shapes-moved, behind-keeps, behind-whole, with-buffer, written-whole}
use Rattle.array_type.proofs.array_reshaping_laws_BarredLaws.{closed-of}
use Rattle.array_type.proofs.array_reshaping_laws_Entered.{course_in, IsNextTried, when-some, when-none, enter-refused, enter-left, enter-done}
use Rattle.array_type.specs.history_Stands.{reach_of}
use Rattle.array_type.specs.reshape_request_Left.{phases_of}
use Rattle.array_type.proofs.StepLaws.{one-fewer, same-some, room-behind, wide-for, scratch-for, never-some, taken-behind, under-way-moved, zeroed-moved, sound-moved, entered-right}
use Rattle.array_type.proofs.array_specs_Lengths.{alone-keeps}
use Rattle.array_type.proofs.Alike.{alike, goes-on}
use Rattle.array_reshaping_steps.proofs.Backed.{of-slot, to-slot, backed-for, faulted}
use Rattle.array_reshaping_steps.proofs.entering.enter_sure.Goals as goal

-- ---- the members lack too many

pub invariant_of-moving : goal.invariant_of-moving
invariant_of-moving g c =
    goes-on (c.moving.invariant.moves (ap (λ p. is_reshaping p.parts.members.newest) c.moving.view_is ∙ c.requires.active)).0 (
    let was = (c.moving.invariant.moves (ap (λ p. is_reshaping p.parts.members.newest) c.moving.view_is ∙ c.requires.active)).1 in
    let a = c.moving.inside in
    let given = g.B.Bank.given a.bank in
    let scope = scope_in given a.epoch.uuid a.epoch.given a.backup in
    let goes : IsCallGoing a.epoch.entries.items c.args.who = subst (λ p. IsCallGoing p.parts.entries c.args.who) (sym c.moving.view_is) c.requires.open in
    let steps : 1 ≤ a.steps = subst (λ p. 1 ≤ p.parts.steps) (sym c.moving.view_is) c.requires.room in
    let tape = g.B.Bank.tape a.bank in
    let end = c.ops-end.result in
    let refusal = c.in-Some.refusal in
    let kept = resting-moves g.B.Bank.tells given tape scope a.epoch.first a.epoch.entries.items a.members (bears a.work) a.work.resync a.course (bytes_in a.course.window a.window.items) (left_in a.work a.members a.course a.ahead)
    c.args.who end (Refused refusal) was.kept goes (not_254 c.args.who.caller c.requires.caller) c.ops-end.ensures.count (quiet-refusal refusal) (λ told is. is)
    (λ t right. refused-right (world_in given tape scope a.epoch.first) a.epoch.entries.items given a.members was.kept.members_are.placed (was.kept.gone t right) (was.kept.levelled t right) refusal c.in-Some.ensures) in
    ready (entries_of c.args.who end (Refused refusal ∷ [])) was (grows-none (λ t. refl)) (shapes-same a.members.newest) kept
    refl (λ slot. omega arith) (alone-keeps c.args.who end (Refused refusal) (λ n. refl) (λ limit. refl)) (λ none whole. whole) refl (scope-same given a.backup refl c.append_entry.ensures.uuid c.append_entry.ensures.given) c.append_entry.ensures.first refl c.append_entry.ensures.items
    (let had = was.room_left in let room = c.append_entry.ensures.room in omega (arith, room, had, steps)))

pub returns-in-Some-clause-called : goal.returns-in-Some-clause-called
returns-in-Some-clause-called g c =
    let was = (alike c.moving.invariant) in
    let a = c.moving.inside in
    let given = g.B.Bank.given a.bank in
    let faults = g.B.Bank.faults_of a.bank in
    let end = c.ops-end.result in
    let refusal = c.in-Some.refusal in
    rw (← c.moving.view_is) (called (grows-none (λ t. refl)) (moved-same given given a.members a.members refl refl was.kept.members_are.placed was.kept.members_are.unlost)
    (ended-behind (g.B.Bank.tape a.bank) c.append_entry.new.epoch.first a.epoch.entries.items c.args.who end [] (Refused refusal) c.append_entry.ensures.items c.ops-end.ensures.count)
    (alone-lossless a.members faults faults a.epoch.entries.items a.epoch.entries.items c.append_entry.new.epoch.entries.items c.args.who end (Refused refusal) tt refl c.append_entry.ensures.items)
    (λ slot. omega arith)
    (record { uuid = c.append_entry.ensures.uuid; given = c.append_entry.ensures.given; first = c.append_entry.ensures.first; backup = refl; work = refl; ahead = refl; limit = refl })
    (λ t. (was.kept.recorded t).begun))

pub returns-in-Some-clause-entered : goal.returns-in-Some-clause-entered
returns-in-Some-clause-entered g c =
    rw (← c.moving.view_is) (behind-alone c.args.who c.ops-end.result (Refused c.in-Some.refusal) refl c.append_entry.ensures.items)

-- ---- the backup

pub enter_next-tried-requires-clause-slot : goal.enter_next-tried-requires-clause-slot
enter_next-tried-requires-clause-slot g c =
    let a = c.moving.inside in
    (backed-for a.backup c.backup_slot-backup.result (ap (λ p. p.parts.backup) c.moving.view_is ∙ c.backup_slot-backup.ensures) (g.B.Bank.given a.bank) a.epoch.uuid a.epoch.given a.members c.in-Some-next_window_of.span (c.moving.invariant.moves (ap (λ p. is_reshaping p.parts.members.newest) c.moving.view_is ∙ c.requires.active)).1.kept.members_are (sym c.in-Some-next_window_of.ensures.value)).slot

pub enter_next-tried-requires-clause-within : goal.enter_next-tried-requires-clause-within
enter_next-tried-requires-clause-within g c =
    let a = c.moving.inside in
    (backed-for a.backup c.backup_slot-backup.result (ap (λ p. p.parts.backup) c.moving.view_is ∙ c.backup_slot-backup.ensures) (g.B.Bank.given a.bank) a.epoch.uuid a.epoch.given a.members c.in-Some-next_window_of.span (c.moving.invariant.moves (ap (λ p. is_reshaping p.parts.members.newest) c.moving.view_is ∙ c.requires.active)).1.kept.members_are (sym c.in-Some-next_window_of.ensures.value)).within

-- ---- it is refused

pub invariant_of-moving-in-Some-refusal : goal.invariant_of-moving-in-Some-refusal
invariant_of-moving-in-Some-refusal g c =
    goes-on (c.moving.invariant.moves (ap (λ p. is_reshaping p.parts.members.newest) c.moving.view_is ∙ c.requires.active)).0 (
    let was = (c.moving.invariant.moves (ap (λ p. is_reshaping p.parts.members.newest) c.moving.view_is ∙ c.requires.active)).1 in
    let a = c.moving.inside in
    let given = g.B.Bank.given a.bank in
    let scope = scope_in given a.epoch.uuid a.epoch.given a.backup in
    let tape = g.B.Bank.tape a.bank in
    let tape' = g.B.Bank.tape c.enter_next-tried.new.bank in
    let m = c.enter_next-tried.new.members in
    let did = c.enter_next-tried.ensures in
    let tried = c.enter_next-tried.result in
    let span = c.in-Some-next_window_of.span in
    let due = subst (λ p. IsEnterDue p) (sym c.moving.view_is) c.requires.due in
    let shut = closed-of a.course due.span a.members due.is (subst (λ p. (s : Span) → p.course.window ≡ Unsure s → (refusal : Refusal) × AreTooMany p.parts.members refusal) (sym c.moving.view_is) c.requires.sure) c.in_default.ensures in
    let synced : a.work.resync ≡ None = ap (λ p. p.parts.work.resync) c.moving.view_is ∙ c.requires.synced in
    let at : next_window a.members.newest ≡ Some span = sym c.in-Some-next_window_of.ensures.value in
    let goes : IsCallGoing a.epoch.entries.items c.args.who = subst (λ p. IsCallGoing p.parts.entries c.args.who) (sym c.moving.view_is) c.requires.open in
    let steps : 1 ≤ a.steps = subst (λ p. 1 ≤ p.parts.steps) (sym c.moving.view_is) c.requires.room in
    let slot_is = ap (λ p. p.parts.backup) c.moving.view_is ∙ c.backup_slot-backup.ensures in
    let its = (backed-for a.backup c.backup_slot-backup.result slot_is given a.epoch.uuid a.epoch.given a.members span was.kept.members_are at).is in
    let stored = λ (t : g.B.Bank.tells) (on : OpensOnCourse (world_in given tape scope a.epoch.first)). subst (λ (k : Course). IsStored scope a.members k.window (bytes_in k.window a.window.items) (disk given.start tape)) shut (was.kept.stored t on) in
    let written = c.enter_next-tried.new.window in
    let next : IsNextTried g.B.Bank.tells given tape tape' scope a.epoch.first a.members m tried.window (take (512 * (span.hi - span.lo)) written) tried.roles = record {
      moved = did.moved;
      since = missing-since tried.roles did.moved did.since.vacant;
      clean = did.clean;
      rise = risen-told did.rise;
      kept = did.kept;
      has = did.has;
      stored = λ t on. did.stored t scope (rw slot_is its) (stored t on).section (stored t on).headers;
      safe = λ t on told list room gone unclean stands filled allowed before. did.safe t (world_in given tape scope a.epoch.first) told list room gone unclean (rw slot_is its) (stored t on).section stands filled allowed before;
    } in
    let refusal = c.in-Some-refusal.refusal in
    let end = c.ops-end-2.result in
    let whole : (with_items a.window written).items ≡ written = written-whole a.window.len a.window.items written (c.enter_next-tried.auto.window ∙ ap (λ (l : List ℕ). length l) c.as_mut_slice.ensures.value) a.window.ok.0 in
    let kept = subst (λ (l : List ℕ). IsMoving g.B.Bank.tells given tape' scope a.epoch.first (a.epoch.entries.items ++ entries_of c.args.who end (losses_of tried.roles tried.spares ++ Refused refusal ∷ [])) m (bears a.work) a.work.resync
    (record a.course { window = tried.window }) (bytes_in tried.window l) (left_in a.work m (record a.course { window = tried.window }) a.ahead)) (sym whole)
    (enter-refused a.course a.ahead tried.window span written c.args.who c.ops-end-2.result tried.roles tried.spares shut at was.kept synced was.full c.in_default.ensures goes c.requires.caller c.ops-end-2.ensures.count did.bank.grows next
    (elim (when-some _ _ tried.refusal refusal c.in-Some-refusal.is did.window) [ inl none ↦ inl none | inr unsure ↦ inr unsure.0 ])
    refusal (elim (when-some _ _ tried.refusal refusal c.in-Some-refusal.is did.refused) [ inl many ↦ inl many | inr fault ↦ inr fault.0 ])) in
    with-buffer (let len = (with_items a.buffer c.enter_next-tried.new.scratch).ok.0 in let ok = a.buffer.ok.0 in omega (arith, len, ok, was.buffer_fits))
    (ready-moved (entries_of c.args.who end (losses_of tried.roles tried.spares ++ Refused refusal ∷ [])) was did.bank.grows (shapes-moved given a.members m did.moved) kept (λ span is. inr (to-slot a.backup c.backup_slot-backup.result slot_is (λ (slot : ℕ). 0 < g.B.Bank.faults_of c.enter_next-tried.new.bank slot) (did.dead span is)))
    (let len = (with_items a.window written).ok.0 in let ok = a.window.ok.0 in omega (arith, len, ok)) did.bank.counts (behind-keeps c.args.who end tried.roles tried.spares (Refused refusal) (λ n. refl) (λ limit. refl))
    (behind-whole tape' scope a.epoch.first a.epoch.entries.items c.args.who end tried.roles tried.spares (Refused refusal) did.moved (missing-since tried.roles did.moved did.since.vacant))
    did.bank.same (scope-same given a.backup did.bank.same c.append_after_losses.ensures.uuid c.append_after_losses.ensures.given) c.append_after_losses.ensures.first refl c.append_after_losses.ensures.items
    (let had = was.room_left in let room = c.append_after_losses.ensures.room in omega (arith, room, had, steps))))

pub returns-in-Some-refusal-clause-called : goal.returns-in-Some-refusal-clause-called
returns-in-Some-refusal-clause-called g c =
    let was = (alike c.moving.invariant) in
    let a = c.moving.inside in
    let m = c.enter_next-tried.new.members in
    let did = c.enter_next-tried.ensures in
    let tried = c.enter_next-tried.result in
    let before = g.B.Bank.faults_of a.bank in
    let after = g.B.Bank.faults_of c.enter_next-tried.new.bank in
    let end = c.ops-end-2.result in
    let event = Refused c.in-Some-refusal.refusal in
    rw (← c.moving.view_is) (called did.bank.grows did.moved
    (ended-behind (g.B.Bank.tape c.enter_next-tried.new.bank) c.append_after_losses.new.epoch.first a.epoch.entries.items c.args.who end (losses_of tried.roles tried.spares) event c.append_after_losses.ensures.items c.ops-end-2.ensures.count)
    (losses-behind a.members m before after a.epoch.entries.items a.epoch.entries.items c.append_after_losses.new.epoch.entries.items c.args.who end tried.roles tried.spares event did.since tt refl c.append_after_losses.ensures.items)
    did.bank.counts
    (record { uuid = c.append_after_losses.ensures.uuid; given = c.append_after_losses.ensures.given; first = c.append_after_losses.ensures.first; backup = refl; work = refl; ahead = refl; limit = refl })
    (λ t. (was.kept.recorded t).begun))

pub returns-in-Some-refusal-clause-caused : goal.returns-in-Some-refusal-clause-caused
returns-in-Some-refusal-clause-caused g c =
    let a = c.moving.inside in
    rw (← c.moving.view_is) (elim (when-some _ _ c.enter_next-tried.result.refusal c.in-Some-refusal.refusal c.in-Some-refusal.is c.enter_next-tried.ensures.refused) [
      | inl many ↦ inl many
      | inr fault ↦ inr (fault.0, faulted a.backup c.backup_slot-backup.result (ap (λ p. p.parts.backup) c.moving.view_is ∙ c.backup_slot-backup.ensures) (g.B.Bank.faults_of a.bank) (g.B.Bank.faults_of c.enter_next-tried.new.bank) fault.1)
    ])

pub returns-in-Some-refusal-clause-course : goal.returns-in-Some-refusal-clause-course
returns-in-Some-refusal-clause-course g c =
    let a = c.moving.inside in
    let tried = c.enter_next-tried.result in
    let span = c.in-Some-next_window_of.span in
    let due = subst (λ p. IsEnterDue p) (sym c.moving.view_is) c.requires.due in
    let shut = closed-of a.course due.span a.members due.is (subst (λ p. (s : Span) → p.course.window ≡ Unsure s → (refusal : Refusal) × AreTooMany p.parts.members refusal) (sym c.moving.view_is) c.requires.sure) c.in_default.ensures in
    let synced : a.work.resync ≡ None = ap (λ p. p.parts.work.resync) c.moving.view_is ∙ c.requires.synced in
    let with_it : record a.course { window = tried.window } ≡ course_in tried.window = ap (λ (k : Course). record k { window = tried.window }) shut in
    rw (← c.moving.view_is) (elim (when-some _ _ tried.refusal c.in-Some-refusal.refusal c.in-Some-refusal.is c.enter_next-tried.ensures.window) [
      | inl none ↦ inl (with_it ∙ ap course_in none ∙ sym shut)
      | inr unsure ↦ inr (span, sym c.in-Some-next_window_of.ensures.value, sym c.is_window_critical-sectioned.ensures ∙ unsure.1, with_it ∙ ap course_in unsure.0)
    ])

-- ---- it is entered

pub invariant_of-moving-2 : goal.invariant_of-moving-2
invariant_of-moving-2 g c =
    goes-on (c.moving.invariant.moves (ap (λ p. is_reshaping p.parts.members.newest) c.moving.view_is ∙ c.requires.active)).0 (
    let was = (c.moving.invariant.moves (ap (λ p. is_reshaping p.parts.members.newest) c.moving.view_is ∙ c.requires.active)).1 in
    let a = c.moving.inside in
    let given = g.B.Bank.given a.bank in
    let scope = scope_in given a.epoch.uuid a.epoch.given a.backup in
    let tape = g.B.Bank.tape a.bank in
    let tape' = g.B.Bank.tape c.enter_next-tried.new.bank in
    let m = c.enter_next-tried.new.members in
    let did = c.enter_next-tried.ensures in
    let tried = c.enter_next-tried.result in
    let span = c.in-Some-next_window_of.span in
    let due = subst (λ p. IsEnterDue p) (sym c.moving.view_is) c.requires.due in
    let shut = closed-of a.course due.span a.members due.is (subst (λ p. (s : Span) → p.course.window ≡ Unsure s → (refusal : Refusal) × AreTooMany p.parts.members refusal) (sym c.moving.view_is) c.requires.sure) c.in_default.ensures in
    let synced : a.work.resync ≡ None = ap (λ p. p.parts.work.resync) c.moving.view_is ∙ c.requires.synced in
    let at : next_window a.members.newest ≡ Some span = sym c.in-Some-next_window_of.ensures.value in
    let goes : IsCallGoing a.epoch.entries.items c.args.who = subst (λ p. IsCallGoing p.parts.entries c.args.who) (sym c.moving.view_is) c.requires.open in
    let steps : 1 ≤ a.steps = subst (λ p. 1 ≤ p.parts.steps) (sym c.moving.view_is) c.requires.room in
    let slot_is = ap (λ p. p.parts.backup) c.moving.view_is ∙ c.backup_slot-backup.ensures in
    let its = (backed-for a.backup c.backup_slot-backup.result slot_is given a.epoch.uuid a.epoch.given a.members span was.kept.members_are at).is in
    let stored = λ (t : g.B.Bank.tells) (on : OpensOnCourse (world_in given tape scope a.epoch.first)). subst (λ (k : Course). IsStored scope a.members k.window (bytes_in k.window a.window.items) (disk given.start tape)) shut (was.kept.stored t on) in
    let written = c.enter_next-tried.new.window in
    let next : IsNextTried g.B.Bank.tells given tape tape' scope a.epoch.first a.members m tried.window (take (512 * (span.hi - span.lo)) written) tried.roles = record {
      moved = did.moved;
      since = missing-since tried.roles did.moved did.since.vacant;
      clean = did.clean;
      rise = risen-told did.rise;
      kept = did.kept;
      has = did.has;
      stored = λ t on. did.stored t scope (rw slot_is its) (stored t on).section (stored t on).headers;
      safe = λ t on told list room gone unclean stands filled allowed before. did.safe t (world_in given tape scope a.epoch.first) told list room gone unclean (rw slot_is its) (stored t on).section stands filled allowed before;
    } in
    let left = c.left_in_reshape-left.result in
    let end = c.ops-end-2.result in
    let whole : (with_items a.window written).items ≡ written = written-whole a.window.len a.window.items written (c.enter_next-tried.auto.window ∙ ap (λ (l : List ℕ). length l) c.as_mut_slice.ensures.value) a.window.ok.0 in
    let kept = subst (λ (l : List ℕ). IsMoving g.B.Bank.tells given tape' scope a.epoch.first (a.epoch.entries.items ++ entries_of c.args.who end (losses_of tried.roles tried.spares ++ Step EntersWindow left ∷ [])) m (bears a.work) a.work.resync
    (record a.course { window = tried.window }) (bytes_in tried.window l) (left_in a.work m (record a.course { window = tried.window }) a.ahead)) (sym whole)
    (enter-done a.course a.ahead tried.window span written c.args.who c.ops-end-2.result tried.roles tried.spares shut at was.kept synced was.full c.in_default.ensures goes c.requires.caller c.ops-end-2.ensures.count did.bank.grows next
    c.is_window_critical-sectioned.result (when-none _ _ tried.refusal c.in_default-refusal.is did.window) (λ critical. c.is_window_critical-sectioned.ensures ∙ critical) left c.left_in_reshape-left.ensures) in
    with-buffer (let len = (with_items a.buffer c.enter_next-tried.new.scratch).ok.0 in let ok = a.buffer.ok.0 in omega (arith, len, ok, was.buffer_fits))
    (ready-moved (entries_of c.args.who end (losses_of tried.roles tried.spares ++ Step EntersWindow left ∷ [])) was did.bank.grows (shapes-moved given a.members m did.moved) kept (λ span is. inr (to-slot a.backup c.backup_slot-backup.result slot_is (λ (slot : ℕ). 0 < g.B.Bank.faults_of c.enter_next-tried.new.bank slot) (did.dead span is)))
    (let len = (with_items a.window written).ok.0 in let ok = a.window.ok.0 in omega (arith, len, ok)) did.bank.counts (behind-keeps c.args.who end tried.roles tried.spares (Step EntersWindow left) (λ n. refl) (λ limit. refl))
    (behind-whole tape' scope a.epoch.first a.epoch.entries.items c.args.who end tried.roles tried.spares (Step EntersWindow left) did.moved (missing-since tried.roles did.moved did.since.vacant))
    did.bank.same (scope-same given a.backup did.bank.same c.append_after_losses-2.ensures.uuid c.append_after_losses-2.ensures.given) c.append_after_losses-2.ensures.first refl c.append_after_losses-2.ensures.items
    (let had = was.room_left in let room = c.append_after_losses-2.ensures.room in omega (arith, room, had, steps))))

pub returns-clause-called : goal.returns-clause-called
returns-clause-called g c =
    let was = (alike c.moving.invariant) in
    let a = c.moving.inside in
    let m = c.enter_next-tried.new.members in
    let did = c.enter_next-tried.ensures in
    let tried = c.enter_next-tried.result in
    let before = g.B.Bank.faults_of a.bank in
    let after = g.B.Bank.faults_of c.enter_next-tried.new.bank in
    let end = c.ops-end-2.result in
    let event = Step EntersWindow c.left_in_reshape-left.result in
    rw (← c.moving.view_is) (called did.bank.grows did.moved
    (ended-behind (g.B.Bank.tape c.enter_next-tried.new.bank) c.append_after_losses-2.new.epoch.first a.epoch.entries.items c.args.who end (losses_of tried.roles tried.spares) event c.append_after_losses-2.ensures.items c.ops-end-2.ensures.count)
    (losses-behind a.members m before after a.epoch.entries.items a.epoch.entries.items c.append_after_losses-2.new.epoch.entries.items c.args.who end tried.roles tried.spares event did.since tt refl c.append_after_losses-2.ensures.items)
    did.bank.counts
    (record { uuid = c.append_after_losses-2.ensures.uuid; given = c.append_after_losses-2.ensures.given; first = c.append_after_losses-2.ensures.first; backup = refl; work = refl; ahead = refl; limit = refl })
    (λ t. (was.kept.recorded t).begun))

pub returns-clause-caused : goal.returns-clause-caused
returns-clause-caused g c =
    rw (← c.moving.view_is) (
      λ refusal many. never-both c.moving.inside.members refusal c.in_default.ensures many,
      λ refusal many. never-both c.enter_next-tried.new.members refusal (when-none _ _ c.enter_next-tried.result.refusal c.in_default-refusal.is c.enter_next-tried.ensures.refused) many,
    )

pub returns-clause-left : goal.returns-clause-left
returns-clause-left g c =
    let was = (c.moving.invariant.moves (ap (λ p. is_reshaping p.parts.members.newest) c.moving.view_is ∙ c.requires.active)).1 in
    let a = c.moving.inside in
    let given = g.B.Bank.given a.bank in
    let scope = scope_in given a.epoch.uuid a.epoch.given a.backup in
    let tape = g.B.Bank.tape a.bank in
    let tape' = g.B.Bank.tape c.enter_next-tried.new.bank in
    let m = c.enter_next-tried.new.members in
    let did = c.enter_next-tried.ensures in
    let tried = c.enter_next-tried.result in
    let span = c.in-Some-next_window_of.span in
    let due = subst (λ p. IsEnterDue p) (sym c.moving.view_is) c.requires.due in
    let shut = closed-of a.course due.span a.members due.is (subst (λ p. (s : Span) → p.course.window ≡ Unsure s → (refusal : Refusal) × AreTooMany p.parts.members refusal) (sym c.moving.view_is) c.requires.sure) c.in_default.ensures in
    let synced : a.work.resync ≡ None = ap (λ p. p.parts.work.resync) c.moving.view_is ∙ c.requires.synced in
    let at : next_window a.members.newest ≡ Some span = sym c.in-Some-next_window_of.ensures.value in
    let goes : IsCallGoing a.epoch.entries.items c.args.who = subst (λ p. IsCallGoing p.parts.entries c.args.who) (sym c.moving.view_is) c.requires.open in
    let steps : 1 ≤ a.steps = subst (λ p. 1 ≤ p.parts.steps) (sym c.moving.view_is) c.requires.room in
    let slot_is = ap (λ p. p.parts.backup) c.moving.view_is ∙ c.backup_slot-backup.ensures in
    let its = (backed-for a.backup c.backup_slot-backup.result slot_is given a.epoch.uuid a.epoch.given a.members span was.kept.members_are at).is in
    let stored = λ (t : g.B.Bank.tells) (on : OpensOnCourse (world_in given tape scope a.epoch.first)). subst (λ (k : Course). IsStored scope a.members k.window (bytes_in k.window a.window.items) (disk given.start tape)) shut (was.kept.stored t on) in
    let written = c.enter_next-tried.new.window in
    let next : IsNextTried g.B.Bank.tells given tape tape' scope a.epoch.first a.members m tried.window (take (512 * (span.hi - span.lo)) written) tried.roles = record {
      moved = did.moved;
      since = missing-since tried.roles did.moved did.since.vacant;
      clean = did.clean;
      rise = risen-told did.rise;
      kept = did.kept;
      has = did.has;
      stored = λ t on. did.stored t scope (rw slot_is its) (stored t on).section (stored t on).headers;
      safe = λ t on told list room gone unclean stands filled allowed before. did.safe t (world_in given tape scope a.epoch.first) told list room gone unclean (rw slot_is its) (stored t on).section stands filled allowed before;
    } in
    rw (← c.moving.view_is) (enter-left a.course a.ahead tried.window span written c.args.who c.ops-end-2.result tried.roles tried.spares shut at was.kept synced was.full c.in_default.ensures goes c.requires.caller
    c.ops-end-2.ensures.count did.bank.grows next c.is_window_critical-sectioned.result (when-none _ _ tried.refusal c.in_default-refusal.is did.window))

pub returns-clause-opened : goal.returns-clause-opened
returns-clause-opened g c =
    let a = c.moving.inside in
    let n = a.members.newest in
    let tried = c.enter_next-tried.result in
    let span = c.in-Some-next_window_of.span in
    let due = subst (λ p. IsEnterDue p) (sym c.moving.view_is) c.requires.due in
    let shut = closed-of a.course due.span a.members due.is (subst (λ p. (s : Span) → p.course.window ≡ Unsure s → (refusal : Refusal) × AreTooMany p.parts.members refusal) (sym c.moving.view_is) c.requires.sure) c.in_default.ensures in
    rw (← c.moving.view_is) (λ other next.
    let same : span ≡ other = same-some span other (c.in-Some-next_window_of.ensures.value ∙ next) in
    ap (λ (k : Course). record k { window = tried.window }) shut
    ∙ ap course_in (when-none _ _ tried.refusal c.in_default-refusal.is c.enter_next-tried.ensures.window)
    ∙ ap (entered span 0) c.is_window_critical-sectioned.ensures
    ∙ ap (λ (s : Span). entered s 0 (is_critical (shape_of n) (final_shape n) n.size (is_backward n) s)) same)

-- ---- what the searches would find too, for longer

pub check_going-requires : goal.check_going-requires
check_going-requires g c = subst (λ p. IsCallGoing p.parts.entries c.args.who) (sym c.moving.view_is) c.requires.open

pub append_entry-requires-clause-number : goal.append_entry-requires-clause-number
append_entry-requires-clause-number g c = c.check_going.ensures

pub returns-in-Some-clause-clean : goal.returns-in-Some-clause-clean
returns-in-Some-clause-clean g c = ap (λ p. is_clean p.parts.members.newest) c.moving.view_is

pub returns-in-Some-clause-caused : goal.returns-in-Some-clause-caused
returns-in-Some-clause-caused g c = inl c.in-Some.ensures

pub returns-in-Some-clause-course : goal.returns-in-Some-clause-course
returns-in-Some-clause-course g c = inl (ap (λ p. p.course) c.moving.view_is)

pub returns-in-Some-clause-room : goal.returns-in-Some-clause-room
returns-in-Some-clause-room g c = one-fewer c.moving.inside.steps c.args.moving.now.parts.steps (ap (λ p. p.parts.steps) c.moving.view_is) c.requires.room

pub returns-in-Some-clause-given : goal.returns-in-Some-clause-given
returns-in-Some-clause-given g c = ap (λ p. g.B.Bank.given p.parts.bank) c.moving.view_is

pub unreachable-requires : goal.unreachable-requires
unreachable-requires g c =
    let due = subst (λ p. IsEnterDue p) (sym c.moving.view_is) c.requires.due in
    never-some due.span (next_window c.moving.inside.members.newest) (sym c.next_window_of.ensures.value ∙ c.in_default-next_window_of.is) due.next

pub is_window_critical-sectioned-requires-clause-next : goal.is_window_critical-sectioned-requires-clause-next
is_window_critical-sectioned-requires-clause-next g c = sym c.in-Some-next_window_of.ensures.value

pub enter_next-tried-requires-clause-stands : goal.enter_next-tried-requires-clause-stands
enter_next-tried-requires-clause-stands g c =
    record {
      slots = (alike c.moving.invariant).kept.slots;
      placed = (alike c.moving.invariant).kept.members_are.placed;
      unlost = (alike c.moving.invariant).kept.members_are.unlost;
      free = (alike c.moving.invariant).kept.members_are.free;
    }

pub enter_next-tried-requires-clause-next : goal.enter_next-tried-requires-clause-next
enter_next-tried-requires-clause-next g c = sym c.in-Some-next_window_of.ensures.value

pub enter_next-tried-requires-clause-aside : goal.enter_next-tried-requires-clause-aside
enter_next-tried-requires-clause-aside g c =
    of-slot c.moving.inside.backup c.backup_slot-backup.result (ap (λ p. p.parts.backup) c.moving.view_is ∙ c.backup_slot-backup.ensures) (λ (slot : ℕ). IsUnused c.moving.inside.members slot) (c.moving.invariant.moves (ap (λ p. is_reshaping p.parts.members.newest) c.moving.view_is ∙ c.requires.active)).1.kept.members_are.aside

pub enter_next-tried-requires-clause-wide : goal.enter_next-tried-requires-clause-wide
enter_next-tried-requires-clause-wide g c =
    wide-for (c.in-Some-next_window_of.span.hi - c.in-Some-next_window_of.span.lo) (reach_of c.moving.inside.members.newest) (length c.moving.inside.window.items) (length c.as_mut_slice.result.now)
    (ap (λ (l : List ℕ). length l) c.as_mut_slice.ensures.value) c.in-Some-next_window_of.ensures.reach (c.moving.invariant.moves (ap (λ p. is_reshaping p.parts.members.newest) c.moving.view_is ∙ c.requires.active)).1.wide

pub enter_next-tried-requires-clause-scratch : goal.enter_next-tried-requires-clause-scratch
enter_next-tried-requires-clause-scratch g c =
    scratch-for (length c.moving.inside.buffer.items) (length c.as_mut_slice-2.result.now) (ap (λ (l : List ℕ). length l) c.as_mut_slice-2.ensures.value) (alike c.moving.invariant).buffer_fits

pub enter_next-tried-requires-clause-relied : goal.enter_next-tried-requires-clause-relied
enter_next-tried-requires-clause-relied g c = le_of_eq (sym c.list_sectors-relied.ensures.length)

pub append_after_losses-requires-clause-room : goal.append_after_losses-requires-clause-room
append_after_losses-requires-clause-room g c =
    room-behind c.moving.inside.steps c.args.moving.now.parts.steps c.moving.inside.epoch.entries.room (ap (λ p. p.parts.steps) c.moving.view_is) c.requires.room (alike c.moving.invariant).room_left

pub append_after_losses-requires-clause-number : goal.append_after_losses-requires-clause-number
append_after_losses-requires-clause-number g c = c.check_going.ensures

pub returns-in-Some-refusal-clause-entered : goal.returns-in-Some-refusal-clause-entered
returns-in-Some-refusal-clause-entered g c =
    let tried = c.enter_next-tried.result in
    rw (← c.moving.view_is) (record { roles = tried.roles; spares = tried.spares; end = c.ops-end-2.result; is = c.append_after_losses.ensures.items })

pub returns-in-Some-refusal-clause-clean : goal.returns-in-Some-refusal-clause-clean
returns-in-Some-refusal-clause-clean g c = c.enter_next-tried.ensures.clean ∙ ap (λ p. is_clean p.parts.members.newest) c.moving.view_is

pub returns-in-Some-refusal-clause-room : goal.returns-in-Some-refusal-clause-room
returns-in-Some-refusal-clause-room g c = one-fewer c.moving.inside.steps c.args.moving.now.parts.steps (ap (λ p. p.parts.steps) c.moving.view_is) c.requires.room

pub returns-in-Some-refusal-clause-given : goal.returns-in-Some-refusal-clause-given
returns-in-Some-refusal-clause-given g c = c.enter_next-tried.ensures.bank.same ∙ ap (λ p. g.B.Bank.given p.parts.bank) c.moving.view_is

pub left_in_reshape-left-requires-clause-fit : goal.left_in_reshape-left-requires-clause-fit
left_in_reshape-left-requires-clause-fit g c = c.enter_next-tried.ensures.moved.placed.fit

pub left_in_reshape-left-requires-clause-reshape : goal.left_in_reshape-left-requires-clause-reshape
left_in_reshape-left-requires-clause-reshape g c =
    under-way-moved (g.B.Bank.given c.moving.inside.bank) c.moving.inside.members c.enter_next-tried.new.members c.enter_next-tried.ensures.moved (c.moving.invariant.moves (ap (λ p. is_reshaping p.parts.members.newest) c.moving.view_is ∙ c.requires.active)).1.kept.members_are.active

pub left_in_reshape-left-requires-clause-open : goal.left_in_reshape-left-requires-clause-open
left_in_reshape-left-requires-clause-open g c =
    let tried = c.enter_next-tried.result in
    entered-right (g.B.Bank.given c.moving.inside.bank) c.moving.inside.members c.enter_next-tried.new.members c.enter_next-tried.ensures.moved tried.window c.in-Some-next_window_of.span c.is_window_critical-sectioned.result
    (when-none _ _ tried.refusal c.in_default-refusal.is c.enter_next-tried.ensures.window) (sym c.in-Some-next_window_of.ensures.value)

pub left_in_reshape-left-requires-clause-zeroed : goal.left_in_reshape-left-requires-clause-zeroed
left_in_reshape-left-requires-clause-zeroed g c =
    zeroed-moved (g.B.Bank.given c.moving.inside.bank) c.moving.inside.members c.enter_next-tried.new.members c.enter_next-tried.ensures.moved c.moving.inside.course.zeroed (c.moving.invariant.moves (ap (λ p. is_reshaping p.parts.members.newest) c.moving.view_is ∙ c.requires.active)).1.kept.course_is.few

pub left_in_reshape-left-requires-clause-sound : goal.left_in_reshape-left-requires-clause-sound
left_in_reshape-left-requires-clause-sound g c =
    sound-moved (g.B.Bank.given c.moving.inside.bank) c.moving.inside.members c.enter_next-tried.new.members c.enter_next-tried.ensures.moved (phases_of c.moving.inside.ahead) (c.moving.invariant.moves (ap (λ p. is_reshaping p.parts.members.newest) c.moving.view_is ∙ c.requires.active)).1.planned

pub append_after_losses-requires-2-clause-room : goal.append_after_losses-requires-2-clause-room
append_after_losses-requires-2-clause-room g c =
    room-behind c.moving.inside.steps c.args.moving.now.parts.steps c.moving.inside.epoch.entries.room (ap (λ p. p.parts.steps) c.moving.view_is) c.requires.room (alike c.moving.invariant).room_left

pub append_after_losses-requires-2-clause-number : goal.append_after_losses-requires-2-clause-number
append_after_losses-requires-2-clause-number g c = c.check_going.ensures

pub returns-clause-entered : goal.returns-clause-entered
returns-clause-entered g c =
    let tried = c.enter_next-tried.result in
    rw (← c.moving.view_is) (taken-behind c.args.who c.ops-end-2.result tried.roles tried.spares EntersWindow c.left_in_reshape-left.result _ c.left_in_reshape-left.ensures c.append_after_losses-2.ensures.items)

pub returns-clause-clean : goal.returns-clause-clean
returns-clause-clean g c = c.enter_next-tried.ensures.clean ∙ ap (λ p. is_clean p.parts.members.newest) c.moving.view_is

pub returns-clause-room : goal.returns-clause-room
returns-clause-room g c = one-fewer c.moving.inside.steps c.args.moving.now.parts.steps (ap (λ p. p.parts.steps) c.moving.view_is) c.requires.room

pub returns-clause-given : goal.returns-clause-given
returns-clause-given g c = c.enter_next-tried.ensures.bank.same ∙ ap (λ p. g.B.Bank.given p.parts.bank) c.moving.view_is

pub returns-in-Some-clause-active : goal.returns-in-Some-clause-active
returns-in-Some-clause-active g c = (ap (λ p. is_reshaping p.parts.members.newest) c.moving.view_is ∙ c.requires.active)

pub returns-in-Some-refusal-clause-active : goal.returns-in-Some-refusal-clause-active
returns-in-Some-refusal-clause-active g c = c.enter_next-tried.ensures.moved.reshape.reshaping ∙ (ap (λ p. is_reshaping p.parts.members.newest) c.moving.view_is ∙ c.requires.active)

pub returns-clause-active : goal.returns-clause-active
returns-clause-active g c = c.enter_next-tried.ensures.moved.reshape.reshaping ∙ (ap (λ p. is_reshaping p.parts.members.newest) c.moving.view_is ∙ c.requires.active)
