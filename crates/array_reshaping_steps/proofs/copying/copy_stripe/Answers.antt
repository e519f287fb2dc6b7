use Rattle.std.proofs.Common.{◌+◌, ◌≤◌, ℕ, ◌-◌, ◌*◌, List, [], ◌∷◌, ◌++◌, take, refl, sym, ◌∙◌, ap, subst, arith}
use Rattle.std.specs.Vec.{with_items}
use Rattle.array_type.specs.raid_types_Shapes.{stripe_sectors}
use Rattle.array_type.proofs.reshape_geometry_ClosedForms.{ceiling_below}
use Rattle.array_type.proofs.reshape_geometry_Valid.{bounded}
use Rattle.array_type.specs.sb_specs_Reading.{final_shape, list_length, is_clean, is_reshaping}
use Rattle.array_type.proofs.crash_views_Stands.{window-inside}
use Rattle.array_type.specs.array_members_Lacking.{AreTooMany}
use Rattle.array_type.proofs.array_call_specs_ReplyLaws.{too-many-of, refused-for}
use Rattle.array_type.specs.history_the_Event_TheVariants.{Refused, Step}
use Rattle.array_type.specs.history_the_StepKind_TheVariants.{Copied as CopiesStripe}
use Rattle.array_type.specs.history_Plain.{entries_of}
use Rattle.array_type.specs.array_members_Numbers.{bears}
use Rattle.array_type.proofs.array_members_MovedLaws.{grows-none, moved-same}
use Rattle.array_type.specs.history_append_Losing.{losses_of}
use Rattle.array_type.specs.array_call_specs_Kept.{scope_in}
use Rattle.array_type.proofs.array_call_specs_LossLaws.{losses-behind, ended-behind, behind-alone}
use Rattle.array_type.proofs.array_call_specs_ReadyLaws.{scope-same}
use Rattle.array_type.proofs.array_members_LackingLaws.{never-both}
use Rattle.array_type.specs.reshape_window_rows_Copies.{tail_of, IsCopied}
use Rattle.array_type.specs.history_invariant_Recorded.{IsCallGoing}
use Rattle.array_type.specs.history_invariant_Safe.{world_in}
use Rattle.array_type.specs.reshape_progress_the_Course.{Course}
use Rattle.array_type.specs.reshape_progress_Course.{IsWindowOf}
use Rattle.array_type.proofs.array_reshaping_state_ReshapeLaws.{window-reach, list-short, under-way-of}
use Rattle.array_type.proofs.array_reshaping_invariant_Refusals.{quiet-refusal, refused-right}
use Rattle.array_type.proofs.array_reshaping_invariant_Resting.{resting-moves}
use Rattle.array_type.proofs.array_reshaping_invariant_Steps.{missing-since}
use Rattle.array_type.specs.array_specs_Parts.{left_in}
use Rattle.array_type.specs.array_reshaping_laws_Ready.{bytes_in}
use Rattle.array_type.specs.array_specs_Calls.{IsCopyDue}
use Rattle.array_type.proofs.array_specs_Called.{not_254, called, alone-lossless, many-of, risen-told}
use Rattle.array_type.proofs.array_reshaping_laws_Copied.{due-is, left-falls, IsStripeTried, copied-more, copied-kept, uncopied-kept}
use Rattle.array_type.proofs.array_reshaping_laws_Kept.{ready, ready-moved, shapes-same, shapes-moved, behind-keeps, behind-whole, with-buffer, live-of}
use Rattle.array_type.specs.reshape_request_Left.{phases_of}
use Rattle.array_type.specs.array_call_specs_Calls.{IsRefusedFor}
use Rattle.array_type.proofs.ReshapingCalls.{room-49, one-less, many-refused, sound-same, zeroed-moved, entered-sure, never-falls, room-after-1, room-after-49, scratch-of, step-entered, called-over, zero-le}
use Rattle.array_type.proofs.array_specs_Lengths.{alone-keeps}
use Rattle.array_type.proofs.Alike.{alike, goes-on}
use Rattle.array_reshaping_steps.proofs.copying.copy_stripe.Goals as goal

-- ---- the members lack too many

pub invariant_of-moving : goal.invariant_of-moving
invariant_of-moving g c =
    goes-on (c.moving.invariant.moves (ap (λ p. is_reshaping p.parts.members.newest) c.moving.view_is ∙ c.requires.active)).0 (
    let was = (c.moving.invariant.moves (ap (λ p. is_reshaping p.parts.members.newest) c.moving.view_is ∙ c.requires.active)).1 in
    let a = c.moving.inside in
    let given = g.B.Bank.given a.bank in
    let scope = scope_in given a.epoch.uuid a.epoch.given a.backup in
    let goes : IsCallGoing a.epoch.entries.items c.args.who = subst (λ p. IsCallGoing p.parts.entries c.args.who) (sym c.moving.view_is) c.requires.open in
    let steps : 1 ≤ a.steps = subst (λ p. 1 ≤ p.parts.steps) (sym c.moving.view_is) c.requires.room in
    let tape = g.B.Bank.tape a.bank in
    let end = c.ops-end.result in
    let refusal = c.in-Some.refusal in
    let kept = resting-moves g.B.Bank.tells given tape scope a.epoch.first a.epoch.entries.items a.members (bears a.work) a.work.resync a.course (bytes_in a.course.window a.window.items) (left_in a.work a.members a.course a.ahead)
    c.args.who end (Refused refusal) was.kept goes (not_254 c.args.who.caller c.requires.caller) c.ops-end.ensures.count (quiet-refusal refusal) (λ told is. is)
    (λ t right. refused-right (world_in given tape scope a.epoch.first) a.epoch.entries.items given a.members was.kept.members_are.placed (was.kept.gone t right) (was.kept.levelled t right) refusal c.in-Some.ensures) in
    ready (entries_of c.args.who end (Refused refusal ∷ [])) was (grows-none (λ t. refl)) (shapes-same a.members.newest) kept
    refl (never-falls _) (alone-keeps c.args.who end (Refused refusal) (λ n. refl) (λ limit. refl)) (λ none whole. whole) refl (scope-same given a.backup refl c.append_entry.ensures.uuid c.append_entry.ensures.given) c.append_entry.ensures.first refl c.append_entry.ensures.items
    (room-after-1 a.steps a.epoch.entries.room c.append_entry.new.epoch.entries.room was.room_left c.append_entry.ensures.room steps))

pub returns-in-Some-clause-called : goal.returns-in-Some-clause-called
returns-in-Some-clause-called g c =
    let was = (alike c.moving.invariant) in
    let a = c.moving.inside in
    let given = g.B.Bank.given a.bank in
    let faults = g.B.Bank.faults_of a.bank in
    let end = c.ops-end.result in
    let refusal = c.in-Some.refusal in
    called-over g.B.Bank.given g.B.Bank.tape g.B.Bank.faults_of c.moving.view_is (called (grows-none (λ t. refl)) (moved-same given given a.members a.members refl refl was.kept.members_are.placed was.kept.members_are.unlost)
    (ended-behind (g.B.Bank.tape a.bank) c.append_entry.new.epoch.first a.epoch.entries.items c.args.who end [] (Refused refusal) c.append_entry.ensures.items c.ops-end.ensures.count)
    (alone-lossless a.members faults faults a.epoch.entries.items a.epoch.entries.items c.append_entry.new.epoch.entries.items c.args.who end (Refused refusal) tt refl c.append_entry.ensures.items)
    (never-falls _)
    (record { uuid = c.append_entry.ensures.uuid; given = c.append_entry.ensures.given; first = c.append_entry.ensures.first; backup = refl; work = refl; ahead = refl; limit = refl })
    (λ t. (was.kept.recorded t).begun))

pub returns-in-Some-clause-entered : goal.returns-in-Some-clause-entered
returns-in-Some-clause-entered g c =
    rw (← c.moving.view_is) (behind-alone c.args.who c.ops-end.result (Refused c.in-Some.refusal) refl c.append_entry.ensures.items)

-- ---- the copy is refused

pub invariant_of-moving-in-Some-refusal : goal.invariant_of-moving-in-Some-refusal
invariant_of-moving-in-Some-refusal g c =
    goes-on (c.moving.invariant.moves (ap (λ p. is_reshaping p.parts.members.newest) c.moving.view_is ∙ c.requires.active)).0 (
    let was = (c.moving.invariant.moves (ap (λ p. is_reshaping p.parts.members.newest) c.moving.view_is ∙ c.requires.active)).1 in
    let a = c.moving.inside in
    let given = g.B.Bank.given a.bank in
    let scope = scope_in given a.epoch.uuid a.epoch.given a.backup in
    let goes : IsCallGoing a.epoch.entries.items c.args.who = subst (λ p. IsCallGoing p.parts.entries c.args.who) (sym c.moving.view_is) c.requires.open in
    let steps : 1 ≤ a.steps = subst (λ p. 1 ≤ p.parts.steps) (sym c.moving.view_is) c.requires.room in
    let m = c.copy_next-moved.new.members in
    let did = c.copy_next-moved.ensures in
    let tape = g.B.Bank.tape a.bank in
    let tape' = g.B.Bank.tape c.copy_next-moved.new.bank in
    let roles = c.copy_next-moved.result.roles in
    let spares = c.copy_next-moved.result.spares in
    let end = c.ops-end-2.result in
    let refusal = c.in-Some-refusal.refusal in
    let due = due-is _ c.in-Entered.span c.in-Entered.copied c.in-Entered.sectioned (subst (λ p. IsCopyDue p) (sym c.moving.view_is) c.requires.due) c.in-Entered.is in
    let tried : IsStripeTried g.B.Bank.tells given tape tape' a.members m c.in-Entered.span c.in-Entered.copied roles =
    record {
      moved = did.moved;
      since = missing-since roles did.moved did.since.vacant;
      clean = did.clean;
      rise = risen-told did.rise;
      unused = did.unused;
      others = did.others;
      safe = did.safe;
    } in
    let kept = uncopied-kept g.B.Bank.tells given tape tape' scope a.epoch.first a.epoch.entries.items a.members m (bears a.work) a.work.resync a.course a.ahead a.window.items
    c.in-Entered.span c.in-Entered.copied c.in-Entered.sectioned c.args.who end roles spares was.kept due.0 (live-of was.kept c.in_default.ensures) due.1 goes (not_254 c.args.who.caller c.requires.caller) c.ops-end-2.ensures.count did.bank.grows tried
    refusal (many-of m c.copy_next-moved.result.refusal refusal c.in-Some-refusal.is did.refused) in
    with-buffer (let len = (with_items a.buffer c.copy_next-moved.new.scratch).ok.0 in let ok = a.buffer.ok.0 in omega (arith, len, ok, was.buffer_fits))
    (ready (entries_of c.args.who end (losses_of roles spares ++ Refused refusal ∷ [])) was did.bank.grows (shapes-moved given a.members m did.moved) kept
    refl did.bank.counts (behind-keeps c.args.who end roles spares (Refused refusal) (λ n. refl) (λ limit. refl)) (behind-whole tape' (scope_in given a.epoch.uuid a.epoch.given a.backup) a.epoch.first a.epoch.entries.items c.args.who end roles spares (Refused refusal) did.moved (missing-since roles did.moved did.since.vacant)) did.bank.same (scope-same given a.backup did.bank.same c.append_after_losses.ensures.uuid c.append_after_losses.ensures.given) c.append_after_losses.ensures.first refl c.append_after_losses.ensures.items
    (room-after-49 a.steps a.epoch.entries.room c.append_after_losses.new.epoch.entries.room was.room_left c.append_after_losses.ensures.room steps)))

pub returns-in-Some-refusal-clause-called : goal.returns-in-Some-refusal-clause-called
returns-in-Some-refusal-clause-called g c =
    let was = (alike c.moving.invariant) in
    let a = c.moving.inside in
    let m = c.copy_next-moved.new.members in
    let did = c.copy_next-moved.ensures in
    let before = g.B.Bank.faults_of a.bank in
    let after = g.B.Bank.faults_of c.copy_next-moved.new.bank in
    let roles = c.copy_next-moved.result.roles in
    let spares = c.copy_next-moved.result.spares in
    let end = c.ops-end-2.result in
    let event = Refused c.in-Some-refusal.refusal in
    called-over g.B.Bank.given g.B.Bank.tape g.B.Bank.faults_of c.moving.view_is (called did.bank.grows did.moved
    (ended-behind (g.B.Bank.tape c.copy_next-moved.new.bank) c.append_after_losses.new.epoch.first a.epoch.entries.items c.args.who end (losses_of roles spares) event c.append_after_losses.ensures.items c.ops-end-2.ensures.count)
    (losses-behind a.members m before after a.epoch.entries.items a.epoch.entries.items c.append_after_losses.new.epoch.entries.items c.args.who end roles spares event did.since tt refl c.append_after_losses.ensures.items)
    did.bank.counts
    (record { uuid = c.append_after_losses.ensures.uuid; given = c.append_after_losses.ensures.given; first = c.append_after_losses.ensures.first; backup = refl; work = refl; ahead = refl; limit = refl })
    (λ t. (was.kept.recorded t).begun))

-- ---- the stripe is copied

pub invariant_of-moving-2 : goal.invariant_of-moving-2
invariant_of-moving-2 g c =
    goes-on (c.moving.invariant.moves (ap (λ p. is_reshaping p.parts.members.newest) c.moving.view_is ∙ c.requires.active)).0 (
    let was = (c.moving.invariant.moves (ap (λ p. is_reshaping p.parts.members.newest) c.moving.view_is ∙ c.requires.active)).1 in
    let a = c.moving.inside in
    let given = g.B.Bank.given a.bank in
    let scope = scope_in given a.epoch.uuid a.epoch.given a.backup in
    let goes : IsCallGoing a.epoch.entries.items c.args.who = subst (λ p. IsCallGoing p.parts.entries c.args.who) (sym c.moving.view_is) c.requires.open in
    let steps : 1 ≤ a.steps = subst (λ p. 1 ≤ p.parts.steps) (sym c.moving.view_is) c.requires.room in
    let m = c.copy_next-moved.new.members in
    let did = c.copy_next-moved.ensures in
    let tape = g.B.Bank.tape a.bank in
    let tape' = g.B.Bank.tape c.copy_next-moved.new.bank in
    let roles = c.copy_next-moved.result.roles in
    let spares = c.copy_next-moved.result.spares in
    let end = c.ops-end-2.result in
    let left = c.left_in_reshape-left.result in
    let span = c.in-Entered.span in
    let due = due-is _ c.in-Entered.span c.in-Entered.copied c.in-Entered.sectioned (subst (λ p. IsCopyDue p) (sym c.moving.view_is) c.requires.due) c.in-Entered.is in
    let tried : IsStripeTried g.B.Bank.tells given tape tape' a.members m c.in-Entered.span c.in-Entered.copied roles =
    record {
      moved = did.moved;
      since = missing-since roles did.moved did.since.vacant;
      clean = did.clean;
      rise = risen-told did.rise;
      unused = did.unused;
      others = did.others;
      safe = did.safe;
    } in
    let kept = copied-kept g.B.Bank.tells given tape tape' scope a.epoch.first a.epoch.entries.items a.members m (bears a.work) a.work.resync a.course a.ahead a.window.items
    c.in-Entered.span c.in-Entered.copied c.in-Entered.sectioned c.args.who end roles spares was.kept due.0 (live-of was.kept c.in_default.ensures) due.1 goes (not_254 c.args.who.caller c.requires.caller) c.ops-end-2.ensures.count did.bank.grows tried
    left c.left_in_reshape-left.ensures (λ t list copied. did.stands c.in_default-refusal.is t list (subst (λ (l : List ℕ). IsCopied span (take (512 * (span.hi - span.lo)) l) (tail_of a.members.newest) list) (sym c.as_slice.ensures.value) copied)) in
    with-buffer (let len = (with_items a.buffer c.copy_next-moved.new.scratch).ok.0 in let ok = a.buffer.ok.0 in omega (arith, len, ok, was.buffer_fits))
    (ready-moved (entries_of c.args.who end (losses_of roles spares ++ Step CopiesStripe left ∷ [])) was did.bank.grows (shapes-moved given a.members m did.moved) kept (λ next is. entered-sure c.in-Entered.span next (c.in-Entered.copied + 1) c.in-Entered.sectioned is)
    refl did.bank.counts (behind-keeps c.args.who end roles spares (Step CopiesStripe left) (λ n. refl) (λ limit. refl)) (behind-whole tape' (scope_in given a.epoch.uuid a.epoch.given a.backup) a.epoch.first a.epoch.entries.items c.args.who end roles spares (Step CopiesStripe left) did.moved (missing-since roles did.moved did.since.vacant)) did.bank.same (scope-same given a.backup did.bank.same c.append_after_losses-2.ensures.uuid c.append_after_losses-2.ensures.given) c.append_after_losses-2.ensures.first refl c.append_after_losses-2.ensures.items
    (room-after-49 a.steps a.epoch.entries.room c.append_after_losses-2.new.epoch.entries.room was.room_left c.append_after_losses-2.ensures.room steps)))

pub returns-clause-called : goal.returns-clause-called
returns-clause-called g c =
    let was = (alike c.moving.invariant) in
    let a = c.moving.inside in
    let m = c.copy_next-moved.new.members in
    let did = c.copy_next-moved.ensures in
    let before = g.B.Bank.faults_of a.bank in
    let after = g.B.Bank.faults_of c.copy_next-moved.new.bank in
    let roles = c.copy_next-moved.result.roles in
    let spares = c.copy_next-moved.result.spares in
    let end = c.ops-end-2.result in
    let event = Step CopiesStripe c.left_in_reshape-left.result in
    called-over g.B.Bank.given g.B.Bank.tape g.B.Bank.faults_of c.moving.view_is (called did.bank.grows did.moved
    (ended-behind (g.B.Bank.tape c.copy_next-moved.new.bank) c.append_after_losses-2.new.epoch.first a.epoch.entries.items c.args.who end (losses_of roles spares) event c.append_after_losses-2.ensures.items c.ops-end-2.ensures.count)
    (losses-behind a.members m before after a.epoch.entries.items a.epoch.entries.items c.append_after_losses-2.new.epoch.entries.items c.args.who end roles spares event did.since tt refl c.append_after_losses-2.ensures.items)
    did.bank.counts
    (record { uuid = c.append_after_losses-2.ensures.uuid; given = c.append_after_losses-2.ensures.given; first = c.append_after_losses-2.ensures.first; backup = refl; work = refl; ahead = refl; limit = refl })
    (λ t. (was.kept.recorded t).begun))

pub returns-clause-copied : goal.returns-clause-copied
returns-clause-copied g c =
    λ s n b is.
    copied-more c.moving.inside.course c.in-Entered.span s c.in-Entered.copied n c.in-Entered.sectioned b c.in-Entered.is (ap (λ p. p.course) c.moving.view_is ∙ is)

pub returns-clause-caused : goal.returns-clause-caused
returns-clause-caused g c =
    rw (← c.moving.view_is) (zero-le _, λ refusal many. never-both c.moving.inside.members refusal c.in_default.ensures many)

pub returns-in-Some-refusal-clause-caused : goal.returns-in-Some-refusal-clause-caused
returns-in-Some-refusal-clause-caused g c =
    let a = c.moving.inside in
    let m = c.copy_next-moved.new.members in
    let refusal = c.in-Some-refusal.refusal in
    let many = many-of m c.copy_next-moved.result.refusal refusal c.in-Some-refusal.is c.copy_next-moved.ensures.refused in
    rw (← c.moving.view_is) (refused-for (list_length a.members.newest) 0 AreTooMany a.members m refusal (too-many-of m refusal many) (zero-le _) many)

-- ---- the window

pub copy_next-moved-requires-clause-wide : goal.copy_next-moved-requires-clause-wide
copy_next-moved-requires-clause-wide g c =
    let was = (c.moving.invariant.moves (ap (λ p. is_reshaping p.parts.members.newest) c.moving.view_is ∙ c.requires.active)).1 in
    let a = c.moving.inside in
    let due = due-is _ c.in-Entered.span c.in-Entered.copied c.in-Entered.sectioned (subst (λ p. IsCopyDue p) (sym c.moving.view_is) c.requires.due) c.in-Entered.is in
    let window = (subst (λ (k : Course). IsWindowOf a.members.newest k.window) due.0 was.kept.course_is.window).0 in
    let reach = window-reach a.members.newest was.kept.members_are.placed.fit c.in-Entered.span window in
    let wide = was.wide in
    omega (arith, reach, wide)

pub overflow_add-moving : goal.overflow_add-moving
overflow_add-moving g c =
    let a = c.moving.inside in
    let fit = (c.moving.invariant.moves (ap (λ p. is_reshaping p.parts.members.newest) c.moving.view_is ∙ c.requires.active)).1.kept.members_are.placed.fit in
    let span = c.in-Entered.span in
    let due = due-is _ span c.in-Entered.copied c.in-Entered.sectioned (subst (λ p. IsCopyDue p) (sym c.moving.view_is) c.requires.due) c.in-Entered.is in
    let window = (subst (λ (k : Course). IsWindowOf a.members.newest k.window) due.0 (c.moving.invariant.moves (ap (λ p. is_reshaping p.parts.members.newest) c.moving.view_is ∙ c.requires.active)).1.kept.course_is.window).0 in
    let below = ceiling_below span.hi (stripe_sectors (final_shape a.members.newest)) (let some = (bounded (final_shape a.members.newest) fit.valid.final).some_stripe in omega (arith, some)) in
    let inside = window-inside a.members.newest fit span window in
    let short = list-short a.members.newest fit in
    let more = due.1 in
    omega (arith, below, inside, short, more)

pub returns-clause-left : goal.returns-clause-left
returns-clause-left g c =
    let a = c.moving.inside in
    let due = due-is _ c.in-Entered.span c.in-Entered.copied c.in-Entered.sectioned (subst (λ p. IsCopyDue p) (sym c.moving.view_is) c.requires.due) c.in-Entered.is in
    left-falls (g.B.Bank.given a.bank) a.members c.copy_next-moved.new.members a.work.resync a.course a.ahead c.in-Entered.span c.in-Entered.copied c.in-Entered.sectioned
    (c.moving.invariant.moves (ap (λ p. is_reshaping p.parts.members.newest) c.moving.view_is ∙ c.requires.active)).1.kept.members_are.active due.0 due.1 c.copy_next-moved.ensures.moved ∙ ap (λ p. left_in p.parts.work p.parts.members p.course p.ahead) c.moving.view_is

-- ---- by what stands above

pub check_going-requires : goal.check_going-requires
check_going-requires g c = subst (λ p. IsCallGoing p.parts.entries c.args.who) (sym c.moving.view_is) c.requires.open

pub returns-in-Some-clause-caused : goal.returns-in-Some-clause-caused
returns-in-Some-clause-caused g c =
    let a = c.moving.inside in
    subst (λ p. IsRefusedFor (list_length p.parts.members.newest) 0 AreTooMany p.parts.members a.members c.in-Some.refusal) c.moving.view_is (many-refused a.members c.in-Some.refusal c.in-Some.ensures)

pub returns-in-Some-clause-room : goal.returns-in-Some-clause-room
returns-in-Some-clause-room g c =
    one-less c.moving.inside.steps (subst (λ p. 1 ≤ p.parts.steps) (sym c.moving.view_is) c.requires.room) ∙ ap (λ p. p.parts.steps) c.moving.view_is

pub returns-in-Some-refusal-clause-room : goal.returns-in-Some-refusal-clause-room
returns-in-Some-refusal-clause-room g c =
    one-less c.moving.inside.steps (subst (λ p. 1 ≤ p.parts.steps) (sym c.moving.view_is) c.requires.room) ∙ ap (λ p. p.parts.steps) c.moving.view_is

pub returns-clause-room : goal.returns-clause-room
returns-clause-room g c =
    one-less c.moving.inside.steps (subst (λ p. 1 ≤ p.parts.steps) (sym c.moving.view_is) c.requires.room) ∙ ap (λ p. p.parts.steps) c.moving.view_is

pub append_after_losses-requires-clause-room : goal.append_after_losses-requires-clause-room
append_after_losses-requires-clause-room g c =
    room-49 c.moving.inside.steps c.moving.inside.epoch.entries.room (subst (λ p. 1 ≤ p.parts.steps) (sym c.moving.view_is) c.requires.room) (alike c.moving.invariant).room_left

pub append_after_losses-requires-2-clause-room : goal.append_after_losses-requires-2-clause-room
append_after_losses-requires-2-clause-room g c =
    room-49 c.moving.inside.steps c.moving.inside.epoch.entries.room (subst (λ p. 1 ≤ p.parts.steps) (sym c.moving.view_is) c.requires.room) (alike c.moving.invariant).room_left

pub append_after_losses-requires-clause-number : goal.append_after_losses-requires-clause-number
append_after_losses-requires-clause-number g c = c.check_going.ensures

pub append_after_losses-requires-2-clause-number : goal.append_after_losses-requires-2-clause-number
append_after_losses-requires-2-clause-number g c = c.check_going.ensures

pub append_entry-requires-clause-number : goal.append_entry-requires-clause-number
append_entry-requires-clause-number g c = c.check_going.ensures

pub returns-in-Some-refusal-clause-entered : goal.returns-in-Some-refusal-clause-entered
returns-in-Some-refusal-clause-entered g c =
    rw (← c.moving.view_is) (record { roles = c.copy_next-moved.result.roles; spares = c.copy_next-moved.result.spares; end = c.ops-end-2.result; is = c.append_after_losses.ensures.items })

pub returns-clause-entered : goal.returns-clause-entered
returns-clause-entered g c =
    step-entered c.copy_next-moved.result.roles c.copy_next-moved.result.spares c.ops-end-2.result c.append_after_losses-2.ensures.items c.left_in_reshape-left.ensures (ap (λ p. p.parts.entries) c.moving.view_is)

pub copy_next-moved-requires-clause-stands : goal.copy_next-moved-requires-clause-stands
copy_next-moved-requires-clause-stands g c =
    record {
      slots = (alike c.moving.invariant).kept.slots;
      placed = (alike c.moving.invariant).kept.members_are.placed;
      unlost = (alike c.moving.invariant).kept.members_are.unlost;
      free = (alike c.moving.invariant).kept.members_are.free;
    }

pub returns-in-Some-refusal-clause-given : goal.returns-in-Some-refusal-clause-given
returns-in-Some-refusal-clause-given g c = c.copy_next-moved.ensures.bank.same ∙ ap (λ p. g.B.Bank.given p.parts.bank) c.moving.view_is

pub returns-clause-given : goal.returns-clause-given
returns-clause-given g c = c.copy_next-moved.ensures.bank.same ∙ ap (λ p. g.B.Bank.given p.parts.bank) c.moving.view_is

pub returns-in-Some-clause-given : goal.returns-in-Some-clause-given
returns-in-Some-clause-given g c = ap (λ p. g.B.Bank.given p.parts.bank) c.moving.view_is

pub returns-in-Some-clause-course : goal.returns-in-Some-clause-course
returns-in-Some-clause-course g c = ap (λ p. p.course) c.moving.view_is

pub returns-in-Some-refusal-clause-course : goal.returns-in-Some-refusal-clause-course
returns-in-Some-refusal-clause-course g c = ap (λ p. p.course) c.moving.view_is

pub returns-in-Some-clause-clean : goal.returns-in-Some-clause-clean
returns-in-Some-clause-clean g c = ap (λ p. is_clean p.parts.members.newest) c.moving.view_is

pub returns-in-Some-refusal-clause-clean : goal.returns-in-Some-refusal-clause-clean
returns-in-Some-refusal-clause-clean g c = c.copy_next-moved.ensures.clean ∙ ap (λ p. is_clean p.parts.members.newest) c.moving.view_is

pub returns-clause-clean : goal.returns-clause-clean
returns-clause-clean g c = c.copy_next-moved.ensures.clean ∙ ap (λ p. is_clean p.parts.members.newest) c.moving.view_is

pub left_in_reshape-left-requires-clause-reshape : goal.left_in_reshape-left-requires-clause-reshape
left_in_reshape-left-requires-clause-reshape g c =
    let moved = c.copy_next-moved.ensures.moved in
    under-way-of c.copy_next-moved.new.members.newest moved.placed.fit (moved.reshape.reshaping ∙ (c.moving.invariant.moves (ap (λ p. is_reshaping p.parts.members.newest) c.moving.view_is ∙ c.requires.active)).1.kept.members_are.active)

pub left_in_reshape-left-requires-clause-fit : goal.left_in_reshape-left-requires-clause-fit
left_in_reshape-left-requires-clause-fit g c =
    let moved = c.copy_next-moved.ensures.moved in
    moved.placed.fit

pub left_in_reshape-left-requires-clause-sound : goal.left_in_reshape-left-requires-clause-sound
left_in_reshape-left-requires-clause-sound g c =
    sound-same (phases_of c.moving.inside.ahead) (shapes-moved (g.B.Bank.given c.moving.inside.bank) c.moving.inside.members c.copy_next-moved.new.members c.copy_next-moved.ensures.moved) (c.moving.invariant.moves (ap (λ p. is_reshaping p.parts.members.newest) c.moving.view_is ∙ c.requires.active)).1.planned

pub left_in_reshape-left-requires-clause-zeroed : goal.left_in_reshape-left-requires-clause-zeroed
left_in_reshape-left-requires-clause-zeroed g c =
    let moved = c.copy_next-moved.ensures.moved in
    zeroed-moved _ moved (c.moving.invariant.moves (ap (λ p. is_reshaping p.parts.members.newest) c.moving.view_is ∙ c.requires.active)).1.kept.course_is.few

pub copy_next-moved-requires-clause-more : goal.copy_next-moved-requires-clause-more
copy_next-moved-requires-clause-more g c =
    let due = due-is _ c.in-Entered.span c.in-Entered.copied c.in-Entered.sectioned (subst (λ p. IsCopyDue p) (sym c.moving.view_is) c.requires.due) c.in-Entered.is in
    due.1

pub overflow_sub-moving : goal.overflow_sub-moving
overflow_sub-moving g c = subst (λ p. 1 ≤ p.parts.steps) (sym c.moving.view_is) c.requires.room

pub copy_next-moved-requires-clause-scratch : goal.copy_next-moved-requires-clause-scratch
copy_next-moved-requires-clause-scratch g c = scratch-of _ _ c.as_mut_slice.ensures.value (alike c.moving.invariant).buffer_fits

pub returns-in-Some-clause-active : goal.returns-in-Some-clause-active
returns-in-Some-clause-active g c = (ap (λ p. is_reshaping p.parts.members.newest) c.moving.view_is ∙ c.requires.active)

pub returns-in-Some-refusal-clause-active : goal.returns-in-Some-refusal-clause-active
returns-in-Some-refusal-clause-active g c = c.copy_next-moved.ensures.moved.reshape.reshaping ∙ (ap (λ p. is_reshaping p.parts.members.newest) c.moving.view_is ∙ c.requires.active)

pub returns-clause-active : goal.returns-clause-active
returns-clause-active g c = c.copy_next-moved.ensures.moved.reshape.reshaping ∙ (ap (λ p. is_reshaping p.parts.members.newest) c.moving.view_is ∙ c.requires.active)
