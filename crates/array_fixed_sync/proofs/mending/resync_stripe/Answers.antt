use Rattle.std.proofs.Common.{◌≡◌, ◌≤◌, ◌<◌, ◌/◌, ◌+◌, [], ◌∷◌, ◌++◌, false, Some, inl, refl, sym, ◌∙◌, ap, subst, arith, Option, ℕ}
use Rattle.array_fixed_io.specs.raid_types_the_Shape.{Shape}
use Rattle.array_fixed_io.specs.sb_specs_Reading.{list_length, shape_of, is_reshaping}
use Rattle.array_fixed_io.specs.history_the_Event_TheVariants.{Refused, Step}
use Rattle.array_fixed_io.specs.history_the_StepKind_TheVariants.{ResyncStripe}
use Rattle.array_fixed_io.specs.history_Plain.{entries_of}
use Rattle.array_fixed_io.specs.array_members_Lacking.{AreLostSince, IsUnwritten}
use Rattle.array_fixed_io.specs.array_members_Status.{left_of}
use Rattle.array_fixed_io.proofs.array_members_LackingLaws.{lost-since, does-without}
use Rattle.array_fixed_io.proofs.array_members_Still.{count-still}
use Rattle.array_fixed_io.specs.history_append_Losing.{losses_of}
use Rattle.array_fixed_io.specs.sb_safe_updates_First.{write_refusal}
use Rattle.array_fixed_io.specs.array_call_specs_Calls.{HasStripeLeft, IsUnmendable, one_more, AreSparesFewer}
use Rattle.array_fixed_io.proofs.array_call_specs_LossLaws.{losses-behind, ended-behind}
use Rattle.array_fixed_io.proofs.array_call_specs_ReadyLaws.{scope-same}
use Rattle.array_fixed_io.proofs.array_call_specs_ReplyLaws.{unwritten-of, refused-for}
use Rattle.array_fixed_io.proofs.array_call_specs_StepsLeft.{left-mended, steps-fewer, steps-kept}
use Rattle.array_fixed_io.proofs.array_state_UnmendableLaws.{unmendable-of, unwritten-then}
use Rattle.array_fixed_io.proofs.array_call_laws_ResyncLaws.{is-pending, next-stripe}
use Rattle.array_fixed_io.specs.history_invariant_Recorded.{IsCallGoing}
use Rattle.array_fixed_io.specs.array_specs_Parts.{visible_size}
use Rattle.array_fixed_io.proofs.array_fixed_invariant_Resync.{IsResyncingStill}
use Rattle.array_fixed_io.proofs.array_specs_Called.{risen-told}
use Rattle.array_fixed_io.proofs.array_specs_Lengths.{alone-keeps, behind-keeps}
use Rattle.array_fixed_io.proofs.array_fixed_laws_Kept.{ready, rows-moved, with-buffers}
use Rattle.array_fixed_io.proofs.array_fixed_laws_Going.{step-going}
use Rattle.array_fixed_io.proofs.array_fixed_laws_StepLaws.{refused-of, shapes-moved, planned-same, stepped, fewer-more, kept-more}
use Rattle.array_fixed_io.proofs.array_fixed_laws_ResyncLaws.{mend-done, mend-refused}
use Rattle.array_fixed_io.proofs.array_fixed_laws_PlainBehind.{unmended-plain, plain-refused}
use Rattle.array_fixed_io.proofs.array_fixed_laws_PlainSteps.{mended-plain}
use Rattle.array_fixed_io.specs.array_members_Placed.{AreStillHeld}
use Rattle.array_fixed_io.proofs.array_members_Fit.{valid, short}
use Rattle.array_fixed_io.proofs.array_type_Rested.{one-less, pending-left, room-of-step, shape-few, shape-known, stripe-fits, stripe-more}
use Rattle.array_fixed_io.proofs.array_type_Asked.{sound-behind}
use Rattle.array_fixed_io.proofs.array_type_Alike.{alike, stays-at-rest}
use Rattle.array_fixed_sync.proofs.mending.resync_stripe.Goals as goal

-- ---- refused before anything is done

pub refuse_step-requires-clause-why : goal.refuse_step-requires-clause-why
refuse_step-requires-clause-why g c = rw (← c.still.view_is) c.in-Some.ensures.why

pub refuse_step-requires-clause-synced : goal.refuse_step-requires-clause-synced
refuse_step-requires-clause-synced g c = λ none. absurd (subst (λ o. HasStripeLeft o c.args.still.now.parts.members) none c.requires.pending)

pub returns-in-Some-clause-caused : goal.returns-in-Some-clause-caused
returns-in-Some-clause-caused g c =
    let a = c.still.inside in
    let refusal = c.in-Some.refusal in
    let why : IsUnmendable c.args.still.now.parts.members refusal = subst (λ p. IsUnmendable p.parts.members refusal) c.still.view_is c.in-Some.ensures.why in
    let same = c.refuse_step.ensures.members in
    refused-for (list_length c.args.still.now.parts.members.newest) 0 IsUnmendable c.args.still.now.parts.members c.refuse_step.new.still.parts.members refusal
    (unwritten-of _ false a.members refusal (unwritten-then a.members refusal (c.still.invariant.rests (ap (λ p. is_reshaping p.parts.members.newest) c.still.view_is ∙ c.requires.still)).1.kept.members_are.still c.in-Some.ensures.why)) (omega arith) (subst (λ m. IsUnmendable m refusal) (sym same) why)

-- ---- the stripe

pub resync_rows-mended-requires-clause-shape : goal.resync_rows-mended-requires-clause-shape
resync_rows-mended-requires-clause-shape g c = inl c.shape_in-shape.ensures

pub resync_rows-mended-requires-clause-stripe : goal.resync_rows-mended-requires-clause-stripe
resync_rows-mended-requires-clause-stripe g c =
    let a = c.still.inside in
    let left : HasStripeLeft a.work.resync a.members = subst (λ p. HasStripeLeft p.parts.work.resync p.parts.members) (sym c.still.view_is) c.requires.pending in
    subst (λ (s : Shape). c.unwrap_or-stripe.result < a.members.newest.size / s.chunk) (sym c.shape_in-shape.ensures)
    (next-stripe a.work.resync a.members c.unwrap_or-stripe.result left c.unwrap_or-stripe.ensures).1

pub resync_rows-mended-requires-clause-dirty : goal.resync_rows-mended-requires-clause-dirty
resync_rows-mended-requires-clause-dirty g c =
    let a = c.still.inside in
    let left : HasStripeLeft a.work.resync a.members = subst (λ p. HasStripeLeft p.parts.work.resync p.parts.members) (sym c.still.view_is) c.requires.pending in
    (alike c.still.invariant).kept.dirty (does-without a.members (λ refusal many. c.in_default.ensures.why refusal (inl many))) (is-pending a.work.resync a.members left)

-- ---- it isn't mended

pub invariant_of-still : goal.invariant_of-still
invariant_of-still g c =
    stays-at-rest (c.still.invariant.rests (ap (λ p. is_reshaping p.parts.members.newest) c.still.view_is ∙ c.requires.still)).0 (
    let was = (c.still.invariant.rests (ap (λ p. is_reshaping p.parts.members.newest) c.still.view_is ∙ c.requires.still)).1 in
    let here = was.kept.members_are in
    let a = c.still.inside in
    let given = g.B.Bank.given a.bank in
    let goes : IsCallGoing a.epoch.entries.items c.args.who = subst (λ p. IsCallGoing p.parts.entries c.args.who) (sym c.still.view_is) c.requires.open in
    let left : HasStripeLeft a.work.resync a.members = subst (λ p. HasStripeLeft p.parts.work.resync p.parts.members) (sym c.still.view_is) c.requires.pending in
    let some : 1 ≤ a.steps = subst (λ p. 1 ≤ p.parts.steps) (sym c.still.view_is) c.requires.room in
    let did = c.resync_rows-mended.ensures in
    let m = c.resync_rows-mended.new.members in
    let before = g.B.Bank.faults_of a.bank in
    let after = g.B.Bank.faults_of c.resync_rows-mended.new.bank in
    let roles = c.newly_unassigned-roles.result in
    let spares = c.resync_rows-mended.result.spares in
    let end = c.ops-end.result in
    let stripe = c.unwrap_or-stripe.result in
    let next = next-stripe a.work.resync a.members stripe left c.unwrap_or-stripe.ensures in
    let does = does-without a.members (λ refusal many. c.in_default.ensures.why refusal (inl many)) in
    let shape = c.shape_in-shape.result in
    let refusal = c.in-Some-refusal.refusal in
    let since : AreLostSince a.members m roles spares before after = lost-since given a.members m shape.disks c.unassigned_roles-before.result roles spares before after here.placed did.keeps.moved did.keeps.failed
    (ap (λ (s : Shape). s.disks) c.shape_in-shape.ensures ∙ sym (count-still a.members.newest here.still)) c.unassigned_roles-before.ensures c.newly_unassigned-roles.ensures in
    let leaves : IsResyncingStill g.B.Bank.tells given (g.B.Bank.tape a.bank) (g.B.Bank.tape c.resync_rows-mended.new.bank) a.members m roles spares before after shape stripe = record {
      moved = did.keeps.moved;
      since = since;
      grows = did.keeps.bank.grows;
      dirty = did.dirty;
      rise = risen-told did.keeps.rise;
      stands = did.stands;
      others = did.others;
      kept = did.kept;
      rebuilt = did.rebuilt;
      safe = did.safe;
    } in
    with-buffers (omega (arith, was.rows_fit, did.rows)) (rw did.buffer was.buffer_fits) (ready (entries_of c.args.who end (losses_of roles spares ++ Refused refusal ∷ [])) was (rows-moved given a.members m did.keeps.moved)
    (mend-refused a.ahead c.args.who end roles spares shape stripe was.kept does goes c.requires.caller c.ops-end.ensures.count c.shape_in-shape.ensures next.0 leaves refusal
    (refused-of (IsUnwritten shape false m) c.resync_rows-mended.result.refusal refusal c.in-Some-refusal.is did.refused))
    (plain-refused was c.args.who end goes c.requires.caller c.ops-end.ensures.count did.keeps.bank.grows did.keeps.moved since refusal
    (unmended-plain given a.members m did.keeps.moved a.work.resync (visible_size a.members a.limit) stripe shape refusal c.shape_in-shape.ensures next.0
    (refused-of (IsUnwritten shape false m) c.resync_rows-mended.result.refusal refusal c.in-Some-refusal.is did.refused)))
    did.keeps.bank.counts (behind-keeps c.args.who end roles spares (Refused refusal ∷ []) (alone-keeps c.args.who end (Refused refusal) (λ n. refl) (λ limit. refl)))
    did.keeps.bank.same (scope-same given a.backup did.keeps.bank.same c.append_after_losses.ensures.uuid c.append_after_losses.ensures.given) c.append_after_losses.ensures.first refl c.append_after_losses.ensures.items
    (omega (arith, c.append_after_losses.ensures.room, was.room_left, some))))

pub returns-in-Some-refusal-clause-stepped : goal.returns-in-Some-refusal-clause-stepped
returns-in-Some-refusal-clause-stepped g c =
    let was = (c.still.invariant.rests (ap (λ p. is_reshaping p.parts.members.newest) c.still.view_is ∙ c.requires.still)).1 in
    let here = was.kept.members_are in
    let a = c.still.inside in
    let given = g.B.Bank.given a.bank in
    let did = c.resync_rows-mended.ensures in
    let m = c.resync_rows-mended.new.members in
    let before = g.B.Bank.faults_of a.bank in
    let after = g.B.Bank.faults_of c.resync_rows-mended.new.bank in
    let roles = c.newly_unassigned-roles.result in
    let spares = c.resync_rows-mended.result.spares in
    let end = c.ops-end.result in
    let refusal = c.in-Some-refusal.refusal in
    let since : AreLostSince a.members m roles spares before after = lost-since given a.members m c.shape_in-shape.result.disks c.unassigned_roles-before.result roles spares before after here.placed did.keeps.moved did.keeps.failed
    (ap (λ (s : Shape). s.disks) c.shape_in-shape.ensures ∙ sym (count-still a.members.newest here.still)) c.unassigned_roles-before.ensures c.newly_unassigned-roles.ensures in
    rw (← c.still.view_is) (stepped did.keeps.bank.grows (shapes-moved did.keeps.moved)
    (ended-behind (g.B.Bank.tape c.resync_rows-mended.new.bank) c.append_after_losses.new.epoch.first a.epoch.entries.items c.args.who end (losses_of roles spares) (Refused refusal) c.append_after_losses.ensures.items c.ops-end.ensures.count)
    did.keeps.failed.roles
    (losses-behind a.members m before after a.epoch.entries.items a.epoch.entries.items c.append_after_losses.new.epoch.entries.items c.args.who end roles spares (Refused refusal) since tt refl c.append_after_losses.ensures.items)
    did.keeps.bank.counts
    (record { uuid = c.append_after_losses.ensures.uuid; given = c.append_after_losses.ensures.given; first = c.append_after_losses.ensures.first; backup = refl; ahead = refl; limit = refl })
    (λ t. (was.kept.recorded t).begun))

pub returns-in-Some-refusal-clause-stays : goal.returns-in-Some-refusal-clause-stays
returns-in-Some-refusal-clause-stays g c =
    let was = (c.still.invariant.rests (ap (λ p. is_reshaping p.parts.members.newest) c.still.view_is ∙ c.requires.still)).1 in
    let here = was.kept.members_are in
    let a = c.still.inside in
    let did = c.resync_rows-mended.ensures in
    let m = c.resync_rows-mended.new.members in
    let before = g.B.Bank.faults_of a.bank in
    let after = g.B.Bank.faults_of c.resync_rows-mended.new.bank in
    let roles = c.newly_unassigned-roles.result in
    let spares = c.resync_rows-mended.result.spares in
    let since : AreLostSince a.members m roles spares before after = lost-since (g.B.Bank.given a.bank) a.members m c.shape_in-shape.result.disks c.unassigned_roles-before.result roles spares before after here.placed did.keeps.moved did.keeps.failed
    (ap (λ (s : Shape). s.disks) c.shape_in-shape.ensures ∙ sym (count-still a.members.newest here.still)) c.unassigned_roles-before.ensures c.newly_unassigned-roles.ensures in
    rw (← c.still.view_is) (kept-more (planned-same a.ahead (shapes-moved did.keeps.moved))
    (steps-kept a.work c.args.who c.ops-end.result (Refused c.in-Some-refusal.refusal ∷ []) did.keeps.moved since c.append_after_losses.ensures.items))

pub returns-in-Some-refusal-clause-caused : goal.returns-in-Some-refusal-clause-caused
returns-in-Some-refusal-clause-caused g c =
    let a = c.still.inside in
    let m = c.resync_rows-mended.new.members in
    let refusal = c.in-Some-refusal.refusal in
    let shape = c.shape_in-shape.result in
    let why = refused-of (IsUnwritten shape false m) c.resync_rows-mended.result.refusal refusal c.in-Some-refusal.is c.resync_rows-mended.ensures.refused in
    rw (← c.still.view_is) (refused-for (list_length a.members.newest) 0 IsUnmendable a.members m refusal (unwritten-of shape false m refusal why) (omega arith)
    (unmendable-of shape m refusal (c.shape_in-shape.ensures ∙ sym c.resync_rows-mended.ensures.keeps.moved.shape) why))

pub returns-in-Some-refusal-clause-first : goal.returns-in-Some-refusal-clause-first
returns-in-Some-refusal-clause-first g c =
    let m = c.resync_rows-mended.new.members in
    let refusal = c.in-Some-refusal.refusal in
    rw (← c.still.view_is) (subst (λ (s : Shape). write_refusal s false m ≡ Some refusal) c.shape_in-shape.ensures
    (refused-of (λ r. write_refusal c.shape_in-shape.result false m ≡ Some r) c.resync_rows-mended.result.refusal refusal c.in-Some-refusal.is c.resync_rows-mended.ensures.first))

-- ---- it is mended

pub invariant_of-still-2 : goal.invariant_of-still-2
invariant_of-still-2 g c =
    stays-at-rest (c.still.invariant.rests (ap (λ p. is_reshaping p.parts.members.newest) c.still.view_is ∙ c.requires.still)).0 (
    let was = (c.still.invariant.rests (ap (λ p. is_reshaping p.parts.members.newest) c.still.view_is ∙ c.requires.still)).1 in
    let here = was.kept.members_are in
    let a = c.still.inside in
    let given = g.B.Bank.given a.bank in
    let goes : IsCallGoing a.epoch.entries.items c.args.who = subst (λ p. IsCallGoing p.parts.entries c.args.who) (sym c.still.view_is) c.requires.open in
    let pending : HasStripeLeft a.work.resync a.members = subst (λ p. HasStripeLeft p.parts.work.resync p.parts.members) (sym c.still.view_is) c.requires.pending in
    let some : 1 ≤ a.steps = subst (λ p. 1 ≤ p.parts.steps) (sym c.still.view_is) c.requires.room in
    let did = c.resync_rows-mended.ensures in
    let m = c.resync_rows-mended.new.members in
    let before = g.B.Bank.faults_of a.bank in
    let after = g.B.Bank.faults_of c.resync_rows-mended.new.bank in
    let roles = c.newly_unassigned-roles.result in
    let spares = c.resync_rows-mended.result.spares in
    let end = c.ops-end.result in
    let stripe = c.unwrap_or-stripe.result in
    let next = next-stripe a.work.resync a.members stripe pending c.unwrap_or-stripe.ensures in
    let does = does-without a.members (λ refusal many. c.in_default.ensures.why refusal (inl many)) in
    let shape = c.shape_in-shape.result in
    let left = c.left_at_rest-left.result in
    let since : AreLostSince a.members m roles spares before after = lost-since given a.members m shape.disks c.unassigned_roles-before.result roles spares before after here.placed did.keeps.moved did.keeps.failed
    (ap (λ (s : Shape). s.disks) c.shape_in-shape.ensures ∙ sym (count-still a.members.newest here.still)) c.unassigned_roles-before.ensures c.newly_unassigned-roles.ensures in
    let leaves : IsResyncingStill g.B.Bank.tells given (g.B.Bank.tape a.bank) (g.B.Bank.tape c.resync_rows-mended.new.bank) a.members m roles spares before after shape stripe = record {
      moved = did.keeps.moved;
      since = since;
      grows = did.keeps.bank.grows;
      dirty = did.dirty;
      rise = risen-told did.keeps.rise;
      stands = did.stands;
      others = did.others;
      kept = did.kept;
      rebuilt = did.rebuilt;
      safe = did.safe;
    } in
    with-buffers (omega (arith, was.rows_fit, did.rows)) (rw did.buffer was.buffer_fits) (ready (entries_of c.args.who end (losses_of roles spares ++ Step ResyncStripe left ∷ [])) was (rows-moved given a.members m did.keeps.moved)
    (mend-done a.ahead c.args.who end roles spares shape stripe was.kept does goes c.requires.caller c.ops-end.ensures.count c.shape_in-shape.ensures next.0 leaves left next.1 c.left_at_rest-left.ensures
    (did.mended c.in_default-refusal.is))
    (mended-plain was c.args.who end goes c.requires.caller c.ops-end.ensures.count did.keeps.bank.grows did.keeps.moved since left stripe next.0 next.1 c.left_at_rest-left.ensures)
    did.keeps.bank.counts (behind-keeps c.args.who end roles spares (Step ResyncStripe left ∷ []) (alone-keeps c.args.who end (Step ResyncStripe left) (λ n. refl) (λ limit. refl)))
    did.keeps.bank.same (scope-same given a.backup did.keeps.bank.same c.append_after_losses-2.ensures.uuid c.append_after_losses-2.ensures.given) c.append_after_losses-2.ensures.first refl c.append_after_losses-2.ensures.items
    (omega (arith, c.append_after_losses-2.ensures.room, was.room_left, some))))

pub returns-clause-stepped : goal.returns-clause-stepped
returns-clause-stepped g c =
    let was = (c.still.invariant.rests (ap (λ p. is_reshaping p.parts.members.newest) c.still.view_is ∙ c.requires.still)).1 in
    let here = was.kept.members_are in
    let a = c.still.inside in
    let given = g.B.Bank.given a.bank in
    let did = c.resync_rows-mended.ensures in
    let m = c.resync_rows-mended.new.members in
    let before = g.B.Bank.faults_of a.bank in
    let after = g.B.Bank.faults_of c.resync_rows-mended.new.bank in
    let roles = c.newly_unassigned-roles.result in
    let spares = c.resync_rows-mended.result.spares in
    let end = c.ops-end.result in
    let event = Step ResyncStripe c.left_at_rest-left.result in
    let since : AreLostSince a.members m roles spares before after = lost-since given a.members m c.shape_in-shape.result.disks c.unassigned_roles-before.result roles spares before after here.placed did.keeps.moved did.keeps.failed
    (ap (λ (s : Shape). s.disks) c.shape_in-shape.ensures ∙ sym (count-still a.members.newest here.still)) c.unassigned_roles-before.ensures c.newly_unassigned-roles.ensures in
    rw (← c.still.view_is) (stepped did.keeps.bank.grows (shapes-moved did.keeps.moved)
    (ended-behind (g.B.Bank.tape c.resync_rows-mended.new.bank) c.append_after_losses-2.new.epoch.first a.epoch.entries.items c.args.who end (losses_of roles spares) event c.append_after_losses-2.ensures.items c.ops-end.ensures.count)
    did.keeps.failed.roles
    (losses-behind a.members m before after a.epoch.entries.items a.epoch.entries.items c.append_after_losses-2.new.epoch.entries.items c.args.who end roles spares event since tt refl c.append_after_losses-2.ensures.items)
    did.keeps.bank.counts
    (record { uuid = c.append_after_losses-2.ensures.uuid; given = c.append_after_losses-2.ensures.given; first = c.append_after_losses-2.ensures.first; backup = refl; ahead = refl; limit = refl })
    (λ t. (was.kept.recorded t).begun))

pub returns-clause-left : goal.returns-clause-left
returns-clause-left g c =
    let was = (c.still.invariant.rests (ap (λ p. is_reshaping p.parts.members.newest) c.still.view_is ∙ c.requires.still)).1 in
    let here = was.kept.members_are in
    let a = c.still.inside in
    let pending : HasStripeLeft a.work.resync a.members = subst (λ p. HasStripeLeft p.parts.work.resync p.parts.members) (sym c.still.view_is) c.requires.pending in
    let did = c.resync_rows-mended.ensures in
    let m = c.resync_rows-mended.new.members in
    let before = g.B.Bank.faults_of a.bank in
    let after = g.B.Bank.faults_of c.resync_rows-mended.new.bank in
    let roles = c.newly_unassigned-roles.result in
    let spares = c.resync_rows-mended.result.spares in
    let stripe = c.unwrap_or-stripe.result in
    let next = next-stripe a.work.resync a.members stripe pending c.unwrap_or-stripe.ensures in
    let since : AreLostSince a.members m roles spares before after = lost-since (g.B.Bank.given a.bank) a.members m c.shape_in-shape.result.disks c.unassigned_roles-before.result roles spares before after here.placed did.keeps.moved did.keeps.failed
    (ap (λ (s : Shape). s.disks) c.shape_in-shape.ensures ∙ sym (count-still a.members.newest here.still)) c.unassigned_roles-before.ensures c.newly_unassigned-roles.ensures in
    rw (← c.still.view_is) (fewer-more (planned-same a.ahead (shapes-moved did.keeps.moved))
    (steps-fewer (record a.work { resync = Some (stripe + 1) }) (left_of a.work a.members) c.args.who c.ops-end.result (Step ResyncStripe c.left_at_rest-left.result ∷ []) did.keeps.moved since
    (left-mended a.work a.members stripe next.0 next.1) c.append_after_losses-2.ensures.items))

pub returns-clause-caused : goal.returns-clause-caused
returns-clause-caused g c = rw (← c.still.view_is) (omega arith, c.in_default.ensures.why)

pub returns-clause-first : goal.returns-clause-first
returns-clause-first g c = rw (← c.still.view_is) (sym c.in_default.ensures.first)

-- ---- the call goes on

pub returns-in-Some-refusal-clause-open : goal.returns-in-Some-refusal-clause-open
returns-in-Some-refusal-clause-open g c =
    step-going c.args.who c.ops-end.result c.newly_unassigned-roles.result c.resync_rows-mended.result.spares (Refused c.in-Some-refusal.refusal) c.requires.open tt (ap (λ p. p.parts.entries) c.still.view_is) c.append_after_losses.ensures.items

pub returns-clause-open : goal.returns-clause-open
returns-clause-open g c =
    step-going c.args.who c.ops-end.result c.newly_unassigned-roles.result c.resync_rows-mended.result.spares (Step ResyncStripe c.left_at_rest-left.result) c.requires.open tt (ap (λ p. p.parts.entries) c.still.view_is) c.append_after_losses-2.ensures.items

-- ---- what is handed down, and what is left of it

pub check_going-requires : goal.check_going-requires
check_going-requires g c = subst (λ p. IsCallGoing p.parts.entries c.args.who) (sym c.still.view_is) c.requires.open

pub returns-in-Some-clause-stays : goal.returns-in-Some-clause-stays
returns-in-Some-clause-stays g c = c.refuse_step.ensures.stays

pub shape_in-shape-requires : goal.shape_in-shape-requires
shape_in-shape-requires g c = valid (g.B.Bank.given c.still.inside.bank) c.still.inside.members (alike c.still.invariant).kept.members_are.placed

pub unassigned_roles-before-requires-clause-known : goal.unassigned_roles-before-requires-clause-known
unassigned_roles-before-requires-clause-known g c =
    shape-known (g.B.Bank.given c.still.inside.bank) c.still.inside.members (alike c.still.invariant).kept.members_are.placed c.shape_in-shape.result c.shape_in-shape.ensures

pub unassigned_roles-before-requires-clause-few : goal.unassigned_roles-before-requires-clause-few
unassigned_roles-before-requires-clause-few g c =
    shape-few (g.B.Bank.given c.still.inside.bank) c.still.inside.members (alike c.still.invariant).kept.members_are.placed c.shape_in-shape.result c.shape_in-shape.ensures

pub resync_rows-mended-requires-clause-stands : goal.resync_rows-mended-requires-clause-stands
resync_rows-mended-requires-clause-stands g c =
    record { slots = (alike c.still.invariant).kept.slots; placed = (alike c.still.invariant).kept.members_are.placed; unlost = (alike c.still.invariant).kept.members_are.unlost; free = (alike c.still.invariant).kept.members_are.free }

pub resync_rows-mended-requires-clause-rows : goal.resync_rows-mended-requires-clause-rows
resync_rows-mended-requires-clause-rows g c = (alike c.still.invariant).rows_fit

pub resync_rows-mended-requires-clause-buffer : goal.resync_rows-mended-requires-clause-buffer
resync_rows-mended-requires-clause-buffer g c = (alike c.still.invariant).buffer_fits

pub newly_unassigned-roles-requires-clause-known : goal.newly_unassigned-roles-requires-clause-known
newly_unassigned-roles-requires-clause-known g c =
    let moved = c.resync_rows-mended.ensures.keeps.moved in
    shape-known (g.B.Bank.given c.still.inside.bank) c.resync_rows-mended.new.members moved.placed c.shape_in-shape.result (c.shape_in-shape.ensures ∙ sym moved.shape)

pub newly_unassigned-roles-requires-clause-few : goal.newly_unassigned-roles-requires-clause-few
newly_unassigned-roles-requires-clause-few g c =
    shape-few (g.B.Bank.given c.still.inside.bank) c.still.inside.members (alike c.still.invariant).kept.members_are.placed c.shape_in-shape.result c.shape_in-shape.ensures

pub append_after_losses-requires-clause-room : goal.append_after_losses-requires-clause-room
append_after_losses-requires-clause-room g c =
    room-of-step c.still.inside.steps c.still.inside.epoch.entries.room (alike c.still.invariant).room_left (subst (λ p. 1 ≤ p.parts.steps) (sym c.still.view_is) c.requires.room)

pub append_after_losses-requires-clause-number : goal.append_after_losses-requires-clause-number
append_after_losses-requires-clause-number g c = c.check_going.ensures

pub returns-in-Some-refusal-clause-entered : goal.returns-in-Some-refusal-clause-entered
returns-in-Some-refusal-clause-entered g c =
    let end = c.ops-end.result in
    let roles = c.newly_unassigned-roles.result in
    let spares = c.resync_rows-mended.result.spares in
    let refusal = c.in-Some-refusal.refusal in
    record { roles = roles; spares = spares; end = end; is = c.append_after_losses.ensures.items ∙ ap (λ p. p.parts.entries ++ entries_of c.args.who end (losses_of roles spares ++ Refused refusal ∷ [])) c.still.view_is }

pub returns-in-Some-refusal-clause-work : goal.returns-in-Some-refusal-clause-work
returns-in-Some-refusal-clause-work g c = ap (λ p. p.parts.work) c.still.view_is

pub returns-in-Some-refusal-clause-room : goal.returns-in-Some-refusal-clause-room
returns-in-Some-refusal-clause-room g c = one-less c.still.inside.steps c.args.still.now.parts.steps (ap (λ p. p.parts.steps) c.still.view_is) c.requires.room

pub returns-in-Some-refusal-clause-given : goal.returns-in-Some-refusal-clause-given
returns-in-Some-refusal-clause-given g c = c.resync_rows-mended.ensures.keeps.bank.same ∙ ap (λ p. g.B.Bank.given p.parts.bank) c.still.view_is

pub overflow_add-still : goal.overflow_add-still
overflow_add-still g c =
    let a = c.still.inside in
    let left : HasStripeLeft a.work.resync a.members = subst (λ p. HasStripeLeft p.parts.work.resync p.parts.members) (sym c.still.view_is) c.requires.pending in
    stripe-fits (g.B.Bank.given a.bank) a.members (alike c.still.invariant).kept.members_are.placed c.unwrap_or-stripe.result (next-stripe a.work.resync a.members c.unwrap_or-stripe.result left c.unwrap_or-stripe.ensures).1

pub left_at_rest-left-requires-clause-shape : goal.left_at_rest-left-requires-clause-shape
left_at_rest-left-requires-clause-shape g c =
    valid (g.B.Bank.given c.still.inside.bank) c.resync_rows-mended.new.members c.resync_rows-mended.ensures.keeps.moved.placed

pub left_at_rest-left-requires-clause-size : goal.left_at_rest-left-requires-clause-size
left_at_rest-left-requires-clause-size g c =
    short (g.B.Bank.given c.still.inside.bank) c.resync_rows-mended.new.members c.resync_rows-mended.ensures.keeps.moved.placed

pub left_at_rest-left-requires-clause-roles : goal.left_at_rest-left-requires-clause-roles
left_at_rest-left-requires-clause-roles g c =
    let m = c.resync_rows-mended.new.members in
    shape-known (g.B.Bank.given c.still.inside.bank) m c.resync_rows-mended.ensures.keeps.moved.placed (shape_of m.newest) refl

pub left_at_rest-left-requires-clause-progress : goal.left_at_rest-left-requires-clause-progress
left_at_rest-left-requires-clause-progress g c =
    let a = c.still.inside in
    let left : HasStripeLeft a.work.resync a.members = subst (λ p. HasStripeLeft p.parts.work.resync p.parts.members) (sym c.still.view_is) c.requires.pending in
    stripe-more c.unwrap_or-stripe.result c.resync_rows-mended.ensures.keeps.moved (next-stripe a.work.resync a.members c.unwrap_or-stripe.result left c.unwrap_or-stripe.ensures).1

pub left_at_rest-left-requires-clause-sound : goal.left_at_rest-left-requires-clause-sound
left_at_rest-left-requires-clause-sound g c =
    sound-behind c.still.inside.ahead c.resync_rows-mended.ensures.keeps.moved (c.still.invariant.rests (ap (λ p. is_reshaping p.parts.members.newest) c.still.view_is ∙ c.requires.still)).1.planned

pub append_after_losses-requires-2-clause-room : goal.append_after_losses-requires-2-clause-room
append_after_losses-requires-2-clause-room g c =
    room-of-step c.still.inside.steps c.still.inside.epoch.entries.room (alike c.still.invariant).room_left (subst (λ p. 1 ≤ p.parts.steps) (sym c.still.view_is) c.requires.room)

pub append_after_losses-requires-2-clause-number : goal.append_after_losses-requires-2-clause-number
append_after_losses-requires-2-clause-number g c = c.check_going.ensures

pub returns-clause-entered : goal.returns-clause-entered
returns-clause-entered g c =
    let who = c.args.who in
    let end = c.ops-end.result in
    let roles = c.newly_unassigned-roles.result in
    let spares = c.resync_rows-mended.result.spares in
    record {
      roles = roles;
      spares = spares;
      end = end;
      is = c.append_after_losses-2.ensures.items ∙ ap (λ p. p.parts.entries ++ entries_of who end (losses_of roles spares ++ Step ResyncStripe c.left_at_rest-left.result ∷ [])) c.still.view_is
          ∙ ap (λ (n : ℕ). c.args.still.now.parts.entries ++ entries_of who end (losses_of roles spares ++ Step ResyncStripe n ∷ [])) c.left_at_rest-left.ensures;
    }

pub returns-clause-work : goal.returns-clause-work
returns-clause-work g c =
    let a = c.still.inside in
    let stripe = c.unwrap_or-stripe.result in
    let left : HasStripeLeft a.work.resync a.members = subst (λ p. HasStripeLeft p.parts.work.resync p.parts.members) (sym c.still.view_is) c.requires.pending in
    let next = next-stripe a.work.resync a.members stripe left c.unwrap_or-stripe.ensures in
    ap (λ (o : Option ℕ). record a.work { resync = one_more o }) (sym next.0) ∙ ap (λ p. record p.parts.work { resync = one_more p.parts.work.resync }) c.still.view_is

pub returns-clause-closable : goal.returns-clause-closable
returns-clause-closable g c =
    λ none.
    let stripe = c.unwrap_or-stripe.result in
    absurd (pending-left (record c.still.inside.work { resync = Some (stripe + 1) }) c.resync_rows-mended.new.members c.still.inside.ahead (stripe + 1) refl none)

pub returns-clause-dirty : goal.returns-clause-dirty
returns-clause-dirty g c = c.resync_rows-mended.ensures.dirty

pub returns-clause-room : goal.returns-clause-room
returns-clause-room g c = one-less c.still.inside.steps c.args.still.now.parts.steps (ap (λ p. p.parts.steps) c.still.view_is) c.requires.room

pub returns-clause-given : goal.returns-clause-given
returns-clause-given g c = c.resync_rows-mended.ensures.keeps.bank.same ∙ ap (λ p. g.B.Bank.given p.parts.bank) c.still.view_is

-- ---- what it leaves of the members

pub returns-in-Some-refusal-clause-held : goal.returns-in-Some-refusal-clause-held
returns-in-Some-refusal-clause-held g c =
    subst (λ p. AreStillHeld p.parts.members c.resync_rows-mended.new.members) c.still.view_is c.resync_rows-mended.ensures.keeps.moved.held

pub returns-in-Some-refusal-clause-spares : goal.returns-in-Some-refusal-clause-spares
returns-in-Some-refusal-clause-spares g c =
    subst (λ p. AreSparesFewer p.parts.members c.resync_rows-mended.new.members) c.still.view_is c.resync_rows-mended.ensures.keeps.moved.fewer

pub returns-clause-held : goal.returns-clause-held
returns-clause-held g c =
    subst (λ p. AreStillHeld p.parts.members c.resync_rows-mended.new.members) c.still.view_is c.resync_rows-mended.ensures.keeps.moved.held

pub returns-clause-spares : goal.returns-clause-spares
returns-clause-spares g c =
    subst (λ p. AreSparesFewer p.parts.members c.resync_rows-mended.new.members) c.still.view_is c.resync_rows-mended.ensures.keeps.moved.fewer

pub returns-in-Some-clause-still : goal.returns-in-Some-clause-still
returns-in-Some-clause-still g c = c.refuse_step.ensures.still

pub returns-in-Some-refusal-clause-still : goal.returns-in-Some-refusal-clause-still
returns-in-Some-refusal-clause-still g c = c.resync_rows-mended.ensures.keeps.moved.reshape.reshaping ∙ (ap (λ p. is_reshaping p.parts.members.newest) c.still.view_is ∙ c.requires.still)

pub returns-clause-still : goal.returns-clause-still
returns-clause-still g c = c.resync_rows-mended.ensures.keeps.moved.reshape.reshaping ∙ (ap (λ p. is_reshaping p.parts.members.newest) c.still.view_is ∙ c.requires.still)
