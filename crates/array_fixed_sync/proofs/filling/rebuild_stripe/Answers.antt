use Rattle.std.proofs.Common.{◌≡◌, ℕ, ◌≤◌, ◌<◌, ◌+◌, [], ◌∷◌, ◌++◌, List, Option, None, length, inl, inr, refl, sym, ◌∙◌, ap, subst, arith}
use Rattle.std.specs.Prelude.{IfSome}
use Rattle.std.proofs.lemmas.List.Elements.{All-nil}
use Rattle.array_fixed_io.specs.raid_types_the_Shape.{Shape}
use Rattle.array_fixed_io.proofs.raid_layout_Limits.{limited}
use Rattle.array_fixed_io.specs.sb_specs_Reading.{shape_of, is_clean, list_length, is_reshaping}
use Rattle.array_fixed_io.specs.history_the_Entry.{Entry}
use Rattle.array_fixed_io.specs.history_the_Event_TheVariants.{Lost, Refused, Step}
use Rattle.array_fixed_io.specs.history_the_LostCause_TheVariants.{Fault}
use Rattle.array_fixed_io.specs.history_the_StepKind_TheVariants.{RebuildStripe}
use Rattle.array_fixed_io.specs.history_Plain.{entries_of}
use Rattle.array_fixed_io.specs.history_Transfers.{last_end_from}
use Rattle.array_fixed_io.specs.array_members_the_Work.{Work}
use Rattle.array_fixed_io.specs.array_members_Lacking.{AreLostSince, AreTooMany, LacksTooMany}
use Rattle.array_fixed_io.specs.array_members_Rebuilding.{Held}
use Rattle.array_fixed_io.specs.array_members_Status.{rebuilt_of, left_of, stripes_of}
use Rattle.array_fixed_io.proofs.array_members_Fit.{valid, short}
use Rattle.array_fixed_io.proofs.array_members_LackingLaws.{lost-since, never-both}
use Rattle.array_fixed_io.proofs.array_members_Still.{count-still}
use Rattle.array_fixed_io.specs.history_append_Losing.{losses_of}
use Rattle.array_fixed_io.proofs.history_append_CallLaws.{losses-are}
use Rattle.array_fixed_io.specs.array_call_specs_Kept.{scope_in}
use Rattle.array_fixed_io.specs.array_call_specs_Calls.{IsLossBy, WasSpare, HasStripeUnbuilt, AreStepsFewer, with_rebuilt, AreSparesFewer, AreStepsKept}
use Rattle.array_fixed_io.proofs.array_call_specs_LossLaws.{losses-tail, losses-behind, ended-behind}
use Rattle.array_fixed_io.proofs.array_call_specs_ReadyLaws.{scope-same}
use Rattle.array_fixed_io.proofs.array_call_specs_ReplyLaws.{too-many-of, refused-for}
use Rattle.array_fixed_io.proofs.array_call_specs_StepsLeft.{left-filled, steps-fewer, steps-kept}
use Rattle.array_fixed_io.proofs.array_call_laws_RebuildLaws.{losses-open, losses-end}
use Rattle.array_fixed_io.specs.history_invariant_Recorded.{IsCallGoing}
use Rattle.array_fixed_io.specs.array_fixed_invariant_Still.{IsStill}
use Rattle.array_fixed_io.proofs.array_fixed_invariant_Rebuilding.{IsFillingStill}
use Rattle.array_fixed_io.specs.array_specs_Parts.{visible_size, still_left}
use Rattle.array_fixed_io.proofs.array_specs_Called.{risen-told}
use Rattle.array_fixed_io.proofs.array_specs_Lengths.{alone-keeps, behind-keeps}
use Rattle.array_fixed_io.proofs.array_fixed_laws_Kept.{ready, rows-moved, with-buffers}
use Rattle.array_fixed_io.proofs.array_fixed_laws_Going.{still-going, step-going}
use Rattle.array_fixed_io.proofs.array_fixed_laws_StepLaws.{refused-of, shapes-moved, planned-same, stepped, fewer-more, kept-more, losses-keep}
use Rattle.array_fixed_io.proofs.array_fixed_laws_RebuildLaws.{alone, held-some, recovering-held, among-vacant, fill-done, fill-gone, fill-refused}
use Rattle.array_fixed_io.proofs.array_fixed_laws_PlainBehind.{lacks-here, plain-lost, plain-refused}
use Rattle.array_fixed_io.proofs.array_fixed_laws_PlainSteps.{filled-plain}
use Rattle.array_fixed_io.proofs.array_type_Asked.{known-at, known-behind, role-at, role-of-shape, role-behind, sound-behind, next-stripe, step-taken, room-for-step, room-for-losses, done-at-all, refused-at-all, step-entered, one-entered, room-after, room-after-losses}
use Rattle.array_fixed_io.specs.array_members_Placed.{AreStillHeld}
use Rattle.std.proofs.Math.Nat.{le_trans}
use Rattle.array_fixed_io.proofs.array_type_Alike.{alike, stays-at-rest}
use Rattle.array_fixed_sync.proofs.filling.rebuild_stripe.Goals as goal

-- ---- refused before anything is done

pub refuse_step-requires-clause-why : goal.refuse_step-requires-clause-why
refuse_step-requires-clause-why g c = rw (← c.still.view_is) (inl c.in-Some.ensures)

pub refuse_step-requires-clause-synced : goal.refuse_step-requires-clause-synced
refuse_step-requires-clause-synced g c = rw (← c.still.view_is) (λ none. c.in-Some.ensures)

pub returns-in-Some-clause-caused : goal.returns-in-Some-clause-caused
returns-in-Some-clause-caused g c =
    let refusal = c.in-Some.refusal in
    let many : AreTooMany c.args.still.now.parts.members refusal = subst (λ p. AreTooMany p.parts.members refusal) c.still.view_is c.in-Some.ensures in
    refused-for (list_length c.args.still.now.parts.members.newest) 0 AreTooMany c.args.still.now.parts.members c.refuse_step.new.still.parts.members refusal
    (too-many-of c.still.inside.members refusal c.in-Some.ensures) (omega arith) (subst (λ m. AreTooMany m refusal) (sym c.refuse_step.ensures.members) many)

-- ---- the role

pub unassigned_roles-before-requires-clause-few : goal.unassigned_roles-before-requires-clause-few
unassigned_roles-before-requires-clause-few g c =
    let a = c.still.inside in
    let most = (limited (shape_of a.members.newest) (valid (g.B.Bank.given a.bank) a.members (alike c.still.invariant).kept.members_are.placed)).most in
    let disks = ap (λ (s : Shape). s.disks) c.shape_in-shape.ensures in
    omega (arith, most, disks)

pub newly_unassigned-roles-requires-clause-few : goal.newly_unassigned-roles-requires-clause-few
newly_unassigned-roles-requires-clause-few g c =
    let a = c.still.inside in
    let most = (limited (shape_of a.members.newest) (valid (g.B.Bank.given a.bank) a.members (alike c.still.invariant).kept.members_are.placed)).most in
    let disks = ap (λ (s : Shape). s.disks) c.shape_in-shape.ensures in
    omega (arith, most, disks)

pub bounds-still-inside-role : goal.bounds-still-inside-role
bounds-still-inside-role g c =
    let a = c.still.inside in
    let here = (c.still.invariant.rests (ap (λ p. is_reshaping p.parts.members.newest) c.still.view_is ∙ c.requires.still)).1.kept.members_are in
    let pending : HasStripeUnbuilt a.work a.members c.args.role = subst (λ p. HasStripeUnbuilt p.parts.work p.parts.members c.args.role) (sym c.still.view_is) c.requires.pending in
    let most = (limited (shape_of a.members.newest) (valid (g.B.Bank.given a.bank) a.members here.placed)).most in
    let below = subst (λ (n : ℕ). c.args.role < n) (count-still a.members.newest here.still) pending.0.0 in
    omega (arith, most, below)

pub set_rebuilt-requires : goal.set_rebuilt-requires
set_rebuilt-requires g c =
    let a = c.still.inside in
    let here = (c.still.invariant.rests (ap (λ p. is_reshaping p.parts.members.newest) c.still.view_is ∙ c.requires.still)).1.kept.members_are in
    let pending : HasStripeUnbuilt a.work a.members c.args.role = subst (λ p. HasStripeUnbuilt p.parts.work p.parts.members c.args.role) (sym c.still.view_is) c.requires.pending in
    let most = (limited (shape_of a.members.newest) (valid (g.B.Bank.given a.bank) a.members here.placed)).most in
    let below = subst (λ (n : ℕ). c.args.role < n) (count-still a.members.newest here.still) pending.0.0 in
    omega (arith, most, below)

-- ---- it isn't rebuilt

pub invariant_of-still : goal.invariant_of-still
invariant_of-still g c =
    stays-at-rest (c.still.invariant.rests (ap (λ p. is_reshaping p.parts.members.newest) c.still.view_is ∙ c.requires.still)).0 (
    let was = (c.still.invariant.rests (ap (λ p. is_reshaping p.parts.members.newest) c.still.view_is ∙ c.requires.still)).1 in
    let here = was.kept.members_are in
    let a = c.still.inside in
    let given = g.B.Bank.given a.bank in
    let goes : IsCallGoing a.epoch.entries.items c.args.who = subst (λ p. IsCallGoing p.parts.entries c.args.who) (sym c.still.view_is) c.requires.open in
    let some : 1 ≤ a.steps = subst (λ p. 1 ≤ p.parts.steps) (sym c.still.view_is) c.requires.room in
    let did = c.fill_and_name-filled.ensures in
    let m = c.fill_and_name-filled.new.members in
    let before = g.B.Bank.faults_of a.bank in
    let after = g.B.Bank.faults_of c.fill_and_name-filled.new.bank in
    let roles = c.newly_unassigned-roles.result in
    let spares = c.fill_and_name-filled.result.spares in
    let end = c.ops-end.result in
    let tape = g.B.Bank.tape a.bank in
    let tape' = g.B.Bank.tape c.fill_and_name-filled.new.bank in
    let role = c.args.role in
    let slot = c.in-Some-recovering_slot.slot in
    let pending : HasStripeUnbuilt a.work a.members role = subst (λ p. HasStripeUnbuilt p.parts.work p.parts.members role) (sym c.still.view_is) c.requires.pending in
    let below : role < (shape_of a.members.newest).disks = subst (λ (n : ℕ). role < n) (count-still a.members.newest here.still) pending.0.0 in
    let since : AreLostSince a.members m roles spares before after = lost-since given a.members m c.shape_in-shape.result.disks c.unassigned_roles-before.result roles spares before after here.placed did.moved did.failed
    (ap (λ (s : Shape). s.disks) c.shape_in-shape.ensures ∙ sym (count-still a.members.newest here.still)) c.unassigned_roles-before.ensures c.newly_unassigned-roles.ensures in
    let leaves : IsFillingStill g.B.Bank.tells given tape tape' a.members m role slot roles spares before after c.shape_in-shape.result (rebuilt_of a.work role) = record {
      recovers = c.in-Some-recovering_slot.ensures.some;
      moved = did.moved;
      since = since;
      grows = did.grows;
      clean = did.clean;
      rise = risen-told did.rise;
      others = did.others;
      safe = did.safe;
    } in
    let refusal = c.in-Some-refusal.refusal in
    with-buffers (le_trans was.rows_fit did.rows) (subst (λ (n : ℕ). 1048576 ≤ n) (sym did.buffer) was.buffer_fits) (ready (entries_of c.args.who end (losses_of roles spares ++ Refused refusal ∷ [])) was (rows-moved given a.members m did.moved)
    (fill-refused a.ahead c.args.who end role slot roles spares c.shape_in-shape.result was.kept c.in_default.ensures goes c.requires.caller c.ops-end.ensures.count c.shape_in-shape.ensures below leaves refusal
    (refused-of (LacksTooMany c.shape_in-shape.result m) c.fill_and_name-filled.result.refusal refusal c.in-Some-refusal.is did.refused))
    (plain-refused was c.args.who end goes c.requires.caller c.ops-end.ensures.count did.grows did.moved since refusal
    (lacks-here (visible_size a.members a.limit) a.work.resync c.shape_in-shape.result m refusal (c.shape_in-shape.ensures ∙ sym did.moved.shape)
    (refused-of (LacksTooMany c.shape_in-shape.result m) c.fill_and_name-filled.result.refusal refusal c.in-Some-refusal.is did.refused)))
    did.counts (behind-keeps c.args.who end roles spares (Refused refusal ∷ []) (alone-keeps c.args.who end (Refused refusal) (λ n. refl) (λ limit. refl)))
    did.given (scope-same given a.backup did.given c.append_after_losses.ensures.uuid c.append_after_losses.ensures.given) c.append_after_losses.ensures.first refl c.append_after_losses.ensures.items
    (room-after was.room_left some c.append_after_losses.ensures.room)))

pub returns-in-Some-refusal-clause-stepped : goal.returns-in-Some-refusal-clause-stepped
returns-in-Some-refusal-clause-stepped g c =
    let was = (c.still.invariant.rests (ap (λ p. is_reshaping p.parts.members.newest) c.still.view_is ∙ c.requires.still)).1 in
    let here = was.kept.members_are in
    let a = c.still.inside in
    let given = g.B.Bank.given a.bank in
    let did = c.fill_and_name-filled.ensures in
    let m = c.fill_and_name-filled.new.members in
    let before = g.B.Bank.faults_of a.bank in
    let after = g.B.Bank.faults_of c.fill_and_name-filled.new.bank in
    let roles = c.newly_unassigned-roles.result in
    let spares = c.fill_and_name-filled.result.spares in
    let end = c.ops-end.result in
    let since : AreLostSince a.members m roles spares before after = lost-since given a.members m c.shape_in-shape.result.disks c.unassigned_roles-before.result roles spares before after here.placed did.moved did.failed
    (ap (λ (s : Shape). s.disks) c.shape_in-shape.ensures ∙ sym (count-still a.members.newest here.still)) c.unassigned_roles-before.ensures c.newly_unassigned-roles.ensures in
    let event = Refused c.in-Some-refusal.refusal in
    rw (← c.still.view_is) (stepped did.grows (shapes-moved did.moved)
    (ended-behind (g.B.Bank.tape c.fill_and_name-filled.new.bank) c.append_after_losses.new.epoch.first a.epoch.entries.items c.args.who end (losses_of roles spares) event c.append_after_losses.ensures.items c.ops-end.ensures.count)
    did.failed.roles
    (losses-behind a.members m before after a.epoch.entries.items a.epoch.entries.items c.append_after_losses.new.epoch.entries.items c.args.who end roles spares event since tt refl c.append_after_losses.ensures.items)
    did.counts
    (record { uuid = c.append_after_losses.ensures.uuid; given = c.append_after_losses.ensures.given; first = c.append_after_losses.ensures.first; backup = refl; ahead = refl; limit = refl })
    (λ t. (was.kept.recorded t).begun))

pub returns-in-Some-refusal-clause-stays : goal.returns-in-Some-refusal-clause-stays
returns-in-Some-refusal-clause-stays g c =
    let was = (c.still.invariant.rests (ap (λ p. is_reshaping p.parts.members.newest) c.still.view_is ∙ c.requires.still)).1 in
    let here = was.kept.members_are in
    let a = c.still.inside in
    let given = g.B.Bank.given a.bank in
    let did = c.fill_and_name-filled.ensures in
    let m = c.fill_and_name-filled.new.members in
    let before = g.B.Bank.faults_of a.bank in
    let after = g.B.Bank.faults_of c.fill_and_name-filled.new.bank in
    let roles = c.newly_unassigned-roles.result in
    let spares = c.fill_and_name-filled.result.spares in
    let end = c.ops-end.result in
    let since : AreLostSince a.members m roles spares before after = lost-since given a.members m c.shape_in-shape.result.disks c.unassigned_roles-before.result roles spares before after here.placed did.moved did.failed
    (ap (λ (s : Shape). s.disks) c.shape_in-shape.ensures ∙ sym (count-still a.members.newest here.still)) c.unassigned_roles-before.ensures c.newly_unassigned-roles.ensures in
    subst (λ p. AreStepsKept p.parts.entries c.append_after_losses.new.epoch.entries.items (still_left p.parts.work p.parts.members p.ahead) (still_left a.work m a.ahead)) c.still.view_is
    (kept-more (planned-same a.ahead (shapes-moved did.moved)) (steps-kept a.work c.args.who end (Refused c.in-Some-refusal.refusal ∷ []) did.moved since c.append_after_losses.ensures.items))

pub returns-in-Some-refusal-clause-caused : goal.returns-in-Some-refusal-clause-caused
returns-in-Some-refusal-clause-caused g c =
    let a = c.still.inside in
    let m = c.fill_and_name-filled.new.members in
    let refusal = c.in-Some-refusal.refusal in
    let lacks = refused-of (LacksTooMany c.shape_in-shape.result m) c.fill_and_name-filled.result.refusal refusal c.in-Some-refusal.is c.fill_and_name-filled.ensures.refused in
    let many : AreTooMany m refusal = inl (subst (λ (s : Shape). LacksTooMany s m refusal) (c.shape_in-shape.ensures ∙ sym c.fill_and_name-filled.ensures.moved.shape) lacks) in
    rw (← c.still.view_is) (refused-for (list_length a.members.newest) 0 AreTooMany a.members m refusal (too-many-of m refusal many) (omega arith) many)

pub returns-in-Some-refusal-clause-held : goal.returns-in-Some-refusal-clause-held
returns-in-Some-refusal-clause-held g c =
    subst (λ p. AreStillHeld p.parts.members c.fill_and_name-filled.new.members) c.still.view_is c.fill_and_name-filled.ensures.moved.held

pub returns-in-Some-refusal-clause-spares : goal.returns-in-Some-refusal-clause-spares
returns-in-Some-refusal-clause-spares g c =
    subst (λ p. AreSparesFewer p.parts.members c.fill_and_name-filled.new.members) c.still.view_is c.fill_and_name-filled.ensures.moved.fewer

-- ---- the slot is lost

pub invariant_of-still-then-is_unassigned : goal.invariant_of-still-then-is_unassigned
invariant_of-still-then-is_unassigned g c =
    stays-at-rest (c.still.invariant.rests (ap (λ p. is_reshaping p.parts.members.newest) c.still.view_is ∙ c.requires.still)).0 (
    let was = (c.still.invariant.rests (ap (λ p. is_reshaping p.parts.members.newest) c.still.view_is ∙ c.requires.still)).1 in
    let here = was.kept.members_are in
    let a = c.still.inside in
    let given = g.B.Bank.given a.bank in
    let goes : IsCallGoing a.epoch.entries.items c.args.who = subst (λ p. IsCallGoing p.parts.entries c.args.who) (sym c.still.view_is) c.requires.open in
    let some : 1 ≤ a.steps = subst (λ p. 1 ≤ p.parts.steps) (sym c.still.view_is) c.requires.room in
    let did = c.fill_and_name-filled.ensures in
    let m = c.fill_and_name-filled.new.members in
    let before = g.B.Bank.faults_of a.bank in
    let after = g.B.Bank.faults_of c.fill_and_name-filled.new.bank in
    let roles = c.newly_unassigned-roles.result in
    let spares = c.fill_and_name-filled.result.spares in
    let end = c.ops-end.result in
    let tape = g.B.Bank.tape a.bank in
    let tape' = g.B.Bank.tape c.fill_and_name-filled.new.bank in
    let role = c.args.role in
    let slot = c.in-Some-recovering_slot.slot in
    let pending : HasStripeUnbuilt a.work a.members role = subst (λ p. HasStripeUnbuilt p.parts.work p.parts.members role) (sym c.still.view_is) c.requires.pending in
    let below : role < (shape_of a.members.newest).disks = subst (λ (n : ℕ). role < n) (count-still a.members.newest here.still) pending.0.0 in
    let synced : a.work.resync ≡ None = subst (λ p. p.parts.work.resync ≡ None) (sym c.still.view_is) c.requires.synced in
    let since : AreLostSince a.members m roles spares before after = lost-since given a.members m c.shape_in-shape.result.disks c.unassigned_roles-before.result roles spares before after here.placed did.moved did.failed
    (ap (λ (s : Shape). s.disks) c.shape_in-shape.ensures ∙ sym (count-still a.members.newest here.still)) c.unassigned_roles-before.ensures c.newly_unassigned-roles.ensures in
    let leaves : IsFillingStill g.B.Bank.tells given tape tape' a.members m role slot roles spares before after c.shape_in-shape.result (rebuilt_of a.work role) = record {
      recovers = c.in-Some-recovering_slot.ensures.some;
      moved = did.moved;
      since = since;
      grows = did.grows;
      clean = did.clean;
      rise = risen-told did.rise;
      others = did.others;
      safe = did.safe;
    } in
    let next : c.set_rebuilt.new.work ≡ with_rebuilt role (rebuilt_of a.work role + 1) a.work = c.set_rebuilt.ensures.work in
    let kept = subst (λ (w : Work). IsStill g.B.Bank.tells given tape' (scope_in given a.epoch.uuid a.epoch.given a.backup) a.epoch.first (a.epoch.entries.items ++ entries_of c.args.who end (losses_of roles spares)) m w (still_left w m a.ahead)) (sym next)
    (fill-gone a.ahead c.args.who end role slot roles spares c.shape_in-shape.result was.kept c.in_default.ensures goes c.requires.caller c.ops-end.ensures.count c.shape_in-shape.ensures below leaves
    synced c.set_rebuilt.ensures.known (sym c.is_unassigned.ensures ∙ c.if-is_unassigned.true)) in
    with-buffers (le_trans was.rows_fit did.rows) (subst (λ (n : ℕ). 1048576 ≤ n) (sym did.buffer) was.buffer_fits) (ready (entries_of c.args.who end (losses_of roles spares)) was (rows-moved given a.members m did.moved)
    kept (plain-lost was c.args.who end goes c.requires.caller c.ops-end.ensures.count did.grows did.moved since)
    did.counts (losses-keep c.args.who end roles spares)
    did.given (scope-same given a.backup did.given c.append_lost.ensures.uuid c.append_lost.ensures.given) c.append_lost.ensures.first refl c.append_lost.ensures.items
    (room-after-losses was.room_left some c.append_lost.ensures.room)))

pub returns-then-is_unassigned-clause-entered : goal.returns-then-is_unassigned-clause-entered
returns-then-is_unassigned-clause-entered g c =
    let was = (c.still.invariant.rests (ap (λ p. is_reshaping p.parts.members.newest) c.still.view_is ∙ c.requires.still)).1 in
    let here = was.kept.members_are in
    let a = c.still.inside in
    let given = g.B.Bank.given a.bank in
    let did = c.fill_and_name-filled.ensures in
    let m = c.fill_and_name-filled.new.members in
    let before = g.B.Bank.faults_of a.bank in
    let after = g.B.Bank.faults_of c.fill_and_name-filled.new.bank in
    let roles = c.newly_unassigned-roles.result in
    let spares = c.fill_and_name-filled.result.spares in
    let end = c.ops-end.result in
    let role = c.args.role in
    let slot = c.in-Some-recovering_slot.slot in
    let pending : HasStripeUnbuilt a.work a.members role = subst (λ p. HasStripeUnbuilt p.parts.work p.parts.members role) (sym c.still.view_is) c.requires.pending in
    let below : role < (shape_of a.members.newest).disks = subst (λ (n : ℕ). role < n) (count-still a.members.newest here.still) pending.0.0 in
    let since : AreLostSince a.members m roles spares before after = lost-since given a.members m c.shape_in-shape.result.disks c.unassigned_roles-before.result roles spares before after here.placed did.moved did.failed
    (ap (λ (s : Shape). s.disks) c.shape_in-shape.ensures ∙ sym (count-still a.members.newest here.still)) c.unassigned_roles-before.ensures c.newly_unassigned-roles.ensures in
    let vacant = sym c.is_unassigned.ensures ∙ c.if-is_unassigned.true in
    rw (← c.still.view_is) (inr (
      record {
        roles = roles;
        spares = spares;
        end = end;
        is = c.append_lost.ensures.items;
        among = among-vacant did.moved since role pending.0.0 (recovering-held a.members role slot c.in-Some-recovering_slot.ensures.some) vacant;
      },
      vacant,
    ))

pub returns-then-is_unassigned-clause-stepped : goal.returns-then-is_unassigned-clause-stepped
returns-then-is_unassigned-clause-stepped g c =
    let was = (c.still.invariant.rests (ap (λ p. is_reshaping p.parts.members.newest) c.still.view_is ∙ c.requires.still)).1 in
    let here = was.kept.members_are in
    let a = c.still.inside in
    let given = g.B.Bank.given a.bank in
    let did = c.fill_and_name-filled.ensures in
    let m = c.fill_and_name-filled.new.members in
    let before = g.B.Bank.faults_of a.bank in
    let after = g.B.Bank.faults_of c.fill_and_name-filled.new.bank in
    let roles = c.newly_unassigned-roles.result in
    let spares = c.fill_and_name-filled.result.spares in
    let end = c.ops-end.result in
    let role = c.args.role in
    let slot = c.in-Some-recovering_slot.slot in
    let pending : HasStripeUnbuilt a.work a.members role = subst (λ p. HasStripeUnbuilt p.parts.work p.parts.members role) (sym c.still.view_is) c.requires.pending in
    let below : role < (shape_of a.members.newest).disks = subst (λ (n : ℕ). role < n) (count-still a.members.newest here.still) pending.0.0 in
    let since : AreLostSince a.members m roles spares before after = lost-since given a.members m c.shape_in-shape.result.disks c.unassigned_roles-before.result roles spares before after here.placed did.moved did.failed
    (ap (λ (s : Shape). s.disks) c.shape_in-shape.ensures ∙ sym (count-still a.members.newest here.still)) c.unassigned_roles-before.ensures c.newly_unassigned-roles.ensures in
    let vacant = sym c.is_unassigned.ensures ∙ c.if-is_unassigned.true in
    let told = among-vacant did.moved since role pending.0.0 (recovering-held a.members role slot c.in-Some-recovering_slot.ensures.some) vacant in
    rw (← c.still.view_is) (stepped did.grows (shapes-moved did.moved)
    (λ t. subst (λ (l : List Entry). last_end_from c.append_lost.new.epoch.first l ≡ length (g.B.Bank.tape c.fill_and_name-filled.new.bank)) (sym c.append_lost.ensures.items)
    (losses-end c.append_lost.new.epoch.first a.epoch.entries.items c.args.who end (losses_of roles spares) (Lost role Fault) told ∙ c.ops-end.ensures.count t))
    did.failed.roles
    (losses-tail (Held a.members) (WasSpare a.members) a.members m (λ r s held. held) (λ s is. is) before after a.epoch.entries.items a.epoch.entries.items c.append_lost.new.epoch.entries.items c.args.who end roles spares since refl [] (All-nil (λ e. IsLossBy (Held a.members) (WasSpare a.members) before after e.event))
    (alone a.epoch.entries.items c.append_lost.new.epoch.entries.items c.args.who end (losses_of roles spares) c.append_lost.ensures.items))
    did.counts
    (record { uuid = c.append_lost.ensures.uuid; given = c.append_lost.ensures.given; first = c.append_lost.ensures.first; backup = refl; ahead = refl; limit = refl })
    (λ t. (was.kept.recorded t).begun))

pub returns-then-is_unassigned-clause-left : goal.returns-then-is_unassigned-clause-left
returns-then-is_unassigned-clause-left g c =
    let was = (c.still.invariant.rests (ap (λ p. is_reshaping p.parts.members.newest) c.still.view_is ∙ c.requires.still)).1 in
    let here = was.kept.members_are in
    let a = c.still.inside in
    let given = g.B.Bank.given a.bank in
    let did = c.fill_and_name-filled.ensures in
    let m = c.fill_and_name-filled.new.members in
    let before = g.B.Bank.faults_of a.bank in
    let after = g.B.Bank.faults_of c.fill_and_name-filled.new.bank in
    let roles = c.newly_unassigned-roles.result in
    let spares = c.fill_and_name-filled.result.spares in
    let end = c.ops-end.result in
    let role = c.args.role in
    let slot = c.in-Some-recovering_slot.slot in
    let pending : HasStripeUnbuilt a.work a.members role = subst (λ p. HasStripeUnbuilt p.parts.work p.parts.members role) (sym c.still.view_is) c.requires.pending in
    let below : role < (shape_of a.members.newest).disks = subst (λ (n : ℕ). role < n) (count-still a.members.newest here.still) pending.0.0 in
    let since : AreLostSince a.members m roles spares before after = lost-since given a.members m c.shape_in-shape.result.disks c.unassigned_roles-before.result roles spares before after here.placed did.moved did.failed
    (ap (λ (s : Shape). s.disks) c.shape_in-shape.ensures ∙ sym (count-still a.members.newest here.still)) c.unassigned_roles-before.ensures c.newly_unassigned-roles.ensures in
    subst (λ p. AreStepsFewer p.parts.entries c.append_lost.new.epoch.entries.items (still_left p.parts.work p.parts.members p.ahead) (still_left c.set_rebuilt.new.work m a.ahead)) c.still.view_is
    (subst (λ (w : Work). AreStepsFewer a.epoch.entries.items c.append_lost.new.epoch.entries.items (still_left a.work a.members a.ahead) (still_left w m a.ahead)) (sym c.set_rebuilt.ensures.work)
    (fewer-more (planned-same a.ahead (shapes-moved did.moved))
    (steps-fewer (with_rebuilt role (rebuilt_of a.work role + 1) a.work) (left_of a.work a.members) c.args.who end [] did.moved since
    (left-filled a.work a.members role slot below c.set_rebuilt.ensures.known c.in-Some-recovering_slot.ensures.some pending.1)
    (alone a.epoch.entries.items c.append_lost.new.epoch.entries.items c.args.who end (losses_of roles spares) c.append_lost.ensures.items))))

pub returns-then-is_unassigned-clause-work : goal.returns-then-is_unassigned-clause-work
returns-then-is_unassigned-clause-work g c =
    c.set_rebuilt.ensures.work ∙ ap (λ p. with_rebuilt c.args.role (rebuilt_of p.parts.work c.args.role + 1) p.parts.work) c.still.view_is

pub returns-then-is_unassigned-clause-caused : goal.returns-then-is_unassigned-clause-caused
returns-then-is_unassigned-clause-caused g c =
    rw (← c.still.view_is) (omega arith, λ refusal many. never-both c.still.inside.members refusal c.in_default.ensures many)

pub returns-then-is_unassigned-clause-held : goal.returns-then-is_unassigned-clause-held
returns-then-is_unassigned-clause-held g c =
    subst (λ p. AreStillHeld p.parts.members c.fill_and_name-filled.new.members) c.still.view_is c.fill_and_name-filled.ensures.moved.held

pub returns-then-is_unassigned-clause-spares : goal.returns-then-is_unassigned-clause-spares
returns-then-is_unassigned-clause-spares g c =
    subst (λ p. AreSparesFewer p.parts.members c.fill_and_name-filled.new.members) c.still.view_is c.fill_and_name-filled.ensures.moved.fewer

-- ---- it is rebuilt

pub invariant_of-still-2 : goal.invariant_of-still-2
invariant_of-still-2 g c =
    stays-at-rest (c.still.invariant.rests (ap (λ p. is_reshaping p.parts.members.newest) c.still.view_is ∙ c.requires.still)).0 (
    let was = (c.still.invariant.rests (ap (λ p. is_reshaping p.parts.members.newest) c.still.view_is ∙ c.requires.still)).1 in
    let here = was.kept.members_are in
    let a = c.still.inside in
    let given = g.B.Bank.given a.bank in
    let goes : IsCallGoing a.epoch.entries.items c.args.who = subst (λ p. IsCallGoing p.parts.entries c.args.who) (sym c.still.view_is) c.requires.open in
    let some : 1 ≤ a.steps = subst (λ p. 1 ≤ p.parts.steps) (sym c.still.view_is) c.requires.room in
    let did = c.fill_and_name-filled.ensures in
    let m = c.fill_and_name-filled.new.members in
    let before = g.B.Bank.faults_of a.bank in
    let after = g.B.Bank.faults_of c.fill_and_name-filled.new.bank in
    let roles = c.newly_unassigned-roles.result in
    let spares = c.fill_and_name-filled.result.spares in
    let end = c.ops-end.result in
    let tape = g.B.Bank.tape a.bank in
    let tape' = g.B.Bank.tape c.fill_and_name-filled.new.bank in
    let role = c.args.role in
    let slot = c.in-Some-recovering_slot.slot in
    let pending : HasStripeUnbuilt a.work a.members role = subst (λ p. HasStripeUnbuilt p.parts.work p.parts.members role) (sym c.still.view_is) c.requires.pending in
    let below : role < (shape_of a.members.newest).disks = subst (λ (n : ℕ). role < n) (count-still a.members.newest here.still) pending.0.0 in
    let synced : a.work.resync ≡ None = subst (λ p. p.parts.work.resync ≡ None) (sym c.still.view_is) c.requires.synced in
    let since : AreLostSince a.members m roles spares before after = lost-since given a.members m c.shape_in-shape.result.disks c.unassigned_roles-before.result roles spares before after here.placed did.moved did.failed
    (ap (λ (s : Shape). s.disks) c.shape_in-shape.ensures ∙ sym (count-still a.members.newest here.still)) c.unassigned_roles-before.ensures c.newly_unassigned-roles.ensures in
    let leaves : IsFillingStill g.B.Bank.tells given tape tape' a.members m role slot roles spares before after c.shape_in-shape.result (rebuilt_of a.work role) = record {
      recovers = c.in-Some-recovering_slot.ensures.some;
      moved = did.moved;
      since = since;
      grows = did.grows;
      clean = did.clean;
      rise = risen-told did.rise;
      others = did.others;
      safe = did.safe;
    } in
    let left = c.left_at_rest-left.result in
    let next : c.set_rebuilt.new.work ≡ with_rebuilt role (rebuilt_of a.work role + 1) a.work = c.set_rebuilt.ensures.work in
    let told = c.left_at_rest-left.ensures ∙ ap (λ (w : Work). still_left w m a.ahead) next in
    let kept = subst (λ (w : Work). IsStill g.B.Bank.tells given tape' (scope_in given a.epoch.uuid a.epoch.given a.backup) a.epoch.first (a.epoch.entries.items ++ entries_of c.args.who end (losses_of roles spares ++ Step RebuildStripe left ∷ [])) m w (still_left w m a.ahead)) (sym next)
    (fill-done a.ahead c.args.who end role slot roles spares c.shape_in-shape.result was.kept c.in_default.ensures goes c.requires.caller c.ops-end.ensures.count c.shape_in-shape.ensures below leaves
    left synced c.set_rebuilt.ensures.known pending.1 (sym c.is_unassigned.ensures ∙ c.if-is_unassigned.false) told (did.filled c.in_default-refusal.is)) in
    with-buffers (le_trans was.rows_fit did.rows) (subst (λ (n : ℕ). 1048576 ≤ n) (sym did.buffer) was.buffer_fits) (ready (entries_of c.args.who end (losses_of roles spares ++ Step RebuildStripe left ∷ [])) was (rows-moved given a.members m did.moved)
    kept (filled-plain was c.args.who end goes c.requires.caller c.ops-end.ensures.count did.grows did.moved since left role slot below c.set_rebuilt.ensures.known c.in-Some-recovering_slot.ensures.some pending.1 told)
    did.counts (behind-keeps c.args.who end roles spares (Step RebuildStripe left ∷ []) (alone-keeps c.args.who end (Step RebuildStripe left) (λ n. refl) (λ limit. refl)))
    did.given (scope-same given a.backup did.given c.append_after_losses-2.ensures.uuid c.append_after_losses-2.ensures.given) c.append_after_losses-2.ensures.first refl c.append_after_losses-2.ensures.items
    (room-after was.room_left some c.append_after_losses-2.ensures.room)))

pub returns-clause-stepped : goal.returns-clause-stepped
returns-clause-stepped g c =
    let was = (c.still.invariant.rests (ap (λ p. is_reshaping p.parts.members.newest) c.still.view_is ∙ c.requires.still)).1 in
    let here = was.kept.members_are in
    let a = c.still.inside in
    let given = g.B.Bank.given a.bank in
    let did = c.fill_and_name-filled.ensures in
    let m = c.fill_and_name-filled.new.members in
    let before = g.B.Bank.faults_of a.bank in
    let after = g.B.Bank.faults_of c.fill_and_name-filled.new.bank in
    let roles = c.newly_unassigned-roles.result in
    let spares = c.fill_and_name-filled.result.spares in
    let end = c.ops-end.result in
    let since : AreLostSince a.members m roles spares before after = lost-since given a.members m c.shape_in-shape.result.disks c.unassigned_roles-before.result roles spares before after here.placed did.moved did.failed
    (ap (λ (s : Shape). s.disks) c.shape_in-shape.ensures ∙ sym (count-still a.members.newest here.still)) c.unassigned_roles-before.ensures c.newly_unassigned-roles.ensures in
    let event = Step RebuildStripe c.left_at_rest-left.result in
    rw (← c.still.view_is) (stepped did.grows (shapes-moved did.moved)
    (ended-behind (g.B.Bank.tape c.fill_and_name-filled.new.bank) c.append_after_losses-2.new.epoch.first a.epoch.entries.items c.args.who end (losses_of roles spares) event c.append_after_losses-2.ensures.items c.ops-end.ensures.count)
    did.failed.roles
    (losses-behind a.members m before after a.epoch.entries.items a.epoch.entries.items c.append_after_losses-2.new.epoch.entries.items c.args.who end roles spares event since tt refl c.append_after_losses-2.ensures.items)
    did.counts
    (record { uuid = c.append_after_losses-2.ensures.uuid; given = c.append_after_losses-2.ensures.given; first = c.append_after_losses-2.ensures.first; backup = refl; ahead = refl; limit = refl })
    (λ t. (was.kept.recorded t).begun))

pub returns-clause-left : goal.returns-clause-left
returns-clause-left g c =
    let was = (c.still.invariant.rests (ap (λ p. is_reshaping p.parts.members.newest) c.still.view_is ∙ c.requires.still)).1 in
    let here = was.kept.members_are in
    let a = c.still.inside in
    let given = g.B.Bank.given a.bank in
    let did = c.fill_and_name-filled.ensures in
    let m = c.fill_and_name-filled.new.members in
    let before = g.B.Bank.faults_of a.bank in
    let after = g.B.Bank.faults_of c.fill_and_name-filled.new.bank in
    let roles = c.newly_unassigned-roles.result in
    let spares = c.fill_and_name-filled.result.spares in
    let end = c.ops-end.result in
    let role = c.args.role in
    let slot = c.in-Some-recovering_slot.slot in
    let pending : HasStripeUnbuilt a.work a.members role = subst (λ p. HasStripeUnbuilt p.parts.work p.parts.members role) (sym c.still.view_is) c.requires.pending in
    let below : role < (shape_of a.members.newest).disks = subst (λ (n : ℕ). role < n) (count-still a.members.newest here.still) pending.0.0 in
    let since : AreLostSince a.members m roles spares before after = lost-since given a.members m c.shape_in-shape.result.disks c.unassigned_roles-before.result roles spares before after here.placed did.moved did.failed
    (ap (λ (s : Shape). s.disks) c.shape_in-shape.ensures ∙ sym (count-still a.members.newest here.still)) c.unassigned_roles-before.ensures c.newly_unassigned-roles.ensures in
    subst (λ p. AreStepsFewer p.parts.entries c.append_after_losses-2.new.epoch.entries.items (still_left p.parts.work p.parts.members p.ahead) (still_left c.set_rebuilt.new.work m a.ahead)) c.still.view_is
    (subst (λ (w : Work). AreStepsFewer a.epoch.entries.items c.append_after_losses-2.new.epoch.entries.items (still_left a.work a.members a.ahead) (still_left w m a.ahead)) (sym c.set_rebuilt.ensures.work)
    (fewer-more (planned-same a.ahead (shapes-moved did.moved))
    (steps-fewer (with_rebuilt role (rebuilt_of a.work role + 1) a.work) (left_of a.work a.members) c.args.who end (Step RebuildStripe c.left_at_rest-left.result ∷ []) did.moved since
    (left-filled a.work a.members role slot below c.set_rebuilt.ensures.known c.in-Some-recovering_slot.ensures.some pending.1) c.append_after_losses-2.ensures.items)))

pub returns-clause-work : goal.returns-clause-work
returns-clause-work g c =
    c.set_rebuilt.ensures.work ∙ ap (λ p. with_rebuilt c.args.role (rebuilt_of p.parts.work c.args.role + 1) p.parts.work) c.still.view_is

pub returns-clause-caused : goal.returns-clause-caused
returns-clause-caused g c =
    rw (← c.still.view_is) (omega arith, λ refusal many. never-both c.still.inside.members refusal c.in_default.ensures many)

pub returns-clause-held : goal.returns-clause-held
returns-clause-held g c =
    subst (λ p. AreStillHeld p.parts.members c.fill_and_name-filled.new.members) c.still.view_is c.fill_and_name-filled.ensures.moved.held

pub returns-clause-spares : goal.returns-clause-spares
returns-clause-spares g c =
    subst (λ p. AreSparesFewer p.parts.members c.fill_and_name-filled.new.members) c.still.view_is c.fill_and_name-filled.ensures.moved.fewer

-- ---- the call goes on

pub returns-in-Some-refusal-clause-open : goal.returns-in-Some-refusal-clause-open
returns-in-Some-refusal-clause-open g c =
    step-going c.args.who c.ops-end.result c.newly_unassigned-roles.result c.fill_and_name-filled.result.spares (Refused c.in-Some-refusal.refusal) c.requires.open tt (ap (λ p. p.parts.entries) c.still.view_is) c.append_after_losses.ensures.items

pub returns-then-is_unassigned-clause-open : goal.returns-then-is_unassigned-clause-open
returns-then-is_unassigned-clause-open g c =
    let losses = losses_of c.newly_unassigned-roles.result c.fill_and_name-filled.result.spares in
    still-going c.args.who c.ops-end.result (losses ++ []) c.requires.open (losses-open losses [] (losses-are c.newly_unassigned-roles.result c.fill_and_name-filled.result.spares) tt) (ap (λ p. p.parts.entries) c.still.view_is)
    (alone c.still.inside.epoch.entries.items c.append_lost.new.epoch.entries.items c.args.who c.ops-end.result losses c.append_lost.ensures.items)

pub returns-clause-open : goal.returns-clause-open
returns-clause-open g c =
    step-going c.args.who c.ops-end.result c.newly_unassigned-roles.result c.fill_and_name-filled.result.spares (Step RebuildStripe c.left_at_rest-left.result) c.requires.open tt (ap (λ p. p.parts.entries) c.still.view_is) c.append_after_losses-2.ensures.items

pub returns-then-is_unassigned-clause-closable : goal.returns-then-is_unassigned-clause-closable
returns-then-is_unassigned-clause-closable g c =
    λ none. inr (inl (c.fill_and_name-filled.ensures.missing c.in_default-refusal.is (sym c.is_unassigned.ensures ∙ c.if-is_unassigned.true)))

pub returns-clause-closable : goal.returns-clause-closable
returns-clause-closable g c =
    let a = c.still.inside in
    let here = (c.still.invariant.rests (ap (λ p. is_reshaping p.parts.members.newest) c.still.view_is ∙ c.requires.still)).1.kept.members_are in
    let pending : HasStripeUnbuilt a.work a.members c.args.role = subst (λ p. HasStripeUnbuilt p.parts.work p.parts.members c.args.role) (sym c.still.view_is) c.requires.pending in
    let below = subst (λ (n : ℕ). c.args.role < n) (count-still a.members.newest here.still) pending.0.0 in
    λ none. absurd (held-some c.fill_and_name-filled.ensures.moved c.set_rebuilt.new.work a.ahead c.args.role c.in-Some-recovering_slot.slot below c.in-Some-recovering_slot.ensures.some
    (sym c.is_unassigned.ensures ∙ c.if-is_unassigned.false) none)

-- ---- what the calls ask

pub check_going-requires : goal.check_going-requires
check_going-requires g c = subst (λ p. IsCallGoing p.parts.entries c.args.who) (sym c.still.view_is) c.requires.open

pub unassigned_roles-before-requires-clause-known : goal.unassigned_roles-before-requires-clause-known
unassigned_roles-before-requires-clause-known g c = known-at (alike c.still.invariant).kept.members_are.placed c.shape_in-shape.ensures

pub recovering_slot-requires : goal.recovering_slot-requires
recovering_slot-requires g c =
    let pending : HasStripeUnbuilt c.still.inside.work c.still.inside.members c.args.role = subst (λ p. HasStripeUnbuilt p.parts.work p.parts.members c.args.role) (sym c.still.view_is) c.requires.pending in
    role-at (alike c.still.invariant).kept.members_are.placed pending.0.0

pub unreachable-requires : goal.unreachable-requires
unreachable-requires g c =
    let pending : HasStripeUnbuilt c.still.inside.work c.still.inside.members c.args.role = subst (λ p. HasStripeUnbuilt p.parts.work p.parts.members c.args.role) (sym c.still.view_is) c.requires.pending in
    c.in_default-recovering_slot.ensures.none pending.0.1 pending.0.2

pub fill_and_name-filled-requires-clause-slots : goal.fill_and_name-filled-requires-clause-slots
fill_and_name-filled-requires-clause-slots g c = (alike c.still.invariant).kept.slots

pub fill_and_name-filled-requires-clause-placed : goal.fill_and_name-filled-requires-clause-placed
fill_and_name-filled-requires-clause-placed g c = (alike c.still.invariant).kept.members_are.placed

pub fill_and_name-filled-requires-clause-unlost : goal.fill_and_name-filled-requires-clause-unlost
fill_and_name-filled-requires-clause-unlost g c = (alike c.still.invariant).kept.members_are.unlost

pub fill_and_name-filled-requires-clause-free : goal.fill_and_name-filled-requires-clause-free
fill_and_name-filled-requires-clause-free g c = (alike c.still.invariant).kept.members_are.free

pub fill_and_name-filled-requires-clause-still : goal.fill_and_name-filled-requires-clause-still
fill_and_name-filled-requires-clause-still g c =
    (c.still.invariant.rests (ap (λ p. is_reshaping p.parts.members.newest) c.still.view_is ∙ c.requires.still)).1.kept.members_are.still

pub fill_and_name-filled-requires-clause-shape : goal.fill_and_name-filled-requires-clause-shape
fill_and_name-filled-requires-clause-shape g c = c.shape_in-shape.ensures

pub fill_and_name-filled-requires-clause-role : goal.fill_and_name-filled-requires-clause-role
fill_and_name-filled-requires-clause-role g c =
    let pending : HasStripeUnbuilt c.still.inside.work c.still.inside.members c.args.role = subst (λ p. HasStripeUnbuilt p.parts.work p.parts.members c.args.role) (sym c.still.view_is) c.requires.pending in
    role-of-shape (c.still.invariant.rests (ap (λ p. is_reshaping p.parts.members.newest) c.still.view_is ∙ c.requires.still)).1.kept.members_are c.shape_in-shape.ensures pending.0.0

pub fill_and_name-filled-requires-clause-recovering : goal.fill_and_name-filled-requires-clause-recovering
fill_and_name-filled-requires-clause-recovering g c = c.in-Some-recovering_slot.ensures.some

pub fill_and_name-filled-requires-clause-stripe : goal.fill_and_name-filled-requires-clause-stripe
fill_and_name-filled-requires-clause-stripe g c =
    let pending : HasStripeUnbuilt c.still.inside.work c.still.inside.members c.args.role = subst (λ p. HasStripeUnbuilt p.parts.work p.parts.members c.args.role) (sym c.still.view_is) c.requires.pending in
    pending.1

pub fill_and_name-filled-requires-clause-rows : goal.fill_and_name-filled-requires-clause-rows
fill_and_name-filled-requires-clause-rows g c = (alike c.still.invariant).rows_fit

pub fill_and_name-filled-requires-clause-buffer : goal.fill_and_name-filled-requires-clause-buffer
fill_and_name-filled-requires-clause-buffer g c = (alike c.still.invariant).buffer_fits

pub newly_unassigned-roles-requires-clause-known : goal.newly_unassigned-roles-requires-clause-known
newly_unassigned-roles-requires-clause-known g c = known-behind c.fill_and_name-filled.ensures.moved c.shape_in-shape.ensures

pub overflow_add-stripe : goal.overflow_add-stripe
overflow_add-stripe g c =
    let pending : HasStripeUnbuilt c.still.inside.work c.still.inside.members c.args.role = subst (λ p. HasStripeUnbuilt p.parts.work p.parts.members c.args.role) (sym c.still.view_is) c.requires.pending in
    next-stripe (alike c.still.invariant).kept.members_are.placed pending.1

pub is_unassigned-requires : goal.is_unassigned-requires
is_unassigned-requires g c =
    let pending : HasStripeUnbuilt c.still.inside.work c.still.inside.members c.args.role = subst (λ p. HasStripeUnbuilt p.parts.work p.parts.members c.args.role) (sym c.still.view_is) c.requires.pending in
    role-behind (c.still.invariant.rests (ap (λ p. is_reshaping p.parts.members.newest) c.still.view_is ∙ c.requires.still)).1.kept.members_are c.fill_and_name-filled.ensures.moved pending.0.0

pub left_at_rest-left-requires-clause-shape : goal.left_at_rest-left-requires-clause-shape
left_at_rest-left-requires-clause-shape g c = c.fill_and_name-filled.ensures.moved.placed.fit.valid.old

pub left_at_rest-left-requires-clause-size : goal.left_at_rest-left-requires-clause-size
left_at_rest-left-requires-clause-size g c =
    short (g.B.Bank.given c.still.inside.bank) c.fill_and_name-filled.new.members c.fill_and_name-filled.ensures.moved.placed

pub left_at_rest-left-requires-clause-roles : goal.left_at_rest-left-requires-clause-roles
left_at_rest-left-requires-clause-roles g c = known-at c.fill_and_name-filled.ensures.moved.placed refl

pub left_at_rest-left-requires-clause-progress : goal.left_at_rest-left-requires-clause-progress
left_at_rest-left-requires-clause-progress g c =
    subst (λ (o : Option ℕ). IfSome o (λ mended. mended ≤ stripes_of c.fill_and_name-filled.new.members)) (sym (ap (λ (w : Work). w.resync) c.set_rebuilt.ensures.work ∙ ap (λ p. p.parts.work.resync) c.still.view_is ∙ c.requires.synced)) tt

pub left_at_rest-left-requires-clause-sound : goal.left_at_rest-left-requires-clause-sound
left_at_rest-left-requires-clause-sound g c =
    sound-behind c.still.inside.ahead c.fill_and_name-filled.ensures.moved (c.still.invariant.rests (ap (λ p. is_reshaping p.parts.members.newest) c.still.view_is ∙ c.requires.still)).1.planned

pub append_after_losses-requires-clause-room : goal.append_after_losses-requires-clause-room
append_after_losses-requires-clause-room g c = room-for-step (ap (λ p. p.parts.steps) c.still.view_is) (alike c.still.invariant).room_left c.requires.room

pub append_after_losses-requires-clause-number : goal.append_after_losses-requires-clause-number
append_after_losses-requires-clause-number g c = c.check_going.ensures

pub append_lost-requires-clause-room : goal.append_lost-requires-clause-room
append_lost-requires-clause-room g c = room-for-losses (ap (λ p. p.parts.steps) c.still.view_is) (alike c.still.invariant).room_left c.requires.room

pub append_lost-requires-clause-number : goal.append_lost-requires-clause-number
append_lost-requires-clause-number g c = c.check_going.ensures

pub append_after_losses-requires-2-clause-room : goal.append_after_losses-requires-2-clause-room
append_after_losses-requires-2-clause-room g c = room-for-step (ap (λ p. p.parts.steps) c.still.view_is) (alike c.still.invariant).room_left c.requires.room

pub append_after_losses-requires-2-clause-number : goal.append_after_losses-requires-2-clause-number
append_after_losses-requires-2-clause-number g c = c.check_going.ensures

-- ---- what it leaves as it was

pub returns-in-Some-clause-stays : goal.returns-in-Some-clause-stays
returns-in-Some-clause-stays g c = c.refuse_step.ensures.stays

pub returns-in-Some-clause-memory : goal.returns-in-Some-clause-memory
returns-in-Some-clause-memory g c = refused-at-all c.in-Some.refusal

pub returns-in-Some-refusal-clause-entered : goal.returns-in-Some-refusal-clause-entered
returns-in-Some-refusal-clause-entered g c =
    one-entered c.args.who c.ops-end.result c.newly_unassigned-roles.result c.fill_and_name-filled.result.spares (Refused c.in-Some-refusal.refusal) (ap (λ p. p.parts.entries) c.still.view_is) c.append_after_losses.ensures.items

pub returns-in-Some-refusal-clause-memory : goal.returns-in-Some-refusal-clause-memory
returns-in-Some-refusal-clause-memory g c = refused-at-all c.in-Some-refusal.refusal

pub returns-in-Some-refusal-clause-work : goal.returns-in-Some-refusal-clause-work
returns-in-Some-refusal-clause-work g c = ap (λ p. p.parts.work) c.still.view_is

pub returns-in-Some-refusal-clause-clean : goal.returns-in-Some-refusal-clause-clean
returns-in-Some-refusal-clause-clean g c = c.fill_and_name-filled.ensures.clean ∙ ap (λ p. is_clean p.parts.members.newest) c.still.view_is

pub returns-in-Some-refusal-clause-room : goal.returns-in-Some-refusal-clause-room
returns-in-Some-refusal-clause-room g c = step-taken (ap (λ p. p.parts.steps) c.still.view_is) c.requires.room

pub returns-in-Some-refusal-clause-given : goal.returns-in-Some-refusal-clause-given
returns-in-Some-refusal-clause-given g c = c.fill_and_name-filled.ensures.given ∙ ap (λ p. g.B.Bank.given p.parts.bank) c.still.view_is

pub returns-then-is_unassigned-clause-memory : goal.returns-then-is_unassigned-clause-memory
returns-then-is_unassigned-clause-memory g c = done-at-all tt

pub returns-then-is_unassigned-clause-clean : goal.returns-then-is_unassigned-clause-clean
returns-then-is_unassigned-clause-clean g c = c.fill_and_name-filled.ensures.clean ∙ ap (λ p. is_clean p.parts.members.newest) c.still.view_is

pub returns-then-is_unassigned-clause-room : goal.returns-then-is_unassigned-clause-room
returns-then-is_unassigned-clause-room g c = step-taken (ap (λ p. p.parts.steps) c.still.view_is) c.requires.room

pub returns-then-is_unassigned-clause-given : goal.returns-then-is_unassigned-clause-given
returns-then-is_unassigned-clause-given g c = c.fill_and_name-filled.ensures.given ∙ ap (λ p. g.B.Bank.given p.parts.bank) c.still.view_is

pub returns-clause-entered : goal.returns-clause-entered
returns-clause-entered g c =
    inl (step-entered c.args.who c.ops-end.result c.newly_unassigned-roles.result c.fill_and_name-filled.result.spares RebuildStripe (ap (λ p. p.parts.entries) c.still.view_is) c.left_at_rest-left.ensures c.append_after_losses-2.ensures.items)

pub returns-clause-memory : goal.returns-clause-memory
returns-clause-memory g c = done-at-all tt

pub returns-clause-clean : goal.returns-clause-clean
returns-clause-clean g c = c.fill_and_name-filled.ensures.clean ∙ ap (λ p. is_clean p.parts.members.newest) c.still.view_is

pub returns-clause-room : goal.returns-clause-room
returns-clause-room g c = step-taken (ap (λ p. p.parts.steps) c.still.view_is) c.requires.room

pub returns-clause-given : goal.returns-clause-given
returns-clause-given g c = c.fill_and_name-filled.ensures.given ∙ ap (λ p. g.B.Bank.given p.parts.bank) c.still.view_is

pub returns-in-Some-clause-still : goal.returns-in-Some-clause-still
returns-in-Some-clause-still g c = c.refuse_step.ensures.still

pub returns-in-Some-refusal-clause-still : goal.returns-in-Some-refusal-clause-still
returns-in-Some-refusal-clause-still g c = c.fill_and_name-filled.ensures.moved.reshape.reshaping ∙ (ap (λ p. is_reshaping p.parts.members.newest) c.still.view_is ∙ c.requires.still)

pub returns-then-is_unassigned-clause-still : goal.returns-then-is_unassigned-clause-still
returns-then-is_unassigned-clause-still g c = c.fill_and_name-filled.ensures.moved.reshape.reshaping ∙ (ap (λ p. is_reshaping p.parts.members.newest) c.still.view_is ∙ c.requires.still)

pub returns-clause-still : goal.returns-clause-still
returns-clause-still g c = c.fill_and_name-filled.ensures.moved.reshape.reshaping ∙ (ap (λ p. is_reshaping p.parts.members.newest) c.still.view_is ∙ c.requires.still)
