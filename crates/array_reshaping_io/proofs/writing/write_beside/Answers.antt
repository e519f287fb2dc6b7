use Rattle.std.proofs.Common.{inl, ◌≡◌, ◌≤◌, ◌<◌, ◌+◌, ◌/◌, ℕ, false, List, [], ◌∷◌, ◌++◌, length, refl, sym, ◌∙◌, ap, subst, arith}
use Rattle.array_reshaping_steps.specs.raid_types_Sectors.{Sector, sectors_of}
use Rattle.array_reshaping_steps.specs.raid_types_the_Refusal.{Refusal}
use Rattle.array_reshaping_steps.specs.sb_specs_Reading.{list_length, is_reshaping}
use Rattle.array_reshaping_steps.proofs.sb_specs_ValidFields.{few-roles}
use Rattle.array_reshaping_steps.specs.stripe_row_Rows.{reading_of, present}
use Rattle.array_reshaping_steps.specs.history_the_Event.{Event}
use Rattle.array_reshaping_steps.specs.history_the_Event_TheVariants.{Refused, Wrote}
use Rattle.array_reshaping_steps.specs.history_Plain.{entries_of}
use Rattle.array_reshaping_steps.specs.history_Stands.{covers}
use Rattle.array_reshaping_steps.specs.array_members_Lacking.{HaveRolesFailed, AreLostSince, AreOtherRowsKept}
use Rattle.array_reshaping_steps.specs.array_members_Numbers.{bears}
use Rattle.array_reshaping_steps.proofs.array_members_LackingLaws.{lost-since}
use Rattle.array_reshaping_steps.proofs.array_members_MovedLaws.{grows-none, moved-same}
use Rattle.array_reshaping_steps.specs.history_append_Losing.{losses_of, failure_events}
use Rattle.array_reshaping_steps.proofs.history_append_LosingLaws.{no-losses}
use Rattle.array_reshaping_steps.specs.array_call_specs_Kept.{scope_in}
use Rattle.array_reshaping_steps.specs.array_call_specs_Calls.{IsRefusedFor}
use Rattle.array_reshaping_steps.proofs.array_call_specs_LossLaws.{losses-behind, losses-failure, ended-behind, ended-failure}
use Rattle.array_reshaping_steps.proofs.array_call_specs_ReadyLaws.{scope-same}
use Rattle.array_reshaping_steps.proofs.array_call_specs_ReplyLaws.{refused-for}
use Rattle.array_reshaping_steps.proofs.array_call_laws_ReadLaws.{some-of}
use Rattle.array_reshaping_steps.specs.stripe_region_resync_Resyncs.{relied_sector}
use Rattle.array_reshaping_steps.specs.stripe_region_write_Runs.{IsTornTouched, IsListTorn, IsListUnwritten}
use Rattle.array_reshaping_steps.specs.history_invariant_Recorded.{IsCallGoing}
use Rattle.array_reshaping_steps.specs.reshape_progress_Course.{span_in}
use Rattle.array_reshaping_steps.specs.array_reshaping_invariant_Moving.{IsWindowStanding}
use Rattle.array_reshaping_steps.specs.array_specs_Calls.{moving_world}
use Rattle.array_reshaping_steps.proofs.array_reshaping_invariant_Refusals.{quiet-refusal}
use Rattle.array_reshaping_steps.proofs.array_reshaping_invariant_Resting.{resting-moves}
use Rattle.array_reshaping_steps.proofs.array_reshaping_invariant_Steps.{missing-since}
use Rattle.array_reshaping_steps.proofs.array_reshaping_invariant_Writing.{ArePut}
use Rattle.array_reshaping_steps.specs.array_specs_Parts.{visible_size, left_in}
use Rattle.array_reshaping_steps.proofs.array_specs_VisibleLaws.{visible-within}
use Rattle.array_reshaping_steps.specs.array_reshaping_laws_Ready.{bytes_in}
use Rattle.array_reshaping_steps.proofs.array_specs_Called.{not_254, called, alone-lossless, risen-told}
use Rattle.array_reshaping_steps.proofs.array_reshaping_laws_Kept.{ready, shapes-same, shapes-moved, behind-keeps, behind-whole, left-moved}
use Rattle.array_reshaping_steps.proofs.array_reshaping_laws_WriteLaws.{first-right, wrote-kept, unwritten-kept, with-rooms, failure-whole, torn-missing}
use Rattle.array_reshaping_steps.proofs.array_reshaping_laws_FirstLaws.{first-told, first-none}
use Rattle.array_reshaping_steps.proofs.array_type_ReshapingCalls.{room-49, room-50, known-moved, le-same, never-falls, room-after-1, room-after-49, room-after-50, called-over}
use Rattle.array_reshaping_steps.proofs.array_specs_Lengths.{alone-keeps, failure-keeps}
use Rattle.array_reshaping_steps.proofs.array_type_Alike.{alike, goes-on}
use Rattle.array_reshaping_io.proofs.writing.write_beside.Goals as goal

-- ---- refused before any row is read

pub invariant_of-moving : goal.invariant_of-moving
invariant_of-moving g c =
    goes-on (c.moving.invariant.moves (ap (λ p. is_reshaping p.parts.members.newest) c.moving.view_is ∙ c.requires.active)).0 (
    let was = (c.moving.invariant.moves (ap (λ p. is_reshaping p.parts.members.newest) c.moving.view_is ∙ c.requires.active)).1 in
    let a = c.moving.inside in
    let given = g.B.Bank.given a.bank in
    let scope = scope_in given a.epoch.uuid a.epoch.given a.backup in
    let goes : IsCallGoing a.epoch.entries.items c.args.who = subst (λ p. IsCallGoing p.parts.entries c.args.who) (sym c.moving.view_is) c.requires.open in
    let steps : 1 ≤ a.steps = subst (λ p. 1 ≤ p.parts.steps) (sym c.moving.view_is) c.requires.room in
    let to = c.args.at + length c.args.from.now / 512 in
    let tape = g.B.Bank.tape a.bank in
    let end = c.ops-end.result in
    let refusal = c.in-Some.refusal in
    let kept = resting-moves g.B.Bank.tells given tape scope a.epoch.first a.epoch.entries.items a.members (bears a.work) a.work.resync a.course (bytes_in a.course.window a.window.items) (left_in a.work a.members a.course a.ahead)
    c.args.who end (Refused refusal) was.kept goes (not_254 c.args.who.caller c.requires.caller) c.ops-end.ensures.count (quiet-refusal refusal) (λ told is. is)
    (λ t right. first-right was.kept was.limited c.args.past c.relied_sector-relied.result c.args.at to refusal c.relied_sector-relied.ensures.value c.in-Some.ensures.why t right) in
    ready (entries_of c.args.who end (Refused refusal ∷ [])) was (grows-none (λ t. refl)) (shapes-same a.members.newest) kept
    refl (never-falls _) (alone-keeps c.args.who end (Refused refusal) (λ n. refl) (λ limit. refl)) (λ none whole. whole) refl (scope-same given a.backup refl c.append_entry.ensures.uuid c.append_entry.ensures.given) c.append_entry.ensures.first refl c.append_entry.ensures.items
    (room-after-1 a.steps a.epoch.entries.room c.append_entry.new.epoch.entries.room was.room_left c.append_entry.ensures.room steps))

pub returns-in-Some-clause-entered : goal.returns-in-Some-clause-entered
returns-in-Some-clause-entered g c =
    let a = c.moving.inside in
    let end = c.ops-end.result in
    rw (← c.moving.view_is) (0, 0, false, end, c.append_entry.ensures.items ∙ ap (λ (l : List Event). a.epoch.entries.items ++ entries_of c.args.who end (l ++ Refused c.in-Some.refusal ∷ [])) (sym no-losses))

pub returns-in-Some-clause-called : goal.returns-in-Some-clause-called
returns-in-Some-clause-called g c =
    let was = (alike c.moving.invariant) in
    let a = c.moving.inside in
    let given = g.B.Bank.given a.bank in
    let faults = g.B.Bank.faults_of a.bank in
    let end = c.ops-end.result in
    let refusal = c.in-Some.refusal in
    called-over g.B.Bank.given g.B.Bank.tape g.B.Bank.faults_of c.moving.view_is (called (grows-none (λ t. refl)) (moved-same given given a.members a.members refl refl was.kept.members_are.placed was.kept.members_are.unlost)
    (ended-behind (g.B.Bank.tape a.bank) c.append_entry.new.epoch.first a.epoch.entries.items c.args.who end [] (Refused refusal) c.append_entry.ensures.items c.ops-end.ensures.count)
    (alone-lossless a.members faults faults a.epoch.entries.items a.epoch.entries.items c.append_entry.new.epoch.entries.items c.args.who end (Refused refusal) tt refl c.append_entry.ensures.items)
    (never-falls _)
    (record { uuid = c.append_entry.ensures.uuid; given = c.append_entry.ensures.given; first = c.append_entry.ensures.first; backup = refl; work = refl; ahead = refl; limit = refl })
    (λ t. (was.kept.recorded t).begun))

pub returns-in-Some-clause-caused : goal.returns-in-Some-clause-caused
returns-in-Some-clause-caused g c =
    let a = c.moving.inside in
    let to = c.args.at + length c.args.from.now / 512 in
    rw (← c.moving.view_is) (subst (λ (n : ℕ). IsRefusedFor (visible_size a.members a.limit) to (IsListUnwritten c.args.past n c.args.at to) a.members a.members c.in-Some.refusal) c.relied_sector-relied.ensures.value c.in-Some.ensures.why)

-- ---- the roles, and the sectors

pub overflow_cast-count : goal.overflow_cast-count
overflow_cast-count g c =
    let members = (c.moving.invariant.moves (ap (λ p. is_reshaping p.parts.members.newest) c.moving.view_is ∙ c.requires.active)).1.kept.members_are in
    let few = few-roles c.moving.inside.members.newest members.placed.fit.valid in
    let roles = members.backed.roles in
    let long = c.len-count.ensures in
    omega (arith, few, roles, long)

pub unassigned_roles-before-requires-clause-few : goal.unassigned_roles-before-requires-clause-few
unassigned_roles-before-requires-clause-few g c =
    let members = (c.moving.invariant.moves (ap (λ p. is_reshaping p.parts.members.newest) c.moving.view_is ∙ c.requires.active)).1.kept.members_are in
    let few = few-roles c.moving.inside.members.newest members.placed.fit.valid in
    let roles = members.backed.roles in
    let long = c.len-count.ensures in
    omega (arith, few, roles, long)

pub newly_unassigned-roles-requires-clause-few : goal.newly_unassigned-roles-requires-clause-few
newly_unassigned-roles-requires-clause-few g c =
    let members = (c.moving.invariant.moves (ap (λ p. is_reshaping p.parts.members.newest) c.moving.view_is ∙ c.requires.active)).1.kept.members_are in
    let few = few-roles c.moving.inside.members.newest members.placed.fit.valid in
    let roles = members.backed.roles in
    let long = c.len-count.ensures in
    omega (arith, few, roles, long)

pub write_list-done-requires-clause-within : goal.write_list-done-requires-clause-within
write_list-done-requires-clause-within g c =
    let within = c.in_default.ensures.why.0 in
    let below = visible-within (list_length c.moving.inside.members.newest) c.moving.inside.limit in
    omega (arith, within, below)

-- ---- it isn't done

pub invariant_of-moving-in-Some-refusal : goal.invariant_of-moving-in-Some-refusal
invariant_of-moving-in-Some-refusal g c =
    goes-on (c.moving.invariant.moves (ap (λ p. is_reshaping p.parts.members.newest) c.moving.view_is ∙ c.requires.active)).0 (
    let was = (c.moving.invariant.moves (ap (λ p. is_reshaping p.parts.members.newest) c.moving.view_is ∙ c.requires.active)).1 in
    let here = was.kept.members_are in
    let a = c.moving.inside in
    let given = g.B.Bank.given a.bank in
    let scope = scope_in given a.epoch.uuid a.epoch.given a.backup in
    let goes : IsCallGoing a.epoch.entries.items c.args.who = subst (λ p. IsCallGoing p.parts.entries c.args.who) (sym c.moving.view_is) c.requires.open in
    let steps : 1 ≤ a.steps = subst (λ p. 1 ≤ p.parts.steps) (sym c.moving.view_is) c.requires.room in
    let m = c.write_list-done.new.members in
    let did = c.write_list-done.ensures in
    let tape = g.B.Bank.tape a.bank in
    let tape' = g.B.Bank.tape c.write_list-done.new.bank in
    let before = g.B.Bank.faults_of a.bank in
    let after = g.B.Bank.faults_of c.write_list-done.new.bank in
    let at = c.args.at in
    let from = c.args.from.now in
    let to = at + length from / 512 in
    let relied = c.relied_sector-relied.result in
    let begun = c.write_list-done.result.begun in
    let roles = c.newly_unassigned-roles.result in
    let spares = c.write_list-done.result.spares in
    let end = c.ops-end-2.result in
    let refusal = c.in-Some-refusal.refusal in
    let is = c.in-Some-refusal.is in
    let since : AreLostSince a.members m roles spares before after = lost-since given a.members m c.len-count.result c.unassigned_roles-before.result roles spares before after here.placed did.keeps.moved did.keeps.failed
    (c.len-count.ensures ∙ here.backed.roles) c.unassigned_roles-before.ensures c.newly_unassigned-roles.ensures in
    let fine : (refusal : Refusal) → IsListUnwritten c.args.past relied at to a.members refusal → ⊥ =
    c.in_default.ensures.why.1 in
    let stood = subst (λ p. g.B.Bank.tells → IsWindowStanding c.args.past (moving_world (g.B.Bank.given p.parts.bank) (g.B.Bank.tape p.parts.bank) p) p.parts.entries p.parts.members (present (g.B.Bank.given p.parts.bank) (g.B.Bank.tape p.parts.bank))) (sym c.moving.view_is)
    c.requires.stood in
    let put : ArePut g.B.Bank.tells given tape tape' a.members m a.course at from c.args.past relied roles begun =
    record {
      within = let within = c.in_default.ensures.why.0 in let below = visible-within (list_length a.members.newest) a.limit in omega (arith, within, below);
      beside = subst (λ p. (x : ℕ) → at ≤ x → x < to → covers (span_in p.course.window) x ≡ false) (sym c.moving.view_is) c.requires.beside;
      moved = did.keeps.moved;
      few = few-roles m.newest did.keeps.moved.placed.fit.valid;
      since = missing-since roles did.keeps.moved since.vacant;
      rise = risen-told did.keeps.rise;
      unused = did.keeps.unused;
      stays = did.stays;
      safe = did.safe;
    } in
    let kept = unwritten-kept a.course a.ahead (bytes_in a.course.window a.window.items) c.args.who end roles spares at from c.args.past relied begun was.kept goes c.requires.caller c.ops-end-2.ensures.count did.keeps.bank.grows was.limited c.in_default.ensures.why.0 c.requires.some fine c.relied_sector-relied.ensures.value stood put refusal
    (record {
      refused = some-of (IsListUnwritten c.args.past relied at to m) c.write_list-done.result.refusal refusal is did.refused;
      torn = λ begun. some-of (IsListTorn at to m) c.write_list-done.result.refusal refusal is (did.torn begun);
      torn_rows = some-of (λ refusal. g.B.Bank.tells → AreOtherRowsKept (IsTornTouched a.members.newest at to m) (reading_of m) (present given tape) (present given tape')) c.write_list-done.result.refusal refusal is did.torn_rows;
    }) in
    with-rooms did.rows did.buffer did.far_rows did.far_buffer
    (ready (entries_of c.args.who end (failure_events roles spares begun at (sectors_of from) refusal)) was did.keeps.bank.grows (shapes-moved given a.members m did.keeps.moved) kept
    refl did.keeps.bank.counts (failure-keeps c.args.who end roles spares begun at (sectors_of from) refusal)
    (failure-whole tape' scope a.epoch.first a.epoch.entries.items c.args.who end roles spares begun at (sectors_of from) refusal did.keeps.moved (missing-since roles did.keeps.moved since.vacant)) did.keeps.bank.same (scope-same given a.backup did.keeps.bank.same c.append_failure.ensures.uuid c.append_failure.ensures.given) c.append_failure.ensures.first refl
    (c.append_failure.ensures.items ∙ ap (λ (b : List Sector). a.epoch.entries.items ++ entries_of c.args.who end (failure_events roles spares begun at b refusal)) c.requires.body)
    (room-after-50 a.steps a.epoch.entries.room c.append_failure.new.epoch.entries.room was.room_left c.append_failure.ensures.room steps)))

pub returns-in-Some-refusal-clause-entered : goal.returns-in-Some-refusal-clause-entered
returns-in-Some-refusal-clause-entered g c =
    let a = c.moving.inside in
    let end = c.ops-end-2.result in
    let roles = c.newly_unassigned-roles.result in
    let spares = c.write_list-done.result.spares in
    let begun = c.write_list-done.result.begun in
    rw (← c.moving.view_is) (
      roles,
      spares,
      begun,
      end,
      c.append_failure.ensures.items ∙ ap (λ (b : List Sector). a.epoch.entries.items ++ entries_of c.args.who end (failure_events roles spares begun c.args.at b c.in-Some-refusal.refusal)) c.requires.body,
    )

pub returns-in-Some-refusal-clause-called : goal.returns-in-Some-refusal-clause-called
returns-in-Some-refusal-clause-called g c =
    let was = (c.moving.invariant.moves (ap (λ p. is_reshaping p.parts.members.newest) c.moving.view_is ∙ c.requires.active)).1 in
    let here = was.kept.members_are in
    let a = c.moving.inside in
    let given = g.B.Bank.given a.bank in
    let m = c.write_list-done.new.members in
    let did = c.write_list-done.ensures in
    let before = g.B.Bank.faults_of a.bank in
    let after = g.B.Bank.faults_of c.write_list-done.new.bank in
    let roles = c.newly_unassigned-roles.result in
    let spares = c.write_list-done.result.spares in
    let begun = c.write_list-done.result.begun in
    let end = c.ops-end-2.result in
    let refusal = c.in-Some-refusal.refusal in
    let since : AreLostSince a.members m roles spares before after = lost-since given a.members m c.len-count.result c.unassigned_roles-before.result roles spares before after here.placed did.keeps.moved did.keeps.failed
    (c.len-count.ensures ∙ here.backed.roles) c.unassigned_roles-before.ensures c.newly_unassigned-roles.ensures in
    called-over g.B.Bank.given g.B.Bank.tape g.B.Bank.faults_of c.moving.view_is (called did.keeps.bank.grows did.keeps.moved
    (ended-failure (g.B.Bank.tape c.write_list-done.new.bank) c.append_failure.new.epoch.first a.epoch.entries.items c.args.who end roles spares begun c.args.at c.args.body refusal c.append_failure.ensures.items c.ops-end-2.ensures.count)
    (losses-failure a.members m before after a.epoch.entries.items a.epoch.entries.items c.append_failure.new.epoch.entries.items c.args.who end roles spares begun c.args.at c.args.body refusal since refl c.append_failure.ensures.items)
    did.keeps.bank.counts
    (record { uuid = c.append_failure.ensures.uuid; given = c.append_failure.ensures.given; first = c.append_failure.ensures.first; backup = refl; work = refl; ahead = refl; limit = refl })
    (λ t. (was.kept.recorded t).begun))

pub returns-in-Some-refusal-clause-caused : goal.returns-in-Some-refusal-clause-caused
returns-in-Some-refusal-clause-caused g c =
    let a = c.moving.inside in
    let m = c.write_list-done.new.members in
    let at = c.args.at in
    let to = at + length c.args.from.now / 512 in
    let relied = relied_sector a.members.newest a.work.resync in
    let refusal = c.in-Some-refusal.refusal in
    let why = subst (λ (n : ℕ). IsListUnwritten c.args.past n at to m refusal) c.relied_sector-relied.ensures.value
    (some-of (IsListUnwritten c.args.past c.relied_sector-relied.result at to m) c.write_list-done.result.refusal refusal c.in-Some-refusal.is c.write_list-done.ensures.refused) in
    rw (← c.moving.view_is) (refused-for (visible_size a.members a.limit) to (IsListUnwritten c.args.past relied at to) a.members m refusal (torn-missing c.args.past relied at to m refusal why) c.in_default.ensures.why.0 why)

pub returns-in-Some-refusal-clause-left : goal.returns-in-Some-refusal-clause-left
returns-in-Some-refusal-clause-left g c =
    let a = c.moving.inside in
    left-moved (g.B.Bank.given a.bank) a.members c.write_list-done.new.members a.work.resync a.course a.ahead c.write_list-done.ensures.keeps.moved ∙ ap (λ p. left_in p.parts.work p.parts.members p.course p.ahead) c.moving.view_is

-- ---- it is done

pub invariant_of-moving-2 : goal.invariant_of-moving-2
invariant_of-moving-2 g c =
    goes-on (c.moving.invariant.moves (ap (λ p. is_reshaping p.parts.members.newest) c.moving.view_is ∙ c.requires.active)).0 (
    let was = (c.moving.invariant.moves (ap (λ p. is_reshaping p.parts.members.newest) c.moving.view_is ∙ c.requires.active)).1 in
    let here = was.kept.members_are in
    let a = c.moving.inside in
    let given = g.B.Bank.given a.bank in
    let scope = scope_in given a.epoch.uuid a.epoch.given a.backup in
    let goes : IsCallGoing a.epoch.entries.items c.args.who = subst (λ p. IsCallGoing p.parts.entries c.args.who) (sym c.moving.view_is) c.requires.open in
    let steps : 1 ≤ a.steps = subst (λ p. 1 ≤ p.parts.steps) (sym c.moving.view_is) c.requires.room in
    let m = c.write_list-done.new.members in
    let did = c.write_list-done.ensures in
    let tape = g.B.Bank.tape a.bank in
    let tape' = g.B.Bank.tape c.write_list-done.new.bank in
    let before = g.B.Bank.faults_of a.bank in
    let after = g.B.Bank.faults_of c.write_list-done.new.bank in
    let at = c.args.at in
    let from = c.args.from.now in
    let to = at + length from / 512 in
    let relied = c.relied_sector-relied.result in
    let begun = c.write_list-done.result.begun in
    let roles = c.newly_unassigned-roles.result in
    let spares = c.write_list-done.result.spares in
    let end = c.ops-end-2.result in
    let none = c.in_default-refusal.is in
    let since : AreLostSince a.members m roles spares before after = lost-since given a.members m c.len-count.result c.unassigned_roles-before.result roles spares before after here.placed did.keeps.moved did.keeps.failed
    (c.len-count.ensures ∙ here.backed.roles) c.unassigned_roles-before.ensures c.newly_unassigned-roles.ensures in
    let fine : (refusal : Refusal) → IsListUnwritten c.args.past relied at to a.members refusal → ⊥ =
    c.in_default.ensures.why.1 in
    let stood = subst (λ p. g.B.Bank.tells → IsWindowStanding c.args.past (moving_world (g.B.Bank.given p.parts.bank) (g.B.Bank.tape p.parts.bank) p) p.parts.entries p.parts.members (present (g.B.Bank.given p.parts.bank) (g.B.Bank.tape p.parts.bank))) (sym c.moving.view_is)
    c.requires.stood in
    let put : ArePut g.B.Bank.tells given tape tape' a.members m a.course at from c.args.past relied roles begun =
    record {
      within = let within = c.in_default.ensures.why.0 in let below = visible-within (list_length a.members.newest) a.limit in omega (arith, within, below);
      beside = subst (λ p. (x : ℕ) → at ≤ x → x < to → covers (span_in p.course.window) x ≡ false) (sym c.moving.view_is) c.requires.beside;
      moved = did.keeps.moved;
      few = few-roles m.newest did.keeps.moved.placed.fit.valid;
      since = missing-since roles did.keeps.moved since.vacant;
      rise = risen-told did.keeps.rise;
      unused = did.keeps.unused;
      stays = did.stays;
      safe = did.safe;
    } in
    let kept = wrote-kept a.course a.ahead (bytes_in a.course.window a.window.items) c.args.who end roles spares at from c.args.past relied begun was.kept goes c.requires.caller c.ops-end-2.ensures.count did.keeps.bank.grows was.limited c.in_default.ensures.why.0 c.requires.some fine c.relied_sector-relied.ensures.value stood put
    (record { bytes = λ i. (c.type_inv.from i).fits; whole = c.requires.whole; put = did.put none; tail = did.tail none; ends = did.ends none; others = did.others; good = did.good none }) in
    with-rooms did.rows did.buffer did.far_rows did.far_buffer
    (ready (entries_of c.args.who end (losses_of roles spares ++ Wrote at (sectors_of from) ∷ [])) was did.keeps.bank.grows (shapes-moved given a.members m did.keeps.moved) kept
    refl did.keeps.bank.counts (behind-keeps c.args.who end roles spares (Wrote at (sectors_of from)) (λ n. refl) (λ limit. refl))
    (behind-whole tape' scope a.epoch.first a.epoch.entries.items c.args.who end roles spares (Wrote at (sectors_of from)) did.keeps.moved (missing-since roles did.keeps.moved since.vacant)) did.keeps.bank.same (scope-same given a.backup did.keeps.bank.same c.append_after_losses.ensures.uuid c.append_after_losses.ensures.given) c.append_after_losses.ensures.first refl
    (c.append_after_losses.ensures.items ∙ ap (λ (b : List Sector). a.epoch.entries.items ++ entries_of c.args.who end (losses_of roles spares ++ Wrote at b ∷ [])) c.requires.body)
    (room-after-49 a.steps a.epoch.entries.room c.append_after_losses.new.epoch.entries.room was.room_left c.append_after_losses.ensures.room steps)))

pub returns-clause-entered : goal.returns-clause-entered
returns-clause-entered g c =
    let a = c.moving.inside in
    let end = c.ops-end-2.result in
    let roles = c.newly_unassigned-roles.result in
    let spares = c.write_list-done.result.spares in
    rw (← c.moving.view_is) (record {
      roles = roles;
      spares = spares;
      end = end;
      is = c.append_after_losses.ensures.items ∙ ap (λ (b : List Sector). a.epoch.entries.items ++ entries_of c.args.who end (losses_of roles spares ++ Wrote c.args.at b ∷ [])) c.requires.body;
    })

pub returns-clause-called : goal.returns-clause-called
returns-clause-called g c =
    let was = (c.moving.invariant.moves (ap (λ p. is_reshaping p.parts.members.newest) c.moving.view_is ∙ c.requires.active)).1 in
    let here = was.kept.members_are in
    let a = c.moving.inside in
    let given = g.B.Bank.given a.bank in
    let m = c.write_list-done.new.members in
    let did = c.write_list-done.ensures in
    let before = g.B.Bank.faults_of a.bank in
    let after = g.B.Bank.faults_of c.write_list-done.new.bank in
    let roles = c.newly_unassigned-roles.result in
    let spares = c.write_list-done.result.spares in
    let end = c.ops-end-2.result in
    let event = Wrote c.args.at c.args.body in
    let since : AreLostSince a.members m roles spares before after = lost-since given a.members m c.len-count.result c.unassigned_roles-before.result roles spares before after here.placed did.keeps.moved did.keeps.failed
    (c.len-count.ensures ∙ here.backed.roles) c.unassigned_roles-before.ensures c.newly_unassigned-roles.ensures in
    called-over g.B.Bank.given g.B.Bank.tape g.B.Bank.faults_of c.moving.view_is (called did.keeps.bank.grows did.keeps.moved
    (ended-behind (g.B.Bank.tape c.write_list-done.new.bank) c.append_after_losses.new.epoch.first a.epoch.entries.items c.args.who end (losses_of roles spares) event c.append_after_losses.ensures.items c.ops-end-2.ensures.count)
    (losses-behind a.members m before after a.epoch.entries.items a.epoch.entries.items c.append_after_losses.new.epoch.entries.items c.args.who end roles spares event since tt refl c.append_after_losses.ensures.items)
    did.keeps.bank.counts
    (record { uuid = c.append_after_losses.ensures.uuid; given = c.append_after_losses.ensures.given; first = c.append_after_losses.ensures.first; backup = refl; work = refl; ahead = refl; limit = refl })
    (λ t. (was.kept.recorded t).begun))

pub returns-clause-caused : goal.returns-clause-caused
returns-clause-caused g c =
    let a = c.moving.inside in
    let to = c.args.at + length c.args.from.now / 512 in
    rw (← c.moving.view_is) (
      c.in_default.ensures.why.0,
      λ refusal why. c.in_default.ensures.why.1 refusal (subst (λ (n : ℕ). IsListUnwritten c.args.past n c.args.at to a.members refusal) (sym c.relied_sector-relied.ensures.value) why),
    )

pub returns-clause-dirty : goal.returns-clause-dirty
returns-clause-dirty g c = c.write_list-done.ensures.dirty c.in_default-refusal.is

pub returns-clause-left : goal.returns-clause-left
returns-clause-left g c =
    let a = c.moving.inside in
    left-moved (g.B.Bank.given a.bank) a.members c.write_list-done.new.members a.work.resync a.course a.ahead c.write_list-done.ensures.keeps.moved ∙ ap (λ p. left_in p.parts.work p.parts.members p.course p.ahead) c.moving.view_is

-- ---- what failed

pub returns-in-Some-clause-failed : goal.returns-in-Some-clause-failed
returns-in-Some-clause-failed g c = rw (← c.moving.view_is) (λ role slot held. inl held)

pub returns-in-Some-refusal-clause-failed : goal.returns-in-Some-refusal-clause-failed
returns-in-Some-refusal-clause-failed g c =
    subst (λ p. HaveRolesFailed p.parts.members c.write_list-done.new.members (g.B.Bank.faults_of p.parts.bank) (g.B.Bank.faults_of c.write_list-done.new.bank)) c.moving.view_is c.write_list-done.ensures.keeps.failed.roles

pub returns-clause-failed : goal.returns-clause-failed
returns-clause-failed g c =
    subst (λ p. HaveRolesFailed p.parts.members c.write_list-done.new.members (g.B.Bank.faults_of p.parts.bank) (g.B.Bank.faults_of c.write_list-done.new.bank)) c.moving.view_is c.write_list-done.ensures.keeps.failed.roles

-- ---- which refusal is the first

pub returns-in-Some-clause-first : goal.returns-in-Some-clause-first
returns-in-Some-clause-first g c = rw (← c.moving.view_is) (first-told _ _ c.in-Some.refusal c.in-Some.ensures.first)

pub returns-in-Some-refusal-clause-first : goal.returns-in-Some-refusal-clause-first
returns-in-Some-refusal-clause-first g c = rw (← c.moving.view_is) (first-none _ _ c.in_default.ensures.first)

pub returns-clause-first : goal.returns-clause-first
returns-clause-first g c = rw (← c.moving.view_is) (first-none _ _ c.in_default.ensures.first)

-- ---- by what stands above

pub write_list-done-requires-clause-stands : goal.write_list-done-requires-clause-stands
write_list-done-requires-clause-stands g c =
    record {
      slots = (alike c.moving.invariant).kept.slots;
      placed = (alike c.moving.invariant).kept.members_are.placed;
      unlost = (alike c.moving.invariant).kept.members_are.unlost;
      free = (alike c.moving.invariant).kept.members_are.free;
    }

pub write_list-done-requires-clause-rows : goal.write_list-done-requires-clause-rows
write_list-done-requires-clause-rows g c = (alike c.moving.invariant).rows_fit

pub write_list-done-requires-clause-far_rows : goal.write_list-done-requires-clause-far_rows
write_list-done-requires-clause-far_rows g c = (alike c.moving.invariant).far_rows_fit

pub write_list-done-requires-clause-buffer : goal.write_list-done-requires-clause-buffer
write_list-done-requires-clause-buffer g c = (alike c.moving.invariant).buffer_fits

pub write_list-done-requires-clause-far_buffer : goal.write_list-done-requires-clause-far_buffer
write_list-done-requires-clause-far_buffer g c = (alike c.moving.invariant).far_buffer_fits

pub write_list-done-requires-clause-from : goal.write_list-done-requires-clause-from
write_list-done-requires-clause-from g c = c.requires.whole

pub write_list-done-requires-clause-some : goal.write_list-done-requires-clause-some
write_list-done-requires-clause-some g c = c.requires.some

pub write_list-done-requires-clause-few : goal.write_list-done-requires-clause-few
write_list-done-requires-clause-few g c = c.requires.few

pub append_after_losses-requires-clause-room : goal.append_after_losses-requires-clause-room
append_after_losses-requires-clause-room g c =
    room-49 c.moving.inside.steps c.moving.inside.epoch.entries.room (subst (λ p. 1 ≤ p.parts.steps) (sym c.moving.view_is) c.requires.room) (alike c.moving.invariant).room_left

pub append_failure-requires-clause-room : goal.append_failure-requires-clause-room
append_failure-requires-clause-room g c =
    room-50 c.moving.inside.steps c.moving.inside.epoch.entries.room (subst (λ p. 1 ≤ p.parts.steps) (sym c.moving.view_is) c.requires.room) (alike c.moving.invariant).room_left

pub newly_unassigned-roles-requires-clause-known : goal.newly_unassigned-roles-requires-clause-known
newly_unassigned-roles-requires-clause-known g c =
    known-moved c.len-count.result c.write_list-done.ensures.keeps.moved c.len-count.ensures (alike c.moving.invariant).kept.members_are.placed.roles

pub unassigned_roles-before-requires-clause-known : goal.unassigned_roles-before-requires-clause-known
unassigned_roles-before-requires-clause-known g c = le-same _ _ c.len-count.ensures

pub returns-in-Some-clause-left : goal.returns-in-Some-clause-left
returns-in-Some-clause-left g c = ap (λ p. left_in p.parts.work p.parts.members p.course p.ahead) c.moving.view_is

pub returns-in-Some-clause-course : goal.returns-in-Some-clause-course
returns-in-Some-clause-course g c = ap (λ p. p.course) c.moving.view_is

pub returns-in-Some-clause-given : goal.returns-in-Some-clause-given
returns-in-Some-clause-given g c = ap (λ p. g.B.Bank.given p.parts.bank) c.moving.view_is

pub returns-in-Some-refusal-clause-course : goal.returns-in-Some-refusal-clause-course
returns-in-Some-refusal-clause-course g c = ap (λ p. p.course) c.moving.view_is

pub returns-clause-course : goal.returns-clause-course
returns-clause-course g c = ap (λ p. p.course) c.moving.view_is

pub returns-in-Some-refusal-clause-given : goal.returns-in-Some-refusal-clause-given
returns-in-Some-refusal-clause-given g c = c.write_list-done.ensures.keeps.bank.same ∙ ap (λ p. g.B.Bank.given p.parts.bank) c.moving.view_is

pub returns-clause-given : goal.returns-clause-given
returns-clause-given g c = c.write_list-done.ensures.keeps.bank.same ∙ ap (λ p. g.B.Bank.given p.parts.bank) c.moving.view_is

pub check_going-requires : goal.check_going-requires
check_going-requires g c = subst (λ p. IsCallGoing p.parts.entries c.args.who) (sym c.moving.view_is) c.requires.open

pub append_entry-requires-clause-number : goal.append_entry-requires-clause-number
append_entry-requires-clause-number g c = c.check_going.ensures

pub append_after_losses-requires-clause-number : goal.append_after_losses-requires-clause-number
append_after_losses-requires-clause-number g c = c.check_going.ensures

pub append_failure-requires-clause-number : goal.append_failure-requires-clause-number
append_failure-requires-clause-number g c = c.check_going.ensures

pub unwritten_here-requires-clause-roles : goal.unwritten_here-requires-clause-roles
unwritten_here-requires-clause-roles g c = (alike c.moving.invariant).kept.members_are.placed.roles

pub returns-in-Some-clause-active : goal.returns-in-Some-clause-active
returns-in-Some-clause-active g c = (ap (λ p. is_reshaping p.parts.members.newest) c.moving.view_is ∙ c.requires.active)

pub returns-in-Some-refusal-clause-active : goal.returns-in-Some-refusal-clause-active
returns-in-Some-refusal-clause-active g c = c.write_list-done.ensures.keeps.moved.reshape.reshaping ∙ (ap (λ p. is_reshaping p.parts.members.newest) c.moving.view_is ∙ c.requires.active)

pub returns-clause-active : goal.returns-clause-active
returns-clause-active g c = c.write_list-done.ensures.keeps.moved.reshape.reshaping ∙ (ap (λ p. is_reshaping p.parts.members.newest) c.moving.view_is ∙ c.requires.active)
