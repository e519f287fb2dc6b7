use Rattle.std.proofs.Common.{◌≡◌, ◌+◌, ◌-◌, ◌*◌, ◌/◌, ◌<◌, ◌≤◌, ◌++◌, ◌∷◌, [], ℕ, Option, None, List, length, take, drop, refl, sym, ◌∙◌, ap, subst, arith}
use Rattle.std.specs.Prelude.{IfSome}
use Rattle.std.specs.Vec.{with_items}
use Rattle.array_reshaping_steps.specs.raid_types_the_Span.{Span}
use Rattle.array_reshaping_steps.specs.raid_types_Sectors.{Sector, IsWhole, sectors_of}
use Rattle.array_reshaping_steps.proofs.raid_types_SectorLaws.{length-sectors_of}
use Rattle.array_reshaping_steps.specs.sb_specs_Reading.{list_length, is_clean, is_reshaping}
use Rattle.array_reshaping_steps.proofs.sb_specs_ValidFields.{few-roles}
use Rattle.array_reshaping_steps.specs.stripe_row_Rows.{present}
use Rattle.array_reshaping_steps.specs.history_the_Entry.{Entry}
use Rattle.array_reshaping_steps.specs.history_the_Event_TheVariants.{Read, Refused}
use Rattle.array_reshaping_steps.specs.history_the_Request_TheVariants.{Read as AsksRead}
use Rattle.array_reshaping_steps.specs.history_World.{World, opening_list}
use Rattle.array_reshaping_steps.specs.history_Flat.{next_number, now}
use Rattle.array_reshaping_steps.specs.history_Plain.{entries_of}
use Rattle.array_reshaping_steps.specs.history_Stands.{shape_for}
use Rattle.array_reshaping_steps.specs.array_members_Numbers.{bears}
use Rattle.array_reshaping_steps.specs.array_members_Lacking.{AreLostSince, DoesWithout, HaveRolesFailed}
use Rattle.array_reshaping_steps.proofs.array_members_LackingLaws.{lost-since}
use Rattle.array_reshaping_steps.proofs.array_members_LackingLists.{row-sector}
use Rattle.array_reshaping_steps.specs.history_append_Losing.{losses_of}
use Rattle.array_reshaping_steps.proofs.history_append_CallLaws.{losses-are, torn-losses}
use Rattle.array_reshaping_steps.specs.array_call_specs_Kept.{scope_in}
use Rattle.array_reshaping_steps.specs.array_call_specs_Calls.{IsRefusedFor, IsRefusalOf}
use Rattle.array_reshaping_steps.proofs.array_call_specs_LossLaws.{losses-behind, ended-behind}
use Rattle.array_reshaping_steps.proofs.array_call_specs_ReadyLaws.{scope-same}
use Rattle.array_reshaping_steps.proofs.array_call_specs_ReplyLaws.{inside-losses, replied, refused-for}
use Rattle.array_reshaping_steps.proofs.array_call_laws_ReadLaws.{some-of}
use Rattle.array_reshaping_steps.specs.stripe_region_resync_Resyncs.{relied_sector}
use Rattle.array_reshaping_steps.specs.reshape_progress_Course.{hidden_in}
use Rattle.array_reshaping_steps.specs.array_reshaping_state_First.{IsUnreadAround}
use Rattle.array_reshaping_steps.specs.reshape_window_io_Fetching.{IsUnreadBeside}
use Rattle.array_reshaping_steps.specs.history_invariant_Safe.{world_in}
use Rattle.array_reshaping_steps.proofs.history_invariant_Records.{begins-going}
use Rattle.array_reshaping_steps.specs.history_invariant_laws_Reliable.{IsReliable}
use Rattle.array_reshaping_steps.specs.array_reshaping_invariant_Moving.{IsMoving}
use Rattle.array_reshaping_steps.proofs.array_reshaping_invariant_Steps.{missing-since}
use Rattle.array_reshaping_steps.specs.array_reshaping_laws_Ready.{bytes_in}
use Rattle.array_reshaping_steps.specs.array_specs_Calls.{moving_world}
use Rattle.array_reshaping_steps.specs.array_specs_Parts.{visible_size, visible_in}
use Rattle.array_reshaping_steps.proofs.array_specs_Replies.{lost_reply, read_kind}
use Rattle.array_reshaping_steps.proofs.array_specs_VisibleLaws.{visible-within}
use Rattle.array_reshaping_steps.proofs.array_reshaping_laws_Kept.{ready, with-buffer, shapes-moved, left-moved, behind-keeps, behind-whole, written-whole}
use Rattle.array_reshaping_steps.proofs.array_specs_Called.{not_254, called, risen-told}
use Rattle.array_reshaping_steps.proofs.array_reshaping_laws_Reading.{IsFetched, read-live, read-some, room-taken, unread-moves, read-moves, holds-read, beside-unread, unread-missing, read-does, asked-is, hidden-fits, holds-sliced}
use Rattle.array_reshaping_steps.proofs.array_type_ReshapingCalls.{room-49, known-moved, le-same, room-after-49, scratch-of, whole-as, within-same, called-over}
use Rattle.std.proofs.lemmas.List.{length-take-le}
use Rattle.array_reshaping_steps.specs.crash_safety_laws_Marking.{AreOthersPresent}
use Rattle.array_reshaping_steps.proofs.array_type_Alike.{alike, goes-on}
use Rattle.array_reshaping_io.proofs.reading.read_some.Goals as goal

pub overflow_cast-count : goal.overflow_cast-count
overflow_cast-count g c =
    let members = (c.moving.invariant.moves (ap (λ p. is_reshaping p.parts.members.newest) c.moving.view_is ∙ c.requires.active)).1.kept.members_are in
    let few = few-roles c.moving.inside.members.newest members.placed.fit.valid in
    let roles = members.backed.roles in
    let long = c.len-count.ensures in
    omega (arith, few, roles, long)

pub unassigned_roles-before-requires-clause-few : goal.unassigned_roles-before-requires-clause-few
unassigned_roles-before-requires-clause-few g c =
    let members = (c.moving.invariant.moves (ap (λ p. is_reshaping p.parts.members.newest) c.moving.view_is ∙ c.requires.active)).1.kept.members_are in
    let few = few-roles c.moving.inside.members.newest members.placed.fit.valid in
    let roles = members.backed.roles in
    let long = c.len-count.ensures in
    omega (arith, few, roles, long)

pub newly_unassigned-roles-requires-clause-few : goal.newly_unassigned-roles-requires-clause-few
newly_unassigned-roles-requires-clause-few g c =
    let members = (c.moving.invariant.moves (ap (λ p. is_reshaping p.parts.members.newest) c.moving.view_is ∙ c.requires.active)).1.kept.members_are in
    let few = few-roles c.moving.inside.members.newest members.placed.fit.valid in
    let roles = members.backed.roles in
    let long = c.len-count.ensures in
    omega (arith, few, roles, long)

pub bytes_of-wide-requires : goal.bytes_of-wide-requires
bytes_of-wide-requires g c =
    let was = (c.moving.invariant.moves (ap (λ p. is_reshaping p.parts.members.newest) c.moving.view_is ∙ c.requires.active)).1 in
    let a = c.moving.inside in
    let long = c.len.ensures in
    subst (λ (o : Option Span). IfSome o (λ span. 512 * (span.hi - span.lo) ≤ c.len.result)) (sym c.backed_up_span-hidden.ensures)
    (hidden-fits a.members.newest was.kept.members_are.placed.fit a.course.window was.kept.course_is.window c.len.result (let wide = was.wide in omega (arith, wide, long)))

pub read_around_window-fetched-requires-clause-buffer : goal.read_around_window-fetched-requires-clause-buffer
read_around_window-fetched-requires-clause-buffer g c =
    let within = c.bytes_of-wide.ensures.within in
    let len = c.len.ensures in
    let long = ap (λ (l : List ℕ). length l) c.as_slice.ensures.value in
    room-taken c.backed_up_span-hidden.result c.bytes_of-wide.result c.as_slice.result.now (omega (arith, within, len, long)) c.bytes_of-wide.ensures.long

pub invariant_of-moving : goal.invariant_of-moving
invariant_of-moving g c =
    goes-on (c.moving.invariant.moves (ap (λ p. is_reshaping p.parts.members.newest) c.moving.view_is ∙ c.requires.active)).0 (
    let was = (c.moving.invariant.moves (ap (λ p. is_reshaping p.parts.members.newest) c.moving.view_is ∙ c.requires.active)).1 in
    let a = c.moving.inside in
    let steps : 1 ≤ a.steps = subst (λ p. 1 ≤ p.parts.steps) (sym c.moving.view_is) c.requires.room in
    let fine : IsRefusalOf (visible_size a.members a.limit) (c.args.at + length c.args.into.now / 512) (IsUnreadAround c.backed_up_span-hidden.result c.relied_sector-relied.result c.args.at (c.args.at + length c.args.into.now / 512)) a.members None =
    subst (λ (o : Option Span). IsRefusalOf (visible_size a.members a.limit) (c.args.at + length c.args.into.now / 512) (IsUnreadAround o c.relied_sector-relied.result c.args.at (c.args.at + length c.args.into.now / 512)) a.members None) (sym c.backed_up_span-hidden.ensures)
    (subst (λ (n : ℕ). IsRefusalOf (visible_size a.members a.limit) (c.args.at + length c.args.into.now / 512) (IsUnreadAround (hidden_in a.course.window) n c.args.at (c.args.at + length c.args.into.now / 512)) a.members None) (sym c.relied_sector-relied.ensures.value)
    (subst (λ p. IsRefusalOf (visible_in p) (c.args.at + length c.args.into.now / 512) (IsUnreadAround (hidden_in p.course.window) (relied_sector p.parts.members.newest p.parts.work.resync) c.args.at (c.args.at + length c.args.into.now / 512)) p.parts.members None) (sym c.moving.view_is) c.requires.fine)) in
    let given = g.B.Bank.given a.bank in
    let scope = scope_in given a.epoch.uuid a.epoch.given a.backup in
    let number : c.args.who.number ≡ next_number c.args.who.caller a.epoch.entries.items = c.requires.next ∙ ap (λ p. next_number c.args.who.caller p.parts.entries) (sym c.moving.view_is) in
    let m = c.read_around_window-fetched.new.members in
    let did = c.read_around_window-fetched.ensures in
    let tape = g.B.Bank.tape a.bank in
    let tape' = g.B.Bank.tape c.read_around_window-fetched.new.bank in
    let before = g.B.Bank.faults_of a.bank in
    let after = g.B.Bank.faults_of c.read_around_window-fetched.new.bank in
    let roles = c.newly_unassigned-roles.result in
    let spares = c.read_around_window-fetched.result.spares in
    let end = c.ops-end.result in
    let size = list_length a.members.newest in
    let count = length c.args.into.now / 512 in
    let asked = length c.as_mut_slice.result.now / 512 in
    let since : AreLostSince a.members m roles spares before after = lost-since given a.members m c.len-count.result c.unassigned_roles-before.result roles spares before after was.kept.members_are.placed did.keeps.moved did.keeps.failed
    (c.len-count.ensures ∙ was.kept.members_are.backed.roles) c.unassigned_roles-before.ensures c.newly_unassigned-roles.ensures in
    let named : IsFetched g.B.Bank.tells given tape tape' a.members m roles =
    record {
      moved = did.keeps.moved;
      few = few-roles m.newest did.keeps.moved.placed.fit.valid;
      since = missing-since roles did.keeps.moved since.vacant;
      clean = did.clean;
      rise = risen-told did.keeps.rise;
      unused = did.keeps.unused;
      others = did.others;
      safe = did.safe;
    } in
    let refusal = c.in-Some.refusal in
    let same : asked ≡ count = asked-is c.args.bytes.items c.as_mut_slice.result.now c.args.into.now c.requires.same c.as_mut_slice.ensures.value in
    let within : c.args.at + count ≤ visible_size a.members a.limit = let below = fine.0 in omega (arith, below) in
    let hidden = c.backed_up_span-hidden.result in
    let relied = c.relied_sector-relied.result in
    let why : IsUnreadAround hidden relied c.args.at (c.args.at + count) m refusal =
    subst (λ (n : ℕ). IsUnreadAround hidden relied c.args.at (c.args.at + n) m refusal) same
    (beside-unread hidden relied c.args.at (c.args.at + asked) m refusal
    (some-of (IsUnreadBeside hidden relied c.args.at (c.args.at + asked) m) c.read_around_window-fetched.result.refusal refusal c.in-Some.is did.refused)) in
    with-buffer (let len = (with_items a.buffer c.read_around_window-fetched.new.scratch).ok.0 in let ok = a.buffer.ok.0 in let fits = was.buffer_fits in omega (arith, len, ok, fits))
    (ready (entries_of c.args.who end (losses_of roles spares ++ Refused refusal ∷ [])) was did.keeps.bank.grows (shapes-moved given a.members m did.keeps.moved)
    (subst (λ (left : ℕ). IsMoving g.B.Bank.tells given tape' scope a.epoch.first (a.epoch.entries.items ++ entries_of c.args.who end (losses_of roles spares ++ Refused refusal ∷ [])) m (bears a.work) a.work.resync a.course (bytes_in a.course.window a.window.items) left)
    (sym (left-moved given a.members m a.work.resync a.course a.ahead did.keeps.moved)) (unread-moves was.kept was.limited (read-live c.backed_up_span-hidden.result c.relied_sector-relied.result c.args.at (c.args.at + count) was.kept fine.1 (read-some count c.args.at (λ zero. let some = c.requires.some in omega (arith, some, zero)))) c.args.who end roles spares (begins-going a.epoch.entries.items c.args.who number) (not_254 c.args.who.caller c.requires.caller) c.ops-end.ensures.count did.keeps.bank.grows named hidden relied c.args.at (c.args.at + count) refusal c.relied_sector-relied.ensures.value within why))
    refl did.keeps.bank.counts (behind-keeps c.args.who end roles spares (Refused refusal) (λ n. refl) (λ limit. refl))
    (behind-whole tape' scope a.epoch.first a.epoch.entries.items c.args.who end roles spares (Refused refusal) did.keeps.moved (missing-since roles did.keeps.moved since.vacant)) did.keeps.bank.same (scope-same given a.backup did.keeps.bank.same c.append_after_losses.ensures.uuid c.append_after_losses.ensures.given) c.append_after_losses.ensures.first refl
    c.append_after_losses.ensures.items
    (room-after-49 a.steps a.epoch.entries.room c.append_after_losses.new.epoch.entries.room was.room_left c.append_after_losses.ensures.room steps)))

pub returns-in-Some-clause-answered : goal.returns-in-Some-clause-answered
returns-in-Some-clause-answered g c =
    let was = (c.moving.invariant.moves (ap (λ p. is_reshaping p.parts.members.newest) c.moving.view_is ∙ c.requires.active)).1 in
    let a = c.moving.inside in
    let fine : IsRefusalOf (visible_size a.members a.limit) (c.args.at + length c.args.into.now / 512) (IsUnreadAround c.backed_up_span-hidden.result c.relied_sector-relied.result c.args.at (c.args.at + length c.args.into.now / 512)) a.members None =
    subst (λ (o : Option Span). IsRefusalOf (visible_size a.members a.limit) (c.args.at + length c.args.into.now / 512) (IsUnreadAround o c.relied_sector-relied.result c.args.at (c.args.at + length c.args.into.now / 512)) a.members None) (sym c.backed_up_span-hidden.ensures)
    (subst (λ (n : ℕ). IsRefusalOf (visible_size a.members a.limit) (c.args.at + length c.args.into.now / 512) (IsUnreadAround (hidden_in a.course.window) n c.args.at (c.args.at + length c.args.into.now / 512)) a.members None) (sym c.relied_sector-relied.ensures.value)
    (subst (λ p. IsRefusalOf (visible_in p) (c.args.at + length c.args.into.now / 512) (IsUnreadAround (hidden_in p.course.window) (relied_sector p.parts.members.newest p.parts.work.resync) c.args.at (c.args.at + length c.args.into.now / 512)) p.parts.members None) (sym c.moving.view_is) c.requires.fine)) in
    let given = g.B.Bank.given a.bank in
    let scope = scope_in given a.epoch.uuid a.epoch.given a.backup in
    let number : c.args.who.number ≡ next_number c.args.who.caller a.epoch.entries.items = c.requires.next ∙ ap (λ p. next_number c.args.who.caller p.parts.entries) (sym c.moving.view_is) in
    let m = c.read_around_window-fetched.new.members in
    let did = c.read_around_window-fetched.ensures in
    let tape = g.B.Bank.tape a.bank in
    let tape' = g.B.Bank.tape c.read_around_window-fetched.new.bank in
    let before = g.B.Bank.faults_of a.bank in
    let after = g.B.Bank.faults_of c.read_around_window-fetched.new.bank in
    let roles = c.newly_unassigned-roles.result in
    let spares = c.read_around_window-fetched.result.spares in
    let end = c.ops-end.result in
    let size = list_length a.members.newest in
    let count = length c.args.into.now / 512 in
    let asked = length c.as_mut_slice.result.now / 512 in
    let since : AreLostSince a.members m roles spares before after = lost-since given a.members m c.len-count.result c.unassigned_roles-before.result roles spares before after was.kept.members_are.placed did.keeps.moved did.keeps.failed
    (c.len-count.ensures ∙ was.kept.members_are.backed.roles) c.unassigned_roles-before.ensures c.newly_unassigned-roles.ensures in
    let refusal = c.in-Some.refusal in
    let same : asked ≡ count = asked-is c.args.bytes.items c.as_mut_slice.result.now c.args.into.now c.requires.same c.as_mut_slice.ensures.value in
    let within : c.args.at + count ≤ visible_size a.members a.limit = let below = fine.0 in omega (arith, below) in
    let hidden = c.backed_up_span-hidden.result in
    let relied = c.relied_sector-relied.result in
    let why : IsUnreadAround hidden relied c.args.at (c.args.at + count) m refusal =
    subst (λ (n : ℕ). IsUnreadAround hidden relied c.args.at (c.args.at + n) m refusal) same
    (beside-unread hidden relied c.args.at (c.args.at + asked) m refusal
    (some-of (IsUnreadBeside hidden relied c.args.at (c.args.at + asked) m) c.read_around_window-fetched.result.refusal refusal c.in-Some.is did.refused)) in
    let missing = unread-missing hidden relied c.args.at (c.args.at + count) m refusal why in
    rw (← c.moving.view_is) (lost_reply size a.limit a.epoch.entries.items was.sized was.limited (AsksRead c.args.at count) c.args.who (c.args.at + count)
    c.append_after_losses.new.epoch.entries.items end roles spares refusal (read_kind c.args.at count) within missing
    (c.append_after_losses.ensures.items) number)

pub returns-in-Some-clause-caused : goal.returns-in-Some-clause-caused
returns-in-Some-clause-caused g c =
    let was = (c.moving.invariant.moves (ap (λ p. is_reshaping p.parts.members.newest) c.moving.view_is ∙ c.requires.active)).1 in
    let a = c.moving.inside in
    let fine : IsRefusalOf (visible_size a.members a.limit) (c.args.at + length c.args.into.now / 512) (IsUnreadAround c.backed_up_span-hidden.result c.relied_sector-relied.result c.args.at (c.args.at + length c.args.into.now / 512)) a.members None =
    subst (λ (o : Option Span). IsRefusalOf (visible_size a.members a.limit) (c.args.at + length c.args.into.now / 512) (IsUnreadAround o c.relied_sector-relied.result c.args.at (c.args.at + length c.args.into.now / 512)) a.members None) (sym c.backed_up_span-hidden.ensures)
    (subst (λ (n : ℕ). IsRefusalOf (visible_size a.members a.limit) (c.args.at + length c.args.into.now / 512) (IsUnreadAround (hidden_in a.course.window) n c.args.at (c.args.at + length c.args.into.now / 512)) a.members None) (sym c.relied_sector-relied.ensures.value)
    (subst (λ p. IsRefusalOf (visible_in p) (c.args.at + length c.args.into.now / 512) (IsUnreadAround (hidden_in p.course.window) (relied_sector p.parts.members.newest p.parts.work.resync) c.args.at (c.args.at + length c.args.into.now / 512)) p.parts.members None) (sym c.moving.view_is) c.requires.fine)) in
    let given = g.B.Bank.given a.bank in
    let scope = scope_in given a.epoch.uuid a.epoch.given a.backup in
    let number : c.args.who.number ≡ next_number c.args.who.caller a.epoch.entries.items = c.requires.next ∙ ap (λ p. next_number c.args.who.caller p.parts.entries) (sym c.moving.view_is) in
    let m = c.read_around_window-fetched.new.members in
    let did = c.read_around_window-fetched.ensures in
    let tape = g.B.Bank.tape a.bank in
    let tape' = g.B.Bank.tape c.read_around_window-fetched.new.bank in
    let before = g.B.Bank.faults_of a.bank in
    let after = g.B.Bank.faults_of c.read_around_window-fetched.new.bank in
    let roles = c.newly_unassigned-roles.result in
    let spares = c.read_around_window-fetched.result.spares in
    let end = c.ops-end.result in
    let size = list_length a.members.newest in
    let count = length c.args.into.now / 512 in
    let asked = length c.as_mut_slice.result.now / 512 in
    let since : AreLostSince a.members m roles spares before after = lost-since given a.members m c.len-count.result c.unassigned_roles-before.result roles spares before after was.kept.members_are.placed did.keeps.moved did.keeps.failed
    (c.len-count.ensures ∙ was.kept.members_are.backed.roles) c.unassigned_roles-before.ensures c.newly_unassigned-roles.ensures in
    let refusal = c.in-Some.refusal in
    let same : asked ≡ count = asked-is c.args.bytes.items c.as_mut_slice.result.now c.args.into.now c.requires.same c.as_mut_slice.ensures.value in
    let within : c.args.at + count ≤ visible_size a.members a.limit = let below = fine.0 in omega (arith, below) in
    let hidden = c.backed_up_span-hidden.result in
    let relied = c.relied_sector-relied.result in
    let why : IsUnreadAround hidden relied c.args.at (c.args.at + count) m refusal =
    subst (λ (n : ℕ). IsUnreadAround hidden relied c.args.at (c.args.at + n) m refusal) same
    (beside-unread hidden relied c.args.at (c.args.at + asked) m refusal
    (some-of (IsUnreadBeside hidden relied c.args.at (c.args.at + asked) m) c.read_around_window-fetched.result.refusal refusal c.in-Some.is did.refused)) in
    let missing = unread-missing hidden relied c.args.at (c.args.at + count) m refusal why in
    rw (← c.moving.view_is) (subst (λ (o : Option Span). IsRefusedFor (visible_size a.members a.limit) (c.args.at + count) (IsUnreadAround o (relied_sector a.members.newest a.work.resync) c.args.at (c.args.at + count)) a.members m refusal) c.backed_up_span-hidden.ensures
    (subst (λ (n : ℕ). IsRefusedFor (visible_size a.members a.limit) (c.args.at + count) (IsUnreadAround hidden n c.args.at (c.args.at + count)) a.members m refusal) c.relied_sector-relied.ensures.value
    (refused-for (visible_size a.members a.limit) (c.args.at + count) (IsUnreadAround hidden relied c.args.at (c.args.at + count)) a.members m refusal missing within why)))

pub returns-in-Some-clause-called : goal.returns-in-Some-clause-called
returns-in-Some-clause-called g c =
    let was = (c.moving.invariant.moves (ap (λ p. is_reshaping p.parts.members.newest) c.moving.view_is ∙ c.requires.active)).1 in
    let a = c.moving.inside in
    let given = g.B.Bank.given a.bank in
    let scope = scope_in given a.epoch.uuid a.epoch.given a.backup in
    let number : c.args.who.number ≡ next_number c.args.who.caller a.epoch.entries.items = c.requires.next ∙ ap (λ p. next_number c.args.who.caller p.parts.entries) (sym c.moving.view_is) in
    let m = c.read_around_window-fetched.new.members in
    let did = c.read_around_window-fetched.ensures in
    let tape = g.B.Bank.tape a.bank in
    let tape' = g.B.Bank.tape c.read_around_window-fetched.new.bank in
    let before = g.B.Bank.faults_of a.bank in
    let after = g.B.Bank.faults_of c.read_around_window-fetched.new.bank in
    let roles = c.newly_unassigned-roles.result in
    let spares = c.read_around_window-fetched.result.spares in
    let end = c.ops-end.result in
    let size = list_length a.members.newest in
    let count = length c.args.into.now / 512 in
    let asked = length c.as_mut_slice.result.now / 512 in
    let since : AreLostSince a.members m roles spares before after = lost-since given a.members m c.len-count.result c.unassigned_roles-before.result roles spares before after was.kept.members_are.placed did.keeps.moved did.keeps.failed
    (c.len-count.ensures ∙ was.kept.members_are.backed.roles) c.unassigned_roles-before.ensures c.newly_unassigned-roles.ensures in
    called-over g.B.Bank.given g.B.Bank.tape g.B.Bank.faults_of c.moving.view_is (called did.keeps.bank.grows did.keeps.moved
    (ended-behind tape' c.append_after_losses.new.epoch.first a.epoch.entries.items c.args.who end (losses_of roles spares) (Refused c.in-Some.refusal) c.append_after_losses.ensures.items c.ops-end.ensures.count)
    (losses-behind a.members m before after a.epoch.entries.items a.epoch.entries.items c.append_after_losses.new.epoch.entries.items c.args.who end roles spares (Refused c.in-Some.refusal) since tt refl c.append_after_losses.ensures.items)
    did.keeps.bank.counts (record { uuid = c.append_after_losses.ensures.uuid; given = c.append_after_losses.ensures.given; first = c.append_after_losses.ensures.first; backup = refl; work = refl; ahead = refl; limit = refl }) (λ t. (was.kept.recorded t).begun))

pub returns-in-Some-clause-others : goal.returns-in-Some-clause-others
returns-in-Some-clause-others g c =
    subst (λ p. g.B.Bank.tells → AreOthersPresent (present (g.B.Bank.given p.parts.bank) (g.B.Bank.tape p.parts.bank)) (present (g.B.Bank.given p.parts.bank) (g.B.Bank.tape c.read_around_window-fetched.new.bank))) c.moving.view_is c.read_around_window-fetched.ensures.others

pub returns-clause-others : goal.returns-clause-others
returns-clause-others g c =
    subst (λ p. g.B.Bank.tells → AreOthersPresent (present (g.B.Bank.given p.parts.bank) (g.B.Bank.tape p.parts.bank)) (present (g.B.Bank.given p.parts.bank) (g.B.Bank.tape c.read_around_window-fetched.new.bank))) c.moving.view_is c.read_around_window-fetched.ensures.others

pub returns-in-Some-clause-failed : goal.returns-in-Some-clause-failed
returns-in-Some-clause-failed g c =
    subst (λ p. HaveRolesFailed p.parts.members c.read_around_window-fetched.new.members (g.B.Bank.faults_of p.parts.bank) (g.B.Bank.faults_of c.read_around_window-fetched.new.bank)) c.moving.view_is c.read_around_window-fetched.ensures.keeps.failed.roles

pub returns-clause-failed : goal.returns-clause-failed
returns-clause-failed g c =
    subst (λ p. HaveRolesFailed p.parts.members c.read_around_window-fetched.new.members (g.B.Bank.faults_of p.parts.bank) (g.B.Bank.faults_of c.read_around_window-fetched.new.bank)) c.moving.view_is c.read_around_window-fetched.ensures.keeps.failed.roles

pub invariant_of-moving-2 : goal.invariant_of-moving-2
invariant_of-moving-2 g c =
    goes-on (c.moving.invariant.moves (ap (λ p. is_reshaping p.parts.members.newest) c.moving.view_is ∙ c.requires.active)).0 (
    let was = (c.moving.invariant.moves (ap (λ p. is_reshaping p.parts.members.newest) c.moving.view_is ∙ c.requires.active)).1 in
    let a = c.moving.inside in
    let steps : 1 ≤ a.steps = subst (λ p. 1 ≤ p.parts.steps) (sym c.moving.view_is) c.requires.room in
    let fine : IsRefusalOf (visible_size a.members a.limit) (c.args.at + length c.args.into.now / 512) (IsUnreadAround c.backed_up_span-hidden.result c.relied_sector-relied.result c.args.at (c.args.at + length c.args.into.now / 512)) a.members None =
    subst (λ (o : Option Span). IsRefusalOf (visible_size a.members a.limit) (c.args.at + length c.args.into.now / 512) (IsUnreadAround o c.relied_sector-relied.result c.args.at (c.args.at + length c.args.into.now / 512)) a.members None) (sym c.backed_up_span-hidden.ensures)
    (subst (λ (n : ℕ). IsRefusalOf (visible_size a.members a.limit) (c.args.at + length c.args.into.now / 512) (IsUnreadAround (hidden_in a.course.window) n c.args.at (c.args.at + length c.args.into.now / 512)) a.members None) (sym c.relied_sector-relied.ensures.value)
    (subst (λ p. IsRefusalOf (visible_in p) (c.args.at + length c.args.into.now / 512) (IsUnreadAround (hidden_in p.course.window) (relied_sector p.parts.members.newest p.parts.work.resync) c.args.at (c.args.at + length c.args.into.now / 512)) p.parts.members None) (sym c.moving.view_is) c.requires.fine)) in
    let given = g.B.Bank.given a.bank in
    let scope = scope_in given a.epoch.uuid a.epoch.given a.backup in
    let number : c.args.who.number ≡ next_number c.args.who.caller a.epoch.entries.items = c.requires.next ∙ ap (λ p. next_number c.args.who.caller p.parts.entries) (sym c.moving.view_is) in
    let m = c.read_around_window-fetched.new.members in
    let did = c.read_around_window-fetched.ensures in
    let tape = g.B.Bank.tape a.bank in
    let tape' = g.B.Bank.tape c.read_around_window-fetched.new.bank in
    let before = g.B.Bank.faults_of a.bank in
    let after = g.B.Bank.faults_of c.read_around_window-fetched.new.bank in
    let roles = c.newly_unassigned-roles.result in
    let spares = c.read_around_window-fetched.result.spares in
    let end = c.ops-end.result in
    let size = list_length a.members.newest in
    let count = length c.args.into.now / 512 in
    let asked = length c.as_mut_slice.result.now / 512 in
    let since : AreLostSince a.members m roles spares before after = lost-since given a.members m c.len-count.result c.unassigned_roles-before.result roles spares before after was.kept.members_are.placed did.keeps.moved did.keeps.failed
    (c.len-count.ensures ∙ was.kept.members_are.backed.roles) c.unassigned_roles-before.ensures c.newly_unassigned-roles.ensures in
    let named : IsFetched g.B.Bank.tells given tape tape' a.members m roles =
    record {
      moved = did.keeps.moved;
      few = few-roles m.newest did.keeps.moved.placed.fit.valid;
      since = missing-since roles did.keeps.moved since.vacant;
      clean = did.clean;
      rise = risen-told did.keeps.rise;
      unused = did.keeps.unused;
      others = did.others;
      safe = did.safe;
    } in
    let bytes = c.read_around_window-fetched.new.into in
    let filled : length bytes ≡ length c.as_mut_slice.result.now = c.read_around_window-fetched.auto.into in
    let same : length bytes / 512 ≡ asked = ap (λ (n : ℕ). n / 512) filled in
    let whole = written-whole c.args.bytes.len c.args.bytes.items bytes (filled ∙ ap (λ (l : List ℕ). length l) c.as_mut_slice.ensures.value) c.args.bytes.ok.0 in
    let within : c.args.at + length bytes / 512 ≤ visible_size a.members a.limit = let below = fine.0 in
    let long = asked-is c.args.bytes.items c.as_mut_slice.result.now c.args.into.now c.requires.same c.as_mut_slice.ensures.value in omega (arith, below, same, long) in
    let does : (x : ℕ) → c.args.at ≤ x → x < c.args.at + length bytes / 512 → DoesWithout (shape_for a.members.newest x) a.members = λ x low high. read-does a.members c.backed_up_span-hidden.result c.relied_sector-relied.result c.args.at (c.args.at + count) fine.1 x low
    (let long = asked-is c.args.bytes.items c.as_mut_slice.result.now c.args.into.now c.requires.same c.as_mut_slice.ensures.value in omega (arith, high, same, long)) in
    let holds = holds-sliced g.B.Bank.tells a.members m (present given tape) a.course.window a.window.items (take c.bytes_of-wide.result c.as_slice.result.now) c.bytes_of-wide.result c.backed_up_span-hidden.result c.relied_sector-relied.result c.args.at bytes asked same
    c.backed_up_span-hidden.ensures (ap (λ (l : List ℕ). take c.bytes_of-wide.result l) c.as_slice.ensures.value) c.bytes_of-wide.ensures.long (did.holds c.in_default.is) in
    with-buffer (let len = (with_items a.buffer c.read_around_window-fetched.new.scratch).ok.0 in let ok = a.buffer.ok.0 in let fits = was.buffer_fits in omega (arith, len, ok, fits))
    (ready (entries_of c.args.who end (losses_of roles spares ++ Read c.args.at (sectors_of bytes) ∷ [])) was did.keeps.bank.grows (shapes-moved given a.members m did.keeps.moved)
    (subst (λ (left : ℕ). IsMoving g.B.Bank.tells given tape' scope a.epoch.first (a.epoch.entries.items ++ entries_of c.args.who end (losses_of roles spares ++ Read c.args.at (sectors_of bytes) ∷ [])) m (bears a.work) a.work.resync a.course (bytes_in a.course.window a.window.items) left)
    (sym (left-moved given a.members m a.work.resync a.course a.ahead did.keeps.moved)) (read-moves was.kept was.limited (read-live c.backed_up_span-hidden.result c.relied_sector-relied.result c.args.at (c.args.at + count) was.kept fine.1 (read-some count c.args.at (λ zero. let some = c.requires.some in omega (arith, some, zero)))) c.args.who end roles spares (begins-going a.epoch.entries.items c.args.who number) (not_254 c.args.who.caller c.requires.caller) c.ops-end.ensures.count did.keeps.bank.grows named c.relied_sector-relied.result c.args.at bytes c.relied_sector-relied.ensures.value does within holds))
    refl did.keeps.bank.counts (behind-keeps c.args.who end roles spares (Read c.args.at (sectors_of bytes)) (λ n. refl) (λ limit. refl))
    (behind-whole tape' scope a.epoch.first a.epoch.entries.items c.args.who end roles spares (Read c.args.at (sectors_of bytes)) did.keeps.moved (missing-since roles did.keeps.moved since.vacant)) did.keeps.bank.same (scope-same given a.backup did.keeps.bank.same c.append_after_losses-2.ensures.uuid c.append_after_losses-2.ensures.given) c.append_after_losses-2.ensures.first refl
    (c.append_after_losses-2.ensures.items ∙ ap (λ (b : List Sector). a.epoch.entries.items ++ entries_of c.args.who end (losses_of roles spares ++ Read c.args.at b ∷ [])) (c.from_bytes-body.ensures ∙ ap sectors_of whole))
    (room-after-49 a.steps a.epoch.entries.room c.append_after_losses-2.new.epoch.entries.room was.room_left c.append_after_losses-2.ensures.room steps)))

pub returns-clause-answered : goal.returns-clause-answered
returns-clause-answered g c =
    let was = (c.moving.invariant.moves (ap (λ p. is_reshaping p.parts.members.newest) c.moving.view_is ∙ c.requires.active)).1 in
    let a = c.moving.inside in
    let given = g.B.Bank.given a.bank in
    let scope = scope_in given a.epoch.uuid a.epoch.given a.backup in
    let number : c.args.who.number ≡ next_number c.args.who.caller a.epoch.entries.items = c.requires.next ∙ ap (λ p. next_number c.args.who.caller p.parts.entries) (sym c.moving.view_is) in
    let m = c.read_around_window-fetched.new.members in
    let did = c.read_around_window-fetched.ensures in
    let tape = g.B.Bank.tape a.bank in
    let tape' = g.B.Bank.tape c.read_around_window-fetched.new.bank in
    let before = g.B.Bank.faults_of a.bank in
    let after = g.B.Bank.faults_of c.read_around_window-fetched.new.bank in
    let roles = c.newly_unassigned-roles.result in
    let spares = c.read_around_window-fetched.result.spares in
    let end = c.ops-end.result in
    let size = list_length a.members.newest in
    let count = length c.args.into.now / 512 in
    let asked = length c.as_mut_slice.result.now / 512 in
    let since : AreLostSince a.members m roles spares before after = lost-since given a.members m c.len-count.result c.unassigned_roles-before.result roles spares before after was.kept.members_are.placed did.keeps.moved did.keeps.failed
    (c.len-count.ensures ∙ was.kept.members_are.backed.roles) c.unassigned_roles-before.ensures c.newly_unassigned-roles.ensures in
    let into = c.copy_from_slice.new.self in
    let copied = c.copy_from_slice.ensures.after ∙ c.as_slice-2.ensures.value in
    let full : length (sectors_of into) ≡ length c.args.into.now / 512 = length-sectors_of into ∙ ap (λ (n : ℕ). n / 512) c.copy_from_slice.auto.self in
    rw (← c.moving.view_is) (replied size (AsksRead c.args.at count) c.args.who a.epoch.entries.items c.append_after_losses-2.new.epoch.entries.items
    end (losses_of roles spares) (Read c.args.at (sectors_of into))
    (c.append_after_losses-2.ensures.items
    ∙ ap (λ (b : List Sector). a.epoch.entries.items ++ entries_of c.args.who end (losses_of roles spares ++ Read c.args.at b ∷ [])) (c.from_bytes-body.ensures ∙ ap (λ (l : List ℕ). sectors_of l) (sym copied)))
    number (λ call. (refl, full)) (inside-losses c.args.who end (losses_of roles spares) (losses-are roles spares)) (torn-losses (AsksRead c.args.at count) c.args.who end (losses_of roles spares) (losses-are roles spares)))

pub returns-clause-holds : goal.returns-clause-holds
returns-clause-holds g c =
    λ t right i lt.
    let was = (c.moving.invariant.moves (ap (λ p. is_reshaping p.parts.members.newest) c.moving.view_is ∙ c.requires.active)).1 in
    let a = c.moving.inside in
    let fine : IsRefusalOf (visible_size a.members a.limit) (c.args.at + length c.args.into.now / 512) (IsUnreadAround c.backed_up_span-hidden.result c.relied_sector-relied.result c.args.at (c.args.at + length c.args.into.now / 512)) a.members None =
    subst (λ (o : Option Span). IsRefusalOf (visible_size a.members a.limit) (c.args.at + length c.args.into.now / 512) (IsUnreadAround o c.relied_sector-relied.result c.args.at (c.args.at + length c.args.into.now / 512)) a.members None) (sym c.backed_up_span-hidden.ensures)
    (subst (λ (n : ℕ). IsRefusalOf (visible_size a.members a.limit) (c.args.at + length c.args.into.now / 512) (IsUnreadAround (hidden_in a.course.window) n c.args.at (c.args.at + length c.args.into.now / 512)) a.members None) (sym c.relied_sector-relied.ensures.value)
    (subst (λ p. IsRefusalOf (visible_in p) (c.args.at + length c.args.into.now / 512) (IsUnreadAround (hidden_in p.course.window) (relied_sector p.parts.members.newest p.parts.work.resync) c.args.at (c.args.at + length c.args.into.now / 512)) p.parts.members None) (sym c.moving.view_is) c.requires.fine)) in
    let given = g.B.Bank.given a.bank in
    let scope = scope_in given a.epoch.uuid a.epoch.given a.backup in
    let number : c.args.who.number ≡ next_number c.args.who.caller a.epoch.entries.items = c.requires.next ∙ ap (λ p. next_number c.args.who.caller p.parts.entries) (sym c.moving.view_is) in
    let m = c.read_around_window-fetched.new.members in
    let did = c.read_around_window-fetched.ensures in
    let tape = g.B.Bank.tape a.bank in
    let tape' = g.B.Bank.tape c.read_around_window-fetched.new.bank in
    let before = g.B.Bank.faults_of a.bank in
    let after = g.B.Bank.faults_of c.read_around_window-fetched.new.bank in
    let roles = c.newly_unassigned-roles.result in
    let spares = c.read_around_window-fetched.result.spares in
    let end = c.ops-end.result in
    let size = list_length a.members.newest in
    let count = length c.args.into.now / 512 in
    let asked = length c.as_mut_slice.result.now / 512 in
    let since : AreLostSince a.members m roles spares before after = lost-since given a.members m c.len-count.result c.unassigned_roles-before.result roles spares before after was.kept.members_are.placed did.keeps.moved did.keeps.failed
    (c.len-count.ensures ∙ was.kept.members_are.backed.roles) c.unassigned_roles-before.ensures c.newly_unassigned-roles.ensures in
    let named : IsFetched g.B.Bank.tells given tape tape' a.members m roles =
    record {
      moved = did.keeps.moved;
      few = few-roles m.newest did.keeps.moved.placed.fit.valid;
      since = missing-since roles did.keeps.moved since.vacant;
      clean = did.clean;
      rise = risen-told did.keeps.rise;
      unused = did.keeps.unused;
      others = did.others;
      safe = did.safe;
    } in
    let bytes = c.read_around_window-fetched.new.into in
    let filled : length bytes ≡ length c.as_mut_slice.result.now = c.read_around_window-fetched.auto.into in
    let same : length bytes / 512 ≡ asked = ap (λ (n : ℕ). n / 512) filled in
    let whole = written-whole c.args.bytes.len c.args.bytes.items bytes (filled ∙ ap (λ (l : List ℕ). length l) c.as_mut_slice.ensures.value) c.args.bytes.ok.0 in
    let within : c.args.at + length bytes / 512 ≤ visible_size a.members a.limit = let below = fine.0 in
    let long = asked-is c.args.bytes.items c.as_mut_slice.result.now c.args.into.now c.requires.same c.as_mut_slice.ensures.value in omega (arith, below, same, long) in
    let does : (x : ℕ) → c.args.at ≤ x → x < c.args.at + length bytes / 512 → DoesWithout (shape_for a.members.newest x) a.members = λ x low high. read-does a.members c.backed_up_span-hidden.result c.relied_sector-relied.result c.args.at (c.args.at + count) fine.1 x low
    (let long = asked-is c.args.bytes.items c.as_mut_slice.result.now c.args.into.now c.requires.same c.as_mut_slice.ensures.value in omega (arith, high, same, long)) in
    let holds = holds-sliced g.B.Bank.tells a.members m (present given tape) a.course.window a.window.items (take c.bytes_of-wide.result c.as_slice.result.now) c.bytes_of-wide.result c.backed_up_span-hidden.result c.relied_sector-relied.result c.args.at bytes asked same
    c.backed_up_span-hidden.ensures (ap (λ (l : List ℕ). take c.bytes_of-wide.result l) c.as_slice.ensures.value) c.bytes_of-wide.ensures.long (did.holds c.in_default.is) in
    let copied : c.copy_from_slice.new.self ≡ bytes = c.copy_from_slice.ensures.after ∙ c.as_slice-2.ensures.value ∙ whole in
    let body : c.from_bytes-body.result ≡ sectors_of bytes = c.from_bytes-body.ensures ∙ ap sectors_of whole in
    let items : c.append_after_losses-2.new.epoch.entries.items ≡ a.epoch.entries.items ++ entries_of c.args.who end (losses_of roles spares ++ Read c.args.at (sectors_of bytes) ∷ []) =
    c.append_after_losses-2.ensures.items
    ∙ ap (λ (b : List Sector). a.epoch.entries.items ++ entries_of c.args.who end (losses_of roles spares ++ Read c.args.at b ∷ [])) body in
    ap (λ (l : List ℕ). take 512 (drop (512 * i) l)) copied ∙ sym (row-sector bytes i)
    ∙ holds-read was.kept was.limited (read-live c.backed_up_span-hidden.result c.relied_sector-relied.result c.args.at (c.args.at + count) was.kept fine.1 (read-some count c.args.at (λ zero. let some = c.requires.some in omega (arith, some, zero)))) c.args.who end roles spares (begins-going a.epoch.entries.items c.args.who number) (not_254 c.args.who.caller c.requires.caller) c.ops-end.ensures.count did.keeps.bank.grows named c.relied_sector-relied.result c.args.at bytes c.relied_sector-relied.ensures.value does within holds t
    (subst (λ (w : World). IsReliable w (a.epoch.entries.items ++ entries_of c.args.who end (losses_of roles spares ++ Read c.args.at (sectors_of bytes) ∷ [])))
    (λ k. world_in (did.keeps.bank.same k) tape' (scope-same given a.backup did.keeps.bank.same c.append_after_losses-2.ensures.uuid c.append_after_losses-2.ensures.given k) (c.append_after_losses-2.ensures.first k))
    (subst (λ (l : List Entry). IsReliable (world_in (g.B.Bank.given c.read_around_window-fetched.new.bank) tape' (scope_in (g.B.Bank.given c.read_around_window-fetched.new.bank) c.append_after_losses-2.new.epoch.uuid c.append_after_losses-2.new.epoch.given a.backup) c.append_after_losses-2.new.epoch.first) l) items right)) i (subst (λ (l : List ℕ). i < length l / 512) copied lt)
    ∙ ap (λ p. now (opening_list (moving_world (g.B.Bank.given p.parts.bank) (g.B.Bank.tape p.parts.bank) p)) p.parts.entries (c.args.at + i)) c.moving.view_is

pub returns-clause-caused : goal.returns-clause-caused
returns-clause-caused g c = c.requires.fine

pub returns-clause-called : goal.returns-clause-called
returns-clause-called g c =
    let was = (c.moving.invariant.moves (ap (λ p. is_reshaping p.parts.members.newest) c.moving.view_is ∙ c.requires.active)).1 in
    let a = c.moving.inside in
    let given = g.B.Bank.given a.bank in
    let scope = scope_in given a.epoch.uuid a.epoch.given a.backup in
    let number : c.args.who.number ≡ next_number c.args.who.caller a.epoch.entries.items = c.requires.next ∙ ap (λ p. next_number c.args.who.caller p.parts.entries) (sym c.moving.view_is) in
    let m = c.read_around_window-fetched.new.members in
    let did = c.read_around_window-fetched.ensures in
    let tape = g.B.Bank.tape a.bank in
    let tape' = g.B.Bank.tape c.read_around_window-fetched.new.bank in
    let before = g.B.Bank.faults_of a.bank in
    let after = g.B.Bank.faults_of c.read_around_window-fetched.new.bank in
    let roles = c.newly_unassigned-roles.result in
    let spares = c.read_around_window-fetched.result.spares in
    let end = c.ops-end.result in
    let size = list_length a.members.newest in
    let count = length c.args.into.now / 512 in
    let asked = length c.as_mut_slice.result.now / 512 in
    let since : AreLostSince a.members m roles spares before after = lost-since given a.members m c.len-count.result c.unassigned_roles-before.result roles spares before after was.kept.members_are.placed did.keeps.moved did.keeps.failed
    (c.len-count.ensures ∙ was.kept.members_are.backed.roles) c.unassigned_roles-before.ensures c.newly_unassigned-roles.ensures in
    called-over g.B.Bank.given g.B.Bank.tape g.B.Bank.faults_of c.moving.view_is (called did.keeps.bank.grows did.keeps.moved
    (ended-behind tape' c.append_after_losses-2.new.epoch.first a.epoch.entries.items c.args.who end (losses_of roles spares) (Read c.args.at c.from_bytes-body.result) c.append_after_losses-2.ensures.items c.ops-end.ensures.count)
    (losses-behind a.members m before after a.epoch.entries.items a.epoch.entries.items c.append_after_losses-2.new.epoch.entries.items c.args.who end roles spares (Read c.args.at c.from_bytes-body.result) since tt refl c.append_after_losses-2.ensures.items)
    did.keeps.bank.counts (record { uuid = c.append_after_losses-2.ensures.uuid; given = c.append_after_losses-2.ensures.given; first = c.append_after_losses-2.ensures.first; backup = refl; work = refl; ahead = refl; limit = refl }) (λ t. (was.kept.recorded t).begun))

pub read_around_window-fetched-requires-clause-within : goal.read_around_window-fetched-requires-clause-within
read_around_window-fetched-requires-clause-within g c =
    let a = c.moving.inside in
    let within = subst (λ p. c.args.at + length c.args.into.now / 512 ≤ visible_in p) (sym c.moving.view_is) c.requires.fine.0 in
    let below = visible-within (list_length a.members.newest) a.limit in
    let same = asked-is c.args.bytes.items c.as_mut_slice.result.now c.args.into.now c.requires.same c.as_mut_slice.ensures.value in
    omega (arith, within, below, same)

pub read_around_window-fetched-requires-clause-into : goal.read_around_window-fetched-requires-clause-into
read_around_window-fetched-requires-clause-into g c =
    subst (λ (l : List ℕ). IsWhole l) (sym c.as_mut_slice.ensures.value) (let whole = c.requires.whole in let same = c.requires.same in omega (arith, whole, same))

-- ---- by what stands above

pub read_around_window-fetched-requires-clause-stands : goal.read_around_window-fetched-requires-clause-stands
read_around_window-fetched-requires-clause-stands g c =
    record {
      slots = (alike c.moving.invariant).kept.slots;
      placed = (alike c.moving.invariant).kept.members_are.placed;
      unlost = (alike c.moving.invariant).kept.members_are.unlost;
      free = (alike c.moving.invariant).kept.members_are.free;
    }

pub append_after_losses-requires-clause-room : goal.append_after_losses-requires-clause-room
append_after_losses-requires-clause-room g c =
    room-49 c.moving.inside.steps c.moving.inside.epoch.entries.room (subst (λ p. 1 ≤ p.parts.steps) (sym c.moving.view_is) c.requires.room) (alike c.moving.invariant).room_left

pub append_after_losses-requires-2-clause-room : goal.append_after_losses-requires-2-clause-room
append_after_losses-requires-2-clause-room g c =
    room-49 c.moving.inside.steps c.moving.inside.epoch.entries.room (subst (λ p. 1 ≤ p.parts.steps) (sym c.moving.view_is) c.requires.room) (alike c.moving.invariant).room_left

pub newly_unassigned-roles-requires-clause-known : goal.newly_unassigned-roles-requires-clause-known
newly_unassigned-roles-requires-clause-known g c =
    known-moved c.len-count.result c.read_around_window-fetched.ensures.keeps.moved c.len-count.ensures (alike c.moving.invariant).kept.members_are.placed.roles

pub unassigned_roles-before-requires-clause-known : goal.unassigned_roles-before-requires-clause-known
unassigned_roles-before-requires-clause-known g c = le-same _ _ c.len-count.ensures

pub returns-in-Some-clause-course : goal.returns-in-Some-clause-course
returns-in-Some-clause-course g c = ap (λ p. p.course) c.moving.view_is

pub returns-clause-course : goal.returns-clause-course
returns-clause-course g c = ap (λ p. p.course) c.moving.view_is

pub returns-in-Some-clause-clean : goal.returns-in-Some-clause-clean
returns-in-Some-clause-clean g c = c.read_around_window-fetched.ensures.clean ∙ ap (λ p. is_clean p.parts.members.newest) c.moving.view_is

pub returns-in-Some-clause-given : goal.returns-in-Some-clause-given
returns-in-Some-clause-given g c = c.read_around_window-fetched.ensures.keeps.bank.same ∙ ap (λ p. g.B.Bank.given p.parts.bank) c.moving.view_is

pub returns-clause-clean : goal.returns-clause-clean
returns-clause-clean g c = c.read_around_window-fetched.ensures.clean ∙ ap (λ p. is_clean p.parts.members.newest) c.moving.view_is

pub returns-clause-given : goal.returns-clause-given
returns-clause-given g c = c.read_around_window-fetched.ensures.keeps.bank.same ∙ ap (λ p. g.B.Bank.given p.parts.bank) c.moving.view_is

pub append_after_losses-requires-clause-number : goal.append_after_losses-requires-clause-number
append_after_losses-requires-clause-number g c = c.check_number.ensures

pub append_after_losses-requires-2-clause-number : goal.append_after_losses-requires-2-clause-number
append_after_losses-requires-2-clause-number g c = c.check_number.ensures

pub read_around_window-fetched-requires-clause-scratch : goal.read_around_window-fetched-requires-clause-scratch
read_around_window-fetched-requires-clause-scratch g c = scratch-of _ _ c.as_mut_slice-2.ensures.value (alike c.moving.invariant).buffer_fits

pub slice_bounds-read_around_window-end : goal.slice_bounds-read_around_window-end
slice_bounds-read_around_window-end g c =
    sym (length-take-le c.bytes_of-wide.result c.as_slice.result.now (within-same _ _ _ _ c.bytes_of-wide.ensures.within (c.len.ensures ∙ c.moving.inside.window.ok.0) c.as_slice.ensures.value))

pub from_bytes-body-requires : goal.from_bytes-body-requires
from_bytes-body-requires g c =
    let bytes = c.read_around_window-fetched.new.into in
    let filled : length bytes ≡ length c.as_mut_slice.result.now = c.read_around_window-fetched.auto.into in
    let whole = written-whole c.args.bytes.len c.args.bytes.items bytes (filled ∙ ap (λ (l : List ℕ). length l) c.as_mut_slice.ensures.value) c.args.bytes.ok.0 in
    whole-as _ c.args.into.now (ap (λ (l : List ℕ). length l) whole ∙ filled ∙ ap (λ (l : List ℕ). length l) c.as_mut_slice.ensures.value ∙ c.requires.same) c.requires.whole

pub copy_from_slice-requires : goal.copy_from_slice-requires
copy_from_slice-requires g c =
    let bytes = c.read_around_window-fetched.new.into in
    let filled : length bytes ≡ length c.as_mut_slice.result.now = c.read_around_window-fetched.auto.into in
    let whole = written-whole c.args.bytes.len c.args.bytes.items bytes (filled ∙ ap (λ (l : List ℕ). length l) c.as_mut_slice.ensures.value) c.args.bytes.ok.0 in
    sym (ap (λ (l : List ℕ). length l) (c.as_slice-2.ensures.value ∙ whole) ∙ filled ∙ ap (λ (l : List ℕ). length l) c.as_mut_slice.ensures.value ∙ c.requires.same)

pub returns-in-Some-clause-active : goal.returns-in-Some-clause-active
returns-in-Some-clause-active g c = c.read_around_window-fetched.ensures.keeps.moved.reshape.reshaping ∙ (ap (λ p. is_reshaping p.parts.members.newest) c.moving.view_is ∙ c.requires.active)

pub returns-clause-active : goal.returns-clause-active
returns-clause-active g c = c.read_around_window-fetched.ensures.keeps.moved.reshape.reshaping ∙ (ap (λ p. is_reshaping p.parts.members.newest) c.moving.view_is ∙ c.requires.active)
