use Rattle.std.proofs.Common.{◌≡◌, ◌+◌, ◌*◌, ◌/◌, ◌<◌, ◌≤◌, ◌++◌, ◌∷◌, [], ℕ, Some, List, length, take, take_all, drop, inl, refl, sym, ◌∙◌, ap, subst, arith}
use Rattle.std.specs.Prelude.{IsTrue}
use Rattle.std.proofs.Math.Nat.{le_trans}
use Rattle.std.proofs.lemmas.List.{take-append-le}
use Rattle.std.specs.Vec.{with_items}
use Rattle.array_type.specs.raid_types_Sectors.{Sector, sectors_of, IsWhole}
use Rattle.array_type.specs.raid_types_Shapes.{data_disks, is_multiple}
use Rattle.array_type.proofs.raid_types_SectorLaws.{length-sectors_of}
use Rattle.array_type.specs.raid_types_the_Shape.{Shape}
use Rattle.array_type.proofs.raid_layout_Limits.{limited}
use Rattle.array_type.specs.sb_specs_Reading.{shape_of, list_length, is_clean, is_reshaping}
use Rattle.array_type.specs.history_the_Entry.{Entry}
use Rattle.array_type.specs.history_the_Event_TheVariants.{Read, Refused}
use Rattle.array_type.specs.history_the_Request_TheVariants.{Read as AsksRead}
use Rattle.array_type.specs.history_World.{opening_list}
use Rattle.array_type.specs.history_Flat.{next_number, now}
use Rattle.array_type.specs.history_Plain.{entries_of}
use Rattle.array_type.proofs.crash_views_Stands.{list-still}
use Rattle.array_type.specs.array_members_Lacking.{IsUnread, synced_rows, HaveRolesFailed}
use Rattle.array_type.specs.array_members_Placed.{places_of, AreWhole}
use Rattle.array_type.specs.array_members_Rows.{row_sector}
use Rattle.array_type.specs.array_members_Whole.{list_size}
use Rattle.array_type.proofs.array_members_Fit.{valid, short, multiple}
use Rattle.array_type.proofs.array_members_LackingLaws.{lost-since, shape-without}
use Rattle.array_type.proofs.array_members_LackingLists.{row-sector}
use Rattle.array_type.proofs.array_members_MemberLaws.{list-few}
use Rattle.array_type.proofs.array_members_MovedLaws.{grows-none, moved-same}
use Rattle.array_type.proofs.array_members_Still.{count-still, without-still}
use Rattle.array_type.specs.sb_safe_updates_First.{read_refusal}
use Rattle.array_type.specs.history_append_Losing.{losses_of}
use Rattle.array_type.proofs.history_append_CallLaws.{losses-are, torn-losses}
use Rattle.array_type.specs.array_call_specs_Kept.{scope_in}
use Rattle.array_type.proofs.array_call_specs_LossLaws.{losses-behind, ended-behind}
use Rattle.array_type.proofs.array_call_specs_ReadyLaws.{scope-same}
use Rattle.array_type.proofs.array_call_specs_ReplyLaws.{inside-losses, replied, unread-of, refused-for}
use Rattle.array_type.proofs.array_call_laws_ReadLaws.{some-of}
use Rattle.array_type.proofs.array_state_FirstLaws.{call-within}
use Rattle.array_type.specs.history_invariant_Safe.{world_in, IsFilledRight}
use Rattle.array_type.proofs.history_invariant_Records.{begins-going}
use Rattle.array_type.proofs.array_fixed_invariant_Leaving.{rest-moved}
use Rattle.array_type.proofs.array_fixed_invariant_Reading.{read-stands}
use Rattle.array_type.proofs.array_fixed_invariant_Staying.{IsNamedStill, refused-stands}
use Rattle.array_type.proofs.array_fixed_invariant_Stood.{mended-moved}
use Rattle.array_type.proofs.array_members_LiveLeft.{without-left}
use Rattle.array_type.specs.array_specs_Calls.{moving_world}
use Rattle.array_type.proofs.array_specs_Called.{not_254, called, alone-lossless, risen-told}
use Rattle.array_type.specs.array_specs_Parts.{visible_size, still_left}
use Rattle.array_type.proofs.array_specs_Lengths.{alone-keeps, behind-keeps}
use Rattle.array_type.proofs.array_specs_Replies.{refused_reply, lost_reply, read_kind}
use Rattle.array_type.proofs.array_specs_VisibleLaws.{visible-within}
use Rattle.array_type.proofs.array_fixed_laws_Asking.{refused-alone}
use Rattle.array_type.proofs.array_fixed_laws_Kept.{ready, rows-same, rows-moved, with-buffers, roomier}
use Rattle.array_type.proofs.array_fixed_laws_PlainBehind.{unread-plain, plain-refused, plain-read, first-plain}
use Rattle.array_type.proofs.array_fixed_laws_Left.{left-alike}
use Rattle.array_type.proofs.array_fixed_laws_Reading.{seen, unread-still, refused-first, fetched-holds, read-holds}
use Rattle.array_type.proofs.Asked.{known-at, known-behind, room-49, room-1, whole-alike, scratch-fits, entries-alike, undone-called}
use Rattle.array_type.specs.stripe_row_Rows.{present}
use Rattle.array_type.specs.crash_safety_laws_Marking.{AreOthersPresent}
use Rattle.array_type.proofs.Alike.{alike, stays-at-rest}
use Rattle.array_fixed_io.proofs.reading.read.Goals as goal

-- bytes that were written whole
written-whole : (n : ℕ) (bytes written : List ℕ) → length written ≡ length bytes → n ≡ length bytes → take n (written ++ drop (length written) bytes) ≡ written
written-whole n bytes written len ok = take-append-le n written (drop (length written) bytes) (omega (arith, len, ok)) ∙ take_all n written (omega (arith, len, ok))

-- so many sectors are asked for as the buffer has
asked-is : (bytes slice into : List ℕ) → length bytes ≡ length into → slice ≡ bytes → length slice / 512 ≡ length into / 512
asked-is bytes slice into len same = ap (λ (l : List ℕ). length l / 512) same ∙ ap (λ (n : ℕ). n / 512) len

-- ---- refused before any sector is read

pub invariant_of-still-in-Some : goal.invariant_of-still-in-Some
invariant_of-still-in-Some g c =
    stays-at-rest (c.still.invariant.rests (ap (λ p. is_reshaping p.parts.members.newest) c.still.view_is ∙ c.requires.still)).0 (
    let was = (c.still.invariant.rests (ap (λ p. is_reshaping p.parts.members.newest) c.still.view_is ∙ c.requires.still)).1 in
    let a = c.still.inside in
    let given = g.B.Bank.given a.bank in
    let number : c.args.who.number ≡ next_number c.args.who.caller a.epoch.entries.items = c.requires.next ∙ ap (λ p. next_number c.args.who.caller p.parts.entries) (sym c.still.view_is) in
    let count = length c.args.into.now / 512 in
    let refusal = c.in-Some.refusal in
    ready (entries_of c.args.who c.ops-end.result (Refused refusal ∷ [])) was (rows-same a.members.newest)
    (refused-alone c.args.who c.ops-end.result was.kept number c.requires.caller c.ops-end.ensures.count refusal
    (refused-first was.kept was.limited (c.args.at + count) (IsUnread (shape_of a.members.newest) (synced_rows a.work.resync a.members) c.args.at count) refusal
    (λ within. unread-still given a.members was.kept.members_are a.work.resync c.args.at count refusal within) c.in-Some.ensures.why))
    (first-plain was c.args.who c.ops-end.result (begins-going a.epoch.entries.items c.args.who number) c.requires.caller c.ops-end.ensures.count (grows-none (λ t. refl)) (c.args.at + count)
    (IsUnread (shape_of a.members.newest) (synced_rows a.work.resync a.members) c.args.at count) refusal
    (λ within. unread-plain given a.members was.kept.members_are a.work.resync (visible_size a.members a.limit) c.args.at count refusal within) c.in-Some.ensures.why)
    (λ slot. omega arith) (alone-keeps c.args.who c.ops-end.result (Refused refusal) (λ n. refl) (λ limit. refl))
    refl (scope-same given a.backup refl c.append_entry.ensures.uuid c.append_entry.ensures.given) c.append_entry.ensures.first c.make_room.ensures.items c.append_entry.ensures.items
    (omega (arith, c.append_entry.ensures.room, c.in-Ok-make_room.ensures.ok)))

pub returns-in-Some-clause-answered : goal.returns-in-Some-clause-answered
returns-in-Some-clause-answered g c =
    let was = (alike c.still.invariant) in
    let a = c.still.inside in
    let number : c.args.who.number ≡ next_number c.args.who.caller a.epoch.entries.items = c.requires.next ∙ ap (λ p. next_number c.args.who.caller p.parts.entries) (sym c.still.view_is) in
    let count = length c.args.into.now / 512 in
    rw (← c.still.view_is) (refused_reply (list_length a.members.newest) a.limit a.epoch.entries.items was.sized was.limited (AsksRead c.args.at count) c.args.who (c.args.at + count)
    (IsUnread (shape_of a.members.newest) (synced_rows a.work.resync a.members) c.args.at count) c.append_entry.new.epoch.entries.items c.ops-end.result a.members c.in-Some.refusal (read_kind c.args.at count)
    (unread-of (shape_of a.members.newest) (synced_rows a.work.resync a.members) c.args.at count a.members c.in-Some.refusal) c.in-Some.ensures.why
    (c.append_entry.ensures.items ∙ ap (λ (l : List Entry). l ++ entries_of c.args.who c.ops-end.result (Refused c.in-Some.refusal ∷ [])) c.make_room.ensures.items) number)

pub returns-in-Some-clause-called : goal.returns-in-Some-clause-called
returns-in-Some-clause-called g c =
    let was = (alike c.still.invariant) in
    let a = c.still.inside in
    let given = g.B.Bank.given a.bank in
    let faults = g.B.Bank.faults_of a.bank in
    let end = c.ops-end.result in
    let refusal = c.in-Some.refusal in
    rw (← c.still.view_is) (called (grows-none (λ t. refl)) (moved-same given given a.members a.members refl refl was.kept.members_are.placed was.kept.members_are.unlost)
    (ended-behind (g.B.Bank.tape a.bank) c.append_entry.new.epoch.first c.make_room.new.self.items c.args.who end [] (Refused refusal) c.append_entry.ensures.items c.ops-end.ensures.count)
    (alone-lossless a.members faults faults a.epoch.entries.items c.make_room.new.self.items c.append_entry.new.epoch.entries.items c.args.who end (Refused refusal) tt c.make_room.ensures.items c.append_entry.ensures.items)
    (λ slot. omega arith)
    (record { uuid = c.append_entry.ensures.uuid; given = c.append_entry.ensures.given; first = c.append_entry.ensures.first; backup = refl; work = refl; ahead = refl; limit = refl })
    (λ t. (was.kept.recorded t).begun))

pub returns-in-Some-clause-caused : goal.returns-in-Some-clause-caused
returns-in-Some-clause-caused g c = rw (← c.still.view_is) c.in-Some.ensures.why

pub returns-in-Some-clause-first : goal.returns-in-Some-clause-first
returns-in-Some-clause-first g c = rw (← c.still.view_is) (sym c.in-Some.ensures.first)

-- ---- the shape has at most so many roles

pub unassigned_roles-before-requires-clause-few : goal.unassigned_roles-before-requires-clause-few
unassigned_roles-before-requires-clause-few g c =
    let a = c.still.inside in
    let most = (limited (shape_of a.members.newest) (valid (g.B.Bank.given a.bank) a.members (alike c.still.invariant).kept.members_are.placed)).most in
    let disks = ap (λ (s : Shape). s.disks) c.shape_in-shape.ensures in
    omega (arith, most, disks)

pub newly_unassigned-roles-requires-clause-few : goal.newly_unassigned-roles-requires-clause-few
newly_unassigned-roles-requires-clause-few g c =
    let a = c.still.inside in
    let most = (limited (shape_of a.members.newest) (valid (g.B.Bank.given a.bank) a.members (alike c.still.invariant).kept.members_are.placed)).most in
    let disks = ap (λ (s : Shape). s.disks) c.shape_in-shape.ensures in
    omega (arith, most, disks)

-- ---- it is read by the one shape

pub read_listed-fetched-requires-clause-shape : goal.read_listed-fetched-requires-clause-shape
read_listed-fetched-requires-clause-shape g c = inl c.shape_in-shape.ensures

pub read_listed-fetched-requires-clause-within : goal.read_listed-fetched-requires-clause-within
read_listed-fetched-requires-clause-within g c =
    let m = c.still.inside.members in
    let same = asked-is c.in-Ok.bytes.items c.as_mut_slice.result.now c.args.into.now c.in-Ok.ensures.len c.as_mut_slice.ensures.value in
    let below : c.args.at + length c.args.into.now / 512 ≤ data_disks (shape_of m.newest) * m.newest.size =
    subst (λ (n : ℕ). c.args.at + length c.args.into.now / 512 ≤ n) (list-still m.newest (c.still.invariant.rests (ap (λ p. is_reshaping p.parts.members.newest) c.still.view_is ∙ c.requires.still)).1.kept.members_are.still)
    (le_trans c.in_default.ensures.why.0 (visible-within (list_length m.newest) c.still.inside.limit)) in
    subst (λ (s : Shape). c.args.at + length c.as_mut_slice.result.now / 512 ≤ data_disks s * m.newest.size) (sym c.shape_in-shape.ensures)
    (subst (λ (n : ℕ). c.args.at + n ≤ data_disks (shape_of m.newest) * m.newest.size) (sym same) below)

pub read_listed-fetched-requires-clause-stripes : goal.read_listed-fetched-requires-clause-stripes
read_listed-fetched-requires-clause-stripes g c =
    subst (λ (s : Shape). IsTrue (is_multiple c.synced_rows-mended.result s.chunk)) (sym c.shape_in-shape.ensures) c.synced_rows-mended.ensures.stripes

-- the list is short

pub read_listed-fetched-requires-clause-short : goal.read_listed-fetched-requires-clause-short
read_listed-fetched-requires-clause-short g c =
    let m = c.still.inside.members in
    let few = list-few (g.B.Bank.given c.still.inside.bank) m (c.still.invariant.rests (ap (λ p. is_reshaping p.parts.members.newest) c.still.view_is ∙ c.requires.still)).1.kept.members_are.placed in
    let same = asked-is c.in-Ok.bytes.items c.as_mut_slice.result.now c.args.into.now c.in-Ok.ensures.len c.as_mut_slice.ensures.value in
    let below : c.args.at + length c.args.into.now / 512 ≤ list_size (places_of m) =
    subst (λ (n : ℕ). c.args.at + length c.args.into.now / 512 ≤ n) (list-still m.newest (c.still.invariant.rests (ap (λ p. is_reshaping p.parts.members.newest) c.still.view_is ∙ c.requires.still)).1.kept.members_are.still)
    (le_trans c.in_default.ensures.why.0 (visible-within (list_length m.newest) c.still.inside.limit)) in
    omega (arith, few, same, below)

-- ---- refused since members are missing

pub invariant_of-still-in-Some-refusal : goal.invariant_of-still-in-Some-refusal
invariant_of-still-in-Some-refusal g c =
    stays-at-rest (c.still.invariant.rests (ap (λ p. is_reshaping p.parts.members.newest) c.still.view_is ∙ c.requires.still)).0 (
    let was = (c.still.invariant.rests (ap (λ p. is_reshaping p.parts.members.newest) c.still.view_is ∙ c.requires.still)).1 in
    let here = was.kept.members_are in
    let a = c.still.inside in
    let given = g.B.Bank.given a.bank in
    let scope = scope_in given a.epoch.uuid a.epoch.given a.backup in
    let number : c.args.who.number ≡ next_number c.args.who.caller a.epoch.entries.items = c.requires.next ∙ ap (λ p. next_number c.args.who.caller p.parts.entries) (sym c.still.view_is) in
    let did = c.read_listed-fetched.ensures in
    let m = c.read_listed-fetched.new.members in
    let tape = g.B.Bank.tape a.bank in
    let tape' = g.B.Bank.tape c.read_listed-fetched.new.bank in
    let before = g.B.Bank.faults_of a.bank in
    let after = g.B.Bank.faults_of c.read_listed-fetched.new.bank in
    let roles = c.newly_unassigned-roles.result in
    let spares = c.read_listed-fetched.result.spares in
    let refusal = c.in-Some-refusal.refusal in
    let end = c.ops-end-2.result in
    let count = length c.args.into.now / 512 in
    let asked = length c.as_mut_slice.result.now / 512 in
    let same = asked-is c.in-Ok.bytes.items c.as_mut_slice.result.now c.args.into.now c.in-Ok.ensures.len c.as_mut_slice.ensures.value in
    let does = without-still a.members here.still (shape-without (shape_of a.members.newest) a.members (λ refusal many. c.in_default.ensures.why.1 refusal (inl many))) in
    let since = lost-since given a.members m c.shape_in-shape.result.disks c.unassigned_roles-before.result roles spares before after here.placed did.keeps.moved did.keeps.failed
    (ap (λ (s : Shape). s.disks) c.shape_in-shape.ensures ∙ sym (count-still a.members.newest here.still)) c.unassigned_roles-before.ensures c.newly_unassigned-roles.ensures in
    let named : IsNamedStill g.B.Bank.tells given tape tape' a.members m roles spares before after =
    record { moved = did.keeps.moved; since = since; grows = did.keeps.bank.grows; clean = did.clean; rise = risen-told did.keeps.rise; others = did.others; safe = did.safe } in
    let why = some-of (IsUnread c.shape_in-shape.result c.synced_rows-mended.result c.args.at asked m) c.read_listed-fetched.result.refusal refusal c.in-Some-refusal.is did.refused in
    let inside : c.args.at + count ≤ list_length m.newest = (let long = (rows-moved given a.members m did.keeps.moved).long in let below = c.in_default.ensures.why.0 in let most = visible-within (list_length a.members.newest) a.limit in omega (arith, long, below, most)) in
    let unread : IsUnread (shape_of m.newest) (synced_rows a.work.resync m) c.args.at count m refusal =
    subst (λ (s : Shape). IsUnread s (synced_rows a.work.resync m) c.args.at count m refusal) (c.shape_in-shape.ensures ∙ sym did.keeps.moved.shape)
    (subst (λ (n : ℕ). IsUnread c.shape_in-shape.result n c.args.at count m refusal) (c.synced_rows-mended.ensures.rows ∙ sym (mended-moved did.keeps.moved a.work.resync))
    (subst (λ (n : ℕ). IsUnread c.shape_in-shape.result c.synced_rows-mended.result c.args.at n m refusal) same why)) in
    with-buffers was.rows_fit (let len = (with_items a.buffer c.read_listed-fetched.new.scratch).ok.0 in let ok = a.buffer.ok.0 in let fits = was.buffer_fits in omega (arith, len, ok, fits))
    (ready (entries_of c.args.who end (losses_of roles spares ++ Refused refusal ∷ [])) was (rows-moved given a.members m did.keeps.moved)
    (refused-stands g.B.Bank.tells given tape tape' scope a.epoch.first a.epoch.entries.items a.members m a.work (still_left a.work a.members a.ahead) (still_left a.work m a.ahead) c.args.who end roles spares before after refusal
    was.kept (without-left given a.members here.placed here.unlost does) (begins-going a.epoch.entries.items c.args.who number) (not_254 c.args.who.caller c.requires.caller) c.ops-end-2.ensures.count named
    (left-alike a.work a.ahead roles spares before after did.keeps.moved since)
    (unread-still given m (rest-moved given a.members m did.keeps.moved here) a.work.resync c.args.at count refusal inside unread))
    (plain-refused was c.args.who end (begins-going a.epoch.entries.items c.args.who number) c.requires.caller c.ops-end-2.ensures.count did.keeps.bank.grows did.keeps.moved since refusal
    (unread-plain given m (rest-moved given a.members m did.keeps.moved here) a.work.resync (visible_size a.members a.limit) c.args.at count refusal inside unread))
    did.keeps.bank.counts (behind-keeps c.args.who end roles spares (Refused refusal ∷ []) (alone-keeps c.args.who end (Refused refusal) (λ n. refl) (λ limit. refl)))
    did.keeps.bank.same (scope-same given a.backup did.keeps.bank.same c.append_after_losses.ensures.uuid c.append_after_losses.ensures.given) c.append_after_losses.ensures.first c.make_room.ensures.items c.append_after_losses.ensures.items
    (omega (arith, c.append_after_losses.ensures.room, c.in-Ok-make_room.ensures.ok))))

pub returns-in-Some-refusal-clause-answered : goal.returns-in-Some-refusal-clause-answered
returns-in-Some-refusal-clause-answered g c =
    let was = (alike c.still.invariant) in
    let a = c.still.inside in
    let number : c.args.who.number ≡ next_number c.args.who.caller a.epoch.entries.items = c.requires.next ∙ ap (λ p. next_number c.args.who.caller p.parts.entries) (sym c.still.view_is) in
    let m = c.read_listed-fetched.new.members in
    let roles = c.newly_unassigned-roles.result in
    let spares = c.read_listed-fetched.result.spares in
    let refusal = c.in-Some-refusal.refusal in
    let end = c.ops-end-2.result in
    let count = length c.args.into.now / 512 in
    let asked = length c.as_mut_slice.result.now / 512 in
    let why = some-of (IsUnread c.shape_in-shape.result c.synced_rows-mended.result c.args.at asked m) c.read_listed-fetched.result.refusal refusal c.in-Some-refusal.is c.read_listed-fetched.ensures.refused in
    rw (← c.still.view_is) (lost_reply (list_length a.members.newest) a.limit a.epoch.entries.items was.sized was.limited (AsksRead c.args.at count) c.args.who (c.args.at + count)
    c.append_after_losses.new.epoch.entries.items end roles spares refusal (read_kind c.args.at count) c.in_default.ensures.why.0 (unread-of c.shape_in-shape.result c.synced_rows-mended.result c.args.at asked m refusal why)
    (c.append_after_losses.ensures.items ∙ ap (λ (l : List Entry). l ++ entries_of c.args.who end (losses_of roles spares ++ Refused refusal ∷ [])) c.make_room.ensures.items) number)

pub returns-in-Some-refusal-clause-called : goal.returns-in-Some-refusal-clause-called
returns-in-Some-refusal-clause-called g c =
    let was = (c.still.invariant.rests (ap (λ p. is_reshaping p.parts.members.newest) c.still.view_is ∙ c.requires.still)).1 in
    let here = was.kept.members_are in
    let a = c.still.inside in
    let given = g.B.Bank.given a.bank in
    let did = c.read_listed-fetched.ensures in
    let m = c.read_listed-fetched.new.members in
    let before = g.B.Bank.faults_of a.bank in
    let after = g.B.Bank.faults_of c.read_listed-fetched.new.bank in
    let roles = c.newly_unassigned-roles.result in
    let spares = c.read_listed-fetched.result.spares in
    let end = c.ops-end-2.result in
    let event = Refused c.in-Some-refusal.refusal in
    let since = lost-since given a.members m c.shape_in-shape.result.disks c.unassigned_roles-before.result roles spares before after here.placed did.keeps.moved did.keeps.failed
    (ap (λ (s : Shape). s.disks) c.shape_in-shape.ensures ∙ sym (count-still a.members.newest here.still)) c.unassigned_roles-before.ensures c.newly_unassigned-roles.ensures in
    rw (← c.still.view_is) (called did.keeps.bank.grows did.keeps.moved
    (ended-behind (g.B.Bank.tape c.read_listed-fetched.new.bank) c.append_after_losses.new.epoch.first c.make_room.new.self.items c.args.who end (losses_of roles spares) event c.append_after_losses.ensures.items c.ops-end-2.ensures.count)
    (losses-behind a.members m before after a.epoch.entries.items c.make_room.new.self.items c.append_after_losses.new.epoch.entries.items c.args.who end roles spares event since tt c.make_room.ensures.items c.append_after_losses.ensures.items)
    did.keeps.bank.counts
    (record { uuid = c.append_after_losses.ensures.uuid; given = c.append_after_losses.ensures.given; first = c.append_after_losses.ensures.first; backup = refl; work = refl; ahead = refl; limit = refl })
    (λ t. (was.kept.recorded t).begun))

pub returns-in-Some-refusal-clause-caused : goal.returns-in-Some-refusal-clause-caused
returns-in-Some-refusal-clause-caused g c =
    let a = c.still.inside in
    let m = c.read_listed-fetched.new.members in
    let refusal = c.in-Some-refusal.refusal in
    let count = length c.args.into.now / 512 in
    let asked = length c.as_mut_slice.result.now / 512 in
    let same : asked ≡ count = asked-is c.in-Ok.bytes.items c.as_mut_slice.result.now c.args.into.now c.in-Ok.ensures.len c.as_mut_slice.ensures.value in
    let why = some-of (IsUnread c.shape_in-shape.result c.synced_rows-mended.result c.args.at asked m) c.read_listed-fetched.result.refusal refusal c.in-Some-refusal.is c.read_listed-fetched.ensures.refused in
    rw (← c.still.view_is) (refused-for (visible_size a.members a.limit) (c.args.at + count) (IsUnread (shape_of a.members.newest) (synced_rows a.work.resync a.members) c.args.at count) a.members m refusal
    (unread-of c.shape_in-shape.result c.synced_rows-mended.result c.args.at asked m refusal why) c.in_default.ensures.why.0
    (subst (λ (s : Shape). IsUnread s (synced_rows a.work.resync a.members) c.args.at count m refusal) c.shape_in-shape.ensures
    (subst (λ (n : ℕ). IsUnread c.shape_in-shape.result n c.args.at count m refusal) c.synced_rows-mended.ensures.rows (subst (λ (n : ℕ). IsUnread c.shape_in-shape.result c.synced_rows-mended.result c.args.at n m refusal) same why))))

pub returns-in-Some-refusal-clause-first : goal.returns-in-Some-refusal-clause-first
returns-in-Some-refusal-clause-first g c =
    let a = c.still.inside in
    let m = c.read_listed-fetched.new.members in
    let refusal = c.in-Some-refusal.refusal in
    let count = length c.args.into.now / 512 in
    let asked = length c.as_mut_slice.result.now / 512 in
    let mended = synced_rows a.work.resync a.members in
    let same : asked ≡ count = asked-is c.in-Ok.bytes.items c.as_mut_slice.result.now c.args.into.now c.in-Ok.ensures.len c.as_mut_slice.ensures.value in
    let why = some-of (λ r. read_refusal c.shape_in-shape.result c.synced_rows-mended.result c.args.at asked m ≡ Some r) c.read_listed-fetched.result.refusal refusal c.in-Some-refusal.is c.read_listed-fetched.ensures.first in
    rw (← c.still.view_is) (call-within (visible_size a.members a.limit) (c.args.at + count) (read_refusal (shape_of a.members.newest) mended c.args.at count m) c.in_default.ensures.why.0
    ∙ subst (λ (s : Shape). read_refusal s mended c.args.at count m ≡ Some refusal) c.shape_in-shape.ensures
    (subst (λ (n : ℕ). read_refusal c.shape_in-shape.result n c.args.at count m ≡ Some refusal) c.synced_rows-mended.ensures.rows (subst (λ (n : ℕ). read_refusal c.shape_in-shape.result c.synced_rows-mended.result c.args.at n m ≡ Some refusal) same why)))

pub returns-in-Some-refusal-clause-tape : goal.returns-in-Some-refusal-clause-tape
returns-in-Some-refusal-clause-tape g c = λ whole t. c.read_listed-fetched.ensures.tape whole t ∙ ap (λ p. g.B.Bank.tape p.parts.bank) c.still.view_is

pub returns-in-Some-refusal-clause-others : goal.returns-in-Some-refusal-clause-others
returns-in-Some-refusal-clause-others g c =
    subst (λ p. g.B.Bank.tells → AreOthersPresent (present (g.B.Bank.given p.parts.bank) (g.B.Bank.tape p.parts.bank)) (present (g.B.Bank.given p.parts.bank) (g.B.Bank.tape c.read_listed-fetched.new.bank))) c.still.view_is c.read_listed-fetched.ensures.others

pub returns-in-Some-refusal-clause-failed : goal.returns-in-Some-refusal-clause-failed
returns-in-Some-refusal-clause-failed g c =
    subst (λ p. HaveRolesFailed p.parts.members c.read_listed-fetched.new.members (g.B.Bank.faults_of p.parts.bank) (g.B.Bank.faults_of c.read_listed-fetched.new.bank)) c.still.view_is c.read_listed-fetched.ensures.keeps.failed.roles

pub returns-in-Some-refusal-clause-whole : goal.returns-in-Some-refusal-clause-whole
returns-in-Some-refusal-clause-whole g c =
    subst (λ p. AreWhole c.read_listed-fetched.new.members → AreWhole p.parts.members) c.still.view_is c.read_listed-fetched.ensures.keeps.moved.whole

-- ---- done

pub invariant_of-still-2 : goal.invariant_of-still-2
invariant_of-still-2 g c =
    stays-at-rest (c.still.invariant.rests (ap (λ p. is_reshaping p.parts.members.newest) c.still.view_is ∙ c.requires.still)).0 (
    let was = (c.still.invariant.rests (ap (λ p. is_reshaping p.parts.members.newest) c.still.view_is ∙ c.requires.still)).1 in
    let here = was.kept.members_are in
    let a = c.still.inside in
    let given = g.B.Bank.given a.bank in
    let scope = scope_in given a.epoch.uuid a.epoch.given a.backup in
    let number : c.args.who.number ≡ next_number c.args.who.caller a.epoch.entries.items = c.requires.next ∙ ap (λ p. next_number c.args.who.caller p.parts.entries) (sym c.still.view_is) in
    let did = c.read_listed-fetched.ensures in
    let m = c.read_listed-fetched.new.members in
    let tape = g.B.Bank.tape a.bank in
    let tape' = g.B.Bank.tape c.read_listed-fetched.new.bank in
    let before = g.B.Bank.faults_of a.bank in
    let after = g.B.Bank.faults_of c.read_listed-fetched.new.bank in
    let roles = c.newly_unassigned-roles.result in
    let spares = c.read_listed-fetched.result.spares in
    let bytes = c.read_listed-fetched.new.into in
    let end = c.ops-end-2.result in
    let len : length bytes ≡ length c.args.into.now = c.read_listed-fetched.auto.into ∙ ap (λ (l : List ℕ). length l) c.as_mut_slice.ensures.value ∙ c.in-Ok.ensures.len in
    let same : length bytes / 512 ≡ length c.as_mut_slice.result.now / 512 = ap (λ (n : ℕ). n / 512) c.read_listed-fetched.auto.into in
    let whole = written-whole c.in-Ok.bytes.len c.in-Ok.bytes.items bytes (c.read_listed-fetched.auto.into ∙ ap (λ (l : List ℕ). length l) c.as_mut_slice.ensures.value) c.in-Ok.bytes.ok.0 in
    let seen_within : c.args.at + length bytes / 512 ≤ visible_size a.members a.limit = rw len c.in_default.ensures.why.0 in
    let within : c.args.at + length bytes / 512 ≤ list_length a.members.newest = le_trans seen_within (visible-within (list_length a.members.newest) a.limit) in
    let does = without-still a.members here.still (shape-without (shape_of a.members.newest) a.members (λ refusal many. c.in_default.ensures.why.1 refusal (inl many))) in
    let since = lost-since given a.members m c.shape_in-shape.result.disks c.unassigned_roles-before.result roles spares before after here.placed did.keeps.moved did.keeps.failed
    (ap (λ (s : Shape). s.disks) c.shape_in-shape.ensures ∙ sym (count-still a.members.newest here.still)) c.unassigned_roles-before.ensures c.newly_unassigned-roles.ensures in
    let named : IsNamedStill g.B.Bank.tells given tape tape' a.members m roles spares before after =
    record { moved = did.keeps.moved; since = since; grows = did.keeps.bank.grows; clean = did.clean; rise = risen-told did.keeps.rise; others = did.others; safe = did.safe } in
    let fetched = fetched-holds given tape a.members m a.work.resync c.shape_in-shape.result c.args.at (length c.as_mut_slice.result.now / 512) c.synced_rows-mended.result bytes c.shape_in-shape.ensures c.synced_rows-mended.ensures.rows same
    (did.holds c.in_default-refusal.is) in
    with-buffers was.rows_fit (let len = (with_items a.buffer c.read_listed-fetched.new.scratch).ok.0 in let ok = a.buffer.ok.0 in let fits = was.buffer_fits in omega (arith, len, ok, fits))
    (ready (entries_of c.args.who end (losses_of roles spares ++ Read c.args.at (sectors_of bytes) ∷ [])) was (rows-moved given a.members m did.keeps.moved)
    (read-stands g.B.Bank.tells given tape tape' scope a.epoch.first a.epoch.entries.items a.members m a.work (still_left a.work a.members a.ahead) (still_left a.work m a.ahead) c.args.who end roles spares before after
    was.kept does (begins-going a.epoch.entries.items c.args.who number) (not_254 c.args.who.caller c.requires.caller) c.ops-end-2.ensures.count named (left-alike a.work a.ahead roles spares before after did.keeps.moved since)
    c.args.at bytes within (λ t. let all = seen was.kept was.limited t in omega (arith, all, seen_within)) fetched)
    (plain-read was c.args.who end (begins-going a.epoch.entries.items c.args.who number) c.requires.caller c.ops-end-2.ensures.count did.keeps.bank.grows did.keeps.moved since c.args.at bytes does seen_within fetched)
    did.keeps.bank.counts (behind-keeps c.args.who end roles spares (Read c.args.at (sectors_of bytes) ∷ []) (alone-keeps c.args.who end (Read c.args.at (sectors_of bytes)) (λ n. refl) (λ limit. refl)))
    did.keeps.bank.same (scope-same given a.backup did.keeps.bank.same c.append_after_losses-2.ensures.uuid c.append_after_losses-2.ensures.given) c.append_after_losses-2.ensures.first c.make_room.ensures.items
    (c.append_after_losses-2.ensures.items ∙ ap (λ (b : List Sector). c.make_room.new.self.items ++ entries_of c.args.who end (losses_of roles spares ++ Read c.args.at b ∷ [])) (c.from_bytes-body.ensures ∙ ap sectors_of whole))
    (omega (arith, c.append_after_losses-2.ensures.room, c.in-Ok-make_room.ensures.ok))))

pub returns-clause-answered : goal.returns-clause-answered
returns-clause-answered g c =
    let a = c.still.inside in
    let number : c.args.who.number ≡ next_number c.args.who.caller a.epoch.entries.items = c.requires.next ∙ ap (λ p. next_number c.args.who.caller p.parts.entries) (sym c.still.view_is) in
    let roles = c.newly_unassigned-roles.result in
    let spares = c.read_listed-fetched.result.spares in
    let end = c.ops-end-2.result in
    let into = c.copy_from_slice.new.self in
    let copied = c.copy_from_slice.ensures.after ∙ c.as_slice.ensures.value in
    let count : length (sectors_of into) ≡ length c.args.into.now / 512 = length-sectors_of into ∙ ap (λ (n : ℕ). n / 512) c.copy_from_slice.auto.self in
    rw (← c.still.view_is) (replied (list_length a.members.newest) (AsksRead c.args.at (length c.args.into.now / 512)) c.args.who a.epoch.entries.items c.append_after_losses-2.new.epoch.entries.items
    end (losses_of roles spares) (Read c.args.at (sectors_of into))
    (c.append_after_losses-2.ensures.items ∙ ap (λ (l : List Entry). l ++ entries_of c.args.who end (losses_of roles spares ++ Read c.args.at c.from_bytes-body.result ∷ [])) c.make_room.ensures.items
    ∙ ap (λ (b : List Sector). a.epoch.entries.items ++ entries_of c.args.who end (losses_of roles spares ++ Read c.args.at b ∷ [])) (c.from_bytes-body.ensures ∙ ap (λ (l : List ℕ). sectors_of l) (sym copied)))
    number (λ call. (refl, count)) (inside-losses c.args.who end (losses_of roles spares) (losses-are roles spares)) (torn-losses (AsksRead c.args.at (length c.args.into.now / 512)) c.args.who end (losses_of roles spares) (losses-are roles spares)))

pub returns-clause-holds : goal.returns-clause-holds
returns-clause-holds g c =
    λ t fills i lt.
    let was = (c.still.invariant.rests (ap (λ p. is_reshaping p.parts.members.newest) c.still.view_is ∙ c.requires.still)).1 in
    let here = was.kept.members_are in
    let a = c.still.inside in
    let given = g.B.Bank.given a.bank in
    let tape = g.B.Bank.tape a.bank in
    let did = c.read_listed-fetched.ensures in
    let m = c.read_listed-fetched.new.members in
    let before = g.B.Bank.faults_of a.bank in
    let after = g.B.Bank.faults_of c.read_listed-fetched.new.bank in
    let roles = c.newly_unassigned-roles.result in
    let spares = c.read_listed-fetched.result.spares in
    let bytes = c.read_listed-fetched.new.into in
    let whole = written-whole c.in-Ok.bytes.len c.in-Ok.bytes.items bytes (c.read_listed-fetched.auto.into ∙ ap (λ (l : List ℕ). length l) c.as_mut_slice.ensures.value) c.in-Ok.bytes.ok.0 in
    let copied : c.copy_from_slice.new.self ≡ bytes = c.copy_from_slice.ensures.after ∙ c.as_slice.ensures.value ∙ whole in
    let same : length bytes / 512 ≡ length c.as_mut_slice.result.now / 512 = ap (λ (n : ℕ). n / 512) c.read_listed-fetched.auto.into in
    let does = without-still a.members here.still (shape-without (shape_of a.members.newest) a.members (λ refusal many. c.in_default.ensures.why.1 refusal (inl many))) in
    let since = lost-since given a.members m c.shape_in-shape.result.disks c.unassigned_roles-before.result roles spares before after here.placed did.keeps.moved did.keeps.failed
    (ap (λ (s : Shape). s.disks) c.shape_in-shape.ensures ∙ sym (count-still a.members.newest here.still)) c.unassigned_roles-before.ensures c.newly_unassigned-roles.ensures in
    let event = Read c.args.at c.from_bytes-body.result in
    let added = entries_of c.args.who c.ops-end-2.result (losses_of roles spares ++ event ∷ []) in
    let items : c.append_after_losses-2.new.epoch.entries.items ≡ a.epoch.entries.items ++ added = c.append_after_losses-2.ensures.items ∙ ap (λ (l : List Entry). l ++ added) c.make_room.ensures.items in
    ap (λ (l : List ℕ). row_sector l i) copied ∙ sym (row-sector bytes i)
    ∙ read-holds was.kept does c.args.who c.ops-end-2.result event did.keeps.moved since c.args.at bytes
    (fetched-holds given tape a.members m a.work.resync c.shape_in-shape.result c.args.at (length c.as_mut_slice.result.now / 512) c.synced_rows-mended.result bytes c.shape_in-shape.ensures c.synced_rows-mended.ensures.rows same
    (did.holds c.in_default-refusal.is)) t
    (subst (λ (l : List Entry). IsFilledRight (world_in given tape (scope_in given a.epoch.uuid a.epoch.given a.backup) a.epoch.first) l) items
    (subst (λ p. IsFilledRight (moving_world (g.B.Bank.given p.parts.bank) (g.B.Bank.tape p.parts.bank) p) c.append_after_losses-2.new.epoch.entries.items) (sym c.still.view_is) fills)) i (subst (λ (l : List ℕ). i < length l / 512) copied lt)
    ∙ ap (λ p. now (opening_list (moving_world (g.B.Bank.given p.parts.bank) (g.B.Bank.tape p.parts.bank) p)) p.parts.entries (c.args.at + i)) c.still.view_is

pub returns-clause-called : goal.returns-clause-called
returns-clause-called g c =
    let was = (c.still.invariant.rests (ap (λ p. is_reshaping p.parts.members.newest) c.still.view_is ∙ c.requires.still)).1 in
    let here = was.kept.members_are in
    let a = c.still.inside in
    let given = g.B.Bank.given a.bank in
    let did = c.read_listed-fetched.ensures in
    let m = c.read_listed-fetched.new.members in
    let before = g.B.Bank.faults_of a.bank in
    let after = g.B.Bank.faults_of c.read_listed-fetched.new.bank in
    let roles = c.newly_unassigned-roles.result in
    let spares = c.read_listed-fetched.result.spares in
    let end = c.ops-end-2.result in
    let event = Read c.args.at c.from_bytes-body.result in
    let since = lost-since given a.members m c.shape_in-shape.result.disks c.unassigned_roles-before.result roles spares before after here.placed did.keeps.moved did.keeps.failed
    (ap (λ (s : Shape). s.disks) c.shape_in-shape.ensures ∙ sym (count-still a.members.newest here.still)) c.unassigned_roles-before.ensures c.newly_unassigned-roles.ensures in
    rw (← c.still.view_is) (called did.keeps.bank.grows did.keeps.moved
    (ended-behind (g.B.Bank.tape c.read_listed-fetched.new.bank) c.append_after_losses-2.new.epoch.first c.make_room.new.self.items c.args.who end (losses_of roles spares) event c.append_after_losses-2.ensures.items c.ops-end-2.ensures.count)
    (losses-behind a.members m before after a.epoch.entries.items c.make_room.new.self.items c.append_after_losses-2.new.epoch.entries.items c.args.who end roles spares event since tt c.make_room.ensures.items c.append_after_losses-2.ensures.items)
    did.keeps.bank.counts
    (record { uuid = c.append_after_losses-2.ensures.uuid; given = c.append_after_losses-2.ensures.given; first = c.append_after_losses-2.ensures.first; backup = refl; work = refl; ahead = refl; limit = refl })
    (λ t. (was.kept.recorded t).begun))

pub returns-clause-tape : goal.returns-clause-tape
returns-clause-tape g c = λ whole t. c.read_listed-fetched.ensures.tape whole t ∙ ap (λ p. g.B.Bank.tape p.parts.bank) c.still.view_is

pub returns-clause-others : goal.returns-clause-others
returns-clause-others g c =
    subst (λ p. g.B.Bank.tells → AreOthersPresent (present (g.B.Bank.given p.parts.bank) (g.B.Bank.tape p.parts.bank)) (present (g.B.Bank.given p.parts.bank) (g.B.Bank.tape c.read_listed-fetched.new.bank))) c.still.view_is c.read_listed-fetched.ensures.others

pub returns-clause-caused : goal.returns-clause-caused
returns-clause-caused g c = rw (← c.still.view_is) c.in_default.ensures.why

pub returns-clause-failed : goal.returns-clause-failed
returns-clause-failed g c =
    subst (λ p. HaveRolesFailed p.parts.members c.read_listed-fetched.new.members (g.B.Bank.faults_of p.parts.bank) (g.B.Bank.faults_of c.read_listed-fetched.new.bank)) c.still.view_is c.read_listed-fetched.ensures.keeps.failed.roles

pub returns-clause-whole : goal.returns-clause-whole
returns-clause-whole g c =
    subst (λ p. AreWhole c.read_listed-fetched.new.members → AreWhole p.parts.members) c.still.view_is c.read_listed-fetched.ensures.keeps.moved.whole

pub returns-clause-first : goal.returns-clause-first
returns-clause-first g c = rw (← c.still.view_is) (sym c.in_default.ensures.first)

-- ---- what the calls ask

pub check_number-requires : goal.check_number-requires
check_number-requires g c =
    c.requires.next ∙ ap (λ p. next_number c.args.who.caller p.parts.entries) (sym c.still.view_is) ∙ ap (λ (l : List Entry). next_number c.args.who.caller l) (sym c.make_room.ensures.items)

pub unread_here-requires-clause-shape : goal.unread_here-requires-clause-shape
unread_here-requires-clause-shape g c = (alike c.still.invariant).kept.members_are.placed.fit.valid.old

pub unread_here-requires-clause-multiple : goal.unread_here-requires-clause-multiple
unread_here-requires-clause-multiple g c = multiple (g.B.Bank.given c.still.inside.bank) c.still.inside.members (alike c.still.invariant).kept.members_are.placed

pub unread_here-requires-clause-size : goal.unread_here-requires-clause-size
unread_here-requires-clause-size g c = short (g.B.Bank.given c.still.inside.bank) c.still.inside.members (alike c.still.invariant).kept.members_are.placed

pub unread_here-requires-clause-progress : goal.unread_here-requires-clause-progress
unread_here-requires-clause-progress g c =
    (c.still.invariant.rests (ap (λ p. is_reshaping p.parts.members.newest) c.still.view_is ∙ c.requires.still)).1.kept.progress

pub append_entry-requires-clause-room : goal.append_entry-requires-clause-room
append_entry-requires-clause-room g c = room-1 c.in-Ok-make_room.ensures.ok

pub append_entry-requires-clause-number : goal.append_entry-requires-clause-number
append_entry-requires-clause-number g c = c.check_number.ensures

pub shape_in-shape-requires : goal.shape_in-shape-requires
shape_in-shape-requires g c = (alike c.still.invariant).kept.members_are.placed.fit.valid.old

pub unassigned_roles-before-requires-clause-known : goal.unassigned_roles-before-requires-clause-known
unassigned_roles-before-requires-clause-known g c = known-at (alike c.still.invariant).kept.members_are.placed c.shape_in-shape.ensures

pub synced_rows-mended-requires-clause-shape : goal.synced_rows-mended-requires-clause-shape
synced_rows-mended-requires-clause-shape g c = (alike c.still.invariant).kept.members_are.placed.fit.valid.old

pub synced_rows-mended-requires-clause-multiple : goal.synced_rows-mended-requires-clause-multiple
synced_rows-mended-requires-clause-multiple g c = multiple (g.B.Bank.given c.still.inside.bank) c.still.inside.members (alike c.still.invariant).kept.members_are.placed

pub synced_rows-mended-requires-clause-progress : goal.synced_rows-mended-requires-clause-progress
synced_rows-mended-requires-clause-progress g c =
    (c.still.invariant.rests (ap (λ p. is_reshaping p.parts.members.newest) c.still.view_is ∙ c.requires.still)).1.kept.progress

pub read_listed-fetched-requires-clause-stands : goal.read_listed-fetched-requires-clause-stands
read_listed-fetched-requires-clause-stands g c =
    record {
      slots = (alike c.still.invariant).kept.slots;
      placed = (alike c.still.invariant).kept.members_are.placed;
      unlost = (alike c.still.invariant).kept.members_are.unlost;
      free = (alike c.still.invariant).kept.members_are.free;
    }

pub read_listed-fetched-requires-clause-into : goal.read_listed-fetched-requires-clause-into
read_listed-fetched-requires-clause-into g c = whole-alike _ _ (ap (λ (l : List ℕ). length l) c.as_mut_slice.ensures.value ∙ c.in-Ok.ensures.len) c.requires.whole

pub read_listed-fetched-requires-clause-scratch : goal.read_listed-fetched-requires-clause-scratch
read_listed-fetched-requires-clause-scratch g c = scratch-fits c.as_mut_slice-2.ensures.value (alike c.still.invariant).buffer_fits

pub read_listed-fetched-requires-clause-mended : goal.read_listed-fetched-requires-clause-mended
read_listed-fetched-requires-clause-mended g c = c.synced_rows-mended.ensures.within

pub newly_unassigned-roles-requires-clause-known : goal.newly_unassigned-roles-requires-clause-known
newly_unassigned-roles-requires-clause-known g c = known-behind c.read_listed-fetched.ensures.keeps.moved c.shape_in-shape.ensures

pub copy_from_slice-requires : goal.copy_from_slice-requires
copy_from_slice-requires g c =
    let len : length c.read_listed-fetched.new.into ≡ length c.args.into.now = c.read_listed-fetched.auto.into ∙ ap (λ (l : List ℕ). length l) c.as_mut_slice.ensures.value ∙ c.in-Ok.ensures.len in
    let whole = written-whole c.in-Ok.bytes.len c.in-Ok.bytes.items c.read_listed-fetched.new.into (c.read_listed-fetched.auto.into ∙ ap (λ (l : List ℕ). length l) c.as_mut_slice.ensures.value) c.in-Ok.bytes.ok.0 in
    sym (ap (λ (l : List ℕ). length l) (c.as_slice.ensures.value ∙ whole) ∙ len)

pub from_bytes-body-requires : goal.from_bytes-body-requires
from_bytes-body-requires g c =
    let len : length c.read_listed-fetched.new.into ≡ length c.args.into.now = c.read_listed-fetched.auto.into ∙ ap (λ (l : List ℕ). length l) c.as_mut_slice.ensures.value ∙ c.in-Ok.ensures.len in
    let whole = written-whole c.in-Ok.bytes.len c.in-Ok.bytes.items c.read_listed-fetched.new.into (c.read_listed-fetched.auto.into ∙ ap (λ (l : List ℕ). length l) c.as_mut_slice.ensures.value) c.in-Ok.bytes.ok.0 in
    subst (λ (l : List ℕ). IsWhole l) (sym whole) (whole-alike _ _ len c.requires.whole)

pub append_after_losses-requires-clause-room : goal.append_after_losses-requires-clause-room
append_after_losses-requires-clause-room g c = room-49 c.in-Ok-make_room.ensures.ok

pub append_after_losses-requires-clause-number : goal.append_after_losses-requires-clause-number
append_after_losses-requires-clause-number g c = c.check_number.ensures

pub append_after_losses-requires-2-clause-room : goal.append_after_losses-requires-2-clause-room
append_after_losses-requires-2-clause-room g c = room-49 c.in-Ok-make_room.ensures.ok

pub append_after_losses-requires-2-clause-number : goal.append_after_losses-requires-2-clause-number
append_after_losses-requires-2-clause-number g c = c.check_number.ensures

-- ---- memory was short

pub returns-in-Err-clause-called : goal.returns-in-Err-clause-called
returns-in-Err-clause-called g c =
    let kept = (alike c.still.invariant).kept in
    rw (← c.still.view_is) (undone-called kept.members_are.placed kept.members_are.unlost (λ t. (kept.recorded t).ended) (λ t. (kept.recorded t).begun) refl)

pub returns-in-Err-clause-failed : goal.returns-in-Err-clause-failed
returns-in-Err-clause-failed g c = λ role slot held. inl held

pub invariant_of-still : goal.invariant_of-still
invariant_of-still g c =
    stays-at-rest (c.still.invariant.rests (ap (λ p. is_reshaping p.parts.members.newest) c.still.view_is ∙ c.requires.still)).0 (roomier (c.still.invariant.rests (ap (λ p. is_reshaping p.parts.members.newest) c.still.view_is ∙ c.requires.still)).1 c.make_room.ensures.items c.make_room.ensures.keeps)

pub returns-in-Err-make_room-clause-answered : goal.returns-in-Err-make_room-clause-answered
returns-in-Err-make_room-clause-answered g c = c.make_room.ensures.items ∙ ap (λ p. p.parts.entries) c.still.view_is

pub returns-in-Err-make_room-clause-unchanged : goal.returns-in-Err-make_room-clause-unchanged
returns-in-Err-make_room-clause-unchanged g c = entries-alike c.make_room.new.self.items c.still.view_is c.make_room.ensures.items

pub returns-in-Err-make_room-clause-called : goal.returns-in-Err-make_room-clause-called
returns-in-Err-make_room-clause-called g c =
    let kept = (alike c.still.invariant).kept in
    rw (← c.still.view_is) (undone-called kept.members_are.placed kept.members_are.unlost (λ t. (kept.recorded t).ended) (λ t. (kept.recorded t).begun) (entries-alike c.make_room.new.self.items refl c.make_room.ensures.items))

pub returns-in-Err-make_room-clause-whole : goal.returns-in-Err-make_room-clause-whole
returns-in-Err-make_room-clause-whole g c = subst (λ p. AreWhole c.still.inside.members → AreWhole p.parts.members) c.still.view_is (λ whole. whole)

pub returns-in-Err-make_room-clause-caused : goal.returns-in-Err-make_room-clause-caused
returns-in-Err-make_room-clause-caused g c = ap (λ p. p.parts.members) c.still.view_is

pub returns-in-Err-make_room-clause-failed : goal.returns-in-Err-make_room-clause-failed
returns-in-Err-make_room-clause-failed g c =
    subst (λ p. HaveRolesFailed p.parts.members c.still.inside.members (g.B.Bank.faults_of p.parts.bank) (g.B.Bank.faults_of c.still.inside.bank)) c.still.view_is (λ role slot held. inl held)

-- ---- what is as it was

pub returns-in-Some-clause-whole : goal.returns-in-Some-clause-whole
returns-in-Some-clause-whole g c = subst (λ p. AreWhole c.still.inside.members → AreWhole p.parts.members) c.still.view_is (λ whole. whole)

pub returns-in-Some-clause-failed : goal.returns-in-Some-clause-failed
returns-in-Some-clause-failed g c =
    subst (λ p. HaveRolesFailed p.parts.members c.still.inside.members (g.B.Bank.faults_of p.parts.bank) (g.B.Bank.faults_of c.still.inside.bank)) c.still.view_is (λ role slot held. inl held)

pub returns-in-Some-clause-tape : goal.returns-in-Some-clause-tape
returns-in-Some-clause-tape g c = λ whole t. ap (λ p. g.B.Bank.tape p.parts.bank) c.still.view_is

pub returns-in-Some-clause-clean : goal.returns-in-Some-clause-clean
returns-in-Some-clause-clean g c = ap (λ p. is_clean p.parts.members.newest) c.still.view_is

pub returns-in-Some-clause-given : goal.returns-in-Some-clause-given
returns-in-Some-clause-given g c = ap (λ p. g.B.Bank.given p.parts.bank) c.still.view_is

pub returns-in-Some-refusal-clause-clean : goal.returns-in-Some-refusal-clause-clean
returns-in-Some-refusal-clause-clean g c = c.read_listed-fetched.ensures.clean ∙ ap (λ p. is_clean p.parts.members.newest) c.still.view_is

pub returns-in-Some-refusal-clause-given : goal.returns-in-Some-refusal-clause-given
returns-in-Some-refusal-clause-given g c = c.read_listed-fetched.ensures.keeps.bank.same ∙ ap (λ p. g.B.Bank.given p.parts.bank) c.still.view_is

pub returns-clause-clean : goal.returns-clause-clean
returns-clause-clean g c = c.read_listed-fetched.ensures.clean ∙ ap (λ p. is_clean p.parts.members.newest) c.still.view_is

pub returns-clause-given : goal.returns-clause-given
returns-clause-given g c = c.read_listed-fetched.ensures.keeps.bank.same ∙ ap (λ p. g.B.Bank.given p.parts.bank) c.still.view_is

pub returns-in-Some-clause-still : goal.returns-in-Some-clause-still
returns-in-Some-clause-still g c = (ap (λ p. is_reshaping p.parts.members.newest) c.still.view_is ∙ c.requires.still)

pub returns-in-Some-refusal-clause-still : goal.returns-in-Some-refusal-clause-still
returns-in-Some-refusal-clause-still g c = c.read_listed-fetched.ensures.keeps.moved.reshape.reshaping ∙ (ap (λ p. is_reshaping p.parts.members.newest) c.still.view_is ∙ c.requires.still)

pub returns-clause-still : goal.returns-clause-still
returns-clause-still g c = c.read_listed-fetched.ensures.keeps.moved.reshape.reshaping ∙ (ap (λ p. is_reshaping p.parts.members.newest) c.still.view_is ∙ c.requires.still)

pub returns-in-Err-clause-still : goal.returns-in-Err-clause-still
returns-in-Err-clause-still g c = c.requires.still

pub returns-in-Err-make_room-clause-still : goal.returns-in-Err-make_room-clause-still
returns-in-Err-make_room-clause-still g c = (ap (λ p. is_reshaping p.parts.members.newest) c.still.view_is ∙ c.requires.still)
