use Rattle.std.proofs.Math.Nat.{le_trans}
use Rattle.std.proofs.Common.{inl, ◌≡◌, ◌+◌, ◌*◌, ◌/◌, ◌≤◌, ◌++◌, ◌∷◌, [], ℕ, Bool, Some, List, length, refl, sym, ◌∙◌, ap, subst, arith}
use Rattle.array_type.specs.raid_types_Sectors.{Sector, sectors_of}
use Rattle.array_type.specs.raid_types_Shapes.{data_disks}
use Rattle.array_type.proofs.raid_types_SectorLaws.{length-sectors_of}
use Rattle.array_type.specs.raid_types_the_Shape.{Shape}
use Rattle.array_type.specs.sb_specs_Reading.{shape_of, list_length, is_reshaping}
use Rattle.array_type.specs.history_the_Entry.{Entry}
use Rattle.array_type.specs.history_the_Event_TheVariants.{Wrote, Refused}
use Rattle.array_type.specs.history_the_Request_TheVariants.{Write as AsksWrite}
use Rattle.array_type.specs.history_Flat.{next_number}
use Rattle.array_type.specs.history_Plain.{entries_of}
use Rattle.array_type.proofs.crash_views_Stands.{list-still}
use Rattle.array_type.specs.array_members_Lacking.{IsUnwritten, LacksTooMany, AreBytes, are_synced, synced_rows, HaveRolesFailed}
use Rattle.array_type.specs.array_members_Placed.{places_of, AreWhole}
use Rattle.array_type.specs.array_members_Whole.{list_size}
use Rattle.array_type.proofs.array_members_LackingLaws.{lost-since, shape-without}
use Rattle.array_type.proofs.array_members_MemberLaws.{list-few}
use Rattle.array_type.proofs.array_members_MovedLaws.{grows-none, moved-same}
use Rattle.array_type.proofs.array_members_Still.{count-still, without-still}
use Rattle.array_type.specs.sb_safe_updates_First.{write_refusal, call_refusal}
use Rattle.array_type.specs.history_append_Losing.{losses_of, failure_events}
use Rattle.array_type.proofs.history_append_CallLaws.{losses-are, torn-losses}
use Rattle.array_type.specs.array_call_specs_Calls.{IsRefusedFor}
use Rattle.array_type.specs.array_call_specs_Kept.{scope_in}
use Rattle.array_type.proofs.array_call_specs_LossLaws.{losses-behind, losses-failure, ended-behind, ended-failure, torn-told}
use Rattle.array_type.proofs.array_call_specs_ReadyLaws.{scope-same}
use Rattle.array_type.proofs.array_call_specs_ReplyLaws.{inside-losses, replied, unwritten-of, refused-for}
use Rattle.array_type.proofs.array_call_laws_ReadLaws.{some-of}
use Rattle.array_type.proofs.array_state_FirstLaws.{call-within}
use Rattle.array_type.proofs.history_invariant_Records.{begins-going}
use Rattle.array_type.proofs.array_fixed_invariant_Writing.{wrote-stands}
use Rattle.array_type.specs.array_specs_Parts.{visible_size, still_left, visible_in}
use Rattle.array_type.proofs.array_specs_Called.{not_254, called, alone-lossless}
use Rattle.array_type.proofs.array_specs_Lengths.{alone-keeps, behind-keeps, failure-keeps}
use Rattle.array_type.proofs.array_specs_Replies.{refused_reply, failed_reply, write_kind}
use Rattle.array_type.proofs.array_specs_VisibleLaws.{visible-within}
use Rattle.array_type.proofs.array_fixed_laws_Asking.{refused-alone}
use Rattle.array_type.proofs.array_fixed_laws_Kept.{ready, rows-same, rows-moved, with-buffers, roomier}
use Rattle.array_type.proofs.array_fixed_laws_PlainBehind.{unwritten-plain, put-plain, plain-wrote, plain-unwritten, first-plain}
use Rattle.array_type.proofs.array_fixed_laws_Left.{left-alike}
use Rattle.array_type.proofs.array_fixed_laws_Reading.{seen, unwritten-still, refused-first}
use Rattle.array_type.proofs.array_fixed_laws_Writing.{put-still, written-still, failed-stands}
use Rattle.array_type.proofs.array_members_Fit.{valid, multiple, short}
use Rattle.array_type.proofs.Rested.{shape-few, shape-known, room-1, room-49, room-50}
use Rattle.array_type.specs.crash_safety_laws_Marking.{AreOthersPresent}
use Rattle.array_type.specs.stripe_row_Rows.{present}
use Rattle.array_type.proofs.Asked.{entries-alike, undone-called}
use Rattle.array_type.proofs.Alike.{alike, stays-at-rest}
use Rattle.array_fixed_io.proofs.writing.write.Goals as goal

-- ---- refused before any row is read

pub invariant_of-still-in-Some : goal.invariant_of-still-in-Some
invariant_of-still-in-Some g c =
    stays-at-rest (c.still.invariant.rests (ap (λ p. is_reshaping p.parts.members.newest) c.still.view_is ∙ c.requires.still)).0 (
    let was = (c.still.invariant.rests (ap (λ p. is_reshaping p.parts.members.newest) c.still.view_is ∙ c.requires.still)).1 in
    let a = c.still.inside in
    let given = g.B.Bank.given a.bank in
    let number : c.args.who.number ≡ next_number c.args.who.caller a.epoch.entries.items = c.requires.next ∙ ap (λ p. next_number c.args.who.caller p.parts.entries) (sym c.still.view_is) in
    let to = c.args.at + length c.args.from.now / 512 in
    let refusal = c.in-Some.refusal in
    ready (entries_of c.args.who c.ops-end.result (Refused refusal ∷ [])) was (rows-same a.members.newest)
    (refused-alone c.args.who c.ops-end.result was.kept number c.requires.caller c.ops-end.ensures.count refusal
    (refused-first was.kept was.limited to (IsUnwritten (shape_of a.members.newest) (are_synced (shape_of a.members.newest) (synced_rows a.work.resync a.members) to)) refusal
    (λ within. unwritten-still given a.members was.kept.members_are a.work.resync to refusal within) c.in-Some.ensures.why))
    (first-plain was c.args.who c.ops-end.result (begins-going a.epoch.entries.items c.args.who number) c.requires.caller c.ops-end.ensures.count (grows-none (λ t. refl)) to
    (IsUnwritten (shape_of a.members.newest) (are_synced (shape_of a.members.newest) (synced_rows a.work.resync a.members) to)) refusal
    (λ within. unwritten-plain given a.members was.kept.members_are a.work.resync (visible_size a.members a.limit) to refusal within) c.in-Some.ensures.why)
    (λ slot. omega arith) (alone-keeps c.args.who c.ops-end.result (Refused refusal) (λ n. refl) (λ limit. refl))
    refl (scope-same given a.backup refl c.append_entry.ensures.uuid c.append_entry.ensures.given) c.append_entry.ensures.first c.make_room.ensures.items c.append_entry.ensures.items
    (omega (arith, c.append_entry.ensures.room, c.in-Ok-make_room.ensures.ok)))

pub returns-in-Some-clause-answered : goal.returns-in-Some-clause-answered
returns-in-Some-clause-answered g c =
    let was = (alike c.still.invariant) in
    let a = c.still.inside in
    let number : c.args.who.number ≡ next_number c.args.who.caller a.epoch.entries.items = c.requires.next ∙ ap (λ p. next_number c.args.who.caller p.parts.entries) (sym c.still.view_is) in
    let size = list_length a.members.newest in
    let body = sectors_of c.args.from.now in
    let synced = are_synced (shape_of a.members.newest) (synced_rows a.work.resync a.members) (c.args.at + length c.args.from.now / 512) in
    let why = subst (λ (n : ℕ). IsRefusedFor (visible_size a.members a.limit) (c.args.at + n) (IsUnwritten (shape_of a.members.newest) synced) a.members a.members c.in-Some.refusal) (sym (length-sectors_of c.args.from.now)) c.in-Some.ensures.why in
    rw (← c.still.view_is) (refused_reply size a.limit a.epoch.entries.items was.sized was.limited (AsksWrite c.args.at body) c.args.who (c.args.at + length body)
    (IsUnwritten (shape_of a.members.newest) synced) c.append_entry.new.epoch.entries.items c.ops-end.result a.members c.in-Some.refusal (write_kind c.args.at body)
    (unwritten-of (shape_of a.members.newest) synced a.members c.in-Some.refusal) why
    (c.append_entry.ensures.items ∙ ap (λ (l : List Entry). l ++ entries_of c.args.who c.ops-end.result (Refused c.in-Some.refusal ∷ [])) c.make_room.ensures.items) number)

pub returns-in-Some-clause-called : goal.returns-in-Some-clause-called
returns-in-Some-clause-called g c =
    let was = (alike c.still.invariant) in
    let a = c.still.inside in
    let given = g.B.Bank.given a.bank in
    let faults = g.B.Bank.faults_of a.bank in
    let end = c.ops-end.result in
    let refusal = c.in-Some.refusal in
    rw (← c.still.view_is) (called (grows-none (λ t. refl)) (moved-same given given a.members a.members refl refl was.kept.members_are.placed was.kept.members_are.unlost)
    (ended-behind (g.B.Bank.tape a.bank) c.append_entry.new.epoch.first c.make_room.new.self.items c.args.who end [] (Refused refusal) c.append_entry.ensures.items c.ops-end.ensures.count)
    (alone-lossless a.members faults faults a.epoch.entries.items c.make_room.new.self.items c.append_entry.new.epoch.entries.items c.args.who end (Refused refusal) tt c.make_room.ensures.items c.append_entry.ensures.items)
    (λ slot. omega arith)
    (record { uuid = c.append_entry.ensures.uuid; given = c.append_entry.ensures.given; first = c.append_entry.ensures.first; backup = refl; work = refl; ahead = refl; limit = refl })
    (λ t. (was.kept.recorded t).begun))

-- ---- it is written by the one shape

pub write_listed-done-requires-clause-shape : goal.write_listed-done-requires-clause-shape
write_listed-done-requires-clause-shape g c = inl c.shape_in-shape.ensures

pub write_listed-done-requires-clause-within : goal.write_listed-done-requires-clause-within
write_listed-done-requires-clause-within g c =
    let m = c.still.inside.members in
    subst (λ (s : Shape). c.args.at + length c.args.from.now / 512 ≤ data_disks s * m.newest.size) (sym c.shape_in-shape.ensures)
    (subst (λ (n : ℕ). c.args.at + length c.args.from.now / 512 ≤ n) (list-still m.newest (c.still.invariant.rests (ap (λ p. is_reshaping p.parts.members.newest) c.still.view_is ∙ c.requires.still)).1.kept.members_are.still)
    (le_trans c.in_default.ensures.why.0 (visible-within (list_length m.newest) c.still.inside.limit)))

-- the list is short

pub write_listed-done-requires-clause-short : goal.write_listed-done-requires-clause-short
write_listed-done-requires-clause-short g c =
    let m = c.still.inside.members in
    let few = list-few (g.B.Bank.given c.still.inside.bank) m (c.still.invariant.rests (ap (λ p. is_reshaping p.parts.members.newest) c.still.view_is ∙ c.requires.still)).1.kept.members_are.placed in
    let within : c.args.at + length c.args.from.now / 512 ≤ list_size (places_of m) =
    subst (λ (n : ℕ). c.args.at + length c.args.from.now / 512 ≤ n) (list-still m.newest (c.still.invariant.rests (ap (λ p. is_reshaping p.parts.members.newest) c.still.view_is ∙ c.requires.still)).1.kept.members_are.still)
    (le_trans c.in_default.ensures.why.0 (visible-within (list_length m.newest) c.still.inside.limit)) in
    omega (arith, few, within)

-- ---- refused since members are missing

pub invariant_of-still-in-Some-refusal : goal.invariant_of-still-in-Some-refusal
invariant_of-still-in-Some-refusal g c =
    stays-at-rest (c.still.invariant.rests (ap (λ p. is_reshaping p.parts.members.newest) c.still.view_is ∙ c.requires.still)).0 (
    let was = (c.still.invariant.rests (ap (λ p. is_reshaping p.parts.members.newest) c.still.view_is ∙ c.requires.still)).1 in
    let here = was.kept.members_are in
    let a = c.still.inside in
    let given = g.B.Bank.given a.bank in
    let number : c.args.who.number ≡ next_number c.args.who.caller a.epoch.entries.items = c.requires.next ∙ ap (λ p. next_number c.args.who.caller p.parts.entries) (sym c.still.view_is) in
    let did = c.write_listed-done.ensures in
    let m = c.write_listed-done.new.members in
    let tape = g.B.Bank.tape a.bank in
    let tape' = g.B.Bank.tape c.write_listed-done.new.bank in
    let before = g.B.Bank.faults_of a.bank in
    let after = g.B.Bank.faults_of c.write_listed-done.new.bank in
    let roles = c.newly_unassigned-roles.result in
    let spares = c.write_listed-done.result.spares in
    let torn = c.write_listed-done.result.begun in
    let refusal = c.in-Some-refusal.refusal in
    let end = c.ops-end-2.result in
    let from = c.args.from.now in
    let body = sectors_of from in
    let shape = c.shape_in-shape.result in
    let within : c.args.at + length from / 512 ≤ list_length a.members.newest = le_trans c.in_default.ensures.why.0 (visible-within (list_length a.members.newest) a.limit) in
    let does = without-still a.members here.still (shape-without (shape_of a.members.newest) a.members (λ refusal many. c.in_default.ensures.why.1 refusal (inl many))) in
    let synced = c.are_synced-synced.result in
    let asked : synced ≡ are_synced (shape_of a.members.newest) (synced_rows a.work.resync a.members) (c.args.at + length from / 512) =
    c.are_synced-synced.ensures ∙ ap (λ (s : Shape). are_synced s (synced_rows a.work.resync a.members) (c.args.at + length from / 512)) c.shape_in-shape.ensures in
    let since = lost-since given a.members m c.shape_in-shape.result.disks c.unassigned_roles-before.result roles spares before after here.placed did.keeps.moved did.keeps.failed
    (ap (λ (s : Shape). s.disks) c.shape_in-shape.ensures ∙ sym (count-still a.members.newest here.still)) c.unassigned_roles-before.ensures c.newly_unassigned-roles.ensures in
    let put = put-still given tape tape' a.members m here did.keeps.moved a.work.resync shape c.shape_in-shape.ensures c.args.at from synced asked since did.keeps.bank.grows did.stays did.keeps.rise did.safe in
    with-buffers (let fits = was.rows_fit in let more = did.rows in omega (arith, fits, more)) (rw did.buffer was.buffer_fits)
    (ready (entries_of c.args.who end (failure_events roles spares torn c.args.at body refusal)) was (rows-moved given a.members m did.keeps.moved)
    (failed-stands (still_left a.work m a.ahead) c.args.who end shape c.args.at from synced torn refusal was.kept does (begins-going a.epoch.entries.items c.args.who number) (not_254 c.args.who.caller c.requires.caller) c.ops-end-2.ensures.count
    (left-alike a.work a.ahead roles spares before after did.keeps.moved since) c.shape_in-shape.ensures asked within
    (λ t. let all = seen was.kept was.limited t in let within = c.in_default.ensures.why.0 in omega (arith, all, within)) put
    (some-of (IsUnwritten shape synced m) c.write_listed-done.result.refusal refusal c.in-Some-refusal.is did.refused)
    (λ begun. some-of (LacksTooMany shape m) c.write_listed-done.result.refusal refusal c.in-Some-refusal.is (did.torn begun)) did.untouched)
    (plain-unwritten was c.args.who end (begins-going a.epoch.entries.items c.args.who number) c.requires.caller c.ops-end-2.ensures.count did.keeps.bank.grows did.keeps.moved since c.args.at from shape torn refusal c.in_default.ensures.why.0
    (c.shape_in-shape.ensures ∙ sym did.keeps.moved.shape)
    (put-plain given a.members m here did.keeps.moved a.work.resync (visible_size a.members a.limit) (c.args.at + length from / 512) shape synced refusal c.shape_in-shape.ensures asked within
    (some-of (IsUnwritten shape synced m) c.write_listed-done.result.refusal refusal c.in-Some-refusal.is did.refused))
    (λ begun. some-of (LacksTooMany shape m) c.write_listed-done.result.refusal refusal c.in-Some-refusal.is (did.torn begun)))
    did.keeps.bank.counts (failure-keeps c.args.who end roles spares torn c.args.at body refusal)
    did.keeps.bank.same (scope-same given a.backup did.keeps.bank.same c.append_failure.ensures.uuid c.append_failure.ensures.given) c.append_failure.ensures.first c.make_room.ensures.items
    (c.append_failure.ensures.items ∙ ap (λ (b : List Sector). c.make_room.new.self.items ++ entries_of c.args.who end (failure_events roles spares torn c.args.at b refusal)) c.in-Ok.ensures)
    (omega (arith, c.append_failure.ensures.room, c.in-Ok-make_room.ensures.ok))))

pub returns-in-Some-refusal-clause-answered : goal.returns-in-Some-refusal-clause-answered
returns-in-Some-refusal-clause-answered g c =
    let was = (alike c.still.invariant) in
    let a = c.still.inside in
    let number : c.args.who.number ≡ next_number c.args.who.caller a.epoch.entries.items = c.requires.next ∙ ap (λ p. next_number c.args.who.caller p.parts.entries) (sym c.still.view_is) in
    let m = c.write_listed-done.new.members in
    let roles = c.newly_unassigned-roles.result in
    let spares = c.write_listed-done.result.spares in
    let torn = c.write_listed-done.result.begun in
    let refusal = c.in-Some-refusal.refusal in
    let end = c.ops-end-2.result in
    let size = list_length a.members.newest in
    let body = sectors_of c.args.from.now in
    let within : c.args.at + length body ≤ visible_size a.members a.limit = omega (arith, c.in_default.ensures.why.0, length-sectors_of c.args.from.now) in
    let synced = c.are_synced-synced.result in
    let why = some-of (IsUnwritten c.shape_in-shape.result synced m) c.write_listed-done.result.refusal refusal c.in-Some-refusal.is c.write_listed-done.ensures.refused in
    rw (← c.still.view_is) (failed_reply size a.limit a.epoch.entries.items was.sized was.limited torn c.args.who c.args.at body c.append_failure.new.epoch.entries.items end roles spares refusal within
    (unwritten-of c.shape_in-shape.result synced m refusal why)
    (subst (λ (l : List Entry). c.append_failure.new.epoch.entries.items ≡ l ++ entries_of c.args.who end (failure_events roles spares torn c.args.at body refusal)) c.make_room.ensures.items
    (subst (λ (b : List Sector). c.append_failure.new.epoch.entries.items ≡ c.make_room.new.self.items ++ entries_of c.args.who end (failure_events roles spares torn c.args.at b refusal)) c.in-Ok.ensures c.append_failure.ensures.items)) number)

pub returns-in-Some-refusal-clause-untouched : goal.returns-in-Some-refusal-clause-untouched
returns-in-Some-refusal-clause-untouched g c =
    let roles = c.newly_unassigned-roles.result in
    let spares = c.write_listed-done.result.spares in
    let torn = c.write_listed-done.result.begun in
    rw (← c.still.view_is) (λ none told. c.write_listed-done.ensures.untouched
    (torn-told c.args.who c.ops-end-2.result roles spares torn c.args.at c.in-Ok.body c.in-Some-refusal.refusal c.make_room.ensures.items c.append_failure.ensures.items none) told)

pub returns-in-Some-refusal-clause-caused : goal.returns-in-Some-refusal-clause-caused
returns-in-Some-refusal-clause-caused g c =
    let a = c.still.inside in
    let m = c.write_listed-done.new.members in
    let refusal = c.in-Some-refusal.refusal in
    let synced = c.are_synced-synced.result in
    let asked : synced ≡ are_synced (shape_of a.members.newest) (synced_rows a.work.resync a.members) (c.args.at + length c.args.from.now / 512) = c.are_synced-synced.ensures ∙ ap (λ (s : Shape). are_synced s (synced_rows a.work.resync a.members) (c.args.at + length c.args.from.now / 512)) c.shape_in-shape.ensures in
    let why = some-of (IsUnwritten c.shape_in-shape.result synced m) c.write_listed-done.result.refusal refusal c.in-Some-refusal.is c.write_listed-done.ensures.refused in
    rw (← c.still.view_is) (refused-for (visible_size a.members a.limit) (c.args.at + length c.args.from.now / 512)
    (IsUnwritten (shape_of a.members.newest) (are_synced (shape_of a.members.newest) (synced_rows a.work.resync a.members) (c.args.at + length c.args.from.now / 512))) a.members m refusal
    (unwritten-of c.shape_in-shape.result synced m refusal why) c.in_default.ensures.why.0 (subst (λ (s : Shape). IsUnwritten s (are_synced (shape_of a.members.newest) (synced_rows a.work.resync a.members) (c.args.at + length c.args.from.now / 512)) m refusal) c.shape_in-shape.ensures
    (subst (λ (b : Bool). IsUnwritten c.shape_in-shape.result b m refusal) asked why)))

pub returns-in-Some-refusal-clause-first : goal.returns-in-Some-refusal-clause-first
returns-in-Some-refusal-clause-first g c =
    let a = c.still.inside in
    let m = c.write_listed-done.new.members in
    let refusal = c.in-Some-refusal.refusal in
    let to = c.args.at + length c.args.from.now / 512 in
    let asked = are_synced (shape_of a.members.newest) (synced_rows a.work.resync a.members) to in
    let same = c.are_synced-synced.ensures ∙ ap (λ (s : Shape). are_synced s (synced_rows a.work.resync a.members) to) c.shape_in-shape.ensures in
    let why = some-of (λ r. write_refusal c.shape_in-shape.result c.are_synced-synced.result m ≡ Some r) c.write_listed-done.result.refusal refusal c.in-Some-refusal.is c.write_listed-done.ensures.first in
    rw (← c.still.view_is) (call-within (visible_size a.members a.limit) to (write_refusal (shape_of a.members.newest) asked m) c.in_default.ensures.why.0
    ∙ subst (λ (s : Shape). write_refusal s asked m ≡ Some refusal) c.shape_in-shape.ensures (subst (λ (b : Bool). write_refusal c.shape_in-shape.result b m ≡ Some refusal) same why))

pub returns-in-Some-refusal-clause-called : goal.returns-in-Some-refusal-clause-called
returns-in-Some-refusal-clause-called g c =
    let was = (c.still.invariant.rests (ap (λ p. is_reshaping p.parts.members.newest) c.still.view_is ∙ c.requires.still)).1 in
    let here = was.kept.members_are in
    let a = c.still.inside in
    let given = g.B.Bank.given a.bank in
    let did = c.write_listed-done.ensures in
    let m = c.write_listed-done.new.members in
    let before = g.B.Bank.faults_of a.bank in
    let after = g.B.Bank.faults_of c.write_listed-done.new.bank in
    let roles = c.newly_unassigned-roles.result in
    let spares = c.write_listed-done.result.spares in
    let torn = c.write_listed-done.result.begun in
    let end = c.ops-end-2.result in
    let since = lost-since given a.members m c.shape_in-shape.result.disks c.unassigned_roles-before.result roles spares before after here.placed did.keeps.moved did.keeps.failed
    (ap (λ (s : Shape). s.disks) c.shape_in-shape.ensures ∙ sym (count-still a.members.newest here.still)) c.unassigned_roles-before.ensures c.newly_unassigned-roles.ensures in
    rw (← c.still.view_is) (called did.keeps.bank.grows did.keeps.moved
    (ended-failure (g.B.Bank.tape c.write_listed-done.new.bank) c.append_failure.new.epoch.first c.make_room.new.self.items c.args.who end roles spares torn c.args.at c.in-Ok.body c.in-Some-refusal.refusal c.append_failure.ensures.items c.ops-end-2.ensures.count)
    (losses-failure a.members m before after a.epoch.entries.items c.make_room.new.self.items c.append_failure.new.epoch.entries.items c.args.who end roles spares torn c.args.at c.in-Ok.body c.in-Some-refusal.refusal since
    c.make_room.ensures.items c.append_failure.ensures.items)
    did.keeps.bank.counts
    (record { uuid = c.append_failure.ensures.uuid; given = c.append_failure.ensures.given; first = c.append_failure.ensures.first; backup = refl; work = refl; ahead = refl; limit = refl })
    (λ t. (was.kept.recorded t).begun))

-- ---- done

pub invariant_of-still-2 : goal.invariant_of-still-2
invariant_of-still-2 g c =
    stays-at-rest (c.still.invariant.rests (ap (λ p. is_reshaping p.parts.members.newest) c.still.view_is ∙ c.requires.still)).0 (
    let was = (c.still.invariant.rests (ap (λ p. is_reshaping p.parts.members.newest) c.still.view_is ∙ c.requires.still)).1 in
    let here = was.kept.members_are in
    let a = c.still.inside in
    let given = g.B.Bank.given a.bank in
    let scope = scope_in given a.epoch.uuid a.epoch.given a.backup in
    let number : c.args.who.number ≡ next_number c.args.who.caller a.epoch.entries.items = c.requires.next ∙ ap (λ p. next_number c.args.who.caller p.parts.entries) (sym c.still.view_is) in
    let did = c.write_listed-done.ensures in
    let m = c.write_listed-done.new.members in
    let tape = g.B.Bank.tape a.bank in
    let tape' = g.B.Bank.tape c.write_listed-done.new.bank in
    let before = g.B.Bank.faults_of a.bank in
    let after = g.B.Bank.faults_of c.write_listed-done.new.bank in
    let roles = c.newly_unassigned-roles.result in
    let spares = c.write_listed-done.result.spares in
    let end = c.ops-end-2.result in
    let from = c.args.from.now in
    let body = sectors_of from in
    let shape = c.shape_in-shape.result in
    let within : c.args.at + length from / 512 ≤ list_length a.members.newest = le_trans c.in_default.ensures.why.0 (visible-within (list_length a.members.newest) a.limit) in
    let done = c.in_default-refusal.is in
    let bytes : AreBytes from = λ i. (c.type_inv.from i).fits in
    let does = without-still a.members here.still (shape-without (shape_of a.members.newest) a.members (λ refusal many. c.in_default.ensures.why.1 refusal (inl many))) in
    let synced = c.are_synced-synced.result in
    let asked : synced ≡ are_synced (shape_of a.members.newest) (synced_rows a.work.resync a.members) (c.args.at + length from / 512) =
    c.are_synced-synced.ensures ∙ ap (λ (s : Shape). are_synced s (synced_rows a.work.resync a.members) (c.args.at + length from / 512)) c.shape_in-shape.ensures in
    let since = lost-since given a.members m c.shape_in-shape.result.disks c.unassigned_roles-before.result roles spares before after here.placed did.keeps.moved did.keeps.failed
    (ap (λ (s : Shape). s.disks) c.shape_in-shape.ensures ∙ sym (count-still a.members.newest here.still)) c.unassigned_roles-before.ensures c.newly_unassigned-roles.ensures in
    let put = put-still given tape tape' a.members m here did.keeps.moved a.work.resync shape c.shape_in-shape.ensures c.args.at from synced asked since did.keeps.bank.grows did.stays did.keeps.rise did.safe in
    let written = written-still given tape tape' a.members m here did.keeps.moved a.work.resync shape c.shape_in-shape.ensures c.args.at from synced asked (did.dirty done) did.others (did.put done)
    (λ t list more written. did.good done t list more written bytes) (did.rebuilt done) in
    with-buffers (let fits = was.rows_fit in let more = did.rows in omega (arith, fits, more)) (rw did.buffer was.buffer_fits)
    (ready (entries_of c.args.who end (losses_of roles spares ++ Wrote c.args.at body ∷ [])) was (rows-moved given a.members m did.keeps.moved)
    (wrote-stands g.B.Bank.tells given tape tape' scope a.epoch.first a.epoch.entries.items a.members m a.work (still_left a.work a.members a.ahead) (still_left a.work m a.ahead) c.args.who end roles spares before after c.args.at from c.write_listed-done.result.begun
    was.kept does (begins-going a.epoch.entries.items c.args.who number) (not_254 c.args.who.caller c.requires.caller) c.ops-end-2.ensures.count (left-alike a.work a.ahead roles spares before after did.keeps.moved since) within
    (λ t. let all = seen was.kept was.limited t in let within = c.in_default.ensures.why.0 in omega (arith, all, within)) put written c.requires.whole bytes)
    (plain-wrote was c.args.who end (begins-going a.epoch.entries.items c.args.who number) c.requires.caller c.ops-end-2.ensures.count did.keeps.bank.grows did.keeps.moved since c.args.at from c.in_default.ensures.why.0)
    did.keeps.bank.counts (behind-keeps c.args.who end roles spares (Wrote c.args.at body ∷ []) (alone-keeps c.args.who end (Wrote c.args.at body) (λ n. refl) (λ limit. refl)))
    did.keeps.bank.same (scope-same given a.backup did.keeps.bank.same c.append_after_losses.ensures.uuid c.append_after_losses.ensures.given) c.append_after_losses.ensures.first c.make_room.ensures.items
    (c.append_after_losses.ensures.items ∙ ap (λ (b : List Sector). c.make_room.new.self.items ++ entries_of c.args.who end (losses_of roles spares ++ Wrote c.args.at b ∷ [])) c.in-Ok.ensures)
    (omega (arith, c.append_after_losses.ensures.room, c.in-Ok-make_room.ensures.ok))))

pub returns-clause-answered : goal.returns-clause-answered
returns-clause-answered g c =
    let a = c.still.inside in
    let number : c.args.who.number ≡ next_number c.args.who.caller a.epoch.entries.items = c.requires.next ∙ ap (λ p. next_number c.args.who.caller p.parts.entries) (sym c.still.view_is) in
    let roles = c.newly_unassigned-roles.result in
    let spares = c.write_listed-done.result.spares in
    let end = c.ops-end-2.result in
    let body = sectors_of c.args.from.now in
    rw (← c.still.view_is) (replied (list_length a.members.newest) (AsksWrite c.args.at body) c.args.who a.epoch.entries.items c.append_after_losses.new.epoch.entries.items
    end (losses_of roles spares) (Wrote c.args.at body)
    (c.append_after_losses.ensures.items ∙ ap (λ (l : List Entry). l ++ entries_of c.args.who end (losses_of roles spares ++ Wrote c.args.at c.in-Ok.body ∷ [])) c.make_room.ensures.items
    ∙ ap (λ (b : List Sector). a.epoch.entries.items ++ entries_of c.args.who end (losses_of roles spares ++ Wrote c.args.at b ∷ [])) c.in-Ok.ensures)
    number (λ call. (refl, refl)) (inside-losses c.args.who end (losses_of roles spares) (losses-are roles spares)) (torn-losses (AsksWrite c.args.at body) c.args.who end (losses_of roles spares) (losses-are roles spares)))

pub returns-clause-called : goal.returns-clause-called
returns-clause-called g c =
    let was = (c.still.invariant.rests (ap (λ p. is_reshaping p.parts.members.newest) c.still.view_is ∙ c.requires.still)).1 in
    let here = was.kept.members_are in
    let a = c.still.inside in
    let given = g.B.Bank.given a.bank in
    let did = c.write_listed-done.ensures in
    let m = c.write_listed-done.new.members in
    let before = g.B.Bank.faults_of a.bank in
    let after = g.B.Bank.faults_of c.write_listed-done.new.bank in
    let roles = c.newly_unassigned-roles.result in
    let spares = c.write_listed-done.result.spares in
    let end = c.ops-end-2.result in
    let event = Wrote c.args.at c.in-Ok.body in
    let since = lost-since given a.members m c.shape_in-shape.result.disks c.unassigned_roles-before.result roles spares before after here.placed did.keeps.moved did.keeps.failed
    (ap (λ (s : Shape). s.disks) c.shape_in-shape.ensures ∙ sym (count-still a.members.newest here.still)) c.unassigned_roles-before.ensures c.newly_unassigned-roles.ensures in
    rw (← c.still.view_is) (called did.keeps.bank.grows did.keeps.moved
    (ended-behind (g.B.Bank.tape c.write_listed-done.new.bank) c.append_after_losses.new.epoch.first c.make_room.new.self.items c.args.who end (losses_of roles spares) event c.append_after_losses.ensures.items c.ops-end-2.ensures.count)
    (losses-behind a.members m before after a.epoch.entries.items c.make_room.new.self.items c.append_after_losses.new.epoch.entries.items c.args.who end roles spares event since tt c.make_room.ensures.items c.append_after_losses.ensures.items)
    did.keeps.bank.counts
    (record { uuid = c.append_after_losses.ensures.uuid; given = c.append_after_losses.ensures.given; first = c.append_after_losses.ensures.first; backup = refl; work = refl; ahead = refl; limit = refl })
    (λ t. (was.kept.recorded t).begun))

pub returns-clause-caused : goal.returns-clause-caused
returns-clause-caused g c = rw (← c.still.view_is) c.in_default.ensures.why

pub returns-clause-first : goal.returns-clause-first
returns-clause-first g c = rw (← c.still.view_is) (sym c.in_default.ensures.first)

-- ---- what is handed down, and what is left of it

pub invariant_of-still : goal.invariant_of-still
invariant_of-still g c =
    stays-at-rest (c.still.invariant.rests (ap (λ p. is_reshaping p.parts.members.newest) c.still.view_is ∙ c.requires.still)).0 (roomier (c.still.invariant.rests (ap (λ p. is_reshaping p.parts.members.newest) c.still.view_is ∙ c.requires.still)).1 c.make_room.ensures.items c.make_room.ensures.keeps)

pub returns-in-Err-make_room-clause-answered : goal.returns-in-Err-make_room-clause-answered
returns-in-Err-make_room-clause-answered g c = c.make_room.ensures.items ∙ ap (λ p. p.parts.entries) c.still.view_is

pub returns-in-Err-make_room-clause-unchanged : goal.returns-in-Err-make_room-clause-unchanged
returns-in-Err-make_room-clause-unchanged g c = entries-alike c.make_room.new.self.items c.still.view_is c.make_room.ensures.items

pub returns-in-Err-make_room-clause-called : goal.returns-in-Err-make_room-clause-called
returns-in-Err-make_room-clause-called g c =
    let kept = (alike c.still.invariant).kept in
    rw (← c.still.view_is) (undone-called kept.members_are.placed kept.members_are.unlost (λ t. (kept.recorded t).ended) (λ t. (kept.recorded t).begun) (entries-alike c.make_room.new.self.items refl c.make_room.ensures.items))

pub returns-in-Err-make_room-clause-whole : goal.returns-in-Err-make_room-clause-whole
returns-in-Err-make_room-clause-whole g c = subst (λ p. AreWhole c.still.inside.members → AreWhole p.parts.members) c.still.view_is (λ whole. whole)

pub returns-in-Err-make_room-clause-caused : goal.returns-in-Err-make_room-clause-caused
returns-in-Err-make_room-clause-caused g c = ap (λ p. p.parts.members) c.still.view_is

pub returns-in-Err-make_room-clause-failed : goal.returns-in-Err-make_room-clause-failed
returns-in-Err-make_room-clause-failed g c =
    let a = c.still.inside in
    subst (λ p. HaveRolesFailed p.parts.members a.members (g.B.Bank.faults_of p.parts.bank) (g.B.Bank.faults_of a.bank)) c.still.view_is (λ role slot held. inl held)

pub returns-in-Err-make_room-clause-given : goal.returns-in-Err-make_room-clause-given
returns-in-Err-make_room-clause-given g c = ap (λ p. g.B.Bank.given p.parts.bank) c.still.view_is

pub returns-in-Err-clause-called : goal.returns-in-Err-clause-called
returns-in-Err-clause-called g c =
    let kept = (alike c.still.invariant).kept in
    rw (← c.still.view_is) (undone-called kept.members_are.placed kept.members_are.unlost (λ t. (kept.recorded t).ended) (λ t. (kept.recorded t).begun) refl)

pub check_number-requires : goal.check_number-requires
check_number-requires g c =
    c.requires.next ∙ ap (λ p. next_number c.args.who.caller p.parts.entries) (sym c.still.view_is) ∙ ap (λ (l : List Entry). next_number c.args.who.caller l) (sym c.make_room.ensures.items)

pub unwritten_here-requires-clause-shape : goal.unwritten_here-requires-clause-shape
unwritten_here-requires-clause-shape g c = valid (g.B.Bank.given c.still.inside.bank) c.still.inside.members (alike c.still.invariant).kept.members_are.placed

pub unwritten_here-requires-clause-multiple : goal.unwritten_here-requires-clause-multiple
unwritten_here-requires-clause-multiple g c = multiple (g.B.Bank.given c.still.inside.bank) c.still.inside.members (alike c.still.invariant).kept.members_are.placed

pub unwritten_here-requires-clause-roles : goal.unwritten_here-requires-clause-roles
unwritten_here-requires-clause-roles g c =
    let m = c.still.inside.members in
    shape-known (g.B.Bank.given c.still.inside.bank) m (alike c.still.invariant).kept.members_are.placed (shape_of m.newest) refl

pub unwritten_here-requires-clause-size : goal.unwritten_here-requires-clause-size
unwritten_here-requires-clause-size g c = short (g.B.Bank.given c.still.inside.bank) c.still.inside.members (alike c.still.invariant).kept.members_are.placed

pub unwritten_here-requires-clause-progress : goal.unwritten_here-requires-clause-progress
unwritten_here-requires-clause-progress g c =
    (c.still.invariant.rests (ap (λ p. is_reshaping p.parts.members.newest) c.still.view_is ∙ c.requires.still)).1.kept.progress

pub append_entry-requires-clause-room : goal.append_entry-requires-clause-room
append_entry-requires-clause-room g c = room-1 c.make_room.new.self.room (room-50 51 c.make_room.new.self.room (omega arith) c.in-Ok-make_room.ensures.ok)

pub append_entry-requires-clause-number : goal.append_entry-requires-clause-number
append_entry-requires-clause-number g c = c.check_number.ensures

pub returns-in-Some-clause-whole : goal.returns-in-Some-clause-whole
returns-in-Some-clause-whole g c = subst (λ p. AreWhole c.still.inside.members → AreWhole p.parts.members) c.still.view_is (λ whole. whole)

pub returns-in-Some-clause-failed : goal.returns-in-Some-clause-failed
returns-in-Some-clause-failed g c =
    let a = c.still.inside in
    subst (λ p. HaveRolesFailed p.parts.members a.members (g.B.Bank.faults_of p.parts.bank) (g.B.Bank.faults_of a.bank)) c.still.view_is (λ role slot held. inl held)

pub returns-in-Some-clause-given : goal.returns-in-Some-clause-given
returns-in-Some-clause-given g c = ap (λ p. g.B.Bank.given p.parts.bank) c.still.view_is

pub shape_in-shape-requires : goal.shape_in-shape-requires
shape_in-shape-requires g c = valid (g.B.Bank.given c.still.inside.bank) c.still.inside.members (alike c.still.invariant).kept.members_are.placed

pub unassigned_roles-before-requires-clause-known : goal.unassigned_roles-before-requires-clause-known
unassigned_roles-before-requires-clause-known g c =
    shape-known (g.B.Bank.given c.still.inside.bank) c.still.inside.members (alike c.still.invariant).kept.members_are.placed c.shape_in-shape.result c.shape_in-shape.ensures

pub unassigned_roles-before-requires-clause-few : goal.unassigned_roles-before-requires-clause-few
unassigned_roles-before-requires-clause-few g c =
    shape-few (g.B.Bank.given c.still.inside.bank) c.still.inside.members (alike c.still.invariant).kept.members_are.placed c.shape_in-shape.result c.shape_in-shape.ensures

pub are_synced-synced-requires-clause-shape : goal.are_synced-synced-requires-clause-shape
are_synced-synced-requires-clause-shape g c = c.shape_in-shape.ensures

pub are_synced-synced-requires-clause-valid : goal.are_synced-synced-requires-clause-valid
are_synced-synced-requires-clause-valid g c = valid (g.B.Bank.given c.still.inside.bank) c.still.inside.members (alike c.still.invariant).kept.members_are.placed

pub are_synced-synced-requires-clause-multiple : goal.are_synced-synced-requires-clause-multiple
are_synced-synced-requires-clause-multiple g c = multiple (g.B.Bank.given c.still.inside.bank) c.still.inside.members (alike c.still.invariant).kept.members_are.placed

pub are_synced-synced-requires-clause-size : goal.are_synced-synced-requires-clause-size
are_synced-synced-requires-clause-size g c = short (g.B.Bank.given c.still.inside.bank) c.still.inside.members (alike c.still.invariant).kept.members_are.placed

pub are_synced-synced-requires-clause-progress : goal.are_synced-synced-requires-clause-progress
are_synced-synced-requires-clause-progress g c =
    (c.still.invariant.rests (ap (λ p. is_reshaping p.parts.members.newest) c.still.view_is ∙ c.requires.still)).1.kept.progress

pub write_listed-done-requires-clause-stands : goal.write_listed-done-requires-clause-stands
write_listed-done-requires-clause-stands g c =
    record {
      slots = (alike c.still.invariant).kept.slots;
      placed = (alike c.still.invariant).kept.members_are.placed;
      unlost = (alike c.still.invariant).kept.members_are.unlost;
      free = (alike c.still.invariant).kept.members_are.free;
    }

pub write_listed-done-requires-clause-from : goal.write_listed-done-requires-clause-from
write_listed-done-requires-clause-from g c = c.requires.whole

pub write_listed-done-requires-clause-few : goal.write_listed-done-requires-clause-few
write_listed-done-requires-clause-few g c = c.requires.few

pub write_listed-done-requires-clause-rows : goal.write_listed-done-requires-clause-rows
write_listed-done-requires-clause-rows g c = (alike c.still.invariant).rows_fit

pub write_listed-done-requires-clause-buffer : goal.write_listed-done-requires-clause-buffer
write_listed-done-requires-clause-buffer g c = (alike c.still.invariant).buffer_fits

pub newly_unassigned-roles-requires-clause-known : goal.newly_unassigned-roles-requires-clause-known
newly_unassigned-roles-requires-clause-known g c =
    let moved = c.write_listed-done.ensures.keeps.moved in
    shape-known (g.B.Bank.given c.still.inside.bank) c.write_listed-done.new.members moved.placed c.shape_in-shape.result (c.shape_in-shape.ensures ∙ sym moved.shape)

pub newly_unassigned-roles-requires-clause-few : goal.newly_unassigned-roles-requires-clause-few
newly_unassigned-roles-requires-clause-few g c =
    shape-few (g.B.Bank.given c.still.inside.bank) c.still.inside.members (alike c.still.invariant).kept.members_are.placed c.shape_in-shape.result c.shape_in-shape.ensures

pub append_failure-requires-clause-room : goal.append_failure-requires-clause-room
append_failure-requires-clause-room g c = room-50 51 c.make_room.new.self.room (omega arith) c.in-Ok-make_room.ensures.ok

pub append_failure-requires-clause-number : goal.append_failure-requires-clause-number
append_failure-requires-clause-number g c = c.check_number.ensures

pub returns-in-Some-refusal-clause-given : goal.returns-in-Some-refusal-clause-given
returns-in-Some-refusal-clause-given g c = c.write_listed-done.ensures.keeps.bank.same ∙ ap (λ p. g.B.Bank.given p.parts.bank) c.still.view_is

pub append_after_losses-requires-clause-room : goal.append_after_losses-requires-clause-room
append_after_losses-requires-clause-room g c = room-49 c.make_room.new.self.room (room-50 51 c.make_room.new.self.room (omega arith) c.in-Ok-make_room.ensures.ok)

pub append_after_losses-requires-clause-number : goal.append_after_losses-requires-clause-number
append_after_losses-requires-clause-number g c = c.check_number.ensures

pub returns-clause-dirty : goal.returns-clause-dirty
returns-clause-dirty g c = c.write_listed-done.ensures.dirty c.in_default-refusal.is

pub returns-clause-given : goal.returns-clause-given
returns-clause-given g c = c.write_listed-done.ensures.keeps.bank.same ∙ ap (λ p. g.B.Bank.given p.parts.bank) c.still.view_is

pub returns-in-Some-clause-caused : goal.returns-in-Some-clause-caused
returns-in-Some-clause-caused g c =
    let to = c.args.at + length c.args.from.now / 512 in
    let m = c.still.inside.members in
    subst (λ p. IsRefusedFor (visible_in p) to (IsUnwritten (shape_of p.parts.members.newest) (are_synced (shape_of p.parts.members.newest) (synced_rows p.parts.work.resync p.parts.members) to)) p.parts.members m c.in-Some.refusal)
    c.still.view_is c.in-Some.ensures.why

pub returns-in-Some-clause-first : goal.returns-in-Some-clause-first
returns-in-Some-clause-first g c =
    let to = c.args.at + length c.args.from.now / 512 in
    let m = c.still.inside.members in
    subst (λ p. call_refusal (visible_in p) to (write_refusal (shape_of p.parts.members.newest) (are_synced (shape_of p.parts.members.newest) (synced_rows p.parts.work.resync p.parts.members) to) m) ≡ Some c.in-Some.refusal)
    c.still.view_is (sym c.in-Some.ensures.first)

pub returns-in-Some-refusal-clause-failed : goal.returns-in-Some-refusal-clause-failed
returns-in-Some-refusal-clause-failed g c =
    subst (λ p. HaveRolesFailed p.parts.members c.write_listed-done.new.members (g.B.Bank.faults_of p.parts.bank) (g.B.Bank.faults_of c.write_listed-done.new.bank)) c.still.view_is c.write_listed-done.ensures.keeps.failed.roles

pub returns-in-Some-refusal-clause-whole : goal.returns-in-Some-refusal-clause-whole
returns-in-Some-refusal-clause-whole g c =
    subst (λ p. AreWhole c.write_listed-done.new.members → AreWhole p.parts.members) c.still.view_is c.write_listed-done.ensures.keeps.moved.whole

pub returns-clause-failed : goal.returns-clause-failed
returns-clause-failed g c =
    subst (λ p. HaveRolesFailed p.parts.members c.write_listed-done.new.members (g.B.Bank.faults_of p.parts.bank) (g.B.Bank.faults_of c.write_listed-done.new.bank)) c.still.view_is c.write_listed-done.ensures.keeps.failed.roles

pub returns-clause-whole : goal.returns-clause-whole
returns-clause-whole g c =
    subst (λ p. AreWhole c.write_listed-done.new.members → AreWhole p.parts.members) c.still.view_is c.write_listed-done.ensures.keeps.moved.whole

pub returns-in-Some-clause-untouched : goal.returns-in-Some-clause-untouched
returns-in-Some-clause-untouched g c =
    λ none.
    let a = c.still.inside in
    subst (λ p. g.B.Bank.tells → AreOthersPresent (present (g.B.Bank.given p.parts.bank) (g.B.Bank.tape p.parts.bank)) (present (g.B.Bank.given p.parts.bank) (g.B.Bank.tape a.bank))) c.still.view_is (λ t s k apart. refl)

pub returns-in-Some-clause-still : goal.returns-in-Some-clause-still
returns-in-Some-clause-still g c = (ap (λ p. is_reshaping p.parts.members.newest) c.still.view_is ∙ c.requires.still)

pub returns-in-Some-refusal-clause-still : goal.returns-in-Some-refusal-clause-still
returns-in-Some-refusal-clause-still g c = c.write_listed-done.ensures.keeps.moved.reshape.reshaping ∙ (ap (λ p. is_reshaping p.parts.members.newest) c.still.view_is ∙ c.requires.still)

pub returns-clause-still : goal.returns-clause-still
returns-clause-still g c = c.write_listed-done.ensures.keeps.moved.reshape.reshaping ∙ (ap (λ p. is_reshaping p.parts.members.newest) c.still.view_is ∙ c.requires.still)

pub returns-in-Err-make_room-clause-still : goal.returns-in-Err-make_room-clause-still
returns-in-Err-make_room-clause-still g c = (ap (λ p. is_reshaping p.parts.members.newest) c.still.view_is ∙ c.requires.still)

pub returns-in-Err-clause-still : goal.returns-in-Err-clause-still
returns-in-Err-clause-still g c = c.requires.still
