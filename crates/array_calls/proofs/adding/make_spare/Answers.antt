use Rattle.std.proofs.Common.{◌≡◌, inl, inr, ◌+◌, ◌<◌, ◌≤◌, ◌==◌, ℕ, true, false, List, [], ◌∷◌, ◌++◌, Some, refl, sym, ◌∙◌, ap, subst, arith, ◌⊎◌, le_of_eq}
use Rattle.std.specs.Prelude.{IfSome}
use Rattle.array_type.specs.raid_types_the_Refusal.{Refusal}
use Rattle.array_type.specs.raid_types_the_Refusal_TheVariants.{SlotFault}
use Rattle.array_type.specs.raid_types_Shapes.{has_slot}
use Rattle.array_type.specs.bank_Given.{Given}
use Rattle.array_type.specs.sb_specs_Reading.{list_length, is_clean}
use Rattle.array_type.specs.history_the_Entry.{Entry}
use Rattle.array_type.specs.history_the_Event_TheVariants.{Refused, Added}
use Rattle.array_type.specs.history_Flat.{next_number}
use Rattle.array_type.specs.history_Plain.{entries_of}
use Rattle.array_type.specs.array_members_Lacking.{AreUnnamed}
use Rattle.array_type.specs.array_members_Numbers.{bears, bearing, free_number}
use Rattle.array_type.specs.array_members_Placed.{IsPlaced, AreStillHeld, AreWhole}
use Rattle.array_type.specs.array_members_Rebuilding.{AreSparesFree, with_spare}
use Rattle.array_type.proofs.history_append_BearerLaws.{bears-more}
use Rattle.array_type.proofs.array_members_Flushed.{contents-added}
use Rattle.array_type.proofs.array_members_LiveLeft.{without-left}
use Rattle.array_type.proofs.array_members_MovedLaws.{grows-then, moved-same}
use Rattle.array_type.specs.history_append_Losing.{losses_of}
use Rattle.array_type.proofs.history_append_CallLaws.{losses-are}
use Rattle.array_type.specs.array_call_specs_Kept.{scope_in}
use Rattle.array_type.specs.array_call_specs_Calls.{IsFirstOffset, IsUnaddable, IsWorkAdded}
use Rattle.array_type.proofs.array_call_specs_LossLaws.{losses-behind, ended-behind}
use Rattle.array_type.proofs.array_call_specs_ReadyLaws.{scope-same}
use Rattle.array_type.proofs.array_call_laws_AddLaws.{slot-there, slot-free, slot-does, slot-unspare, slot-fits, slot-room, slot-of-scope, is-free, second-half, stored-as, added_reply, faulted_reply}
use Rattle.array_type.proofs.array_call_laws_AddedKept.{AddsSafe}
use Rattle.array_type.proofs.array_call_laws_AddedNumbers.{work-kept, work-added, bears-free, told-anew}
use Rattle.array_type.proofs.array_call_laws_AddedLosses.{add-done, others-lost, since-added, spares-added, free-added}
use Rattle.array_type.specs.array_fixed_invariant_Still.{IsStill}
use Rattle.array_type.specs.array_specs_Parts.{still_left, left_in}
use Rattle.array_type.proofs.array_specs_Called.{alone-lossless, not_254, called}
use Rattle.array_type.proofs.array_specs_Lengths.{alone-keeps, behind-keeps}
use Rattle.array_type.proofs.array_fixed_laws_Kept.{ready, rows-same, rows-moved, roomier}
use Rattle.array_type.proofs.array_fixed_laws_StepLaws.{shapes-same, shapes-moved, stepped}
use Rattle.array_type.proofs.array_fixed_laws_AddLaws.{looked-refused}
use Rattle.array_type.proofs.history_invariant_Records.{begins-going}
use Rattle.array_type.proofs.array_fixed_laws_PlainBehind.{refused-plain}
use Rattle.array_type.proofs.array_fixed_laws_PlainAdds.{added-plain, unadded-plain}
use Rattle.array_type.specs.sb_specs_Reads.{has_spare}
use Rattle.array_type.proofs.Rested.{room-1, room-49}
use Rattle.array_type.specs.crash_safety_laws_Marking.{AreOthersPresent}
use Rattle.array_type.specs.stripe_row_Rows.{present}
use Rattle.array_type.proofs.Asked.{entries-alike, undone-stepped}
use Rattle.array_type.specs.bank_Tape.{disk}
use Rattle.array_type.proofs.sb_specs_ValidFields.{few-roles}
use Rattle.array_type.specs.array_members_Under.{IsRestKept}
use Rattle.array_type.specs.array_reshaping_invariant_Moving.{IsMoving}
use Rattle.array_type.proofs.array_reshaping_invariant_AddedSpare.{looked-moves, added-moves, added-lost-moves, moves-anew}
use Rattle.array_type.specs.array_reshaping_laws_Ready.{bytes_in}
use Rattle.array_type.proofs.array_reshaping_laws_AddLaws.{looked-grows, spare-made, still-called, none-added, add-called}
use Rattle.array_type.proofs.array_reshaping_laws_Kept.{ready as r-ready, ready-with, shapes-same as r-shapes-same, shapes-moved as r-shapes-moved, left-moved, behind-keeps as r-behind-keeps, behind-whole, live-of, roomier as r-roomier}
use Rattle.array_type.proofs.StepLaws.{roles-moved}
use Rattle.array_calls.proofs.Backed.{apart-of}
use Rattle.array_type.proofs.Rest.{on-both}
use Rattle.array_type.proofs.Alike.{alike, goes-on, stays-at-rest}
use Rattle.array_type.specs.sb_specs_Reading.{is_reshaping}
use Rattle.array_type.proofs.array_fixed_laws_AddLaws as law
use Rattle.array_calls.proofs.adding.make_spare.Goals as goal

pub look_at-requires-clause-slot : goal.look_at-requires-clause-slot
look_at-requires-clause-slot g c =
    let addable = subst (λ v. (refusal : Refusal) → IsUnaddable (g.B.Bank.given v.parts.bank) v.parts.backup c.args.slot v.parts.members refusal → ⊥) (sym c.array.view_is) c.requires.addable in
    slot-there (g.B.Bank.given c.array.inside.bank) c.array.inside.backup c.args.slot c.array.inside.members (alike c.array.invariant).kept.members_are.placed addable

pub look_at-requires-clause-room : goal.look_at-requires-clause-room
look_at-requires-clause-room g c =
    let addable = subst (λ v. (refusal : Refusal) → IsUnaddable (g.B.Bank.given v.parts.bank) v.parts.backup c.args.slot v.parts.members refusal → ⊥) (sym c.array.view_is) c.requires.addable in
    slot-room (g.B.Bank.given c.array.inside.bank) c.array.inside.backup c.args.slot c.array.inside.members (alike c.array.invariant).kept.members_are.placed addable

-- ---- where it fails at the first look

pub invariant_of-array-in_default : goal.invariant_of-array-in_default
invariant_of-array-in_default g c =
    on-both (is_reshaping c.array.inside.members.newest)
    (λ active. goes-on (c.array.invariant.moves active).0 (
    let addable = subst (λ p. (refusal : Refusal) → IsUnaddable (g.B.Bank.given p.parts.bank) p.parts.backup c.args.slot p.parts.members refusal → ⊥) (sym c.array.view_is) c.requires.addable in
    let was = (c.array.invariant.moves active).1 in
    let a = c.array.inside in
    let given = g.B.Bank.given a.bank in
    let number : c.args.who.number ≡ next_number c.args.who.caller a.epoch.entries.items = c.requires.next ∙ ap (λ p. next_number c.args.who.caller p.parts.entries) (sym c.array.view_is) in
    let look = c.look_at.ensures in
    let end = c.ops-end.result in
    r-ready (entries_of c.args.who end (Refused (SlotFault c.args.slot) ∷ [])) was (looked-grows look.tape) (r-shapes-same a.members.newest)
    (looked-moves g.B.Bank.tells given (g.B.Bank.tape a.bank) (g.B.Bank.tape c.look_at.new.bank) (scope_in given a.epoch.uuid a.epoch.given a.backup) a.epoch.first a.epoch.entries.items a.members (bears a.work) a.work.resync
    a.course (bytes_in a.course.window a.window.items) (left_in a.work a.members a.course a.ahead) c.args.who end c.args.slot
    was.kept (live-of was.kept (slot-does given a.backup c.args.slot a.members was.kept.members_are.placed addable)) (begins-going a.epoch.entries.items c.args.who number) (not_254 c.args.who.caller c.requires.caller) c.ops-end.ensures.count look.tape)
    refl look.counts (alone-keeps c.args.who end (Refused (SlotFault c.args.slot)) (λ n. refl) (λ limit. refl)) (λ none whole. whole) look.given (scope-same given a.backup look.given c.append_entry.ensures.uuid c.append_entry.ensures.given) c.append_entry.ensures.first c.make_room.ensures.items c.append_entry.ensures.items
    (omega (arith, c.append_entry.ensures.room, c.in-Ok.ensures.ok))))
    (λ still. stays-at-rest (c.array.invariant.rests still).0 (
    let addable = subst (λ v. (refusal : Refusal) → IsUnaddable (g.B.Bank.given v.parts.bank) v.parts.backup c.args.slot v.parts.members refusal → ⊥) (sym c.array.view_is) c.requires.addable in
    let number : c.args.who.number ≡ next_number c.args.who.caller c.array.inside.epoch.entries.items = c.requires.next ∙ ap (λ p. next_number c.args.who.caller p.parts.entries) (sym c.array.view_is) in
    let was = (c.array.invariant.rests still).1 in
    let here = was.kept.members_are in
    let a = c.array.inside in
    let given = g.B.Bank.given a.bank in
    let end = c.ops-end.result in
    let did = c.look_at.ensures in
    ready (entries_of c.args.who end (Refused (SlotFault c.args.slot) ∷ [])) was (rows-same a.members.newest)
    (looked-refused c.args.who end c.args.slot was.kept (without-left given a.members here.placed here.unlost (slot-does given a.backup c.args.slot a.members here.placed addable)) number c.requires.caller c.ops-end.ensures.count did.tape)
    (refused-plain was c.args.who end (begins-going a.epoch.entries.items c.args.who number) c.requires.caller c.ops-end.ensures.count (record { more = λ t. ((did.tape t).0, (did.tape t).2) }) (SlotFault c.args.slot) (λ t p. tt) tt)
    did.counts (alone-keeps c.args.who end (Refused (SlotFault c.args.slot)) (λ n. refl) (λ limit. refl))
    did.given (scope-same given a.backup did.given c.append_entry.ensures.uuid c.append_entry.ensures.given) c.append_entry.ensures.first c.make_room.ensures.items c.append_entry.ensures.items
    (omega (arith, c.append_entry.ensures.room, c.in-Ok.ensures.ok))))

pub returns-in_default-clause-answered : goal.returns-in_default-clause-answered
returns-in_default-clause-answered g c =
    faulted_reply (list_length c.args.array.now.parts.members.newest) c.args.who c.args.array.now.parts.entries c.append_entry.new.epoch.entries.items c.ops-end.result c.args.slot [] tt
    (c.append_entry.ensures.items ∙ ap (λ (l : List Entry). l ++ entries_of c.args.who c.ops-end.result (Refused (SlotFault c.args.slot) ∷ [])) (c.make_room.ensures.items ∙ ap (λ p. p.parts.entries) c.array.view_is))
    c.requires.next

pub returns-in_default-clause-caused : goal.returns-in_default-clause-caused
returns-in_default-clause-caused g c =
    let addable = subst (λ v. (refusal : Refusal) → IsUnaddable (g.B.Bank.given v.parts.bank) v.parts.backup c.args.slot v.parts.members refusal → ⊥) (sym c.array.view_is) c.requires.addable in
    rw (← c.array.view_is) (refl, addable, c.in_default.ensures.failed, slot-unspare (g.B.Bank.given c.array.inside.bank) c.array.inside.backup c.args.slot c.array.inside.members (alike c.array.invariant).kept.members_are.placed addable)

pub returns-in_default-clause-stepped : goal.returns-in_default-clause-stepped
returns-in_default-clause-stepped g c =
    let was = (alike c.array.invariant) in
    let here = was.kept.members_are in
    let a = c.array.inside in
    let given = g.B.Bank.given a.bank in
    let did = c.look_at.ensures in
    let looked = did.tape in
    rw (← c.array.view_is) (stepped (record { more = λ t. ((looked t).0, (looked t).2) }) (shapes-same a.members.newest)
    (ended-behind (g.B.Bank.tape c.look_at.new.bank) c.append_entry.new.epoch.first c.make_room.new.self.items c.args.who c.ops-end.result [] (Refused (SlotFault c.args.slot)) c.append_entry.ensures.items c.ops-end.ensures.count)
    (λ role slot held. inl held)
    (alone-lossless a.members (g.B.Bank.faults_of a.bank) (g.B.Bank.faults_of c.look_at.new.bank) a.epoch.entries.items c.make_room.new.self.items c.append_entry.new.epoch.entries.items c.args.who c.ops-end.result
    (Refused (SlotFault c.args.slot)) tt c.make_room.ensures.items c.append_entry.ensures.items)
    did.counts
    (record { uuid = c.append_entry.ensures.uuid; given = c.append_entry.ensures.given; first = c.append_entry.ensures.first; backup = refl; ahead = refl; limit = refl })
    (λ t. (was.kept.recorded t).begun))

-- ---- what the update needs

pub spare_for-sb-requires-clause-placed : goal.spare_for-sb-requires-clause-placed
spare_for-sb-requires-clause-placed g c =
    subst (λ (b : Given). IsPlaced b c.array.inside.members) (sym c.look_at.ensures.given) (alike c.array.invariant).kept.members_are.placed

pub spare_for-sb-requires-clause-slot : goal.spare_for-sb-requires-clause-slot
spare_for-sb-requires-clause-slot g c =
    let addable = subst (λ v. (refusal : Refusal) → IsUnaddable (g.B.Bank.given v.parts.bank) v.parts.backup c.args.slot v.parts.members refusal → ⊥) (sym c.array.view_is) c.requires.addable in
    rw (c.look_at.ensures.given) (slot-there (g.B.Bank.given c.array.inside.bank) c.array.inside.backup c.args.slot c.array.inside.members (alike c.array.invariant).kept.members_are.placed addable)

pub spare_for-sb-requires-clause-does : goal.spare_for-sb-requires-clause-does
spare_for-sb-requires-clause-does g c =
    let addable = subst (λ v. (refusal : Refusal) → IsUnaddable (g.B.Bank.given v.parts.bank) v.parts.backup c.args.slot v.parts.members refusal → ⊥) (sym c.array.view_is) c.requires.addable in
    slot-does (g.B.Bank.given c.array.inside.bank) c.array.inside.backup c.args.slot c.array.inside.members (alike c.array.invariant).kept.members_are.placed addable

pub spare_for-sb-requires-clause-fits : goal.spare_for-sb-requires-clause-fits
spare_for-sb-requires-clause-fits g c =
    let addable = subst (λ v. (refusal : Refusal) → IsUnaddable (g.B.Bank.given v.parts.bank) v.parts.backup c.args.slot v.parts.members refusal → ⊥) (sym c.array.view_is) c.requires.addable in
    subst (λ (b : Given). (offset : ℕ) → IsFirstOffset c.array.inside.members offset → offset + c.array.inside.members.newest.size ≤ b.sectors c.args.slot) (sym c.look_at.ensures.given)
    (slot-fits (g.B.Bank.given c.array.inside.bank) c.array.inside.backup c.args.slot c.array.inside.members (alike c.array.invariant).kept.members_are.placed addable)

pub spare_for-sb-requires-clause-few : goal.spare_for-sb-requires-clause-few
spare_for-sb-requires-clause-few g c =
    let a = c.array.inside in
    let known : free_number a.members.newest a.work ≡ Some c.args.number = subst (λ v. free_number v.parts.members.newest v.parts.work ≡ Some c.args.number) (sym c.array.view_is) c.requires.number in
    let free = is-free a.members.newest a.work c.args.number known in
    free.0

pub spare_for-sb-requires-clause-free : goal.spare_for-sb-requires-clause-free
spare_for-sb-requires-clause-free g c =
    let a = c.array.inside in
    let known : free_number a.members.newest a.work ≡ Some c.args.number = subst (λ v. free_number v.parts.members.newest v.parts.work ≡ Some c.args.number) (sym c.array.view_is) c.requires.number in
    let free = is-free a.members.newest a.work c.args.number known in
    free.2

pub add_member-lost-requires-clause-stands : goal.add_member-lost-requires-clause-stands
add_member-lost-requires-clause-stands g c =
    record {
      slots = subst (λ (b : Given). b.slots ≤ 32) (sym c.look_at.ensures.given) (alike c.array.invariant).kept.slots;
      placed = subst (λ (b : Given). IsPlaced b c.array.inside.members) (sym c.look_at.ensures.given) (alike c.array.invariant).kept.members_are.placed;
      unlost = (alike c.array.invariant).kept.members_are.unlost;
      free = subst (λ (b : Given). AreSparesFree b c.array.inside.members) (sym c.look_at.ensures.given) (alike c.array.invariant).kept.members_are.free;
    }

pub add_member-lost-requires-clause-slot : goal.add_member-lost-requires-clause-slot
add_member-lost-requires-clause-slot g c =
    let addable = subst (λ v. (refusal : Refusal) → IsUnaddable (g.B.Bank.given v.parts.bank) v.parts.backup c.args.slot v.parts.members refusal → ⊥) (sym c.array.view_is) c.requires.addable in
    rw (c.look_at.ensures.given) (slot-there (g.B.Bank.given c.array.inside.bank) c.array.inside.backup c.args.slot c.array.inside.members (alike c.array.invariant).kept.members_are.placed addable)

pub add_member-lost-requires-clause-untaken : goal.add_member-lost-requires-clause-untaken
add_member-lost-requires-clause-untaken g c =
    let addable = subst (λ v. (refusal : Refusal) → IsUnaddable (g.B.Bank.given v.parts.bank) v.parts.backup c.args.slot v.parts.members refusal → ⊥) (sym c.array.view_is) c.requires.addable in
    λ role may. slot-free (g.B.Bank.given c.array.inside.bank) c.array.inside.backup c.args.slot c.array.inside.members (alike c.array.invariant).kept.members_are.placed addable (inr (role, may))

-- a slot that was lost didn't fail: then nothing that is missing is named

pub add_member-lost-requires-clause-fresh : goal.add_member-lost-requires-clause-fresh
add_member-lost-requires-clause-fresh g c =
    λ lost.
    subst (λ v. has_slot v.parts.members.lost c.args.slot ≡ true → g.B.Bank.faults_of v.parts.bank c.args.slot ≡ 0 → AreUnnamed v.parts.members) (sym c.array.view_is) c.requires.fresh lost c.in-Some.ensures.sound

pub with-requires : goal.with-requires
with-requires g c =
    let addable = subst (λ v. (refusal : Refusal) → IsUnaddable (g.B.Bank.given v.parts.bank) v.parts.backup c.args.slot v.parts.members refusal → ⊥) (sym c.array.view_is) c.requires.addable in
    let few = (alike c.array.invariant).kept.slots in
    let lt = slot-there (g.B.Bank.given c.array.inside.bank) c.array.inside.backup c.args.slot c.array.inside.members (alike c.array.invariant).kept.members_are.placed addable in
    omega (arith, few, lt)

pub contains-requires : goal.contains-requires
contains-requires g c =
    let addable = subst (λ v. (refusal : Refusal) → IsUnaddable (g.B.Bank.given v.parts.bank) v.parts.backup c.args.slot v.parts.members refusal → ⊥) (sym c.array.view_is) c.requires.addable in
    let few = (alike c.array.invariant).kept.slots in
    let lt = slot-there (g.B.Bank.given c.array.inside.bank) c.array.inside.backup c.args.slot c.array.inside.members (alike c.array.invariant).kept.members_are.placed addable in
    omega (arith, few, lt)

pub bear-requires : goal.bear-requires
bear-requires g c =
    let addable = subst (λ v. (refusal : Refusal) → IsUnaddable (g.B.Bank.given v.parts.bank) v.parts.backup c.args.slot v.parts.members refusal → ⊥) (sym c.array.view_is) c.requires.addable in
    let few = (alike c.array.invariant).kept.slots in
    let lt = slot-there (g.B.Bank.given c.array.inside.bank) c.array.inside.backup c.args.slot c.array.inside.members (alike c.array.invariant).kept.members_are.placed addable in
    omega (arith, few, lt)

pub bear-requires-2 : goal.bear-requires-2
bear-requires-2 g c =
    let addable = subst (λ v. (refusal : Refusal) → IsUnaddable (g.B.Bank.given v.parts.bank) v.parts.backup c.args.slot v.parts.members refusal → ⊥) (sym c.array.view_is) c.requires.addable in
    let few = (alike c.array.invariant).kept.slots in
    let lt = slot-there (g.B.Bank.given c.array.inside.bank) c.array.inside.backup c.args.slot c.array.inside.members (alike c.array.invariant).kept.members_are.placed addable in
    omega (arith, few, lt)

-- ---- where it was lost in the update

pub invariant_of-array-then-contains : goal.invariant_of-array-then-contains
invariant_of-array-then-contains g c =
    on-both (is_reshaping c.array.inside.members.newest)
    (λ active. goes-on (c.array.invariant.moves active).0 (
    let addable = subst (λ p. (refusal : Refusal) → IsUnaddable (g.B.Bank.given p.parts.bank) p.parts.backup c.args.slot p.parts.members refusal → ⊥) (sym c.array.view_is) c.requires.addable in
    let was = (c.array.invariant.moves active).1 in
    let a = c.array.inside in
    let given = g.B.Bank.given a.bank in
    let number : c.args.who.number ≡ next_number c.args.who.caller a.epoch.entries.items = c.requires.next ∙ ap (λ p. next_number c.args.who.caller p.parts.entries) (sym c.array.view_is) in
    let here = was.kept.members_are in
    let slot = c.args.slot in
    let there = slot-there given a.backup slot a.members here.placed addable in
    let e = c.add_member-lost.ensures in
    let look = c.look_at.ensures in
    let did = add-done look.given was.kept.slots here.placed here.unlost here.free there (λ role may. slot-free given a.backup slot a.members here.placed addable (inr (role, may))) look.counts
    c.spare_for-sb.ensures.made e.own e.keeps.moved e.keeps.failed e.lost e.keeps.bank.grows e.others e.clean e.keeps.rise e.keeps.bank.counts in
    let m = c.add_member-lost.new.members in
    let roles = c.newly_unassigned-roles.result in
    let spares = c.without-spares.result in
    let since = since-added did c.len-count.result c.unassigned_roles-before.result roles spares (c.len-count.ensures ∙ here.placed.roles) c.unassigned_roles-before.ensures c.newly_unassigned-roles.ensures
    (others-lost slot c.add_member-lost.result c.with.result spares c.with.ensures c.without-spares.ensures (omega (arith, c.without-spares.type_inv))) in
    let first = subst (λ p. free_number p.parts.members.newest p.parts.work ≡ Some c.args.number) (sym c.array.view_is) c.requires.number in
    let free = is-free a.members.newest a.work c.args.number first in
    let sb = c.spare_for-sb.result in
    let scope = scope_in given a.epoch.uuid a.epoch.given a.backup in
    let work = bearing false slot c.args.number a.work in
    let tape = g.B.Bank.tape a.bank in
    let mid = g.B.Bank.tape c.look_at.new.bank in
    let tape' = g.B.Bank.tape c.add_member-lost.new.bank in
    let end = c.ops-end-2.result in
    let made = spare-made scope a.work c.args.number roles spares did (apart-of a.backup (c.array.invariant.moves active).0 given slot a.members here.placed addable) (slot-does given a.backup slot a.members here.placed addable)
    (slot-of-scope given a.backup slot a.members here.placed addable a.epoch.uuid a.epoch.given sb (g.B.Bank.faults_of a.bank) was.failed c.in-Some.ensures.sound c.spare_for-sb.ensures.uuid)
    c.spare_for-sb.ensures.number free.1 look.tape (λ t sector may. second-half sb c.in-Some.second sector c.spare_for-sb.ensures.second (c.in-Some.ensures.second t sector may))
    (subst (λ (b : Given). g.B.Bank.tells → IsRestKept (with_spare slot sb a.members) (disk b.start mid) (disk b.start tape')) look.given e.rest)
    (subst (λ (b : Given). AddsSafe g.B.Bank.tells b slot sb a.members m mid tape') look.given e.safe) since in
    let given_is = e.keeps.bank.same ∙ look.given in
    let events = losses_of roles spares ++ Refused (SlotFault slot) ∷ [] in
    rw (c.bear.ensures) (ready-with (entries_of c.args.who end events) was (grows-then (looked-grows look.tape) did.grows) (r-shapes-moved given (with_spare slot sb a.members) m did.moved)
    (subst (λ (n : ℕ). IsMoving g.B.Bank.tells given tape' scope a.epoch.first (a.epoch.entries.items ++ entries_of c.args.who end events) m (bears work) a.work.resync a.course (bytes_in a.course.window a.window.items) n)
    (sym (left-moved given (with_spare slot sb a.members) m a.work.resync a.course a.ahead did.moved))
    (added-lost-moves g.B.Bank.tells given tape mid tape' scope a.epoch.first a.epoch.entries.items a.members m (bears a.work) (bears work) a.work.resync a.course (bytes_in a.course.window a.window.items)
    (left_in a.work a.members a.course a.ahead) c.args.who end slot sb roles spares was.kept (begins-going a.epoch.entries.items c.args.who number) (not_254 c.args.who.caller c.requires.caller) c.ops-end-2.ensures.count made))
    refl did.counts (r-behind-keeps c.args.who end roles spares (Refused (SlotFault slot)) (λ n. refl) (λ limit. refl))
    (behind-whole tape' scope a.epoch.first a.epoch.entries.items c.args.who end roles spares (Refused (SlotFault slot)) did.moved made.since) given_is (scope-same given a.backup given_is c.append_after_losses.ensures.uuid c.append_after_losses.ensures.given) c.append_after_losses.ensures.first c.make_room.ensures.items c.append_after_losses.ensures.items
    (omega (arith, c.append_after_losses.ensures.room, c.in-Ok.ensures.ok)))))
    (λ still. stays-at-rest (c.array.invariant.rests still).0 (
    let addable = subst (λ v. (refusal : Refusal) → IsUnaddable (g.B.Bank.given v.parts.bank) v.parts.backup c.args.slot v.parts.members refusal → ⊥) (sym c.array.view_is) c.requires.addable in
    let number : c.args.who.number ≡ next_number c.args.who.caller c.array.inside.epoch.entries.items = c.requires.next ∙ ap (λ p. next_number c.args.who.caller p.parts.entries) (sym c.array.view_is) in
    let was = (c.array.invariant.rests still).1 in
    let here = was.kept.members_are in
    let a = c.array.inside in
    let given = g.B.Bank.given a.bank in
    let known : free_number a.members.newest a.work ≡ Some c.args.number = subst (λ v. free_number v.parts.members.newest v.parts.work ≡ Some c.args.number) (sym c.array.view_is) c.requires.number in
    let free = is-free a.members.newest a.work c.args.number known in
    let e = c.add_member-lost.ensures in
    let look = c.look_at.ensures in
    let did = add-done look.given was.kept.slots here.placed here.unlost here.free (slot-there given a.backup c.args.slot a.members here.placed addable)
    (λ role may. slot-free given a.backup c.args.slot a.members here.placed addable (inr (role, may))) look.counts c.spare_for-sb.ensures.made e.own e.keeps.moved e.keeps.failed e.lost e.keeps.bank.grows e.others e.clean e.keeps.rise e.keeps.bank.counts in
    let since = since-added did c.len-count.result c.unassigned_roles-before.result c.newly_unassigned-roles.result c.without-spares.result (c.len-count.ensures ∙ here.placed.roles)
    c.unassigned_roles-before.ensures c.newly_unassigned-roles.ensures
    (others-lost c.args.slot c.add_member-lost.result c.with.result c.without-spares.result c.with.ensures c.without-spares.ensures (omega (arith, c.without-spares.type_inv))) in
    let roles = c.newly_unassigned-roles.result in
    let spares = c.without-spares.result in
    let end = c.ops-end-2.result in
    let m = c.add_member-lost.new.members in
    let sb = c.spare_for-sb.result in
    let tape = g.B.Bank.tape c.look_at.new.bank in
    let tape' = g.B.Bank.tape c.add_member-lost.new.bank in
    let given_is = e.keeps.bank.same ∙ look.given in
    let safe = subst (λ (b : Given). AddsSafe g.B.Bank.tells b c.args.slot sb a.members m tape tape') look.given e.safe in
    let kept = subst (λ (n : ℕ). IsStill g.B.Bank.tells given tape' (scope_in given a.epoch.uuid a.epoch.given a.backup) a.epoch.first (a.epoch.entries.items ++ entries_of c.args.who end (losses_of roles spares ++ Refused (SlotFault c.args.slot) ∷ []))
    m (bearing false c.args.slot n a.work) (still_left (bearing false c.args.slot n a.work) m a.ahead)) c.spare_for-sb.ensures.number
    (law.add-lost a.ahead c.args.who end roles spares was.kept (without-left given a.members here.placed here.unlost (slot-does given a.backup c.args.slot a.members here.placed addable)) number c.requires.caller c.ops-end-2.ensures.count
    look.tape did since
    (slot-of-scope given a.backup c.args.slot a.members here.placed addable a.epoch.uuid a.epoch.given sb (g.B.Bank.faults_of a.bank) was.failed c.in-Some.ensures.sound c.spare_for-sb.ensures.uuid)
    (λ s. ap (bears a.work s) c.spare_for-sb.ensures.number ∙ free.1 s)
    (λ t sector may. second-half sb c.in-Some.second sector c.spare_for-sb.ensures.second (c.in-Some.ensures.second t sector may)) safe (e.lost (sym c.contains.ensures ∙ c.if-contains.true))) in
    rw (c.bear.ensures) (ready (entries_of c.args.who end (losses_of roles spares ++ Refused (SlotFault c.args.slot) ∷ [])) was (rows-moved given (with_spare c.args.slot sb a.members) m did.moved) kept
    (unadded-plain was c.args.who end (begins-going a.epoch.entries.items c.args.who number) c.requires.caller c.ops-end-2.ensures.count look.tape did since (e.lost (sym c.contains.ensures ∙ c.if-contains.true)))
    did.counts (behind-keeps c.args.who end roles spares (Refused (SlotFault c.args.slot) ∷ []) (alone-keeps c.args.who end (Refused (SlotFault c.args.slot)) (λ n. refl) (λ limit. refl)))
    given_is (scope-same given a.backup given_is c.append_after_losses.ensures.uuid c.append_after_losses.ensures.given) c.append_after_losses.ensures.first c.make_room.ensures.items c.append_after_losses.ensures.items
    (omega (arith, c.append_after_losses.ensures.room, c.in-Ok.ensures.ok)))))

pub returns-then-contains-clause-answered : goal.returns-then-contains-clause-answered
returns-then-contains-clause-answered g c =
    faulted_reply (list_length c.args.array.now.parts.members.newest) c.args.who c.args.array.now.parts.entries c.append_after_losses.new.epoch.entries.items c.ops-end-2.result c.args.slot (losses_of c.newly_unassigned-roles.result c.without-spares.result)
    (losses-are c.newly_unassigned-roles.result c.without-spares.result)
    (c.append_after_losses.ensures.items ∙ ap (λ (l : List Entry). l ++ entries_of c.args.who c.ops-end-2.result (losses_of c.newly_unassigned-roles.result c.without-spares.result ++ Refused (SlotFault c.args.slot) ∷ [])) (c.make_room.ensures.items ∙ ap (λ p. p.parts.entries) c.array.view_is))
    c.requires.next

pub returns-then-contains-clause-caused : goal.returns-then-contains-clause-caused
returns-then-contains-clause-caused g c =
    let addable = subst (λ v. (refusal : Refusal) → IsUnaddable (g.B.Bank.given v.parts.bank) v.parts.backup c.args.slot v.parts.members refusal → ⊥) (sym c.array.view_is) c.requires.addable in
    let was = (alike c.array.invariant) in
    let here = was.kept.members_are in
    let a = c.array.inside in
    let given = g.B.Bank.given a.bank in
    let e = c.add_member-lost.ensures in
    let look = c.look_at.ensures in
    let did = add-done look.given was.kept.slots here.placed here.unlost here.free (slot-there given a.backup c.args.slot a.members here.placed addable)
    (λ role may. slot-free given a.backup c.args.slot a.members here.placed addable (inr (role, may))) look.counts c.spare_for-sb.ensures.made e.own e.keeps.moved e.keeps.failed e.lost e.keeps.bank.grows e.others e.clean e.keeps.rise e.keeps.bank.counts in
    let gone = sym c.contains.ensures ∙ c.if-contains.true in
    rw (← c.array.view_is) (refl, addable, did.failed.spares_are c.args.slot gone, e.lost gone)

pub returns-then-contains-clause-spares : goal.returns-then-contains-clause-spares
returns-then-contains-clause-spares g c =
    let addable = subst (λ v. (refusal : Refusal) → IsUnaddable (g.B.Bank.given v.parts.bank) v.parts.backup c.args.slot v.parts.members refusal → ⊥) (sym c.array.view_is) c.requires.addable in
    let was = (alike c.array.invariant) in
    let here = was.kept.members_are in
    let a = c.array.inside in
    let given = g.B.Bank.given a.bank in
    let e = c.add_member-lost.ensures in
    let look = c.look_at.ensures in
    let did = add-done look.given was.kept.slots here.placed here.unlost here.free (slot-there given a.backup c.args.slot a.members here.placed addable)
    (λ role may. slot-free given a.backup c.args.slot a.members here.placed addable (inr (role, may))) look.counts c.spare_for-sb.ensures.made e.own e.keeps.moved e.keeps.failed e.lost e.keeps.bank.grows e.others e.clean e.keeps.rise e.keeps.bank.counts in
    rw (← c.array.view_is) (spares-added did)

pub returns-then-contains-clause-stepped : goal.returns-then-contains-clause-stepped
returns-then-contains-clause-stepped g c =
    let addable = subst (λ v. (refusal : Refusal) → IsUnaddable (g.B.Bank.given v.parts.bank) v.parts.backup c.args.slot v.parts.members refusal → ⊥) (sym c.array.view_is) c.requires.addable in
    let was = (alike c.array.invariant) in
    let here = was.kept.members_are in
    let a = c.array.inside in
    let given = g.B.Bank.given a.bank in
    let e = c.add_member-lost.ensures in
    let look = c.look_at.ensures in
    let did = add-done look.given was.kept.slots here.placed here.unlost here.free (slot-there given a.backup c.args.slot a.members here.placed addable)
    (λ role may. slot-free given a.backup c.args.slot a.members here.placed addable (inr (role, may))) look.counts c.spare_for-sb.ensures.made e.own e.keeps.moved e.keeps.failed e.lost e.keeps.bank.grows e.others e.clean e.keeps.rise e.keeps.bank.counts in
    let since = since-added did c.len-count.result c.unassigned_roles-before.result c.newly_unassigned-roles.result c.without-spares.result (c.len-count.ensures ∙ here.placed.roles)
    c.unassigned_roles-before.ensures c.newly_unassigned-roles.ensures
    (others-lost c.args.slot c.add_member-lost.result c.with.result c.without-spares.result c.with.ensures c.without-spares.ensures (omega (arith, c.without-spares.type_inv))) in
    let roles = c.newly_unassigned-roles.result in
    let spares = c.without-spares.result in
    let end = c.ops-end-2.result in
    let m = c.add_member-lost.new.members in
    let looked = look.tape in
    rw (← c.array.view_is) (stepped (grows-then (record { more = λ t. ((looked t).0, (looked t).2) }) e.keeps.bank.grows) (shapes-moved did.moved)
    (ended-behind (g.B.Bank.tape c.add_member-lost.new.bank) c.append_after_losses.new.epoch.first c.make_room.new.self.items c.args.who end (losses_of roles spares) (Refused (SlotFault c.args.slot)) c.append_after_losses.ensures.items c.ops-end-2.ensures.count)
    did.failed.roles
    (losses-behind a.members m (g.B.Bank.faults_of a.bank) (g.B.Bank.faults_of c.add_member-lost.new.bank) a.epoch.entries.items c.make_room.new.self.items c.append_after_losses.new.epoch.entries.items c.args.who end roles spares
    (Refused (SlotFault c.args.slot)) since tt c.make_room.ensures.items c.append_after_losses.ensures.items)
    did.counts
    (record { uuid = c.append_after_losses.ensures.uuid; given = c.append_after_losses.ensures.given; first = c.append_after_losses.ensures.first; backup = refl; ahead = refl; limit = refl })
    (λ t. (was.kept.recorded t).begun))

-- ---- where it wasn't

pub invariant_of-array-2 : goal.invariant_of-array-2
invariant_of-array-2 g c =
    on-both (is_reshaping c.array.inside.members.newest)
    (λ active. goes-on (c.array.invariant.moves active).0 (
    let addable = subst (λ p. (refusal : Refusal) → IsUnaddable (g.B.Bank.given p.parts.bank) p.parts.backup c.args.slot p.parts.members refusal → ⊥) (sym c.array.view_is) c.requires.addable in
    let was = (c.array.invariant.moves active).1 in
    let a = c.array.inside in
    let given = g.B.Bank.given a.bank in
    let number : c.args.who.number ≡ next_number c.args.who.caller a.epoch.entries.items = c.requires.next ∙ ap (λ p. next_number c.args.who.caller p.parts.entries) (sym c.array.view_is) in
    let here = was.kept.members_are in
    let slot = c.args.slot in
    let there = slot-there given a.backup slot a.members here.placed addable in
    let e = c.add_member-lost.ensures in
    let look = c.look_at.ensures in
    let did = add-done look.given was.kept.slots here.placed here.unlost here.free there (λ role may. slot-free given a.backup slot a.members here.placed addable (inr (role, may))) look.counts
    c.spare_for-sb.ensures.made e.own e.keeps.moved e.keeps.failed e.lost e.keeps.bank.grows e.others e.clean e.keeps.rise e.keeps.bank.counts in
    let m = c.add_member-lost.new.members in
    let roles = c.newly_unassigned-roles.result in
    let spares = c.without-spares.result in
    let since = since-added did c.len-count.result c.unassigned_roles-before.result roles spares (c.len-count.ensures ∙ here.placed.roles) c.unassigned_roles-before.ensures c.newly_unassigned-roles.ensures
    (others-lost slot c.add_member-lost.result c.with.result spares c.with.ensures c.without-spares.ensures (omega (arith, c.without-spares.type_inv))) in
    let first = subst (λ p. free_number p.parts.members.newest p.parts.work ≡ Some c.args.number) (sym c.array.view_is) c.requires.number in
    let free = is-free a.members.newest a.work c.args.number first in
    let sb = c.spare_for-sb.result in
    let scope = scope_in given a.epoch.uuid a.epoch.given a.backup in
    let more = bearing false slot c.args.number a.work in
    let work = bearing true slot c.args.number a.work in
    let few = was.kept.slots in
    let done = sym c.contains.ensures ∙ c.if-contains.false in
    let anew = told-anew given m slot c.args.number sb a.work (omega (arith, few, there)) (free-added did) (e.spare done) (e.stored done) c.spare_for-sb.ensures.number in
    let tape = g.B.Bank.tape a.bank in
    let mid = g.B.Bank.tape c.look_at.new.bank in
    let tape' = g.B.Bank.tape c.add_member-lost.new.bank in
    let end = c.ops-end-2.result in
    let made = spare-made scope a.work c.args.number roles spares did (apart-of a.backup (c.array.invariant.moves active).0 given slot a.members here.placed addable) (slot-does given a.backup slot a.members here.placed addable)
    (slot-of-scope given a.backup slot a.members here.placed addable a.epoch.uuid a.epoch.given sb (g.B.Bank.faults_of a.bank) was.failed c.in-Some.ensures.sound c.spare_for-sb.ensures.uuid)
    c.spare_for-sb.ensures.number free.1 look.tape (λ t sector may. second-half sb c.in-Some.second sector c.spare_for-sb.ensures.second (c.in-Some.ensures.second t sector may))
    (subst (λ (b : Given). g.B.Bank.tells → IsRestKept (with_spare slot sb a.members) (disk b.start mid) (disk b.start tape')) look.given e.rest)
    (subst (λ (b : Given). AddsSafe g.B.Bank.tells b slot sb a.members m mid tape') look.given e.safe) since in
    let given_is = e.keeps.bank.same ∙ look.given in
    let events = losses_of roles spares ++ Added slot ∷ [] in
    rw (c.bear-2.ensures) (ready-with (entries_of c.args.who end events) was (grows-then (looked-grows look.tape) did.grows) (r-shapes-moved given (with_spare slot sb a.members) m did.moved)
    (subst (λ (n : ℕ). IsMoving g.B.Bank.tells given tape' scope a.epoch.first (a.epoch.entries.items ++ entries_of c.args.who end events) m (bears work) a.work.resync a.course (bytes_in a.course.window a.window.items) n)
    (sym (left-moved given (with_spare slot sb a.members) m a.work.resync a.course a.ahead did.moved))
    (moves-anew g.B.Bank.tells given tape' scope a.epoch.first (a.epoch.entries.items ++ entries_of c.args.who end events) m (bears more) (bears work) a.work.resync a.course (bytes_in a.course.window a.window.items)
    (left_in a.work a.members a.course a.ahead) anew
    (added-moves g.B.Bank.tells given tape mid tape' scope a.epoch.first a.epoch.entries.items a.members m (bears a.work) (bears more) a.work.resync a.course (bytes_in a.course.window a.window.items)
    (left_in a.work a.members a.course a.ahead) c.args.who end slot sb roles spares was.kept (begins-going a.epoch.entries.items c.args.who number) (not_254 c.args.who.caller c.requires.caller) c.ops-end-2.ensures.count made)))
    refl did.counts (r-behind-keeps c.args.who end roles spares (Added slot) (λ n. refl) (λ limit. refl))
    (behind-whole tape' scope a.epoch.first a.epoch.entries.items c.args.who end roles spares (Added slot) did.moved made.since) given_is (scope-same given a.backup given_is c.append_after_losses-2.ensures.uuid c.append_after_losses-2.ensures.given) c.append_after_losses-2.ensures.first c.make_room.ensures.items c.append_after_losses-2.ensures.items
    (omega (arith, c.append_after_losses-2.ensures.room, c.in-Ok.ensures.ok)))))
    (λ still. stays-at-rest (c.array.invariant.rests still).0 (
    let addable = subst (λ v. (refusal : Refusal) → IsUnaddable (g.B.Bank.given v.parts.bank) v.parts.backup c.args.slot v.parts.members refusal → ⊥) (sym c.array.view_is) c.requires.addable in
    let number : c.args.who.number ≡ next_number c.args.who.caller c.array.inside.epoch.entries.items = c.requires.next ∙ ap (λ p. next_number c.args.who.caller p.parts.entries) (sym c.array.view_is) in
    let was = (c.array.invariant.rests still).1 in
    let here = was.kept.members_are in
    let a = c.array.inside in
    let given = g.B.Bank.given a.bank in
    let known : free_number a.members.newest a.work ≡ Some c.args.number = subst (λ v. free_number v.parts.members.newest v.parts.work ≡ Some c.args.number) (sym c.array.view_is) c.requires.number in
    let free = is-free a.members.newest a.work c.args.number known in
    let e = c.add_member-lost.ensures in
    let look = c.look_at.ensures in
    let did = add-done look.given was.kept.slots here.placed here.unlost here.free (slot-there given a.backup c.args.slot a.members here.placed addable)
    (λ role may. slot-free given a.backup c.args.slot a.members here.placed addable (inr (role, may))) look.counts c.spare_for-sb.ensures.made e.own e.keeps.moved e.keeps.failed e.lost e.keeps.bank.grows e.others e.clean e.keeps.rise e.keeps.bank.counts in
    let since = since-added did c.len-count.result c.unassigned_roles-before.result c.newly_unassigned-roles.result c.without-spares.result (c.len-count.ensures ∙ here.placed.roles)
    c.unassigned_roles-before.ensures c.newly_unassigned-roles.ensures
    (others-lost c.args.slot c.add_member-lost.result c.with.result c.without-spares.result c.with.ensures c.without-spares.ensures (omega (arith, c.without-spares.type_inv))) in
    let roles = c.newly_unassigned-roles.result in
    let spares = c.without-spares.result in
    let end = c.ops-end-2.result in
    let m = c.add_member-lost.new.members in
    let sb = c.spare_for-sb.result in
    let tape = g.B.Bank.tape c.look_at.new.bank in
    let tape' = g.B.Bank.tape c.add_member-lost.new.bank in
    let given_is = e.keeps.bank.same ∙ look.given in
    let safe = subst (λ (b : Given). AddsSafe g.B.Bank.tells b c.args.slot sb a.members m tape tape') look.given e.safe in
    let kept = subst (λ (n : ℕ). IsStill g.B.Bank.tells given tape' (scope_in given a.epoch.uuid a.epoch.given a.backup) a.epoch.first (a.epoch.entries.items ++ entries_of c.args.who end (losses_of roles spares ++ Added c.args.slot ∷ []))
    m (bearing true c.args.slot n a.work) (still_left (bearing true c.args.slot n a.work) m a.ahead)) c.spare_for-sb.ensures.number
    (law.add-done a.ahead c.args.who end roles spares was.kept (without-left given a.members here.placed here.unlost (slot-does given a.backup c.args.slot a.members here.placed addable)) number c.requires.caller c.ops-end-2.ensures.count
    look.tape did since
    (slot-of-scope given a.backup c.args.slot a.members here.placed addable a.epoch.uuid a.epoch.given sb (g.B.Bank.faults_of a.bank) was.failed c.in-Some.ensures.sound c.spare_for-sb.ensures.uuid)
    (λ s. ap (bears a.work s) c.spare_for-sb.ensures.number ∙ free.1 s)
    (λ t sector may. second-half sb c.in-Some.second sector c.spare_for-sb.ensures.second (c.in-Some.ensures.second t sector may)) safe (e.spare (sym c.contains.ensures ∙ c.if-contains.false)) (e.stored (sym c.contains.ensures ∙ c.if-contains.false))) in
    rw (c.bear-2.ensures) (ready (entries_of c.args.who end (losses_of roles spares ++ Added c.args.slot ∷ [])) was (rows-moved given (with_spare c.args.slot sb a.members) m did.moved) kept
    (added-plain was c.args.who end (begins-going a.epoch.entries.items c.args.who number) c.requires.caller c.ops-end-2.ensures.count look.tape did since (e.spare (sym c.contains.ensures ∙ c.if-contains.false)))
    did.counts (behind-keeps c.args.who end roles spares (Added c.args.slot ∷ []) (alone-keeps c.args.who end (Added c.args.slot) (λ n. refl) (λ limit. refl)))
    given_is (scope-same given a.backup given_is c.append_after_losses-2.ensures.uuid c.append_after_losses-2.ensures.given) c.append_after_losses-2.ensures.first c.make_room.ensures.items c.append_after_losses-2.ensures.items
    (omega (arith, c.append_after_losses-2.ensures.room, c.in-Ok.ensures.ok)))))

pub returns-clause-answered : goal.returns-clause-answered
returns-clause-answered g c =
    added_reply (list_length c.args.array.now.parts.members.newest) c.args.who c.args.array.now.parts.entries c.append_after_losses-2.new.epoch.entries.items c.ops-end-2.result c.args.slot c.newly_unassigned-roles.result c.without-spares.result
    (c.append_after_losses-2.ensures.items ∙ ap (λ (l : List Entry). l ++ entries_of c.args.who c.ops-end-2.result (losses_of c.newly_unassigned-roles.result c.without-spares.result ++ Added c.args.slot ∷ [])) (c.make_room.ensures.items ∙ ap (λ p. p.parts.entries) c.array.view_is))
    c.requires.next

pub returns-clause-stored : goal.returns-clause-stored
returns-clause-stored g c =
    let a = c.array.inside in
    let known : free_number a.members.newest a.work ≡ Some c.args.number = subst (λ v. free_number v.parts.members.newest v.parts.work ≡ Some c.args.number) (sym c.array.view_is) c.requires.number in
    let free = is-free a.members.newest a.work c.args.number known in
    rw (← c.array.view_is) (stored-as c.add_member-lost.new.members a.members a.work c.args.slot c.args.number c.spare_for-sb.result
    known c.spare_for-sb.ensures.number c.spare_for-sb.ensures.offset (c.add_member-lost.ensures.stored (sym c.contains.ensures ∙ c.if-contains.false)))

pub returns-clause-spares : goal.returns-clause-spares
returns-clause-spares g c =
    let addable = subst (λ v. (refusal : Refusal) → IsUnaddable (g.B.Bank.given v.parts.bank) v.parts.backup c.args.slot v.parts.members refusal → ⊥) (sym c.array.view_is) c.requires.addable in
    let was = (alike c.array.invariant) in
    let here = was.kept.members_are in
    let a = c.array.inside in
    let given = g.B.Bank.given a.bank in
    let e = c.add_member-lost.ensures in
    let look = c.look_at.ensures in
    let did = add-done look.given was.kept.slots here.placed here.unlost here.free (slot-there given a.backup c.args.slot a.members here.placed addable)
    (λ role may. slot-free given a.backup c.args.slot a.members here.placed addable (inr (role, may))) look.counts c.spare_for-sb.ensures.made e.own e.keeps.moved e.keeps.failed e.lost e.keeps.bank.grows e.others e.clean e.keeps.rise e.keeps.bank.counts in
    rw (← c.array.view_is) (spares-added did)

pub returns-clause-stepped : goal.returns-clause-stepped
returns-clause-stepped g c =
    let addable = subst (λ v. (refusal : Refusal) → IsUnaddable (g.B.Bank.given v.parts.bank) v.parts.backup c.args.slot v.parts.members refusal → ⊥) (sym c.array.view_is) c.requires.addable in
    let was = (alike c.array.invariant) in
    let here = was.kept.members_are in
    let a = c.array.inside in
    let given = g.B.Bank.given a.bank in
    let e = c.add_member-lost.ensures in
    let look = c.look_at.ensures in
    let did = add-done look.given was.kept.slots here.placed here.unlost here.free (slot-there given a.backup c.args.slot a.members here.placed addable)
    (λ role may. slot-free given a.backup c.args.slot a.members here.placed addable (inr (role, may))) look.counts c.spare_for-sb.ensures.made e.own e.keeps.moved e.keeps.failed e.lost e.keeps.bank.grows e.others e.clean e.keeps.rise e.keeps.bank.counts in
    let since = since-added did c.len-count.result c.unassigned_roles-before.result c.newly_unassigned-roles.result c.without-spares.result (c.len-count.ensures ∙ here.placed.roles)
    c.unassigned_roles-before.ensures c.newly_unassigned-roles.ensures
    (others-lost c.args.slot c.add_member-lost.result c.with.result c.without-spares.result c.with.ensures c.without-spares.ensures (omega (arith, c.without-spares.type_inv))) in
    let roles = c.newly_unassigned-roles.result in
    let spares = c.without-spares.result in
    let end = c.ops-end-2.result in
    let m = c.add_member-lost.new.members in
    let looked = look.tape in
    rw (← c.array.view_is) (stepped (grows-then (record { more = λ t. ((looked t).0, (looked t).2) }) e.keeps.bank.grows) (shapes-moved did.moved)
    (ended-behind (g.B.Bank.tape c.add_member-lost.new.bank) c.append_after_losses-2.new.epoch.first c.make_room.new.self.items c.args.who end (losses_of roles spares) (Added c.args.slot) c.append_after_losses-2.ensures.items c.ops-end-2.ensures.count)
    did.failed.roles
    (losses-behind a.members m (g.B.Bank.faults_of a.bank) (g.B.Bank.faults_of c.add_member-lost.new.bank) a.epoch.entries.items c.make_room.new.self.items c.append_after_losses-2.new.epoch.entries.items c.args.who end roles spares
    (Added c.args.slot) since tt c.make_room.ensures.items c.append_after_losses-2.ensures.items)
    did.counts
    (record { uuid = c.append_after_losses-2.ensures.uuid; given = c.append_after_losses-2.ensures.given; first = c.append_after_losses-2.ensures.first; backup = refl; ahead = refl; limit = refl })
    (λ t. (was.kept.recorded t).begun))

-- ---- what is handed down, and what is left of it

pub invariant_of-array : goal.invariant_of-array
invariant_of-array g c =
    on-both (is_reshaping c.array.inside.members.newest)
    (λ active. goes-on (c.array.invariant.moves active).0 (r-roomier (c.array.invariant.moves active).1 c.make_room.ensures.items c.make_room.ensures.keeps))
    (λ still. stays-at-rest (c.array.invariant.rests still).0 (roomier (c.array.invariant.rests still).1 c.make_room.ensures.items c.make_room.ensures.keeps))

pub returns-in-Err-clause-answered : goal.returns-in-Err-clause-answered
returns-in-Err-clause-answered g c =
    c.make_room.ensures.items ∙ ap (λ p. p.parts.entries) c.array.view_is

pub returns-in-Err-clause-unchanged : goal.returns-in-Err-clause-unchanged
returns-in-Err-clause-unchanged g c =
    entries-alike c.make_room.new.self.items c.array.view_is c.make_room.ensures.items

pub returns-in-Err-clause-caused : goal.returns-in-Err-clause-caused
returns-in-Err-clause-caused g c =
    ap (λ p. p.parts.members) c.array.view_is

pub returns-in-Err-clause-spares : goal.returns-in-Err-clause-spares
returns-in-Err-clause-spares g c =
    subst (λ p. (s : ℕ) → has_spare c.array.inside.members.spares s ≡ true → (has_spare p.parts.members.spares s ≡ true) ⊎ (s ≡ c.args.slot)) c.array.view_is (λ s is. inl is)

pub returns-in-Err-clause-stepped : goal.returns-in-Err-clause-stepped
returns-in-Err-clause-stepped g c =
    let kept = (alike c.array.invariant).kept in
    rw (← c.array.view_is) (undone-stepped (λ t. (kept.recorded t).ended) (λ t. (kept.recorded t).begun) (entries-alike c.make_room.new.self.items refl c.make_room.ensures.items))

pub returns-in-Err-clause-whole : goal.returns-in-Err-clause-whole
returns-in-Err-clause-whole g c =
    subst (λ p. AreWhole c.array.inside.members → AreWhole p.parts.members) c.array.view_is (λ whole. whole)

pub returns-in-Err-clause-work : goal.returns-in-Err-clause-work
returns-in-Err-clause-work g c =
    subst (λ p. IsWorkAdded p.parts.members.newest c.args.slot p.parts.work c.array.inside.work) c.array.view_is (work-kept c.array.inside.members.newest c.args.slot c.array.inside.work)

pub returns-in-Err-clause-numbers : goal.returns-in-Err-clause-numbers
returns-in-Err-clause-numbers g c =
    subst (λ p. (number : ℕ) → bears p.parts.work c.args.slot number ≡ true → bears c.array.inside.work c.args.slot number ≡ true) c.array.view_is (λ number is. is)

pub check_number-requires : goal.check_number-requires
check_number-requires g c =
    c.requires.next ∙ ap (λ p. next_number c.args.who.caller p.parts.entries) (sym c.array.view_is) ∙ ap (λ (l : List Entry). next_number c.args.who.caller l) (sym c.make_room.ensures.items)

pub append_entry-requires-clause-room : goal.append_entry-requires-clause-room
append_entry-requires-clause-room g c =
    room-1 c.make_room.new.self.room c.in-Ok.ensures.ok

pub append_entry-requires-clause-number : goal.append_entry-requires-clause-number
append_entry-requires-clause-number g c =
    c.check_number.ensures

pub returns-in_default-clause-spares : goal.returns-in_default-clause-spares
returns-in_default-clause-spares g c =
    subst (λ p. (s : ℕ) → has_spare c.array.inside.members.spares s ≡ true → (has_spare p.parts.members.spares s ≡ true) ⊎ (s ≡ c.args.slot)) c.array.view_is (λ s is. inl is)

pub returns-in_default-clause-clean : goal.returns-in_default-clause-clean
returns-in_default-clause-clean g c =
    ap (λ p. is_clean p.parts.members.newest) c.array.view_is

pub returns-in_default-clause-held : goal.returns-in_default-clause-held
returns-in_default-clause-held g c =
    subst (λ p. AreStillHeld p.parts.members c.array.inside.members) c.array.view_is (λ role slot held. held)

pub returns-in_default-clause-whole : goal.returns-in_default-clause-whole
returns-in_default-clause-whole g c =
    subst (λ p. AreWhole c.array.inside.members → AreWhole p.parts.members) c.array.view_is (λ whole. whole)

pub returns-in_default-clause-work : goal.returns-in_default-clause-work
returns-in_default-clause-work g c =
    subst (λ p. IsWorkAdded p.parts.members.newest c.args.slot p.parts.work c.array.inside.work) c.array.view_is (work-kept c.array.inside.members.newest c.args.slot c.array.inside.work)

pub returns-in_default-clause-numbers : goal.returns-in_default-clause-numbers
returns-in_default-clause-numbers g c =
    subst (λ p. (number : ℕ) → bears p.parts.work c.args.slot number ≡ true → bears c.array.inside.work c.args.slot number ≡ true) c.array.view_is (λ number is. is)

pub returns-in_default-clause-given : goal.returns-in_default-clause-given
returns-in_default-clause-given g c =
    c.look_at.ensures.given ∙ ap (λ p. g.B.Bank.given p.parts.bank) c.array.view_is

pub unassigned_roles-before-requires-clause-known : goal.unassigned_roles-before-requires-clause-known
unassigned_roles-before-requires-clause-known g c =
    le_of_eq c.len-count.ensures

pub unassigned_roles-before-requires-clause-few : goal.unassigned_roles-before-requires-clause-few
unassigned_roles-before-requires-clause-few g c =
    let members = (alike c.array.invariant).kept.members_are in
    let few = few-roles c.array.inside.members.newest members.placed.fit.valid in
    let roles = members.placed.roles in
    let long = c.len-count.ensures in
    omega (arith, few, roles, long)

pub add_member-lost-requires-clause-made : goal.add_member-lost-requires-clause-made
add_member-lost-requires-clause-made g c =
    c.spare_for-sb.ensures.made

pub newly_unassigned-roles-requires-clause-known : goal.newly_unassigned-roles-requires-clause-known
newly_unassigned-roles-requires-clause-known g c =
    roles-moved (g.B.Bank.given c.look_at.new.bank) (with_spare c.args.slot c.spare_for-sb.result c.array.inside.members) c.add_member-lost.new.members c.add_member-lost.ensures.keeps.moved c.len-count.result c.len-count.ensures (alike c.array.invariant).kept.members_are.placed.roles

pub newly_unassigned-roles-requires-clause-few : goal.newly_unassigned-roles-requires-clause-few
newly_unassigned-roles-requires-clause-few g c =
    let members = (alike c.array.invariant).kept.members_are in
    let few = few-roles c.array.inside.members.newest members.placed.fit.valid in
    let roles = members.placed.roles in
    let long = c.len-count.ensures in
    omega (arith, few, roles, long)

pub append_after_losses-requires-clause-room : goal.append_after_losses-requires-clause-room
append_after_losses-requires-clause-room g c =
    room-49 c.make_room.new.self.room c.in-Ok.ensures.ok

pub append_after_losses-requires-clause-number : goal.append_after_losses-requires-clause-number
append_after_losses-requires-clause-number g c =
    c.check_number.ensures

pub returns-then-contains-clause-clean : goal.returns-then-contains-clause-clean
returns-then-contains-clause-clean g c =
    c.add_member-lost.ensures.clean ∙ ap (λ p. is_clean p.parts.members.newest) c.array.view_is

pub returns-then-contains-clause-given : goal.returns-then-contains-clause-given
returns-then-contains-clause-given g c =
    c.add_member-lost.ensures.keeps.bank.same ∙ c.look_at.ensures.given ∙ ap (λ p. g.B.Bank.given p.parts.bank) c.array.view_is

pub append_after_losses-requires-2-clause-room : goal.append_after_losses-requires-2-clause-room
append_after_losses-requires-2-clause-room g c =
    room-49 c.make_room.new.self.room c.in-Ok.ensures.ok

pub append_after_losses-requires-2-clause-number : goal.append_after_losses-requires-2-clause-number
append_after_losses-requires-2-clause-number g c =
    c.check_number.ensures

pub returns-clause-caused : goal.returns-clause-caused
returns-clause-caused g c =
    (c.requires.addable, c.add_member-lost.ensures.spare (sym c.contains.ensures ∙ c.if-contains.false))

pub returns-clause-clean : goal.returns-clause-clean
returns-clause-clean g c =
    c.add_member-lost.ensures.clean ∙ ap (λ p. is_clean p.parts.members.newest) c.array.view_is

pub returns-clause-given : goal.returns-clause-given
returns-clause-given g c =
    c.add_member-lost.ensures.keeps.bank.same ∙ c.look_at.ensures.given ∙ ap (λ p. g.B.Bank.given p.parts.bank) c.array.view_is

-- ---- what it leaves of the members

pub returns-then-contains-clause-held : goal.returns-then-contains-clause-held
returns-then-contains-clause-held g c =
    subst (λ p. AreStillHeld p.parts.members c.add_member-lost.new.members) c.array.view_is c.add_member-lost.ensures.keeps.moved.held

pub returns-then-contains-clause-whole : goal.returns-then-contains-clause-whole
returns-then-contains-clause-whole g c =
    subst (λ p. AreWhole c.add_member-lost.new.members → AreWhole p.parts.members) c.array.view_is c.add_member-lost.ensures.keeps.moved.whole

pub returns-clause-held : goal.returns-clause-held
returns-clause-held g c =
    subst (λ p. AreStillHeld p.parts.members c.add_member-lost.new.members) c.array.view_is c.add_member-lost.ensures.keeps.moved.held

pub returns-clause-whole : goal.returns-clause-whole
returns-clause-whole g c =
    subst (λ p. AreWhole c.add_member-lost.new.members → AreWhole p.parts.members) c.array.view_is c.add_member-lost.ensures.keeps.moved.whole

pub returns-then-contains-clause-work : goal.returns-then-contains-clause-work
returns-then-contains-clause-work g c =
    let was = c.args.array.now.parts in
    subst (λ w. IsWorkAdded was.members.newest c.args.slot was.work w) (sym (c.bear.ensures ∙ ap (λ p. bearing false c.args.slot c.args.number p.parts.work) c.array.view_is))
    (work-added false was.members.newest c.args.slot c.args.number was.work c.requires.number)

pub returns-then-contains-clause-numbers : goal.returns-then-contains-clause-numbers
returns-then-contains-clause-numbers g c =
    let was = c.args.array.now.parts in
    subst (λ w. (number : ℕ) → bears was.work c.args.slot number ≡ true → bears w c.args.slot number ≡ true) (sym (c.bear.ensures ∙ ap (λ p. bearing false c.args.slot c.args.number p.parts.work) c.array.view_is))
    (bears-more c.args.slot c.args.number was.work c.args.slot)

pub returns-clause-work : goal.returns-clause-work
returns-clause-work g c =
    let was = c.args.array.now.parts in
    subst (λ w. IsWorkAdded was.members.newest c.args.slot was.work w) (sym (c.bear-2.ensures ∙ ap (λ p. bearing true c.args.slot c.args.number p.parts.work) c.array.view_is))
    (work-added true was.members.newest c.args.slot c.args.number was.work c.requires.number)

pub returns-clause-numbers : goal.returns-clause-numbers
returns-clause-numbers g c =
    let was = c.args.array.now.parts in
    let addable = subst (λ v. (refusal : Refusal) → IsUnaddable (g.B.Bank.given v.parts.bank) v.parts.backup c.args.slot v.parts.members refusal → ⊥) (sym c.array.view_is) c.requires.addable in
    let few = (alike c.array.invariant).kept.slots in
    let lt = slot-there (g.B.Bank.given c.array.inside.bank) c.array.inside.backup c.args.slot c.array.inside.members (alike c.array.invariant).kept.members_are.placed addable in
    subst (λ w. IfSome (free_number was.members.newest was.work) (λ free. (number : ℕ) → number < 128 → bears w c.args.slot number ≡ (number == free)))
    (sym (c.bear-2.ensures ∙ ap (λ p. bearing true c.args.slot c.args.number p.parts.work) c.array.view_is))
    (bears-free was.members.newest c.args.slot c.args.number was.work c.requires.number (omega (arith, few, lt)))

pub returns-in_default-clause-others : goal.returns-in_default-clause-others
returns-in_default-clause-others g c =
    let a = c.array.inside in
    subst (λ p. g.B.Bank.tells → AreOthersPresent (present (g.B.Bank.given p.parts.bank) (g.B.Bank.tape p.parts.bank)) (present (g.B.Bank.given p.parts.bank) (g.B.Bank.tape c.look_at.new.bank))) c.array.view_is
    (λ t s k apart. (λ i. contents-added (g.B.Bank.given a.bank).start (g.B.Bank.tape a.bank) (g.B.Bank.tape c.look_at.new.bank) (c.look_at.ensures.tape t) i s k))

pub returns-then-contains-clause-others : goal.returns-then-contains-clause-others
returns-then-contains-clause-others g c =
    let a = c.array.inside in
    let tape = g.B.Bank.tape c.look_at.new.bank in
    let tape' = g.B.Bank.tape c.add_member-lost.new.bank in
    subst (λ p. g.B.Bank.tells → AreOthersPresent (present (g.B.Bank.given p.parts.bank) (g.B.Bank.tape p.parts.bank)) (present (g.B.Bank.given p.parts.bank) tape')) c.array.view_is
    (λ t s k apart. subst (λ (b : Given). AreOthersPresent (present b tape) (present b tape')) c.look_at.ensures.given (c.add_member-lost.ensures.others t) s k apart
    ∙ (λ i. contents-added (g.B.Bank.given a.bank).start (g.B.Bank.tape a.bank) tape (c.look_at.ensures.tape t) i s k))

pub returns-clause-others : goal.returns-clause-others
returns-clause-others g c =
    let a = c.array.inside in
    let tape = g.B.Bank.tape c.look_at.new.bank in
    let tape' = g.B.Bank.tape c.add_member-lost.new.bank in
    subst (λ p. g.B.Bank.tells → AreOthersPresent (present (g.B.Bank.given p.parts.bank) (g.B.Bank.tape p.parts.bank)) (present (g.B.Bank.given p.parts.bank) tape')) c.array.view_is
    (λ t s k apart. subst (λ (b : Given). AreOthersPresent (present b tape) (present b tape')) c.look_at.ensures.given (c.add_member-lost.ensures.others t) s k apart
    ∙ (λ i. contents-added (g.B.Bank.given a.bank).start (g.B.Bank.tape a.bank) tape (c.look_at.ensures.tape t) i s k))

pub returns-in-Err-clause-called : goal.returns-in-Err-clause-called
returns-in-Err-clause-called g c =
    rw (← c.array.view_is) (still-called c.make_room.ensures.items refl (λ t. ((alike c.array.invariant).kept.recorded t).ended))

pub returns-in_default-clause-called : goal.returns-in_default-clause-called
returns-in_default-clause-called g c =
    let was = (alike c.array.invariant) in
    let a = c.array.inside in
    let given = g.B.Bank.given a.bank in
    let before = g.B.Bank.faults_of a.bank in
    let after = g.B.Bank.faults_of c.look_at.new.bank in
    let look = c.look_at.ensures in
    let end = c.ops-end.result in
    let event = Refused (SlotFault c.args.slot) in
    rw (← c.array.view_is) (none-added (called (looked-grows look.tape) (moved-same given given a.members a.members refl refl was.kept.members_are.placed was.kept.members_are.unlost)
    (ended-behind (g.B.Bank.tape c.look_at.new.bank) c.append_entry.new.epoch.first c.make_room.new.self.items c.args.who end [] event c.append_entry.ensures.items c.ops-end.ensures.count)
    (alone-lossless a.members before after a.epoch.entries.items c.make_room.new.self.items c.append_entry.new.epoch.entries.items c.args.who end event tt c.make_room.ensures.items c.append_entry.ensures.items)
    look.counts
    (record { uuid = c.append_entry.ensures.uuid; given = c.append_entry.ensures.given; first = c.append_entry.ensures.first; backup = refl; work = refl; ahead = refl; limit = refl })
    (λ t. (was.kept.recorded t).begun)))

pub overflow_cast-count : goal.overflow_cast-count
overflow_cast-count g c =
    let members = (alike c.array.invariant).kept.members_are in
    let few = few-roles c.array.inside.members.newest members.placed.fit.valid in
    let roles = members.placed.roles in
    let long = c.len-count.ensures in
    omega (arith, few, roles, long)

pub returns-then-contains-clause-called : goal.returns-then-contains-clause-called
returns-then-contains-clause-called g c =
    let addable = subst (λ p. (refusal : Refusal) → IsUnaddable (g.B.Bank.given p.parts.bank) p.parts.backup c.args.slot p.parts.members refusal → ⊥) (sym c.array.view_is) c.requires.addable in
    let was = (alike c.array.invariant) in
    let a = c.array.inside in
    let given = g.B.Bank.given a.bank in
    let here = was.kept.members_are in
    let slot = c.args.slot in
    let there = slot-there given a.backup slot a.members here.placed addable in
    let e = c.add_member-lost.ensures in
    let look = c.look_at.ensures in
    let did = add-done look.given was.kept.slots here.placed here.unlost here.free there (λ role may. slot-free given a.backup slot a.members here.placed addable (inr (role, may))) look.counts
    c.spare_for-sb.ensures.made e.own e.keeps.moved e.keeps.failed e.lost e.keeps.bank.grows e.others e.clean e.keeps.rise e.keeps.bank.counts in
    let m = c.add_member-lost.new.members in
    let roles = c.newly_unassigned-roles.result in
    let spares = c.without-spares.result in
    let since = since-added did c.len-count.result c.unassigned_roles-before.result roles spares (c.len-count.ensures ∙ here.placed.roles) c.unassigned_roles-before.ensures c.newly_unassigned-roles.ensures
    (others-lost slot c.add_member-lost.result c.with.result spares c.with.ensures c.without-spares.ensures (omega (arith, c.without-spares.type_inv))) in
    let first = subst (λ p. free_number p.parts.members.newest p.parts.work ≡ Some c.args.number) (sym c.array.view_is) c.requires.number in
    let end = c.ops-end-2.result in
    let event = Refused (SlotFault slot) in
    rw (← c.array.view_is) (add-called false c.args.number look.tape did
    (ended-behind (g.B.Bank.tape c.add_member-lost.new.bank) c.append_after_losses.new.epoch.first c.make_room.new.self.items c.args.who end (losses_of roles spares) event c.append_after_losses.ensures.items c.ops-end-2.ensures.count)
    (losses-behind a.members m (g.B.Bank.faults_of a.bank) (g.B.Bank.faults_of c.add_member-lost.new.bank) a.epoch.entries.items c.make_room.new.self.items c.append_after_losses.new.epoch.entries.items c.args.who end roles spares
    event since tt c.make_room.ensures.items c.append_after_losses.ensures.items)
    first
    (record { uuid = c.append_after_losses.ensures.uuid; given = c.append_after_losses.ensures.given; first = c.append_after_losses.ensures.first; backup = refl; work = c.bear.ensures; ahead = refl; limit = refl })
    (λ t. (was.kept.recorded t).begun))

pub returns-then-contains-clause-failed : goal.returns-then-contains-clause-failed
returns-then-contains-clause-failed g c =
    let addable = subst (λ p. (refusal : Refusal) → IsUnaddable (g.B.Bank.given p.parts.bank) p.parts.backup c.args.slot p.parts.members refusal → ⊥) (sym c.array.view_is) c.requires.addable in
    let was = (alike c.array.invariant) in
    let a = c.array.inside in
    let given = g.B.Bank.given a.bank in
    let here = was.kept.members_are in
    let slot = c.args.slot in
    let there = slot-there given a.backup slot a.members here.placed addable in
    let e = c.add_member-lost.ensures in
    let look = c.look_at.ensures in
    let did = add-done look.given was.kept.slots here.placed here.unlost here.free there (λ role may. slot-free given a.backup slot a.members here.placed addable (inr (role, may))) look.counts
    c.spare_for-sb.ensures.made e.own e.keeps.moved e.keeps.failed e.lost e.keeps.bank.grows e.others e.clean e.keeps.rise e.keeps.bank.counts in
    rw (← c.array.view_is) did.failed.roles

pub returns-clause-called : goal.returns-clause-called
returns-clause-called g c =
    let addable = subst (λ p. (refusal : Refusal) → IsUnaddable (g.B.Bank.given p.parts.bank) p.parts.backup c.args.slot p.parts.members refusal → ⊥) (sym c.array.view_is) c.requires.addable in
    let was = (alike c.array.invariant) in
    let a = c.array.inside in
    let given = g.B.Bank.given a.bank in
    let here = was.kept.members_are in
    let slot = c.args.slot in
    let there = slot-there given a.backup slot a.members here.placed addable in
    let e = c.add_member-lost.ensures in
    let look = c.look_at.ensures in
    let did = add-done look.given was.kept.slots here.placed here.unlost here.free there (λ role may. slot-free given a.backup slot a.members here.placed addable (inr (role, may))) look.counts
    c.spare_for-sb.ensures.made e.own e.keeps.moved e.keeps.failed e.lost e.keeps.bank.grows e.others e.clean e.keeps.rise e.keeps.bank.counts in
    let m = c.add_member-lost.new.members in
    let roles = c.newly_unassigned-roles.result in
    let spares = c.without-spares.result in
    let since = since-added did c.len-count.result c.unassigned_roles-before.result roles spares (c.len-count.ensures ∙ here.placed.roles) c.unassigned_roles-before.ensures c.newly_unassigned-roles.ensures
    (others-lost slot c.add_member-lost.result c.with.result spares c.with.ensures c.without-spares.ensures (omega (arith, c.without-spares.type_inv))) in
    let first = subst (λ p. free_number p.parts.members.newest p.parts.work ≡ Some c.args.number) (sym c.array.view_is) c.requires.number in
    let end = c.ops-end-2.result in
    let event = Added slot in
    rw (← c.array.view_is) (add-called true c.args.number look.tape did
    (ended-behind (g.B.Bank.tape c.add_member-lost.new.bank) c.append_after_losses-2.new.epoch.first c.make_room.new.self.items c.args.who end (losses_of roles spares) event c.append_after_losses-2.ensures.items c.ops-end-2.ensures.count)
    (losses-behind a.members m (g.B.Bank.faults_of a.bank) (g.B.Bank.faults_of c.add_member-lost.new.bank) a.epoch.entries.items c.make_room.new.self.items c.append_after_losses-2.new.epoch.entries.items c.args.who end roles spares
    event since tt c.make_room.ensures.items c.append_after_losses-2.ensures.items)
    first
    (record { uuid = c.append_after_losses-2.ensures.uuid; given = c.append_after_losses-2.ensures.given; first = c.append_after_losses-2.ensures.first; backup = refl; work = c.bear-2.ensures; ahead = refl; limit = refl })
    (λ t. (was.kept.recorded t).begun))

pub returns-clause-failed : goal.returns-clause-failed
returns-clause-failed g c =
    let addable = subst (λ p. (refusal : Refusal) → IsUnaddable (g.B.Bank.given p.parts.bank) p.parts.backup c.args.slot p.parts.members refusal → ⊥) (sym c.array.view_is) c.requires.addable in
    let was = (alike c.array.invariant) in
    let a = c.array.inside in
    let given = g.B.Bank.given a.bank in
    let here = was.kept.members_are in
    let slot = c.args.slot in
    let there = slot-there given a.backup slot a.members here.placed addable in
    let e = c.add_member-lost.ensures in
    let look = c.look_at.ensures in
    let did = add-done look.given was.kept.slots here.placed here.unlost here.free there (λ role may. slot-free given a.backup slot a.members here.placed addable (inr (role, may))) look.counts
    c.spare_for-sb.ensures.made e.own e.keeps.moved e.keeps.failed e.lost e.keeps.bank.grows e.others e.clean e.keeps.rise e.keeps.bank.counts in
    rw (← c.array.view_is) did.failed.roles

pub returns-in-Err-clause-failed : goal.returns-in-Err-clause-failed
returns-in-Err-clause-failed g c =
    rw (← c.array.view_is) (λ role slot held. inl held)

pub returns-in_default-clause-failed : goal.returns-in_default-clause-failed
returns-in_default-clause-failed g c =
    rw (← c.array.view_is) (λ role slot held. inl held)

pub returns-in_default-clause-course : goal.returns-in_default-clause-course
returns-in_default-clause-course g c =
    ap (λ p. p.course) c.array.view_is

pub returns-then-contains-clause-course : goal.returns-then-contains-clause-course
returns-then-contains-clause-course g c =
    ap (λ p. p.course) c.array.view_is

pub returns-clause-course : goal.returns-clause-course
returns-clause-course g c =
    ap (λ p. p.course) c.array.view_is

pub returns-in-Err-clause-active : goal.returns-in-Err-clause-active
returns-in-Err-clause-active g c =
    ap (λ p. is_reshaping p.parts.members.newest) c.array.view_is

pub returns-in_default-clause-active : goal.returns-in_default-clause-active
returns-in_default-clause-active g c =
    ap (λ p. is_reshaping p.parts.members.newest) c.array.view_is

pub returns-then-contains-clause-active : goal.returns-then-contains-clause-active
returns-then-contains-clause-active g c =
    c.add_member-lost.ensures.keeps.moved.reshape.reshaping ∙ ap (λ p. is_reshaping p.parts.members.newest) c.array.view_is

pub returns-clause-active : goal.returns-clause-active
returns-clause-active g c =
    c.add_member-lost.ensures.keeps.moved.reshape.reshaping ∙ ap (λ p. is_reshaping p.parts.members.newest) c.array.view_is
