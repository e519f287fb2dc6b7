use Rattle.std.proofs.Common.{◌≡◌, ℕ, List, [], ◌∷◌, ◌++◌, Option, Err, inl, refl, sym, ◌∙◌, ap, subst, arith, ◌⊎◌, true}
use denote.Builtin.{unit}
use Rattle.array_type.specs.raid_types_the_Refusal.{Refusal}
use Rattle.array_type.specs.raid_types_the_Refusal_TheVariants.{SlotFault}
use Rattle.array_type.specs.raid_types_the_Fault_TheVariants.{Refused as IsRefusedWith}
use Rattle.array_type.specs.bank_Given.{Given}
use Rattle.array_type.specs.sb_specs_the_Members.{Members}
use Rattle.array_type.specs.sb_specs_Reading.{list_length, is_clean}
use Rattle.array_type.specs.history_the_Entry.{Entry}
use Rattle.array_type.specs.history_the_Event_TheVariants.{Refused}
use Rattle.array_type.specs.history_Flat.{next_number}
use Rattle.array_type.specs.history_Plain.{entries_of}
use Rattle.array_type.proofs.array_members_MovedLaws.{grows-none, moved-same}
use Rattle.array_type.specs.array_call_specs_Calls.{IsUnaddable, IsAddedFor, IsWorkAdded}
use Rattle.array_type.proofs.array_call_specs_LossLaws.{ended-behind}
use Rattle.array_type.proofs.array_call_specs_ReadyLaws.{scope-same}
use Rattle.array_type.proofs.array_call_laws_AddLaws.{slot-there, unadded_reply}
use Rattle.array_type.proofs.history_invariant_Records.{begins-going}
use Rattle.array_type.proofs.array_specs_Called.{alone-lossless, not_254, called}
use Rattle.array_type.proofs.array_specs_Lengths.{alone-keeps}
use Rattle.array_type.proofs.array_fixed_laws_Kept.{ready, rows-same, roomier}
use Rattle.array_type.proofs.array_fixed_laws_StepLaws.{shapes-same, stepped, refused-going}
use Rattle.array_type.proofs.array_fixed_laws_AddLaws.{unaddable-refused}
use Rattle.array_type.proofs.array_fixed_laws_PlainAdds.{unaddable-plain}
use Rattle.array_type.specs.sb_specs_Reads.{has_spare}
use Rattle.array_type.specs.array_members_Numbers.{bears}
use Rattle.array_type.specs.array_members_Placed.{AreWhole, AreStillHeld}
use Rattle.array_type.proofs.array_call_laws_AddedNumbers.{work-kept}
use Rattle.array_type.proofs.Asked.{entries-alike, undone-stepped}
use Rattle.array_type.specs.array_call_specs_Kept.{scope_in}
use Rattle.array_type.proofs.array_reshaping_invariant_AddedSpare.{unadded-moves}
use Rattle.array_type.specs.array_specs_Parts.{left_in}
use Rattle.array_type.specs.array_reshaping_laws_Ready.{bytes_in}
use Rattle.array_type.proofs.array_reshaping_laws_AddLaws.{with-room, still-called, none-added}
use Rattle.array_type.proofs.array_reshaping_laws_Kept.{ready as r-ready, shapes-same as r-shapes-same}
use Rattle.array_type.specs.stripe_row_Rows.{present}
use Rattle.array_type.specs.array_members_Lacking.{HaveRolesFailed}
use Rattle.array_type.proofs.Rest.{on-both}
use Rattle.array_type.proofs.Alike.{alike, goes-on, stays-at-rest}
use Rattle.array_type.specs.sb_specs_Reading.{is_reshaping}
use Rattle.array_calls.proofs.adding.add.Goals as goal

-- a refusal before the slot is touched
unadded-for : (T : Type 0) (given : Given) (backup : Option ℕ) (slot : ℕ) (old new : Members) (before after : ℕ → ℕ) (refusal : Refusal) → IsUnaddable given backup slot old refusal → new ≡ old
    → IsAddedFor {T = T} given backup slot old new before after (Err (IsRefusedWith refusal))
unadded-for T given backup slot old new before after (SlotFault failed) why same = absurd why
unadded-for T given backup slot old new before after refusal why same = (why, same)

pub invariant_of-array-2 : goal.invariant_of-array-2
invariant_of-array-2 g c =
    on-both (is_reshaping c.array.inside.members.newest)
    (λ active. goes-on (c.array.invariant.moves active).0 (
    let was = (c.array.invariant.moves active).1 in
    let a = c.array.inside in
    let given = g.B.Bank.given a.bank in
    let refusal = c.in-Some.refusal in
    let end = c.ops-end.result in
    let number : c.args.who.number ≡ next_number c.args.who.caller a.epoch.entries.items = c.requires.next ∙ ap (λ p. next_number c.args.who.caller p.parts.entries) (sym c.array.view_is) in
    r-ready (entries_of c.args.who end (Refused refusal ∷ [])) was (grows-none (λ t. refl)) (r-shapes-same a.members.newest)
    (unadded-moves g.B.Bank.tells given (g.B.Bank.tape a.bank) (scope_in given a.epoch.uuid a.epoch.given a.backup) a.epoch.first a.epoch.entries.items a.members (bears a.work) a.work.resync a.course
    (bytes_in a.course.window a.window.items) (left_in a.work a.members a.course a.ahead) c.args.who end a.backup c.args.slot refusal
    was.kept (begins-going a.epoch.entries.items c.args.who number) (not_254 c.args.who.caller c.requires.caller) c.ops-end.ensures.count c.in-Some.ensures)
    refl (λ slot. omega arith) (alone-keeps c.args.who end (Refused refusal) (λ n. refl) (λ limit. refl)) (λ none whole. whole) refl (scope-same given a.backup refl c.append_entry.ensures.uuid c.append_entry.ensures.given) c.append_entry.ensures.first c.make_room.ensures.items c.append_entry.ensures.items
    (omega (arith, c.append_entry.ensures.room, c.in-Ok.ensures.ok))))
    (λ still. stays-at-rest (c.array.invariant.rests still).0 (
    let was = (c.array.invariant.rests still).1 in
    let a = c.array.inside in
    let given = g.B.Bank.given a.bank in
    let refusal = c.in-Some.refusal in
    let end = c.ops-end.result in
    let number : c.args.who.number ≡ next_number c.args.who.caller a.epoch.entries.items = c.requires.next ∙ ap (λ p. next_number c.args.who.caller p.parts.entries) (sym c.array.view_is) in
    ready (entries_of c.args.who end (Refused refusal ∷ [])) was (rows-same a.members.newest)
    (refused-going c.args.who end refusal was.kept (begins-going a.epoch.entries.items c.args.who number) c.requires.caller c.ops-end.ensures.count
    (unaddable-refused given a.backup c.args.slot a.members a.work.resync refusal c.in-Some.ensures))
    (unaddable-plain was c.args.who end (begins-going a.epoch.entries.items c.args.who number) c.requires.caller c.ops-end.ensures.count c.args.slot a.backup refl refusal c.in-Some.ensures)
    (λ slot. omega arith) (alone-keeps c.args.who end (Refused refusal) (λ n. refl) (λ limit. refl))
    refl (scope-same given a.backup refl c.append_entry.ensures.uuid c.append_entry.ensures.given) c.append_entry.ensures.first c.make_room.ensures.items c.append_entry.ensures.items
    (omega (arith, c.append_entry.ensures.room, c.in-Ok.ensures.ok))))

pub returns-clause-answered : goal.returns-clause-answered
returns-clause-answered g c =
    let refusal = c.in-Some.refusal in
    let a = c.array.inside in
    let number : c.args.who.number ≡ next_number c.args.who.caller a.epoch.entries.items = c.requires.next ∙ ap (λ p. next_number c.args.who.caller p.parts.entries) (sym c.array.view_is) in
    rw (← c.array.view_is) (unadded_reply (g.B.Bank.given a.bank) a.backup a.members (list_length a.members.newest) c.args.who a.epoch.entries.items c.append_entry.new.epoch.entries.items
    c.ops-end.result c.args.slot refusal c.in-Some.ensures
    (c.append_entry.ensures.items ∙ ap (λ (l : List Entry). l ++ entries_of c.args.who c.ops-end.result (Refused refusal ∷ [])) c.make_room.ensures.items) number)

pub returns-clause-stepped : goal.returns-clause-stepped
returns-clause-stepped g c =
    let was = (alike c.array.invariant) in
    let a = c.array.inside in
    let faults = g.B.Bank.faults_of a.bank in
    let event = Refused c.in-Some.refusal in
    rw (← c.array.view_is) (stepped (grows-none (λ t. refl)) (shapes-same a.members.newest)
    (ended-behind (g.B.Bank.tape a.bank) c.append_entry.new.epoch.first c.make_room.new.self.items c.args.who c.ops-end.result [] event c.append_entry.ensures.items c.ops-end.ensures.count)
    (λ role slot held. inl held)
    (alone-lossless a.members faults faults a.epoch.entries.items c.make_room.new.self.items c.append_entry.new.epoch.entries.items c.args.who c.ops-end.result event tt c.make_room.ensures.items c.append_entry.ensures.items)
    (λ slot. omega arith)
    (record { uuid = c.append_entry.ensures.uuid; given = c.append_entry.ensures.given; first = c.append_entry.ensures.first; backup = refl; ahead = refl; limit = refl })
    (λ t. (was.kept.recorded t).begun))

pub is_held_up-requires : goal.is_held_up-requires
is_held_up-requires g c =
    let a = c.array.inside in
    rw (← c.array.view_is) (record { slot = slot-there (g.B.Bank.given a.bank) a.backup c.args.slot a.members (alike c.array.invariant).kept.members_are.placed c.in_default.ensures })

pub make_spare-requires-clause-addable : goal.make_spare-requires-clause-addable
make_spare-requires-clause-addable g c =
    rw (← c.array.view_is) c.in_default.ensures

pub returns-clause-caused : goal.returns-clause-caused
returns-clause-caused g c =
    unadded-for unit.Denot (g.B.Bank.given c.args.array.now.parts.bank) c.args.array.now.parts.backup c.args.slot c.args.array.now.parts.members c.array.inside.members (g.B.Bank.faults_of c.args.array.now.parts.bank) (g.B.Bank.faults_of c.array.inside.bank)
    c.in-Some.refusal (subst (λ v. IsUnaddable (g.B.Bank.given v.parts.bank) v.parts.backup c.args.slot v.parts.members c.in-Some.refusal) c.array.view_is c.in-Some.ensures) (ap (λ p. p.parts.members) c.array.view_is)

-- ---- what else the calls ask

pub check_number-requires : goal.check_number-requires
check_number-requires g c =
    c.requires.next ∙ ap (λ p. next_number c.args.who.caller p.parts.entries) (sym c.array.view_is) ∙ ap (λ (l : List Entry). next_number c.args.who.caller l) (sym c.make_room.ensures.items)

-- ---- no number is left, or the slot is held up

pub returns-in_default-free_number-clause-stepped : goal.returns-in_default-free_number-clause-stepped
returns-in_default-free_number-clause-stepped g c =
    let kept = (alike c.array.invariant).kept in
    rw (← c.array.view_is) (undone-stepped (λ t. (kept.recorded t).ended) (λ t. (kept.recorded t).begun) refl)

pub returns-in_default-free_number-clause-work : goal.returns-in_default-free_number-clause-work
returns-in_default-free_number-clause-work g c =
    work-kept c.args.array.now.parts.members.newest c.args.slot c.args.array.now.parts.work

pub returns-in_default-free_number-clause-spares : goal.returns-in_default-free_number-clause-spares
returns-in_default-free_number-clause-spares g c =
    λ s is. inl is

pub returns-then-is_held_up-clause-stepped : goal.returns-then-is_held_up-clause-stepped
returns-then-is_held_up-clause-stepped g c =
    let kept = (alike c.array.invariant).kept in
    rw (← c.array.view_is) (undone-stepped (λ t. (kept.recorded t).ended) (λ t. (kept.recorded t).begun) refl)

pub returns-then-is_held_up-clause-work : goal.returns-then-is_held_up-clause-work
returns-then-is_held_up-clause-work g c =
    work-kept c.args.array.now.parts.members.newest c.args.slot c.args.array.now.parts.work

pub returns-then-is_held_up-clause-spares : goal.returns-then-is_held_up-clause-spares
returns-then-is_held_up-clause-spares g c =
    λ s is. inl is

-- ---- memory was short

pub invariant_of-array : goal.invariant_of-array
invariant_of-array g c =
    on-both (is_reshaping c.array.inside.members.newest)
    (λ active. goes-on (c.array.invariant.moves active).0 (with-room c.make_room.ensures.items (omega (arith, (c.array.invariant.moves active).1.room_left, c.in-Err.ensures.keeps)) (c.array.invariant.moves active).1))
    (λ still. stays-at-rest (c.array.invariant.rests still).0 (roomier (c.array.invariant.rests still).1 c.make_room.ensures.items c.make_room.ensures.keeps))

pub returns-in-Err-clause-answered : goal.returns-in-Err-clause-answered
returns-in-Err-clause-answered g c =
    c.make_room.ensures.items ∙ ap (λ p. p.parts.entries) c.array.view_is

pub returns-in-Err-clause-unchanged : goal.returns-in-Err-clause-unchanged
returns-in-Err-clause-unchanged g c =
    entries-alike c.make_room.new.self.items c.array.view_is c.make_room.ensures.items

pub returns-in-Err-clause-stepped : goal.returns-in-Err-clause-stepped
returns-in-Err-clause-stepped g c =
    let kept = (alike c.array.invariant).kept in
    rw (← c.array.view_is) (undone-stepped (λ t. (kept.recorded t).ended) (λ t. (kept.recorded t).begun) (entries-alike c.make_room.new.self.items refl c.make_room.ensures.items))

pub returns-in-Err-clause-caused : goal.returns-in-Err-clause-caused
returns-in-Err-clause-caused g c =
    ap (λ p. p.parts.members) c.array.view_is

pub returns-in-Err-clause-whole : goal.returns-in-Err-clause-whole
returns-in-Err-clause-whole g c =
    subst (λ p. AreWhole c.array.inside.members → AreWhole p.parts.members) c.array.view_is (λ whole. whole)

pub returns-in-Err-clause-work : goal.returns-in-Err-clause-work
returns-in-Err-clause-work g c =
    subst (λ p. IsWorkAdded p.parts.members.newest c.args.slot p.parts.work c.array.inside.work) c.array.view_is (work-kept c.array.inside.members.newest c.args.slot c.array.inside.work)

pub returns-in-Err-clause-numbers : goal.returns-in-Err-clause-numbers
returns-in-Err-clause-numbers g c =
    subst (λ p. (number : ℕ) → bears p.parts.work c.args.slot number ≡ true → bears c.array.inside.work c.args.slot number ≡ true) c.array.view_is (λ number is. is)

pub returns-in-Err-clause-spares : goal.returns-in-Err-clause-spares
returns-in-Err-clause-spares g c =
    subst (λ p. (s : ℕ) → has_spare c.array.inside.members.spares s ≡ true → (has_spare p.parts.members.spares s ≡ true) ⊎ (s ≡ c.args.slot)) c.array.view_is (λ s is. inl is)

pub returns-in-Err-clause-held : goal.returns-in-Err-clause-held
returns-in-Err-clause-held g c =
    subst (λ p. AreStillHeld p.parts.members c.array.inside.members) c.array.view_is (λ role slot held. held)

-- ---- what is as it was

pub returns-clause-whole : goal.returns-clause-whole
returns-clause-whole g c =
    subst (λ p. AreWhole c.array.inside.members → AreWhole p.parts.members) c.array.view_is (λ whole. whole)

pub returns-clause-work : goal.returns-clause-work
returns-clause-work g c =
    subst (λ p. IsWorkAdded p.parts.members.newest c.args.slot p.parts.work c.array.inside.work) c.array.view_is (work-kept c.array.inside.members.newest c.args.slot c.array.inside.work)

pub returns-clause-numbers : goal.returns-clause-numbers
returns-clause-numbers g c =
    subst (λ p. (number : ℕ) → bears p.parts.work c.args.slot number ≡ true → bears c.array.inside.work c.args.slot number ≡ true) c.array.view_is (λ number is. is)

pub returns-clause-spares : goal.returns-clause-spares
returns-clause-spares g c =
    subst (λ p. (s : ℕ) → has_spare c.array.inside.members.spares s ≡ true → (has_spare p.parts.members.spares s ≡ true) ⊎ (s ≡ c.args.slot)) c.array.view_is (λ s is. inl is)

pub returns-clause-held : goal.returns-clause-held
returns-clause-held g c =
    subst (λ p. AreStillHeld p.parts.members c.array.inside.members) c.array.view_is (λ role slot held. held)

pub returns-clause-clean : goal.returns-clause-clean
returns-clause-clean g c =
    ap (λ p. is_clean p.parts.members.newest) c.array.view_is

pub returns-clause-given : goal.returns-clause-given
returns-clause-given g c =
    ap (λ p. g.B.Bank.given p.parts.bank) c.array.view_is

pub returns-in_default-free_number-clause-called : goal.returns-in_default-free_number-clause-called
returns-in_default-free_number-clause-called g c =
    rw (← c.array.view_is) (still-called refl refl (λ t. ((alike c.array.invariant).kept.recorded t).ended))

pub returns-then-is_held_up-clause-called : goal.returns-then-is_held_up-clause-called
returns-then-is_held_up-clause-called g c =
    rw (← c.array.view_is) (still-called refl refl (λ t. ((alike c.array.invariant).kept.recorded t).ended))

pub returns-in-Err-clause-called : goal.returns-in-Err-clause-called
returns-in-Err-clause-called g c =
    rw (← c.array.view_is) (still-called c.make_room.ensures.items refl (λ t. ((alike c.array.invariant).kept.recorded t).ended))

pub returns-clause-called : goal.returns-clause-called
returns-clause-called g c =
    let was = (alike c.array.invariant) in
    let a = c.array.inside in
    let given = g.B.Bank.given a.bank in
    let faults = g.B.Bank.faults_of a.bank in
    let end = c.ops-end.result in
    let refusal = c.in-Some.refusal in
    rw (← c.array.view_is) (none-added (called (grows-none (λ t. refl)) (moved-same given given a.members a.members refl refl was.kept.members_are.placed was.kept.members_are.unlost)
    (ended-behind (g.B.Bank.tape a.bank) c.append_entry.new.epoch.first c.make_room.new.self.items c.args.who end [] (Refused refusal) c.append_entry.ensures.items c.ops-end.ensures.count)
    (alone-lossless a.members faults faults a.epoch.entries.items c.make_room.new.self.items c.append_entry.new.epoch.entries.items c.args.who end (Refused refusal) tt c.make_room.ensures.items c.append_entry.ensures.items)
    (λ slot. omega arith)
    (record { uuid = c.append_entry.ensures.uuid; given = c.append_entry.ensures.given; first = c.append_entry.ensures.first; backup = refl; work = refl; ahead = refl; limit = refl })
    (λ t. (was.kept.recorded t).begun)))

pub returns-clause-failed : goal.returns-clause-failed
returns-clause-failed g c =
    subst (λ p. HaveRolesFailed p.parts.members c.array.inside.members (g.B.Bank.faults_of p.parts.bank) (g.B.Bank.faults_of c.array.inside.bank)) c.array.view_is (λ role slot held. inl held)

pub returns-in-Err-clause-failed : goal.returns-in-Err-clause-failed
returns-in-Err-clause-failed g c =
    subst (λ p. HaveRolesFailed p.parts.members c.array.inside.members (g.B.Bank.faults_of p.parts.bank) (g.B.Bank.faults_of c.array.inside.bank)) c.array.view_is (λ role slot held. inl held)

pub returns-clause-course : goal.returns-clause-course
returns-clause-course g c =
    ap (λ p. p.course) c.array.view_is

pub returns-clause-others : goal.returns-clause-others
returns-clause-others g c =
    λ t s k ne. ap (λ p. present (g.B.Bank.given c.args.array.now.parts.bank) (g.B.Bank.tape p.parts.bank) s k) c.array.view_is

pub returns-clause-active : goal.returns-clause-active
returns-clause-active g c =
    ap (λ p. is_reshaping p.parts.members.newest) c.array.view_is

pub returns-in-Err-clause-active : goal.returns-in-Err-clause-active
returns-in-Err-clause-active g c =
    ap (λ p. is_reshaping p.parts.members.newest) c.array.view_is

pub returns-in_default-free_number-clause-active : goal.returns-in_default-free_number-clause-active
returns-in_default-free_number-clause-active g c =
    refl

pub returns-then-is_held_up-clause-active : goal.returns-then-is_held_up-clause-active
returns-then-is_held_up-clause-active g c =
    refl
