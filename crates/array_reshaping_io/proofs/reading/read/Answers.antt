use Rattle.std.proofs.Common.{inl, ◌≡◌, ◌+◌, ◌/◌, ◌≤◌, ◌++◌, ◌∷◌, [], ℕ, Option, Result, Ok, Err, List, length, refl, sym, ◌∙◌, ap, subst, arith, append-nil}
use Rattle.std.specs.Prelude.{OnOk}
use Rattle.std.proofs.lemmas.List.Elements.{All-nil}
use Rattle.array_reshaping_steps.specs.raid_types_the_Span.{Span}
use Rattle.array_reshaping_steps.specs.raid_types_Sectors.{Sector, sectors_of}
use Rattle.array_reshaping_steps.proofs.raid_types_SectorLaws.{length-sectors_of}
use Rattle.array_reshaping_steps.specs.sb_specs_Reading.{list_length, is_clean, is_reshaping}
use Rattle.array_reshaping_steps.specs.history_the_Entry.{Entry}
use Rattle.array_reshaping_steps.specs.history_the_Event_TheVariants.{Read, Refused}
use Rattle.array_reshaping_steps.specs.history_the_Request_TheVariants.{Read as AsksRead}
use Rattle.array_reshaping_steps.specs.history_World.{opening_list}
use Rattle.array_reshaping_steps.specs.history_Flat.{next_number, now}
use Rattle.array_reshaping_steps.specs.history_Plain.{entries_of}
use Rattle.array_reshaping_steps.specs.history_Transfers.{last_end_from}
use Rattle.array_reshaping_steps.specs.array_members_Rebuilding.{Held}
use Rattle.array_reshaping_steps.specs.array_members_Numbers.{bears}
use Rattle.array_reshaping_steps.proofs.array_members_MovedLaws.{grows-none, moved-same}
use Rattle.array_reshaping_steps.proofs.history_append_CallLaws.{torn-losses}
use Rattle.array_reshaping_steps.specs.array_call_specs_Kept.{scope_in}
use Rattle.array_reshaping_steps.specs.array_call_specs_Calls.{IsLossBy, WasSpare, IsRefusedFor, IsAnswered, OnNoMemory}
use Rattle.array_reshaping_steps.proofs.array_call_specs_LossLaws.{ended-behind}
use Rattle.array_reshaping_steps.proofs.array_call_specs_ReadyLaws.{scope-same, list-same}
use Rattle.array_reshaping_steps.proofs.array_call_specs_ReplyLaws.{inside-losses, replied}
use Rattle.array_reshaping_steps.specs.stripe_region_resync_Resyncs.{relied_sector}
use Rattle.array_reshaping_steps.specs.reshape_progress_Course.{hidden_in}
use Rattle.array_reshaping_steps.specs.array_reshaping_state_First.{IsUnreadAround}
use Rattle.array_reshaping_steps.specs.history_invariant_Safe.{world_in}
use Rattle.array_reshaping_steps.proofs.history_invariant_Records.{begins-going}
use Rattle.array_reshaping_steps.specs.history_invariant_laws_Reliable.{IsReliable}
use Rattle.array_reshaping_steps.proofs.array_reshaping_invariant_Refusals.{quiet-refusal}
use Rattle.array_reshaping_steps.proofs.array_reshaping_invariant_Resting.{resting-moves}
use Rattle.array_reshaping_steps.specs.array_specs_Parts.{visible_size, left_in}
use Rattle.array_reshaping_steps.specs.array_reshaping_laws_Ready.{bytes_in}
use Rattle.array_reshaping_steps.specs.array_specs_Calls.{moving_world, IsCalled}
use Rattle.array_reshaping_steps.proofs.array_reshaping_laws_Kept.{ready, shapes-same}
use Rattle.array_reshaping_steps.proofs.array_specs_Called.{not_254, alone-lossless, called}
use Rattle.array_reshaping_steps.proofs.array_reshaping_laws_Reading.{none-read, read-quiet, no-sectors, first-right, first-reply}
use Rattle.array_reshaping_steps.specs.raid_types_the_Fault.{Fault as AnyFault}
use Rattle.array_reshaping_steps.specs.raid_types_the_Fault_TheVariants.{Refused as IsRefusedWith, NoMemory}
use Rattle.array_reshaping_steps.specs.bank_Tape.{AreSectors}
use Rattle.array_reshaping_steps.proofs.array_reshaping_laws_WriteLaws.{roomed, called-roomed}
use Rattle.array_reshaping_steps.proofs.array_reshaping_laws_FirstLaws.{first-short, first-told, first-none, first-seen}
use Rattle.array_reshaping_steps.proofs.array_type_ReshapingCalls.{still-called, one-of-51, whole-as, some-of, called-over, never-falls}
use Rattle.array_reshaping_steps.specs.stripe_row_Rows.{present}
use Rattle.array_reshaping_steps.specs.array_members_Lacking.{HaveRolesFailed}
use Rattle.array_reshaping_steps.proofs.array_specs_Lengths.{alone-keeps}
use Rattle.array_reshaping_steps.proofs.array_type_Alike.{alike, goes-on}
use Rattle.array_reshaping_io.proofs.reading.read.Goals as goal

-- what follows where memory is short, where it never is
never-short : {T : Type 0} (result : Result T AnyFault) (P : Type 0) → OnNoMemory result ⊥ → OnNoMemory result P
never-short (Ok x) P none = tt
never-short (Err (IsRefusedWith refusal)) P none = tt
never-short (Err NoMemory) P none = absurd none

-- ---- refused before any sector is read

pub invariant_of-moving-in-Some : goal.invariant_of-moving-in-Some
invariant_of-moving-in-Some g c =
    goes-on (c.moving.invariant.moves (ap (λ p. is_reshaping p.parts.members.newest) c.moving.view_is ∙ c.requires.active)).0 (
    let was = (c.moving.invariant.moves (ap (λ p. is_reshaping p.parts.members.newest) c.moving.view_is ∙ c.requires.active)).1 in
    let a = c.moving.inside in
    let given = g.B.Bank.given a.bank in
    let scope = scope_in given a.epoch.uuid a.epoch.given a.backup in
    let number : c.args.who.number ≡ next_number c.args.who.caller a.epoch.entries.items = c.requires.next ∙ ap (λ p. next_number c.args.who.caller p.parts.entries) (sym c.moving.view_is) in
    let tape = g.B.Bank.tape a.bank in
    let end = c.ops-end.result in
    let refusal = c.in-Some.refusal in
    let count = length c.args.into.now / 512 in
    let size = visible_size a.members a.limit in
    let hidden = c.backed_up_span-hidden.result in
    let relied = c.relied_sector-relied.result in
    let why = subst (λ (n : ℕ). IsRefusedFor n (c.args.at + count) (IsUnreadAround hidden relied c.args.at (c.args.at + count)) a.members a.members refusal) c.visible-sectors.ensures.value c.in-Some.ensures.why in
    let kept = resting-moves g.B.Bank.tells given tape scope a.epoch.first a.epoch.entries.items a.members (bears a.work) a.work.resync a.course (bytes_in a.course.window a.window.items) (left_in a.work a.members a.course a.ahead)
    c.args.who end (Refused refusal) was.kept (begins-going a.epoch.entries.items c.args.who number) (not_254 c.args.who.caller c.requires.caller) c.ops-end.ensures.count (quiet-refusal refusal) (λ told is. is)
    (first-right was.kept was.limited hidden relied c.args.at (c.args.at + count) refusal c.relied_sector-relied.ensures.value why) in
    ready (entries_of c.args.who end (Refused refusal ∷ [])) was (grows-none (λ t. refl)) (shapes-same a.members.newest) kept
    refl (never-falls _) (alone-keeps c.args.who end (Refused refusal) (λ n. refl) (λ limit. refl)) (λ none whole. whole) refl (scope-same given a.backup refl c.append_entry.ensures.uuid c.append_entry.ensures.given) c.append_entry.ensures.first c.make_room.ensures.items c.append_entry.ensures.items
    (omega (arith, c.append_entry.ensures.room, c.in-Ok-make_room.ensures.ok)))

pub returns-in-Some-clause-answered : goal.returns-in-Some-clause-answered
returns-in-Some-clause-answered g c =
    let was = (alike c.moving.invariant) in
    let a = c.moving.inside in
    let number : c.args.who.number ≡ next_number c.args.who.caller a.epoch.entries.items = c.requires.next ∙ ap (λ p. next_number c.args.who.caller p.parts.entries) (sym c.moving.view_is) in
    let count = length c.args.into.now / 512 in
    let size = visible_size a.members a.limit in
    let refusal = c.in-Some.refusal in
    let hidden = c.backed_up_span-hidden.result in
    let relied = c.relied_sector-relied.result in
    let why = subst (λ (n : ℕ). IsRefusedFor n (c.args.at + count) (IsUnreadAround hidden relied c.args.at (c.args.at + count)) a.members a.members refusal) c.visible-sectors.ensures.value c.in-Some.ensures.why in
    rw (← c.moving.view_is) (first-reply a.members hidden relied a.limit a.epoch.entries.items was.sized was.limited c.args.who c.args.at count c.append_entry.new.epoch.entries.items c.ops-end.result refusal why
    (c.append_entry.ensures.items ∙ ap (λ (l : List Entry). l ++ entries_of c.args.who c.ops-end.result (Refused refusal ∷ [])) c.make_room.ensures.items) number)

pub returns-in-Some-clause-called : goal.returns-in-Some-clause-called
returns-in-Some-clause-called g c =
    let was = (alike c.moving.invariant) in
    let a = c.moving.inside in
    let given = g.B.Bank.given a.bank in
    let scope = scope_in given a.epoch.uuid a.epoch.given a.backup in
    let end = c.ops-end.result in
    let refusal = c.in-Some.refusal in
    called-over g.B.Bank.given g.B.Bank.tape g.B.Bank.faults_of c.moving.view_is (record {
      grows = grows-none (λ t. refl);
      ended = ended-behind (g.B.Bank.tape a.bank) c.append_entry.new.epoch.first c.make_room.new.self.items c.args.who end [] (Refused refusal) c.append_entry.ensures.items c.ops-end.ensures.count;
      held = λ role slot held. held;
      spares = λ slot spare. spare;
      losses = alone-lossless a.members (g.B.Bank.faults_of a.bank) (g.B.Bank.faults_of a.bank) a.epoch.entries.items c.make_room.new.self.items c.append_entry.new.epoch.entries.items c.args.who end (Refused refusal) tt c.make_room.ensures.items c.append_entry.ensures.items;
      never_falls = never-falls _;
      work = refl;
      same = record {
        array = record {
          uuid = c.append_entry.ensures.uuid;
          given = c.append_entry.ensures.given;
          first = c.append_entry.ensures.first;
          backup = refl;
          shape = refl;
          size = refl;
          list = list-same given scope a.epoch.first refl (scope-same given a.backup refl c.append_entry.ensures.uuid c.append_entry.ensures.given) c.append_entry.ensures.first (grows-none (λ t. refl)) (λ t. (was.kept.recorded t).begun);
        };
        final = refl;
        backward = refl;
        ahead = refl;
        limit = refl;
      };
    })

pub returns-in-Some-clause-caused : goal.returns-in-Some-clause-caused
returns-in-Some-clause-caused g c =
    let a = c.moving.inside in
    let to = c.args.at + length c.args.into.now / 512 in
    let size = visible_size a.members a.limit in
    let refusal = c.in-Some.refusal in
    rw (← c.moving.view_is) (subst (λ (o : Option Span). IsRefusedFor size to (IsUnreadAround o (relied_sector a.members.newest a.work.resync) c.args.at to) a.members a.members refusal) c.backed_up_span-hidden.ensures
    (subst (λ (n : ℕ). IsRefusedFor size to (IsUnreadAround c.backed_up_span-hidden.result n c.args.at to) a.members a.members refusal) c.relied_sector-relied.ensures.value
    (subst (λ (n : ℕ). IsRefusedFor n to (IsUnreadAround c.backed_up_span-hidden.result c.relied_sector-relied.result c.args.at to) a.members a.members refusal) c.visible-sectors.ensures.value c.in-Some.ensures.why)))

-- ---- none are asked for

pub invariant_of-moving-then-asked-eq0 : goal.invariant_of-moving-then-asked-eq0
invariant_of-moving-then-asked-eq0 g c =
    goes-on (c.moving.invariant.moves (ap (λ p. is_reshaping p.parts.members.newest) c.moving.view_is ∙ c.requires.active)).0 (
    let was = (c.moving.invariant.moves (ap (λ p. is_reshaping p.parts.members.newest) c.moving.view_is ∙ c.requires.active)).1 in
    let a = c.moving.inside in
    let given = g.B.Bank.given a.bank in
    let scope = scope_in given a.epoch.uuid a.epoch.given a.backup in
    let number : c.args.who.number ≡ next_number c.args.who.caller a.epoch.entries.items = c.requires.next ∙ ap (λ p. next_number c.args.who.caller p.parts.entries) (sym c.moving.view_is) in
    let tape = g.B.Bank.tape a.bank in
    let end = c.ops-end-then-asked-eq0.result in
    let body = c.from_bytes-body.result in
    let count = length c.args.into.now / 512 in
    let zero = c.if-asked-eq0.true in
    let none : length body ≡ 0 = ap (λ (l : List Sector). length l) (c.from_bytes-body.ensures ∙ no-sectors c.in-Ok.bytes.items (ap (λ (n : ℕ). n / 512) c.in-Ok.ensures.len ∙ zero)) in
    let within : c.args.at ≤ visible_size a.members a.limit = let below = c.in_default.ensures.why.0 in let sectors = c.visible-sectors.ensures.value in omega (arith, below, sectors) in
    let kept = resting-moves g.B.Bank.tells given tape scope a.epoch.first a.epoch.entries.items a.members (bears a.work) a.work.resync a.course (bytes_in a.course.window a.window.items) (left_in a.work a.members a.course a.ahead)
    c.args.who end (Read c.args.at body) was.kept (begins-going a.epoch.entries.items c.args.who number) (not_254 c.args.who.caller c.requires.caller) c.ops-end-then-asked-eq0.ensures.count (read-quiet c.args.at body) (λ told is. is)
    (none-read was.kept was.limited c.args.at body none within) in
    ready (entries_of c.args.who end (Read c.args.at body ∷ [])) was (grows-none (λ t. refl)) (shapes-same a.members.newest) kept
    refl (never-falls _) (alone-keeps c.args.who end (Read c.args.at body) (λ n. refl) (λ limit. refl)) (λ none whole. whole) refl (scope-same given a.backup refl c.append_entry-then-asked-eq0.ensures.uuid c.append_entry-then-asked-eq0.ensures.given)
    c.append_entry-then-asked-eq0.ensures.first c.make_room.ensures.items c.append_entry-then-asked-eq0.ensures.items
    (omega (arith, c.append_entry-then-asked-eq0.ensures.room, c.in-Ok-make_room.ensures.ok)))

pub returns-then-asked-eq0-clause-answered : goal.returns-then-asked-eq0-clause-answered
returns-then-asked-eq0-clause-answered g c =
    let a = c.moving.inside in
    let number : c.args.who.number ≡ next_number c.args.who.caller a.epoch.entries.items = c.requires.next ∙ ap (λ p. next_number c.args.who.caller p.parts.entries) (sym c.moving.view_is) in
    let end = c.ops-end-then-asked-eq0.result in
    let body = c.from_bytes-body.result in
    let count = length c.args.into.now / 512 in
    let zero = c.if-asked-eq0.true in
    let same : body ≡ sectors_of c.args.into.now =
    c.from_bytes-body.ensures ∙ no-sectors c.in-Ok.bytes.items (ap (λ (n : ℕ). n / 512) c.in-Ok.ensures.len ∙ zero) ∙ sym (no-sectors c.args.into.now zero) in
    rw (← c.moving.view_is) (replied (list_length a.members.newest) (AsksRead c.args.at count) c.args.who a.epoch.entries.items c.append_entry-then-asked-eq0.new.epoch.entries.items end [] (Read c.args.at (sectors_of c.args.into.now))
    (c.append_entry-then-asked-eq0.ensures.items ∙ ap (λ (l : List Entry). l ++ entries_of c.args.who end (Read c.args.at body ∷ [])) c.make_room.ensures.items
    ∙ ap (λ (b : List Sector). a.epoch.entries.items ++ entries_of c.args.who end (Read c.args.at b ∷ [])) same)
    number (λ call. (refl, length-sectors_of c.args.into.now)) (inside-losses c.args.who end [] tt) (torn-losses (AsksRead c.args.at count) c.args.who end [] tt))

pub returns-then-asked-eq0-clause-called : goal.returns-then-asked-eq0-clause-called
returns-then-asked-eq0-clause-called g c =
    let was = (alike c.moving.invariant) in
    let a = c.moving.inside in
    let given = g.B.Bank.given a.bank in
    let scope = scope_in given a.epoch.uuid a.epoch.given a.backup in
    let end = c.ops-end-then-asked-eq0.result in
    let event = Read c.args.at c.from_bytes-body.result in
    called-over g.B.Bank.given g.B.Bank.tape g.B.Bank.faults_of c.moving.view_is (record {
      grows = grows-none (λ t. refl);
      ended = ended-behind (g.B.Bank.tape a.bank) c.append_entry-then-asked-eq0.new.epoch.first c.make_room.new.self.items c.args.who end [] event c.append_entry-then-asked-eq0.ensures.items c.ops-end-then-asked-eq0.ensures.count;
      held = λ role slot held. held;
      spares = λ slot spare. spare;
      losses = alone-lossless a.members (g.B.Bank.faults_of a.bank) (g.B.Bank.faults_of a.bank) a.epoch.entries.items c.make_room.new.self.items c.append_entry-then-asked-eq0.new.epoch.entries.items c.args.who end event tt
          c.make_room.ensures.items c.append_entry-then-asked-eq0.ensures.items;
      never_falls = never-falls _;
      work = refl;
      same = record {
        array = record {
          uuid = c.append_entry-then-asked-eq0.ensures.uuid;
          given = c.append_entry-then-asked-eq0.ensures.given;
          first = c.append_entry-then-asked-eq0.ensures.first;
          backup = refl;
          shape = refl;
          size = refl;
          list = list-same given scope a.epoch.first refl (scope-same given a.backup refl c.append_entry-then-asked-eq0.ensures.uuid c.append_entry-then-asked-eq0.ensures.given) c.append_entry-then-asked-eq0.ensures.first
              (grows-none (λ t. refl)) (λ t. (was.kept.recorded t).begun);
        };
        final = refl;
        backward = refl;
        ahead = refl;
        limit = refl;
      };
    })

pub returns-then-asked-eq0-clause-caused : goal.returns-then-asked-eq0-clause-caused
returns-then-asked-eq0-clause-caused g c =
    let below = c.in_default.ensures.why.0 in
    let sectors = c.visible-sectors.ensures.value in
    let a = c.moving.inside in
    let to = c.args.at + length c.args.into.now / 512 in
    rw (← c.moving.view_is) (
      omega (arith, below, sectors),
      λ refusal why. c.in_default.ensures.why.1 refusal (subst (λ (o : Option Span). IsUnreadAround o c.relied_sector-relied.result c.args.at to a.members refusal) (sym c.backed_up_span-hidden.ensures)
          (subst (λ (n : ℕ). IsUnreadAround (hidden_in a.course.window) n c.args.at to a.members refusal) (sym c.relied_sector-relied.ensures.value) why)),
    )

-- ---- memory is short

pub returns-in-Err-make_room-clause-called : goal.returns-in-Err-make_room-clause-called
returns-in-Err-make_room-clause-called g c =
    let was = (alike c.moving.invariant) in
    let a = c.moving.inside in
    let given = g.B.Bank.given a.bank in
    let faults = g.B.Bank.faults_of a.bank in
    called-over g.B.Bank.given g.B.Bank.tape g.B.Bank.faults_of c.moving.view_is (called (grows-none (λ t. refl)) (moved-same given given a.members a.members refl refl was.kept.members_are.placed was.kept.members_are.unlost)
    (λ t. ap (λ (l : List Entry). last_end_from a.epoch.first l) c.make_room.ensures.items ∙ (was.kept.recorded t).ended)
    (record { more = []; grown = c.make_room.ensures.items ∙ sym (append-nil a.epoch.entries.items); failed = All-nil (λ e. IsLossBy (Held a.members) (WasSpare a.members) faults faults e.event) })
    (never-falls _)
    (record { uuid = refl; given = refl; first = refl; backup = refl; work = refl; ahead = refl; limit = refl })
    (λ t. (was.kept.recorded t).begun))

-- ---- the others

pub invariant_of-moving-2 : goal.invariant_of-moving-2
invariant_of-moving-2 g c =
    goes-on (c.moving.invariant.moves (ap (λ p. is_reshaping p.parts.members.newest) c.moving.view_is ∙ c.requires.active)).0 (roomed c.make_room.ensures.items (let room = c.in-Ok-make_room.ensures.ok in omega (arith, room)) (c.moving.invariant.moves (ap (λ p. is_reshaping p.parts.members.newest) c.moving.view_is ∙ c.requires.active)).1)

pub read_some-requires-clause-fine : goal.read_some-requires-clause-fine
read_some-requires-clause-fine g c =
    let a = c.moving.inside in
    let to = c.args.at + length c.args.into.now / 512 in
    let below = c.in_default.ensures.why.0 in
    let sectors = c.visible-sectors.ensures.value in (
      omega (arith, below, sectors),
      λ refusal why. c.in_default.ensures.why.1 refusal (subst (λ (o : Option Span). IsUnreadAround o c.relied_sector-relied.result c.args.at to a.members refusal) (sym c.backed_up_span-hidden.ensures)
          (subst (λ (n : ℕ). IsUnreadAround (hidden_in a.course.window) n c.args.at to a.members refusal) (sym c.relied_sector-relied.ensures.value) why)),
    )

pub read_some-requires-clause-next : goal.read_some-requires-clause-next
read_some-requires-clause-next g c =
    let a = c.moving.inside in
    c.requires.next ∙ ap (λ p. next_number c.args.who.caller p.parts.entries) (sym c.moving.view_is) ∙ ap (λ (l : List Entry). next_number c.args.who.caller l) (sym c.make_room.ensures.items)

pub returns-clause-answered : goal.returns-clause-answered
returns-clause-answered g c =
    let a = c.moving.inside in
    rw (← c.moving.view_is) (subst (λ (l : List Entry). IsAnswered (list_length a.members.newest) (AsksRead c.args.at (length c.args.into.now / 512)) c.args.who l c.read_some.new.moving.parts.entries (Read c.args.at (sectors_of c.read_some.new.into)) c.read_some.result)
    c.make_room.ensures.items c.read_some.ensures.answered)

pub returns-clause-holds : goal.returns-clause-holds
returns-clause-holds g c =
    let a = c.moving.inside in
    let given = g.B.Bank.given a.bank in
    let new = c.read_some.new.moving in
    rw (← c.moving.view_is) (subst (λ (l : List Entry). OnOk c.read_some.result (g.B.Bank.tells → IsReliable (moving_world (g.B.Bank.given new.parts.bank) (g.B.Bank.tape new.parts.bank) new) new.parts.entries
    → AreSectors (now (opening_list (world_in given (g.B.Bank.tape a.bank) (scope_in given a.epoch.uuid a.epoch.given a.backup) a.epoch.first)) l) c.args.at c.read_some.new.into))
    c.make_room.ensures.items c.read_some.ensures.holds)

pub returns-clause-unchanged : goal.returns-clause-unchanged
returns-clause-unchanged g c = never-short c.read_some.result (c.read_some.new.moving ≡ c.args.moving.now) c.read_some.ensures.memory

pub returns-clause-called : goal.returns-clause-called
returns-clause-called g c =
    called-over g.B.Bank.given g.B.Bank.tape g.B.Bank.faults_of c.moving.view_is (called-roomed _ c.read_some.new.moving _ 1 c.make_room.ensures.items c.read_some.ensures.called)

pub returns-clause-others : goal.returns-clause-others
returns-clause-others g c = rw (← c.moving.view_is) c.read_some.ensures.others

pub returns-clause-clean : goal.returns-clause-clean
returns-clause-clean g c = rw (← c.moving.view_is) c.read_some.ensures.clean

pub returns-clause-caused : goal.returns-clause-caused
returns-clause-caused g c = rw (← c.moving.view_is) c.read_some.ensures.caused

pub returns-clause-failed : goal.returns-clause-failed
returns-clause-failed g c = rw (← c.moving.view_is) c.read_some.ensures.failed

pub returns-clause-course : goal.returns-clause-course
returns-clause-course g c = rw (← c.moving.view_is) c.read_some.ensures.course

pub returns-clause-given : goal.returns-clause-given
returns-clause-given g c = rw (← c.moving.view_is) c.read_some.ensures.given

-- ---- which refusal is the first

pub returns-in-Err-clause-first : goal.returns-in-Err-clause-first
returns-in-Err-clause-first g c = first-short _ _ c.in-Err.fault c.in-Err.ensures.no_memory

pub returns-in-Err-make_room-clause-first : goal.returns-in-Err-make_room-clause-first
returns-in-Err-make_room-clause-first g c = first-short _ _ NoMemory refl

pub returns-in-Some-clause-first : goal.returns-in-Some-clause-first
returns-in-Some-clause-first g c =
    rw (← c.moving.view_is) (first-told _ _ c.in-Some.refusal (first-seen _ _ _ c.visible-sectors.ensures.value c.in-Some.ensures.first))

pub returns-then-asked-eq0-clause-first : goal.returns-then-asked-eq0-clause-first
returns-then-asked-eq0-clause-first g c = rw (← c.moving.view_is) (first-none _ _ (first-seen _ _ _ c.visible-sectors.ensures.value c.in_default.ensures.first))

pub returns-clause-first : goal.returns-clause-first
returns-clause-first g c =
    rw (← c.moving.view_is) (first-none _ c.read_some.result (first-seen _ _ _ c.visible-sectors.ensures.value c.in_default.ensures.first))

-- ---- by what stands above

pub invariant_of-moving : goal.invariant_of-moving
invariant_of-moving g c =
    goes-on (c.moving.invariant.moves (ap (λ p. is_reshaping p.parts.members.newest) c.moving.view_is ∙ c.requires.active)).0 (roomed c.make_room.ensures.items (let had = (c.moving.invariant.moves (ap (λ p. is_reshaping p.parts.members.newest) c.moving.view_is ∙ c.requires.active)).1.room_left in let keeps = c.make_room.ensures.keeps in omega (arith, had, keeps)) (c.moving.invariant.moves (ap (λ p. is_reshaping p.parts.members.newest) c.moving.view_is ∙ c.requires.active)).1)

pub returns-in-Err-clause-called : goal.returns-in-Err-clause-called
returns-in-Err-clause-called g c =
    let kept = (alike c.moving.invariant).kept in
    subst (λ p. IsCalled g.B.Bank.tells (g.B.Bank.given p.parts.bank) (g.B.Bank.tape p.parts.bank) (g.B.Bank.tape p.parts.bank) (g.B.Bank.faults_of p.parts.bank) (g.B.Bank.faults_of p.parts.bank) p p) c.moving.view_is
    (still-called _ kept.members_are.placed kept.members_are.unlost (λ t. (kept.recorded t).ended) (λ t. (kept.recorded t).begun))

pub returns-in-Err-make_room-clause-answered : goal.returns-in-Err-make_room-clause-answered
returns-in-Err-make_room-clause-answered g c = c.make_room.ensures.items ∙ ap (λ p. p.parts.entries) c.moving.view_is

pub returns-in-Err-make_room-clause-failed : goal.returns-in-Err-make_room-clause-failed
returns-in-Err-make_room-clause-failed g c =
    subst (λ p. HaveRolesFailed p.parts.members c.moving.inside.members (g.B.Bank.faults_of p.parts.bank) (g.B.Bank.faults_of c.moving.inside.bank)) c.moving.view_is (λ role slot held. inl held)

pub returns-in-Some-clause-failed : goal.returns-in-Some-clause-failed
returns-in-Some-clause-failed g c =
    subst (λ p. HaveRolesFailed p.parts.members c.moving.inside.members (g.B.Bank.faults_of p.parts.bank) (g.B.Bank.faults_of c.moving.inside.bank)) c.moving.view_is (λ role slot held. inl held)

pub returns-in-Some-clause-course : goal.returns-in-Some-clause-course
returns-in-Some-clause-course g c = ap (λ p. p.course) c.moving.view_is

pub returns-in-Some-clause-clean : goal.returns-in-Some-clause-clean
returns-in-Some-clause-clean g c = ap (λ p. is_clean p.parts.members.newest) c.moving.view_is

pub returns-in-Some-clause-given : goal.returns-in-Some-clause-given
returns-in-Some-clause-given g c = ap (λ p. g.B.Bank.given p.parts.bank) c.moving.view_is

pub returns-in-Some-clause-others : goal.returns-in-Some-clause-others
returns-in-Some-clause-others g c =
    λ t s k ne. ap (λ p. present (g.B.Bank.given c.args.moving.now.parts.bank) (g.B.Bank.tape p.parts.bank) s k) c.moving.view_is

pub returns-then-asked-eq0-clause-failed : goal.returns-then-asked-eq0-clause-failed
returns-then-asked-eq0-clause-failed g c =
    subst (λ p. HaveRolesFailed p.parts.members c.moving.inside.members (g.B.Bank.faults_of p.parts.bank) (g.B.Bank.faults_of c.moving.inside.bank)) c.moving.view_is (λ role slot held. inl held)

pub returns-then-asked-eq0-clause-course : goal.returns-then-asked-eq0-clause-course
returns-then-asked-eq0-clause-course g c = ap (λ p. p.course) c.moving.view_is

pub returns-then-asked-eq0-clause-clean : goal.returns-then-asked-eq0-clause-clean
returns-then-asked-eq0-clause-clean g c = ap (λ p. is_clean p.parts.members.newest) c.moving.view_is

pub returns-then-asked-eq0-clause-given : goal.returns-then-asked-eq0-clause-given
returns-then-asked-eq0-clause-given g c = ap (λ p. g.B.Bank.given p.parts.bank) c.moving.view_is

pub returns-then-asked-eq0-clause-others : goal.returns-then-asked-eq0-clause-others
returns-then-asked-eq0-clause-others g c =
    λ t s k ne. ap (λ p. present (g.B.Bank.given c.args.moving.now.parts.bank) (g.B.Bank.tape p.parts.bank) s k) c.moving.view_is

pub returns-in-Err-make_room-clause-unchanged : goal.returns-in-Err-make_room-clause-unchanged
returns-in-Err-make_room-clause-unchanged g c =
    let a = c.moving.inside in
    (λ i. record {
      parts = record { bank = a.bank; uuid = a.epoch.uuid; given = a.epoch.given; first = a.epoch.first; last = a.epoch.last; entries = c.make_room.ensures.items i; backup = a.backup; members = a.members; work = a.work; steps = a.steps };
      course = a.course;
      ahead = a.ahead;
      limit = a.limit;
    }) ∙ c.moving.view_is

pub returns-in-Err-make_room-clause-caused : goal.returns-in-Err-make_room-clause-caused
returns-in-Err-make_room-clause-caused g c = ap (λ p. p.parts.members) c.moving.view_is

pub first_read_refusal_from-requires-clause-roles : goal.first_read_refusal_from-requires-clause-roles
first_read_refusal_from-requires-clause-roles g c = (alike c.moving.invariant).kept.members_are.placed.roles

pub first_read_refusal_from-requires-clause-visible : goal.first_read_refusal_from-requires-clause-visible
first_read_refusal_from-requires-clause-visible g c = c.visible-sectors.ensures.within

pub read_some-requires-clause-same : goal.read_some-requires-clause-same
read_some-requires-clause-same g c = c.in-Ok.ensures.len

pub read_some-requires-clause-whole : goal.read_some-requires-clause-whole
read_some-requires-clause-whole g c = c.requires.whole

pub append_entry-requires-clause-number : goal.append_entry-requires-clause-number
append_entry-requires-clause-number g c = c.check_number.ensures

pub append_entry-requires-then-asked-eq0-clause-number : goal.append_entry-requires-then-asked-eq0-clause-number
append_entry-requires-then-asked-eq0-clause-number g c = c.check_number.ensures

pub append_entry-requires-clause-room : goal.append_entry-requires-clause-room
append_entry-requires-clause-room g c = one-of-51 c.in-Ok-make_room.ensures.ok

pub append_entry-requires-then-asked-eq0-clause-room : goal.append_entry-requires-then-asked-eq0-clause-room
append_entry-requires-then-asked-eq0-clause-room g c = one-of-51 c.in-Ok-make_room.ensures.ok

pub check_number-requires : goal.check_number-requires
check_number-requires g c =
    c.requires.next ∙ ap (λ p. next_number c.args.who.caller p.parts.entries) (sym c.moving.view_is) ∙ ap (λ (l : List Entry). next_number c.args.who.caller l) (sym c.make_room.ensures.items)

pub from_bytes-body-requires : goal.from_bytes-body-requires
from_bytes-body-requires g c = whole-as c.in-Ok.bytes.items c.args.into.now c.in-Ok.ensures.len c.requires.whole

pub returns-then-asked-eq0-clause-holds : goal.returns-then-asked-eq0-clause-holds
returns-then-asked-eq0-clause-holds g c =
    λ t right i few.
    let zero = c.if-asked-eq0.true in
    absurd (omega (arith, few, zero))

pub read_some-requires-clause-some : goal.read_some-requires-clause-some
read_some-requires-clause-some g c = some-of _ c.if-asked-eq0.false

pub first_read_refusal_from-requires-clause-fit : goal.first_read_refusal_from-requires-clause-fit
first_read_refusal_from-requires-clause-fit g c = (alike c.moving.invariant).kept.members_are.placed.fit

pub relied_sector-relied-requires-clause-fit : goal.relied_sector-relied-requires-clause-fit
relied_sector-relied-requires-clause-fit g c = (alike c.moving.invariant).kept.members_are.placed.fit

pub relied_sector-relied-requires-clause-progress : goal.relied_sector-relied-requires-clause-progress
relied_sector-relied-requires-clause-progress g c =
    (c.moving.invariant.moves (ap (λ p. is_reshaping p.parts.members.newest) c.moving.view_is ∙ c.requires.active)).1.kept.progress

pub returns-in-Err-clause-failed : goal.returns-in-Err-clause-failed
returns-in-Err-clause-failed g c = λ role slot held. inl held

pub read_some-requires-clause-caller : goal.read_some-requires-clause-caller
read_some-requires-clause-caller g c = c.requires.caller

pub returns-in-Some-clause-active : goal.returns-in-Some-clause-active
returns-in-Some-clause-active g c = (ap (λ p. is_reshaping p.parts.members.newest) c.moving.view_is ∙ c.requires.active)

pub returns-then-asked-eq0-clause-active : goal.returns-then-asked-eq0-clause-active
returns-then-asked-eq0-clause-active g c = (ap (λ p. is_reshaping p.parts.members.newest) c.moving.view_is ∙ c.requires.active)

pub returns-in-Err-make_room-clause-active : goal.returns-in-Err-make_room-clause-active
returns-in-Err-make_room-clause-active g c = (ap (λ p. is_reshaping p.parts.members.newest) c.moving.view_is ∙ c.requires.active)

pub returns-clause-active : goal.returns-clause-active
returns-clause-active g c = c.read_some.ensures.active

pub returns-in-Err-clause-active : goal.returns-in-Err-clause-active
returns-in-Err-clause-active g c = c.requires.active

pub read_some-requires-clause-active : goal.read_some-requires-clause-active
read_some-requires-clause-active g c = ap (λ p. is_reshaping p.parts.members.newest) c.moving.view_is ∙ c.requires.active
