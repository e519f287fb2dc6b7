use Rattle.std.proofs.Common.{inl, ◌≡◌, ◌≤◌, ◌<◌, ◌+◌, ◌/◌, ℕ, Bool, true, false, Option, Err, List, [], length, refl, sym, ◌∙◌, ap, ap₂, subst, arith, append-nil, Result, Ok}
use Rattle.std.proofs.lemmas.List.Elements.{All-nil}
use Rattle.array_reshaping_steps.specs.raid_types_Sectors.{sectors_of, Sector}
use Rattle.array_reshaping_steps.proofs.raid_types_SectorLaws.{length-sectors_of}
use Rattle.array_reshaping_steps.specs.raid_types_the_Span.{Span}
use Rattle.array_reshaping_steps.specs.sb_specs_Reading.{list_length, is_reshaping}
use Rattle.array_reshaping_steps.specs.stripe_row_Rows.{present}
use Rattle.array_reshaping_steps.specs.history_the_Entry.{Entry}
use Rattle.array_reshaping_steps.specs.history_the_Event_TheVariants.{Step}
use Rattle.array_reshaping_steps.specs.history_the_StepKind_TheVariants.{WindowFinished as FinishesWindow}
use Rattle.array_reshaping_steps.specs.history_Flat.{length_of, limit_of}
use Rattle.array_reshaping_steps.specs.history_Stands.{covers}
use Rattle.array_reshaping_steps.specs.history_Transfers.{last_end_from}
use Rattle.array_reshaping_steps.specs.array_members_Rebuilding.{Held}
use Rattle.array_reshaping_steps.proofs.array_members_MovedLaws.{grows-none, moved-same}
use Rattle.array_reshaping_steps.specs.array_call_specs_Calls.{IsLossBy, WasSpare, IsBehind, IsCausedBy, OnNoMemory}
use Rattle.array_reshaping_steps.specs.stripe_region_write_Runs.{IsListUnwritten}
use Rattle.array_reshaping_steps.specs.reshape_progress_Laws.{closed}
use Rattle.array_reshaping_steps.specs.array_reshaping_invariant_Moving.{IsWindowStanding}
use Rattle.array_reshaping_steps.specs.array_reshaping_state_Due.{open_in, unsure_in}
use Rattle.array_reshaping_steps.specs.stripe_region_resync_Resyncs.{relied_sector}
use Rattle.array_reshaping_steps.specs.array_specs_Calls.{moving_world, IsStepTaken}
use Rattle.array_reshaping_steps.specs.array_specs_Parts.{visible_size, visible_in, left_in}
use Rattle.array_reshaping_steps.specs.array_reshaping_state_Left.{visible_by}
use Rattle.array_reshaping_steps.specs.array_reshaping_laws_Writing.{TouchesWindow, IsWriteLacked, IsWriteEntered, IsPutEntered}
use Rattle.array_reshaping_steps.proofs.array_specs_Called.{called}
use Rattle.array_reshaping_steps.proofs.array_reshaping_laws_Kept.{roomier, long-same}
use Rattle.array_reshaping_steps.proofs.array_reshaping_laws_WriteLaws.{failed-then, beside-of, touched-open, roomed, called-then, called-roomed, alone-caused, refused-caused, behind-caused, alone-entered, refused-entered, behind-entered, untouched, never-ok}
use Rattle.array_reshaping_steps.proofs.array_reshaping_laws_WriteReplies.{write-answered}
use Rattle.array_reshaping_steps.specs.raid_types_the_Fault_TheVariants.{NoMemory, Refused as IsRefusedWith}
use Rattle.array_reshaping_steps.proofs.array_reshaping_laws_FirstLaws.{first-short, first-done}
use Rattle.std.specs.Prelude.{OnOk}
use Rattle.array_reshaping_steps.specs.raid_types_the_Fault.{Fault}
use Rattle.array_reshaping_steps.specs.raid_types_the_Who.{Who}
use Rattle.array_reshaping_steps.specs.history_the_StepKind.{StepKind}
use Rattle.array_reshaping_steps.proofs.array_type_StepLaws.{unchanged-roomed}
use Rattle.array_reshaping_steps.proofs.array_type_Alike.{alike, goes-on}
use Rattle.array_reshaping_io.proofs.writing.write_sure.Goals as goal

-- ---- memory is short

pub invariant_of-moving : goal.invariant_of-moving
invariant_of-moving g c =
    goes-on (c.moving.invariant.moves (ap (λ p. is_reshaping p.parts.members.newest) c.moving.view_is ∙ c.requires.active)).0 (roomier (c.moving.invariant.moves (ap (λ p. is_reshaping p.parts.members.newest) c.moving.view_is ∙ c.requires.active)).1 c.make_room.ensures.items c.make_room.ensures.keeps)

pub returns-in-Err-make_room-clause-called : goal.returns-in-Err-make_room-clause-called
returns-in-Err-make_room-clause-called g c =
    let was = (alike c.moving.invariant) in
    let a = c.moving.inside in
    let given = g.B.Bank.given a.bank in
    let faults = g.B.Bank.faults_of a.bank in
    rw (← c.moving.view_is) (called (grows-none (λ t. refl)) (moved-same given given a.members a.members refl refl was.kept.members_are.placed was.kept.members_are.unlost)
    (λ t. ap (λ (l : List Entry). last_end_from a.epoch.first l) c.make_room.ensures.items ∙ (was.kept.recorded t).ended)
    (record { more = []; grown = c.make_room.ensures.items ∙ sym (append-nil a.epoch.entries.items); failed = All-nil (λ e. IsLossBy (Held a.members) (WasSpare a.members) faults faults e.event) })
    (λ slot. omega arith)
    (record { uuid = refl; given = refl; first = refl; backup = refl; work = refl; ahead = refl; limit = refl })
    (λ t. (was.kept.recorded t).begun))

-- ---- it doesn't touch the window

pub invariant_of-moving-then-not-meets : goal.invariant_of-moving-then-not-meets
invariant_of-moving-then-not-meets g c =
    goes-on (c.moving.invariant.moves (ap (λ p. is_reshaping p.parts.members.newest) c.moving.view_is ∙ c.requires.active)).0 (roomed c.make_room.ensures.items (let room = c.in-Ok-make_room.ensures.ok in omega (arith, room)) (c.moving.invariant.moves (ap (λ p. is_reshaping p.parts.members.newest) c.moving.view_is ∙ c.requires.active)).1)

pub write_beside-requires-clause-beside : goal.write_beside-requires-clause-beside
write_beside-requires-clause-beside g c =
    λ x low high.
    let a = c.moving.inside in
    let to = c.args.at + length c.args.from.now / 512 in
    let sure = subst (λ p. (x : ℕ) → c.args.at ≤ x → x < to → covers (unsure_in p.course.window) x ≡ false) (sym c.moving.view_is) c.requires.sure in
    beside-of a.course.window x (subst (λ (s : Option Span). covers s x ≡ false) c.open_span-window.ensures (c.meets.ensures.no c.if-not-meets.true x low high)) (sure x low high)

pub write_beside-requires-clause-stood : goal.write_beside-requires-clause-stood
write_beside-requires-clause-stood g c = λ t fills list is zeros x inside. absurd (let none : ◌≡◌ {A = Bool} false true = inside in cc)

pub returns-then-not-meets-clause-entered : goal.returns-then-not-meets-clause-entered
returns-then-not-meets-clause-entered g c =
    let a = c.moving.inside in
    let to = c.args.at + length c.args.from.now / 512 in
    let out : (x : ℕ) → c.args.at ≤ x → x < to → covers (open_in a.course.window) x ≡ false =
    λ x low high. subst (λ (s : Option Span). covers s x ≡ false) c.open_span-window.ensures (c.meets.ensures.no c.if-not-meets.true x low high) in
    let new = c.write_beside.new.moving in
    rw (← c.moving.view_is) (alone-entered a.course.window c.args.at to (sectors_of c.args.from.now) c.args.who a.epoch.entries.items c.make_room.new.self.items new.parts.entries (left_in new.parts.work new.parts.members new.course new.ahead) c.write_beside.result
    c.make_room.ensures.items (untouched a.course.window c.args.at to out) c.write_beside.ensures.entered)

pub returns-then-not-meets-clause-called : goal.returns-then-not-meets-clause-called
returns-then-not-meets-clause-called g c =
    rw (← c.moving.view_is) (called-roomed _ c.write_beside.new.moving _ 2 c.make_room.ensures.items c.write_beside.ensures.called)

pub returns-then-not-meets-clause-caused : goal.returns-then-not-meets-clause-caused
returns-then-not-meets-clause-caused g c =
    let a = c.moving.inside in
    let to = c.args.at + length c.args.from.now / 512 in
    let out : (x : ℕ) → c.args.at ≤ x → x < to → covers (open_in a.course.window) x ≡ false =
    λ x low high. subst (λ (s : Option Span). covers s x ≡ false) c.open_span-window.ensures (c.meets.ensures.no c.if-not-meets.true x low high) in
    rw (← c.moving.view_is) (alone-caused a.course.window (visible_size a.members a.limit) (relied_sector a.members.newest a.work.resync) c.args.at to a.members c.write_beside.new.moving.parts.members c.write_beside.result (untouched a.course.window c.args.at to out) c.write_beside.ensures.caused)

pub returns-then-not-meets-clause-closed : goal.returns-then-not-meets-clause-closed
returns-then-not-meets-clause-closed g c =
    let a = c.moving.inside in
    let to = c.args.at + length c.args.from.now / 512 in
    let out : (x : ℕ) → c.args.at ≤ x → x < to → covers (open_in a.course.window) x ≡ false =
    λ x low high. subst (λ (s : Option Span). covers s x ≡ false) c.open_span-window.ensures (c.meets.ensures.no c.if-not-meets.true x low high) in
    rw (← c.moving.view_is) (never-ok c.write_beside.result (TouchesWindow a.course.window c.args.at to) (c.write_beside.new.moving.course ≡ closed 0) (untouched a.course.window c.args.at to out))

-- ---- the window is to be finished

pub invariant_of-moving-else-not-meets : goal.invariant_of-moving-else-not-meets
invariant_of-moving-else-not-meets g c =
    goes-on (c.moving.invariant.moves (ap (λ p. is_reshaping p.parts.members.newest) c.moving.view_is ∙ c.requires.active)).0 (roomed c.make_room.ensures.items (let room = c.in-Ok-make_room.ensures.ok in omega (arith, room)) (c.moving.invariant.moves (ap (λ p. is_reshaping p.parts.members.newest) c.moving.view_is ∙ c.requires.active)).1)

pub finish_for-requires-clause-due : goal.finish_for-requires-clause-due
finish_for-requires-clause-due g c =
    let met = c.meets.ensures.yes c.if-not-meets.false in
    touched-open _ (c.moving.invariant.moves (ap (λ p. is_reshaping p.parts.members.newest) c.moving.view_is ∙ c.requires.active)).1.kept.course_is met.0 (subst (λ (s : Option Span). covers s met.0 ≡ true) c.open_span-window.ensures met.3)

pub write_beside-requires-2-clause-stood : goal.write_beside-requires-2-clause-stood
write_beside-requires-2-clause-stood g c =
    let mid = c.finish_for.new.moving in
    let given = g.B.Bank.given mid.parts.bank in
    let tape = g.B.Bank.tape mid.parts.bank in
    λ t. subst (λ (o : Option Span). IsWindowStanding o (moving_world given tape mid) mid.parts.entries mid.parts.members (present given tape)) (sym c.open_span-window.ensures) (c.in-Ok-finish_for.ensures.stood t)

pub returns-in-Err-finish_for-clause-entered : goal.returns-in-Err-finish_for-clause-entered
returns-in-Err-finish_for-clause-entered g c =
    let a = c.moving.inside in
    let to = c.args.at + length c.args.from.now / 512 in
    let new = c.finish_for.new.moving in
    subst (λ p. IsWriteEntered {T = ℕ} p.course.window c.args.at to (sectors_of c.args.from.now) c.args.who p.parts.entries new.parts.entries (left_in new.parts.work new.parts.members new.course new.ahead) (Err c.in-Err-finish_for.fault)) c.moving.view_is
    (refused-entered ℕ a.course.window c.args.at to (sectors_of c.args.from.now) c.args.who a.epoch.entries.items c.make_room.new.self.items new.parts.entries (left_in new.parts.work new.parts.members new.course new.ahead)
    (left_in new.parts.work new.parts.members new.course new.ahead) c.in-Err-finish_for.fault c.make_room.ensures.items c.in-Err-finish_for.ensures.entered)

pub returns-in-Err-finish_for-clause-called : goal.returns-in-Err-finish_for-clause-called
returns-in-Err-finish_for-clause-called g c =
    rw (← c.moving.view_is) (called-roomed _ c.finish_for.new.moving _ 2 c.make_room.ensures.items c.in-Err-finish_for.ensures.called)

pub returns-in-Err-finish_for-clause-caused : goal.returns-in-Err-finish_for-clause-caused
returns-in-Err-finish_for-clause-caused g c =
    let a = c.moving.inside in
    let to = c.args.at + length c.args.from.now / 512 in
    let met = c.meets.ensures.yes c.if-not-meets.false in
    let touches : TouchesWindow a.course.window c.args.at to = (met.0, met.1, met.2, subst (λ (s : Option Span). covers s met.0 ≡ true) c.open_span-window.ensures met.3) in
    subst (λ p. IsCausedBy {T = ℕ} (visible_in p) to (IsWriteLacked p.course.window (relied_sector p.parts.members.newest p.parts.work.resync) c.args.at to) p.parts.members c.finish_for.new.moving.parts.members (Err c.in-Err-finish_for.fault)) c.moving.view_is
    (refused-caused ℕ a.course.window (visible_size a.members a.limit) (relied_sector a.members.newest a.work.resync) c.args.at to a.members c.finish_for.new.moving.parts.members c.in-Err-finish_for.fault touches c.in-Err-finish_for.ensures.caused)

-- ---- and the sectors are written behind it

pub returns-clause-entered : goal.returns-clause-entered
returns-clause-entered g c =
    let a = c.moving.inside in
    let to = c.args.at + length c.args.from.now / 512 in
    let mid = c.finish_for.new.moving in
    let new = c.write_beside-2.new.moving in
    let before = left_in mid.parts.work mid.parts.members mid.course mid.ahead in
    let met = c.meets.ensures.yes c.if-not-meets.false in
    let touches : TouchesWindow a.course.window c.args.at to = (met.0, met.1, met.2, subst (λ (s : Option Span). covers s met.0 ≡ true) c.open_span-window.ensures met.3) in
    rw (← c.moving.view_is) (behind-entered a.course.window c.args.at to (sectors_of c.args.from.now) c.args.who a.epoch.entries.items mid.parts.entries new.parts.entries (left_in new.parts.work new.parts.members new.course new.ahead) before c.write_beside-2.result
    touches c.write_beside-2.ensures.left (subst (λ (l : List Entry). IsBehind c.args.who l mid.parts.entries (Step FinishesWindow before)) c.make_room.ensures.items c.in-Ok-finish_for.ensures.entered) c.write_beside-2.ensures.entered)

pub returns-clause-called : goal.returns-clause-called
returns-clause-called g c =
    rw (← c.moving.view_is) (called-roomed _ c.write_beside-2.new.moving _ 2 c.make_room.ensures.items (called-then c.in-Ok-finish_for.ensures.given c.in-Ok-finish_for.ensures.called c.write_beside-2.ensures.called))

pub returns-clause-caused : goal.returns-clause-caused
returns-clause-caused g c =
    let a = c.moving.inside in
    let to = c.args.at + length c.args.from.now / 512 in
    let mid = c.finish_for.new.moving in
    let new = c.write_beside-2.new.moving in
    let same = c.in-Ok-finish_for.ensures.called.same in
    let long : list_length mid.parts.members.newest ≡ list_length a.members.newest = long-same a.members.newest mid.parts.members.newest (record { shape = same.array.shape; final = same.final; size = same.array.size }) in
    rw (← c.moving.view_is) (behind-caused a.course.window (visible_size a.members a.limit) (visible_in mid) (relied_sector a.members.newest a.work.resync) (relied_sector mid.parts.members.newest mid.parts.work.resync) c.args.at to a.members mid.parts.members new.parts.members c.write_beside-2.result c.args.who
    mid.parts.entries new.parts.entries (sectors_of c.args.from.now) (ap₂ visible_by long same.limit) c.in-Ok-finish_for.ensures.relied c.in-Ok-finish_for.ensures.caused c.write_beside-2.ensures.entered
    (subst (λ (o : Option Span). IsCausedBy (visible_in mid) to (IsListUnwritten o (relied_sector mid.parts.members.newest mid.parts.work.resync) c.args.at to) mid.parts.members new.parts.members c.write_beside-2.result) c.open_span-window.ensures
    c.write_beside-2.ensures.caused))

-- ---- what failed

pub returns-in-Err-clause-failed : goal.returns-in-Err-clause-failed
returns-in-Err-clause-failed g c = λ role slot held. inl held

pub returns-in-Err-make_room-clause-failed : goal.returns-in-Err-make_room-clause-failed
returns-in-Err-make_room-clause-failed g c = rw (← c.moving.view_is) (λ role slot held. inl held)

pub returns-then-not-meets-clause-failed : goal.returns-then-not-meets-clause-failed
returns-then-not-meets-clause-failed g c = rw (← c.moving.view_is) c.write_beside.ensures.failed

pub returns-in-Err-finish_for-clause-failed : goal.returns-in-Err-finish_for-clause-failed
returns-in-Err-finish_for-clause-failed g c = rw (← c.moving.view_is) c.in-Err-finish_for.ensures.failed

pub returns-clause-failed : goal.returns-clause-failed
returns-clause-failed g c =
    let a = c.moving.inside in
    let mid = c.finish_for.new.moving in
    let new = c.write_beside-2.new.moving in
    rw (← c.moving.view_is) (failed-then a.members mid.parts.members new.parts.members (g.B.Bank.faults_of a.bank) (g.B.Bank.faults_of mid.parts.bank) (g.B.Bank.faults_of new.parts.bank)
    c.in-Ok-finish_for.ensures.called.never_falls c.write_beside-2.ensures.called.never_falls c.in-Ok-finish_for.ensures.failed c.write_beside-2.ensures.failed)

-- ---- its reply

pub returns-then-not-meets-clause-answered : goal.returns-then-not-meets-clause-answered
returns-then-not-meets-clause-answered g c =
    let old = c.args.moving.now in
    let new = c.write_beside.new.moving in
    let at = c.args.at in
    let long = length-sectors_of c.args.from.now in
    let sized = subst (λ p. length_of (list_length p.parts.members.newest) p.parts.entries ≡ list_length p.parts.members.newest) c.moving.view_is (alike c.moving.invariant).sized in
    let limited = subst (λ p. limit_of p.parts.entries ≡ p.limit) c.moving.view_is (alike c.moving.invariant).limited in
    write-answered old.course.window (list_length old.parts.members.newest) old.limit (relied_sector old.parts.members.newest old.parts.work.resync) at (at + length c.args.from.now / 512) (sectors_of c.args.from.now) c.args.who old.parts.entries new.parts.entries old.parts.members new.parts.members
    (left_in new.parts.work new.parts.members new.course new.ahead) (omega (arith, long)) c.requires.next sized limited c.write_beside.result (returns-then-not-meets-clause-entered g c) (returns-then-not-meets-clause-caused g c)

pub returns-in-Err-finish_for-clause-answered : goal.returns-in-Err-finish_for-clause-answered
returns-in-Err-finish_for-clause-answered g c =
    let old = c.args.moving.now in
    let new = c.finish_for.new.moving in
    let at = c.args.at in
    let long = length-sectors_of c.args.from.now in
    let sized = subst (λ p. length_of (list_length p.parts.members.newest) p.parts.entries ≡ list_length p.parts.members.newest) c.moving.view_is (alike c.moving.invariant).sized in
    let limited = subst (λ p. limit_of p.parts.entries ≡ p.limit) c.moving.view_is (alike c.moving.invariant).limited in
    write-answered old.course.window (list_length old.parts.members.newest) old.limit (relied_sector old.parts.members.newest old.parts.work.resync) at (at + length c.args.from.now / 512) (sectors_of c.args.from.now) c.args.who old.parts.entries new.parts.entries old.parts.members new.parts.members
    (left_in new.parts.work new.parts.members new.course new.ahead) (omega (arith, long)) c.requires.next sized limited {T = ℕ} (Err c.in-Err-finish_for.fault) (returns-in-Err-finish_for-clause-entered g c) (returns-in-Err-finish_for-clause-caused g c)

pub returns-clause-answered : goal.returns-clause-answered
returns-clause-answered g c =
    let old = c.args.moving.now in
    let new = c.write_beside-2.new.moving in
    let at = c.args.at in
    let long = length-sectors_of c.args.from.now in
    let sized = subst (λ p. length_of (list_length p.parts.members.newest) p.parts.entries ≡ list_length p.parts.members.newest) c.moving.view_is (alike c.moving.invariant).sized in
    let limited = subst (λ p. limit_of p.parts.entries ≡ p.limit) c.moving.view_is (alike c.moving.invariant).limited in
    write-answered old.course.window (list_length old.parts.members.newest) old.limit (relied_sector old.parts.members.newest old.parts.work.resync) at (at + length c.args.from.now / 512) (sectors_of c.args.from.now) c.args.who old.parts.entries new.parts.entries old.parts.members new.parts.members
    (left_in new.parts.work new.parts.members new.course new.ahead) (omega (arith, long)) c.requires.next sized limited c.write_beside-2.result (returns-clause-entered g c) (returns-clause-caused g c)

-- ---- which refusal is the first

pub returns-in-Err-clause-first : goal.returns-in-Err-clause-first
returns-in-Err-clause-first g c = first-short _ _ NoMemory refl

pub returns-in-Err-make_room-clause-first : goal.returns-in-Err-make_room-clause-first
returns-in-Err-make_room-clause-first g c = first-short _ _ NoMemory refl

pub returns-then-not-meets-clause-first : goal.returns-then-not-meets-clause-first
returns-then-not-meets-clause-first g c = rw (← c.moving.view_is) c.write_beside.ensures.first

pub returns-in-Err-finish_for-clause-first : goal.returns-in-Err-finish_for-clause-first
returns-in-Err-finish_for-clause-first g c = rw (← c.moving.view_is) c.in-Err-finish_for.ensures.first

pub returns-clause-first : goal.returns-clause-first
returns-clause-first g c = rw (← c.moving.view_is) (first-done _ _ c.write_beside-2.result c.in-Ok-finish_for.ensures.first)

-- ---- what the searches would find too, for longer

-- a put takes no memory, nor does a step
put-long : {T : Type 0} (result : Result T Fault) (P : Type 0) (who : Who) (old new : List Entry) (at : ℕ) (body : List Sector) → IsPutEntered who old new at body result → OnNoMemory result P
put-long (Ok x) P who old new at body entered = tt
put-long (Err (IsRefusedWith refusal)) P who old new at body entered = tt
put-long (Err NoMemory) P who old new at body entered = absurd entered

step-long : (fault : Fault) (P : Type 0) (who : Who) (old new : List Entry) (kind : StepKind) (left : ℕ) → IsStepTaken {T = ℕ} who old new kind left (Err fault) → OnNoMemory {T = ℕ} (Err fault) P
step-long (IsRefusedWith refusal) P who old new kind left entered = tt
step-long NoMemory P who old new kind left entered = absurd entered

-- what holds anyway
done-so : {T : Type 0} (result : Result T Fault) (P : Type 0) → P → OnOk result P
done-so (Ok x) P is = is
done-so (Err fault) P is = tt

pub returns-in-Err-clause-called : goal.returns-in-Err-clause-called
returns-in-Err-clause-called g c =
    let was = (alike c.moving.invariant) in
    let a = c.moving.inside in
    let given = g.B.Bank.given a.bank in
    let faults = g.B.Bank.faults_of a.bank in
    rw (← c.moving.view_is) (called (grows-none (λ t. refl)) (moved-same given given a.members a.members refl refl was.kept.members_are.placed was.kept.members_are.unlost)
    (λ t. (was.kept.recorded t).ended)
    (record { more = []; grown = sym (append-nil a.epoch.entries.items); failed = All-nil (λ e. IsLossBy (Held a.members) (WasSpare a.members) faults faults e.event) })
    (λ slot. omega arith)
    (record { uuid = refl; given = refl; first = refl; backup = refl; work = refl; ahead = refl; limit = refl })
    (λ t. (was.kept.recorded t).begun))

pub returns-in-Err-make_room-clause-answered : goal.returns-in-Err-make_room-clause-answered
returns-in-Err-make_room-clause-answered g c = c.make_room.ensures.items ∙ ap (λ p. p.parts.entries) c.moving.view_is

pub returns-in-Err-make_room-clause-entered : goal.returns-in-Err-make_room-clause-entered
returns-in-Err-make_room-clause-entered g c = c.make_room.ensures.items ∙ ap (λ p. p.parts.entries) c.moving.view_is

pub returns-in-Err-make_room-clause-unchanged : goal.returns-in-Err-make_room-clause-unchanged
returns-in-Err-make_room-clause-unchanged g c = unchanged-roomed _ _ c.make_room.new.self.items c.make_room.ensures.items c.moving.view_is

pub returns-in-Err-make_room-clause-caused : goal.returns-in-Err-make_room-clause-caused
returns-in-Err-make_room-clause-caused g c = ap (λ p. p.parts.members) c.moving.view_is

pub returns-then-not-meets-clause-unchanged : goal.returns-then-not-meets-clause-unchanged
returns-then-not-meets-clause-unchanged g c =
    let new = c.write_beside.new.moving in
    put-long c.write_beside.result (new ≡ c.args.moving.now) c.args.who c.make_room.new.self.items new.parts.entries c.args.at (sectors_of c.args.from.now) c.write_beside.ensures.entered

pub returns-in-Err-finish_for-clause-unchanged : goal.returns-in-Err-finish_for-clause-unchanged
returns-in-Err-finish_for-clause-unchanged g c =
    let new = c.finish_for.new.moving in
    step-long c.in-Err-finish_for.fault (new ≡ c.args.moving.now) c.args.who c.make_room.new.self.items new.parts.entries FinishesWindow (left_in new.parts.work new.parts.members new.course new.ahead) c.in-Err-finish_for.ensures.entered

pub returns-in-Err-finish_for-clause-course : goal.returns-in-Err-finish_for-clause-course
returns-in-Err-finish_for-clause-course g c =
    let met = c.meets.ensures.yes c.if-not-meets.false in
    rw (← c.moving.view_is) (λ never. absurd (never (met.0, met.1, met.2, subst (λ (s : Option Span). covers s met.0 ≡ true) c.open_span-window.ensures met.3)))

pub returns-clause-unchanged : goal.returns-clause-unchanged
returns-clause-unchanged g c =
    let new = c.write_beside-2.new.moving in
    put-long c.write_beside-2.result (new ≡ c.args.moving.now) c.args.who c.finish_for.new.moving.parts.entries new.parts.entries c.args.at (sectors_of c.args.from.now) c.write_beside-2.ensures.entered

pub returns-clause-course : goal.returns-clause-course
returns-clause-course g c =
    let met = c.meets.ensures.yes c.if-not-meets.false in
    rw (← c.moving.view_is) (λ never. absurd (never (met.0, met.1, met.2, subst (λ (s : Option Span). covers s met.0 ≡ true) c.open_span-window.ensures met.3)))

pub returns-clause-closed : goal.returns-clause-closed
returns-clause-closed g c =
    done-so c.write_beside-2.result (TouchesWindow c.args.moving.now.course.window c.args.at (c.args.at + length c.args.from.now / 512) → c.write_beside-2.new.moving.course ≡ closed 0)
    (λ touches. c.write_beside-2.ensures.course ∙ c.in-Ok-finish_for.ensures.closed)

pub returns-clause-given : goal.returns-clause-given
returns-clause-given g c =
    c.write_beside-2.ensures.given ∙ c.in-Ok-finish_for.ensures.given ∙ ap (λ p. g.B.Bank.given p.parts.bank) c.moving.view_is

pub returns-in-Err-make_room-clause-active : goal.returns-in-Err-make_room-clause-active
returns-in-Err-make_room-clause-active g c = (ap (λ p. is_reshaping p.parts.members.newest) c.moving.view_is ∙ c.requires.active)

pub returns-then-not-meets-clause-active : goal.returns-then-not-meets-clause-active
returns-then-not-meets-clause-active g c = c.write_beside.ensures.active

pub returns-in-Err-finish_for-clause-active : goal.returns-in-Err-finish_for-clause-active
returns-in-Err-finish_for-clause-active g c = c.finish_for.ensures.active

pub returns-clause-active : goal.returns-clause-active
returns-clause-active g c = c.write_beside-2.ensures.active

pub returns-in-Err-clause-active : goal.returns-in-Err-clause-active
returns-in-Err-clause-active g c = c.requires.active

pub write_beside-requires-clause-active : goal.write_beside-requires-clause-active
write_beside-requires-clause-active g c = ap (λ p. is_reshaping p.parts.members.newest) c.moving.view_is ∙ c.requires.active

pub finish_for-requires-clause-active : goal.finish_for-requires-clause-active
finish_for-requires-clause-active g c = ap (λ p. is_reshaping p.parts.members.newest) c.moving.view_is ∙ c.requires.active

pub write_beside-requires-2-clause-active : goal.write_beside-requires-2-clause-active
write_beside-requires-2-clause-active g c = c.finish_for.ensures.active
