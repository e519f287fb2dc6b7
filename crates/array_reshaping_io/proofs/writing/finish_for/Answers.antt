use Rattle.std.proofs.Common.{inl, ◌≤◌, ◌+◌, ℕ, Option, [], ◌∷◌, refl, sym, subst, arith, ◌∙◌, ap}
use Rattle.array_reshaping_steps.specs.raid_types_the_Refusal.{Refusal}
use Rattle.array_reshaping_steps.specs.raid_types_the_Span.{Span}
use Rattle.array_reshaping_steps.specs.sb_specs_Reading.{list_length, is_reshaping}
use Rattle.array_reshaping_steps.specs.history_the_Event_TheVariants.{Refused}
use Rattle.array_reshaping_steps.specs.history_Plain.{entries_of}
use Rattle.array_reshaping_steps.specs.array_members_Numbers.{bears}
use Rattle.array_reshaping_steps.proofs.array_members_MovedLaws.{grows-none, moved-same}
use Rattle.array_reshaping_steps.specs.array_call_specs_Kept.{scope_in}
use Rattle.array_reshaping_steps.specs.array_call_specs_Calls.{IsRefusedFor}
use Rattle.array_reshaping_steps.proofs.array_call_specs_LossLaws.{ended-behind, behind-alone}
use Rattle.array_reshaping_steps.proofs.array_call_specs_ReadyLaws.{scope-same}
use Rattle.array_reshaping_steps.specs.stripe_region_write_Runs.{IsListUnwritten}
use Rattle.array_reshaping_steps.specs.array_reshaping_state_Due.{open_in}
use Rattle.array_reshaping_steps.specs.stripe_region_resync_Resyncs.{relied_sector}
use Rattle.array_reshaping_steps.specs.history_invariant_Recorded.{IsCallGoing}
use Rattle.array_reshaping_steps.proofs.array_reshaping_invariant_Refusals.{quiet-refusal}
use Rattle.array_reshaping_steps.proofs.array_reshaping_invariant_Resting.{resting-moves}
use Rattle.array_reshaping_steps.specs.array_specs_Parts.{visible_size, visible_in, left_in}
use Rattle.array_reshaping_steps.specs.array_reshaping_laws_Ready.{bytes_in}
use Rattle.array_reshaping_steps.proofs.array_specs_Called.{not_254, called, alone-lossless}
use Rattle.array_reshaping_steps.proofs.array_reshaping_laws_Kept.{ready, shapes-same}
use Rattle.array_reshaping_steps.proofs.array_reshaping_laws_WriteLaws.{first-right, wider-refused, finish-caused}
use Rattle.array_reshaping_steps.proofs.array_reshaping_laws_FirstLaws.{first-told, first-none}
use Rattle.array_reshaping_steps.proofs.array_type_ReshapingCalls.{one-less}
use Rattle.array_reshaping_steps.proofs.array_specs_Lengths.{alone-keeps}
use Rattle.array_reshaping_steps.proofs.array_type_Alike.{alike, goes-on}
use Rattle.array_reshaping_io.proofs.writing.finish_for.Goals as goal

-- ---- refused before the window is finished

pub invariant_of-moving : goal.invariant_of-moving
invariant_of-moving g c =
    goes-on (c.moving.invariant.moves (ap (λ p. is_reshaping p.parts.members.newest) c.moving.view_is ∙ c.requires.active)).0 (
    let was = (c.moving.invariant.moves (ap (λ p. is_reshaping p.parts.members.newest) c.moving.view_is ∙ c.requires.active)).1 in
    let a = c.moving.inside in
    let given = g.B.Bank.given a.bank in
    let scope = scope_in given a.epoch.uuid a.epoch.given a.backup in
    let goes : IsCallGoing a.epoch.entries.items c.args.who = subst (λ p. IsCallGoing p.parts.entries c.args.who) (sym c.moving.view_is) c.requires.open in
    let steps : 1 ≤ a.steps = subst (λ p. 1 ≤ p.parts.steps) (sym c.moving.view_is) c.requires.room in
    let to = c.args.at + c.args.count in
    let tape = g.B.Bank.tape a.bank in
    let end = c.ops-end.result in
    let refusal = c.in-Some.refusal in
    let kept = resting-moves g.B.Bank.tells given tape scope a.epoch.first a.epoch.entries.items a.members (bears a.work) a.work.resync a.course (bytes_in a.course.window a.window.items) (left_in a.work a.members a.course a.ahead)
    c.args.who end (Refused refusal) was.kept goes (not_254 c.args.who.caller c.requires.caller) c.ops-end.ensures.count (quiet-refusal refusal) (λ told is. is)
    (λ t right. first-right was.kept was.limited c.open_span-window.result c.relied_sector-relied.result c.args.at to refusal c.relied_sector-relied.ensures.value c.in-Some.ensures.why t right) in
    ready (entries_of c.args.who end (Refused refusal ∷ [])) was (grows-none (λ t. refl)) (shapes-same a.members.newest) kept
    refl (λ slot. omega arith) (alone-keeps c.args.who end (Refused refusal) (λ n. refl) (λ limit. refl)) (λ none whole. whole) refl (scope-same given a.backup refl c.append_entry.ensures.uuid c.append_entry.ensures.given) c.append_entry.ensures.first refl c.append_entry.ensures.items
    (let had = was.room_left in let room = c.append_entry.ensures.room in omega (arith, room, had, steps)))

pub returns-in-Some-clause-entered : goal.returns-in-Some-clause-entered
returns-in-Some-clause-entered g c =
    rw (← c.moving.view_is) (behind-alone c.args.who c.ops-end.result (Refused c.in-Some.refusal) refl c.append_entry.ensures.items)

pub returns-in-Some-clause-called : goal.returns-in-Some-clause-called
returns-in-Some-clause-called g c =
    let was = (alike c.moving.invariant) in
    let a = c.moving.inside in
    let given = g.B.Bank.given a.bank in
    let faults = g.B.Bank.faults_of a.bank in
    let end = c.ops-end.result in
    let refusal = c.in-Some.refusal in
    rw (← c.moving.view_is) (called (grows-none (λ t. refl)) (moved-same given given a.members a.members refl refl was.kept.members_are.placed was.kept.members_are.unlost)
    (ended-behind (g.B.Bank.tape a.bank) c.append_entry.new.epoch.first a.epoch.entries.items c.args.who end [] (Refused refusal) c.append_entry.ensures.items c.ops-end.ensures.count)
    (alone-lossless a.members faults faults a.epoch.entries.items a.epoch.entries.items c.append_entry.new.epoch.entries.items c.args.who end (Refused refusal) tt refl c.append_entry.ensures.items)
    (λ slot. omega arith)
    (record { uuid = c.append_entry.ensures.uuid; given = c.append_entry.ensures.given; first = c.append_entry.ensures.first; backup = refl; work = refl; ahead = refl; limit = refl })
    (λ t. (was.kept.recorded t).begun))

pub returns-in-Some-clause-caused : goal.returns-in-Some-clause-caused
returns-in-Some-clause-caused g c =
    let a = c.moving.inside in
    let to = c.args.at + c.args.count in
    let relied = relied_sector a.members.newest a.work.resync in
    rw (← c.moving.view_is) (wider-refused (visible_size a.members a.limit) to (IsListUnwritten (open_in a.course.window) relied c.args.at to) a.members c.in-Some.refusal
    (subst (λ (o : Option Span). IsRefusedFor (visible_size a.members a.limit) to (IsListUnwritten o relied c.args.at to) a.members a.members c.in-Some.refusal) c.open_span-window.ensures
    (subst (λ (n : ℕ). IsRefusedFor (visible_size a.members a.limit) to (IsListUnwritten c.open_span-window.result n c.args.at to) a.members a.members c.in-Some.refusal) c.relied_sector-relied.ensures.value c.in-Some.ensures.why)))

-- ---- behind it

pub returns-clause-caused : goal.returns-clause-caused
returns-clause-caused g c =
    let old = c.args.moving.now.parts in
    let m = old.members in
    let to = c.args.at + c.args.count in
    let fine = subst (λ p. (to ≤ visible_in p) × ((refusal : Refusal) → IsListUnwritten (open_in p.course.window) (relied_sector p.parts.members.newest p.parts.work.resync) c.args.at to p.parts.members refusal → ⊥)) c.moving.view_is (
      c.in_default.ensures.why.0,
      λ refusal why. c.in_default.ensures.why.1 refusal (subst (λ (o : Option Span). IsListUnwritten o c.relied_sector-relied.result c.args.at to c.moving.inside.members refusal) (sym c.open_span-window.ensures)
          (subst (λ (n : ℕ). IsListUnwritten (open_in c.moving.inside.course.window) n c.args.at to c.moving.inside.members refusal) (sym c.relied_sector-relied.ensures.value) why)),
    ) in
    finish-caused (list_length m.newest) (visible_in c.args.moving.now) to (IsListUnwritten (open_in c.args.moving.now.course.window) (relied_sector m.newest old.work.resync) c.args.at to) m c.finish_open.new.moving.parts.members c.finish_open.result fine.0 fine.1 c.finish_open.ensures.caused

pub returns-in-Some-clause-failed : goal.returns-in-Some-clause-failed
returns-in-Some-clause-failed g c = rw (← c.moving.view_is) (λ role slot held. inl held)

-- ---- which refusal is the first

pub returns-in-Some-clause-first : goal.returns-in-Some-clause-first
returns-in-Some-clause-first g c = rw (← c.moving.view_is) (first-told _ _ c.in-Some.refusal c.in-Some.ensures.first)

pub returns-clause-first : goal.returns-clause-first
returns-clause-first g c = rw (← c.moving.view_is) (first-none _ c.finish_open.result c.in_default.ensures.first)

-- ---- by what stands above

pub check_going-requires : goal.check_going-requires
check_going-requires g c = subst (λ p. IsCallGoing p.parts.entries c.args.who) (sym c.moving.view_is) c.requires.open

pub overflow_sub-moving : goal.overflow_sub-moving
overflow_sub-moving g c = subst (λ p. 1 ≤ p.parts.steps) (sym c.moving.view_is) c.requires.room

pub returns-in-Some-clause-room : goal.returns-in-Some-clause-room
returns-in-Some-clause-room g c =
    one-less c.moving.inside.steps (subst (λ p. 1 ≤ p.parts.steps) (sym c.moving.view_is) c.requires.room) ∙ ap (λ p. p.parts.steps) c.moving.view_is

pub append_entry-requires-clause-number : goal.append_entry-requires-clause-number
append_entry-requires-clause-number g c = c.check_going.ensures

pub returns-in-Some-clause-active : goal.returns-in-Some-clause-active
returns-in-Some-clause-active g c = (ap (λ p. is_reshaping p.parts.members.newest) c.moving.view_is ∙ c.requires.active)

pub returns-clause-active : goal.returns-clause-active
returns-clause-active g c = c.finish_open.ensures.active
