use Rattle.std.proofs.Common.{◌≡◌, ◌≢◌, ◌⊎◌, ℕ, ◌+◌, ◌<◌, ◌≤◌, Bool, true, false, not, min, inl, inr, [], ◌∷◌, ◌++◌, refl, sym, ◌∙◌, ap, subst, arith, append-nil}
use Rattle.std.proofs.lemmas.Bool.{cases_lt, true≢false}
use Rattle.std.proofs.lemmas.List.Elements.{All-nil, All-cons}
use Rattle.std.specs.Prelude.{if◌then◌else◌, IfSome, IsTrue}
use Rattle.array.specs.raid_types_the_Refusal_TheVariants.{Nothing}
use Rattle.array.specs.raid_types_the_Who.{Who}
use Rattle.array.specs.history_the_Event.{Event}
use Rattle.array.specs.history_the_Event_TheVariants.{Stepped, Refused}
use Rattle.array.specs.history_Plain.{entries_of}
use Rattle.array.specs.history_invariant_Recorded.{entry_of}
use Rattle.std.specs.List.{All}
use Rattle.array.specs.history_Legal.{disturbs}
use Rattle.array.specs.sb_specs_Reading.{list_length, is_reshaping}
use Rattle.array.specs.array_call_specs_Calls.{TellNoLoss}
use Rattle.array.specs.array_specs_Parts.{RunningParts, left_in, still_left}
use Rattle.array.specs.array_reply_specs_Going.{is_finish}
use Rattle.array.specs.array_reply_specs_Replies.{IsRefusalBy}
use Rattle.array.proofs.array_reply_specs_GoneOn.{gone-none}
use Rattle.array.specs.Calls.{running_left}
use Rattle.array_steps.specs.Steps.{has_finished}
use Rattle.array_steps.proofs.Went.{epoch-of}
use Rattle.array_steps.proofs.Plain.{open-begins}
use Rattle.array_steps.proofs.Refusals.{steps-may, steps-right}
use Rattle.array_steps.proofs.Replies.{rest-answered, answered-nothing, answered-stepped, gone-room, gone-behind, gone-answered, way-behind, way-answered, may-answer}
use Rattle.array_steps.proofs.StepsOf.{quiet-first}
use Rattle.array_steps.proofs.Ways.{TellsNoLoss, way-none}
use Rattle.array_steps.proofs.batch.steps.Goals as goal

-- a reply tells no loss
quiet-one : (who : Who) (end : ℕ) (event : Event) → TellsNoLoss event → All (λ e. TellsNoLoss e.event) (entries_of who end (event ∷ []))
quiet-one who end event none = All-cons (λ e. TellsNoLoss e.event) (entry_of who end event) [] none (All-nil (λ e. TellsNoLoss e.event))

least-is : (count most start : ℕ) → count ≡ min most start → (count ≡ most) ⊎ (count ≡ start)
least-is count most start is = elim (cases_lt most start) [
  | inl less ↦ inl (omega (arith, is, less))
  | inr more ↦ inr (omega (arith, is, more))
]

pub answer-requires-2-clause-closable : goal.answer-requires-2-clause-closable
answer-requires-2-clause-closable g c = λ still.
    let at = c.take_steps-done.new.array in
    may-answer at.parts.entries at.parts.work at.parts.members at.ahead c.take_steps-done.result.done c.left-left.result c.take_steps-done.result.ended (λ none. c.take_steps-done.ensures.closable none still)

pub returns-in_default-clause-went : goal.returns-in_default-clause-went
returns-in_default-clause-went g c = gone-none g.B.Bank.tells g.B.Bank.given g.B.Bank.tape g.B.Bank.faults_of c.args.array.now

pub returns-in-Err-clause-went : goal.returns-in-Err-clause-went
returns-in-Err-clause-went g c = rw c.in-Err.ensures.unchanged (gone-none g.B.Bank.tells g.B.Bank.given g.B.Bank.tape g.B.Bank.faults_of c.args.array.now)

pub take_steps-done-requires-clause-open : goal.take_steps-done-requires-clause-open
take_steps-done-requires-clause-open g c = rw c.in-Ok.ensures.room (open-begins c.args.array.now c.args.who c.requires.next)

pub returns-then-count-eq0-clause-replied : goal.returns-then-count-eq0-clause-replied
returns-then-count-eq0-clause-replied g c =
    answered-nothing (list_length c.args.array.now.parts.members.newest) c.args.most (ap (λ a. a.parts.entries) c.in-Ok.ensures.room) c.requires.next c.answer.ensures.entered

pub returns-clause-replied : goal.returns-clause-replied
returns-clause-replied g c =
    let s = c.take_steps-done.ensures in
    let same = ap (λ a. a.parts.entries) c.in-Ok.ensures.room in
    let start = ap (λ a. running_left a) c.in-Ok.ensures.room in
    answered-stepped (list_length c.args.array.now.parts.members.newest) c.args.most c.left.result c.min-count.result same c.requires.next s.entered c.answer-2.ensures.entered
    (record {
      few = omega (arith, c.min-count.ensures);
      all = least-is c.min-count.result c.args.most c.left.result c.min-count.ensures;
      within = s.done;
      until = rw (← c.left-left.ensures.exact) at s.all;
      begun = s.some;
    })
    (λ quiet none unrefused. let falls = s.fewer quiet none unrefused in omega (arith, falls, c.left-left.ensures.exact, c.left.ensures.exact, start)) s.why

pub returns-clause-may : goal.returns-clause-may
returns-clause-may g c =
    let a = c.answer-2.ensures in
    steps-may c.take_steps-done.new.array c.answer-2.new.self c.take_steps-done.result.ended a.members a.called.same.ahead c.take_steps-done.ensures.right

pub returns-clause-rest : goal.returns-clause-rest
returns-clause-rest g c =
    let a = c.answer-2.ensures in
    rest-answered c.take_steps-done.new.array c.answer-2.new.self a.members a.called.work a.course a.called.same.ahead a.rest

pub returns-then-count-eq0-clause-rest : goal.returns-then-count-eq0-clause-rest
returns-then-count-eq0-clause-rest g c =
    let a = c.answer.ensures in
    rest-answered c.make_room.new.self c.answer.new.self a.members a.called.work a.course a.called.same.ahead a.rest

pub returns-then-count-eq0-clause-went : goal.returns-then-count-eq0-clause-went
returns-then-count-eq0-clause-went g c =
    let old = c.args.array.now in
    let mid = c.make_room.new.self in
    let new = c.answer.new.self in
    let a = c.answer.ensures in
    gone-answered g.B.Bank.tells g.B.Bank.given g.B.Bank.tape g.B.Bank.faults_of old mid new c.args.who (Refused Nothing) a.entered.end (gone-room g.B.Bank.tells g.B.Bank.given g.B.Bank.tape g.B.Bank.faults_of old mid c.in-Some.room c.in-Ok.ensures.room)
    a.entered.is a.bank a.members a.called.same.ahead (epoch-of mid new a.called.same) (λ n. refl) (λ Had Was before now. tt) tt

pub returns-clause-went : goal.returns-clause-went
returns-clause-went g c =
    let s = c.take_steps-done.ensures in
    let old = c.args.array.now in
    let begun = c.make_room.new.self in
    let mid = c.take_steps-done.new.array in
    let new = c.answer-2.new.self in
    let a = c.answer-2.ensures in
    gone-answered g.B.Bank.tells g.B.Bank.given g.B.Bank.tape g.B.Bank.faults_of old mid new c.args.who (Stepped c.take_steps-done.result.done c.left-left.result c.take_steps-done.result.ended) a.entered.end
    (gone-behind g.B.Bank.tells g.B.Bank.given g.B.Bank.tape g.B.Bank.faults_of old begun mid c.in-Some.room c.in-Ok.ensures.room s.went)
    a.entered.is a.bank a.members a.called.same.ahead (epoch-of mid new a.called.same) (λ n. refl) (λ Had Was before now. tt)
    (subst (λ b. IfSome c.take_steps-done.result.ended (IsRefusalBy b.parts.backup (g.B.Bank.faults_of b.parts.bank) (g.B.Bank.faults_of mid.parts.bank))) c.in-Ok.ensures.room s.cause)

pub returns-in_default-clause-kept : goal.returns-in_default-clause-kept
returns-in_default-clause-kept g c = way-none (g.B.Bank.faults_of c.args.array.now.parts.bank) c.args.array.now

pub returns-in-Err-clause-kept : goal.returns-in-Err-clause-kept
returns-in-Err-clause-kept g c = rw c.in-Err.ensures.unchanged (way-none (g.B.Bank.faults_of c.args.array.now.parts.bank) c.args.array.now)

pub returns-then-count-eq0-clause-kept : goal.returns-then-count-eq0-clause-kept
returns-then-count-eq0-clause-kept g c =
    let faults = g.B.Bank.faults_of in
    let old = c.args.array.now in
    let mid = c.make_room.new.self in
    let new = c.answer.new.self in
    let a = c.answer.ensures in
    way-behind g.B.Bank.tells g.B.Bank.given g.B.Bank.tape faults old mid new c.in-Some.room c.in-Ok.ensures.room
    (way-answered faults mid mid new [] _ (sym (append-nil mid.parts.entries)) a.entered.is (quiet-one c.args.who a.entered.end (Refused Nothing) tt) (λ s. omega arith) a.bank a.members a.called.same.ahead a.called.same.limit (way-none (faults mid.parts.bank) mid))

pub returns-clause-kept : goal.returns-clause-kept
returns-clause-kept g c =
    let faults = g.B.Bank.faults_of in
    let old = c.args.array.now in
    let begun = c.make_room.new.self in
    let mid = c.take_steps-done.new.array in
    let new = c.answer-2.new.self in
    let s = c.take_steps-done.ensures in
    let a = c.answer-2.ensures in
    way-behind g.B.Bank.tells g.B.Bank.given g.B.Bank.tape faults old begun new c.in-Some.room c.in-Ok.ensures.room
    (way-answered faults begun mid new s.went.more _ s.went.grown a.entered.is (quiet-one c.args.who a.entered.end (Stepped c.take_steps-done.result.done c.left-left.result c.take_steps-done.result.ended) tt) s.went.never_falls a.bank a.members a.called.same.ahead a.called.same.limit s.kept)

-- ---- how many are left

-- the reply leaves as many
left-same : {B : Type 0} (mid new : RunningParts B) → new.parts.members ≡ mid.parts.members → new.parts.work ≡ mid.parts.work → new.course ≡ mid.course → new.ahead ≡ mid.ahead → running_left new ≡ running_left mid
left-same mid new members work course ahead = λ i.
    if is_reshaping (members i).newest then left_in (work i) (members i) (course i) (ahead i)
    else still_left (work i) (members i) (ahead i)

none-told : (b : Bool) → IsTrue (not b) → b ≡ false
none-told true told = absurd (true≢false (sym told))
none-told false told = refl

some-left : (count most left start : ℕ) → count ≡ min most left → count ≢ 0 → left ≡ start → 0 < start
some-left count most left start is some exact = omega (arith, is, some, exact)

as-before : (mid new done begun start : ℕ) → new ≡ mid → mid + done ≡ begun → begun ≡ start → new + done ≡ start
as-before mid new done begun start same were room = omega (arith, same, were, room)

pub returns-clause-counted : goal.returns-clause-counted
returns-clause-counted g c =
    let s = c.take_steps-done.ensures in
    let a = c.answer-2.ensures in
    let old = c.args.array.now in
    let begun = c.make_room.new.self in
    let mid = c.take_steps-done.new.array in
    let new = c.answer-2.new.self in
    let room = c.in-Ok.ensures.room in
    let early = s.entered.is ∙ ap (λ p. p.parts.entries ++ s.entered.inner) room in
    let same = left-same mid new a.members a.called.work a.course a.called.same.ahead in (
      c.left-left.ensures.exact ∙ sym same,
      λ quiet none unrefused.
          let no_loss = quiet-first disturbs old.parts.entries mid.parts.entries new.parts.entries s.entered.inner _ early a.entered.is quiet in
          let no_end = none-told (has_finished old.parts.entries mid.parts.entries) (quiet-first is_finish old.parts.entries mid.parts.entries new.parts.entries s.entered.inner _ early a.entered.is (ap not none)) in
          let were = s.left (subst (λ p. TellNoLoss p.parts.entries mid.parts.entries) (sym room) no_loss) (subst (λ p. has_finished p.parts.entries mid.parts.entries ≡ false) (sym room) no_end) unrefused in
          as-before (running_left mid) (running_left new) c.take_steps-done.result.done (running_left begun) (running_left old) same were (ap (λ p. running_left p) room),
      some-left c.min-count.result c.args.most c.left.result (running_left old) c.min-count.ensures c.if-count-eq0.false c.left.ensures.exact,
    )

-- ---- what ended them

none-left : (count most left start : ℕ) → count ≡ min most left → count ≡ 0 → 1 ≤ most → left ≡ start → start ≡ 0
none-left count most left start is none some exact = omega (arith, is, none, some, exact)

pub returns-clause-told : goal.returns-clause-told
returns-clause-told g c =
    let mid = c.take_steps-done.new.array in
    let new = c.answer-2.new.self in
    let a = c.answer-2.ensures in (
      c.left-left.ensures.exact ∙ sym (left-same mid new a.members a.called.work a.course a.called.same.ahead),
      steps-right mid new c.take_steps-done.result.ended a.members a.called.work a.called.same.ahead c.take_steps-done.ensures.right,
    )

pub returns-then-count-eq0-clause-told : goal.returns-then-count-eq0-clause-told
returns-then-count-eq0-clause-told g c =
    let mid = c.make_room.new.self in
    let new = c.answer.new.self in
    let a = c.answer.ensures in
    left-same mid new a.members a.called.work a.course a.called.same.ahead ∙ ap (λ b. running_left b) c.in-Ok.ensures.room
    ∙ none-left c.min-count.result c.args.most c.left.result (running_left c.args.array.now) c.min-count.ensures c.if-count-eq0.true c.requires.some c.left.ensures.exact
