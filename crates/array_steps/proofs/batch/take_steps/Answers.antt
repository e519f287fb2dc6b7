use Rattle.std.proofs.Common.{◌≡◌, ◌≢◌, ◌⊎◌, inr, ℕ, ◌<◌, ◌≤◌, Option, Some, None, MatchOption, refl, sym, ◌∙◌, arith}
use Rattle.std.proofs.lemmas.Bool.{true≢false}
use Rattle.std.specs.Prelude.{⊤}
use Rattle.array.specs.raid_types_the_Refusal.{Refusal}
use Rattle.array.specs.history_Fits.{is_lost_event}
use Rattle.array.specs.history_Legal.{disturbs}
use Rattle.array.specs.Calls.{running_left}
use Rattle.array.proofs.array_reply_specs_GoneOn.{gone-then, gone-none}
use Rattle.array_steps.proofs.Plain.{going-of}
use Rattle.array_steps.proofs.Replies.{cause-later, way-on}
use Rattle.array_steps.proofs.Ways.{way-none}
use Rattle.array_steps.proofs.StepsOf.{steps-none, steps-more, steps-refused, quiet-first, quiet-second}
use Rattle.array_steps.proofs.Behind.{over-behind}
use Rattle.array_steps.proofs.batch.take_steps.Goals as goal

-- some were left at first, so none can be left behind some steps alone
none-first : (left now first : ℕ) → left ≡ 0 → left ≡ now → 0 < first → now ≢ first
none-first left now first none exact some same = omega (arith, none, exact, some, same)

none-done : (done count : ℕ) → count ≤ done → 0 < count → done ≢ 0
none-done done count end some none = omega (arith, end, some, none)

pub loop-done-init : goal.loop-done-init
loop-done-init g c = record {
  entered = steps-none c.args.who c.args.array.now.parts.entries;
  next_open = λ some. c.requires.open;
  going = going-of c.args.array.now c.args.who c.requires.open;
  closable = λ some. absurd (some refl);
  begun = λ none. refl;
  left = λ quiet. omega arith;
  fewer = λ quiet. omega arith;
  room = omega arith;
  went = gone-none g.B.Bank.tells g.B.Bank.given g.B.Bank.tape g.B.Bank.faults_of c.args.array.now;
  kept = way-none (g.B.Bank.faults_of c.args.array.now.parts.bank) c.args.array.now;
  ended = λ some. absurd (some refl);
}

-- ---- a reshape ended

pub returns-in-Ok-true-clause-entered : goal.returns-in-Ok-true-clause-entered
returns-in-Ok-true-clause-entered g c =
    let o = over-behind g.B.Bank.tells g.B.Bank.given g.B.Bank.tape g.B.Bank.faults_of c.args.who c.args.array.now c.loop-done.array c.take_step.new.array c.loop-done.done c.loop-done.invariant.entered c.loop-done.invariant.went c.loop-done.invariant.kept
    (rw c.in-Ok-true.field-0-test at c.in-Ok-true.ensures.taken) c.go_on_behind.new.array c.go_on_behind.result.done c.go_on_behind.result.ended c.go_on_behind.ensures.gone in
    o.entered

pub returns-in-Ok-true-clause-all : goal.returns-in-Ok-true-clause-all
returns-in-Ok-true-clause-all g c =
    let o = over-behind g.B.Bank.tells g.B.Bank.given g.B.Bank.tape g.B.Bank.faults_of c.args.who c.args.array.now c.loop-done.array c.take_step.new.array c.loop-done.done c.loop-done.invariant.entered c.loop-done.invariant.went c.loop-done.invariant.kept
    (rw c.in-Ok-true.field-0-test at c.in-Ok-true.ensures.taken) c.go_on_behind.new.array c.go_on_behind.result.done c.go_on_behind.result.ended c.go_on_behind.ensures.gone in
    by _ _ _ _ c.go_on_behind.result.ended o.over c.go_on_behind.ensures.fewer
  where
    by : (W X Y Z : Type 0) (ended : Option Refusal) → Z → MatchOption ended ⊤ (λ refusal. Y) → MatchOption ended (W ⊎ X ⊎ Z) (λ refusal. Y)
    by W X Y Z None over fewer = inr (inr over)
    by W X Y Z (Some refusal) over fewer = fewer

pub returns-in-Ok-true-clause-left : goal.returns-in-Ok-true-clause-left
returns-in-Ok-true-clause-left g c =
    let o = over-behind g.B.Bank.tells g.B.Bank.given g.B.Bank.tape g.B.Bank.faults_of c.args.who c.args.array.now c.loop-done.array c.take_step.new.array c.loop-done.done c.loop-done.invariant.entered c.loop-done.invariant.went c.loop-done.invariant.kept
    (rw c.in-Ok-true.field-0-test at c.in-Ok-true.ensures.taken) c.go_on_behind.new.array c.go_on_behind.result.done c.go_on_behind.result.ended c.go_on_behind.ensures.gone in
    λ quiet none unrefused. absurd (true≢false (sym o.over ∙ none))

pub returns-in-Ok-true-clause-fewer : goal.returns-in-Ok-true-clause-fewer
returns-in-Ok-true-clause-fewer g c =
    let o = over-behind g.B.Bank.tells g.B.Bank.given g.B.Bank.tape g.B.Bank.faults_of c.args.who c.args.array.now c.loop-done.array c.take_step.new.array c.loop-done.done c.loop-done.invariant.entered c.loop-done.invariant.went c.loop-done.invariant.kept
    (rw c.in-Ok-true.field-0-test at c.in-Ok-true.ensures.taken) c.go_on_behind.new.array c.go_on_behind.result.done c.go_on_behind.result.ended c.go_on_behind.ensures.gone in
    λ quiet none unrefused. absurd (true≢false (sym o.over ∙ none))

pub returns-in-Ok-true-clause-why : goal.returns-in-Ok-true-clause-why
returns-in-Ok-true-clause-why g c =
    let o = over-behind g.B.Bank.tells g.B.Bank.given g.B.Bank.tape g.B.Bank.faults_of c.args.who c.args.array.now c.loop-done.array c.take_step.new.array c.loop-done.done c.loop-done.invariant.entered c.loop-done.invariant.went c.loop-done.invariant.kept
    (rw c.in-Ok-true.field-0-test at c.in-Ok-true.ensures.taken) c.go_on_behind.new.array c.go_on_behind.result.done c.go_on_behind.result.ended c.go_on_behind.ensures.gone in
    o.why

pub returns-in-Ok-true-clause-cause : goal.returns-in-Ok-true-clause-cause
returns-in-Ok-true-clause-cause g c =
    let o = over-behind g.B.Bank.tells g.B.Bank.given g.B.Bank.tape g.B.Bank.faults_of c.args.who c.args.array.now c.loop-done.array c.take_step.new.array c.loop-done.done c.loop-done.invariant.entered c.loop-done.invariant.went c.loop-done.invariant.kept
    (rw c.in-Ok-true.field-0-test at c.in-Ok-true.ensures.taken) c.go_on_behind.new.array c.go_on_behind.result.done c.go_on_behind.result.ended c.go_on_behind.ensures.gone in
    o.cause

pub returns-in-Ok-true-clause-right : goal.returns-in-Ok-true-clause-right
returns-in-Ok-true-clause-right g c =
    let o = over-behind g.B.Bank.tells g.B.Bank.given g.B.Bank.tape g.B.Bank.faults_of c.args.who c.args.array.now c.loop-done.array c.take_step.new.array c.loop-done.done c.loop-done.invariant.entered c.loop-done.invariant.went c.loop-done.invariant.kept
    (rw c.in-Ok-true.field-0-test at c.in-Ok-true.ensures.taken) c.go_on_behind.new.array c.go_on_behind.result.done c.go_on_behind.result.ended c.go_on_behind.ensures.gone in
    o.right

pub returns-in-Ok-true-clause-going : goal.returns-in-Ok-true-clause-going
returns-in-Ok-true-clause-going g c =
    let o = over-behind g.B.Bank.tells g.B.Bank.given g.B.Bank.tape g.B.Bank.faults_of c.args.who c.args.array.now c.loop-done.array c.take_step.new.array c.loop-done.done c.loop-done.invariant.entered c.loop-done.invariant.went c.loop-done.invariant.kept
    (rw c.in-Ok-true.field-0-test at c.in-Ok-true.ensures.taken) c.go_on_behind.new.array c.go_on_behind.result.done c.go_on_behind.result.ended c.go_on_behind.ensures.gone in
    o.going

pub returns-in-Ok-true-clause-closable : goal.returns-in-Ok-true-clause-closable
returns-in-Ok-true-clause-closable g c =
    let o = over-behind g.B.Bank.tells g.B.Bank.given g.B.Bank.tape g.B.Bank.faults_of c.args.who c.args.array.now c.loop-done.array c.take_step.new.array c.loop-done.done c.loop-done.invariant.entered c.loop-done.invariant.went c.loop-done.invariant.kept
    (rw c.in-Ok-true.field-0-test at c.in-Ok-true.ensures.taken) c.go_on_behind.new.array c.go_on_behind.result.done c.go_on_behind.result.ended c.go_on_behind.ensures.gone in
    o.closable

pub returns-in-Ok-true-clause-ended : goal.returns-in-Ok-true-clause-ended
returns-in-Ok-true-clause-ended g c =
    let o = over-behind g.B.Bank.tells g.B.Bank.given g.B.Bank.tape g.B.Bank.faults_of c.args.who c.args.array.now c.loop-done.array c.take_step.new.array c.loop-done.done c.loop-done.invariant.entered c.loop-done.invariant.went c.loop-done.invariant.kept
    (rw c.in-Ok-true.field-0-test at c.in-Ok-true.ensures.taken) c.go_on_behind.new.array c.go_on_behind.result.done c.go_on_behind.result.ended c.go_on_behind.ensures.gone in
    o.at_end

pub returns-in-Ok-true-clause-went : goal.returns-in-Ok-true-clause-went
returns-in-Ok-true-clause-went g c =
    let o = over-behind g.B.Bank.tells g.B.Bank.given g.B.Bank.tape g.B.Bank.faults_of c.args.who c.args.array.now c.loop-done.array c.take_step.new.array c.loop-done.done c.loop-done.invariant.entered c.loop-done.invariant.went c.loop-done.invariant.kept
    (rw c.in-Ok-true.field-0-test at c.in-Ok-true.ensures.taken) c.go_on_behind.new.array c.go_on_behind.result.done c.go_on_behind.result.ended c.go_on_behind.ensures.gone in
    o.went

pub returns-in-Ok-true-clause-kept : goal.returns-in-Ok-true-clause-kept
returns-in-Ok-true-clause-kept g c =
    let o = over-behind g.B.Bank.tells g.B.Bank.given g.B.Bank.tape g.B.Bank.faults_of c.args.who c.args.array.now c.loop-done.array c.take_step.new.array c.loop-done.done c.loop-done.invariant.entered c.loop-done.invariant.went c.loop-done.invariant.kept
    (rw c.in-Ok-true.field-0-test at c.in-Ok-true.ensures.taken) c.go_on_behind.new.array c.go_on_behind.result.done c.go_on_behind.result.ended c.go_on_behind.ensures.gone in
    o.kept

-- ---- one was refused

pub returns-in-Err-clause-entered : goal.returns-in-Err-clause-entered
returns-in-Err-clause-entered g c = steps-refused c.in-Err.refusal c.loop-done.invariant.entered c.in-Err.ensures.taken.behind

pub returns-in-Err-clause-cause : goal.returns-in-Err-clause-cause
returns-in-Err-clause-cause g c =
    cause-later g.B.Bank.tells g.B.Bank.given g.B.Bank.tape g.B.Bank.faults_of c.args.array.now c.loop-done.array c.take_step.new.array c.loop-done.invariant.went c.in-Err.ensures.taken.went c.in-Err.refusal c.in-Err.ensures.taken.cause

pub returns-in-Err-clause-went : goal.returns-in-Err-clause-went
returns-in-Err-clause-went g c =
    gone-then g.B.Bank.tells g.B.Bank.given g.B.Bank.tape g.B.Bank.faults_of c.args.array.now c.loop-done.array c.take_step.new.array c.loop-done.invariant.went c.in-Err.ensures.taken.went

pub returns-in-Err-clause-kept : goal.returns-in-Err-clause-kept
returns-in-Err-clause-kept g c =
    way-on g.B.Bank.tells g.B.Bank.given g.B.Bank.tape g.B.Bank.faults_of c.args.array.now c.loop-done.array c.take_step.new.array c.loop-done.invariant.went c.in-Err.ensures.taken.went c.loop-done.invariant.kept c.in-Err.ensures.taken.kept

-- ---- the next one

pub loop-done-preserved : goal.loop-done-preserved
loop-done-preserved g c =
    let s = c.in-Ok-false.ensures.taken in
    let was = c.loop-done.invariant in
    let old = c.args.array.now in
    let at = c.loop-done.array in
    let next = c.take_step.new.array in
    let no_end = c.in-Ok-false.field-0-test in
    record {
      entered = steps-more was.entered s.inner s.is s.own s.one;
      next_open = c.in-Ok-false.ensures.open no_end;
      going = s.going;
      closable = λ some. s.closable;
      begun = λ none. absurd (omega (arith, none));
      left = λ quiet.
          let before = was.left (quiet-first disturbs old.parts.entries at.parts.entries next.parts.entries was.entered.inner s.inner was.entered.is s.is quiet) in
          let here = (s.left no_end).one (quiet-second disturbs old.parts.entries at.parts.entries next.parts.entries was.entered.inner s.inner was.entered.is s.is quiet) in
          omega (arith, before, here);
      fewer = λ quiet.
          let before = was.fewer (quiet-first is_lost_event old.parts.entries at.parts.entries next.parts.entries was.entered.inner s.inner was.entered.is s.is quiet) in
          let here = (s.left no_end).some (quiet-second is_lost_event old.parts.entries at.parts.entries next.parts.entries was.entered.inner s.inner was.entered.is s.is quiet) in
          omega (arith, before, here);
      room = let one = c.in-Ok-false.ensures.one no_end in omega (arith, was.room, one);
      went = gone-then g.B.Bank.tells g.B.Bank.given g.B.Bank.tape g.B.Bank.faults_of old at next was.went s.went;
      kept = way-on g.B.Bank.tells g.B.Bank.given g.B.Bank.tape g.B.Bank.faults_of old at next was.went s.went was.kept s.kept;
      ended = λ some. s.ended;
    }

-- ---- no more

pub returns-then-left-eq0-clause-closable : goal.returns-then-left-eq0-clause-closable
returns-then-left-eq0-clause-closable g c =
    let was = c.loop-done.invariant in
    λ none still. was.closable (λ zero. none-first c.left.result (running_left c.loop-done.array) (running_left c.args.array.now) c.if-left-eq0.true c.left.ensures.exact c.requires.pending (was.begun zero)) still

pub returns-clause-closable : goal.returns-clause-closable
returns-clause-closable g c = λ none still. c.loop-done.invariant.closable (none-done c.loop-done.done c.args.count c.loop-done-test.false c.requires.some) still
