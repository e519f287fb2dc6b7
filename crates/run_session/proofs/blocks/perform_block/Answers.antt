use Rattle.std.proofs.Common.{ℕ, ◌≡◌, ◌<◌, ◌≤◌, ◌-◌, true, ◌++◌, ◌∷◌, [], List, Some, length, take, drop, refl, sym, subst, arith, append-nil, inl}
use Rattle.std.proofs.Math.ListN.{get_or}
use Rattle.std.specs.List.{AllPass}
use Rattle.run_blocks.specs.script_Script.{is_within_limits}
use Rattle.run_blocks.specs.script_the_Numbered.{Numbered}
use Rattle.run_blocks.specs.run_specs_the_State.{State}
use Rattle.run_blocks.specs.run_specs_Making.{setting_of}
use Rattle.run_blocks.specs.run_specs_States.{histories_in, bank_in, course_in, IsBlockAnswered, IsAmidBlock}
use Rattle.run_blocks.specs.run_specs_Histories.{History}
use Rattle.run_blocks.specs.run_specs_Replies.{Course}
use Rattle.run_blocks.proofs.Amid.{amid-none}
use Rattle.run_blocks.specs.run_specs_Written.{IsWritten}
use Rattle.run_blocks.proofs.run_requests_Writing.{written-nothing}
use Rattle.run_blocks.proofs.BlockAnswers.{block-unanswered, block-still}
use Rattle.run_session.specs.declared.sessions.Session.{Session}
use Rattle.run_session.specs.declared.sessions.Stop.TheVariants.{NoMemory as WantsMemory}
use Rattle.run_session.specs.Sessions.{AreAllShown, IsBlock}
use Rattle.run_blocks.specs.run_specs_Ended.{IsRunKept}
use Rattle.run_blocks.specs.array_members_Moving.{Grows}
use Rattle.run_session.proofs.Unmoved.{grows-same}
use Rattle.run_session.proofs.BlockReplies.{past-end, block-some, parts-whole, parts-order, parts-all, parts-may, answers-named, answers-short}
use Rattle.run_session.proofs.Showing.{none-shown, same-all}
use Rattle.run_session.proofs.blocks.perform_block.Goals as goal

-- of a block that wasn't begun nothing was reached
unbegun : (hs : List History) (lines : List Numbered) → IsBlock lines → (c : Course) → IsAmidBlock hs c lines c
unbegun hs lines block c = subst (λ (l : List Numbered). IsAmidBlock hs c l c) (sym block.is) (amid-none hs block.first block.second block.worker block.first_lane block.second_lane block.worker_lane c c refl)

pub returns-then-is_err-clause-step : goal.returns-then-is_err-clause-step
returns-then-is_err-clause-step g c =
    let state = c.args.session.state in
    let setting = setting_of g.B.Bank.tells (g.B.Bank.given (bank_in state)) (g.B.Bank.tape (bank_in state)) (g.B.Bank.tape (bank_in state)) c.args.backup (g.B.Bank.faults_of (bank_in state)) (g.B.Bank.faults_of (bank_in state)) in
    let new : Session g.row.B.Denot = record { state = state; replies = c.reserve.new.self; buffer = c.args.session.buffer; shown = c.args.session.shown; refused = c.args.session.refused; stopped = Some WantsMemory } in
    let some = block-some c.args.lines.now c.requires.block in
    let none = none-shown g.K.Sink.tells g.B.Bank.tells (length (g.B.Bank.tape (bank_in state))) (histories_in state) c.args.session new c.args.lines.now [] (g.K.Sink.taken c.args.out.now) (Some WantsMemory) refl (λ told. sym (append-nil (g.K.Sink.taken c.args.out.now))) c.reserve.ensures.items refl refl in
    record {
      block = c.requires.block;
      whats = [];
      answered = block-unanswered setting state state c.args.lines.now (block-still setting state c.requires.own) some (inl (unbegun (histories_in state) c.args.lines.now c.requires.block (course_in state)));
      written = λ t. written-nothing setting (histories_in state) (λ slot. ⊥) (omega arith);
      shown = record { shown = none.0; all = (let count = none.1 in omega (arith, some, count)) };
    }

pub answer_block-state-requires-clause-limits : goal.answer_block-state-requires-clause-limits
answer_block-state-requires-clause-limits g c κs lives = parts-all c.args.lines.now c.requires.block c.front_length-one.result c.front_length-one.ensures.count (λ line. is_within_limits line.line ≡ true) c.requires.limits

pub answer_block-state-requires-clause-lanes : goal.answer_block-state-requires-clause-lanes
answer_block-state-requires-clause-lanes g c κs lives = parts-may c.args.lines.now c.requires.block c.front_length-one.result c.front_length-one.ensures.count c.requires.lanes

pub answer_block-state-requires-clause-order : goal.answer_block-state-requires-clause-order
answer_block-state-requires-clause-order g c κs lives = parts-order c.args.lines.now c.requires.block c.front_length-one.result c.front_length-one.ensures.count past-end

pub show_answers-requires-clause-named : goal.show_answers-requires-clause-named
show_answers-requires-clause-named g c =
    let one = c.front_length-one.result in
    let lines = c.args.lines.now in
    answers-named (histories_in c.answer_block-state.result.0) (course_in c.args.session.state) (take one lines ++ (take (length lines - 1 - one) (drop one lines) ++ get_or lines (length lines - 1) past-end ∷ [])) c.answer_block-state.result.1.items
    c.answer_block-state.ensures.answered.answers

pub show_answers-requires-clause-short : goal.show_answers-requires-clause-short
show_answers-requires-clause-short g c =
    let one = c.front_length-one.result in
    let lines = c.args.lines.now in
    let whole = parts-whole lines c.requires.block one c.front_length-one.ensures.count past-end in
    answers-short (histories_in c.answer_block-state.result.0) (course_in c.args.session.state) (take one lines ++ (take (length lines - 1 - one) (drop one lines) ++ get_or lines (length lines - 1) past-end ∷ [])) c.answer_block-state.result.1.items
    (subst (λ (l : List Numbered). AllPass (λ line. is_within_limits line.line) l) (sym whole) c.requires.limits) c.answer_block-state.ensures.answered.answers

pub show_answers-requires-clause-few : goal.show_answers-requires-clause-few
show_answers-requires-clause-few g c =
    let whole = parts-whole c.args.lines.now c.requires.block c.front_length-one.result c.front_length-one.ensures.count past-end in
    subst (λ (l : List Numbered). length c.answer_block-state.result.1.items ≤ length l) whole c.answer_block-state.ensures.answered.few

pub returns-clause-step : goal.returns-clause-step
returns-clause-step g c =
    let old = c.args.session.state in
    let lines = c.args.lines.now in
    let whats = c.answer_block-state.result.1.items in
    let mid : Session g.row.B.Denot = record { state = c.answer_block-state.result.0; replies = c.reserve.new.self; buffer = c.args.session.buffer; shown = c.args.session.shown; refused = c.args.session.refused; stopped = c.args.session.stopped } in
    let new = c.show_answers.result in
    let whole = parts-whole lines c.requires.block c.front_length-one.result c.front_length-one.ensures.count past-end in
    let answered = subst (λ (l : List Numbered). IsBlockAnswered (setting_of g.B.Bank.tells (g.B.Bank.given (bank_in old)) (g.B.Bank.tape (bank_in old)) (g.B.Bank.tape (bank_in mid.state)) c.args.backup (g.B.Bank.faults_of (bank_in old)) (g.B.Bank.faults_of (bank_in mid.state))) old mid.state l whats) whole c.answer_block-state.ensures.answered in
    let all = same-all c.args.session mid new c.reserve.ensures.items refl refl c.show_answers.ensures.shown in
    record {
      block = c.requires.block;
      whats = whats;
      answered = subst (λ (s : State g.row.B.Denot). IsBlockAnswered (setting_of g.B.Bank.tells (g.B.Bank.given (bank_in old)) (g.B.Bank.tape (bank_in old)) (g.B.Bank.tape (bank_in s)) c.args.backup (g.B.Bank.faults_of (bank_in old)) (g.B.Bank.faults_of (bank_in s))) old s lines whats) (sym c.show_answers.ensures.state) answered;
      written = subst (λ (s : State g.row.B.Denot). g.B.Bank.tells → IsWritten (setting_of g.B.Bank.tells (g.B.Bank.given (bank_in old)) (g.B.Bank.tape (bank_in old)) (g.B.Bank.tape (bank_in s)) c.args.backup (g.B.Bank.faults_of (bank_in old)) (g.B.Bank.faults_of (bank_in s))) (histories_in old) (histories_in s) (λ slot. ⊥)) (sym c.show_answers.ensures.state) c.answer_block-state.ensures.written;
      shown = subst (λ (s : State g.row.B.Denot). AreAllShown g.K.Sink.tells g.B.Bank.tells (length (g.B.Bank.tape (bank_in s))) (histories_in s) c.args.session new lines whats (g.K.Sink.taken c.args.out.now) (g.K.Sink.taken c.show_answers.new.out)) (sym c.show_answers.ensures.state) all;
    }

pub overflow_sub-last : goal.overflow_sub-last
overflow_sub-last g c = block-some c.args.lines.now c.requires.block

one-less : (n : ℕ) → 1 ≤ n → n - 1 < n
one-less n some = omega arith

pub bounds-lines-last : goal.bounds-lines-last
bounds-lines-last g c = one-less (length c.args.lines.now) (block-some c.args.lines.now c.requires.block)

pub returns-clause-grows : goal.returns-clause-grows
returns-clause-grows g c =
    subst (λ (s : State g.row.B.Denot). Grows g.B.Bank.tells (g.B.Bank.tape (bank_in c.args.session.state)) (g.B.Bank.tape (bank_in s))) (sym c.show_answers.ensures.state) c.answer_block-state.ensures.grows

pub returns-clause-never_falls : goal.returns-clause-never_falls
returns-clause-never_falls g c slot =
    subst (λ (s : State g.row.B.Denot). g.B.Bank.faults_of (bank_in c.args.session.state) slot ≤ g.B.Bank.faults_of (bank_in s) slot) (sym c.show_answers.ensures.state)
    (c.answer_block-state.ensures.never_falls slot)

pub returns-clause-former : goal.returns-clause-former
returns-clause-former g c =
    subst (λ (s : State g.row.B.Denot). IsRunKept g.B.Bank.tells (g.B.Bank.given (bank_in c.args.session.state)) (g.B.Bank.tape (bank_in s)) c.args.backup s) (sym c.show_answers.ensures.state)
    c.answer_block-state.ensures.former

pub returns-then-is_err-clause-grows : goal.returns-then-is_err-clause-grows
returns-then-is_err-clause-grows g c = grows-same refl
