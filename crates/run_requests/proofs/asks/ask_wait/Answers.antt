use Rattle.std.proofs.Common.{Option, [], ◌∷◌, ◌++◌, refl, sym, ◌∙◌, subst, arith}
use Rattle.std.specs.Prelude.{IsSome}
use Rattle.run_specs.specs.history_the_Entry.{Entry}
use Rattle.run_specs.specs.Caused.{record_of}
use Rattle.run_specs.proofs.AskLaws.{entry_there}
use Rattle.run_requests.proofs.RecordLaws.{leaves-answered, answered-end, answered-then}
use Rattle.run_specs.proofs.array_reply_specs_GoneOn.{gone-none, gone-then}
use Rattle.run_requests.proofs.Waits.{waited_done, waiting_on}
use Rattle.run_requests.proofs.asks.ask_wait.Goals as goal

pub returns-then-not-leaves_more-clause-asked : goal.returns-then-not-leaves_more-clause-asked
returns-then-not-leaves_more-clause-asked g c =
    waited_done c.loop-at.invariant.waiting c.in-Ok.ensures.asked (sym c.leaves_more.ensures ∙ c.if-not-leaves_more.true)

pub returns-then-not-leaves_more-clause-went : goal.returns-then-not-leaves_more-clause-went
returns-then-not-leaves_more-clause-went g c =
    gone-then g.B.Bank.tells g.B.Bank.given g.B.Bank.tape g.B.Bank.faults_of c.args.array.now c.loop-at.array c.ask_steps.new.array c.loop-at.invariant.went c.in-Ok.ensures.went

pub returns-then-not-leaves_more-clause-stepped : goal.returns-then-not-leaves_more-clause-stepped
returns-then-not-leaves_more-clause-stepped g c =
    let so_far = c.loop-at.invariant.stepped in
    let faults = g.B.Bank.faults_of in
    let went = c.loop-at.invariant.went in (
      so_far.0,
      answered-end (faults c.args.array.now.parts.bank) (faults c.loop-at.array.parts.bank) (faults c.ask_steps.new.array.parts.bank) went.never_falls c.in-Ok.ensures.went.never_falls
          (record_of c.args.array.now) (record_of c.loop-at.array) (record_of c.ask_steps.new.array) so_far.0 so_far.1 c.in-Ok.ensures.stepped,
    )

pub loop-at-smaller : goal.loop-at-smaller
loop-at-smaller g c = omega (arith, c.in-Ok.ensures.more, c.in-Ok.ensures.asked.at_end)

pub loop-at-preserved : goal.loop-at-preserved
loop-at-preserved g c =
    let was = c.loop-at.invariant in
    let faults = g.B.Bank.faults_of in
    record {
      waiting = waiting_on was.waiting c.in-Ok.ensures.asked (sym c.leaves_more.ensures ∙ c.if-not-leaves_more.false);
      ended = c.in-Ok.ensures.ended;
      turning = c.in-Ok.ensures.turning;
      stepped = (
        was.stepped.0 ++ record_of c.ask_steps.new.array ∷ [],
        answered-then (faults c.args.array.now.parts.bank) (faults c.loop-at.array.parts.bank) (faults c.ask_steps.new.array.parts.bank) was.went.never_falls c.in-Ok.ensures.went.never_falls
            (record_of c.args.array.now) (record_of c.loop-at.array) (record_of c.ask_steps.new.array) was.stepped.0 was.stepped.1 c.in-Ok.ensures.stepped
            (sym (leaves-answered c.in-Ok.at c.in-Ok.ensures.stepped c.in-Ok.ensures.asked.at_end) ∙ sym c.leaves_more.ensures ∙ c.if-not-leaves_more.false),
      );
      went = gone-then g.B.Bank.tells g.B.Bank.given g.B.Bank.tape g.B.Bank.faults_of c.args.array.now c.loop-at.array c.ask_steps.new.array was.went c.in-Ok.ensures.went;
    }

pub loop-at-init : goal.loop-at-init
loop-at-init g c = record {
  waiting = ([], refl);
  ended = c.requires.ended;
  turning = c.requires.turning;
  stepped = ([], refl);
  went = gone-none g.B.Bank.tells g.B.Bank.given g.B.Bank.tape g.B.Bank.faults_of c.args.array.now;
}

pub leaves_more-requires : goal.leaves_more-requires
leaves_more-requires g c = record { there = subst (λ (o : Option Entry). IsSome o) (sym (entry_there c.in-Ok.ensures.asked)) refl }
