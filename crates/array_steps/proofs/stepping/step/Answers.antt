use Rattle.array.specs.raid_types_the_Refusal_TheVariants.{Nothing}
use Rattle.array.specs.history_the_Event_TheVariants.{Refused}
use Rattle.array.proofs.array_call_specs_LossLaws.{behind-alone}
use Rattle.array.proofs.array_reply_specs_GoneOn.{gone-none}
use Rattle.std.proofs.Common.{refl, ap}
use Rattle.array_steps.proofs.Went.{epoch-of}
use Rattle.array_steps.proofs.Replies.{gone-room, gone-answered, gone-behind, done-behind, answered-refused}
use Rattle.array_steps.proofs.stepping.step.Goals as goal

pub returns-in-Err-clause-went : goal.returns-in-Err-clause-went
returns-in-Err-clause-went g c = rw c.in-Err.ensures.unchanged (gone-none g.B.Bank.tells g.B.Bank.given g.B.Bank.tape g.B.Bank.faults_of c.args.array.now)

pub returns-then-left-eq0-clause-answered : goal.returns-then-left-eq0-clause-answered
returns-then-left-eq0-clause-answered g c = behind-alone c.args.who c.answer.ensures.entered.end (Refused Nothing) (ap (λ a. a.parts.entries) c.in-Ok.ensures.room) c.answer.ensures.entered.is

pub returns-in-Ok-take_step-clause-answered : goal.returns-in-Ok-take_step-clause-answered
returns-in-Ok-take_step-clause-answered g c = (
  c.in-Ok-take_step.field-0,
  done-behind g.B.Bank.tells g.B.Bank.given g.B.Bank.tape g.B.Bank.faults_of c.args.array.now c.make_room.new.self c.take_step.new.array 2 c.in-Ok.ensures.room c.args.who c.in-Ok-take_step.field-0 c.in-Ok-take_step.ensures.taken,
)

pub returns-in-Err-take_step-clause-answered : goal.returns-in-Err-take_step-clause-answered
returns-in-Err-take_step-clause-answered g c =
    answered-refused g.B.Bank.tells g.B.Bank.given g.B.Bank.tape g.B.Bank.faults_of c.args.array.now c.make_room.new.self c.take_step.new.array 2 c.in-Ok.ensures.room c.args.who c.in-Err-take_step.refusal c.in-Err-take_step.ensures.taken

pub returns-then-left-eq0-clause-went : goal.returns-then-left-eq0-clause-went
returns-then-left-eq0-clause-went g c =
    let old = c.args.array.now in
    let mid = c.make_room.new.self in
    let new = c.answer.new.self in
    let a = c.answer.ensures in
    gone-answered g.B.Bank.tells g.B.Bank.given g.B.Bank.tape g.B.Bank.faults_of old mid new c.args.who (Refused Nothing) a.entered.end (gone-room g.B.Bank.tells g.B.Bank.given g.B.Bank.tape g.B.Bank.faults_of old mid 2 c.in-Ok.ensures.room)
    a.entered.is a.bank a.members a.called.same.ahead (epoch-of mid new a.called.same) (λ n. refl) (λ Had Was before now. tt) tt

pub returns-in-Ok-take_step-clause-went : goal.returns-in-Ok-take_step-clause-went
returns-in-Ok-take_step-clause-went g c =
    gone-behind g.B.Bank.tells g.B.Bank.given g.B.Bank.tape g.B.Bank.faults_of c.args.array.now c.make_room.new.self c.take_step.new.array 2 c.in-Ok.ensures.room c.in-Ok-take_step.ensures.taken.went

pub returns-in-Err-take_step-clause-went : goal.returns-in-Err-take_step-clause-went
returns-in-Err-take_step-clause-went g c =
    gone-behind g.B.Bank.tells g.B.Bank.given g.B.Bank.tape g.B.Bank.faults_of c.args.array.now c.make_room.new.self c.take_step.new.array 2 c.in-Ok.ensures.room c.in-Err-take_step.ensures.taken.went
