use Rattle.std.proofs.Common.{List, ap}
use Rattle.std.specs.Prelude.{IsErr}
use Rattle.array_reshaping_steps.specs.bank_the_Operation.{Operation}
use Rattle.array_reshaping_steps.specs.stripe_row_Rows.{present}
use Rattle.array_reshaping_steps.proofs.array_fixed_laws_AddLaws.{ready-same}
use Rattle.array_transition.proofs.GivenBack.{err-tape}
use Rattle.array_transition.proofs.beginning.fail_backup.Goals as goal

pub give_back-requires-clause-ready : goal.give_back-requires-clause-ready
give_back-requires-clause-ready g c =
    let did = c.flush.ensures in
    let fails : IsErr c.flush.result = did.cause.stays_failed (c.requires.ready.failed c.args.backup c.requires.slot c.requires.failing) in
    ready-same {tells = g.B.Bank.tells} {backup = c.args.pieces.backup} did.given (err-tape c.flush.result fails did.err) did.cause.never_falls c.requires.ready

pub returns-clause-tape : goal.returns-clause-tape
returns-clause-tape g c =
    let did = c.flush.ensures in
    let fails : IsErr c.flush.result = did.cause.stays_failed (c.requires.ready.failed c.args.backup c.requires.slot c.requires.failing) in
    rw (c.give_back.ensures.bank) (err-tape c.flush.result fails did.err)

pub returns-clause-failed : goal.returns-clause-failed
returns-clause-failed g c =
    let did = c.flush.ensures in
    let fails : IsErr c.flush.result = did.cause.stays_failed (c.requires.ready.failed c.args.backup c.requires.slot c.requires.failing) in
    rw (c.give_back.ensures.bank) (did.cause.failed fails)

pub returns-clause-never_falls : goal.returns-clause-never_falls
returns-clause-never_falls g c = rw (c.give_back.ensures.bank) c.flush.ensures.cause.never_falls

pub returns-clause-back : goal.returns-clause-back
returns-clause-back g c =
    let did = c.flush.ensures in
    let back = c.give_back.ensures.back in
    let fails : IsErr c.flush.result = did.cause.stays_failed (c.requires.ready.failed c.args.backup c.requires.slot c.requires.failing) in
    let same = err-tape c.flush.result fails did.err in
    record {
      end = back.end;
      entered = back.entered;
      ended = rw (c.give_back.ensures.bank) back.ended;
      members = back.members;
      others = rw (c.give_back.ensures.bank) (λ t slot k far which. ap (λ (l : List Operation). present (g.B.Bank.given c.args.pieces.bank) l slot k) (same t));
      course = back.course;
      ahead = back.ahead;
      steps = back.steps;
      same = record { uuid = back.same.uuid; given = back.same.given; first = back.same.first; backup = back.same.backup; work = back.same.work; limit = back.same.limit };
    }

pub returns-clause-still : goal.returns-clause-still
returns-clause-still g c = c.give_back.ensures.still
