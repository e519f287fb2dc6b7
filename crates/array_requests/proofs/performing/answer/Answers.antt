use Rattle.std.proofs.Common.{subst}
use Rattle.std.specs.Prelude.{⊤}
use Rattle.history_append.specs.history_the_Request.{Request}
use Rattle.history_append.specs.history_the_Request_TheVariants.{Read as AsksRead, Write as AsksWrite, Flush as AsksFlush, Fail as AsksFail, Add as AsksAdd, Visible as AsksVisible, Grow as AsksGrow, Steps as AsksSteps, Show as AsksShow}
use Rattle.array_requests.specs.Replies.{IsAskable}
use Rattle.array_requests.proofs.Arms.{performed-as, counted-as, rests-as}
use Rattle.array_requests.proofs.GoneOn.{gone-run}
use Rattle.array_requests.proofs.Ways.{way-stepped}
use Rattle.array_requests.proofs.performing.answer.Goals as goal
use Rattle.array_open.proofs.Handed.{ok-any}

pub returns-in-Steps-clause-went : goal.returns-in-Steps-clause-went
returns-in-Steps-clause-went g c =
    let did = c.steps.ensures in
    gone-run g.B.Bank.tells g.B.Bank.given g.B.Bank.tape g.B.Bank.faults_of c.args.array.now c.steps.new.array did.went (way-stepped c.args.array.now c.steps.new.array did.went.more did.went.grown did.kept)

pub returns-in-Read-clause-replied : goal.returns-in-Read-clause-replied
returns-in-Read-clause-replied g c = performed-as c.args.request (AsksRead c.in-Read.at c.in-Read.count) c.args.who c.args.array.now c.read.new.array.parts.entries c.read.result c.in-Read.is c.read.ensures.replied

pub returns-in-Read-clause-counted : goal.returns-in-Read-clause-counted
returns-in-Read-clause-counted g c = counted-as c.args.request (AsksRead c.in-Read.at c.in-Read.count) c.args.array.now c.read.new.array c.read.result c.in-Read.is (ok-any c.read.result ⊤ tt)

pub returns-in-Read-clause-rest : goal.returns-in-Read-clause-rest
returns-in-Read-clause-rest g c = rests-as c.args.request (AsksRead c.in-Read.at c.in-Read.count) c.read.new.array c.read.result c.in-Read.is (ok-any c.read.result ⊤ tt)

pub returns-in-Write-clause-replied : goal.returns-in-Write-clause-replied
returns-in-Write-clause-replied g c = performed-as c.args.request (AsksWrite c.in-Write.at c.in-Write.body) c.args.who c.args.array.now c.write.new.array.parts.entries c.write.result c.in-Write.is c.write.ensures.replied

pub returns-in-Write-clause-counted : goal.returns-in-Write-clause-counted
returns-in-Write-clause-counted g c = counted-as c.args.request (AsksWrite c.in-Write.at c.in-Write.body) c.args.array.now c.write.new.array c.write.result c.in-Write.is (ok-any c.write.result ⊤ tt)

pub returns-in-Write-clause-rest : goal.returns-in-Write-clause-rest
returns-in-Write-clause-rest g c = rests-as c.args.request (AsksWrite c.in-Write.at c.in-Write.body) c.write.new.array c.write.result c.in-Write.is (ok-any c.write.result ⊤ tt)

pub returns-in-Flush-clause-replied : goal.returns-in-Flush-clause-replied
returns-in-Flush-clause-replied g c = performed-as c.args.request AsksFlush c.args.who c.args.array.now c.flush.new.array.parts.entries c.flush.result c.in-Flush.is c.flush.ensures.replied

pub returns-in-Flush-clause-counted : goal.returns-in-Flush-clause-counted
returns-in-Flush-clause-counted g c = counted-as c.args.request AsksFlush c.args.array.now c.flush.new.array c.flush.result c.in-Flush.is (ok-any c.flush.result ⊤ tt)

pub returns-in-Flush-clause-rest : goal.returns-in-Flush-clause-rest
returns-in-Flush-clause-rest g c = rests-as c.args.request AsksFlush c.flush.new.array c.flush.result c.in-Flush.is (ok-any c.flush.result ⊤ tt)

pub returns-in-Fail-clause-replied : goal.returns-in-Fail-clause-replied
returns-in-Fail-clause-replied g c = performed-as c.args.request (AsksFail c.in-Fail.role) c.args.who c.args.array.now c.fail.new.array.parts.entries c.fail.result c.in-Fail.is c.fail.ensures.replied

pub returns-in-Fail-clause-counted : goal.returns-in-Fail-clause-counted
returns-in-Fail-clause-counted g c = counted-as c.args.request (AsksFail c.in-Fail.role) c.args.array.now c.fail.new.array c.fail.result c.in-Fail.is (ok-any c.fail.result ⊤ tt)

pub returns-in-Fail-clause-rest : goal.returns-in-Fail-clause-rest
returns-in-Fail-clause-rest g c = rests-as c.args.request (AsksFail c.in-Fail.role) c.fail.new.array c.fail.result c.in-Fail.is (ok-any c.fail.result ⊤ tt)

pub returns-in-Add-clause-replied : goal.returns-in-Add-clause-replied
returns-in-Add-clause-replied g c = performed-as c.args.request (AsksAdd c.in-Add.slot) c.args.who c.args.array.now c.add.new.array.parts.entries c.add.result c.in-Add.is c.add.ensures.replied

pub returns-in-Add-clause-counted : goal.returns-in-Add-clause-counted
returns-in-Add-clause-counted g c = counted-as c.args.request (AsksAdd c.in-Add.slot) c.args.array.now c.add.new.array c.add.result c.in-Add.is (ok-any c.add.result ⊤ tt)

pub returns-in-Add-clause-rest : goal.returns-in-Add-clause-rest
returns-in-Add-clause-rest g c = rests-as c.args.request (AsksAdd c.in-Add.slot) c.add.new.array c.add.result c.in-Add.is (ok-any c.add.result ⊤ tt)

pub returns-in-Visible-clause-replied : goal.returns-in-Visible-clause-replied
returns-in-Visible-clause-replied g c = performed-as c.args.request (AsksVisible c.in-Visible.wished) c.args.who c.args.array.now c.set_limit.new.array.parts.entries c.set_limit.result c.in-Visible.is c.set_limit.ensures.replied

pub returns-in-Visible-clause-counted : goal.returns-in-Visible-clause-counted
returns-in-Visible-clause-counted g c = counted-as c.args.request (AsksVisible c.in-Visible.wished) c.args.array.now c.set_limit.new.array c.set_limit.result c.in-Visible.is (ok-any c.set_limit.result ⊤ tt)

pub returns-in-Visible-clause-rest : goal.returns-in-Visible-clause-rest
returns-in-Visible-clause-rest g c = rests-as c.args.request (AsksVisible c.in-Visible.wished) c.set_limit.new.array c.set_limit.result c.in-Visible.is (ok-any c.set_limit.result ⊤ tt)

pub returns-in-Grow-clause-replied : goal.returns-in-Grow-clause-replied
returns-in-Grow-clause-replied g c = performed-as c.args.request (AsksGrow c.in-Grow.wish) c.args.who c.args.array.now c.grow.new.array.parts.entries c.grow.result c.in-Grow.is c.grow.ensures.replied

pub returns-in-Grow-clause-counted : goal.returns-in-Grow-clause-counted
returns-in-Grow-clause-counted g c = counted-as c.args.request (AsksGrow c.in-Grow.wish) c.args.array.now c.grow.new.array c.grow.result c.in-Grow.is (ok-any c.grow.result ⊤ tt)

pub returns-in-Grow-clause-rest : goal.returns-in-Grow-clause-rest
returns-in-Grow-clause-rest g c = rests-as c.args.request (AsksGrow c.in-Grow.wish) c.grow.new.array c.grow.result c.in-Grow.is (ok-any c.grow.result ⊤ tt)

pub returns-in-Steps-clause-replied : goal.returns-in-Steps-clause-replied
returns-in-Steps-clause-replied g c = performed-as c.args.request (AsksSteps c.in-Steps.most) c.args.who c.args.array.now c.steps.new.array.parts.entries c.steps.result c.in-Steps.is c.steps.ensures.replied

pub returns-in-Steps-clause-counted : goal.returns-in-Steps-clause-counted
returns-in-Steps-clause-counted g c = counted-as c.args.request (AsksSteps c.in-Steps.most) c.args.array.now c.steps.new.array c.steps.result c.in-Steps.is c.steps.ensures.counted

pub returns-in-Steps-clause-rest : goal.returns-in-Steps-clause-rest
returns-in-Steps-clause-rest g c = rests-as c.args.request (AsksSteps c.in-Steps.most) c.steps.new.array c.steps.result c.in-Steps.is c.steps.ensures.rest

pub returns-in-Show-clause-replied : goal.returns-in-Show-clause-replied
returns-in-Show-clause-replied g c = performed-as c.args.request AsksShow c.args.who c.args.array.now c.show.new.array.parts.entries c.show.result c.in-Show.is c.show.ensures.shown

pub returns-in-Show-clause-counted : goal.returns-in-Show-clause-counted
returns-in-Show-clause-counted g c = counted-as c.args.request AsksShow c.args.array.now c.show.new.array c.show.result c.in-Show.is (ok-any c.show.result ⊤ tt)

pub returns-in-Show-clause-rest : goal.returns-in-Show-clause-rest
returns-in-Show-clause-rest g c = rests-as c.args.request AsksShow c.show.new.array c.show.result c.in-Show.is (ok-any c.show.result ⊤ tt)

pub read-requires-clause-askable : goal.read-requires-clause-askable
read-requires-clause-askable g c = subst (λ (q : Request). IsAskable q) c.in-Read.is c.requires.askable

pub write-requires-clause-askable : goal.write-requires-clause-askable
write-requires-clause-askable g c = subst (λ (q : Request). IsAskable q) c.in-Write.is c.requires.askable

pub steps-requires-clause-some : goal.steps-requires-clause-some
steps-requires-clause-some g c = subst (λ (q : Request). IsAskable q) c.in-Steps.is c.requires.askable
