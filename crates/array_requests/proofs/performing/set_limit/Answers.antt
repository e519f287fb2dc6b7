use Rattle.std.proofs.Common.{ℕ, sym, subst}
use Rattle.array_open.specs.sb_specs_Reading.{list_length}
use Rattle.history_append.specs.history_the_Event_TheVariants.{Visible}
use Rattle.history_append.specs.history_the_Request_TheVariants.{Visible as AsksVisible}
use Rattle.array_open.specs.array_reply_specs_Replies.{IsAnsweredWith}
use Rattle.array_requests.proofs.GoneOn.{gone-run}
use Rattle.array_requests.proofs.Ways.{way-same}
use Rattle.array_requests.proofs.performing.set_limit.Goals as goal

pub returns-in-Ok-clause-replied : goal.returns-in-Ok-clause-replied
returns-in-Ok-clause-replied g c =
    let did = c.in-Ok.ensures in
    subst (λ (count : ℕ). IsAnsweredWith (list_length c.args.array.now.parts.members.newest) (AsksVisible c.args.limit) c.args.who c.args.array.now.parts.entries c.set_visible.new.array.parts.entries (Visible c.args.limit count))
    (sym did.judged.1) did.answered

pub returns-in-Ok-clause-went : goal.returns-in-Ok-clause-went
returns-in-Ok-clause-went g c =
    let did = c.in-Ok.ensures in
    gone-run g.B.Bank.tells g.B.Bank.given g.B.Bank.tape g.B.Bank.faults_of c.args.array.now c.set_visible.new.array did.went
    (way-same c.args.array.now c.set_visible.new.array did.went.more did.limited.members did.limited.ahead)

pub returns-in-Err-Refused-clause-went : goal.returns-in-Err-Refused-clause-went
returns-in-Err-Refused-clause-went g c =
    let did = c.in-Err-Refused.ensures in
    gone-run g.B.Bank.tells g.B.Bank.given g.B.Bank.tape g.B.Bank.faults_of c.args.array.now c.set_visible.new.array did.went
    (way-same c.args.array.now c.set_visible.new.array did.went.more did.limited.members did.limited.ahead)

pub returns-in-Err-NoMemory-clause-went : goal.returns-in-Err-NoMemory-clause-went
returns-in-Err-NoMemory-clause-went g c =
    let did = c.in-Err-NoMemory.ensures in
    gone-run g.B.Bank.tells g.B.Bank.given g.B.Bank.tape g.B.Bank.faults_of c.args.array.now c.set_visible.new.array did.went
    (way-same c.args.array.now c.set_visible.new.array did.went.more did.limited.members did.limited.ahead)
