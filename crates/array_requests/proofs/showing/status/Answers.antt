use Rattle.std.proofs.Common.{◌≡◌, length, sym, subst}
use Rattle.history_append.specs.history_Flat.{next_number}
use Rattle.array_open.proofs.array_Entered.{add-shown}
use Rattle.array_open.proofs.array_Both.{both-alone}
use Rattle.array_requests.proofs.showing.status.Goals as goal

pub status-status-requires-clause-next : goal.status-status-requires-clause-next
status-status-requires-clause-next g c = subst (λ p. c.args.who.number ≡ next_number c.args.who.caller p.parts.entries) (sym c.array.view_is) c.requires.next

pub invariant_of-array : goal.invariant_of-array
invariant_of-array g c =
    let old = c.array.inside.array in
    let new = c.status-status.new.array in
    let did = c.status-status.ensures in
    let added = add-shown g.B.Bank.tells (g.B.Bank.tape old.parts.bank) c.args.who old new c.status-status.result did.entered did.unchanged in
    both-alone g.B.Bank.given g.B.Bank.tape (length c.array.inside.window.items) old new did.active added did.bank did.same did.members did.work c.check_array.ensures.rest c.check_array.ensures.within c.array.invariant

pub returns-clause-entered : goal.returns-clause-entered
returns-clause-entered g c = rw (← c.array.view_is) c.status-status.ensures.entered

pub returns-clause-told : goal.returns-clause-told
returns-clause-told g c = rw (← c.array.view_is) c.status-status.ensures.told

pub returns-clause-unchanged : goal.returns-clause-unchanged
returns-clause-unchanged g c = rw (← c.array.view_is) c.status-status.ensures.unchanged

pub returns-clause-bank : goal.returns-clause-bank
returns-clause-bank g c = rw (← c.array.view_is) c.status-status.ensures.bank

pub returns-clause-members : goal.returns-clause-members
returns-clause-members g c = rw (← c.array.view_is) c.status-status.ensures.members

pub returns-clause-work : goal.returns-clause-work
returns-clause-work g c = rw (← c.array.view_is) c.status-status.ensures.work

pub returns-clause-course : goal.returns-clause-course
returns-clause-course g c = rw (← c.array.view_is) c.status-status.ensures.course

pub returns-clause-same : goal.returns-clause-same
returns-clause-same g c = rw (← c.array.view_is) c.status-status.ensures.same

pub returns-clause-few : goal.returns-clause-few
returns-clause-few g c = c.status-status.ensures.few

pub returns-clause-ended : goal.returns-clause-ended
returns-clause-ended g c = c.status-status.ensures.ended
