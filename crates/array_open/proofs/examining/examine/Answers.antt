use Rattle.std.proofs.Common.{◌<◌, length, sym, ap, subst}
use Rattle.array_create_assemble.specs.sb_specs_Reading.{is_reshaping}
use Rattle.array_steps.proofs.array_Both.{both-looked}
use Rattle.array_open.proofs.examining.examine.Goals as goal

pub examine-found-requires : goal.examine-found-requires
examine-found-requires g c = record { slot = subst (λ p. c.args.slot < (g.B.Bank.given p.parts.bank).slots) (sym c.array.view_is) c.requires.slot }

pub invariant_of-array : goal.invariant_of-array
invariant_of-array g c =
    let did = c.examine-found.ensures in
    both-looked g.B.Bank.given g.B.Bank.tape (length c.array.inside.window.items) c.array.inside.array c.examine-found.new.array (ap (λ p. is_reshaping p.parts.members.newest) did.else_same) did.given did.tape did.else_same
    c.check_array.ensures.rest c.check_array.ensures.within c.array.invariant

pub returns-clause-found : goal.returns-clause-found
returns-clause-found g c = rw (← c.array.view_is) c.examine-found.ensures.found

pub returns-clause-cause : goal.returns-clause-cause
returns-clause-cause g c = rw (← c.array.view_is) c.examine-found.ensures.cause

pub returns-clause-tape : goal.returns-clause-tape
returns-clause-tape g c = rw (← c.array.view_is) c.examine-found.ensures.tape

pub returns-clause-given : goal.returns-clause-given
returns-clause-given g c = rw (← c.array.view_is) c.examine-found.ensures.given

pub returns-clause-else_same : goal.returns-clause-else_same
returns-clause-else_same g c = rw (← c.array.view_is) c.examine-found.ensures.else_same
