use Rattle.std.proofs.Common.{refl, arith}
use Rattle.array_call_laws.proofs.AddLaws.{many-of, does-of, unaddable-many, unaddable-none, offset-of}
use Rattle.sb_add_spare.proofs.array_members_Fit.{few}
use Rattle.array_state.proofs.adding.unaddable.Goals as goal

pub is_taken-requires : goal.is_taken-requires
is_taken-requires g c = record { few = few (g.B.Bank.given c.args.bank.now) c.args.members.now c.requires.placed }

pub returns-in-Some : goal.returns-in-Some
returns-in-Some g c =
    unaddable-many (g.B.Bank.given c.args.bank.now) c.args.backup c.args.slot c.args.members.now c.requires.placed c.in-Some.refusal (omega arith)
    (c.is_taken.ensures.no c.if-is_taken.false) (many-of c.args.members.now c.in-Some.refusal c.in-Some.ensures)

pub first_offset-requires-clause-few : goal.first_offset-requires-clause-few
first_offset-requires-clause-few g c = few (g.B.Bank.given c.args.bank.now) c.args.members.now c.requires.placed

pub first_offset-requires-clause-small : goal.first_offset-requires-clause-small
first_offset-requires-clause-small g c role slot held = (c.requires.placed.holders role slot held).small

pub overflow_add-want : goal.overflow_add-want
overflow_add-want g c =
    let fits = offset-of (g.B.Bank.given c.args.bank.now) c.args.backup c.args.slot c.args.members.now c.requires.placed (does-of c.args.members.now c.in_default.ensures.1) c.first_offset.result c.first_offset.ensures in
    let low = fits.1 in omega (arith, low)

pub returns-then-have-want : goal.returns-then-have-want
returns-then-have-want g c =
    (omega arith, c.is_taken.ensures.no c.if-is_taken.false, does-of c.args.members.now c.in_default.ensures.1, c.len-have.ensures, c.if-have-want.true, c.first_offset.result, c.first_offset.ensures, refl)

pub returns : goal.returns
returns g c =
    unaddable-none (g.B.Bank.given c.args.bank.now) c.args.backup c.args.slot c.args.members.now c.requires.placed (omega arith)
    (c.is_taken.ensures.no c.if-is_taken.false) (does-of c.args.members.now c.in_default.ensures.1) c.first_offset.result c.first_offset.ensures (omega arith)
