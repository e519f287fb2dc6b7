use Rattle.std.proofs.Common.{arith}
use Rattle.array_reshaping_state.specs.stripe_row_Rows.{present}
use Rattle.array_open_window.proofs.FindLaws.{ok-found}
use Rattle.array_open_window.proofs.windows.find_window.Goals as goal

pub returns-in-Some-clause-sectors : goal.returns-in-Some-clause-sectors
returns-in-Some-clause-sectors g c =
    ok-found g.B.Bank.tells (present (g.B.Bank.given c.args.bank.now) (g.B.Bank.tape c.args.bank.now) c.args.backup) c.in-Some.span c.find_entered.new.buffer c.find_entered.result
    (let reach = c.in-Some.ensures.reach in let room = c.requires.room in let long = c.find_entered.ensures.long in omega (arith, reach, room, long))
    c.find_entered.ensures.either c.find_entered.ensures.sectors
