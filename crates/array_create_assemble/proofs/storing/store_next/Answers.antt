use Rattle.std.proofs.Common.{sym, subst, Option}
use Rattle.array_found_laws.specs.sb_codec_the_Sb.{Sb}
use Rattle.sb_add_spare.specs.stripe_row_Rows.{present}
use Rattle.array_create_assemble.specs.Filling.{IsStored}
use Rattle.array_create_assemble.proofs.FirstLaws.{first-more, set-here}
use Rattle.array_create_assemble.proofs.storing.store_next.Goals as goal

pub returns-in-Ok-clause-first : goal.returns-in-Ok-clause-first
returns-in-Ok-clause-first g c =
    first-more (g.B.Bank.given c.args.bank.now) c.args.spec.now c.args.slot c.args.own.now c.set.new.self c.in-Ok.stored c.requires.few c.requires.first
    c.set.ensures.own c.in-Ok.ensures.made c.in-Ok.ensures.short

pub returns-in-Ok-clause-stored : goal.returns-in-Ok-clause-stored
returns-in-Ok-clause-stored g c = λ told.
    subst (λ (own : Option Sb). IsStored ((g.B.Bank.given c.args.bank.now).sectors c.args.slot) (present (g.B.Bank.given c.args.bank.now) (g.B.Bank.tape c.store_member.new.bank) c.args.slot) own)
    (sym (set-here (g.B.Bank.given c.args.bank.now) c.args.spec.now c.args.slot c.args.own.now c.set.new.self c.in-Ok.stored c.requires.few c.requires.first c.set.ensures.own))
    (c.in-Ok.ensures.stored told)
