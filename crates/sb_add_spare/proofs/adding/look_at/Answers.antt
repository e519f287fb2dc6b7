use Rattle.std.proofs.Common.{◌∙◌, List, sym, subst}
use Rattle.sb_safe_updates.specs.raid_types_Sectors.{Sector}
use Rattle.sb_safe_updates.specs.bank_the_Operation.{Operation}
use Rattle.sb_safe_updates.specs.bank_Given.{Given}
use Rattle.sb_safe_updates.specs.bank_Tape.{IsIn, disk}
use Rattle.sb_safe_updates.specs.array_members_Numbers.{AreSecondEntries}
use Rattle.sb_add_spare.proofs.AddedLooks.{done-ok, is-ok, second-left}
use Rattle.sb_add_spare.proofs.adding.look_at.Goals as goal

pub returns-clause-second : goal.returns-clause-second
returns-clause-second g c = λ told.
    let given : Given = g.B.Bank.given c.flush.new.self in
    let tape : List Operation = g.B.Bank.tape c.flush.new.self in
    let did = c.flush.ensures.did.all told (is-ok c.flush.result (sym c.is_err.ensures.value ∙ c.if-is_err.false)) in
    let ok = done-ok c.read.result (sym c.is_err-2.ensures.value ∙ c.if-is_err-2.false) c.read.ensures.ok told in
    subst (λ (b : Given). (sector : Sector) → IsIn (disk b.start (g.B.Bank.tape c.read.new.self) c.args.slot 9) sector → AreSecondEntries c.second_entries.result sector) c.flush.ensures.given
    (subst (λ (t : List Operation). (sector : Sector) → IsIn (disk given.start t c.args.slot 9) sector → AreSecondEntries c.second_entries.result sector) (sym (c.read.ensures.tape told))
    (second-left given.start (g.B.Bank.tape c.args.bank.now) tape c.args.slot c.read.new.into c.second_entries.result did c.read.auto.into ok c.second_entries.ensures.small c.second_entries.ensures.entries))
