use Rattle.std.proofs.Common.{◌≡◌, ℕ, ◌+◌, ◌∷◌, [], refl, sym, ◌∙◌, ap, subst, arith, inl, List, take}
use Rattle.sb_safe_updates.specs.bank_the_Operation_TheVariants.{Write}
use Rattle.sb_safe_updates.specs.bank_Tape.{Did, disk}
use Rattle.sb_safe_updates.proofs.bank_Marks.{each_mark-map}
use Rattle.sb_safe_updates.specs.raid_parity_Rows.{sector_of}
use Rattle.sb_safe_updates.proofs.stripe_row_Turns.{marks_last}
use Rattle.sb_safe_updates.specs.sb_specs_Reading.{holder}
use Rattle.sb_safe_updates.specs.array_members_Rebuilding.{IsFilling}
use Rattle.stripe_io.proofs.FillingLaws.{AreFilled, row_write, filled-present, filled-more, write-stands, marks-written, filled-none}
use Rattle.sb_safe_updates.specs.stripe_row_Rows.{present}
use Rattle.sb_safe_updates.proofs.array_members_LackingWrites.{marks-here}
use Rattle.std.specs.Prelude.{Result}
use Rattle.sb_safe_updates.specs.bank_the_Operation.{Operation}
use Rattle.sb_safe_updates.specs.array_members_Moving.{Grows}
use Rattle.sb_safe_updates.proofs.FrameLaws.{goes-none}
use Rattle.stripe_io.proofs.filling.fill_row.Goals as goal

pub overflow_add-target : goal.overflow_add-target
overflow_add-target g c =
    let has = c.requires.placed.holders c.args.target.now.role c.args.target.now.slot (ap holder c.requires.recovering) in
    let within = has.within in
    let short = has.short in
    omega (arith, within, short, c.requires.below, c.requires.offset)

pub write_sector-requires-clause-place : goal.write_sector-requires-clause-place
write_sector-requires-clause-place g c =
    let has = c.requires.placed.holders c.args.target.now.role c.args.target.now.slot (ap holder c.requires.recovering) in
    let within = has.within in
    record {
      known = has.known;
      some = omega arith;
      whole = refl;
      within = omega (arith, within, c.requires.below, c.requires.offset);
    }

pub returns-clause-each_mark : goal.returns-clause-each_mark
returns-clause-each_mark g c =
    let m = c.args.members.now in
    let role = c.args.target.now.role in
    let slot = c.args.target.now.slot in
    let row = c.args.row in
    let start = (g.B.Bank.given c.args.bank.now).start in
    let tape0 = g.B.Bank.tape c.args.bank.now in
    let tape1 = g.B.Bank.tape c.write_sector.new.bank in
    let bytes = sector_of c.make_sector.new.bytes role in
    let did : Did g.B.Bank.tells c.write_sector.result tape0 tape1 (row_write m role slot row bytes) =
    subst (λ (n : ℕ). Did g.B.Bank.tells c.write_sector.result tape0 tape1 (Write slot (n + row) bytes ∷ [])) c.requires.offset c.write_sector.ensures.did in
    each_mark-map (IsFilling m role slot (disk start tape0)) (λ told e filled. filled-more m role slot (λ other. other ≡ row) (λ other. Unit {0}) (disk start tape0) e (λ other same. tt) filled)
    (marks-written m role slot row bytes c.requires.below c.requires.recovering (let high = c.if-row-target.false in omega (arith, high, c.requires.held)) start tape0 tape1 did)

pub returns-clause-written : goal.returns-clause-written
returns-clause-written g c = λ ok told list own high.
    let m = c.args.members.now in
    let role = c.args.target.now.role in
    let slot = c.args.target.now.slot in
    let row = c.args.row in
    let given = g.B.Bank.given c.args.bank.now in
    let tape0 = g.B.Bank.tape c.args.bank.now in
    let tape1 = g.B.Bank.tape c.write_sector.new.bank in
    let bytes = sector_of c.make_sector.new.bytes role in
    let did : Did g.B.Bank.tells c.write_sector.result tape0 tape1 (row_write m role slot row bytes) =
    subst (λ (n : ℕ). Did g.B.Bank.tells c.write_sector.result tape0 tape1 (Write slot (n + row) bytes ∷ [])) c.requires.offset c.write_sector.ensures.did in
    write-stands m role slot row bytes given tape0 tape1 (did.all told (sym c.is_ok.ensures.value ∙ ok)) ∙ c.make_sector.ensures.full list own

pub returns-clause-others : goal.returns-clause-others
returns-clause-others g c = λ told.
    let m = c.args.members.now in
    let role = c.args.target.now.role in
    let slot = c.args.target.now.slot in
    let row = c.args.row in
    let given = g.B.Bank.given c.args.bank.now in
    let tape0 = g.B.Bank.tape c.args.bank.now in
    let tape1 = g.B.Bank.tape c.write_sector.new.bank in
    let bytes = sector_of c.make_sector.new.bytes role in
    let did : Did g.B.Bank.tells c.write_sector.result tape0 tape1 (row_write m role slot row bytes) =
    subst (λ (n : ℕ). Did g.B.Bank.tells c.write_sector.result tape0 tape1 (Write slot (n + row) bytes ∷ [])) c.requires.offset c.write_sector.ensures.did in
    filled-present m role slot (λ other. other ≡ row) given tape0 tape1
    (marks_last {P = AreFilled m role slot (λ other. other ≡ row) (disk given.start tape0)}
    (marks-written m role slot row bytes c.requires.below c.requires.recovering (let high = c.if-row-target.false in omega (arith, high, c.requires.held)) given.start tape0 tape1 did) told)

pub returns-then-row-target-clause-each_mark : goal.returns-then-row-target-clause-each_mark
returns-then-row-target-clause-each_mark g c =
    marks-here {P = IsFilling c.args.members.now c.args.target.now.role c.args.target.now.slot (disk (g.B.Bank.given c.args.bank.now).start (g.B.Bank.tape c.args.bank.now))} g.B.Bank.tells (g.B.Bank.given c.args.bank.now).start (g.B.Bank.tape c.args.bank.now) (λ s k. inl refl)

pub returns-then-row-target-clause-others : goal.returns-then-row-target-clause-others
returns-then-row-target-clause-others g c told =
    filled-none c.args.members.now c.args.target.now.role c.args.target.now.slot (λ other. other ≡ c.args.row) (present (g.B.Bank.given c.args.bank.now) (g.B.Bank.tape c.args.bank.now))

pub returns-then-row-target-clause-bank : goal.returns-then-row-target-clause-bank
returns-then-row-target-clause-bank g c = goes-none c.args.bank.now

-- operations that were done are added to the tape
grows-did : {T E tells : Type 0} {result : Result T E} {old new ops : List Operation} → Did tells result old new ops → Grows tells old new
grows-did {ops = ops} did = record { more = λ told. let some = did.some told in (take some.0 ops, some.1) }

pub returns-clause-bank : goal.returns-clause-bank
returns-clause-bank g c = record {
  same = c.write_sector.ensures.given;
  grows = grows-did c.write_sector.ensures.did;
  counts = c.write_sector.ensures.cause.never_falls;
}
