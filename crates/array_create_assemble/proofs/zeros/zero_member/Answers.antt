use Rattle.std.proofs.Common.{◌≡◌, ◌+◌, ◌<◌, ℕ, List, length, inl, inr, refl, sym, ap, ◌∙◌, arith}
use Rattle.std.proofs.lemmas.Bool.{cases_eq}
use Rattle.array_found_laws.specs.raid_types_Sectors.{zero_sector}
use Rattle.bank.specs.declared.bank.Operation.{Operation}
use Rattle.bank.specs.Given.{Given}
use Rattle.array_create_assemble.specs.Filling.{IsSlotDone}
use Rattle.array_create_assemble.proofs.FillLaws.{below-did, below-then, written-here, written-other, present-same, flushed-present, flushed-other, flushed-here, on-flush}
use Rattle.sb_add_spare.specs.stripe_row_Rows.{present}
use Rattle.array_create_assemble.proofs.zeros.zero_member.Goals as goal

pub write_sector-requires-clause-size : goal.write_sector-requires-clause-size
unfolding zero_sector
write_sector-requires-clause-size g c = ap length c.requires.zeros

pub returns-in-Err-clause-tape : goal.returns-in-Err-clause-tape
returns-in-Err-clause-tape g c = λ told.
    below-then (c.args.slot + 1) _ _ _ (c.loop-row.invariant.tape told)
    (below-did (c.args.slot + 1) _ _ _ (omega arith, tt) c.write_sector.ensures.did told)

pub loop-row-preserved : goal.loop-row-preserved
loop-row-preserved g c =
    let was = c.loop-row.invariant in
    let given : Given = g.B.Bank.given c.args.bank.now in
    let old : List Operation = g.B.Bank.tape c.loop-row.bank in
    let new : List Operation = g.B.Bank.tape c.write_sector.new.bank in
    let did = c.in-Ok.ensures.did in
    record {
      same = c.write_sector.ensures.given ∙ was.same;
      zero = λ told row lt. elim (cases_eq row c.loop-row.row) [
        | inl same ↦ ap (λ r. present given new c.args.slot (c.args.offset + r)) same
            ∙ written-here given.start old new c.args.slot (c.args.offset + c.loop-row.row) c.args.zeros.now (did.all told refl) ∙ c.requires.zeros
        | inr other ↦ present-same given.start old new c.args.slot (c.args.offset + row)
            (written-other given.start old new c.args.slot (c.args.offset + c.loop-row.row) c.args.zeros.now (did.all told refl) c.args.slot (c.args.offset + row)
            (inr (λ e. other (omega (arith, e)))))
            ∙ was.zero told row (omega (arith, lt, other))
      ];
      apart = λ told s k other.
          written-other given.start old new c.args.slot (c.args.offset + c.loop-row.row) c.args.zeros.now (did.all told refl) s k (inl (λ e. other (sym e)))
          ∙ was.apart told s k other;
      tape = λ told. below-then (c.args.slot + 1) _ _ _ (was.tape told) (below-did (c.args.slot + 1) _ _ _ (omega arith, tt) did told);
      never_falls = λ s. omega (arith, was.never_falls s, c.write_sector.ensures.cause.never_falls s);
      counts = λ s other. c.write_sector.ensures.cause.others s other ∙ was.counts s other;
    }

pub returns-clause-zero : goal.returns-clause-zero
returns-clause-zero g c =
    let given : Given = g.B.Bank.given c.args.bank.now in
    on-flush c.flush.result (g.B.Bank.tape c.loop-row.bank) (g.B.Bank.tape c.flush.new.self) c.args.slot
    ((row : ℕ) → row < c.args.size → present given (g.B.Bank.tape c.flush.new.self) c.args.slot (c.args.offset + row) ≡ zero_sector) c.flush.ensures.did
    (λ told is row lt. flushed-present given.start (g.B.Bank.tape c.loop-row.bank) (g.B.Bank.tape c.flush.new.self) c.args.slot is c.args.slot (c.args.offset + row)
    ∙ c.loop-row.invariant.zero told row (omega (arith, lt, c.loop-row-test.false)))

pub returns-clause-done : goal.returns-clause-done
returns-clause-done g c =
    let given : Given = g.B.Bank.given c.args.bank.now in
    let old : List Operation = g.B.Bank.tape c.loop-row.bank in
    let new : List Operation = g.B.Bank.tape c.flush.new.self in
    on-flush c.flush.result old new c.args.slot (IsSlotDone given.start (g.B.Bank.tape c.args.bank.now) new c.args.slot) c.flush.ensures.did
    (λ told is. record {
      others = λ s k other. flushed-other given.start old new c.args.slot is s k (λ e. other (sym e)) ∙ c.loop-row.invariant.apart told s k other;
      flushed = flushed-here given.start old new c.args.slot is;
    })

pub returns-clause-tape : goal.returns-clause-tape
returns-clause-tape g c = λ told.
    below-then (c.args.slot + 1) _ _ _ (c.loop-row.invariant.tape told) (below-did (c.args.slot + 1) _ _ _ tt c.flush.ensures.did told)
