use Rattle.std.proofs.Common.{◌+◌, ℕ, inl, inr, refl, sym, ◌∙◌, subst, arith}
use Rattle.std.proofs.lemmas.Bool.{cases_eq}
use Rattle.stripe_row.specs.raid_parity_Rows.{sector_of}
use Rattle.stripe_row.specs.Rows.{present, reading_of}
use Rattle.stripe_list.specs.Calls.{IsListed}
use Rattle.stripe_list.proofs.LossLaws.{none_lost, lost_then, rows_by}
use Rattle.stripe_list.proofs.ListLaws.{at_ok, tolerated_ok, listed_later, listed_since, present_same}
use Rattle.stripe_list.proofs.lists.read_list.Goals as goal

pub returns-then-are_too_many-clause-lost : goal.returns-then-are_too_many-clause-lost
returns-then-are_too_many-clause-lost g c = none_lost c.args.shape.now c.args.members.now (g.B.Bank.faults_of c.args.bank.now) (g.B.Bank.faults_of c.args.bank.now) (λ s. omega arith)

pub loop-i-init : goal.loop-i-init
loop-i-init g c = record {
  lost = none_lost c.args.shape.now c.args.members.now (g.B.Bank.faults_of c.args.bank.now) (g.B.Bank.faults_of c.args.bank.now) (λ s. omega arith);
  tolerated = c.are_too_many.ensures.few c.if-are_too_many.false;
  sectors = λ told i lt. absurd (omega (arith, lt));
  tape = λ told. refl;
  given = refl;
}

pub read_one-one-requires-clause-rows : goal.read_one-one-requires-clause-rows
read_one-one-requires-clause-rows g c = rows_by c.args.members.now c.loop-i.lost c.loop-i.invariant.given c.loop-i.invariant.lost.members c.requires.rows

pub returns-in-Err-clause-lost : goal.returns-in-Err-clause-lost
returns-in-Err-clause-lost g c = lost_then c.loop-i.invariant.lost c.read_one-one.ensures.lost

pub loop-i-preserved : goal.loop-i-preserved
loop-i-preserved g c =
    let was = c.loop-i.invariant in
    let did = c.read_one-one.ensures in
    let shape = c.args.shape.now in
    let synced = c.args.synced in
    let old = c.args.members.now in
    let mid = c.loop-i.members in
    let new = c.read_one-one.new.members in
    let before = present (g.B.Bank.given c.args.bank.now) (g.B.Bank.tape c.args.bank.now) in
    let between = present (g.B.Bank.given c.loop-i.bank) (g.B.Bank.tape c.loop-i.bank) in
    let into = c.read_one-one.new.into in
    record {
      lost = lost_then was.lost did.lost;
      tolerated = tolerated_ok shape synced (reading_of new) _ c.read_one-one.result.answer c.in_default.is did.answer;
      sectors = λ told i lt. elim (cases_eq i c.loop-i.i) [
        | inl same ↦ subst (λ (k : ℕ). IsListed shape synced (reading_of old) (reading_of new) before (c.args.first + k) (sector_of into k)) (sym same)
            (listed_since shape synced (reading_of new) before between (c.args.first + c.loop-i.i) (sector_of into c.loop-i.i) old c.loop-i.lost mid was.lost.members
            (present_same was.given (was.tape told)) (at_ok c.read_one-one.result.answer c.in_default.is did.sector told))
        | inr other ↦
            subst (λ v. IsListed shape synced (reading_of old) (reading_of new) before (c.args.first + i) v) (sym (did.others i other))
            (listed_later shape synced (reading_of old) before (c.args.first + i) (sector_of c.loop-i.into i) mid c.read_one-one.result.lost new did.lost.members
            (was.sectors told i (omega (arith, lt, other))))
      ];
      tape = λ told. did.tape told ∙ was.tape told;
      given = did.given ∙ was.given;
    }

pub returns-clause-sectors : goal.returns-clause-sectors
returns-clause-sectors g c = λ told i lt. c.loop-i.invariant.sectors told i (omega (arith, lt, c.loop-i-test.false))
