use Rattle.std.proofs.Common.{◌≡◌, ℕ, inl, inr, sym, ◌∙◌, subst, arith}
use Rattle.std.proofs.lemmas.Bool.{cases_eq}
use Rattle.reshape_begin_end.specs.raid_parity_Rows.{sector_of}
use Rattle.reshape_begin_end.specs.stripe_list_Buffers.{buffered}
use Rattle.reshape_window_rows.proofs.runs.gather.Goals as goal

pub loop-i-preserved : goal.loop-i-preserved
loop-i-preserved c =
    let did = c.copy_sector.ensures in
    record {
      gathered = λ j lt. elim (cases_eq j c.loop-i.i) [
        | inl same ↦ subst (λ (k : ℕ). sector_of c.copy_sector.new.into k ≡ buffered c.args.rows.now k c.args.role) (sym same) did.here
        | inr ne ↦ did.others j ne ∙ c.loop-i.invariant.gathered j (omega (arith, lt, ne))
      ];
    }

pub returns : goal.returns
returns c = λ i lt. c.loop-i.invariant.gathered i (omega (arith, lt, c.loop-i-test.false))
