use Rattle.std.proofs.Common.{◌≡◌, ◌<◌, inl, inr, ◌∙◌, refl, sym, subst, arith, replicate, length, get_or, set, length-set, get_or-set_same, get_or-set_other}
use Rattle.std.proofs.lemmas.List.{get_or-replicate, get_or_past}
use Rattle.std.proofs.lemmas.Bool.{cases_eq, cases_lt}
use Rattle.sb_election.proofs.reads.lengths.Goals as goal

pub loop-slot-init : goal.loop-slot-init
loop-slot-init g c = record {
  long = refl;
  done = λ s h. absurd (omega (arith, h));
  rest = λ s h. elim (cases_lt s 32) [ inl below ↦ get_or-replicate 32 s 0 0 below | inr past ↦ get_or_past (replicate 32 0) s 0 past ];
}

pub loop-slot-preserved : goal.loop-slot-preserved
loop-slot-preserved g c =
    let within : c.loop-slot.slot < length c.loop-slot.lengths = omega (arith, c.loop-slot.invariant.long, c.slots-slot-end.ensures, c.requires) in
    record {
      long = length-set c.loop-slot.lengths c.loop-slot.slot c.len.result ∙ c.loop-slot.invariant.long;
      done = λ s h. elim (cases_eq s c.loop-slot.slot) [
        | inl same ↦ subst (λ k. get_or (set c.loop-slot.lengths c.loop-slot.slot c.len.result) k 0 ≡ (g.B.Bank.given c.args.bank.now).sectors k) (sym same)
            (get_or-set_same c.loop-slot.lengths c.loop-slot.slot c.len.result 0 within ∙ c.len.ensures)
        | inr apart ↦ get_or-set_other c.loop-slot.lengths c.loop-slot.slot s c.len.result 0 apart ∙ c.loop-slot.invariant.done s (omega (arith, h, apart))
      ];
      rest = λ s h. get_or-set_other c.loop-slot.lengths c.loop-slot.slot s c.len.result 0 (λ e. absurd (omega (arith, e, h)))
          ∙ c.loop-slot.invariant.rest s (omega (arith, h));
    }
