use Rattle.std.proofs.Common.{sym, ◌∙◌}
use Rattle.sb_specs.specs.raid_types_Shapes.{has_slot}
use Rattle.sb_read_laws.proofs.RoundReads.{kept-of, named_left, and_first, and_second}
use Rattle.sb_read_laws.proofs.RoundsRead.{rounds-end}
use Rattle.sb_read_laws.proofs.StageReads.{held-reads}
use Rattle.sb_read_laws.proofs.update_in_rounds_ends.Goals as goal

pub returns : goal.returns
returns c = λ scope known left members change before live d last ready past small some.
    let at = rounds-end scope members change before live known left d ready past.first last past.named.0 past.past past.named.1 small some in
    record {
      known = at.known;
      named = at.named;
      own = at.own;
      held = at.held;
      exact = λ left are s sb found is own_is m. at.exact s sb found (and_first (has_slot live s) (has_slot last.lost s) (sym (are s) ∙ is)) (and_second (has_slot live s) (has_slot last.lost s) (sym (are s) ∙ is)) own_is m;
      are = named_left live at.gone at.named at.known at.are at.named_gone at.unnamed;
      more = at.more;
      grown = λ s is. at.grown s (at.named_gone s is);
      later = at.later;
      plan = at.plan;
      kept = kept-of last.newest change.gives members.own at.own at.known at.own_is;
      reads = λ image drawn. held-reads scope at.known last.lost last.newest at.own last.disk at.held at.known (λ s is. is) image drawn;
    }
