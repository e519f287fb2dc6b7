use Rattle.std.proofs.Common.{sym, ◌∙◌}
use Rattle.sb_read_laws.specs.raid_types_Shapes.{has_slot}
use Rattle.sb_read_laws.proofs.RoundReads.{kept-of, and_first, and_second}
use Rattle.sb_update_laws.proofs.AddedRounds.{rounds-end}
use Rattle.sb_read_laws.proofs.StageReads.{held-reads}
use Rattle.sb_update_laws.proofs.update_adding_ends.Goals as goal

pub returns : goal.returns
returns c = λ scope known left lost members change before live slot d last ready past small some.
    let at = rounds-end scope members change before live known left lost slot d ready past.first last past.named.0 past.past past.named.1 small some in
    record {
      known = at.known;
      named = at.named;
      gone = at.gone;
      own = at.own;
      held = at.held;
      exact = λ left are s sb found is own_is m. at.exact s sb found (and_first (has_slot live s) (has_slot last.lost s) (sym (are s) ∙ is)) (and_second (has_slot live s) (has_slot last.lost s) (sym (are s) ∙ is)) own_is m;
      are = at.are;
      more = at.more;
      named_gone = at.named_gone;
      unnamed = at.unnamed;
      grown = at.grown;
      later = at.later;
      plan = at.plan;
      kept = kept-of last.newest change.gives members.own at.own at.known at.own_is;
      reads = λ image drawn. held-reads scope at.known last.lost last.newest at.own last.disk at.held at.known (λ s is. is) image drawn;
    }
