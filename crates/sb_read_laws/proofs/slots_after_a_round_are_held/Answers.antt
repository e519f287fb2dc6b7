use Rattle.sb_read_laws.proofs.StageReads.{taken-held, taken-level}
use Rattle.sb_read_laws.proofs.slots_after_a_round_are_held.Goals as goal

pub returns : goal.returns
returns c = λ scope known lost lost' left taken former newest gives own own' d e r end. (
  taken-held scope known lost former own d r.held left r.within r.level newest gives r.fit own' r.kept e end.stage taken lost' end.whole end.some end.within end.first end.more,
  taken-level scope known lost former own d r.held left r.within r.level newest gives r.fit own' r.kept e end.stage taken lost' end.whole end.some end.within end.first end.more,
)
