use Rattle.std.proofs.Common.{◌∙◌, sym, ap}
use Rattle.std.proofs.lemmas.Bool.{true≢false}
use Rattle.array_takeover.specs.sb_specs_Reading.{is_reshaping}
use Rattle.array.proofs.state.Running.recovers.Goals as goal

pub disks-disks-requires : goal.disks-disks-requires
disks-disks-requires g c = record { still = sym c.is_reshaping.ensures ∙ c.if-is_reshaping.false }

pub returns-then-is_reshaping : goal.returns-then-is_reshaping
returns-then-is_reshaping g c = λ still. absurd (true≢false (sym (sym c.is_reshaping.ensures ∙ c.if-is_reshaping.true) ∙ ap (λ p. is_reshaping p.parts.members.newest) c.self.view_is ∙ still))
