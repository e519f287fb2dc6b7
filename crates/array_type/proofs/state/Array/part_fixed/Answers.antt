use Rattle.std.proofs.Common.{sym, ap, ◌∙◌}
use Rattle.sb_election.specs.sb_specs_Reading.{is_reshaping}
use Rattle.array_reshaping_laws.specs.reshape_progress_the_Course.{Course}
use Rattle.array_type.proofs.state.Array.part_fixed.Goals as goal

pub returns-clause-ready : goal.returns-clause-ready
returns-clause-ready g c = (c.self.invariant.rests (ap (λ p. is_reshaping p.parts.members.newest) c.self.view_is ∙ c.requires.still)).1

pub returns-clause-same : goal.returns-clause-same
returns-clause-same g c =
    let a = c.self.inside in
    sym c.self.view_is ∙ ap (λ (k : Course). record {
      parts = record { bank = a.bank; uuid = a.epoch.uuid; given = a.epoch.given; first = a.epoch.first; last = a.epoch.last; entries = a.epoch.entries.items; backup = a.backup; members = a.members; work = a.work; steps = a.steps };
      course = k;
      ahead = a.ahead;
      limit = a.limit;
    }) (c.self.invariant.rests (ap (λ p. is_reshaping p.parts.members.newest) c.self.view_is ∙ c.requires.still)).0
