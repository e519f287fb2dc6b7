use Rattle.std.proofs.Common.{[], ◌∷◌}
use Rattle.lane_shared.proofs.RowLaws.{three-new, new-as}
use Rattle.lane_shared.proofs.starting.begun.Goals as goal

pub taken-passes-requires : goal.taken-passes-requires
taken-passes-requires g c = record { three = three-new c.in_ok-shared.shared.lock.table.shared.table_id c.args.array c.in_ok-shared.passes.items c.in_ok-shared.ensures.passes }

pub returns-clause-passes : goal.returns-clause-passes
returns-clause-passes g c =
    let new = c.taken-passes.result.0 in
    new-as c.in_ok-shared.shared.lock.table.shared.table_id c.args.array (1 ∷ 2 ∷ 255 ∷ []) c.in_ok-shared.passes.items (new.0 ∷ new.1 ∷ new.2 ∷ []) c.taken-passes.ensures.items c.in_ok-shared.ensures.passes
