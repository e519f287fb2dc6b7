use Rattle.std.proofs.Common.{Some, ap, ◌∙◌, sym, ◌∷◌}
use Rattle.atomic_table.specs.Table.{rest}
use Rattle.lane_lock.proofs.lock.Lock.lift.Goals as goal

pub exchange-requires : goal.exchange-requires
exchange-requires g c =
    let x = c.requires.taken.0 in
    let held = c.requires.taken.1 in
    (c.requires.lock, (Some x, held ∙ ap (λ t. (0, Some x) ∷ t) (sym (ap rest held))))
