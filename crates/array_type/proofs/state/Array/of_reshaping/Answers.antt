use Rattle.std.proofs.Common.{Option, ℕ, Some, refl, subst}
use Rattle.std.specs.Prelude.{IsSome, vec_capacity, length}
use Rattle.array_reshaping_laws.specs.array_call_specs_Kept.{scope_in}
use Rattle.array_reshaping_laws.specs.Ready.{IsReady}
use Rattle.array_type.proofs.Alike.{goes-on}
use Rattle.array_type.proofs.state.Array.of_reshaping.Goals as goal

pub invariant_of-result : goal.invariant_of-result
invariant_of-result g c =
    let p = c.args.pieces in
    let backed : IsSome {T = ℕ} (Some c.args.backup) = refl in
    goes-on backed (subst (λ (b : Option ℕ). IsReady g.B.Bank.tells (g.B.Bank.given p.bank) (g.B.Bank.tape p.bank) (scope_in (g.B.Bank.given p.bank) p.epoch.uuid p.epoch.given b)
    p.epoch.first p.epoch.entries.items p.members p.work c.args.course p.ahead p.limit c.args.window.items (g.B.Bank.faults_of p.bank) p.steps p.epoch.entries.room
    (vec_capacity p.rows) (length p.buffer.items) (vec_capacity p.far_rows) (length p.far_buffer.items)) c.requires.backup c.requires.ready)
