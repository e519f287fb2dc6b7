use Rattle.std.proofs.Common.{◌≤◌, ℕ, sym, subst}
use Rattle.reshape_progress.proofs.crash_views_Headers.{window-filled}
use Rattle.reshape_progress.proofs.crash_views_Stands.{window-inside}
use Rattle.array_reshaping_state.proofs.ReshapeLaws.{forced-by, end-by}
use Rattle.array_reshaping_state.proofs.reshape.is_window_critical.Goals as goal

pub is_critical-requires-clause-in_force : goal.is_critical-requires-clause-in_force
is_critical-requires-clause-in_force c = forced-by c.args.members.now.newest c.requires.fit c.shape_in.result c.final_in.result c.shape_in.ensures c.final_in.ensures

pub is_critical-requires-clause-filled : goal.is_critical-requires-clause-filled
is_critical-requires-clause-filled c = window-filled c.args.members.now.newest c.requires.fit c.args.span.now c.requires.next

pub is_critical-requires-clause-inside : goal.is_critical-requires-clause-inside
is_critical-requires-clause-inside c =
    let newest = c.args.members.now.newest in
    subst (λ (n : ℕ). c.args.span.now.hi ≤ n) (sym (end-by newest c.shape_in.result c.final_in.result c.shape_in.ensures c.final_in.ensures)) (window-inside newest c.requires.fit c.args.span.now c.requires.next)
