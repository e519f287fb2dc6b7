use Rattle.std.proofs.Common.{◌++◌, codes, decimal, ap}
use Rattle.script_status.specs.Texts.{state_lines, reshape_line, role_lines, spare_lines}
use Rattle.script_status.proofs.detail.push_detail.Goals as goal
use Rattle.script.proofs.AppendLaws.{then, retold, failed, longer}

pub returns-in_err-push_shape-clause-appended : goal.returns-in_err-push_shape-clause-appended
returns-in_err-push_shape-clause-appended c = failed c.from_residual.ensures.0 (longer (codes "left " ++ decimal c.args.status.now.left) (longer (spare_lines c.args.status.now.spares) (longer (role_lines 0 c.args.status.now.roles) (longer (reshape_line c.args.status.now.target c.args.status.now) (longer (state_lines c.args.status.now) c.in_err-push_shape.ensures.appended)))))

pub returns-in_err-push_state-clause-appended : goal.returns-in_err-push_state-clause-appended
returns-in_err-push_state-clause-appended c = failed c.from_residual-in_err-push_state.ensures.0 (longer (codes "left " ++ decimal c.args.status.now.left) (longer (spare_lines c.args.status.now.spares) (longer (role_lines 0 c.args.status.now.roles) (longer (reshape_line c.args.status.now.target c.args.status.now) (then c.in_ok-push_shape.ensures.appended c.in_err-push_state.ensures.appended)))))

pub returns-in_err-push_reshape-clause-appended : goal.returns-in_err-push_reshape-clause-appended
returns-in_err-push_reshape-clause-appended c = failed c.from_residual-in_err-push_reshape.ensures.0 (longer (codes "left " ++ decimal c.args.status.now.left) (longer (spare_lines c.args.status.now.spares) (longer (role_lines 0 c.args.status.now.roles) (then (then c.in_ok-push_shape.ensures.appended c.in_ok-push_state.ensures.appended) c.in_err-push_reshape.ensures.appended))))

pub returns-in_err-push_roles-clause-appended : goal.returns-in_err-push_roles-clause-appended
returns-in_err-push_roles-clause-appended c = failed c.from_residual-in_err-push_roles.ensures.0 (longer (codes "left " ++ decimal c.args.status.now.left) (longer (spare_lines c.args.status.now.spares) (then (then (then c.in_ok-push_shape.ensures.appended c.in_ok-push_state.ensures.appended) c.in_ok-push_reshape.ensures.appended) (retold (ap (role_lines 0) c.as_slice.ensures) c.in_err-push_roles.ensures.appended))))

pub returns-in_err-push_spares-clause-appended : goal.returns-in_err-push_spares-clause-appended
returns-in_err-push_spares-clause-appended c = failed c.from_residual-in_err-push_spares.ensures.0 (longer (codes "left " ++ decimal c.args.status.now.left) (then (then (then (then c.in_ok-push_shape.ensures.appended c.in_ok-push_state.ensures.appended) c.in_ok-push_reshape.ensures.appended) (retold (ap (role_lines 0) c.as_slice.ensures) c.in_ok-push_roles.ensures.appended)) (retold (ap spare_lines c.as_slice-2.ensures) c.in_err-push_spares.ensures.appended)))

pub returns-clause-appended : goal.returns-clause-appended
returns-clause-appended c = then (then (then (then (then c.in_ok-push_shape.ensures.appended c.in_ok-push_state.ensures.appended) c.in_ok-push_reshape.ensures.appended) (retold (ap (role_lines 0) c.as_slice.ensures) c.in_ok-push_roles.ensures.appended)) (retold (ap spare_lines c.as_slice-2.ensures) c.in_ok-push_spares.ensures.appended)) c.push_counted.ensures.appended
