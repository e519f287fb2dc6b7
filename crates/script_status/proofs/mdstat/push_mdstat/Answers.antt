use Rattle.std.proofs.Common.{◌++◌, codes, decimal, ap}
use Rattle.script_status.specs.Texts.{roles_in_brief, reshape_in_brief, left_in_brief}
use Rattle.script_status.proofs.mdstat.push_mdstat.Goals as goal
use Rattle.script.proofs.AppendLaws.{then, retold, failed, longer}

pub returns-in_err-push_counted-clause-appended : goal.returns-in_err-push_counted-clause-appended
returns-in_err-push_counted-clause-appended c = failed c.from_residual.ensures.0 (longer (left_in_brief c.args.status.now.left) (longer (reshape_in_brief c.args.status.now.target c.args.status.now) (longer (codes " sectors") (longer (codes " " ++ decimal c.args.status.now.visible) (longer (roles_in_brief c.args.status.now.roles) (retold (ap (λ i. codes "md: raid" ++ decimal i) c.from.ensures) c.in_err-push_counted.ensures.appended))))))

pub returns-in_err-push_roles-clause-appended : goal.returns-in_err-push_roles-clause-appended
returns-in_err-push_roles-clause-appended c = failed c.from_residual-in_err-push_roles.ensures.0 (longer (left_in_brief c.args.status.now.left) (longer (reshape_in_brief c.args.status.now.target c.args.status.now) (longer (codes " sectors") (longer (codes " " ++ decimal c.args.status.now.visible) (then (retold (ap (λ i. codes "md: raid" ++ decimal i) c.from.ensures) c.in_ok-push_counted.ensures.appended) (retold (ap roles_in_brief c.as_slice.ensures) c.in_err-push_roles.ensures.appended))))))

pub returns-in_err-push_counted-2-clause-appended : goal.returns-in_err-push_counted-2-clause-appended
returns-in_err-push_counted-2-clause-appended c = failed c.from_residual-in_err-push_counted-2.ensures.0 (longer (left_in_brief c.args.status.now.left) (longer (reshape_in_brief c.args.status.now.target c.args.status.now) (longer (codes " sectors") (then (then (retold (ap (λ i. codes "md: raid" ++ decimal i) c.from.ensures) c.in_ok-push_counted.ensures.appended) (retold (ap roles_in_brief c.as_slice.ensures) c.in_ok-push_roles.ensures.appended)) c.in_err-push_counted-2.ensures.appended))))

pub returns-in_err-push_words-clause-appended : goal.returns-in_err-push_words-clause-appended
returns-in_err-push_words-clause-appended c = failed c.from_residual-in_err-push_words.ensures.0 (longer (left_in_brief c.args.status.now.left) (longer (reshape_in_brief c.args.status.now.target c.args.status.now) (then (then (then (retold (ap (λ i. codes "md: raid" ++ decimal i) c.from.ensures) c.in_ok-push_counted.ensures.appended) (retold (ap roles_in_brief c.as_slice.ensures) c.in_ok-push_roles.ensures.appended)) c.in_ok-push_counted-2.ensures.appended) c.in_err-push_words.ensures.appended)))

pub returns-in_err-push_reshape-clause-appended : goal.returns-in_err-push_reshape-clause-appended
returns-in_err-push_reshape-clause-appended c = failed c.from_residual-in_err-push_reshape.ensures.0 (longer (left_in_brief c.args.status.now.left) (then (then (then (then (retold (ap (λ i. codes "md: raid" ++ decimal i) c.from.ensures) c.in_ok-push_counted.ensures.appended) (retold (ap roles_in_brief c.as_slice.ensures) c.in_ok-push_roles.ensures.appended)) c.in_ok-push_counted-2.ensures.appended) c.in_ok-push_words.ensures.appended) c.in_err-push_reshape.ensures.appended))

pub returns-clause-appended : goal.returns-clause-appended
returns-clause-appended c = then (then (then (then (then (retold (ap (λ i. codes "md: raid" ++ decimal i) c.from.ensures) c.in_ok-push_counted.ensures.appended) (retold (ap roles_in_brief c.as_slice.ensures) c.in_ok-push_roles.ensures.appended)) c.in_ok-push_counted-2.ensures.appended) c.in_ok-push_words.ensures.appended) c.in_ok-push_reshape.ensures.appended) c.push_left.ensures.appended
