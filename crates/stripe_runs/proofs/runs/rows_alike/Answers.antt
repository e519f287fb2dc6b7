use Rattle.std.proofs.Common.{◌-◌, ◌≤◌, sym, ap, ◌∙◌, arith}
use Rattle.stripe_row.specs.sb_specs_Reading.{role_state, holder}
use Rattle.stripe_row.specs.Rows.{reading_of}
use Rattle.stripe_runs.proofs.AlikeLaws.{state_alike, recovered_past, recovered_below, recovered_most}
use Rattle.stripe_runs.proofs.runs.rows_alike.Goals as goal

pub rows_recovered-recovered-requires : goal.rows_recovered-recovered-requires
rows_recovered-recovered-requires c = c.requires.small c.in-Recovering.slot (ap holder (sym c.get.ensures ∙ c.in-Recovering.is))

pub returns-in_default-clause-held : goal.returns-in_default-clause-held
returns-in_default-clause-held c = λ j lt.
    state_alike (reading_of c.args.members.now) (role_state (reading_of c.args.members.now) c.args.role) c.args.row j (λ slot is. c.in_default.not-Recovering slot (c.get.ensures ∙ is)) (omega (arith, lt, c.requires.below))

pub returns-then-recovered-row-clause-held : goal.returns-then-recovered-row-clause-held
returns-then-recovered-row-clause-held c = λ j lt.
    recovered_past (reading_of c.args.members.now) (role_state (reading_of c.args.members.now) c.args.role) c.in-Recovering.slot c.rows_recovered-recovered.result c.args.row
    (sym c.get.ensures ∙ c.in-Recovering.is) c.rows_recovered-recovered.ensures j c.if-recovered-row.true

pub returns-clause-held : goal.returns-clause-held
returns-clause-held c = λ j lt.
    recovered_below (reading_of c.args.members.now) (role_state (reading_of c.args.members.now) c.args.role) c.in-Recovering.slot c.rows_recovered-recovered.result c.args.row
    (sym c.get.ensures ∙ c.in-Recovering.is) c.rows_recovered-recovered.ensures j (omega (arith, lt, c.min.ensures, c.if-recovered-row.false))

pub returns-clause-longest : goal.returns-clause-longest
returns-clause-longest c = λ n le same.
    let most : n ≤ c.rows_recovered-recovered.result - c.args.row =
    recovered_most (reading_of c.args.members.now) (role_state (reading_of c.args.members.now) c.args.role) c.in-Recovering.slot c.rows_recovered-recovered.result c.args.row
    (sym c.get.ensures ∙ c.in-Recovering.is) c.rows_recovered-recovered.ensures n c.if-recovered-row.false same in
    omega (arith, le, most, c.min.ensures)
