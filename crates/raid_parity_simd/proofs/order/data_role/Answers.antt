use Rattle.std.proofs.Common.{◌≡◌, ℕ, ◌+◌, ◌-◌, ◌∙◌, arith}
use Rattle.raid_parity.specs.Exponents.{steps_behind}
use Rattle.raid_parity_simd.proofs.Falling.{steps_of, steps_later, steps_sooner, forward, round, role_holds_data, role_exponent}
use Rattle.raid_parity_simd.proofs.order.data_role.Goals as goal
use Rattle.raid_parity_simd.proofs.order.data_role.Goals.{then-passed_p, else-passed_p}

pub returns-then-place-roles-clause-data : goal.returns-then-place-roles-clause-data
returns-then-place-roles-clause-data c =
    let roles = c.args.roles.now in
    let q = c.args.q in
    let e = c.args.wanted in
    let s : ℕ = c.if-passed_p.steps in
    let steps : s ≡ steps_of (steps_behind roles q roles.p) e = elim c.if-passed_p.branch [
      | then-passed_p w ↦ w.steps-is ∙ steps_later (steps_behind roles q roles.p) e (omega (arith, c.steps_after.ensures, w.if-passed_p.true))
      | else-passed_p w ↦ w.steps-is ∙ steps_sooner (steps_behind roles q roles.p) e (omega (arith, c.steps_after.ensures, w.if-passed_p.false))
    ] in
    role_holds_data roles c.requires.roles q c.requires.q e s c.requires.wanted steps (q + 1 + s)
    (forward roles c.requires.roles q c.requires.q e s c.requires.wanted steps c.if-place-roles.true)

pub returns-then-place-roles-clause-value : goal.returns-then-place-roles-clause-value
returns-then-place-roles-clause-value c =
    let roles = c.args.roles.now in
    let q = c.args.q in
    let e = c.args.wanted in
    let s : ℕ = c.if-passed_p.steps in
    let steps : s ≡ steps_of (steps_behind roles q roles.p) e = elim c.if-passed_p.branch [
      | then-passed_p w ↦ w.steps-is ∙ steps_later (steps_behind roles q roles.p) e (omega (arith, c.steps_after.ensures, w.if-passed_p.true))
      | else-passed_p w ↦ w.steps-is ∙ steps_sooner (steps_behind roles q roles.p) e (omega (arith, c.steps_after.ensures, w.if-passed_p.false))
    ] in
    role_exponent roles c.requires.roles q c.requires.q e s c.requires.wanted steps (q + 1 + s)
    (forward roles c.requires.roles q c.requires.q e s c.requires.wanted steps c.if-place-roles.true)

pub returns-else-place-roles-clause-data : goal.returns-else-place-roles-clause-data
returns-else-place-roles-clause-data c =
    let roles = c.args.roles.now in
    let q = c.args.q in
    let e = c.args.wanted in
    let s : ℕ = c.if-passed_p.steps in
    let steps : s ≡ steps_of (steps_behind roles q roles.p) e = elim c.if-passed_p.branch [
      | then-passed_p w ↦ w.steps-is ∙ steps_later (steps_behind roles q roles.p) e (omega (arith, c.steps_after.ensures, w.if-passed_p.true))
      | else-passed_p w ↦ w.steps-is ∙ steps_sooner (steps_behind roles q roles.p) e (omega (arith, c.steps_after.ensures, w.if-passed_p.false))
    ] in
    role_holds_data roles c.requires.roles q c.requires.q e s c.requires.wanted steps (q + 1 + s - roles.disks)
    (round roles c.requires.roles q c.requires.q e s c.requires.wanted steps c.if-place-roles.false)

pub returns-else-place-roles-clause-value : goal.returns-else-place-roles-clause-value
returns-else-place-roles-clause-value c =
    let roles = c.args.roles.now in
    let q = c.args.q in
    let e = c.args.wanted in
    let s : ℕ = c.if-passed_p.steps in
    let steps : s ≡ steps_of (steps_behind roles q roles.p) e = elim c.if-passed_p.branch [
      | then-passed_p w ↦ w.steps-is ∙ steps_later (steps_behind roles q roles.p) e (omega (arith, c.steps_after.ensures, w.if-passed_p.true))
      | else-passed_p w ↦ w.steps-is ∙ steps_sooner (steps_behind roles q roles.p) e (omega (arith, c.steps_after.ensures, w.if-passed_p.false))
    ] in
    role_exponent roles c.requires.roles q c.requires.q e s c.requires.wanted steps (q + 1 + s - roles.disks)
    (round roles c.requires.roles q c.requires.q e s c.requires.wanted steps c.if-place-roles.false)
