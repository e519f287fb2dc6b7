use Rattle.std.proofs.Common.{◌≡◌, ◌≢◌, ℕ, ◌+◌, ◌-◌, ◌*◌, ◌<◌, List, get_or, sym, ap, ap₂, ◌∙◌, arith}
use Rattle.std.proofs.lemmas.List.{get_or-replicate}
use Rattle.std.specs.Int.Bits.{bit_xor}
use Rattle.raid_gf256.specs.Field.{double, power_of_two}
use Rattle.raid_parity.specs.Exponents.{steps_behind, exponent}
use Rattle.raid_parity.specs.Rows.{byte_of}
use Rattle.raid_parity.proofs.Totals.{total}
use Rattle.raid_parity.proofs.Columns.{q_of, q_not_at, data_else, data_sum-tabulate}
use Rattle.raid_parity.proofs.Bytes.{sector_byte}
use Rattle.raid_parity.proofs.Walk.{steps_of_q, steps_back, steps_round}
use Rattle.raid_parity.proofs.Parts.{plain_part, weighed_part, plain_start, weighed_start, plain_over_p, weighed_over_p, plain_over, weighed_over, plain_end, weighed_end}
use Rattle.raid_parity.proofs.sums.both_sums.Goals as goal
use Rattle.raid_parity.proofs.sums.both_sums.Goals.{then-role-eq0, else-role-eq0, then-role-roles, else-role-roles}

pub loop-passed-init : goal.loop-passed-init
loop-passed-init c =
    let roles = c.args.roles.now in
    let q = c.args.q in
    let below : q < roles.disks = (q_of roles c.requires.roles q c.requires.q).0 in
    record {
      within = below;
      steps = steps_of_q roles q below;
      plain = λ at lt. get_or-replicate 512 at 0 0 lt ∙ sym (plain_start roles c.requires.roles q c.requires.q below (λ r. byte_of c.args.row.now r at));
      weighed = λ at lt. get_or-replicate 512 at 0 0 lt ∙ sym (weighed_start roles c.requires.roles q c.requires.q below (λ r. byte_of c.args.row.now r at));
    }

pub loop-passed-preserved : goal.loop-passed-preserved
loop-passed-preserved c =
    let row = c.args.row.now in
    let roles = c.args.roles.now in
    let is = c.requires.roles in
    let q = c.args.q in
    let has_q = c.requires.q in
    let below : q < roles.disks = (q_of roles is q has_q).0 in
    let role = c.if-role-eq0.role in
    let k : ℕ = roles.disks - (c.loop-passed._passed + 1) in
    let e : roles.disks - c.loop-passed._passed ≡ k + 1 = omega arith in
    let within : role < roles.disks = elim c.if-role-eq0.branch [ then-role-eq0 w ↦ omega arith | else-role-eq0 w ↦ omega arith ] in
    let steps : steps_behind roles q role ≡ k = elim c.if-role-eq0.branch [
      | then-role-eq0 w ↦
          ap (λ (r : ℕ). steps_behind roles q r) w.role-is
          ∙ steps_round roles q below k (ap (λ (r : ℕ). steps_behind roles q r) (sym w.if-role-eq0.true) ∙ c.loop-passed.invariant.steps ∙ e)
      | else-role-eq0 w ↦
          ap (λ (r : ℕ). steps_behind roles q r) w.role-is
          ∙ steps_back roles q below c.loop-passed.role k c.loop-passed.invariant.within (omega arith) (c.loop-passed.invariant.steps ∙ e)
    ] in
    let not_q : role ≢ q = λ same.
    let top : roles.disks - 1 ≡ k = sym (steps_of_q roles q below) ∙ ap (λ (r : ℕ). steps_behind roles q r) (sym same) ∙ steps in
    omega arith in
    let small : (at r : ℕ) → r < roles.disks → byte_of row r at < 256 = λ at r lt. let h = c.type_inv.row (512 * r + at) in omega (arith, h) in
    record {
      within = within;
      steps = steps;
      plain = λ at lt.
          let f : ℕ → ℕ = λ r. byte_of row r at in
          elim c.if-role-roles.branch [
            | then-role-roles w ↦
                ap (λ (s : List ℕ). get_or s at 0) w.plain-is ∙ w.add_to_both.ensures.plain at lt
                ∙ ap₂ bit_xor (c.loop-passed.invariant.plain at lt ∙ ap (λ (j : ℕ). total roles.disks (plain_part roles q f j)) e)
                (ap (λ (s : List ℕ). get_or s at 0) w.sector.ensures ∙ sector_byte row role at lt)
                ∙ sym (plain_over roles is q has_q below f (small at) role k within steps (data_else roles role w.if-role-roles.true (q_not_at roles q role has_q not_q)))
            | else-role-roles w ↦
                ap (λ (s : List ℕ). get_or s at 0) w.plain-is ∙ c.loop-passed.invariant.plain at lt
                ∙ ap (λ (j : ℕ). total roles.disks (plain_part roles q f j)) e
                ∙ sym (plain_over_p roles is q has_q below f k (ap (λ (r : ℕ). steps_behind roles q r) (sym w.if-role-roles.false) ∙ steps))
          ];
      weighed = λ at lt.
          let f : ℕ → ℕ = λ r. byte_of row r at in
          elim c.if-role-roles.branch [
            | then-role-roles w ↦
                ap (λ (s : List ℕ). get_or s at 0) w.weighed-is ∙ w.add_to_both.ensures.weighed at lt
                ∙ ap₂ (λ (x y : ℕ). bit_xor (double x) y) (c.loop-passed.invariant.weighed at lt ∙ ap (λ (j : ℕ). total roles.disks (weighed_part roles q f j)) e)
                (ap (λ (s : List ℕ). get_or s at 0) w.sector.ensures ∙ sector_byte row role at lt)
                ∙ sym (weighed_over roles is q has_q below f (small at) role k within steps (data_else roles role w.if-role-roles.true (q_not_at roles q role has_q not_q)))
            | else-role-roles w ↦
                ap (λ (s : List ℕ). get_or s at 0) w.weighed-is ∙ c.loop-passed.invariant.weighed at lt
                ∙ ap (λ (j : ℕ). total roles.disks (weighed_part roles q f j)) e
                ∙ sym (weighed_over_p roles is q has_q below f k (ap (λ (r : ℕ). steps_behind roles q r) (sym w.if-role-roles.false) ∙ steps))
          ];
    }

pub returns-clause-plain : goal.returns-clause-plain
returns-clause-plain c at lt =
    let roles = c.args.roles.now in
    let is = c.requires.roles in
    let q = c.args.q in
    let has_q = c.requires.q in
    let f : ℕ → ℕ = λ r. byte_of c.args.row.now r at in
    let none : roles.disks - c.loop-passed._passed ≡ 0 = omega (arith, c.loop-passed-test.false) in
    c.loop-passed.invariant.plain at lt ∙ ap (λ (j : ℕ). total roles.disks (plain_part roles q f j)) none
    ∙ plain_end roles is q has_q (q_of roles is q has_q).0 f ∙ sym (data_sum-tabulate (λ role. 1) roles roles.disks f)

pub returns-clause-weighed : goal.returns-clause-weighed
returns-clause-weighed c at lt =
    let roles = c.args.roles.now in
    let is = c.requires.roles in
    let q = c.args.q in
    let has_q = c.requires.q in
    let f : ℕ → ℕ = λ r. byte_of c.args.row.now r at in
    let none : roles.disks - c.loop-passed._passed ≡ 0 = omega (arith, c.loop-passed-test.false) in
    c.loop-passed.invariant.weighed at lt ∙ ap (λ (j : ℕ). total roles.disks (weighed_part roles q f j)) none
    ∙ weighed_end roles is q has_q (q_of roles is q has_q).0 f ∙ sym (data_sum-tabulate (λ role. power_of_two (exponent roles q role)) roles roles.disks f)
