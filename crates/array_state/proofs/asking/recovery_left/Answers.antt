use Rattle.std.proofs.Common.{◌≡◌, ℕ, ◌+◌, ◌-◌, ◌≤◌, refl, sym, ◌∙◌, ap, arith}
use Rattle.std.proofs.Math.Nat.{div-le_self}
use Rattle.stripe_io.specs.raid_types_the_Role.{Role}
use Rattle.stripe_io.specs.raid_types_the_Role_TheVariants.{Whole, Recovering, Missing}
use Rattle.stripe_io.specs.sb_specs_Reading.{shape_of, role_state}
use Rattle.sb_add_spare.specs.stripe_row_Rows.{reading_of}
use Rattle.sb_add_spare.specs.array_members_Status.{stripes_of, rebuilt_of, role_left}
use Rattle.array_call_laws.proofs.array_call_specs_StepsLeft.{recovery-none, recovery-more}
use Rattle.array_state.proofs.asking.recovery_left.Goals.{in-Recovering, in_default}
use Rattle.array_state.proofs.asking.recovery_left.Goals as goal

pub loop-role-init : goal.loop-role-init
loop-role-init c = (sym (recovery-none c.args.work.now c.args.members.now), omega arith)

pub loop-role-preserved : goal.loop-role-preserved
loop-role-preserved c =
    let work = c.args.work.now in
    let members = c.args.members.now in
    let role = c.loop-role.role in
    let was = c.loop-role.invariant in
    let more = recovery-more work members role in
    elim c.match-get.branch [
      | in-Recovering w ↦
          let left : role_left (stripes_of members) (rebuilt_of work role) (role_state (reading_of members) role) ≡ w.saturating_sub.result + 1 =
          ap (role_left (stripes_of members) (rebuilt_of work role)) (sym c.get.ensures ∙ w.in-Recovering.is)
          ∙ ap (λ (n : ℕ). n - rebuilt_of work role + 1) (sym c.stripes-stripes.ensures) ∙ ap (λ (n : ℕ). n + 1) (sym w.saturating_sub.ensures) in
          let few : stripes_of members ≤ members.newest.size = div-le_self members.newest.size (shape_of members.newest).chunk in
          (omega (arith, w.left-is, was.0, more, left), omega (arith, w.left-is, was.1, w.saturating_sub.ensures, c.stripes-stripes.ensures, few, c.requires.size))
      | in_default w ↦
          let left : role_left (stripes_of members) (rebuilt_of work role) (role_state (reading_of members) role) ≡ 0 =
          ap (role_left (stripes_of members) (rebuilt_of work role)) (sym c.get.ensures) ∙ none c.get.result w.in_default.not-Recovering in
          (omega (arith, w.left-is, was.0, more, left), omega (arith, w.left-is, was.1))
    ]
  where
    none : (state : Role) → ((slot : ℕ) → state ≡ Recovering slot → ⊥) → role_left (stripes_of c.args.members.now) (rebuilt_of c.args.work.now c.loop-role.role) state ≡ 0
    none (Whole slot) other = refl
    none (Recovering slot) other = absurd (other slot refl)
    none Missing other = refl
