use Rattle.std.proofs.Common.{◌≡◌, ℕ, ◌<◌, ◌+◌, ◌/◌, List, refl, sym, ◌∙◌, ap, subst, arith}
use Rattle.std.proofs.lemmas.List.{get_or-replicate}
use Rattle.stripe_io.specs.raid_types_the_Role.{Role}
use Rattle.stripe_io.specs.raid_types_the_Role_TheVariants.{Whole, Recovering, Missing}
use Rattle.stripe_io.specs.sb_specs_Reading.{holder}
use Rattle.sb_add_spare.specs.stripe_row_Rows.{reading_of}
use Rattle.array_call_laws.specs.array_call_specs_Adopting.{stripes_held}
use Rattle.array_call_laws.proofs.array_call_specs_FoundLaws.{AreStripesFound, no-stripes, stripes-set, stripes-none, stripes-all}
use Rattle.array_state.proofs.work.found_rebuilt.Goals.{in-Recovering, in_default}
use Rattle.array_state.proofs.work.found_rebuilt.Goals as goal

pub loop-role-init : goal.loop-role-init
loop-role-init c = no-stripes (reading_of c.args.members.now) c.args.chunk _ refl (λ role lt. get_or-replicate 16 role 0 0 lt)

pub rows_held-requires-clause-slot : goal.rows_held-requires-clause-slot
rows_held-requires-clause-slot c = c.requires.small c.loop-role.role c.in-Recovering.slot (ap holder (sym c.get.ensures ∙ c.in-Recovering.is))

pub loop-role-preserved : goal.loop-role-preserved
loop-role-preserved c =
    let r = reading_of c.args.members.now in
    let chunk = c.args.chunk in
    let role = c.loop-role.role in
    let few : role < 16 = omega arith in
    elim c.match-get.branch [
      | in-Recovering w ↦
          let state = sym c.get.ensures ∙ w.in-Recovering.is in
          subst (λ (l : List ℕ). AreStripesFound r chunk (role + 1) l) (sym w.rebuilt-is)
          (stripes-set r chunk role (w.rows_held.result / chunk) c.loop-role.rebuilt c.loop-role.invariant few
          (ap (λ (n : ℕ). n / chunk) w.rows_held.ensures ∙ sym (ap (stripes_held r chunk) state)))
      | in_default w ↦
          subst (λ (l : List ℕ). AreStripesFound r chunk (role + 1) l) (sym w.rebuilt-is)
          (stripes-none r chunk role c.loop-role.rebuilt c.loop-role.invariant few (ap (stripes_held r chunk) (sym c.get.ensures) ∙ none c.get.result w.in_default.not-Recovering))
    ]
  where
    none : (state : Role) → ((slot : ℕ) → state ≡ Recovering slot → ⊥) → stripes_held (reading_of c.args.members.now) c.args.chunk state ≡ 0
    none (Whole slot) other = refl
    none (Recovering slot) other = absurd (other slot refl)
    none Missing other = refl

pub returns : goal.returns
returns c =
    let all : c.loop-role.role ≡ c.args.disks = omega arith in
    stripes-all (reading_of c.args.members.now) c.args.chunk c.args.disks c.loop-role.rebuilt
    (subst (λ (n : ℕ). AreStripesFound (reading_of c.args.members.now) c.args.chunk n c.loop-role.rebuilt) all c.loop-role.invariant)
