use Rattle.std.proofs.Common.{◌≡◌, ◌==◌, ℕ, nat_lt, true, false, if◌then◌else◌, Some, refl, sym, ◌∙◌, ap, subst, arith, lit<}
use Rattle.std.proofs.lemmas.Bool.Decides.{nat_tests}
use Rattle.raid_layout.specs.raid_types_the_Role.{Role}
use Rattle.raid_layout.specs.raid_types_the_Role_TheVariants.{Whole, Recovering, Missing}
use Rattle.raid_layout.specs.raid_types_Shapes.{has_slot}
use Rattle.stripe_row.specs.sb_specs_the_Members.{Members}
use Rattle.stripe_row.specs.sb_specs_Reading.{role_state, rows_held, holder}
use Rattle.stripe_row.specs.Rows.{reading_of, is_held, role_without, members_without}
use Rattle.stripe_row.proofs.Losses.{holder-of, state_after}
use Rattle.stripe_list.proofs.LossLaws.{none_lost, slot_lost}
use Rattle.stripe_list.proofs.lists.read_held.Goals as goal

pub held_slot-requires-clause-small : goal.held_slot-requires-clause-small
held_slot-requires-clause-small g c = λ slot is. (c.requires.row.holders c.args.at.role slot is).small

pub returns-in_default-clause-lost : goal.returns-in_default-clause-lost
returns-in_default-clause-lost g c = none_lost c.args.shape.now c.args.members.now (g.B.Bank.faults_of c.args.bank.now) (g.B.Bank.faults_of c.args.bank.now) (λ s. omega arith)

pub data_offset-requires : goal.data_offset-requires
data_offset-requires g c =
    (c.requires.row.holders c.args.at.role c.in-Some.slot (holder-of (reading_of c.args.members.now) c.args.at.role c.args.at.row c.in-Some.slot (sym c.held_slot.ensures ∙ c.in-Some.is))).small

pub overflow_add-sector : goal.overflow_add-sector
overflow_add-sector g c =
    let has = c.requires.row.holders c.args.at.role c.in-Some.slot (holder-of (reading_of c.args.members.now) c.args.at.role c.args.at.row c.in-Some.slot (sym c.held_slot.ensures ∙ c.in-Some.is)) in
    omega (arith, has.short, has.within, c.data_offset.ensures, c.requires.row.below)

pub read_into-requires-clause-place : goal.read_into-requires-clause-place
read_into-requires-clause-place g c =
    let has = c.requires.row.holders c.args.at.role c.in-Some.slot (holder-of (reading_of c.args.members.now) c.args.at.role c.args.at.row c.in-Some.slot (sym c.held_slot.ensures ∙ c.in-Some.is)) in
    record {
      known = has.known;
      some = lit< tt;
      whole = refl;
      within = omega (arith, has.within, c.data_offset.ensures, c.requires.row.below);
    }

pub lose_slot-requires-clause-slot : goal.lose_slot-requires-clause-slot
lose_slot-requires-clause-slot g c =
    (c.requires.row.holders c.args.at.role c.in-Some.slot (holder-of (reading_of c.args.members.now) c.args.at.role c.args.at.row c.in-Some.slot (sym c.held_slot.ensures ∙ c.in-Some.is))).small

pub lose_slot-requires-clause-small : goal.lose_slot-requires-clause-small
lose_slot-requires-clause-small g c = λ role slot is. (c.requires.row.holders role slot is).small

pub returns-in-Ok-clause-lost : goal.returns-in-Ok-clause-lost
returns-in-Ok-clause-lost g c = none_lost c.args.shape.now c.args.members.now (g.B.Bank.faults_of c.args.bank.now) (g.B.Bank.faults_of c.read_into.new.bank) c.read_into.ensures.cause.never_falls

pub returns-in-Err-clause-lost : goal.returns-in-Err-clause-lost
returns-in-Err-clause-lost g c =
    slot_lost c.args.shape.now c.args.members.now c.lose_slot.new.members c.lose_slot.result c.in-Some.slot c.args.at.role (g.B.Bank.faults_of c.args.bank.now) (g.B.Bank.faults_of c.read_into.new.bank)
    c.lose_slot.ensures.members c.lose_slot.ensures.alone c.requires.role
    (holder-of (reading_of c.args.members.now) c.args.at.role c.args.at.row c.in-Some.slot (sym c.held_slot.ensures ∙ c.in-Some.is)) (c.in-Err.ensures.cause.failed refl) c.read_into.ensures.cause.never_falls

-- the role that a lost slot held has no row
role_gone : (lost slot : ℕ) (state : Role) → holder state ≡ Some slot → has_slot lost slot ≡ true → role_without lost state ≡ Missing
role_gone lost slot (Whole s) held gone = let same : s ≡ slot = cc in ap (λ b. if b then Missing else Whole s) (ap (has_slot lost) same ∙ gone)
role_gone lost slot (Recovering s) held gone = let same : s ≡ slot = cc in ap (λ b. if b then Missing else Recovering s) (ap (has_slot lost) same ∙ gone)
role_gone lost slot Missing held gone = absurd (cc)

itself : (n : ℕ) → (n == n) ≡ true
itself n = grind (arith, nat_tests)

none_below : (n : ℕ) → nat_lt n 0 ≡ false
none_below n = grind (arith, nat_tests)

lacks_lost : (m : Members) (lost slot role row : ℕ) → holder (role_state (reading_of m) role) ≡ Some slot → has_slot lost slot ≡ true → is_held (reading_of (members_without lost m)) role row ≡ false
lacks_lost m lost slot role row held gone =
    ap (λ (s : Role). nat_lt row (rows_held (reading_of m) s)) (state_after m lost role ∙ role_gone lost slot (role_state (reading_of m) role) held gone) ∙ none_below row

pub returns-in-Err-clause-lacks : goal.returns-in-Err-clause-lacks
returns-in-Err-clause-lacks g c =
    subst (λ (m : Members). is_held (reading_of m) c.args.at.role c.args.at.row ≡ false) (sym c.lose_slot.ensures.members)
    (lacks_lost c.args.members.now c.lose_slot.result c.in-Some.slot c.args.at.role c.args.at.row
    (holder-of (reading_of c.args.members.now) c.args.at.role c.args.at.row c.in-Some.slot (sym c.held_slot.ensures ∙ c.in-Some.is)) (c.lose_slot.ensures.alone c.in-Some.slot ∙ itself c.in-Some.slot))
