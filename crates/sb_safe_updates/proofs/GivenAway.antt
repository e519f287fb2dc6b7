-- A role was given to a slot that is lost: that leaves of the members what the loss of the slot does.
use Rattle.std.proofs.Common.{◌≡◌, ◌≢◌, ℕ, ◌<◌, ◌≤◌, ◌==◌, ◌&&◌, true, false, not, nat_lt, length, Option, Some, refl, sym, ◌∙◌, ap, subst, arith}
use Rattle.std.proofs.lemmas.Bool.Decides.{nat_tests}
use Rattle.raid_layout.specs.raid_types_Shapes.{has_slot}
use Rattle.raid_layout.specs.raid_types_the_Role.{Role}
use Rattle.raid_layout.specs.raid_types_the_Role_TheVariants.{Whole, Recovering, Missing}
use Rattle.sb_update.specs.bank_Given.{Given}
use Rattle.sb_update.specs.sb_specs_the_Members.{Members}
use Rattle.sb_update.specs.sb_specs_Reading.{role_count, role_state, rows_held, holder}
use Rattle.sb_update.specs.sb_specs_Reads.{has_spare}
use Rattle.array_members.specs.stripe_row_Rows.{reading_of, is_missing}
use Rattle.array_members.specs.Placed.{IsPlaced}
use Rattle.array_members.specs.Moving.{IsMoved}
use Rattle.array_members.proofs.Fit.{count-alike}
use Rattle.array_members.proofs.GivenMembers.{IsReceiver, W, state-other, offset-same, rows-other, spare-then}

-- no role is held by the slot, which is no spare either, and its role is missing
pub record IsOutOf (new : Members) (role slot : ℕ) : Type 0 where
  pub holders : (r s : ℕ) → holder (role_state (reading_of new) r) ≡ Some s → s ≢ slot
  pub spares : (s : ℕ) → has_spare new.spares s ≡ true → (s ≢ slot) × (s < 32) × (has_slot new.lost s ≡ false)
  pub few : length new.spares ≤ 32
  pub missing : is_missing (reading_of new) role ≡ true

pub moved-away : (given : Given) (m new : Members) (placed : IsPlaced given m) (recovery : Option ℕ) (role slot : ℕ) (to : IsReceiver given m role slot) → IsMoved given m new → IsOutOf new role slot
    → IsMoved given (W given m placed recovery role slot to) new
moved-away given m new placed recovery role slot to moved out = record {
  placed = moved.placed;
  unlost = moved.unlost;
  held = λ r s is. ap holder (state-other given m placed recovery role slot to r (other r s is)) ∙ moved.held r s is;
  states = λ r s is. moved.states r s is ∙ sym (state-other given m placed recovery role slot to r (other r s is));
  rows = λ r. rows-at r (role_state (reading_of new) r) refl (moved.rows r);
  spares = λ short. out.few;
  fewer = fewer;
  free = λ all s has.
      let free = all s (fewer s has) in
      record {
        room = record {
          small = free.room.small;
          known = free.room.known;
          short = free.room.short;
          within = let within = free.room.within in let here = offset-same given m placed recovery role slot to s in let there = moved.offsets s in omega (arith, within, here, there, moved.size);
        };
        behind = subst (λ (n : ℕ). 10 ≤ n) (offset-same given m placed recovery role slot to s ∙ sym (moved.offsets s)) free.behind;
        none = λ r is. free.none r (ap holder (state-other given m placed recovery role slot to r (other r s is)) ∙ moved.held r s is);
        unlost = (out.spares s has).2;
      };
  reshape = moved.reshape;
  shape = moved.shape;
  size = moved.size;
  offsets = λ s. moved.offsets s ∙ sym (offset-same given m placed recovery role slot to s);
  whole = λ whole. absurd (let none = whole role below-roles in let clash = sym out.missing ∙ none in cc);
  same = λ whole. absurd (let none = whole role below-roles in let clash = sym out.missing ∙ none in cc);
}
  where
    below : (a b : ℕ) → a < b → nat_lt a b ≡ true
    below a b lt = grind (arith, nat_tests, lt)

    differ : (a b : ℕ) → a ≢ b → (a == b) ≡ false
    differ a b apart = grind (arith, nat_tests, apart)

    below-roles : role < role_count new.newest
    below-roles = subst (λ (n : ℕ). role < n) (placed.roles ∙ sym (count-alike m.newest new.newest moved.reshape moved.shape moved.size)) to.below

    fewer : (s : ℕ) → has_spare new.spares s ≡ true → has_spare (W given m placed recovery role slot to).spares s ≡ true
    fewer s has =
        let p = out.spares s has in
        spare-then given m placed recovery role slot to s
        ∙ (λ i. below s 32 p.1 i && (moved.fewer s has i && not (differ slot s (λ same. p.0 (sym same)) i)))

    -- a role that a slot holds is another one
    other : (r s : ℕ) → holder (role_state (reading_of new) r) ≡ Some s → r ≢ role
    other r s is same = out.holders r s is (to.others s (ap (λ (k : ℕ). holder (role_state (reading_of m) k)) (sym same) ∙ moved.held r s is))

    rows-at : (r : ℕ) (state : Role) → role_state (reading_of new) r ≡ state → rows_held (reading_of new) (role_state (reading_of new) r) ≡ rows_held (reading_of m) (role_state (reading_of new) r)
        → rows_held (reading_of new) (role_state (reading_of new) r) ≡ rows_held (reading_of (W given m placed recovery role slot to)) (role_state (reading_of new) r)
    rows-at r (Whole s) is rows = rows ∙ sym (rows-other given m placed recovery role slot to s (role_state (reading_of new) r) (ap holder is) (out.holders r s (ap holder is)))
    rows-at r (Recovering s) is rows = rows ∙ sym (rows-other given m placed recovery role slot to s (role_state (reading_of new) r) (ap holder is) (out.holders r s (ap holder is)))
    rows-at r Missing is rows = ap (rows_held (reading_of new)) is ∙ sym (ap (rows_held (reading_of (W given m placed recovery role slot to))) is)
