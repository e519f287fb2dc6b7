-- The shape in force that has every role of the array, and what the loss of slots leaves by it.
use Rattle.std.proofs.Common.{◌≡◌, inl, inr, ℕ, max, Bool, true, false, nat_lt, cond, refl, sym, subst, arith}
use Rattle.std.proofs.lemmas.Bool.Decides.{nat_tests}
use Rattle.raid_layout.specs.raid_types_the_Shape.{Shape}
use Rattle.sb_update.specs.sb_codec_the_Sb.{Sb}
use Rattle.sb_update.specs.bank_Given.{Given, NeverFalls}
use Rattle.sb_update.specs.sb_specs_the_Members.{Members}
use Rattle.sb_update.specs.sb_specs_Reading.{shape_of, final_shape, role_count}
use Rattle.array_members.specs.stripe_row_Rows.{reading_of, members_without, HaveFailed}
use Rattle.array_members.specs.Placed.{IsPlaced, IsInForce, AreLost}
use Rattle.array_members.proofs.MemberLaws.{are_lost}

-- of the two shapes the one that has more roles
pub widest : Sb → Shape
widest newest = cond (nat_lt (shape_of newest).disks (final_shape newest).disks) (final_shape newest) (shape_of newest)

pub widest-force : (newest : Sb) → IsInForce newest (widest newest)
unfolding widest
widest-force newest = by (nat_lt (shape_of newest).disks (final_shape newest).disks)
  where
    by : (b : Bool) → IsInForce newest (cond b (final_shape newest) (shape_of newest))
    by true = inr refl
    by false = inl refl

widest-disks : (newest : Sb) → (widest newest).disks ≡ role_count newest
unfolding widest
widest-disks newest = by (nat_lt (shape_of newest).disks (final_shape newest).disks) refl
  where
    upper : (a b : ℕ) → nat_lt a b ≡ true → b ≡ max a b
    upper a b lt = grind (arith, nat_tests, lt)

    lower : (a b : ℕ) → nat_lt a b ≡ false → a ≡ max a b
    lower a b ge = grind (arith, nat_tests, ge)

    by : (b : Bool) → nat_lt (shape_of newest).disks (final_shape newest).disks ≡ b → (cond b (final_shape newest) (shape_of newest)).disks ≡ role_count newest
    by true lt = upper (shape_of newest).disks (final_shape newest).disks lt
    by false ge = lower (shape_of newest).disks (final_shape newest).disks ge

-- where slots that hold roles of the array have failed
pub lost-all : (given : Given) (old new : Members) (lost : ℕ) (before after : ℕ → ℕ) → IsPlaced given old → new ≡ members_without lost old → HaveFailed (reading_of old) (role_count old.newest) lost before after
    → NeverFalls before after → AreLost given (widest old.newest) old new lost before after
lost-all given old new lost before after placed is failed rising = are_lost given (widest old.newest) old new lost before after placed is
    (subst (λ (n : ℕ). HaveFailed (reading_of old) n lost before after) (sym (widest-disks old.newest)) failed) rising
