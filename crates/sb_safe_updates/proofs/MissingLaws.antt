-- What is missing without some slots is missing without more of them.
use Rattle.std.proofs.Common.{◌≡◌, ℕ, Bool, true, false, not, cond, refl, ap}
use Rattle.raid_layout.specs.raid_types_Shapes.{has_slot}
use Rattle.raid_layout.specs.raid_types_the_Role.{Role}
use Rattle.raid_layout.specs.raid_types_the_Role_TheVariants.{Whole, Recovering, Missing}
use Rattle.sb_update.specs.sb_specs_Reading.{is_whole}
use Rattle.sb_update.specs.sb_specs_Crash.{IsWithin}
use Rattle.array_members.specs.stripe_row_Rows.{role_without}

pub missing-more : (few many : ℕ) → IsWithin few many → (state : Role) → not (is_whole (role_without few state)) ≡ true → not (is_whole (role_without many state)) ≡ true
missing-more few many more (Whole s) missing = by (has_slot few s) refl missing
  where
    by : (b : Bool) → has_slot few s ≡ b → not (is_whole (cond b Missing (Whole s))) ≡ true → not (is_whole (role_without many (Whole s))) ≡ true
    by true gone e = ap (λ (b : Bool). not (is_whole (cond b Missing (Whole s)))) (more s gone)
    by false kept e = absurd (cc)
missing-more few many more (Recovering s) missing = by (has_slot many s)
  where
    by : (b : Bool) → not (is_whole (cond b Missing (Recovering s))) ≡ true
    by true = refl
    by false = refl
missing-more few many more Missing missing = missing
