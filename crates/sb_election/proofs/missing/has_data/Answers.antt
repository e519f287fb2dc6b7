use Rattle.std.proofs.Common.{◌≡◌, ◌<◌, ◌≤◌, ℕ, true, false, nat_eq, nat_lt, sym, ◌∙◌, arith}
use Rattle.std.proofs.lemmas.Bool.Decides.{nat_tests}
use Rattle.sb_specs.specs.raid_types_the_Shape.{Shape}
use Rattle.sb_specs.specs.raid_types_Shapes.{is_valid_shape, data_disks}
use Rattle.sb_specs.specs.raid_types_Search.{any_below}
use Rattle.sb_specs.specs.raid_layout_Layout.{has_data, stripe_data}
use Rattle.sb_specs.proofs.raid_layout_Stripes.{stripe_data-below}
use Rattle.sb_specs.proofs.Searches.{any_below-none}
use Rattle.sb_election.proofs.missing.has_data.Goals as goal

differs : (a b n : ℕ) → a < n → n ≤ b → nat_eq a b ≡ false
differs a b n h past = grind (arith, nat_tests)

is_past : (a b : ℕ) → b ≤ a → nat_lt a b ≡ false
is_past a b past = grind (arith, nat_tests)

-- what is no role of the shape holds no data
none_past : (shape : Shape) (role : ℕ) → is_valid_shape shape ≡ true → shape.disks ≤ role → has_data shape role ≡ false
none_past shape role valid past =
    any_below-none shape.disks (λ stripe. any_below (data_disks shape) (λ i. nat_eq (stripe_data shape stripe i) role))
    (λ stripe h. any_below-none (data_disks shape) (λ i. nat_eq (stripe_data shape stripe i) role)
    (λ i below. differs (stripe_data shape stripe i) role shape.disks (stripe_data-below shape valid stripe i below) past))

pub returns-else-role-shape : goal.returns-else-role-shape
returns-else-role-shape c =
    let past : c.args.shape.now.disks ≤ c.args.role = omega arith in
    is_past c.args.role c.args.shape.now.disks past ∙ sym (none_past c.args.shape.now c.args.role c.requires past)
