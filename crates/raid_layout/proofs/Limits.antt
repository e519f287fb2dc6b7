-- The limits that a valid shape keeps, as facts.
use Rattle.std.proofs.Common.{◌≡◌, ℕ, ◌≤◌, ◌⊎◌, Bool, true, ◌&&◌, nat_le, arith}
use Rattle.std.proofs.lemmas.Bool.Decides.{nat_tests}
use Rattle.raid_types.specs.declared.places.Shape.{Shape}
use Rattle.raid_types.specs.Shapes.{is_valid_shape, is_level, is_layout, is_chunk, is_disk_count}

pub record IsLimited (shape : Shape) : Type 0 where
  pub level : (shape.level ≡ 5) ⊎ (shape.level ≡ 6)
  pub layout : (shape.layout ≤ 5) ⊎ (shape.level ≡ 6) × (16 ≤ shape.layout) × (shape.layout ≤ 20)
  pub chunk : (8 ≤ shape.chunk) × (shape.chunk ≤ 1024)
  pub least : 2 ≤ shape.disks
  pub least_6 : shape.level ≡ 6 → 4 ≤ shape.disks
  pub most : shape.disks ≤ 16

four : (a b c d : Bool) → (a && b && c && d) ≡ true → (a ≡ true) × (b ≡ true) × (c ≡ true) × (d ≡ true)
four a b c d h = grind arith

three : (a b c : Bool) → (a && b && c) ≡ true → (a ≡ true) × (b ≡ true) × (c ≡ true)
three a b c h = grind arith

pub limited : (shape : Shape) → is_valid_shape shape ≡ true → IsLimited shape
limited shape valid =
    let parts : (is_level shape.level ≡ true) × (is_layout shape.level shape.layout ≡ true) × (is_chunk shape.chunk ≡ true) × (is_disk_count shape.level shape.disks ≡ true) = four _ _ _ _ valid in
    let chunks : (nat_le 8 shape.chunk ≡ true) × (nat_le shape.chunk 1024 ≡ true) × (_ ≡ true) = three _ _ _ parts.2 in
    record {
      level = level_fact shape.level parts.0;
      layout = layout_fact shape.level shape.layout parts.1;
      chunk = (le_fact 8 shape.chunk chunks.0, le_fact shape.chunk 1024 chunks.1);
      least = least_fact shape.level shape.disks parts.3;
      least_6 = least_6_fact shape.level shape.disks parts.3;
      most = most_fact shape.level shape.disks parts.3;
    }
  where
    level_fact : (level : ℕ) → is_level level ≡ true → (level ≡ 5) ⊎ (level ≡ 6)
    level_fact level h = grind (arith, nat_tests)

    layout_fact : (level layout : ℕ) → is_layout level layout ≡ true → (layout ≤ 5) ⊎ (level ≡ 6) × (16 ≤ layout) × (layout ≤ 20)
    layout_fact level layout h = grind (arith, nat_tests)

    le_fact : (a b : ℕ) → nat_le a b ≡ true → a ≤ b
    le_fact a b h = grind (arith, nat_tests)

    least_fact : (level disks : ℕ) → is_disk_count level disks ≡ true → 2 ≤ disks
    least_fact level disks h = grind (arith, nat_tests)

    least_6_fact : (level disks : ℕ) → is_disk_count level disks ≡ true → level ≡ 6 → 4 ≤ disks
    least_6_fact level disks h six = grind (arith, nat_tests)

    most_fact : (level disks : ℕ) → is_disk_count level disks ≡ true → disks ≤ 16
    most_fact level disks h = grind (arith, nat_tests)
