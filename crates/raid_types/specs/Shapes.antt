-- What a shape says by itself.
use Rattle.std.specs.Prelude.{ℕ, ◌-◌, ◌*◌, ◌/◌, Bool, ◌&&◌, ◌||◌, nat_le, ◌==◌, if◌then◌else◌, bit_and}
use Rattle.std.specs.Int.{bit_at}
use Rattle.raid_types.specs.declared.places.Shape.{Shape}

-- how many missing disks a row can do without: one at level 5, two at level 6
abbrev pub tolerance_of : ℕ → ℕ
tolerance_of level = if level == 6 then 2 else 1

abbrev pub tolerance : Shape → ℕ
tolerance shape = tolerance_of shape.level

abbrev pub data_disks : Shape → ℕ
data_disks shape = shape.disks - tolerance shape

-- the sectors of a full data stripe
abbrev pub stripe_sectors : Shape → ℕ
stripe_sectors shape = shape.chunk * data_disks shape

-- n is a multiple of k
abbrev pub is_multiple : ℕ → ℕ → Bool
is_multiple n k = (n / k) * k == n

-- a set of slots as a number: slot s is in it where bit s is 1
abbrev pub has_slot : ℕ → ℕ → Bool
has_slot set slot = bit_at set slot == 1

-- The limits of a shape, one for each field.
abbrev pub is_level : ℕ → Bool
is_level level = (level == 5) || (level == 6)

abbrev pub is_layout : ℕ → ℕ → Bool
is_layout level layout = nat_le layout 5 || (level == 6) && nat_le 16 layout && nat_le layout 20

-- a power of two from 8 to 1,024
abbrev pub is_chunk : ℕ → Bool
is_chunk chunk = nat_le 8 chunk && nat_le chunk 1024 && (bit_and chunk (chunk - 1) == 0)

abbrev pub is_disk_count : ℕ → ℕ → Bool
is_disk_count level disks = nat_le (if level == 6 then 4 else 2) disks && nat_le disks 16

abbrev pub is_valid_shape : Shape → Bool
is_valid_shape shape =
    is_level shape.level && is_layout shape.level shape.layout && is_chunk shape.chunk && is_disk_count shape.level shape.disks
