-- Whether a reshape that was found needs its backup.
use Rattle.std.specs.Prelude.{ℕ, Bool, false, ◌&&◌, nat_le, Option, Some, None}
use Rattle.std.specs.Option.{option_map_or}
use Rattle.reshape_geometry.specs.raid_types_the_Shape.{Shape}
use Rattle.reshape_geometry.specs.raid_types_Shapes.{is_valid_shape}
use Rattle.sb_codec.specs.declared.sb.Sb.{Sb}
use Rattle.sb_specs.specs.Reading.{is_backward, shape_of, target_of}
use Rattle.reshape_geometry.specs.Geometry.{is_size, list_end, window, is_critical}

-- two shapes over members of one size that can be those of a reshape
abbrev pub are_in_force : Shape → Shape → ℕ → Bool
are_in_force old new size = is_valid_shape old && is_valid_shape new && is_size size old.chunk && is_size size new.chunk

-- the next window from the superblock's position exists, and is critical
abbrev pub is_next_critical : Sb → Shape → Shape → Bool
is_next_critical sb old new =
    option_map_or (λ span. is_critical old new sb.size (is_backward sb) span) (window old new sb.size (is_backward sb) sb.reshape_position) false

-- a reshape from one shape to another one, at a position of its list, with a critical window next
abbrev pub needs_between : Sb → Shape → Option Shape → Bool
needs_between sb old None = false
needs_between sb old (Some new) =
    are_in_force old new sb.size && nat_le sb.reshape_position (list_end old new sb.size) && is_next_critical sb old new

abbrev pub needs_section : Sb → Bool
needs_section sb = needs_between sb (shape_of sb) (target_of sb)
