-- Which missing role a dirty array is refused for.
use Rattle.std.specs.Prelude.{ℕ, not, ◌&&◌, Option}
use Rattle.crash_role_laws.specs.raid_types_Search.{least_below}
use Rattle.crash_role_laws.specs.raid_layout_Layout.{is_parity_only}
use Rattle.crash_role_laws.specs.sb_specs_the_Members.{Members}
use Rattle.crash_role_laws.specs.raid_types_the_Shape.{Shape}
use Rattle.crash_role_laws.specs.stripe_row_Rows.{reading_of, is_missing}

-- the lowest missing role that holds data in this shape
abbrev pub lowest_missing : Shape → Members → Option ℕ
lowest_missing shape m = least_below shape.disks (λ role. is_missing (reading_of m) role && not (is_parity_only shape role))
