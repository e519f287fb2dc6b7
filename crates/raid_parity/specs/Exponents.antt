-- Which roles of a row hold data, and their exponents in Q.
use Rattle.std.specs.Prelude.{ℕ, ◌+◌, ◌-◌, ◌%◌, Bool, false, not, ◌&&◌, ◌==◌, nat_lt, if◌then◌else◌, Option, Some, None}
use Rattle.raid_types.specs.declared.places.RowRoles.{RowRoles}

-- the role is this Q, if there is one
abbrev pub is_this_q : Option ℕ → ℕ → Bool
is_this_q None role = false
is_this_q (Some q) role = q == role

abbrev pub is_q : RowRoles → ℕ → Bool
is_q roles role = is_this_q roles.q role

-- the role is neither the P nor the Q of the row
abbrev pub is_data : RowRoles → ℕ → Bool
is_data roles role = not (role == roles.p) && not (is_q roles role)

-- how many disks a role stands behind Q, going round
abbrev pub steps_behind : RowRoles → ℕ → ℕ → ℕ
steps_behind roles q role = (role + roles.disks - (q + 1)) % roles.disks

-- The exponent of a data role in Q: counted from 0 along the roles that follow Q, going round, without P.
abbrev pub exponent : RowRoles → ℕ → ℕ → ℕ
exponent roles q role =
    steps_behind roles q role - (if nat_lt (steps_behind roles q roles.p) (steps_behind roles q role) then 1 else 0)
