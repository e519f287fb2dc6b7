-- Roles that never have data.
use Rattle.std.specs.Prelude.{◌≡◌, ◌⊎◌, ◌<◌, ◌≤◌, ℕ, ◌-◌}

-- the role has parity in every stripe, over n disks with so many parity disks: layouts 4 and 5 never move it, and
-- behind the n disks there is Q alone
abbrev pub HasFixedParity : ℕ → ℕ → ℕ → ℕ → Type 0
HasFixedParity layout n parities role = ((layout ≡ 4) × (role < parities)) ⊎ ((layout ≡ 5) × (n - parities ≤ role)) ⊎ (n ≤ role)
