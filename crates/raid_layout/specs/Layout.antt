-- Where each sector stands, and where the parity of each row.
use Rattle.std.specs.Prelude.{◌≡◌, ◌≢◌, ◌⊎◌, ℕ, ◌+◌, ◌-◌, ◌*◌, ◌/◌, ◌%◌, Bool, not, ◌&&◌, ◌||◌, ◌==◌, nat_le, nat_lt, if◌then◌else◌, Option, Some, None, MatchOption}
use Rattle.raid_types.specs.declared.places.Shape.{Shape}
use Rattle.raid_types.specs.declared.places.Place.{Place}
use Rattle.raid_types.specs.declared.places.RowRoles.{RowRoles}
use Rattle.raid_types.specs.Shapes.{data_disks}
use Rattle.raid_types.specs.Search.{any_below}

-- The four rotating layouts: left ones (0 and 2) take parity down from the last disk, right ones (1 and 3) up from
-- disk 0; symmetric ones (2 and 3) begin the data behind the parity. 4 is parity-first, 5 is parity-last.
abbrev pub is_left : ℕ → Bool
is_left layout = (layout == 0) || (layout == 2)

abbrev pub is_right : ℕ → Bool
is_right layout = (layout == 1) || (layout == 3)

abbrev pub is_symmetric : ℕ → Bool
is_symmetric layout = (layout == 2) || (layout == 3)

-- The role of P in a stripe over n disks, of which the first and the last that may hold parity in the fixed
-- layouts are 0 and `last`.
abbrev pub p_role : ℕ → ℕ → ℕ → ℕ → ℕ
p_role layout n last stripe =
    if is_left layout then n - 1 - stripe % n
    else if is_right layout then stripe % n
    else if layout == 4 then 0
    else last

-- The role of data i of a stripe over n disks, with so many parity disks from p on, circularly. Symmetric layouts
-- go round from behind the parity; the others skip it.
abbrev pub data_role : ℕ → ℕ → ℕ → ℕ → ℕ → ℕ
data_role layout n parities p i =
    if is_symmetric layout then (p + parities + i) % n
    else if nat_lt n (p + parities) then i + (p + parities - n)
    else if nat_le p i then i + parities
    else i

-- level 6 with layouts 16 to 20: level 5 over all disks but the last, which has Q
abbrev pub is_six_over_five : Shape → Bool
is_six_over_five shape = (shape.level == 6) && nat_le 16 shape.layout

-- the P role of a stripe
abbrev pub stripe_p : Shape → ℕ → ℕ
stripe_p shape stripe =
    if is_six_over_five shape then p_role (shape.layout - 16) (shape.disks - 1) (data_disks shape) stripe
    else p_role shape.layout shape.disks (data_disks shape) stripe

-- the Q role of a stripe: the role after P, or the last
abbrev pub stripe_q : Shape → ℕ → Option ℕ
stripe_q shape stripe =
    if shape.level == 6
    then Some (if is_six_over_five shape then shape.disks - 1 else (stripe_p shape stripe + 1) % shape.disks)
    else None

-- the role of data i of a stripe
abbrev pub stripe_data : Shape → ℕ → ℕ → ℕ
stripe_data shape stripe i =
    if is_six_over_five shape then data_role (shape.layout - 16) (shape.disks - 1) 1 (stripe_p shape stripe) i
    else data_role shape.layout shape.disks (shape.disks - data_disks shape) (stripe_p shape stripe) i

-- the parity roles of a row
abbrev pub row_roles : Shape → ℕ → RowRoles
row_roles shape row = record {
  disks = shape.disks;
  p = stripe_p shape (row / shape.chunk);
  q = stripe_q shape (row / shape.chunk);
}

-- the role has parity in a row with these roles
abbrev pub IsParity : RowRoles → ℕ → Type 0
IsParity roles role = (role ≡ roles.p) ⊎ (roles.q ≡ Some role)

-- which stripe of a shape a sector is in, and which data of that stripe
abbrev pub stripe_of : Shape → ℕ → ℕ
stripe_of shape x = (x / shape.chunk) / data_disks shape

abbrev pub data_index : Shape → ℕ → ℕ
data_index shape x = (x / shape.chunk) % data_disks shape

-- where a sector of the list stands
abbrev pub place : Shape → ℕ → Place
place shape x = record {
  role = stripe_data shape (stripe_of shape x) (data_index shape x);
  row = stripe_of shape x * shape.chunk + x % shape.chunk;
}

-- what stands at a role and row: this sector of the list, or parity
abbrev pub StandsAt : Shape → ℕ → ℕ → Option ℕ → Type 0
StandsAt shape role row found =
    MatchOption found ((x : ℕ) → place shape x ≢ record { role = role; row = row }) (λ x. place shape x ≡ record { role = role; row = row })

-- the role has data in some stripe; the parity comes round within as many stripes as there are disks
abbrev pub has_data : Shape → ℕ → Bool
has_data shape role = any_below shape.disks (λ stripe. any_below (data_disks shape) (λ i. stripe_data shape stripe i == role))

-- no sector of the list is placed on the role
abbrev pub is_parity_only : Shape → ℕ → Bool
is_parity_only shape role = not (has_data shape role)
