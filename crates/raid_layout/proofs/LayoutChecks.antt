-- Rows of the layouts, computed.
use Rattle.std.proofs.Common.{◌≡◌, ℕ, [], ◌∷◌, true, false, refl, Some}
use Rattle.raid_types.specs.declared.places.Shape.{Shape}
use Rattle.raid_types.specs.Search.{any_below}
use Rattle.raid_layout.specs.Layout.{place, stripe_p, stripe_q, stripe_data, row_roles, is_parity_only}

-- left-symmetric level 5 on 4 disks, chunk 8: sector 24
abbrev four : Shape
four = record { level = 5; layout = 2; chunk = 8; disks = 4 }

sector_24 : place four 24 ≡ record { role = 3; row = 8 }
sector_24 = refl

parity_1 : stripe_p four 1 ≡ 2
parity_1 = refl

-- left-symmetric level 6 on 5 disks, stripe 0
abbrev six : ℕ → Shape
six layout = record { level = 6; layout = layout; chunk = 8; disks = 5 }

symmetric_0 : (stripe_p (six 2) 0 ∷ stripe_data (six 2) 0 0 ∷ stripe_data (six 2) 0 1 ∷ stripe_data (six 2) 0 2 ∷ []) ≡ 4 ∷ 1 ∷ 2 ∷ 3 ∷ []
symmetric_0 = refl

symmetric_0_q : stripe_q (six 2) 0 ≡ Some 0
symmetric_0_q = refl

symmetric_0_roles : row_roles (six 2) 0 ≡ record { disks = 5; p = 4; q = Some 0 }
symmetric_0_roles = refl

-- left-asymmetric level 6 on 5 disks, stripes 0 and 2
asymmetric_0 : (stripe_p (six 0) 0 ∷ stripe_data (six 0) 0 0 ∷ stripe_data (six 0) 0 1 ∷ stripe_data (six 0) 0 2 ∷ []) ≡ 4 ∷ 1 ∷ 2 ∷ 3 ∷ []
asymmetric_0 = refl

asymmetric_0_q : stripe_q (six 0) 0 ≡ Some 0
asymmetric_0_q = refl

asymmetric_2 : (stripe_p (six 0) 2 ∷ stripe_data (six 0) 2 0 ∷ stripe_data (six 0) 2 1 ∷ stripe_data (six 0) 2 2 ∷ []) ≡ 2 ∷ 0 ∷ 1 ∷ 4 ∷ []
asymmetric_2 = refl

asymmetric_2_roles : row_roles (six 0) 16 ≡ record { disks = 5; p = 2; q = Some 3 }
asymmetric_2_roles = refl

parity_first : is_parity_only (record { level = 5; layout = 4; chunk = 8; disks = 3 }) 0 ≡ true
unfolding any_below
parity_first = refl

rotating : is_parity_only four 0 ≡ false
unfolding any_below
rotating = refl
