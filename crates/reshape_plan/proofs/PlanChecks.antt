-- Plans of wishes, computed.
use Rattle.std.proofs.Common.{◌≡◌, ℕ, [], ◌∷◌, refl, Some, None}
use Rattle.reshape_geometry.specs.raid_types_the_Shape.{Shape}
use Rattle.reshape_geometry.specs.raid_types_the_Wish.{Wish}
use Rattle.reshape_geometry.specs.raid_types_the_WishedLayout_TheVariants.{Named, Preserve, Normalise}
use Rattle.reshape_geometry.specs.raid_types_the_Phase_TheVariants.{UpTo6, DownTo5}
use Rattle.reshape_geometry.specs.raid_types_the_Refusal_TheVariants.{SameShape, BadShape, SizeNotMultiple}
use Rattle.reshape_geometry.specs.raid_types_the_ShapeField_TheVariants.{Disks}
use Rattle.reshape_geometry.specs.raid_types_Search.{least_below}
use Rattle.reshape_plan.specs.Plans.{phases, phases_steps, plan_refusal, largest_window}

abbrev shape : ℕ → ℕ → ℕ → ℕ → Shape
shape level layout chunk disks = record { level = level; layout = layout; chunk = chunk; disks = disks }

abbrev disks_wish : ℕ → Wish
disks_wish n = record { level = None; disks = Some n; chunk = None; layout = None }

-- four disks to five, 128 rows: 26; five to four: 26; 40 rows: 11; 64 rows: 14
four_to_five : phases_steps (shape 5 2 8 4) 128 (phases (shape 5 2 8 4) (disks_wish 5)) ≡ 26
unfolding least_below
four_to_five = refl

five_to_four : phases_steps (shape 5 2 8 5) 128 (phases (shape 5 2 8 5) (disks_wish 4)) ≡ 26
unfolding least_below
five_to_four = refl

sixty_four : phases_steps (shape 5 2 8 4) 64 (phases (shape 5 2 8 4) (disks_wish 5)) ≡ 14
unfolding least_below
sixty_four = refl

-- left-symmetric to right-symmetric on four disks, 48 rows: 20
in_place : phases_steps (shape 5 2 8 4) 48 (phases (shape 5 2 8 4) (record { level = None; disks = None; chunk = None; layout = Some (Named 3) })) ≡ 20
unfolding least_below
in_place = refl

-- chunk 128 to 1,024 on six disks, 4,096 rows: 14
chunks : phases_steps (shape 5 2 128 6) 4096 (phases (shape 5 2 128 6) (record { level = None; disks = None; chunk = Some 1024; layout = None })) ≡ 14
unfolding least_below
chunks = refl

-- level 5 to 6, preserve: 7 steps in one phase; normalise: 24 in two
abbrev six_wish : Wish
six_wish = record { level = Some 6; disks = Some 5; chunk = None; layout = Some Preserve }

preserve_phases : phases (shape 5 2 8 4) six_wish ≡ UpTo6 (shape 6 18 8 5) ∷ []
preserve_phases = refl

preserve : phases_steps (shape 5 2 8 4) 40 (phases (shape 5 2 8 4) six_wish) ≡ 7
preserve = refl

normalise : phases_steps (shape 5 2 8 4) 40 (phases (shape 5 2 8 4) (record { level = Some 6; disks = Some 5; chunk = None; layout = Some Normalise })) ≡ 24
unfolding least_below
normalise = refl

-- left-symmetric-6 to level 5: one step
down : phases (shape 6 18 8 5) (record { level = Some 5; disks = None; chunk = None; layout = None }) ≡ DownTo5 (shape 5 2 8 4) ∷ []
down = refl

-- five to six disks of level 6, 48 rows: 12
six_disks : phases_steps (shape 6 2 8 5) 48 (phases (shape 6 2 8 5) (disks_wish 6)) ≡ 12
unfolding least_below
six_disks = refl

same : plan_refusal (shape 5 2 8 4) 128 (disks_wish 4) ≡ Some SameShape
same = refl

too_many : plan_refusal (shape 5 2 8 16) 128 (record { level = Some 6; disks = None; chunk = None; layout = None }) ≡ Some (BadShape Disks)
too_many = refl

not_multiple : plan_refusal (shape 5 2 8 4) 40 (record { level = None; disks = None; chunk = Some 16; layout = None }) ≡ Some (SizeNotMultiple 40 16)
not_multiple = refl

-- three to four disks with chunk 1,024: the largest window is 6,144
window_6144 : largest_window (shape 5 2 1024 3) 4096 (phases (shape 5 2 1024 3) (disks_wish 4)) ≡ 6144
unfolding least_below
window_6144 = refl
