-- The steps that are left at an opening, computed.
use Rattle.std.proofs.Common.{◌≡◌, ℕ, ◌+◌, List, [], ◌∷◌, replicate, refl, true, false, Some, Option, option_map}
use Rattle.history.specs.raid_types_the_Shape.{Shape}
use Rattle.history.specs.raid_types_the_Role_TheVariants.{Whole, Recovering, Missing}
use Rattle.history.proofs.bank_Listed.{Slot, listed}
use Rattle.history.specs.raid_types_Search.{tabulate, least_below}
use Rattle.history.specs.declared.events.LostCause.TheVariants.{Absent, Recovering as WasRecovering}
use Rattle.history.specs.sb_specs_Reading.{reading}
use Rattle.history.specs.Left.{resync_steps, resync_steps_at, spare_rebuild_steps, rebuild_steps, left_at_opening, found_losses}
use Rattle.history_examples.proofs.ReshapeChecks.{scope, members, header}

abbrev shape : ℕ → ℕ → Shape
shape chunk disks = record { level = 5; layout = 2; chunk = chunk; disks = disks }

-- three disks, chunk 8, 40 rows
plain : resync_steps (shape 8 3) 40 ≡ 6
plain = refl

-- four to five disks, chunk 8, 128 rows, at 96: 3 new stripes, 12 old ones and the end
forward : resync_steps_at (shape 8 4) (shape 8 5) 128 false 96 ≡ 16
forward = refl

-- five to four disks at 96: 3 old stripes, 12 new ones and the end
backward : resync_steps_at (shape 8 5) (shape 8 4) 128 true 96 ≡ 16
backward = refl

from_spare : spare_rebuild_steps (shape 8 3) 40 ≡ 7
from_spare = refl

-- chunk 1,024, 2,048 rows, of which 512 are held
recovering : rebuild_steps (shape 1024 3) 2048 512 ≡ 3
recovering = refl

-- level 6 on five disks behind a takeover, 40 rows, dirty: the resync, and the rebuild of its Q
abbrev six : Shape
six = record { level = 6; layout = 18; chunk = 8; disks = 5 }

after_takeover : resync_steps six 40 + rebuild_steps six 40 0 ≡ 12
after_takeover = refl

abbrev left_of : List Slot → Option ℕ
left_of slots = option_map (left_at_opening (scope (Some 5) slots) (listed slots)) (reading (scope (Some 5) slots) (listed slots))

-- at 96: three windows of 5 steps each, 4 zeroed stripes and the end; one fewer where the window is held
not-held : left_of (members 96 5 4 (replicate 104 [] ∷ [])) ≡ Some 20
unfolding tabulate least_below reading
not-held = refl

held : left_of (members 96 5 4 ((header 96 96 ∷ replicate 103 []) ∷ [])) ≡ Some 19
unfolding tabulate least_below reading
held = refl

-- and at the beginning
held-first : left_of (members 0 5 4 ((header 0 96 ∷ replicate 103 []) ∷ [])) ≡ Some 24
unfolding tabulate least_below reading
held-first = refl

losses : found_losses 0 (Whole 0 ∷ Missing ∷ Recovering 2 ∷ []) ≡ (1, Absent) ∷ (2, WasRecovering) ∷ []
losses = refl
