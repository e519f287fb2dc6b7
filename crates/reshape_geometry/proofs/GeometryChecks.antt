-- Units, windows and steps, computed.
use Rattle.std.proofs.Common.{◌≡◌, true, false, refl, Some}
use Rattle.raid_types.specs.declared.places.Shape.{Shape}
use Rattle.raid_types.specs.Search.{least_below}
use Rattle.reshape_geometry.specs.Geometry.{unit, window, is_critical, reshape_steps}

-- left-symmetric level 5 on 4 and on 5 disks, chunk 8
abbrev four : Shape
four = record { level = 5; layout = 2; chunk = 8; disks = 4 }

abbrev five : Shape
five = record { level = 5; layout = 2; chunk = 8; disks = 5 }

-- 4 to 5 disks, size 128: unit 96, three critical windows and one that isn't, 26 steps
unit_96 : unit four five ≡ 96
unfolding least_below
unit_96 = refl

second_window : window four five 128 false 96 ≡ Some (record { lo = 96; hi = 192 })
unfolding least_below
second_window = refl

window_2_critical : is_critical four five 128 false (record { lo = 192; hi = 288 }) ≡ true
window_2_critical = refl

window_3_not : is_critical four five 128 false (record { lo = 288; hi = 384 }) ≡ false
window_3_not = refl

steps_26 : reshape_steps four five 128 ≡ 26
unfolding least_below
steps_26 = refl

-- 5 to 4 disks backward, size 128
steps_back : reshape_steps five four 128 ≡ 26
unfolding least_below
steps_back = refl

-- 4 to 5 disks, size 40: the last window is 96 to 120
last_window : window four five 40 false 96 ≡ Some (record { lo = 96; hi = 120 })
unfolding least_below
last_window = refl

steps_11 : reshape_steps four five 40 ≡ 11
unfolding least_below
steps_11 = refl
