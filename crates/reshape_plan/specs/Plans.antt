-- What a wish makes of a shape: one or two phases, or a refusal.
use Rattle.std.specs.Prelude.{◌≡◌, ℕ, ◌+◌, ◌-◌, ◌*◌, ◌/◌, Bool, not, ◌&&◌, ◌||◌, ◌==◌, nat_le, nat_lt, if◌then◌else◌, min, max, List, [], ◌∷◌, ◌++◌, Option, Some, None, unwrap_or, option_map, Result, Ok, Err}
use Rattle.std.specs.Option.{option_or, option_to_list}
use Rattle.std.specs.List.{list_any}
use Rattle.reshape_geometry.specs.raid_types_the_Shape.{Shape}
use Rattle.reshape_geometry.specs.raid_types_the_Wish.{Wish}
use Rattle.reshape_geometry.specs.raid_types_the_WishedLayout.{WishedLayout}
use Rattle.reshape_geometry.specs.raid_types_the_WishedLayout_TheVariants.{Named, Preserve, Normalise}
use Rattle.reshape_geometry.specs.raid_types_the_Phase.{Phase}
use Rattle.reshape_geometry.specs.raid_types_the_Phase_TheVariants.{Reshape, UpTo6, DownTo5}
use Rattle.reshape_geometry.specs.raid_types_the_Plan.{Plan}
use Rattle.reshape_geometry.specs.raid_types_the_Refusal.{Refusal}
use Rattle.reshape_geometry.specs.raid_types_the_Refusal_TheVariants.{SameShape, BadShape, SizeNotMultiple}
use Rattle.reshape_geometry.specs.raid_types_the_ShapeField.{ShapeField}
use Rattle.reshape_geometry.specs.raid_types_the_ShapeField_TheVariants.{Level, Layout, Chunk, Disks}
use Rattle.reshape_geometry.specs.raid_types_Shapes.{data_disks, is_level, is_layout, is_chunk, is_disk_count, is_multiple}
use Rattle.reshape_geometry.specs.Geometry.{AreInForce, unit, list_end, reshape_steps}

abbrev pub is_same_shape : Shape → Shape → Bool
is_same_shape a b = (a.level == b.level) && (a.layout == b.layout) && (a.chunk == b.chunk) && (a.disks == b.disks)

-- a level 5 layout as a level 6 layout with Q on the last disk, and back
abbrev pub as_six : ℕ → ℕ
as_six layout = if nat_le layout 4 then layout + 16 else layout

abbrev pub as_five : ℕ → ℕ
as_five layout = if nat_le 16 layout then layout - 16 else layout

-- the wished layout, where `kept` is what preserve means and `plain` what normalise does
abbrev pub wished_layout : ℕ → ℕ → ℕ → Option WishedLayout → ℕ
wished_layout kept plain otherwise None = otherwise
wished_layout kept plain otherwise (Some (Named layout)) = layout
wished_layout kept plain otherwise (Some Preserve) = kept
wished_layout kept plain otherwise (Some Normalise) = plain

-- the takeover to level 6 adds a disk for Q
abbrev pub taken_up : Shape → Shape
taken_up now = record { level = 6; layout = as_six now.layout; chunk = now.chunk; disks = now.disks + 1 }

-- the shape in the end, for each pair of levels
abbrev pub target_same : Shape → Wish → Shape
target_same now wish = record {
  level = now.level;
  layout = wished_layout now.layout (as_five now.layout) now.layout wish.layout;
  chunk = unwrap_or wish.chunk now.chunk;
  disks = unwrap_or wish.disks now.disks;
}

abbrev pub target_up : Shape → Wish → Shape
target_up now wish = record {
  level = 6;
  layout = wished_layout (as_six now.layout) now.layout now.layout wish.layout;
  chunk = unwrap_or wish.chunk now.chunk;
  disks = unwrap_or wish.disks (now.disks + 1);
}

abbrev pub target_down : Shape → Wish → Shape
target_down now wish = record {
  level = 5;
  layout = wished_layout (as_five now.layout) (as_five now.layout) (as_five now.layout) wish.layout;
  chunk = unwrap_or wish.chunk now.chunk;
  disks = unwrap_or wish.disks (now.disks - 1);
}

-- the shape that a takeover to this level 5 shape begins at
abbrev pub before_down : Shape → Shape
before_down to = record { level = 6; layout = as_six to.layout; chunk = to.chunk; disks = to.disks + 1 }

abbrev pub wished_level : Shape → Wish → ℕ
wished_level now wish = unwrap_or wish.level now.level

abbrev pub target : Shape → Wish → Shape
target now wish =
    if wished_level now wish == now.level then target_same now wish
    else if wished_level now wish == 6 then target_up now wish
    else target_down now wish

-- a reshape to this shape, where it is another one
abbrev pub reshape_unless_same : Shape → Shape → List Phase
reshape_unless_same now to = if is_same_shape now to then [] else Reshape to ∷ []

-- the phases that lead to a target of this level, in order
abbrev pub phases_to : Shape → ℕ → Shape → List Phase
phases_to now level to =
    if level == now.level then Reshape to ∷ []
    else if level == 6 then UpTo6 (taken_up now) ∷ reshape_unless_same (taken_up now) to
    else reshape_unless_same now (before_down to) ++ DownTo5 to ∷ []

-- the phases of a wish
abbrev pub phases : Shape → Wish → List Phase
phases now wish = phases_to now (wished_level now wish) (target now wish)

abbrev pub phase_shape : Phase → Shape
phase_shape (Reshape to) = to
phase_shape (UpTo6 to) = to
phase_shape (DownTo5 to) = to

-- The disks of the target don't do for its takeover: fewer than its level 6 shape has, or more than leaves one for Q.
abbrev pub is_disk_count_off : Shape → ℕ → Shape → Bool
is_disk_count_off now level to =
    not (level == now.level) && (if level == 6 then nat_lt to.disks (now.disks + 1) else nat_le now.disks to.disks)

-- a shape of the phases fails this test
abbrev pub some_shape : (Shape → Bool) → List Phase → Bool
some_shape fails phases = list_any (λ phase. fails (phase_shape phase)) phases

-- a disk count on the way to a target is out of its limits, or doesn't do for the takeover
abbrev pub has_bad_disks : Shape → ℕ → Shape → Bool
has_bad_disks now level to =
    is_disk_count_off now level to || some_shape (λ s. not (is_disk_count s.level s.disks)) (phases_to now level to)

-- the first field in which a shape on the way to a target is out of its limits
abbrev pub bad_field : Shape → ℕ → Shape → Option ShapeField
bad_field now level to =
    let phases = phases_to now level to in
    if not (is_level level) then Some Level
    else if some_shape (λ s. not (is_layout s.level s.layout)) phases then Some Layout
    else if some_shape (λ s. not (is_chunk s.chunk)) phases then Some Chunk
    else if has_bad_disks now level to then Some Disks
    else None

-- the first bad field of a wish
abbrev pub bad_shape : Shape → Wish → Option ShapeField
bad_shape now wish = bad_field now (wished_level now wish) (target now wish)

-- the wish changes nothing
abbrev pub is_same : Shape → Wish → Bool
is_same now wish = (wished_level now wish == now.level) && is_same_shape now (target now wish)

-- the refusal of a wish, if it has one
abbrev pub plan_refusal : Shape → ℕ → Wish → Option Refusal
plan_refusal now size wish =
    if is_same now wish then Some SameShape
    else option_or (option_map (λ field. BadShape field) (bad_shape now wish))
    (if is_multiple size (target now wish).chunk then None else Some (SizeNotMultiple size (target now wish).chunk))

-- the largest disk count, largest window and smallest length of these phases from a shape
abbrev pub most_disks : Shape → List Phase → ℕ
most_disks now [] = now.disks
most_disks now (phase ∷ more) = max now.disks (most_disks (phase_shape phase) more)

abbrev pub phase_window : Shape → ℕ → Phase → ℕ
phase_window now size (Reshape to) = min (unit now to) (list_end now to size)
phase_window now size (UpTo6 to) = 0
phase_window now size (DownTo5 to) = 0

abbrev pub largest_window : Shape → ℕ → List Phase → ℕ
largest_window now size [] = 0
largest_window now size (phase ∷ more) = max (phase_window now size phase) (largest_window (phase_shape phase) size more)

abbrev pub least_data : Shape → List Phase → ℕ
least_data now [] = data_disks now
least_data now (phase ∷ more) = min (data_disks now) (least_data (phase_shape phase) more)

-- new roles that want a spare
abbrev pub new_roles : Shape → Wish → ℕ
new_roles now wish = most_disks now (phases now wish) - now.disks

-- a takeover to level 6 is followed by the rebuild of its Q
abbrev pub phase_steps : Shape → ℕ → Phase → ℕ
phase_steps now size (Reshape to) = reshape_steps now to size
phase_steps now size (UpTo6 to) = 1 + (size / to.chunk + 1)
phase_steps now size (DownTo5 to) = 1

-- the steps of these phases, one after another
abbrev pub phases_steps : Shape → ℕ → List Phase → ℕ
phases_steps now size [] = 0
phases_steps now size (phase ∷ more) = phase_steps now size phase + phases_steps (phase_shape phase) size more

-- the phases of a plan, as a list
abbrev pub plan_phases : Plan → List Phase
plan_phases plan = plan.first ∷ option_to_list plan.second

-- a plan of these phases, with what it needs and what it leaves room for
pub record IsPlanOf (now : Shape) (size : ℕ) (way : List Phase) (plan : Plan) : Type 0 where
  pub phases : plan_phases plan ≡ way
  pub spares : plan.spares ≡ most_disks now way - now.disks
  pub span : plan.span ≡ largest_window now size way
  pub least : plan.least ≡ least_data now way * size

-- the plan, or its refusal
abbrev pub IsPlan : Shape → ℕ → Wish → Result Plan Refusal → Type 0
IsPlan now size wish (Ok plan) = (plan_refusal now size wish ≡ None) × IsPlanOf now size (phases now wish) plan
IsPlan now size wish (Err refusal) = plan_refusal now size wish ≡ Some refusal

-- a phase fits the shape that it begins at: a reshape keeps the level, and a takeover makes one shape of the other
abbrev pub Follows : Shape → Phase → Type 0
Follows now (Reshape to) = to.level ≡ now.level
Follows now (UpTo6 to) = (now.level ≡ 5) × (to ≡ taken_up now)
Follows now (DownTo5 to) = (to.level ≡ 5) × (now ≡ before_down to)

-- each phase fits the shape that it begins at, both shapes are valid, and their chunks divide the size
abbrev pub AreSound : Shape → ℕ → List Phase → Type 0
AreSound now size [] = Unit {0}
AreSound now size (phase ∷ more) =
    AreInForce now (phase_shape phase) size × Follows now phase × AreSound (phase_shape phase) size more

-- the shape in the end of these phases
abbrev pub last_shape : Shape → List Phase → Shape
last_shape now [] = now
last_shape now (phase ∷ more) = last_shape (phase_shape phase) more

-- the phases of a wish lead to its target
abbrev pub PhasesLeadToTheTarget : Type 0
PhasesLeadToTheTarget = (now : Shape) (wish : Wish) → last_shape now (phases now wish) ≡ target now wish
