-- Why sectors of the list can't be read beside an open window, whose own sectors lie in its buffer.
use Rattle.std.specs.Prelude.{◌≡◌, ◌⊎◌, ℕ, ◌<◌, ◌≤◌, false, Option}
use Rattle.stripe_region_read.specs.raid_types_the_Shape.{Shape}
use Rattle.stripe_region_read.specs.raid_types_the_Span.{Span}
use Rattle.stripe_region_read.specs.raid_types_the_Refusal.{Refusal}
use Rattle.reshape_window_steps.specs.raid_types_the_Refusal_TheVariants.{NotResynced as Unsynced}
use Rattle.stripe_region_read.specs.sb_codec_the_Sb.{Sb}
use Rattle.stripe_region_read.specs.sb_specs_the_Members.{Members}
use Rattle.reshape_window_steps.specs.history_Stands.{shape_for, covers}
use Rattle.reshape_window_steps.specs.crash_views_Regions.{place_by}
use Rattle.reshape_window_steps.specs.array_members_Lacking.{LacksTooMany}
use Rattle.stripe_region_read.specs.Stretches.{IsUnrelied}

-- one of them outside the window is placed by this shape
abbrev pub IsShapeBeside : Option Span → Sb → ℕ → ℕ → Shape → Type 0
IsShapeBeside hidden newest from to shape = (x : ℕ) × (from ≤ x) × (x < to) × (covers hidden x ≡ false) × (shape_for newest x ≡ shape)

-- more roles of the shape of one of them outside the window are missing than that tolerates, or that one can't be had
abbrev pub IsUnreadBeside : Option Span → ℕ → ℕ → ℕ → Members → Refusal → Type 0
IsUnreadBeside hidden relied from to m refusal = (x : ℕ) × (from ≤ x) × (x < to) × (covers hidden x ≡ false)
    × (LacksTooMany (shape_for m.newest x) m refusal ⊎ ((refusal ≡ Unsynced (place_by m.newest x).role) × IsUnrelied relied m x))
