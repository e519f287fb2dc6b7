-- Why sectors of the list of an array in a reshape aren't read or written.
use Rattle.std.specs.Prelude.{◌≡◌, ◌⊎◌, ℕ, ◌+◌, ◌<◌, ◌≤◌, Bool, false, Option, option_map}
use Rattle.array_call_specs.specs.raid_types_Search.{least_below}
use Rattle.array_call_specs.specs.raid_types_the_Refusal.{Refusal}
use Rattle.array_call_specs.specs.raid_types_the_Refusal_TheVariants.{NotResynced as Unsynced}
use Rattle.reshape_progress.specs.raid_types_the_Span.{Span}
use Rattle.reshape_progress.specs.sb_specs_the_Members.{Members}
use Rattle.reshape_progress.specs.history_Stands.{covers, shape_for}
use Rattle.reshape_progress.specs.crash_views_Regions.{place_by}
use Rattle.reshape_progress.specs.array_members_Lacking.{too_many, LacksTooMany}
use Rattle.stripe_region_resync.specs.sb_safe_updates_First.{are_too_many}
use Rattle.stripe_region_resync.specs.stripe_region_read_Stretches.{IsUnrelied}

-- more roles of the shape that places this sector are missing than it tolerates
abbrev pub is_lacking : Members → ℕ → Bool
is_lacking m x = are_too_many (shape_for m.newest x) m

-- what that of the first of so many sectors from this one on is refused with
abbrev pub list_refusal : ℕ → ℕ → Members → Option Refusal
list_refusal first count m = option_map (λ i. too_many (shape_for m.newest (first + i)) m) (least_below count (λ i. is_lacking m (first + i)))

-- Why a read isn't done beside a window whose sectors the buffer has: more roles of the shape of one of its sectors are missing than that tolerates, or one outside
-- the window can't be had.
abbrev pub IsUnreadAround : Option Span → ℕ → ℕ → ℕ → Members → Refusal → Type 0
IsUnreadAround hidden relied from to m refusal = (x : ℕ) × (from ≤ x) × (x < to)
    × (LacksTooMany (shape_for m.newest x) m refusal ⊎ ((covers hidden x ≡ false) × (refusal ≡ Unsynced (place_by m.newest x).role) × IsUnrelied relied m x))
