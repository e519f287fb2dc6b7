-- The first refusal of a call, in order.
use Rattle.std.specs.Prelude.{◌≡◌, ℕ, ◌+◌, ◌&&◌, Bool, nat_lt, nat_le, if◌then◌else◌, Option, Some, None, option_map, Result, Ok, Err, ⊤}
use Rattle.raid_layout.specs.raid_types_Search.{least_below}
use Rattle.raid_layout.specs.raid_types_Shapes.{tolerance}
use Rattle.raid_layout.specs.raid_types_the_Fault.{Fault}
use Rattle.raid_layout.specs.raid_types_the_Fault_TheVariants.{Refused as IsRefusedWith, NoMemory}
use Rattle.sb_update.specs.raid_types_the_Refusal.{Refusal}
use Rattle.sb_update.specs.raid_types_the_Refusal_TheVariants.{PastEnd, NotResynced}
use Rattle.raid_layout.specs.Layout.{place}
use Rattle.sb_update.specs.sb_specs_the_Members.{Members}
use Rattle.raid_layout.specs.raid_types_the_Shape.{Shape}
use Rattle.array_members.specs.stripe_row_Rows.{reading_of, is_missing}
use Rattle.array_members.specs.Lacking.{lacking, too_many}
use Rattle.array_members.specs.Refusals.{lowest_missing}

-- more of the shape's roles are missing than it tolerates
abbrev pub are_too_many : Shape → Members → Bool
are_too_many shape m = nat_lt (tolerance shape) (lacking shape m)

-- this sector of the list lies behind the mended rows, on a role that is missing
abbrev pub is_lacking : Shape → Members → ℕ → ℕ → Bool
is_lacking shape m mended x = nat_le mended (place shape x).row && is_missing (reading_of m) (place shape x).role

-- the role of the first of so many sectors from this one on that does
abbrev pub first_lacking : Shape → ℕ → ℕ → ℕ → Members → Option ℕ
first_lacking shape mended first count m = option_map (λ i. (place shape (first + i)).role) (least_below count (λ i. is_lacking shape m mended (first + i)))

-- why a read of so many sectors from this one on isn't done, the first of two causes: too many are missing; or the first sector that can't be had
abbrev pub read_refusal : Shape → ℕ → ℕ → ℕ → Members → Option Refusal
read_refusal shape mended first count m =
    if are_too_many shape m then Some (too_many shape m) else option_map (λ role. NotResynced role) (first_lacking shape mended first count m)

-- why a write isn't done, the first of two causes: too many are missing; or the lowest that has data, where parity isn't to be relied on
abbrev pub write_refusal : Shape → Bool → Members → Option Refusal
write_refusal shape synced m =
    if are_too_many shape m then Some (too_many shape m) else if synced then None else option_map (λ role. NotResynced role) (lowest_missing shape m)

-- why a call that ends at this place isn't done: it ends past the visible size; or else what its kind gives
abbrev pub call_refusal : ℕ → ℕ → Option Refusal → Option Refusal
call_refusal visible to why = if nat_lt visible to then Some (PastEnd visible) else why

-- A call is answered Ok only where nothing refused it before; and where it is refused, it is with the first refusal by the members that it leaves.
abbrev pub IsFirstRefused : {T : Type 0} → (Members → Option Refusal) → Members → Members → Result T Fault → Type 0
IsFirstRefused why old new (Ok x) = why old ≡ None
IsFirstRefused why old new (Err (IsRefusedWith refusal)) = why new ≡ Some refusal
IsFirstRefused why old new (Err NoMemory) = ⊤
