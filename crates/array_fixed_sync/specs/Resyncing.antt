-- The next step of a pending resync.
use Rattle.std.specs.Prelude.{ℕ, ◌==◌, Bool, true, false, if◌then◌else◌, Option, Some, None}
use Rattle.array_fixed_io.specs.raid_types_the_Refusal.{Refusal}
use Rattle.array_fixed_io.specs.sb_specs_the_Members.{Members}
use Rattle.array_fixed_io.specs.history_the_StepKind.{StepKind}
use Rattle.array_fixed_io.specs.history_the_StepKind_TheVariants.{ResyncStripe, ResyncEnded}
use Rattle.array_fixed_io.specs.array_members_Status.{stripes_of}
use Rattle.array_fixed_io.specs.array_members_Lacking.{AreTooMany}
use Rattle.array_fixed_io.specs.array_call_specs_Calls.{one_more, IsUnmendable}

-- a resync is pending, and has mended every stripe: its next step is its last
abbrev pub is_at_end : Option ℕ → Members → Bool
is_at_end None members = false
is_at_end (Some mended) members = mended == stripes_of members

-- the kind of the next step
abbrev pub next_kind : Option ℕ → Members → StepKind
next_kind resync members = if is_at_end resync members then ResyncEnded else ResyncStripe

-- the resync after its next step: it has mended one stripe more, or isn't pending any more
abbrev pub after_step : Option ℕ → Members → Option ℕ
after_step resync members = if is_at_end resync members then None else one_more resync

-- why the next step isn't done, by whether it is the last
abbrev pub IsUnsynced : Bool → Members → Refusal → Type 0
IsUnsynced true members refusal = AreTooMany members refusal
IsUnsynced false members refusal = IsUnmendable members refusal
