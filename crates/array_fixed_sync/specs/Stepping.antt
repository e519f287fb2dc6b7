-- The next step of an array without a reshape: the resync's, where one is pending, or else a rebuild's.
use Rattle.std.specs.Prelude.{◌≡◌, ◌⊎◌, ℕ, List, Some, MatchOption, Result, ⊤}
use Rattle.std.specs.Option.{option_map_or}
use Rattle.array_fixed_io.specs.raid_types_the_Fault.{Fault}
use Rattle.array_fixed_io.specs.raid_types_the_Refusal.{Refusal}
use Rattle.array_fixed_io.specs.raid_types_the_Who.{Who}
use Rattle.array_fixed_io.specs.sb_specs_the_Members.{Members}
use Rattle.array_fixed_io.specs.history_the_Entry.{Entry}
use Rattle.array_fixed_io.specs.history_the_StepKind.{StepKind}
use Rattle.array_fixed_io.specs.history_the_StepKind_TheVariants.{ResyncEnded, RebuildTaken, RebuildEnded}
use Rattle.array_fixed_io.specs.array_members_the_Work.{Work}
use Rattle.array_fixed_io.specs.array_members_Lacking.{AreTooMany}
use Rattle.array_fixed_io.specs.array_members_Rebuilding.{Held}
use Rattle.array_fixed_io.specs.array_call_specs_Calls.{IsRebuildStepped}
use Rattle.array_fixed_io.specs.array_specs_Calls.{IsStepTaken}
use Rattle.array_fixed_sync.specs.Resyncing.{is_at_end, IsUnsynced}
use Rattle.array_fixed_sync.specs.Resyncing as resync
use Rattle.array_fixed_io.specs.array_type_Rebuilding.{first_spare, rebuilt_role, rebuild_kind, rebuild_events, after_rebuild}

-- why the next step isn't done, by what was under way in the old members
abbrev pub IsUndone : Work → Members → Members → Refusal → Type 0
IsUndone work old members refusal = MatchOption work.resync (AreTooMany members refusal) (λ mended. IsUnsynced (is_at_end work.resync old) members refusal)

-- the kind of the next step: the resync's, where one is pending, or else a rebuild's
abbrev pub next_kind : Work → Members → StepKind
next_kind work members = option_map_or (λ mended. resync.next_kind work.resync members) work.resync (rebuild_kind work members)

-- a slot held the role, or is the lowest spare, where the next step gives that one the role
abbrev pub IsHeldOrDue : Work → Members → ℕ → ℕ → Type 0
IsHeldOrDue work members role slot =
    Held members role slot ⊎ ((next_kind work members ≡ RebuildTaken) × ((role ≡ rebuilt_role members) × (first_spare members ≡ Some slot)))

-- what is under way after it
abbrev pub after_step : Work → Members → Work
after_step work members = option_map_or (λ mended. record work { resync = resync.after_step work.resync members }) work.resync
    (after_rebuild (rebuild_kind work members) (rebuilt_role members) work)

-- A step was entered, behind which so many are left, or what refused it; where the slot that is rebuilt was lost, only the losses are.
abbrev pub IsStepEntered : {T : Type 0} → Who → List Entry → List Entry → Work → Members → Members → ℕ → Result T Fault → Type 0
IsStepEntered who old new work members members' left result = MatchOption work.resync
    (IsRebuildStepped who old new members' (rebuilt_role members) (rebuild_events (rebuild_kind work members) (rebuilt_role members) left) result)
    (λ mended. IsStepTaken who old new (resync.next_kind work.resync members) left result)

-- the step makes the rows fit: it is the last of the resync, or of a rebuild
abbrev pub IsEnd : StepKind → Type 0
IsEnd ResyncEnded = ⊤
IsEnd RebuildEnded = ⊤
IsEnd kind = ⊥
