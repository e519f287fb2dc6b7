-- The next step of a rebuild: of the lowest role that a slot recovers, or else of the lowest that no slot holds, where there is a spare.
use Rattle.std.specs.Prelude.{◌≡◌, ℕ, ◌+◌, ◌⊎◌, Bool, true, false, nat_lt, if◌then◌else◌, List, [], ◌∷◌, Option, Some, MatchOption, IsSome, unwrap_or}
use Rattle.std.specs.Option.{option_map_or}
use Rattle.array_state.specs.raid_types_Search.{least_below}
use Rattle.array_state.specs.raid_types_the_Role.{Role}
use Rattle.array_state.specs.raid_types_the_Role_TheVariants.{Recovering}
use Rattle.sb_election.specs.sb_specs_the_Members.{Members}
use Rattle.sb_election.specs.sb_specs_Reading.{shape_of, role_state}
use Rattle.sb_election.specs.sb_specs_Reads.{has_spare}
use Rattle.array_parts.specs.stripe_row_Rows.{reading_of}
use Rattle.array_parts.specs.history_the_Event.{Event}
use Rattle.array_parts.specs.history_the_Event_TheVariants.{Step, Rebuilt}
use Rattle.array_parts.specs.history_the_StepKind.{StepKind}
use Rattle.array_parts.specs.history_the_StepKind_TheVariants.{RebuildTaken, RebuildStripe, RebuildEnded}
use Rattle.array_parts.specs.array_members_the_Work.{Work}
use Rattle.array_parts.specs.array_members_Placed.{is_unassigned}
use Rattle.array_parts.specs.array_members_Status.{stripes_of, rebuilt_of}
use Rattle.array_reshaping_laws.specs.array_call_specs_Calls.{IsRecoveredOrLost, with_rebuilt}
use Rattle.array_parts.specs.array_members_Rebuilding.{Held}

-- a slot recovers the role
abbrev pub recovers : Role → Bool
recovers (Recovering slot) = true
recovers state = false

-- the lowest role that a slot recovers, the lowest that no slot holds, and the lowest spare
abbrev pub first_recovering : Members → Option ℕ
first_recovering members = least_below (shape_of members.newest).disks (λ role. recovers (role_state (reading_of members) role))

abbrev pub first_unassigned : Members → Option ℕ
first_unassigned members = least_below (shape_of members.newest).disks (is_unassigned (reading_of members))

abbrev pub first_spare : Members → Option ℕ
first_spare members = least_below 32 (has_spare members.spares)

-- a slot recovers a role, or there is a spare for one that no slot holds
abbrev pub IsRebuildNext : Members → Type 0
IsRebuildNext members = IsSome (first_recovering members) ⊎ (IsSome (first_unassigned members) × IsSome (first_spare members))

-- the role that is rebuilt
abbrev pub rebuilt_role : Members → ℕ
rebuilt_role members = unwrap_or (first_recovering members) (unwrap_or (first_unassigned members) 0)

-- the step gave the role that is rebuilt to the lowest spare, which recovers it then, or no slot holds it
abbrev pub IsGivenToSpare : Members → Members → Type 0
IsGivenToSpare old new = MatchOption (first_spare old) ⊥ (IsRecoveredOrLost new (rebuilt_role old))

-- the kind of the next step: a recovering role's next stripe, or its end where all are done; or the role is given to the spare
abbrev pub rebuild_kind : Work → Members → StepKind
rebuild_kind work members =
    option_map_or (λ role. if nat_lt (rebuilt_of work role) (stripes_of members) then RebuildStripe else RebuildEnded) (first_recovering members) RebuildTaken

-- a slot held the role, or is the lowest spare, where the next step gives that one the role
abbrev pub IsHeldOrNext : Work → Members → ℕ → ℕ → Type 0
IsHeldOrNext work members role slot =
    Held members role slot ⊎ ((rebuild_kind work members ≡ RebuildTaken) × ((role ≡ rebuilt_role members) × (first_spare members ≡ Some slot)))

-- the entries of such a step, behind which so many are left
abbrev pub rebuild_events : StepKind → ℕ → ℕ → List Event
rebuild_events RebuildEnded role left = Step RebuildEnded left ∷ Rebuilt role ∷ []
rebuild_events kind role left = Step kind left ∷ []

-- what is under way after it: no stripe of a role that was given is rebuilt yet
abbrev pub after_rebuild : StepKind → ℕ → Work → Work
after_rebuild RebuildTaken role work = with_rebuilt role 0 work
after_rebuild RebuildStripe role work = with_rebuilt role (rebuilt_of work role + 1) work
after_rebuild kind role work = work
