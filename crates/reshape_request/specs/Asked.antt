-- Why an array doesn't grow as it is wished: what its members and its work say against it, in order.
use Rattle.std.specs.Prelude.{◌≡◌, ℕ, ◌+◌, ◌*◌, ◌<◌, nat_lt, if◌then◌else◌, [], ◌∷◌, length, Option, Some, None, option_map, is_some, IsTrue, IsSome}
use Rattle.history.specs.raid_types_Search.{least_below}
use Rattle.history.specs.raid_types_the_Wish.{Wish}
use Rattle.history.specs.raid_types_the_Refusal.{Refusal}
use Rattle.history.specs.raid_types_the_Refusal_TheVariants.{Busy, Degraded, SameShape, BadShape, SizeNotMultiple, NeedSpares, NeedBackup, BackupTooSmall, ArraySizeFirst}
use Rattle.history.specs.raid_types_the_BusyKind.{BusyKind}
use Rattle.history.specs.raid_types_the_BusyKind_TheVariants.{Reshape, Resync, Rebuild, Plan}
use Rattle.stripe_row.specs.sb_specs_the_Members.{Members}
use Rattle.stripe_row.specs.sb_specs_Reading.{is_reshaping, role_count, shape_of}
use Rattle.history.specs.sb_specs_Verdict.{first_of_all}
use Rattle.stripe_row.specs.Rows.{reading_of, is_missing}
use Rattle.history.specs.reshape_plan_Plans.{phases, plan_refusal, largest_window, least_data, new_roles}
use Rattle.history.specs.Fits.{is_rebuildable}

-- What is asked to grow: the members of an array, the stripes that a pending resync has mended, how many phases of a plan haven't ended, how many sectors can
-- be seen, and how long the backup is.
pub record Asked : Type 0 where
  pub members : Members
  pub resync : Option ℕ
  pub phases : ℕ
  pub visible : ℕ
  pub backup : Option ℕ

abbrev pub asked_of : Members → Option ℕ → ℕ → ℕ → Option ℕ → Asked
asked_of members resync phases visible backup = record { members = members; resync = resync; phases = phases; visible = visible; backup = backup }

-- the lowest role that isn't whole
abbrev pub lowest_missing : Members → Option ℕ
lowest_missing m = least_below (role_count m.newest) (is_missing (reading_of m))

-- ---- the wish

-- what its plan is refused for by itself
abbrev pub refusal_for : Asked → Wish → Option Refusal
refusal_for a wish = plan_refusal (shape_of a.members.newest) a.members.newest.size wish

-- the new roles, the largest window and the smallest length of its plan
abbrev pub roles_for : Asked → Wish → ℕ
roles_for a wish = new_roles (shape_of a.members.newest) wish

abbrev pub window_for : Asked → Wish → ℕ
window_for a wish = largest_window (shape_of a.members.newest) a.members.newest.size (phases (shape_of a.members.newest) wish)

abbrev pub least_for : Asked → Wish → ℕ
least_for a wish = least_data (shape_of a.members.newest) (phases (shape_of a.members.newest) wish) * a.members.newest.size

-- ---- what stands behind each refusal

-- something is pending
abbrev pub IsPendingOf : Asked → BusyKind → Type 0
IsPendingOf a Reshape = IsTrue (is_reshaping a.members.newest)
IsPendingOf a Resync = IsSome a.resync
IsPendingOf a Rebuild = IsTrue (is_rebuildable (reading_of a.members))
IsPendingOf a Plan = 0 < a.phases

-- the refusal is true of the array and the wish
abbrev pub IsUngrowable : Asked → Wish → Refusal → Type 0
IsUngrowable a wish (Busy kind) = IsPendingOf a kind
IsUngrowable a wish (Degraded role) = lowest_missing a.members ≡ Some role
IsUngrowable a wish SameShape = refusal_for a wish ≡ Some SameShape
IsUngrowable a wish (BadShape field) = refusal_for a wish ≡ Some (BadShape field)
IsUngrowable a wish (SizeNotMultiple size chunk) = refusal_for a wish ≡ Some (SizeNotMultiple size chunk)
IsUngrowable a wish (NeedSpares have want) = (have ≡ length a.members.spares) × (want ≡ roles_for a wish) × (have < want)
IsUngrowable a wish NeedBackup = (a.backup ≡ None) × (0 < window_for a wish)
IsUngrowable a wish (BackupTooSmall have want) = (a.backup ≡ Some have) × (want ≡ 8 + window_for a wish) × (have < want)
IsUngrowable a wish (ArraySizeFirst visible least) = (visible ≡ a.visible) × (least ≡ least_for a wish) × (least < visible)
IsUngrowable a wish refusal = ⊥

-- ---- which comes first

abbrev pub busy_order : BusyKind → ℕ
busy_order Reshape = 0
busy_order Resync = 1
busy_order Rebuild = 2
busy_order Plan = 3

abbrev pub order : Refusal → ℕ
order (Busy kind) = busy_order kind
order (Degraded role) = 4
order SameShape = 5
order (BadShape field) = 6
order (SizeNotMultiple size chunk) = 7
order (NeedSpares have want) = 8
order NeedBackup = 9
order (BackupTooSmall have want) = 10
order (ArraySizeFirst visible least) = 11
order refusal = 12

-- it is true, and none that comes before it is
pub record IsFirst (a : Asked) (wish : Wish) (refusal : Refusal) : Type 0 where
  pub holds : IsUngrowable a wish refusal
  pub first : (other : Refusal) → order other < order refusal → IsUngrowable a wish other → ⊥

-- ---- the same as a function

abbrev pub busy_kind : Asked → Option BusyKind
busy_kind a =
    if is_reshaping a.members.newest then Some Reshape
    else if is_some a.resync then Some Resync
    else if is_rebuildable (reading_of a.members) then Some Rebuild
    else if nat_lt 0 a.phases then Some Plan
    else None

-- a plan with windows needs a backup, which has room for its header and for the largest of them
abbrev pub backup_refusal : Option ℕ → ℕ → Option Refusal
backup_refusal None window = if nat_lt 0 window then Some NeedBackup else None
backup_refusal (Some have) window = if nat_lt have (8 + window) then Some (BackupTooSmall have (8 + window)) else None

-- what a plan lacks that wants so many roles and such a window, and leaves so many sectors at least
abbrev pub lacking_refusal : ℕ → ℕ → Option ℕ → ℕ → ℕ → ℕ → Option Refusal
lacking_refusal spares visible backup roles window least = first_of_all (
    (if nat_lt spares roles then Some (NeedSpares spares roles) else None)
    ∷ backup_refusal backup window
    ∷ (if nat_lt least visible then Some (ArraySizeFirst visible least) else None) ∷ [])

-- the first of the refusals
abbrev pub grow_refusal : Asked → Wish → Option Refusal
grow_refusal a wish = first_of_all (
    option_map (λ kind. Busy kind) (busy_kind a)
    ∷ option_map (λ role. Degraded role) (lowest_missing a.members)
    ∷ refusal_for a wish
    ∷ lacking_refusal (length a.members.spares) a.visible a.backup (roles_for a wish) (window_for a wish) (least_for a wish) ∷ [])
