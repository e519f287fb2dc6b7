-- Which reply entries answer a request. `before` are the entries before the reply; the spares, roles and shapes are
-- those that the stored superblocks give at its end.
use Rattle.std.specs.Prelude.{◌≡◌, ℕ, ◌+◌, ◌-◌, ◌*◌, ◌<◌, ◌≤◌, Bool, true, false, not, ◌&&◌, ◌||◌, ◌==◌, nat_le, nat_lt, ◌⊎◌, List, [], ◌∷◌, length, map, fold, count_by, Option, Some, None, MatchBool, MatchOption, IfSome, IsSome, IsTrue, IsFalse, ⊤}
use Rattle.std.specs.Option.{option_map_or}
use Rattle.std.specs.List.{list_any, list_all}
use Rattle.raid_types.specs.declared.places.Shape.{Shape}
use Rattle.raid_types.specs.declared.wishes.Wish.{Wish}
use Rattle.raid_types.specs.declared.answers.Refusal.{Refusal}
use Rattle.raid_types.specs.declared.answers.Refusal.TheVariants.{PastEnd, TooManyMissing, NotResynced, BackupFault, NoSuchRole, SlotTaken, SlotTooSmall, PastSize, SlotFault, Busy, Degraded, SameShape, BadShape, SizeNotMultiple, NeedSpares, NeedBackup, BackupTooSmall, ArraySizeFirst, Nothing, NoSuchSlot}
use Rattle.raid_types.specs.declared.answers.BusyKind.{BusyKind}
use Rattle.raid_types.specs.declared.answers.BusyKind.TheVariants.{Reshape, Resync, Rebuild, Plan}
use Rattle.raid_types.specs.declared.status.Role.{Role}
use Rattle.raid_types.specs.declared.status.Role.TheVariants.{Whole, Recovering, Missing}
use Rattle.raid_types.specs.declared.status.Status.{Status}
use Rattle.raid_types.specs.Shapes.{tolerance}
use Rattle.raid_types.specs.Search.{count_below, any_below}
use Rattle.history.specs.declared.events.Event.{Event}
use Rattle.history.specs.declared.events.Event.TheVariants.{Read, Wrote, Torn, Flushed, Lost, SpareLost, Added, Failed, Visible, Planned, Step, Stepped, Shown, Stopped, Halted, Refused}
use Rattle.history.specs.declared.events.LostCause.TheVariants.{Fault}
use Rattle.history.specs.declared.events.StepKind.TheVariants.{Finished, TakenOver}
use Rattle.history.specs.declared.events.Request.{Request}
use Rattle.history.specs.declared.events.Request.TheVariants.{Read as AsksRead, Write as AsksWrite, Flush as AsksFlush, Fail as AsksFail, Add as AsksAdd, Visible as AsksVisible, Grow as AsksGrow, Steps as AsksSteps, Show as AsksShow}
use Rattle.history.specs.declared.events.Entry.{Entry}
use Rattle.sb_read_laws.specs.sb_specs_Reading.{Reading, role_state, role_count, is_whole, holder, shape_of, target_of, shapes_in_force, is_reshaping, data_offset_of, is_backup}
use Rattle.reshape_plan.specs.Plans.{phases, plan_refusal, largest_window, least_data, new_roles, phases_steps}
use Rattle.history.specs.World.{World, until, reading_at}
use Rattle.history.specs.Left.{opened_roles}
use Rattle.history.specs.Losses.{is_gone_after, is_unsynced}
use Rattle.history.specs.Transfers.{IsRefusedAt}
use Rattle.history.specs.Legal.{length_at, visible_at, call_before}

-- ---- when the facts on roles and spares are asked

-- a device failed in this entry
abbrev pub is_fault : Event → Bool
is_fault (Lost role Fault) = true
is_fault (SpareLost slot) = true
is_fault (Refused (SlotFault slot)) = true
is_fault event = false

-- no shape in force has more of its roles gone than it tolerates
abbrev pub is_tolerable : World → List Entry → Shape → Bool
is_tolerable world before shape = nat_le (count_below shape.disks (is_gone_after world before)) (tolerance shape)

abbrev pub is_asked : World → List Entry → Reading → Bool
is_asked world before r =
    not (list_any (λ e. is_fault e.event) before) && list_all (is_tolerable world before) (shapes_in_force r.newest)

-- the fact on what the superblocks say at this end, where it is asked
abbrev pub WhereAsked : World → List Entry → ℕ → (Reading → Type 0) → Type 0
WhereAsked world before end Fact =
    IfSome (reading_at world end) (λ r. MatchBool (is_asked world before r) (Fact r) ⊤)

-- ---- what is pending

-- the phases of the last plan that haven't ended
abbrev pub planned_at : World → ℕ → Wish → ℕ
planned_at world end wish = option_map_or (λ r. length (phases (shape_of r.newest) wish)) (reading_at world end) 0

abbrev pub phases_after : World → ℕ → Entry → Event → ℕ
phases_after world n e (Planned left wish) = planned_at world e.end wish
phases_after world n e (Step Finished left) = n - 1
phases_after world n e (Step TakenOver left) = n - 1
phases_after world n e event = n

abbrev pub phases_left : World → List Entry → ℕ
phases_left world before = fold (λ n e. phases_after world n e e.event) 0 before

abbrev pub is_missing_role : Role → Bool
is_missing_role Missing = true
is_missing_role (Whole slot) = false
is_missing_role (Recovering slot) = false

abbrev pub is_recovering_role : Role → Bool
is_recovering_role Missing = false
is_recovering_role (Whole slot) = false
is_recovering_role (Recovering slot) = true

-- a role is recovering, or missing beside a spare
abbrev pub is_rebuildable : Reading → Bool
is_rebuildable r = list_any is_recovering_role r.roles || list_any is_missing_role r.roles && nat_lt 0 (length r.spares)

abbrev pub IsPending : World → List Entry → Reading → BusyKind → Type 0
IsPending world before r Reshape = IsTrue (is_reshaping r.newest)
IsPending world before r Resync = IsTrue (is_unsynced world before)
IsPending world before r Rebuild = IsTrue (is_rebuildable r)
IsPending world before r Plan = 0 < phases_left world before

abbrev pub IsBusy : World → List Entry → ℕ → BusyKind → Type 0
IsBusy world before end Reshape = WhereAsked world before end (λ r. IsTrue (is_reshaping r.newest))
IsBusy world before end Resync = IsTrue (is_unsynced world before)
IsBusy world before end Rebuild = WhereAsked world before end (λ r. IsTrue (is_rebuildable r))
IsBusy world before end Plan = 0 < phases_left world before

abbrev pub IsIdle : World → List Entry → Reading → Type 0
IsIdle world before r = (kind : BusyKind) → IsPending world before r kind → ⊥

-- ---- the facts behind the refusals of a request

abbrev pub slot_length : World → ℕ → ℕ
slot_length world slot = world.scope.sizes.sectors slot

abbrev pub backup_length : World → ℕ
backup_length world = option_map_or (slot_length world) world.scope.backup 0

-- A slot is taken: it is the backup, holds a role or is a spare. One that recovers holds none while a reshape is active.
abbrev pub IsTaken : World → ℕ → Reading → Type 0
IsTaken world slot r =
    IsTrue (is_backup world.scope.backup slot
    || list_any (λ role. is_backup (holder role) slot) (opened_roles r)
    || list_any (λ spare. spare == slot) r.spares)

-- the data on a slot that holds a role ends at this sector
abbrev pub IsDataEnd : ℕ → Reading → Type 0
IsDataEnd sector r = (held : ℕ) × (role : ℕ) × (holder (role_state r role) ≡ Some held) × (sector ≡ data_offset_of r held + r.newest.size)

abbrev pub IsAddRefused : World → List Entry → ℕ → ℕ → Refusal → Type 0
IsAddRefused world before end slot (NoSuchSlot asked) = (asked ≡ slot) × (world.scope.sizes.slots ≤ slot)
IsAddRefused world before end slot (SlotTaken taken) = (taken ≡ slot) × WhereAsked world before end (IsTaken world slot)
IsAddRefused world before end slot (SlotTooSmall have want) =
    (have ≡ slot_length world slot) × (have < want) × WhereAsked world before end (IsDataEnd want)
IsAddRefused world before end slot (SlotFault failed) = failed ≡ slot
IsAddRefused world before end slot (TooManyMissing count tolerance) = ⊤
IsAddRefused world before end slot refusal = ⊥

-- the plan of a wish on the shape at this end
abbrev pub IfShape : World → ℕ → (Shape → ℕ → Type 0) → Type 0
IfShape world end Fact = IfSome (reading_at world end) (λ r. Fact (shape_of r.newest) r.newest.size)

abbrev pub IsGrowRefused : World → List Entry → ℕ → Wish → Refusal → Type 0
IsGrowRefused world before end wish (Busy kind) = IsBusy world before end kind
IsGrowRefused world before end wish (Degraded role) = IsTrue (is_gone_after world before role)
IsGrowRefused world before end wish SameShape = IfShape world end (λ shape size. plan_refusal shape size wish ≡ Some SameShape)
IsGrowRefused world before end wish (BadShape field) = IfShape world end (λ shape size. plan_refusal shape size wish ≡ Some (BadShape field))
IsGrowRefused world before end wish (SizeNotMultiple size chunk) =
    IfShape world end (λ shape rows. plan_refusal shape rows wish ≡ Some (SizeNotMultiple size chunk))
IsGrowRefused world before end wish (NeedSpares have want) =
    WhereAsked world before end (λ r. (have ≡ length r.spares) × (have < want) × (want ≡ new_roles (shape_of r.newest) wish))
IsGrowRefused world before end wish NeedBackup =
    (world.scope.backup ≡ None) × IfShape world end (λ shape size. 0 < largest_window shape size (phases shape wish))
IsGrowRefused world before end wish (BackupTooSmall have want) =
    IsSome world.scope.backup × (have ≡ backup_length world) × (have < want)
    × IfShape world end (λ shape size. want ≡ 8 + largest_window shape size (phases shape wish))
IsGrowRefused world before end wish (ArraySizeFirst visible least) =
    (visible ≡ visible_at world before) × (least < visible)
    × IfShape world end (λ shape size. least ≡ least_data shape (phases shape wish) * size)
IsGrowRefused world before end wish refusal = ⊥

-- a limit is refused beside a reshape or a plan alone, and only one past the length
abbrev pub IsVisibleRefused : World → List Entry → ℕ → Option ℕ → Refusal → Type 0
IsVisibleRefused world before end limit (Busy Reshape) = IsBusy world before end Reshape
IsVisibleRefused world before end limit (Busy Plan) = IsBusy world before end Plan
IsVisibleRefused world before end limit (PastSize n) = (n ≡ length_at world before) × MatchOption limit ⊥ (λ wished. n < wished)
IsVisibleRefused world before end limit refusal = ⊥

-- the role isn't whole, or there is no such role
abbrev pub IsNoRole : ℕ → Reading → Type 0
IsNoRole role r = IsFalse (is_whole (role_state r role) && nat_lt role (role_count r.newest))

abbrev pub IsFailRefused : World → List Entry → ℕ → ℕ → Refusal → Type 0
IsFailRefused world before end role (NoSuchRole asked) = (asked ≡ role) × WhereAsked world before end (IsNoRole role)
IsFailRefused world before end role refusal = ⊥

-- the new roles that the last plan wants
abbrev pub wanted_after : World → ℕ → Entry → Event → ℕ
wanted_after world n e (Planned left wish) = option_map_or (λ r. new_roles (shape_of r.newest) wish) (reading_at world e.end) 0
wanted_after world n e event = n

abbrev pub wanted : World → List Entry → ℕ
wanted world before = fold (λ n e. wanted_after world n e e.event) 0 before

-- a refusal that ends a request for steps
abbrev pub EndsSteps : World → List Entry → ℕ → Refusal → Type 0
EndsSteps world before end (TooManyMissing count tolerance) = ⊤
EndsSteps world before end (NotResynced role) = ⊤
EndsSteps world before end BackupFault = ⊤
EndsSteps world before end (Degraded role) = IsTrue (is_gone_after world before role)
EndsSteps world before end (NeedSpares have want) =
    WhereAsked world before end (λ r. (have ≡ length r.spares) × (have < want) × (want ≤ wanted world before))
EndsSteps world before end refusal = ⊥

abbrev pub IsReadRefused : Refusal → Type 0
IsReadRefused (PastEnd visible) = ⊤
IsReadRefused (TooManyMissing count tolerance) = ⊤
IsReadRefused (NotResynced role) = ⊤
IsReadRefused refusal = ⊥

abbrev pub IsWriteRefused : Refusal → Type 0
IsWriteRefused BackupFault = ⊤
IsWriteRefused refusal = IsReadRefused refusal

abbrev pub IsTransferRefused : World → List Entry → ℕ → (Refusal → Type 0) → Refusal → Type 0
IsTransferRefused world before to IsListed refusal = IsRefusedAt (visible_at world before) to IsListed refusal

-- ---- steps

abbrev pub is_lost_event : Event → Bool
is_lost_event (Lost role cause) = true
is_lost_event event = false

abbrev pub is_step_event : Event → Bool
is_step_event (Step kind left) = true
is_step_event event = false

-- what may end a request for steps early: a loss, or a Finished with a role gone
abbrev pub may_cut_short : World → List Entry → Event → Bool
may_cut_short world before (Lost role cause) = true
may_cut_short world before (Step Finished left) = any_below 32 (is_gone_after world before)
may_cut_short world before event = false

-- a request for at most so many steps did `done`, and `left` are left
pub record DidSteps (world : World) (before call : List Entry) (most done left : ℕ) (ended : Option Refusal) : Type 0 where
  pub at_most : done ≤ most
  pub all_done : (done ≡ most) ⊎ (left ≡ 0) ⊎ IsSome ended ⊎ IsTrue (list_any (λ e. may_cut_short world before e.event) call)
  pub some_done : (1 ≤ done) ⊎ IsSome ended
  pub counted : count_by (λ e. is_step_event e.event) call ≤ done
  pub not_more : done ≤ count_by (λ e. is_step_event e.event) call + count_by (λ e. is_lost_event e.event) call

-- ---- what is shown

-- the same roles are whole, on the same slots
abbrev pub whole_slot : Role → Option ℕ
whole_slot (Whole slot) = Some slot
whole_slot (Recovering slot) = None
whole_slot Missing = None

pub record IsStatusOf (status : Status) (r : Reading) : Type 0 where
  pub shape : status.shape ≡ shape_of r.newest
  pub target : status.target ≡ target_of r.newest
  pub position : IsTrue (is_reshaping r.newest) → status.position ≡ r.newest.reshape_position
  pub size : status.size ≡ r.newest.size
  pub events : status.events ≡ r.newest.events
  pub roles : map whole_slot status.roles ≡ map whole_slot r.roles
  pub spares : status.spares ≡ r.spares

pub record IsShown (world : World) (before : List Entry) (end : ℕ) (status : Status) : Type 0 where
  pub length : status.length ≡ length_at world before
  pub visible : status.visible ≡ visible_at world before
  pub stored : WhereAsked world before end (IsStatusOf status)

-- ---- requests and replies

-- a torn write of a call is that of its request
abbrev pub IsTornOf : Request → Event → Type 0
IsTornOf (AsksWrite at body) (Torn a b) = (a ≡ at) × (b ≡ body)
IsTornOf request (Torn a b) = ⊥
IsTornOf request event = ⊤

abbrev pub AreTornOf : Request → List Entry → Type 0
AreTornOf request [] = ⊤
AreTornOf request (e ∷ call) = IsTornOf request e.event × AreTornOf request call

-- the reply's event answers the request
abbrev pub Answers : World → List Entry → Entry → Request → Event → Type 0
Answers world before e (AsksRead at count) (Read a body) = (a ≡ at) × (length body ≡ count)
Answers world before e (AsksRead at count) (Refused refusal) = IsTransferRefused world before (at + count) IsReadRefused refusal
Answers world before e (AsksWrite at body) (Wrote a b) = (a ≡ at) × (b ≡ body)
Answers world before e (AsksWrite at body) (Refused refusal) = IsTransferRefused world before (at + length body) IsWriteRefused refusal
Answers world before e AsksFlush Flushed = ⊤
Answers world before e AsksFlush (Refused (TooManyMissing count tolerance)) = ⊤
Answers world before e (AsksFail role) (Failed failed) = failed ≡ role
Answers world before e (AsksFail role) (Refused refusal) = IsFailRefused world before e.end role refusal
Answers world before e (AsksAdd slot) (Added added) = added ≡ slot
Answers world before e (AsksAdd slot) (Refused refusal) = IsAddRefused world before e.end slot refusal
Answers world before e (AsksVisible limit) (Visible wished count) = wished ≡ limit
Answers world before e (AsksVisible limit) (Refused refusal) = IsVisibleRefused world before e.end limit refusal
Answers world before e (AsksGrow wish) (Planned left wished) =
    (wished ≡ wish)
    × IfShape world e.end (λ shape size. (plan_refusal shape size wish ≡ None) × (left ≡ phases_steps shape size (phases shape wish)))
Answers world before e (AsksGrow wish) (Refused refusal) = IsGrowRefused world before e.end wish refusal
Answers world before e (AsksSteps most) (Stepped done left ended) =
    DidSteps world before (call_before before e) most done left ended × IfSome ended (EndsSteps world before e.end)
Answers world before e (AsksSteps most) (Refused Nothing) = WhereAsked world before e.end (IsIdle world before)
Answers world before e AsksShow (Shown status) = IsShown world before e.end status
Answers world before e request event = ⊥

-- the reply fits its request, by the entries before it and the tape up to its end
pub record Fits (world : World) (before : List Entry) (e : Entry) (request : Request) : Type 0 where
  pub answers : Answers (until e.end world) before e request e.event
  pub torn : AreTornOf request (call_before before e)

-- the replies of the lines `stop` and `halt`
abbrev pub FitsStop : Event → Type 0
FitsStop Stopped = ⊤
FitsStop (Refused (TooManyMissing count tolerance)) = ⊤
FitsStop event = ⊥

abbrev pub FitsHalt : Event → Type 0
FitsHalt Halted = ⊤
FitsHalt event = ⊥
