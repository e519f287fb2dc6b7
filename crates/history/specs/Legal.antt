-- Which histories are legal, one event after another. In each definition `before` are the entries before the entry,
-- and `rest` are those behind it that are of the same call.
use Rattle.std.specs.Prelude.{◌≡◌, ℕ, ◌+◌, ◌*◌, ◌<◌, ◌≤◌, Bool, true, false, not, ◌==◌, if◌then◌else◌, ◌⊎◌, List, [], ◌∷◌, ◌++◌, length, take, reverse, filter, fold, Option, Some, None, MatchOption, MatchBool, IfSome, IsTrue, IsFalse, ⊤}
use Rattle.std.specs.Option.{option_map_or, option_or}
use Rattle.std.specs.List.{list_any, list_all}
use Rattle.raid_types.specs.declared.places.Shape.{Shape}
use Rattle.raid_types.specs.declared.answers.Refusal.{Refusal}
use Rattle.raid_types.specs.declared.answers.Refusal.TheVariants.{PastEnd, TooManyMissing, NotResynced}
use Rattle.raid_types.specs.Shapes.{data_disks, tolerance_of, is_valid_shape}
use Rattle.raid_types.specs.Search.{count_below, any_below, all_below}
use Rattle.history.specs.declared.events.Event.{Event}
use Rattle.history.specs.declared.events.Event.TheVariants.{Read, Wrote, Torn, Lost, SpareLost, Rebuilt, Added, Failed, Resized, Visible, Planned, Step, Stepped, Shown, Refused}
use Rattle.history.specs.declared.events.LostCause.{LostCause}
use Rattle.history.specs.declared.events.LostCause.TheVariants.{Absent, Recovering, Command, Fault}
use Rattle.history.specs.declared.events.StepKind.{StepKind}
use Rattle.history.specs.declared.events.StepKind.TheVariants.{Begun, Entered, Finished, WindowFinished, TakenOver}
use Rattle.history.specs.declared.events.Entry.{Entry}
use Rattle.raid_types.specs.Sectors.{Sector}
use Rattle.history.specs.World.{contents_at, World, until, reading_at, opening_list}
use Rattle.sb_read_laws.specs.sb_specs_Reading.{is_whole, role_state, role_count, target_of}
use Rattle.history.specs.Stands.{stands}
use Rattle.history.specs.Flat.{is_same_call, rest_of_call, last_of, next_number, length_of, visible_of}
use Rattle.history.specs.Losses.{is_gone_after, is_unsynced}
use Rattle.history.specs.Transfers.{last_end_from, IsTimedBetween, IsReadOver, EndsWithinOver, IsTornOver}

-- ---- words on entries

abbrev pub is_loss : Event → Bool
is_loss (Lost role cause) = true
is_loss (SpareLost slot) = true
is_loss event = false

abbrev pub length_at : World → List Entry → ℕ
length_at world before = length_of (length (opening_list world)) before

abbrev pub visible_at : World → List Entry → ℕ
visible_at world before = visible_of (length (opening_list world)) before

-- the entries of this entry's call directly before it
abbrev pub call_before : List Entry → Entry → List Entry
call_before before e = rest_of_call e (reverse before)

-- ---- numbers and ends

-- the calls of a caller are numbered from 0; an entry goes on with the call before it, or begins the next one
abbrev pub GoesOn : Option Entry → Entry → Type 0
GoesOn None e = ⊥
GoesOn (Some last) e = IsTrue (is_same_call last e)

abbrev pub IsNumbered : List Entry → Entry → Type 0
IsNumbered before e = GoesOn (last_of before) e ⊎ (e.number ≡ next_number e.caller before)

-- the tape's length at an entry's end never falls
abbrev pub last_end : World → List Entry → ℕ
last_end world before = last_end_from world.first before

abbrev pub IsTimed : World → List Entry → Entry → Type 0
IsTimed world before e = IsTimedBetween world.first (length world.tape) before e

-- what may stand in a call before its last entry
abbrev pub MayBeInner : Event → Type 0
MayBeInner (Lost role cause) = ⊤
MayBeInner (SpareLost slot) = ⊤
MayBeInner (Step kind left) = ⊤
MayBeInner (Rebuilt role) = ⊤
MayBeInner (Resized n) = ⊤
MayBeInner (Refused refusal) = ⊤
MayBeInner (Torn at body) = ⊤
MayBeInner event = ⊥

abbrev pub IsInnerOrLast : Event → List Entry → Type 0
IsInnerOrLast event [] = ⊤
IsInnerOrLast event (e ∷ rest) = MayBeInner event

-- ---- reads and writes

abbrev pub IsRead : World → List Entry → ℕ → List Sector → Type 0
IsRead world before at body = IsReadOver (opening_list world) before at body

abbrev pub EndsWithin : World → List Entry → ℕ → List Sector → Type 0
EndsWithin world before at body = EndsWithinOver (opening_list world) before at body

abbrev pub IsTorn : World → List Entry → ℕ → List Sector → List Entry → Type 0
IsTorn world before at body rest = IsTornOver (opening_list world) before at body rest

-- ---- losses

-- the role isn't whole at the opening
abbrev pub IsAbsentAtFirst : World → ℕ → Type 0
IsAbsentAtFirst world role =
    MatchOption (reading_at world world.first) ⊥ (λ r. (role < role_count r.newest) × IsFalse (is_whole (role_state r role)))

-- a loss that the opening found stands first, under the number of the opening
pub record IsFoundLost (world : World) (before : List Entry) (e : Entry) (role : ℕ) : Type 0 where
  pub opening : e.caller ≡ 254
  pub number : e.number ≡ 0
  pub first : IsTrue (list_all (λ e. e.caller == 254) before)
  pub missing : IsAbsentAtFirst world role

abbrev pub IsFailed : ℕ → Event → Type 0
IsFailed role (Failed failed) = failed ≡ role
IsFailed role event = ⊥

-- a loss by command is of a call that ends with Failed
abbrev pub IsLost : World → List Entry → Entry → List Entry → ℕ → LostCause → Type 0
IsLost world before e rest role Absent = IsFoundLost world before e role
IsLost world before e rest role Recovering = IsFoundLost world before e role
IsLost world before e rest role Command = MatchOption (last_of rest) ⊥ (λ last. IsFailed role last.event)
IsLost world before e rest role Fault = ⊤

-- a role that was failed by command was lost by it, in the same call
abbrev pub is_lost_by_command : ℕ → Event → Bool
is_lost_by_command role (Lost lost Command) = lost == role
is_lost_by_command role event = false

abbrev pub IsFailedByCall : List Entry → Entry → ℕ → Type 0
IsFailedByCall before e role = IsTrue (list_any (λ e. is_lost_by_command role e.event) (call_before before e))

-- the opening makes no other entries
abbrev pub IsOfOpening : Event → Type 0
IsOfOpening (Lost role Absent) = ⊤
IsOfOpening (Lost role Recovering) = ⊤
IsOfOpening event = ⊥

-- ---- the length

-- the last entry that is no loss, and what stands before it
abbrev pub last_but_losses : List Entry → Option Entry
last_but_losses before = last_of (filter (λ e. not (is_loss e.event)) before)

-- the newest superblock at an end says at most so many roles; each is gone
abbrev pub is_all_gone : World → ℕ → List Entry → Bool
is_all_gone world end entries =
    option_map_or (λ r. all_below (role_count r.newest) (is_gone_after world entries)) (reading_at world end) false

-- where the step before a finish ended: the last entry before it that is no loss, or the opening
abbrev pub end_before : World → List Entry → ℕ
end_before world before = option_map_or (λ e. e.end) (last_but_losses before) world.first

-- the shape that the reshape at this mark goes to
abbrev pub target_at : World → ℕ → Option Shape
target_at world mark = option_map_or (λ r. target_of r.newest) (reading_at world mark) None

abbrev pub size_at : World → ℕ → ℕ
size_at world mark = option_map_or (λ r. r.newest.size) (reading_at world mark) 0

-- the length is that of the shape that a Finished goes to
abbrev pub IsLengthOfTarget : World → List Entry → ℕ → Type 0
IsLengthOfTarget world until n =
    MatchOption (target_at world (end_before world until)) ⊥ (λ to. n ≡ data_disks to * size_at world (end_before world until))

-- the length is that of some valid shape of this level
abbrev pub IsLengthOfLevel : ℕ → ℕ → ℕ → Type 0
IsLengthOfLevel level size n = (shape : Shape) × (shape.level ≡ level) × IsTrue (is_valid_shape shape) × (n ≡ data_disks shape * size)

-- the entries before the last one that is no loss
abbrev pub before_last_step : List Entry → List Entry
before_last_step before = take (last_place before) before
  where
    last_place : List Entry → ℕ
    last_place [] = 0
    last_place (e ∷ entries) = if list_all (λ e. is_loss e.event) entries then 0 else 1 + last_place entries

-- the length after a step, where no member is left to have kept it
abbrev pub IsUnkeptLength : World → List Entry → StepKind → ℕ → ℕ → Type 0
IsUnkeptLength world before Begun end n =
    MatchOption (reading_at world end) ⊥ (λ r. IsLengthOfLevel r.newest.level r.newest.size n)
IsUnkeptLength world before Finished end n = IsLengthOfTarget world (before_last_step before) n
IsUnkeptLength world before kind end n = ⊥

-- a Begun shortens the list, and a Finished lengthens it
abbrev pub ChangesLength : StepKind → ℕ → ℕ → Type 0
ChangesLength Begun old n = n < old
ChangesLength Finished old n = old < n
ChangesLength kind old n = ⊥

pub record IsResizedBy (world : World) (before : List Entry) (e : Entry) (rest : List Entry) (kind : StepKind) (n : ℕ) : Type 0 where
  pub changes : ChangesLength kind (length_at world before) n
  pub kept : (n ≡ length (stands world.scope (contents_at world e.end)))
      ⊎ (IsTrue (is_all_gone world e.end (before ++ e ∷ rest)) × IsUnkeptLength world before kind e.end n)

abbrev pub IsResizedAfter : World → List Entry → Entry → List Entry → ℕ → Event → Type 0
IsResizedAfter world before e rest n (Step kind left) = IsResizedBy world before e rest kind n
IsResizedAfter world before e rest n event = ⊥

-- the list's length changes directly after a Begun or a Finished of the same call
abbrev pub IsResized : World → List Entry → Entry → List Entry → ℕ → Type 0
IsResized world before e rest n =
    MatchOption (last_but_losses before) ⊥ (λ last. IsTrue (is_same_call last e) × IsResizedAfter world before e rest n last.event)

-- ---- the steps that are left

abbrev pub left_in : Event → Option ℕ
left_in (Planned left wish) = Some left
left_in (Step kind left) = Some left
left_in (Stepped done left ended) = Some left
left_in (Shown status) = Some status.left
left_in event = None

-- what can change the steps that are left besides
abbrev pub disturbs : Event → Bool
disturbs (Lost role cause) = true
disturbs (SpareLost slot) = true
disturbs (Added slot) = true
disturbs event = false

abbrev pub left_after : Option ℕ → Event → Option ℕ
left_after left event = if disturbs event then None else option_or (left_in event) left

-- the steps left as last told, where nothing disturbed them since
abbrev pub told_left : List Entry → Option ℕ
told_left before = fold (λ left e. left_after left e.event) None before

-- the same, where nothing in the entry's own call disturbs them either
abbrev pub known_left : List Entry → Entry → List Entry → Option ℕ
known_left before e rest =
    if list_any (λ e. disturbs e.event) (call_before before e ++ rest) then None else told_left before

-- a step that may change the steps left by another number than one
abbrev pub is_free_step : World → List Entry → StepKind → Bool
is_free_step world before WindowFinished = true
is_free_step world before Entered = is_unsynced world before
is_free_step world before Finished = any_below 32 (is_gone_after world before)
is_free_step world before kind = false

abbrev pub IsStep : World → List Entry → Entry → List Entry → StepKind → ℕ → Type 0
IsStep world before e rest kind left =
    MatchBool (is_free_step world before kind) ⊤ (IfSome (known_left before e rest) (λ n. left + 1 ≡ n))

abbrev pub KeepsLeft : List Entry → Entry → List Entry → ℕ → Type 0
KeepsLeft before e rest left = IfSome (known_left before e rest) (λ n. left ≡ n)

-- ---- refusals

abbrev pub level_after : ℕ → Event → ℕ
level_after level (Step TakenOver left) = if level == 6 then 5 else 6
level_after level event = level

-- the level at the opening, turned by each takeover
abbrev pub level_at : World → List Entry → ℕ
level_at world before =
    fold (λ level e. level_after level e.event) (option_map_or (λ r. r.newest.level) (reading_at world world.first) 5) before

-- more roles are missing than tolerated
pub record IsTooManyMissing (world : World) (before : List Entry) (count tolerance : ℕ) : Type 0 where
  pub above : tolerance < count
  pub gone : count ≤ count_below 32 (is_gone_after world before)
  pub tolerated : tolerance ≡ tolerance_of (level_at world before)

-- what stands behind a refusal, wherever it is answered
abbrev pub IsRefusedRight : World → List Entry → Refusal → Type 0
IsRefusedRight world before (PastEnd visible) = visible ≡ visible_at world before
IsRefusedRight world before (TooManyMissing count tolerance) = IsTooManyMissing world before count tolerance
IsRefusedRight world before (NotResynced role) = IsTrue (is_gone_after world before role) × IsTrue (is_unsynced world before)
IsRefusedRight world before refusal = ⊤

-- ---- an entry, and a history

abbrev pub IsLegalEvent : World → List Entry → Entry → List Entry → Event → Type 0
IsLegalEvent world before e rest (Read at body) = IsRead world before at body
IsLegalEvent world before e rest (Wrote at body) = EndsWithin world before at body
IsLegalEvent world before e rest (Torn at body) = IsTorn world before at body rest
IsLegalEvent world before e rest (Lost role cause) = IsLost world before e rest role cause
IsLegalEvent world before e rest (Failed role) = IsFailedByCall before e role
IsLegalEvent world before e rest (Resized n) = IsResized world before e rest n
IsLegalEvent world before e rest (Visible limit count) = count ≡ visible_at world (before ++ e ∷ [])
IsLegalEvent world before e rest (Step kind left) = IsStep world before e rest kind left
IsLegalEvent world before e rest (Stepped done left ended) = KeepsLeft before e rest left × IfSome ended (IsRefusedRight world before)
IsLegalEvent world before e rest (Shown status) = KeepsLeft before e rest status.left
IsLegalEvent world before e rest (Refused refusal) = IsRefusedRight world before refusal
IsLegalEvent world before e rest event = ⊤

pub record IsLegalEntry (world : World) (before : List Entry) (e : Entry) (rest : List Entry) : Type 0 where
  pub numbered : IsNumbered before e
  pub timed : IsTimed world before e
  pub inner : IsInnerOrLast e.event rest
  pub opening : MatchBool (e.caller == 254) (IsOfOpening e.event) ⊤
  pub event : IsLegalEvent world before e rest e.event

-- where a call ends, of which this entry and the rest are left
abbrev pub call_end : Entry → List Entry → ℕ
call_end e [] = e.end
call_end e (next ∷ rest) = call_end next rest

-- Each of these entries is legal, where `before` stands before them: by the entries before it, by those of its call,
-- and by the tape up to its call's end.
abbrev pub AreLegal : World → List Entry → List Entry → Type 0
AreLegal world before [] = ⊤
AreLegal world before (e ∷ entries) =
    IsLegalEntry (until (call_end e (rest_of_call e entries)) world) before e (rest_of_call e entries)
    × AreLegal world (before ++ e ∷ []) entries

abbrev pub IsLegal : World → List Entry → Type 0
IsLegal world entries = AreLegal world [] entries
