-- Where all is done in an array at rest, no plan is open: what keeps that over each call.
use Rattle.std.proofs.Common.{◌≡◌, ◌≢◌, inl, inr, ℕ, ◌<◌, ◌==◌, max, Bool, true, false, not, Option, Some, None, Result, Ok, Err, List, [], ◌∷◌, ◌++◌, append_assoc, refl, sym, ◌∙◌, ap, subst, arith}
use Rattle.std.specs.Prelude.{if◌then◌else◌, is_some, nat_lt, MatchOption, unwrap_or}
use Rattle.std.specs.Option.{option_map_or}
use Rattle.array_grow.specs.raid_types_the_Fault.{Fault}
use Rattle.array_grow.specs.raid_types_the_Fault_TheVariants.{Refused as IsRefusedWith, NoMemory}
use Rattle.array_grow.specs.raid_types_the_Refusal.{Refusal}
use Rattle.array_grow.specs.raid_types_the_Refusal_TheVariants.{PastEnd}
use Rattle.array_grow.specs.raid_types_the_Who.{Who}
use Rattle.array_grow.specs.raid_types_the_Shape.{Shape}
use Rattle.array_grow.specs.raid_types_the_Role.{Role}
use Rattle.array_grow.specs.raid_types_the_Role_TheVariants.{Whole, Recovering, Missing}
use Rattle.array_grow.specs.raid_types_the_Phase.{Phase}
use Rattle.array_grow.specs.bank_Given.{Given}
use Rattle.array_takeover.specs.reshape_plan_Plans.{phases_steps}
use Rattle.array_takeover.specs.sb_specs_the_Members.{Members}
use Rattle.array_takeover.specs.sb_specs_Reading.{is_whole, shape_of, final_shape, role_count, role_state, holder, list_length}
use Rattle.array_grow.specs.stripe_row_Rows.{reading_of}
use Rattle.array_takeover.specs.history_the_Entry.{Entry}
use Rattle.array_takeover.specs.history_the_Event.{Event}
use Rattle.array_takeover.specs.history_the_Event_TheVariants.{Step, Rebuilt}
use Rattle.array_takeover.specs.history_the_StepKind.{StepKind}
use Rattle.array_takeover.specs.history_the_StepKind_TheVariants.{Finished, TakenOver, RebuildTaken, RebuildStripe, RebuildEnded, ResyncStripe, ResyncEnded}
use Rattle.array_takeover.specs.history_Plain.{entries_of}
use Rattle.array_takeover.specs.history_Reshaped.{is_done, open_plans}
use Rattle.array_grow.specs.array_members_Placed.{is_unassigned, AreWhole, IsPlaced}
use Rattle.array_grow.specs.array_members_Lacking.{AreTooMany}
use Rattle.array_grow.specs.array_members_Status.{left_of, rebuilt_of, stripes_of}
use Rattle.array_grow.specs.array_members_the_Work.{Work}
use Rattle.array_grow.proofs.array_members_Fit.{force-disks}
use Rattle.array_grow.proofs.array_members_LackingLaws.{never-too-many}
use Rattle.array_grow.specs.history_append_Losing.{losses_of}
use Rattle.array_grow.proofs.history_append_LosingLaws.{entries-both}
use Rattle.array_grow.specs.array_call_specs_Calls.{IsBehind, IsFailedFor, IsRefusedFor, IsFaultFor, IsCausedBy, IsUnmendable, IsRebuildStepped}
use Rattle.array_grow.specs.history_invariant_Recorded.{entry_of}
use Rattle.array_takeover.specs.reshape_request_Left.{phases_of}
use Rattle.array_grow.specs.array_specs_Parts.{RunningParts, still_left}
use Rattle.array_grow.specs.array_specs_Calls.{IsStepTaken}
use Rattle.array_takeover.specs.array_fixed_sync_Resyncing.{is_at_end, IsUnsynced}
use Rattle.array_takeover.specs.array_fixed_sync_Resyncing as resync
use Rattle.array_grow.specs.array_fixed_sync_Rebuilding.{recovers, first_recovering, first_unassigned, IsRebuildNext, rebuilt_role, rebuild_kind, rebuild_events}
use Rattle.array_takeover.specs.array_fixed_sync_Stepping.{IsUndone, IsStepEntered, next_kind}
use Rattle.array_grow.proofs.array_fixed_sync_Lowest.{lowest-found}
use Rattle.array_takeover.proofs.array_fixed_sync_NextLaws.{next-rebuild}
use Rattle.array_grow.specs.array_transition_Ended.{ended_length, IsEndedWith}
use Rattle.array_grow.proofs.Idle.{none-left}
use Rattle.array_grow.proofs.array_fixed_laws_PlansKept.{PlanNone, AddNoPlan, none-open, done-closes}
use Rattle.array_takeover.specs.TakenOver.{IsTakenWith}
use Rattle.array.specs.State.{AreClosedIdle}
use Rattle.array.proofs.Entered.{losses-none, ended-tail}

-- ---- calls that do no step

-- as much is under way, and each role was whole where each is
pub closed-kept : {B : Type 0} (old new : RunningParts B) → new.parts.work.resync ≡ old.parts.work.resync → new.ahead ≡ old.ahead → (AreWhole new.parts.members → AreWhole old.parts.members)
    → AddNoPlan old.parts.entries new.parts.entries → AreClosedIdle old → AreClosedIdle new
closed-kept old new resync ahead whole added was synced none all =
    subst (λ (l : List Entry). open_plans l ≡ []) (sym added.grown)
    (none-open old.parts.entries added.more added.none (was (sym resync ∙ synced) (sym (ap phases_of ahead) ∙ none) (whole all)))

-- ---- no role is whole of these

vacant-missing : (state : Role) → not (is_some (holder state)) ≡ true → not (is_whole state) ≡ true
vacant-missing (Whole slot) is = absurd (cc)
vacant-missing (Recovering slot) is = refl
vacant-missing Missing is = refl

-- a role that no slot holds isn't whole
pub vacant-never : {P : Type 0} (m : Members) (role : ℕ) → role < role_count m.newest → is_unassigned (reading_of m) role ≡ true → AreWhole m → P
vacant-never m role lt vacant whole = absurd (let both : true ≡ false = sym (vacant-missing (role_state (reading_of m) role) vacant) ∙ whole role lt in cc)

-- nor is one that may fail by command
pub failed-whole : {T : Type 0} (role : ℕ) (old new : Members) (result : Result T Fault) → shape_of new.newest ≡ shape_of old.newest → final_shape new.newest ≡ final_shape old.newest → IsFailedFor role old new result
    → AreWhole new → AreWhole old
failed-whole role old new (Ok x) shape final failed whole =
    vacant-never new role (subst (λ (n : ℕ). role < n) (λ i. max (sym shape i).disks (sym final i).disks) failed.0.0) failed.1 whole
failed-whole role old new (Err (IsRefusedWith refusal)) shape final failed whole = subst AreWhole failed.1 whole
failed-whole role old new (Err NoMemory) shape final failed whole = subst AreWhole failed whole

-- where too many are missing, some is
pub unsettled-whole : (given : Given) (visible : ℕ) (old new : Members) (fault : Fault) → IsPlaced given new → IsFaultFor visible 0 AreTooMany old new fault → AreWhole new → AreWhole old
unsettled-whole given visible old new (IsRefusedWith (PastEnd told)) placed why whole = absurd (let lt = why.1 in omega (arith, lt))
unsettled-whole given visible old new (IsRefusedWith refusal) placed why whole = never-too-many given new refusal placed whole why.1
unsettled-whole given visible old new NoMemory placed why whole = subst AreWhole why whole

never-unmendable : {P : Type 0} (given : Given) (m : Members) (refusal : Refusal) → IsPlaced given m → AreWhole m → IsUnmendable m refusal → P
never-unmendable given m refusal placed whole (inl many) = never-too-many given m refusal placed whole many
never-unmendable given m refusal placed whole (inr (role, told, unsynced, missing, has)) =
    let lt = has.0 in
    let disks = force-disks m.newest placed.fit (shape_of m.newest) (inl refl) in
    absurd (let both : true ≡ false = sym missing ∙ whole role (omega (arith, lt, disks)) in cc)

-- ---- a step that leaves none

closes-behind : (who : Who) (end : ℕ) (xs tail : List Event) (event : Event) (old new : List Entry) → new ≡ old ++ entries_of who end (xs ++ event ∷ tail) → is_done event ≡ true → PlanNone (entries_of who end tail) → open_plans new ≡ []
closes-behind who end xs tail event old new is done none =
    subst (λ (l : List Entry). open_plans l ≡ [])
    (sym (is ∙ ap (λ (l : List Entry). old ++ l) (entries-both who end xs (event ∷ tail)) ∙ sym (append_assoc old (entries_of who end xs) (entries_of who end (event ∷ tail)))))
    (done-closes (old ++ entries_of who end xs) (entry_of who end event) (entries_of who end tail) done none)

zero-done : (kind : StepKind) (left : ℕ) → left ≡ 0 → is_done (Step kind left) ≡ true
zero-done kind left is = ap (λ (n : ℕ). n == 0) is

-- none is left where each role is whole, no resync is pending and nothing ahead
pub idle-left : {B : Type 0} (array : RunningParts B) → array.parts.work.resync ≡ None → phases_of array.ahead ≡ [] → AreWhole array.parts.members → still_left array.parts.work array.parts.members array.ahead ≡ 0
idle-left array synced none whole =
    let m = array.parts.members in
    let own : left_of array.parts.work m ≡ 0 = none-left array.parts.work m (λ role lt. whole role (below (shape_of m.newest).disks (final_shape m.newest).disks role lt)) synced in
    let planned : phases_steps (shape_of m.newest) m.newest.size (phases_of array.ahead) ≡ 0 = ap (λ (l : List Phase). phases_steps (shape_of m.newest) m.newest.size l) none in
    omega (arith, own, planned)
  where
    below : (a b role : ℕ) → role < a → role < max a b
    below a b role lt = omega (arith, lt)

step-closes : (who : Who) (kind : StepKind) (left : ℕ) (old new : List Entry) → IsBehind who old new (Step kind left) → left ≡ 0 → open_plans new ≡ []
step-closes who kind left old new is none = closes-behind who is.end (losses_of is.roles is.spares) [] (Step kind left) old new is.is (zero-done kind left none) refl

rebuild-closes : (who : Who) (kind : StepKind) (roles spares end role left : ℕ) (old new : List Entry) → new ≡ old ++ entries_of who end (losses_of roles spares ++ rebuild_events kind role left) → left ≡ 0 → open_plans new ≡ []
rebuild-closes who RebuildEnded roles spares end role left old new is none = closes-behind who end (losses_of roles spares) (Rebuilt role ∷ []) (Step RebuildEnded left) old new is (zero-done RebuildEnded left none) refl
rebuild-closes who kind roles spares end role left old new is none = closes-behind who end (losses_of roles spares) [] (Step kind left) old new is (zero-done kind left none) refl

-- the role of a rebuild that is next is one of the shape's
rebuilt-below : (m : Members) → IsRebuildNext m → rebuilt_role m < (shape_of m.newest).disks
rebuilt-below m next = by (first_recovering m) refl (first_unassigned m) refl next
  where
    by : (a : Option ℕ) → first_recovering m ≡ a → (b : Option ℕ) → first_unassigned m ≡ b → IsRebuildNext m → rebuilt_role m < (shape_of m.newest).disks
    by (Some role) is b there some =
        subst (λ (o : Option ℕ). unwrap_or o (unwrap_or (first_unassigned m) 0) < (shape_of m.newest).disks) (sym is)
        (lowest-found (shape_of m.newest).disks (λ r. recovers (role_state (reading_of m) r)) role is).0
    by None is (Some role) there some =
        subst (λ (o : Option ℕ). unwrap_or o (unwrap_or (first_unassigned m) 0) < (shape_of m.newest).disks) (sym is)
        (subst (λ (o : Option ℕ). unwrap_or o 0 < (shape_of m.newest).disks) (sym there) (lowest-found (shape_of m.newest).disks (is_unassigned (reading_of m)) role there).0)
    by None is None there (inl some) = absurd (let none : false ≡ true = sym (ap (λ (o : Option ℕ). is_some o) is) ∙ some in cc)
    by None is None there (inr some) = absurd (let none : false ≡ true = sym (ap (λ (o : Option ℕ). is_some o) there) ∙ some.0 in cc)

-- the role that a step gives to a spare has no slot
pub given-vacant : (work : Work) (m : Members) → 0 < left_of work m → next_kind work m ≡ RebuildTaken → is_unassigned (reading_of m) (rebuilt_role m) ≡ true
given-vacant work m some kind = by work.resync refl kind
  where
    mends : (b : Bool) → (if b then ResyncEnded else ResyncStripe) ≡ RebuildTaken → ⊥
    mends true e = absurd (cc)
    mends false e = absurd (cc)

    builds : (b : Bool) → (if b then RebuildStripe else RebuildEnded) ≡ RebuildTaken → ⊥
    builds true e = absurd (cc)
    builds false e = absurd (cc)

    at : (a : Option ℕ) → first_recovering m ≡ a → (b : Option ℕ) → first_unassigned m ≡ b → IsRebuildNext m → option_map_or (λ role. if nat_lt (rebuilt_of work role) (stripes_of m) then RebuildStripe else RebuildEnded) a RebuildTaken ≡ RebuildTaken
        → is_unassigned (reading_of m) (rebuilt_role m) ≡ true
    at (Some role) is b there next e = absurd (builds (nat_lt (rebuilt_of work role) (stripes_of m)) e)
    at None is (Some role) there next e =
        subst (λ (o : Option ℕ). is_unassigned (reading_of m) (unwrap_or o (unwrap_or (first_unassigned m) 0)) ≡ true) (sym is)
        (subst (λ (o : Option ℕ). is_unassigned (reading_of m) (unwrap_or o 0) ≡ true) (sym there) (lowest-found (shape_of m.newest).disks (is_unassigned (reading_of m)) role there).1)
    at None is None there (inl found) e = absurd (let none : false ≡ true = sym (ap (λ (o : Option ℕ). is_some o) is) ∙ found in cc)
    at None is None there (inr found) e = absurd (let none : false ≡ true = sym (ap (λ (o : Option ℕ). is_some o) there) ∙ found.0 in cc)

    by : (o : Option ℕ) → work.resync ≡ o → option_map_or (λ mended. resync.next_kind work.resync m) o (rebuild_kind work m) ≡ RebuildTaken → is_unassigned (reading_of m) (rebuilt_role m) ≡ true
    by (Some mended) waits e = absurd (mends (is_at_end work.resync m) e)
    by None synced e = at (first_recovering m) refl (first_unassigned m) refl (next-rebuild work m synced some) e

pub why-of : (visible : ℕ) (why : Members → Refusal → Type 0) (old new : Members) (refusal : Refusal) → IsRefusedFor visible 0 why old new refusal → why new refusal
why-of visible why old new (PastEnd told) is = absurd (let lt = is.1 in omega (arith, lt))
why-of visible why old new refusal is = is.1

module _ {B : Type 0} (given : Given) (who : Who) (old new : RunningParts B) (placed : IsPlaced given new.parts.members) (shape : shape_of new.parts.members.newest ≡ shape_of old.parts.members.newest)
    (some : 0 < left_of old.parts.work old.parts.members) where
  undone-never : {P : Type 0} (refusal : Refusal) → IsUndone old.parts.work old.parts.members new.parts.members refusal → AreWhole new.parts.members → P
  undone-never {P = P} refusal why whole = by old.parts.work.resync why
    where
      ended : (b : Bool) → IsUnsynced b new.parts.members refusal → P
      ended true many = never-too-many given new.parts.members refusal placed whole many
      ended false lacked = never-unmendable given new.parts.members refusal placed whole lacked

      by : (o : Option ℕ) → MatchOption o (AreTooMany new.parts.members refusal) (λ mended. IsUnsynced (is_at_end old.parts.work.resync old.parts.members) new.parts.members refusal) → P
      by None many = never-too-many given new.parts.members refusal placed whole many
      by (Some mended) lacked = ended (is_at_end old.parts.work.resync old.parts.members) lacked

  -- a step of the array at rest, done or refused
  pub closed-stepped : {T : Type 0} (result : Result T Fault) → result ≢ Err NoMemory
      → IsStepEntered who old.parts.entries new.parts.entries old.parts.work old.parts.members new.parts.members (still_left new.parts.work new.parts.members new.ahead) result
      → IsCausedBy (list_length old.parts.members.newest) 0 (IsUndone old.parts.work old.parts.members) old.parts.members new.parts.members result → AreClosedIdle new
  closed-stepped (Err NoMemory) memory entered caused synced none whole = absurd (memory refl)
  closed-stepped (Err (IsRefusedWith refusal)) memory entered caused synced none whole =
      undone-never refusal (why-of (list_length old.parts.members.newest) (IsUndone old.parts.work old.parts.members) old.parts.members new.parts.members refusal caused) whole
  closed-stepped {T = T} (Ok x) memory entered caused synced none whole = by old.parts.work.resync refl entered
    where
      left-none : still_left new.parts.work new.parts.members new.ahead ≡ 0
      left-none = idle-left new synced none whole

      role : rebuilt_role old.parts.members < (shape_of old.parts.members.newest).disks → rebuilt_role old.parts.members < role_count new.parts.members.newest
      role lt = let here : rebuilt_role old.parts.members < (shape_of new.parts.members.newest).disks = subst (λ (s : Shape). rebuilt_role old.parts.members < s.disks) (sym shape) lt in
          let disks = force-disks new.parts.members.newest placed.fit (shape_of new.parts.members.newest) (inl refl) in
          omega (arith, here, disks)

      by : (o : Option ℕ) → old.parts.work.resync ≡ o
          → MatchOption o (IsRebuildStepped {T = T} who old.parts.entries new.parts.entries new.parts.members (rebuilt_role old.parts.members)
          (rebuild_events (rebuild_kind old.parts.work old.parts.members) (rebuilt_role old.parts.members) (still_left new.parts.work new.parts.members new.ahead)) (Ok x))
          (λ mended. IsStepTaken {T = T} who old.parts.entries new.parts.entries (resync.next_kind old.parts.work.resync old.parts.members) (still_left new.parts.work new.parts.members new.ahead) (Ok x))
          → open_plans new.parts.entries ≡ []
      by None is (inl (roles, spares, end, grown)) =
          rebuild-closes who (rebuild_kind old.parts.work old.parts.members) roles spares end (rebuilt_role old.parts.members) (still_left new.parts.work new.parts.members new.ahead)
          old.parts.entries new.parts.entries grown left-none
      by None is (inr (lost, vacant)) =
          vacant-never new.parts.members (rebuilt_role old.parts.members) (role (rebuilt-below old.parts.members (next-rebuild old.parts.work old.parts.members is some))) vacant whole
      by (Some mended) is done =
          step-closes who (resync.next_kind old.parts.work.resync old.parts.members) (still_left new.parts.work new.parts.members new.ahead) old.parts.entries new.parts.entries done left-none

-- ---- a reshape that ended

pub ended-closes : {B : Type 0} {who : Who} {before size : ℕ} {was later : Members} {old : List Entry} (new : RunningParts B) → IsEndedWith who before size was later old new.parts.entries (still_left new.parts.work new.parts.members new.ahead)
    → still_left new.parts.work new.parts.members new.ahead ≡ 0 → open_plans new.parts.entries ≡ []
ended-closes {who = who} {before = before} {size = size} {old = old} new is none =
    closes-behind who is.end (losses_of is.roles is.spares) (ended_length before size ++ losses_of is.late is.late_spares) (Step Finished (still_left new.parts.work new.parts.members new.ahead)) old new.parts.entries is.is
    (zero-done Finished (still_left new.parts.work new.parts.members new.ahead) none) (ended-tail who is.end before size is.late is.late_spares)

pub closed-ended : {B : Type 0} {who : Who} {before size : ℕ} {was later : Members} {old : List Entry} (new : RunningParts B) → IsEndedWith who before size was later old new.parts.entries (still_left new.parts.work new.parts.members new.ahead) → AreClosedIdle new
closed-ended new is synced none whole = ended-closes new is (idle-left new synced none whole)

-- ---- a takeover of the level

pub taken-closes : {B : Type 0} {who : Who} {plan later : Members} {old : List Entry} (new : RunningParts B) → IsTakenWith who plan later old new.parts.entries (still_left new.parts.work new.parts.members new.ahead)
    → still_left new.parts.work new.parts.members new.ahead ≡ 0 → open_plans new.parts.entries ≡ []
taken-closes {who = who} {old = old} new is none =
    closes-behind who is.end [] (losses_of is.roles is.spares) (Step TakenOver (still_left new.parts.work new.parts.members new.ahead)) old new.parts.entries is.is
    (zero-done TakenOver (still_left new.parts.work new.parts.members new.ahead) none) (losses-none who is.end is.roles is.spares)

pub closed-taken : {B : Type 0} {who : Who} {plan later : Members} {old : List Entry} (new : RunningParts B) → IsTakenWith who plan later old new.parts.entries (still_left new.parts.work new.parts.members new.ahead) → AreClosedIdle new
closed-taken new is synced none whole = taken-closes new is (idle-left new synced none whole)
