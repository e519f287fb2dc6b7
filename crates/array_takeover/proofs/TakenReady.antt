-- What a takeover leaves, from what `take_over` of `reshape_sb_takeover` says of it: the array is ready.
use Rattle.std.proofs.Common.{◌≡◌, ◌≢◌, ◌⊎◌, inl, inr, ℕ, ◌+◌, ◌-◌, ◌*◌, ◌/◌, ◌<◌, ◌≤◌, ◌==◌, ◌&&◌, nat_lt, not, drop, Bool, true, false, Option, Some, None, List, [], ◌∷◌, ◌++◌, length, refl, sym, ◌∙◌, ap, subst, arith, append-nil}
use Rattle.std.specs.Prelude.{if◌then◌else◌}
use Rattle.std.specs.List.{list_any, All}
use Rattle.std.proofs.lemmas.List.{get_or-set_same}
use Rattle.std.proofs.lemmas.List.Elements.{All-nil, All-cons}
use Rattle.array_takeover_laws.specs.raid_types_Shapes.{has_slot}
use Rattle.array_takeover_laws.specs.raid_types_the_Who.{Who}
use Rattle.array_takeover_laws.specs.raid_types_the_Shape.{Shape}
use Rattle.array_takeover_laws.specs.raid_types_the_Role_TheVariants.{Recovering}
use Rattle.array_takeover_laws.specs.raid_types_the_Phase.{Phase}
use Rattle.array_takeover_laws.specs.raid_types_the_Phase_TheVariants.{UpTo6, DownTo5}
use Rattle.array_fixed_sync.specs.bank_the_Operation.{Operation}
use Rattle.array_fixed_sync.specs.bank_Given.{Given, NeverFalls}
use Rattle.reshape_sb_takeover.proofs.raid_layout_Limits.{limited}
use Rattle.array_fixed_sync.specs.reshape_plan_Plans.{AreSound, last_shape, phases_steps}
use Rattle.array_fixed_sync.specs.sb_specs_the_Members.{Members}
use Rattle.array_fixed_sync.specs.sb_specs_Reading.{Scope, is_reshaping, shape_of, final_shape, list_length, role_count, role_state}
use Rattle.array_fixed_sync.specs.stripe_row_Rows.{reading_of, present, is_missing}
use Rattle.array_fixed_sync.specs.history_the_Entry.{Entry}
use Rattle.array_fixed_sync.specs.history_the_Event.{Event}
use Rattle.array_fixed_sync.specs.history_the_Event_TheVariants.{Lost, Step}
use Rattle.array_fixed_sync.specs.history_the_LostCause_TheVariants.{Fault}
use Rattle.array_fixed_sync.specs.history_the_StepKind_TheVariants.{TakenOver}
use Rattle.array_fixed_sync.specs.history_Fits.{is_lost_event}
use Rattle.array_fixed_sync.specs.history_Flat.{length_of}
use Rattle.array_fixed_sync.specs.history_Legal.{disturbs}
use Rattle.array_fixed_sync.specs.history_Plain.{entries_of}
use Rattle.array_fixed_sync.specs.history_Reshaped.{open_plans}
use Rattle.array_fixed_sync.specs.history_Sound.{OpensFit}
use Rattle.array_fixed_sync.specs.history_World.{World}
use Rattle.array_fixed_sync.specs.crash_views_Views.{Ledger}
use Rattle.array_fixed_sync.specs.crash_safety_laws_Changing.{IsSafeChange}
use Rattle.array_fixed_sync.specs.crash_safety_laws_Marking.{AreOthersPresent}
use Rattle.array_fixed_sync.specs.crash_safety_laws_Safety.{HasRoomLeft, IsRisen}
use Rattle.array_fixed_sync.specs.crash_safety_laws_Steady.{IsSafeOver, AreGoneTold}
use Rattle.array_fixed_sync.specs.crash_reshape_laws_Ends.{IsToldWith}
use Rattle.array_fixed_sync.specs.crash_reshape_laws_Takeovers.{IsTakenUp, IsTakenDown}
use Rattle.reshape_sb_takeover.specs.TakingOver.{IsTakenTo, CanTakeUp, CanTakeOver, taking_over, taken_plan}
use Rattle.array_takeover_laws.proofs.TakenMembers.{taken-then, taken-long}
use Rattle.array_takeover_laws.proofs.TakenStill.{IsTakenBy, taken-keeps}
use Rattle.array_fixed_sync.specs.array_members_the_Work.{Work}
use Rattle.array_fixed_sync.specs.array_members_Lacking.{AreLostSince, HaveFailedSince}
use Rattle.array_fixed_sync.specs.array_members_Moving.{Grows, IsMoved}
use Rattle.array_fixed_sync.specs.array_members_Numbers.{bears}
use Rattle.array_fixed_sync.specs.array_members_Placed.{is_unassigned}
use Rattle.array_fixed_sync.specs.array_members_Rebuilding.{AreSparesFree, Held}
use Rattle.array_fixed_sync.specs.array_members_Status.{left_of, resync_left, rebuilt_of, stripes_of}
use Rattle.array_fixed_sync.proofs.array_members_HeldRows.{missing-moved}
use Rattle.array_fixed_sync.proofs.array_members_MarkLaws.{few-planned}
use Rattle.array_takeover_laws.specs.history_append_Losing.{losses_of}
use Rattle.array_takeover_laws.proofs.history_append_CallLaws.{all-losses}
use Rattle.array_takeover_laws.proofs.history_append_PlainLaws.{one}
use Rattle.array_fixed_sync.specs.array_call_specs_Calls.{AreLossesOf, AreStepsFewer, IsLossBy, WasSpare, with_rebuilt}
use Rattle.array_fixed_sync.proofs.array_call_specs_NowLaws.{length-more}
use Rattle.array_fixed_sync.specs.reshape_request_the_PhasesLeft.{PhasesLeft}
use Rattle.array_fixed_sync.specs.reshape_request_Left.{phases_of}
use Rattle.array_fixed_sync.specs.history_invariant_Recorded.{IsCallGoing}
use Rattle.array_fixed_sync.specs.history_invariant_Safe.{world_in}
use Rattle.array_fixed_sync.specs.history_invariant_laws_Reliable.{IsReliable}
use Rattle.array_fixed_sync.proofs.history_invariant_laws_Plans.{ArePlannedTo}
use Rattle.array_fixed_sync.specs.array_specs_Parts.{still_left}
use Rattle.array_fixed_sync.specs.array_specs_Plans.{GoTo, turns_shape}
use Rattle.array_fixed_sync.proofs.array_specs_Called.{not_254}
use Rattle.array_fixed_sync.proofs.array_specs_Lengths.{IsLengthKept, behind-keeps}
use Rattle.array_fixed_sync.proofs.array_specs_VisibleLaws.{limit-kept}
use Rattle.array_fixed_sync.specs.array_fixed_invariant_Still.{AreNoneMissing}
use Rattle.array_fixed_sync.specs.array_fixed_laws_Ready.{IsReady}
use Rattle.array_fixed_sync.proofs.array_fixed_laws_Closing.{LeadTo, plans-of, ahead-none}
use Rattle.array_fixed_sync.proofs.array_fixed_laws_Plain.{IsLeftPlain, turned-plain, turns-behind}
use Rattle.array_takeover.specs.TakenOver.{IsTakeoverNext, IsTakenSlot, work_then}
use Rattle.array_takeover.proofs.Chosen.{IsSoundNext, sound-next, can-take}
use Rattle.array_takeover.proofs.Behind.{live-old, count-new, vacant-told, lost-since, lost-few, recovers-then, missing-then}
use Rattle.array_takeover.proofs.LeftThen.{whole-does, quiet-held, none-told, held-recovers, left-five, left-six}

-- What `take_over` of `reshape_sb_takeover` leaves.
pub record IsUpdated (tells : Type 0) (given : Given) (tape tape' : List Operation) (to : Shape) (slot : ℕ) (old new : Members) (spares : ℕ) (before after : ℕ → ℕ) : Type 0 where
  pub newest : IsTakenTo old.newest to new.newest
  pub plan : IsTakenUp old (taken_plan old to slot) ⊎ IsTakenDown old (taken_plan old to slot)
  pub moved : IsMoved given (taken_plan old to slot) new
  pub failed : HaveFailedSince (taken_plan old to slot) new spares before after
  pub free : AreSparesFree given new
  pub others : tells → AreOthersPresent (present given tape) (present given tape')
  pub grows : Grows tells tape tape'
  pub rise : IsRisen tells old new tape tape'
  pub safe : tells → (world : World) → (told more : Ledger) → HasRoomLeft old tape tape' → IsToldWith told more (taken_plan old to slot) → AreGoneTold told old → AreGoneTold more new
      → ((slot number : ℕ) → told.carried slot number ≡ true → more.carried slot number ≡ true) → IsSafeOver world given told old tape → IsSafeChange (OpensFit world) world.scope given told more new tape tape'
  pub counts : NeverFalls before after

-- no resync is pending where nothing is left to do
none-pending : (m : Members) (resync : Option ℕ) (a b : ℕ) → resync_left resync m + a + b ≡ 0 → resync ≡ None
none-pending m None a b none = refl
none-pending m (Some mended) a b none = absurd (omega (arith, none))

-- ---- what is under way

resync-then : (to : Shape) (work : Work) → (work_then to work).resync ≡ work.resync
resync-then to work = of (to.level == 6)
  where
    of : (b : Bool) → (if b then with_rebuilt (to.disks - 1) 0 work else work).resync ≡ work.resync
    of true = refl
    of false = refl

-- no resync is pending then, either
pub synced-then : (to : Shape) (m : Members) (work : Work) → left_of work m ≡ 0 → (work_then to work).resync ≡ None
synced-then to m work idle = resync-then to work ∙ none-pending m work.resync _ _ idle

carried-then : (to : Shape) (work : Work) → bears (work_then to work) ≡ bears work
carried-then to work = of (to.level == 6)
  where
    of : (b : Bool) → bears (if b then with_rebuilt (to.disks - 1) 0 work else work) ≡ bears work
    of true = refl
    of false = refl

unbuilt-then : (to : Shape) (work : Work) → to.level ≡ 6 → 1 ≤ to.disks → to.disks ≤ length work.rebuilt → rebuilt_of (work_then to work) (to.disks - 1) ≡ 0
unbuilt-then to work six least long =
    ap (λ (n : ℕ). rebuilt_of (if n == 6 then with_rebuilt (to.disks - 1) 0 work else work) (to.disks - 1)) six
    ∙ get_or-set_same work.rebuilt (to.disks - 1) 0 0 (omega (arith, least, long))

-- ---- the steps of the phases

steps-up : (size chunk more : ℕ) → 0 + (1 + (size / chunk + 1) + more) ≡ size / chunk + 1 + more + 1
steps-up size chunk more = of (size / chunk) more
  where
    of : (n more : ℕ) → 0 + (1 + (n + 1) + more) ≡ n + 1 + more + 1
    of n more = omega arith

steps-down : (more : ℕ) → 0 + (1 + more) ≡ 0 + more + 1
steps-down more = omega arith

module _ {tells : Type 0} {given : Given} {tape tape' : List Operation} {scope : Scope} {first : ℕ} {entries : List Entry} {old new : Members} {work : Work} {limit : Option ℕ} {before after : ℕ → ℕ} {steps room rows buffer far_rows far_buffer : ℕ}
    (ahead behind : PhasesLeft) (to : Shape) (slot : ℕ) (who : Who) (end roles spares : ℕ)
    (was : IsReady tells given tape scope first entries old work ahead limit before steps room rows buffer far_rows far_buffer)
    (goes : IsCallGoing entries who) (caller : who.caller ≢ 254) (idle : left_of work old ≡ 0) (next : IsTakeoverNext (phases_of ahead) to (phases_of behind))
    (lead : LeadTo tells (world_in given tape scope first) entries old ahead) (whole : AreNoneMissing old) (chosen : IsTakenSlot old to slot) (did : IsUpdated tells given tape tape' to slot old new spares before after)
    (at_end : tells → end ≡ length tape') (long : to.level ≡ 6 → to.disks ≤ length work.rebuilt)
    (lost : (role : ℕ) → has_slot roles role ≡ (nat_lt role (length new.roles) && is_unassigned (reading_of new) role)) where
  abbrev added : List Entry
  added = entries_of who end (Step TakenOver (still_left (work_then to work) new behind) ∷ losses_of roles spares)

  sound : IsSoundNext (shape_of old.newest) to old.newest.size (phases_of behind)
  sound = sound-next (shape_of old.newest) to old.newest.size (phases_of ahead) (phases_of behind) was.planned next

  can : CanTakeOver old to slot
  can = can-take old to slot sound.way chosen

  still : is_reshaping old.newest ≡ false
  still = was.kept.members_are.still

  synced : work.resync ≡ None
  synced = none-pending old work.resync _ _ idle

  synced' : (work_then to work).resync ≡ None
  synced' = resync-then to work ∙ synced

  since : AreLostSince (taken_plan old to slot) new roles spares before after
  since = lost-since given old to slot was.kept.members_are.placed was.kept.members_are.unlost was.kept.members_are.free still sound.valid can whole new roles spares before after did.moved did.failed did.newest.shape did.newest.still lost

  recovers : (role s : ℕ) → role_state (reading_of new) role ≡ Recovering s → CanTakeUp old to slot × (role ≡ (shape_of old.newest).disks)
  recovers =
      recovers-then given old to slot was.kept.members_are.placed was.kept.members_are.unlost was.kept.members_are.free still sound.valid can whole new roles spares before after did.moved did.failed did.newest.shape did.newest.still lost

  six : CanTakeUp old to slot → to.level ≡ 6
  six up = ap (λ (s : Shape). s.level) up.shape

  more : CanTakeUp old to slot → to.disks ≡ (shape_of old.newest).disks + 1
  more up = ap (λ (s : Shape). s.disks) up.shape

  unbuilt : (role s : ℕ) → role_state (reading_of new) role ≡ Recovering s → rebuilt_of (work_then to work) role ≡ 0
  unbuilt role s is =
      let last = recovers role s is in
      let many = more last.0 in
      let role_is = last.1 in
      let here : to.disks - 1 ≡ role = omega (arith, many, role_is) in
      subst (λ (n : ℕ). rebuilt_of (work_then to work) n ≡ 0) here (unbuilt-then to work (six last.0) (omega (arith, many)) (long (six last.0)))

  -- ---- the steps that are left

  told : (role : ℕ) → role < to.disks → is_unassigned (reading_of new) role ≡ true → has_slot roles role ≡ true
  told role lt none =
      let n = count-new given old to slot was.kept.members_are.placed was.kept.members_are.unlost was.kept.members_are.free still sound.valid can whole new roles spares before after did.moved did.failed did.newest.shape did.newest.still lost in
      vacant-told given old to slot was.kept.members_are.placed was.kept.members_are.unlost was.kept.members_are.free still sound.valid can whole new roles spares before after did.moved did.failed did.newest.shape did.newest.still lost
      role (omega (arith, lt, n)) none

  -- each role has a slot
  abbrev AreAllHeld : Type 0
  AreAllHeld = (role : ℕ) → role < to.disks → is_unassigned (reading_of new) role ≡ false

  full : (p : Event → Bool) → ((r : ℕ) → p (Lost r Fault) ≡ true) → list_any p (losses_of roles spares) ≡ false → AreAllHeld
  full p tells quiet role lt = quiet-held p new roles spares role tells quiet (let most = (limited to sound.valid).most in omega (arith, lt, most)) (told role lt)

  not-both : CanTakeUp old to slot → to.level ≡ 5 → ⊥
  not-both up five = (let six_is = six up in omega (arith, five, six_is))

  -- Q is recovered by a slot
  last-recovers : AreAllHeld → CanTakeUp old to slot → (s : ℕ) × (role_state (reading_of new) (shape_of old.newest).disks ≡ Recovering s)
  last-recovers all up =
      held-recovers (role_state (reading_of new) (shape_of old.newest).disks) (all (shape_of old.newest).disks (let many = more up in omega (arith, many))) (missing-moved did.moved (shape_of old.newest).disks (missing did.plan))
    where
      missing : IsTakenUp old (taken_plan old to slot) ⊎ IsTakenDown old (taken_plan old to slot) → is_missing (reading_of (taken_plan old to slot)) (shape_of old.newest).disks ≡ true
      missing (inl way) = way.last
      missing (inr way) = absurd (not-both up (ap (λ (s : Shape). s.level) (sym did.newest.shape ∙ did.moved.shape) ∙ way.five))

  stripes-then : stripes_of new ≡ old.newest.size / to.chunk
  stripes-then i = did.newest.size i / (did.newest.shape i).chunk

  left-up : AreAllHeld → CanTakeUp old to slot → left_of (work_then to work) new ≡ old.newest.size / to.chunk + 1
  left-up all up =
      let q = last-recovers all up in
      left-six new to (work_then to work) did.newest.shape synced' all (shape_of old.newest).disks q.0 (more up) q.1 (λ role s is. (recovers role s is).1) (unbuilt (shape_of old.newest).disks q.0 q.1)
      ∙ ap (λ (n : ℕ). n + 1) stripes-then

  left-down : AreAllHeld → to.level ≡ 5 → left_of (work_then to work) new ≡ 0
  left-down all five = left-five new to (work_then to work) did.newest.shape synced' all (λ role s is. not-both (recovers role s is).0 five)

  rest-same : phases_steps (shape_of new.newest) new.newest.size (phases_of behind) ≡ phases_steps to old.newest.size (phases_of behind)
  rest-same i = phases_steps (did.newest.shape i) (did.newest.size i) (phases_of behind)

  up-of : phases_of ahead ≡ UpTo6 to ∷ phases_of behind → CanTakeUp old to slot
  up-of is = by can
    where
      by : CanTakeOver old to slot → CanTakeUp old to slot
      by (inl up) = up
      by (inr down) = absurd (
          let follows = (subst (λ (l : List Phase). AreSound (shape_of old.newest) old.newest.size l) is was.planned).1 in
          let level : to.level ≡ 6 = ap (λ (s : Shape). s.level) follows.1 in
          let five = down.five in
          omega (arith, level, five))

  five-of : phases_of ahead ≡ DownTo5 to ∷ phases_of behind → to.level ≡ 5
  five-of is = (subst (λ (l : List Phase). AreSound (shape_of old.newest) old.newest.size l) is was.planned).1.0

  -- one step fewer is left, where each role has a slot
  counted : AreAllHeld → still_left work old ahead ≡ still_left (work_then to work) new behind + 1
  counted all = by next
    where
      by : IsTakeoverNext (phases_of ahead) to (phases_of behind) → still_left work old ahead ≡ still_left (work_then to work) new behind + 1
      by (inl is) =
          (λ i. idle i + phases_steps (shape_of old.newest) old.newest.size (is i))
          ∙ steps-up old.newest.size to.chunk (phases_steps to old.newest.size (phases_of behind))
          ∙ sym (λ i. left-up all (up-of is) i + rest-same i + 1)
      by (inr is) =
          (λ i. idle i + phases_steps (shape_of old.newest) old.newest.size (is i))
          ∙ steps-down (phases_steps to old.newest.size (phases_of behind))
          ∙ sym (λ i. left-down all (five-of is) i + rest-same i + 1)

  pub taken-stepped : (still_left work old ahead ≡ still_left (work_then to work) new behind + 1) ⊎ (list_any disturbs (losses_of roles spares) ≡ true)
  taken-stepped = of (list_any disturbs (losses_of roles spares)) refl
    where
      of : (b : Bool) → list_any disturbs (losses_of roles spares) ≡ b → (still_left work old ahead ≡ still_left (work_then to work) new behind + 1) ⊎ (list_any disturbs (losses_of roles spares) ≡ true)
      of true is = inr is
      of false is = inl (counted (full disturbs (λ r. refl) is))

  -- one fewer, where the loss of no role is told
  pub taken-fewer : {mid later : List Entry} → mid ≡ entries → later ≡ mid ++ entries_of who end (Step TakenOver (still_left (work_then to work) new behind) ∷ losses_of roles spares)
      → AreStepsFewer entries later (still_left work old ahead) (still_left (work_then to work) new behind)
  taken-fewer {later = later} mid_is is = record {
    one = λ none. sym (fewer disturbs (λ r. refl) none);
    some = λ none. let less = fewer is_lost_event (λ r. refl) none in omega (arith, less);
  }
    where
      there : later ≡ entries ++ added
      there = is ∙ ap (λ (l : List Entry). l ++ added) mid_is

      fewer : (p : Event → Bool) → ((r : ℕ) → p (Lost r Fault) ≡ true) → not (list_any (λ e. p e.event) (drop (length entries) later)) ≡ true
          → still_left work old ahead ≡ still_left (work_then to work) new behind + 1
      fewer p tells none = counted (full p tells (none-told p entries later who end (Step TakenOver (still_left (work_then to work) new behind)) (losses_of roles spares) there none))

  planned : tells → IsReliable (world_in given tape scope first) entries → still_left (work_then to work) new behind ≡ 0
      → ArePlannedTo (world_in given tape scope first) (shape_of new.newest) (open_plans entries)
  planned t right none = plans-of (world_in given tape scope first) (shape_of new.newest) (open_plans entries) (subst (λ (s : Shape). GoTo (world_in given tape scope first) s entries) (there next) (lead t right))
    where
      last : last_shape to (phases_of behind) ≡ shape_of new.newest
      last = ap (λ (l : List Phase). last_shape to l) (ahead-none (shape_of new.newest) new.newest.size (left_of (work_then to work) new) (phases_of behind) none) ∙ sym did.newest.shape

      there : IsTakeoverNext (phases_of ahead) to (phases_of behind) → last_shape (if is_reshaping old.newest then final_shape old.newest else shape_of old.newest) (phases_of ahead) ≡ shape_of new.newest
      there (inl is) = ap (λ (l : List Phase). last_shape (if is_reshaping old.newest then final_shape old.newest else shape_of old.newest) l) is ∙ last
      there (inr is) = ap (λ (l : List Phase). last_shape (if is_reshaping old.newest then final_shape old.newest else shape_of old.newest) l) is ∙ last

  -- ---- the array

  by-call : IsTakenBy tells given tape tape' old (taken_plan old to slot) new roles
  by-call = record {
    way = did.plan;
    moved = did.moved;
    free = did.free;
    spares = did.moved.spares (few-planned old (taking_over old to slot) old.lost);
    clean = did.newest.clean;
    live = live-old given old to slot was.kept.members_are.placed was.kept.members_are.unlost was.kept.members_are.free still sound.valid can whole;
    enough = whole-does old still whole;
    within = lost-few given old to slot was.kept.members_are.placed was.kept.members_are.unlost was.kept.members_are.free still sound.valid can whole new roles spares before after did.moved did.failed did.newest.shape did.newest.still lost;
    since = λ role lt miss.
        inr (missing-then given old to slot was.kept.members_are.placed was.kept.members_are.unlost was.kept.members_are.free still sound.valid can whole new roles spares before after did.moved did.failed did.newest.shape did.newest.still lost role lt miss);
    rise = did.rise;
    others = did.others;
    grows = did.grows;
    safe = did.safe;
  }

  added-keeps : IsLengthKept (entries_of who end (Step TakenOver (still_left (work_then to work) new behind) ∷ losses_of roles spares))
  added-keeps =
      let k = subst (λ (l : List Event). IsLengthKept (entries_of who end l)) (append-nil (losses_of roles spares)) (behind-keeps who end roles spares [] (record { long = λ n. refl; free = λ limit. refl })) in
      record { long = k.long; free = k.free }

  pub taken-longer : list_length new.newest ≡ list_length old.newest
  taken-longer = taken-long old new (taken-then given old (taken_plan old to slot) new did.plan did.moved did.newest.clean) was.kept.members_are.placed.fit.valid.old did.moved.placed.fit.valid.old

  pub taken-ready : {given' : Given} {scope' : Scope} {first' : ℕ} {mid entries' : List Entry} {steps' room' : ℕ} → given' ≡ given → scope' ≡ scope → first' ≡ first → mid ≡ entries
      → entries' ≡ mid ++ entries_of who end (Step TakenOver (still_left (work_then to work) new behind) ∷ losses_of roles spares) → 50 * steps' < room'
      → IsReady tells given' tape' scope' first' entries' new (work_then to work) behind limit after steps' room' rows buffer far_rows far_buffer
  taken-ready {given' = given'} {scope' = scope'} {first' = first'} {mid = mid} {entries' = entries'} {steps' = steps'} {room' = room'} same_given scope_is first_is mid_is is room_left =
      subst (λ (l : List Entry). IsReady tells given' tape' scope' first' l new (work_then to work) behind limit after steps' room' rows buffer far_rows far_buffer) (sym (is ∙ ap (λ (l : List Entry). l ++ added) mid_is))
      (subst (λ (n : ℕ). IsReady tells given' tape' scope' n (entries ++ added) new (work_then to work) behind limit after steps' room' rows buffer far_rows far_buffer) (sym first_is)
      (subst (λ (s : Scope). IsReady tells given' tape' s first (entries ++ added) new (work_then to work) behind limit after steps' room' rows buffer far_rows far_buffer) (sym scope_is)
      (subst (λ (g : Given). IsReady tells g tape' scope first (entries ++ added) new (work_then to work) behind limit after steps' room' rows buffer far_rows far_buffer) (sym same_given)
      (record {
        kept = taken-keeps tells given tape tape' scope first entries old (taken_plan old to slot) new work (work_then to work) (still_left work old ahead) (still_left (work_then to work) new behind) who end roles spares was.kept synced synced'
            (carried-then to work) goes (not_254 who.caller caller) at_end by-call taken-stepped planned unbuilt;
        sized = subst (λ (n : ℕ). length_of n (entries ++ added) ≡ n) (sym taken-longer) (length-more (list_length old.newest) entries added was.sized (added-keeps.long (list_length old.newest)));
        limited = limit-kept limit entries added was.limited (added-keeps.free limit);
        planned = subst (λ (n : ℕ). AreSound (shape_of new.newest) n (phases_of behind)) (sym did.newest.size)
            (subst (λ (s : Shape). AreSound s old.newest.size (phases_of behind)) (sym did.newest.shape) sound.rest);
        failed = λ slot lt out. let had = was.failed slot lt out in let more = did.counts slot in omega (arith, had, more);
        room_left = room_left;
        rows_fit = was.rows_fit;
        buffer_fits = was.buffer_fits;
        far_rows_fit = was.far_rows_fit;
        far_buffer_fits = was.far_buffer_fits;
        plain = turned.plain;
        plainly = λ none. absurd (let clash : true ≡ false = sym turns ∙ none in cc);
        ahead_told = inr turns;
      }))))
    where
      -- a takeover turns the shape
      turns : list_any (λ e. turns_shape e.event) (entries ++ added) ≡ true
      turns = turns-behind entries added refl

      turned : IsLeftPlain tells given tape' scope first entries (entries_of who end (Step TakenOver (still_left (work_then to work) new behind) ∷ losses_of roles spares)) new
      turned = turned-plain turns

  -- ---- what is told

  -- each role that no slot holds, and each loss has its cause
  pub taken-losses : {mid later : List Entry} → mid ≡ entries → later ≡ mid ++ entries_of who end (Step TakenOver (still_left (work_then to work) new behind) ∷ losses_of roles spares)
      → AreLossesOf (taken_plan old to slot) before after entries later
  taken-losses {mid = mid} {later = later} mid_is is = record {
    more = added;
    grown = is ∙ ap (λ (l : List Entry). l ++ added) mid_is;
    failed = All-cons (λ e. IsLossBy (Held (taken_plan old to slot)) (WasSpare (taken_plan old to slot)) before after e.event) (one who end (Step TakenOver (still_left (work_then to work) new behind))) (entries_of who end (losses_of roles spares)) tt
        (subst (λ (l : List Event). All (λ e. IsLossBy (Held (taken_plan old to slot)) (WasSpare (taken_plan old to slot)) before after e.event) (entries_of who end l)) (append-nil (losses_of roles spares))
        (all-losses (λ event. IsLossBy (Held (taken_plan old to slot)) (WasSpare (taken_plan old to slot)) before after event) who end roles spares [] since.held (λ s has. (since.were s has, since.failed s has)) (All-nil (λ e. IsLossBy (Held (taken_plan old to slot)) (WasSpare (taken_plan old to slot)) before after e.event))));
  }

  pub taken-told : (role : ℕ) → role < role_count new.newest → is_unassigned (reading_of new) role ≡ true → has_slot roles role ≡ true
  taken-told role lt none = vacant-told given old to slot was.kept.members_are.placed was.kept.members_are.unlost was.kept.members_are.free still sound.valid can whole new roles spares before after did.moved did.failed did.newest.shape did.newest.still
      lost role lt none
