-- What the begin of a reshape leaves, from what `begin` of `reshape_begin_end` says of it: the array keeps its record in the reshape.
use Rattle.std.proofs.Common.{◌≡◌, ◌≢◌, ◌⊎◌, inl, inr, ℕ, ◌+◌, ◌-◌, ◌*◌, ◌<◌, ◌≤◌, ◌&&◌, ◌||◌, nat_le, nat_lt, Bool, true, false, not, cond, Option, Some, None, List, [], ◌∷◌, ◌++◌, length, refl, sym, ◌∙◌, ap, subst, arith, append-nil}
use Rattle.std.specs.Prelude.{if◌then◌else◌, IfSome, is_some, fold}
use Rattle.std.specs.List.{list_any, All}
use Rattle.std.proofs.lemmas.Bool.Decides.{nat_tests}
use Rattle.std.proofs.lemmas.List.Elements.{All-nil, All-cons}
use Rattle.std.proofs.lemmas.List.Folds.{list_any-append}
use Rattle.std.proofs.lemmas.List.Sums.{fold-append}
use Rattle.array_reshaping_steps.specs.raid_types_Shapes.{has_slot}
use Rattle.array_reshaping_steps.specs.raid_types_the_Refusal.{Refusal}
use Rattle.array_reshaping_steps.specs.raid_types_the_Refusal_TheVariants.{BackupAbsent}
use Rattle.array_reshaping_steps.specs.raid_types_the_Who.{Who}
use Rattle.array_reshaping_steps.specs.raid_types_the_Shape.{Shape}
use Rattle.array_reshaping_steps.specs.raid_types_the_Phase.{Phase}
use Rattle.array_reshaping_steps.specs.raid_types_the_Phase_TheVariants.{Reshape}
use Rattle.array_reshaping_steps.specs.bank_the_Operation.{Operation}
use Rattle.array_reshaping_steps.specs.bank_Given.{Given, NeverFalls}
use Rattle.array_reshaping_steps.specs.bank_Tape.{disk}
use Rattle.array_reshaping_steps.specs.sb_codec_the_Sb.{Sb}
use Rattle.array_reshaping_steps.specs.reshape_geometry_Geometry.{AreInForce, list_end}
use Rattle.array_reshaping_steps.specs.reshape_plan_Plans.{AreSound, phase_window, phases_steps}
use Rattle.array_reshaping_steps.specs.sb_specs_the_Members.{Members}
use Rattle.array_reshaping_steps.specs.sb_specs_Reading.{Scope, is_reshaping, is_backward, shape_of, final_shape, list_length, role_count}
use Rattle.array_reshaping_steps.proofs.sb_specs_ValidFields.{few-roles}
use Rattle.array_reshaping_steps.specs.stripe_row_Rows.{reading_of, present, is_missing}
use Rattle.array_reshaping_steps.specs.history_the_Entry.{Entry}
use Rattle.array_reshaping_steps.specs.history_the_Event.{Event}
use Rattle.array_reshaping_steps.specs.history_the_Event_TheVariants.{Step, Resized}
use Rattle.array_reshaping_steps.specs.history_the_StepKind_TheVariants.{Begun}
use Rattle.array_reshaping_steps.specs.history_Flat.{length_of, length_after, limit_after}
use Rattle.array_reshaping_steps.specs.history_Legal.{told_left}
use Rattle.array_reshaping_steps.specs.history_Losses.{is_unsynced, loses}
use Rattle.array_reshaping_steps.specs.history_OneShape.{is_lost}
use Rattle.array_reshaping_steps.specs.history_Plain.{entries_of}
use Rattle.array_reshaping_steps.specs.history_Sound.{OpensFit}
use Rattle.array_reshaping_steps.specs.history_Stands.{reach_of}
use Rattle.array_reshaping_steps.specs.history_World.{World}
use Rattle.array_reshaping_steps.specs.crash_views_Regions.{ArePlaced}
use Rattle.array_reshaping_steps.specs.crash_views_Views.{Ledger}
use Rattle.array_reshaping_steps.proofs.crash_views_Stands.{final-still}
use Rattle.array_reshaping_steps.specs.crash_safety_laws_Changing.{IsSafeChange}
use Rattle.array_reshaping_steps.specs.crash_safety_laws_Safety.{HasLiveSlot, HasRoomLeft, IsRisen}
use Rattle.array_reshaping_steps.specs.crash_safety_laws_Steady.{IsSafeOver, AreGoneTold}
use Rattle.array_reshaping_steps.specs.crash_reshape_laws_Ends.{IsCleared, IsToldWith}
use Rattle.array_reshaping_steps.specs.reshape_sb_updates_Beginning.{HasBegun, goes_back, with_reshape, beginning}
use Rattle.array_reshaping_steps.proofs.reshape_sb_updates_BegunNewest.{has-begun}
use Rattle.array_reshaping_steps.specs.reshape_begin_end_Begun.{IsBackupOf, IsBegunBehind, begun_plan}
use Rattle.array_reshaping_steps.specs.array_members_the_Work.{Work}
use Rattle.array_reshaping_steps.specs.array_members_Lacking.{AreLostSince, HaveFailedSince}
use Rattle.array_reshaping_steps.specs.array_members_Moving.{Grows, IsMoved}
use Rattle.array_reshaping_steps.specs.array_members_Numbers.{bears}
use Rattle.array_reshaping_steps.specs.array_members_Placed.{is_unassigned, AreWhole}
use Rattle.array_reshaping_steps.specs.array_members_Rebuilding.{AreSparesFree, Held}
use Rattle.array_reshaping_steps.specs.array_members_Status.{left_of, resync_left}
use Rattle.array_reshaping_steps.proofs.array_members_MarkLaws.{few-planned}
use Rattle.array_reshaping_steps.proofs.array_members_Still.{placed-two, backup-still}
use Rattle.array_reshaping_steps.specs.history_append_Losing.{losses_of}
use Rattle.array_reshaping_steps.proofs.history_append_CallLaws.{all-losses}
use Rattle.array_reshaping_steps.proofs.history_append_PlainLaws.{one}
use Rattle.array_reshaping_steps.specs.array_call_specs_Calls.{AreLossesOf, IsLossBy, WasSpare}
use Rattle.array_reshaping_steps.specs.array_call_specs_Kept.{scope_in}
use Rattle.array_reshaping_steps.proofs.array_call_specs_NowLaws.{length-more}
use Rattle.array_reshaping_steps.specs.reshape_request_the_PhasesLeft.{PhasesLeft}
use Rattle.array_reshaping_steps.specs.reshape_request_the_Window_TheVariants.{Closed}
use Rattle.array_reshaping_steps.specs.reshape_request_Left.{IsAtStartOf, IsReshapeUnderWay, phases_of, grow_left, reshape_left, steps_from}
use Rattle.array_reshaping_steps.proofs.reshape_request_LeftLaws.{beginning as beginning-left}
use Rattle.array_reshaping_steps.specs.history_invariant_Recorded.{IsOpenBehind, IsLengthKept as IsResizeKept}
use Rattle.array_reshaping_steps.specs.history_invariant_Safe.{world_in, TakesNone}
use Rattle.array_reshaping_steps.proofs.history_invariant_Entered.{lost-taken}
use Rattle.array_reshaping_steps.proofs.history_invariant_Tests.{neither}
use Rattle.array_reshaping_end_laws.proofs.history_invariant_laws_Behind.{IsAmong, early-losses}
use Rattle.array_reshaping_steps.specs.reshape_progress_Laws.{closed}
use Rattle.array_reshaping_end_laws.specs.array_reshaping_invariant_Moving.{IsMoving}
use Rattle.array_reshaping_steps.proofs.array_reshaping_invariant_BegunCall.{IsBegunBy, begun-length}
use Rattle.array_reshaping_steps.proofs.array_reshaping_invariant_BegunMembers.{array-begins}
use Rattle.array_reshaping_end_laws.proofs.Shortened.{array-shortens}
use Rattle.array_reshaping_steps.proofs.array_fixed_invariant_Bridges.{stands-kept}
use Rattle.array_reshaping_steps.specs.array_specs_Parts.{still_left}
use Rattle.array_reshaping_steps.proofs.array_specs_Called.{not_254}
use Rattle.array_reshaping_steps.proofs.array_specs_VisibleLaws.{limit-kept}
use Rattle.array_reshaping_steps.specs.array_fixed_laws_Ready.{IsReady as IsReadyStill}
use Rattle.array_reshaping_steps.specs.array_reshaping_laws_Ready.{IsReady as IsReadyMoving}
use Rattle.array_reshaping_steps.proofs.array_reshaping_laws_Kept.{left_by}
use Rattle.array_transition.specs.Begun.{begun_length, is_resize, HasKeptLength, IsBackupAt, CanBegin}
use Rattle.array_transition.proofs.Planned.{none-recovering, begin-live, lost-missing}
use Rattle.array_reshaping_steps.proofs.array_fixed_laws_StepLaws.{losses-keep}

-- ---- what is asked

-- no resync is pending where nothing is left to do
pub none-pending : (m : Members) (resync : Option ℕ) (a b : ℕ) → resync_left resync m + a + b ≡ 0 → resync ≡ None
none-pending m None a b none = refl
none-pending m (Some mended) a b none = absurd (omega (arith, none))

-- the next phase fits the shape before it, and the phases behind it can follow
pub next-sound : (now : Shape) (size : ℕ) (all behind : List Phase) (to : Shape) → AreSound now size all → all ≡ Reshape to ∷ behind → AreInForce now to size × (to.level ≡ now.level) × AreSound to size behind
next-sound now size all behind to sound is = subst (λ (l : List Phase). AreSound now size l) is sound

-- the slot that is asked for is the array's backup
pub backup-here : (given : Given) (members : Members) (to : Shape) (found : Option ℕ) (backup : ℕ) → (slot : ℕ) × (found ≡ Some slot) × IsBackupAt given members to slot → found ≡ Some backup
    → IsBackupAt given members to backup
backup-here given members to found backup asked is =
    let both : ◌≡◌ {A = Option ℕ} (Some asked.0) (Some backup) = sym asked.1 ∙ is in
    let one : asked.0 ≡ backup = cc in
    subst (λ (s : ℕ). IsBackupAt given members to s) one asked.2

-- another slot than the backup, or another sector than its header's
pub others-of : (found : Option ℕ) (backup slot k : ℕ) → found ≡ Some backup → (found ≢ Some slot) ⊎ (k ≢ 0) → (slot ≢ backup) ⊎ (k ≢ 0)
others-of found backup slot k is (inl other) = inl (λ same. other (is ∙ ap (λ (n : ℕ). Some n) (sym same)))
others-of found backup slot k is (inr far) = inr far

-- a call that has changed no length leaves nothing open
lengths-kept : (world : World) (call : List Entry) → list_any (λ e. is_resize e.event) call ≡ false → All (λ e. IsResizeKept world e.end e.event) call
lengths-kept world [] none = All-nil (λ e. IsResizeKept world e.end e.event)
lengths-kept world (x ∷ call) none =
    let parts = neither (is_resize x.event) (list_any (λ e. is_resize e.event) call) none in
    All-cons (λ e. IsResizeKept world e.end e.event) x call (kept x.event parts.0) (lengths-kept world call parts.1)
  where
    kept : (event : Event) → is_resize event ≡ false → IsResizeKept world x.end event
    kept (Resized n) is = absurd (cc)
    kept event is = tt

pub unturned-open : (world : World) (entries : List Entry) (who : Who) (turned : HasKeptLength entries who) → IsOpenBehind world turned.goes.call
unturned-open world entries who turned = record { kept = lengths-kept world turned.goes.call turned.lengths; steps = turned.steps }

room-there : (still there fits : Bool) → there ≡ true → fits ≡ true → ◌≡◌ {A = Option Refusal} (if still || (there && fits) then None else Some BackupAbsent) None
room-there true there fits here enough = refl
room-there false true true here enough = refl
room-there false false fits here enough = absurd (cc)
room-there false true false here enough = absurd (cc)

is-below : (a b : ℕ) → a < b → nat_lt a b ≡ true
is-below a b lt = grind (arith, nat_tests, lt)

is-within : (a b : ℕ) → a ≤ b → nat_le a b ≡ true
is-within a b le = grind (arith, nat_tests, le)

fits-there : (want most : ℕ) (b : Bool) → b ≡ true → want ≤ most → nat_le want (cond b most 0) ≡ true
fits-there want most true here enough = is-within want most enough
fits-there want most false here enough = absurd (cc)

-- ---- a superblock with a reshape that has just begun

-- the sectors of each window
begun-reach : (former newest : Sb) (to : Shape) → HasBegun former to newest → reach_of newest ≡ phase_window (shape_of former) former.size (Reshape to)
begun-reach former newest to has = λ i. phase_window (has.old i) (has.size i) (Reshape (has.new i))

pub begun-start : (former newest : Sb) (to : Shape) → HasBegun former to newest → IsAtStartOf former to newest
begun-start former newest to has = record {
  active = has.active;
  shape = has.old;
  final = has.new;
  backward = has.backward;
  size = has.size;
  position = has.start ∙ (λ i. cond (is_backward newest) (list_end (has.old i) (has.new i) (has.size i)) 0);
}

-- its reshape is under way
pub begun-under : (former newest : Sb) (to : Shape) → HasBegun former to newest → AreInForce (shape_of former) to former.size → (is_reshaping newest ≡ true → newest.reshape_position ≤ list_length newest)
    → IsReshapeUnderWay newest
begun-under former newest to has forced within = record {
  active = has.active;
  in_force = subst (λ (s : Shape). AreInForce s (final_shape newest) newest.size) (sym has.old)
      (subst (λ (s : Shape). AreInForce (shape_of former) s newest.size) (sym has.new) (subst (λ (n : ℕ). AreInForce (shape_of former) to n) (sym has.size) forced));
  within = within has.active;
}

-- no resync is among them
pub plus-none : (n : ℕ) → n ≡ n + 0
plus-none n = omega arith

-- its steps are those that were left, but one
pub begun-left : (old new : Members) (work : Work) (ahead behind : PhasesLeft) (to : Shape) → HasBegun old.newest to new.newest → is_reshaping old.newest ≡ false → left_of work old ≡ 0
    → phases_of ahead ≡ Reshape to ∷ phases_of behind → left_by None new (closed 0) behind + 1 ≡ still_left work old ahead
begun-left old new work ahead behind to has still idle next =
    ap (λ (n : ℕ). n + 1) (sym (plus-none (grow_left new.newest Closed 0 (phases_of behind)))) ∙ beginning-left old.newest new.newest to (phases_of behind) still (begun-start old.newest new.newest to has)
    ∙ ap (λ (b : Bool). cond b (reshape_left old.newest Closed 0) 0 + phases_steps (final_shape old.newest) old.newest.size (Reshape to ∷ phases_of behind)) still
    ∙ (λ i. 0 + phases_steps (final-still old.newest still i) old.newest.size (sym next i))
    ∙ ap (λ (n : ℕ). n + phases_steps (shape_of old.newest) old.newest.size (phases_of ahead)) (sym idle)

-- and these are some: its end is among them
begun-some : (new : Members) (behind : PhasesLeft) → is_reshaping new.newest ≡ true → left_by None new (closed 0) behind ≢ 0
begun-some new behind active none = absurd (
    let is : left_by None new (closed 0) behind ≡ (steps_from new.newest new.newest.reshape_position - 0) + phases_steps (final_shape new.newest) new.newest.size (phases_of behind) =
    sym (plus-none (grow_left new.newest Closed 0 (phases_of behind))) ∙ ap (λ (b : Bool). cond b (reshape_left new.newest Closed 0) 0 + phases_steps (final_shape new.newest) new.newest.size (phases_of behind)) active in
    omega (arith, is, none)
    )

-- the steps as they are counted
pub begun-counted : (new : Members) (behind : PhasesLeft) (to : Shape) (moved planned left : ℕ) → is_reshaping new.newest ≡ true → final_shape new.newest ≡ to → moved ≡ reshape_left new.newest Closed 0
    → planned ≡ phases_steps to new.newest.size (phases_of behind) → left ≡ moved + planned → left ≡ grow_left new.newest Closed 0 (phases_of behind)
begun-counted new behind to moved planned left active final moved_is planned_is is =
    is ∙ (λ i. moved_is i + planned_is i) ∙ (λ i. reshape_left new.newest Closed 0 + phases_steps (sym final i) new.newest.size (phases_of behind))
    ∙ ap (λ (b : Bool). cond b (reshape_left new.newest Closed 0) 0 + phases_steps (final_shape new.newest) new.newest.size (phases_of behind)) (sym active)

-- ---- what is entered

-- its limit stays
begun-free : (who : Who) (end left roles spares n : ℕ) (back : Bool) (limit : Option ℕ)
    → fold (λ (limit : Option ℕ) e. limit_after limit e.event) limit (entries_of who end (Step Begun left ∷ begun_length back n ++ losses_of roles spares)) ≡ limit
begun-free who end left roles spares n true limit = (losses-keep who end roles spares).free limit
begun-free who end left roles spares n false limit = (losses-keep who end roles spares).free limit

-- the losses are told
begun-tells : (who : Who) (end left roles spares n role : ℕ) (back : Bool) → role < 16 → IsAmong roles role → is_lost (entries_of who end (Step Begun left ∷ begun_length back n ++ losses_of roles spares)) role ≡ true
begun-tells who end left roles spares n role back lt has = of back
  where
    told : is_lost (entries_of who end (losses_of roles spares)) role ≡ true
    told = subst (λ (l : List Event). is_lost (entries_of who end l) role ≡ true) (append-nil (losses_of roles spares)) ((early-losses roles spares).lost who end [] role lt has)

    of : (b : Bool) → is_lost (entries_of who end (Step Begun left ∷ begun_length b n ++ losses_of roles spares)) role ≡ true
    of true = told
    of false = told

-- each role that no slot holds is told
pub since-told : (new : Members) (roles : ℕ) → length new.roles ≡ role_count new.newest → ((role : ℕ) → has_slot roles role ≡ (nat_lt role (length new.roles) && is_unassigned (reading_of new) role))
    → (role : ℕ) → role < role_count new.newest → is_unassigned (reading_of new) role ≡ true → has_slot roles role ≡ true
since-told new roles count is role lt vacant = is role ∙ (λ i. is-below role (length new.roles) (omega (arith, count, lt)) i && vacant i)

-- each loss has its cause: the slot held the role by the plan, and has failed
pub begun-losses : (plan new : Members) (before after : ℕ → ℕ) (entries mid later : List Entry) (who : Who) (end left n roles spares : ℕ) (back : Bool) → AreLostSince plan new roles spares before after → mid ≡ entries
    → later ≡ mid ++ entries_of who end (Step Begun left ∷ begun_length back n ++ losses_of roles spares) → AreLossesOf plan before after entries later
begun-losses plan new before after entries mid later who end left n roles spares back since mid_is is = record {
  more = entries_of who end (Step Begun left ∷ begun_length back n ++ losses_of roles spares);
  grown = is ∙ ap (λ (l : List Entry). l ++ entries_of who end (Step Begun left ∷ begun_length back n ++ losses_of roles spares)) mid_is;
  failed = All-cons (λ e. IsLossBy (Held plan) (WasSpare plan) before after e.event) (one who end (Step Begun left)) (entries_of who end (begun_length back n ++ losses_of roles spares)) tt (of back);
}
  where
    lost : All (λ e. IsLossBy (Held plan) (WasSpare plan) before after e.event) (entries_of who end (losses_of roles spares))
    lost = subst (λ (l : List Event). All (λ e. IsLossBy (Held plan) (WasSpare plan) before after e.event) (entries_of who end l)) (append-nil (losses_of roles spares))
        (all-losses (λ event. IsLossBy (Held plan) (WasSpare plan) before after event) who end roles spares [] since.held (λ s has. (since.were s has, since.failed s has)) (All-nil (λ e. IsLossBy (Held plan) (WasSpare plan) before after e.event)))

    of : (b : Bool) → All (λ e. IsLossBy (Held plan) (WasSpare plan) before after e.event) (entries_of who end (begun_length b n ++ losses_of roles spares))
    of true = All-cons (λ e. IsLossBy (Held plan) (WasSpare plan) before after e.event) (one who end (Resized n)) (entries_of who end (losses_of roles spares)) tt lost
    of false = lost

-- ---- the array in its reshape

-- What `begin` leaves where it isn't refused.
pub record IsUpdated (tells : Type 0) (given : Given) (tape tape' : List Operation) (backup : ℕ) (uuid : List ℕ) (to : Shape) (old new : Members) (spares : ℕ) (before after : ℕ → ℕ) : Type 0 where
  pub begun : IsBegunBehind tells given backup uuid to old new tape tape'
  pub newest : HasBegun old.newest to new.newest
  pub moved : IsMoved given (begun_plan old to) new
  pub failed : HaveFailedSince (begun_plan old to) new spares before after
  pub free : AreSparesFree given new
  pub plain : tells → (scope : Scope) → scope.backup ≡ Some backup → scope.uuid ≡ uuid → IsCleared scope (disk given.start tape')
  pub others : tells → (s k : ℕ) → k ≢ 8 → (s ≢ backup) ⊎ (k ≢ 0) → present given tape' s k ≡ present given tape s k
  pub grows : Grows tells tape tape'
  pub rise : IsRisen tells old new tape tape'
  pub safe : tells → (world : World) → (told more : Ledger) → HasRoomLeft old tape tape' → HasLiveSlot old → IsBackupOf world.scope old to backup uuid → ArePlaced world.scope given old
      → IsToldWith told more (begun_plan old to) → AreGoneTold told old → AreGoneTold more new → ((slot number : ℕ) → told.carried slot number ≡ true → more.carried slot number ≡ true)
      → IsSafeOver world given told old tape → IsSafeChange (OpensFit world) world.scope given told more new tape tape'
  pub counts : NeverFalls before after

module _ {tells : Type 0} {given : Given} {tape tape' : List Operation} {first : ℕ} {entries : List Entry} {old new : Members} {work : Work} {limit : Option ℕ} {before after : ℕ → ℕ} {steps room rows buffer far_rows far_buffer : ℕ}
    (uuid : List ℕ) (slots backup : ℕ) (ahead behind : PhasesLeft) (to : Shape) (who : Who) (end roles spares : ℕ)
    (was : IsReadyStill tells given tape (scope_in given uuid slots (Some backup)) first entries old work ahead limit before steps room rows buffer far_rows far_buffer)
    (turned : HasKeptLength entries who) (caller : who.caller ≢ 254) (idle : left_of work old ≡ 0) (next : phases_of ahead ≡ Reshape to ∷ phases_of behind) (back : Bool) (way : goes_back (shape_of old.newest) to ≡ back)
    (at : IsBackupAt given old to backup) (found : has_slot slots backup ≡ true) (can : CanBegin old to) (did : IsUpdated tells given tape tape' backup uuid to old new spares before after) (at_end : tells → end ≡ length tape')
    (long : length old.own ≡ 32) (sixteen : length uuid ≡ 16) (lost : (role : ℕ) → has_slot roles role ≡ (nat_lt role (length new.roles) && is_unassigned (reading_of new) role)) where
  abbrev scope : Scope
  scope = scope_in given uuid slots (Some backup)

  abbrev left : ℕ
  left = left_by None new (closed 0) behind

  abbrev added : List Entry
  added = entries_of who end (Step Begun (left_by None new (closed 0) behind) ∷ begun_length back (list_length new.newest) ++ losses_of roles spares)

  still : is_reshaping old.newest ≡ false
  still = was.kept.members_are.still

  sound : AreSound (shape_of old.newest) old.newest.size (Reshape to ∷ phases_of behind)
  sound = subst (λ (l : List Phase). AreSound (shape_of old.newest) old.newest.size l) next was.planned

  synced : work.resync ≡ None
  synced = none-pending old work.resync _ _ idle

  settled : tells → is_unsynced (world_in given tape (scope_in given uuid slots (Some backup)) first) entries ≡ false
  settled t = was.kept.pending t ∙ ap (λ (o : Option ℕ). is_some o) synced

  backed : IsBackupOf (scope_in given uuid slots (Some backup)) old to backup uuid
  backed = record {
    backup = refl;
    array = refl;
    apart = at.apart;
    room = room-there (not (is_reshaping (with_reshape to old.newest))) (has_slot slots backup) (nat_le (8 + reach_of (with_reshape to old.newest)) (if nat_lt backup given.slots then given.sectors backup else 0))
        found
        (fits-there (8 + reach_of (with_reshape to old.newest)) (given.sectors backup) (nat_lt backup given.slots) (is-below backup given.slots at.known)
        (let reach = begun-reach old.newest (with_reshape to old.newest) to (has-begun old.newest to still sound.0 sound.1) in let enough = at.room in omega (arith, reach, enough)));
  }

  placed : ArePlaced (scope_in given uuid slots (Some backup)) given old
  placed = placed-two (scope_in given uuid slots (Some backup)) given old was.kept.members_are.placed (backup-still (scope_in given uuid slots (Some backup)) old.newest still)
      (λ role slot held there. at.own role (held ∙ sym there))

  begun-by : IsBegunBy tells given tape tape' (scope_in given uuid slots (Some backup)) backup uuid to old new roles
  begun-by = record {
    in_force = sound.0;
    level = sound.1;
    live = begin-live given old to was.kept.members_are.placed was.kept.members_are.unlost was.kept.members_are.free still sound.0 sound.1 can;
    sixteen = sixteen;
    backed = backed;
    placed = placed;
    begun = did.begun;
    newest = did.newest;
    moved = did.moved;
    rise = did.rise;
    since = λ role lt miss.
        inr (lost-missing given old to was.kept.members_are.placed was.kept.members_are.unlost was.kept.members_are.free still sound.0 sound.1 can new roles spares before after did.moved did.failed lost role lt miss);
    safe = did.safe;
  }

  one-fewer : left_by None new (closed 0) behind + 1 ≡ still_left work old ahead
  one-fewer = begun-left old new work ahead behind to did.newest still idle next

  keeps : (b : Bool) → goes_back (shape_of old.newest) to ≡ b
      → IsMoving tells given tape' (scope_in given uuid slots (Some backup)) first (entries ++ entries_of who end (Step Begun (left_by None new (closed 0) behind) ∷ begun_length b (list_length new.newest) ++ losses_of roles spares)) new
      (bears work) None (closed 0) [] (left_by None new (closed 0) behind)
  keeps false forward =
      array-begins tells given tape tape' scope first entries backup uuid to old new (bears work) (bears work) roles (stands-kept tells given tape scope first entries old work (still_left work old ahead) was.kept synced)
      begun-by (none-recovering given old was.kept.members_are.placed can.0) was.kept.members_are.free long did.free (did.moved.spares (few-planned old (beginning old to) old.lost)) [] left who end spares forward settled turned.goes
      (not_254 who.caller caller) at_end did.grows (subst (λ (n : ℕ). IfSome (told_left entries) (λ m. m ≡ n)) (sym one-fewer) was.kept.left_told) (begun-some new behind did.newest.active) (λ slot number is. is)
      (λ t. did.plain t scope refl refl) did.others (λ t. unturned-open (world_in given tape' scope first) entries who turned)
  keeps true backward =
      array-shortens tells given scope first entries backup uuid to old new (bears work) (bears work) roles tape (stands-kept tells given tape scope first entries old work (still_left work old ahead) was.kept synced)
      backward tape' begun-by (none-recovering given old was.kept.members_are.placed can.0) was.kept.members_are.free long did.free (did.moved.spares (few-planned old (beginning old to) old.lost)) [] left who end spares settled turned.goes
      (not_254 who.caller caller) at_end did.grows (subst (λ (n : ℕ). IfSome (told_left entries) (λ m. m ≡ n)) (sym one-fewer) was.kept.left_told) (begun-some new behind did.newest.active) (λ slot number is. is)
      (λ t. did.plain t scope refl refl) did.others (λ t. unturned-open (world_in given tape' scope first) entries who turned)

  -- the entries tell the length of its list
  tells-length : (b : Bool) → goes_back (shape_of old.newest) to ≡ b
      → length_of (list_length new.newest) (entries ++ entries_of who end (Step Begun (left_by None new (closed 0) behind) ∷ begun_length b (list_length new.newest) ++ losses_of roles spares)) ≡ list_length new.newest
  tells-length false forward =
      subst (λ (n : ℕ). length_of n (entries ++ entries_of who end (Step Begun (left_by None new (closed 0) behind) ∷ losses_of roles spares)) ≡ n) (sym (begun-length old.newest new.newest to did.newest still forward))
      (length-more (list_length old.newest) entries (entries_of who end (Step Begun (left_by None new (closed 0) behind) ∷ losses_of roles spares)) was.sized ((losses-keep who end roles spares).long (list_length old.newest)))
  tells-length true backward =
      fold-append (λ m e. length_after m e.event) (list_length new.newest) entries (entries_of who end (Step Begun (left_by None new (closed 0) behind) ∷ Resized (list_length new.newest) ∷ losses_of roles spares))
      ∙ (losses-keep who end roles spares).long (list_length new.newest)

  -- where no entry takes a role's holder, none is missing
  begun-whole : tells → TakesNone (world_in given tape' (scope_in given uuid slots (Some backup)) first) (entries ++ entries_of who end (Step Begun (left_by None new (closed 0) behind) ∷ begun_length back (list_length new.newest) ++ losses_of roles spares)) → AreWhole new
  begun-whole t none role lt = by (is_missing (reading_of new) role) refl
    where
      later : World
      later = world_in given tape' (scope_in given uuid slots (Some backup)) first

      none-here : list_any (loses later role) (entries_of who end (Step Begun (left_by None new (closed 0) behind) ∷ begun_length back (list_length new.newest) ++ losses_of roles spares)) ≡ false
      none-here = (neither (list_any (loses later role) entries) (list_any (loses later role) added) (sym (list_any-append (loses later role) entries added) ∙ none role)).1

      by : (b : Bool) → is_missing (reading_of new) role ≡ b → b ≡ false
      by false is = refl
      by true is = absurd (
          let has = lost-missing given old to was.kept.members_are.placed was.kept.members_are.unlost was.kept.members_are.free still sound.0 sound.1 can new roles spares before after did.moved did.failed lost role lt is in
          let both : true ≡ false = sym (lost-taken later role added (begun-tells who end left roles spares (list_length new.newest) role back (let few = few-roles new.newest did.moved.placed.fit.valid in omega (arith, lt, few)) has)) ∙ none-here in cc)

  -- So the array is ready in its reshape.
  pub begun-ready : {given' : Given} {scope' : Scope} {first' : ℕ} {mid entries' : List Entry} {steps' room' : ℕ} (window : List ℕ) → 512 * phase_window (shape_of old.newest) old.newest.size (Reshape to) ≤ length window
      → given' ≡ given → scope' ≡ scope_in given uuid slots (Some backup) → first' ≡ first → mid ≡ entries → entries' ≡ mid ++ entries_of who end (Step Begun (left_by None new (closed 0) behind) ∷ begun_length back (list_length new.newest) ++ losses_of roles spares)
      → 50 * steps' < room' → IsReadyMoving tells given' tape' scope' first' entries' new work (closed 0) behind limit window after steps' room' rows buffer far_rows far_buffer
  begun-ready {given' = given'} {scope' = scope'} {first' = first'} {mid = mid} {entries' = entries'} {steps' = steps'} {room' = room'} window wide same_given scope_is first_is mid_is is room_left =
      subst (λ (l : List Entry). IsReadyMoving tells given' tape' scope' first' l new work (closed 0) behind limit window after steps' room' rows buffer far_rows far_buffer) (sym (is ∙ ap (λ (l : List Entry). l ++ added) mid_is))
      (subst (λ (n : ℕ). IsReadyMoving tells given' tape' scope' n (entries ++ added) new work (closed 0) behind limit window after steps' room' rows buffer far_rows far_buffer) (sym first_is)
      (subst (λ (s : Scope). IsReadyMoving tells given' tape' s first (entries ++ added) new work (closed 0) behind limit window after steps' room' rows buffer far_rows far_buffer) (sym scope_is)
      (subst (λ (g : Given). IsReadyMoving tells g tape' scope first (entries ++ added) new work (closed 0) behind limit window after steps' room' rows buffer far_rows far_buffer) (sym same_given)
      (record {
        kept = subst (λ (o : Option ℕ). IsMoving tells given tape' (scope_in given uuid slots (Some backup)) first (entries ++ added) new (bears work) o (closed 0) [] (left_by o new (closed 0) behind)) (sym synced) (keeps back way);
        sized = tells-length back way;
        limited = limit-kept limit entries added was.limited (begun-free who end left roles spares (list_length new.newest) back limit);
        full = begun-whole;
        planned = subst (λ (n : ℕ). AreSound (final_shape new.newest) n (phases_of behind)) (sym did.newest.size)
            (subst (λ (s : Shape). AreSound s old.newest.size (phases_of behind)) (sym did.newest.new) sound.2);
        wide = let reach = begun-reach old.newest new.newest to did.newest in omega (arith, wide, reach);
        failed = λ slot lt out. let had = was.failed slot lt out in let more = did.counts slot in omega (arith, had, more);
        dead = λ span is. absurd (cc);
        room_left = room_left;
        rows_fit = was.rows_fit;
        buffer_fits = was.buffer_fits;
        far_rows_fit = was.far_rows_fit;
        far_buffer_fits = was.far_buffer_fits;
      }))))
