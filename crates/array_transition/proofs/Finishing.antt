-- What `finish` of `reshape_begin_end` leaves, done or refused: the array is ready, in the words of the call, and so many steps are left.
use Rattle.std.proofs.Common.{◌≡◌, ◌≢◌, ◌⊎◌, inl, inr, ℕ, ◌+◌, ◌<◌, ◌≤◌, ◌&&◌, ◌||◌, nat_lt, max, Bool, true, false, not, cond, Option, Some, None, List, [], ◌∷◌, ◌++◌, length, drop, refl, sym, ◌∙◌, ap, subst, arith}
use Rattle.std.specs.Prelude.{IfSome}
use Rattle.std.specs.List.{list_any}
use Rattle.std.proofs.lemmas.Bool.{and_parts}
use Rattle.std.proofs.lemmas.Bool.Decides.{nat_tests}
use Rattle.std.proofs.Math.Seq.{drop-append_seam}
use Rattle.std.proofs.lemmas.List.{get_or_past, get_or-drop}
use Rattle.std.proofs.lemmas.List.Folds.{list_any-append}
use Rattle.array_reshaping_steps.specs.raid_types_Shapes.{has_slot}
use Rattle.array_reshaping_steps.proofs.raid_types_Tabulated.{get_or-tabulate}
use Rattle.array_reshaping_steps.specs.raid_types_the_Refusal.{Refusal}
use Rattle.array_reshaping_steps.specs.raid_types_the_Who.{Who}
use Rattle.array_reshaping_steps.specs.raid_types_the_Shape.{Shape}
use Rattle.array_reshaping_steps.specs.raid_types_the_Role_TheVariants.{Missing}
use Rattle.array_reshaping_steps.specs.bank_the_Operation.{Operation}
use Rattle.array_reshaping_steps.specs.bank_Given.{Given}
use Rattle.array_reshaping_steps.specs.bank_Tape.{disk}
use Rattle.array_reshaping_steps.specs.sb_codec_the_Sb.{Sb}
use Rattle.array_reshaping_steps.specs.sb_specs_the_Give.{Give}
use Rattle.array_reshaping_steps.specs.sb_specs_the_Give_TheVariants.{Same, Spare}
use Rattle.array_reshaping_steps.specs.sb_specs_the_Members.{Members}
use Rattle.array_reshaping_steps.specs.sb_specs_Reading.{Scope, is_clean, is_reshaping, shape_of, final_shape, role_count, role_state, holder}
use Rattle.array_reshaping_steps.specs.sb_specs_Reads.{has_spare}
use Rattle.array_reshaping_steps.specs.sb_specs_Update.{give_of, is_planned_spare}
use Rattle.array_reshaping_steps.proofs.sb_specs_SlotSets.{none_there}
use Rattle.array_reshaping_steps.proofs.sb_specs_ValidFields.{few-roles}
use Rattle.array_reshaping_steps.specs.stripe_row_Rows.{reading_of, present, is_missing}
use Rattle.array_reshaping_steps.specs.history_the_Entry.{Entry}
use Rattle.array_reshaping_steps.specs.history_the_Event.{Event}
use Rattle.array_reshaping_steps.specs.history_the_Event_TheVariants.{Step, Refused}
use Rattle.array_reshaping_steps.specs.history_the_StepKind_TheVariants.{Finished}
use Rattle.array_reshaping_steps.specs.history_Legal.{disturbs}
use Rattle.array_reshaping_steps.specs.history_Plain.{entries_of}
use Rattle.array_reshaping_steps.specs.history_World.{World}
use Rattle.array_reshaping_steps.specs.crash_views_Regions.{AreShapesFit, DoWithout}
use Rattle.array_reshaping_steps.specs.crash_views_Views.{Ledger}
use Rattle.array_reshaping_steps.specs.crash_safety_laws_Marking.{AreOthersPresent}
use Rattle.array_reshaping_steps.specs.crash_safety_laws_Safety.{HasRoomLeft, IsRisen}
use Rattle.array_reshaping_steps.specs.crash_safety_laws_Steady.{IsSafeOver, KeepsSafe, AreGoneTold, IsUncleanTold}
use Rattle.array_reshaping_steps.specs.crash_reshape_laws_Plans.{HasNoneRecovering}
use Rattle.array_reshaping_steps.proofs.crash_safety_laws_Without.{any-holds}
use Rattle.array_reshaping_steps.specs.reshape_sb_updates_Ending.{holds_from, dropped_give, ending}
use Rattle.array_reshaping_steps.proofs.reshape_sb_updates_EndedPlan.{disks-are}
use Rattle.array_reshaping_steps.specs.reshape_begin_end_Finished.{AreLostInEnd, IsEndedBehind, IsOver}
use Rattle.array_reshaping_steps.proofs.reshape_begin_end_Made.{spare-planned}
use Rattle.array_reshaping_steps.specs.array_members_the_Work.{Work}
use Rattle.array_reshaping_steps.specs.array_members_Lacking.{AreLostSince, AreTooMany, HaveFailedSince}
use Rattle.array_reshaping_steps.specs.array_members_Moving.{Grows, IsMoved}
use Rattle.array_reshaping_steps.specs.array_members_Placed.{is_unassigned, AreWhole, IsPlaced}
use Rattle.array_reshaping_steps.specs.array_members_Rebuilding.{AreSparesFree}
use Rattle.array_reshaping_steps.proofs.array_members_Still.{count-still}
use Rattle.array_reshaping_steps.specs.sb_safe_updates_Unused.{IsUnusedKept}
use Rattle.array_reshaping_steps.specs.reshape_window_steps_Zeroing.{IsThrough}
use Rattle.array_reshaping_steps.specs.stripe_region_resync_Resyncs.{resync_stripes}
use Rattle.array_reshaping_steps.specs.history_append_Losing.{losses_of}
use Rattle.array_reshaping_steps.specs.array_call_specs_Calls.{TellNoLoss}
use Rattle.array_reshaping_steps.specs.reshape_request_the_PhasesLeft.{PhasesLeft}
use Rattle.array_reshaping_steps.specs.reshape_request_Left.{zeroed_by}
use Rattle.array_reshaping_steps.specs.history_invariant_Recorded.{IsCallGoing}
use Rattle.array_reshaping_steps.specs.history_invariant_Safe.{world_in}
use Rattle.array_reshaping_end_laws.proofs.history_invariant_laws_Behind.{IsAmong}
use Rattle.array_reshaping_steps.specs.reshape_progress_the_Course.{Course}
use Rattle.array_reshaping_steps.specs.reshape_progress_Course.{IsCourseOf}
use Rattle.array_reshaping_steps.specs.reshape_progress_Laws.{closed}
use Rattle.array_reshaping_steps.proofs.reshape_progress_resync_laws_Synced.{mended-courses-move}
use Rattle.array_reshaping_end_laws.specs.array_reshaping_invariant_Moving.{IsMoving}
use Rattle.array_reshaping_steps.proofs.array_reshaping_invariant_Staying.{refused-moves}
use Rattle.array_reshaping_steps.proofs.array_reshaping_invariant_Steps.{missing-since}
use Rattle.array_reshaping_end_laws.proofs.Ended.{IsStepped, disturbs-entries}
use Rattle.array_reshaping_end_laws.proofs.EndedCall.{ended-since}
use Rattle.array_reshaping_end_laws.proofs.Ending.{length_by}
use Rattle.array_reshaping_steps.proofs.array_reshaping_laws_Kept.{left_by, left-moved, live-of}
use Rattle.array_reshaping_steps.specs.array_reshaping_state_Due.{due_of, IsDue}
use Rattle.array_reshaping_steps.specs.array_reshaping_state_the_Due.{Due}
use Rattle.array_reshaping_steps.specs.array_reshaping_state_the_Due_TheVariants.{Finish}
use Rattle.array_reshaping_steps.proofs.array_reshaping_state_DueLaws.{due-is}
use Rattle.array_reshaping_steps.proofs.array_reshaping_state_ReshapeLaws.{under-way-of}
use Rattle.array_reshaping_steps.specs.array_specs_Parts.{left_in, still_left}
use Rattle.array_reshaping_steps.proofs.array_specs_Called.{not_254, risen-told}
use Rattle.array_transition.specs.Begun.{AreSparesKeptOrFailed}
use Rattle.array_transition.specs.Ended.{AreDroppedSpares, AreSparesOrDropped}
use Rattle.array_transition.proofs.EndedLeft.{whole-idle, whole-left, whole-new, ended-stepped}

-- ---- the end is due

pub end-due : (newest : Sb) (course : Course) (resync : Option ℕ) → AreShapesFit newest → is_reshaping newest ≡ true → IsCourseOf newest course → IfSome resync (λ mended. mended ≤ resync_stripes newest)
    → due_of newest course resync ≡ Finish → (course ≡ closed (zeroed_by newest)) × IsThrough newest × (resync ≡ None)
end-due newest course resync fit active is most due = subst (λ (d : Due). IsDue newest course resync d) due (due-is newest course resync fit active is most)

-- ---- it is refused behind the flush

-- what was lost in the flush, where no update followed
pub flush-failed : (given : Given) (old new : Members) (roles spares lost : ℕ) (before after : ℕ → ℕ) → lost ≡ 0 → AreSparesFree given old → IsMoved given old new → AreLostInEnd old new roles spares lost before after
    → HaveFailedSince old new spares before after
flush-failed given old new roles spares lost before after none free moved failed = record {
  roles = λ role slot held. elim (failed.held role slot held) [
    | inl there ↦ inl there
    | inr (inl gone) ↦ inr gone.1
    | inr (inr (inl has)) ↦ inr (failed.lost_are slot has)
    | inr (inr (inr past)) ↦ absurd ((free slot (moved.fewer slot past.1)).none role held)
  ];
  spares_are = failed.spares_are;
  were = failed.were;
  fewer = moved.fewer;
  told = λ slot has. elim (failed.told slot has) [
    | inl still ↦ inl still
    | inr (inl told) ↦ inr told
    | inr (inr gone) ↦ absurd (let both : true ≡ false = sym gone ∙ ap (λ (n : ℕ). has_slot n slot) none ∙ none_there slot in cc)
  ];
}

-- the reshape goes on
pub refused-behind : {tells : Type 0} {given : Given} {tape tape' : List Operation} {scope : Scope} {first : ℕ} {entries : List Entry} {old new : Members} {carried : ℕ → ℕ → Bool} {resync : Option ℕ} (course : Course) {buffer : List ℕ}
    (ahead : PhasesLeft) (who : Who) (end roles spares : ℕ) (refusal : Refusal) {before after : ℕ → ℕ} → IsMoving tells given tape scope first entries old carried resync course buffer (left_by resync old course ahead) → DoWithout old
    → IsCallGoing entries who → who.caller ≢ 254 → (tells → end ≡ length tape') → Grows tells tape tape' → IsMoved given old new → AreLostSince old new roles spares before after → is_clean new.newest ≡ is_clean old.newest
    → AreTooMany new refusal → IsRisen tells old new tape tape' → (tells → IsUnusedKept old (disk given.start tape) (disk given.start tape')) → (tells → AreOthersPresent (present given tape) (present given tape'))
    → (tells → (world : World) → (told : Ledger) → HasRoomLeft old tape tape' → AreGoneTold told new → IsUncleanTold told old → IsSafeOver world given told old tape → KeepsSafe world given told new tape tape')
    → IsMoving tells given tape' scope first (entries ++ entries_of who end (losses_of roles spares ++ Refused refusal ∷ [])) new carried resync course buffer (left_by resync new course ahead)
refused-behind {tells = tells} {given = given} {tape = tape} {tape' = tape'} {scope = scope} {first = first} {entries = entries} {old = old} {new = new} {carried = carried} {resync = resync} course {buffer = buffer}
    ahead who end roles spares refusal was does goes caller at_end grows moved since clean many rise unused others safe =
    subst (λ (n : ℕ). IsMoving tells given tape' scope first (entries ++ entries_of who end (losses_of roles spares ++ Refused refusal ∷ [])) new carried resync course buffer n) (sym (left-moved given old new resync course ahead moved))
    (refused-moves tells given tape tape' scope first entries old new carried resync course buffer (left_by resync old course ahead) who end roles spares refusal was (live-of was does) goes (not_254 who.caller caller) at_end grows
    moved (few-roles new.newest moved.placed.fit.valid) (missing-since roles moved since.vacant) clean (inr many) (risen-told rise) unused
    (λ t sound among list stands. mended-courses-move sound among given old new resync course buffer (present given tape) (present given tape') list was.members_are.placed moved (others t) stands)
    (λ t told filled more room gone unclean. safe t (world_in given tape scope first) told room gone unclean))

-- ---- it is done

larger : (a b : ℕ) → b ≤ max a b
larger a b = omega arith

-- the new shape has no more roles than the two have
pub final-few : (given : Given) (old : Members) → IsPlaced given old → (final_shape old.newest).disks ≤ length old.roles
final-few given old placed = let count = placed.roles in let most = larger (shape_of old.newest).disks (final_shape old.newest).disks in omega (arith, count, most)

-- no slot holds a role that the new shape hasn't
role-beyond : (given : Given) (old new : Members) (role : ℕ) → IsPlaced given new → IsOver old.newest new.newest → (final_shape old.newest).disks ≤ role → role_state (reading_of new) role ≡ Missing
role-beyond given old new role placed over past =
    get_or_past new.roles role Missing
    (let count = placed.roles in let same = count-still new.newest over.still in let disks = ap (λ (s : Shape). s.disks) over.shape in omega (arith, past, count, same, disks))

-- each slot of a role that the new shape hasn't is a spare, or it has failed
pub dropped-or-failed : (given : Given) (old new : Members) (roles spares lost : ℕ) (before after : ℕ → ℕ) → IsPlaced given new → IsOver old.newest new.newest → AreLostInEnd old new roles spares lost before after
    → AreDroppedSpares old new before after
dropped-or-failed given old new roles spares lost before after placed over failed role slot past held = elim (failed.held role slot held) [
  | inl there ↦ absurd (let none : ◌≡◌ {A = Option ℕ} None (Some slot) = sym (ap holder (role-beyond given old new role placed over past)) ∙ there in cc)
  | inr (inl gone) ↦ inr gone.1
  | inr (inr (inl has)) ↦ inr (failed.lost_are slot has)
  | inr (inr (inr spare)) ↦ inl spare.1
]

same-spare : (spares : List ℕ) (slot : ℕ) (give : Give) → give ≡ Same → is_planned_spare spares None give slot ≡ true → has_spare spares slot ≡ true
same-spare spares slot give same is = or-none (has_spare spares slot) (sym (ap (λ (g : Give). is_planned_spare spares None g slot) same) ∙ is)
  where
    or-none : (b : Bool) → (b || false) ≡ true → b ≡ true
    or-none true e = refl
    or-none false e = absurd (cc)

-- and each spare was one before, or is such a slot
pub spare-or-dropped : (tells : Type 0) (given : Given) (old new : Members) (roles : ℕ) (before after : List Operation) → is_reshaping old.newest ≡ true → HasNoneRecovering old → IsEndedBehind tells given roles old new before after
    → AreSparesOrDropped old new
spare-or-dropped tells given old new roles before after active whole ended slot has =
    of (holds_from ended.flushed.roles ended.flushed.newest.raid_disks slot) refl
  where
    moved : IsMoved given old ended.flushed
    moved = ended.moved

    plan : (slot < 32) × (has_slot new.lost slot ≡ false) × (is_planned_spare ended.flushed.spares None (give_of (ending ended.flushed).gives slot) slot ≡ true)
    plan = spare-planned ended.flushed (ending ended.flushed) new.lost slot (sym (ap (λ (l : List ℕ). has_spare l slot) ended.update.spares) ∙ has)

    given-is : give_of (ending ended.flushed).gives slot ≡ dropped_give ended.flushed.roles ended.flushed.newest.raid_disks slot
    given-is = get_or-tabulate 32 (dropped_give ended.flushed.roles ended.flushed.newest.raid_disks) slot Same plan.0

    disks : ended.flushed.newest.raid_disks ≡ (final_shape old.newest).disks
    disks = disks-are ended.flushed (moved.reshape.reshaping ∙ active) moved.placed.fit moved.placed.roles (λ role slot held. (moved.placed.holders role slot held).small)
        (λ role slot is. whole role slot (sym (moved.states role slot (ap holder is)) ∙ is)) ∙ ap (λ (s : Shape). s.disks) moved.reshape.final

    of : (b : Bool) → holds_from ended.flushed.roles ended.flushed.newest.raid_disks slot ≡ b
        → (has_spare old.spares slot ≡ true) ⊎ ((role : ℕ) × ((final_shape old.newest).disks ≤ role) × (holder (role_state (reading_of old) role) ≡ Some slot))
    of true is =
        let found = any-holds slot (drop ended.flushed.newest.raid_disks ended.flushed.roles) is in
        let held : holder (role_state (reading_of ended.flushed) (ended.flushed.newest.raid_disks + found.0)) ≡ Some slot = ap holder (sym (get_or-drop ended.flushed.newest.raid_disks ended.flushed.roles found.0 Missing)) ∙ found.1 in
        inr (ended.flushed.newest.raid_disks + found.0, (let d = disks in omega (arith, d)), moved.held (ended.flushed.newest.raid_disks + found.0) slot held)
    of false is =
        inl (moved.fewer slot (same-spare ended.flushed.spares slot (give_of (ending ended.flushed).gives slot) (given-is ∙ ap (λ (b : Bool). cond b Spare Same) is) plan.2))

-- each slot that was a spare is one still, or it has failed
pub spares-kept : (old new : Members) (roles spares lost : ℕ) (before after : ℕ → ℕ) → AreLostInEnd old new roles spares lost before after → AreSparesKeptOrFailed old new before after
spares-kept old new roles spares lost before after failed slot was = elim (failed.told slot was) [
  | inl still ↦ inl still
  | inr (inl has) ↦ inr (failed.spares_are slot has)
  | inr (inr has) ↦ inr (failed.lost_are slot has)
]

-- ---- what is told

not-in : (a b : Bool) → a ≡ true → (b ≡ true → ⊥) → (a && not b) ≡ true
not-in true false has none = refl
not-in true true has none = absurd (none refl)
not-in false b has none = absurd (cc)

module _ (given : Given) (old new : Members) (held roles spares lost late_spares : ℕ) (before after : ℕ → ℕ) (was : IsPlaced given old) (free : AreSparesFree given old) (placed : IsPlaced given new) (over : IsOver old.newest new.newest)
    (failed : AreLostInEnd old new roles spares lost before after) (late-is : (slot : ℕ) → has_slot late_spares slot ≡ (has_slot lost slot && not (has_slot held slot)))
    (only : (slot : ℕ) → has_slot held slot ≡ true → (role : ℕ) × (role < (final_shape old.newest).disks) × (holder (role_state (reading_of old) role) ≡ Some slot)) where
  -- of a spare
  pub spares-told : (slot : ℕ) → has_spare old.spares slot ≡ true → (has_spare new.spares slot ≡ true) ⊎ ((has_slot spares slot ≡ true) ⊎ (has_slot late_spares slot ≡ true))
  spares-told slot spare = elim (failed.told slot spare) [
    | inl still ↦ inl still
    | inr (inl has) ↦ inr (inl has)
    | inr (inr has) ↦ inr (inr (late-is slot ∙ not-in (has_slot lost slot) (has_slot held slot) has (λ there. let of = only slot there in (free slot spare).none of.0 of.2)))
  ]

  -- and of a slot whose role the new shape hasn't
  pub dropped-told : (role slot : ℕ) → (final_shape old.newest).disks ≤ role → holder (role_state (reading_of old) role) ≡ Some slot
      → (has_spare new.spares slot ≡ true) ⊎ ((has_slot roles role ≡ true) ⊎ (has_slot late_spares slot ≡ true))
  dropped-told role slot past had = elim (failed.held role slot had) [
    | inl there ↦ absurd (let none : ◌≡◌ {A = Option ℕ} None (Some slot) = sym (ap holder (role-beyond given old new role placed over past)) ∙ there in cc)
    | inr (inl gone) ↦ inr (inl gone.0)
    | inr (inr (inl has)) ↦ inr (inr (late-is slot ∙ not-in (has_slot lost slot) (has_slot held slot) has
        (λ there. let of = only slot there in let same : of.0 ≡ role = was.apart of.0 role slot of.2 had in let lt = of.1 in omega (arith, past, same, lt))))
    | inr (inr (inr spare)) ↦ inl spare.1
  ]

-- ---- the steps that are left

both-quiet : (xs ys : List Event) → list_any disturbs xs ≡ false → list_any disturbs ys ≡ false → list_any disturbs (xs ++ ys) ≡ false
both-quiet xs ys none more = list_any-append disturbs xs ys ∙ (λ i. none i || more i)

no-both : (xs ys : List Event) → list_any disturbs (xs ++ ys) ≡ false → (list_any disturbs xs ≡ false) × (list_any disturbs ys ≡ false)
no-both xs ys none = by (list_any disturbs xs) (list_any disturbs ys) (sym (list_any-append disturbs xs ys) ∙ none)
  where
    by : (a b : Bool) → (a || b) ≡ false → (a ≡ false) × (b ≡ false)
    by true b is = absurd (cc)
    by false b is = (refl, is)

-- where the call tells no loss, none was lost
pub none-lost : (entries later : List Entry) (who : Who) (end roles spares left n late late_spares : ℕ) (longer : Bool)
    → later ≡ entries ++ entries_of who end (losses_of roles spares ++ Step Finished left ∷ (length_by longer n ++ losses_of late late_spares)) → TellNoLoss entries later
    → list_any disturbs (losses_of roles spares ++ losses_of late late_spares) ≡ false
none-lost entries later who end roles spares left n late late_spares longer is none =
    both-quiet (losses_of roles spares) (losses_of late late_spares) parts.0 (of longer parts.1)
  where
    last : drop (length entries) later ≡ entries_of who end (losses_of roles spares ++ Step Finished left ∷ (length_by longer n ++ losses_of late late_spares))
    last = ap (drop (length entries)) is ∙ drop-append_seam entries (entries_of who end (losses_of roles spares ++ Step Finished left ∷ (length_by longer n ++ losses_of late late_spares)))

    fails : (b : Bool) → not b ≡ true → b ≡ false
    fails true is = absurd (cc)
    fails false is = refl

    quiet : list_any disturbs (losses_of roles spares ++ Step Finished left ∷ (length_by longer n ++ losses_of late late_spares)) ≡ false
    quiet = fails (list_any disturbs (losses_of roles spares ++ Step Finished left ∷ (length_by longer n ++ losses_of late late_spares))) (sym (ap not (ap (list_any (λ e. disturbs e.event)) last ∙ disturbs-entries who end (losses_of roles spares ++ Step Finished left ∷ (length_by longer n ++ losses_of late late_spares)))) ∙ none)

    parts : (list_any disturbs (losses_of roles spares) ≡ false) × (list_any disturbs (Step Finished left ∷ (length_by longer n ++ losses_of late late_spares)) ≡ false)
    parts = no-both (losses_of roles spares) (Step Finished left ∷ (length_by longer n ++ losses_of late late_spares)) quiet

    of : (b : Bool) → list_any disturbs (length_by b n ++ losses_of late late_spares) ≡ false → list_any disturbs (losses_of late late_spares) ≡ false
    of true is = is
    of false is = is

module _ (given : Given) (old new : Members) (work : Work) (ahead : PhasesLeft) (course : Course) (who : Who) (end first roles spares late late_spares : ℕ) (placed : IsPlaced given old) (whole : HasNoneRecovering old)
    (at : course ≡ closed (zeroed_by old.newest)) (through : IsThrough old.newest) (under : IsPlaced given new) (over : IsOver old.newest new.newest) (synced : work.resync ≡ None)
    (states : (role slot : ℕ) → holder (role_state (reading_of new) role) ≡ Some slot → role_state (reading_of new) role ≡ role_state (reading_of old) role)
    (first-is : (role : ℕ) → has_slot first role ≡ (nat_lt role (length old.roles) && is_unassigned (reading_of old) role))
    (late-is : (role : ℕ) → has_slot late role ≡ ((nat_lt role (shape_of new.newest).disks && is_unassigned (reading_of new) role) && not (has_slot first role || has_slot roles role))) where
  none-recovers : HasNoneRecovering new
  none-recovers role slot is = whole role slot (sym (states role slot (ap holder is)) ∙ is)

  since : (role : ℕ) → role < role_count new.newest → is_missing (reading_of new) role ≡ true → (is_missing (reading_of old) role ≡ true) ⊎ (IsAmong roles role ⊎ IsAmong late role)
  since = ended-since old new first roles late over.still whole states (λ role has. (and_parts (nat_lt role (length old.roles)) (is_unassigned (reading_of old) role) (sym (first-is role) ∙ has)).1) late-is

  -- each role of the new shape that no slot holds had none before, or is told
  pub roles-told : (role : ℕ) → role < (shape_of new.newest).disks → is_unassigned (reading_of new) role ≡ true → (is_unassigned (reading_of old) role ≡ true) ⊎ ((has_slot roles role ≡ true) ⊎ (has_slot late role ≡ true))
  roles-told role lt vacant = of (has_slot first role) (has_slot roles role) refl refl
    where
      is-less : (a b : ℕ) → a < b → nat_lt a b ≡ true
      is-less a b lt = grind (arith, nat_tests, lt)

      of : (a b : Bool) → has_slot first role ≡ a → has_slot roles role ≡ b → (is_unassigned (reading_of old) role ≡ true) ⊎ ((has_slot roles role ≡ true) ⊎ (has_slot late role ≡ true))
      of true b none has = inl (and_parts (nat_lt role (length old.roles)) (is_unassigned (reading_of old) role) (sym (first-is role) ∙ none)).1
      of false true none has = inr (inl has)
      of false false none has = inr (inr (late-is role ∙ (λ i. (is-less role (shape_of new.newest).disks lt i && vacant i) && not (none i || has i))))

  pub finish-stepped : IsStepped old (left_by None old (closed (zeroed_by old.newest)) ahead) (still_left work new ahead) (losses_of roles spares ++ losses_of late late_spares)
  finish-stepped =
      ended-stepped old new work ahead who end roles spares late late_spares (under-way-of old.newest placed.fit through.active) through.none over synced none-recovers (few-roles new.newest under.fit.valid) since

  -- one fewer is left where no role was missing, and the call tells no loss
  pub finish-left : AreWhole old → list_any disturbs (losses_of roles spares ++ losses_of late late_spares) ≡ false → still_left work new ahead + 1 ≡ left_in work old course ahead
  finish-left all quiet =
      whole-left old new work ahead (under-way-of old.newest placed.fit through.active) through.none over
      (whole-idle work new synced over.still none-recovers
      (whole-new old new work ahead who end roles spares late late_spares (under-way-of old.newest placed.fit through.active) through.none over synced none-recovers (few-roles new.newest under.fit.valid) since quiet all))
      ∙ ap (λ (k : Course). left_by None old k ahead) (sym at) ∙ ap (λ (o : Option ℕ). left_by o old course ahead) (sym synced)
