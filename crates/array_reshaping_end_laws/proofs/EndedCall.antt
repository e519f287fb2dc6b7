-- What `finish` leaves where it isn't refused is what is asked of a call by which a reshape ends.
use Rattle.std.proofs.Common.{◌≡◌, ◌⊎◌, inl, inr, ℕ, ◌<◌, ◌≤◌, ◌&&◌, ◌||◌, nat_lt, max, Bool, true, false, not, Some, is_some, List, refl, sym, ◌∙◌, ap, arith}
use Rattle.std.proofs.lemmas.Bool.Decides.{nat_tests}
use Rattle.array_fixed_invariant.specs.raid_types_Shapes.{has_slot}
use Rattle.array_fixed_invariant.specs.raid_types_the_Role.{Role}
use Rattle.array_fixed_invariant.specs.raid_types_the_Role_TheVariants.{Whole, Recovering, Missing}
use Rattle.array_fixed_invariant.specs.raid_types_Sectors.{Sector}
use Rattle.array_fixed_invariant.specs.raid_types_the_Shape.{Shape}
use Rattle.array_fixed_invariant.specs.bank_the_Operation.{Operation}
use Rattle.array_fixed_invariant.specs.bank_Given.{Given}
use Rattle.array_fixed_invariant.specs.bank_Tape.{disk}
use Rattle.array_fixed_invariant.specs.reshape_geometry_Geometry.{zeroed_stripes}
use Rattle.array_fixed_invariant.specs.sb_codec_the_Sb.{Sb}
use Rattle.array_fixed_invariant.specs.sb_specs_the_Members.{Members}
use Rattle.array_fixed_invariant.specs.sb_specs_Held.{AreDrawn}
use Rattle.array_fixed_invariant.specs.sb_specs_Reading.{Scope, is_reshaping, is_backward, is_whole, shape_of, final_shape, role_count, role_state, holder, data_offset_of}
use Rattle.array_fixed_invariant.specs.sb_specs_Updating.{planned_newest}
use Rattle.array_fixed_invariant.proofs.sb_specs_ValidFields.{few-roles}
use Rattle.array_fixed_invariant.proofs.sb_read_laws_SaidSlots.{below-length}
use Rattle.array_fixed_invariant.specs.stripe_row_Rows.{reading_of, present, is_missing}
use Rattle.array_fixed_invariant.specs.history_Sound.{OpensFit}
use Rattle.array_fixed_invariant.specs.history_World.{World}
use Rattle.array_fixed_invariant.specs.crash_views_Regions.{ArePlaced}
use Rattle.array_fixed_invariant.specs.crash_views_Views.{Ledger}
use Rattle.array_fixed_invariant.proofs.crash_views_Alike.{shape-alike, final-alike}
use Rattle.array_fixed_invariant.specs.crash_safety_laws_Changing.{IsSafeChange}
use Rattle.array_fixed_invariant.specs.crash_safety_laws_Marking.{AreOthersPresent}
use Rattle.array_fixed_invariant.specs.crash_safety_laws_Safety.{HasLiveSlot, HasRoomLeft, IsRisen}
use Rattle.array_fixed_invariant.specs.crash_safety_laws_Steady.{AreUnlost, IsSteady, IsSafeOver, AreGoneTold, IsUncleanTold}
use Rattle.array_fixed_invariant.specs.crash_safety_laws_Updates.{IsAtEnd}
use Rattle.array_fixed_invariant.proofs.crash_safety_laws_ChangeSafe.{told-changed}
use Rattle.array_fixed_invariant.proofs.crash_safety_laws_ChangeViews.{later-says}
use Rattle.array_fixed_invariant.proofs.crash_safety_laws_FitKinds.{dropping-is-fit}
use Rattle.array_fixed_invariant.proofs.crash_safety_laws_Risen.{room-first, room-then}
use Rattle.array_fixed_invariant.specs.crash_reshape_laws_Plans.{HasNoneRecovering}
use Rattle.array_fixed_invariant.specs.reshape_sb_updates_Ending.{ending}
use Rattle.array_fixed_invariant.proofs.reshape_sb_updates_EndedPlan.{dropping, planned-fits-is}
use Rattle.array_fixed_invariant.specs.array_members_Placed.{is_unassigned, IsPlaced}
use Rattle.array_fixed_invariant.proofs.array_members_HeldRows.{vacant-missing, without-before}
use Rattle.array_fixed_invariant.proofs.array_members_LiveLeft.{left-steady, without-left}
use Rattle.array_fixed_invariant.proofs.array_members_Still.{count-still}
use Rattle.array_fixed_invariant.specs.reshape_begin_end_Finished.{IsOver, IsEndedBehind, IsFinishable}
use Rattle.array_fixed_invariant.proofs.reshape_begin_end_FinishLaws.{active-then, small-then, whole-then}
use Rattle.array_fixed_invariant.specs.history_invariant_Safe.{world_in}
use Rattle.array_fixed_invariant.proofs.history_invariant_Lengths.{now-drawn}
use Rattle.array_fixed_invariant.proofs.history_invariant_laws_Behind.{IsAmong}
use Rattle.array_reshaping_end_laws.proofs.Ended.{IsEndingCall}
use Rattle.array_reshaping_end_laws.proofs.EndedRows.{HaveEnded, ended-stands}
use Rattle.array_fixed_invariant.proofs.array_reshaping_invariant_ReadShapes.{HasShapesOf, IsEitherRead, either-read_since}

-- What is asked before it, and what it leaves where it isn't refused; what is missing then was missing, or its slot was lost in the flush or in the update.
pub record IsEndedBy (tells : Type 0) (given : Given) (tape tape' : List Operation) (old new : Members) (roles late : ℕ) : Type 0 where
  pub last : IsAtEnd old.newest
  pub over : IsOver old.newest new.newest
  pub ended : IsEndedBehind tells given roles old new tape tape'
  pub placed : IsPlaced given new
  pub unlost : AreUnlost new
  pub states : (role slot : ℕ) → holder (role_state (reading_of new) role) ≡ Some slot → role_state (reading_of new) role ≡ role_state (reading_of old) role
  pub offsets : (slot : ℕ) → data_offset_of (reading_of new) slot ≡ data_offset_of (reading_of old) slot
  pub others : tells → AreOthersPresent (present given tape) (present given tape')
  pub rise : IsRisen tells old new tape tape'
  pub gone : (role : ℕ) → IsAmong roles role → (slot : ℕ) × (holder (role_state (reading_of old) role) ≡ Some slot)
  pub since : (role : ℕ) → role < role_count new.newest → is_missing (reading_of new) role ≡ true → (is_missing (reading_of old) role ≡ true) ⊎ (IsAmong roles role ⊎ IsAmong late role)
  pub safe : tells → (world : World) → (told more : Ledger) → (list : ℕ → Sector) → HasRoomLeft old tape tape' → ArePlaced world.scope given old
      → IsFinishable (OpensFit world) more old (present given tape) list → AreGoneTold told old → ((role : ℕ) → IsAmong roles role → told.gone role ≡ true) → AreGoneTold more new
      → IsUncleanTold told old → IsUncleanTold more old → ((slot number : ℕ) → told.carried slot number ≡ true → more.carried slot number ≡ true) → IsSafeOver world given told old tape
      → IsSafeChange (OpensFit world) world.scope given told more new tape tape'

-- What is missing then was so, or it is told lost: the late roles are those that no slot holds then, but for those that none held before, and those that were told lost
-- in the flush.
module _ (old new : Members) (first roles late : ℕ) (still : is_reshaping new.newest ≡ false) (whole : HasNoneRecovering old)
    (states : (role slot : ℕ) → holder (role_state (reading_of new) role) ≡ Some slot → role_state (reading_of new) role ≡ role_state (reading_of old) role)
    (first-is : (role : ℕ) → has_slot first role ≡ true → is_unassigned (reading_of old) role ≡ true)
    (late-is : (role : ℕ) → has_slot late role ≡ ((nat_lt role (shape_of new.newest).disks && is_unassigned (reading_of new) role) && not (has_slot first role || has_slot roles role))) where
  vacant-then : (role : ℕ) → is_missing (reading_of new) role ≡ true → is_unassigned (reading_of new) role ≡ true
  vacant-then role miss = of (role_state (reading_of new) role) refl
    where
      of : (state : Role) → role_state (reading_of new) role ≡ state → is_unassigned (reading_of new) role ≡ true
      of (Whole slot) is = absurd (let clash = sym (ap (λ (s : Role). not (is_whole s)) is) ∙ miss in cc)
      of (Recovering slot) is = absurd (whole role slot (sym (states role slot (ap holder is)) ∙ is))
      of Missing is = ap (λ (s : Role). not (is_some (holder s))) is

  is-less : (a b : ℕ) → a < b → nat_lt a b ≡ true
  is-less a b lt = grind (arith, nat_tests, lt)

  pub ended-since : (role : ℕ) → role < role_count new.newest → is_missing (reading_of new) role ≡ true → (is_missing (reading_of old) role ≡ true) ⊎ (IsAmong roles role ⊎ IsAmong late role)
  ended-since role lt miss = of (has_slot first role) (has_slot roles role) refl refl
    where
      below : role < (shape_of new.newest).disks
      below = let count = count-still new.newest still in omega (arith, lt, count)

      of : (a b : Bool) → has_slot first role ≡ a → has_slot roles role ≡ b → (is_missing (reading_of old) role ≡ true) ⊎ (IsAmong roles role ⊎ IsAmong late role)
      of true b none has = inl (vacant-missing (reading_of old) role (first-is role none))
      of false true none has = inr (inl has)
      of false false none has = inr (inr (late-is role ∙ (λ i. (is-less role (shape_of new.newest).disks below i && vacant-then role miss i) && not (none i || has i))))

module _ (tells : Type 0) (given : Given) (tape tape' : List Operation) (scope : Scope) (first : ℕ) (old new : Members) (roles late : ℕ) (t : tells) (was : IsPlaced given old) (unlost : AreUnlost old)
    (backed : ArePlaced scope given old) (active : is_reshaping old.newest ≡ true) (whole : HasNoneRecovering old) (did : IsEndedBy tells given tape tape' old new roles late) where
  abbrev flushed : Members
  flushed = did.ended.flushed

  abbrev plan : Sb
  plan = planned_newest (ending did.ended.flushed).shared did.ended.flushed.newest

  -- ---- what is read at its end

  live : HasLiveSlot flushed
  live = without-left given flushed did.ended.moved.placed did.ended.moved.unlost did.ended.enough

  module _ (told : Ledger) (room : HasRoomLeft old tape tape') (gone : AreGoneTold told old) (lost : (role : ℕ) → IsAmong roles role → told.gone role ≡ true) (unclean : IsUncleanTold told old)
      (safe : IsSafeOver (world_in given tape scope first) given told old tape) where
    steady : IsSteady (OpensFit (world_in given tape scope first)) scope given told flushed (disk given.start did.ended.mid)
    steady = left-steady live (did.ended.safe t (world_in given tape scope first) told (room-first old tape did.ended.mid tape' room (did.ended.update.update.marks.longer t)) gone lost unclean safe)

    drawn : AreDrawn (disk given.start tape') (present given tape')
    drawn slot = (now-drawn given tape' slot 8, now-drawn given tape' slot 9)

    shapes-of : (sb : Sb) → HasShapesOf flushed.newest sb ⊎ HasShapesOf plan sb → HasShapesOf old.newest sb ⊎ HasShapesOf new.newest sb
    shapes-of sb (inl says) = inl (record { old = says.old ∙ did.ended.moved.shape; final = says.final ∙ did.ended.moved.reshape.final; size = says.size ∙ did.ended.moved.size })
    shapes-of sb (inr says) =
        let later = later-says plan new.newest did.ended.update.newest in
        inr (record { old = says.old ∙ shape-alike plan new.newest later; final = says.final ∙ final-alike plan new.newest later; size = says.size ∙ later.size })

    ended-read : IsEitherRead scope (present given tape') old.newest new.newest
    ended-read =
        let on = active-then given old flushed did.ended.moved active did.last whole in
        let small = small-then given old flushed did.ended.moved active did.last whole in
        let all_whole = whole-then given old flushed did.ended.moved active did.last whole in
        let fit = did.ended.moved.placed.fit in
        let many = did.ended.moved.placed.roles in
        let read = either-read_since scope given (ending flushed) flushed new did.ended.mid tape' steady.former steady.since (told-changed t did.ended.update)
        (room-then tape' t room did.ended.rise live)
        (dropping-is-fit scope steady.former flushed (ending flushed) (disk given.start did.ended.mid) steady.since (dropping flushed on fit many small all_whole))
        (planned-fits-is flushed on fit many small all_whole) (present given tape') drawn in
        record { found = read.found; is = read.is; says = shapes-of read.found.newest read.says }

  -- ---- the call

  have-ended : HaveEnded given old new
  have-ended = record {
    placed = did.placed;
    unlost = did.unlost;
    last = did.last;
    still = did.over.still;
    shape = did.over.shape;
    size = did.over.size;
    states = did.states;
    offsets = did.offsets;
    enough = without-before given old flushed did.ended.moved did.ended.enough;
  }

  -- the new shape has no more roles than both
  count-then : role_count new.newest ≤ role_count old.newest
  count-then =
      let count = count-still new.newest did.over.still in
      let disks = ap (λ (s : Shape). s.disks) did.over.shape in
      let most = larger (shape_of old.newest).disks (final_shape old.newest).disks in
      omega (arith, count, disks, most)
    where
      larger : (a b : ℕ) → b ≤ max a b
      larger a b = omega arith

  pub ended-call : (carried carried' : ℕ → ℕ → Bool) (zeroed : ℕ) (buffer : List ℕ) → zeroed ≡ zeroed_stripes (shape_of old.newest) (final_shape old.newest) old.newest.size (is_backward old.newest)
      → ((slot number : ℕ) → carried slot number ≡ true → carried' slot number ≡ true) → IsEndingCall given tape scope first old new carried carried' zeroed buffer roles late tape'
  ended-call carried carried' zeroed buffer all numbers = record {
    have = have-ended;
    clean = did.over.clean;
    few = few-roles new.newest did.placed.fit.valid;
    within = λ role has.
        let held = did.gone role has in
        let below = below-length old.roles role held.0 held.1 in
        let long = was.roles in
        let few = few-roles old.newest was.fit.valid in
        omega (arith, below, long, few);
    numbers = numbers;
    since = λ role lt miss. elim (did.since role lt miss) [
      | inl before ↦ inl (let most = count-then in omega (arith, lt, most), before)
      | inr has ↦ inr has
    ];
    rise = record { left = did.rise.left; events = λ one live. did.rise.events t live };
    stands = λ list stands. ended-stands scope given old new was unlost backed active whole have-ended (OpensFit (world_in given tape scope first)) buffer zeroed all (present given tape) (present given tape') list (did.others t) stands;
    read = ended-read;
    safe = λ told more list room able gone lost gone_new unclean unclean_more carries safe. did.safe t (world_in given tape scope first) told more list room backed able gone lost gone_new unclean unclean_more carries safe;
  }
