-- An array whose reshape ends keeps its record without it, from what `finish` leaves where it isn't refused.
use Rattle.std.proofs.Common.{◌≡◌, inl, inr, ℕ, ◌==◌, ◌≤◌, Bool, true, false, None, List, ◌++◌, length, refl, sym, ◌∙◌, ap, subst, ◌||◌}
use Rattle.std.specs.Prelude.{IsFalse, ⊤}
use Rattle.array_fixed_invariant.specs.raid_types_Shapes.{tolerance_of}
use Rattle.array_fixed_invariant.specs.raid_types_the_Who.{Who}
use Rattle.array_fixed_invariant.specs.raid_types_the_Shape.{Shape}
use Rattle.array_fixed_invariant.specs.bank_the_Operation.{Operation}
use Rattle.array_fixed_invariant.specs.bank_Given.{Given}
use Rattle.array_fixed_invariant.specs.reshape_geometry_Geometry.{zeroed_stripes}
use Rattle.array_fixed_invariant.specs.sb_specs_the_Members.{Members}
use Rattle.array_fixed_invariant.specs.sb_specs_Reading.{Scope, is_backward, shape_of, final_shape, list_length, role_count}
use Rattle.array_fixed_invariant.proofs.sb_specs_ValidFields.{few-roles}
use Rattle.array_fixed_invariant.specs.stripe_row_Rows.{present}
use Rattle.array_fixed_invariant.specs.history_the_Entry.{Entry}
use Rattle.array_fixed_invariant.specs.history_Epochs.{HasRoomForEvents}
use Rattle.array_fixed_invariant.specs.history_Flat.{now}
use Rattle.array_fixed_invariant.specs.history_Legal.{level_at}
use Rattle.array_fixed_invariant.specs.history_Losses.{is_unsynced}
use Rattle.array_fixed_invariant.specs.history_OneShape.{is_unsettled}
use Rattle.array_fixed_invariant.specs.history_Plain.{entries_of}
use Rattle.array_fixed_invariant.specs.history_Sound.{OpensFit}
use Rattle.array_fixed_invariant.specs.history_World.{opening_list}
use Rattle.array_fixed_invariant.specs.crash_safety_laws_Safety.{HasLiveSlot}
use Rattle.array_fixed_invariant.specs.array_members_Moving.{Grows}
use Rattle.array_fixed_invariant.specs.history_append_Losing.{losses_of}
use Rattle.array_fixed_invariant.proofs.sb_safe_updates_MarkEnds.{some-or-none}
use Rattle.array_fixed_invariant.specs.history_invariant_Recorded.{IsHistoryKept, IsCallGoing}
use Rattle.array_fixed_invariant.specs.history_invariant_Safe.{world_in, IsFilledRight, IsSafeHistory}
use Rattle.array_fixed_invariant.specs.reshape_progress_Laws.{closed}
use Rattle.array_fixed_invariant.specs.history_invariant_laws_Reliable.{IsReliable, AreToldGone, IsNonePast}
use Rattle.array_fixed_invariant.specs.array_reshaping_invariant_Moving.{HasListStill, IsStillKept, IsMoving}
use Rattle.array_reshaping_end_laws.proofs.Ended.{IsPlannedTo, IsStepped, IsEndingCall, ended-before, ended-gone, ended-unclean, ended-level, ended-listed, ended-past, ended-safe, ended-recorded}
use Rattle.array_reshaping_end_laws.proofs.EndedCall.{IsEndedBy, ended-call}
use Rattle.array_reshaping_end_laws.proofs.Ending.{grown_to, ending_events}

-- Whether superblocks may tell the reshape still: where no live slot is left.
record IsToldStill (m : Members) : Type 0 where
  pub reshaping : Bool
  pub over : HasLiveSlot m → reshaping ≡ false
  pub goes_on : (HasLiveSlot m → ⊥) → reshaping ≡ true

told-still : (m : Members) → IsToldStill m
told-still m = elim (some-or-none m false m.lost) [
  | inl live ↦ record { reshaping = false; over = λ some. refl; goes_on = λ none. absurd (none live) }
  | inr none ↦ record { reshaping = true; over = λ some. absurd (none some); goes_on = λ none. refl }
]

-- What the call leaves, of what is kept over a bank that tells its contents.
record IsStillLeft (given : Given) (tape : List Operation) (scope : Scope) (first : ℕ) (entries all : List Entry) (old new : Members) (carried' : ℕ → ℕ → Bool) (reshaping : Bool) (tape' : List Operation) : Type 0 where
  pub right : IsReliable (world_in given tape' scope first) all → IsReliable (world_in given tape scope first) entries
  pub levelled : level_at (world_in given tape' scope first) all ≡ level_at (world_in given tape scope first) entries
  pub gone : IsReliable (world_in given tape' scope first) all → AreToldGone (world_in given tape' scope first) all new
  pub unclean : (is_unsynced (world_in given tape scope first) entries || is_unsettled entries) ≡ true → (is_unsynced (world_in given tape' scope first) all || is_unsettled all) ≡ true
  pub recorded : IsHistoryKept (IsReliable (world_in given tape' scope first) all) (world_in given tape' scope first) (list_length new.newest) all
  pub past : IsNonePast (world_in given tape' scope first) all (list_length new.newest)
  pub listed : IsFilledRight (world_in given tape' scope first) all → HasListStill (OpensFit (world_in given tape' scope first)) new (present given tape') (now (opening_list (world_in given tape' scope first)) all)
  pub safe : IsFilledRight (world_in given tape' scope first) all → HasRoomForEvents (world_in given tape' scope first)
      → IsSafeHistory ⊤ (world_in given tape' scope first) given new carried' reshaping all

module _ (tells : Type 0) (given : Given) (tape tape' : List Operation) (scope : Scope) (first : ℕ) (entries : List Entry) (old new : Members) (carried carried' : ℕ → ℕ → Bool) (buffer : List ℕ) (zeroed steps left : ℕ)
    (who : Who) (end roles spares late late_spares : ℕ) (was : IsMoving tells given tape scope first entries old carried None (closed zeroed) buffer steps) (goes : IsCallGoing entries who) (caller : IsFalse (who.caller == 254))
    (at_end : tells → end ≡ length tape') (grows : Grows tells tape tape')
    (all_zeroed : zeroed ≡ zeroed_stripes (shape_of old.newest) (final_shape old.newest) old.newest.size (is_backward old.newest))
    (stepped : IsStepped old steps left (losses_of roles spares ++ losses_of late late_spares)) (planned : tells → IsPlannedTo (world_in given tape scope first) entries old left) (numbers : (slot number : ℕ) → carried slot number ≡ true → carried' slot number ≡ true)
    (did : IsEndedBy tells given tape tape' old new roles late) where
  few : role_count old.newest ≤ 16
  few = few-roles old.newest was.members_are.placed.fit.valid

  abbrev Then : List Operation → ℕ → Type 0
  Then l e = IsEndingCall given tape scope first old new carried carried' zeroed buffer roles late l
      → IsStillLeft given tape scope first entries (entries ++ entries_of who e (ending_events roles spares left (grown_to (list_length old.newest) (list_length new.newest)) late late_spares)) old new carried'
      (told-still new).reshaping l

  left-by : (t : tells) (ops : List Operation) → Then (tape ++ ops) (length (tape ++ ops))
  left-by t ops call = record {
    right = ended-before given tape scope first entries old new carried carried' buffer zeroed steps left who roles spares late late_spares ops tells was t few all_zeroed stepped (planned t) call;
    levelled = ended-level given tape scope first entries old new carried carried' buffer zeroed steps left who roles spares late late_spares ops tells was t few all_zeroed stepped (planned t) call;
    gone = ended-gone given tape scope first entries old new carried carried' buffer zeroed steps left who roles spares late late_spares ops tells was t few all_zeroed stepped (planned t) call;
    unclean = ended-unclean given tape scope first entries old new carried carried' buffer zeroed steps left who roles spares late late_spares ops tells was t few all_zeroed stepped (planned t) call;
    recorded = ended-recorded given tape scope first entries old new carried carried' buffer zeroed steps left who roles spares late late_spares ops tells was t few all_zeroed stepped (planned t) call goes caller;
    past = ended-past given tape scope first entries old new carried carried' buffer zeroed steps left who roles spares late late_spares ops tells was t few all_zeroed stepped (planned t) call;
    listed = ended-listed given tape scope first entries old new carried carried' buffer zeroed steps left who roles spares late late_spares ops tells was t few all_zeroed stepped (planned t) call;
    safe = ended-safe given tape scope first entries old new carried carried' buffer zeroed steps left who roles spares late late_spares ops tells was t few all_zeroed stepped (planned t) call
        (told-still new).reshaping (told-still new).goes_on;
  }

  leaves : tells → IsStillLeft given tape scope first entries (entries ++ entries_of who end (ending_events roles spares left (grown_to (list_length old.newest) (list_length new.newest)) late late_spares)) old new carried'
      (told-still new).reshaping tape'
  leaves t =
      let g = grows.more t in
      subst (λ (l : List Operation). Then l end) (sym g.1)
      (subst (Then (tape ++ g.0)) (sym (at_end t ∙ ap (λ (l : List Operation). length l) g.1)) (left-by t g.0))
      (ended-call tells given tape tape' scope first old new roles late t was.members_are.placed was.members_are.unlost was.members_are.backed was.members_are.active was.members_are.whole did carried carried' zeroed buffer
      all_zeroed numbers)

  -- So the array keeps its record, and no reshape is active in it.
  pub array-ends : IsStillKept tells given tape' scope first (entries ++ entries_of who end (ending_events roles spares left (grown_to (list_length old.newest) (list_length new.newest)) late late_spares)) new carried'
  array-ends = record {
    slots = was.slots;
    placed = did.placed;
    still = did.over.still;
    reshaping = (told-still new).reshaping;
    over = (told-still new).over;
    sizes_are = was.sizes_are;
    levelled = λ t right. ap tolerance_of (leaves t).levelled ∙ was.levelled t ((leaves t).right right)
        ∙ ap tolerance_of (sym was.members_are.placed.fit.level ∙ ap (λ (s : Shape). s.level) (sym did.over.shape));
    gone = λ t. (leaves t).gone;
    unclean = λ t dirty. (leaves t).unclean (was.unclean t (sym did.over.clean ∙ dirty));
    recorded = λ t. (leaves t).recorded;
    past = λ t. (leaves t).past;
    listed = λ t does fills. (leaves t).listed fills;
    safe = λ t. (leaves t).safe;
  }
