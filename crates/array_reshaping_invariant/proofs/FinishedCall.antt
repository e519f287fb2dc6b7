-- What `finish_window` answers makes what an array in a reshape keeps, whether the window is finished or the call is refused.
use Rattle.std.proofs.Common.{◌≡◌, ◌≢◌, ℕ, ◌==◌, Bool, List, [], ◌∷◌, ◌++◌, length, Option, Some, None, refl, sym, subst}
use Rattle.std.specs.Prelude.{IsFalse, MatchOption, ⊤}
use Rattle.history_invariant_laws.specs.raid_types_Sectors.{Sector}
use Rattle.history_invariant_laws.specs.raid_types_the_Refusal.{Refusal}
use Rattle.history_invariant_laws.specs.raid_types_the_Who.{Who}
use Rattle.history_invariant_laws.specs.raid_types_the_Shape.{Shape}
use Rattle.history_invariant_laws.specs.raid_types_the_Span.{Span}
use Rattle.reshape_progress_resync_laws.specs.bank_the_Operation.{Operation}
use Rattle.reshape_progress_resync_laws.specs.bank_Given.{Given}
use Rattle.reshape_progress_resync_laws.specs.bank_Tape.{disk}
use Rattle.reshape_progress_resync_laws.specs.reshape_geometry_Geometry.{stripes}
use Rattle.reshape_progress_resync_laws.specs.sb_specs_the_Members.{Members}
use Rattle.reshape_progress_resync_laws.specs.sb_specs_Reading.{Scope, is_clean, final_shape}
use Rattle.reshape_progress_resync_laws.proofs.sb_specs_ValidFields.{few-roles}
use Rattle.reshape_progress_resync_laws.specs.stripe_row_Rows.{reading_of, present}
use Rattle.reshape_progress_resync_laws.specs.history_the_Entry.{Entry}
use Rattle.reshape_progress_resync_laws.specs.history_the_Event.{Event}
use Rattle.reshape_progress_resync_laws.specs.history_the_Event_TheVariants.{Refused, Step}
use Rattle.reshape_progress_resync_laws.specs.history_the_StepKind_TheVariants.{WindowFinished as FinishesWindow}
use Rattle.reshape_progress_resync_laws.specs.history_Plain.{entries_of}
use Rattle.reshape_progress_resync_laws.specs.history_Sound.{OpensFit}
use Rattle.reshape_progress_resync_laws.specs.history_World.{World}
use Rattle.reshape_progress_resync_laws.specs.crash_views_Regions.{DoWithout, ArePlaced}
use Rattle.reshape_progress_resync_laws.specs.crash_views_Views.{AreHeadersFit, Ledger}
use Rattle.reshape_progress_resync_laws.specs.crash_views_Windows.{HasNoSection, moved_past}
use Rattle.reshape_progress_resync_laws.specs.crash_safety_laws_Safety.{HasRoomLeft, IsRisen}
use Rattle.reshape_progress_resync_laws.specs.crash_safety_laws_Steady.{IsSafeOver, KeepsSafe, AreGoneTold, IsUncleanTold}
use Rattle.reshape_progress_resync_laws.specs.array_members_Placed.{IsPlaced}
use Rattle.reshape_progress_resync_laws.specs.sb_safe_updates_Unused.{IsUnusedKept}
use Rattle.reshape_progress_resync_laws.specs.array_members_Moving.{Grows, IsMoved}
use Rattle.reshape_progress_resync_laws.specs.array_members_Lacking.{AreTooMany, AreOtherRowsKept}
use Rattle.reshape_progress_resync_laws.specs.reshape_window_rows_Copies.{tail_of, IsCopied}
use Rattle.reshape_window_io.specs.Finishing.{IsOfRest, AreStripesCopied, IsOpenWindow}
use Rattle.history_invariant_laws.specs.history_append_Losing.{losses_of}
use Rattle.history_invariant_laws.specs.history_invariant_Recorded.{IsCallGoing}
use Rattle.reshape_progress_resync_laws.specs.reshape_progress_the_Course.{Course}
use Rattle.reshape_progress_resync_laws.specs.reshape_progress_Laws.{closed, entered}
use Rattle.array_reshaping_invariant.specs.Moving.{IsMoving}
use Rattle.array_reshaping_invariant.proofs.Steps.{AreMissingSince}
use Rattle.array_reshaping_invariant.proofs.Finishing.{IsRestWritten, finished-moves, unfinished-moves}

-- ---- by the answer

-- the event behind the losses
abbrev pub finish_event : Option Refusal → ℕ → Event
finish_event None left = Step FinishesWindow left
finish_event (Some refusal) left = Refused refusal

-- how far the reshape has come then, where the window had so many of its stripes copied
abbrev pub finish_course : Option Refusal → Span → ℕ → Bool → Course
finish_course None span copied sectioned = closed 0
finish_course (Some refusal) span copied sectioned = entered span copied sectioned

-- the steps that are left
abbrev pub finish_left : Option Refusal → ℕ → ℕ → ℕ
finish_left None former left = left
finish_left (Some refusal) former left = former

-- ---- the call

-- What the call leaves by its contract; what is missing since is of these roles.
pub record IsFinishedBy (tells : Type 0) (given : Given) (tape tape' : List Operation) (old new : Members) (shape : Shape) (span : Span) (copied done : ℕ) (buffer : List ℕ) (roles : ℕ) (refusal : Option Refusal) : Type 0 where
  pub final : shape ≡ final_shape old.newest
  pub moved : MatchOption refusal (IsMoved given (moved_past span old) new) (λ refusal. IsMoved given old new)
  pub refused : MatchOption refusal ⊤ (AreTooMany new)
  pub clean : is_clean new.newest ≡ is_clean old.newest
  pub all : refusal ≡ None → done ≡ stripes shape span.lo span.hi
  pub stands : tells → (list : ℕ → Sector) → IsCopied span buffer (tail_of old.newest) list → AreStripesCopied shape span copied old (present given tape) list → AreStripesCopied shape span done new (present given tape') list
  pub others : tells → AreOtherRowsKept (IsOfRest shape span copied) (reading_of new) (present given tape) (present given tape')
  pub plain : refusal ≡ None → tells → (scope : Scope) → ArePlaced scope given old → AreHeadersFit scope old (disk given.start tape)
      → HasNoSection scope new (disk given.start tape') × AreHeadersFit scope new (disk given.start tape')
  pub rise : IsRisen tells old new tape tape'
  pub unused : tells → IsUnusedKept old (disk given.start tape) (disk given.start tape')
  pub since : AreMissingSince old new roles
  pub safe : tells → (world : World) → (told : Ledger) → HasRoomLeft old tape tape' → AreGoneTold told new → IsUncleanTold told old → (list : ℕ → Sector)
      → IsOpenWindow (OpensFit world) world.scope told old span buffer copied list (present given tape) (disk given.start tape)
      → IsSafeOver world given told old tape → KeepsSafe world given told new tape tape'

module _ (tells : Type 0) (given : Given) (tape tape' : List Operation) (scope : Scope) (first : ℕ) (entries : List Entry) (old new : Members) (carried : ℕ → ℕ → Bool)
    (resync : Option ℕ) (shape : Shape) (span : Span) (copied done : ℕ) (sectioned : Bool) (buffer : List ℕ) (who : Who) (end roles spares : ℕ)
    (goes : IsCallGoing entries who) (caller : IsFalse (who.caller == 254)) (at_end : tells → end ≡ length tape') (grows : Grows tells tape tape') (enough : DoWithout old) where
  rest : (refusal : Option Refusal) → IsPlaced given new → IsFinishedBy tells given tape tape' old new shape span copied done buffer roles refusal → IsRestWritten tells given tape tape' old new span copied buffer roles
  rest refusal placed did = record {
    few = few-roles new.newest placed.fit.valid;
    since = did.since;
    enough = enough;
    clean = did.clean;
    unused = did.unused;
    rise = λ t. record { left = did.rise.left; events = λ one live. did.rise.events t live };
    others = λ t. subst (λ (s : Shape). AreOtherRowsKept (IsOfRest s span copied) (reading_of new) (present given tape) (present given tape')) did.final (did.others t);
    safe = did.safe;
  }

  -- The call keeps the record, where the shapes in force did without what was missing before it.
  pub finish-moves : (refusal : Option Refusal) (former left : ℕ) → IsMoving tells given tape scope first entries old carried resync (entered span copied sectioned) buffer former → left ≢ 0
      → IsFinishedBy tells given tape tape' old new shape span copied done buffer roles refusal
      → IsMoving tells given tape' scope first (entries ++ entries_of who end (losses_of roles spares ++ finish_event refusal left ∷ [])) new carried resync (finish_course refusal span copied sectioned) buffer (finish_left refusal former left)
  finish-moves None former left was some did =
      finished-moves tells given tape tape' scope first entries old new carried resync span copied sectioned buffer who end roles spares goes caller at_end grows (rest None did.moved.placed did) former left was some did.moved
      (λ t list buffered written. subst (λ (s : Shape). AreStripesCopied s span (stripes s span.lo span.hi) new (present given tape') list) did.final
      (subst (λ (n : ℕ). AreStripesCopied shape span n new (present given tape') list) (did.all refl)
      (did.stands t list buffered (subst (λ (s : Shape). AreStripesCopied s span copied old (present given tape) list) (sym did.final) written))))
      (λ t headers. did.plain refl t scope was.members_are.backed headers)
  finish-moves (Some refusal) former left was some did =
      unfinished-moves tells given tape tape' scope first entries old new carried resync span copied sectioned buffer who end roles spares goes caller at_end grows (rest (Some refusal) did.moved.placed did) former refusal was did.moved did.refused
