-- A reshape that begins in an array that keeps its record without one leaves an array that keeps it in the reshape.
use Rattle.std.proofs.Common.{◌≡◌, ◌≢◌, inl, inr, ℕ, ◌+◌, ◌<◌, ◌≤◌, ◌==◌, nat_lt, Bool, true, false, cond, Option, Some, None, List, [], ◌∷◌, ◌++◌, length, refl, sym, ◌∙◌, ap, subst, arith, append-nil}
use Rattle.std.specs.Prelude.{IsFalse, IfSome, fold}
use Rattle.std.proofs.lemmas.Bool.Decides.{nat_tests}
use Rattle.history_invariant_laws.specs.raid_types_Search.{count_below}
use Rattle.history_invariant_laws.specs.raid_types_Sectors.{Sector, zero_sector}
use Rattle.history_invariant_laws.specs.raid_types_Shapes.{tolerance, tolerance_of}
use Rattle.history_invariant_laws.specs.raid_types_the_Who.{Who}
use Rattle.history_invariant_laws.specs.raid_types_the_Shape.{Shape}
use Rattle.reshape_progress_resync_laws.specs.bank_the_Operation.{Operation}
use Rattle.reshape_progress_resync_laws.specs.bank_Given.{Given}
use Rattle.reshape_progress_resync_laws.specs.bank_Tape.{disk}
use Rattle.reshape_progress_resync_laws.specs.sb_specs_the_Members.{Members}
use Rattle.reshape_progress_resync_laws.specs.sb_specs_Reading.{Scope, is_clean, shape_of, list_length}
use Rattle.reshape_progress_resync_laws.specs.stripe_row_Rows.{reading_of, present, is_missing}
use Rattle.reshape_progress_resync_laws.specs.history_the_Entry.{Entry}
use Rattle.reshape_progress_resync_laws.specs.history_the_Event.{Event}
use Rattle.reshape_progress_resync_laws.specs.history_the_Event_TheVariants.{Step}
use Rattle.reshape_progress_resync_laws.specs.history_the_StepKind_TheVariants.{Begun}
use Rattle.reshape_progress_resync_laws.specs.history_Flat.{now, values_after}
use Rattle.reshape_progress_resync_laws.specs.history_Legal.{told_left, left_after}
use Rattle.reshape_progress_resync_laws.specs.history_Losses.{is_unsynced}
use Rattle.reshape_progress_resync_laws.specs.history_Plain.{entries_of}
use Rattle.reshape_progress_resync_laws.specs.history_Sound.{OpensFit}
use Rattle.reshape_progress_resync_laws.specs.history_World.{World, opening_list}
use Rattle.reshape_progress_resync_laws.specs.crash_views_Regions.{ArePlaced, DoWithout}
use Rattle.reshape_progress_resync_laws.proofs.crash_views_Stands.{final-still}
use Rattle.reshape_progress_resync_laws.specs.crash_reshape_laws_Ends.{IsBegun, IsCleared}
use Rattle.reshape_progress_resync_laws.proofs.crash_reshape_laws_EndLaws.{cleared-plain, fewer-pass}
use Rattle.reshape_progress_resync_laws.specs.array_members_Moving.{Grows, IsMoved}
use Rattle.reshape_progress_resync_laws.specs.array_members_Lacking.{DoesWithout, AreOtherRowsKept}
use Rattle.reshape_progress_resync_laws.proofs.array_members_Fit.{list-alike}
use Rattle.reshape_progress_resync_laws.proofs.array_members_HeldRows.{missing-moved}
use Rattle.history_invariant_laws.specs.history_append_Losing.{losses_of}
use Rattle.history_invariant_laws.proofs.history_append_CallLaws.{losses-are}
use Rattle.history_invariant_laws.proofs.history_append_LeftLaws.{left-behind, fold-left}
use Rattle.history_invariant_laws.specs.history_invariant_Recorded.{IsHistoryKept, IsCallGoing, IsOpenBehind}
use Rattle.history_invariant_laws.specs.history_invariant_Safe.{world_in, IsFilledRight}
use Rattle.history_invariant_laws.proofs.history_invariant_Growing.{fit-grown, room-before}
use Rattle.history_invariant_laws.proofs.history_invariant_Turned.{filled-before}
use Rattle.reshape_progress_resync_laws.specs.reshape_progress_Laws.{closed}
use Rattle.reshape_progress_resync_laws.proofs.reshape_progress_Frames.{does-or}
use Rattle.reshape_progress_resync_laws.proofs.reshape_progress_Courses.{begins-stand}
use Rattle.reshape_progress_resync_laws.specs.Mended.{StandsSynced}
use Rattle.reshape_progress_resync_laws.proofs.Mended.{none-pending}
use Rattle.history_invariant_laws.specs.Reliable.{IsReliable, HasLastStep}
use Rattle.history_invariant_laws.proofs.Behind.{early-losses}
use Rattle.history_invariant_laws.proofs.LastStep.{keeps-last}
use Rattle.array_reshaping_invariant.specs.Moving.{AreReshaping, HasListInCourse, IsStillKept, IsMoving}
use Rattle.array_reshaping_invariant.proofs.Beginning.{IsBeginningCall, begun-gone, begun-recorded, begun-level, begun-unclean, begun-unsynced, begun-values, begun-safe, safe-over}
use Rattle.array_reshaping_invariant.proofs.Quiet.{IsLeftBy}

-- What the members are behind it: the plan's, some of which may have been lost, in a reshape that has just begun.
pub record AreBegun (scope : Scope) (given : Given) (old plan new : Members) : Type 0 where
  pub members_are : AreReshaping scope given new
  pub begun : IsBegun old plan
  pub backed : ArePlaced scope given plan
  pub moved : IsMoved given plan new
  pub clean : is_clean new.newest ≡ is_clean old.newest

module _ (given : Given) (tape : List Operation) (scope : Scope) (first : ℕ) (entries : List Entry) (old plan new : Members) (carried carried' : ℕ → ℕ → Bool) (buffer : List ℕ) (who : Who) (left roles spares : ℕ)
    (ops : List Operation) (tells : Type 0) (was : IsStillKept tells given tape scope first entries old carried) (t : tells) (synced : is_unsynced (world_in given tape scope first) entries ≡ false) (goes : IsCallGoing entries who) (caller : IsFalse (who.caller == 254))
    (told : IfSome (told_left entries) (λ n. n ≡ left + 1)) (some : left ≢ 0) (are : AreBegun scope given old plan new)
    (rows : AreOtherRowsKept (λ row. ⊥) (reading_of new) (present given tape) (present given (tape ++ ops)))
    (behind : IsOpenBehind (world_in given (tape ++ ops) scope first) goes.call) (call : IsBeginningCall given tape scope first entries old plan new carried carried' roles (tape ++ ops)) where
  abbrev world : World
  world = world_in given tape scope first

  abbrev later : World
  later = world_in given (tape ++ ops) scope first

  abbrev all : List Entry
  all = entries ++ entries_of who (length (tape ++ ops)) (Step Begun left ∷ losses_of roles spares)

  recorded : IsHistoryKept (IsReliable world entries) world (list_length old.newest) entries
  recorded = was.recorded t

  -- what it can do without, it could before
  without-old : DoesWithout (shape_of new.newest) new → DoWithout old
  without-old does = record { old = few; final = subst (λ (s : Shape). count_below s.disks (is_missing (reading_of old)) ≤ tolerance s) (sym (final-still old.newest are.begun.still)) few }
    where
      shape : shape_of new.newest ≡ shape_of old.newest
      shape = are.moved.shape ∙ are.begun.shape

      few : count_below (shape_of old.newest).disks (is_missing (reading_of old)) ≤ tolerance (shape_of old.newest)
      few =
          let pass = fewer-pass (shape_of old.newest).disks (is_missing (reading_of old)) (is_missing (reading_of new)) (λ j lt miss. missing-moved are.moved j (are.begun.missing j lt miss)) in
          let most = subst (λ (s : Shape). count_below s.disks (is_missing (reading_of new)) ≤ tolerance s) shape does in
          omega (arith, pass, most)

  -- the list stands by the shape in force, if that does without what is missing of it
  listed-old : DoesWithout (shape_of new.newest) new → IsFilledRight later all → HasListInCourse (OpensFit later) new None (closed 0) buffer (present given (tape ++ ops)) (now (opening_list later) all)
  listed-old does fills =
      let l = was.listed t (without-old does) (filled-before world ops entries (entries_of who (length (tape ++ ops)) (Step Begun left ∷ losses_of roles spares)) recorded.begun recorded.ends fills) in
      record {
        list = l.list;
        is = λ x lt. l.is x (let n = call.sized in omega (arith, lt, n))
            ∙ sym (begun-values given tape scope first entries old plan new carried carried' who left roles spares ops was.sizes_are recorded.begun recorded.ends recorded.sized (was.gone t) call x);
        stands = subst (λ (sound : Type 0). StandsSynced sound (λ shape. DoesWithout shape new) None new (closed 0) buffer (present given (tape ++ ops)) l.list) (sym (fit-grown world ops recorded.begun))
            ((none-pending (OpensFit world) (λ shape. DoesWithout shape new) new (closed 0) buffer (present given (tape ++ ops)) l.list).0 (begins-stand (OpensFit world) (λ shape. DoesWithout shape new) scope given old plan new buffer (present given tape) (present given (tape ++ ops)) l.list are.begun are.backed are.moved rows
            (λ forth x past. l.zeros x (let n = call.planned in omega (arith, past, n))) (λ own. l.stands) (λ own. l.rows)));
      }

  -- the list as it is now, with zeros behind its end
  abbrev zeroed : ℕ → Sector
  zeroed x = cond (nat_lt x (list_length plan.newest)) (now (opening_list later) all x) zero_sector

  -- and if it doesn't, no row is asked to stand
  listed-none : (DoesWithout (shape_of new.newest) new → ⊥) → HasListInCourse (OpensFit later) new None (closed 0) buffer (present given (tape ++ ops)) (now (opening_list later) all)
  listed-none lacks = record {
    list = zeroed;
    is = λ x lt. ap (λ (b : Bool). cond b (now (opening_list later) all x) zero_sector) (below x (subst (λ (n : ℕ). x < n) (list-alike plan.newest new.newest are.moved.reshape are.moved.shape are.moved.size) lt));
    stands = (none-pending (OpensFit later) (λ shape. DoesWithout shape new) new (closed 0) buffer (present given (tape ++ ops)) zeroed).0 (begins-stand (OpensFit later) (λ shape. DoesWithout shape new) scope given old plan new buffer (present given tape) (present given (tape ++ ops)) zeroed are.begun are.backed are.moved rows
        (λ forth x past. ap (λ (b : Bool). cond b (now (opening_list later) all x) zero_sector) (behind-end x past)) (λ own. absurd (lacks own)) (λ own. absurd (lacks own)));
  }
    where
      below : (x : ℕ) → x < list_length plan.newest → nat_lt x (list_length plan.newest) ≡ true
      below x lt = grind (arith, nat_tests, lt)

      behind-end : (x : ℕ) → list_length plan.newest ≤ x → nat_lt x (list_length plan.newest) ≡ false
      behind-end x past = grind (arith, nat_tests, past)

  listed : IsFilledRight later all → HasListInCourse (OpensFit later) new None (closed 0) buffer (present given (tape ++ ops)) (now (opening_list later) all)
  listed fills = elim (does-or (shape_of new.newest) new) [
    | inl does ↦ listed-old does fills
    | inr lacks ↦ listed-none lacks
  ]

  -- what it enters gives no sector a value
  begun-still : (x : ℕ) (values : List Sector) → fold (λ values e. values_after x values e.event) values (entries_of who (length (tape ++ ops)) (Step Begun left ∷ losses_of roles spares)) ≡ values
  begun-still x values = subst (λ (l : List Event). fold (λ values e. values_after x values e.event) values (entries_of who (length (tape ++ ops)) l) ≡ values) (append-nil (losses_of roles spares))
      ((early-losses roles spares).values who (length (tape ++ ops)) [] x values)

  last-step : HasLastStep later all (list_length new.newest)
  last-step = keeps-last world ops entries (list_length old.newest) (list_length new.newest) who [] (Step Begun left) (losses_of roles spares) recorded.begun recorded.ends refl (losses-are roles spares)
      (λ x values le none. begun-still x values ∙ none (let n = call.sized in omega (arith, le, n))) (was.past t)

  begun-leaves : IsLeftBy given tape scope first entries all new carried' (closed 0) buffer (tape ++ ops)
  begun-leaves = record {
    right = λ right. record {
      fills = filled-before world ops entries (entries_of who (length (tape ++ ops)) (Step Begun left ∷ losses_of roles spares)) recorded.begun recorded.ends right.fills;
      room = room-before world ops recorded.begun right.room;
    };
    levelled = begun-level given tape scope first entries old plan new carried carried' who left roles spares ops was.sizes_are recorded.begun recorded.ends recorded.sized (was.gone t) call;
    gone = begun-gone given tape scope first entries old plan new carried carried' who left roles spares ops was.sizes_are recorded.begun recorded.ends recorded.sized (was.gone t) call;
    unclean = λ dirty. begun-unclean given tape scope first entries old plan new carried carried' who left roles spares ops was.sizes_are recorded.begun recorded.ends recorded.sized (was.gone t) call (was.unclean t (sym are.clean ∙ dirty));
    recorded = begun-recorded given tape scope first entries old plan new carried carried' who left roles spares ops was.sizes_are recorded.begun recorded.ends recorded.sized (was.gone t) call recorded goes caller behind told some;
    last_step = last-step;
    pending = begun-unsynced given tape scope first entries old plan new carried carried' who left roles spares ops was.sizes_are recorded.begun recorded.ends recorded.sized (was.gone t) call ∙ synced;
    listed = listed;
    safe = begun-safe given tape scope first entries old plan new carried carried' who left roles spares ops was.sizes_are recorded.begun recorded.ends recorded.sized (was.gone t) call (safe-over was t call.live);
  }

-- So the array is in its reshape: no window is open, and nothing is zeroed yet.
pub begun-moves : (tells : Type 0) (given : Given) (tape tape' : List Operation) (scope : Scope) (first : ℕ) (entries : List Entry) (old plan new : Members) (carried carried' : ℕ → ℕ → Bool) (buffer : List ℕ)
    (left : ℕ) (who : Who) (end roles spares : ℕ)
    → IsStillKept tells given tape scope first entries old carried → (tells → is_unsynced (world_in given tape scope first) entries ≡ false) → (goes : IsCallGoing entries who) → IsFalse (who.caller == 254) → (tells → end ≡ length tape') → Grows tells tape tape'
    → IfSome (told_left entries) (λ n. n ≡ left + 1) → left ≢ 0 → AreBegun scope given old plan new → (tells → IsCleared scope (disk given.start tape'))
    → (tells → AreOtherRowsKept (λ row. ⊥) (reading_of new) (present given tape) (present given tape')) → (tells → IsOpenBehind (world_in given tape' scope first) goes.call)
    → (tells → IsBeginningCall given tape scope first entries old plan new carried carried' roles tape')
    → IsMoving tells given tape' scope first (entries ++ entries_of who end (Step Begun left ∷ losses_of roles spares)) new carried' None (closed 0) buffer left
begun-moves tells given tape tape' scope first entries old plan new carried carried' buffer left who end roles spares was synced goes caller at_end grows told some are cleared rows behind call = record {
  slots = was.slots;
  members_are = are.members_are;
  course_is = record { window = tt; through = λ some. absurd (omega (arith, some)); few = omega arith };
  sizes_are = was.sizes_are;
  left_told = left-told;
  progress = tt;
  beside = inl tt;
  pending = λ t. (leaves t).pending;
  dirty = λ does some. absurd (cc);
  levelled = λ t fills. ap tolerance_of (leaves t).levelled ∙ was.levelled t ((leaves t).right fills) ∙ ap tolerance (sym (are.moved.shape ∙ are.begun.shape));
  gone = λ t. (leaves t).gone;
  unclean = λ t. (leaves t).unclean;
  recorded = λ t. (leaves t).recorded;
  last_step = λ t. (leaves t).last_step;
  stored = λ t on. let plain = cleared-plain scope new (disk given.start tape') (cleared t) in record { section = plain.0; sectors = tt; headers = plain.1 };
  listed = λ t. (leaves t).listed;
  safe = λ t. (leaves t).safe;
}
  where
    -- as many steps are left as it tells, if no losses follow
    left-told : IfSome (told_left (entries ++ entries_of who end (Step Begun left ∷ losses_of roles spares))) (λ n. n ≡ left)
    left-told = subst (λ (o : Option ℕ). IfSome o (λ n. n ≡ left)) (sym (fold-left None entries (entries_of who end (Step Begun left ∷ losses_of roles spares))))
        (subst (λ (l : List Event). IfSome (fold (λ left e. left_after left e.event) (Some left) (entries_of who end l)) (λ n. n ≡ left)) (append-nil (losses_of roles spares))
        (left-behind left who end (losses_of roles spares) [] (losses-are roles spares) (λ told is. is) (Some left) refl))

    Then : List Operation → ℕ → Type 0
    Then l e = AreOtherRowsKept (λ row. ⊥) (reading_of new) (present given tape) (present given l) → IsOpenBehind (world_in given l scope first) goes.call
        → IsBeginningCall given tape scope first entries old plan new carried carried' roles l
        → IsLeftBy given tape scope first entries (entries ++ entries_of who e (Step Begun left ∷ losses_of roles spares)) new carried' (closed 0) buffer l

    leaves : tells → IsLeftBy given tape scope first entries (entries ++ entries_of who end (Step Begun left ∷ losses_of roles spares)) new carried' (closed 0) buffer tape'
    leaves t =
        let g = grows.more t in
        subst (λ (l : List Operation). Then l end) (sym g.1)
        (subst (Then (tape ++ g.0)) (sym (at_end t ∙ ap (λ (l : List Operation). length l) g.1))
        (λ rows behind call. begun-leaves given tape scope first entries old plan new carried carried' buffer who left roles spares g.0 tells was t (synced t) goes caller told some are rows behind call))
        (rows t) (behind t) (call t)
