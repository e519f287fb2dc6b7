-- A reshape that makes the list shorter begins in an array that keeps its record without one, from what `begin` leaves where it isn't refused.
use Rattle.std.proofs.Common.{◌≡◌, ◌≢◌, ◌⊎◌, inl, inr, ℕ, ◌+◌, ◌*◌, ◌<◌, ◌≤◌, ◌==◌, ◌&&◌, nat_le, nat_lt, min, Bool, true, false, Option, Some, None, List, [], ◌∷◌, ◌++◌, length, refl, sym, ◌∙◌, ap, subst, arith, append-nil}
use Rattle.std.specs.Prelude.{IsFalse, IfSome, ◌^◌, fold}
use Rattle.std.proofs.lemmas.Bool.{and_parts, leb-true}
use Rattle.std.proofs.lemmas.Bool.Decides.{nat_tests}
use Rattle.array_fixed_invariant.specs.raid_types_Sectors.{Sector}
use Rattle.array_fixed_invariant.specs.raid_types_the_Who.{Who}
use Rattle.array_fixed_invariant.specs.raid_types_the_Shape.{Shape}
use Rattle.array_fixed_invariant.specs.raid_types_Search.{count_below}
use Rattle.array_fixed_invariant.specs.raid_types_Shapes.{data_disks, is_multiple, tolerance, tolerance_of}
use Rattle.array_fixed_invariant.specs.bank_the_Operation.{Operation}
use Rattle.array_fixed_invariant.specs.bank_Given.{Given}
use Rattle.array_fixed_invariant.specs.bank_Tape.{contents, disk}
use Rattle.array_fixed_invariant.specs.sb_codec_the_Sb.{Sb}
use Rattle.array_fixed_invariant.specs.reshape_geometry_Geometry.{AreInForce}
use Rattle.array_fixed_invariant.proofs.reshape_geometry_Divisions.{next_multiple}
use Rattle.array_fixed_invariant.specs.sb_specs_the_Members.{Members}
use Rattle.array_fixed_invariant.specs.sb_specs_Held.{AreDrawn}
use Rattle.array_fixed_invariant.specs.sb_specs_Reading.{Scope, is_reshaping, is_backward, shape_of, list_length}
use Rattle.array_fixed_invariant.proofs.sb_specs_ValidFields.{few-roles}
use Rattle.array_fixed_invariant.specs.stripe_row_Rows.{reading_of, present, is_missing}
use Rattle.array_fixed_invariant.specs.history_the_Entry.{Entry}
use Rattle.array_fixed_invariant.specs.history_the_Event.{Event}
use Rattle.array_fixed_invariant.specs.history_the_Event_TheVariants.{Resized, Step}
use Rattle.array_fixed_invariant.specs.history_the_StepKind_TheVariants.{Begun}
use Rattle.array_fixed_invariant.specs.history_Epochs.{HasRoomForEvents}
use Rattle.array_fixed_invariant.specs.history_Flat.{now, values_after, resized}
use Rattle.array_fixed_invariant.specs.history_Legal.{told_left, left_after}
use Rattle.array_fixed_invariant.specs.history_Losses.{is_unsynced}
use Rattle.array_fixed_invariant.specs.history_Plain.{entries_of}
use Rattle.array_fixed_invariant.specs.history_Sound.{OpensFit}
use Rattle.array_fixed_invariant.specs.history_World.{World, contents_at, opening_list}
use Rattle.array_fixed_invariant.specs.crash_views_Regions.{DoWithout}
use Rattle.array_fixed_invariant.proofs.crash_views_Stands.{final-still}
use Rattle.array_fixed_invariant.specs.crash_reshape_laws_Ends.{IsCleared}
use Rattle.array_fixed_invariant.specs.crash_reshape_laws_Plans.{HasNoneRecovering}
use Rattle.array_fixed_invariant.proofs.crash_reshape_laws_EndLaws.{cleared-plain, fewer-pass}
use Rattle.array_fixed_invariant.specs.array_members_Moving.{Grows}
use Rattle.array_fixed_invariant.specs.array_members_Lacking.{DoesWithout, AreOtherRowsKept}
use Rattle.array_fixed_invariant.specs.array_members_Rebuilding.{AreSparesFree}
use Rattle.array_fixed_invariant.proofs.array_members_Fit.{count-alike, roles-still}
use Rattle.array_fixed_invariant.proofs.array_members_HeldRows.{missing-moved}
use Rattle.array_fixed_invariant.proofs.array_members_Still.{count-still}
use Rattle.array_fixed_invariant.specs.history_append_Losing.{losses_of}
use Rattle.array_fixed_invariant.proofs.history_append_CallLaws.{losses-are}
use Rattle.array_fixed_invariant.proofs.history_append_LeftLaws.{left-behind, fold-left}
use Rattle.array_fixed_invariant.specs.reshape_sb_updates_Beginning.{HasBegun, goes_back}
use Rattle.array_fixed_invariant.proofs.reshape_sb_updates_BegunPlan.{planned-begun-is}
use Rattle.array_fixed_invariant.specs.reshape_begin_end_Begun.{begun_plan}
use Rattle.array_fixed_invariant.specs.history_invariant_Recorded.{IsHistoryKept, IsCallGoing, IsOpenBehind}
use Rattle.array_fixed_invariant.specs.history_invariant_Safe.{world_in, IsFilledRight}
use Rattle.array_fixed_invariant.specs.history_invariant_Told.{told_now}
use Rattle.array_fixed_invariant.proofs.history_invariant_Calls.{now-live}
use Rattle.array_fixed_invariant.proofs.history_invariant_Growing.{fit-grown, room-before, room-now}
use Rattle.array_fixed_invariant.proofs.history_invariant_Lengths.{now-drawn}
use Rattle.array_fixed_invariant.proofs.history_invariant_Turned.{filled-before}
use Rattle.array_fixed_invariant.specs.reshape_progress_Laws.{closed}
use Rattle.array_fixed_invariant.proofs.reshape_progress_Frames.{does-or}
use Rattle.array_fixed_invariant.proofs.reshape_progress_Courses.{begins-stand}
use Rattle.array_fixed_invariant.specs.reshape_progress_resync_laws_Synced.{StandsSynced}
use Rattle.array_fixed_invariant.proofs.reshape_progress_resync_laws_Synced.{none-pending}
use Rattle.array_fixed_invariant.specs.history_invariant_laws_Reliable.{IsReliable, HasLastStep}
use Rattle.array_fixed_invariant.proofs.history_invariant_laws_Behind.{early-losses}
use Rattle.array_fixed_invariant.proofs.history_invariant_laws_LastStep.{keeps-last}
use Rattle.array_fixed_invariant.specs.array_reshaping_invariant_Moving.{HasListInCourse, IsStillKept, IsMoving}
use Rattle.array_fixed_invariant.proofs.array_reshaping_invariant_Begun.{AreBegun}
use Rattle.array_fixed_invariant.proofs.array_reshaping_invariant_BegunCall.{IsBegunBy}
use Rattle.array_fixed_invariant.proofs.array_reshaping_invariant_BegunMembers.{begun-members, begun-rows}
use Rattle.array_fixed_invariant.proofs.array_reshaping_invariant_BegunRead.{begun-either}
use Rattle.array_fixed_invariant.proofs.array_reshaping_invariant_Beginning.{safe-over}
use Rattle.array_fixed_invariant.proofs.array_reshaping_invariant_Quiet.{IsLeftBy}
use Rattle.array_fixed_invariant.proofs.array_reshaping_invariant_ReadShapes.{IsEitherRead}
use Rattle.array_reshaping_end_laws.proofs.Shortening.{IsShorteningCall, shortened-gone, shortened-recorded, shortened-level, shortened-unclean, shortened-unsynced, shortened-values, shortened-safe}

-- ---- the record

module _ (given : Given) (tape : List Operation) (scope : Scope) (first : ℕ) (entries : List Entry) (old plan new : Members) (carried carried' : ℕ → ℕ → Bool) (buffer : List ℕ) (who : Who) (left n roles spares : ℕ)
    (ops : List Operation) (tells : Type 0) (was : IsStillKept tells given tape scope first entries old carried) (t : tells) (synced : is_unsynced (world_in given tape scope first) entries ≡ false) (goes : IsCallGoing entries who) (caller : IsFalse (who.caller == 254))
    (told : IfSome (told_left entries) (λ n. n ≡ left + 1)) (some : left ≢ 0) (are : AreBegun scope given old plan new) (back : is_backward plan.newest ≡ true)
    (rows : AreOtherRowsKept (λ row. ⊥) (reading_of new) (present given tape) (present given (tape ++ ops)))
    (behind : IsOpenBehind (world_in given (tape ++ ops) scope first) goes.call) (call : IsShorteningCall given tape scope first entries old plan new carried carried' n roles (tape ++ ops)) where
  abbrev world : World
  world = world_in given tape scope first

  abbrev later : World
  later = world_in given (tape ++ ops) scope first

  abbrev all : List Entry
  all = entries ++ entries_of who (length (tape ++ ops)) (Step Begun left ∷ Resized n ∷ losses_of roles spares)

  recorded : IsHistoryKept (IsReliable world entries) world (list_length old.newest) entries
  recorded = was.recorded t

  -- what it can do without, it could before
  without-old : DoesWithout (shape_of new.newest) new → DoWithout old
  without-old does = record { old = few; final = subst (λ (s : Shape). count_below s.disks (is_missing (reading_of old)) ≤ tolerance s) (sym (final-still old.newest are.begun.still)) few }
    where
      shape : shape_of new.newest ≡ shape_of old.newest
      shape = are.moved.shape ∙ are.begun.shape

      few : count_below (shape_of old.newest).disks (is_missing (reading_of old)) ≤ tolerance (shape_of old.newest)
      few =
          let pass = fewer-pass (shape_of old.newest).disks (is_missing (reading_of old)) (is_missing (reading_of new)) (λ j lt miss. missing-moved are.moved j (are.begun.missing j lt miss)) in
          let most = subst (λ (s : Shape). count_below s.disks (is_missing (reading_of new)) ≤ tolerance s) shape does in
          omega (arith, pass, most)

  -- the list stands, as far as it goes now, by the shape in force, if that does without what is missing of it
  listed-old : DoesWithout (shape_of new.newest) new → IsFilledRight later all → HasListInCourse (OpensFit later) new None (closed 0) buffer (present given (tape ++ ops)) (now (opening_list later) all)
  listed-old does fills =
      let l = was.listed t (without-old does) (filled-before world ops entries (entries_of who (length (tape ++ ops)) (Step Begun left ∷ Resized n ∷ losses_of roles spares)) recorded.begun recorded.ends fills) in
      record {
        list = l.list;
        is = λ x lt. let below : x < n = (let sized = call.sized in omega (arith, lt, sized)) in
            l.is x (let shorter = call.shorter in omega (arith, below, shorter))
            ∙ sym (shortened-values given tape scope first entries old plan new carried carried' who left n roles spares ops was.sizes_are recorded.begun recorded.ends recorded.sized (was.gone t) call x below);
        stands = subst (λ (sound : Type 0). StandsSynced sound (λ shape. DoesWithout shape new) None new (closed 0) buffer (present given (tape ++ ops)) l.list) (sym (fit-grown world ops recorded.begun))
            ((none-pending (OpensFit world) (λ shape. DoesWithout shape new) new (closed 0) buffer (present given (tape ++ ops)) l.list).0 (begins-stand (OpensFit world) (λ shape. DoesWithout shape new) scope given old plan new buffer (present given tape) (present given (tape ++ ops)) l.list are.begun are.backed are.moved rows
            (λ forth. absurd (let both = sym forth ∙ back in cc)) (λ own. l.stands) (λ own. l.rows)));
      }

  -- and if it doesn't, no row is asked to stand
  listed : IsFilledRight later all → HasListInCourse (OpensFit later) new None (closed 0) buffer (present given (tape ++ ops)) (now (opening_list later) all)
  listed fills = elim (does-or (shape_of new.newest) new) [
    | inl does ↦ listed-old does fills
    | inr lacks ↦ record {
      list = now (opening_list later) all;
      is = λ x lt. refl;
      stands = (none-pending (OpensFit later) (λ shape. DoesWithout shape new) new (closed 0) buffer (present given (tape ++ ops)) (now (opening_list later) all)).0 (begins-stand (OpensFit later) (λ shape. DoesWithout shape new) scope given old plan new buffer (present given tape) (present given (tape ++ ops)) (now (opening_list later) all) are.begun are.backed are.moved rows
          (λ forth. absurd (let both = sym forth ∙ back in cc)) (λ own. absurd (lacks own)) (λ own. absurd (lacks own)));
    }
  ]

  -- what it enters leaves a sector past the new end no value
  shortened-none : (x : ℕ) (values : List Sector) → n ≤ x → fold (λ values e. values_after x values e.event) values (entries_of who (length (tape ++ ops)) (Step Begun left ∷ Resized n ∷ losses_of roles spares)) ≡ []
  shortened-none x values past =
      ap (λ (b : Bool). fold (λ values e. values_after x values e.event) (resized b values) (entries_of who (length (tape ++ ops)) (losses_of roles spares))) (not-below x n past)
      ∙ subst (λ (l : List Event). fold (λ values e. values_after x values e.event) [] (entries_of who (length (tape ++ ops)) l) ≡ []) (append-nil (losses_of roles spares))
      ((early-losses roles spares).values who (length (tape ++ ops)) [] x [])
    where
      not-below : (a b : ℕ) → b ≤ a → nat_lt a b ≡ false
      not-below a b le = grind (arith, nat_tests, le)

  last-step : HasLastStep later all (list_length new.newest)
  last-step =
      keeps-last world ops entries (list_length old.newest) (list_length new.newest) who (Step Begun left ∷ []) (Resized n) (losses_of roles spares) recorded.begun recorded.ends refl (losses-are roles spares)
      (λ x values le none. shortened-none x values (let sized = call.sized in omega (arith, le, sized))) (was.past t)

  shortened-leaves : IsLeftBy given tape scope first entries all new carried' (closed 0) buffer (tape ++ ops)
  shortened-leaves = record {
    right = λ right. record {
      fills = filled-before world ops entries (entries_of who (length (tape ++ ops)) (Step Begun left ∷ Resized n ∷ losses_of roles spares)) recorded.begun recorded.ends right.fills;
      room = room-before world ops recorded.begun right.room;
    };
    levelled = shortened-level given tape scope first entries old plan new carried carried' who left n roles spares ops was.sizes_are recorded.begun recorded.ends recorded.sized (was.gone t) call;
    gone = shortened-gone given tape scope first entries old plan new carried carried' who left n roles spares ops was.sizes_are recorded.begun recorded.ends recorded.sized (was.gone t) call;
    unclean = λ dirty. shortened-unclean given tape scope first entries old plan new carried carried' who left n roles spares ops was.sizes_are recorded.begun recorded.ends recorded.sized (was.gone t) call (was.unclean t (sym are.clean ∙ dirty));
    recorded = shortened-recorded given tape scope first entries old plan new carried carried' who left n roles spares ops was.sizes_are recorded.begun recorded.ends recorded.sized (was.gone t) call (safe-over was t call.live) recorded goes caller behind told some;
    last_step = last-step;
    pending = shortened-unsynced given tape scope first entries old plan new carried carried' who left n roles spares ops was.sizes_are recorded.begun recorded.ends recorded.sized (was.gone t) call ∙ synced;
    listed = listed;
    safe = shortened-safe given tape scope first entries old plan new carried carried' who left n roles spares ops was.sizes_are recorded.begun recorded.ends recorded.sized (was.gone t) call (safe-over was t call.live);
  }

-- So the array is in its reshape, with the shorter list.
pub shortened-moves : (tells : Type 0) (given : Given) (tape tape' : List Operation) (scope : Scope) (first : ℕ) (entries : List Entry) (old plan new : Members) (carried carried' : ℕ → ℕ → Bool) (buffer : List ℕ)
    (left n : ℕ) (who : Who) (end roles spares : ℕ)
    → IsStillKept tells given tape scope first entries old carried → (tells → is_unsynced (world_in given tape scope first) entries ≡ false) → (goes : IsCallGoing entries who) → IsFalse (who.caller == 254) → (tells → end ≡ length tape') → Grows tells tape tape'
    → IfSome (told_left entries) (λ n. n ≡ left + 1) → left ≢ 0 → AreBegun scope given old plan new → is_backward plan.newest ≡ true → (tells → IsCleared scope (disk given.start tape'))
    → (tells → AreOtherRowsKept (λ row. ⊥) (reading_of new) (present given tape) (present given tape')) → (tells → IsOpenBehind (world_in given tape' scope first) goes.call)
    → (tells → IsShorteningCall given tape scope first entries old plan new carried carried' n roles tape')
    → IsMoving tells given tape' scope first (entries ++ entries_of who end (Step Begun left ∷ Resized n ∷ losses_of roles spares)) new carried' None (closed 0) buffer left
shortened-moves tells given tape tape' scope first entries old plan new carried carried' buffer left n who end roles spares was synced goes caller at_end grows told some are back cleared rows behind call = record {
  slots = was.slots;
  members_are = are.members_are;
  course_is = record { window = tt; through = λ some. absurd (omega (arith, some)); few = omega arith };
  sizes_are = was.sizes_are;
  left_told = left-told;
  progress = tt;
  beside = inl tt;
  pending = λ t. (leaves t).pending;
  dirty = λ does some. absurd (cc);
  levelled = λ t fills. ap tolerance_of (leaves t).levelled ∙ was.levelled t ((leaves t).right fills) ∙ ap tolerance (sym (are.moved.shape ∙ are.begun.shape));
  gone = λ t. (leaves t).gone;
  unclean = λ t. (leaves t).unclean;
  recorded = λ t. (leaves t).recorded;
  last_step = λ t. (leaves t).last_step;
  stored = λ t on. let plain = cleared-plain scope new (disk given.start tape') (cleared t) in record { section = plain.0; sectors = tt; headers = plain.1 };
  listed = λ t. (leaves t).listed;
  safe = λ t. (leaves t).safe;
}
  where
    -- as many steps are left as it tells, if no losses follow
    left-told : IfSome (told_left (entries ++ entries_of who end (Step Begun left ∷ Resized n ∷ losses_of roles spares))) (λ n. n ≡ left)
    left-told = subst (λ (o : Option ℕ). IfSome o (λ n. n ≡ left)) (sym (fold-left None entries (entries_of who end (Step Begun left ∷ Resized n ∷ losses_of roles spares))))
        (subst (λ (l : List Event). IfSome (fold (λ left e. left_after left e.event) (Some left) (entries_of who end l)) (λ n. n ≡ left)) (append-nil (losses_of roles spares))
        (left-behind left who end (losses_of roles spares) [] (losses-are roles spares) (λ told is. is) (Some left) refl))

    Then : List Operation → ℕ → Type 0
    Then l e = AreOtherRowsKept (λ row. ⊥) (reading_of new) (present given tape) (present given l) → IsOpenBehind (world_in given l scope first) goes.call
        → IsShorteningCall given tape scope first entries old plan new carried carried' n roles l
        → IsLeftBy given tape scope first entries (entries ++ entries_of who e (Step Begun left ∷ Resized n ∷ losses_of roles spares)) new carried' (closed 0) buffer l

    leaves : tells → IsLeftBy given tape scope first entries (entries ++ entries_of who end (Step Begun left ∷ Resized n ∷ losses_of roles spares)) new carried' (closed 0) buffer tape'
    leaves t =
        let g = grows.more t in
        subst (λ (l : List Operation). Then l end) (sym g.1)
        (subst (Then (tape ++ g.0)) (sym (at_end t ∙ ap (λ (l : List Operation). length l) g.1))
        (λ rows behind call. shortened-leaves given tape scope first entries old plan new carried carried' buffer who left n roles spares g.0 tells was t (synced t) goes caller told some are back rows behind call))
        (rows t) (behind t) (call t)

-- ---- the call

-- a reshape to fewer data disks begins with the new shape's list
shortened-length : (former newest : Sb) (to : Shape) → HasBegun former to newest → goes_back (shape_of former) to ≡ true → list_length newest ≡ data_disks to * former.size
shortened-length former newest to has back =
    (λ i. min (data_disks (has.old i)) (data_disks (has.new i)) * has.size i)
    ∙ ap (λ (k : ℕ). k * former.size) (least (data_disks (shape_of former)) (data_disks to) back)
  where
    least : (a b : ℕ) → nat_lt b a ≡ true → min a b ≡ b
    least a b is = grind (arith, nat_tests, is)

-- which is shorter than the old shape's
is-shorter : (former : Sb) (to : Shape) → AreInForce (shape_of former) to former.size → is_reshaping former ≡ false → goes_back (shape_of former) to ≡ true → data_disks to * former.size < list_length former
is-shorter former to force still back =
    let fewer : data_disks to < data_disks (shape_of former) = less (data_disks to) (data_disks (shape_of former)) back in
    let some : 1 ≤ former.size = leb-true 1 former.size (and_parts (nat_le 1 former.size) (nat_le former.size (2 ^ 48)) (and_parts (nat_le 1 former.size && nat_le former.size (2 ^ 48)) (is_multiple former.size (shape_of former).chunk) force.old_size).0).0 in
    let long : list_length former ≡ data_disks (shape_of former) * former.size =
    ap (λ (s : Shape). min (data_disks (shape_of former)) (data_disks s) * former.size) (final-still former still) ∙ ap (λ (k : ℕ). k * former.size) (same (data_disks (shape_of former))) in
    let next = next_multiple (data_disks to) (data_disks (shape_of former)) former.size fewer in
    omega (arith, some, long, next)
  where
    less : (a b : ℕ) → nat_lt a b ≡ true → a < b
    less a b is = grind (arith, nat_tests, is)

    same : (a : ℕ) → min a a ≡ a
    same a = omega arith

module _ (tells : Type 0) (given : Given) (scope : Scope) (first : ℕ) (entries : List Entry) (backup : ℕ) (uuid : List ℕ) (to : Shape) (old new : Members) (carried carried' : ℕ → ℕ → Bool) (roles : ℕ) (tape : List Operation)
    (was : IsStillKept tells given tape scope first entries old carried) (back : goes_back (shape_of old.newest) to ≡ true) where
  shortened-call : (ops : List Operation) → tells → IsBegunBy tells given tape (tape ++ ops) scope backup uuid to old new roles → ((slot number : ℕ) → carried slot number ≡ true → carried' slot number ≡ true)
      → IsShorteningCall given tape scope first entries old (begun_plan old to) new carried carried' (list_length new.newest) roles (tape ++ ops)
  shortened-call ops t did numbers = record {
    live = did.live;
    placed = did.moved.placed;
    unlost = did.moved.unlost;
    count = count-still old.newest was.still;
    planned = shortened-length old.newest (begun_plan old to).newest to begun-is back ∙ sym (shortened-length old.newest new.newest to did.newest back);
    shape = begun-is.old;
    size = begun-is.size;
    counted = count-alike (begun_plan old to).newest new.newest did.moved.reshape did.moved.shape did.moved.size;
    of_level = (to, did.level, did.in_force.new_valid, shortened-length old.newest new.newest to did.newest back);
    sized = refl;
    shorter = subst (λ (k : ℕ). k < list_length old.newest) (sym (shortened-length old.newest new.newest to did.newest back)) (is-shorter old.newest to did.in_force was.still back);
    few = few-roles new.newest did.moved.placed.fit.valid;
    numbers = numbers;
    since = did.since;
    fewer = λ role lt miss. (
      subst (λ (n : ℕ). role < n) (sym (count-alike (begun_plan old to).newest new.newest did.moved.reshape did.moved.shape did.moved.size)) lt,
      missing-moved did.moved role miss,
    );
    rise = record { left = did.rise.left; events = λ one live. did.rise.events t live };
    read = read;
    safe = λ told more room with_plan gone_old gone_new carries before. did.safe t (world_in given tape scope first) told more room did.live did.backed did.placed with_plan gone_old gone_new carries before;
  }
    where
      same_roles : length old.roles ≡ (shape_of old.newest).disks
      same_roles = roles-still given old was.placed was.still

      begun-is : HasBegun old.newest to (begun_plan old to).newest
      begun-is = planned-begun-is old to was.still same_roles did.in_force did.level

      drawn : AreDrawn (disk given.start (tape ++ ops)) (contents given.start (tape ++ ops) (length (tape ++ ops)))
      drawn slot = (now-drawn given (tape ++ ops) slot 8, now-drawn given (tape ++ ops) slot 9)

      read : IsReliable (world_in given tape scope first) entries → HasRoomForEvents (world_in given (tape ++ ops) scope first)
          → IsEitherRead scope (contents_at (world_in given (tape ++ ops) scope first) (length (tape ++ ops))) old.newest (begun_plan old to).newest
      read right room =
          let safe = safe-over was t did.live right.fills right.room in
          begun-either tells (OpensFit (world_in given tape scope first)) scope given (told_now (world_in given tape scope first) carried false entries) backup uuid to old new tape (tape ++ ops)
          did.backed.backup did.backed.array did.sixteen was.still same_roles did.in_force did.level did.live (room-now (world_in given tape scope first) ops (was.recorded t).begun old safe.counted room) did.begun t
          (now-live (world_in given tape scope first) did.live safe.now) (contents given.start (tape ++ ops) (length (tape ++ ops))) drawn

  -- ---- the array

  -- So a reshape that makes the list shorter begins in an array that keeps its record and leaves one that keeps it in the reshape: from what `begin` says of its call.
  pub array-shortens : (tape' : List Operation) (did : IsBegunBy tells given tape tape' scope backup uuid to old new roles) → HasNoneRecovering old → AreSparesFree given old → length old.own ≡ 32 → AreSparesFree given new
      → length new.spares ≤ 32 → (buffer : List ℕ) (left : ℕ) (who : Who) (end lost_spares : ℕ) → (tells → is_unsynced (world_in given tape scope first) entries ≡ false) → (goes : IsCallGoing entries who) → IsFalse (who.caller == 254) → (tells → end ≡ length tape')
      → Grows tells tape tape' → IfSome (told_left entries) (λ n. n ≡ left + 1) → left ≢ 0 → ((slot number : ℕ) → carried slot number ≡ true → carried' slot number ≡ true) → (tells → IsCleared scope (disk given.start tape'))
      → (tells → (s k : ℕ) → k ≢ 8 → (s ≢ backup) ⊎ (k ≢ 0) → present given tape' s k ≡ present given tape s k) → (tells → IsOpenBehind (world_in given tape' scope first) goes.call)
      → IsMoving tells given tape' scope first (entries ++ entries_of who end (Step Begun left ∷ Resized (list_length new.newest) ∷ losses_of roles lost_spares)) new carried' None (closed 0) buffer left
  array-shortens tape' did whole free long still_free spares buffer left who end lost_spares synced goes caller at_end grows told some numbers cleared others behind =
      shortened-moves tells given tape tape' scope first entries old (begun_plan old to) new carried carried' buffer left (list_length new.newest) who end roles lost_spares was synced goes caller at_end grows told some
      (begun-members tells given tape tape' scope first entries backup uuid to old new carried carried' roles was did whole free long still_free spares)
      ((planned-begun-is old to was.still (roles-still given old was.placed was.still) did.in_force did.level).backward ∙ back) cleared
      (λ t. begun-rows tells given tape tape' scope first entries backup uuid to old new carried carried' roles was did whole free long still_free spares t (others t)) behind (λ t. call t)
    where
      Then : List Operation → Type 0
      Then l = IsBegunBy tells given tape l scope backup uuid to old new roles → IsShorteningCall given tape scope first entries old (begun_plan old to) new carried carried' (list_length new.newest) roles l

      call : tells → IsShorteningCall given tape scope first entries old (begun_plan old to) new carried carried' (list_length new.newest) roles tape'
      call t =
          let g = grows.more t in
          subst Then (sym g.1) (λ by. shortened-call g.0 t by numbers) did
