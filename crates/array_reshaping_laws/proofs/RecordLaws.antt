-- A window is recorded, from what `record` of `reshape_window_steps` says of it: what is kept, done or refused.
use Rattle.std.proofs.Common.{◌≡◌, ◌≢◌, inr, ℕ, ◌+◌, ◌<◌, Bool, true, None, Option, Some, List, [], ◌∷◌, ◌++◌, length, sym, ◌∙◌, ap, subst, arith}
use Rattle.std.specs.Prelude.{MatchOption}
use Rattle.array_fixed_laws.specs.raid_types_Sectors.{Sector, zero_sector}
use Rattle.array_fixed_laws.specs.raid_types_the_Refusal.{Refusal}
use Rattle.array_fixed_laws.specs.raid_types_the_Who.{Who}
use Rattle.array_fixed_laws.specs.raid_types_the_Span.{Span}
use Rattle.reshape_window_backup.specs.bank_the_Operation.{Operation}
use Rattle.reshape_window_backup.specs.bank_Given.{Given}
use Rattle.reshape_window_backup.specs.bank_Tape.{disk}
use Rattle.reshape_window_backup.specs.reshape_plan_Plans.{phases_steps}
use Rattle.reshape_window_backup.specs.sb_codec_the_Sb.{Sb}
use Rattle.array_reshaping_resync_laws.specs.sb_specs_the_Members.{Members}
use Rattle.array_reshaping_resync_laws.specs.sb_specs_Reading.{Scope, is_clean, is_reshaping, final_shape, next_window, role_count}
use Rattle.array_reshaping_resync_laws.proofs.sb_specs_ValidFields.{few-roles}
use Rattle.array_reshaping_resync_laws.specs.stripe_row_Rows.{present}
use Rattle.reshape_window_backup.specs.reshape_geometry_Geometry.{stripes}
use Rattle.array_reshaping_resync_laws.specs.history_the_Entry.{Entry}
use Rattle.array_reshaping_resync_laws.specs.history_the_Event_TheVariants.{Step, Refused}
use Rattle.array_reshaping_resync_laws.specs.history_the_StepKind_TheVariants.{Checkpointed as RecordsWindow}
use Rattle.array_reshaping_resync_laws.specs.history_Plain.{entries_of}
use Rattle.array_reshaping_resync_laws.specs.history_Sound.{OpensFit}
use Rattle.array_reshaping_resync_laws.specs.history_World.{World}
use Rattle.array_reshaping_resync_laws.specs.crash_views_Regions.{ArePlaced, DoWithout}
use Rattle.array_reshaping_resync_laws.specs.crash_views_Views.{AreHeadersFit, Ledger}
use Rattle.array_reshaping_resync_laws.specs.crash_views_Windows.{HasNoSection, moved_past}
use Rattle.array_reshaping_resync_laws.specs.crash_safety_laws_Marking.{AreOthersPresent}
use Rattle.array_reshaping_resync_laws.specs.crash_safety_laws_Safety.{HasLiveSlot, HasRoomLeft, IsRisen}
use Rattle.array_reshaping_resync_laws.specs.crash_safety_laws_Steady.{IsSafeOver, KeepsSafe, AreGoneTold, IsUncleanTold}
use Rattle.array_reshaping_resync_laws.specs.array_members_Placed.{IsPlaced}
use Rattle.array_reshaping_resync_laws.specs.array_members_Moving.{Grows, IsMoved}
use Rattle.array_reshaping_resync_laws.specs.array_members_Lacking.{AreTooMany, AreLostSince, HaveFailedSince}
use Rattle.array_reshaping_resync_laws.proofs.array_members_LackingLaws.{AreVacant, AreNewlyVacant, lost-since}
use Rattle.array_fixed_laws.specs.sb_safe_updates_Unused.{IsUnusedKept}
use Rattle.array_reshaping_resync_laws.specs.history_append_Losing.{losses_of}
use Rattle.array_reshaping_resync_laws.specs.reshape_window_steps_Recording.{IsCopiedWindow}
use Rattle.array_reshaping_resync_laws.proofs.reshape_window_steps_PastLaws.{past-placed}
use Rattle.array_reshaping_resync_laws.specs.reshape_request_the_Window_TheVariants.{Closed}
use Rattle.array_reshaping_resync_laws.specs.reshape_request_the_PhasesLeft.{PhasesLeft}
use Rattle.array_reshaping_resync_laws.specs.reshape_request_Left.{phases_of, reshape_left, grow_left, IsPast}
use Rattle.array_reshaping_resync_laws.proofs.reshape_request_LeftLaws.{recording}
use Rattle.array_reshaping_resync_laws.specs.history_invariant_Recorded.{IsCallGoing}
use Rattle.array_reshaping_resync_laws.specs.history_invariant_Safe.{world_in}
use Rattle.array_reshaping_resync_laws.specs.reshape_progress_the_Course.{Course}
use Rattle.array_reshaping_resync_laws.specs.reshape_progress_Course.{IsCourseOf}
use Rattle.array_reshaping_resync_laws.specs.reshape_progress_Laws.{closed, entered}
use Rattle.array_reshaping_resync_laws.specs.stripe_region_resync_Left.{resync_left}
use Rattle.array_reshaping_resync_laws.proofs.stripe_region_resync_LeftLaws.{records-leave}
use Rattle.array_reshaping_resync_laws.proofs.reshape_progress_resync_laws_Synced.{mended-courses-move}
use Rattle.array_fixed_laws.proofs.array_reshaping_state_LeftLaws.{plans-counted, some-left}
use Rattle.array_reshaping_resync_laws.specs.array_reshaping_invariant_Moving.{IsMoving}
use Rattle.array_reshaping_resync_laws.proofs.array_reshaping_invariant_MoreSteps.{recorded-moves}
use Rattle.array_reshaping_resync_laws.proofs.array_reshaping_invariant_Staying.{refused-moves}
use Rattle.array_reshaping_resync_laws.proofs.array_reshaping_invariant_Steps.{AreMissingSince, missing-since}
use Rattle.array_fixed_laws.proofs.array_specs_Called.{not_254, risen-told}
use Rattle.array_reshaping_laws.proofs.Kept.{AreSameShapes, left_by, left-moved}

-- ---- members whose position moved

-- the entered window with every stripe copied
abbrev pub all_copied : Members → Span → Bool → Course
all_copied m span sectioned = entered span (stripes (final_shape m.newest) span.lo span.hi) sectioned

pub shapes-past : (given : Given) (old new : Members) (span : Span) → IsMoved given (moved_past span old) new → AreSameShapes old.newest new.newest
shapes-past given old new span moved = record { shape = moved.shape; final = moved.reshape.final; size = moved.size }

-- what was lost, by the members before it
pub since-past : (given : Given) (old new : Members) (span : Span) (disks was roles spares : ℕ) (before after : ℕ → ℕ) → IsPlaced given old → next_window old.newest ≡ Some span → IsMoved given (moved_past span old) new
    → HaveFailedSince old new spares before after → disks ≡ role_count old.newest → AreVacant old disks was → AreNewlyVacant new disks was roles → AreLostSince old new roles spares before after
since-past given old new span disks was roles spares before after placed next moved failed same vacant newly =
    let since = lost-since given (moved_past span old) new disks was roles spares before after (past-placed given old span placed next) moved
    (record { roles = failed.roles; spares_are = failed.spares_are; were = failed.were; fewer = failed.fewer; told = failed.told }) same vacant newly in
    record { vacant = since.vacant; gone = since.gone; held = since.held; failed = since.failed; were = since.were; told = since.told }

-- ---- the steps that are left

pub past-of : (given : Given) (old new : Members) (span : Span) → IsMoved given (moved_past span old) new → IsPast span old.newest new.newest
past-of given old new span moved = record {
  active = moved.reshape.reshaping;
  shape = moved.shape;
  final = moved.reshape.final;
  backward = moved.reshape.backward;
  size = moved.size;
  position = moved.reshape.position;
}

pub record-left : (given : Given) (old new : Members) (resync : Option ℕ) (span : Span) (sectioned : Bool) (ahead : PhasesLeft) → IsMoved given (moved_past span old) new → is_reshaping old.newest ≡ true
    → left_by resync new (closed 0) ahead + 1 ≡ left_by resync old (all_copied old span sectioned) ahead
record-left given old new resync span sectioned ahead moved active =
    one (grow_left new.newest Closed 0 (phases_of ahead)) (grow_left old.newest (all_copied old span sectioned).window 0 (phases_of ahead)) (resync_left new.newest Closed resync) (resync_left old.newest (all_copied old span sectioned).window resync)
    (recording old.newest new.newest span sectioned 0 (phases_of ahead) active (past-of given old new span moved)) (records-leave given old new span (stripes (final_shape old.newest) span.lo span.hi) sectioned resync moved)
  where
    one : (x y m n : ℕ) → x + 1 ≡ y → m ≡ n → x + m + 1 ≡ y + n
    one x y m n fewer same = omega (arith, fewer, same)

-- the end of the reshape is left behind it
pub record-some : (given : Given) (old new : Members) (resync : Option ℕ) (span : Span) (ahead : PhasesLeft) → IsMoved given (moved_past span old) new → is_reshaping old.newest ≡ true → left_by resync new (closed 0) ahead ≢ 0
record-some given old new resync span ahead moved active =
    some (grow_left new.newest Closed 0 (phases_of ahead)) (resync_left new.newest Closed resync) (reshape_left new.newest Closed 0) (phases_steps (final_shape new.newest) new.newest.size (phases_of ahead))
    (plans-counted new.newest (closed 0) (phases_of ahead) (moved.reshape.reshaping ∙ active)) (some-left new.newest Closed 0 (omega arith))
  where
    some : (x m r p : ℕ) → r + p ≡ x → 0 < r → x + m ≢ 0
    some x m r p counted more none = absurd (omega (arith, counted, more, none))

-- ---- where no window is open, the buffer has nothing

pub closed-bare : {tells : Type 0} {given : Given} {tape : List Operation} {scope : Scope} {first : ℕ} {entries : List Entry} {members : Members} {carried : ℕ → ℕ → Bool} {resync : Option ℕ} (count : ℕ) (buffer : List ℕ) (left : ℕ)
    → IsMoving tells given tape scope first entries members carried resync (closed count) buffer left → IsMoving tells given tape scope first entries members carried resync (closed count) [] left
closed-bare count buffer left was = record {
  slots = was.slots;
  members_are = was.members_are;
  course_is = was.course_is;
  sizes_are = was.sizes_are;
  left_told = was.left_told;
  progress = was.progress;
  beside = was.beside;
  pending = was.pending;
  dirty = was.dirty;
  levelled = was.levelled;
  gone = was.gone;
  unclean = was.unclean;
  recorded = was.recorded;
  last_step = was.last_step;
  stored = λ t on. let stored = was.stored t on in record { section = stored.section; sectors = tt; headers = stored.headers };
  listed = λ t fills.
      let l = was.listed t fills in
      let stands = l.stands in
      let there = stands.in_course in
      record {
        list = l.list;
        is = l.is;
        stands = record {
          in_course = record { stands = there.stands; window = tt; zeros = there.zeros; copied = there.copied; tail = there.tail; zeroed = there.zeroed; rows = there.rows };
          ends = stands.ends;
          whole = stands.whole;
          rows = stands.rows;
        };
      };
  safe = was.safe;
}

-- ---- what is kept

-- what `record` leaves of safety, whether the position moved or not
abbrev pub IsRecordSafe : Type 0 → Given → Members → Members → List Operation → List Operation → Span → Option Refusal → Type 0
IsRecordSafe tells given old new tape tape' span refusal = tells → (world : World) → (told : Ledger) → HasRoomLeft old tape tape' → AreGoneTold told new → IsUncleanTold told old → (list : ℕ → Sector)
    → (refusal ≡ None → IsCopiedWindow (OpensFit world) world.scope told old span list (present given tape) (disk given.start tape))
    → IsSafeOver world given told old tape → KeepsSafe world given told new tape tape'

module _ {tells : Type 0} {given : Given} {tape tape' : List Operation} {scope : Scope} {first : ℕ} {entries : List Entry} {old new : Members} {carried : ℕ → ℕ → Bool} {resync : Option ℕ} (course : Course) {buffer : List ℕ} (ahead : PhasesLeft)
    (span : Span) (who : Who) (end roles spares : ℕ) (was : IsMoving tells given tape scope first entries old carried resync course buffer (left_by resync old course ahead))
    (live : HasLiveSlot old) (goes : IsCallGoing entries who) (caller : who.caller ≢ 254) (at_end : tells → end ≡ length tape') (grows : Grows tells tape tape') {before after : ℕ → ℕ} (since : AreLostSince old new roles spares before after)
    (clean : is_clean new.newest ≡ is_clean old.newest) (rise : IsRisen tells old new tape tape') (others : tells → AreOthersPresent (present given tape) (present given tape')) where
  -- it is refused: the window is open as before
  pub record-refused : (o : Option Refusal) (refusal : Refusal) → o ≡ Some refusal → IsMoved given old new → AreTooMany new refusal → (tells → IsUnusedKept old (disk given.start tape) (disk given.start tape')) → IsRecordSafe tells given old new tape tape' span o
      → IsMoving tells given tape' scope first (entries ++ entries_of who end (losses_of roles spares ++ Refused refusal ∷ [])) new carried resync course buffer (left_by resync new course ahead)
  record-refused o refusal is moved many unused safe =
      subst (λ (n : ℕ). IsMoving tells given tape' scope first (entries ++ entries_of who end (losses_of roles spares ++ Refused refusal ∷ [])) new carried resync course buffer n) (sym (left-moved given old new resync course ahead moved))
      (refused-moves tells given tape tape' scope first entries old new carried resync course buffer (left_by resync old course ahead) who end roles spares refusal was live goes (not_254 who.caller caller) at_end grows
      moved (few-roles new.newest moved.placed.fit.valid) (missing-since roles moved since.vacant) clean (inr many) (risen-told rise) unused
      (λ t sound among list stands. mended-courses-move sound among given old new resync course buffer (present given tape) (present given tape') list was.members_are.placed moved (others t) stands)
      (λ t told filled more room gone unclean. safe t (world_in given tape scope first) told room gone unclean (λ x. zero_sector) (λ none. absurd (let both = sym none ∙ is in cc))))

  -- it is done
  pub record-done : (sectioned : Bool) (left : ℕ) → course ≡ all_copied old span sectioned → left ≡ left_by resync new (closed 0) ahead → IsMoved given (moved_past span old) new → DoWithout old
      → (tells → ArePlaced scope given old → AreHeadersFit scope old (disk given.start tape) → HasNoSection scope new (disk given.start tape') × AreHeadersFit scope new (disk given.start tape'))
      → IsRecordSafe tells given old new tape tape' span None
      → IsMoving tells given tape' scope first (entries ++ entries_of who end (losses_of roles spares ++ Step RecordsWindow left ∷ [])) new carried resync (closed 0) [] (left_by resync new (closed 0) ahead)
  record-done sectioned left is told moved does plain safe =
      subst (λ (n : ℕ). IsMoving tells given tape' scope first (entries ++ entries_of who end (losses_of roles spares ++ Step RecordsWindow left ∷ [])) new carried resync (closed 0) [] n) told
      (closed-bare 0 buffer left
      (recorded-moves tells given tape tape' scope first entries old new carried resync span sectioned buffer left who end roles spares entering goes (not_254 who.caller caller) at_end grows some
      moved (few-roles new.newest moved.placed.fit.valid) missing does clean (risen-told rise) others (λ t fit. plain t was.members_are.backed fit)
      (λ t world ledger room gone unclean list copied. safe t world ledger room gone unclean list (λ none. copied))))
    where
      falls : left + 1 ≡ left_by resync old (all_copied old span sectioned) ahead
      falls = ap (λ (n : ℕ). n + 1) told ∙ record-left given old new resync span sectioned ahead moved was.members_are.active

      entering : IsMoving tells given tape scope first entries old carried resync (all_copied old span sectioned) buffer (left + 1)
      entering = subst (λ (n : ℕ). IsMoving tells given tape scope first entries old carried resync (all_copied old span sectioned) buffer n) (sym falls)
          (subst (λ (k : Course). IsMoving tells given tape scope first entries old carried resync k buffer (left_by resync old k ahead)) is was)

      missing : AreMissingSince old new roles
      missing = missing-since {old = moved_past span old} roles moved since.vacant

      some : left ≢ 0
      some zero = absurd (record-some given old new resync span ahead moved was.members_are.active (sym told ∙ zero))

-- ---- what the call left, by its answer

pub moved-if : (given : Given) (span : Span) (old new : Members) (o : Option Refusal) (refusal : Refusal) → o ≡ Some refusal → MatchOption o (IsMoved given (moved_past span old) new) (λ refusal. IsMoved given old new) → IsMoved given old new
moved-if given span old new o refusal is moved = subst (λ (o : Option Refusal). MatchOption o (IsMoved given (moved_past span old) new) (λ refusal. IsMoved given old new)) is moved

pub moved-none : (given : Given) (span : Span) (old new : Members) (o : Option Refusal) → o ≡ None → MatchOption o (IsMoved given (moved_past span old) new) (λ refusal. IsMoved given old new) → IsMoved given (moved_past span old) new
moved-none given span old new o is moved = subst (λ (o : Option Refusal). MatchOption o (IsMoved given (moved_past span old) new) (λ refusal. IsMoved given old new)) is moved

pub safe-none-of : {tells : Type 0} {given : Given} {old new : Members} {tape tape' : List Operation} {span : Span} (o : Option Refusal) → o ≡ None → IsRecordSafe tells given old new tape tape' span o → IsRecordSafe tells given old new tape tape' span None
safe-none-of {tells = tells} {given = given} {old = old} {new = new} {tape = tape} {tape' = tape'} {span = span} o is safe = subst (λ (o : Option Refusal). IsRecordSafe tells given old new tape tape' span o) is safe

-- ---- the open window

-- it is the next one
pub window-next : {newest : Sb} (course : Course) (span : Span) (copied : ℕ) (sectioned : Bool) → course ≡ entered span copied sectioned → IsCourseOf newest course → next_window newest ≡ Some span
window-next {newest = newest} course span copied sectioned is of = (subst (λ (k : Course). IsCourseOf newest k) is of).window.0
