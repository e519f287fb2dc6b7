-- What an array in a reshape keeps, after a call.
use Rattle.std.proofs.Common.{◌≡◌, ◌⊎◌, ℕ, ◌+◌, ◌-◌, ◌*◌, ◌<◌, ◌≤◌, ◌==◌, ◌||◌, Bool, true, false, inl, inr, cond, Option, List, [], ◌∷◌, ◌++◌, length, take, take_all, drop, refl, sym, ◌∙◌, ap, subst, arith}
use Rattle.std.specs.Prelude.{min}
use Rattle.std.specs.List.{list_any}
use Rattle.std.proofs.lemmas.Bool.Decides.{nat_tests}
use Rattle.std.proofs.lemmas.List.{take-append-le}
use Rattle.std.proofs.lemmas.List.Folds.{list_any-append}
use Rattle.array_fixed_laws.specs.raid_types_Shapes.{data_disks}
use Rattle.array_fixed_laws.specs.raid_types_the_Span.{Span}
use Rattle.array_fixed_laws.specs.raid_types_the_Phase.{Phase}
use Rattle.reshape_window_backup.specs.bank_the_Operation.{Operation}
use Rattle.array_fixed_laws.specs.raid_types_the_Who.{Who}
use Rattle.array_reshaping_resync_laws.specs.history_append_Losing.{losses_of}
use Rattle.array_reshaping_resync_laws.proofs.history_append_CallLaws.{losses-are, length-losses, limit-losses}
use Rattle.array_fixed_laws.proofs.array_call_specs_NowLaws.{length-more}
use Rattle.reshape_window_backup.specs.bank_Given.{Given, NeverFalls}
use Rattle.reshape_window_backup.specs.sb_codec_the_Sb.{Sb}
use Rattle.reshape_window_backup.specs.reshape_geometry_Geometry.{unit, steps_of, stripes, beyond}
use Rattle.reshape_window_backup.specs.reshape_plan_Plans.{AreSound, phases_steps}
use Rattle.array_reshaping_resync_laws.specs.sb_specs_the_Members.{Members}
use Rattle.array_reshaping_resync_laws.specs.sb_specs_Reading.{Scope, shape_of, final_shape, list_length}
use Rattle.array_reshaping_resync_laws.proofs.sb_specs_ValidFields.{few-roles}
use Rattle.array_reshaping_resync_laws.specs.stripe_row_Rows.{reading_of, is_missing}
use Rattle.array_reshaping_resync_laws.specs.history_the_Entry.{Entry}
use Rattle.array_reshaping_resync_laws.specs.history_the_Event.{Event}
use Rattle.array_reshaping_resync_laws.specs.history_the_Event_TheVariants.{Lost}
use Rattle.array_reshaping_resync_laws.specs.history_the_LostCause.{LostCause}
use Rattle.array_reshaping_resync_laws.specs.history_Flat.{length_of, length_after, limit_after}
use Rattle.array_reshaping_resync_laws.specs.history_Growing.{EndBy}
use Rattle.array_reshaping_resync_laws.specs.history_OneShape.{is_lost}
use Rattle.array_reshaping_resync_laws.specs.history_Plain.{entries_of}
use Rattle.array_reshaping_resync_laws.specs.history_Losses.{loses}
use Rattle.array_reshaping_resync_laws.specs.history_World.{World}
use Rattle.array_reshaping_resync_laws.specs.history_Stands.{reach_of}
use Rattle.array_reshaping_resync_laws.specs.crash_views_Regions.{backup_of, DoWithout}
use Rattle.array_reshaping_resync_laws.specs.crash_safety_laws_Safety.{HasLiveSlot}
use Rattle.array_reshaping_resync_laws.specs.array_members_Placed.{AreWhole, HaveSameReshape}
use Rattle.array_reshaping_resync_laws.specs.array_members_the_Work.{Work}
use Rattle.array_reshaping_resync_laws.specs.array_members_Moving.{Grows, IsMoved}
use Rattle.array_reshaping_resync_laws.specs.array_members_Numbers.{bears}
use Rattle.array_reshaping_resync_laws.proofs.array_members_LiveLeft.{without-left}
use Rattle.array_reshaping_resync_laws.specs.reshape_request_the_Window.{Window}
use Rattle.array_reshaping_resync_laws.specs.reshape_request_the_Window_TheVariants.{Closed, Entered, Unsure}
use Rattle.array_reshaping_resync_laws.specs.reshape_request_the_PhasesLeft.{PhasesLeft}
use Rattle.array_reshaping_resync_laws.specs.reshape_request_Left.{phases_of, grow_left, reshape_left}
use Rattle.array_reshaping_resync_laws.specs.history_invariant_Safe.{world_in, TakesNone}
use Rattle.array_reshaping_resync_laws.proofs.history_invariant_Entered.{lost-taken}
use Rattle.array_reshaping_resync_laws.proofs.history_invariant_Growing.{takes-grown}
use Rattle.array_reshaping_resync_laws.proofs.history_invariant_Tests.{neither, none-before}
use Rattle.array_fixed_laws.proofs.history_invariant_laws_Behind.{early-losses}
use Rattle.array_reshaping_resync_laws.specs.reshape_progress_the_Course.{Course}
use Rattle.array_reshaping_resync_laws.specs.array_reshaping_invariant_Moving.{IsMoving}
use Rattle.array_reshaping_resync_laws.proofs.array_reshaping_invariant_Steps.{AreMissingSince, missing-moved}
use Rattle.array_reshaping_resync_laws.specs.stripe_region_resync_Left.{resync_left}
use Rattle.array_reshaping_resync_laws.proofs.stripe_region_resync_LeftLaws.{left-stays}
use Rattle.array_fixed_laws.specs.array_specs_Parts.{left_in}
use Rattle.array_fixed_laws.proofs.array_specs_VisibleLaws.{limit-kept}
use Rattle.array_fixed_laws.proofs.array_specs_Lengths.{IsLengthKept}
use Rattle.array_reshaping_laws.specs.Ready.{bytes_in, IsReady}

-- ---- superblocks of the same reshape

-- the same shapes over the same rows
pub record AreSameShapes (old new : Sb) : Type 0 where
  pub shape : shape_of new ≡ shape_of old
  pub final : final_shape new ≡ final_shape old
  pub size : new.size ≡ old.size

pub shapes-same : (sb : Sb) → AreSameShapes sb sb
shapes-same sb = record { shape = refl; final = refl; size = refl }

pub shapes-moved : (given : Given) (old new : Members) → IsMoved given old new → AreSameShapes old.newest new.newest
shapes-moved given old new moved = record { shape = moved.shape; final = moved.reshape.final; size = moved.size }

reach-same : (old new : Sb) → AreSameShapes old new → reach_of new ≡ reach_of old
reach-same old new same = λ i. min (unit (same.shape i) (same.final i)) (min (data_disks (same.shape i)) (data_disks (same.final i)) * same.size i)

pub long-same : (old new : Sb) → AreSameShapes old new → list_length new ≡ list_length old
long-same old new same = λ i. min (data_disks (same.shape i)) (data_disks (same.final i)) * same.size i

-- the steps that are left of an array whose resync has come so far
abbrev pub left_by : Option ℕ → Members → Course → PhasesLeft → ℕ
left_by resync members course ahead = grow_left members.newest course.window course.zeroed (phases_of ahead) + resync_left members.newest course.window resync

-- they are the same
left-alike : (old new : Sb) (window : Window) (zeroed : ℕ) (ahead : List Phase) → HaveSameReshape old new → shape_of new ≡ shape_of old → new.size ≡ old.size
    → grow_left new window zeroed ahead ≡ grow_left old window zeroed ahead
left-alike old new window zeroed ahead reshape shape size =
    λ i. cond (reshape.reshaping i) (moved window i) 0 + phases_steps (reshape.final i) (size i) ahead
  where
    moved : (window : Window) → reshape_left new window zeroed ≡ reshape_left old window zeroed
    moved Closed = λ i. steps_of (shape i) (reshape.final i) (size i) (reshape.backward i) (reshape.position i) - zeroed
    moved (Unsure span) = λ i. steps_of (shape i) (reshape.final i) (size i) (reshape.backward i) (reshape.position i) - zeroed
    moved (Entered span copied sectioned) =
        λ i. (stripes (reshape.final i) span.lo span.hi - copied) + 1 + (steps_of (shape i) (reshape.final i) (size i) (reshape.backward i) (beyond (reshape.backward i) span) - zeroed)

pub left-moved : (given : Given) (old new : Members) (resync : Option ℕ) (course : Course) (ahead : PhasesLeft) → IsMoved given old new → left_by resync new course ahead ≡ left_by resync old course ahead
left-moved given old new resync course ahead moved =
    λ i. left-alike old.newest new.newest course.window course.zeroed (phases_of ahead) moved.reshape moved.shape moved.size i + left-stays given old new course.window resync moved i

-- ---- the length of the list

-- and those of one behind losses
pub behind-keeps : (who : Who) (end roles spares : ℕ) (event : Event) → ((n : ℕ) → length_after n event ≡ n) → ((limit : Option ℕ) → limit_after limit event ≡ limit) → IsLengthKept (entries_of who end (losses_of roles spares ++ event ∷ []))
behind-keeps who end roles spares event long free = record {
  long = λ n. length-losses who end (losses_of roles spares) (event ∷ []) (losses-are roles spares) n ∙ long n;
  free = λ limit. limit-losses who end (losses_of roles spares) (event ∷ []) (losses-are roles spares) limit ∙ free limit;
}

-- ---- no role is missing where no entry takes one

-- what no entry takes, none of the last ones does
takes-last : (world : World) (role : ℕ) (entries added : List Entry) → TakesNone world (entries ++ added) → list_any (loses world role) added ≡ false
takes-last world role entries added none =
    (neither (list_any (loses world role) entries) (list_any (loses world role) added) (sym (list_any-append (loses world role) entries added) ∙ none role)).1

-- a role that a call tells lost is taken
pub takes-lost : {P : Type 0} (world : World) (role : ℕ) (entries added : List Entry) → is_lost added role ≡ true → TakesNone world (entries ++ added) → P
takes-lost world role entries added lost none = absurd (let both : true ≡ false = sym (lost-taken world role added lost) ∙ takes-last world role entries added none in cc)

-- as is one that it tells lost first
pub lost-here : (role : ℕ) (who : Who) (end : ℕ) (cause : LostCause) (rest : List Event) → is_lost (entries_of who end (Lost role cause ∷ rest)) role ≡ true
lost-here role who end cause rest = ap (λ (b : Bool). b || is_lost (entries_of who end rest) role) (self role)
  where
    self : (n : ℕ) → (n == n) ≡ true
    self n = grind (arith, nat_tests)

-- so where none was missing, and a call tells what it lost
pub behind-whole : {given : Given} {old new : Members} (tape' : List Operation) (scope : Scope) (first : ℕ) (entries : List Entry) (who : Who) (end roles spares : ℕ) (event : Event)
    → IsMoved given old new → AreMissingSince old new roles
    → TakesNone (world_in given tape' scope first) (entries ++ entries_of who end (losses_of roles spares ++ event ∷ [])) → AreWhole old → AreWhole new
behind-whole {given = given} {old = old} {new = new} tape' scope first entries who end roles spares event moved since none whole role lt = by (is_missing (reading_of new) role) refl
  where
    by : (b : Bool) → is_missing (reading_of new) role ≡ b → b ≡ false
    by false is = refl
    by true is = elim (missing-moved roles moved since role lt is) [
      | inl was ↦ absurd (let both : true ≡ false = sym was.1 ∙ whole role was.0 in cc)
      | inr has ↦
          let few = few-roles new.newest moved.placed.fit.valid in
          takes-lost (world_in given tape' scope first) role entries (entries_of who end (losses_of roles spares ++ event ∷ []))
          ((early-losses roles spares).lost who end (event ∷ []) role (omega (arith, lt, few)) has) none
    ]

-- what no entry takes in the end, none took before
pub takes-before : {tells : Type 0} {tape tape' : List Operation} (given : Given) (scope : Scope) (first : ℕ) (entries added : List Entry) → Grows tells tape tape' → (tells → EndBy (length tape) entries)
    → tells → TakesNone (world_in given tape' scope first) (entries ++ added) → TakesNone (world_in given tape scope first) entries
takes-before {tape = tape} {tape' = tape'} given scope first entries added grows ends t none role =
    let g = grows.more t in
    sym (takes-grown (world_in given tape scope first) g.0 entries role (ends t))
    ∙ subst (λ (l : List Operation). list_any (loses (world_in given l scope first) role) entries ≡ false) g.1
    (none-before (loses (world_in given tape' scope first) role) entries added (none role))

-- ---- after a call's last step in memory

-- where the course has changed, but for a window that became unsure while its backup is there
pub ready-moved : {tells : Type 0} {given given' : Given} {tape tape' : List Operation} {scope scope' : Scope} {first first' : ℕ} {entries mid entries' : List Entry} {members members' : Members}
    {work work' : Work} {course course' : Course} {ahead : PhasesLeft} {limit : Option ℕ} {window window' : List ℕ} {steps steps' room room' rows buffer far_rows far_buffer : ℕ} {before after : ℕ → ℕ} (added : List Entry)
    → IsReady tells given tape scope first entries members work course ahead limit window before steps room rows buffer far_rows far_buffer
    → Grows tells tape tape' → AreSameShapes members.newest members'.newest
    → IsMoving tells given tape' scope first (entries ++ added) members' (bears work') work'.resync course' (bytes_in course'.window window') (left_in work' members' course' ahead)
    → ((span : Span) → course'.window ≡ Unsure span → (course.window ≡ Unsure span) ⊎ (0 < after (backup_of scope)))
    → length window' ≡ length window → NeverFalls before after → IsLengthKept added
    → (TakesNone (world_in given tape' scope first) (entries ++ added) → AreWhole members → AreWhole members')
    → given' ≡ given → scope' ≡ scope → first' ≡ first → mid ≡ entries → entries' ≡ mid ++ added → 50 * steps' < room'
    → IsReady tells given' tape' scope' first' entries' members' work' course' ahead limit window' after steps' room' rows buffer far_rows far_buffer
ready-moved {tells = tells} {given = given} {given' = given'} {tape' = tape'} {scope = scope} {scope' = scope'} {first = first} {first' = first'} {entries = entries} {mid = mid} {members = members} {members' = members'}
    {work' = work'} {course' = course'} {ahead = ahead} {limit = limit} {window' = window'} {steps' = steps'} {room' = room'} {rows = rows} {buffer = buffer} {far_rows = far_rows} {far_buffer = far_buffer} {after = after}
    added was grows same kept dead long rises quiet whole same_given scope_is first_is mid_is is room_left =
    subst (λ (l : List Entry). IsReady tells given' tape' scope' first' l members' work' course' ahead limit window' after steps' room' rows buffer far_rows far_buffer) (sym (is ∙ ap (λ (l : List Entry). l ++ added) mid_is))
    (subst (λ (n : ℕ). IsReady tells given' tape' scope' n (entries ++ added) members' work' course' ahead limit window' after steps' room' rows buffer far_rows far_buffer) (sym first_is)
    (subst (λ (s : Scope). IsReady tells given' tape' s first (entries ++ added) members' work' course' ahead limit window' after steps' room' rows buffer far_rows far_buffer) (sym scope_is)
    (subst (λ (g : Given). IsReady tells g tape' scope first (entries ++ added) members' work' course' ahead limit window' after steps' room' rows buffer far_rows far_buffer) (sym same_given)
    (record {
      kept = kept;
      sized = subst (λ (n : ℕ). length_of n (entries ++ added) ≡ n) (sym (long-same members.newest members'.newest same))
          (length-more (list_length members.newest) entries added was.sized (quiet.long (list_length members.newest)));
      limited = limit-kept limit entries added was.limited (quiet.free limit);
      full = λ t none. whole none (was.full t (takes-before given scope first entries added grows (λ t. (was.kept.recorded t).ends) t none));
      planned = subst (λ (n : ℕ). AreSound (final_shape members'.newest) n (phases_of ahead)) (sym same.size)
          (subst (λ s. AreSound s members.newest.size (phases_of ahead)) (sym same.final) was.planned);
      wide = let wide = was.wide in let reach = reach-same members.newest members'.newest same in omega (arith, wide, reach, long);
      failed = λ slot lt out. let had = was.failed slot lt out in let more = rises slot in omega (arith, had, more);
      dead = λ span is. elim (dead span is) [
        | inl before ↦ let had = was.dead span before in let more = rises (backup_of scope) in omega (arith, had, more)
        | inr now ↦ now
      ];
      room_left = room_left;
      rows_fit = was.rows_fit;
      buffer_fits = was.buffer_fits;
      far_rows_fit = was.far_rows_fit;
      far_buffer_fits = was.far_buffer_fits;
    }))))

-- where the work may have changed too, and the stripes that are zeroed
pub ready-with : {tells : Type 0} {given given' : Given} {tape tape' : List Operation} {scope scope' : Scope} {first first' : ℕ} {entries mid entries' : List Entry} {members members' : Members}
    {work work' : Work} {course : Course} {zeroed : ℕ} {ahead : PhasesLeft} {limit : Option ℕ} {window window' : List ℕ} {steps steps' room room' rows buffer far_rows far_buffer : ℕ} {before after : ℕ → ℕ} (added : List Entry)
    → IsReady tells given tape scope first entries members work course ahead limit window before steps room rows buffer far_rows far_buffer
    → Grows tells tape tape' → AreSameShapes members.newest members'.newest
    → IsMoving tells given tape' scope first (entries ++ added) members' (bears work') work'.resync (record course { zeroed = zeroed }) (bytes_in course.window window') (left_in work' members' (record course { zeroed = zeroed }) ahead)
    → length window' ≡ length window → NeverFalls before after → IsLengthKept added
    → (TakesNone (world_in given tape' scope first) (entries ++ added) → AreWhole members → AreWhole members')
    → given' ≡ given → scope' ≡ scope → first' ≡ first → mid ≡ entries → entries' ≡ mid ++ added → 50 * steps' < room'
    → IsReady tells given' tape' scope' first' entries' members' work' (record course { zeroed = zeroed }) ahead limit window' after steps' room' rows buffer far_rows far_buffer
ready-with added was grows same kept = ready-moved added was grows same kept (λ span is. inl is)

-- where it is as it was
pub ready : {tells : Type 0} {given given' : Given} {tape tape' : List Operation} {scope scope' : Scope} {first first' : ℕ} {entries mid entries' : List Entry} {members members' : Members}
    {work : Work} {course : Course} {zeroed : ℕ} {ahead : PhasesLeft} {limit : Option ℕ} {window window' : List ℕ} {steps steps' room room' rows buffer far_rows far_buffer : ℕ} {before after : ℕ → ℕ} (added : List Entry)
    → IsReady tells given tape scope first entries members work course ahead limit window before steps room rows buffer far_rows far_buffer
    → Grows tells tape tape' → AreSameShapes members.newest members'.newest
    → IsMoving tells given tape' scope first (entries ++ added) members' (bears work) work.resync (record course { zeroed = zeroed }) (bytes_in course.window window') (left_in work members' (record course { zeroed = zeroed }) ahead)
    → length window' ≡ length window → NeverFalls before after → IsLengthKept added
    → (TakesNone (world_in given tape' scope first) (entries ++ added) → AreWhole members → AreWhole members')
    → given' ≡ given → scope' ≡ scope → first' ≡ first → mid ≡ entries → entries' ≡ mid ++ added → 50 * steps' < room'
    → IsReady tells given' tape' scope' first' entries' members' work (record course { zeroed = zeroed }) ahead limit window' after steps' room' rows buffer far_rows far_buffer
ready added was grows same kept = ready-with added was grows same kept

-- with another buffer for rows
pub with-buffer : {tells : Type 0} {given : Given} {tape : List Operation} {scope : Scope} {first : ℕ} {entries : List Entry} {members : Members}
    {work : Work} {course : Course} {ahead : PhasesLeft} {limit : Option ℕ} {window : List ℕ} {steps room rows buffer buffer' far_rows far_buffer : ℕ} {faults : ℕ → ℕ} → 1048576 ≤ buffer'
    → IsReady tells given tape scope first entries members work course ahead limit window faults steps room rows buffer far_rows far_buffer
    → IsReady tells given tape scope first entries members work course ahead limit window faults steps room rows buffer' far_rows far_buffer
with-buffer fits was = record {
  kept = was.kept;
  sized = was.sized;
  limited = was.limited;
  full = was.full;
  planned = was.planned;
  wide = was.wide;
  failed = was.failed;
  dead = was.dead;
  room_left = was.room_left;
  rows_fit = was.rows_fit;
  buffer_fits = fits;
  far_rows_fit = was.far_rows_fit;
  far_buffer_fits = was.far_buffer_fits;
}

-- with room for more entries
pub roomier : {tells : Type 0} {given : Given} {tape : List Operation} {scope : Scope} {first : ℕ} {entries entries' : List Entry} {members : Members}
    {work : Work} {course : Course} {ahead : PhasesLeft} {limit : Option ℕ} {window : List ℕ} {steps room room' rows buffer far_rows far_buffer : ℕ} {faults : ℕ → ℕ}
    → IsReady tells given tape scope first entries members work course ahead limit window faults steps room rows buffer far_rows far_buffer → entries' ≡ entries → room ≤ room'
    → IsReady tells given tape scope first entries' members work course ahead limit window faults steps room' rows buffer far_rows far_buffer
roomier {tells = tells} {given = given} {tape = tape} {scope = scope} {first = first} {members = members} {work = work} {course = course} {ahead = ahead} {limit = limit} {window = window} {steps = steps} {room' = room'}
    {rows = rows} {buffer = buffer} {far_rows = far_rows} {far_buffer = far_buffer} {faults = faults} was same more =
    subst (λ (l : List Entry). IsReady tells given tape scope first l members work course ahead limit window faults steps room' rows buffer far_rows far_buffer) (sym same) (record {
      kept = was.kept;
      sized = was.sized;
      limited = was.limited;
      full = was.full;
      planned = was.planned;
      wide = was.wide;
      failed = was.failed;
      dead = was.dead;
      room_left = (let had = was.room_left in omega (arith, had, more));
      rows_fit = was.rows_fit;
      buffer_fits = was.buffer_fits;
      far_rows_fit = was.far_rows_fit;
      far_buffer_fits = was.far_buffer_fits;
    })

-- ---- the bytes

-- bytes that were written whole
pub written-whole : (n : ℕ) (bytes written : List ℕ) → length written ≡ length bytes → n ≡ length bytes → take n (written ++ drop (length written) bytes) ≡ written
written-whole n bytes written len ok = take-append-le n written (drop (length written) bytes) (omega (arith, len, ok)) ∙ take_all n written (omega (arith, len, ok))

-- ---- live slots

-- an array that does without what it misses has one
pub live-of : {tells : Type 0} {given : Given} {tape : List Operation} {scope : Scope} {first : ℕ} {entries : List Entry} {members : Members} {carried : ℕ → ℕ → Bool} {resync : Option ℕ} {course : Course} {buffer : List ℕ} {left : ℕ}
    → IsMoving tells given tape scope first entries members carried resync course buffer left → DoWithout members → HasLiveSlot members
live-of {given = given} {members = members} was does = without-left given members was.members_are.placed was.members_are.unlost does
