-- What an opening finds of an array in a reshape is what such an array keeps.
use Rattle.std.proofs.Common.{◌≡◌, inl, inr, ℕ, ◌+◌, ◌<◌, ◌≤◌, ◌&&◌, ◌||◌, nat_le, Bool, true, false, not, cond, if◌then◌else◌, List, [], ◌∷◌, length, take, drop, MatchOption, Option, Some, None, IfSome, refl, sym, ◌∙◌, ap, subst, arith}
use Rattle.std.specs.Prelude.{slice_index_or, is_some, IsSome, IsTrue, ⊤}
use Rattle.std.specs.Option.{option_map_or}
use Rattle.std.proofs.lemmas.Bool.Decides.{nat_tests}
use Rattle.array_reshaping_invariant.specs.raid_types_the_Refusal.{Refusal}
use Rattle.array_found_laws.specs.raid_types_the_Refusal_TheVariants.{BackupAbsent}
use Rattle.array_reshaping_invariant.specs.raid_types_the_Span.{Span}
use Rattle.array_reshaping_invariant.specs.raid_types_the_Role.{Role}
use Rattle.array_reshaping_invariant.specs.raid_types_the_Role_TheVariants.{Whole, Recovering, Missing}
use Rattle.array_reshaping_invariant.specs.raid_types_Sectors.{Sector}
use Rattle.array_reshaping_invariant.specs.raid_types_Shapes.{has_slot, tolerance, tolerance_of}
use Rattle.array_reshaping_invariant.specs.bank_the_Operation.{Operation}
use Rattle.array_reshaping_invariant.specs.bank_Given.{Given, sizes}
use Rattle.array_reshaping_invariant.specs.bank_Tape.{Contents, IsIn, disk}
use Rattle.array_reshaping_invariant.proofs.bank_Whole.{sectors-whole}
use Rattle.array_reshaping_invariant.specs.bank_backup_Section.{is_header_of, names_span}
use Rattle.array_reshaping_invariant.specs.sb_specs_the_Members.{Members}
use Rattle.array_reshaping_invariant.specs.sb_specs_Election.{reading_in}
use Rattle.array_reshaping_invariant.specs.sb_specs_Reading.{Scope, Reading, reading, is_reshaping, is_clean, is_whole, shape_of, list_length, role_count, role_state, holder}
use Rattle.array_reshaping_invariant.specs.stripe_row_Rows.{reading_of, present, is_missing, role_without, members_without}
use Rattle.array_reshaping_invariant.proofs.stripe_row_Losses.{state_after}
use Rattle.array_reshaping_invariant.specs.history_the_Entry.{Entry}
use Rattle.array_reshaping_invariant.specs.history_the_Event.{Event}
use Rattle.array_reshaping_invariant.specs.history_Epochs.{HasRoomForEvents}
use Rattle.array_reshaping_invariant.specs.history_Flat.{now}
use Rattle.array_reshaping_invariant.specs.history_Legal.{IsAbsentAtFirst, level_at}
use Rattle.array_reshaping_invariant.specs.history_Losses.{was_dirty, is_unsynced}
use Rattle.array_reshaping_invariant.specs.history_OneShape.{is_unsettled}
use Rattle.array_reshaping_invariant.specs.history_Opened.{IsSound}
use Rattle.array_reshaping_invariant.specs.history_Plain.{entries_of}
use Rattle.array_reshaping_invariant.specs.history_Sound.{OpensFit}
use Rattle.array_reshaping_invariant.specs.history_Stands.{reach_of, stands}
use Rattle.array_reshaping_invariant.specs.history_World.{World, reading_at, opening_list}
use Rattle.array_reshaping_invariant.specs.crash_views_Regions.{AreShapesFit, ArePlaced, DoWithout, IsReadOf, header_in, open_by}
use Rattle.array_reshaping_invariant.specs.crash_views_Views.{Disk, Ledger, AreHeadersFit, IsViewRight}
use Rattle.array_reshaping_invariant.specs.crash_views_Windows.{AreTailsStanding, RowsStand}
use Rattle.array_reshaping_invariant.proofs.crash_views_Standing.{read-length}
use Rattle.array_reshaping_invariant.proofs.crash_views_Stands.{window-inside}
use Rattle.array_reshaping_invariant.specs.crash_safety_laws_Safety.{HasLiveSlot}
use Rattle.array_reshaping_invariant.specs.crash_safety_laws_Steady.{IsSafeOver}
use Rattle.array_reshaping_invariant.specs.array_members_Lacking.{DoesWithout}
use Rattle.array_reshaping_invariant.specs.array_members_Moving.{IsMoved}
use Rattle.array_reshaping_invariant.specs.array_members_Placed.{IsPlaced}
use Rattle.array_reshaping_invariant.specs.array_members_Under.{StandsUnder, RowsStandUnder}
use Rattle.array_reshaping_invariant.proofs.array_members_HeldRows.{missing-moved}
use Rattle.array_reshaping_invariant.proofs.array_members_SoundViews.{leaves-now}
use Rattle.array_reshaping_invariant.specs.array_call_specs_Adopting.{opener, absent_losses}
use Rattle.array_reshaping_invariant.specs.history_invariant_Recorded.{IsHistoryKept}
use Rattle.array_reshaping_invariant.specs.history_invariant_Safe.{world_in, IsReshapeFit, OpensOnCourse, IsFilledRight, IsCounted, IsSafeHistory}
use Rattle.array_reshaping_invariant.specs.history_invariant_Told.{told_now}
use Rattle.array_reshaping_invariant.proofs.history_invariant_Opened.{opened-kept, opened-safe}
use Rattle.array_reshaping_invariant.proofs.history_invariant_Turned.{fills-on_course}
use Rattle.array_reshaping_invariant.specs.history_invariant_laws_Reliable.{IsReliable, AreToldGone, HasLastStep}
use Rattle.array_reshaping_invariant.proofs.history_invariant_laws_LastStep.{opened-last}
use Rattle.array_reshaping_invariant.specs.reshape_request_the_Window.{Window}
use Rattle.array_reshaping_invariant.specs.reshape_progress_Course.{IsStoredAs, HasSection, IsStored, AnyShape, StandsInCourse}
use Rattle.array_reshaping_invariant.proofs.reshape_progress_Frames.{stands-without}
use Rattle.array_reshaping_invariant.proofs.reshape_progress_Courses.{courses-move}
use Rattle.array_reshaping_invariant.proofs.reshape_progress_Under.{courses-stand-under}
use Rattle.array_reshaping_invariant.specs.stripe_region_resync_Resyncs.{resync_stripes}
use Rattle.array_reshaping_invariant.specs.reshape_progress_resync_laws_Synced.{IsUnsynced, StandsSynced}
use Rattle.array_reshaping_invariant.proofs.reshape_progress_resync_laws_Synced.{none-pending, mended-courses-move}
use Rattle.array_reshaping_invariant.proofs.reshape_progress_resync_laws_Windows.{resyncs-begin}
use Rattle.array_open_window.proofs.array_reshaping_state_ReshapeLaws.{window-reach}
use Rattle.array_reshaping_invariant.specs.Moving.{HasListInCourse}
use Rattle.array_found_laws.specs.Found.{AreStored}
use Rattle.array_found_laws.proofs.Elected.{elected-does}
use Rattle.array_found_laws.proofs.Held.{found-numbers, found-is-held}
use Rattle.array_found_laws.proofs.Read.{found-read}
use Rattle.array_open_window.specs.Finding.{window_for, IsFoundIn}
use Rattle.array_open_window.specs.Recovering.{AreRecovering}
use Rattle.array_reshaping_open_laws.specs.Opening.{scope_of, IsOpenedMoving, opening_entries, AreAmong, found_course, found_resync, FoundWindowsOpen, OpeningsMove}
use Rattle.array_reshaping_open_laws.proofs.Listed.{found-list, list-in, tails-stand, row-stands, ends-stand, mend-whole, found-stands}
use Rattle.array_reshaping_open_laws.proofs.Losses.{all-found, events-are, all-absent, all-gone, no-resync, same-level, no-left, same-length, same-values}
use Rattle.array_reshaping_open_laws.proofs.Members.{fit-here, placed-here, backed-here, moved-here, reshaping-here}
use Rattle.array_reshaping_open_laws.proofs.Right.{first-in, first-now, found-right, found-flushed, found-carried}

only : (v w : Sector) → IsIn (w ∷ []) v → v ≡ w
only v w (inl same) = same
only v w (inr none) = absurd none

first : (a b : Bool) → (a && b) ≡ true → a ≡ true
first true b is = refl
first false b is = absurd (cc)

second : (a b : Bool) → (a && b) ≡ true → b ≡ true
second true b is = is
second false b is = absurd (cc)

is-most : (a b : ℕ) → nat_le a b ≡ true → a ≤ b
is-most a b is = grind (arith, nat_tests, is)

-- an active reshape has room in its backup where that isn't refused
roomy : (a b : Bool) → a ≡ true → ◌≡◌ {A = Option Refusal} (cond (not a || b) None (Some BackupAbsent)) None → b ≡ true
roomy true true is none = refl
roomy true false is none = absurd (cc)
roomy false b is none = absurd (cc)

-- what a sound opening finds
found-sound : (bank : Given) (tape : List Operation) (scope : Scope) (r : Reading) → reading scope (present bank tape) ≡ Some r → OpensFit (world_in bank tape scope (length tape)) → IsSound scope (present bank tape) r
unfolding reading_at
found-sound bank tape scope r says fits = subst (λ (o : Option Reading). IfSome o (IsSound scope (present bank tape))) says fits

-- the array was found clean, by a sound opening: only then is the parity of its rows relied on
record IsCleanAndFit (world : World) (members : Members) : Type 0 where
  clean : is_clean members.newest ≡ true
  fit : OpensFit world

module _ {tells : Type 0} {bank : Given} {tape : List Operation} {given backup : ℕ} {former : Members} {window : Window} {buffer : List ℕ} (opened : IsOpenedMoving tells bank tape given backup former window buffer)
    (lost : ℕ) (recovering : AreRecovering former lost) where
  abbrev scope : Scope
  scope = scope_of bank given backup former

  abbrev m : Members
  m = members_without lost former

  abbrev c : Contents
  c = present bank tape

  abbrev d : Disk
  d = disk bank.start tape

  abbrev r : Reading
  r = reading_in bank.slots former

  abbrev world : World
  world = world_in bank tape (scope_of bank given backup former) (length tape)

  abbrev n : ℕ
  n = role_count former.newest

  abbrev entries : List Entry
  entries = opening_entries (length tape) (members_without lost former)

  fit : AreShapesFit former.newest
  fit = fit-here bank given backup former opened.members_are.elected opened.members_are.aside opened.members_are.active opened.members_are.backed

  placed : IsPlaced bank former
  placed = placed-here bank given backup former opened.members_are.elected opened.members_are.aside opened.members_are.active opened.members_are.backed

  backed : ArePlaced (scope_of bank given backup former) bank former
  backed = backed-here bank given backup former opened.members_are.elected opened.members_are.aside opened.members_are.active opened.members_are.backed

  moved : IsMoved bank former (members_without lost former)
  moved = moved-here bank given backup former opened.members_are.elected opened.members_are.aside opened.members_are.active opened.members_are.backed lost recovering

  read : IsReadOf (scope_of bank given backup former) former (reading_in bank.slots former)
  read = found-read bank given former opened.members_are.elected placed scope refl

  does : DoWithout former
  does = elected-does (sizes bank).sectors (take bank.slots former.own) former.lost former opened.members_are.elected.elected

  -- a role that isn't whole without the recovering slots wasn't whole with them
  was-missing : (role : ℕ) → is_missing (reading_of m) role ≡ true → is_whole (role_state (reading_of former) role) ≡ false
  was-missing role miss = of (role_state (reading_of former) role) refl (ap (λ (s : Role). not (is_whole s)) (sym (state_after former lost role)) ∙ miss)
    where
      kept : (slot : ℕ) (b : Bool) → role_state (reading_of former) role ≡ Whole slot → has_slot lost slot ≡ b → b ≡ false
      kept slot true is has = absurd (
          let other = recovering.only slot has in
          let same : role ≡ other.0 = placed.apart role other.0 slot (ap holder is) (ap holder other.1) in
          let clash : Whole slot ≡ Recovering slot = sym is ∙ ap (role_state (reading_of former)) same ∙ other.1 in
          cc)
      kept slot false is has = refl

      of : (state : Role) → role_state (reading_of former) role ≡ state → not (is_whole (role_without lost state)) ≡ true → is_whole state ≡ false
      of (Whole slot) is gone = absurd (
          let here = kept slot (has_slot lost slot) is refl in
          let clash = sym (ap (λ (b : Bool). not (is_whole (if b then Missing else Whole slot))) here) ∙ gone in
          cc)
      of (Recovering slot) is gone = refl
      of Missing is gone = refl

  module _ (t : tells) where
    stored : AreStored bank (scope_of bank given backup former) former (present bank tape) (disk bank.start tape)
    stored = opened.members_are.stored t

    reading-is : reading_at world (length tape) ≡ Some r
    unfolding reading_at
    reading-is = stored.says

    opening-is : opening_list world ≡ stands scope c
    unfolding opening_list
    opening-is = refl

    list-long : length (opening_list world) ≡ list_length former.newest
    list-long = ap (λ (l : List Sector). length l) opening-is ∙ read-length scope bank former backed c r read stored.says

    -- ---- what is told

    level : tolerance_of (level_at world entries) ≡ tolerance (shape_of former.newest)
    level = ap tolerance_of
        (same-level opener (length tape) (reading_of m) n (option_map_or (λ q. q.newest.level) (reading_at world (length tape)) 5)
        ∙ ap (λ (o : Option Reading). option_map_or (λ q. q.newest.level) o 5) reading-is)

    gone : AreToldGone world entries m
    gone role lt miss = all-gone opener (length tape) (reading_of m) n world role lt miss

    dirty : was_dirty world ≡ not (is_clean former.newest)
    dirty = ap (λ (o : Option Reading). option_map_or (λ q. not (is_clean q.newest)) o false) reading-is

    unsynced : is_unsynced world entries ≡ (not (is_clean former.newest) && true)
    unsynced = λ i. dirty i && not (no-resync opener (length tape) (reading_of m) n i)

    unclean : is_clean former.newest ≡ false → (is_unsynced world entries || is_unsettled entries) ≡ true
    unclean is = ap (λ (b : Bool). b || is_unsettled entries) (unsynced ∙ ap (λ (b : Bool). not b && true) is)

    -- a resync is owed where the array was found dirty
    pending : is_unsynced world entries ≡ is_some (found_resync former)
    pending = unsynced ∙ of (is_clean former.newest)
      where
        of : (b : Bool) → (not b && true) ≡ is_some {T = ℕ} (if b then None else Some 0)
        of true = refl
        of false = refl

    absent : (role : ℕ) → role < n → is_missing (reading_of m) role ≡ true → IsAbsentAtFirst world role
    absent role lt miss = subst (λ (o : Option Reading). MatchOption o ⊥ (λ q. (role < role_count q.newest) × (is_whole (role_state q role) ≡ false))) (sym reading-is) (lt, was-missing role miss)

    recorded : IsHistoryKept (IsReliable world entries) world (list_length former.newest) entries
    recorded =
        subst (λ (k : ℕ). IsHistoryKept (IsReliable world entries) world k entries) list-long
        (subst (λ (l : List Event). IsHistoryKept (IsReliable world entries) world (length (opening_list world)) (entries_of opener (length tape) l)) (events-are (reading_of m) n)
        (opened-kept (IsReliable world entries) world opener (all-found (reading_of m) n) refl refl refl (all-absent world (reading_of m) n absent)))

    last-step : HasLastStep world entries (list_length former.newest)
    last-step =
        subst (λ (k : ℕ). HasLastStep world entries k) list-long
        (subst (λ (l : List Event). HasLastStep world (entries_of opener (length tape) l) (length (opening_list world))) (events-are (reading_of m) n)
        (opened-last world opener (all-found (reading_of m) n) refl refl refl (all-absent world (reading_of m) n absent)))

    -- ---- the backup

    -- it is a given slot, with room for each window
    room-there : (has_slot given backup && nat_le (8 + reach_of former.newest) (scope.sizes.sectors backup)) ≡ true
    room-there = roomy (is_reshaping former.newest) (has_slot given backup && nat_le (8 + reach_of former.newest) (scope.sizes.sectors backup)) opened.members_are.active opened.members_are.backed

    backup-given : has_slot given backup ≡ true
    backup-given = first (has_slot given backup) (nat_le (8 + reach_of former.newest) (scope.sizes.sectors backup)) room-there

    long-enough : 8 + reach_of former.newest ≤ scope.sizes.sectors backup
    long-enough = is-most (8 + reach_of former.newest) (scope.sizes.sectors backup) (second (has_slot given backup) (nat_le (8 + reach_of former.newest) (scope.sizes.sectors backup)) room-there)

    header-is : (header : Sector) → IsIn (disk bank.start tape backup 0) header → header ≡ header_in scope c
    header-is header may = only header (c backup 0) (subst (λ (l : List Sector). IsIn l header) (stored.flushed backup 0 backup-given) may)

    stored-as : (o : Option Span) → open_by scope former.newest (header_in scope c) ≡ o → IsStoredAs scope m (window_for o) d
    stored-as None is = λ header may. ap (open_by scope former.newest) (header-is header may) ∙ is
    stored-as (Some span) is = λ header may. ap (open_by scope former.newest) (header-is header may) ∙ is

    section-as : (o : Option Span) → IsFoundIn (c backup) (window_for o) buffer → HasSection scope (window_for o) buffer d
    section-as None found = tt
    section-as (Some span) found = λ i lt v may.
        only v (c backup (8 + i)) (subst (λ (l : List Sector). IsIn l v) (stored.flushed backup (8 + i) backup-given) may) ∙ sym (found.each i lt)

    window-now : window ≡ window_for (open_by scope former.newest (header_in scope c))
    window-now = opened.found t

    sound-is : OpensFit world → IsSound scope c r
    sound-is fits = found-sound bank tape scope r stored.says fits

    -- the reshape is found on its course
    reshape-fit : OpensOnCourse world → IsReshapeFit (scope_of bank given backup former) (present bank tape) (reading_in bank.slots former)
    unfolding reading_at
    reshape-fit on = subst (λ (o : Option Reading). IfSome o (λ q. IsTrue (is_reshaping q.newest) → IsReshapeFit (scope_of bank given backup former) (present bank tape) q)) stored.says on opened.members_are.active

    module _ (reshape : IsReshapeFit (scope_of bank given backup former) (present bank tape) (reading_in bank.slots former)) where
      -- the headers fit
      headers : AreHeadersFit scope m d
      headers slot header is may span names =
          let same : header ≡ c slot 0 = subst (λ (s : ℕ). IsIn (disk bank.start tape s 0) header → header ≡ c s 0) (one backup slot is) (header-is header) may in
          reshape.sections slot span is (subst (λ (h : Sector). (is_header_of scope.uuid h && names_span h span) ≡ true) same names)
        where
          one : (a b : ℕ) → Some a ≡ Some b → a ≡ b
          one a b e = cc

      is-stored : IsStored scope m window buffer d
      is-stored = record {
        section = subst (λ (w : Window). IsStoredAs scope m w d) (sym window-now) (stored-as (open_by scope former.newest (header_in scope c)) refl);
        sectors = subst (λ (w : Window). HasSection scope w buffer d) (sym window-now)
            (section-as (open_by scope former.newest (header_in scope c)) (subst (λ (w : Window). IsFoundIn (c backup) w buffer) window-now (opened.sectors t)));
        headers = headers;
      }

    -- ---- the list

    abbrev list : ℕ → Sector
    list = found-list bank scope refl former backed opened.members_are.active does c read stored.says

    list-now : (x : ℕ) → x < list_length former.newest → list x ≡ slice_index_or (opening_list world) x []
    list-now x lt = list-in bank scope refl former backed opened.members_are.active does c read stored.says x lt ∙ ap (λ (l : List Sector). slice_index_or l x []) (sym opening-is)

    module _ (reshape : IsReshapeFit (scope_of bank given backup former) (present bank tape) (reading_in bank.slots former)) where
      tails : AreTailsStanding former c list
      tails = tails-stand bank scope refl former backed opened.members_are.active does c read stored.says reshape.tail

      rows : IsCleanAndFit world former → RowsStand (open_by scope former.newest (header_in scope c)) former c list
      rows so x shown =
          row-stands bank scope refl former backed opened.members_are.active does c read stored.says (λ slot k within. sectors-whole bank tape (length tape) slot k (opened.whole t) within) placed
          ((sound-is so.fit).rows so.clean) reshape.tail x shown

      stands-former : StandsInCourse (IsCleanAndFit world former) AnyShape former (found_course window) buffer c list
      stands-former =
          found-stands bank scope refl former backed opened.members_are.active does c read stored.says (IsCleanAndFit world former) placed buffer window (λ span next. window-inside former.newest fit span next)
          window-now (opened.sectors t) tails rows

      stands-here : StandsInCourse (IsCleanAndFit world former) AnyShape m (found_course window) buffer c list
      stands-here = courses-move (IsCleanAndFit world former) AnyShape bank former m (found_course window) buffer c c list placed moved (λ slot k other. refl) stands-former

      -- of a dirty array no row is asked yet, and what its resync reads is whole
      begins : StandsSynced (OpensFit world) AnyShape (Some 0) former (found_course window) buffer c list
      begins =
          resyncs-begin (OpensFit world) AnyShape former (found_course window) buffer c list fit (no-rows stands-former)
          (λ aside any. ends-stand bank scope refl former backed opened.members_are.active does c read stored.says placed reshape.tail)
          (λ so. mend-whole bank scope refl former backed opened.members_are.active does c read stored.says (λ slot k within. sectors-whole bank tape (length tape) slot k (opened.whole t) within) placed
          (λ span next. let reach = window-reach former.newest fit span next in let long = long-enough in omega (arith, reach, long)))
        where
          no-rows : {so : Type 0} → StandsInCourse so AnyShape former (found_course window) buffer c list → StandsInCourse ⊥ AnyShape former (found_course window) buffer c list
          no-rows was = record { stands = was.stands; window = was.window; zeros = was.zeros; copied = was.copied; tail = was.tail; zeroed = was.zeroed; rows = λ so. absurd so }

      stands-mended : (clean : Bool) → is_clean former.newest ≡ clean
          → StandsSynced (OpensFit world) (λ shape. DoesWithout shape m) (if clean then None else Some 0) m (found_course window) buffer c list
      stands-mended true is =
          (none-pending (OpensFit world) (λ shape. DoesWithout shape m) m (found_course window) buffer c list).0
          (stands-without (OpensFit world) m (found_course window) buffer c list (of-clean stands-here))
        where
          of-clean : StandsInCourse (IsCleanAndFit world former) AnyShape m (found_course window) buffer c list → StandsInCourse (OpensFit world) AnyShape m (found_course window) buffer c list
          of-clean was = record {
            stands = was.stands;
            window = was.window;
            zeros = was.zeros;
            copied = was.copied;
            tail = was.tail;
            zeroed = was.zeroed;
            rows = λ so. was.rows (record { clean = is; fit = so });
          }
      stands-mended false is =
          fewer (mended-courses-move (OpensFit world) AnyShape bank former m (Some 0) (found_course window) buffer c c list placed moved (λ slot k other. refl) begins)
        where
          fewer : StandsSynced (OpensFit world) AnyShape (Some 0) m (found_course window) buffer c list → StandsSynced (OpensFit world) (λ shape. DoesWithout shape m) (Some 0) m (found_course window) buffer c list
          fewer was = record {
            in_course = stands-without ⊥ m (found_course window) buffer c list was.in_course;
            ends = λ some aside own. was.ends some aside tt;
            whole = was.whole;
            rows = λ so x below own. was.rows so x below tt;
          }

      listed : HasListInCourse (OpensFit world) m (found_resync former) (found_course window) buffer c (now (opening_list world) entries)
      listed = record {
        list = list;
        is = λ x lt. list-now x lt ∙ sym (ap (λ (l : List Sector). slice_index_or l 0 []) (same-values opener (length tape) (reading_of m) n (opening_list world) x) ∙ first-now (opening_list world) x);
        stands = stands-mended (is_clean former.newest) refl;
      }

      -- ---- what a stop may leave

      module _ (carried : ℕ → ℕ → Bool) (among : AreAmong carried former) where
        abbrev told : Ledger
        told = told_now world carried true entries

        sized : list_length former.newest ≡ told.size
        sized = sym (same-length opener (length tape) (reading_of m) n (length (opening_list world)) ∙ list-long)

        values : (x : ℕ) → x < list_length former.newest → IsIn (told.values x) (list x)
        values x lt = subst (λ (l : List Sector). IsIn l (list x)) (sym (same-values opener (length tape) (reading_of m) n (opening_list world) x))
            (subst (λ (v : Sector). IsIn (take 1 (drop x (opening_list world))) v) (sym (list-now x lt)) (first-in (opening_list world) x (let long = list-long in omega (arith, lt, long))))

        under : StandsUnder scope former c d list × (IsCleanAndFit world former → RowsStandUnder scope former c d list)
        under = courses-stand-under (IsCleanAndFit world former) scope former (found_course window) buffer c d list (is-stored-former) stands-former
          where
            is-stored-former : IsStored scope former window buffer d
            is-stored-former = let s = is-stored reshape in record { section = s.section; sectors = s.sectors; headers = s.headers }

        seen-right : IsViewRight (OpensFit world) scope bank told former d
        seen-right =
            found-right (OpensFit world) bank tape scope former told list backed placed (found-flushed bank tape scope former stored.says stored.flushed) sized values
            (λ role lt miss. gone role lt (missing-moved moved role miss)) unclean refl under.0 (λ clean so. under.1 (record { clean = clean; fit = so })) (λ so. headers reshape) tails (λ x tail. stands-former.zeros tail.forth x tail.past)

        safe-now : IsSafeOver world bank told m tape
        safe-now = inl (record {
          former = former;
          since = record {
            gone = lost;
            since = refl;
            held = found-is-held bank former.newest.set_uuid given (Some backup) former c d opened.members_are.elected.few opened.members_are.elected.lost stored;
          };
          right = seen-right;
          numbers = found-carried scope carried former d among (found-numbers bank former.newest.set_uuid given (Some backup) former c d opened.members_are.elected.few opened.members_are.elected.lost stored);
        })

        counted : HasLiveSlot m → IsCounted world m
        counted live = record { found = r; is = reading-is; events = omega arith }

        safe : IsFilledRight world entries → IsSafeHistory ⊤ world bank m carried true entries
        safe right =
            opened-safe ⊤ bank tape scope m carried true opener (absent_losses (reading_of m) n) refl right safe-now
            (λ claimed so. leaves-now world bank told m refl safe-now so) counted

abbrev Opening : Given → List Operation → ℕ → ℕ → Members → ℕ → World
Opening bank tape given backup former k = world_in bank tape (scope_of bank given backup former) k

-- the resync that is owed has mended nothing
none-mended : (clean : Bool) (most : ℕ) → IfSome {T = ℕ} (if clean then None else Some 0) (λ mended. mended ≤ most)
none-mended true most = tt
none-mended false most = omega arith

unmended : (clean : Bool) → IsUnsynced (if clean then None else Some 0)
unmended true = tt
unmended false = refl

owed : (clean : Bool) → IsSome {T = ℕ} (if clean then None else Some 0) → clean ≡ false
owed true some = absurd (cc)
owed false some = refl

pub openings-move : (tells : Type 0) → OpeningsMove tells
openings-move tells bank tape given backup lost first left former window buffer carried opened recovering among first_is = record {
  slots = opened.members_are.elected.few;
  members_are = reshaping-here bank given backup former opened.members_are.elected opened.members_are.aside opened.members_are.active opened.members_are.backed lost recovering;
  course_is = record { window = opened.window_is; through = λ some. absurd (omega (arith, some)); few = omega arith };
  sizes_are = refl;
  left_told = subst (λ (o : Option ℕ). IfSome o (λ k. k ≡ left)) (sym (no-left opener first (reading_of (members_without lost former)) (role_count former.newest))) tt;
  progress = none-mended (is_clean former.newest) (resync_stripes former.newest);
  beside = inr (unmended (is_clean former.newest));
  pending = λ t. at t (λ (k : ℕ). is_unsynced (Opening bank tape given backup former k) (opening_entries k (members_without lost former)) ≡ is_some (found_resync former)) (pending opened lost recovering t);
  dirty = λ does. owed (is_clean former.newest);
  levelled = λ t. at t (λ (k : ℕ). IsReliable (Opening bank tape given backup former k) (opening_entries k (members_without lost former))
      → tolerance_of (level_at (Opening bank tape given backup former k) (opening_entries k (members_without lost former))) ≡ tolerance (shape_of former.newest)) (λ right. level opened lost recovering t);
  gone = λ t. at t (λ (k : ℕ). IsReliable (Opening bank tape given backup former k) (opening_entries k (members_without lost former))
      → AreToldGone (Opening bank tape given backup former k) (opening_entries k (members_without lost former)) (members_without lost former)) (λ right. gone opened lost recovering t);
  unclean = λ t. at t (λ (k : ℕ). is_clean former.newest ≡ false → (is_unsynced (Opening bank tape given backup former k) (opening_entries k (members_without lost former)) || is_unsettled (opening_entries k (members_without lost former))) ≡ true)
      (unclean opened lost recovering t);
  recorded = λ t. at t (λ (k : ℕ). IsHistoryKept (IsReliable (Opening bank tape given backup former k) (opening_entries k (members_without lost former))) (Opening bank tape given backup former k) (list_length former.newest) (opening_entries k (members_without lost former)))
      (recorded opened lost recovering t);
  last_step = λ t. at t (λ (k : ℕ). HasLastStep (Opening bank tape given backup former k) (opening_entries k (members_without lost former)) (list_length former.newest)) (last-step opened lost recovering t);
  stored = λ t. at t (λ (k : ℕ). OpensOnCourse (Opening bank tape given backup former k) → IsStored (scope_of bank given backup former) (members_without lost former) window buffer (disk bank.start tape))
      (λ on. is-stored opened lost recovering t (reshape-fit opened lost recovering t on));
  listed = λ t. at t (λ (k : ℕ). IsFilledRight (Opening bank tape given backup former k) (opening_entries k (members_without lost former))
      → HasListInCourse (OpensFit (Opening bank tape given backup former k)) (members_without lost former) (found_resync former) (found_course window) buffer (present bank tape)
      (now (opening_list (Opening bank tape given backup former k)) (opening_entries k (members_without lost former))))
      (λ right. listed opened lost recovering t (reshape-fit opened lost recovering t
      (fills-on_course (Opening bank tape given backup former (length tape)) (opening_entries (length tape) (members_without lost former)) right)));
  safe = λ t. at t (λ (k : ℕ). IsFilledRight (Opening bank tape given backup former k) (opening_entries k (members_without lost former)) → HasRoomForEvents (Opening bank tape given backup former k)
      → IsSafeHistory ⊤ (Opening bank tape given backup former k) bank (members_without lost former) carried true (opening_entries k (members_without lost former)))
      (λ right room. safe opened lost recovering t (reshape-fit opened lost recovering t
      (fills-on_course (Opening bank tape given backup former (length tape)) (opening_entries (length tape) (members_without lost former)) right)) carried among right);
}
  where
    at : tells → (P : ℕ → Type 0) → P (length tape) → P first
    at t P holds = subst P (sym (first_is t)) holds

-- ---- what is found

pub found-windows-open : (tells : Type 0) → FoundWindowsOpen tells
found-windows-open tells bank tape given backup members window buffer are whole is found sectors = record {
  members_are = are;
  whole = whole;
  window_is = is;
  found = λ t. found t (scope_of bank given backup members) (record {
    uuid = refl;
    backup_is = refl;
    given = first (has_slot given backup) (nat_le (8 + reach_of members.newest) ((scope_of bank given backup members).sizes.sectors backup))
        (roomy (is_reshaping members.newest) (has_slot given backup && nat_le (8 + reach_of members.newest) ((scope_of bank given backup members).sizes.sectors backup)) are.active are.backed);
    sizes_are = refl;
  });
  sectors = sectors;
}
