-- A write beside the window of a reshape, from what `write_list` of region_writes leaves: it is done, or refused before its first row, or behind it.
use Rattle.std.proofs.Common.{◌≡◌, ◌⊎◌, inl, inr, ℕ, ◌+◌, ◌-◌, ◌*◌, ◌/◌, ◌<◌, ◌≤◌, ◌==◌, ◌||◌, nat_le, Bool, true, false, if◌then◌else◌, Option, Some, None, List, [], ◌∷◌, ◌++◌, length, refl, sym, ◌∙◌, ap, subst, arith, append_assoc, append-nil}
use Rattle.std.specs.Prelude.{IsFalse, fold, is_some, min, slice_index_or, ⊤}
use Rattle.std.specs.Option.{option_map_or}
use Rattle.std.proofs.lemmas.Bool.{cases_lt}
use Rattle.std.proofs.lemmas.Bool.Decides.{nat_tests}
use Rattle.std.proofs.lemmas.List.Sums.{fold-append}
use Rattle.history_invariant_laws.specs.raid_types_Sectors.{Sector, IsSector, IsWhole, sectors_of}
use Rattle.history_invariant_laws.proofs.raid_types_SectorLaws.{length-sectors_of}
use Rattle.history_invariant_laws.specs.raid_types_the_Refusal.{Refusal}
use Rattle.history_invariant_laws.specs.raid_types_the_Who.{Who}
use Rattle.history_invariant_laws.specs.raid_types_the_Shape.{Shape}
use Rattle.history_invariant_laws.specs.raid_types_the_Span.{Span}
use Rattle.history_invariant_laws.specs.raid_types_Shapes.{tolerance, tolerance_of, stripe_sectors}
use Rattle.reshape_progress_resync_laws.specs.bank_the_Operation.{Operation}
use Rattle.reshape_progress_resync_laws.specs.bank_Given.{Given}
use Rattle.reshape_progress_resync_laws.specs.bank_Tape.{IsIn, disk}
use Rattle.reshape_progress_resync_laws.specs.sb_codec_the_Sb.{Sb}
use Rattle.reshape_progress_resync_laws.specs.sb_specs_the_Members.{Members}
use Rattle.reshape_progress_resync_laws.specs.sb_specs_Reading.{Scope, is_clean, shape_of, final_shape, list_length, role_count}
use Rattle.reshape_progress_resync_laws.specs.stripe_row_Rows.{reading_of, present}
use Rattle.reshape_progress_resync_laws.specs.stripe_list_Writing.{IsWritten}
use Rattle.reshape_progress_resync_laws.specs.history_the_Entry.{Entry}
use Rattle.reshape_progress_resync_laws.specs.history_the_Event.{Event}
use Rattle.reshape_progress_resync_laws.specs.history_the_Event_TheVariants.{Wrote, Torn, Refused}
use Rattle.reshape_progress_resync_laws.specs.history_Flat.{covers as writes_at, sector_at, behind, values_after, length_of, limit_of, limit_after, visible_of, values_of, now}
use Rattle.reshape_progress_resync_laws.specs.history_Legal.{level_at, IsTorn, IsRefusedRight}
use Rattle.reshape_progress_resync_laws.specs.history_Losses.{is_unsynced, unsettles}
use Rattle.reshape_progress_resync_laws.specs.history_OneShape.{is_unsettled}
use Rattle.reshape_progress_resync_laws.specs.history_Plain.{entries_of}
use Rattle.reshape_progress_resync_laws.specs.history_Sound.{OpensFit}
use Rattle.reshape_progress_resync_laws.specs.history_Stands.{shape_for, covers}
use Rattle.reshape_progress_resync_laws.specs.history_Transfers.{IsTooMany}
use Rattle.reshape_progress_resync_laws.specs.history_World.{World, opening_list}
use Rattle.reshape_progress_resync_laws.specs.crash_views_Regions.{AreShapesFit, place_by}
use Rattle.reshape_progress_resync_laws.specs.crash_views_Views.{Ledger, IsTailZero}
use Rattle.reshape_progress_resync_laws.specs.crash_views_Windows.{IsShown, AreTailsStanding}
use Rattle.reshape_progress_resync_laws.proofs.crash_views_Alike.{row-below}
use Rattle.reshape_progress_resync_laws.specs.crash_safety_laws_Safety.{HasLiveSlot, HasRoomLeft, IsRisen}
use Rattle.reshape_progress_resync_laws.specs.crash_safety_laws_Steady.{IsMoreTold, IsSafeOver, KeepsSafe, AreGoneTold, AreWritesAllowed}
use Rattle.reshape_progress_resync_laws.specs.array_members_Placed.{AreWhole}
use Rattle.reshape_progress_resync_laws.specs.array_members_Moving.{Grows, IsMoved}
use Rattle.reshape_progress_resync_laws.specs.sb_safe_updates_Unused.{IsUnusedKept}
use Rattle.reshape_progress_resync_laws.specs.array_members_Lacking.{lacking, DoesWithout, AreOtherRowsKept, AreBytes}
use Rattle.reshape_progress_resync_laws.proofs.array_members_Fit.{list-alike, force-disks}
use Rattle.reshape_progress_resync_laws.proofs.array_members_LackingLists.{row-sector, sectors-whole}
use Rattle.reshape_progress_resync_laws.proofs.array_members_LackingWrites.{list-with, list-with-is}
use Rattle.history_invariant_laws.specs.history_append_Losing.{losses_of, failure_events}
use Rattle.history_invariant_laws.proofs.history_append_CallLaws.{losses-are, limit-losses, values-losses}
use Rattle.history_invariant_laws.proofs.history_append_LeftLaws.{TellLeft, left-behind, left-more}
use Rattle.history_invariant_laws.proofs.history_append_LosingLaws.{entries-both}
use Rattle.history_invariant_laws.proofs.array_call_specs_LedgerLaws.{written-allowed, wrote-in, torn-in, none-ends, unsynced-more}
use Rattle.history_invariant_laws.proofs.array_call_specs_NowLaws.{wrote-is}
use Rattle.reshape_progress_resync_laws.specs.stripe_region_read_Stretches.{relied_rows, IsShapeOf, ListStandsIn, RowsStandIn}
use Rattle.reshape_progress_resync_laws.specs.stripe_region_write_Runs.{IsListTouched, MayBeHidden, WindowRowsStand, IsListTorn, IsListUnwritten}
use Rattle.reshape_progress_resync_laws.proofs.stripe_region_write_Together.{shape-force}
use Rattle.reshape_progress_resync_laws.proofs.stripe_region_write_RunLists.{written-same}
use Rattle.history_invariant_laws.specs.history_invariant_Recorded.{IsCallGoing, IsLegalCall, entry_of}
use Rattle.history_invariant_laws.specs.history_invariant_Safe.{world_in, IsFilledRight}
use Rattle.history_invariant_laws.specs.history_invariant_Told.{told_now}
use Rattle.history_invariant_laws.proofs.history_invariant_Entered.{AreAdding, settle-none, values-more, length-adding}
use Rattle.history_invariant_laws.proofs.history_invariant_Growing.{opening-grown, unsynced-grown}
use Rattle.history_invariant_laws.proofs.history_invariant_Lists.{newest-in}
use Rattle.reshape_progress_resync_laws.specs.reshape_progress_the_Course.{Course}
use Rattle.reshape_progress_resync_laws.specs.reshape_request_the_Window.{Window}
use Rattle.reshape_progress_resync_laws.specs.reshape_request_the_Window_TheVariants.{Closed, Entered, Unsure}
use Rattle.reshape_progress_resync_laws.specs.reshape_progress_Course.{IsWindowOf, hidden_in, span_in}
use Rattle.reshape_progress_resync_laws.specs.reshape_progress_Laws.{IsOtherTouched}
use Rattle.reshape_progress_resync_laws.specs.stripe_region_resync_Resyncs.{relied_sector, AreEndsStanding}
use Rattle.reshape_progress_resync_laws.proofs.stripe_region_resync_Alike.{low-alike, relied-alike}
use Rattle.reshape_progress_resync_laws.specs.Mended.{StandsSynced}
use Rattle.reshape_progress_resync_laws.proofs.Mended.{whole-on, mended-writes-go-on}
use Rattle.reshape_progress_resync_laws.proofs.Torn.{mended-torn-writes-go-on}
use Rattle.history_invariant_laws.specs.Reliable.{IsReliable, AreToldGone}
use Rattle.array_reshaping_invariant.specs.Moving.{HasListInCourse, IsWindowStanding, IsMoving}
use Rattle.array_reshaping_invariant.proofs.Adding.{behind-moves}
use Rattle.history_invariant_laws.proofs.LastStep.{AreWithin, losses-within}
use Rattle.history_invariant_laws.proofs.Behind.{IsAmong, early-losses, legal-losses, first-of, first-more}
use Rattle.array_reshaping_invariant.proofs.BackupKept.{stored-kept}
use Rattle.array_reshaping_invariant.proofs.MembersMove.{reshaping-moved}
use Rattle.array_reshaping_invariant.proofs.Pending.{HasResync, resync-of, resync-moved, mended-less, mended-later}
use Rattle.array_reshaping_invariant.proofs.Refusals.{lacking-right}
use Rattle.array_reshaping_invariant.proofs.Staying.{course-moved}
use Rattle.array_reshaping_invariant.proofs.Steps.{AreMissingSince, missing-moved}

-- ---- what a write leaves

-- What a call leaves that was asked to put these sectors into the list from a place on, none of them in the window under way, whether it is done or not; they may lie
-- in a window that was just recorded.
pub record ArePut (tells : Type 0) (given : Given) (tape tape' : List Operation) (old new : Members) (course : Course) (at : ℕ) (from : List ℕ) (past : Option Span) (relied roles : ℕ) (begun : Bool) : Type 0 where
  pub within : at + length from / 512 ≤ list_length old.newest
  pub beside : (x : ℕ) → at ≤ x → x < at + length from / 512 → covers (span_in course.window) x ≡ false
  pub moved : IsMoved given old new
  pub few : role_count new.newest ≤ 16
  pub since : AreMissingSince old new roles
  pub stays : is_clean old.newest ≡ false → is_clean new.newest ≡ false
  pub rise : tells → IsRisen ⊤ old new tape tape'
  pub unused : tells → IsUnusedKept old (disk given.start tape) (disk given.start tape')
  pub safe : tells → (world : World) → (told : Ledger) → HasRoomLeft old tape tape' → AreGoneTold told new → told.unclean ≡ true → (hidden : Option Span) → MayBeHidden old.newest hidden
      → (list list' : ℕ → Sector) → IsWritten list list' at from → ((x : ℕ) → at ≤ x → x < at + length from / 512 → IsShown hidden old.newest x)
      → ListStandsIn (IsShapeOf old.newest at (at + length from / 512)) hidden old (present given tape) list
      → AreWhole new ⊎ (RowsStandIn (IsShapeOf old.newest at (at + length from / 512)) hidden relied old (present given tape) list × WindowRowsStand past old (present given tape) list)
      → (IsShapeOf old.newest at (at + length from / 512) (final_shape old.newest) → AreTailsStanding old (present given tape) list)
      → (begun ≡ true → AreWritesAllowed old told.values list') → (OpensFit world → IsTailZero old.newest list)
      → IsSafeOver world given told old tape → KeepsSafe world given told new tape tape'

-- What it leaves besides where it is done.
pub record AreWritten (tells : Type 0) (given : Given) (tape tape' : List Operation) (old new : Members) (at : ℕ) (from : List ℕ) (past : Option Span) (relied : ℕ) : Type 0 where
  pub whole : IsWhole from
  pub bytes : AreBytes from
  pub put : tells → (among : Shape → Bool) → (hidden : Option Span) → (list list' : ℕ → Sector) → IsWritten list list' at from
      → ListStandsIn (λ s. among s ≡ true) hidden old (present given tape) list → ListStandsIn (λ s. among s ≡ true) hidden new (present given tape') list'
  pub tail : tells → (list list' : ℕ → Sector) → IsWritten list list' at from → AreTailsStanding old (present given tape) list → AreTailsStanding new (present given tape') list'
  pub ends : tells → (list list' : ℕ → Sector) → IsWritten list list' at from → AreEndsStanding old (present given tape) list → AreEndsStanding new (present given tape') list'
  pub others : tells → AreOtherRowsKept (IsListTouched old.newest at (at + length from / 512)) (reading_of new) (present given tape) (present given tape')
  pub good : tells → (among : Shape → Bool) → (hidden : Option Span) → (list list' : ℕ → Sector) → IsWritten list list' at from → AreBytes from
      → ((x : ℕ) → at ≤ x → x < at + length from / 512 → IsShown hidden old.newest x) → WindowRowsStand past old (present given tape) list → (bound : ℕ) → relied ≤ bound
      → RowsStandIn (λ s. among s ≡ true) hidden bound old (present given tape) list → RowsStandIn (λ s. among s ≡ true) hidden bound new (present given tape') list'

-- And where it is refused: it was torn only where too many are missing, and no row is written but those that sectors have by a shape of which too many are.
pub record AreUnwritten (tells : Type 0) (given : Given) (tape tape' : List Operation) (old new : Members) (at : ℕ) (from : List ℕ) (past : Option Span) (relied : ℕ) (begun : Bool) (refusal : Refusal) : Type 0 where
  pub refused : IsListUnwritten past relied at (at + length from / 512) new refusal
  pub torn : begun ≡ true → IsListTorn at (at + length from / 512) new refusal
  pub torn_rows : tells → AreOtherRowsKept (IsOtherTouched (λ shape. DoesWithout shape new) old.newest at (at + length from / 512)) (reading_of new) (present given tape) (present given tape')

-- ---- the window

-- what is hidden is the next window
hidden-next : (newest : Sb) (window : Window) → IsWindowOf newest window → MayBeHidden newest (hidden_in window)
hidden-next newest Closed is span same = absurd (let none : ◌≡◌ {A = Option Span} None (Some span) = same in cc)
hidden-next newest (Entered own copied true) is span same = is.0 ∙ same
hidden-next newest (Entered own copied false) is span same = absurd (let none : ◌≡◌ {A = Option Span} None (Some span) = same in cc)
hidden-next newest (Unsure own) is span same = absurd (let none : ◌≡◌ {A = Option Span} None (Some span) = same in cc)

hidden-out : (window : Window) (x : ℕ) → covers (span_in window) x ≡ false → covers (hidden_in window) x ≡ false
hidden-out Closed x out = out
hidden-out (Entered own copied true) x out = out
hidden-out (Entered own copied false) x out = refl
hidden-out (Unsure own) x out = refl

-- ---- losses

or-first : (a b : Bool) → a ≡ true → (a || b) ≡ true
or-first true b is = refl
or-first false b is = absurd (cc)

module _ (who : Who) (end roles spares : ℕ) where
  alone : (P : List Event → Type 0) → P (losses_of roles spares ++ []) → P (losses_of roles spares)
  alone P is = subst P (append-nil (losses_of roles spares)) is

  losses-add : AreAdding (entries_of who end (losses_of roles spares))
  losses-add = alone (λ (l : List Event). AreAdding (entries_of who end l)) ((early-losses roles spares).adds who end [] refl)

  -- they leave as much visible
  losses-seen : (n : ℕ) (entries : List Entry) → visible_of n (entries ++ entries_of who end (losses_of roles spares)) ≡ visible_of n entries
  losses-seen n entries = λ i. option_map_or (λ limit. min limit (long i)) (limited i) (long i)
    where
      long : length_of n (entries ++ entries_of who end (losses_of roles spares)) ≡ length_of n entries
      long = length-adding n entries (entries_of who end (losses_of roles spares)) losses-add

      limited : limit_of (entries ++ entries_of who end (losses_of roles spares)) ≡ limit_of entries
      limited =
          fold-append (λ (limit : Option ℕ) e. limit_after limit e.event) None entries (entries_of who end (losses_of roles spares))
          ∙ alone (λ (l : List Event). fold (λ (limit : Option ℕ) e. limit_after limit e.event) (limit_of entries) (entries_of who end l) ≡ limit_of entries)
          (limit-losses who end (losses_of roles spares) [] (losses-are roles spares) (limit_of entries))

  -- and end no resync
  losses-unsynced : (world : World) (entries : List Entry) → is_unsynced world (entries ++ entries_of who end (losses_of roles spares)) ≡ is_unsynced world entries
  losses-unsynced world entries =
      unsynced-more world entries (entries_of who end (losses_of roles spares)) (none-ends (entries_of who end (losses_of roles spares)) (settle-none (entries_of who end (losses_of roles spares)) losses-add))

-- ---- refusals

module _ (at to : ℕ) (m : Members) (refusal : Refusal) (torn : IsListTorn at to m refusal) where
  torn-unsettles : unsettles (Refused refusal) ≡ true
  torn-unsettles = subst (λ (r : Refusal). unsettles (Refused r) ≡ true) (sym torn.3.told) refl

  torn-many : IsTooMany (Refused refusal)
  torn-many = subst (λ (r : Refusal). IsTooMany (Refused r)) (sym torn.3.told) tt

-- what is torn stands behind the newest value
torn-same : (at : ℕ) (body : List Sector) (x : ℕ) (values : List Sector) → slice_index_or (values_after x values (Torn at body)) 0 [] ≡ slice_index_or values 0 []
torn-same at body x values = by (writes_at at body x) values
  where
    by : (b : Bool) (values : List Sector) → slice_index_or (if b then behind (sector_at at body x) values else values) 0 [] ≡ slice_index_or values 0 []
    by true [] = refl
    by true (v ∷ values) = refl
    by false values = refl

le-is : (a b : ℕ) → a ≤ b → nat_le a b ≡ true
le-is a b le = grind (arith, nat_tests, le)

is-le : (a b : ℕ) → nat_le a b ≡ true → a ≤ b
is-le a b is = grind (arith, nat_tests, is)

-- where the row of a sector of the list isn't relied on, not all are
pub unrelied-short : (newest : Sb) → AreShapesFit newest → (relied x : ℕ) → x < list_length newest → relied_rows newest relied (shape_for newest x) ≤ (place_by newest x).row → relied < list_length newest
unrelied-short newest fit relied x lt far = elim (cases_lt relied (list_length newest)) [
  | inl less ↦ less
  | inr all ↦ absurd (
      let whole : relied_rows newest relied (shape_for newest x) ≡ newest.size =
      ap (λ (b : Bool). if b then newest.size else relied / stripe_sectors (shape_for newest x) * (shape_for newest x).chunk) (le-is (list_length newest) relied all) in
      let below = row-below newest fit x lt in
      omega (arith, whole, below, far))
]

-- nor are they only while a resync is pending
pub short-pending : (newest : Sb) (resync : Option ℕ) (relied : ℕ) → relied ≡ relied_sector newest resync → relied < list_length newest → is_some resync ≡ true
short-pending newest None relied relies short = absurd (let all : relied ≡ list_length newest = relies in omega (arith, all, short))
short-pending newest (Some mended) relied relies short = refl

-- a sector is whole with the write done if it was before
written-sector : (at : ℕ) (from : List ℕ) (list list' : ℕ → Sector) (x : ℕ) → IsWritten list list' at from → IsWhole from → AreBytes from → IsSector (list x) → IsSector (list' x)
written-sector at from list list' x w whole bytes was = elim (cases_lt x at) [
  | inl low ↦ subst IsSector (sym (w.other x (inl low))) was
  | inr within ↦ elim (cases_lt x (at + length from / 512)) [
    | inl high ↦ subst IsSector (sym (w.here x within high)) (sectors-whole from whole bytes (x - at) (omega (arith, within, high)))
    | inr high ↦ subst IsSector (sym (w.other x (inr high))) was
  ]
]

-- ---- the call

module _ (tells : Type 0) (given : Given) (tape tape' : List Operation) (scope : Scope) (first : ℕ) (entries : List Entry) (old new : Members) (carried : ℕ → ℕ → Bool)
    (resync : Option ℕ) (course : Course) (buffer : List ℕ) (left : ℕ) (who : Who) (end roles spares at : ℕ) (from : List ℕ) (past : Option Span) (relied : ℕ) (begun : Bool)
    (was : IsMoving tells given tape scope first entries old carried resync course buffer left) (live : HasLiveSlot old) (goes : IsCallGoing entries who) (caller : IsFalse (who.caller == 254))
    (at_end : tells → end ≡ length tape') (grows : Grows tells tape tape') (does : (x : ℕ) → at ≤ x → x < at + length from / 512 → DoesWithout (shape_for old.newest x) old)
    (visible : tells → at + length from / 512 ≤ visible_of (length (opening_list (world_in given tape scope first))) entries)
    (relies : relied ≡ relied_sector old.newest resync) (stood : tells → IsWindowStanding past (world_in given tape scope first) entries old (present given tape))
    (did : ArePut tells given tape tape' old new course at from past relied roles begun) where
  has : HasResync new resync course
  has = resync-moved did.moved (λ some. did.stays) was.beside (resync-of was)

  list-same : list_length new.newest ≡ list_length old.newest
  list-same = list-alike old.newest new.newest did.moved.reshape did.moved.shape did.moved.size

  level-same : (shape_of new.newest).level ≡ (shape_of old.newest).level
  level-same = ap (λ (s : Shape). s.level) did.moved.shape

  shown : (x : ℕ) → at ≤ x → x < at + length from / 512 → IsShown (hidden_in course.window) old.newest x
  shown x low high = record { within = let within = did.within in omega (arith, high, within); outside = hidden-out course.window x (did.beside x low high) }

  -- ---- the world, behind the call

  opened-later : tells → opening_list (world_in given tape' scope first) ≡ opening_list (world_in given tape scope first)
  opened-later t =
      let g = grows.more t in
      subst (λ (l : List Operation). opening_list (world_in given l scope first) ≡ opening_list (world_in given tape scope first)) (sym g.1)
      (opening-grown (world_in given tape scope first) g.0 (was.recorded t).begun)

  unsynced-later : tells → is_unsynced (world_in given tape' scope first) entries ≡ is_unsynced (world_in given tape scope first) entries
  unsynced-later t =
      let g = grows.more t in
      subst (λ (l : List Operation). is_unsynced (world_in given l scope first) entries ≡ is_unsynced (world_in given tape scope first) entries) (sym g.1)
      (unsynced-grown (world_in given tape scope first) g.0 (was.recorded t).begun entries)

  -- the sectors end within what is visible
  ends-within : tells → at + length (sectors_of from) ≤ visible_of (length (opening_list (world_in given tape' scope first))) (entries ++ entries_of who end (losses_of roles spares))
  ends-within t =
      let seen = visible t in
      let n : length (sectors_of from) ≡ length from / 512 = length-sectors_of from in
      let same : visible_of (length (opening_list (world_in given tape' scope first))) (entries ++ entries_of who end (losses_of roles spares)) ≡ visible_of (length (opening_list (world_in given tape scope first))) entries =
      ap (λ (l : List Sector). visible_of (length l) (entries ++ entries_of who end (losses_of roles spares))) (opened-later t)
      ∙ losses-seen who end roles spares (length (opening_list (world_in given tape scope first))) entries in
      omega (arith, seen, n, same)

  -- ---- the list

  -- it stands by the shapes that do without what is missing behind the call too
  later-stands : (list : ℕ → Sector) → StandsSynced (OpensFit (world_in given tape scope first)) (λ shape. DoesWithout shape old) resync old course buffer (present given tape) list
      → StandsSynced (OpensFit (world_in given tape scope first)) (λ shape. DoesWithout shape new) resync old course buffer (present given tape) list
  later-stands list stands = mended-later (OpensFit (world_in given tape scope first)) given old new resync course buffer (present given tape) list did.moved stands

  -- each sector of the list may have its newest value
  newest : tells → (x : ℕ) → x < list_length old.newest → IsIn (values_of (opening_list (world_in given tape scope first)) entries x) (now (opening_list (world_in given tape scope first)) entries x)
  newest t x lt = newest-in (opening_list (world_in given tape scope first)) entries x (let size = (was.recorded t).sized in omega (arith, lt, size))

  -- each mark is safe, if what may be written is told
  keeps : (t : tells) → (told : Ledger) → IsFilledRight (world_in given tape scope first) entries → AreWhole new ⊎ OpensFit (world_in given tape scope first)
      → IsMoreTold (told_now (world_in given tape scope first) carried true entries) told → told.unclean ≡ true
      → (begun ≡ true → (x : ℕ) → x < list_length old.newest → writes_at at (sectors_of from) x ≡ true → IsIn (told.values x) (sector_at at (sectors_of from) x))
      → HasRoomLeft old tape tape' → AreGoneTold told new → IsSafeOver (world_in given tape scope first) given told old tape → KeepsSafe (world_in given tape scope first) given told new tape tape'
  keeps t told fills whole more unclean writes room gone before =
      let l = was.listed t fills in
      let here = mended-less (OpensFit (world_in given tape scope first)) (IsShapeOf old.newest at (at + length from / 512)) (λ shape. DoesWithout shape old) resync old course buffer (present given tape) l.list
      (λ shape own. subst (λ (s : Shape). DoesWithout s old) own.3 (does own.0 own.1 own.2)) l.stands in
      did.safe t (world_in given tape scope first) told room gone unclean (hidden_in course.window) (hidden-next old.newest course.window was.course_is.window)
      l.list (list-with l.list at from) (list-with-is l.list at from) shown here.in_course.stands
      (elim whole [
        | inl all ↦ inl all
        | inr fit ↦ inr ((λ x lt. here.rows fit x (subst (λ (n : ℕ). x < n) relies lt)), stood t fills l.list l.is l.stands.in_course.zeros)
      ])
      here.in_course.tail
      (λ is. written-allowed (list_length old.newest) at from l.list (list-with l.list at from) told.values (list-with-is l.list at from)
      (λ x lt. subst (IsIn (told.values x)) (sym (l.is x lt))
      (more.values x (let size = (was.recorded t).sized in omega (arith, lt, size)) (now (opening_list (world_in given tape scope first)) entries x) (newest t x lt)))
      (writes is))
      (λ fit x tail. l.stands.in_course.zeros tail.forth x tail.past) before

  -- ---- it is done

  pub written-moves : AreWritten tells given tape tape' old new at from past relied
      → IsMoving tells given tape' scope first (entries ++ entries_of who end (losses_of roles spares ++ Wrote at (sectors_of from) ∷ [])) new carried resync course buffer left
  written-moves done =
      behind-moves tells given tape tape' scope first entries old new carried resync course course buffer buffer left left who end (losses_of roles spares) (IsAmong roles) (Wrote at (sectors_of from))
      was live goes caller at_end grows (record { adds = refl; gives = refl; ends = refl; level = λ n. refl; other = refl })
      (reshaping-moved scope given old new did.moved was.members_are) has did.few (first-of (early-losses roles spares)) (missing-moved roles did.moved did.since) list-same level-same (λ t dirty. inr refl)
      (course-moved given old new course did.moved was.course_is)
      (λ t on. stored-kept scope given old new course.window buffer (disk given.start tape) (disk given.start tape') was.members_are did.moved (did.unused t) (was.stored t on))
      (left-more left entries who end (losses_of roles spares ++ Wrote at (sectors_of from) ∷ []) was.left_told
      (left-behind left who end (losses_of roles spares) (Wrote at (sectors_of from) ∷ []) (losses-are roles spares) (λ told is. is)))
      (λ t. record {
        within = losses-within (list_length old.newest) (losses_of roles spares) (Wrote at (sectors_of from) ∷ []) (losses-are roles spares) (written-within, tt);
        rise = did.rise t;
        keeps = λ told fills whole more values allowed room gone unclean unsettled before.
            keeps t told fills whole more (unsettled refl) (λ is x lt covered. values x (sector_at at (sectors_of from) x) (written-in t x covered)) room gone before;
        listed = listed t;
        legal = λ fills gone level. legal-losses (world_in given tape' scope first) entries who end (losses_of roles spares) (Wrote at (sectors_of from) ∷ []) (losses-are roles spares) (ends-within t, tt, tt);
      })
    where
      written-within : at + length (sectors_of from) ≤ list_length old.newest
      written-within =
          let within = did.within in
          let n : length (sectors_of from) ≡ length from / 512 = length-sectors_of from in
          omega (arith, within, n)

      written-in : tells → (x : ℕ) → writes_at at (sectors_of from) x ≡ true
          → IsIn (values_of (opening_list (world_in given tape scope first)) (entries ++ entries_of who end (losses_of roles spares ++ Wrote at (sectors_of from) ∷ [])) x) (sector_at at (sectors_of from) x)
      written-in t x covered = subst (λ (l : List Sector). IsIn l (sector_at at (sectors_of from) x))
          (sym (values-more (opening_list (world_in given tape scope first)) entries (entries_of who end (losses_of roles spares ++ Wrote at (sectors_of from) ∷ [])) x
          ∙ values-losses who end (losses_of roles spares) (Wrote at (sectors_of from) ∷ []) (losses-are roles spares) x (values_of (opening_list (world_in given tape scope first)) entries x)))
          (wrote-in at (sectors_of from) x (values_of (opening_list (world_in given tape scope first)) entries x) covered)

      -- what the history's list has become
      is-written : IsWritten (now (opening_list (world_in given tape scope first)) entries)
          (now (opening_list (world_in given tape scope first)) (entries ++ entries_of who end (losses_of roles spares ++ Wrote at (sectors_of from) ∷ []))) at from
      is-written =
          let w = wrote-is (opening_list (world_in given tape scope first)) entries who end (losses_of roles spares) at from (losses-are roles spares) in
          record { here = λ x low high. w.here x low high ∙ sym (row-sector from (x - at)); other = w.other }

      -- the shapes that do without what is missing behind it
      tolerated : Shape → Bool
      tolerated shape = nat_le (lacking shape new) (tolerance shape)

      is-tolerated : (shape : Shape) → DoesWithout shape new → tolerated shape ≡ true
      is-tolerated shape few = le-is (lacking shape new) (tolerance shape) few

      tolerated-is : (shape : Shape) → tolerated shape ≡ true → DoesWithout shape new
      tolerated-is shape is = is-le (lacking shape new) (tolerance shape) is

      listed : tells → IsFilledRight (world_in given tape scope first) entries
          → HasListInCourse (OpensFit (world_in given tape scope first)) new resync course buffer (present given tape')
          (now (opening_list (world_in given tape scope first)) (entries ++ entries_of who end (losses_of roles spares ++ Wrote at (sectors_of from) ∷ [])))
      listed t fills =
          let l = was.listed t fills in
          let w = list-with-is l.list at from in
          record {
            list = list-with l.list at from;
            is = λ x lt. written-same l.list (list-with l.list at from) (now (opening_list (world_in given tape scope first)) entries)
                (now (opening_list (world_in given tape scope first)) (entries ++ entries_of who end (losses_of roles spares ++ Wrote at (sectors_of from) ∷ []))) at from w is-written x
                (l.is x (subst (λ (n : ℕ). x < n) list-same lt));
            stands = stand t l.list (list-with l.list at from) w (stood t fills l.list l.is l.stands.in_course.zeros) (later-stands l.list l.stands);
          }
        where
          stand : (t : tells) (list list' : ℕ → Sector) → IsWritten list list' at from → WindowRowsStand past old (present given tape) list
              → StandsSynced (OpensFit (world_in given tape scope first)) (λ shape. DoesWithout shape new) resync old course buffer (present given tape) list
              → StandsSynced (OpensFit (world_in given tape scope first)) (λ shape. DoesWithout shape new) resync new course buffer (present given tape') list'
          stand t list list' w rows before =
              mended-writes-go-on (OpensFit (world_in given tape scope first)) (λ shape. DoesWithout shape new) given old new resync course buffer (present given tape) (present given tape') list list' at from
              was.members_are.placed did.moved was.course_is w did.within did.beside (done.others t)
              (λ x slot own out held. done.put t tolerated (hidden_in course.window) list list' w
              (λ x slot own out held. before.in_course.stands x slot (tolerated-is (shape_for old.newest x) own) out held) x slot (is-tolerated (shape_for new.newest x) own) out held)
              (λ own. done.tail t list list' w (before.in_course.tail (subst (λ (s : Shape). DoesWithout s new) did.moved.reshape.final own)))
              (λ some aside own. done.ends t list list' w (before.ends some aside (subst (λ (s : Shape). DoesWithout s new) (low-alike old.newest new.newest did.moved.reshape did.moved.shape did.moved.size) own)))
              (λ some fit x at_x. written-sector at from list list' x w done.whole done.bytes (whole-on given old new did.moved list (before.whole some fit) x at_x))
              (λ fit x below own out. done.good t tolerated (hidden_in course.window) list list' w done.bytes shown rows (relied_sector old.newest resync) (subst (λ (n : ℕ). relied ≤ n) relies (omega arith))
              (λ x lt own out. before.rows fit x lt (tolerated-is (shape_for old.newest x) own) out) x
              (subst (λ (n : ℕ). x < n) (relied-alike old.newest new.newest did.moved.reshape did.moved.shape did.moved.size resync) below) (is-tolerated (shape_for new.newest x) own) out)
              before

  -- ---- it is refused

  module _ (refusal : Refusal) (undone : AreUnwritten tells given tape tape' old new at from past relied begun refusal) where
    -- The list stands by the shapes that do without what is missing, if the history says the same of it.
    same-listed : (t : tells) (current : ℕ → Sector) → ((x : ℕ) → current x ≡ now (opening_list (world_in given tape scope first)) entries x) → IsFilledRight (world_in given tape scope first) entries
        → HasListInCourse (OpensFit (world_in given tape scope first)) new resync course buffer (present given tape') current
    same-listed t current same fills =
        let l = was.listed t fills in
        record {
          list = l.list;
          is = λ x lt. l.is x (subst (λ (n : ℕ). x < n) list-same lt) ∙ sym (same x);
          stands = mended-torn-writes-go-on (OpensFit (world_in given tape scope first)) (λ shape. DoesWithout shape new) scope given old new resync course buffer (present given tape) (present given tape') l.list
              at (at + length from / 512) was.members_are.backed was.members_are.active did.moved was.course_is did.within did.beside (undone.torn_rows t) (later-stands l.list l.stands);
        }

    -- what stands behind a refusal for missing members
    torn-right : (t : tells) → (before : List Entry) → IsReliable (world_in given tape scope first) entries → AreToldGone (world_in given tape' scope first) before new
        → level_at (world_in given tape' scope first) before ≡ level_at (world_in given tape scope first) entries → IsListTorn at (at + length from / 512) new refusal
        → IsRefusedRight (world_in given tape' scope first) before refusal
    torn-right t before fills gone level torn =
        lacking-right (world_in given tape' scope first) before given new did.moved.placed gone (ap tolerance_of level ∙ was.levelled t fills ∙ ap tolerance (sym did.moved.shape))
        (shape_for new.newest torn.0) refusal (shape-force new.newest torn.0) torn.3

    -- behind its first row
    torn-moves : begun ≡ true → IsMoving tells given tape' scope first (entries ++ entries_of who end ((losses_of roles spares ++ Torn at (sectors_of from) ∷ []) ++ Refused refusal ∷ [])) new carried resync course buffer left
    torn-moves is =
        behind-moves tells given tape tape' scope first entries old new carried resync course course buffer buffer left left who end (losses_of roles spares ++ Torn at (sectors_of from) ∷ []) (IsAmong roles) (Refused refusal)
        was live goes caller at_end grows (record { adds = refl; gives = refl; ends = refl; level = λ n. refl; other = refl })
        (reshaping-moved scope given old new did.moved was.members_are) has did.few
        (first-more (losses_of roles spares) (IsAmong roles) (Torn at (sectors_of from)) (first-of (early-losses roles spares)) refl refl refl (λ n. refl))
        (missing-moved roles did.moved did.since) list-same level-same (λ t dirty. inr (torn-unsettles at (at + length from / 512) new refusal (undone.torn is)))
        (course-moved given old new course did.moved was.course_is)
        (λ t on. stored-kept scope given old new course.window buffer (disk given.start tape) (disk given.start tape') was.members_are did.moved (did.unused t) (was.stored t on))
        (left-more left entries who end ((losses_of roles spares ++ Torn at (sectors_of from) ∷ []) ++ Refused refusal ∷ []) was.left_told
        (subst (λ (l : List Event). TellLeft left who end l) (sym torn-assoc)
        (left-behind left who end (losses_of roles spares) (Torn at (sectors_of from) ∷ Refused refusal ∷ []) (losses-are roles spares) (λ told is. is))))
        (λ t. record {
          within = subst (AreWithin (list_length old.newest)) (sym torn-assoc)
              (losses-within (list_length old.newest) (losses_of roles spares) (Torn at (sectors_of from) ∷ Refused refusal ∷ []) (losses-are roles spares) (tt, (tt, tt)));
          rise = did.rise t;
          keeps = λ told fills whole more values allowed room gone unclean unsettled before.
              keeps t told fills whole more (unsettled (torn-unsettles at (at + length from / 512) new refusal (undone.torn is)))
              (λ now_begun x lt covered. values x (sector_at at (sectors_of from) x) (torn-allowed t x lt covered)) room gone before;
          listed = same-listed t
              (now (opening_list (world_in given tape scope first)) (entries ++ entries_of who end ((losses_of roles spares ++ Torn at (sectors_of from) ∷ []) ++ Refused refusal ∷ []))) now-torn;
          legal = λ fills gone level. subst (λ (l : List Event). IsLegalCall (world_in given tape' scope first) entries who end l) (sym torn-assoc)
              (legal-losses (world_in given tape' scope first) entries who end (losses_of roles spares) (Torn at (sectors_of from) ∷ Refused refusal ∷ []) (losses-are roles spares)
              (torn-legal t, tt, (refused-legal t fills gone level, tt, tt)));
        })
      where
        torn-assoc : (losses_of roles spares ++ Torn at (sectors_of from) ∷ []) ++ Refused refusal ∷ [] ≡ losses_of roles spares ++ Torn at (sectors_of from) ∷ Refused refusal ∷ []
        torn-assoc = append_assoc (losses_of roles spares) (Torn at (sectors_of from) ∷ []) (Refused refusal ∷ [])

        -- what each sector may have
        values-torn : (x : ℕ) → values_of (opening_list (world_in given tape scope first)) (entries ++ entries_of who end ((losses_of roles spares ++ Torn at (sectors_of from) ∷ []) ++ Refused refusal ∷ [])) x
            ≡ values_after x (values_of (opening_list (world_in given tape scope first)) entries x) (Torn at (sectors_of from))
        values-torn x =
            ap (λ (l : List Event). values_of (opening_list (world_in given tape scope first)) (entries ++ entries_of who end l) x) torn-assoc
            ∙ values-more (opening_list (world_in given tape scope first)) entries (entries_of who end (losses_of roles spares ++ Torn at (sectors_of from) ∷ Refused refusal ∷ [])) x
            ∙ values-losses who end (losses_of roles spares) (Torn at (sectors_of from) ∷ Refused refusal ∷ []) (losses-are roles spares) x (values_of (opening_list (world_in given tape scope first)) entries x)

        now-torn : (x : ℕ) → now (opening_list (world_in given tape scope first)) (entries ++ entries_of who end ((losses_of roles spares ++ Torn at (sectors_of from) ∷ []) ++ Refused refusal ∷ [])) x
            ≡ now (opening_list (world_in given tape scope first)) entries x
        now-torn x = ap (λ (l : List Sector). slice_index_or l 0 []) (values-torn x) ∙ torn-same at (sectors_of from) x (values_of (opening_list (world_in given tape scope first)) entries x)

        -- the sectors stand behind the newest values
        torn-allowed : (t : tells) → (x : ℕ) → x < list_length old.newest → writes_at at (sectors_of from) x ≡ true
            → IsIn (values_of (opening_list (world_in given tape scope first)) (entries ++ entries_of who end ((losses_of roles spares ++ Torn at (sectors_of from) ∷ []) ++ Refused refusal ∷ [])) x)
            (sector_at at (sectors_of from) x)
        torn-allowed t x lt covered = subst (λ (l : List Sector). IsIn l (sector_at at (sectors_of from) x)) (sym (values-torn x))
            (torn-in at (sectors_of from) x (values_of (opening_list (world_in given tape scope first)) entries x) (newest t x lt) covered)

        torn-legal : tells → IsTorn (world_in given tape' scope first) (entries ++ entries_of who end (losses_of roles spares)) at (sectors_of from) (entries_of who end (Refused refusal ∷ []))
        torn-legal t = record { within = ends-within t; refused = torn-many at (at + length from / 512) new refusal (undone.torn is) }

        torn-before : entries ++ entries_of who end (losses_of roles spares ++ Torn at (sectors_of from) ∷ [])
            ≡ (entries ++ entries_of who end (losses_of roles spares)) ++ entry_of who end (Torn at (sectors_of from)) ∷ []
        torn-before =
            ap (λ (l : List Entry). entries ++ l) (entries-both who end (losses_of roles spares) (Torn at (sectors_of from) ∷ []))
            ∙ sym (append_assoc entries (entries_of who end (losses_of roles spares)) (entry_of who end (Torn at (sectors_of from)) ∷ []))

        refused-legal : (t : tells) → IsReliable (world_in given tape scope first) entries
            → AreToldGone (world_in given tape' scope first) (entries ++ entries_of who end (losses_of roles spares ++ Torn at (sectors_of from) ∷ [])) new
            → level_at (world_in given tape' scope first) (entries ++ entries_of who end (losses_of roles spares ++ Torn at (sectors_of from) ∷ [])) ≡ level_at (world_in given tape scope first) entries
            → IsRefusedRight (world_in given tape' scope first) ((entries ++ entries_of who end (losses_of roles spares)) ++ entry_of who end (Torn at (sectors_of from)) ∷ []) refusal
        refused-legal t fills gone level = subst (λ (l : List Entry). IsRefusedRight (world_in given tape' scope first) l refusal) torn-before
            (torn-right t (entries ++ entries_of who end (losses_of roles spares ++ Torn at (sectors_of from) ∷ [])) fills gone level (undone.torn is))

    -- or before it
    unbegun-moves : begun ≡ false → IsMoving tells given tape' scope first (entries ++ entries_of who end (losses_of roles spares ++ Refused refusal ∷ [])) new carried resync course buffer left
    unbegun-moves is =
        behind-moves tells given tape tape' scope first entries old new carried resync course course buffer buffer left left who end (losses_of roles spares) (IsAmong roles) (Refused refusal)
        was live goes caller at_end grows (record { adds = refl; gives = refl; ends = refl; level = λ n. refl; other = refl })
        (reshaping-moved scope given old new did.moved was.members_are) has did.few (first-of (early-losses roles spares)) (missing-moved roles did.moved did.since) list-same level-same
        (λ t dirty. clean t undone.refused) (course-moved given old new course did.moved was.course_is)
        (λ t on. stored-kept scope given old new course.window buffer (disk given.start tape) (disk given.start tape') was.members_are did.moved (did.unused t) (was.stored t on))
        (left-more left entries who end (losses_of roles spares ++ Refused refusal ∷ []) was.left_told (left-behind left who end (losses_of roles spares) (Refused refusal ∷ []) (losses-are roles spares) (λ told is. is)))
        (λ t. record {
          within = losses-within (list_length old.newest) (losses_of roles spares) (Refused refusal ∷ []) (losses-are roles spares) (tt, tt);
          rise = did.rise t;
          keeps = λ told fills whole more values allowed room gone unclean unsettled before.
              keeps t told fills whole more (told-unclean t told more unsettled undone.refused) (λ now_begun. absurd (let both = sym is ∙ now_begun in cc)) room gone before;
          listed = same-listed t (now (opening_list (world_in given tape scope first)) (entries ++ entries_of who end (losses_of roles spares ++ Refused refusal ∷ []))) now-same;
          legal = λ fills gone level. legal-losses (world_in given tape' scope first) entries who end (losses_of roles spares) (Refused refusal ∷ []) (losses-are roles spares) (legal t fills gone level undone.refused, tt, tt);
        })
      where
        -- a resync is pending where it isn't refused for missing members alone
        pending-is : (t : tells) → (x : ℕ) → x < at + length from / 512 → relied_rows new.newest relied (shape_for new.newest x) ≤ (place_by new.newest x).row → is_unsynced (world_in given tape scope first) entries ≡ true
        pending-is t x high far =
            let within = did.within in
            let short = unrelied-short new.newest did.moved.placed.fit relied x (omega (arith, high, within, list-same)) far in
            was.pending t ∙ short-pending old.newest resync relied relies (omega (arith, short, list-same))

        clean : (t : tells) → IsListUnwritten past relied at (at + length from / 512) new refusal
            → ((is_unsynced (world_in given tape scope first) entries || is_unsettled entries) ≡ true) ⊎ (unsettles (Refused refusal) ≡ true)
        clean t (inl torn) = inr (torn-unsettles at (at + length from / 512) new refusal torn)
        clean t (inr (each, there)) = inl (or-first (is_unsynced (world_in given tape scope first) entries) (is_unsettled entries) (pending-is t there.0 there.2 there.4))

        told-unclean : (t : tells) → (told : Ledger) → IsMoreTold (told_now (world_in given tape scope first) carried true entries) told → (unsettles (Refused refusal) ≡ true → told.unclean ≡ true)
            → IsListUnwritten past relied at (at + length from / 512) new refusal → told.unclean ≡ true
        told-unclean t told more unsettled (inl torn) = unsettled (torn-unsettles at (at + length from / 512) new refusal torn)
        told-unclean t told more unsettled (inr (each, there)) =
            more.unclean (or-first (is_unsynced (world_in given tape scope first) entries) (is_unsettled entries) (pending-is t there.0 there.2 there.4))

        now-same : (x : ℕ) → now (opening_list (world_in given tape scope first)) (entries ++ entries_of who end (losses_of roles spares ++ Refused refusal ∷ [])) x
            ≡ now (opening_list (world_in given tape scope first)) entries x
        now-same x = ap (λ (l : List Sector). slice_index_or l 0 [])
            (values-more (opening_list (world_in given tape scope first)) entries (entries_of who end (losses_of roles spares ++ Refused refusal ∷ [])) x
            ∙ values-losses who end (losses_of roles spares) (Refused refusal ∷ []) (losses-are roles spares) x (values_of (opening_list (world_in given tape scope first)) entries x))

        legal : (t : tells) → IsReliable (world_in given tape scope first) entries
            → AreToldGone (world_in given tape' scope first) (entries ++ entries_of who end (losses_of roles spares)) new
            → level_at (world_in given tape' scope first) (entries ++ entries_of who end (losses_of roles spares)) ≡ level_at (world_in given tape scope first) entries
            → IsListUnwritten past relied at (at + length from / 512) new refusal → IsRefusedRight (world_in given tape' scope first) (entries ++ entries_of who end (losses_of roles spares)) refusal
        legal t fills gone level (inl torn) = torn-right t (entries ++ entries_of who end (losses_of roles spares)) fills gone level torn
        legal t fills gone level (inr (each, there)) =
            let why = there.5 in
            subst (λ (r : Refusal). IsRefusedRight (world_in given tape' scope first) (entries ++ entries_of who end (losses_of roles spares)) r) (sym why.1) (
              gone why.0 (let lt = why.4.0 in let disks = force-disks new.newest did.moved.placed.fit (shape_for new.newest there.0) (shape-force new.newest there.0) in omega (arith, lt, disks)) why.3,
              losses-unsynced who end roles spares (world_in given tape' scope first) entries ∙ unsynced-later t ∙ pending-is t there.0 there.2 there.4,
            )

    -- as a write enters it that is refused
    pub unwritten-moves : IsMoving tells given tape' scope first (entries ++ entries_of who end (failure_events roles spares begun at (sectors_of from) refusal)) new carried resync course buffer left
    unwritten-moves = by begun refl
      where
        by : (b : Bool) → begun ≡ b → IsMoving tells given tape' scope first (entries ++ entries_of who end (failure_events roles spares b at (sectors_of from) refusal)) new carried resync course buffer left
        by true is = torn-moves is
        by false is = unbegun-moves is
