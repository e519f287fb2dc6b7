-- A read of the list of an array in a reshape, from what `read_around_window` leaves: it is done, or refused behind what it lost.
use Rattle.std.proofs.Common.{◌≡◌, ◌⊎◌, inl, inr, ℕ, ◌+◌, ◌-◌, ◌*◌, ◌/◌, ◌<◌, ◌≤◌, ◌==◌, Bool, true, false, Option, Some, None, List, [], ◌∷◌, ◌++◌, length, take, refl, sym, ◌∙◌, ap, subst, arith, append_assoc, append-nil}
use Rattle.std.specs.Prelude.{IsFalse, IfSome, fold, min, slice_index_or, ⊤}
use Rattle.std.specs.Option.{option_map_or}
use Rattle.std.specs.List.{list_any}
use Rattle.std.proofs.lemmas.Bool.{cases_lt}
use Rattle.std.proofs.lemmas.List.{length-take-le}
use Rattle.std.proofs.lemmas.List.Sums.{fold-append}
use Rattle.array_fixed_laws.specs.raid_types_Sectors.{Sector, sectors_of}
use Rattle.array_fixed_laws.specs.raid_types_Shapes.{tolerance, tolerance_of}
use Rattle.array_fixed_laws.specs.raid_types_the_Refusal.{Refusal}
use Rattle.array_fixed_laws.specs.raid_types_the_Refusal_TheVariants.{PastEnd}
use Rattle.array_fixed_laws.specs.raid_types_the_Who.{Who}
use Rattle.array_fixed_laws.specs.raid_types_the_Shape.{Shape}
use Rattle.array_fixed_laws.specs.raid_types_the_Span.{Span}
use Rattle.array_fixed_laws.proofs.raid_types_SectorLaws.{length-sectors_of}
use Rattle.reshape_window_backup.specs.bank_the_Operation.{Operation}
use Rattle.reshape_window_backup.specs.bank_Given.{Given}
use Rattle.reshape_window_backup.specs.bank_Tape.{Contents, disk}
use Rattle.reshape_window_backup.specs.raid_parity_Rows.{sector_of}
use Rattle.reshape_window_backup.specs.sb_codec_the_Sb.{Sb}
use Rattle.array_reshaping_resync_laws.specs.sb_specs_the_Members.{Members}
use Rattle.array_reshaping_resync_laws.specs.sb_specs_Reading.{Scope, is_clean, list_length, role_count}
use Rattle.array_reshaping_resync_laws.specs.stripe_row_Rows.{reading_of, present, is_missing}
use Rattle.array_reshaping_resync_laws.specs.history_the_Entry.{Entry}
use Rattle.array_reshaping_resync_laws.specs.history_the_Event.{Event}
use Rattle.array_reshaping_resync_laws.specs.history_the_Event_TheVariants.{Read, Refused}
use Rattle.array_reshaping_resync_laws.specs.history_the_Request_TheVariants.{Read as AsksRead}
use Rattle.array_reshaping_resync_laws.specs.history_Flat.{now, next_number, length_of, limit_of, limit_after, visible_of, values_of, values_after}
use Rattle.array_reshaping_resync_laws.specs.history_Legal.{visible_at, level_at, IsRefusedRight}
use Rattle.array_reshaping_resync_laws.specs.history_Losses.{is_gone_after, loses}
use Rattle.array_reshaping_resync_laws.specs.history_Plain.{entries_of}
use Rattle.array_reshaping_resync_laws.specs.history_Sound.{OpensFit}
use Rattle.array_reshaping_resync_laws.specs.history_Stands.{shape_for, reach_of}
use Rattle.array_reshaping_resync_laws.specs.history_Transfers.{IsReadOver}
use Rattle.array_reshaping_resync_laws.specs.history_World.{World, opening_list}
use Rattle.array_reshaping_resync_laws.proofs.history_SoundLaws.{fit-before}
use Rattle.array_reshaping_resync_laws.specs.crash_views_Regions.{AreShapesFit, place_by}
use Rattle.array_reshaping_resync_laws.specs.crash_views_Views.{Ledger}
use Rattle.array_reshaping_resync_laws.specs.crash_safety_laws_Marking.{AreOthersPresent}
use Rattle.array_reshaping_resync_laws.specs.crash_safety_laws_Safety.{HasRoomLeft, IsRisen, HasLiveSlot}
use Rattle.array_reshaping_resync_laws.specs.crash_safety_laws_Steady.{IsSafeOver, KeepsSafe, AreGoneTold, IsUncleanTold}
use Rattle.array_reshaping_resync_laws.specs.array_members_Placed.{AreWhole}
use Rattle.array_reshaping_resync_laws.specs.array_members_Lacking.{DoesWithout, lacking, too_many}
use Rattle.array_reshaping_resync_laws.specs.array_members_Moving.{Grows, IsMoved}
use Rattle.array_reshaping_resync_laws.proofs.array_members_Fit.{list-alike}
use Rattle.array_reshaping_resync_laws.proofs.array_members_LackingLists.{row-sector}
use Rattle.array_fixed_laws.specs.sb_safe_updates_Unused.{IsUnusedKept}
use Rattle.array_reshaping_resync_laws.specs.history_append_Losing.{losses_of}
use Rattle.array_reshaping_resync_laws.proofs.history_append_CallLaws.{losses-are, limit-losses, length-losses, values-losses}
use Rattle.array_reshaping_resync_laws.proofs.history_append_LeftLaws.{left-behind, left-more}
use Rattle.array_reshaping_resync_laws.proofs.history_append_LosingLaws.{entries-both}
use Rattle.array_fixed_laws.specs.array_call_specs_Calls.{IsRefusedFor, IsReplied}
use Rattle.array_fixed_laws.proofs.array_call_specs_NowLaws.{sectors_of-at}
use Rattle.array_fixed_laws.proofs.array_call_specs_ReplyLaws.{IsOfMissing, unread-of}
use Rattle.array_reshaping_resync_laws.specs.stripe_region_read_Stretches.{ListStandsIn, RowsStandIn}
use Rattle.array_reshaping_resync_laws.proofs.stripe_region_write_Together.{shape-force}
use Rattle.array_reshaping_resync_laws.specs.reshape_window_rows_Copies.{HasWindow, IsRoomFor}
use Rattle.array_reshaping_resync_laws.specs.reshape_window_io_Fetching.{IsShapeBeside, IsUnreadBeside}
use Rattle.array_reshaping_resync_laws.specs.history_invariant_Recorded.{IsCallGoing}
use Rattle.array_reshaping_resync_laws.specs.history_invariant_Safe.{world_in, TakesNone}
use Rattle.array_reshaping_resync_laws.proofs.history_invariant_Entered.{adds_only, values-more, length-more}
use Rattle.array_reshaping_resync_laws.proofs.history_invariant_Growing.{opening-grown}
use Rattle.array_reshaping_resync_laws.proofs.history_invariant_Ledgers.{gone-any}
use Rattle.array_reshaping_resync_laws.proofs.history_invariant_Tests.{none-before}
use Rattle.array_fixed_laws.specs.history_invariant_laws_Reliable.{IsReliable, AreToldGone}
use Rattle.array_fixed_laws.proofs.history_invariant_laws_Behind.{IsAmong, and-true, early-losses, legal-losses}
use Rattle.array_fixed_laws.proofs.history_invariant_laws_Quiet.{IsQuiet, LeavesList, IsLeftBehind, quiet-leaves, quiet-now, last-left}
use Rattle.array_reshaping_resync_laws.specs.reshape_progress_the_Course.{Course}
use Rattle.array_reshaping_resync_laws.specs.reshape_request_the_Window.{Window}
use Rattle.array_reshaping_resync_laws.specs.reshape_request_the_Window_TheVariants.{Closed, Entered, Unsure}
use Rattle.array_reshaping_resync_laws.specs.reshape_progress_Course.{HasWindowIn, IsWindowOf, hidden_in}
use Rattle.array_reshaping_resync_laws.specs.stripe_region_resync_Resyncs.{relied_sector}
use Rattle.array_reshaping_resync_laws.specs.reshape_progress_resync_laws_Synced.{StandsSynced}
use Rattle.array_reshaping_resync_laws.proofs.reshape_progress_resync_laws_Synced.{mended-courses-move}
use Rattle.array_reshaping_resync_laws.specs.array_reshaping_invariant_Moving.{IsMoving}
use Rattle.array_reshaping_resync_laws.proofs.array_reshaping_invariant_BackupKept.{stored-kept}
use Rattle.array_reshaping_resync_laws.proofs.array_reshaping_invariant_MembersMove.{reshaping-moved}
use Rattle.array_reshaping_resync_laws.proofs.array_reshaping_invariant_NoneLeft.{shape-left}
use Rattle.array_reshaping_resync_laws.proofs.array_reshaping_invariant_Pending.{HasResync, resync-of, resync-moved, pending-on, mended-later}
use Rattle.array_reshaping_resync_laws.proofs.array_reshaping_invariant_Quiet.{safe-now, listed-later, course-earlier}
use Rattle.array_reshaping_resync_laws.proofs.array_reshaping_invariant_Refusals.{quiet-refusal, lacking-right}
use Rattle.array_reshaping_resync_laws.proofs.array_reshaping_invariant_Staying.{course-moved, stays-moves}
use Rattle.array_reshaping_resync_laws.proofs.array_reshaping_invariant_Steps.{AreMissingSince, missing-moved}
use Rattle.array_fixed_laws.specs.array_reshaping_state_First.{IsUnreadAround}
use Rattle.array_fixed_laws.proofs.array_reshaping_state_ReshapeLaws.{window-reach}
use Rattle.array_fixed_laws.specs.array_specs_Parts.{visible_size}
use Rattle.array_fixed_laws.proofs.array_specs_VisibleLaws.{visible-is, visible-within}
use Rattle.array_fixed_laws.proofs.array_specs_Replies.{refused_reply, read_kind}
use Rattle.array_reshaping_laws.specs.Ready.{bytes_in}
use Rattle.array_reshaping_laws.proofs.Relied.{pending-at, pending-behind, unsynced-right, sector-role}

-- ---- where nobody was lost

-- what is gone was taken
taken-by : (world : World) (role : ℕ) (xs : List Entry) → is_gone_after world xs role ≡ true → list_any (loses world role) xs ≡ true
unfolding is_gone_after
taken-by world role xs is = gone-any world role [] xs is

-- no role is missing where no entry takes a role's holder
whole-told : (world : World) (xs : List Entry) (m : Members) → TakesNone world xs → AreToldGone world xs m → AreWhole m
whole-told world xs m none gone role lt = by (is_missing (reading_of m) role) refl
  where
    by : (b : Bool) → is_missing (reading_of m) role ≡ b → b ≡ false
    by true is = absurd (let took = sym (none role) ∙ taken-by world role xs (gone role lt is) in cc)
    by false is = refl

takes-first : (world : World) (entries : List Entry) (who : Who) (end : ℕ) (early late : List Event) → TakesNone world (entries ++ entries_of who end (early ++ late)) → TakesNone world (entries ++ entries_of who end early)
takes-first world entries who end early late none role =
    none-before (loses world role) (entries ++ entries_of who end early) (entries_of who end late)
    (subst (λ (l : List Entry). list_any (loses world role) l ≡ false)
    (ap (λ (l : List Entry). entries ++ l) (entries-both who end early late) ∙ sym (append_assoc entries (entries_of who end early) (entries_of who end late))) (none role))

-- ---- behind losses

module _ (entries : List Entry) (who : Who) (end roles spares : ℕ) where
  alone : (P : List Event → Type 0) → P (losses_of roles spares ++ []) → P (losses_of roles spares)
  alone P is = subst P (append-nil (losses_of roles spares)) is

  -- as much of the list is visible
  visible-behind : (n : ℕ) → visible_of n (entries ++ entries_of who end (losses_of roles spares)) ≡ visible_of n entries
  visible-behind n = λ i. option_map_or (λ limit. min limit (long i)) (limited i) (long i)
    where
      long : length_of n (entries ++ entries_of who end (losses_of roles spares)) ≡ length_of n entries
      long = length-more n entries (entries_of who end (losses_of roles spares))
          ∙ alone (λ (l : List Event). length_of (length_of n entries) (entries_of who end l) ≡ length_of n entries) (length-losses who end (losses_of roles spares) [] (losses-are roles spares) (length_of n entries))

      limited : limit_of (entries ++ entries_of who end (losses_of roles spares)) ≡ limit_of entries
      limited = fold-append (λ (limit : Option ℕ) e. limit_after limit e.event) None entries (entries_of who end (losses_of roles spares))
          ∙ alone (λ (l : List Event). fold (λ (limit : Option ℕ) e. limit_after limit e.event) (limit_of entries) (entries_of who end l) ≡ limit_of entries) (limit-losses who end (losses_of roles spares) [] (losses-are roles spares) (limit_of entries))

  -- and each sector holds what it held
  now-behind : (list : List Sector) (x : ℕ) → now list (entries ++ entries_of who end (losses_of roles spares)) x ≡ now list entries x
  now-behind list x = ap (λ (l : List Sector). slice_index_or l 0 [])
      (values-more list entries (entries_of who end (losses_of roles spares)) x
      ∙ alone (λ (l : List Event). fold (λ values e. values_after x values e.event) (values_of list entries x) (entries_of who end l) ≡ values_of list entries x)
      (values-losses who end (losses_of roles spares) [] (losses-are roles spares) x (values_of list entries x)))

-- ---- why it is refused

-- where no sector is refused, each shape that places one does without what is missing of it
pub read-does : (m : Members) (hidden : Option Span) (relied from to : ℕ) → ((refusal : Refusal) → IsUnreadAround hidden relied from to m refusal → ⊥) → (x : ℕ) → from ≤ x → x < to → DoesWithout (shape_for m.newest x) m
read-does m hidden relied from to none x low high = elim (cases_lt (tolerance (shape_for m.newest x)) (lacking (shape_for m.newest x) m)) [
  | inl above ↦ absurd (none (too_many (shape_for m.newest x) m) (x, low, high, inl (record { above = above; told = refl })))
  | inr few ↦ few
]

-- so a live slot is left, where a sector is read
pub read-live : {tells : Type 0} {given : Given} {tape : List Operation} {scope : Scope} {first : ℕ} {entries : List Entry} {m : Members} {carried : ℕ → ℕ → Bool} {resync : Option ℕ} {course : Course} {buffer : List ℕ} {left : ℕ}
    (hidden : Option Span) (relied from to : ℕ) → IsMoving tells given tape scope first entries m carried resync course buffer left → ((refusal : Refusal) → IsUnreadAround hidden relied from to m refusal → ⊥) → from < to → HasLiveSlot m
read-live {given = given} {m = m} hidden relied from to was none some =
    shape-left given m was.members_are.placed was.members_are.unlost (shape_for m.newest from) (shape-force m.newest from) (read-does m hidden relied from to none from (omega arith) some)

-- where some are asked for
pub read-some : (count at : ℕ) → (count ≡ 0 → ⊥) → at < at + count
read-some count at some = omega (arith, some)

-- beside a window the cause is one of the list too
pub beside-unread : (hidden : Option Span) (relied from to : ℕ) (m : Members) (refusal : Refusal) → IsUnreadBeside hidden relied from to m refusal → IsUnreadAround hidden relied from to m refusal
beside-unread hidden relied from to m refusal why = (
  why.0,
  why.1,
  why.2,
  elim why.4 [
    | inl many ↦ inl many
    | inr cause ↦ inr (why.3, cause.0, cause.1)
  ],
)

-- the refusal tells that members are missing
pub unread-missing : (hidden : Option Span) (relied from to : ℕ) (m : Members) (refusal : Refusal) → IsUnreadAround hidden relied from to m refusal → IsOfMissing refusal
unread-missing hidden relied from to m refusal why = elim why.3 [
  | inl many ↦ unread-of (shape_for m.newest why.0) 0 0 0 m refusal (inl many)
  | inr cause ↦ subst IsOfMissing (sym cause.1) (tt, λ p. p)
]

-- ---- the window

-- what is hidden is in the buffer
window-in : (window : Window) (buffer : List ℕ) (list : ℕ → Sector) → HasWindowIn window buffer list → IfSome (hidden_in window) (λ span. HasWindow span buffer list)
window-in Closed buffer list has = tt
window-in (Entered span copied true) buffer list has = has.1
window-in (Entered span copied false) buffer list has = tt
window-in (Unsure span) buffer list has = tt

-- ---- what it leaves

-- slots may have been lost, and nothing but superblocks was written
pub record IsFetched (tells : Type 0) (given : Given) (tape tape' : List Operation) (old new : Members) (roles : ℕ) : Type 0 where
  pub moved : IsMoved given old new
  pub few : role_count new.newest ≤ 16
  pub since : AreMissingSince old new roles
  pub clean : is_clean new.newest ≡ is_clean old.newest
  pub rise : tells → IsRisen ⊤ old new tape tape'
  pub unused : tells → IsUnusedKept old (disk given.start tape) (disk given.start tape')
  pub others : tells → AreOthersPresent (present given tape) (present given tape')
  pub safe : tells → (world : World) → (told : Ledger) → HasRoomLeft old tape tape' → AreGoneTold told new → IsUncleanTold told old → IsSafeOver world given told old tape → KeepsSafe world given told new tape tape'

pub read-quiet : (at : ℕ) (body : List Sector) → IsQuiet (Read at body)
read-quiet at body = record { adds = refl; gives = refl; ends = refl; still = λ x values. refl; level = λ n. refl; other = refl }

module _ {tells : Type 0} {given : Given} {tape : List Operation} {scope : Scope} {first : ℕ} {entries : List Entry} {old : Members} {carried : ℕ → ℕ → Bool} {resync : Option ℕ} {course : Course} {buffer : List ℕ} {left : ℕ} {limit : Option ℕ}
    (was : IsMoving tells given tape scope first entries old carried resync course buffer left) (limited : limit_of entries ≡ limit) where
  -- so much of the list is visible
  seen : tells → visible_at (world_in given tape scope first) entries ≡ visible_size old limit
  seen t = visible-is (length (opening_list (world_in given tape scope first))) (list_length old.newest) limit entries (was.recorded t).sized limited

  -- ---- one that is refused before any sector is read

  pub first-right : (hidden : Option Span) (relied at to : ℕ) (refusal : Refusal) → relied ≡ relied_sector old.newest resync → IsRefusedFor (visible_size old limit) to (IsUnreadAround hidden relied at to) old old refusal
      → tells → IsReliable (world_in given tape scope first) entries → IsRefusedRight (world_in given tape scope first) entries refusal
  first-right hidden relied at to (PastEnd told) relies why t right = why.0 ∙ sym (seen t)
  first-right hidden relied at to refusal relies why t right = by (let below = visible-within (list_length old.newest) limit in let within = why.0 in omega (arith, below, within)) why.1
    where
      by : to ≤ list_length old.newest → IsUnreadAround hidden relied at to old refusal → IsRefusedRight (world_in given tape scope first) entries refusal
      by within (x, low, high, inl many) =
          lacking-right (world_in given tape scope first) entries given old was.members_are.placed (was.gone t right) (was.levelled t right) (shape_for old.newest x) refusal (shape-force old.newest x) many
      by within (x, low, high, inr (out, is, un)) =
          unsynced-right (world_in given tape scope first) entries old (was.gone t right) refusal (place_by old.newest x).role is (sector-role old.newest was.members_are.placed.fit x) un.0
          (pending-at was relied relies old was.members_are.placed.fit refl x (omega (arith, high, within)) un.1 t)

  -- ---- one of no sector

  pub none-read : (at : ℕ) (body : List Sector) → length body ≡ 0 → at ≤ visible_size old limit → tells → IsReliable (world_in given tape scope first) entries
      → IsReadOver (opening_list (world_in given tape scope first)) entries at body
  none-read at body none within t right = record {
    within = let all_seen = seen t in omega (arith, all_seen, none, within);
    holds = λ i lt. absurd (omega (arith, lt, none));
  }

  module _ {tape' : List Operation} {new : Members} (live : HasLiveSlot old) (who : Who) (end roles spares : ℕ) (goes : IsCallGoing entries who) (caller : IsFalse (who.caller == 254)) (at_end : tells → end ≡ length tape')
      (grows : Grows tells tape tape') (did : IsFetched tells given tape tape' old new roles) where
    long-same : list_length new.newest ≡ list_length old.newest
    long-same = list-alike old.newest new.newest did.moved.reshape did.moved.shape did.moved.size

    moves : tells → (sound : Type 0) (among : Shape → Type 0) (list : ℕ → Sector) → StandsSynced sound among resync old course buffer (present given tape) list
        → StandsSynced sound among resync new course buffer (present given tape') list
    moves t sound among list stands = mended-courses-move sound among given old new resync course buffer (present given tape) (present given tape') list was.members_are.placed did.moved (did.others t) stands

    -- ---- one that is refused behind what it lost

    pub unread-moves : (hidden : Option Span) (relied at to : ℕ) (refusal : Refusal) → relied ≡ relied_sector old.newest resync → to ≤ visible_size old limit → IsUnreadAround hidden relied at to new refusal
        → IsMoving tells given tape' scope first (entries ++ entries_of who end (losses_of roles spares ++ Refused refusal ∷ [])) new carried resync course buffer left
    unread-moves hidden relied at to refusal relies within why =
        stays-moves tells given tape tape' scope first entries old new carried resync course buffer left who end roles spares (Refused refusal) was live goes caller at_end grows (quiet-refusal refusal) (λ told is. is)
        did.moved did.few did.since did.clean did.rise did.unused moves
        (λ t told fills more room gone unclean safe. did.safe t (world_in given tape scope first) told room gone unclean safe)
        (λ t right gone level. legal t right gone level why)
      where
        legal : tells → IsReliable (world_in given tape scope first) entries → AreToldGone (world_in given tape' scope first) (entries ++ entries_of who end (losses_of roles spares)) new
            → level_at (world_in given tape' scope first) (entries ++ entries_of who end (losses_of roles spares)) ≡ level_at (world_in given tape scope first) entries → IsUnreadAround hidden relied at to new refusal
            → IsRefusedRight (world_in given tape' scope first) (entries ++ entries_of who end (losses_of roles spares)) refusal
        legal t right gone level (x, low, high, inl many) =
            lacking-right (world_in given tape' scope first) (entries ++ entries_of who end (losses_of roles spares)) given new did.moved.placed gone
            (ap tolerance_of level ∙ was.levelled t right ∙ ap tolerance (sym did.moved.shape)) (shape_for new.newest x) refusal (shape-force new.newest x) many
        legal t right gone level (x, low, high, inr (out, is, un)) =
            unsynced-right (world_in given tape' scope first) (entries ++ entries_of who end (losses_of roles spares)) new gone refusal (place_by new.newest x).role is (sector-role new.newest did.moved.placed.fit x) un.0
            (pending-behind was relied relies who end roles spares grows t (pending-at was relied relies new did.moved.placed.fit long-same x (let below = visible-within (list_length old.newest) limit in omega (arith, high, within, below, long-same)) un.1 t))

    -- ---- one that is done

    module _ (relied at : ℕ) (bytes : List ℕ) (relies : relied ≡ relied_sector old.newest resync) (does : (x : ℕ) → at ≤ x → x < at + length bytes / 512 → DoesWithout (shape_for old.newest x) old) (within : at + length bytes / 512 ≤ visible_size old limit)
        (holds : tells → (list : ℕ → Sector) → ListStandsIn (IsShapeBeside (hidden_in course.window) old.newest at (at + length bytes / 512)) (hidden_in course.window) old (present given tape) list
        → IfSome (hidden_in course.window) (λ span. HasWindow span buffer list)
        → AreWhole new ⊎ RowsStandIn (IsShapeBeside (hidden_in course.window) old.newest at (at + length bytes / 512)) (hidden_in course.window) relied old (present given tape) list
        → (i : ℕ) → i < length bytes / 512 → sector_of bytes i ≡ list (at + i)) where
      abbrev all : List Entry
      all = entries ++ entries_of who end (losses_of roles spares ++ Read at (sectors_of bytes) ∷ [])

      quiet : IsQuiet (Read at (sectors_of bytes))
      quiet = read-quiet at (sectors_of bytes)

      opened : tells → opening_list (world_in given tape' scope first) ≡ opening_list (world_in given tape scope first)
      opened t =
          let g = grows.more t in
          subst (λ (l : List Operation). opening_list (world_in given l scope first) ≡ opening_list (world_in given tape scope first)) (sym g.1)
          (opening-grown (world_in given tape scope first) g.0 (was.recorded t).begun)

      fit-earlier : tells → OpensFit (world_in given tape' scope first) → OpensFit (world_in given tape scope first)
      fit-earlier t fit =
          let g = grows.more t in
          fit-before (world_in given tape scope first) g.0 (was.recorded t).begun (subst (λ (l : List Operation). OpensFit (world_in given l scope first)) g.1 fit)

      -- what is read is what the history's list holds
      list-is : (t : tells) → IsReliable (world_in given tape scope first) entries → AreWhole new ⊎ OpensFit (world_in given tape scope first)
          → (i : ℕ) → i < length bytes / 512 → sector_of bytes i ≡ now (opening_list (world_in given tape scope first)) entries (at + i)
      list-is t right filled i lt =
          let l = was.listed t right.fills in
          holds t l.list (λ x slot own shown held. l.stands.in_course.stands x slot (does-beside (shape_for old.newest x) own) shown held) (window-in course.window buffer l.list l.stands.in_course.window)
          (rows-beside l.list filled l.stands.rows) i lt ∙ l.is (at + i) (let below = visible-within (list_length old.newest) limit in omega (arith, lt, within, below))
        where
          does-beside : (shape : Shape) → IsShapeBeside (hidden_in course.window) old.newest at (at + length bytes / 512) shape → DoesWithout shape old
          does-beside shape own = subst (λ (s : Shape). DoesWithout s old) own.4 (does own.0 own.1 own.2)

          rows-beside : (list : ℕ → Sector) → AreWhole new ⊎ OpensFit (world_in given tape scope first)
              → (OpensFit (world_in given tape scope first) → RowsStandIn (λ shape. DoesWithout shape old) (hidden_in course.window) (relied_sector old.newest resync) old (present given tape) list)
              → AreWhole new ⊎ RowsStandIn (IsShapeBeside (hidden_in course.window) old.newest at (at + length bytes / 512)) (hidden_in course.window) relied old (present given tape) list
          rows-beside list (inl whole) stands = inl whole
          rows-beside list (inr fit) stands = inr (λ x below own shown. stands fit x (subst (λ (n : ℕ). x < n) relies below) (does-beside (shape_for old.newest x) own) shown)

      legal : (t : tells) → IsReliable (world_in given tape' scope first) all → IsReliable (world_in given tape scope first) entries
          → AreToldGone (world_in given tape' scope first) (entries ++ entries_of who end (losses_of roles spares)) new
          → IsReadOver (opening_list (world_in given tape' scope first)) (entries ++ entries_of who end (losses_of roles spares)) at (sectors_of bytes)
      legal t right_all right gone = record {
        within =
            let same : visible_of (length (opening_list (world_in given tape' scope first))) (entries ++ entries_of who end (losses_of roles spares)) ≡ visible_at (world_in given tape scope first) entries =
            visible-behind entries who end roles spares (length (opening_list (world_in given tape' scope first))) ∙ ap (λ (o : List Sector). visible_of (length o) entries) (opened t) in
            let n = length-sectors_of bytes in
            let all_seen = seen t in
            omega (arith, all_seen, n, same, within);
        holds = λ i lt.
            let n = length-sectors_of bytes in
            let below : i < length bytes / 512 = omega (arith, lt, n) in
            sectors_of-at i bytes below ∙ sym (row-sector bytes i)
            ∙ list-is t right filled i below
            ∙ ap (λ (o : List Sector). now o entries (at + i)) (sym (opened t)) ∙ sym (now-behind entries who end roles spares (opening_list (world_in given tape' scope first)) (at + i));
      }
        where
          filled : AreWhole new ⊎ OpensFit (world_in given tape scope first)
          filled = elim right_all.fills [
            | inl none ↦ inl (whole-told (world_in given tape' scope first) (entries ++ entries_of who end (losses_of roles spares)) new
                (takes-first (world_in given tape' scope first) entries who end (losses_of roles spares) (Read at (sectors_of bytes) ∷ []) none.0) gone)
            | inr fit ↦ inr (fit-earlier t fit)
          ]

      call : tells → LeavesList given tape scope first entries old new carried true who (losses_of roles spares) (Read at (sectors_of bytes)) tape' end
      call t = record {
        rise = did.rise t;
        keeps = λ told fills more room gone unclean safe. did.safe t (world_in given tape scope first) told room gone unclean safe;
        legal = λ right_all right gone level.
            legal-losses (world_in given tape' scope first) entries who end (losses_of roles spares) (Read at (sectors_of bytes) ∷ []) (losses-are roles spares) (legal t right_all right gone, tt, tt);
      }

      abbrev Then : List Operation → ℕ → Type 0
      Then l e = LeavesList given tape scope first entries old new carried true who (losses_of roles spares) (Read at (sectors_of bytes)) l e
          → IsLeftBehind given tape scope first entries (entries ++ entries_of who e (losses_of roles spares ++ Read at (sectors_of bytes) ∷ [])) new carried true l

      leaves : tells → IsLeftBehind given tape scope first entries all new carried true tape'
      leaves t =
          let g = grows.more t in
          subst (λ (l : List Operation). Then l end) (sym g.1)
          (subst (Then (tape ++ g.0)) (sym (at_end t ∙ ap (λ (l : List Operation). length l) g.1))
          (λ call_to. quiet-leaves given tape scope first entries old new carried true who (losses_of roles spares) (IsAmong roles) (Read at (sectors_of bytes)) g.0 (early-losses roles spares) goes caller quiet did.few
          (missing-moved roles did.moved did.since) long-same did.clean was.sizes_are (was.gone t) (was.unclean t) (was.recorded t) (was.safe t) (safe-now was live t) call_to))
          (call t)

      -- where what is filled in is right by all entries
      pub holds-read : tells → IsReliable (world_in given tape' scope first) all → (i : ℕ) → i < length bytes / 512 → sector_of bytes i ≡ now (opening_list (world_in given tape scope first)) entries (at + i)
      holds-read t right = list-is t ((leaves t).right right) (elim right.fills [
        | inl none ↦ inl (whole-told (world_in given tape' scope first) all new none.0 ((leaves t).gone right))
        | inr fit ↦ inr (fit-earlier t fit)
      ])

      resynced : HasResync new resync course
      resynced = resync-moved did.moved (λ some dirty. did.clean ∙ dirty) was.beside (resync-of was)

      pub read-moves : IsMoving tells given tape' scope first all new carried resync course buffer left
      read-moves = record {
        slots = was.slots;
        members_are = reshaping-moved scope given old new did.moved was.members_are;
        course_is = course-moved given old new course did.moved was.course_is;
        sizes_are = was.sizes_are;
        left_told = left-more left entries who end (losses_of roles spares ++ Read at (sectors_of bytes) ∷ []) was.left_told
            (left-behind left who end (losses_of roles spares) (Read at (sectors_of bytes) ∷ []) (losses-are roles spares) (λ told is. is));
        progress = resynced.progress;
        beside = resynced.beside;
        pending = λ t. pending-on (entries_of who end (losses_of roles spares ++ Read at (sectors_of bytes) ∷ [])) (leaves t)
            ((early-losses roles spares).adds who end (Read at (sectors_of bytes) ∷ []) (and-true (adds_only (Read at (sectors_of bytes))) true quiet.adds refl)) ∙ was.pending t;
        dirty = resynced.dirty;
        levelled = λ t fills. ap tolerance_of (leaves t).levelled ∙ was.levelled t ((leaves t).right fills) ∙ sym (ap tolerance did.moved.shape);
        gone = λ t. (leaves t).gone;
        unclean = λ t. (leaves t).unclean;
        recorded = λ t. (leaves t).recorded;
        last_step = λ t. last-left given tape tape' scope first entries (list_length old.newest) new carried true who end (losses_of roles spares) (Read at (sectors_of bytes)) (leaves t) (at_end t) refl long-same (was.last_step t).past;
        stored = λ t on. stored-kept scope given old new course.window buffer (disk given.start tape) (disk given.start tape') was.members_are did.moved (did.unused t) (was.stored t (course-earlier given tape tape' scope first (leaves t).begun (leaves t).grown on));
        listed = λ t. listed-later given tape scope first entries all new carried resync course buffer tape' (now (opening_list (world_in given tape scope first)) entries) (leaves t)
            (quiet-now (opening_list (world_in given tape scope first)) entries who end (losses_of roles spares) (IsAmong roles) (Read at (sectors_of bytes)) (early-losses roles spares) quiet)
            (λ fills.
            let l = was.listed t fills in
            record {
              list = l.list;
              is = λ x lt. l.is x (subst (λ (n : ℕ). x < n) long-same lt);
              stands = moves t (OpensFit (world_in given tape scope first)) (λ shape. DoesWithout shape new) l.list
                  (mended-later (OpensFit (world_in given tape scope first)) given old new resync course buffer (present given tape) l.list did.moved l.stands);
            });
        safe = λ t. (leaves t).safe;
      }

-- ---- the bytes

-- so many sectors are asked for as the buffer has
pub asked-is : (bytes slice into : List ℕ) → length bytes ≡ length into → slice ≡ bytes → length slice / 512 ≡ length into / 512
asked-is bytes slice into len same = ap (λ (l : List ℕ). length l / 512) same ∙ ap (λ (n : ℕ). n / 512) len

-- no sector is in so few bytes
pub no-sectors : (bytes : List ℕ) → length bytes / 512 ≡ 0 → sectors_of bytes ≡ []
no-sectors bytes none = of (sectors_of bytes) (length-sectors_of bytes ∙ none)
  where
    of : (l : List Sector) → length l ≡ 0 → l ≡ []
    of [] is = refl
    of (x ∷ l) is = absurd (omega (arith, is))

-- what is hidden has room in so much of the buffer
pub room-taken : (hidden : Option Span) (wide : ℕ) (bytes : List ℕ) → wide ≤ length bytes → IfSome hidden (λ span. wide ≡ 512 * (span.hi - span.lo)) → IfSome hidden (λ span. IsRoomFor span (take wide bytes))
room-taken None wide bytes within long = tt
room-taken (Some span) wide bytes within long = length-take-le wide bytes within ∙ long

-- the buffer has room for what is hidden
pub hidden-fits : (newest : Sb) → AreShapesFit newest → (window : Window) → IsWindowOf newest window → (most : ℕ) → 512 * reach_of newest ≤ most → IfSome (hidden_in window) (λ span. 512 * (span.hi - span.lo) ≤ most)
hidden-fits newest fit Closed is most wide = tt
hidden-fits newest fit (Entered span copied true) is most wide = let reach = window-reach newest fit span is.0 in omega (arith, reach, wide)
hidden-fits newest fit (Entered span copied false) is most wide = tt
hidden-fits newest fit (Unsure span) is most wide = tt

pub hidden-slice : (window : Window) (buffer slice : List ℕ) (wide : ℕ) (list : ℕ → Sector) → slice ≡ take wide buffer → IfSome (hidden_in window) (λ span. wide ≡ 512 * (span.hi - span.lo))
    → IfSome (hidden_in window) (λ span. HasWindow span (bytes_in window buffer) list) → IfSome (hidden_in window) (λ span. HasWindow span slice list)
hidden-slice Closed buffer slice wide list same is has = tt
hidden-slice (Entered span copied true) buffer slice wide list same is has = subst (λ (l : List ℕ). HasWindow span l list) (sym (same ∙ ap (λ (n : ℕ). take n buffer) is)) has
hidden-slice (Entered span copied false) buffer slice wide list same is has = tt
hidden-slice (Unsure span) buffer slice wide list same is has = tt

-- ---- replies

pub first-reply : (m : Members) (hidden : Option Span) (relied : ℕ) (limit : Option ℕ) (old : List Entry) → length_of (list_length m.newest) old ≡ list_length m.newest → limit_of old ≡ limit → (who : Who) (at count : ℕ) (new : List Entry) (end : ℕ) (refusal : Refusal)
    → IsRefusedFor (visible_size m limit) (at + count) (IsUnreadAround hidden relied at (at + count)) m m refusal → new ≡ old ++ entries_of who end (Refused refusal ∷ []) → who.number ≡ next_number who.caller old
    → IsReplied (list_length m.newest) (AsksRead at count) who old new (Refused refusal)
first-reply m hidden relied limit old sized limited who at count new end (PastEnd told) why is number =
    refused_reply (list_length m.newest) limit old sized limited (AsksRead at count) who (at + count) (λ members refusal. IsOfMissing refusal) new end m (PastEnd told) (read_kind at count) (λ of. of) why is number
first-reply m hidden relied limit old sized limited who at count new end refusal why is number =
    refused_reply (list_length m.newest) limit old sized limited (AsksRead at count) who (at + count) (λ members refusal. IsOfMissing refusal) new end m refusal (read_kind at count) (λ of. of)
    (why.0, unread-missing hidden relied at (at + count) m refusal why.1) is number

-- what is fetched by the bytes of the window's buffer is so by the list that stands in the course
pub holds-sliced : (tells : Type 0) (old new : Members) (c : Contents) (window : Window) (buffer slice : List ℕ) (wide : ℕ) (hidden : Option Span) (relied at : ℕ) (bytes : List ℕ) (asked : ℕ) → length bytes / 512 ≡ asked
    → hidden ≡ hidden_in window → slice ≡ take wide buffer → IfSome hidden (λ span. wide ≡ 512 * (span.hi - span.lo))
    → (tells → (list : ℕ → Sector) → ListStandsIn (IsShapeBeside hidden old.newest at (at + asked)) hidden old c list → IfSome hidden (λ span. HasWindow span slice list)
    → AreWhole new ⊎ RowsStandIn (IsShapeBeside hidden old.newest at (at + asked)) hidden relied old c list → (i : ℕ) → i < asked → sector_of bytes i ≡ list (at + i))
    → tells → (list : ℕ → Sector) → ListStandsIn (IsShapeBeside (hidden_in window) old.newest at (at + length bytes / 512)) (hidden_in window) old c list
    → IfSome (hidden_in window) (λ span. HasWindow span (bytes_in window buffer) list)
    → AreWhole new ⊎ RowsStandIn (IsShapeBeside (hidden_in window) old.newest at (at + length bytes / 512)) (hidden_in window) relied old c list
    → (i : ℕ) → i < length bytes / 512 → sector_of bytes i ≡ list (at + i)
holds-sliced tells old new c window buffer slice wide hidden relied at bytes asked same hidden_is slice_is long holds t list stands has rows i lt =
    holds t list (subst (λ (o : Option Span). ListStandsIn (IsShapeBeside o old.newest at (at + asked)) o old c list) (sym hidden_is)
    (subst (λ (n : ℕ). ListStandsIn (IsShapeBeside (hidden_in window) old.newest at (at + n)) (hidden_in window) old c list) same stands))
    (subst (λ (o : Option Span). IfSome o (λ span. HasWindow span slice list)) (sym hidden_is)
    (hidden-slice window buffer slice wide list slice_is (subst (λ (o : Option Span). IfSome o (λ span. wide ≡ 512 * (span.hi - span.lo))) hidden_is long) has))
    (subst (λ (o : Option Span). AreWhole new ⊎ RowsStandIn (IsShapeBeside o old.newest at (at + asked)) o relied old c list) (sym hidden_is)
    (subst (λ (n : ℕ). AreWhole new ⊎ RowsStandIn (IsShapeBeside (hidden_in window) old.newest at (at + n)) (hidden_in window) relied old c list) same rows))
    i (subst (λ (n : ℕ). i < n) same lt)
