-- A call that makes no device call, and enters one event: also where no live slot is left that had kept a change of length.
use Rattle.std.proofs.Common.{◌≡◌, inl, inr, ℕ, ◌==◌, true, false, List, [], ◌∷◌, ◌++◌, length, refl, sym, ◌∙◌, ap, subst, append-nil}
use Rattle.std.specs.Prelude.{IsFalse, IfSome, slice_index_or, ⊤}
use Rattle.std.specs.List.{list_any}
use Rattle.array_reshaping_invariant.specs.raid_types_Sectors.{Sector}
use Rattle.array_reshaping_invariant.specs.raid_types_Shapes.{tolerance_of}
use Rattle.array_reshaping_invariant.specs.raid_types_the_Who.{Who}
use Rattle.array_reshaping_invariant.specs.bank_the_Operation.{Operation}
use Rattle.array_reshaping_invariant.specs.bank_Given.{Given}
use Rattle.array_reshaping_invariant.specs.sb_specs_the_Members.{Members}
use Rattle.array_reshaping_invariant.specs.sb_specs_Reading.{Scope, list_length}
use Rattle.array_reshaping_invariant.proofs.sb_specs_ValidFields.{few-roles}
use Rattle.array_reshaping_invariant.specs.stripe_row_Rows.{present}
use Rattle.array_reshaping_invariant.specs.history_the_Entry.{Entry}
use Rattle.array_reshaping_invariant.specs.history_the_Event.{Event}
use Rattle.array_reshaping_invariant.specs.history_Epochs.{HasRoomForEvents}
use Rattle.array_reshaping_invariant.specs.history_Flat.{now, values_of, values_after}
use Rattle.array_reshaping_invariant.specs.history_Legal.{told_left, level_at, level_after, IsLegalEvent}
use Rattle.array_reshaping_invariant.specs.history_Plain.{entries_of}
use Rattle.array_reshaping_invariant.specs.history_Sound.{OpensFit}
use Rattle.array_reshaping_invariant.specs.history_World.{World, opening_list}
use Rattle.array_reshaping_invariant.specs.array_members_the_Work.{Work}
use Rattle.array_reshaping_invariant.specs.array_members_Numbers.{bears}
use Rattle.array_reshaping_invariant.proofs.history_append_CallLaws.{last_end-behind}
use Rattle.array_reshaping_invariant.specs.history_invariant_Recorded.{IsHistoryKept, IsCallGoing, entry_of, gives_some}
use Rattle.array_reshaping_invariant.proofs.history_invariant_Tests.{none-before}
use Rattle.array_reshaping_invariant.specs.history_Losses.{loses}
use Rattle.array_reshaping_invariant.specs.history_invariant_Safe.{world_in, is_taken_over, IsFilledRight, IsSafeHistory}
use Rattle.array_reshaping_invariant.specs.history_invariant_Told.{told_now}
use Rattle.array_reshaping_invariant.proofs.history_invariant_Entered.{adds_only, AreAdding, values-more, length-adding, settle-none}
use Rattle.array_reshaping_invariant.proofs.history_invariant_Idle.{now-adding, idle-call}
use Rattle.array_reshaping_invariant.proofs.history_invariant_KeptCalls.{kept-call}
use Rattle.array_reshaping_invariant.specs.history_invariant_laws_Reliable.{IsReliable, AreToldGone}
use Rattle.array_reshaping_invariant.proofs.history_invariant_laws_Quiet.{EndsRight}
use Rattle.array_reshaping_invariant.proofs.history_invariant_laws_Behind.{first-of, IsBehind, is-behind, and-true, or-false, early-none, telling-of}
use Rattle.array_reshaping_invariant.proofs.array_call_specs_LedgerLaws.{none-ends, unsynced-more}
use Rattle.array_fixed_invariant.specs.Still.{HasListStood, IsStill}
use Rattle.array_fixed_invariant.proofs.Ends.{EndsPlans, ends-right}

-- An event that leaves the list and the level, settles nothing and gives no role.
pub record IsResting (event : Event) : Type 0 where
  pub adds : adds_only event ≡ true
  pub gives : gives_some event ≡ false
  pub still : (x : ℕ) (values : List Sector) → values_after x values event ≡ values
  pub level : (n : ℕ) → level_after n event ≡ n

-- what it leaves of the history, over this tape
record IsRested (given : Given) (tape : List Operation) (scope : Scope) (first : ℕ) (entries all : List Entry) (m : Members) (tape' : List Operation) : Type 0 where
  pub right : IsReliable (world_in given tape' scope first) all → IsReliable (world_in given tape scope first) entries
  pub fills : IsFilledRight (world_in given tape' scope first) all → IsFilledRight (world_in given tape scope first) entries
  pub levelled : level_at (world_in given tape' scope first) all ≡ level_at (world_in given tape scope first) entries
  pub gone : IsReliable (world_in given tape' scope first) all → AreToldGone (world_in given tape' scope first) all m
  pub recorded : IsHistoryKept (IsReliable (world_in given tape' scope first) all) (world_in given tape' scope first) (list_length m.newest) all

module _ (tells : Type 0) (given : Given) (tape : List Operation) (scope : Scope) (first : ℕ) (entries : List Entry) (m : Members) (work : Work) (left left' : ℕ) (who : Who) (end : ℕ) (event : Event)
    (was : IsStill tells given tape scope first entries m work left) (goes : IsCallGoing entries who) (caller : IsFalse (who.caller == 254)) (at_end : tells → end ≡ length tape)
    (rests : IsResting event) (free : EndsPlans tells (world_in given tape scope first) entries m work event) (told : IfSome (told_left (entries ++ entries_of who end (event ∷ []))) (λ n. n ≡ left'))
    (legal : tells → IsReliable (world_in given tape scope first) entries → IsLegalEvent (world_in given tape scope first) entries (entry_of who end event) [] event) where
  abbrev world : World
  world = world_in given tape scope first

  abbrev added : List Entry
  added = entries_of who end (event ∷ [])

  adds : (n : ℕ) → AreAdding (entries_of who n (event ∷ []))
  adds n = and-true (adds_only event) true rests.adds refl

  none : (n : ℕ) → list_any (λ e. gives_some e.event) (entries_of who n (event ∷ [])) ≡ false
  none n = or-false (gives_some event) false rests.gives refl

  -- ---- the history

  Then : List Operation → ℕ → Type 0
  Then l e = (IsReliable (world_in given tape scope first) entries → IsLegalEvent (world_in given l scope first) entries (entry_of who e event) [] event)
      → EndsRight given l scope first entries m (bears work) was.reshaping who e (event ∷ [])
      → (IsFilledRight (world_in given l scope first) (entries ++ entries_of who e (event ∷ [])) → HasRoomForEvents (world_in given l scope first)
      → IsSafeHistory ⊤ (world_in given l scope first) given m (bears work) was.reshaping (entries ++ entries_of who e (event ∷ [])))
      → IsRested given tape scope first entries (entries ++ entries_of who e (event ∷ [])) m l

  rested-here : tells → Then (tape ++ []) (length (tape ++ []))
  unfolding Then
  rested-here t right ends safe =
      let behind : IsBehind (world_in given tape scope first) (world_in given (tape ++ []) scope first) entries m who (length (tape ++ [])) [] (event ∷ []) =
      is-behind given tape scope first entries m m who [] (λ role. ⊥) (event ∷ []) [] (telling-of (first-of early-none)) (none (length (tape ++ []))) rests.level (few-roles m.newest was.members_are.placed.fit.valid) (λ role lt miss. inl (lt, miss))
      (was.gone t) (was.recorded t) in
      record {
        right = behind.right;
        fills = behind.fills;
        levelled = behind.level_all;
        gone = behind.gone_all;
        recorded = kept-call (IsReliable (world_in given tape scope first) entries)
            (IsReliable (world_in given (tape ++ []) scope first) (entries ++ entries_of who (length (tape ++ [])) (event ∷ [])))
            (world_in given tape scope first) [] (list_length m.newest) (list_length m.newest) entries who (event ∷ []) goes (was.recorded t) behind.right caller
            (λ all. inr behind.gives_all)
            (length-adding (length (opening_list (world_in given tape scope first))) entries (entries_of who (length (tape ++ [])) (event ∷ [])) (adds (length (tape ++ []))) ∙ (was.recorded t).sized)
            (last_end-behind first entries who (length (tape ++ [])) [] event) (λ all. (right (behind.right all), tt, tt))
            (λ all fit. ends all (behind.gone_all all) (safe all.fills all.room) fit);
      }

  -- ---- what is told, and what a stop may leave

  unclean : tells → (is_told : (told_now (world_in given tape scope first) (bears work) false entries).unclean ≡ true)
      → (told_now (world_in given tape scope first) (bears work) false (entries ++ entries_of who end (event ∷ []))).unclean ≡ true
  unclean t is_told = (now-adding (world_in given tape scope first) (bears work) false entries (entries_of who end (event ∷ [])) (adds end) (none end)).unclean is_told

  -- what is filled in was right before it, too
  before : (n : ℕ) → IsFilledRight (world_in given tape scope first) (entries ++ entries_of who n (event ∷ [])) → IsFilledRight (world_in given tape scope first) entries
  before n (inl none) = inl (
    λ role. none-before (loses (world_in given tape scope first) role) entries (entries_of who n (event ∷ [])) (none.0 role),
    none.1,
    none-before (λ e. is_taken_over e.event) entries (entries_of who n (event ∷ [])) none.2,
  )
  before n (inr fit) = inr fit

  safe : tells → IsFilledRight world (entries ++ added) → HasRoomForEvents world → IsSafeHistory ⊤ world given m (bears work) was.reshaping (entries ++ added)
  safe t fills room =
      subst (λ (n : ℕ). IsFilledRight (world_in given tape scope first) (entries ++ entries_of who n (event ∷ [])) → IsSafeHistory ⊤ (world_in given tape scope first) given m (bears work) was.reshaping (entries ++ entries_of who n (event ∷ []))) (sym (at_end t))
      (λ right. idle-call ⊤ given tape scope first entries m (bears work) was.reshaping who (event ∷ []) was.sizes_are (was.recorded t).begun (was.recorded t).ends right
      (was.safe t (before (length tape) right) room) (adds (length tape)) (none (length tape)))
      fills

  ends : tells → EndsRight given tape scope first entries m (bears work) was.reshaping who end (event ∷ [])
  ends = ends-right tells given tape scope first entries m work (bears work) was.reshaping who [] event [] tt refl refl free was.members_are (λ u. (was.recorded u).begun) (λ u. (was.recorded u).ends)
      (now (opening_list (world_in given tape scope first)) entries) end (record { more = λ u. ([], sym (append-nil tape)) }) at_end (λ u does right fit. (was.listed u does right.fills).rows fit)

  rested : tells → IsRested given tape scope first entries (entries ++ entries_of who end (event ∷ [])) m tape
  unfolding Then
  rested t =
      subst (λ (l : List Operation). Then l end) (append-nil tape)
      (subst (Then (tape ++ [])) (ap (λ (l : List Operation). length l) (append-nil tape) ∙ sym (at_end t)) (rested-here t)) (legal t) (ends t) (safe t)

  -- ---- the record

  -- each sector holds what it held
  same : (x : ℕ) → now (opening_list (world_in given tape scope first)) (entries ++ entries_of who end (event ∷ [])) x ≡ now (opening_list (world_in given tape scope first)) entries x
  same x = ap (λ (l : List Sector). slice_index_or l 0 [])
      (values-more (opening_list (world_in given tape scope first)) entries (entries_of who end (event ∷ [])) x ∙ rests.still x (values_of (opening_list (world_in given tape scope first)) entries x))

  pub resting-stands : IsStill tells given tape scope first (entries ++ entries_of who end (event ∷ [])) m work left'
  resting-stands = record {
    slots = was.slots;
    members_are = was.members_are;
    sizes_are = was.sizes_are;
    left_told = told;
    reshaping = was.reshaping;
    over = was.over;
    progress = was.progress;
    pending = λ t. unsynced-more (world_in given tape scope first) entries added (none-ends added (settle-none added (adds end))) ∙ was.pending t;
    dirty = was.dirty;
    levelled = λ t right. ap tolerance_of (rested t).levelled ∙ was.levelled t ((rested t).right right);
    gone = λ t. (rested t).gone;
    full = λ t none level. was.full t (λ role. none-before (loses (world_in given tape scope first) role) entries added (none role)) (none-before (λ e. is_taken_over e.event) entries added level);
    unclean = λ t dirty. unclean t (was.unclean t dirty);
    recorded = λ t. (rested t).recorded;
    past = λ t fills x high. values-more (opening_list (world_in given tape scope first)) entries (entries_of who end (event ∷ [])) x
        ∙ rests.still x (values_of (opening_list (world_in given tape scope first)) entries x) ∙ was.past t ((rested t).fills fills) x high;
    listed = λ t does fills. subst (λ (l : ℕ → Sector). HasListStood (OpensFit (world_in given tape scope first)) work m (present given tape) l)
        (λ i x. sym (same x) i)
        (was.listed t does ((rested t).fills fills));
    safe = safe;
  }
