-- A history of an array that keeps its shape is legal over a bank that was found so.
use Rattle.std.proofs.Common.{◌≡◌, ℕ, ◌+◌, ◌<◌, ◌≤◌, Bool, true, false, ◌&&◌, cond, nat_lt, List, [], ◌∷◌, ◌++◌, length, take, refl, sym, ap, ap₂, ◌∙◌, subst, arith, Option, Some, None, unwrap_or, MatchOption}
use Rattle.std.specs.Prelude.{fold, not, IfSome, IsFalse}
use Rattle.std.specs.List.{list_any}
use Rattle.std.proofs.lemmas.List.{length-take-le, take-take}
use Rattle.std.proofs.lemmas.Bool.{ltb-true}
use Rattle.std.specs.Bool.{OnTrue}
use Rattle.std.specs.Option.{option_map_or}
use Rattle.raid_types.specs.Sectors.{Sector}
use Rattle.raid_types.specs.Shapes.{tolerance_of}
use Rattle.raid_types.specs.declared.answers.Refusal.{Refusal}
use Rattle.raid_types.specs.declared.answers.Refusal.TheVariants.{PastEnd, TooManyMissing, NotResynced}
use Rattle.bank.specs.Tape.{Contents, contents, value_after}
use Rattle.bank.proofs.Laws.{contents-earlier}
use Rattle.bank.specs.declared.bank.Operation.{Operation}
use Rattle.sb_read_laws.specs.sb_specs_Reading.{Reading, reading, is_clean, is_whole, role_state, role_count}
use Rattle.history.specs.declared.events.Entry.{Entry}
use Rattle.history.specs.declared.events.Event.{Event}
use Rattle.history.specs.declared.events.Event.TheVariants.{Read, Wrote, Torn, Flushed, Lost, SpareLost, Rebuilt, Added, Failed, Step, Stepped, Shown, Stopped, Halted, Refused}
use Rattle.history.specs.declared.events.LostCause.{LostCause}
use Rattle.history.specs.declared.events.LostCause.TheVariants.{Absent, Recovering, Command, Fault}
use Rattle.history.specs.declared.events.StepKind.{StepKind}
use Rattle.history.specs.declared.events.StepKind.TheVariants.{ResyncStripe, ResyncEnded, RebuildTaken, RebuildStripe, RebuildEnded}
use Rattle.history.specs.World.{World, until, contents_at, reading_at, opening_list}
use Rattle.history.specs.Stands.{stands}
use Rattle.history.specs.Flat.{is_same_call, rest_of_call, last_of, visible_of}
use Rattle.history.specs.Transfers.{last_end_from, IsReadOver, EndsWithinOver, IsTornOver}
use Rattle.history.specs.Legal.{call_end, known_left, IsLost, IsStep, IsRefusedRight, IsLegalEvent, AreLegal}
use Rattle.history.specs.Losses.{is_resync_end, is_unsynced}
use Rattle.history.specs.Reshaped.{AreReshaped, is_done, is_planned, behind, comes_with_finish, comes_with_step, plans_after, IsFinishedRight, ArePlansDone, open_plans}
use Rattle.history.specs.Growing.{grown}
use Rattle.history.specs.OneShape.{ShapeOpening, IsFoundAs, opening_in, is_resyncing, IsIdleStep, keeps_shape, keeps_shape_event, KeepShape, IsOneShapeLost, IsOneShapeRefusal, IsOneShapeEvent, AreOneShape, OneShapeHistoriesAreLegal, is_used_in}
use Rattle.history.proofs.OneShapeGone.{keep-both, after-gone, after-count, same-level}

-- ---- where the entries of a call end

pub last-snoc : (xs : List Entry) (e : Entry) → last_of (xs ++ e ∷ []) ≡ Some e
last-snoc [] e = refl
last-snoc (x ∷ xs) e = ap (λ (o : Option Entry). Some (unwrap_or o x)) (last-snoc xs e)

end-snoc : (first : ℕ) (xs : List Entry) (e : Entry) → last_end_from first (xs ++ e ∷ []) ≡ e.end
end-snoc first xs e = ap (λ (o : Option Entry). option_map_or (λ e. e.end) o first) (last-snoc xs e)

call_end-bounds : (opening : ShapeOpening) (ops : ℕ) (before : List Entry) (of e : Entry) (xs : List Entry) → e.end ≤ ops → AreOneShape opening ops (before ++ e ∷ []) xs
    → (e.end ≤ call_end e (rest_of_call of xs)) × (call_end e (rest_of_call of xs) ≤ ops)
call_end-bounds opening ops before of e [] within are = (omega arith, within)
call_end-bounds opening ops before of e (x ∷ xs) within are =
    by (is_same_call of x) (call_end-bounds opening ops (before ++ e ∷ []) of x xs are.0.timed.within are.1)
  where
    by : (b : Bool) → (x.end ≤ call_end x (rest_of_call of xs)) × (call_end x (rest_of_call of xs) ≤ ops)
        → (e.end ≤ call_end e (cond b (x ∷ rest_of_call of xs) [])) × (call_end e (cond b (x ∷ rest_of_call of xs) []) ≤ ops)
    by true rest =
        let rises : last_end_from opening.first (before ++ e ∷ []) ≤ x.end = are.0.timed.rises in
        let at : last_end_from opening.first (before ++ e ∷ []) ≡ e.end = end-snoc opening.first before e in
        (omega (arith, rises, at, rest.0), rest.1)
    by false rest = (omega arith, within)

-- ---- the bank at the opening

-- another bank in the same scope, and with the same contents at the opening
module _ (world : World) (start : Contents) (tape : List Operation) (same : contents start tape world.first ≡ contents_at world world.first) where
  abbrev other : World
  other = record { start = start; tape = tape; scope = world.scope; first = world.first }

  reading-other : reading_at other world.first ≡ reading_at world world.first
  unfolding reading_at
  reading-other = ap (reading world.scope) same

  list-other : opening_list other ≡ opening_list world
  unfolding opening_list
  list-other = ap (stands world.scope) same

  found-other : (opening : ShapeOpening) → IsFoundAs world opening → IsFoundAs other opening
  found-other opening found = record {
    list = found.list ∙ sym list-other;
    first = found.first;
    tolerance = found.tolerance ∙ ap (λ (r : Option Reading). tolerance_of (option_map_or (λ r. r.newest.level) r 5)) (sym reading-other);
    dirty = found.dirty ∙ ap (λ (r : Option Reading). option_map_or (λ r. not (is_clean r.newest)) r false) (sym reading-other);
    missing = λ role was. subst (λ (r : Option Reading). MatchOption r ⊥ (λ r. (role < role_count r.newest) × IsFalse (is_whole (role_state r role)))) (sym reading-other) (found.missing role was);
  }

  opening-other : opening_in other ≡ opening_in world
  opening-other = ap₂ (λ (l : List Sector) (r : Option Reading). record {
    list = l;
    first = world.first;
    disks = option_map_or (λ r. role_count r.newest) r 0;
    tolerance = tolerance_of (option_map_or (λ r. r.newest.level) r 5);
    dirty = option_map_or (λ r. not (is_clean r.newest)) r false;
    missing = λ role. option_map_or (λ r. nat_lt role (role_count r.newest) && not (is_whole (role_state r role))) r false;
    slots = world.scope.sizes.slots;
    sectors = world.scope.sizes.sectors;
    backup = world.scope.backup;
    used = λ slot. option_map_or (λ r. is_used_in r slot) r false;
  }) list-other reading-other

-- seen from a later mark
module _ (world : World) (mark : ℕ) (late : world.first ≤ mark) where
  contents-until : contents_at (until mark world) world.first ≡ contents_at world world.first
  contents-until = ap (λ (ops : List Operation). λ s k. value_after s k (world.start s k) ops) (take-take world.first mark world.tape late)

  pub list-until : opening_list (until mark world) ≡ opening_list world
  list-until = list-other world world.start (take mark world.tape) contents-until

  pub found-until : (opening : ShapeOpening) → IsFoundAs world opening → IsFoundAs (until mark world) opening
  found-until = found-other world world.start (take mark world.tape) contents-until

-- with more operations behind
module _ (world : World) (more : List Operation) (within : world.first ≤ length world.tape) where
  contents-grown : contents_at (grown world more) world.first ≡ contents_at world world.first
  contents-grown = λ i slot at. contents-earlier world.start world.tape more world.first slot at within i

  pub opening-grown : opening_in (grown world more) ≡ opening_in world
  opening-grown = opening-other world world.start (world.tape ++ more) contents-grown

-- a bank is as its opening is found in it
pub found-in : (world : World) → IsFoundAs world (opening_in world)
found-in world = record {
  list = refl;
  first = refl;
  tolerance = refl;
  dirty = refl;
  missing = λ role was. by role (reading_at world world.first) was;
}
  where
    parts : (a b : Bool) → (a && not b) ≡ true → (a ≡ true) × (b ≡ false)
    parts true false e = (refl, refl)
    parts true true e = absurd (cc)
    parts false b e = absurd (cc)

    by : (role : ℕ) (found : Option Reading) → option_map_or (λ r. nat_lt role (role_count r.newest) && not (is_whole (role_state r role))) found false ≡ true
        → MatchOption found ⊥ (λ r. (role < role_count r.newest) × IsFalse (is_whole (role_state r role)))
    by role None was = absurd (cc)
    by role (Some r) was =
        let both : (nat_lt role (role_count r.newest) ≡ true) × (is_whole (role_state r role) ≡ false) = parts (nat_lt role (role_count r.newest)) (is_whole (role_state r role)) was in
        (ltb-true role (role_count r.newest) both.0, both.1)

-- ---- the entries

-- such a step neither begins a reshape nor takes a level over
idle-keeps : (kind : StepKind) → IsIdleStep kind → keeps_shape kind ≡ true
idle-keeps ResyncStripe is = refl
idle-keeps ResyncEnded is = refl
idle-keeps RebuildTaken is = refl
idle-keeps RebuildStripe is = refl
idle-keeps RebuildEnded is = refl
idle-keeps kind is = absurd is

-- no event of such a history does
pub event-keeps : (opening : ShapeOpening) (before : List Entry) (e : Entry) (rest : List Entry) (event : Event)
    → IsOneShapeEvent opening before e rest event → keeps_shape_event event ≡ true
event-keeps opening before e rest (Read at body) is = refl
event-keeps opening before e rest (Wrote at body) is = refl
event-keeps opening before e rest (Torn at body) is = refl
event-keeps opening before e rest Flushed is = refl
event-keeps opening before e rest (Lost role cause) is = refl
event-keeps opening before e rest (SpareLost slot) is = refl
event-keeps opening before e rest (Rebuilt role) is = refl
event-keeps opening before e rest (Added slot) is = refl
event-keeps opening before e rest (Failed role) is = refl
event-keeps opening before e rest (Step kind left) is = idle-keeps kind is.0
event-keeps opening before e rest (Stepped done left ended) is = refl
event-keeps opening before e rest (Shown status) is = refl
event-keeps opening before e rest Stopped is = refl
event-keeps opening before e rest Halted is = refl
event-keeps opening before e rest (Refused refusal) is = refl
event-keeps opening before e rest event is = absurd is

-- the opening says what is unsynced
pub unsynced-resyncing : (world : World) (opening : ShapeOpening) (before : List Entry) → IsFoundAs world opening → is_unsynced world before ≡ is_resyncing opening before
unsynced-resyncing world opening before found = ap (λ b. b && not (list_any (λ e. is_resync_end e.event) before)) (sym found.dirty)

-- none of these steps is a free one
legal_step : (world : World) (before : List Entry) (e : Entry) (rest : List Entry) (kind : StepKind) (left : ℕ)
    → IsIdleStep kind → IfSome (known_left before e rest) (λ n. left + 1 ≡ n) → IsStep world before e rest kind left
legal_step world before e rest ResyncStripe left is lowers = lowers
legal_step world before e rest ResyncEnded left is lowers = lowers
legal_step world before e rest RebuildTaken left is lowers = lowers
legal_step world before e rest RebuildStripe left is lowers = lowers
legal_step world before e rest RebuildEnded left is lowers = lowers
legal_step world before e rest kind left is lowers = absurd is

module _ (world : World) (opening : ShapeOpening) (found : IsFoundAs world opening) (before : List Entry) (keep : KeepShape before) where
  legal_loss : (e : Entry) (rest : List Entry) (role : ℕ) (cause : LostCause) → IsOneShapeLost opening before e rest role cause → IsLost world before e rest role cause
  legal_loss e rest role Absent is = record { opening = is.caller; number = is.number; first = is.stands_first; missing = found.missing role is.was_missing }
  legal_loss e rest role Recovering is = record { opening = is.caller; number = is.number; first = is.stands_first; missing = found.missing role is.was_missing }
  legal_loss e rest role Command is = is
  legal_loss e rest role Fault is = tt

  legal_refusal : (refusal : Refusal) → IsOneShapeRefusal opening before refusal → IsRefusedRight world before refusal
  legal_refusal (PastEnd visible) is = is ∙ ap (λ l. visible_of (length l) before) found.list
  legal_refusal (TooManyMissing count tolerance) is = record {
    above = is.above;
    gone = let same = after-count world before keep in omega (arith, same, is.lost);
    tolerated = is.tolerated ∙ found.tolerance ∙ ap tolerance_of (sym (same-level world before keep));
  }
  legal_refusal (NotResynced role) is = (after-gone world role before keep ∙ is.0, unsynced-resyncing world opening before found ∙ is.1)
  legal_refusal refusal is = tt

  legal_end : (ended : Option Refusal) → IfSome ended (IsOneShapeRefusal opening before) → IfSome ended (IsRefusedRight world before)
  legal_end None is = tt
  legal_end (Some refusal) is = legal_refusal refusal is

  legal_event : (e : Entry) (rest : List Entry) (event : Event) → IsOneShapeEvent opening before e rest event → IsLegalEvent world before e rest event
  legal_event e rest (Read at body) is = subst (λ l. IsReadOver l before at body) found.list is
  legal_event e rest (Wrote at body) is = subst (λ l. EndsWithinOver l before at body) found.list is
  legal_event e rest (Torn at body) is = subst (λ l. IsTornOver l before at body rest) found.list is
  legal_event e rest Flushed is = tt
  legal_event e rest (Lost role cause) is = legal_loss e rest role cause is
  legal_event e rest (SpareLost slot) is = tt
  legal_event e rest (Rebuilt role) is = tt
  legal_event e rest (Added slot) is = tt
  legal_event e rest (Failed role) is = is
  legal_event e rest (Step kind left) is = legal_step world before e rest kind left is.0 is.1
  legal_event e rest (Stepped done left ended) is = (is.0.0, legal_end ended is.1)
  legal_event e rest (Shown status) is = is.0
  legal_event e rest Stopped is = tt
  legal_event e rest Halted is = tt
  legal_event e rest (Refused refusal) is = legal_refusal refusal is
  legal_event e rest event is = absurd is

legal_entries : (world : World) (opening : ShapeOpening) (before xs : List Entry) → IsFoundAs world opening
    → world.first ≤ last_end_from opening.first before → KeepShape before → AreOneShape opening (length world.tape) before xs → AreLegal world before xs
legal_entries world opening before [] found low keep are = tt
legal_entries world opening before (e ∷ xs) found low keep are =
    let bounds : (e.end ≤ call_end e (rest_of_call e xs)) × (call_end e (rest_of_call e xs) ≤ length world.tape) =
    call_end-bounds opening (length world.tape) before e e xs are.0.timed.within are.1 in
    let rises : last_end_from opening.first before ≤ e.end = are.0.timed.rises in
    let late : world.first ≤ call_end e (rest_of_call e xs) = omega (arith, low, rises, bounds.0) in
    let long : length (take (call_end e (rest_of_call e xs)) world.tape) ≡ call_end e (rest_of_call e xs) = length-take-le (call_end e (rest_of_call e xs)) world.tape bounds.1 in
    let keeps : keeps_shape_event e.event ≡ true = event-keeps opening before e (rest_of_call e xs) e.event are.0.event in (
      record {
        numbered = are.0.numbered;
        timed = record { rises = subst (λ n. last_end_from n before ≤ e.end) found.first rises; within = rw long bounds.0 };
        inner = are.0.inner;
        opening = are.0.caller;
        event = legal_event (until (call_end e (rest_of_call e xs)) world) opening (found-until world (call_end e (rest_of_call e xs)) late opening found)
            before keep e (rest_of_call e xs) e.event are.0.event;
      },
      legal_entries world opening (before ++ e ∷ []) xs found (rw (end-snoc opening.first before e) (omega (arith, low, rises)))
          (keep-both before (e ∷ []) keep (ap (λ b. b && true) keeps)) are.1,
    )

-- ---- no reshape

-- none of these steps is a finish
step-finishes : (world : World) (before : List Entry) (e : Entry) (behind : List Entry) (kind : StepKind) (left : ℕ)
    → IsIdleStep kind → IsFinishedRight world before e behind (Step kind left)
step-finishes world before e behind ResyncStripe left is = tt
step-finishes world before e behind ResyncEnded left is = tt
step-finishes world before e behind RebuildTaken left is = tt
step-finishes world before e behind RebuildStripe left is = tt
step-finishes world before e behind RebuildEnded left is = tt
step-finishes world before e behind kind left is = absurd is

not_finished : (world : World) (opening : ShapeOpening) (before : List Entry) (e : Entry) (rest behind : List Entry) (event : Event)
    → IsOneShapeEvent opening before e rest event → IsFinishedRight world before e behind event × (is_planned event ≡ false)
not_finished world opening before e rest behind (Read at body) is = (tt, refl)
not_finished world opening before e rest behind (Wrote at body) is = (tt, refl)
not_finished world opening before e rest behind (Torn at body) is = (tt, refl)
not_finished world opening before e rest behind Flushed is = (tt, refl)
not_finished world opening before e rest behind (Lost role cause) is = (tt, refl)
not_finished world opening before e rest behind (SpareLost slot) is = (tt, refl)
not_finished world opening before e rest behind (Rebuilt role) is = (tt, refl)
not_finished world opening before e rest behind (Added slot) is = (tt, refl)
not_finished world opening before e rest behind (Failed role) is = (tt, refl)
not_finished world opening before e rest behind (Step kind left) is = (step-finishes world before e behind kind left is.0, refl)
not_finished world opening before e rest behind (Stepped done left ended) is = (tt, refl)
not_finished world opening before e rest behind (Shown status) is = (tt, refl)
not_finished world opening before e rest behind Stopped is = (tt, refl)
not_finished world opening before e rest behind Halted is = (tt, refl)
not_finished world opening before e rest behind (Refused refusal) is = (tt, refl)
not_finished world opening before e rest behind event is = absurd is

-- no plan is made
plans-none : (before : List Entry) (e : Entry) → open_plans before ≡ [] → is_planned e.event ≡ false → open_plans (before ++ e ∷ []) ≡ []
plans-none before e none unplanned = fold-snoc [] before ∙ ap (λ (plans : List Entry). plans_after plans e) none ∙ by (is_done e.event) (is_planned e.event) unplanned
  where
    fold-snoc : (plans before : List Entry) → fold plans_after plans (before ++ e ∷ []) ≡ plans_after (fold plans_after plans before) e
    fold-snoc plans [] = refl
    fold-snoc plans (x ∷ before) = fold-snoc (plans_after plans x) before

    by : (done planned : Bool) → planned ≡ false → cond done [] (cond planned (e ∷ []) []) ≡ []
    by true planned is = refl
    by false true is = absurd (cc)
    by false false is = refl

plans-done : (world : World) (before : List Entry) (e : Entry) (rest : List Entry) (b : Bool) → open_plans before ≡ [] → OnTrue b (ArePlansDone world before e rest (open_plans before))
plans-done world before e rest true none = subst (λ (plans : List Entry). ArePlansDone world before e rest plans) (sym none) tt
plans-done world before e rest false none = tt

reshaped_entries : (world : World) (opening : ShapeOpening) (ops : ℕ) (before xs : List Entry) → open_plans before ≡ [] → AreOneShape opening ops before xs → AreReshaped world before xs
reshaped_entries world opening ops before [] unplanned are = tt
reshaped_entries world opening ops before (e ∷ xs) unplanned are =
    let none : IsFinishedRight (until e.end world) before e (behind comes_with_finish e xs) e.event × (is_planned e.event ≡ false) =
    not_finished (until e.end world) opening before e (rest_of_call e xs) (behind comes_with_finish e xs) e.event are.0.event in (
      record {
        finished = none.0;
        plans = plans-done (until e.end world) before e (behind comes_with_step e xs) (is_done e.event) unplanned;
      },
      reshaped_entries world opening ops (before ++ e ∷ []) xs (plans-none before e unplanned none.1) are.1,
    )

pub one_shape-legal : OneShapeHistoriesAreLegal
one_shape-legal world opening entries found are = (
  legal_entries world opening [] entries found (rw (← found.first) (omega arith)) refl are,
  reshaped_entries world opening (length world.tape) [] entries refl are,
)
