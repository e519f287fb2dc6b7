-- How a legal history of an array that keeps its shape grows by a call.
use Rattle.std.proofs.Common.{◌≡◌, ℕ, ◌+◌, ◌<◌, ◌≤◌, ◌==◌, ◌&&◌, ◌||◌, inl, inr, Bool, true, false, cond, Option, Some, List, [], ◌∷◌, ◌++◌, refl, sym, ◌∙◌, ap, ap₂, subst, arith, append_assoc, append-nil, MatchBool, MatchOption}
use Rattle.std.proofs.lemmas.Bool.Decides.{nat_tests}
use Rattle.std.proofs.lemmas.List.{reverse-append}
use Rattle.std.proofs.lemmas.List.Folds.{list_any-append, list_all-append}
use Rattle.std.specs.Prelude.{fold, map, reverse, not, IsTrue, IsFalse, ⊤}
use Rattle.std.specs.Option.{option_map_or}
use Rattle.std.specs.List.{list_any, list_all}
use Rattle.history.specs.raid_types_Search.{count_below}
use Rattle.history.specs.raid_types_the_Who.{Who}
use Rattle.history.specs.declared.events.Entry.{Entry}
use Rattle.history.specs.declared.events.Event.{Event}
use Rattle.history.specs.declared.events.Event.TheVariants.{Lost, SpareLost, Failed}
use Rattle.history.specs.declared.events.LostCause.{LostCause}
use Rattle.history.specs.declared.events.LostCause.TheVariants.{Absent, Recovering, Command, Fault}
use Rattle.history.specs.Flat.{is_same_call, rest_of_call, last_of, next_number, number_after}
use Rattle.history.specs.Transfers.{last_end_from}
use Rattle.history.specs.Legal.{IsNumbered, GoesOn, MayBeInner, IsInnerOrLast, IsOfOpening, is_lost_by_command, IsFailed, IsFailedByCall, call_before}
use Rattle.history.specs.Growing.{BeginAnother}
use Rattle.history.specs.Plain.{entries_of}
use Rattle.history.specs.OneShape.{ShapeOpening, gives_role, is_gone_now, AreTooManyLost, IsOneShapeEvent, IsOneShapeEntry, AreOneShape, IsOneShapeLegal}
use Rattle.history_laws.specs.OneShapeGrowth.{OneShapeHistoriesGrow}
use Rattle.history.proofs.LegalLaws.{rest-apart, another-behind}
use Rattle.history.proofs.GoneCounts.{few_missing}
use Rattle.history.proofs.OneShapeGone.{is_gone-both}
use Rattle.history.proofs.OneShapeLegal.{last-snoc}

-- ---- more operations, and another call

pub one_shape-later : (opening : ShapeOpening) (ops more : ℕ) (before entries : List Entry) → ops ≤ more → AreOneShape opening ops before entries → AreOneShape opening more before entries
one_shape-later opening ops more before [] le are = tt
one_shape-later opening ops more before (e ∷ entries) le are = (
  record {
    numbered = are.0.numbered;
    timed = record { rises = are.0.timed.rises; within = omega (arith, are.0.timed.within, le) };
    inner = are.0.inner;
    caller = are.0.caller;
    event = are.0.event;
  },
  one_shape-later opening ops more (before ++ e ∷ []) entries le are.1,
)

pub one_shape-add_up : (opening : ShapeOpening) (ops : ℕ) (before xs added : List Entry) → BeginAnother (last_of xs) added
    → AreOneShape opening ops before xs → AreOneShape opening ops (before ++ xs) added → AreOneShape opening ops before (xs ++ added)
one_shape-add_up opening ops before [] added begin are behind = subst (λ (l : List Entry). AreOneShape opening ops l added) (append-nil before) behind
one_shape-add_up opening ops before (e ∷ xs) added begin are behind = (
  subst (λ (rest : List Entry). IsOneShapeEntry opening ops before e rest) (sym (rest-apart e xs added begin)) are.0,
  one_shape-add_up opening ops (before ++ e ∷ []) xs added (another-behind e xs added begin) are.1
      (subst (λ (l : List Entry). AreOneShape opening ops l added) (sym (append_assoc before (e ∷ []) xs)) behind),
)

pub one_shape-grow : OneShapeHistoriesGrow
one_shape-grow opening ops more entries added le begin are behind =
    one_shape-add_up opening more [] entries added begin (one_shape-later opening ops more [] entries le are) behind

-- ---- one call

-- one entry of a call
abbrev pub one : Who → ℕ → Event → Entry
one who end event = record { caller = who.caller; number = who.number; end = end; event = event }

same_call : (who : Who) (end : ℕ) (a b : Event) → is_same_call (one who end a) (one who end b) ≡ true
same_call who end a b = grind (arith, nat_tests)

-- all of a call's entries are of the call
rest_whole : (who : Who) (end : ℕ) (event : Event) (events : List Event) → rest_of_call (one who end event) (entries_of who end events) ≡ entries_of who end events
rest_whole who end event [] = refl
rest_whole who end event (next ∷ events) =
    ap (λ (b : Bool). cond b (one who end next ∷ rest_of_call (one who end event) (entries_of who end events)) []) (same_call who end event next)
    ∙ ap (λ (l : List Entry). one who end next ∷ l) (rest_whole who end event events)

-- the entries of two parts of a call
pub entries-both : (who : Who) (end : ℕ) (xs ys : List Event) → entries_of who end (xs ++ ys) ≡ entries_of who end xs ++ entries_of who end ys
entries-both who end [] ys = refl
entries-both who end (x ∷ xs) ys = ap (λ (l : List Entry). one who end x ∷ l) (entries-both who end xs ys)

-- the events of a call, where these entries stand before it
abbrev pub IsOneShapeCall : ShapeOpening → List Entry → Who → ℕ → List Event → Type 0
IsOneShapeCall opening before who end [] = Unit {0}
IsOneShapeCall opening before who end (event ∷ events) =
    IsOneShapeEvent opening before (one who end event) (entries_of who end events) event
    × IsInnerOrLast event (entries_of who end events)
    × IsOneShapeCall opening (before ++ one who end event ∷ []) who end events

-- each event of the call is one that its caller may enter
abbrev pub MayEnter : ℕ → List Event → Type 0
MayEnter caller [] = Unit {0}
MayEnter caller (event ∷ events) = MatchBool (caller == 254) (IsOfOpening event) ⊤ × MayEnter caller events

-- all but the opening may enter any
pub others-enter : (caller : ℕ) (events : List Event) → IsFalse (caller == 254) → MayEnter caller events
others-enter caller [] other = tt
others-enter caller (event ∷ events) other = (by (caller == 254) other, others-enter caller events other)
  where
    by : (b : Bool) → b ≡ false → MatchBool b (IsOfOpening event) ⊤
    by true e = absurd (cc)
    by false e = tt

pub call-one_shape : (opening : ShapeOpening) (ops : ℕ) (before : List Entry) (who : Who) (end : ℕ) (events : List Event) → MayEnter who.caller events
    → ((event : Event) → IsNumbered before (one who end event)) → last_end_from opening.first before ≤ end → end ≤ ops → IsOneShapeCall opening before who end events
    → AreOneShape opening ops before (entries_of who end events)
call-one_shape opening ops before who end [] enters numbered rises within call = tt
call-one_shape opening ops before who end (event ∷ events) enters numbered rises within call = (
  record {
    numbered = numbered event;
    timed = record { rises = rises; within = within };
    inner = subst (λ (rest : List Entry). IsInnerOrLast event rest) (sym (rest_whole who end event events)) call.1;
    caller = enters.0;
    event = subst (λ (rest : List Entry). IsOneShapeEvent opening before (one who end event) rest event) (sym (rest_whole who end event events)) call.0;
  },
  call-one_shape opening ops (before ++ one who end event ∷ []) who end events enters.1
      (λ next. inl (subst (λ (o : Option Entry). GoesOn o (one who end next)) (sym (last-snoc before (one who end event))) (same_call who end event next)))
      (let at : last_end_from opening.first (before ++ one who end event ∷ []) ≡ end = ap (λ (o : Option Entry). option_map_or (λ e. e.end) o opening.first) (last-snoc before (one who end event)) in omega (arith, at))
      within call.2,
)

-- the next number begins another call
begins-from : (entries : List Entry) (start : ℕ) (next : Entry) (added : List Entry)
    → next.number ≡ fold (number_after next.caller) start entries → BeginAnother (last_of entries) (next ∷ added)
begins-from [] start next added number = tt
begins-from (e ∷ []) start next added number = other e.caller e.number next.caller next.number start number
  where
    other : (c n caller n' start : ℕ) → n' ≡ (cond (c == caller) (n + 1) start) → ((c == caller) && (n == n')) ≡ false
    other c n caller n' start is = grind (arith, nat_tests, is)
begins-from (e ∷ x ∷ entries) start next added number = begins-from (x ∷ entries) (number_after next.caller start e) next added number

pub next-begins : (entries : List Entry) (next : Entry) (added : List Entry) → next.number ≡ next_number next.caller entries → BeginAnother (last_of entries) (next ∷ added)
next-begins entries next added number = begins-from entries 0 next added number

pub none-another : (last : Option Entry) → BeginAnother last []
none-another (Some last) = tt
none-another last = tt

-- where a call ended, the history ended
pub call-ends : (first : ℕ) (entries : List Entry) (who : Who) (end : ℕ) (event : Event) (events : List Event) → last_end_from first (entries ++ entries_of who end (event ∷ events)) ≡ end
call-ends first entries who end event [] = ap (λ (o : Option Entry). option_map_or (λ e. e.end) o first) (last-snoc entries (one who end event))
call-ends first entries who end event (next ∷ events) =
    ap (λ (l : List Entry). last_end_from first l) (sym (append_assoc entries (one who end event ∷ []) (entries_of who end (next ∷ events))))
    ∙ call-ends first (entries ++ one who end event ∷ []) who end next events

-- ---- losses

pub inner-of : (event : Event) (rest : List Entry) → MayBeInner event → IsInnerOrLast event rest
inner-of event [] may = tt
inner-of event (e ∷ rest) may = may

-- devices that failed
abbrev pub AreFaults : List Event → Type 0
AreFaults [] = ⊤
AreFaults (Lost role Fault ∷ events) = AreFaults events
AreFaults (SpareLost slot ∷ events) = AreFaults events
AreFaults (event ∷ events) = ⊥

-- they may stand before whatever else a call enters
pub call-faults : (opening : ShapeOpening) (before : List Entry) (who : Who) (end : ℕ) (xs tail : List Event) → AreFaults xs
    → IsOneShapeCall opening (before ++ entries_of who end xs) who end tail → IsOneShapeCall opening before who end (xs ++ tail)
call-faults opening before who end [] tail are call = subst (λ (l : List Entry). IsOneShapeCall opening l who end tail) (append-nil before) call
call-faults opening before who end (Lost role Fault ∷ xs) tail are call = (
  tt,
  inner-of (Lost role Fault) (entries_of who end (xs ++ tail)) tt,
  call-faults opening (before ++ one who end (Lost role Fault) ∷ []) who end xs tail are
      (subst (λ (l : List Entry). IsOneShapeCall opening l who end tail) (sym (append_assoc before (one who end (Lost role Fault) ∷ []) (entries_of who end xs))) call),
)
call-faults opening before who end (SpareLost slot ∷ xs) tail are call = (
  tt,
  inner-of (SpareLost slot) (entries_of who end (xs ++ tail)) tt,
  call-faults opening (before ++ one who end (SpareLost slot) ∷ []) who end xs tail are
      (subst (λ (l : List Entry). IsOneShapeCall opening l who end tail) (sym (append_assoc before (one who end (SpareLost slot) ∷ []) (entries_of who end xs))) call),
)
call-faults opening before who end (event ∷ xs) tail are call = absurd are

-- ---- a loss by command

any-reverse : (p : Entry → Bool) (xs : List Entry) → list_any p (reverse xs) ≡ list_any p xs
any-reverse p [] = refl
any-reverse p (x ∷ xs) =
    ap (λ (l : List Entry). list_any p l) (reverse-append (x ∷ []) xs) ∙ list_any-append p (reverse xs) (x ∷ [])
    ∙ ap (λ (b : Bool). b || (p x || false)) (any-reverse p xs) ∙ turned (list_any p xs) (p x)
  where
    turned : (a b : Bool) → (a || (b || false)) ≡ (b || a)
    turned true true = refl
    turned true false = refl
    turned false true = refl
    turned false false = refl

reverse-entries : (who : Who) (end : ℕ) (events : List Event) → reverse (entries_of who end events) ≡ entries_of who end (reverse events)
reverse-entries who end [] = refl
reverse-entries who end (x ∷ xs) =
    reverse-append (one who end x ∷ []) (entries_of who end xs) ∙ ap (λ (l : List Entry). l ++ one who end x ∷ []) (reverse-entries who end xs)
    ∙ sym (entries-both who end (reverse xs) (x ∷ [])) ∙ ap (entries_of who end) (sym (reverse-append (x ∷ []) xs))

rest-with : (who : Who) (end : ℕ) (event : Event) (events : List Event) (tail : List Entry)
    → rest_of_call (one who end event) (entries_of who end events ++ tail) ≡ entries_of who end events ++ rest_of_call (one who end event) tail
rest-with who end event [] tail = refl
rest-with who end event (next ∷ events) tail =
    ap (λ (b : Bool). cond b (one who end next ∷ rest_of_call (one who end event) (entries_of who end events ++ tail)) []) (same_call who end event next)
    ∙ ap (λ (l : List Entry). one who end next ∷ l) (rest-with who end event events tail)

-- what the call has entered so far stands before its next entry
pub found-before : (p : Entry → Bool) (old : List Entry) (who : Who) (end : ℕ) (event : Event) (events : List Event)
    → IsTrue (list_any p (entries_of who end events)) → IsTrue (list_any p (call_before (old ++ entries_of who end events) (one who end event)))
found-before p old who end event events found =
    ap (λ (l : List Entry). list_any p (rest_of_call (one who end event) l)) (reverse-append old (entries_of who end events) ∙ ap (λ (l : List Entry). l ++ reverse old) (reverse-entries who end events))
    ∙ ap (λ (l : List Entry). list_any p l) (rest-with who end event (reverse events) (reverse old))
    ∙ list_any-append p (entries_of who end (reverse events)) (rest_of_call (one who end event) (reverse old))
    ∙ ap (λ (b : Bool). b || list_any p (rest_of_call (one who end event) (reverse old)))
    (ap (λ (l : List Entry). list_any p l) (sym (reverse-entries who end events)) ∙ any-reverse p (entries_of who end events) ∙ found)

-- the call that loses a role by command: the loss, other losses before and behind it, and its answer
pub call-fails : (opening : ShapeOpening) (old : List Entry) (who : Who) (end role : ℕ) (xs ys : List Event) → AreFaults xs → AreFaults ys
    → IsOneShapeCall opening old who end (xs ++ Lost role Command ∷ (ys ++ Failed role ∷ []))
call-fails opening old who end role xs ys before behind =
    call-faults opening old who end xs (Lost role Command ∷ (ys ++ Failed role ∷ [])) before (
      last,
      inner-of (Lost role Command) (entries_of who end (ys ++ Failed role ∷ [])) tt,
      call-faults opening ((old ++ entries_of who end xs) ++ one who end (Lost role Command) ∷ []) who end ys (Failed role ∷ []) behind (failed, tt, tt),
    )
  where
    last : MatchOption (last_of (entries_of who end (ys ++ Failed role ∷ []))) ⊥ (λ last. IsFailed role last.event)
    last = subst (λ (o : Option Entry). MatchOption o ⊥ (λ last. IsFailed role last.event))
        (sym (ap (λ (l : List Entry). last_of l) (entries-both who end ys (Failed role ∷ [])) ∙ last-snoc (entries_of who end ys) (one who end (Failed role)))) refl

    itself : (role : ℕ) (more : Bool) → ((role == role) || more) ≡ true
    itself role more = grind (arith, nat_tests)

    failed : IsFailedByCall (((old ++ entries_of who end xs) ++ one who end (Lost role Command) ∷ []) ++ entries_of who end ys) (one who end (Failed role)) role
    failed = subst (λ (l : List Entry). IsFailedByCall l (one who end (Failed role)) role) (sym (append_assoc (old ++ entries_of who end xs) (one who end (Lost role Command) ∷ []) (entries_of who end ys)))
        (found-before (λ e. is_lost_by_command role e.event) (old ++ entries_of who end xs) who end (Failed role) (Lost role Command ∷ ys)
        (itself role (list_any (λ e. is_lost_by_command role e.event) (entries_of who end ys))))

-- ---- the losses that an opening found

abbrev pub IsMissingBy : ShapeOpening → ℕ → LostCause → Type 0
IsMissingBy opening role Absent = IsTrue (opening.missing role)
IsMissingBy opening role Recovering = IsTrue (opening.missing role)
IsMissingBy opening role cause = ⊥

-- each of these roles was missing at the opening
abbrev pub AreMissing : ShapeOpening → List (ℕ × LostCause) → Type 0
AreMissing opening [] = ⊤
AreMissing opening (loss ∷ found) = IsMissingBy opening loss.0 loss.1 × AreMissing opening found

abbrev pub loss_events : List (ℕ × LostCause) → List Event
loss_events found = map (λ loss. Lost loss.0 loss.1) found

module _ (opening : ShapeOpening) (who : Who) (end : ℕ) (caller : who.caller ≡ 254) (number : who.number ≡ 0) where
  found_call : (before : List Entry) (found : List (ℕ × LostCause)) → AreMissing opening found → IsTrue (list_all (λ e. e.caller == 254) before)
      → IsOneShapeCall opening before who end (loss_events found)
  found_call before [] missing first = tt
  found_call before (loss ∷ found) missing first = (
    is_found loss.0 loss.1 missing.0,
    inner-of (Lost loss.0 loss.1) (entries_of who end (loss_events found)) tt,
    found_call (before ++ one who end (Lost loss.0 loss.1) ∷ []) found missing.1
        (list_all-append (λ e. e.caller == 254) before (one who end (Lost loss.0 loss.1) ∷ []) ∙ ap₂ (λ a b. a && (b && true)) first (ap (λ c. c == 254) caller)),
  )
    where
      is_found : (role : ℕ) (cause : LostCause) → IsMissingBy opening role cause → IsOneShapeEvent opening before (one who end (Lost loss.0 loss.1)) (entries_of who end (loss_events found)) (Lost role cause)
      is_found role Absent was = record { caller = caller; number = number; stands_first = first; was_missing = was }
      is_found role Recovering was = record { caller = caller; number = number; stands_first = first; was_missing = was }
      is_found role cause was = absurd was

  found_enter : (found : List (ℕ × LostCause)) → AreMissing opening found → MayEnter who.caller (loss_events found)
  found_enter [] missing = tt
  found_enter (loss ∷ found) missing = (by (who.caller == 254) loss.0 loss.1 missing.0, found_enter found missing.1)
    where
      by : (b : Bool) (role : ℕ) (cause : LostCause) → IsMissingBy opening role cause → MatchBool b (IsOfOpening (Lost role cause)) ⊤
      by true role Absent was = tt
      by true role Recovering was = tt
      by true role cause was = absurd was
      by false role cause was = tt

  -- they are legal where they stand first
  pub found-legal : (ops : ℕ) (found : List (ℕ × LostCause)) → opening.first ≤ end → end ≤ ops → AreMissing opening found
      → IsOneShapeLegal opening ops (entries_of who end (loss_events found))
  found-legal ops found rises within missing =
      call-one_shape opening ops [] who end (loss_events found) (found_enter found missing) (λ event. inr number) rises within (found_call [] found missing refl)

-- ---- what is gone

-- what is gone is gone still, where no entry gives it back
pub gone-more : (role : ℕ) (entries added : List Entry) → IsFalse (list_any (λ e. gives_role role e.event) added) → IsTrue (is_gone_now entries role)
    → IsTrue (is_gone_now (entries ++ added) role)
gone-more role entries added none gone = is_gone-both entries added role ∙ ap₂ (λ a b. a && not b || is_gone_now added role) gone none

pub too_many_missing : (opening : ShapeOpening) (entries : List Entry) (disks : ℕ) (missing : ℕ → Bool) → disks ≤ 32
    → ((role : ℕ) → role < disks → missing role ≡ true → IsTrue (is_gone_now entries role)) → opening.tolerance < count_below disks missing
    → AreTooManyLost opening entries (count_below disks missing) opening.tolerance
too_many_missing opening entries disks missing few told above = record { above = above; lost = few_missing (is_gone_now entries) disks missing few told; tolerated = refl }
