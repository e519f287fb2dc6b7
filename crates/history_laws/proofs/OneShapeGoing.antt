-- How a legal history of an array that keeps its shape grows by more entries of a call that goes on.
use Rattle.std.proofs.Common.{◌≡◌, ℕ, ◌+◌, ◌==◌, ◌&&◌, ◌||◌, inl, inr, Bool, true, false, cond, Option, Some, None, List, [], ◌∷◌, ◌++◌, refl, sym, ◌∙◌, ap, subst, subst₂, arith, append_assoc, append-nil, unwrap_or}
use Rattle.std.proofs.lemmas.Bool.Decides.{nat_tests}
use Rattle.std.proofs.lemmas.List.Elements.{All-append, All-head, All-tail}
use Rattle.std.proofs.lemmas.List.Folds.{list_any-append}
use Rattle.std.specs.Prelude.{IfSome, IsTrue}
use Rattle.std.specs.List.{list_any, All}
use Rattle.history.specs.raid_types_the_Who.{Who}
use Rattle.history.specs.declared.events.Entry.{Entry}
use Rattle.history.specs.declared.events.Event.{Event}
use Rattle.history.specs.declared.events.Event.TheVariants.{Lost, SpareLost, Rebuilt, Step, Refused}
use Rattle.history.specs.declared.events.LostCause.TheVariants.{Fault}
use Rattle.history.specs.Flat.{is_same_call, rest_of_call, last_of, next_number}
use Rattle.history.specs.Legal.{GoesOn, IsNumbered, IsInnerOrLast, call_before, told_left, known_left, disturbs}
use Rattle.history.specs.Growing.{BeginAnother}
use Rattle.history.specs.OneShape.{ShapeOpening, IsOneShapeEvent, IsOneShapeEntry, AreOneShape, GoesOnBehind, IsOfCall}
use Rattle.history_laws.specs.OneShapeGrowth.{OpenCallsAreNumbered, OneShapeHistoriesGoOn}
use Rattle.history.proofs.LegalLaws.{rest-apart, another-behind}
use Rattle.history_laws.proofs.OneShapeGrowing.{one_shape-later, next-begins, none-another}

-- ---- a call that is open

-- the entry is of the call, and may stand in it before others
abbrev GoesOnIn : Who → Entry → Type 0
GoesOnIn who e = IsOfCall who e × GoesOnBehind e.event

-- ---- numbers

same-call : (who : Who) (a b : Entry) → IsOfCall who a → IsOfCall who b → is_same_call a b ≡ true
same-call who a b mine yours = same a.caller b.caller a.number b.number (mine.0 ∙ sym yours.0) (mine.1 ∙ sym yours.1)
  where
    same : (c d n m : ℕ) → c ≡ d → n ≡ m → ((c == d) && (n == m)) ≡ true
    same c d n m callers numbers = grind (arith, nat_tests, callers, numbers)

-- the last entry behind others is of the call, where all of those are
last-own : (who : Who) (before : List Entry) (x : Entry) (call : List Entry) (e : Entry) → All (GoesOnIn who) (x ∷ call) → IsOfCall who e
    → GoesOn (last_of (before ++ x ∷ call)) e
last-own who [] x [] e own is = same-call who x e (All-head (GoesOnIn who) x [] own).0 is
last-own who [] x (y ∷ call) e own is = by (last_of call) (last-own who [] y call e (All-tail (GoesOnIn who) x (y ∷ call) own) is)
  where
    by : (last : Option Entry) → GoesOn (Some (unwrap_or last y)) e → GoesOn (Some (unwrap_or (Some (unwrap_or last y)) x)) e
    by last goes = goes
last-own who (b ∷ before) x call e own is = by (last_of (before ++ x ∷ call)) (last-own who before x call e own is)
  where
    by : (last : Option Entry) → GoesOn last e → GoesOn (Some (unwrap_or last b)) e
    by None goes = absurd goes
    by (Some l) goes = goes

-- an entry of a call that is open is numbered rightly
pub open-numbered : OpenCallsAreNumbered
open-numbered entries who e goes is = by goes.call goes.is goes.own
  where
    begins : (l : List Entry) → l ≡ goes.before → e.number ≡ next_number e.caller l
    begins l same = is.1 ∙ goes.number ∙ subst₂ (λ c (l : List Entry). next_number who.caller goes.before ≡ next_number c l) (sym is.0) (sym same) refl

    by : (call : List Entry) → entries ≡ goes.before ++ call → All (GoesOnIn who) call → IsNumbered entries e
    by [] same own = inr (begins entries (same ∙ append-nil goes.before))
    by (x ∷ call) same own = inl (subst (λ (l : List Entry). GoesOn (last_of l) e) (sym same) (last-own who goes.before x call e own is))

-- the entries of a call that begins here begin another one than that before it
own-begins : (who : Who) (before added : List Entry) → who.number ≡ next_number who.caller before → All (λ e. IsOfCall who e) added → BeginAnother (last_of before) added
own-begins who before [] number own = none-another (last_of before)
own-begins who before (e ∷ added) number own =
    let first : IsOfCall who e = All-head (λ e. IsOfCall who e) e added own in
    next-begins before e added (first.1 ∙ number ∙ ap (λ c. next_number c before) (sym first.0))

-- ---- an entry with more entries of its call behind it

-- what stands behind an entry in its call stands there with more entries too
rest-longer : (p : Entry → Bool) (e : Entry) (xs added : List Entry) → IsTrue (list_any p (rest_of_call e xs)) → IsTrue (list_any p (rest_of_call e (xs ++ added)))
rest-longer p e [] added found = absurd (cc)
rest-longer p e (x ∷ xs) added found = by (is_same_call e x) (p x) (rest-longer p e xs added) found
  where
    by : (same here : Bool) → (IsTrue (list_any p (rest_of_call e xs)) → IsTrue (list_any p (rest_of_call e (xs ++ added))))
        → IsTrue (list_any p (cond same (x ∷ rest_of_call e xs) [])) → IsTrue (list_any p (cond same (x ∷ rest_of_call e (xs ++ added)) []))
    by true here longer found = either (p x) longer found
      where
        either : (b : Bool) → (IsTrue (list_any p (rest_of_call e xs)) → IsTrue (list_any p (rest_of_call e (xs ++ added))))
            → IsTrue (b || list_any p (rest_of_call e xs)) → IsTrue (b || list_any p (rest_of_call e (xs ++ added)))
        either true longer found = refl
        either false longer found = longer found
    by false here longer found = absurd (cc)

-- what is left is known with more entries behind only where it was known before
known-longer : (before : List Entry) (e : Entry) (xs added : List Entry) (P : ℕ → Type 0) → IfSome (known_left before e (rest_of_call e xs)) P → IfSome (known_left before e (rest_of_call e (xs ++ added))) P
known-longer before e xs added P was =
    subst (λ (b : Bool). IfSome (cond b None (told_left before)) P) (sym (list_any-append (λ e. disturbs e.event) (call_before before e) (rest_of_call e (xs ++ added))))
    (by (list_any (λ e. disturbs e.event) (call_before before e)) (list_any (λ e. disturbs e.event) (rest_of_call e xs)) (list_any (λ e. disturbs e.event) (rest_of_call e (xs ++ added)))
    (rest-longer (λ e. disturbs e.event) e xs added)
    (subst (λ (b : Bool). IfSome (cond b None (told_left before)) P) (list_any-append (λ e. disturbs e.event) (call_before before e) (rest_of_call e xs)) was))
  where
    by : (a b c : Bool) → (b ≡ true → c ≡ true) → IfSome (cond (a || b) None (told_left before)) P → IfSome (cond (a || c) None (told_left before)) P
    by true b c more was = tt
    by false true c more was = subst (λ (d : Bool). IfSome (cond d None (told_left before)) P) (sym (more refl)) tt
    by false false true more was = tt
    by false false false more was = was

event-longer : (opening : ShapeOpening) (before : List Entry) (e : Entry) (xs added : List Entry) (event : Event) → GoesOnBehind event
    → IsOneShapeEvent opening before e (rest_of_call e xs) event → IsOneShapeEvent opening before e (rest_of_call e (xs ++ added)) event
event-longer opening before e xs added (Step kind left) goes is = (is.0, known-longer before e xs added (λ n. left + 1 ≡ n) is.1)
event-longer opening before e xs added (Lost role Fault) goes is = tt
event-longer opening before e xs added (SpareLost slot) goes is = tt
event-longer opening before e xs added (Rebuilt role) goes is = tt
event-longer opening before e xs added (Refused refusal) goes is = is
event-longer opening before e xs added event goes is = absurd goes

inner-longer : (event : Event) (rest : List Entry) → GoesOnBehind event → IsInnerOrLast event rest
inner-longer event [] goes = tt
inner-longer (Step kind left) (x ∷ rest) goes = tt
inner-longer (Lost role Fault) (x ∷ rest) goes = tt
inner-longer (SpareLost slot) (x ∷ rest) goes = tt
inner-longer (Rebuilt role) (x ∷ rest) goes = tt
inner-longer (Refused refusal) (x ∷ rest) goes = tt
inner-longer event (x ∷ rest) goes = absurd goes

-- ---- the history

-- entries that may stand before others, with more behind them
call-longer : (opening : ShapeOpening) (ops : ℕ) (who : Who) (before call added : List Entry) → All (GoesOnIn who) call
    → AreOneShape opening ops before call → AreOneShape opening ops (before ++ call) added → AreOneShape opening ops before (call ++ added)
call-longer opening ops who before [] added own are behind = subst (λ (l : List Entry). AreOneShape opening ops l added) (append-nil before) behind
call-longer opening ops who before (e ∷ call) added own are behind =
    let first : GoesOnIn who e = All-head (GoesOnIn who) e call own in (
      record {
        numbered = are.0.numbered;
        timed = are.0.timed;
        inner = inner-longer e.event (rest_of_call e (call ++ added)) first.1;
        caller = are.0.caller;
        event = event-longer opening before e call added e.event first.1 are.0.event;
      },
      call-longer opening ops who (before ++ e ∷ []) call added (All-tail (GoesOnIn who) e call own) are.1
          (subst (λ (l : List Entry). AreOneShape opening ops l added) (sym (append_assoc before (e ∷ []) call)) behind),
    )

-- entries before another call stay legal with another such call in its place
other-behind : (opening : ShapeOpening) (ops : ℕ) (before xs old new : List Entry) → BeginAnother (last_of xs) old → BeginAnother (last_of xs) new
    → (AreOneShape opening ops (before ++ xs) old → AreOneShape opening ops (before ++ xs) new) → AreOneShape opening ops before (xs ++ old) → AreOneShape opening ops before (xs ++ new)
other-behind opening ops before [] old new begin begins change are =
    subst (λ (l : List Entry). AreOneShape opening ops l new) (append-nil before) (change (subst (λ (l : List Entry). AreOneShape opening ops l old) (sym (append-nil before)) are))
other-behind opening ops before (e ∷ xs) old new begin begins change are = (
  subst (λ (rest : List Entry). IsOneShapeEntry opening ops before e rest) (rest-apart e xs old begin ∙ sym (rest-apart e xs new begins)) are.0,
  other-behind opening ops (before ++ e ∷ []) xs old new (another-behind e xs old begin) (another-behind e xs new begins)
      (subst (λ (l : List Entry). AreOneShape opening ops l old → AreOneShape opening ops l new) (sym (append_assoc before (e ∷ []) xs)) change) are.1,
)

pub going-on : OneShapeHistoriesGoOn
going-on opening ops more entries added who le goes own are behind =
    subst (λ (l : List Entry). AreOneShape opening more [] l) (sym (append_assoc goes.before goes.call added) ∙ ap (λ (l : List Entry). l ++ added) (sym goes.is))
    (other-behind opening more [] goes.before goes.call (goes.call ++ added)
    (own-begins who goes.before goes.call goes.number mine)
    (own-begins who goes.before (goes.call ++ added) goes.number (All-append (λ e. IsOfCall who e) goes.call added mine own))
    (λ call. call-longer opening more who goes.before goes.call added goes.own call (subst (λ (l : List Entry). AreOneShape opening more l added) goes.is behind))
    (one_shape-later opening ops more [] (goes.before ++ goes.call) le (subst (λ (l : List Entry). AreOneShape opening ops [] l) goes.is are)))
  where
    mine : All (λ e. IsOfCall who e) goes.call
    mine = λ k d lt. (goes.own k d lt).0
