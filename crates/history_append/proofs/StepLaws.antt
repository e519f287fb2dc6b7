-- The entries of a step of a resync, and of a call that may go on.
use Rattle.std.proofs.Common.{◌≡◌, ℕ, ◌+◌, ◌≤◌, ◌==◌, ◌||◌, Bool, true, false, cond, Option, Some, None, List, [], ◌∷◌, ◌++◌, length, refl, sym, ◌∙◌, ap, arith, append-nil}
use Rattle.std.specs.Prelude.{fold, IfSome, IsFalse, ⊤, IsTrue}
use Rattle.std.specs.List.{All, list_any}
use Rattle.std.proofs.lemmas.Bool.Decides.{nat_tests}
use Rattle.std.proofs.lemmas.List.Elements.{All-nil, All-cons, All-head, All-tail}
use Rattle.std.proofs.lemmas.List.Folds.{list_any-append}
use Rattle.std.proofs.lemmas.List.Sums.{fold-append}
use Rattle.history_laws.specs.raid_types_the_Who.{Who}
use Rattle.array_members.specs.history_the_Entry.{Entry}
use Rattle.array_members.specs.history_the_Event.{Event}
use Rattle.array_members.specs.history_the_Event_TheVariants.{Lost, SpareLost, Step}
use Rattle.array_members.specs.history_the_LostCause_TheVariants.{Fault}
use Rattle.array_members.specs.history_the_StepKind.{StepKind}
use Rattle.array_members.specs.history_Flat.{next_number, number_after}
use Rattle.array_members.specs.history_Transfers.{last_end_from}
use Rattle.array_members.specs.history_Legal.{told_left, call_before, disturbs}
use Rattle.array_members.specs.history_Plain.{entries_of}
use Rattle.array_members.specs.history_OneShape.{ShapeOpening, IsOneShapeLegal, IsOneShapeStep, IsIdleStep, GoesOnBehind, IsOfCall, IsCallOpen, adds_slot, is_used_now}
use Rattle.history_laws.proofs.OneShapeGrowing.{one, IsOneShapeCall, AreFaults, others-enter, call-one_shape, call-faults}
use Rattle.history_laws.proofs.OneShapeGoing.{open-numbered, going-on}
use Rattle.history_append.proofs.CallLaws.{AreLossEvents}
use Rattle.history_append.proofs.LosingLaws.{entries-both}
use Rattle.history_append.proofs.LeftLaws.{fold-left}

-- ---- the number of a call that is open

-- behind entries of one call the caller's next number is one more than the call's
own-next : (who : Who) (start : ℕ) (x : Entry) (call : List Entry) → All (λ e. IsOfCall who e × GoesOnBehind e.event) (x ∷ call)
    → fold (number_after who.caller) start (x ∷ call) ≡ who.number + 1
own-next who start x [] own =
    let mine = (All-head (λ e. IsOfCall who e × GoesOnBehind e.event) x [] own).0 in
    last x.caller x.number mine.0 mine.1
  where
    last : (c n : ℕ) → c ≡ who.caller → n ≡ who.number → cond (c == who.caller) (n + 1) start ≡ who.number + 1
    last c n callers numbers = grind (arith, nat_tests, callers, numbers)
own-next who start x (y ∷ call) own = own-next who (number_after who.caller start x) y call (All-tail (λ e. IsOfCall who e × GoesOnBehind e.event) x (y ∷ call) own)

-- it is at most the number of entries
pub open-few : (entries : List Entry) (who : Who) → IsCallOpen entries who → next_number who.caller entries ≤ length entries → who.number ≤ length entries
open-few entries who goes few = by goes.call goes.is goes.own
  where
    by : (call : List Entry) → entries ≡ goes.before ++ call → All (λ e. IsOfCall who e × GoesOnBehind e.event) call → who.number ≤ length entries
    by [] is own =
        let same : next_number who.caller entries ≡ next_number who.caller goes.before = ap (next_number who.caller) (is ∙ append-nil goes.before) in
        let number = goes.number in omega (arith, few, same, number)
    by (x ∷ call) is own =
        let next : next_number who.caller entries ≡ who.number + 1 =
        ap (next_number who.caller) is ∙ fold-append (number_after who.caller) 0 goes.before (x ∷ call) ∙ own-next who (next_number who.caller goes.before) x call own in
        omega (arith, few, next)

-- ---- the call goes on

-- these events may stand before others
abbrev pub GoOnBehind : List Event → Type 0
GoOnBehind [] = ⊤
GoOnBehind (event ∷ events) = GoesOnBehind event × GoOnBehind events

-- so may losses and such an event behind them
pub losses-go_on : (xs : List Event) (event : Event) → AreLossEvents xs → GoesOnBehind event → GoOnBehind (xs ++ event ∷ [])
losses-go_on [] event are goes = (goes, tt)
losses-go_on (Lost role Fault ∷ xs) event are goes = (tt, losses-go_on xs event are goes)
losses-go_on (SpareLost slot ∷ xs) event are goes = (tt, losses-go_on xs event are goes)
losses-go_on (x ∷ xs) event are goes = absurd are

pub of-call : (who : Who) (end : ℕ) (events : List Event) → All (λ e. IsOfCall who e) (entries_of who end events)
of-call who end [] = All-nil (λ e. IsOfCall who e)
of-call who end (event ∷ events) = All-cons (λ e. IsOfCall who e) (one who end event) (entries_of who end events) (refl, refl) (of-call who end events)

-- ---- its entries are legal

-- A history stays legal with entries of a call behind it that begins or goes on, where their events are legal.
pub call-goes_on : (opening : ShapeOpening) (ops end : ℕ) (entries : List Entry) (who : Who) (events : List Event) → IsOneShapeLegal opening ops entries → ops ≤ end
    → last_end_from opening.first entries ≤ end → IsCallOpen entries who → IsFalse (who.caller == 254)
    → IsOneShapeCall opening entries who end events → IsOneShapeLegal opening end (entries ++ entries_of who end events)
call-goes_on opening ops end entries who events are le rises goes other call =
    going-on opening ops end entries (entries_of who end events) who le goes (of-call who end events) are
    (call-one_shape opening end entries who end events (others-enter who.caller events other) (λ event. open-numbered entries who (one who end event) goes (refl, refl)) rises (omega arith) call)

-- losses are of devices that failed
pub faults-are : (xs : List Event) → AreLossEvents xs → AreFaults xs
faults-are [] are = tt
faults-are (Lost role Fault ∷ xs) are = faults-are xs are
faults-are (SpareLost slot ∷ xs) are = faults-are xs are
faults-are (event ∷ xs) are = absurd are

-- a step is legal where the steps left as last told are one more
step-legal : (before : List Entry) (e : Entry) (kind : StepKind) (left : ℕ) → IsIdleStep kind → IfSome (told_left before) (λ n. n ≡ left + 1) → IsOneShapeStep before e [] kind left
step-legal before e kind left is told = (is, by (list_any (λ e. disturbs e.event) (call_before before e ++ [])) (told_left before) told)
  where
    by : (b : Bool) (o : Option ℕ) → IfSome o (λ n. n ≡ left + 1) → IfSome (cond b None o) (λ n. left + 1 ≡ n)
    by true o told = tt
    by false None told = tt
    by false (Some n) told = sym told

-- A step behind the losses of its call is legal where the history tells one step more left behind them, or none.
pub call-stepped : (opening : ShapeOpening) (entries : List Entry) (who : Who) (end : ℕ) (losses : List Event) (kind : StepKind) (left : ℕ) → AreLossEvents losses → IsIdleStep kind
    → IfSome (told_left (entries ++ entries_of who end losses)) (λ n. n ≡ left + 1) → IsOneShapeCall opening entries who end (losses ++ Step kind left ∷ [])
call-stepped opening entries who end losses kind left are is told =
    call-faults opening entries who end losses (Step kind left ∷ []) (faults-are losses are) (step-legal (entries ++ entries_of who end losses) (one who end (Step kind left)) kind left is told, tt, tt)

-- ---- what it tells

-- the steps left after a step are what it tells
pub left-stepped : (entries : List Entry) (who : Who) (end : ℕ) (losses : List Event) (kind : StepKind) (left : ℕ) → told_left (entries ++ entries_of who end (losses ++ Step kind left ∷ [])) ≡ Some left
left-stepped entries who end losses kind left =
    ap (λ (l : List Entry). told_left (entries ++ l)) (entries-both who end losses (Step kind left ∷ []))
    ∙ fold-left None entries (entries_of who end losses ++ one who end (Step kind left) ∷ [])
    ∙ fold-left (told_left entries) (entries_of who end losses) (one who end (Step kind left) ∷ [])

-- ---- a reply to a request for steps

-- a slot that was used was used behind more entries too
pub used-more : (opening : ShapeOpening) (entries added : List Entry) (slot : ℕ) → IsTrue (is_used_now opening entries slot) → IsTrue (is_used_now opening (entries ++ added) slot)
used-more opening entries added slot used =
    ap (λ (b : Bool). opening.used slot || b) (list_any-append (λ e. adds_slot slot e.event) entries added)
    ∙ more (opening.used slot) (list_any (λ e. adds_slot slot e.event) entries) (list_any (λ e. adds_slot slot e.event) added) used
  where
    more : (a b c : Bool) → (a || b) ≡ true → (a || (b || c)) ≡ true
    more true b c is = refl
    more false true c is = refl
    more false false c is = absurd (cc)
