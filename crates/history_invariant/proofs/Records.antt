-- What is kept of the history after a call, by what the call entered.
use Rattle.std.proofs.Common.{◌≡◌, inl, inr, ℕ, ◌+◌, ◌≤◌, ◌==◌, ◌&&◌, ◌⊎◌, Bool, true, false, cond, Option, Some, None, List, [], ◌∷◌, ◌++◌, length, take, take_all, drop, unwrap_or, MatchBool, refl, sym, ◌∙◌, ap, subst, subst₂, arith, append_assoc, append-nil}
use Rattle.std.specs.Prelude.{IsFalse, fold, ⊤}
use Rattle.std.specs.List.{list_any, All}
use Rattle.std.specs.Option.{option_map_or}
use Rattle.std.proofs.lemmas.Bool.Decides.{nat_tests}
use Rattle.std.proofs.lemmas.List.{take-append-drop, take-take, length-take-le}
use Rattle.std.proofs.lemmas.List.Elements.{All-nil, All-append, All-head, All-tail}
use Rattle.std.proofs.lemmas.List.Sums.{fold-append}
use Rattle.array_call_specs.specs.raid_types_the_Who.{Who}
use Rattle.array_call_specs.specs.bank_the_Operation.{Operation}
use Rattle.array_call_specs.specs.bank_Tape.{Contents, value_after}
use Rattle.array_call_specs.specs.history_the_Entry.{Entry}
use Rattle.array_call_specs.specs.history_the_Event.{Event}
use Rattle.array_call_specs.specs.history_the_Event_TheVariants.{Lost, SpareLost, Rebuilt, Resized, Step, Refused}
use Rattle.array_call_specs.specs.history_the_LostCause_TheVariants.{Fault}
use Rattle.array_call_specs.specs.history_Flat.{is_same_call, rest_of_call, last_of, next_number, number_after}
use Rattle.array_call_specs.specs.history_Growing.{grown, EndBy, BeginAnother}
use Rattle.array_call_specs.specs.history_Legal.{GoesOn, IsNumbered, IsInnerOrLast, IsOfOpening, IsLegalEvent, IsLegalEntry, call_end, AreLegal, IsLegal}
use Rattle.array_call_specs.specs.history_OneShape.{IsOfCall}
use Rattle.array_call_specs.specs.history_Plain.{entries_of}
use Rattle.array_call_specs.specs.history_Stands.{stands}
use Rattle.array_call_specs.specs.history_Transfers.{last_end_from}
use Rattle.array_call_specs.specs.history_World.{World, until, contents_at}
use Rattle.array_call_specs.proofs.history_LegalLaws.{histories-stay-legal, rest-apart, another-behind}
use Rattle.array_call_specs.proofs.history_OneShapeLegal.{last-snoc}
use Rattle.array_call_specs.proofs.history_laws_OneShapeGrowing.{next-begins, none-another}
use Rattle.array_call_specs.proofs.MadeLaws.{ends-by}
use Rattle.array_call_specs.proofs.RecordLaws.{ends-call}
use Rattle.array_call_specs.proofs.history_append_StepLaws.{of-call}
use Rattle.array_call_specs.proofs.SafeLaws.{longer-by}
use Rattle.history_invariant.specs.Recorded.{entry_of, IsLegalCall, MayGoOn, IsCallGoing, IsLengthKept, gives_some}
use Rattle.history_invariant.proofs.Longer.{event-longer}
use Rattle.history_invariant.proofs.Marks.{ends-both, rest-whole}

-- ---- a call that begins or goes on

abbrev pub GoesOnIn : Who → Entry → Type 0
GoesOnIn who e = IsOfCall who e × MayGoOn e.event

-- a call begins with its caller's next number
pub begins-going : (entries : List Entry) (who : Who) → who.number ≡ next_number who.caller entries → IsCallGoing entries who
begins-going entries who number = record { before = entries; call = []; is = sym (append-nil entries); own = All-nil (GoesOnIn who); number = number }

-- and goes on behind entries that may stand before others
pub going-more : (entries added : List Entry) (who : Who) → IsCallGoing entries who → All (λ e. IsOfCall who e × MayGoOn e.event) added → IsCallGoing (entries ++ added) who
going-more entries added who goes more = record {
  before = goes.before;
  call = goes.call ++ added;
  is = ap (λ (l : List Entry). l ++ added) goes.is ∙ append_assoc goes.before goes.call added;
  own = All-append (GoesOnIn who) goes.call added goes.own more;
  number = goes.number;
}

pub same-call : (who : Who) (a b : Entry) → IsOfCall who a → IsOfCall who b → is_same_call a b ≡ true
same-call who a b mine yours = same a.caller b.caller a.number b.number (mine.0 ∙ sym yours.0) (mine.1 ∙ sym yours.1)
  where
    same : (c d n m : ℕ) → c ≡ d → n ≡ m → ((c == d) && (n == m)) ≡ true
    same c d n m callers numbers = grind (arith, nat_tests, callers, numbers)

-- what is of the call stands behind an entry of it
rest-own : (who : Who) (e : Entry) (xs : List Entry) → IsOfCall who e → All (λ e. IsOfCall who e) xs → rest_of_call e xs ≡ xs
rest-own who e [] mine own = refl
rest-own who e (x ∷ xs) mine own =
    ap (λ (b : Bool). cond b (x ∷ rest_of_call e xs) []) (same-call who e x mine (All-head (λ e. IsOfCall who e) x xs own))
    ∙ ap (λ (l : List Entry). x ∷ l) (rest-own who e xs mine (All-tail (λ e. IsOfCall who e) x xs own))

-- they begin another call than the one before them
pub own-begins : (who : Who) (before added : List Entry) → who.number ≡ next_number who.caller before → All (λ e. IsOfCall who e) added → BeginAnother (last_of before) added
own-begins who before [] number own = none-another (last_of before)
own-begins who before (e ∷ added) number own =
    let first : IsOfCall who e = All-head (λ e. IsOfCall who e) e added own in
    next-begins before e added (first.1 ∙ number ∙ ap (λ c. next_number c before) (sym first.0))

-- ---- where entries end

pub end-snoc : (first : ℕ) (xs : List Entry) (e : Entry) → last_end_from first (xs ++ e ∷ []) ≡ e.end
end-snoc first xs e = ap (λ (o : Option Entry). option_map_or (λ e. e.end) o first) (last-snoc xs e)

-- a call ends within what its entries end within
call_end-in : (mark : ℕ) (e : Entry) (xs : List Entry) → e.end ≤ mark → EndBy mark xs → call_end e xs ≤ mark
call_end-in mark e [] made ends = made
call_end-in mark e (x ∷ xs) made ends = call_end-in mark x xs ends.0 ends.1

first-ends : (mark : ℕ) (xs ys : List Entry) → EndBy mark (xs ++ ys) → EndBy mark xs
first-ends mark [] ys ends = tt
first-ends mark (x ∷ xs) ys ends = (ends.0, first-ends mark xs ys ends.1)

-- the entries behind one end at it or later, the last of them last
call_end-bounds : (world : World) (before : List Entry) (e : Entry) (xs : List Entry) → AreLegal world (before ++ e ∷ []) xs → (e.end ≤ call_end e xs) × EndBy (call_end e xs) xs
call_end-bounds world before e [] are = (omega arith, tt)
call_end-bounds world before e (x ∷ xs) are =
    let rises : last_end_from world.first (before ++ e ∷ []) ≤ x.end = are.0.timed.rises in
    let at : last_end_from world.first (before ++ e ∷ []) ≡ e.end = end-snoc world.first before e in
    let rest = call_end-bounds world (before ++ e ∷ []) x xs are.1 in
    let low = rest.0 in
    (omega (arith, rises, at, low), (low, rest.1))

-- each entry ends where the last one does or before, and none before the opening
rising : (world : World) (before xs ys : List Entry) → EndBy (last_end_from world.first before) before → world.first ≤ last_end_from world.first before → AreLegal world before (xs ++ ys)
    → EndBy (last_end_from world.first (before ++ xs)) (before ++ xs) × (world.first ≤ last_end_from world.first (before ++ xs))
rising world before [] ys ends low are = subst (λ (l : List Entry). EndBy (last_end_from world.first l) l × (world.first ≤ last_end_from world.first l)) (sym (append-nil before)) (ends, low)
rising world before (x ∷ xs) ys ends low are =
    let rises : last_end_from world.first before ≤ x.end = are.0.timed.rises in
    let at : last_end_from world.first (before ++ x ∷ []) ≡ x.end = end-snoc world.first before x in
    subst (λ (l : List Entry). EndBy (last_end_from world.first l) l × (world.first ≤ last_end_from world.first l)) (append_assoc before (x ∷ []) xs)
    (rising world (before ++ x ∷ []) xs ys
    (subst (λ (n : ℕ). EndBy n (before ++ x ∷ [])) (sym at) (ends-both x.end before (x ∷ []) (ends-by (last_end_from world.first before) x.end before rises ends) (omega arith, tt)))
    (omega (arith, rises, at, low)) are.1)

-- ---- worlds up to a mark

-- seen up to a later mark, more was done
until-later : (world : World) (m n : ℕ) → m ≤ n → until n world ≡ grown (until m world) (drop m (take n world.tape))
until-later world m n le =
    ap (λ (l : List Operation). record { start = world.start; tape = l; scope = world.scope; first = world.first })
    (sym (ap (λ (l : List Operation). l ++ drop m (take n world.tape)) (sym (take-take m n world.tape le)) ∙ take-append-drop m (take n world.tape)))

pub until-all : (world : World) → until (length world.tape) world ≡ world
until-all world = ap (λ (l : List Operation). record { start = world.start; tape = l; scope = world.scope; first = world.first }) (take_all (length world.tape) world.tape (omega arith))

-- ---- entries of a call that goes on

inner-longer : (event : Event) (rest : List Entry) → MayGoOn event → IsInnerOrLast event rest
inner-longer event [] goes = tt
inner-longer (Resized n) (x ∷ rest) goes = tt
inner-longer (Step kind left) (x ∷ rest) goes = tt
inner-longer (Lost role Fault) (x ∷ rest) goes = tt
inner-longer (SpareLost slot) (x ∷ rest) goes = tt
inner-longer (Rebuilt role) (x ∷ rest) goes = tt
inner-longer (Refused refusal) (x ∷ rest) goes = tt
inner-longer event (x ∷ rest) goes = absurd goes

contents-until : (world : World) (m end : ℕ) → end ≤ m → contents_at (until m world) end ≡ contents_at world end
contents-until world m end le = ap (λ (ops : List Operation). λ s k. value_after s k (world.start s k) ops) (take-take end m world.tape le)

kept-until : (world : World) (m end : ℕ) (event : Event) → end ≤ m → IsLengthKept world end event → IsLengthKept (until m world) end event
kept-until world m end (Resized n) le kept = kept ∙ ap (λ (c : Contents). length (stands world.scope c)) (sym (contents-until world m end le))
kept-until world m end event le kept = tt

-- each change of length among these entries was kept by some slot, or no role is given a holder behind them
abbrev pub AreLengthsFixed : World → List Entry → List Entry → Type 0
AreLengthsFixed world call added = All (λ e. IsLengthKept world e.end e.event) call ⊎ (list_any (λ e. gives_some e.event) added ≡ false)

-- each entry is legal with more entries of the call behind it
module _ (world : World) (who : Who) (added : List Entry) (mine : All (λ e. IsOfCall who e) added) where
  own-of : (call : List Entry) → All (GoesOnIn who) call → All (λ e. IsOfCall who e) call
  own-of call own = λ k d lt. (own k d lt).0

  entry-longer : (before : List Entry) (e : Entry) (call : List Entry) → GoesOnIn who e → IsLengthKept world e.end e.event ⊎ (list_any (λ e. gives_some e.event) added ≡ false)
      → EndBy (length world.tape) (e ∷ (call ++ added)) → EndBy (last_end_from world.first before) before → world.first ≤ last_end_from world.first before
      → IsLegalEntry (until (call_end e call) world) before e call → AreLegal world (before ++ e ∷ []) call → AreLegal world (before ++ e ∷ []) (call ++ added)
      → IsLegalEntry (until (call_end e (call ++ added)) world) before e (call ++ added)
  entry-longer before e call own fixed made ends low was are rest = record {
    numbered = was.numbered;
    timed = record { rises = was.timed.rises; within = omega (arith, long', bounds'.0) };
    inner = inner-longer e.event (call ++ added) own.1;
    opening = was.opening;
    event = subst (λ (w : World). IsLegalEvent w before e (call ++ added) e.event) (sym (until-later world (call_end e call) (call_end e (call ++ added)) le))
        (event-longer (until (call_end e call) world) (drop (call_end e call) (take (call_end e (call ++ added)) world.tape)) (omega (arith, low, rises, long, bounds.0)) before e call added (omega (arith, long, bounds.0))
        (subst (λ (n : ℕ). EndBy n before) (sym long) (ends-by (last_end_from world.first before) (call_end e call) before (omega (arith, rises, bounds.0)) ends))
        (subst (λ (n : ℕ). EndBy n call) (sym long) bounds.1)
        (elim fixed [ inl kept ↦ inl (kept-until world (call_end e call) e.end e.event bounds.0 kept) | inr none ↦ inr none ]) own.1 was.event);
  }
    where
      rises : last_end_from world.first before ≤ e.end
      rises = was.timed.rises

      bounds : (e.end ≤ call_end e call) × EndBy (call_end e call) call
      bounds = call_end-bounds world before e call are

      bounds' : (e.end ≤ call_end e (call ++ added)) × EndBy (call_end e (call ++ added)) (call ++ added)
      bounds' = call_end-bounds world before e (call ++ added) rest

      le : call_end e call ≤ call_end e (call ++ added)
      le = call_end-in (call_end e (call ++ added)) e call bounds'.0 (first-ends (call_end e (call ++ added)) call added bounds'.1)

      long' : length (take (call_end e (call ++ added)) world.tape) ≡ call_end e (call ++ added)
      long' = length-take-le (call_end e (call ++ added)) world.tape (call_end-in (length world.tape) e (call ++ added) made.0 made.1)

      long : length (take (call_end e call) world.tape) ≡ call_end e call
      long = length-take-le (call_end e call) world.tape (let all = call_end-in (length world.tape) e (call ++ added) made.0 made.1 in omega (arith, le, all))

  call-longer : (before call : List Entry) → All (GoesOnIn who) call → AreLengthsFixed world call added → EndBy (length world.tape) (call ++ added)
      → EndBy (last_end_from world.first before) before → world.first ≤ last_end_from world.first before
      → AreLegal world before call → AreLegal world (before ++ call) added → AreLegal world before (call ++ added)
  call-longer before [] own fixed made ends low are behind = subst (λ (l : List Entry). AreLegal world l added) (append-nil before) behind
  call-longer before (e ∷ call) own fixed made ends low are behind =
      let first : GoesOnIn who e = All-head (GoesOnIn who) e call own in
      let others : All (GoesOnIn who) call = All-tail (GoesOnIn who) e call own in
      let next = rising world before (e ∷ []) call ends low are in
      let rest : AreLegal world (before ++ e ∷ []) (call ++ added) =
      call-longer (before ++ e ∷ []) call others (elim fixed [ inl kept ↦ inl (All-tail (λ e. IsLengthKept world e.end e.event) e call kept) | inr none ↦ inr none ]) made.1 next.0 next.1 are.1
      (subst (λ (l : List Entry). AreLegal world l added) (sym (append_assoc before (e ∷ []) call)) behind) in
      let same : rest_of_call e call ≡ call = rest-own who e call first.0 (own-of call others) in
      let longer : rest_of_call e (call ++ added) ≡ call ++ added = rest-own who e (call ++ added) first.0 (All-append (λ e. IsOfCall who e) call added (own-of call others) mine) in (
        subst (λ (l : List Entry). IsLegalEntry (until (call_end e l) world) before e l) (sym longer)
            (entry-longer before e call first (elim fixed [ inl kept ↦ inl (All-head (λ e. IsLengthKept world e.end e.event) e call kept) | inr none ↦ inr none ]) made ends low
            (subst (λ (l : List Entry). IsLegalEntry (until (call_end e l) world) before e l) same are.0) are.1 rest),
        rest,
      )

-- entries before another call stay legal with another such call in its place
other-behind : (world : World) (before xs old new : List Entry) → BeginAnother (last_of xs) old → BeginAnother (last_of xs) new
    → (AreLegal world (before ++ xs) old → AreLegal world (before ++ xs) new) → AreLegal world before (xs ++ old) → AreLegal world before (xs ++ new)
other-behind world before [] old new begin begins change are =
    subst (λ (l : List Entry). AreLegal world l new) (append-nil before) (change (subst (λ (l : List Entry). AreLegal world l old) (sym (append-nil before)) are))
other-behind world before (e ∷ xs) old new begin begins change are = (
  subst (λ (rest : List Entry). IsLegalEntry (until (call_end e rest) world) before e rest) (rest-apart e xs old begin ∙ sym (rest-apart e xs new begins)) are.0,
  other-behind world (before ++ e ∷ []) xs old new (another-behind e xs old begin) (another-behind e xs new begins)
      (subst (λ (l : List Entry). AreLegal world l old → AreLegal world l new) (sym (append_assoc before (e ∷ []) xs)) change) are.1,
)

-- A legal history stays legal with more entries of a call that goes on.
going-legal : (world : World) (entries added : List Entry) (who : Who) (goes : IsCallGoing entries who) → All (λ e. IsOfCall who e) added → AreLengthsFixed world goes.call added
    → EndBy (length world.tape) (entries ++ added) → IsLegal world entries → AreLegal world entries added → IsLegal world (entries ++ added)
going-legal world entries added who goes own fixed ends are behind =
    subst (λ (l : List Entry). AreLegal world [] l) (sym parts)
    (other-behind world [] goes.before goes.call (goes.call ++ added)
    (own-begins who goes.before goes.call goes.number mine)
    (own-begins who goes.before (goes.call ++ added) goes.number (All-append (λ e. IsOfCall who e) goes.call added mine own))
    (λ call. call-longer world who added own goes.before goes.call goes.own fixed call-ends first.0 first.1 call (subst (λ (l : List Entry). AreLegal world l added) goes.is behind))
    all)
  where
    mine : All (λ e. IsOfCall who e) goes.call
    mine = λ k d lt. (goes.own k d lt).0

    parts : entries ++ added ≡ goes.before ++ (goes.call ++ added)
    parts = ap (λ (l : List Entry). l ++ added) goes.is ∙ append_assoc goes.before goes.call added

    all : AreLegal world [] (goes.before ++ goes.call)
    all = subst (λ (l : List Entry). AreLegal world [] l) goes.is are

    first : EndBy (last_end_from world.first goes.before) goes.before × (world.first ≤ last_end_from world.first goes.before)
    first = rising world [] goes.before goes.call tt (omega arith) all

    last-ends : (xs ys : List Entry) → EndBy (length world.tape) (xs ++ ys) → EndBy (length world.tape) ys
    last-ends [] ys ends = ends
    last-ends (x ∷ xs) ys ends = last-ends xs ys ends.1

    call-ends : EndBy (length world.tape) (goes.call ++ added)
    call-ends = last-ends goes.before (goes.call ++ added) (subst (λ (l : List Entry). EndBy (length world.tape) l) parts ends)

-- ---- the entries of a call

-- the last entry behind others is of the call, where all of those are
last-own : (who : Who) (before : List Entry) (x : Entry) (call : List Entry) (e : Entry) → All (GoesOnIn who) (x ∷ call) → IsOfCall who e → GoesOn (last_of (before ++ x ∷ call)) e
last-own who [] x [] e own is = same-call who x e (All-head (GoesOnIn who) x [] own).0 is
last-own who [] x (y ∷ call) e own is = by (last_of call) (last-own who [] y call e (All-tail (GoesOnIn who) x (y ∷ call) own) is)
  where
    by : (last : Option Entry) → GoesOn (Some (unwrap_or last y)) e → GoesOn (Some (unwrap_or (Some (unwrap_or last y)) x)) e
    by last goes = goes
last-own who (b ∷ before) x call e own is = by (last_of (before ++ x ∷ call)) (last-own who before x call e own is)
  where
    by : (last : Option Entry) → GoesOn last e → GoesOn (Some (unwrap_or last b)) e
    by None goes = absurd goes
    by (Some l) goes = goes

-- an entry of a call that goes on is numbered rightly
going-numbered : (entries : List Entry) (who : Who) (e : Entry) → IsCallGoing entries who → IsOfCall who e → IsNumbered entries e
going-numbered entries who e goes is = by goes.call goes.is goes.own
  where
    begins : (l : List Entry) → l ≡ goes.before → e.number ≡ next_number e.caller l
    begins l same = is.1 ∙ goes.number ∙ subst₂ (λ c (l : List Entry). next_number who.caller goes.before ≡ next_number c l) (sym is.0) (sym same) refl

    by : (call : List Entry) → entries ≡ goes.before ++ call → All (GoesOnIn who) call → IsNumbered entries e
    by [] same own = inr (begins entries (same ∙ append-nil goes.before))
    by (x ∷ call) same own = inl (subst (λ (l : List Entry). GoesOn (last_of l) e) (sym same) (last-own who goes.before x call e own is))

pub call_end-is : (who : Who) (end : ℕ) (event : Event) (events : List Event) → call_end (entry_of who end event) (entries_of who end events) ≡ end
call_end-is who end event [] = refl
call_end-is who end event (next ∷ events) = call_end-is who end next events

-- Entries that end at the tape's end are legal, where their events are.
call-legal : (world : World) (before : List Entry) (who : Who) (events : List Event) → IsFalse (who.caller == 254) → ((event : Event) → IsNumbered before (entry_of who (length world.tape) event))
    → last_end_from world.first before ≤ length world.tape → IsLegalCall world before who (length world.tape) events → AreLegal world before (entries_of who (length world.tape) events)
call-legal world before who [] other numbered rises call = tt
call-legal world before who (event ∷ events) other numbered rises call = (
  subst (λ (l : List Entry). IsLegalEntry (until (call_end (entry_of who (length world.tape) event) l) world) before (entry_of who (length world.tape) event) l) (sym (rest-whole who (length world.tape) event events))
      (subst (λ (w : World). IsLegalEntry w before (entry_of who (length world.tape) event) (entries_of who (length world.tape) events)) (sym (ap (λ (n : ℕ). until n world) (call_end-is who (length world.tape) event events) ∙ until-all world)) (record {
        numbered = numbered event;
        timed = record { rises = rises; within = omega arith };
        inner = call.1;
        opening = enters (who.caller == 254) other;
        event = call.0;
      })),
  call-legal world (before ++ (entry_of who (length world.tape) event) ∷ []) who events other
      (λ next. inl (subst (λ (o : Option Entry). GoesOn o (entry_of who (length world.tape) next)) (sym (last-snoc before (entry_of who (length world.tape) event))) (same-call who (entry_of who (length world.tape) event) (entry_of who (length world.tape) next) (refl, refl) (refl, refl))))
      (let at : last_end_from world.first (before ++ (entry_of who (length world.tape) event) ∷ []) ≡ (length world.tape) = end-snoc world.first before (entry_of who (length world.tape) event) in omega (arith, at)) call.2,
)
  where
    enters : (b : Bool) → b ≡ false → MatchBool b (IsOfOpening event) ⊤
    enters true e = absurd (cc)
    enters false e = tt

-- ---- a call

-- A legal history with the entries of a call behind it is legal, where the call begins there or goes on.
pub legal-later : (world : World) (ops : List Operation) (entries : List Entry) (who : Who) (events : List Event) (goes : IsCallGoing entries who) → IsFalse (who.caller == 254)
    → AreLengthsFixed (grown world ops) goes.call (entries_of who (length (world.tape ++ ops)) events) → EndBy (length world.tape) entries → last_end_from world.first entries ≤ length world.tape
    → IsLegal world entries → IsLegalCall (grown world ops) entries who (length (world.tape ++ ops)) events
    → IsLegal (grown world ops) (entries ++ entries_of who (length (world.tape ++ ops)) events)
legal-later world ops entries who events goes other fixed ends ended are call =
    let longer = longer-by world.tape ops in
    going-legal (grown world ops) entries (entries_of who (length (world.tape ++ ops)) events) who goes (of-call who (length (world.tape ++ ops)) events) fixed
    (ends-call (length world.tape) entries who (length (world.tape ++ ops)) events longer ends)
    (histories-stay-legal world entries ops ends are)
    (call-legal (grown world ops) entries who events other (λ event. going-numbered entries who (entry_of who (length (world.tape ++ ops)) event) goes (refl, refl)) (omega (arith, longer, ended)) call)

-- ---- the number of a call that goes on

-- behind entries of one call the caller's next number is one more than the call's
own-next : (who : Who) (start : ℕ) (x : Entry) (call : List Entry) → All (λ e. IsOfCall who e × MayGoOn e.event) (x ∷ call)
    → fold (number_after who.caller) start (x ∷ call) ≡ who.number + 1
own-next who start x [] own =
    let mine = (All-head (λ e. IsOfCall who e × MayGoOn e.event) x [] own).0 in
    last x.caller x.number mine.0 mine.1
  where
    last : (c n : ℕ) → c ≡ who.caller → n ≡ who.number → cond (c == who.caller) (n + 1) start ≡ who.number + 1
    last c n callers numbers = grind (arith, nat_tests, callers, numbers)
own-next who start x (y ∷ call) own = own-next who (number_after who.caller start x) y call (All-tail (λ e. IsOfCall who e × MayGoOn e.event) x (y ∷ call) own)

-- it is at most the number of entries
pub going-few : (entries : List Entry) (who : Who) → IsCallGoing entries who → next_number who.caller entries ≤ length entries → who.number ≤ length entries
going-few entries who goes few = by goes.call goes.is goes.own
  where
    by : (call : List Entry) → entries ≡ goes.before ++ call → All (λ e. IsOfCall who e × MayGoOn e.event) call → who.number ≤ length entries
    by [] is own =
        let same : next_number who.caller entries ≡ next_number who.caller goes.before = ap (next_number who.caller) (is ∙ append-nil goes.before) in
        let number = goes.number in omega (arith, few, same, number)
    by (x ∷ call) is own =
        let next : next_number who.caller entries ≡ who.number + 1 =
        ap (next_number who.caller) is ∙ fold-append (number_after who.caller) 0 goes.before (x ∷ call) ∙ own-next who (next_number who.caller goes.before) x call own in
        omega (arith, few, next)
