-- A plain history without losses is legal.
use Rattle.std.proofs.Common.{rules, ◌≡◌, ℕ, zero, suc, ◌≤◌, Bool, true, false, not, ◌&&◌, ◌||◌, ◌==◌, cond, List, [], ◌∷◌, ◌++◌, length, take, refl, sym, ap, ◌∙◌, subst, arith, Option, Some, unwrap_or, MatchOption, MatchBool}
use Rattle.std.specs.Prelude.{⊤}
use Rattle.std.specs.Option.{option_map_or}
use Rattle.std.specs.List.{list_any, list_all}
use Rattle.history.specs.raid_types_Search.{count_below}
use Rattle.history.proofs.raid_types_Counted.{count_below-same}
use Rattle.history.specs.raid_types_the_Refusal_TheVariants.{PastEnd, TooManyMissing}
use Rattle.history.specs.bank_the_Operation.{Operation}
use Rattle.history.specs.declared.events.Entry.{Entry}
use Rattle.history.specs.declared.events.Event.{Event}
use Rattle.history.specs.declared.events.Event.TheVariants.{Read, Wrote, Torn, Flushed, Lost, SpareLost, Shown, Stopped, Halted, Refused}
use Rattle.history.specs.declared.events.LostCause.TheVariants.{Fault}
use Rattle.history.specs.World.{World, until, opening_list}
use Rattle.history.specs.Stands.{stands}
use Rattle.history.specs.Flat.{is_same_call, rest_of_call, last_of, visible_of}
use Rattle.history.specs.Transfers.{last_end_from, IsTooMany}
use Rattle.history.specs.Legal.{is_loss, call_end, IsLegalEvent, AreLegal}
use Rattle.history.specs.Reshaped.{AreReshaped, is_done, behind, comes_with_finish, comes_with_step, IsFinishedRight, ArePlansDone, open_plans}
use Rattle.history.specs.Plain.{Opening, loses_role, lost_count, IsPlainEvent, ArePlain, is_no_loss, PlainHistoriesAreLegal}

both : (a b : Bool) → (a && b) ≡ true → (a ≡ true) × (b ≡ true)
both true b e = (refl, e)
both false b e = absurd (cc)

-- ---- no role is lost, so none is missing

no_loss-append : (xs ys : List Entry) → list_all is_no_loss xs ≡ true → list_all is_no_loss ys ≡ true → list_all is_no_loss (xs ++ ys) ≡ true
no_loss-append [] ys none more = more
no_loss-append (x ∷ xs) ys none more =
    let parts : (is_no_loss x ≡ true) × (list_all is_no_loss xs ≡ true) = both (is_no_loss x) (list_all is_no_loss xs) none in
    ap (λ b. b && list_all is_no_loss (xs ++ ys)) parts.0 ∙ no_loss-append xs ys parts.1 more

no_role : (role : ℕ) (event : Event) → not (is_loss event) ≡ true → loses_role role event ≡ false
no_role role (Lost lost cause) none = absurd (cc)
no_role role event none = refl

no_roles : (role : ℕ) (xs : List Entry) → list_all is_no_loss xs ≡ true → list_any (λ e. loses_role role e.event) xs ≡ false
no_roles role [] none = refl
no_roles role (x ∷ xs) none =
    let parts : (is_no_loss x ≡ true) × (list_all is_no_loss xs ≡ true) = both (is_no_loss x) (list_all is_no_loss xs) none in
    ap (λ b. b || list_any (λ e. loses_role role e.event) xs) (no_role role x.event parts.0) ∙ no_roles role xs parts.1

count-false : count_below 32 (λ role. false) ≡ 0
unfolding count_below
count-false = refl

none_lost : (xs : List Entry) → list_all is_no_loss xs ≡ true → lost_count xs ≡ 0
none_lost xs none = count_below-same 32 (λ role. list_any (λ e. loses_role role e.event) xs) (λ role. false) (λ role. no_roles role xs none) ∙ count-false

not_too_many : (opening : Opening) (before : List Entry) (e : Entry) (rest : List Entry) (event : Event) → list_all is_no_loss before ≡ true
    → IsPlainEvent opening before e rest event → ¬ IsTooMany event
not_too_many opening before e rest (Refused (TooManyMissing count tolerance)) none plain too =
    let few : lost_count before ≡ 0 = none_lost before none in absurd (omega (arith, few, plain.some, plain.lost))
not_too_many opening before e rest (Refused refusal) none plain too = too
not_too_many opening before e rest event none plain too = too

abbrev AreNotTooMany : List Entry → Type 0
AreNotTooMany [] = ⊤
AreNotTooMany (e ∷ xs) = (¬ IsTooMany e.event) × AreNotTooMany xs

are_not : (opening : Opening) (ops : ℕ) (before xs : List Entry) → list_all is_no_loss before ≡ true → list_all is_no_loss xs ≡ true
    → ArePlain opening ops before xs → AreNotTooMany xs
are_not opening ops before [] none more plain = tt
are_not opening ops before (x ∷ xs) none more plain =
    let parts : (is_no_loss x ≡ true) × (list_all is_no_loss xs ≡ true) = both (is_no_loss x) (list_all is_no_loss xs) more in (
      not_too_many opening before x (rest_of_call x xs) x.event none plain.0.event,
      are_not opening ops (before ++ x ∷ []) xs (no_loss-append before (x ∷ []) none (ap (λ b. b && true) parts.0)) parts.1 plain.1,
    )

not-rest : (e : Entry) (xs : List Entry) → AreNotTooMany xs → AreNotTooMany (rest_of_call e xs)
not-rest e [] are = tt
not-rest e (x ∷ xs) are = by (is_same_call e x) (not-rest e xs are.1)
  where
    by : (b : Bool) → AreNotTooMany (rest_of_call e xs) → AreNotTooMany (cond b (x ∷ rest_of_call e xs) [])
    by true rest = (are.0, rest)
    by false rest = tt

not-last : (xs : List Entry) → AreNotTooMany xs → MatchOption (last_of xs) ⊥ (λ e. IsTooMany e.event) → ⊥
not-last [] are last = last
not-last (x ∷ []) are last = are.0 last
not-last (x ∷ y ∷ xs) are last = not-last (y ∷ xs) are.1 last

-- ---- where the entries of a call end

last-snoc : (xs : List Entry) (e : Entry) → last_of (xs ++ e ∷ []) ≡ Some e
last-snoc [] e = refl
last-snoc (x ∷ xs) e = ap (λ (o : Option Entry). Some (unwrap_or o x)) (last-snoc xs e)

end-snoc : (first : ℕ) (xs : List Entry) (e : Entry) → last_end_from first (xs ++ e ∷ []) ≡ e.end
end-snoc first xs e = ap (λ (o : Option Entry). option_map_or (λ e. e.end) o first) (last-snoc xs e)

call_end-bounds : (opening : Opening) (ops : ℕ) (before : List Entry) (of e : Entry) (xs : List Entry) → e.end ≤ ops → ArePlain opening ops (before ++ e ∷ []) xs
    → (e.end ≤ call_end e (rest_of_call of xs)) × (call_end e (rest_of_call of xs) ≤ ops)
call_end-bounds opening ops before of e [] within plain = (omega arith, within)
call_end-bounds opening ops before of e (x ∷ xs) within plain =
    by (is_same_call of x) (call_end-bounds opening ops (before ++ e ∷ []) of x xs plain.0.timed.within plain.1)
  where
    by : (b : Bool) → (x.end ≤ call_end x (rest_of_call of xs)) × (call_end x (rest_of_call of xs) ≤ ops)
        → (e.end ≤ call_end e (cond b (x ∷ rest_of_call of xs) [])) × (call_end e (cond b (x ∷ rest_of_call of xs) []) ≤ ops)
    by true rest =
        let rises : last_end_from opening.first (before ++ e ∷ []) ≤ x.end = plain.0.timed.rises in
        let at : last_end_from opening.first (before ++ e ∷ []) ≡ e.end = end-snoc opening.first before e in
        (omega (arith, rises, at, rest.0), rest.1)
    by false rest = (omega arith, within)

-- ---- the entries

match_false : (b : Bool) (P : Type 0) → b ≡ false → MatchBool b P ⊤
match_false true P e = absurd (cc)
match_false false P e = tt

length-until : (ops : List Operation) (n : ℕ) → n ≤ length ops → length (take n ops) ≡ n
length-until ops zero le = refl
length-until [] (suc n) le = absurd (omega (arith, le))
length-until (op ∷ ops) (suc n) le = ap suc (length-until ops n (omega (arith, le)))

take-twice : (ops : List Operation) (m n : ℕ) → m ≤ n → take m (take n ops) ≡ take m ops
take-twice ops zero n le = refl
take-twice [] (suc m) zero le = refl
take-twice [] (suc m) (suc n) le = refl
take-twice (op ∷ ops) (suc m) zero le = absurd (omega (arith, le))
take-twice (op ∷ ops) (suc m) (suc n) le = ap (λ l. op ∷ l) (take-twice ops m n (omega (arith, le)))

opening-until : (world : World) (mark : ℕ) → world.first ≤ mark → opening_list (until mark world) ≡ opening_list world
unfolding opening_list
opening-until world mark le =
    ap (λ (ops : List Operation). stands world.scope (λ s k. Rattle.history.specs.bank_Tape.value_after s k (world.start s k) ops)) (take-twice world.tape world.first mark le)

legal_event : (world : World) (opening : Opening) (before : List Entry) (e : Entry) (rest : List Entry) (event : Event) → opening.list ≡ opening_list world
    → list_all is_no_loss before ≡ true → not (is_loss event) ≡ true → AreNotTooMany rest → IsPlainEvent opening before e rest event → IsLegalEvent world before e rest event
legal_event world opening before e rest (Read at body) same none kept are plain = subst (λ l. Rattle.history.specs.Transfers.IsReadOver l before at body) same plain
legal_event world opening before e rest (Wrote at body) same none kept are plain = subst (λ l. Rattle.history.specs.Transfers.EndsWithinOver l before at body) same plain
legal_event world opening before e rest (Torn at body) same none kept are plain = absurd (not-last rest are plain.refused)
legal_event world opening before e rest Flushed same none kept are plain = tt
legal_event world opening before e rest (Lost role Fault) same none kept are plain = absurd (cc)
legal_event world opening before e rest (SpareLost slot) same none kept are plain = absurd (cc)
legal_event world opening before e rest (Shown status) same none kept are plain = plain
legal_event world opening before e rest Stopped same none kept are plain = tt
legal_event world opening before e rest Halted same none kept are plain = tt
legal_event world opening before e rest (Refused (PastEnd visible)) same none kept are plain = plain ∙ ap (λ l. visible_of (length l) before) same
legal_event world opening before e rest (Refused (TooManyMissing count tolerance)) same none kept are plain =
    absurd (not_too_many opening before e rest (Refused (TooManyMissing count tolerance)) none plain tt)
legal_event world opening before e rest (Refused refusal) same none kept are plain = absurd plain
legal_event world opening before e rest event same none kept are plain = absurd plain

legal_entries : (world : World) (opening : Opening) (before xs : List Entry) → opening.list ≡ opening_list world → opening.first ≡ world.first
    → world.first ≤ last_end_from opening.first before → list_all is_no_loss before ≡ true → list_all is_no_loss xs ≡ true
    → ArePlain opening (length world.tape) before xs → AreLegal world before xs
legal_entries world opening before [] same first low none more plain = tt
legal_entries world opening before (e ∷ xs) same first low none more plain =
    let parts : (is_no_loss e ≡ true) × (list_all is_no_loss xs ≡ true) = both (is_no_loss e) (list_all is_no_loss xs) more in
    let bounds : (e.end ≤ call_end e (rest_of_call e xs)) × (call_end e (rest_of_call e xs) ≤ length world.tape) =
    call_end-bounds opening (length world.tape) before e e xs plain.0.timed.within plain.1 in
    let rises : last_end_from opening.first before ≤ e.end = plain.0.timed.rises in
    let late : world.first ≤ call_end e (rest_of_call e xs) = omega (arith, low, rises, bounds.0) in
    let long : length (take (call_end e (rest_of_call e xs)) world.tape) ≡ call_end e (rest_of_call e xs) = length-until world.tape (call_end e (rest_of_call e xs)) bounds.1 in (
      record {
        numbered = plain.0.numbered;
        timed = record { rises = subst (λ n. last_end_from n before ≤ e.end) first rises; within = rw long bounds.0 };
        inner = plain.0.inner;
        opening = match_false (e.caller == 254) (Rattle.history.specs.Legal.IsOfOpening e.event) plain.0.caller;
        event = legal_event (until (call_end e (rest_of_call e xs)) world) opening before e (rest_of_call e xs) e.event
            (same ∙ sym (opening-until world (call_end e (rest_of_call e xs)) late)) none parts.0
            (not-rest e xs (are_not opening (length world.tape) (before ++ e ∷ []) xs (no_loss-append before (e ∷ []) none (ap (λ b. b && true) parts.0)) parts.1 plain.1))
            plain.0.event;
      },
      legal_entries world opening (before ++ e ∷ []) xs same first (rw (end-snoc opening.first before e) (omega (arith, low, rises)))
          (no_loss-append before (e ∷ []) none (ap (λ b. b && true) parts.0)) parts.1 plain.1,
    )

-- ---- no reshape

not_finished : (world : World) (opening : Opening) (before : List Entry) (e : Entry) (rest behind : List Entry) (event : Event)
    → IsPlainEvent opening before e rest event → IsFinishedRight world before e behind event × (is_done event ≡ false)
not_finished world opening before e rest behind (Read at body) plain = (tt, refl)
not_finished world opening before e rest behind (Wrote at body) plain = (tt, refl)
not_finished world opening before e rest behind (Torn at body) plain = (tt, refl)
not_finished world opening before e rest behind Flushed plain = (tt, refl)
not_finished world opening before e rest behind (Lost role Fault) plain = (tt, refl)
not_finished world opening before e rest behind (SpareLost slot) plain = (tt, refl)
not_finished world opening before e rest behind (Shown status) plain = (tt, refl)
not_finished world opening before e rest behind Stopped plain = (tt, refl)
not_finished world opening before e rest behind Halted plain = (tt, refl)
not_finished world opening before e rest behind (Refused refusal) plain = (tt, refl)
not_finished world opening before e rest behind event plain = absurd plain

on_false : (b : Bool) (P : Type 0) → b ≡ false → Rattle.std.specs.Bool.OnTrue b P
on_false true P e = absurd (cc)
on_false false P e = search rules

reshaped_entries : (world : World) (opening : Opening) (ops : ℕ) (before xs : List Entry) → ArePlain opening ops before xs → AreReshaped world before xs
reshaped_entries world opening ops before [] plain = tt
reshaped_entries world opening ops before (e ∷ xs) plain =
    let none : IsFinishedRight (until e.end world) before e (behind comes_with_finish e xs) e.event × (is_done e.event ≡ false) =
    not_finished (until e.end world) opening before e (rest_of_call e xs) (behind comes_with_finish e xs) e.event plain.0.event in (
      record {
        finished = none.0;
        plans = on_false (is_done e.event) (ArePlansDone (until e.end world) before e (behind comes_with_step e xs) (open_plans before)) none.1;
      },
      reshaped_entries world opening ops (before ++ e ∷ []) xs plain.1,
    )

pub plain-legal : PlainHistoriesAreLegal
plain-legal world opening entries same first none plain = (
  legal_entries world opening [] entries same first (rw (← first) (omega arith)) refl none plain,
  reshaped_entries world opening (length world.tape) [] entries plain,
)
