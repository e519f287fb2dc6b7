-- The laws of a tally, for a lock.
use Rattle.std.proofs.Common.{◌≡◌, ◌≢◌, ℕ, suc, ◌+◌, ◌-◌, ◌<◌, ◌≤◌, Bool, true, false, eqb, if◌then◌else◌, List, [], ◌∷◌, ◌++◌, length, drop, sym, refl, ap, ◌∙◌, arith, eq-eqb, ne_eqb, append_assoc, append-nil, length-append}
use Rattle.lane_lock.specs.declared.call.Call.{Call}
use Rattle.lane_lock.specs.Ways.{IsLawful}
use Rattle.test_lane_lock.specs.declared.entry.Entry.{Entry}
use Rattle.test_lane_lock.specs.declared.entry.Request.{Request}
use Rattle.test_lane_lock.specs.declared.entry.Reply.{Reply}
use Rattle.test_lane_lock.specs.declared.entry.Reply.TheVariants.{Done, NoRoom}
use Rattle.test_lane_lock.specs.Tallies.{IsBefore, amount_of, places_by, calls_of, IsAdded, tally_ways}

-- of two beginnings of one list the shorter begins the longer
shorter : (xs ys all : List Entry) → IsBefore xs all → IsBefore ys all → length xs ≤ length ys → IsBefore xs ys
shorter [] ys all p q le = (ys, refl)
shorter (x ∷ xs) [] all p q le = absurd (omega arith)
shorter (x ∷ xs) (y ∷ ys) [] (zs, p) q le = absurd (cc)
shorter (x ∷ xs) (y ∷ ys) (a ∷ rest) (zs, p) (us, q) le =
    let x_is : x ≡ a = cc in
    let y_is : y ≡ a = cc in
    let p' : xs ++ zs ≡ rest = cc in
    let q' : ys ++ us ≡ rest = cc in
    let r = shorter xs ys rest (zs, p') (us, q') (omega arith) in
    (r.0, λ i. (x_is ∙ sym y_is) i ∷ r.1 i)

places_snoc : (caller place : ℕ) (es : List Entry) (e : Entry) → places_by caller place (es ++ e ∷ []) ≡ places_by caller place es ++ places_by caller (place + length es) (e ∷ [])
places_snoc caller place [] e = ap (λ n. places_by caller n (e ∷ [])) (omega arith)
places_snoc caller place (x ∷ xs) e =
    let r = places_snoc caller (place + 1) xs e in
    let n : place + 1 + length xs ≡ place + suc (length xs) = omega arith in
    let r' = r ∙ ap (λ k. places_by caller (place + 1) xs ++ places_by caller k (e ∷ [])) n in
    elim (eqb x.caller caller) as (λ (b : Bool). (if b then (x.amount, place) ∷ places_by caller (place + 1) (xs ++ e ∷ []) else places_by caller (place + 1) (xs ++ e ∷ []))
    ≡ (if b then (x.amount, place) ∷ places_by caller (place + 1) xs else places_by caller (place + 1) xs) ++ places_by caller (place + suc (length xs)) (e ∷ []))
    [ true ↦ ap (λ l. (x.amount, place) ∷ l) r' | false ↦ r' ]

calls_snoc : (cs : List (Call Request)) (c : Call Request) → calls_of (cs ++ c ∷ []) ≡ calls_of cs ++ (amount_of c.request, c.at) ∷ []
calls_snoc [] c = refl
calls_snoc (x ∷ xs) c = ap (λ l. (amount_of x.request, x.at) ∷ l) (calls_snoc xs c)

drop_before : (xs zs more : List Entry) → drop (length xs) ((xs ++ zs) ++ more) ≡ zs ++ more
drop_before [] zs more = refl
drop_before (x ∷ xs) zs more = drop_before xs zs more

drop_first : (xs zs : List Entry) → drop (length xs) (xs ++ zs) ≡ zs
drop_first [] zs = refl
drop_first (x ∷ xs) zs = drop_first xs zs

drop_all : (xs : List Entry) → drop (length xs) xs ≡ []
drop_all [] = refl
drop_all (x ∷ xs) = drop_all xs

-- the entries since the start, with one more
since : (start xs ys : List Entry) (e : Entry) → IsBefore start xs → ys ≡ xs ++ e ∷ [] → drop (length start) ys ≡ drop (length start) xs ++ e ∷ []
since start xs ys e (zs, p) is =
    ap (λ l. drop (length start) l) (is ∙ ap (λ l. l ++ e ∷ []) (sym p)) ∙ drop_before start zs (e ∷ [])
    ∙ ap (λ l. l ++ e ∷ []) (sym (drop_first start zs) ∙ ap (λ l. drop (length start) l) p)

since_length : (start xs : List Entry) → IsBefore start xs → length start + length (drop (length start) xs) ≡ length xs
since_length start xs (zs, p) =
    ap (λ l. length start + length l) (ap (λ l. drop (length start) l) (sym p) ∙ drop_first start zs) ∙ (sym (length-append start zs) ∙ ap (λ l. length l) p)

one_place : (caller place : ℕ) (e : Entry) → e.caller ≡ caller → places_by caller place (e ∷ []) ≡ (e.amount, place) ∷ []
one_place caller place e is = ap (λ (b : Bool). if b then (e.amount, place) ∷ [] else []) (eq-eqb e.caller caller is)

no_place : (caller place : ℕ) (e : Entry) → e.caller ≢ caller → places_by caller place (e ∷ []) ≡ []
no_place caller place e ne = ap (λ (b : Bool). if b then (e.amount, place) ∷ [] else []) (ne_eqb e.caller caller ne)

entry_of : ℕ → Request → Entry
entry_of caller request = record { caller = caller; amount = amount_of request }

own : (start xs ys : List Entry) (caller : ℕ) (request : Request) (mine : List (Call Request)) → IsBefore start xs → ys ≡ xs ++ entry_of caller request ∷ []
    → places_by caller (length start) (drop (length start) xs) ≡ calls_of mine
    → places_by caller (length start) (drop (length start) ys) ≡ calls_of (mine ++ record { request = request; at = length ys - 1 } ∷ [])
unfolding entry_of
own start xs ys caller request mine before is made =
    let e = entry_of caller request in
    let len : length ys ≡ length xs + 1 = ap (λ l. length l) is ∙ length-append xs (e ∷ []) in
    let at : length start + length (drop (length start) xs) ≡ length ys - 1 = since_length start xs before ∙ omega arith in
    ap (λ l. places_by caller (length start) l) (since start xs ys e before is)
    ∙ (places_snoc caller (length start) (drop (length start) xs) e
    ∙ ((λ i. made i ++ (one_place caller (length start + length (drop (length start) xs)) e refl ∙ ap (λ n. (amount_of request, n) ∷ []) at) i)
    ∙ sym (calls_snoc mine record { request = request; at = length ys - 1 })))

others : (start xs ys : List Entry) (caller other : ℕ) (request : Request) (mine : List (Call Request)) → IsBefore start xs → ys ≡ xs ++ entry_of caller request ∷ [] → other ≢ caller
    → places_by other (length start) (drop (length start) xs) ≡ calls_of mine → places_by other (length start) (drop (length start) ys) ≡ calls_of mine
unfolding entry_of
others start xs ys caller other request mine before is ne made =
    let e = entry_of caller request in
    ap (λ l. places_by other (length start) l) (since start xs ys e before is)
    ∙ (places_snoc other (length start) (drop (length start) xs) e
    ∙ ((λ i. places_by other (length start) (drop (length start) xs) ++ no_place other (length start + length (drop (length start) xs)) e (λ c. ne (sym c)) i)
    ∙ (append-nil (places_by other (length start) (drop (length start) xs)) ∙ made)))

grows : (x y : List Entry) (caller : ℕ) (request : Request) (reply : Reply) → IsAdded x y caller request reply
    → IsBefore x y × (length x < length y)
grows x y caller request (Done at sum) added =
    let e : Entry = record { caller = caller; amount = amount_of request } in
    let len : length y ≡ length x + 1 = ap (λ l. length l) added.0 ∙ length-append x (e ∷ []) in
    ((e ∷ [], sym added.0), omega arith)
grows x y caller request NoRoom bad = absurd bad

added_is : (xs ys : List Entry) (caller : ℕ) (request : Request) (reply : Reply) → IsAdded xs ys caller request reply → ys ≡ xs ++ entry_of caller request ∷ []
unfolding entry_of
added_is xs ys caller request (Done at sum) added = added.0
added_is xs ys caller request NoRoom bad = absurd bad

pub tally_lawful : IsLawful tally_ways
tally_lawful = record {
  same = λ x sound. ([], append-nil x);
  further = λ x y z p q. (p.0 ++ q.0, sym (append_assoc x p.0 q.0) ∙ (ap (λ t. t ++ q.0) p.1 ∙ q.1));
  either = λ x y now sx sy sn p q le. shorter x y now p q le;
  grows = λ x y caller request reply sound adds. (tt, (grows x y caller request reply adds).0, (grows x y caller request reply adds).1);
  none = λ x caller sound. ap (λ l. places_by caller (length x) l) (drop_all x);
  own = λ start x y caller request reply mine sound before adds made.
      own start x y caller request mine before (added_is x y caller request reply adds) made;
  others = λ start x y caller other request reply mine sound before adds ne made.
      others start x y caller other request mine before (added_is x y caller request reply adds) ne made;
}
