-- What each sector of the list holds, by a history that may change the length.
use Rattle.std.proofs.Common.{◌≡◌, inl, ℕ, zero, suc, ◌+◌, ◌<◌, ◌≤◌, Bool, true, false, cond, nat_lt, Option, Some, None, List, [], ◌∷◌, ◌++◌, length, take, drop, fold, min, refl, sym, ◌∙◌, ap, subst, arith, append_assoc, append-nil}
use Rattle.std.specs.Option.{option_map_or}
use Rattle.std.proofs.lemmas.Bool.Decides.{nat_tests}
use Rattle.array_call_specs.specs.raid_types_Sectors.{Sector}
use Rattle.array_call_specs.specs.bank_Tape.{IsIn}
use Rattle.array_call_specs.specs.history_the_Entry.{Entry}
use Rattle.array_call_specs.specs.history_the_Event.{Event}
use Rattle.array_call_specs.specs.history_the_Event_TheVariants.{Wrote, Torn, Flushed, Resized, Stopped}
use Rattle.array_call_specs.specs.history_Flat.{is_same_call, rest_of_call, length_after, length_of, limit_of, visible_of, covers, sector_at, behind, resized, values_after, first_values, values_of, now}
use Rattle.array_call_specs.specs.history_Legal.{call_end, IsLegalEvent, AreLegal, IsLegal}
use Rattle.array_call_specs.specs.history_Transfers.{last_end_from}
use Rattle.array_call_specs.specs.history_World.{World, until, opening_list}
use Rattle.array_call_specs.proofs.history_OneShapeLegal.{list-until}
use Rattle.array_call_specs.proofs.LedgerLaws.{HasNewest, first-newest}
use Rattle.history_invariant.proofs.Entered.{AreAdding, lengths-stay, all-stay, values-more, length-more}
use Rattle.history_invariant.proofs.Records.{end-snoc}

-- ---- the newest value

in-length : (x n : ℕ) → x < n → nat_lt x n ≡ true
in-length x n lt = grind (arith, nat_tests, lt)

wrote-newest : (b : Bool) (new : Sector) (values : List Sector) → HasNewest values → HasNewest (cond b (new ∷ values) values)
wrote-newest true new values has = inl refl
wrote-newest false new values has = has

torn-newest : (b : Bool) (new : Sector) (values : List Sector) → HasNewest values → HasNewest (cond b (behind new values) values)
torn-newest false new values has = has
torn-newest true new [] has = absurd has
torn-newest true new (w ∷ values) has = inl refl

first-one : (values : List Sector) → HasNewest values → HasNewest (take 1 values)
first-one [] has = absurd has
first-one (w ∷ values) has = inl refl

resized-newest : (values : List Sector) → HasNewest (resized true values)
resized-newest [] = inl refl
resized-newest (w ∷ values) = inl refl

event-newest : (n x : ℕ) (values : List Sector) (event : Event) → (x < n → HasNewest values) → x < length_after n event → HasNewest (values_after x values event)
event-newest n x values (Wrote at body) was lt = wrote-newest (covers at body x) (sector_at at body x) values (was lt)
event-newest n x values (Torn at body) was lt = torn-newest (covers at body x) (sector_at at body x) values (was lt)
event-newest n x values Flushed was lt = first-one values (was lt)
event-newest n x values Stopped was lt = first-one values (was lt)
event-newest n x values (Resized m) was lt = subst (λ (b : Bool). HasNewest (resized b values)) (sym (in-length x m lt)) (resized-newest values)
event-newest n x values event was lt = was lt

entries-newest : (xs : List Entry) (n x : ℕ) (values : List Sector) → (x < n → HasNewest values) → x < length_of n xs → HasNewest (fold (λ values e. values_after x values e.event) values xs)
entries-newest [] n x values was lt = was lt
entries-newest (e ∷ xs) n x values was lt = entries-newest xs (length_after n e.event) x (values_after x values e.event) (event-newest n x values e.event was) lt

-- Each sector of the list may have what it has now.
pub newest-in : (list : List Sector) (entries : List Entry) (x : ℕ) → x < length_of (length list) entries → IsIn (values_of list entries x) (now list entries x)
unfolding values_of
newest-in list entries x lt = entries-newest entries (length list) x (first_values list x) (first-newest list x) lt

-- ---- a change of length, with entries behind it that only add

module _ (entries : List Entry) (e : Entry) (n : ℕ) (added : List Entry) (is : e.event ≡ Resized n) (adds : AreAdding added) where
  -- the list has that length
  pub resized-length : (m : ℕ) → length_of m (entries ++ e ∷ added) ≡ n
  resized-length m =
      length-more m entries (e ∷ added) ∙ ap (λ (event : Event). length_of (length_after (length_of m entries) event) added) is ∙ lengths-stay n added adds

  values-resized : (list : List Sector) (x : ℕ) → x < n → values_of list (entries ++ e ∷ added) x ≡ fold (λ values e. values_after x values e.event) (resized true (values_of list entries x)) added
  values-resized list x lt =
      values-more list entries (e ∷ added) x
      ∙ ap (λ (event : Event). fold (λ values e. values_after x values e.event) (values_after x (values_of list entries x) event) added) is
      ∙ ap (λ (b : Bool). fold (λ values e. values_after x values e.event) (resized b (values_of list entries x)) added) (in-length x n lt)

  resized-keeps : (values : List Sector) (v : Sector) → IsIn values v → IsIn (resized true values) v
  resized-keeps [] v may = absurd may
  resized-keeps (w ∷ values) v may = may

  -- a sector that both lists have keeps each value that it may have
  pub resized-values : (list : List Sector) (x : ℕ) (v : Sector) → x < n → IsIn (values_of list entries x) v → IsIn (values_of list (entries ++ e ∷ added) x) v
  resized-values list x v lt may =
      subst (λ (l : List Sector). IsIn l v) (sym (values-resized list x lt)) (all-stay x added (resized true (values_of list entries x)) v adds (resized-keeps (values_of list entries x) v may))

-- ---- past the end

past-length : (x n : ℕ) → n ≤ x → nat_lt x n ≡ false
past-length x n le = grind (arith, nat_tests, le)

not-covered : (at : ℕ) (body : List Sector) (x : ℕ) → at + length body ≤ x → covers at body x ≡ false
not-covered at body x le = grind (arith, nat_tests, le)

visible-within : (n : ℕ) (before : List Entry) → visible_of n before ≤ length_of n before
visible-within n before = by (limit_of before)
  where
    by : (o : Option ℕ) → option_map_or (λ limit. min limit (length_of n before)) o (length_of n before) ≤ length_of n before
    by None = omega arith
    by (Some limit) = omega arith

event-past : (n x : ℕ) (before : List Entry) (event : Event) (list : List Sector) → ((at : ℕ) (body : List Sector) → event ≡ Wrote at body → at + length body ≤ length_of n before)
    → (length_of n before ≤ x → values_of list before x ≡ []) → length_after (length_of n before) event ≤ x → values_after x (values_of list before x) event ≡ []
event-past n x before (Wrote at body) list within was le =
    let inside : at + length body ≤ length_of n before = within at body refl in
    ap (λ (b : Bool). cond b (sector_at at body x ∷ values_of list before x) (values_of list before x)) (not-covered at body x (omega (arith, inside, le))) ∙ was le
event-past n x before (Torn at body) list within was le = ap (λ (l : List Sector). cond (covers at body x) (behind (sector_at at body x) l) l) (was le) ∙ none (covers at body x)
  where
    none : (b : Bool) → cond b (behind (sector_at at body x) []) [] ≡ []
    none true = refl
    none false = refl
event-past n x before Flushed list within was le = ap (λ (l : List Sector). take 1 l) (was le)
event-past n x before Stopped list within was le = ap (λ (l : List Sector). take 1 l) (was le)
event-past n x before (Resized m) list within was le = ap (λ (b : Bool). resized b (values_of list before x)) (past-length x m le)
event-past n x before event list within was le = was le

-- the entries behind one end at it or later
rest-later : (world : World) (before : List Entry) (of e : Entry) (xs : List Entry) → AreLegal world (before ++ e ∷ []) xs → e.end ≤ call_end e (rest_of_call of xs)
rest-later world before of e [] are = omega arith
rest-later world before of e (x ∷ xs) are = by (is_same_call of x) (rest-later world (before ++ e ∷ []) of x xs are.1)
  where
    by : (b : Bool) → x.end ≤ call_end x (rest_of_call of xs) → e.end ≤ call_end e (cond b (x ∷ rest_of_call of xs) [])
    by true later =
        let rises : last_end_from world.first (before ++ e ∷ []) ≤ x.end = are.0.timed.rises in
        let at : last_end_from world.first (before ++ e ∷ []) ≡ e.end = end-snoc world.first before e in
        omega (arith, rises, at, later)
    by false later = omega arith

-- a legal write ends within the list
wrote-within : (world : World) (m : ℕ) (before : List Entry) (e : Entry) (rest : List Entry) (event : Event) → world.first ≤ m → IsLegalEvent (until m world) before e rest event → (at : ℕ) (body : List Sector) → event ≡ Wrote at body
    → at + length body ≤ length_of (length (opening_list world)) before
wrote-within world m before e rest event low legal at body is =
    let within : at + length body ≤ visible_of (length (opening_list (until m world))) before = subst (λ (event : Event). IsLegalEvent (until m world) before e rest event) is legal in
    let same : visible_of (length (opening_list (until m world))) before ≡ visible_of (length (opening_list world)) before = ap (λ (l : List Sector). visible_of (length l) before) (list-until world m low) in
    let most = visible-within (length (opening_list world)) before in
    omega (arith, within, same, most)

past-from : (world : World) (x : ℕ) (before xs : List Entry) → AreLegal world before xs → world.first ≤ last_end_from world.first before
    → (length_of (length (opening_list world)) before ≤ x → values_of (opening_list world) before x ≡ []) → length_of (length (opening_list world)) (before ++ xs) ≤ x → values_of (opening_list world) (before ++ xs) x ≡ []
past-from world x before [] are low was = subst (λ (l : List Entry). length_of (length (opening_list world)) l ≤ x → values_of (opening_list world) l x ≡ []) (sym (append-nil before)) was
past-from world x before (e ∷ xs) are low was =
    let rises : last_end_from world.first before ≤ e.end = are.0.timed.rises in
    let later = rest-later world before e e xs are.1 in
    let at : last_end_from world.first (before ++ e ∷ []) ≡ e.end = end-snoc world.first before e in
    subst (λ (l : List Entry). length_of (length (opening_list world)) l ≤ x → values_of (opening_list world) l x ≡ []) (append_assoc before (e ∷ []) xs)
    (past-from world x (before ++ e ∷ []) xs are.1 (omega (arith, low, rises, at))
    (λ le. values-more (opening_list world) before (e ∷ []) x
    ∙ event-past (length (opening_list world)) x before e.event (opening_list world)
    (wrote-within world (call_end e (rest_of_call e xs)) before e (rest_of_call e xs) e.event (omega (arith, low, rises, later)) are.0.event) was
    (subst (λ (m : ℕ). m ≤ x) (length-more (length (opening_list world)) before (e ∷ [])) le)))

first-past : (list : List Sector) (x : ℕ) → length list ≤ x → take 1 (drop x list) ≡ []
first-past [] zero le = refl
first-past [] (suc x) le = refl
first-past (w ∷ list) zero le = absurd (omega (arith, le))
first-past (w ∷ list) (suc x) le = first-past list x (omega (arith, le))

-- A sector past the end of a legal history's list has no value.
pub past-none : (world : World) (entries : List Entry) → IsLegal world entries → (x : ℕ) → length_of (length (opening_list world)) entries ≤ x → values_of (opening_list world) entries x ≡ []
unfolding values_of
past-none world entries legal x = past-from world x [] entries legal (omega arith) (first-past (opening_list world) x)
