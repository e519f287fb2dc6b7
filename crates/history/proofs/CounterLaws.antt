-- What writing and appending a counter does to the numbers that are kept.
use Rattle.std.proofs.Common.{◌≡◌, ◌≢◌, ℕ, suc, ◌<◌, ◌≤◌, ◌==◌, Bool, true, false, if◌then◌else◌, List, [], ◌∷◌, ◌++◌, length, slice_set, refl, ◌∙◌, sym, arith}
use Rattle.std.proofs.lemmas.Bool.Decides.{nat_tests}
use Rattle.history.specs.declared.entries.Counter.{Counter}
use Rattle.history.specs.EntryList.{counted, counter_place}

-- what is counted once this counter is in place
abbrev pub then_counted : Counter → List Counter → ℕ → ℕ
then_counted new counters caller = if new.caller == caller then new.next else counted counters caller

pub counted-set : (counters : List Counter) (new : Counter) (caller : ℕ) → counter_place counters new.caller < length counters
    → counted (slice_set counters (counter_place counters new.caller) new) caller ≡ then_counted new counters caller
counted-set [] new caller lt = absurd (omega (arith, lt))
counted-set (c ∷ counters) new caller lt =
    by (c.caller == new.caller) refl lt (λ less. counted-set counters new caller less)
  where
    P : ℕ → Type 0
    P place = counted (slice_set (c ∷ counters) place new) caller ≡ then_counted new (c ∷ counters) caller

    by : (b : Bool) → (c.caller == new.caller) ≡ b → (if b then 0 else suc (counter_place counters new.caller)) < suc (length counters)
        → (counter_place counters new.caller < length counters → counted (slice_set counters (counter_place counters new.caller) new) caller ≡ then_counted new counters caller)
        → P (if b then 0 else suc (counter_place counters new.caller))
    by true e lt more = grind (arith, nat_tests)
    by false e lt more = let ih = more (omega (arith, lt)) in grind (arith, nat_tests, ih)

pub counted-push : (counters : List Counter) (new : Counter) (caller : ℕ) → length counters ≤ counter_place counters new.caller
    → counted (counters ++ new ∷ []) caller ≡ then_counted new counters caller
counted-push [] new caller le = refl
counted-push (c ∷ counters) new caller le = by (c.caller == new.caller) refl le (λ less. counted-push counters new caller less)
  where
    by : (b : Bool) → (c.caller == new.caller) ≡ b → suc (length counters) ≤ (if b then 0 else suc (counter_place counters new.caller))
        → (length counters ≤ counter_place counters new.caller → counted (counters ++ new ∷ []) caller ≡ then_counted new counters caller)
        → counted ((c ∷ counters) ++ new ∷ []) caller ≡ then_counted new (c ∷ counters) caller
    by true e le more = absurd (omega (arith, le))
    by false e le more = let ih = more (omega (arith, le)) in grind (arith, nat_tests, ih)

-- the counter of this caller, and those of others, once it is written in its place
pub counted_own-set : (counters : List Counter) (caller n place : ℕ) → place ≡ counter_place counters caller → place < length counters
    → counted (slice_set counters place (record { caller = caller; next = n })) caller ≡ n
counted_own-set counters caller n place at lt =
    let new : Counter = record { caller = caller; next = n } in
    rw at (counted-set counters new caller (rw (sym at) lt) ∙ own new caller refl)
  where
    own : (new : Counter) (caller : ℕ) → new.caller ≡ caller → then_counted new counters caller ≡ new.next
    own new caller e = grind (arith, nat_tests, e)

pub counted_other-set : (counters : List Counter) (caller n place c : ℕ) → place ≡ counter_place counters caller → place < length counters → c ≢ caller
    → counted (slice_set counters place (record { caller = caller; next = n })) c ≡ counted counters c
counted_other-set counters caller n place c at lt ne =
    let new : Counter = record { caller = caller; next = n } in
    rw at (counted-set counters new c (rw (sym at) lt) ∙ other new c ne)
  where
    other : (new : Counter) (c : ℕ) → c ≢ new.caller → then_counted new counters c ≡ counted counters c
    other new c ne = grind (arith, nat_tests, ne)

-- the same, once it is appended
pub counted_own-push : (counters : List Counter) (caller n : ℕ) → length counters ≤ counter_place counters caller
    → counted (counters ++ record { caller = caller; next = n } ∷ []) caller ≡ n
counted_own-push counters caller n le =
    let new : Counter = record { caller = caller; next = n } in counted-push counters new caller le ∙ own new caller refl
  where
    own : (new : Counter) (caller : ℕ) → new.caller ≡ caller → then_counted new counters caller ≡ new.next
    own new caller e = grind (arith, nat_tests, e)

pub counted_other-push : (counters : List Counter) (caller n c : ℕ) → length counters ≤ counter_place counters caller → c ≢ caller
    → counted (counters ++ record { caller = caller; next = n } ∷ []) c ≡ counted counters c
counted_other-push counters caller n c le ne =
    let new : Counter = record { caller = caller; next = n } in counted-push counters new c le ∙ other new c ne
  where
    other : (new : Counter) (c : ℕ) → c ≢ new.caller → then_counted new counters c ≡ counted counters c
    other new c ne = grind (arith, nat_tests, ne)
