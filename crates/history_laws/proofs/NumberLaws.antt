-- Numbers of calls in a legal history, and marks that are safe throughout.
use Rattle.std.proofs.Common.{◌≡◌, inl, inr, ℕ, ◌+◌, Bool, true, false, not, ◌&&◌, ◌==◌, cond, List, [], ◌∷◌, ◌++◌, refl, sym, ap, ◌∙◌, Option, Some, None, unwrap_or, fold, append_assoc, append-nil, eqb-true, arith}
use Rattle.history.specs.declared.events.Entry.{Entry}
use Rattle.history.specs.Flat.{last_of, next_number, number_after}
use Rattle.history.specs.World.{World}
use Rattle.history.specs.Legal.{AreLegal, IsNumbered, GoesOn}
use Rattle.history.specs.Growing.{SafeThroughoutSuffices, NumbersCountCalls, goes_on, calls_from}

pub safe-throughout : SafeThroughoutSuffices
safe-throughout world entries last within safe mark low high only = safe mark low (omega (arith, within, high))

-- ---- a caller's next number

both : (a b : Bool) → (a && b) ≡ true → (a ≡ true) × (b ≡ true)
both true b e = (refl, e)
both false b e = absurd (cc)

-- one more entry
next-more : (caller n : ℕ) (before : List Entry) (e : Entry)
    → fold (number_after caller) n (before ++ e ∷ []) ≡ number_after caller (fold (number_after caller) n before) e
next-more caller n [] e = refl
next-more caller n (x ∷ before) e = next-more caller (number_after caller n x) before e

last-more : (before : List Entry) (e : Entry) → last_of (before ++ e ∷ []) ≡ Some e
last-more [] e = refl
last-more (x ∷ before) e = ap (λ found. Some (unwrap_or found x)) (last-more before e)

-- the last entry's caller goes on behind its number
module _ (caller : ℕ) where
  after-last : (before : List Entry) (n : ℕ) (last : Entry) → last_of before ≡ Some last → (last.caller == caller) ≡ true
      → fold (number_after caller) n before ≡ last.number + 1
  after-last [] n last is same = absurd (cc)
  after-last (e ∷ before) n last is same = by_rest (last_of before) refl is (after-last before (number_after caller n e) last)
    where
      alone : (before : List Entry) → last_of before ≡ None → before ≡ []
      alone [] none = refl
      alone (x ∷ before) none = absurd (cc)

      by_rest : (found : Option Entry) → last_of before ≡ found → Some (unwrap_or found e) ≡ Some last
          → (last_of before ≡ Some last → (last.caller == caller) ≡ true → fold (number_after caller) (number_after caller n e) before ≡ last.number + 1)
          → fold (number_after caller) (number_after caller n e) before ≡ last.number + 1
      by_rest (Some l) found is more = more (found ∙ is) same
      by_rest None found is more =
          let one : e ≡ last = same_some is in
          ap (λ l. fold (number_after caller) (number_after caller n e) l) (alone before found)
          ∙ ap (λ b. cond b (e.number + 1) n) (ap (λ x. x.caller == caller) one ∙ same)
          ∙ ap (λ x. x.number + 1) one
        where
          same_some : Some e ≡ Some last → e ≡ last
          same_some s = cc

  -- one entry: its caller's number rises by one where it begins a call
  one-entry : (before : List Entry) (e : Entry) → IsNumbered before e
      → number_after caller (next_number caller before) e ≡ next_number caller before + cond ((e.caller == caller) && not (goes_on (last_of before) e)) 1 0
  one-entry before e numbered = by_tests (e.caller == caller) (goes_on (last_of before) e) refl refl
    where
      goes : (found : Option Entry) → last_of before ≡ found → goes_on found e ≡ true → (e.caller == caller) ≡ true → e.number + 1 ≡ next_number caller before
      goes None is on mine = absurd (cc)
      goes (Some last) is on mine =
          let parts : ((last.caller == e.caller) ≡ true) × ((last.number == e.number) ≡ true) = both (last.caller == e.caller) (last.number == e.number) on in
          let same : last.caller ≡ e.caller = eqb-true last.caller e.caller parts.0 in
          let number : last.number ≡ e.number = eqb-true last.number e.number parts.1 in
          let next : next_number caller before ≡ last.number + 1 = after-last before 0 last is (ap (λ c. c == caller) same ∙ mine) in
          omega (arith, next, number)

      begins : goes_on (last_of before) e ≡ false → e.number ≡ next_number e.caller before
      begins off = elim numbered [
        | inl on ↦ absurd (contrary (last_of before) on off)
        | inr number ↦ number
      ]
        where
          contrary : (found : Option Entry) → GoesOn found e → goes_on found e ≡ false → ⊥
          contrary None on off = on
          contrary (Some last) on off = absurd (cc)

      by_tests : (mine on : Bool) → (e.caller == caller) ≡ mine → goes_on (last_of before) e ≡ on
          → cond mine (e.number + 1) (next_number caller before) ≡ next_number caller before + cond (mine && not on) 1 0
      by_tests true true mine on = goes (last_of before) refl on mine ∙ omega arith
      by_tests true false mine on =
          let number : e.number ≡ next_number e.caller before = begins on in
          let same : e.caller ≡ caller = eqb-true e.caller caller mine in
          ap (λ n. n + 1) (number ∙ ap (λ c. next_number c before) same)
      by_tests false on mine goes = omega arith

  counted-from : (world : World) (before entries : List Entry) → AreLegal world before entries
      → next_number caller (before ++ entries) ≡ next_number caller before + calls_from caller (last_of before) entries
  counted-from world before [] legal = ap (λ l. next_number caller l) (append-nil before) ∙ omega arith
  counted-from world before (e ∷ entries) legal =
      let rest : next_number caller ((before ++ e ∷ []) ++ entries) ≡ next_number caller (before ++ e ∷ []) + calls_from caller (last_of (before ++ e ∷ [])) entries =
      counted-from world (before ++ e ∷ []) entries legal.1 in
      let one : next_number caller (before ++ e ∷ []) ≡ next_number caller before + cond ((e.caller == caller) && not (goes_on (last_of before) e)) 1 0 =
      next-more caller 0 before e ∙ one-entry before e legal.0.numbered in
      let behind : calls_from caller (last_of (before ++ e ∷ [])) entries ≡ calls_from caller (Some e) entries =
      ap (λ found. calls_from caller found entries) (last-more before e) in
      sym (ap (λ l. next_number caller l) (append_assoc before (e ∷ []) entries)) ∙ rest ∙ omega (arith, one, behind)

pub numbers-count : NumbersCountCalls
numbers-count world entries caller legal = counted-from caller world [] entries legal ∙ omega arith
