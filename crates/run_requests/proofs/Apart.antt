-- Later calls go on with none of the former ones.
use Rattle.std.proofs.Common.{◌≡◌, inl, inr, ℕ, ◌<◌, ◌==◌, ◌&&◌, Bool, true, false, List, [], ◌∷◌, ◌++◌, refl, sym, ◌∙◌, ap, subst, arith, ne_eqb}
use Rattle.std.proofs.lemmas.Bool.Decides.{nat_tests}
use Rattle.std.proofs.lemmas.List.Elements.{All-nil, All-cons, All-append, All-head, All-tail, All-weaker}
use Rattle.std.specs.Prelude.{if◌then◌else◌}
use Rattle.std.specs.List.{All}
use Rattle.run_specs.specs.history_the_Entry.{Entry}
use Rattle.run_specs.specs.history_Flat.{is_same_call, rest_of_call, next_number}
use Rattle.run_specs.specs.array_requests_Entered.{IsOfNewCall}
use Rattle.run_specs.proofs.array_requests_Entered.{never-falls}
use Rattle.run_specs.specs.States.{IsCaller, IsOwnEntry, AreByScript}

is-so : (c d : ℕ) → (c == d) ≡ true → c ≡ d
is-so c d is = grind (arith, nat_tests, is)

later : (c d n m : ℕ) → n < m → ((c == d) && (n == m)) ≡ false
later c d n m less = grind (arith, nat_tests, less)

-- the opening calls as nobody else
no-opening : (c : ℕ) → IsCaller c → c ≡ 254 → ⊥
no-opening c (inl script) opening = absurd (omega (arith, script, opening))
no-opening c (inr (inl first)) opening = absurd (omega (arith, first, opening))
no-opening c (inr (inr (inl second))) opening = absurd (omega (arith, second, opening))
no-opening c (inr (inr (inr worker))) opening = absurd (omega (arith, worker, opening))

none-of : (old new : List Entry) (e : Entry) (more : List Entry) → IsOwnEntry old e → All (IsOfNewCall old new) more → All (λ x. IsCaller x.caller) more → rest_of_call e more ≡ []
none-of old new e [] own calls callers = refl
none-of old new e (x ∷ more) own calls callers = ap (λ (t : Bool). if t then x ∷ rest_of_call e more else []) (other own)
  where
    first : IsOfNewCall old new x
    first = All-head (IsOfNewCall old new) x more calls

    whose : IsCaller x.caller
    whose = All-head (λ y. IsCaller y.caller) x more callers

    before : e.number < next_number e.caller old → (b : Bool) → (e.caller == x.caller) ≡ b → is_same_call e x ≡ false
    before lt true is = later e.caller x.caller e.number x.number (let same = ap (λ (c : ℕ). next_number c old) (is-so e.caller x.caller is) in omega (arith, lt, first.0, same))
    before lt false is = ap (λ (b : Bool). b && (e.number == x.number)) is

    other : IsOwnEntry old e → is_same_call e x ≡ false
    other (inl (caller, lt)) = before lt (e.caller == x.caller) refl
    other (inr (opening, number, absence)) = ap (λ (b : Bool). b && (e.number == x.number)) (ne_eqb e.caller x.caller (λ same. no-opening x.caller whose (sym same ∙ opening)))

module _ (old new more : List Entry) (grown : new ≡ old ++ more) (calls : All (IsOfNewCall old new) more) (callers : All (λ e. IsCaller e.caller) more) (was : AreByScript old old) where
  pub apart-all : All (λ e. rest_of_call e more ≡ []) old
  apart-all = All-weaker (IsOwnEntry old) (λ e. rest_of_call e more ≡ []) (λ e own. none-of old new e more own calls callers) old was

  own-still : (e : Entry) → IsOwnEntry old e → IsOwnEntry new e
  own-still e (inl (caller, lt)) = let rises = never-falls e.caller old more new grown calls in inl (caller, omega (arith, lt, rises))
  own-still e (inr found) = inr found

  own-more : (rest : List Entry) → All (IsOfNewCall old new) rest → All (λ e. IsCaller e.caller) rest → All (IsOwnEntry new) rest
  own-more [] calls callers = All-nil (IsOwnEntry new)
  own-more (e ∷ rest) calls callers =
      All-cons (IsOwnEntry new) e rest (inl (All-head (λ x. IsCaller x.caller) e rest callers, (All-head (IsOfNewCall old new) e rest calls).1))
      (own-more rest (All-tail (IsOfNewCall old new) e rest calls) (All-tail (λ x. IsCaller x.caller) e rest callers))

  pub own-all : AreByScript new new
  own-all =
      subst (λ (l : List Entry). All (IsOwnEntry new) l) (sym grown)
      (All-append (IsOwnEntry new) old more (All-weaker (IsOwnEntry old) (IsOwnEntry new) (λ e own. own-still e own) old was) (own-more more calls callers))
