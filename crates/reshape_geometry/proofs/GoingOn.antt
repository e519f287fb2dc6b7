-- From one window to the next: what is left of the windows, of their steps, and of the unit.
use Rattle.std.proofs.Common.{◌≡◌, ℕ, suc, ◌+◌, ◌-◌, ◌*◌, ◌/◌, ◌<◌, ◌≤◌, Bool, true, false, cond, min, List, [], ◌∷◌, Option, Some, None, sym, ap, subst, ◌∙◌, inl, inr, ◌⊎◌, arith}
use Rattle.std.specs.Prelude.{sum_by, MatchOption, IfSome}
use Rattle.std.specs.Int.{◌∣◌}
use Rattle.std.proofs.lemmas.Bool.{cases_lt, cases_eq, le-leb, eq-eqb}
use Rattle.std.proofs.lemmas.List.Sums.{sum_by-cons}
use Rattle.std.proofs.Math.Nat.{dvd-add, dvd_refl, dvd-mul_left}
use Rattle.raid_types.specs.declared.places.Shape.{Shape}
use Rattle.raid_types.specs.declared.places.Span.{Span}
use Rattle.reshape_geometry.specs.Geometry.{AreInForce, unit, list_end, ceiling, window, windows, next_windows, window_steps, zeroed_stripes, steps_of, beyond, IsOnUnit}
use Rattle.reshape_geometry.proofs.Divisions.{ceiling_of_multiple, ceiling_zero, ceiling_is}
use Rattle.reshape_geometry.proofs.Tilings.{forward_window, backward_window, window_ahead, window_behind, forward_list, backward_list, rest_ahead}
use Rattle.reshape_geometry.proofs.Valid.{bounded_pair}

-- what is left behind the next window
abbrev GoesOn : Shape → Shape → ℕ → Bool → ℕ → Option Span → Type 0
GoesOn old new size back position o =
    MatchOption o (windows old new size back position ≡ []) (λ span. windows old new size back position ≡ span ∷ windows old new size back (beyond back span))

some_left : (n u : ℕ) → 0 < u → 0 < n → ceiling n u ≡ suc (ceiling n u - 1)
some_left n u pu pn =
    elim (cases_eq (ceiling n u) 0) [ inl z ↦ absurd (omega (arith, ceiling_zero n u pu z, pn)) | inr nz ↦ omega (arith, nz) ]

none_left : (n u : ℕ) → 0 < u → n ≡ 0 → ceiling n u ≡ 0
none_left n u pu z = ceiling_is n u 0 pu (omega (arith, z)) (omega (arith, z, pu))

forward_goes_on : (old new : Shape) (size p : ℕ) → 0 < unit old new → p ≤ list_end old new size → GoesOn old new size false p (window old new size false p)
forward_goes_on old new size p pu le =
    elim (cases_lt p (list_end old new size)) [
      | inl lt ↦ (
          let n = ceiling (list_end old new size - p) (unit old new) - 1 in
          let some = some_left (list_end old new size - p) (unit old new) pu (omega (arith, lt)) in
          let r = rest_ahead p (unit old new) (list_end old new size) n pu some in
          let hi = min (p + unit old new) (list_end old new size) in
          let goes : windows old new size false p ≡ forward_window old new size p ∷ windows old new size false hi =
          ap (λ (k : ℕ). next_windows old new size false k p) some
          ∙ forward_list old new size n p lt
          ∙ ap (λ (k : ℕ). forward_window old new size p ∷ next_windows old new size false k hi) (sym r.3) in
          subst (GoesOn old new size false p) (sym (window_ahead old new size p lt)) goes)
      | inr ge ↦ (
          let none : window old new size false p ≡ None = ap (λ (b : Bool). cond b None (Some (forward_window old new size p))) (le-leb (list_end old new size) p ge) in
          let ends : windows old new size false p ≡ [] = ap (λ (k : ℕ). next_windows old new size false k p) (none_left (list_end old new size - p) (unit old new) pu (omega (arith, ge))) in
          subst (GoesOn old new size false p) (sym none) ends)
    ]

backward_goes_on : (old new : Shape) (size p : ℕ) → 0 < unit old new → GoesOn old new size true p (window old new size true p)
backward_goes_on old new size p pu =
    elim (cases_eq p 0) [
      | inl z ↦ (
          let none : window old new size true p ≡ None = ap (λ (b : Bool). cond b None (Some (backward_window old new ((p - 1) / unit old new) p))) (eq-eqb p 0 z) in
          let ends : windows old new size true p ≡ [] = ap (λ (k : ℕ). next_windows old new size true k p) (none_left p (unit old new) pu z) in
          subst (GoesOn old new size true p) (sym none) ends)
      | inr nz ↦ (
          let n = ceiling p (unit old new) - 1 in
          let some = some_left p (unit old new) pu (omega (arith, nz)) in
          let goes : windows old new size true p ≡ backward_window old new n p ∷ windows old new size true (n * unit old new) =
          ap (λ (k : ℕ). next_windows old new size true k p) some
          ∙ backward_list old new size n p pu some
          ∙ ap (λ (k : ℕ). backward_window old new n p ∷ next_windows old new size true k (n * unit old new)) (sym (ceiling_of_multiple n (unit old new) pu)) in
          subst (GoesOn old new size true p) (sym (window_behind old new size p n pu some)) goes)
    ]

pub goes_on : (old new : Shape) (size : ℕ) (back : Bool) (p : ℕ) → AreInForce old new size → p ≤ list_end old new size → GoesOn old new size back p (window old new size back p)
goes_on old new size true p f le = backward_goes_on old new size p (bounded_pair old new size f).some_unit
goes_on old new size false p f le = forward_goes_on old new size p (bounded_pair old new size f).some_unit le

sums_fall : (new : Shape) (o : Option Span) (spans : List Span) (rest : Span → List Span) (z : ℕ)
    → MatchOption o (spans ≡ []) (λ span. spans ≡ span ∷ rest span)
    → MatchOption o (sum_by (window_steps new) spans + z + 1 ≡ z + 1) (λ span. sum_by (window_steps new) spans + z + 1 ≡ window_steps new span + (sum_by (window_steps new) (rest span) + z + 1))
sums_fall new None spans rest z e = ap (λ (l : List Span). sum_by (window_steps new) l + z + 1) e ∙ omega arith
sums_fall new (Some span) spans rest z e = ap (λ (l : List Span). sum_by (window_steps new) l + z + 1) e ∙ ap (λ (x : ℕ). x + z + 1) (sum_by-cons (window_steps new) span (rest span)) ∙ omega arith

pub steps_fall : (old new : Shape) (size : ℕ) (back : Bool) (p : ℕ) → AreInForce old new size → p ≤ list_end old new size
    → MatchOption (window old new size back p) (steps_of old new size back p ≡ zeroed_stripes old new size back + 1) (λ span. steps_of old new size back p ≡ window_steps new span + steps_of old new size back (beyond back span))
steps_fall old new size back p f le =
    sums_fall new (window old new size back p) (windows old new size back p) (λ span. windows old new size back (beyond back span)) (zeroed_stripes old new size back) (goes_on old new size back p f le)

-- ---- on the unit

ahead_on_unit : (p u e : ℕ) → p < e → (u ∣ p) ⊎ (p ≡ e) → (u ∣ min (p + u) e) ⊎ (min (p + u) e ≡ e)
ahead_on_unit p u e lt at =
    elim (cases_lt e (p + u)) [
      | inl past ↦ inr (omega (arith, past))
      | inr fits ↦ elim at [
        | inl d ↦ (let same : p + u ≡ min (p + u) e = omega (arith, fits) in inl (subst (λ (x : ℕ). u ∣ x) same (dvd-add u d (dvd_refl u))))
        | inr ends ↦ absurd (omega (arith, ends, lt))
      ]
    ]

pub keeps_the_unit : (old new : Shape) (size : ℕ) (back : Bool) (p : ℕ) → AreInForce old new size → p ≤ list_end old new size → IsOnUnit old new size p
    → IfSome (window old new size back p) (λ span. IsOnUnit old new size (beyond back span))
keeps_the_unit old new size false p f le at =
    elim (cases_lt p (list_end old new size)) [
      | inl lt ↦ subst (λ (o : Option Span). IfSome o (λ span. IsOnUnit old new size (beyond false span))) (sym (window_ahead old new size p lt)) (ahead_on_unit p (unit old new) (list_end old new size) lt at)
      | inr ge ↦ (
          let none : window old new size false p ≡ None = ap (λ (b : Bool). cond b None (Some (forward_window old new size p))) (le-leb (list_end old new size) p ge) in
          subst (λ (o : Option Span). IfSome o (λ span. IsOnUnit old new size (beyond false span))) (sym none) tt)
    ]
keeps_the_unit old new size true p f le at =
    elim (cases_eq p 0) [
      | inl z ↦ (
          let none : window old new size true p ≡ None = ap (λ (b : Bool). cond b None (Some (backward_window old new ((p - 1) / unit old new) p))) (eq-eqb p 0 z) in
          subst (λ (o : Option Span). IfSome o (λ span. IsOnUnit old new size (beyond true span))) (sym none) tt)
      | inr nz ↦ (
          let n = ceiling p (unit old new) - 1 in
          let pu = (bounded_pair old new size f).some_unit in
          let some = some_left p (unit old new) pu (omega (arith, nz)) in
          subst (λ (o : Option Span). IfSome o (λ span. IsOnUnit old new size (beyond true span))) (sym (window_behind old new size p n pu some)) (inl (dvd-mul_left (unit old new) n)))
    ]
