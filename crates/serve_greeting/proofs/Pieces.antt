-- Pieces that are pushed one behind the other.
use Rattle.std.proofs.Common.{◌≡◌, ℕ, ◌+◌, List, ◌++◌, length, take, drop, Result, Ok, Err, OnOk, IsErr, refl, sym, ap, subst, ◌∙◌, append_assoc}
use Rattle.std.proofs.lemmas.List.{take-append-drop, take_at}
use Rattle.std.proofs.Math.Seq.{take-append-add}
use Rattle.script_io.specs.Moves.{Pushed}

on_ok : {T E : Type 0} {P Q : Type 0} (r : Result T E) → (P → Q) → OnOk r P → OnOk r Q
on_ok (Ok x) f h = f h
on_ok (Err e) f h = tt

both : {T U E F : Type 0} (tells : Type 0) (old mid new a b : List ℕ) (x : T) (r : Result U F) → Pushed {T = T} {E = E} tells (Ok x) old mid a
    → Pushed {T = U} {E = F} tells r mid new b → Pushed {T = U} {E = F} tells r old new (a ++ b)
both tells old mid new a b x r first second = record {
  whole = λ t. on_ok r (λ e. e ∙ ap (λ l. l ++ b) (first.whole t) ∙ append_assoc old a b) (second.whole t);
  front = λ t.
      let some = second.front t in (
        length a + some.0,
        some.1
            ∙ ap (λ l. l ++ take some.0 b) (first.whole t)
            ∙ append_assoc old a (take some.0 b)
            ∙ ap (λ l. old ++ l) (sym (take-append-add a b some.0)),
      );
}

part : {T U E F : Type 0} (tells : Type 0) (old new a b : List ℕ) (e : E) (f : F) → Pushed {T = T} {E = E} tells (Err e) old new a
    → Pushed {T = U} {E = F} tells (Err f) old new (a ++ b)
part tells old new a b e f first = record {
  whole = λ t. tt;
  front = λ t.
      let some = first.front t in
      let p = take some.0 a in
      let q = drop some.0 a in (
        length p,
        some.1
            ∙ ap (λ l. old ++ l)
            (sym (take_at p (q ++ b) (length p) refl)
            ∙ ap (take (length p)) (sym (append_assoc p q b) ∙ ap (λ l. l ++ b) (take-append-drop some.0 a))),
      );
}

-- the first piece was taken, and then what a second call tells of the other
pub pushed_then : {T U E F : Type 0} (tells : Type 0) (old mid new piece a b : List ℕ) (x : T) (r : Result U F) → piece ≡ a ++ b
    → Pushed {T = T} {E = E} tells (Ok x) old mid a → Pushed {T = U} {E = F} tells r mid new b → Pushed {T = U} {E = F} tells r old new piece
pushed_then {T} {U} {E} {F} tells old mid new piece a b x r e first second =
    subst (λ (l : List ℕ). Pushed {T = U} {E = F} tells r old new l) (sym e) (both tells old mid new a b x r first second)

-- the sink failed at the first piece
pub pushed_part : {T U E F : Type 0} (tells : Type 0) (old new piece a b : List ℕ) (e : E) (r : Result U F) → IsErr r → piece ≡ a ++ b
    → Pushed {T = T} {E = E} tells (Err e) old new a → Pushed {T = U} {E = F} tells r old new piece
pushed_part tells old new piece a b e (Ok y) failed is first = absurd cc
pushed_part {T} {U} {E} {F} tells old new piece a b e (Err f) failed is first =
    subst (λ (l : List ℕ). Pushed {T = U} {E = F} tells (Err f) old new l) (sym is) (part tells old new a b e f first)
