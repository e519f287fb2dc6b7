-- The front of a list is copied to a buffer's front, and the position moves on.
use Rattle.std.proofs.Common.{◌≡◌, ℕ, ◌+◌, ◌-◌, ◌<◌, min, List, ◌++◌, length, take, drop, Ok, refl, ap, sym, ◌∙◌, arith}
use Rattle.std.proofs.lemmas.List.{take-append-drop, take_at, take_all, length-take-le, length-drop, nil_from_length, drop-drop}
use Rattle.script_io.specs.Moves.{Pulled}

-- a slice from a place on
tail_of : (xs whole : List ℕ) (p : ℕ) → whole ≡ xs → take (length whole - p) (drop p whole) ≡ drop p xs
tail_of xs whole p same =
    take_all (length whole - p) (drop p whole) (let e = length-drop p whole in omega arith)
    ∙ ap (drop p) same

moved_on : {E : Type 0} (xs left into buffer : List ℕ) (p n : ℕ) → left ≡ drop p xs → 0 < length into → n ≡ min (length left) (length into)
    → buffer ≡ take n left ++ drop n into → Pulled {E = E} (Unit {0}) (Ok n) left (drop (p + n) xs) buffer
moved_on xs left into buffer p n is_left some count after = record {
  moved = λ _. sym (take-append-drop n left)
      ∙ ap (λ front. front ++ drop n left) (sym (take_at (take n left) (drop n into) n (length-take-le n left (omega arith))))
      ∙ ap (λ bs. take n bs ++ drop n left) (sym after)
      ∙ ap (λ rest. take n buffer ++ rest) (ap (drop n) is_left ∙ drop-drop n p xs);
  ended = λ _ zero. nil_from_length left (omega arith);
  kept = λ _. tt;
}

pub pulled_ok : {E : Type 0} (xs whole into buffer : List ℕ) (p n : ℕ) → whole ≡ xs → 0 < length into
    → n ≡ min (length (take (length whole - p) (drop p whole))) (length into)
    → buffer ≡ take n (take (length whole - p) (drop p whole)) ++ drop n into → Pulled {E = E} (Unit {0}) (Ok n) (drop p xs) (drop (p + n) xs) buffer
pulled_ok xs whole into buffer p n same some count after =
    let e = tail_of xs whole p same in
    moved_on xs (drop p xs) into buffer p n refl some (count ∙ ap (λ l. min (length l) (length into)) e)
    (after ∙ ap (λ l. take n l ++ drop n into) e)
