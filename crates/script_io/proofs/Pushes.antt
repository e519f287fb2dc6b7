-- A piece is written bit by bit: what of it was appended, and what is left.
use Rattle.std.proofs.Common.{◌≡◌, ℕ, ◌-◌, List, [], ◌++◌, length, take, drop, None, Some, Option, IsSome, Ok, Err, sym, ap, ◌∙◌, append_assoc, append-nil, take-append-drop}
use Rattle.std.proofs.lemmas.List.{take_rest}
use Rattle.std.proofs.Math.Seq.{take-append_seam}
use Rattle.std.specs.Io.KnownBytes.{Appends, Keeps}
use Rattle.std.proofs.KnownBytes.{Appends-trans, Appends-kept}
use Rattle.script_io.specs.Known.{known_bytes}
use Rattle.script_io.specs.Moves.{Pushed}

-- done was appended, and rest is left of the piece
abbrev pub IsWritten : Option (List ℕ) → Option (List ℕ) → List ℕ → List ℕ → Type 0
IsWritten old new piece rest = (done : List ℕ) × (piece ≡ done ++ rest) × Appends old new done

grown : (old new : Option (List ℕ)) (done : List ℕ) → IsSome old → Appends old new done → known_bytes new ≡ known_bytes old ++ done
grown None new done is h = absurd (cc)
grown (Some xs) None done is h = absurd h
grown (Some xs) (Some ys) done is h = h

front_of : (known : Type 0) (old new : Option (List ℕ)) (piece rest : List ℕ) → (known → IsSome old) → IsWritten old new piece rest
    → known → (n : ℕ) × (known_bytes new ≡ known_bytes old ++ take n piece)
front_of known old new piece rest is (done, split, h) k = (
  length done,
  grown old new done (is k) h
      ∙ ap (λ l. known_bytes old ++ l) (sym (ap (take (length done)) split ∙ take-append_seam done rest)),
)

-- nothing is left
pub pushed_ok : {T E : Type 0} (known : Type 0) (x : T) (old new : Option (List ℕ)) (piece rest : List ℕ) → (known → IsSome old)
    → IsWritten old new piece rest → rest ≡ [] → Pushed {T = T} {E = E} known (Ok x) (known_bytes old) (known_bytes new) piece
pushed_ok known x old new piece rest is (done, split, h) none = record {
  whole = λ k. grown old new done (is k) h ∙ ap (λ l. known_bytes old ++ l) (sym (split ∙ ap (λ l. done ++ l) none ∙ append-nil done));
  front = front_of known old new piece rest is (done, split, h);
}

pub pushed_err : {T E : Type 0} (known : Type 0) (e : E) (old new : Option (List ℕ)) (piece rest : List ℕ) → (known → IsSome old)
    → IsWritten old new piece rest → Pushed {T = T} {E = E} known (Err e) (known_bytes old) (known_bytes new) piece
pushed_err known e old new piece rest is written = record {
  whole = λ k. tt;
  front = front_of known old new piece rest is written;
}

-- n bytes more
pub written_more : (old mid new : Option (List ℕ)) (piece rest : List ℕ) (n : ℕ) → IsWritten old mid piece rest → Appends mid new (take n rest)
    → IsWritten old new piece (take (length rest - n) (drop n rest))
written_more old mid new piece rest n (done, split, h) more = (
  done ++ take n rest,
  split ∙ ap (λ l. done ++ l) (sym (take-append-drop n rest)) ∙ sym (append_assoc done (take n rest) (drop n rest)) ∙ ap (λ l. (done ++ take n rest) ++ l) (sym (take_rest rest n)),
  Appends-trans old mid new done (take n rest) h more,
)

-- nothing more
pub written_kept : (old mid new : Option (List ℕ)) (piece rest : List ℕ) → IsWritten old mid piece rest → Keeps mid new → IsWritten old new piece rest
written_kept old mid new piece rest (done, split, h) kept = (done, split, Appends-kept old mid new done h kept)
