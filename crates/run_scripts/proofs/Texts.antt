-- The text grows by pieces, and what is left shrinks by them.
use Rattle.std.proofs.Common.{◌≡◌, ℕ, ◌<◌, ◌≤◌, List, ◌++◌, length, ◌∙◌, arith}
use Rattle.run_scripts.specs.Source.{IsTextOf, IsPiece}

pub piece_moved : (tells : Type 0) (first old new text longer : List ℕ) (room pulled : ℕ) → (tells → first ≡ text ++ old)
    → IsPiece tells old new text longer room pulled → tells → first ≡ longer ++ new
piece_moved tells first old new text longer room pulled so_far piece told = so_far told ∙ piece.moved told

-- the source has ended
pub text_ended : (tells : Type 0) (first old new text longer : List ℕ) (room pulled : ℕ) → (tells → first ≡ text ++ old)
    → IsPiece tells old new text longer room pulled → pulled ≡ 0 → length text ≤ 1048577 → IsTextOf tells first new longer
text_ended tells first old new text longer room pulled so_far piece none short = record {
  within = omega arith;
  moved = piece_moved tells first old new text longer room pulled so_far piece;
  ended = λ told _. piece.ended told none;
}

-- the text is too long
pub text_cut : (tells : Type 0) (first new text : List ℕ) → (tells → first ≡ text ++ new) → length text ≤ 1048577 → 1048576 < length text
    → IsTextOf tells first new text
text_cut tells first new text so_far short long = record {
  within = short;
  moved = so_far;
  ended = λ _ fits. absurd (omega arith);
}
