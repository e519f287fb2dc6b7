-- The lines that are left begin with the next one.
use Rattle.std.proofs.Common.{◌≡◌, ◌∙◌, ℕ, zero, suc, ◌+◌, ◌-◌, ◌*◌, ◌<◌, ◌≤◌, List, [], ◌++◌, length, length-append, refl, sym, ap, arith}
use Rattle.std.proofs.lemmas.List.{append_assoc, append-nil}
use Rattle.script_demo.specs.Demo.{write_line, read_line, writes_from, reads_from}

one_less : (j count : ℕ) → j < count → count - j ≡ suc (count - (j + 1))
one_less j count lt = omega (arith, lt)

pub writes_more : (j count : ℕ) → j < count → writes_from j (count - j) ≡ write_line (96 * j) (j + 1) ++ writes_from (j + 1) (count - (j + 1))
unfolding writes_from
writes_more j count lt = ap (writes_from j) (one_less j count lt)

pub reads_more : (j count : ℕ) → j < count → reads_from j (count - j) ≡ read_line (96 * j) ++ reads_from (j + 1) (count - (j + 1))
unfolding reads_from
reads_more j count lt = ap (reads_from j) (one_less j count lt)

none_left : (j count : ℕ) → count ≤ j → count - j ≡ zero
none_left j count le = omega (arith, le)

pub writes_done : (j count : ℕ) → count ≤ j → writes_from j (count - j) ≡ []
unfolding writes_from
writes_done j count le = ap (writes_from j) (none_left j count le)

pub reads_done : (j count : ℕ) → count ≤ j → reads_from j (count - j) ≡ []
unfolding reads_from
reads_done j count le = ap (reads_from j) (none_left j count le)

-- a line was appended to a text
pub line_more : (text longer line rest all total : List ℕ) → longer ≡ text ++ line → all ≡ line ++ rest → text ++ all ≡ total → longer ++ rest ≡ total
line_more text longer line rest all total is left whole =
    ap (λ l. l ++ rest) is ∙ append_assoc text line rest ∙ ap (λ l. text ++ l) (sym left) ∙ whole

-- and is within the whole
pub line_within : (text line rest all total : List ℕ) → all ≡ line ++ rest → text ++ all ≡ total → length (text ++ line) ≤ length total
line_within text line rest all total left whole =
    let whole_length = ap length (line_more text (text ++ line) line rest all total refl left whole) in
    omega (arith, length-append (text ++ line) rest, whole_length)

-- nothing is left
pub line_last : (text all total : List ℕ) → all ≡ [] → text ++ all ≡ total → text ≡ total
line_last text all total none whole = sym (append-nil text) ∙ ap (λ l. text ++ l) (sym none) ∙ whole
