use Rattle.std.proofs.Common.{◌≡◌, ℕ, ◌+◌, ◌<◌, ◌≤◌, ltb, List, length, filter, arith}
use Rattle.std.specs.List.{count_by, slice_split}
use Rattle.std.proofs.lemmas.List.Sums.{length-filter, count_by-le-length}
use Rattle.std.proofs.lemmas.List.Splits.{length-slice_split}
use Rattle.script_words.specs.Numbers.{is_space, words_of}
use Rattle.script.proofs.reader.count_words.Goals as goal

-- no more words than bytes, and one
few_words : (line : List ℕ) → length (words_of line) ≤ length line + 1
few_words line =
    let parts = slice_split is_space line in
    let words = length-filter (λ (word : List ℕ). ltb 0 (length word)) parts in
    let all = count_by-le-length (λ (word : List ℕ). ltb 0 (length word)) parts in
    let split = length-slice_split is_space line in
    let spaces = count_by-le-length is_space line in
    omega (arith, words, all, split, spaces)

pub overflow_add-count : goal.overflow_add-count
overflow_add-count c = let few = few_words c.args.words.line.now in let h = c.loop-words.invariant in let k = c.ranges.words in omega (arith, few, h, k)
