use Rattle.std.specs.Slice.Iter.{chunks_exact_rest, chunks_exact_size}
use Rattle.sb_codec.proofs.WordSums.{IsSummed}
use Rattle.sb_codec.proofs.checksum.sum_words.Given as goal

abbrev pub invariant-loop-word : goal.invariant-loop-word
invariant-loop-word l =
    (goal.iterator-loop-word).can_next l.word-iterator
    × (goal.iterator-loop-word).is_finite l.word-iterator
    × IsSummed l.bytes (chunks_exact_rest l.word-iterator) (chunks_exact_size l.word-iterator) l.sum
