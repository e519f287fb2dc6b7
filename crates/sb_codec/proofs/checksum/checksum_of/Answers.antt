use Rattle.std.proofs.Common.{◌≡◌, ℕ, ◌+◌, ◌*◌, ◌/◌, ◌%◌, ◌^◌, [], ◌∷◌, ◌++◌, take, slice_range, sym, ap, ap₂, ◌∙◌, arith}
use Rattle.std.proofs.lemmas.List.{length-take-le}
use Rattle.raid_types.specs.Bytes.{field}
use Rattle.sb_codec.specs.Superblock.{word_sum}
use Rattle.sb_codec.proofs.WordSums.{word_sum-unsummed}
use Rattle.sb_codec.proofs.checksum.checksum_of.Goals as goal

pub returns : goal.returns
returns c =
    let bytes = c.args.sectors.now in
    let back = slice_range bytes 220 (256 + 2 * field bytes 220 4) in
    let rest : c.sum_words-2.result ≡ word_sum back =
    c.sum_words-2.ensures.sum ∙ ap (λ (n : ℕ). word_sum (slice_range bytes 220 (256 + 2 * n))) c.u32_at.ensures in
    let sum : c.sum_words.result + c.sum_words-2.result ≡ word_sum (take 216 bytes ++ (0 ∷ 0 ∷ 0 ∷ 0 ∷ []) ++ back) =
    ap₂ (λ (m n : ℕ). m + n) c.sum_words.ensures.sum rest
    ∙ sym (word_sum-unsummed (take 216 bytes) back (length-take-le 216 bytes (omega arith))) in
    ap (λ (n : ℕ). (n % 2 ^ 32 + n / 2 ^ 32) % 2 ^ 32) sum
