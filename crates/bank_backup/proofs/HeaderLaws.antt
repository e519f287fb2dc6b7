-- The bytes that are put in place are those of the header.
use Rattle.std.proofs.Common.{◌≡◌, ℕ, ◌+◌, ◌/◌, ◌%◌, List, [], ◌∷◌, ◌++◌, length, take, drop, replicate, ◌∙◌, arith, w64}
use Rattle.std.specs.Prelude.{codes}
use Rattle.std.specs.Int.{to_le_bytes}
use Rattle.bank_backup.specs.Written.{bytes_of, header_with}

-- bytes in place of as many
abbrev placed : ℕ → List ℕ → List ℕ → List ℕ
placed at bytes sector = take at sector ++ (bytes ++ drop (at + length bytes) sector)

le-bytes : (n : ℕ) → to_le_bytes w64 n ≡ bytes_of 8 n
le-bytes n =
    let two : n / 65536 % 256 ≡ n / 256 / 256 % 256 = omega arith in
    let three : n / 16777216 % 256 ≡ n / 256 / 256 / 256 % 256 = omega arith in
    let four : n / 4294967296 % 256 ≡ n / 256 / 256 / 256 / 256 % 256 = omega arith in
    let five : n / 1099511627776 % 256 ≡ n / 256 / 256 / 256 / 256 / 256 % 256 = omega arith in
    let six : n / 281474976710656 % 256 ≡ n / 256 / 256 / 256 / 256 / 256 / 256 % 256 = omega arith in
    let seven : n / 72057594037927936 % 256 ≡ n / 256 / 256 / 256 / 256 / 256 / 256 / 256 % 256 = omega arith in
    λ i. n % 256 ∷ n / 256 % 256 ∷ two i ∷ three i ∷ four i ∷ five i ∷ six i ∷ seven i ∷ []

-- the bytes before the uuid is put in place
abbrev whole : ℕ → ℕ → List ℕ
whole start len = placed 56 (bytes_of 8 len) (placed 48 (bytes_of 8 start) (placed 40 (bytes_of 8 8) (placed 0 (codes "md_backup_data-1") (replicate 512 0))))

pub encoded : (uuid : List ℕ) → length uuid ≡ 16 → (start len : ℕ) (s1 s2 s3 s4 s5 b1 b2 b3 : List ℕ)
    → b1 ≡ to_le_bytes w64 8 → b2 ≡ to_le_bytes w64 start → b3 ≡ to_le_bytes w64 len
    → s1 ≡ placed 0 (codes "md_backup_data-1") (replicate 512 0) → s2 ≡ placed 40 b1 s1 → s3 ≡ placed 48 b2 s2 → s4 ≡ placed 56 b3 s3 → s5 ≡ placed 16 uuid s4
    → s5 ≡ header_with uuid start len
encoded uuid sixteen start len s1 s2 s3 s4 s5 b1 b2 b3 eight is_start is_len one two three four five =
    five ∙ (λ i. placed 16 uuid (all i)) ∙ (λ i. take 16 (whole start len) ++ (uuid ++ drop (16 + sixteen i) (whole start len)))
  where
    third : s3 ≡ placed 48 (bytes_of 8 start) (placed 40 (bytes_of 8 8) (placed 0 (codes "md_backup_data-1") (replicate 512 0)))
    third = three ∙ (λ i. placed 48 ((is_start ∙ le-bytes start) i) (two i)) ∙ (λ i. placed 48 (bytes_of 8 start) (placed 40 ((eight ∙ le-bytes 8) i) (one i)))

    all : s4 ≡ whole start len
    all = four ∙ (λ i. placed 56 ((is_len ∙ le-bytes len) i) (third i))
