-- Pieces of an answer that are written field by field.
use Rattle.std.proofs.Common.{◌≡◌, ℕ, List, ◌++◌, replicate}
use borrow.Rule.Slice.PartMut.{put_mid}
use Rattle.std.specs.Int.{w16, w32, w64, to_be_bytes}
use Rattle.serve_greeting.specs.Answers.{reply_head, export, export_info, sizes_info}

pub head_written : (option kind long : ℕ) (a b d e : List ℕ) → a ≡ to_be_bytes w64 0x0003E889045565A9 → b ≡ to_be_bytes w32 option → d ≡ to_be_bytes w32 kind
    → e ≡ to_be_bytes w32 long → put_mid 16 4 (put_mid 12 4 (put_mid 8 4 (a ++ replicate 12 0) b) d) e ≡ reply_head option kind long
unfolding reply_head
head_written option kind long a b d e e0 e1 e2 e3 = λ i. put_mid 16 4 (put_mid 12 4 (put_mid 8 4 (e0 i ++ replicate 12 0) (e1 i)) (e2 i)) (e3 i)

pub export_written : (size : ℕ) (a b : List ℕ) → a ≡ to_be_bytes w64 size → b ≡ to_be_bytes w16 13 → put_mid 8 2 (a ++ replicate 2 0) b ≡ export size
export_written size a b e0 e1 = λ i. put_mid 8 2 (e0 i ++ replicate 2 0) (e1 i)

pub item_written : (size : ℕ) (a : List ℕ) → a ≡ export size → put_mid 2 10 (replicate 12 0) a ≡ export_info size
item_written size a e = λ i. put_mid 2 10 (replicate 12 0) (e i)

pub sizes_written : (a b d e : List ℕ) → a ≡ to_be_bytes w16 3 → b ≡ to_be_bytes w32 512 → d ≡ to_be_bytes w32 4096 → e ≡ to_be_bytes w32 1048576
    → put_mid 10 4 (put_mid 6 4 (put_mid 2 4 (a ++ replicate 12 0) b) d) e ≡ sizes_info
sizes_written a b d e e0 e1 e2 e3 = λ i. put_mid 10 4 (put_mid 6 4 (put_mid 2 4 (e0 i ++ replicate 12 0) (e1 i)) (e2 i)) (e3 i)
