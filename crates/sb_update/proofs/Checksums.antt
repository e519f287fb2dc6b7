-- Where two superblocks have the same fields but for their checksums, these are the same too.
use Rattle.std.proofs.Common.{◌≡◌, ℕ, zero, suc, ◌+◌, ◌-◌, ◌*◌, ◌^◌, ◌<◌, ◌≤◌, Bool, true, false, List, [], ◌∷◌, ◌++◌, length, take, drop, get_or, slice_range, min, if◌then◌else◌, nat_lt, refl, sym, ◌∙◌, ap, ap₂, arith, lit≤}
use Rattle.std.specs.Prelude.{pos, negsuc}
use Rattle.std.proofs.lemmas.List.{length-drop, get_or-drop, length-take, take-take, take-append-drop, drop-drop}
use Rattle.std.proofs.lemmas.Slice.{between_is}
use Rattle.bank.specs.raid_types_Bytes.{little, field}
use Rattle.sb_specs.specs.sb_codec_the_Sb.{Sb}
use Rattle.sb_specs.specs.sb_codec_Kept.{KeptBefore, KeptFrom}
use Rattle.sb_specs.specs.sb_codec_Superblock.{signed, two_by_two, sb_of, checksum}
use Rattle.sb_specs.proofs.sb_codec_Encoded.{checksum-kept}

abbrev pub AreBytes : List ℕ → Type 0
AreBytes bytes = (i : ℕ) → get_or bytes i 0 < 256

bytes_take : (n : ℕ) (bytes : List ℕ) → AreBytes bytes → AreBytes (take n bytes)
bytes_take zero bytes small i = omega arith
bytes_take (suc n) [] small i = omega arith
bytes_take (suc n) (x ∷ bytes) small zero = small 0
bytes_take (suc n) (x ∷ bytes) small (suc i) = bytes_take n bytes (λ j. small (suc j)) i

bytes_drop : (n : ℕ) (bytes : List ℕ) → AreBytes bytes → AreBytes (drop n bytes)
bytes_drop zero bytes small = small
bytes_drop (suc n) [] small = λ i. omega arith
bytes_drop (suc n) (x ∷ bytes) small = bytes_drop n bytes (λ j. small (suc j))

-- ---- numbers say their bytes

head_same : (x y p q : ℕ) → x < 256 → y < 256 → x + 256 * p ≡ y + 256 * q → x ≡ y
head_same x y p q hx hy is = omega (arith, hx, hy, is)

tail_same : (x y p q : ℕ) → x < 256 → y < 256 → x + 256 * p ≡ y + 256 * q → p ≡ q
tail_same x y p q hx hy is = omega (arith, hx, hy, is)

little-same : (a b : List ℕ) → length a ≡ length b → AreBytes a → AreBytes b → little a ≡ little b → a ≡ b
little-same [] [] long small_a small_b is = refl
little-same [] (y ∷ b) long small_a small_b is = absurd (omega (arith, long))
little-same (x ∷ a) [] long small_a small_b is = absurd (omega (arith, long))
little-same (x ∷ a) (y ∷ b) long small_a small_b is =
    ap₂ (λ (z : ℕ) (l : List ℕ). z ∷ l) (head_same x y (little a) (little b) (small_a 0) (small_b 0) is)
    (little-same a b (omega (arith, long)) (λ i. small_a (suc i)) (λ i. small_b (suc i)) (tail_same x y (little a) (little b) (small_a 0) (small_b 0) is))

two-same : (a b : List ℕ) (n : ℕ) → length a ≡ 2 * n → length b ≡ 2 * n → AreBytes a → AreBytes b → two_by_two a ≡ two_by_two b → a ≡ b
two-same [] [] n long_a long_b small_a small_b is = refl
two-same [] (y ∷ b) n long_a long_b small_a small_b is = absurd (omega (arith, long_a, long_b))
two-same (x ∷ a) [] n long_a long_b small_a small_b is = absurd (omega (arith, long_a, long_b))
two-same (x ∷ []) (y ∷ b) n long_a long_b small_a small_b is = absurd (omega (arith, long_a))
two-same (x ∷ w ∷ a) (y ∷ []) n long_a long_b small_a small_b is = absurd (omega (arith, long_b))
two-same (x ∷ w ∷ a) (y ∷ v ∷ b) zero long_a long_b small_a small_b is = absurd (omega (arith, long_a))
two-same (x ∷ w ∷ a) (y ∷ v ∷ b) (suc n) long_a long_b small_a small_b is =
    let head : x + 256 * w ≡ y + 256 * v = (let e = is in cc) in
    let rest : two_by_two a ≡ two_by_two b = (let e = is in cc) in
    let first = head_same x y w v (small_a 0) (small_b 0) head in
    let second = tail_same x y w v (small_a 0) (small_b 0) head in
    ap₂ (λ (z : ℕ) (l : List ℕ). z ∷ l) first (ap₂ (λ (z : ℕ) (l : List ℕ). z ∷ l) second
    (two-same a b n (omega (arith, long_a)) (omega (arith, long_b)) (λ i. small_a (suc (suc i))) (λ i. small_b (suc (suc i))) rest))

-- four bytes are below 2 ^ 32
four : (xs : List ℕ) → length xs ≡ 4 → AreBytes xs → little xs < 2 ^ 32
four (a ∷ b ∷ c ∷ d ∷ []) long small = omega (arith, small 0, small 1, small 2, small 3)
four [] long small = absurd (omega (arith, long))
four (a ∷ []) long small = absurd (omega (arith, long))
four (a ∷ b ∷ []) long small = absurd (omega (arith, long))
four (a ∷ b ∷ c ∷ []) long small = absurd (omega (arith, long))
four (a ∷ b ∷ c ∷ d ∷ e ∷ xs) long small = absurd (omega (arith, long))

signed_parts : (n m : ℕ) (p q : Bool) → n < 2 ^ 32 → m < 2 ^ 32
    → (if p then pos n else negsuc (2 ^ 32 - 1 - n)) ≡ (if q then pos m else negsuc (2 ^ 32 - 1 - m)) → n ≡ m
signed_parts n m true true hn hm is = (let e = is in cc)
signed_parts n m true false hn hm is = absurd (let e = is in cc)
signed_parts n m false true hn hm is = absurd (let e = is in cc)
signed_parts n m false false hn hm is =
    let less : 2 ^ 32 - 1 - n ≡ 2 ^ 32 - 1 - m = (let e = is in cc) in
    omega (arith, less, hn, hm)

signed-same : (n m : ℕ) → n < 2 ^ 32 → m < 2 ^ 32 → signed n ≡ signed m → n ≡ m
signed-same n m hn hm is = signed_parts n m (nat_lt n (2 ^ 31)) (nat_lt m (2 ^ 31)) hn hm is

range_long : (bytes : List ℕ) (from to : ℕ) → length (slice_range bytes from to) ≡ min (to - from) (length bytes - from)
range_long bytes from to = length-take (to - from) (drop from bytes) ∙ ap (min (to - from)) (length-drop from bytes)

short : (bytes : List ℕ) (offset : ℕ) → AreBytes bytes → length bytes ≡ 1024 → offset ≤ 1020 → field bytes offset 4 < 2 ^ 32
short bytes offset small long within =
    four (slice_range bytes offset (offset + 4)) (let l = range_long bytes offset (offset + 4) in omega (arith, l, long, within))
    (bytes_take (offset + 4 - offset) (drop offset bytes) (bytes_drop offset bytes small))

-- ---- two superblocks

module _ (a b : List ℕ) (bytes_a : AreBytes a) (bytes_b : AreBytes b) (long_a : length a ≡ 1024) (long_b : length b ≡ 1024) where
  number : (offset width : ℕ) → field a offset width ≡ field b offset width → slice_range a offset (offset + width) ≡ slice_range b offset (offset + width)
  number offset width is =
      let la = range_long a offset (offset + width) in
      let lb = range_long b offset (offset + width) in
      little-same (slice_range a offset (offset + width)) (slice_range b offset (offset + width))
      (la ∙ ap (λ (n : ℕ). min (offset + width - offset) (n - offset)) (long_a ∙ sym long_b) ∙ sym lb)
      (bytes_take (offset + width - offset) (drop offset a) (bytes_drop offset a bytes_a))
      (bytes_take (offset + width - offset) (drop offset b) (bytes_drop offset b bytes_b)) is

  joined : (l : List ℕ) (from to : ℕ) → from ≤ to → take to l ≡ take from l ++ slice_range l from to
  joined l from to le = sym (take-append-drop from (take to l)) ∙ ap₂ (λ (x y : List ℕ). x ++ y) (take-take from to l le) (sym (between_is l from to))

  kept-more : (from to : ℕ) → from ≤ to → KeptBefore from a b → slice_range a from to ≡ slice_range b from to → KeptBefore to a b
  kept-more from to le before is = record { same = joined a from to le ∙ ap₂ (λ (x y : List ℕ). x ++ y) before.same is ∙ sym (joined b from to le) }

  split : (l : List ℕ) (from to : ℕ) → from ≤ to → drop from l ≡ slice_range l from to ++ drop to l
  split l from to le =
      let sum : from + (to - from) ≡ to = omega (arith, le) in
      sym (take-append-drop (to - from) (drop from l)) ∙ ap (λ (x : List ℕ). slice_range l from to ++ x) (drop-drop (to - from) from l ∙ ap (λ (n : ℕ). drop n l) sum)

  kept-back : (from to : ℕ) → from ≤ to → slice_range a from to ≡ slice_range b from to → KeptFrom to a b → KeptFrom from a b
  kept-back from to le is after = record { same = split a from to le ∙ ap₂ (λ (x y : List ℕ). x ++ y) is after.same ∙ sym (split b from to le) }

  pub checksum-same : (sum : ℕ) → sb_of a ≡ record (sb_of b) { sb_csum = sum } → checksum a ≡ checksum b
  checksum-same sum same =
      let to_0 : KeptBefore 0 a b = record { same = refl } in
      let to_4 = kept-more 0 4 (lit≤ tt) to_0 (number 0 4 (ap (λ (s : Sb). s.magic) same)) in
      let to_8 = kept-more 4 8 (lit≤ tt) to_4 (number 4 4 (ap (λ (s : Sb). s.major) same)) in
      let to_12 = kept-more 8 12 (lit≤ tt) to_8 (number 8 4 (ap (λ (s : Sb). s.feature_map) same)) in
      let to_16 = kept-more 12 16 (lit≤ tt) to_12 (number 12 4 (ap (λ (s : Sb). s.pad0) same)) in
      let to_32 = kept-more 16 32 (lit≤ tt) to_16 (ap (λ (s : Sb). s.set_uuid) same) in
      let to_64 = kept-more 32 64 (lit≤ tt) to_32 (ap (λ (s : Sb). s.set_name) same) in
      let to_72 = kept-more 64 72 (lit≤ tt) to_64 (number 64 8 (ap (λ (s : Sb). s.ctime) same)) in
      let to_76 = kept-more 72 76 (lit≤ tt) to_72 (number 72 4 (ap (λ (s : Sb). s.level) same)) in
      let to_80 = kept-more 76 80 (lit≤ tt) to_76 (number 76 4 (ap (λ (s : Sb). s.layout) same)) in
      let to_88 = kept-more 80 88 (lit≤ tt) to_80 (number 80 8 (ap (λ (s : Sb). s.size) same)) in
      let to_92 = kept-more 88 92 (lit≤ tt) to_88 (number 88 4 (ap (λ (s : Sb). s.chunksize) same)) in
      let to_96 = kept-more 92 96 (lit≤ tt) to_92 (number 92 4 (ap (λ (s : Sb). s.raid_disks) same)) in
      let to_100 = kept-more 96 100 (lit≤ tt) to_96 (number 96 4 (ap (λ (s : Sb). s.bitmap_offset) same)) in
      let to_104 = kept-more 100 104 (lit≤ tt) to_100 (number 100 4 (ap (λ (s : Sb). s.new_level) same)) in
      let to_112 = kept-more 104 112 (lit≤ tt) to_104 (number 104 8 (ap (λ (s : Sb). s.reshape_position) same)) in
      let to_116 = kept-more 112 116 (lit≤ tt) to_112 (number 112 4 (signed-same (field a 112 4) (field b 112 4) (short a 112 bytes_a long_a (lit≤ tt)) (short b 112 bytes_b long_b (lit≤ tt)) (ap (λ (s : Sb). s.delta_disks) same))) in
      let to_120 = kept-more 116 120 (lit≤ tt) to_116 (number 116 4 (ap (λ (s : Sb). s.new_layout) same)) in
      let to_124 = kept-more 120 124 (lit≤ tt) to_120 (number 120 4 (ap (λ (s : Sb). s.new_chunk) same)) in
      let to_128 = kept-more 124 128 (lit≤ tt) to_124 (number 124 4 (signed-same (field a 124 4) (field b 124 4) (short a 124 bytes_a long_a (lit≤ tt)) (short b 124 bytes_b long_b (lit≤ tt)) (ap (λ (s : Sb). s.new_offset) same))) in
      let to_136 = kept-more 128 136 (lit≤ tt) to_128 (number 128 8 (ap (λ (s : Sb). s.data_offset) same)) in
      let to_144 = kept-more 136 144 (lit≤ tt) to_136 (number 136 8 (ap (λ (s : Sb). s.data_size) same)) in
      let to_152 = kept-more 144 152 (lit≤ tt) to_144 (number 144 8 (ap (λ (s : Sb). s.super_offset) same)) in
      let to_160 = kept-more 152 160 (lit≤ tt) to_152 (number 152 8 (ap (λ (s : Sb). s.recovery_offset) same)) in
      let to_164 = kept-more 160 164 (lit≤ tt) to_160 (number 160 4 (ap (λ (s : Sb). s.dev_number) same)) in
      let to_168 = kept-more 164 168 (lit≤ tt) to_164 (number 164 4 (ap (λ (s : Sb). s.cnt_corrected_read) same)) in
      let to_184 = kept-more 168 184 (lit≤ tt) to_168 (ap (λ (s : Sb). s.device_uuid) same) in
      let to_185 = kept-more 184 185 (lit≤ tt) to_184 (number 184 1 (ap (λ (s : Sb). s.devflags) same)) in
      let to_186 = kept-more 185 186 (lit≤ tt) to_185 (number 185 1 (ap (λ (s : Sb). s.bblog_shift) same)) in
      let to_188 = kept-more 186 188 (lit≤ tt) to_186 (number 186 2 (ap (λ (s : Sb). s.bblog_size) same)) in
      let to_192 = kept-more 188 192 (lit≤ tt) to_188 (number 188 4 (ap (λ (s : Sb). s.bblog_offset) same)) in
      let to_200 = kept-more 192 200 (lit≤ tt) to_192 (number 192 8 (ap (λ (s : Sb). s.utime) same)) in
      let to_208 = kept-more 200 208 (lit≤ tt) to_200 (number 200 8 (ap (λ (s : Sb). s.events) same)) in
      let to_216 = kept-more 208 216 (lit≤ tt) to_208 (number 208 8 (ap (λ (s : Sb). s.resync_offset) same)) in
      let all_a = range_long a 256 1024 in
      let all_b = range_long b 256 1024 in
      let roles = two-same (slice_range a 256 1024) (slice_range b 256 1024) 384 (omega (arith, all_a, long_a)) (omega (arith, all_b, long_b))
      (bytes_take 768 (drop 256 a) (bytes_drop 256 a bytes_a)) (bytes_take 768 (drop 256 b) (bytes_drop 256 b bytes_b)) (ap (λ (s : Sb). s.dev_roles) same) in
      let end : KeptFrom 1024 a b = record { same = past a long_a ∙ sym (past b long_b) } in
      let from_256 = kept-back 256 1024 (lit≤ tt) roles end in
      let from_224 = kept-back 224 256 (lit≤ tt) (ap (λ (s : Sb). s.pad3) same) from_256 in
      let from_220 = kept-back 220 224 (lit≤ tt) (number 220 4 (ap (λ (s : Sb). s.max_dev) same)) from_224 in
      checksum-kept a b to_216 from_220
    where
      empty : (l : List ℕ) → length l ≡ 0 → l ≡ []
      empty [] none = refl
      empty (x ∷ l) none = absurd (omega (arith, none))

      past : (l : List ℕ) → length l ≡ 1024 → drop 1024 l ≡ []
      past l long = empty (drop 1024 l) (let d = length-drop 1024 l in omega (arith, d, long))

-- the four bytes from an offset as a number
four_of : (bytes : List ℕ) → 4 ≤ length bytes → get_or bytes 0 0 + get_or bytes 1 0 * 256 + get_or bytes 2 0 * 65536 + get_or bytes 3 0 * 16777216 ≡ little (take 4 bytes)
four_of [] long = absurd (omega (arith, long))
four_of (a ∷ []) long = absurd (omega (arith, long))
four_of (a ∷ b ∷ []) long = absurd (omega (arith, long))
four_of (a ∷ b ∷ c ∷ []) long = absurd (omega (arith, long))
four_of (a ∷ b ∷ c ∷ d ∷ bytes) long = omega arith

pub field-four : (bytes : List ℕ) (offset : ℕ) → offset + 4 ≤ length bytes
    → get_or bytes offset 0 + get_or bytes (offset + 1) 0 * 256 + get_or bytes (offset + 2) 0 * 65536 + get_or bytes (offset + 3) 0 * 16777216 ≡ field bytes offset 4
field-four bytes offset within =
    let at : (i : ℕ) → get_or bytes (offset + i) 0 ≡ get_or (drop offset bytes) i 0 = λ i. sym (get_or-drop offset bytes i 0) in
    let first : offset ≡ offset + 0 = omega arith in
    let width : offset + 4 - offset ≡ 4 = omega arith in
    (λ j. (ap (λ (n : ℕ). get_or bytes n 0) first ∙ at 0) j + at 1 j * 256 + at 2 j * 65536 + at 3 j * 16777216)
    ∙ four_of (drop offset bytes) (omega (arith, within, length-drop offset bytes))
    ∙ ap (λ (n : ℕ). little (take n (drop offset bytes))) (sym width)
