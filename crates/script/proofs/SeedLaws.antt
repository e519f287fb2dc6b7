-- A sector that is written byte by byte, and sectors one after the other.
use Rattle.std.proofs.Common.{◌≡◌, ℕ, zero, suc, ◌+◌, ◌-◌, ◌*◌, ◌/◌, ◌^◌, ◌%◌, ◌<◌, ◌≤◌, List, [], ◌∷◌, ◌++◌, length, take, drop, get_or, refl, sym, ap, ap₂, ◌∙◌, arith}
use Rattle.std.proofs.lemmas.Slice.{take-put_mid, drop-put_mid}
use borrow.Rule.Slice.PartMut.{put_mid}
use Rattle.std.proofs.lemmas.List.{ext_get_or, get_or-drop, length-drop, take-append-drop, length-append, take_all, take-append-le, drop-append-le}
use Rattle.std.specs.Int.{w32, to_le_bytes}
use Rattle.history.specs.raid_types_Search.{tabulate}
use Rattle.history.specs.raid_types_Sectors.{first_sectors, IsWhole}
use Rattle.history.proofs.raid_types_Tabulated.{length-tabulate, get_or-tabulate}
use Rattle.script.specs.Seeds.{seed_byte, seed_sector, seeded}

pub whole_sector : (s : List ℕ) (seed x : ℕ) → length s ≡ 512 → take 8 s ≡ to_le_bytes w32 seed ++ to_le_bytes w32 (x % 2 ^ 32)
    → ((k : ℕ) → 8 ≤ k → k < 512 → get_or s k 0 ≡ seed_byte seed x k) → s ≡ seed_sector seed x
unfolding seed_sector
whole_sector s seed x size head body =
    let rest = length-drop 8 s in
    let wanted = length-tabulate 504 (λ k. seed_byte seed x (8 + k)) in
    sym (take-append-drop 8 s)
    ∙ ap₂ (λ a b. a ++ b) head
    (ext_get_or 0 (drop 8 s) (tabulate 504 (λ k. seed_byte seed x (8 + k))) (omega (arith, rest, size, wanted))
    (λ i h. get_or-drop 8 s i 0 ∙ body (8 + i) (omega arith) (omega (arith, h, rest, size))
    ∙ sym (get_or-tabulate 504 (λ k. seed_byte seed x (8 + k)) i 0 (omega (arith, h, rest, size)))))

-- a sector that counts on, from the seed's and the place's low bytes on, with the first eight bytes put in place
pub headed_sector : (s one two : List ℕ) (seed x first : ℕ) → first % 256 ≡ (seed + x) % 256 → length s ≡ 512 → ((k : ℕ) → k < 512 → get_or s k 0 ≡ (first + k) % 256)
    → one ≡ to_le_bytes w32 seed → two ≡ to_le_bytes w32 (x % 2 ^ 32) → put_mid 4 4 (put_mid 0 4 s one) two ≡ seed_sector seed x
headed_sector s one two seed x first low_byte long counted is is' =
    let four : length one ≡ 4 = ap (λ (l : List ℕ). length l) is in
    let four' : length two ≡ 4 = ap (λ (l : List ℕ). length l) is' in
    let t : List ℕ = put_mid 0 4 s one in
    let room : 4 ≤ length t = omega (arith, length-append one (drop 4 s), four) in
    let behind : drop 8 (put_mid 4 4 t two) ≡ drop 8 s = drop-put_mid 4 4 t two 8 (omega arith) room four' ∙ drop-put_mid 0 4 s one 8 (omega arith) (omega arith) four in
    let front : take 8 (put_mid 4 4 t two) ≡ one ++ two = take-put_mid 4 4 t two 8 (omega (arith, four')) room ∙ ap (λ (l : List ℕ). l ++ two) (take-put_mid 0 4 s one 4 (omega (arith, four)) (omega arith)) in
    let parts = length-append (take 8 (put_mid 4 4 t two)) (drop 8 (put_mid 4 4 t two)) in
    let all : length (put_mid 4 4 t two) ≡ 512 =
    ap (λ (l : List ℕ). length l) (sym (take-append-drop 8 (put_mid 4 4 t two))) ∙ parts
    ∙ omega (arith, ap (λ (l : List ℕ). length l) front, length-append one two, four, four', ap (λ (l : List ℕ). length l) behind, length-drop 8 s, long) in
    whole_sector (put_mid 4 4 t two) seed x all (front ∙ (λ j. is j ++ is' j))
    (λ k low high.
    let place : 8 + (k - 8) ≡ k = omega (arith, low) in
    ap (λ (n : ℕ). get_or (put_mid 4 4 t two) n 0) (sym place) ∙ sym (get_or-drop 8 (put_mid 4 4 t two) (k - 8) 0)
    ∙ ap (λ (l : List ℕ). get_or l (k - 8) 0) behind ∙ get_or-drop 8 s (k - 8) 0 ∙ ap (λ (n : ℕ). get_or s n 0) place ∙ counted k high ∙ omega (arith, low_byte))

pub length-seed_sector : (seed x : ℕ) → length (seed_sector seed x) ≡ 512
unfolding seed_sector
length-seed_sector seed x =
    let body = length-tabulate 504 (λ k. seed_byte seed x (8 + k)) in
    length-append (to_le_bytes w32 seed ++ to_le_bytes w32 (x % 2 ^ 32)) (tabulate 504 (λ k. seed_byte seed x (8 + k))) ∙ ap (λ n. 8 + n) body

-- one sector more behind whole ones
first_sectors-more : (n : ℕ) (bytes sector : List ℕ) → length bytes ≡ 512 * n → length sector ≡ 512
    → first_sectors (suc n) (bytes ++ sector) ≡ first_sectors n bytes ++ sector ∷ []
first_sectors-more zero [] sector size one = ap (λ s. s ∷ []) (take_all 512 sector (omega (arith, one)))
first_sectors-more zero (b ∷ bytes) sector size one = absurd (omega (arith, size))
first_sectors-more (suc n) bytes sector size one =
    let left = length-drop 512 bytes in
    ap₂ (λ s rest. s ∷ rest) (take-append-le 512 bytes sector (omega (arith, size)))
    (ap (first_sectors (suc n)) (drop-append-le 512 bytes sector (omega (arith, size)))
    ∙ first_sectors-more n (drop 512 bytes) sector (omega (arith, left, size)) one)

-- the sectors that were written so far
pub record Written (seed first k : ℕ) (bytes : List ℕ) : Type 0 where
  pub size : length bytes ≡ 512 * k
  pub sectors : first_sectors k bytes ≡ seeded seed first k

pub written-start : (seed first : ℕ) → Written seed first 0 []
unfolding tabulate
written-start seed first = record { size = refl; sectors = refl }

pub written-more : (seed first k : ℕ) (bytes : List ℕ) → Written seed first k bytes → Written seed first (k + 1) (bytes ++ seed_sector seed (first + k))
unfolding tabulate
written-more seed first k bytes written =
    let more : k + 1 ≡ suc k = omega arith in
    let one = length-seed_sector seed (first + k) in
    let joined = length-append bytes (seed_sector seed (first + k)) in
    record {
      size = omega (arith, joined, one, written.size);
      sectors =
          ap (λ n. first_sectors n (bytes ++ seed_sector seed (first + k))) more
          ∙ first_sectors-more k bytes (seed_sector seed (first + k)) written.size one
          ∙ ap (λ done. done ++ seed_sector seed (first + k) ∷ []) written.sectors
          ∙ ap (λ n. seeded seed first n) (sym more);
    }

pub written-whole : (seed first k : ℕ) (bytes : List ℕ) → Written seed first k bytes → IsWhole bytes
written-whole seed first k bytes written = let size = written.size in omega (arith, size)
