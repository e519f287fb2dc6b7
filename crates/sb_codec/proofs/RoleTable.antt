-- Role entries as bytes and back.
use Rattle.std.proofs.Common.{◌≡◌, ℕ, zero, suc, ◌+◌, ◌*◌, ◌/◌, ◌%◌, ◌^◌, ◌<◌, List, [], ◌∷◌, ◌++◌, length, drop, get_or, flat_map, refl, sym, ap, ◌∙◌, arith}
use Rattle.std.proofs.lemmas.Grind.{same_number_lists}
use Rattle.byteorder.specs.Endian.{little_number, little_bytes, IsRead}
use Rattle.sb_codec.specs.Superblock.{two_by_two}

pub length-two_by_two : (n : ℕ) (bytes : List ℕ) → length bytes ≡ 2 * n → length (two_by_two bytes) ≡ n
length-two_by_two zero [] whole = refl
length-two_by_two (suc n) [] whole = absurd (omega arith)
length-two_by_two n (p ∷ []) whole = absurd (omega arith)
length-two_by_two zero (p ∷ q ∷ bytes) whole = absurd (omega arith)
length-two_by_two (suc n) (p ∷ q ∷ bytes) whole = ap suc (length-two_by_two n bytes (omega arith))

-- entry k stands at twice k
pub get_or-two_by_two : (n k : ℕ) (bytes : List ℕ) → length bytes ≡ 2 * n → k < n
    → get_or (two_by_two bytes) k 0 ≡ little_number 2 (drop (2 * k) bytes)
get_or-two_by_two n k [] whole within = absurd (omega arith)
get_or-two_by_two n k (p ∷ []) whole within = absurd (omega arith)
get_or-two_by_two zero k (p ∷ q ∷ bytes) whole within = absurd (omega arith)
get_or-two_by_two (suc n) zero (p ∷ q ∷ bytes) whole within = omega arith
get_or-two_by_two (suc n) (suc k) (p ∷ q ∷ bytes) whole within =
    let place : 2 * suc k ≡ suc (suc (2 * k)) = omega arith in
    rw place (get_or-two_by_two n k bytes (omega arith) (omega arith))

-- the entries that were read one by one
pub entries-read : (n : ℕ) (bytes roles : List ℕ) → length bytes ≡ 2 * n → length roles ≡ n → IsRead little_number 2 bytes roles
    → roles ≡ two_by_two bytes
entries-read n bytes roles whole count read =
    same_number_lists roles (two_by_two bytes) (count ∙ sym (length-two_by_two n bytes whole))
    (λ k within. read k within ∙ sym (get_or-two_by_two n k bytes whole (omega arith)))

pub two_by_two-append : (n : ℕ) (a b : List ℕ) → length a ≡ 2 * n → two_by_two (a ++ b) ≡ two_by_two a ++ two_by_two b
two_by_two-append zero [] b whole = refl
two_by_two-append (suc n) [] b whole = absurd (omega arith)
two_by_two-append n (p ∷ []) b whole = absurd (omega arith)
two_by_two-append zero (p ∷ q ∷ a) b whole = absurd (omega arith)
two_by_two-append (suc n) (p ∷ q ∷ a) b whole = ap (λ rest. (p + 256 * q) ∷ rest) (two_by_two-append n a b (omega arith))

-- the bytes of entries are read as these entries
pub entries-written : (roles : List ℕ) → ((k : ℕ) → get_or roles k 0 < 2 ^ 16) → two_by_two (flat_map (little_bytes 2) roles) ≡ roles
entries-written [] small = refl
entries-written (role ∷ roles) small =
    let first : role < 65536 = small 0 in
    let whole : role % 256 + 256 * (role / 256 % 256) ≡ role = omega arith in
    rw whole (ap (λ rest. role ∷ rest) (entries-written roles (λ k. small (suc k))))
