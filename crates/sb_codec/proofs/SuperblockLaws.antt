-- What the crates above need of a superblock's bytes.
use Rattle.std.proofs.Common.{◌≡◌, ℕ, ◌+◌, ◌-◌, ◌≤◌, true, ◌&&◌, ◌==◌, nat_le, List, ◌++◌, length, drop, slice_range, IsTrue, sym, ap, subst, ◌∙◌, arith, lit≤}
use Rattle.std.proofs.lemmas.Bool.Decides.{nat_tests}
use Rattle.std.proofs.lemmas.List.{length-drop, length-take, drop_at}
use Rattle.std.proofs.lemmas.List.Folds.{drop_split}
use Rattle.std.proofs.lemmas.Slice.{between_to_end}
use Rattle.raid_types.specs.Bytes.{field}
use Rattle.sb_codec.specs.declared.sb.Sb.{Sb}
use Rattle.sb_codec.specs.Superblock.{two_by_two, sb_of, checksum, is_valid}
use Rattle.sb_codec.specs.Writable.{IsWritable}
use Rattle.sb_codec.proofs.RoleTable.{length-two_by_two, two_by_two-append}

parts : (magic major super_offset max_dev sum right : ℕ)
    → ((magic == 0xa92b4efc) && (major == 1) && (super_offset == 8) && nat_le max_dev 384 && (sum == right)) ≡ true
    → (magic ≡ 0xa92b4efc) × (major ≡ 1) × (super_offset ≡ 8) × (max_dev ≤ 384) × (sum ≡ right)
parts magic major super_offset max_dev sum right valid =
    (grind (arith, nat_tests), grind (arith, nat_tests), grind (arith, nat_tests), grind (arith, nat_tests), grind (arith, nat_tests))

-- ---- before and after a write of the first sector

-- a superblock that was read may be written
pub writable-valid : (bytes : List ℕ) (sb : Sb) → IsTrue (is_valid bytes) → sb ≡ sb_of bytes → IsWritable sb
writable-valid bytes sb valid same =
    let all = parts (field bytes 0 4) (field bytes 4 4) (field bytes 144 8) (field bytes 220 4) (field bytes 216 4) (checksum bytes) valid in
    let P : Sb → Type 0 = λ s. IsWritable s in
    subst P (sym same) (record { magic = all.0; major = all.1; super_offset = all.2; max_dev = all.3 })

-- its entries from 128 on are those of sector 9
pub others-stand : (bytes : List ℕ) → length bytes ≡ 1024 → two_by_two (drop 512 bytes) ≡ drop 128 (sb_of bytes).dev_roles
others-stand bytes long =
    let front : List ℕ = slice_range bytes 256 512 in
    let short : length front ≡ 256 = omega (arith, length-take 256 (drop 256 bytes), length-drop 256 bytes) in
    let whole : slice_range bytes 256 1024 ≡ front ++ drop 512 bytes =
    between_to_end bytes 256 1024 (omega arith) ∙ drop_split bytes 256 512 (lit≤ tt) in
    let table : two_by_two (slice_range bytes 256 1024) ≡ two_by_two front ++ two_by_two (drop 512 bytes) =
    ap two_by_two whole ∙ two_by_two-append 128 front (drop 512 bytes) short in
    sym (ap (drop 128) table ∙ drop_at (two_by_two front) (two_by_two (drop 512 bytes)) 128 (length-two_by_two 128 front short))

-- ---- the fields

pub length-dev_roles : (bytes : List ℕ) → length bytes ≡ 1024 → length (sb_of bytes).dev_roles ≡ 384
length-dev_roles bytes long =
    length-two_by_two 384 (slice_range bytes 256 1024)
    (omega (arith, length-take 768 (drop 256 bytes), length-drop 256 bytes))
