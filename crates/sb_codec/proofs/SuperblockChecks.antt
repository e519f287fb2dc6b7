-- The checksum's two examples, computed.
use Rattle.std.proofs.Common.{◌≡◌, ℕ, List, [], ◌∷◌, ◌++◌, replicate, refl}
use Rattle.raid_types.specs.Bytes.{field}
use Rattle.sb_codec.specs.Superblock.{checksum}

-- magic, major 1, super_offset 8, this layout, and all else zero
abbrev example : List ℕ → List ℕ
example layout =
    (0xfc ∷ 0x4e ∷ 0x2b ∷ 0xa9 ∷ 1 ∷ 0 ∷ 0 ∷ 0 ∷ []) ++ replicate 68 0 ++ layout ++ replicate 64 0
    ++ (8 ∷ []) ++ replicate 111 0

plain_checksum : checksum (example (0 ∷ 0 ∷ 0 ∷ 0 ∷ [])) ≡ 0xa92b4f05
plain_checksum = refl

carried_checksum : checksum (example (255 ∷ 255 ∷ 255 ∷ 255 ∷ [])) ≡ 0xa92b4f05
carried_checksum = refl

super_offset_is : field (example (0 ∷ 0 ∷ 0 ∷ 0 ∷ [])) 144 8 ≡ 8
super_offset_is = refl
