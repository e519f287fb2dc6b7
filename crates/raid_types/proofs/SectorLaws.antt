-- Bytes as sectors.
use Rattle.std.proofs.Common.{◌≡◌, ℕ, zero, suc, ◌/◌, List, length, drop, refl, ap}
use Rattle.raid_types.specs.Sectors.{first_sectors, sectors_of}

-- there are as many sectors as were asked for
pub length-first_sectors : (n : ℕ) (bytes : List ℕ) → length (first_sectors n bytes) ≡ n
length-first_sectors zero bytes = refl
length-first_sectors (suc n) bytes = ap suc (length-first_sectors n (drop 512 bytes))

pub length-sectors_of : (bytes : List ℕ) → length (sectors_of bytes) ≡ length bytes / 512
length-sectors_of bytes = length-first_sectors (length bytes / 512) bytes
