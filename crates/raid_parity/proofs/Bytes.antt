-- Sectors of a row by their bytes.
use Rattle.std.proofs.Common.{◌≡◌, ℕ, ◌+◌, ◌-◌, ◌*◌, ◌<◌, List, get_or, drop, ◌∙◌, arith}
use Rattle.std.proofs.lemmas.List.{get_or-take, get_or-drop}
use Rattle.raid_parity.specs.Rows.{sector_of, byte_of}

pub sector_byte : (bytes : List ℕ) (role at : ℕ) → at < 512 → get_or (sector_of bytes role) at 0 ≡ byte_of bytes role at
sector_byte bytes role at lt =
    get_or-take (512 * role + 512 - 512 * role) (drop (512 * role) bytes) at 0 (omega arith) ∙ get_or-drop (512 * role) bytes at 0
