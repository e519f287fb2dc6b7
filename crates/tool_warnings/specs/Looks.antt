-- Files that were looked at.
use Rattle.std.specs.Prelude.{ℕ, ◌≤◌, zero, suc, List, [], ◌∷◌, ◌++◌, length, map, string_bytes, All, Option}
use Rattle.sb_codec.specs.declared.sb.Sb.{Sb}
use Rattle.tool_warnings.specs.Fronts.{superblock_at}
use Rattle.tool_warnings.specs.declared.looked.Looked.{Looked}

abbrev pub slots_of : List Looked → List ℕ
slots_of looked = map (λ l. l.slot) looked

abbrev pub paths_of : List Looked → List (List ℕ)
paths_of looked = map (λ l. string_bytes l.path) looked

-- 0, 1, 2 and so on, so many
abbrev pub numbers_below : ℕ → List ℕ
numbers_below zero = []
numbers_below (suc n) = numbers_below n ++ n ∷ []

-- of each file no more bytes are known than hold all that is looked for
abbrev pub AreShort : List Looked → Type 0
AreShort looked = All (λ l. length l.front.items ≤ 66048) looked

-- the superblock in each of these slots
abbrev pub superblocks_of : List Looked → List (Option Sb)
superblocks_of slots = map (λ l. superblock_at l.front.items) slots
