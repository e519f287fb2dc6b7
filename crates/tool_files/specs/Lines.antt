-- What is asked of files that are looked at.
use Rattle.std.specs.Prelude.{ℕ, zero, suc, List, [], ◌∷◌, ◌++◌, codes, decimal}

-- the line that asks for a slot's superblock
abbrev pub examine_line : ℕ → List ℕ
examine_line slot = codes "examine " ++ decimal slot ++ 10 ∷ []

-- those of the first few slots
abbrev pub examine_lines : ℕ → List ℕ
examine_lines zero = []
examine_lines (suc n) = examine_lines n ++ examine_line n
