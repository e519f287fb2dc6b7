-- Texts that are appended one behind another.
use Rattle.std.proofs.Common.{rules, ◌≡◌, ℕ, List, ◌++◌, append_assoc}

-- an end of a line that was written with the words behind it
pub regroup : (a b c d e : List ℕ) → ((a ++ b) ++ c) ++ (d ++ e) ≡ (a ++ ((b ++ c) ++ d)) ++ e
regroup a b c d e = search (rules, append_assoc)
