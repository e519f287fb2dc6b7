use Rattle.std.proofs.Common.{◌≡◌, ◌+◌, List, [], ◌∷◌, ◌++◌, arith}
use Rattle.test_lane_lock.specs.declared.entry.Entry.{Entry}
use Rattle.test_lane_lock.specs.Tallies.{sum_of}

pub sum_snoc : (xs : List Entry) (e : Entry) → sum_of (xs ++ e ∷ []) ≡ sum_of xs + e.amount
sum_snoc [] e = omega arith
sum_snoc (x ∷ xs) e = let r = sum_snoc xs e in omega arith
