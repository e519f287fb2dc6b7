-- Room for the events of a call.
use Rattle.std.proofs.Common.{◌≡◌, ℕ, ◌+◌, ◌-◌, ◌<◌, ◌≤◌, List, ◌++◌, length, Option, Some, None, subst, arith, length-append}
use Rattle.std.specs.Prelude.{◌^◌, IfSome}
use Rattle.history_append.specs.bank_the_Operation.{Operation}
use Rattle.history_append.specs.sb_specs_Reading.{Reading}

pub room-at : (o : Option Reading) (r : Reading) (n : ℕ) → o ≡ Some r → IfSome o (λ r. r.newest.events + n < 2 ^ 62) → r.newest.events + n < 2 ^ 62
room-at None r n is room = absurd (cc)
room-at (Some q) r n is room = let same : q ≡ r = cc in subst (λ (x : Reading). x.newest.events + n < 2 ^ 62) same room

pub room-less : (o : Option Reading) (n k : ℕ) → k ≤ n → IfSome o (λ r. r.newest.events + n < 2 ^ 62) → IfSome o (λ r. r.newest.events + k < 2 ^ 62)
room-less None n k le room = tt
room-less (Some q) n k le room = omega (arith, room, le)

pub longer-by : (xs ys : List Operation) → length xs ≤ length (xs ++ ys)
longer-by xs ys = let both : length (xs ++ ys) ≡ length xs + length ys = length-append xs ys in omega (arith, both)
