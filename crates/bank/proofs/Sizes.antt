-- The sizes of the slots that are there are those that the bank gives, and no other slot has a sector.
use Rattle.std.proofs.Common.{◌≡◌, ℕ, ◌<◌, ◌≤◌, Bool, if◌then◌else◌, ap}
use Rattle.std.proofs.lemmas.Bool.{lt-ltb, le-ltb}
use Rattle.bank.specs.Given.{Given, sizes}

pub sizes-known : (given : Given) (slot : ℕ) → slot < given.slots → (sizes given).sectors slot ≡ given.sectors slot
sizes-known given slot lt = ap (λ (b : Bool). if b then given.sectors slot else 0) (lt-ltb slot given.slots lt)

pub sizes-unknown : (given : Given) (slot : ℕ) → given.slots ≤ slot → (sizes given).sectors slot ≡ 0
sizes-unknown given slot le = ap (λ (b : Bool). if b then given.sectors slot else 0) (le-ltb slot given.slots le)
