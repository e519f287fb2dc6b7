-- A row without its name.
use Rattle.std.specs.Prelude.{ℕ, List}

-- the sectors, role after role, and the set of the changed roles
pub record HeldRow : Type 0 where
  pub body : List (List ℕ)
  pub changed : ℕ
