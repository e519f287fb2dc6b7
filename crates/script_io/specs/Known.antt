-- The bytes that a reader has left or a writer holds, where its type tells them.
use Rattle.std.specs.Prelude.{ℕ, List, [], None, Some, Option, IsSome}

-- the bytes, where they are known
abbrev pub known_bytes : Option (List ℕ) → List ℕ
known_bytes None = []
known_bytes (Some bytes) = bytes

-- they are known at every value of the type
abbrev pub AreKnown : {X : Type 0} → (X → Option (List ℕ)) → Type 0
AreKnown {X} bytes = (x : X) → IsSome (bytes x)
