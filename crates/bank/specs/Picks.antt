-- Which image is made of those that a stop may leave: the one that has certain writes since each slot's last flush.
use Rattle.std.specs.Prelude.{◌≡◌, ◌≢◌, ◌⊎◌, ℕ, ◌+◌, ◌/◌, ◌%◌, ◌^◌, ◌<◌, ◌≤◌, ◌==◌, ◌||◌, nat_lt, Bool, true, false, List, [], ◌∷◌, slice_get, slice_range, slice_set, Some, if◌then◌else◌}
use Rattle.bank.specs.declared.bank.Operation.{Operation}
use Rattle.bank.specs.declared.bank.Operation.TheVariants.{Write, Flush}
use Rattle.bank.specs.declared.image.Pick.{Pick}
use Rattle.bank.specs.declared.image.Pick.TheVariants.{Flushed, Latest, Mixed}
use Rattle.bank.specs.Tape.{Contents, contents, value_after}

-- f is the mark after the slot's last flush among the first m operations, and 0 where there is none.
pub record IsLastFlush (tape : List Operation) (m s f : ℕ) : Type 0 where
  pub in_time : f ≤ m
  pub last : (f ≡ 0) ⊎ ((i : ℕ) × (f ≡ i + 1) × (slice_get tape i ≡ Some (Flush s)))
  pub none_since : (i : ℕ) → f ≤ i → i < m → slice_get tape i ≢ Some (Flush s)

-- Whether a pick keeps an operation since the last flush, by its place on the tape: none, all, or those whose bit is set
-- in the number (the places go round its 64 bits).
abbrev pub keeps : Pick → ℕ → Bool
keeps Flushed place = false
keeps Latest place = true
keeps (Mixed number) place = number / 2 ^ (place % 64) % 2 == 1

-- the operations that are kept, where the first of them stands at this place
abbrev pub kept : (ℕ → Bool) → ℕ → List Operation → List Operation
kept keep place [] = []
kept keep place (op ∷ ops) = if keep place then op ∷ kept keep (place + 1) ops else kept keep (place + 1) ops

-- Each sector has its value at its slot's last flush, with those writes since that the pick keeps.
abbrev pub IsPicked : Pick → Contents → List Operation → ℕ → Contents → Type 0
IsPicked pick start tape m c =
    (s k f : ℕ) → IsLastFlush tape m s f
    → c s k ≡ value_after s k (contents start tape f s k) (kept (keeps pick) f (slice_range tape f m))

-- what an image has of the operations, where the slot's last flush was at this mark
abbrev pub is_taken : Pick → ℕ → ℕ → Bool
is_taken pick flushed place = nat_lt place flushed || keeps pick place

-- the marks of the slots' last flushes, after an operation that stands before this mark
abbrev pub noted : Operation → ℕ → List ℕ → List ℕ
noted (Write t j bytes) mark marks = marks
noted (Flush t) mark marks = slice_set marks t mark
