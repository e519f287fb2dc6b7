-- Texts that are appended one behind the other.
use Rattle.std.proofs.Common.{◌≡◌, ◌∙◌, ℕ, ◌≤◌, List, ◌++◌, Vec, Result, Ok, Err, refl, ap, length, vec_capacity, arith}
use Rattle.std.proofs.lemmas.List.{append_assoc}
use Rattle.script.specs.Appends.{Appends}

-- two of them are one
pub joined : (old mid new a b : List ℕ) → mid ≡ old ++ a → new ≡ mid ++ b → new ≡ old ++ (a ++ b)
joined old mid new a b first second = second ∙ ap (λ l. l ++ b) first ∙ append_assoc old a b

-- what is appended behind a text is appended with it
pub chained : {Z T E : Type 0} (old mid new : Vec ℕ Z) (r : Result T E) (a b : List ℕ) → mid.items ≡ old.items ++ a → vec_capacity old ≤ vec_capacity mid
    → Appends mid new r b → Appends old new r (a ++ b)
chained old mid new (Ok x) a b is room app =
    record { whole = joined old.items mid.items new.items a b is app.whole; full = tt; room = omega (arith, room, app.room) }
chained old mid new (Err e) a b is room app =
    let all = ap length (joined old.items mid.items (mid.items ++ b) a b is refl) in
    record { whole = tt; full = omega (arith, room, app.full, all); room = omega (arith, room, app.room) }
