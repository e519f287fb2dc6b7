-- Which sectors of a request lie in a span.
use Rattle.std.proofs.Common.{◌≡◌, inl, inr, ℕ, ◌<◌, ◌≤◌, ◌&&◌, nat_le, nat_lt, max, min, Bool, true, false, ◌↔◌, Option, Some, refl, sym, ◌∙◌, arith}
use Rattle.std.proofs.lemmas.Bool.Decides.{nat_tests}
use Rattle.reshape_progress.specs.raid_types_the_Span.{Span}
use Rattle.reshape_progress.specs.reshape_geometry_Geometry.{IsIn}
use Rattle.reshape_progress.specs.history_Stands.{covers}
use Rattle.reshape_progress.proofs.crash_views_UnderWay.{in-or-out}

-- it is one of the request, and the span covers it
abbrev pub IsAskedIn : Option Span → ℕ → ℕ → ℕ → Type 0
IsAskedIn span from to x = (from ≤ x) × (x < to) × (covers span x ≡ true)

covered-is : (lo hi x : ℕ) → lo ≤ x → x < hi → (nat_le lo x && nat_lt x hi) ≡ true
covered-is lo hi x low high = grind (arith, nat_tests, low, high)

is-covered : (span : Span) (x : ℕ) → covers (Some span) x ≡ true → IsIn x span
is-covered span x is = elim (in-or-out span x) [
  | inl inside ↦ inside
  | inr out ↦ absurd (let e = sym out ∙ is in cc)
]

-- an empty part
pub empty-part : (span : Option Span) (from to x : ℕ) → (IsAskedIn span from to x → ⊥) → IsIn x (record { lo = from; hi = from }) ↔ IsAskedIn span from to x
empty-part span from to x none = (λ at. absurd (let low = at.0 in let high = at.1 in omega (arith, low, high)), λ asked. absurd (none asked))

pub none-apart : (span : Span) (from to lo hi : ℕ) → lo ≡ max span.lo from → hi ≡ min span.hi to → hi ≤ lo → (x : ℕ) → IsAskedIn (Some span) from to x → ⊥
none-apart span from to lo hi one two apart x asked =
    let from_is = asked.0 in
    let to_is = asked.1 in
    let at = is-covered span x asked.2 in
    let low = at.0 in
    let high = at.1 in
    absurd (omega (arith, one, two, apart, from_is, to_is, low, high))

-- a part that isn't
pub part-is : (span : Span) (from to lo hi : ℕ) → lo ≡ max span.lo from → hi ≡ min span.hi to → (x : ℕ) → IsIn x (record { lo = lo; hi = hi }) ↔ IsAskedIn (Some span) from to x
part-is span from to lo hi one two x = (
  λ at. let low = at.0 in let high = at.1 in
      (omega (arith, one, low), omega (arith, two, high), covered-is span.lo span.hi x (omega (arith, one, low)) (omega (arith, two, high))),
  λ asked. let from_is = asked.0 in let to_is = asked.1 in let at = is-covered span x asked.2 in let low = at.0 in let high = at.1 in
      (omega (arith, one, from_is, low), omega (arith, two, to_is, high)),
)

-- ---- whether there is any

less-of : (a b : ℕ) → nat_lt a b ≡ true → a < b
less-of a b is = grind (arith, nat_tests, is)

most-of : (a b : ℕ) → nat_lt a b ≡ false → b ≤ a
most-of a b is = grind (arith, nat_tests, is)

pub some-met : (span : Option Span) (from to : ℕ) (part : Span) → ((x : ℕ) → IsIn x part ↔ IsAskedIn span from to x) → nat_lt part.lo part.hi ≡ true → (x : ℕ) × (from ≤ x) × (x < to) × (covers span x ≡ true)
some-met span from to part are is =
    let asked = (are part.lo).0 (omega arith, less-of part.lo part.hi is) in
    (part.lo, asked.0, asked.1, asked.2)

pub none-met : (span : Option Span) (from to : ℕ) (part : Span) → ((x : ℕ) → IsIn x part ↔ IsAskedIn span from to x) → nat_lt part.lo part.hi ≡ false
    → (x : ℕ) → from ≤ x → x < to → covers span x ≡ false
none-met span from to part are is x low high = of (covers span x) refl
  where
    of : (b : Bool) → covers span x ≡ b → covers span x ≡ false
    of false here = here
    of true here = absurd (
        let at = (are x).1 (low, high, here) in
        let over = at.0 in
        let under = at.1 in
        let none = most-of part.lo part.hi is in
        omega (arith, over, under, none))
