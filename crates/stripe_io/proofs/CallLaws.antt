-- What is left of the members by a call, and what it answers, where a search would look for it.
use Rattle.std.proofs.Common.{◌≡◌, ℕ, ◌*◌, ◌≤◌, true, List, ◌++◌, length, take, take_all, drop, refl, sym, ◌∙◌, ap, subst, arith}
use Rattle.std.proofs.lemmas.List.{take-append-le}
use Rattle.std.specs.Prelude.{MatchOption, OnOk, ⊤, false, Option, Some, None, is_some, Result, Ok, Err}
use Rattle.std.specs.Result.{is_err}
use Rattle.sb_safe_updates.specs.raid_types_the_Shape.{Shape}
use Rattle.sb_safe_updates.specs.bank_Given.{Given}
use Rattle.sb_safe_updates.specs.sb_specs_the_Members.{Members}
use Rattle.sb_safe_updates.specs.sb_specs_Reading.{Reading}
use Rattle.sb_safe_updates.specs.stripe_row_Rows.{reading_of, members_without}
use Rattle.sb_safe_updates.specs.stripe_list_the_Unavailable.{Unavailable}
use Rattle.sb_safe_updates.specs.stripe_list_the_Unavailable_TheVariants.{TooManyMissing, NotResynced}
use Rattle.sb_safe_updates.specs.stripe_list_Calls.{IsAnswer}
use Rattle.sb_safe_updates.specs.array_members_Placed.{IsPlaced, IsInForce}
use Rattle.sb_safe_updates.specs.array_members_Lacking.{LacksTooMany, refused_by}
use Rattle.sb_safe_updates.proofs.array_members_Fit.{disks-within}
use Rattle.sb_safe_updates.proofs.array_members_MemberLaws.{placed-without}

-- an option that is some isn't none
pub some-none : {A X : Type 0} (o : Option A) → is_some o ≡ true → o ≡ None → X
some-none o is none = absurd (cc)

-- what is said of a value is said where nothing is said of none
pub told-only : {A : Type 0} (P : Type 0) (Q : A → Type 0) (o : Option A) → MatchOption o P Q → MatchOption o ⊤ Q
told-only P Q None is = tt
told-only P Q (Some a) is = is

-- in an array that is synced, none is refused but where too many are missing
pub too-many-synced : {T : Type 0} (m : Members) (shape : Shape) (asked : ℕ → Type 0) (answer : Result T Unavailable) → IsAnswer shape true (reading_of m) asked answer
    → MatchOption (refused_by shape m answer) ⊤ (LacksTooMany shape m)
too-many-synced m shape asked (Ok done) is = tt
too-many-synced m shape asked (Err TooManyMissing) is = record { above = is; told = refl }
too-many-synced m shape asked (Err (NotResynced role)) is = absurd (let not = is.1 in cc)

-- so does an answer to what was asked for there, whatever else is asked for
pub answered : {T : Type 0} (shape : Shape) (r : Reading) (asked more : ℕ → Type 0) (answer : Result T Unavailable) → is_err answer ≡ true → IsAnswer shape true r asked answer → IsAnswer shape false r more answer
answered shape r asked more (Ok done) err is = absurd (cc)
answered shape r asked more (Err TooManyMissing) err is = is
answered shape r asked more (Err (NotResynced role)) err is = absurd (let not = is.1 in cc)

-- nothing is said of an answer that is an error
pub no-ok : {T E : Type 0} (Q : Type 0) (answer : Result T E) → is_err answer ≡ true → OnOk answer Q
no-ok Q (Ok done) err = absurd (cc)
no-ok Q (Err cause) err = tt

-- members that lose slots have their roles
pub roles-left : (given : Given) (m n : Members) (lost : ℕ) → n ≡ members_without lost m → IsPlaced given m → (shape : Shape) → IsInForce m.newest shape → shape.disks ≤ length n.roles
roles-left given m n lost same placed shape is =
    subst (λ (x : Members). shape.disks ≤ length x.roles) (sym same) (disks-within given (members_without lost m) (placed-without given m lost placed) shape is)

-- as many rows as are read at a time have their parts in a buffer
pub rows-room : (rows slice : List ℕ) (count : ℕ) (bytes whole first : List ℕ) → slice ≡ rows → length rows ≤ count → count ≤ 128 → bytes ≡ whole → length whole ≡ length first
    → 1048576 ≤ length first → 8192 * length slice ≤ length bytes
rows-room rows slice count bytes whole first same few most same' size room =
    let n = ap (λ (l : List ℕ). length l) same in
    let b = ap (λ (l : List ℕ). length l) same' in
    omega (arith, n, few, most, b, size, room)

-- bytes that are written over as many others have their length
pub written-length : (n : ℕ) (bytes written : List ℕ) → length written ≡ length bytes → n ≡ length bytes → length (take n (written ++ drop (length written) bytes)) ≡ length bytes
written-length n bytes written len ok =
    ap (λ (l : List ℕ). length l) (take-append-le n written (drop (length written) bytes) (omega (arith, len, ok)) ∙ take_all n written (omega (arith, len, ok))) ∙ len
