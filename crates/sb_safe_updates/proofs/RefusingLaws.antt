-- Which of two causes is told first.
use Rattle.std.proofs.Common.{◌≡◌, ◌⊎◌, inl, inr, ℕ, zero, suc, ◌+◌, ◌-◌, ◌*◌, ◌<◌, ◌≤◌, ◌&&◌, Bool, true, false, not, nat_lt, nat_le, if◌then◌else◌, Option, Some, None, option_map, Result, Ok, Err, is_some, refl, sym, ◌∙◌, ap, arith}
use Rattle.std.specs.Prelude.{MatchOption, OnOk, ⊤}
use Rattle.std.specs.Result.{is_err}
use Rattle.std.specs.Option.{option_or}
use Rattle.std.proofs.lemmas.Bool.{cases_lt}
use Rattle.std.proofs.lemmas.Bool.Decides.{nat_tests}
use Rattle.raid_layout.specs.raid_types_Search.{least_below}
use Rattle.raid_layout.proofs.raid_types_Least.{least_below-none}
use Rattle.raid_layout.specs.raid_types_Shapes.{is_valid_shape, is_multiple, tolerance, data_disks}
use Rattle.raid_layout.specs.raid_types_the_Shape.{Shape}
use Rattle.sb_update.specs.raid_types_the_Refusal.{Refusal}
use Rattle.sb_update.specs.raid_types_the_Refusal_TheVariants.{NotResynced as Unsynced}
use Rattle.raid_layout.specs.Layout.{place, is_parity_only}
use Rattle.raid_layout.proofs.Places.{place-row_below}
use Rattle.sb_update.specs.sb_specs_the_Members.{Members}
use Rattle.array_members.specs.stripe_row_Rows.{reading_of, is_missing}
use Rattle.array_members.specs.stripe_list_the_Unavailable.{Unavailable}
use Rattle.array_members.specs.stripe_list_the_Unavailable_TheVariants.{TooManyMissing, NotResynced}
use Rattle.array_members.specs.stripe_list_Buffers.{HasData, IsDataWhole}
use Rattle.array_members.specs.stripe_list_Calls.{IsAnswer}
use Rattle.array_members.specs.Refusals.{lowest_missing}
use Rattle.array_members.specs.Lacking.{lacking, too_many, LacksTooMany, DoesWithout, IsAskedBeyond, IsUnread, IsUnwritten}
use Rattle.array_members.proofs.Searching.{least-found, both-parts}
use Rattle.sb_safe_updates.specs.First.{are_too_many, is_lacking, first_lacking, read_refusal, write_refusal}

-- ---- too many

above-is : (a b : ℕ) → a < b → nat_lt a b ≡ true
above-is a b h = grind (arith, nat_tests)

few-is : (a b : ℕ) → b ≤ a → nat_lt a b ≡ false
few-is a b h = grind (arith, nat_tests)

is-above : (a b : ℕ) → nat_lt a b ≡ true → a < b
is-above a b h = grind (arith, nat_tests)

is-few : (a b : ℕ) → nat_lt a b ≡ false → b ≤ a
is-few a b h = grind (arith, nat_tests)

pub many-first : (shape : Shape) (m : Members) (rest : Option Refusal) (refusal : Refusal) → LacksTooMany shape m refusal → (if are_too_many shape m then Some (too_many shape m) else rest) ≡ Some refusal
many-first shape m rest refusal many =
    ap (λ (b : Bool). if b then Some (too_many shape m) else rest) (above-is (tolerance shape) (lacking shape m) many.above) ∙ ap (λ (r : Refusal). Some r) (sym many.told)

pub few-first : (shape : Shape) (m : Members) (rest : Option Refusal) → DoesWithout shape m → (if are_too_many shape m then Some (too_many shape m) else rest) ≡ rest
few-first shape m rest few = ap (λ (b : Bool). if b then Some (too_many shape m) else rest) (few-is (tolerance shape) (lacking shape m) few)

-- what the test of the members told
pub told-many : (shape : Shape) (m : Members) (found : Option Refusal) (rest : Option Refusal) → is_some found ≡ true → MatchOption found (DoesWithout shape m) (LacksTooMany shape m) → found ≡ (if are_too_many shape m then Some (too_many shape m) else rest)
told-many shape m None rest some is = absurd (cc)
told-many shape m (Some refusal) rest some is = sym (many-first shape m rest refusal is)

pub told-few : (shape : Shape) (m : Members) (found : Option Refusal) → is_some found ≡ false → MatchOption found (DoesWithout shape m) (LacksTooMany shape m) → DoesWithout shape m
told-few shape m None none is = is
told-few shape m (Some refusal) none is = absurd (cc)

-- ---- the first place

-- no sector lies behind all rows
pub none-beyond : (shape : Shape) (m : Members) (mended first count : ℕ) → is_valid_shape shape ≡ true → is_multiple m.newest.size shape.chunk ≡ true → first + count ≤ data_disks shape * m.newest.size → m.newest.size ≤ mended
    → least_below count (λ i. is_lacking shape m mended (first + i)) ≡ None
none-beyond shape m mended first count valid multiple within all = least_below-none count (λ i. is_lacking shape m mended (first + i)) (λ i lt.
    let below = place-row_below shape valid (first + i) m.newest.size multiple (omega (arith, within, lt)) in
    ap (λ (b : Bool). b && is_missing (reading_of m) (place shape (first + i)).role) (past mended (place shape (first + i)).row (omega (arith, below, all))))
  where
    past : (a b : ℕ) → b < a → nat_le a b ≡ false
    past a b h = grind (arith, nat_tests)

-- a refusal for the role of what was found
pub none-refused : (o : Option ℕ) → None ≡ o → option_map (λ role. Unsynced role) o ≡ None
none-refused None is = refl
none-refused (Some role) is = absurd (cc)

pub some-refused : (o : Option ℕ) (role : ℕ) → Some role ≡ o → option_map (λ role. Unsynced role) o ≡ Some (Unsynced role)
some-refused o role is = ap (λ (x : Option ℕ). option_map (λ role. Unsynced role) x) (sym is)

-- ---- the cause of a refusal

-- where no number passes, none does
pub least-none : (n : ℕ) (test : ℕ → Bool) → least_below n test ≡ None → (i : ℕ) → i < n → test i ≡ false
unfolding least_below
least-none zero test is i lt = absurd (omega (arith, lt))
least-none (suc n) test is i lt = by (least_below n test) (test n) refl refl is (λ before below. least-none n test before i below)
  where
    by : (o : Option ℕ) (b : Bool) → least_below n test ≡ o → test n ≡ b → option_or o (if b then Some n else None) ≡ None → (least_below n test ≡ None → i < n → test i ≡ false) → test i ≡ false
    by None true before here fails more = absurd (cc)
    by (Some k) b before here fails more = absurd (cc)
    by None false before here fails more = elim (cases_lt i n) [
      | inl below ↦ more before below
      | inr past ↦ let same : i ≡ n = omega (arith, lt, past) in ap test same ∙ here
    ]

at-most : (a b : ℕ) → a ≤ b → nat_le a b ≡ true
at-most a b h = grind (arith, nat_tests)

is-most : (a b : ℕ) → nat_le a b ≡ true → a ≤ b
is-most a b h = grind (arith, nat_tests)

same-refusal : (a b : Refusal) → ◌≡◌ {A = Option Refusal} (Some a) (Some b) → a ≡ b
same-refusal a b e = cc

-- by the first refusal
many-or : (shape : Shape) (m : Members) (rest : Option Refusal) (refusal : Refusal) → (if are_too_many shape m then Some (too_many shape m) else rest) ≡ Some refusal → LacksTooMany shape m refusal ⊎ (rest ≡ Some refusal)
many-or shape m rest refusal is = by (are_too_many shape m) refl is
  where
    by : (b : Bool) → are_too_many shape m ≡ b → (if b then Some (too_many shape m) else rest) ≡ Some refusal → LacksTooMany shape m refusal ⊎ (rest ≡ Some refusal)
    by true above told = inl (record { above = is-above (tolerance shape) (lacking shape m) above; told = sym (same-refusal (too_many shape m) refusal told) })
    by false few told = inr told

none-or : (shape : Shape) (m : Members) (rest : Option Refusal) → (if are_too_many shape m then Some (too_many shape m) else rest) ≡ None → DoesWithout shape m × (rest ≡ None)
none-or shape m rest is = by (are_too_many shape m) refl is
  where
    by : (b : Bool) → are_too_many shape m ≡ b → (if b then Some (too_many shape m) else rest) ≡ None → DoesWithout shape m × (rest ≡ None)
    by true above told = absurd (cc)
    by false few told = (is-few (tolerance shape) (lacking shape m) few, told)

pub read-cause : (shape : Shape) (mended first count : ℕ) (m : Members) (refusal : Refusal) → read_refusal shape mended first count m ≡ Some refusal → IsUnread shape mended first count m refusal
read-cause shape mended first count m refusal is = elim (many-or shape m (option_map (λ role. Unsynced role) (first_lacking shape mended first count m)) refusal is) [
  | inl many ↦ inl many
  | inr rest ↦ inr (by (least_below count (λ i. is_lacking shape m mended (first + i))) refl rest)
]
  where
    by : (o : Option ℕ) → least_below count (λ i. is_lacking shape m mended (first + i)) ≡ o → option_map (λ role. Unsynced role) (option_map (λ i. (place shape (first + i)).role) o) ≡ Some refusal
        → (role : ℕ) × (refusal ≡ Unsynced role) × (is_missing (reading_of m) role ≡ true) × IsAskedBeyond shape mended first count role
    by None found told = absurd (cc)
    by (Some i) found told =
        let here = least-found count (λ i. is_lacking shape m mended (first + i)) i found in
        let parts = both-parts _ _ here.1 in (
          (place shape (first + i)).role,
          sym (same-refusal (Unsynced (place shape (first + i)).role) refusal told),
          parts.1,
          (first + i, omega arith, (let lt = here.0 in omega (arith, lt)), refl, is-most mended (place shape (first + i)).row parts.0),
        )

pub write-cause : (shape : Shape) (synced : Bool) (m : Members) (refusal : Refusal) → write_refusal shape synced m ≡ Some refusal → IsUnwritten shape synced m refusal
write-cause shape synced m refusal is = elim (many-or shape m (if synced then None else option_map (λ role. Unsynced role) (lowest_missing shape m)) refusal is) [
  | inl many ↦ inl many
  | inr rest ↦ inr (by synced refl rest)
]
  where
    flip : (b : Bool) → not b ≡ true → b ≡ false
    flip true e = absurd (cc)
    flip false e = refl

    at : (o : Option ℕ) → lowest_missing shape m ≡ o → option_map (λ role. Unsynced role) o ≡ Some refusal
        → (role : ℕ) × (refusal ≡ Unsynced role) × (is_missing (reading_of m) role ≡ true) × HasData shape role
    at None found told = absurd (cc)
    at (Some role) found told =
        let here = least-found shape.disks (λ role. is_missing (reading_of m) role && not (is_parity_only shape role)) role found in
        let parts = both-parts _ _ here.1 in
        (role, sym (same-refusal (Unsynced role) refusal told), parts.0, (here.0, flip (is_parity_only shape role) parts.1))

    by : (b : Bool) → synced ≡ b → (if b then None else option_map (λ role. Unsynced role) (lowest_missing shape m)) ≡ Some refusal
        → (role : ℕ) × (refusal ≡ Unsynced role) × (synced ≡ false) × (is_missing (reading_of m) role ≡ true) × HasData shape role
    by true is told = absurd (cc)
    by false is told = let found = at (lowest_missing shape m) refl told in (found.0, found.1, is, found.2, found.3)

-- ---- none is told

pub read-none : (shape : Shape) (mended first count : ℕ) (m : Members) → read_refusal shape mended first count m ≡ None → DoesWithout shape m × ((role : ℕ) → IsAskedBeyond shape mended first count role → is_missing (reading_of m) role ≡ false)
read-none shape mended first count m is =
    let parts = none-or shape m (option_map (λ role. Unsynced role) (first_lacking shape mended first count m)) is in (
      parts.0,
      λ role asked.
          let fails = least-none count (λ i. is_lacking shape m mended (first + i)) (least (least_below count (λ i. is_lacking shape m mended (first + i))) refl parts.1) (asked.0 - first) (let low = asked.1 in let high = asked.2 in omega (arith, low, high)) in
          let here : first + (asked.0 - first) ≡ asked.0 = (let low = asked.1 in omega (arith, low)) in
          not-both _ _ (at-most mended (place shape asked.0).row asked.4) (ap (is_lacking shape m mended) (sym here) ∙ fails) asked.3,
    )
  where
    least : (o : Option ℕ) → least_below count (λ i. is_lacking shape m mended (first + i)) ≡ o → option_map (λ role. Unsynced role) (option_map (λ i. (place shape (first + i)).role) o) ≡ None
        → least_below count (λ i. is_lacking shape m mended (first + i)) ≡ None
    least None found none = found
    least (Some i) found none = absurd (cc)

    not-both : (a : Bool) (x : ℕ) {role : ℕ} → a ≡ true → (a && is_missing (reading_of m) x) ≡ false → x ≡ role → is_missing (reading_of m) role ≡ false
    not-both true x is fails same = ap (is_missing (reading_of m)) (sym same) ∙ fails
    not-both false x is fails same = absurd (cc)

pub write-none : (shape : Shape) (synced : Bool) (m : Members) → write_refusal shape synced m ≡ None → DoesWithout shape m × (synced ≡ false → IsDataWhole (reading_of m) shape)
write-none shape synced m is =
    let parts = none-or shape m (if synced then None else option_map (λ role. Unsynced role) (lowest_missing shape m)) is in (parts.0, λ unsynced. whole (least (lowest_missing shape m) refl (ap (λ (b : Bool). if b then None else option_map (λ role. Unsynced role) (lowest_missing shape m)) (sym unsynced) ∙ parts.1)))
  where
    least : (o : Option ℕ) → lowest_missing shape m ≡ o → option_map (λ role. Unsynced role) o ≡ None → lowest_missing shape m ≡ None
    least None found none = found
    least (Some role) found none = absurd (cc)

    only : (a b : Bool) → (a && not b) ≡ false → a ≡ true → b ≡ true
    only true true e is = refl
    only true false e is = absurd (cc)
    only false b e is = absurd (cc)

    whole : lowest_missing shape m ≡ None → IsDataWhole (reading_of m) shape
    whole none role lt missing = only (is_missing (reading_of m) role) (is_parity_only shape role)
        (least-none shape.disks (λ role. is_missing (reading_of m) role && not (is_parity_only shape role)) none role lt) missing

-- ---- an answer that tells of missing roles isn't given where nothing is told

pub read-told : {T : Type 0} (m : Members) (shape : Shape) (mended first count : ℕ) (answer : Result T Unavailable) → is_err answer ≡ true
    → IsAnswer shape false (reading_of m) (IsAskedBeyond shape mended first count) answer → read_refusal shape mended first count m ≡ None → ⊥
read-told m shape mended first count answer err is none = by answer err is (read-none shape mended first count m none)
  where
    by : {T : Type 0} (answer : Result T Unavailable) → is_err answer ≡ true → IsAnswer shape false (reading_of m) (IsAskedBeyond shape mended first count) answer
        → DoesWithout shape m × ((role : ℕ) → IsAskedBeyond shape mended first count role → is_missing (reading_of m) role ≡ false) → ⊥
    by (Ok done) err is fine = absurd (cc)
    by (Err TooManyMissing) err is fine =
        absurd (let above = is in let few = fine.0 in omega (arith, above, few))
    by (Err (NotResynced role)) err is fine =
        absurd (let e = sym (fine.1 role is.3) ∙ is.2 in cc)

pub write-told : {T : Type 0} (m : Members) (shape : Shape) (synced : Bool) (answer : Result T Unavailable) → is_err answer ≡ true
    → IsAnswer shape synced (reading_of m) (HasData shape) answer → write_refusal shape synced m ≡ None → ⊥
write-told m shape synced answer err is none = by answer err is (write-none shape synced m none)
  where
    by : {T : Type 0} (answer : Result T Unavailable) → is_err answer ≡ true → IsAnswer shape synced (reading_of m) (HasData shape) answer
        → DoesWithout shape m × (synced ≡ false → IsDataWhole (reading_of m) shape) → ⊥
    by (Ok done) err is fine = absurd (cc)
    by (Err TooManyMissing) err is fine =
        absurd (let above = is in let few = fine.0 in omega (arith, above, few))
    by (Err (NotResynced role)) err is fine =
        let has = is.3 in
        absurd (let e = sym (fine.1 is.1 role has.0 is.2) ∙ has.1 in cc)

-- ---- what is told

pub told-first : {why : Option Refusal} (found : Option Refusal) → found ≡ why → MatchOption found ⊤ (λ refusal. why ≡ Some refusal)
told-first None is = tt
told-first (Some refusal) is = sym is

pub told-why : {P : Refusal → Type 0} {why : Option Refusal} (found : Option Refusal) → ((refusal : Refusal) → why ≡ Some refusal → P refusal) → MatchOption found ⊤ (λ refusal. why ≡ Some refusal) → MatchOption found ⊤ P
told-why None of is = tt
told-why (Some refusal) of is = of refusal is

pub not-err : {T Q : Type 0} (answer : Result T Unavailable) → is_err answer ≡ false → OnOk answer Q → Q
not-err (Ok done) none q = q
not-err (Err cause) none q = absurd (cc)

-- too many are told first
pub many-told : (A : Type 0) (shape : Shape) (synced : Bool) (m : Members) (found : Option Refusal) → MatchOption found A (LacksTooMany shape m) → MatchOption found ⊤ (λ refusal. write_refusal shape synced m ≡ Some refusal)
many-told A shape synced m None is = tt
many-told A shape synced m (Some refusal) is = many-first shape m (if synced then None else option_map (λ role. Unsynced role) (lowest_missing shape m)) refusal is
