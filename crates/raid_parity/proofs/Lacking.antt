-- Which roles of a row lack, and the bytes that the others have.
use Rattle.std.proofs.Common.{◌≡◌, ◌≢◌, ◌⊎◌, inl, inr, ℕ, zero, suc, ◌+◌, ◌<◌, Bool, true, false, cond, eqb, eq-eqb, eqb-true, ◌||◌, List, [], ◌∷◌, ◌++◌, length, get_or, Option, Some, None, unwrap_or, refl, sym, ap, ap₂, ◌∙◌, arith, append-nil}
use Rattle.std.proofs.lemmas.Bool.{cases_eq, or_cases}
use Rattle.std.proofs.lemmas.List.{get_or-replicate}
use Rattle.raid_types.specs.Search.{tabulate}
use Rattle.raid_types.specs.Sectors.{Sector, zero_sector}
use Rattle.raid_types.proofs.Tabulated.{length-tabulate}
use Rattle.raid_parity.specs.Parity.{Row, lacking_from, lacking_in, column}
use Rattle.raid_parity.specs.Rows.{row_without}
use Rattle.raid_parity.proofs.Columns.{map-tabulate, tabulate-same}

-- ---- the lacking roles in order

pub lack_list : (ℕ → Bool) → ℕ → List ℕ
lack_list lacks zero = []
lack_list lacks (suc n) = lack_list lacks n ++ cond (lacks n) (n ∷ []) []

lone : ℕ → Option Sector → List ℕ
lone role None = role ∷ []
lone role (Some sector) = []

lacking_from-snoc : (role : ℕ) (xs : Row) (x : Option Sector) → lacking_from role (xs ++ x ∷ []) ≡ lacking_from role xs ++ lone (role + length xs) x
unfolding lone
lacking_from-snoc role [] None = ap (λ r. r ∷ []) (omega arith)
lacking_from-snoc role [] (Some sector) = refl
lacking_from-snoc role (None ∷ xs) x =
    let place : role + 1 + length xs ≡ role + suc (length xs) = omega arith in
    ap (λ more. role ∷ more) (lacking_from-snoc (role + 1) xs x ∙ ap (λ r. lacking_from (role + 1) xs ++ lone r x) place)
lacking_from-snoc role (Some sector ∷ xs) x =
    let place : role + 1 + length xs ≡ role + suc (length xs) = omega arith in
    lacking_from-snoc (role + 1) xs x ∙ ap (λ r. lacking_from (role + 1) xs ++ lone r x) place

lone_chosen : (b : Bool) (role : ℕ) (sector : Sector) → lone role (cond b None (Some sector)) ≡ cond b (role ∷ []) []
unfolding lone
lone_chosen true role sector = refl
lone_chosen false role sector = refl

pub lacking_in-row : (lacks : ℕ → Bool) (n : ℕ) (sectors : ℕ → Sector) → lacking_in (row_without lacks n sectors) ≡ lack_list lacks n
unfolding tabulate lack_list
lacking_in-row lacks zero sectors = refl
lacking_in-row lacks (suc n) sectors =
    let place : 0 + length (row_without lacks n sectors) ≡ n = omega (arith, length-tabulate n (λ role. cond (lacks role) None (Some (sectors role)))) in
    lacking_from-snoc 0 (row_without lacks n sectors) (cond (lacks n) None (Some (sectors n)))
    ∙ ap₂ (λ xs r. xs ++ lone r (cond (lacks n) None (Some (sectors n)))) (lacking_in-row lacks n sectors) place
    ∙ ap (λ ys. lack_list lacks n ++ ys) (lone_chosen (lacks n) n (sectors n))

-- what the list says of the roles
abbrev pub Known : (ℕ → Bool) → ℕ → List ℕ → Type 0
Known lacks n [] = (r : ℕ) → r < n → lacks r ≡ false
Known lacks n (a ∷ []) = (a < n) × (lacks a ≡ true) × ((r : ℕ) → r < n → r ≢ a → lacks r ≡ false)
Known lacks n (a ∷ b ∷ []) = (a < b) × (b < n) × (lacks a ≡ true) × (lacks b ≡ true) × ((r : ℕ) → r < n → r ≢ a → r ≢ b → lacks r ≡ false)
Known lacks n (a ∷ b ∷ c ∷ more) = (a < b) × (b < c) × (c < n) × (lacks a ≡ true) × (lacks b ≡ true) × (lacks c ≡ true)

with_more : (lacks : ℕ → Bool) (n : ℕ) (xs : List ℕ) → lacks n ≡ true → Known lacks n xs → Known lacks (suc n) (xs ++ n ∷ [])
with_more lacks n [] here known = (omega arith, here, λ r lt ne. known r (omega arith))
with_more lacks n (a ∷ []) here known = (known.0, omega arith, known.1, here, λ r lt na nn. known.2 r (omega arith) na)
with_more lacks n (a ∷ b ∷ []) here known = (known.0, known.1, omega arith, known.2, known.3, here)
with_more lacks n (a ∷ b ∷ c ∷ more) here known = (known.0, known.1, omega arith, known.3, known.4, known.5)

with_other : (lacks : ℕ → Bool) (n : ℕ) (xs : List ℕ) → lacks n ≡ false → Known lacks n xs → Known lacks (suc n) xs
with_other lacks n [] other known = λ r lt. elim (cases_eq r n) [ inl e ↦ rw e other | inr ne ↦ known r (omega arith) ]
with_other lacks n (a ∷ []) other known =
    (omega arith, known.1, λ r lt na. elim (cases_eq r n) [ inl e ↦ rw e other | inr ne ↦ known.2 r (omega arith) na ])
with_other lacks n (a ∷ b ∷ []) other known =
    (known.0, omega arith, known.2, known.3, λ r lt na nb. elim (cases_eq r n) [ inl e ↦ rw e other | inr ne ↦ known.4 r (omega arith) na nb ])
with_other lacks n (a ∷ b ∷ c ∷ more) other known = (known.0, known.1, omega arith, known.3, known.4, known.5)

with_next : (lacks : ℕ → Bool) (n : ℕ) (xs : List ℕ) (b : Bool) → lacks n ≡ b → Known lacks n xs → Known lacks (suc n) (xs ++ cond b (n ∷ []) [])
with_next lacks n xs true e before = with_more lacks n xs e before
with_next lacks n xs false e before = rw append-nil (with_other lacks n xs e before)

pub known : (lacks : ℕ → Bool) (n : ℕ) → Known lacks n (lack_list lacks n)
unfolding lack_list
known lacks zero = λ r lt. absurd (omega arith)
known lacks (suc n) = with_next lacks n (lack_list lacks n) (lacks n) refl (known lacks n)

-- one role alone
only_one : (m n : ℕ) → m < n → (xs : List ℕ) → Known (λ r. eqb r m) n xs → xs ≡ m ∷ []
only_one m n lt [] known =
    let yes_it : eqb m m ≡ true = eq-eqb m m refl in
    let not_it : eqb m m ≡ false = known m lt in
    absurd (cc)
only_one m n lt (a ∷ []) known = ap (λ r. r ∷ []) (eqb-true a m known.1)
only_one m n lt (a ∷ b ∷ []) known = absurd (omega (arith, eqb-true a m known.2, eqb-true b m known.3, known.0))
only_one m n lt (a ∷ b ∷ c ∷ more) known = absurd (omega (arith, eqb-true a m known.3, eqb-true b m known.4, known.0))

pub lack_list-one : (m n : ℕ) → m < n → lack_list (λ r. eqb r m) n ≡ m ∷ []
lack_list-one m n lt = only_one m n lt (lack_list (λ r. eqb r m) n) (known (λ r. eqb r m) n)

-- none
pub lack_list-none : (n : ℕ) → lack_list (λ r. false) n ≡ []
unfolding lack_list
lack_list-none zero = refl
lack_list-none (suc n) = append-nil (lack_list (λ r. false) n) ∙ lack_list-none n

-- two roles, in order
either : (first second r : ℕ) → (eqb r first || eqb r second) ≡ true → (r ≡ first) ⊎ (r ≡ second)
either first second r e = elim (or_cases (eqb r first) (eqb r second) e) [
  | inl one ↦ inl (eqb-true r first one)
  | inr two ↦ inr (eqb-true r second two)
]

pub or_right : (b c : Bool) → c ≡ true → (b || c) ≡ true
or_right true c e = refl
or_right false c e = e

first_lacks : (first second : ℕ) → (eqb first first || eqb first second) ≡ true
first_lacks first second = ap (λ b. b || eqb first second) (eq-eqb first first refl)

second_lacks : (first second : ℕ) → (eqb second first || eqb second second) ≡ true
second_lacks first second = or_right (eqb second first) (eqb second second) (eq-eqb second second refl)

only_two : (first second n : ℕ) → first < n → second < n → first ≢ second → (xs : List ℕ) → Known (λ r. eqb r first || eqb r second) n xs
    → (xs ≡ first ∷ second ∷ []) ⊎ (xs ≡ second ∷ first ∷ [])
only_two first second n hf hs ne [] known =
    let yes_it : (eqb first first || eqb first second) ≡ true = first_lacks first second in
    let not_it : (eqb first first || eqb first second) ≡ false = known first hf in
    absurd (cc)
only_two first second n hf hs ne (a ∷ []) known = elim (either first second a known.1) [
  | inl e ↦
      let yes_it : (eqb second first || eqb second second) ≡ true = second_lacks first second in
      let not_it : (eqb second first || eqb second second) ≡ false = known.2 second hs (λ same. ne (sym (same ∙ e))) in
      absurd (cc)
  | inr e ↦
      let yes_it : (eqb first first || eqb first second) ≡ true = first_lacks first second in
      let not_it : (eqb first first || eqb first second) ≡ false = known.2 first hf (λ same. ne (same ∙ e)) in
      absurd (cc)
]
only_two first second n hf hs ne (a ∷ b ∷ []) known = elim (either first second a known.2) [
  | inl a_first ↦ elim (either first second b known.3) [
    | inl b_first ↦ absurd (omega (arith, a_first, b_first, known.0))
    | inr b_second ↦ inl (ap₂ (λ x y. x ∷ y ∷ []) a_first b_second)
  ]
  | inr a_second ↦ elim (either first second b known.3) [
    | inl b_first ↦ inr (ap₂ (λ x y. x ∷ y ∷ []) a_second b_first)
    | inr b_second ↦ absurd (omega (arith, a_second, b_second, known.0))
  ]
]
only_two first second n hf hs ne (a ∷ b ∷ c ∷ more) known = absurd (no_three (either first second a known.3) (either first second b known.4) (either first second c known.5))
  where
    no_three : (a ≡ first) ⊎ (a ≡ second) → (b ≡ first) ⊎ (b ≡ second) → (c ≡ first) ⊎ (c ≡ second) → ⊥
    no_three (inl x) (inl y) z = omega (arith, known.0, x, y)
    no_three (inr x) (inr y) z = omega (arith, known.0, x, y)
    no_three (inl x) (inr y) (inl z) = omega (arith, known.0, known.1, x, z)
    no_three (inl x) (inr y) (inr z) = omega (arith, known.1, y, z)
    no_three (inr x) (inl y) (inl z) = omega (arith, known.1, y, z)
    no_three (inr x) (inl y) (inr z) = omega (arith, known.0, known.1, x, z)

pub lack_list-two : (first second n : ℕ) → first < n → second < n → first ≢ second
    → (lack_list (λ r. eqb r first || eqb r second) n ≡ first ∷ second ∷ []) ⊎ (lack_list (λ r. eqb r first || eqb r second) n ≡ second ∷ first ∷ [])
lack_list-two first second n hf hs ne =
    only_two first second n hf hs ne (lack_list (λ r. eqb r first || eqb r second) n) (known (λ r. eqb r first || eqb r second) n)

-- ---- the bytes of a row

pub held : (ℕ → Bool) → (ℕ → ℕ) → ℕ → ℕ
held lacks f r = cond (lacks r) 0 (f r)

pub held-lacking : (lacks : ℕ → Bool) (f : ℕ → ℕ) (r : ℕ) → lacks r ≡ true → held lacks f r ≡ 0
unfolding held
held-lacking lacks f r e = ap (λ b. cond b 0 (f r)) e

pub held-there : (lacks : ℕ → Bool) (f : ℕ → ℕ) (r : ℕ) → lacks r ≡ false → held lacks f r ≡ f r
unfolding held
held-there lacks f r e = ap (λ b. cond b 0 (f r)) e

column_byte : (b : Bool) (sector : Sector) (at : ℕ) → at < 512 → get_or (unwrap_or (cond b None (Some sector)) zero_sector) at 0 ≡ cond b 0 (get_or sector at 0)
unfolding zero_sector
column_byte true sector at lt = get_or-replicate 512 at 0 0 lt
column_byte false sector at lt = refl

pub column-row : (lacks : ℕ → Bool) (n : ℕ) (sectors : ℕ → Sector) (at : ℕ) → at < 512
    → column (row_without lacks n sectors) at ≡ tabulate n (held lacks (λ r. get_or (sectors r) at 0))
unfolding held
column-row lacks n sectors at lt =
    map-tabulate (λ sector. get_or (unwrap_or sector zero_sector) at 0) n (λ role. cond (lacks role) None (Some (sectors role)))
    ∙ tabulate-same n (λ r. get_or (unwrap_or (cond (lacks r) None (Some (sectors r))) zero_sector) at 0) (held lacks (λ r. get_or (sectors r) at 0))
    (λ r l. column_byte (lacks r) (sectors r) at lt)
