-- How a layout deals the data of one stripe round n disks, with k parity disks from p on.
use Rattle.std.proofs.Common.{◌≡◌, ◌≢◌, ℕ, ◌+◌, ◌-◌, ◌%◌, ◌<◌, ◌≤◌, ◌⊎◌, inl, inr, Bool, nat_lt, nat_le, if◌then◌else◌, sym, ◌∙◌, ap, arith}
use Rattle.std.proofs.lemmas.Bool.{cases_lt}
use Rattle.std.proofs.lemmas.Bool.Decides.{nat_tests}
use Rattle.std.proofs.Math.Nat.{mod-eq_of_lt, mod-eq-sub-mod}
use Rattle.raid_layout.specs.Layout.{data_role, is_symmetric}

-- a number below 2 * n, taken round n
abbrev pub round : ℕ → ℕ → ℕ
round n a = if nat_lt a n then a else a - n

pub mod-round : (n a : ℕ) → a < n + n → a % n ≡ round n a
mod-round n a h = elim (cases_lt a n) [ inl less ↦ mod-eq_of_lt less ∙ below less | inr more ↦ mod-eq-sub-mod more ∙ mod-eq_of_lt (omega arith) ∙ above more ]
  where
    below : a < n → a ≡ round n a
    below less = grind (arith, nat_tests)

    above : n ≤ a → a - n ≡ round n a
    above more = grind (arith, nat_tests)

-- the role of data i, with no quotient
abbrev dealt : Bool → ℕ → ℕ → ℕ → ℕ → ℕ
dealt symmetric n k p i =
    if symmetric then round n (p + k + i)
    else if nat_lt n (p + k) then i + (p + k - n)
    else if nat_le p i then i + k
    else i

dealt_is : (layout n k p i : ℕ) → p < n → i + k < n → data_role layout n k p i ≡ dealt (is_symmetric layout) n k p i
dealt_is layout n k p i below fits =
    ap (λ a. if is_symmetric layout then a else if nat_lt n (p + k) then i + (p + k - n) else if nat_le p i then i + k else i)
    (mod-round n (p + k + i) (omega arith))

below_n : (b : Bool) (n k p i : ℕ) → p < n → k ≤ 2 → i + k < n → dealt b n k p i < n
below_n b n k p i below few fits = grind (arith, nat_tests)

pub data_role-below : (layout n k p i : ℕ) → p < n → k ≤ 2 → i + k < n → data_role layout n k p i < n
data_role-below layout n k p i below few fits = rw (dealt_is layout n k p i below fits) (below_n (is_symmetric layout) n k p i below few fits)

not_p : (b : Bool) (n k p i : ℕ) → p < n → 0 < k → k ≤ 2 → i + k < n → dealt b n k p i ≢ p
not_p b n k p i below some few fits = grind (arith, nat_tests)

pub data_role-not_p : (layout n k p i : ℕ) → p < n → 0 < k → k ≤ 2 → i + k < n → data_role layout n k p i ≢ p
data_role-not_p layout n k p i below some few fits = rw (dealt_is layout n k p i below fits) (not_p (is_symmetric layout) n k p i below some few fits)

not_q : (b : Bool) (n p i : ℕ) → p < n → i + 2 < n → dealt b n 2 p i ≢ round n (p + 1)
not_q b n p i below fits = grind (arith, nat_tests)

pub data_role-not_q : (layout n p i : ℕ) → p < n → i + 2 < n → data_role layout n 2 p i ≢ (p + 1) % n
data_role-not_q layout n p i below fits =
    rw (dealt_is layout n 2 p i below fits, mod-round n (p + 1) (omega arith)) (not_q (is_symmetric layout) n p i below fits)

only_one : (b : Bool) (n k p i j : ℕ) → p < n → 0 < k → k ≤ 2 → i + k < n → j + k < n → dealt b n k p i ≡ dealt b n k p j → i ≡ j
only_one b n k p i j below some few fits fits' same = grind (arith, nat_tests)

pub data_role-only : (layout n k p i j : ℕ) → p < n → 0 < k → k ≤ 2 → i + k < n → j + k < n → data_role layout n k p i ≡ data_role layout n k p j → i ≡ j
data_role-only layout n k p i j below some few fits fits' same =
    only_one (is_symmetric layout) n k p i j below some few fits fits'
    (sym (dealt_is layout n k p i below fits) ∙ same ∙ dealt_is layout n k p j below fits')

-- which data stands on a role that has no parity
abbrev pub index : Bool → ℕ → ℕ → ℕ → ℕ → ℕ
index symmetric n k p r =
    if nat_lt n (p + k) then r - (p + k - n)
    else if nat_lt r p then (if symmetric then r + (n - (p + k)) else r)
    else if symmetric then r - (p + k)
    else r - k

-- a role below n that has neither P, on p, nor with two parity disks Q, behind it
pub record IsFree (n k p r : ℕ) : Type 0 where
  pub p_below : p < n
  pub below : r < n
  pub parities : (k ≡ 1) ⊎ (k ≡ 2)
  pub has_data : k < n
  pub not_p : r ≢ p
  pub not_q : k ≡ 2 → r ≢ (p + 1) % n

free_q : (n k p r : ℕ) → IsFree n k p r → k ≡ 2 → r ≢ round n (p + 1)
free_q n k p r free two same = free.not_q two (same ∙ sym (mod-round n (p + 1) (omega arith)))

pub index_fits : (b : Bool) (n k p r : ℕ) → IsFree n k p r → index b n k p r + k < n
index_fits b n k p r free =
    let not_q : k ≡ 2 → r ≢ round n (p + 1) = free_q n k p r free in
    grind (arith, nat_tests)

index_dealt : (b : Bool) (n k p r : ℕ) → IsFree n k p r → dealt b n k p (index b n k p r) ≡ r
index_dealt b n k p r free =
    let not_q : k ≡ 2 → r ≢ round n (p + 1) = free_q n k p r free in
    grind (arith, nat_tests)

pub data_role-index : (layout n k p r : ℕ) → IsFree n k p r → data_role layout n k p (index (is_symmetric layout) n k p r) ≡ r
data_role-index layout n k p r free =
    dealt_is layout n k p _ free.p_below (index_fits (is_symmetric layout) n k p r free)
    ∙ index_dealt (is_symmetric layout) n k p r free

pub free : {n k p r : ℕ} → 0 < k → k ≤ 2 → k < n → p < n → r < n → r ≢ p → (k ≡ 2 → r ≢ (p + 1) % n) → IsFree n k p r
free some few has_data p_below below not_p not_q =
    record { p_below = p_below; below = below; parities = grind arith; has_data = has_data; not_p = not_p; not_q = not_q }

-- a free role at or behind P is behind all parity
pub behind_parity : (n k p r : ℕ) → IsFree n k p r → p + k ≤ n → p ≤ r → p + k ≤ r
behind_parity n k p r free within behind =
    let not_q : k ≡ 2 → r ≢ round n (p + 1) = free_q n k p r free in
    grind (arith, nat_tests)
