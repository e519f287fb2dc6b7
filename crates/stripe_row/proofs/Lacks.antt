-- One or two roles lack, and the row without just these.
use Rattle.std.proofs.Common.{◌≡◌, ◌≢◌, ◌⊎◌, inl, inr, ℕ, ◌+◌, ◌<◌, ◌≤◌, Bool, true, false, not, ◌||◌, ◌==◌, nat_lt, if◌then◌else◌, Some, None, refl, sym, ◌∙◌, ap, arith}
use Rattle.std.proofs.lemmas.Bool.{cases_lt, cases_eq}
use Rattle.std.proofs.lemmas.Bool.Decides.{nat_tests}
use Rattle.sb_specs.specs.raid_types_the_Shape.{Shape}
use Rattle.sb_specs.specs.raid_types_the_Role.{Role}
use Rattle.sb_specs.specs.raid_types_the_Role_TheVariants.{Whole, Recovering, Missing}
use Rattle.sb_specs.specs.raid_types_Sectors.{Sector}
use Rattle.sb_specs.specs.raid_types_Shapes.{tolerance_of}
use Rattle.raid_parity_simd.proofs.raid_parity_Columns.{tabulate-same, bool_cases}
use Rattle.raid_parity_simd.specs.raid_types_the_RowRoles.{RowRoles}
use Rattle.sb_specs.specs.raid_layout_Layout.{row_roles}
use Rattle.raid_parity_simd.specs.raid_parity_Parity.{Row, fill}
use Rattle.raid_parity_simd.specs.raid_parity_Rows.{row_without}
use Rattle.sb_specs.specs.Reading.{Reading, role_state, rows_held, is_whole}
use Rattle.stripe_row.specs.Rows.{is_held, is_missing, IsTolerated}
use Rattle.stripe_row.proofs.Tables.{count_below-above}

pub equal : (m n : ℕ) → m ≡ n → (m == n) ≡ true
equal m n same = grind (arith, nat_tests, same)

pub unequal : (m n : ℕ) → m ≢ n → (m == n) ≡ false
unequal m n apart = grind (arith, nat_tests, apart)

or_false : (a b : Bool) → a ≡ false → b ≡ false → (a || b) ≡ false
or_false a b none none' = grind (arith, none, none')

or_left : (a b : Bool) → a ≡ true → (a || b) ≡ true
or_left a b met = grind (arith, met)

pub or_right : (a b : Bool) → b ≡ true → (a || b) ≡ true
or_right a b met = grind (arith, met)

-- the same roles lack
pub row-same : (n : ℕ) (f g : ℕ → Bool) (sectors : ℕ → Sector) → ((role : ℕ) → role < n → f role ≡ g role) → row_without f n sectors ≡ row_without g n sectors
row-same n f g sectors same = tabulate-same n (λ role. if f role then None else Some (sectors role)) (λ role. if g role then None else Some (sectors role))
    (λ role lt. ap (λ (b : Bool). if b then None else Some (sectors role)) (same role lt))

-- one role alone lacks
pub one_lacks : (there : ℕ → Bool) (n a : ℕ) → there a ≡ false → ((r : ℕ) → 0 ≤ r → r < a → there r ≡ true) → ((r : ℕ) → a + 1 ≤ r → r < n → there r ≡ true)
    → (r : ℕ) → r < n → (r == a) ≡ not (there r)
one_lacks there n a lacks below above r lt = elim (cases_eq r a) [
  | inl same ↦ equal r a same ∙ sym (ap not (ap there same ∙ lacks))
  | inr apart ↦ unequal r a apart ∙ sym (ap not (elim (cases_lt r a) [
    | inl less ↦ below r (omega arith) less
    | inr more ↦ above r (omega (arith, more, apart)) lt
  ]))
]

pub only_one : (there : ℕ → Bool) (n a : ℕ) → there a ≡ false → ((r : ℕ) → 0 ≤ r → r < a → there r ≡ true) → ((r : ℕ) → a + 1 ≤ r → r < n → there r ≡ true)
    → (r : ℕ) → r < n → there r ≡ false → r ≡ a
only_one there n a lacks below above r lt lacks' = elim (cases_lt r a) [
  | inl less ↦ absurd (let e = below r (omega arith) less in cc)
  | inr more ↦ elim (cases_eq r a) [
    | inl same ↦ same
    | inr apart ↦ absurd (let e = above r (omega (arith, more, apart)) lt in cc)
  ]
]

-- two roles lack, and none between them nor elsewhere
pub two_lack : (there : ℕ → Bool) (n a b : ℕ) → there a ≡ false → there b ≡ false → a + 1 ≤ b → ((r : ℕ) → 0 ≤ r → r < a → there r ≡ true)
    → ((r : ℕ) → a + 1 ≤ r → r < b → there r ≡ true) → ((r : ℕ) → b < r → r < n → there r ≡ true)
    → (r : ℕ) → r < n → ((r == a) || (r == b)) ≡ not (there r)
two_lack there n a b lacks lacks' order below between above r lt = elim (cases_eq r a) [
  | inl same ↦ or_left (r == a) (r == b) (equal r a same) ∙ sym (ap not (ap there same ∙ lacks))
  | inr apart ↦ elim (cases_eq r b) [
    | inl same ↦ or_right (r == a) (r == b) (equal r b same) ∙ sym (ap not (ap there same ∙ lacks'))
    | inr apart' ↦ or_false (r == a) (r == b) (unequal r a apart) (unequal r b apart') ∙ sym (ap not (elim (cases_lt r a) [
      | inl less ↦ below r (omega arith) less
      | inr more ↦ elim (cases_lt r b) [
        | inl less ↦ between r (omega (arith, more, apart)) less
        | inr more' ↦ above r (omega (arith, more', apart')) lt
      ]
    ]))
  ]
]

pub only_two : (there : ℕ → Bool) (n a b : ℕ) → ((r : ℕ) → 0 ≤ r → r < a → there r ≡ true)
    → ((r : ℕ) → a + 1 ≤ r → r < b → there r ≡ true) → ((r : ℕ) → b < r → r < n → there r ≡ true)
    → (r : ℕ) → r < n → there r ≡ false → (r ≡ a) ⊎ (r ≡ b)
only_two there n a b below between above r lt lacks = elim (cases_eq r a) [
  | inl same ↦ inl same
  | inr apart ↦ elim (cases_eq r b) [
    | inl same ↦ inr same
    | inr apart' ↦ elim (cases_lt r a) [
      | inl less ↦ absurd (let e = below r (omega arith) less in cc)
      | inr more ↦ elim (cases_lt r b) [
        | inl less ↦ absurd (let e = between r (omega (arith, more, apart)) less in cc)
        | inr more' ↦ absurd (let e = above r (omega (arith, more', apart')) lt in cc)
      ]
    ]
  ]
]

-- a fill of one of the roles that lack
pub fill_is : (shape : Shape) (row : ℕ) (roles : RowRoles) → roles ≡ row_roles shape row → (f g : ℕ → Bool) (sectors new : ℕ → Sector) (a role : ℕ) → role ≡ a
    → ((r : ℕ) → r < shape.disks → f r ≡ g r) → new a ≡ fill roles (row_without f roles.disks sectors) a
    → new role ≡ fill (row_roles shape row) (row_without g shape.disks sectors) role
fill_is shape row roles are f g sectors new a role same agree is =
    ap new same ∙ is ∙ ap (λ (rs : RowRoles). fill rs (row_without f rs.disks sectors) a) are
    ∙ ap (λ (w : Row). fill (row_roles shape row) w a) (row-same shape.disks f g sectors agree)
    ∙ ap (λ (x : ℕ). fill (row_roles shape row) (row_without g shape.disks sectors) x) (sym same)

-- ---- a role that lacks is missing

whole_held : (row size : ℕ) → row < size → nat_lt row size ≡ false → true ≡ false
whole_held row size lt lacks = grind (arith, nat_tests, lt, lacks)

lacks-missing : (r : Reading) (state : Role) (row : ℕ) → row < r.newest.size → nat_lt row (rows_held r state) ≡ false → not (is_whole state) ≡ true
lacks-missing r (Whole slot) row lt lacks = absurd (let e = whole_held row r.newest.size lt lacks in cc)
lacks-missing r (Recovering slot) row lt lacks = refl
lacks-missing r Missing row lt lacks = refl

pub lacking-missing : (r : Reading) (role row : ℕ) → row < r.newest.size → is_held r role row ≡ false → is_missing r role ≡ true
lacking-missing r role row lt lacks = lacks-missing r (role_state r role) row lt lacks

most : (level : ℕ) → tolerance_of level ≤ 2
most level = grind (arith, nat_tests)

six : (level : ℕ) → 2 ≤ tolerance_of level → level ≡ 6
six level two = grind (arith, nat_tests)

-- where two roles lack, there is a Q, and no other role lacks
module _ (r : Reading) (shape : Shape) (row a b : ℕ) (below : row < r.newest.size) (few : IsTolerated r shape) (order : a + 1 ≤ b) (within : b < shape.disks)
    (lacks : is_held r a row ≡ false) (lacks' : is_held r b row ≡ false) where
  pub has_q : shape.level ≡ 6
  has_q = six shape.level (omega (
    arith,
    few,
    count_below-above b a (is_missing r) (omega (arith, order)) (lacking-missing r a row below lacks),
    count_below-above shape.disks b (is_missing r) within (lacking-missing r b row below lacks'),
  ))

  pub no_third : (c : ℕ) → b < c → c < shape.disks → is_held r c row ≡ true
  no_third c more lt = elim (bool_cases (is_held r c row)) [
    | inl there ↦ there
    | inr third ↦ absurd (omega (
      arith,
      few,
      most shape.level,
      count_below-above b a (is_missing r) (omega (arith, order)) (lacking-missing r a row below lacks),
      count_below-above c b (is_missing r) more (lacking-missing r b row below lacks'),
      count_below-above shape.disks c (is_missing r) lt (lacking-missing r c row below third),
    ))
  ]
