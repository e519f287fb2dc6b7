-- In which rows a role is held, by its state.
use Rattle.std.proofs.Common.{◌≡◌, ℕ, ◌+◌, ◌-◌, ◌*◌, ◌/◌, ◌%◌, ◌<◌, ◌≤◌, true, false, nat_lt, List, length, inl, inr, refl, sym, ap, ◌∙◌, subst, arith}
use Rattle.std.specs.Prelude.{slice_index}
use Rattle.std.proofs.lemmas.Nat.{div-add-mod', div-mul-add, mod_below}
use Rattle.std.proofs.lemmas.Bool.{cases_lt}
use Rattle.std.proofs.lemmas.Bool.Decides.{nat_tests}
use Rattle.raid_layout.specs.raid_types_the_Role.{Role}
use Rattle.raid_layout.specs.raid_types_the_Role_TheVariants.{Whole, Recovering, Missing}
use Rattle.raid_layout.specs.raid_types_the_Shape.{Shape}
use Rattle.stripe_row.specs.sb_specs_Reading.{Reading, rows_held}
use Rattle.stripe_row.specs.Rows.{is_held}
use Rattle.stripe_runs.specs.declared.runs.Run.{Run}
use Rattle.stripe_runs.specs.Runs.{IsRunAt}

below_held : (row held : ℕ) → row < held → nat_lt row held ≡ true
below_held row held lt = grind (arith, nat_tests, lt)

past_held : (row held : ℕ) → held ≤ row → nat_lt row held ≡ false
past_held row held le = grind (arith, nat_tests, le)

-- rows that are all below a bound, or all not
pub all_below : (row j held : ℕ) → row + j < held → nat_lt (row + j) held ≡ nat_lt row held
all_below row j held lt = below_held (row + j) held lt ∙ sym (below_held row held (omega (arith, lt)))

pub all_past : (row j held : ℕ) → held ≤ row → nat_lt (row + j) held ≡ nat_lt row held
all_past row j held le = past_held (row + j) held (omega (arith, le)) ∙ sym (past_held row held le)

-- and where the bound lies between them, no more rows are alike than lie below it
pub most_below : (row held n : ℕ) → row < held → ((j : ℕ) → j < n → nat_lt (row + j) held ≡ nat_lt row held) → n ≤ held - row
most_below row held n lt same = elim (cases_lt (held - row) n) [
  | inr le ↦ le
  | inl more ↦ absurd (
      let at : nat_lt (row + (held - row)) held ≡ nat_lt row held = same (held - row) more in
      let first = below_held row held lt in
      let past = past_held (row + (held - row)) held (omega (arith, lt)) in
      let e : false ≡ true = sym past ∙ at ∙ first in
      cc
      )
]

-- a role that isn't recovering is held in all rows of the size, or in none
pub state_alike : (r : Reading) (state : Role) (row j : ℕ) → ((slot : ℕ) → state ≡ Recovering slot → ⊥) → row + j < r.newest.size → nat_lt (row + j) (rows_held r state) ≡ nat_lt row (rows_held r state)
state_alike r (Whole slot) row j not lt = all_below row j r.newest.size lt
state_alike r (Recovering slot) row j not lt = absurd (not slot refl)
state_alike r Missing row j not lt = all_past row j 0 (omega arith)

-- a recovering role is held in the rows that its slot has
module _ (r : Reading) (state : Role) (slot n row : ℕ) (is : state ≡ Recovering slot) (held : n ≡ rows_held r (Recovering slot)) where
  own : rows_held r state ≡ n
  own = ap (rows_held r) is ∙ sym held

  pub recovered_past : (j : ℕ) → n ≤ row → nat_lt (row + j) (rows_held r state) ≡ nat_lt row (rows_held r state)
  recovered_past j le = subst (λ (m : ℕ). nat_lt (row + j) m ≡ nat_lt row m) (sym own) (all_past row j n le)

  pub recovered_below : (j : ℕ) → row + j < n → nat_lt (row + j) (rows_held r state) ≡ nat_lt row (rows_held r state)
  recovered_below j lt = subst (λ (m : ℕ). nat_lt (row + j) m ≡ nat_lt row m) (sym own) (all_below row j n lt)

  pub recovered_most : (m : ℕ) → row < n → ((j : ℕ) → j < m → nat_lt (row + j) (rows_held r state) ≡ nat_lt row (rows_held r state)) → m ≤ n - row
  recovered_most m lt same = most_below row n m lt (subst (λ (k : ℕ). (j : ℕ) → j < m → nat_lt (row + j) k ≡ nat_lt row k) own same)

-- ---- the rows of a stripe

pub stripe_same : (row j chunk : ℕ) → row % chunk + j < chunk → (row + j) / chunk ≡ row / chunk
stripe_same row j chunk lt =
    let parts = div-add-mod' row chunk in
    let sum : row + j ≡ row / chunk * chunk + (row % chunk + j) = omega (arith, parts) in
    ap (λ (n : ℕ). n / chunk) sum ∙ div-mul-add (row / chunk) chunk (row % chunk + j) lt

pub stripe_most : (row count chunk : ℕ) → 0 < chunk → ((j : ℕ) → j < count → (row + j) / chunk ≡ row / chunk) → count ≤ chunk - row % chunk
stripe_most row count chunk some same = elim (cases_lt (chunk - row % chunk) count) [
  | inr le ↦ le
  | inl more ↦ absurd (
      let parts = div-add-mod' row chunk in
      let rest = mod_below row chunk some in
      let sum : row + (chunk - row % chunk) ≡ (row / chunk + 1) * chunk + 0 = omega (arith, parts, rest) in
      let next : (row + (chunk - row % chunk)) / chunk ≡ row / chunk + 1 = ap (λ (n : ℕ). n / chunk) sum ∙ div-mul-add (row / chunk + 1) chunk 0 some in
      let at = same (chunk - row % chunk) more in
      omega (arith, next, at)
      )
]

-- ---- a run

-- the rows of another run from the same place on are those of the list from the first row on
module _ (r : Reading) (shape : Shape) (rows : List ℕ) (at : ℕ) (run : Run) (is_at : run.at ≡ at) (is : IsRunAt r shape rows run) where
  first_row : run.row ≡ slice_index rows at
  first_row = let first = is.listed 0 is.some in let same : run.at + 0 ≡ at = omega (arith, is_at) in omega (arith, ap (slice_index rows) (sym same), first)

  pub run_listed : (j : ℕ) → j < run.count → slice_index rows (at + j) ≡ slice_index rows at + j
  run_listed j lt =
      let there = is.listed j lt in
      let same : run.at + j ≡ at + j = omega (arith, is_at) in
      omega (arith, ap (slice_index rows) (sym same), there, first_row)

  pub run_within : at + run.count ≤ length rows
  run_within = omega (arith, is.within, is_at)

  pub run_stripe : (j : ℕ) → j < run.count → (slice_index rows at + j) / shape.chunk ≡ slice_index rows at / shape.chunk
  run_stripe = subst (λ (row : ℕ). (j : ℕ) → j < run.count → (row + j) / shape.chunk ≡ row / shape.chunk) first_row is.alike.stripe

  pub run_held : (role j : ℕ) → role < shape.disks → j < run.count → is_held r role (slice_index rows at + j) ≡ is_held r role (slice_index rows at)
  run_held = subst (λ (row : ℕ). (role j : ℕ) → role < shape.disks → j < run.count → is_held r role (row + j) ≡ is_held r role row) first_row is.alike.held
