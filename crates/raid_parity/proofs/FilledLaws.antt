-- What fits alone is what a row is filled with.
use Rattle.std.proofs.Common.{◌≡◌, ℕ, ◌<◌, ◌^◌, true, List, length, ap, unwrap_or}
use Rattle.raid_types.specs.declared.places.RowRoles.{RowRoles}
use Rattle.raid_types.proofs.Least.{least_below-only}
use Rattle.raid_parity.specs.Parity.{fits, with_digits, filled}

-- where these digits alone fit, the column is filled with them
pub filled-only : (roles : RowRoles) (lacking column : List ℕ) (n : ℕ) → n < 256 ^ length lacking
    → fits roles lacking (with_digits lacking n column) ≡ true
    → ((m : ℕ) → m < 256 ^ length lacking → fits roles lacking (with_digits lacking m column) ≡ true → m ≡ n)
    → filled roles lacking column ≡ with_digits lacking n column
unfolding filled
filled-only roles lacking column n h fit only =
    ap (λ o. with_digits lacking (unwrap_or o 0) column)
    (least_below-only (256 ^ length lacking) (λ m. fits roles lacking (with_digits lacking m column)) n h fit only)
