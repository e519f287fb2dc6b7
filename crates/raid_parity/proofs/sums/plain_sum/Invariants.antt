use Rattle.std.proofs.Common.{◌≡◌, ℕ, ◌<◌, get_or}
use Rattle.raid_parity.specs.Rows.{byte_of}
use Rattle.raid_parity.proofs.Totals.{total}
use Rattle.raid_parity.proofs.Columns.{weighed}
use Rattle.raid_parity.proofs.sums.plain_sum.Given as goal

-- the sum of the data below the role
abbrev pub invariant-loop-role : goal.invariant-loop-role
invariant-loop-role l = (at : ℕ) → at < 512 → get_or l.sum at 0 ≡ total l.role (weighed (λ r. 1) l.roles (λ r. byte_of l.row r at))
