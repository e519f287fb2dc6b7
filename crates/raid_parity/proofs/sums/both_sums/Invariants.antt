use Rattle.std.proofs.Common.{◌≡◌, ℕ, ◌-◌, ◌<◌, get_or}
use Rattle.raid_parity.specs.Exponents.{steps_behind}
use Rattle.raid_parity.specs.Rows.{byte_of}
use Rattle.raid_parity.proofs.Totals.{total}
use Rattle.raid_parity.proofs.Parts.{plain_part, weighed_part}
use Rattle.raid_parity.proofs.sums.both_sums.Given as goal

-- the sums of the data from the role's steps behind Q on
abbrev pub invariant-loop-passed : goal.invariant-loop-passed
invariant-loop-passed l = record {
  within : l.role < l.roles.disks;
  steps : steps_behind l.roles l.q l.role ≡ l.roles.disks - l._passed;
  plain : (at : ℕ) → at < 512 → get_or l.plain at 0 ≡ total l.roles.disks (plain_part l.roles l.q (λ r. byte_of l.row r at) (l.roles.disks - l._passed));
  weighed : (at : ℕ) → at < 512 → get_or l.weighed at 0 ≡ total l.roles.disks (weighed_part l.roles l.q (λ r. byte_of l.row r at) (l.roles.disks - l._passed));
}
