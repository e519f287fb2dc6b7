use Rattle.std.proofs.Common.{◌≡◌, ◌<◌, ℕ, true}
use Rattle.raid_layout.specs.Layout.{is_parity_only}
use Rattle.stripe_row.specs.Rows.{reading_of, is_missing}
use Rattle.stripe_list.proofs.buffers.missing_data.Given as goal

abbrev pub invariant-loop-role : goal.invariant-loop-role
invariant-loop-role l = (role : ℕ) → role < l.role → is_missing (reading_of l.members) role ≡ true → is_parity_only l.shape role ≡ true
