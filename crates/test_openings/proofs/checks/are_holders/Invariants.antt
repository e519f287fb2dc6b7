use Rattle.std.proofs.Common.{◌≡◌, ◌<◌, ℕ, true, slice_index_or}
use Rattle.raid_types.specs.declared.status.Role.TheVariants.{Missing}
use Rattle.sb_specs.specs.Update.{is_held_by, own_in}
use Rattle.sb_specs.specs.Writing.{IsMember}
use Rattle.test_openings.proofs.checks.are_holders.Given as goal

abbrev pub invariant-loop-role : goal.invariant-loop-role
invariant-loop-role g l = (role slot : ℕ) → role < l.role → is_held_by slot (slice_index_or l.members.roles role Missing) ≡ true
    → IsMember (g.B.Bank.given l.bank) (own_in l.members.own slot) slot
