use Rattle.std.proofs.Common.{inl, inr, ℕ, ◌||◌, ◌==◌, not, Bool}
use Rattle.raid_parity_simd.specs.raid_parity_Rows.{sector_of}
use Rattle.stripe_row.specs.Rows.{reading_of, is_held}
use Rattle.stripe_row.proofs.Lacks.{has_q, no_third, one_lacks, two_lack, only_one, only_two, fill_is}
use Rattle.stripe_row.proofs.fill.reconstruct_missing.Goals as goal

pub fill_two-requires-clause-q : goal.fill_two-requires-clause-q
fill_two-requires-clause-q c =
    let first = c.in-Some.ensures in
    let second = c.in-Some-next_lacking.ensures in
    c.row_of-roles.ensures.level.1 (has_q (reading_of c.args.members.now) c.args.shape.now c.args.row c.in-Some.first c.in-Some-next_lacking.second c.requires.row c.requires.tolerated second.0 second.1 first.2 second.2)

pub returns-in-None-clause-lacking : goal.returns-in-None-clause-lacking
returns-in-None-clause-lacking c role lt lacks =
    let r = reading_of c.args.members.now in
    let there : ℕ → Bool = λ (other : ℕ). is_held r other c.args.row in
    let first = c.in-Some.ensures in
    let same = only_one there c.args.shape.now.disks c.in-Some.first first.2 first.3 c.in-None.ensures role lt lacks in
    fill_is c.args.shape.now c.args.row c.row_of-roles.result c.row_of-roles.ensures.roles (λ (other : ℕ). other == c.in-Some.first) (λ (other : ℕ). not (there other))
    (sector_of c.args.into.now) (sector_of c.fill_one.new.row) c.in-Some.first role same
    (one_lacks there c.args.shape.now.disks c.in-Some.first first.2 first.3 c.in-None.ensures) c.fill_one.ensures.filled

pub returns-in-Some-next_lacking-clause-lacking : goal.returns-in-Some-next_lacking-clause-lacking
returns-in-Some-next_lacking-clause-lacking c role lt lacks =
    let r = reading_of c.args.members.now in
    let there : ℕ → Bool = λ (other : ℕ). is_held r other c.args.row in
    let a = c.in-Some.first in
    let b = c.in-Some-next_lacking.second in
    let first = c.in-Some.ensures in
    let second = c.in-Some-next_lacking.ensures in
    let above = no_third r c.args.shape.now c.args.row a b c.requires.row c.requires.tolerated second.0 second.1 first.2 second.2 in
    let agree = two_lack there c.args.shape.now.disks a b first.2 second.2 second.0 first.3 second.3 above in
    elim (only_two there c.args.shape.now.disks a b first.3 second.3 above role lt lacks) [
      | inl same ↦ fill_is c.args.shape.now c.args.row c.row_of-roles.result c.row_of-roles.ensures.roles (λ (other : ℕ). (other == a) || (other == b)) (λ (other : ℕ). not (there other))
          (sector_of c.args.into.now) (sector_of c.fill_two.new.row) a role same agree c.fill_two.ensures.first
      | inr same ↦ fill_is c.args.shape.now c.args.row c.row_of-roles.result c.row_of-roles.ensures.roles (λ (other : ℕ). (other == a) || (other == b)) (λ (other : ℕ). not (there other))
          (sector_of c.args.into.now) (sector_of c.fill_two.new.row) b role same agree c.fill_two.ensures.second
    ]
