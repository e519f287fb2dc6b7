use Rattle.std.proofs.Common.{inl, inr, ℕ, ◌≡◌, ◌≢◌, ◌+◌, ◌||◌, ◌==◌, not, Bool, false, sym, ◌∙◌, subst, arith}
use Rattle.raid_parity_simd.specs.Buffers.{buffered}
use Rattle.stripe_row.specs.Rows.{reading_of, is_held}
use Rattle.stripe_row.proofs.Lacks.{has_q, no_third, one_lacks, two_lack, only_one, only_two, fill_is}
use Rattle.stripe_runs.proofs.ReadLaws.{fill_along}
use Rattle.stripe_runs.proofs.fills.reconstruct_run.Goals as goal

pub fill_two_run-requires-clause-q : goal.fill_two_run-requires-clause-q
fill_two_run-requires-clause-q c =
    let first = c.in-Some.ensures in
    let second = c.in-Some-next_lacking.ensures in
    c.row_of-roles.ensures.level.1 (has_q (reading_of c.args.members.now) c.args.shape.now c.args.run.row c.in-Some.first c.in-Some-next_lacking.second c.requires.below c.requires.tolerated second.0 second.1 first.2 second.2)

pub returns-in-None-clause-held : goal.returns-in-None-clause-held
returns-in-None-clause-held c = λ role j lt within held.
    let rows = c.requires.room.rows in
    let apart : role ≢ c.in-Some.first = λ same. absurd (
    let lacks = subst (λ (k : ℕ). is_held (reading_of c.args.members.now) k c.args.run.row ≡ false) (sym same) c.in-Some.ensures.2 in
    let first = sym (c.requires.alike.held role j lt within) ∙ held in
    cc
    ) in
    c.fill_one_run.ensures.others (c.args.run.at + j) role (omega (arith, rows, within)) apart

pub returns-in-None-clause-lacking : goal.returns-in-None-clause-lacking
returns-in-None-clause-lacking c role j lt within lacks =
    let r = reading_of c.args.members.now in
    let row = c.args.run.row in
    let there : ℕ → Bool = λ (other : ℕ). is_held r other row in
    let first = c.in-Some.ensures in
    let lacks' : there role ≡ false = sym (c.requires.alike.held role j lt within) ∙ lacks in
    let same = only_one there c.args.shape.now.disks c.in-Some.first first.2 first.3 c.in-None.ensures role lt lacks' in
    fill_is c.args.shape.now row c.row_of-roles.result c.row_of-roles.ensures.roles (λ (other : ℕ). other == c.in-Some.first) (λ (other : ℕ). not (there other))
    (buffered c.args.buffer.now (c.args.run.at + j)) (buffered c.fill_one_run.new.buffer (c.args.run.at + j)) c.in-Some.first role same
    (one_lacks there c.args.shape.now.disks c.in-Some.first first.2 first.3 c.in-None.ensures) (c.fill_one_run.ensures.filled j within)
    ∙ fill_along r c.args.shape.now row j (buffered c.args.buffer.now (c.args.run.at + j)) role (c.requires.alike.stripe j within) (λ other l. c.requires.alike.held other j l within)

pub returns-in-Some-next_lacking-clause-held : goal.returns-in-Some-next_lacking-clause-held
returns-in-Some-next_lacking-clause-held c = λ role j lt within held.
    let r = reading_of c.args.members.now in
    let rows = c.requires.room.rows in
    let first = sym (c.requires.alike.held role j lt within) ∙ held in
    let not_first : role ≢ c.in-Some.first = λ same. absurd (let lacks = subst (λ (k : ℕ). is_held r k c.args.run.row ≡ false) (sym same) c.in-Some.ensures.2 in cc) in
    let not_second : role ≢ c.in-Some-next_lacking.second = λ same. absurd (let lacks = subst (λ (k : ℕ). is_held r k c.args.run.row ≡ false) (sym same) c.in-Some-next_lacking.ensures.2 in cc) in
    c.fill_two_run.ensures.others (c.args.run.at + j) role (omega (arith, rows, within)) not_first not_second

pub returns-in-Some-next_lacking-clause-lacking : goal.returns-in-Some-next_lacking-clause-lacking
returns-in-Some-next_lacking-clause-lacking c role j lt within lacks =
    let r = reading_of c.args.members.now in
    let row = c.args.run.row in
    let there : ℕ → Bool = λ (other : ℕ). is_held r other row in
    let old = buffered c.args.buffer.now (c.args.run.at + j) in
    let new = buffered c.fill_two_run.new.buffer (c.args.run.at + j) in
    let a = c.in-Some.first in
    let b = c.in-Some-next_lacking.second in
    let first = c.in-Some.ensures in
    let second = c.in-Some-next_lacking.ensures in
    let lacks' : there role ≡ false = sym (c.requires.alike.held role j lt within) ∙ lacks in
    let above = no_third r c.args.shape.now row a b c.requires.below c.requires.tolerated second.0 second.1 first.2 second.2 in
    let agree = two_lack there c.args.shape.now.disks a b first.2 second.2 second.0 first.3 second.3 above in
    let along = fill_along r c.args.shape.now row j old role (c.requires.alike.stripe j within) (λ other l. c.requires.alike.held other j l within) in
    elim (only_two there c.args.shape.now.disks a b first.3 second.3 above role lt lacks') [
      | inl same ↦ fill_is c.args.shape.now row c.row_of-roles.result c.row_of-roles.ensures.roles (λ (other : ℕ). (other == a) || (other == b)) (λ (other : ℕ). not (there other))
          old new a role same agree (c.fill_two_run.ensures.one j within) ∙ along
      | inr same ↦ fill_is c.args.shape.now row c.row_of-roles.result c.row_of-roles.ensures.roles (λ (other : ℕ). (other == a) || (other == b)) (λ (other : ℕ). not (there other))
          old new b role same agree (c.fill_two_run.ensures.two j within) ∙ along
    ]

pub returns-in_default-clause-lacking : goal.returns-in_default-clause-lacking
returns-in_default-clause-lacking c = λ role j lt within lacks. absurd (
    let held = c.in_default.ensures role (omega arith) lt in
    let same = c.requires.alike.held role j lt within in
    cc
    )
