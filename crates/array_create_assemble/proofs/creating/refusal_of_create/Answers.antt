use Rattle.std.proofs.Common.{◌≡◌, ℕ, sym, ◌∙◌, ap, arith}
use Rattle.array_create_assemble.specs.Creating.{member_slots}
use Rattle.array_create_assemble.proofs.CreateLaws.{has-room}
use Rattle.array_create_assemble.proofs.creating.refusal_of_create.Goals as goal

pub returns-in-None-short_member-clause-room : goal.returns-in-None-short_member-clause-room
returns-in-None-short_member-clause-room g c =
    let given = g.B.Bank.given c.args.bank.now in
    let spec = c.args.spec.now in
    let members : c.member_slots-members.result ≡ member_slots given.slots c.args.backup = c.member_slots-members.ensures ∙ ap (λ (n : ℕ). member_slots n c.args.backup) c.slots.ensures in
    has-room given c.args.backup spec (sym c.in-None.ensures) (sym c.is_multiple.ensures ∙ c.if-not-is_multiple.false) (omega (arith, c.if-members-spec.false, members)) (sym c.in-None-short_member.ensures.exact)
