use Rattle.std.proofs.Common.{◌≡◌, ℕ, List, [], ◌∷◌, Option, Some, None, sym, ap, ◌∙◌, length, slice_index}
use Rattle.sb_specs.specs.raid_types_the_Role.{Role}
use Rattle.sb_specs.specs.raid_types_the_Refusal.{Refusal}
use Rattle.sb_specs.specs.raid_types_Search.{tabulate}
use Rattle.sb_specs.proofs.raid_types_Tabulated.{length-tabulate}
use Rattle.sb_specs.specs.sb_codec_the_Sb.{Sb}
use Rattle.sb_specs.specs.Reading.{holder_from, role_count}
use Rattle.sb_specs.specs.Verdict.{fresh_from, unsupported, bad_field, two_holders, members_missing, dirty_degraded, off_unit, first_of_all}
use Rattle.sb_election.proofs.RefusalOrder.{three_by_three, early, late}
use Rattle.sb_election.proofs.judged.judge.Goals as goal

-- the refusals of the slots, and those of the roles
abbrev of_slots : Sb → List (Sb × ℕ) → Option Refusal
of_slots newest slots = first_of_all (unsupported slots ∷ bad_field newest slots ∷ two_holders slots ∷ [])

abbrev of_roles : Sb → List Role → Option Refusal
of_roles newest roles = first_of_all (members_missing newest roles ∷ dirty_degraded newest roles ∷ off_unit newest ∷ [])

abbrev all_of : Sb → List (Sb × ℕ) → List Role → Option Refusal
all_of newest slots roles =
    first_of_all (unsupported slots ∷ bad_field newest slots ∷ two_holders slots
    ∷ members_missing newest roles ∷ dirty_degraded newest roles ∷ off_unit newest ∷ [])

slots_first : (newest : Sb) (slots : List (Sb × ℕ)) (roles : List Role) (refusal : Refusal) → Some refusal ≡ of_slots newest slots
    → all_of newest slots roles ≡ Some refusal
slots_first newest slots roles refusal e =
    three_by_three (unsupported slots) (bad_field newest slots) (two_holders slots) (members_missing newest roles) (dirty_degraded newest roles) (off_unit newest)
    ∙ early (of_slots newest slots) (of_roles newest roles) refusal e

then_roles : (newest : Sb) (slots : List (Sb × ℕ)) (roles : List Role) (outcome : Option Refusal) → of_slots newest slots ≡ None
    → outcome ≡ of_roles newest roles → all_of newest slots roles ≡ outcome
then_roles newest slots roles outcome none e =
    three_by_three (unsupported slots) (bad_field newest slots) (two_holders slots) (members_missing newest roles) (dirty_degraded newest roles) (off_unit newest)
    ∙ late (of_slots newest slots) (of_roles newest roles) none ∙ sym e

pub returns-in-Some : goal.returns-in-Some
returns-in-Some c =
    let newest : Sb = c.args.newest.now in
    slots_first newest (fresh_from newest (slice_index c.args.lengths.now) 0 c.args.own.now)
    (tabulate (role_count newest) (λ role. holder_from newest role 0 c.args.own.now)) c.in-Some.refusal
    (c.in-Some.ensures.first ∙ ap (of_slots newest) (c.deref.ensures.value ∙ c.in-Ok.ensures))

pub roles_refusal-requires-clause-roles : goal.roles_refusal-requires-clause-roles
roles_refusal-requires-clause-roles c =
    ap length (c.as_slice.ensures ∙ c.in-Ok-roles.ensures)
    ∙ length-tabulate (role_count c.args.newest.now) (λ role. holder_from c.args.newest.now role 0 c.args.own.now)

pub returns-in-Some-roles_refusal : goal.returns-in-Some-roles_refusal
returns-in-Some-roles_refusal c =
    let newest : Sb = c.args.newest.now in
    then_roles newest (fresh_from newest (slice_index c.args.lengths.now) 0 c.args.own.now)
    (tabulate (role_count newest) (λ role. holder_from newest role 0 c.args.own.now)) (Some c.in-Some-roles_refusal.refusal)
    (ap (of_slots newest) (sym (c.deref.ensures.value ∙ c.in-Ok.ensures)) ∙ sym c.slots_refusal.ensures.first ∙ c.in_default.is)
    (c.in-Some-roles_refusal.ensures ∙ ap (of_roles newest) (c.as_slice.ensures ∙ c.in-Ok-roles.ensures))
