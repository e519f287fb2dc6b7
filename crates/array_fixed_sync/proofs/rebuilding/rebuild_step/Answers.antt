use Rattle.std.proofs.Common.{◌≡◌, inl, inr, ℕ, Option, Some, None, sym, ◌∙◌, ap, subst₂}
use Rattle.array_fixed_io.specs.sb_specs_the_Members.{Members}
use Rattle.std.specs.Prelude.{unwrap_or}
use Rattle.array_fixed_io.specs.history_the_StepKind_TheVariants.{RebuildTaken, RebuildStripe, RebuildEnded}
use Rattle.array_fixed_io.specs.array_specs_Parts.{still_left}
use Rattle.array_fixed_io.specs.array_call_specs_Calls.{IsHeldOrGiven}
use Rattle.array_fixed_io.specs.array_members_Rebuilding.{Held}
use Rattle.array_fixed_io.specs.array_type_Rebuilding.{first_recovering, first_unassigned, first_spare, IsRebuildNext, IsHeldOrNext, rebuild_kind}
use Rattle.array_fixed_sync.proofs.RebuildParts.{disks-as, roles-as, role-below, less-as, most-as, stripe-no-end, stripe-not-taken, end-not-taken, taken-no-end, work-as, work-same, whole-at}
use Rattle.array_fixed_sync.proofs.RebuildLaws.{not-taking, given-to, found-below, found-recovered, role-recovered, kind-filled, kind-ended, kind-taken, IsTaking, takes-next, entered-as, kept-stepped, not-end, at-end}
use Rattle.array_fixed_sync.proofs.NextLaws.{stepped-wider}
use Rattle.array_fixed_sync.proofs.rebuilding.rebuild_step.Goals as goal

-- the lowest role that recovers, by what was found
found : {a b : Members} {role : ℕ} {o : Option ℕ} → o ≡ first_recovering a → a ≡ b → o ≡ Some role → first_recovering b ≡ Some role
found is same some = ap first_recovering (sym same) ∙ sym is ∙ some

pub rebuilt-requires : goal.rebuilt-requires
rebuilt-requires g c =
    role-below c.in-Some.role c.disks-disks.result _ (found-below c.args.still.now.parts.members c.in-Some.role (found c.first_recovering.ensures c.members.ensures c.in-Some.is)) c.disks-disks.ensures.disks c.disks-disks.ensures.few

pub rebuild_stripe-requires-clause-pending : goal.rebuild_stripe-requires-clause-pending
rebuild_stripe-requires-clause-pending g c =
    (found-recovered c.args.still.now.parts.members c.in-Some.role (found c.first_recovering.ensures c.members.ensures c.in-Some.is), less-as c.if-rebuilt-stripes.true c.rebuilt.ensures c.stripes.ensures)

pub end_rebuild-requires-clause-open : goal.end_rebuild-requires-clause-open
end_rebuild-requires-clause-open g c =
    c.requires.unbroken (kind-ended c.args.still.now.parts.work c.args.still.now.parts.members c.in-Some.role (found c.first_recovering.ensures c.members.ensures c.in-Some.is)
    (most-as c.if-rebuilt-stripes.false c.rebuilt.ensures c.stripes.ensures))

pub end_rebuild-requires-clause-pending : goal.end_rebuild-requires-clause-pending
end_rebuild-requires-clause-pending g c =
    (found-recovered c.args.still.now.parts.members c.in-Some.role (found c.first_recovering.ensures c.members.ensures c.in-Some.is), most-as c.if-rebuilt-stripes.false c.rebuilt.ensures c.stripes.ensures)

pub returns-then-rebuilt-stripes-clause-entered : goal.returns-then-rebuilt-stripes-clause-entered
returns-then-rebuilt-stripes-clause-entered g c =
    let s = c.rebuild_stripe in
    let lowest = found c.first_recovering.ensures c.members.ensures c.in-Some.is in
    entered-as c.args.who c.args.still.now.parts.entries s.new.still.parts.entries c.args.still.now.parts.members s.new.still.parts.members c.args.still.now.parts.work RebuildStripe c.in-Some.role (still_left s.new.still.parts.work s.new.still.parts.members s.new.still.ahead) s.result
    (kind-filled c.args.still.now.parts.work c.args.still.now.parts.members c.in-Some.role lowest (less-as c.if-rebuilt-stripes.true c.rebuilt.ensures c.stripes.ensures))
    (role-recovered c.args.still.now.parts.work c.args.still.now.parts.members c.in-Some.role lowest) s.ensures.entered

pub returns-then-rebuilt-stripes-clause-list : goal.returns-then-rebuilt-stripes-clause-list
returns-then-rebuilt-stripes-clause-list g c =
    let s = c.rebuild_stripe in
    kept-stepped c.args.who c.args.still.now.parts.entries s.new.still.parts.entries s.new.still.parts.members c.in-Some.role RebuildStripe (still_left s.new.still.parts.work s.new.still.parts.members s.new.still.ahead) s.result s.ensures.entered

pub returns-then-rebuilt-stripes-clause-good : goal.returns-then-rebuilt-stripes-clause-good
returns-then-rebuilt-stripes-clause-good g c =
    not-end _ c.rebuild_stripe.result
    (kind-filled c.args.still.now.parts.work c.args.still.now.parts.members c.in-Some.role (found c.first_recovering.ensures c.members.ensures c.in-Some.is) (less-as c.if-rebuilt-stripes.true c.rebuilt.ensures c.stripes.ensures)) stripe-no-end

pub returns-in-Some-clause-entered : goal.returns-in-Some-clause-entered
returns-in-Some-clause-entered g c =
    let s = c.end_rebuild in
    let lowest = found c.first_recovering.ensures c.members.ensures c.in-Some.is in
    entered-as c.args.who c.args.still.now.parts.entries s.new.still.parts.entries c.args.still.now.parts.members s.new.still.parts.members c.args.still.now.parts.work RebuildEnded c.in-Some.role (still_left s.new.still.parts.work s.new.still.parts.members s.new.still.ahead) s.result
    (kind-ended c.args.still.now.parts.work c.args.still.now.parts.members c.in-Some.role lowest (most-as c.if-rebuilt-stripes.false c.rebuilt.ensures c.stripes.ensures))
    (role-recovered c.args.still.now.parts.work c.args.still.now.parts.members c.in-Some.role lowest) s.ensures.entered

pub returns-in-Some-clause-list : goal.returns-in-Some-clause-list
returns-in-Some-clause-list g c =
    let s = c.end_rebuild in
    kept-stepped c.args.who c.args.still.now.parts.entries s.new.still.parts.entries s.new.still.parts.members c.in-Some.role RebuildEnded (still_left s.new.still.parts.work s.new.still.parts.members s.new.still.ahead) s.result s.ensures.entered

pub returns-in-Some-clause-good : goal.returns-in-Some-clause-good
returns-in-Some-clause-good g c =
    at-end _ (rebuild_kind c.args.still.now.parts.work c.args.still.now.parts.members) c.end_rebuild.result c.end_rebuild.ensures.good

-- the role and the spare that were found
taken : {a b : Members} {vacant spare recovered : Option ℕ} {role slot : ℕ} → recovered ≡ first_recovering a → a ≡ b → recovered ≡ None → IsRebuildNext b → vacant ≡ first_unassigned b → role ≡ unwrap_or vacant 0
    → spare ≡ first_spare b → slot ≡ unwrap_or spare 0 → IsTaking b role slot
taken {b = b} recovered same none next vacant role spare slot =
    subst₂ (λ (r s : ℕ). IsTaking b r s) (sym (role ∙ ap (λ (o : Option ℕ). unwrap_or o 0) vacant)) (sym (slot ∙ ap (λ (o : Option ℕ). unwrap_or o 0) spare))
    (takes-next b next (ap first_recovering (sym same) ∙ sym recovered ∙ none))

pub take_role-requires-clause-role : goal.take_role-requires-clause-role
take_role-requires-clause-role g c =
    (taken c.first_recovering.ensures c.members.ensures c.in_default.is c.requires.pending (c.first_unassigned.ensures ∙ ap first_unassigned c.members-2.ensures) c.unwrap_or-role.ensures
    (c.first_spare.ensures ∙ ap first_spare c.members-3.ensures) c.unwrap_or-slot.ensures).below

pub take_role-requires-clause-vacant : goal.take_role-requires-clause-vacant
take_role-requires-clause-vacant g c =
    (taken c.first_recovering.ensures c.members.ensures c.in_default.is c.requires.pending (c.first_unassigned.ensures ∙ ap first_unassigned c.members-2.ensures) c.unwrap_or-role.ensures
    (c.first_spare.ensures ∙ ap first_spare c.members-3.ensures) c.unwrap_or-slot.ensures).vacant

pub take_role-requires-clause-spare : goal.take_role-requires-clause-spare
take_role-requires-clause-spare g c =
    (taken c.first_recovering.ensures c.members.ensures c.in_default.is c.requires.pending (c.first_unassigned.ensures ∙ ap first_unassigned c.members-2.ensures) c.unwrap_or-role.ensures
    (c.first_spare.ensures ∙ ap first_spare c.members-3.ensures) c.unwrap_or-slot.ensures).spare

pub returns-clause-entered : goal.returns-clause-entered
returns-clause-entered g c =
    let s = c.take_role in
    let next = taken c.first_recovering.ensures c.members.ensures c.in_default.is c.requires.pending (c.first_unassigned.ensures ∙ ap first_unassigned c.members-2.ensures) c.unwrap_or-role.ensures
    (c.first_spare.ensures ∙ ap first_spare c.members-3.ensures) c.unwrap_or-slot.ensures in
    entered-as c.args.who c.args.still.now.parts.entries s.new.still.parts.entries c.args.still.now.parts.members s.new.still.parts.members c.args.still.now.parts.work RebuildTaken c.unwrap_or-role.result (still_left s.new.still.parts.work s.new.still.parts.members s.new.still.ahead) s.result
    (kind-taken c.args.still.now.parts.work c.args.still.now.parts.members (ap first_recovering (sym c.members.ensures) ∙ sym c.first_recovering.ensures ∙ c.in_default.is)) next.role_is s.ensures.entered

pub returns-clause-list : goal.returns-clause-list
returns-clause-list g c =
    let s = c.take_role in
    kept-stepped c.args.who c.args.still.now.parts.entries s.new.still.parts.entries s.new.still.parts.members c.unwrap_or-role.result RebuildTaken (still_left s.new.still.parts.work s.new.still.parts.members s.new.still.ahead) s.result s.ensures.entered

-- ---- who had the roles, and who has one

pub returns-then-rebuilt-stripes-clause-stepped : goal.returns-then-rebuilt-stripes-clause-stepped
returns-then-rebuilt-stripes-clause-stepped g c =
    let s = c.rebuild_stripe in
    let given = g.B.Bank.given c.args.still.now.parts.bank in
    stepped-wider g.B.Bank.tells given (g.B.Bank.tape c.args.still.now.parts.bank) (g.B.Bank.tape s.new.still.parts.bank) (IsHeldOrNext c.args.still.now.parts.work c.args.still.now.parts.members) (Held c.args.still.now.parts.members)
    (g.B.Bank.faults_of c.args.still.now.parts.bank) (g.B.Bank.faults_of s.new.still.parts.bank) c.args.still.now s.new.still (λ role slot held. inl held) s.ensures.stepped

pub returns-then-rebuilt-stripes-clause-held : goal.returns-then-rebuilt-stripes-clause-held
returns-then-rebuilt-stripes-clause-held g c =
    record { roles = λ role slot held. inl (c.rebuild_stripe.ensures.held role slot held); spares = c.rebuild_stripe.ensures.spares }

pub returns-in-Some-clause-stepped : goal.returns-in-Some-clause-stepped
returns-in-Some-clause-stepped g c =
    let s = c.end_rebuild in
    let given = g.B.Bank.given c.args.still.now.parts.bank in
    stepped-wider g.B.Bank.tells given (g.B.Bank.tape c.args.still.now.parts.bank) (g.B.Bank.tape s.new.still.parts.bank) (IsHeldOrNext c.args.still.now.parts.work c.args.still.now.parts.members) (Held c.args.still.now.parts.members)
    (g.B.Bank.faults_of c.args.still.now.parts.bank) (g.B.Bank.faults_of s.new.still.parts.bank) c.args.still.now s.new.still (λ role slot held. inl held) s.ensures.stepped

pub returns-clause-stepped : goal.returns-clause-stepped
returns-clause-stepped g c =
    let s = c.take_role in
    let given = g.B.Bank.given c.args.still.now.parts.bank in
    let next = taken c.first_recovering.ensures c.members.ensures c.in_default.is c.requires.pending (c.first_unassigned.ensures ∙ ap first_unassigned c.members-2.ensures) c.unwrap_or-role.ensures
    (c.first_spare.ensures ∙ ap first_spare c.members-3.ensures) c.unwrap_or-slot.ensures in
    let kind = kind-taken c.args.still.now.parts.work c.args.still.now.parts.members (ap first_recovering (sym c.members.ensures) ∙ sym c.first_recovering.ensures ∙ c.in_default.is) in
    stepped-wider g.B.Bank.tells given (g.B.Bank.tape c.args.still.now.parts.bank) (g.B.Bank.tape s.new.still.parts.bank) (IsHeldOrNext c.args.still.now.parts.work c.args.still.now.parts.members)
    (IsHeldOrGiven c.args.still.now.parts.members c.unwrap_or-role.result c.unwrap_or-slot.result)
    (g.B.Bank.faults_of c.args.still.now.parts.bank) (g.B.Bank.faults_of s.new.still.parts.bank) c.args.still.now s.new.still
    (λ role slot held. elim held [
      | inl had ↦ inl had
      | inr here ↦ inr (kind, (here.0 ∙ sym next.role_is, next.lowest ∙ ap (λ (k : ℕ). Some k) (sym here.1)))
    ]) s.ensures.stepped

pub returns-then-rebuilt-stripes-clause-taken : goal.returns-then-rebuilt-stripes-clause-taken
returns-then-rebuilt-stripes-clause-taken g c =
    not-taking _ c.rebuild_stripe.result
    (kind-filled c.args.still.now.parts.work c.args.still.now.parts.members c.in-Some.role (found c.first_recovering.ensures c.members.ensures c.in-Some.is) (less-as c.if-rebuilt-stripes.true c.rebuilt.ensures c.stripes.ensures)) stripe-not-taken

pub returns-in-Some-clause-taken : goal.returns-in-Some-clause-taken
returns-in-Some-clause-taken g c =
    not-taking _ c.end_rebuild.result
    (kind-ended c.args.still.now.parts.work c.args.still.now.parts.members c.in-Some.role (found c.first_recovering.ensures c.members.ensures c.in-Some.is) (most-as c.if-rebuilt-stripes.false c.rebuilt.ensures c.stripes.ensures)) end-not-taken

pub returns-clause-taken : goal.returns-clause-taken
returns-clause-taken g c =
    let s = c.take_role in
    let next = taken c.first_recovering.ensures c.members.ensures c.in_default.is c.requires.pending (c.first_unassigned.ensures ∙ ap first_unassigned c.members-2.ensures) c.unwrap_or-role.ensures
    (c.first_spare.ensures ∙ ap first_spare c.members-3.ensures) c.unwrap_or-slot.ensures in
    given-to c.args.still.now.parts.members s.new.still.parts.members (rebuild_kind c.args.still.now.parts.work c.args.still.now.parts.members) c.unwrap_or-role.result c.unwrap_or-slot.result s.result next s.ensures.taken

-- ---- what is asked

pub first_recovering-requires-clause-disks : goal.first_recovering-requires-clause-disks
first_recovering-requires-clause-disks g c = disks-as _ c.args.still.now.parts.members c.disks-disks.result c.members.ensures c.disks-disks.ensures.disks

pub first_recovering-requires-clause-roles : goal.first_recovering-requires-clause-roles
first_recovering-requires-clause-roles g c = roles-as _ c.args.still.now.parts.members c.disks-disks.result c.members.ensures c.disks-disks.ensures.roles

pub first_unassigned-requires-clause-disks : goal.first_unassigned-requires-clause-disks
first_unassigned-requires-clause-disks g c = disks-as _ c.args.still.now.parts.members c.disks-disks.result c.members-2.ensures c.disks-disks.ensures.disks

pub first_unassigned-requires-clause-roles : goal.first_unassigned-requires-clause-roles
first_unassigned-requires-clause-roles g c = roles-as _ c.args.still.now.parts.members c.disks-disks.result c.members-2.ensures c.disks-disks.ensures.roles

-- ---- what is under way, and who is whole

pub returns-then-rebuilt-stripes-clause-work : goal.returns-then-rebuilt-stripes-clause-work
returns-then-rebuilt-stripes-clause-work g c =
    work-as c.args.still.now.parts.work c.rebuild_stripe.new.still.parts.work c.args.still.now.parts.members RebuildStripe c.in-Some.role c.rebuild_stripe.result
    (kind-filled c.args.still.now.parts.work c.args.still.now.parts.members c.in-Some.role (found c.first_recovering.ensures c.members.ensures c.in-Some.is) (less-as c.if-rebuilt-stripes.true c.rebuilt.ensures c.stripes.ensures))
    (role-recovered c.args.still.now.parts.work c.args.still.now.parts.members c.in-Some.role (found c.first_recovering.ensures c.members.ensures c.in-Some.is)) c.rebuild_stripe.ensures.work

pub returns-then-rebuilt-stripes-clause-whole : goal.returns-then-rebuilt-stripes-clause-whole
returns-then-rebuilt-stripes-clause-whole g c =
    not-end _ c.rebuild_stripe.result
    (kind-filled c.args.still.now.parts.work c.args.still.now.parts.members c.in-Some.role (found c.first_recovering.ensures c.members.ensures c.in-Some.is) (less-as c.if-rebuilt-stripes.true c.rebuilt.ensures c.stripes.ensures)) stripe-no-end

pub returns-in-Some-clause-work : goal.returns-in-Some-clause-work
returns-in-Some-clause-work g c =
    work-as c.args.still.now.parts.work c.end_rebuild.new.still.parts.work c.args.still.now.parts.members RebuildEnded c.in-Some.role c.end_rebuild.result
    (kind-ended c.args.still.now.parts.work c.args.still.now.parts.members c.in-Some.role (found c.first_recovering.ensures c.members.ensures c.in-Some.is) (most-as c.if-rebuilt-stripes.false c.rebuilt.ensures c.stripes.ensures))
    (role-recovered c.args.still.now.parts.work c.args.still.now.parts.members c.in-Some.role (found c.first_recovering.ensures c.members.ensures c.in-Some.is)) (work-same c.args.still.now.parts.work c.end_rebuild.new.still.parts.work c.end_rebuild.result c.end_rebuild.ensures.work)

pub returns-in-Some-clause-whole : goal.returns-in-Some-clause-whole
returns-in-Some-clause-whole g c =
    whole-at c.args.still.now.parts.members c.end_rebuild.new.still.parts.members (rebuild_kind c.args.still.now.parts.work c.args.still.now.parts.members) c.in-Some.role c.end_rebuild.result (role-recovered c.args.still.now.parts.work c.args.still.now.parts.members c.in-Some.role (found c.first_recovering.ensures c.members.ensures c.in-Some.is)) c.end_rebuild.ensures.whole

pub returns-in-Some-clause-held : goal.returns-in-Some-clause-held
returns-in-Some-clause-held g c =
    record { roles = λ role slot held. inl (c.end_rebuild.ensures.held role slot held); spares = c.end_rebuild.ensures.spares }

pub returns-clause-work : goal.returns-clause-work
returns-clause-work g c =
    work-as c.args.still.now.parts.work c.take_role.new.still.parts.work c.args.still.now.parts.members RebuildTaken c.unwrap_or-role.result c.take_role.result
    (kind-taken c.args.still.now.parts.work c.args.still.now.parts.members (ap first_recovering (sym c.members.ensures) ∙ sym c.first_recovering.ensures ∙ c.in_default.is))
    (taken c.first_recovering.ensures c.members.ensures c.in_default.is c.requires.pending (c.first_unassigned.ensures ∙ ap first_unassigned c.members-2.ensures) c.unwrap_or-role.ensures
    (c.first_spare.ensures ∙ ap first_spare c.members-3.ensures) c.unwrap_or-slot.ensures).role_is c.take_role.ensures.work

pub returns-clause-whole : goal.returns-clause-whole
returns-clause-whole g c =
    not-end _ c.take_role.result
    (kind-taken c.args.still.now.parts.work c.args.still.now.parts.members (ap first_recovering (sym c.members.ensures) ∙ sym c.first_recovering.ensures ∙ c.in_default.is)) taken-no-end

pub returns-clause-good : goal.returns-clause-good
returns-clause-good g c =
    not-end _ c.take_role.result
    (kind-taken c.args.still.now.parts.work c.args.still.now.parts.members (ap first_recovering (sym c.members.ensures) ∙ sym c.first_recovering.ensures ∙ c.in_default.is)) taken-no-end

pub returns-then-rebuilt-stripes-clause-still : goal.returns-then-rebuilt-stripes-clause-still
returns-then-rebuilt-stripes-clause-still g c = c.rebuild_stripe.ensures.still

pub returns-in-Some-clause-still : goal.returns-in-Some-clause-still
returns-in-Some-clause-still g c = c.end_rebuild.ensures.still

pub returns-clause-still : goal.returns-clause-still
returns-clause-still g c = c.take_role.ensures.still
