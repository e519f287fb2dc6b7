use Rattle.std.proofs.Common.{◌≡◌, ◌++◌, ℕ, List, [], length, Some, refl, sym, ◌∙◌, ap, arith}
use Rattle.std.proofs.lemmas.List.{length-map}
use Rattle.array_create_assemble.specs.bank_Given.{Given}
use Rattle.array_create_assemble.specs.sb_specs_the_Members.{Members}
use Rattle.array_create_assemble.specs.sb_specs_Reading.{is_reshaping, role_count}
use Rattle.array_steps.specs.stripe_row_Rows.{reading_of, role_without, members_without}
use Rattle.array_create_assemble.specs.history_the_Entry.{Entry}
use Rattle.array_create_assemble.specs.history_Plain.{entries_of}
use Rattle.array_create_assemble.specs.array_members_Placed.{IsPlaced}
use Rattle.array_create_assemble.proofs.array_members_Fit.{few as few-placed}
use Rattle.array_steps.specs.array_call_specs_Adopting.{opener, absent_losses}
use Rattle.array_steps.proofs.array_call_specs_ReadyLaws.{scope-same}
use Rattle.array_reshaping_open_laws.specs.Opening.{AreOpenedMoving, opening_entries}
use Rattle.array_reshaping_open_laws.proofs.Members.{placed-here}
use Rattle.array_open.specs.Adopted.{moving_work}
use Rattle.array_open.proofs.Ready.{ready-by}
use Rattle.array_open.proofs.Told.{adopted-as}
use Rattle.array_open.proofs.adopting.begin_moving.Goals as goal

placed-by : {tells : Type 0} {bank : Given} {tape : List _} {given backup : ℕ} {former : Members} → AreOpenedMoving tells bank tape given backup former → IsPlaced bank former
placed-by {bank = bank} {given = given} {backup = backup} {former = former} are = placed-here bank given backup former are.elected are.aside are.active are.backed

-- the members have as many roles without slots that were lost
same-roles : (lost : ℕ) (former members : Members) → members ≡ members_without lost former → length members.roles ≡ length former.roles
same-roles lost former members is = ap (λ (m : Members). length m.roles) is ∙ length-map former.roles (role_without lost)

-- the first entries, by what the loop entered behind none
entries-by : (former members : Members) (lost n first first' : ℕ) (entries before : List Entry) → members ≡ members_without lost former → n ≡ role_count former.newest → before ≡ [] → first' ≡ first
    → entries ≡ before ++ entries_of opener first (absent_losses (reading_of members) n) → entries ≡ opening_entries first' (members_without lost former)
entries-by former members lost n first first' entries before members_are count none same is =
    is ∙ ap (λ (l : List Entry). l ++ entries_of opener first (absent_losses (reading_of members) n)) none
    ∙ ap (λ (k : ℕ). entries_of opener first (absent_losses (reading_of members) k)) count
    ∙ ap (λ (m : Members). entries_of opener first (absent_losses (reading_of m) (role_count former.newest))) members_are
    ∙ ap (λ (k : ℕ). opening_entries k (members_without lost former)) (sym same)

pub lose_recovering-requires-clause-few : goal.lose_recovering-requires-clause-few
lose_recovering-requires-clause-few g c = few-placed (g.B.Bank.given c.args.bank) c.args.members (placed-by c.requires.opened.members_are)

pub lose_recovering-requires-clause-small : goal.lose_recovering-requires-clause-small
lose_recovering-requires-clause-small g c = λ role slot held. ((placed-by c.requires.opened.members_are).holders role slot held).small

count-few : goal.append_absent-requires-clause-disks
count-few g c =
    let few = few-placed (g.B.Bank.given c.args.bank) c.args.members (placed-by c.requires.opened.members_are) in
    let same = same-roles c.lose_recovering.result c.args.members c.lose_recovering.new.members c.lose_recovering.ensures.members in
    omega (arith, few, same, c.len-count.ensures)

pub append_absent-requires-clause-disks : goal.append_absent-requires-clause-disks
append_absent-requires-clause-disks = count-few

pub overflow_cast-count : goal.overflow_cast-count
overflow_cast-count g c =
    let few = few-placed (g.B.Bank.given c.args.bank) c.args.members (placed-by c.requires.opened.members_are) in
    let same = same-roles c.lose_recovering.result c.args.members c.lose_recovering.new.members c.lose_recovering.ensures.members in
    omega (arith, few, same, c.len-count.ensures)

pub of_reshaping-requires-clause-ready : goal.of_reshaping-requires-clause-ready
of_reshaping-requires-clause-ready g c =
    let given = g.B.Bank.given c.args.bank in
    let former = c.args.members in
    let lost = c.lose_recovering.result in
    let members = c.lose_recovering.new.members in
    let members_are = c.lose_recovering.ensures.members in
    let did = c.append_absent.ensures in
    let epoch = c.append_absent.new.epoch in
    let placed = placed-by c.requires.opened.members_are in
    ready-by c.args.window.items c.requires.opened lost c.lose_recovering.ensures.recovering
    (sym (ap (λ (m : Members). length m.own) members_are) ∙ c.moving_work-work.ensures.slots) c.args.first c.requires.first
    (scope-same given (Some c.args.backup) refl (did.same.uuid ∙ ap (λ (m : Members). m.newest.set_uuid) members_are) did.same.given) did.same.first
    (entries-by former members lost c.len-count.result c.args.first c.args.first epoch.entries.items c.args.near.entries.items members_are
    (c.len-count.ensures ∙ same-roles lost former members members_are ∙ placed.roles) c.requires.empty refl did.items)
    members_are (c.moving_work-work.ensures.work ∙ ap moving_work members_are) c.requires.sure c.requires.failed c.requires.wide did.room c.requires.rows
    (omega (arith, c.requires.buffer)) c.requires.far_rows (omega (arith, c.requires.far_buffer))

pub returns-clause-adopted : goal.returns-clause-adopted
returns-clause-adopted g c =
    let former = c.args.members in
    let lost = c.lose_recovering.result in
    let members = c.lose_recovering.new.members in
    let members_are = c.lose_recovering.ensures.members in
    let did = c.append_absent.ensures in
    let epoch = c.append_absent.new.epoch in
    let placed = placed-by c.requires.opened.members_are in
    adopted-as (g.B.Bank.given c.args.bank) (g.B.Bank.tape c.args.bank) c.args.given c.args.backup former c.of_reshaping.result _ c.of_reshaping.ensures.same (record {
      uuid = did.same.uuid ∙ ap (λ (m : Members). m.newest.set_uuid) members_are;
      given = did.same.given;
      first = λ t. did.same.first ∙ c.requires.first t;
      last = did.last refl ∙ sym did.same.first;
      entries = entries-by former members lost c.len-count.result c.args.first epoch.first epoch.entries.items c.args.near.entries.items members_are
          (c.len-count.ensures ∙ same-roles lost former members members_are ∙ placed.roles) c.requires.empty did.same.first did.items
          ∙ ap (opening_entries epoch.first) (sym members_are);
      backup_is = refl;
      recovering = lost;
      are = c.lose_recovering.ensures.recovering;
      members_are = members_are;
      work = c.moving_work-work.ensures.work;
      course = refl;
      window = c.requires.opened.found;
      planless = refl;
      unlimited = refl;
    })

pub returns-clause-bank : goal.returns-clause-bank
returns-clause-bank g c = ap (λ r. r.parts.bank) c.of_reshaping.ensures.same

pub returns-clause-active : goal.returns-clause-active
returns-clause-active g c =
    ap (λ r. is_reshaping r.parts.members.newest) c.of_reshaping.ensures.same ∙ ap (λ (m : Members). is_reshaping m.newest) c.lose_recovering.ensures.members ∙ c.requires.opened.members_are.active
