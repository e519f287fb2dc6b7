use Rattle.std.proofs.Common.{◌≡◌, ℕ, ◌+◌, ◌/◌, length, sym, ◌∙◌, ap, subst, arith}
use Rattle.std.specs.Prelude.{is_err}
use Rattle.stripe_io.specs.bank_Tape.{AreSectors}
use Rattle.stripe_io.specs.raid_types_the_Place.{Place}
use Rattle.stripe_io.specs.raid_types_the_Role_TheVariants.{Whole}
use Rattle.stripe_io.specs.raid_layout_Layout.{place}
use Rattle.stripe_io.specs.sb_specs_Reading.{role_state, holder, data_offset_of}
use Rattle.stripe_io.specs.stripe_row_Rows.{reading_of, present}
use Rattle.stripe_io.proofs.stripe_list_LossLaws.{none_lost, slot_lost}
use Rattle.stripe_io.proofs.array_members_Fit.{force-valid, force-multiple, disks-within, few}
use Rattle.stripe_region_read.proofs.ChunkReads.{run-listed, run-within}
use Rattle.stripe_region_read.proofs.chunks.read_run.Goals as goal

pub place-at-requires-clause-shape : goal.place-at-requires-clause-shape
place-at-requires-clause-shape g c = force-valid c.args.members.now.newest c.requires.placed.fit c.args.shape.now c.requires.shape

pub get-requires : goal.get-requires
get-requires g c =
    let within = disks-within (g.B.Bank.given c.args.bank.now) c.args.members.now c.requires.placed c.args.shape.now c.requires.shape in
    let role = c.place-at.ensures.role in
    omega (arith, within, role)

pub returns-in_default-clause-lost : goal.returns-in_default-clause-lost
returns-in_default-clause-lost g c = none_lost c.args.shape.now c.args.members.now (g.B.Bank.faults_of c.args.bank.now) (g.B.Bank.faults_of c.args.bank.now) (λ s. omega arith)

pub data_offset-requires : goal.data_offset-requires
data_offset-requires g c = (c.requires.placed.holders c.place-at.result.role c.in-Whole.slot (ap holder (sym c.get.ensures ∙ c.in-Whole.is))).small

pub overflow_add-sector : goal.overflow_add-sector
overflow_add-sector g c =
    let has = c.requires.placed.holders c.place-at.result.role c.in-Whole.slot (ap holder (sym c.get.ensures ∙ c.in-Whole.is)) in
    let low = c.place-at.ensures.row c.args.members.now.newest.size (force-multiple c.args.members.now.newest c.requires.placed.fit c.args.shape.now c.requires.shape)
    (let some = c.requires.some in let within = c.requires.within in omega (arith, some, within)) in
    omega (arith, has.short, has.within, c.data_offset.ensures, low)

pub read-requires : goal.read-requires
read-requires g c =
    let m = c.args.members.now in
    let shape = c.args.shape.now in
    let count = length c.args.into.now / 512 in
    let has = c.requires.placed.holders c.place-at.result.role c.in-Whole.slot (ap holder (sym c.get.ensures ∙ c.in-Whole.is)) in
    let valid = force-valid m.newest c.requires.placed.fit shape c.requires.shape in
    let multiple = force-multiple m.newest c.requires.placed.fit shape c.requires.shape in
    let inside = run-within shape valid m.newest.size c.args.first count multiple c.requires.some c.requires.within c.requires.run in
    let row : c.place-at.result.row ≡ (place shape c.args.first).row = ap (λ (p : Place). p.row) c.place-at.ensures.place in
    record {
      known = has.known;
      some = let some = c.requires.some in omega (arith, some);
      whole = sym c.requires.into;
      within = omega (arith, has.within, c.data_offset.ensures, inside, row);
    }

pub lose_slot-requires-clause-slot : goal.lose_slot-requires-clause-slot
lose_slot-requires-clause-slot g c = (c.requires.placed.holders c.place-at.result.role c.in-Whole.slot (ap holder (sym c.get.ensures ∙ c.in-Whole.is))).small

pub lose_slot-requires-clause-small : goal.lose_slot-requires-clause-small
lose_slot-requires-clause-small g c = λ role slot is. (c.requires.placed.holders role slot is).small

pub lose_slot-requires-clause-few : goal.lose_slot-requires-clause-few
lose_slot-requires-clause-few g c = let roles = few (g.B.Bank.given c.args.bank.now) c.args.members.now c.requires.placed in omega (arith, roles)

pub returns-in-Err-clause-lost : goal.returns-in-Err-clause-lost
returns-in-Err-clause-lost g c =
    slot_lost c.args.shape.now c.args.members.now c.lose_slot.new.members c.lose_slot.result c.in-Whole.slot c.place-at.result.role (g.B.Bank.faults_of c.args.bank.now) (g.B.Bank.faults_of c.read.new.self)
    c.lose_slot.ensures.members c.lose_slot.ensures.alone (let low = c.place-at.ensures.role in omega (arith, low)) (ap holder (sym c.get.ensures ∙ c.in-Whole.is)) (c.read.ensures.cause.failed (ap is_err c.in-Err.is)) c.read.ensures.cause.never_falls

pub returns-in-Ok-clause-lost : goal.returns-in-Ok-clause-lost
returns-in-Ok-clause-lost g c = none_lost c.args.shape.now c.args.members.now (g.B.Bank.faults_of c.args.bank.now) (g.B.Bank.faults_of c.read.new.self) c.read.ensures.cause.never_falls

pub returns-in-Ok-clause-read : goal.returns-in-Ok-clause-read
returns-in-Ok-clause-read g c = λ none told list i lt stands.
    let m = c.args.members.now in
    let shape = c.args.shape.now in
    let content = present (g.B.Bank.given c.args.bank.now) (g.B.Bank.tape c.args.bank.now) in
    let slot = c.in-Whole.slot in
    let place_is = c.place-at.ensures.place in
    let state : role_state (reading_of m) (place shape c.args.first).role ≡ Whole slot = subst (λ (p : Place). role_state (reading_of m) p.role ≡ Whole slot) place_is (sym c.get.ensures ∙ c.in-Whole.is) in
    let at : c.data_offset.result + c.place-at.result.row ≡ data_offset_of (reading_of m) slot + (place shape c.args.first).row = (let off = c.data_offset.ensures in let row = ap (λ (p : Place). p.row) place_is in omega (arith, off, row)) in
    run-listed m content shape (force-valid m.newest c.requires.placed.fit shape c.requires.shape) (force-multiple m.newest c.requires.placed.fit shape c.requires.shape)
    c.args.first (length c.args.into.now / 512) c.requires.within c.requires.run slot state c.read.new.into (ap (λ (n : ℕ). n / 512) c.read.auto.into)
    (subst (λ (k : ℕ). AreSectors (content slot) k c.read.new.into) at (c.in-Ok.ensures.ok told)) list i lt stands
