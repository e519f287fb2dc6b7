use Rattle.std.proofs.Common.{◌≡◌, inl, inr, ℕ, ◌+◌, ◌*◌, ◌/◌, Option, unwrap_or, sym, ap, subst, arith, ◌∙◌}
use Rattle.stripe_io.specs.raid_types_Shapes.{data_disks}
use Rattle.stripe_io.specs.bank_Given.{Given}
use Rattle.stripe_io.specs.bank_Tape.{Contents}
use Rattle.stripe_io.specs.raid_layout_Layout.{place}
use Rattle.stripe_io.specs.sb_specs_the_Members.{Members}
use Rattle.stripe_io.specs.stripe_row_Rows.{reading_of, present}
use Rattle.stripe_io.proofs.stripe_row_RowBytes.{on_ok}
use Rattle.stripe_io.specs.stripe_list_Calls.{AreLost}
use Rattle.stripe_io.specs.stripe_list_Full.{DataStands, RowStands}
use Rattle.stripe_io.proofs.stripe_list_LossLaws.{none_lost, lost_then}
use Rattle.stripe_io.proofs.stripe_list_ListLaws.{data_by, row_by, present_same}
use Rattle.stripe_io.specs.array_members_Placed.{IsPlaced, IsInForce}
use Rattle.stripe_io.proofs.array_members_Fit.{disks-within}
use Rattle.stripe_io.proofs.array_members_LackingWrites.{lost-of}
use Rattle.stripe_region_read.proofs.chunks.read_chunk.Goals as goal

pub are_too_many-requires : goal.are_too_many-requires
are_too_many-requires g c = disks-within (g.B.Bank.given c.args.bank.now) c.args.members.now c.requires.placed c.args.shape.now c.requires.shape

pub returns-then-are_too_many-clause-lost : goal.returns-then-are_too_many-clause-lost
returns-then-are_too_many-clause-lost g c = none_lost c.args.shape.now c.args.members.now (g.B.Bank.faults_of c.args.bank.now) (g.B.Bank.faults_of c.args.bank.now) (λ s. omega arith)

-- ---- behind a run that wasn't read

pub read_parts-rest-requires-clause-placed : goal.read_parts-rest-requires-clause-placed
read_parts-rest-requires-clause-placed g c =
    let given = g.B.Bank.given c.args.bank.now in
    let lost = c.read_run.ensures.lost in
    subst (λ (b : Given). IsPlaced b c.read_run.new.members) (sym c.read_run.ensures.given)
    (lost-of given c.args.shape.now c.args.members.now c.read_run.new.members (unwrap_or c.read_run.result 0) (g.B.Bank.faults_of c.args.bank.now) (g.B.Bank.faults_of c.read_run.new.bank) c.requires.placed lost).placed

pub read_parts-rest-requires-clause-shape : goal.read_parts-rest-requires-clause-shape
read_parts-rest-requires-clause-shape g c = subst (λ (m : Members). IsInForce m.newest c.args.shape.now) (sym c.read_run.ensures.lost.members) c.requires.shape

pub read_parts-rest-requires-clause-within : goal.read_parts-rest-requires-clause-within
read_parts-rest-requires-clause-within g c =
    let size = ap (λ (m : Members). data_disks c.args.shape.now * m.newest.size) c.read_run.ensures.lost.members in
    let long = ap (λ (n : ℕ). n / 512) c.read_run.auto.into in
    let within = c.requires.within in
    omega (arith, size, long, within)

pub read_parts-rest-requires-clause-mended : goal.read_parts-rest-requires-clause-mended
read_parts-rest-requires-clause-mended g c =
    let size = ap (λ (m : Members). m.newest.size) c.read_run.ensures.lost.members in
    let mended = c.requires.mended in
    omega (arith, size, mended)

pub returns-clause-lost : goal.returns-clause-lost
returns-clause-lost g c =
    let lost = subst (λ (o : Option ℕ). AreLost c.args.shape.now c.args.members.now c.read_run.new.members (unwrap_or o 0) (g.B.Bank.faults_of c.args.bank.now) (g.B.Bank.faults_of c.read_run.new.bank)) c.in-Some.is c.read_run.ensures.lost in
    lost_then lost c.read_parts-rest.ensures.lost

pub returns-clause-sectors : goal.returns-clause-sectors
returns-clause-sectors g c =
    let m = c.args.members.now in
    let mid = c.read_run.new.members in
    let shape = c.args.shape.now in
    let lost = unwrap_or c.read_run.result 0 in
    let members = c.read_run.ensures.lost.members in
    let c0 = present (g.B.Bank.given c.args.bank.now) (g.B.Bank.tape c.args.bank.now) in
    let c1 = present (g.B.Bank.given c.read_run.new.bank) (g.B.Bank.tape c.read_run.new.bank) in
    on_ok c.read_parts-rest.result.answer (λ listed told list i lt stands fills.
    let row = (place shape (c.args.first + i)).row in
    let same : c1 ≡ c0 = present_same c.read_run.ensures.given (c.read_run.ensures.tape told) in
    let long = ap (λ (n : ℕ). n / 512) c.read_run.auto.into in
    listed told list i (omega (arith, lt, long))
    (subst (λ (k : Contents). DataStands (reading_of mid) k shape list row) (sym same) (data_by c0 shape list row m lost mid members stands))
    (λ low. elim (fills low) [
      | inl whole ↦ inl whole
      | inr stood ↦ inr (subst (λ (k : Contents). RowStands (reading_of mid) k shape list row) (sym same) (row_by c0 shape list row m lost mid members stood))
    ])) c.read_parts-rest.ensures.sectors

pub returns-in_default-clause-sectors : goal.returns-in_default-clause-sectors
returns-in_default-clause-sectors g c = λ told list i lt stands fills. c.read_run.ensures.read c.in_default.is told list i lt stands

pub returns-clause-tape : goal.returns-clause-tape
returns-clause-tape g c told = c.read_parts-rest.ensures.tape told ∙ c.read_run.ensures.tape told
