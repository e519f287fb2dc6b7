use Rattle.std.proofs.Common.{◌+◌, ◌*◌, ◌==◌, ℕ, refl, sym, ap, ◌∙◌, arith}
use Rattle.raid_layout.specs.raid_types_Shapes.{has_slot}
use Rattle.raid_parity_simd.specs.Buffers.{role_sectors}
use Rattle.stripe_row.specs.Rows.{present, reading_of}
use Rattle.stripe_row.proofs.Lacks.{or_right, equal}
use Rattle.stripe_runs.proofs.ReadLaws.{sectors_none, sectors_lost, sectors_here}
use Rattle.stripe_runs.proofs.RoomLaws.{run_room, apart_roles, apart_rows}
use Rattle.stripe_row.proofs.Losses.{holder-of}
use Rattle.stripe_runs.proofs.reads.read_role.Goals as goal

pub held_slot-requires-clause-small : goal.held_slot-requires-clause-small
held_slot-requires-clause-small g c = λ slot is. (c.requires.rows.first.holders c.args.role slot is).small

pub contains-requires : goal.contains-requires
contains-requires g c =
    (c.requires.rows.first.holders c.args.role c.in-Some.slot (holder-of (reading_of c.args.members.now) c.args.role c.args.run.row c.in-Some.slot (sym c.held_slot.ensures ∙ c.in-Some.is))).small

pub data_offset-requires : goal.data_offset-requires
data_offset-requires g c =
    (c.requires.rows.first.holders c.args.role c.in-Some.slot (holder-of (reading_of c.args.members.now) c.args.role c.args.run.row c.in-Some.slot (sym c.held_slot.ensures ∙ c.in-Some.is))).small

pub overflow_add-at : goal.overflow_add-at
overflow_add-at g c =
    let has = c.requires.rows.first.holders c.args.role c.in-Some.slot (holder-of (reading_of c.args.members.now) c.args.role c.args.run.row c.in-Some.slot (sym c.held_slot.ensures ∙ c.in-Some.is)) in
    omega (arith, has.short, has.within, c.data_offset.ensures, c.requires.rows.first.below)

pub read_sectors-requires-clause-place : goal.read_sectors-requires-clause-place
read_sectors-requires-clause-place g c =
    let has = c.requires.rows.first.holders c.args.role c.in-Some.slot (holder-of (reading_of c.args.members.now) c.args.role c.args.run.row c.in-Some.slot (sym c.held_slot.ensures ∙ c.in-Some.is)) in
    record {
      known = has.known;
      some = omega (arith, c.requires.rows.some);
      whole = omega arith;
      within = omega (arith, has.within, c.data_offset.ensures, c.requires.rows.below);
    }

pub with-requires : goal.with-requires
with-requires g c =
    (c.requires.rows.first.holders c.args.role c.in-Some.slot (holder-of (reading_of c.args.members.now) c.args.role c.args.run.row c.in-Some.slot (sym c.held_slot.ensures ∙ c.in-Some.is))).small

pub returns-in_default-clause-here : goal.returns-in_default-clause-here
returns-in_default-clause-here g c = λ told j lt.
    sectors_none (reading_of c.args.members.now) c.args.shape.now c.args.run c.args.role c.args.lost (present (g.B.Bank.given c.args.bank.now) (g.B.Bank.tape c.args.bank.now)) c.requires.rows.alike c.requires.role
    (sym c.held_slot.ensures ∙ c.in_default.is) j lt _

pub returns-then-contains-clause-here : goal.returns-then-contains-clause-here
returns-then-contains-clause-here g c = λ told j lt.
    sectors_lost (reading_of c.args.members.now) c.args.shape.now c.args.run c.args.role c.args.lost (present (g.B.Bank.given c.args.bank.now) (g.B.Bank.tape c.args.bank.now)) c.requires.rows.alike c.requires.role
    c.in-Some.slot (sym c.held_slot.ensures ∙ c.in-Some.is) (sym c.contains.ensures ∙ c.if-contains.true) j lt _

pub read_sectors-requires-clause-room : goal.read_sectors-requires-clause-room
read_sectors-requires-clause-room g c = run_room c.args.shape.now.disks c.args.run.at c.args.run.count _ c.args.role c.requires.room c.requires.role

pub returns-in-Ok-clause-here : goal.returns-in-Ok-clause-here
returns-in-Ok-clause-here g c = λ told j lt.
    let at : ℕ = c.data_offset.result + c.args.run.row in
    sectors_here (reading_of c.args.members.now) c.args.shape.now c.args.run c.args.role c.args.lost (present (g.B.Bank.given c.args.bank.now) (g.B.Bank.tape c.args.bank.now)) c.requires.rows.alike c.requires.role
    c.in-Some.slot (sym c.held_slot.ensures ∙ c.in-Some.is) at (ap (λ (x : ℕ). x + c.args.run.row) c.data_offset.ensures) j lt c.read_sectors.new.buffer (c.in-Ok.ensures.here told j lt)

pub returns-in-Ok-clause-others : goal.returns-in-Ok-clause-others
returns-in-Ok-clause-others g c = λ i other low ne.
    c.read_sectors.ensures.others (role_sectors * other + i) (apart_roles c.args.run.at c.args.run.count i c.args.role other c.requires.room.rows low ne)

pub returns-in-Ok-clause-outside : goal.returns-in-Ok-clause-outside
returns-in-Ok-clause-outside g c = λ i other low out.
    c.read_sectors.ensures.others (role_sectors * other + i) (apart_rows c.args.run.at c.args.run.count i c.args.role other c.requires.room.rows low out)

pub returns-in-Err-clause-here : goal.returns-in-Err-clause-here
returns-in-Err-clause-here g c = λ told j lt.
    sectors_lost (reading_of c.args.members.now) c.args.shape.now c.args.run c.args.role c.with.result (present (g.B.Bank.given c.args.bank.now) (g.B.Bank.tape c.args.bank.now)) c.requires.rows.alike c.requires.role
    c.in-Some.slot (sym c.held_slot.ensures ∙ c.in-Some.is)
    (c.with.ensures c.in-Some.slot ∙ or_right (has_slot c.args.lost c.in-Some.slot) (c.in-Some.slot == c.in-Some.slot) (equal c.in-Some.slot c.in-Some.slot refl)) j lt _

pub returns-in-Err-clause-others : goal.returns-in-Err-clause-others
returns-in-Err-clause-others g c = λ i other low ne.
    c.read_sectors.ensures.others (role_sectors * other + i) (apart_roles c.args.run.at c.args.run.count i c.args.role other c.requires.room.rows low ne)

pub returns-in-Err-clause-outside : goal.returns-in-Err-clause-outside
returns-in-Err-clause-outside g c = λ i other low out.
    c.read_sectors.ensures.others (role_sectors * other + i) (apart_rows c.args.run.at c.args.run.count i c.args.role other c.requires.room.rows low out)
