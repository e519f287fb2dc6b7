use Rattle.std.proofs.Common.{refl, sym, ◌∙◌, arith, lit<}
use Rattle.stripe_row.specs.Rows.{reading_of}
use Rattle.stripe_row.proofs.Losses.{holder-of}
use Rattle.stripe_row.proofs.read.read_role.Goals as goal

pub held_slot-requires-clause-small : goal.held_slot-requires-clause-small
held_slot-requires-clause-small g c = λ slot is. (c.requires.row.holders c.args.role slot is).small

pub contains-requires : goal.contains-requires
contains-requires g c =
    (c.requires.row.holders c.args.role c.in-Some.slot (holder-of (reading_of c.args.members.now) c.args.role c.args.row c.in-Some.slot (sym c.held_slot.ensures ∙ c.in-Some.is))).small

pub data_offset-requires : goal.data_offset-requires
data_offset-requires g c =
    (c.requires.row.holders c.args.role c.in-Some.slot (holder-of (reading_of c.args.members.now) c.args.role c.args.row c.in-Some.slot (sym c.held_slot.ensures ∙ c.in-Some.is))).small

pub overflow_add-at : goal.overflow_add-at
overflow_add-at g c =
    let has = c.requires.row.holders c.args.role c.in-Some.slot (holder-of (reading_of c.args.members.now) c.args.role c.args.row c.in-Some.slot (sym c.held_slot.ensures ∙ c.in-Some.is)) in
    omega (arith, has.short, has.within, c.data_offset.ensures, c.requires.row.below)

pub read_into-requires-clause-place : goal.read_into-requires-clause-place
read_into-requires-clause-place g c =
    let has = c.requires.row.holders c.args.role c.in-Some.slot (holder-of (reading_of c.args.members.now) c.args.role c.args.row c.in-Some.slot (sym c.held_slot.ensures ∙ c.in-Some.is)) in
    record {
      known = has.known;
      some = lit< tt;
      whole = refl;
      within = omega (arith, has.within, c.data_offset.ensures, c.requires.row.below);
    }

pub with-requires : goal.with-requires
with-requires g c =
    (c.requires.row.holders c.args.role c.in-Some.slot (holder-of (reading_of c.args.members.now) c.args.role c.args.row c.in-Some.slot (sym c.held_slot.ensures ∙ c.in-Some.is))).small
