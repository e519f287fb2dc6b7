use Rattle.std.proofs.Common.{◌≡◌, ℕ, ◌+◌, [], Some, append-nil, ◌==◌, refl, sym, ap, ◌∙◌, arith, lit<}
use Rattle.sb_specs.specs.raid_types_Shapes.{has_slot}
use Rattle.sb_specs.specs.Reading.{role_state, holder}
use Rattle.stripe_row.specs.Rows.{reading_of}
use Rattle.raid_parity_simd.specs.raid_parity_Rows.{sector_of}
use Rattle.stripe_row.specs.Writes.{slot_in, place_on}
use Rattle.stripe_row.proofs.Lacks.{or_right, equal}
use Rattle.stripe_row.proofs.Losses.{chosen}
use Rattle.stripe_row.proofs.Turns.{turn_skipped, turn_failed}
use Rattle.stripe_row.proofs.write.write_role.Goals as goal

pub contains-requires-2 : goal.contains-requires-2
contains-requires-2 g c = (c.requires.row.holders c.args.role c.in-Some.slot (sym c.holder_of.ensures ∙ c.in-Some.is)).small

pub returns-then-contains-clause-tape : goal.returns-then-contains-clause-tape
returns-then-contains-clause-tape g c = λ told.
    let r = reading_of c.args.members.now in
    let due : slot_in r c.args.due c.args.role ≡ Some c.in-Some.slot = chosen (has_slot c.args.due c.args.role) (holder (role_state r c.args.role)) c.in-Some.slot
    (sym c.contains.ensures ∙ c.if-not-contains.false) (sym c.holder_of.ensures ∙ c.in-Some.is) in (
      [],
      sym (append-nil (g.B.Bank.tape c.args.bank.now)),
      turn_skipped (slot_in r c.args.due c.args.role) (place_on r c.args.row) (sector_of c.args.bytes.now c.args.role) c.args.lost c.in-Some.slot due (sym c.contains-2.ensures ∙ c.if-contains.true),
    )

pub data_offset-requires : goal.data_offset-requires
data_offset-requires g c = (c.requires.row.holders c.args.role c.in-Some.slot (sym c.holder_of.ensures ∙ c.in-Some.is)).small

pub overflow_add-at : goal.overflow_add-at
overflow_add-at g c =
    let has = c.requires.row.holders c.args.role c.in-Some.slot (sym c.holder_of.ensures ∙ c.in-Some.is) in
    omega (arith, has.short, has.within, c.data_offset.ensures, c.requires.row.below)

pub write_sector-requires-clause-place : goal.write_sector-requires-clause-place
write_sector-requires-clause-place g c =
    let has = c.requires.row.holders c.args.role c.in-Some.slot (sym c.holder_of.ensures ∙ c.in-Some.is) in
    record {
      known = has.known;
      some = lit< tt;
      whole = refl;
      within = omega (arith, has.within, c.data_offset.ensures, c.requires.row.below);
    }

pub with-requires : goal.with-requires
with-requires g c = (c.requires.row.holders c.args.role c.in-Some.slot (sym c.holder_of.ensures ∙ c.in-Some.is)).small

pub returns-in-Err-clause-tape : goal.returns-in-Err-clause-tape
returns-in-Err-clause-tape g c = λ told.
    let r = reading_of c.args.members.now in
    let slot = c.in-Some.slot in
    let due : slot_in r c.args.due c.args.role ≡ Some slot = chosen (has_slot c.args.due c.args.role) (holder (role_state r c.args.role)) slot
    (sym c.contains.ensures ∙ c.if-not-contains.false) (sym c.holder_of.ensures ∙ c.in-Some.is) in
    let did = c.write_sector.ensures.did.some told in
    turn_failed (slot_in r c.args.due c.args.role) (place_on r c.args.row) (sector_of c.args.bytes.now c.args.role) c.args.lost c.with.result slot (c.data_offset.result + c.args.row) did.0
    (g.B.Bank.tape c.args.bank.now) (g.B.Bank.tape c.write_sector.new.bank) due (ap (λ (x : ℕ). x + c.args.row) c.data_offset.ensures) (sym c.contains-2.ensures ∙ c.if-contains.false)
    (c.with.ensures slot ∙ or_right (has_slot c.args.lost slot) (slot == slot) (equal slot slot refl)) did.1
