use Rattle.std.proofs.Common.{◌≡◌, ◌+◌, ◌-◌, ◌*◌, ◌/◌, ◌≤◌, ℕ, length, min, sym, subst, arith}
use Rattle.std.proofs.Math.Nat.{mul-le-mul_right}
use Rattle.raid_layout.specs.raid_types_the_Shape.{Shape}
use Rattle.raid_layout.specs.raid_types_Shapes.{data_disks}
use Rattle.raid_layout.proofs.Limits.{limited}
use Rattle.reshape_begin_end.specs.raid_parity_Rows.{sector_of}
use Rattle.reshape_begin_end.specs.sb_specs_Reading.{shape_of, final_shape}
use Rattle.reshape_begin_end.specs.stripe_row_Rows.{present, reading_of}
use Rattle.reshape_begin_end.proofs.stripe_row_RowBytes.{on_ok}
use Rattle.reshape_begin_end.specs.stripe_list_Calls.{IsListed}
use Rattle.reshape_window_rows.specs.Copies.{AreLackingGood}
use Rattle.reshape_window_rows.proofs.ReadLaws.{the-window, window-read}
use Rattle.reshape_window_rows.proofs.reads.read_window.Goals as goal

pub read_list-requires-clause-into : goal.read_list-requires-clause-into
read_list-requires-clause-into g c = omega (arith, c.requires.buffer)

pub read_list-requires-clause-within : goal.read_list-requires-clause-within
read_list-requires-clause-within g c =
    let m = c.args.members.now in
    let w = the-window m m c.requires.fit c.args.span.now c.requires.next in
    let order = w.order in
    let inside = w.inside in
    let few : min (data_disks (shape_of m.newest)) (data_disks (final_shape m.newest)) * m.newest.size ≤ data_disks (shape_of m.newest) * m.newest.size = mul-le-mul_right m.newest.size (omega arith) in
    subst (λ (s : Shape). c.args.span.now.lo + length c.args.buffer.now / 512 ≤ data_disks s * m.newest.size) (sym c.requires.shape) (omega (arith, c.requires.buffer, order, inside, few))

pub read_list-requires-clause-short : goal.read_list-requires-clause-short
read_list-requires-clause-short g c =
    let m = c.args.members.now in
    let w = the-window m m c.requires.fit c.args.span.now c.requires.next in
    let order = w.order in
    let inside = w.inside in
    let most = (limited (shape_of m.newest) c.requires.fit.valid.old).most in
    let few : min (data_disks (shape_of m.newest)) (data_disks (final_shape m.newest)) * m.newest.size ≤ 16 * m.newest.size = mul-le-mul_right m.newest.size (omega (arith, most)) in
    omega (arith, c.requires.buffer, order, inside, few, c.requires.rows.short)

pub returns-clause-sectors : goal.returns-clause-sectors
returns-clause-sectors g c = on_ok c.read_list.result.answer (λ each told list stands good x inside.
    let span = c.args.span.now in
    let before = present (g.B.Bank.given c.args.bank.now) (g.B.Bank.tape c.args.bank.now) in
    let old = c.args.members.now in
    let new = c.read_list.new.members in
    let index : ℕ = x - span.lo in
    let low = inside.0 in
    let high = inside.1 in
    let sector = sector_of c.read_list.new.into index in
    let there : span.lo + index ≡ x = omega (arith, low) in
    let listed : IsListed (shape_of old.newest) c.args.synced (reading_of old) (reading_of new) before x sector =
    subst (λ (s : Shape). IsListed s c.args.synced (reading_of old) (reading_of new) before x sector) c.requires.shape
    (subst (λ (k : ℕ). IsListed c.args.shape.now c.args.synced (reading_of old) (reading_of new) before k sector) there
    (each told index (omega (arith, c.requires.buffer, low, high)))) in
    window-read old new c.requires.fit span c.requires.next before list stands c.args.synced x sector inside listed
    (λ clean. subst (λ (s : Shape). AreLackingGood (reading_of old) (reading_of new) before s span list) c.requires.shape (good clean))) c.read_list.ensures.sectors
