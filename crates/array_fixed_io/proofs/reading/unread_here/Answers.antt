use Rattle.std.proofs.Common.{◌≤◌, ◌+◌, ◌*◌, ℕ, refl, sym, ◌∙◌, ap₂, subst, arith}
use Rattle.array_type.specs.raid_types_the_Shape.{Shape}
use Rattle.array_type.specs.raid_types_Shapes.{data_disks}
use Rattle.array_type.specs.sb_specs_Reading.{shape_of}
use Rattle.array_type.specs.array_members_Lacking.{synced_rows}
use Rattle.array_type.specs.sb_safe_updates_First.{read_refusal}
use Rattle.array_type.proofs.array_state_FirstLaws.{short-list, past-is, within-is, read-judged}
use Rattle.array_type.specs.array_specs_Parts.{visible_size}
use Rattle.array_type.proofs.array_fixed_laws_Reading.{visible-still}
use Rattle.array_fixed_io.proofs.reading.unread_here.Goals as goal

pub returns-then-sectors-at-clause-first : goal.returns-then-sectors-at-clause-first
returns-then-sectors-at-clause-first c =
    past-is c.visible_of-sectors.result _ _ _ (visible-still c.args.members.now c.args.limit c.visible-size.result c.visible_of-sectors.result c.requires.still c.visible-size.ensures c.visible_of-sectors.ensures.value)
    c.if-sectors-at.true

pub returns-then-sectors-at-clause-why : goal.returns-then-sectors-at-clause-why
returns-then-sectors-at-clause-why c =
    let same = visible-still c.args.members.now c.args.limit c.visible-size.result c.visible_of-sectors.result c.requires.still c.visible-size.ensures c.visible_of-sectors.ensures.value in
    (same, (let past = c.if-sectors-at.true in omega (arith, same, past)), refl)

pub first_read_refusal-requires-clause-within : goal.first_read_refusal-requires-clause-within
first_read_refusal-requires-clause-within c =
    let m = c.args.members.now in
    let within : c.args.at + c.args.count ≤ data_disks (shape_of m.newest) * m.newest.size = omega (arith, c.visible-size.ensures, c.visible_of-sectors.ensures.within, c.if-sectors-at.false) in
    subst (λ (s : Shape). c.args.at + c.args.count ≤ data_disks s * m.newest.size) (sym c.shape_in.ensures) within

pub first_read_refusal-requires-clause-short : goal.first_read_refusal-requires-clause-short
first_read_refusal-requires-clause-short c =
    let m = c.args.members.now in
    let few = short-list (shape_of m.newest) m.newest.size c.requires.shape c.requires.size in
    omega (arith, c.visible-size.ensures, c.visible_of-sectors.ensures.within, few, c.if-sectors-at.false)

pub returns-clause-first : goal.returns-clause-first
returns-clause-first c =
    let m = c.args.members.now in
    let to = c.args.at + c.args.count in
    let same = visible-still m c.args.limit c.visible-size.result c.visible_of-sectors.result c.requires.still c.visible-size.ensures c.visible_of-sectors.ensures.value in
    let within : to ≤ visible_size m c.args.limit = omega (arith, same, c.if-sectors-at.false) in
    within-is (visible_size m c.args.limit) to c.first_read_refusal.result (read_refusal (shape_of m.newest) (synced_rows c.args.resync m) c.args.at c.args.count m) within
    (c.first_read_refusal.ensures ∙ ap₂ (λ (s : Shape) (n : ℕ). read_refusal s n c.args.at c.args.count m) c.shape_in.ensures c.synced_rows-mended.ensures.rows)

pub returns-clause-why : goal.returns-clause-why
returns-clause-why c =
    let m = c.args.members.now in
    let to = c.args.at + c.args.count in
    let same = visible-still m c.args.limit c.visible-size.result c.visible_of-sectors.result c.requires.still c.visible-size.ensures c.visible_of-sectors.ensures.value in
    let within : to ≤ visible_size m c.args.limit = omega (arith, same, c.if-sectors-at.false) in
    read-judged (shape_of m.newest) (visible_size m c.args.limit) to (synced_rows c.args.resync m) c.args.at c.args.count m c.first_read_refusal.result within
    (c.first_read_refusal.ensures ∙ ap₂ (λ (s : Shape) (n : ℕ). read_refusal s n c.args.at c.args.count m) c.shape_in.ensures c.synced_rows-mended.ensures.rows)
