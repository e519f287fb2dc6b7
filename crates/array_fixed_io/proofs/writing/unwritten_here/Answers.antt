use Rattle.std.proofs.Common.{◌≤◌, ◌+◌, Bool, refl, ◌∙◌, ap, ap₂, arith}
use Rattle.array_type.specs.raid_types_the_Shape.{Shape}
use Rattle.array_type.specs.sb_specs_Reading.{shape_of}
use Rattle.array_type.specs.array_members_Lacking.{are_synced, synced_rows}
use Rattle.array_type.specs.sb_safe_updates_First.{write_refusal}
use Rattle.array_type.proofs.array_state_FirstLaws.{past-is, within-is, write-judged}
use Rattle.array_type.specs.array_specs_Parts.{visible_size}
use Rattle.array_type.proofs.array_fixed_laws_Reading.{visible-still}
use Rattle.array_fixed_io.proofs.writing.unwritten_here.Goals as goal

pub returns-then-sectors-at-clause-first : goal.returns-then-sectors-at-clause-first
returns-then-sectors-at-clause-first c =
    past-is c.visible_of-sectors.result _ _ _ (visible-still c.args.members.now c.args.limit c.visible-size.result c.visible_of-sectors.result c.requires.still c.visible-size.ensures c.visible_of-sectors.ensures.value)
    c.if-sectors-at.true

pub returns-then-sectors-at-clause-why : goal.returns-then-sectors-at-clause-why
returns-then-sectors-at-clause-why c =
    let same = visible-still c.args.members.now c.args.limit c.visible-size.result c.visible_of-sectors.result c.requires.still c.visible-size.ensures c.visible_of-sectors.ensures.value in
    (same, (let past = c.if-sectors-at.true in omega (arith, same, past)), refl)

pub returns-clause-first : goal.returns-clause-first
returns-clause-first c =
    let m = c.args.members.now in
    let to = c.args.at + c.args.count in
    let mended = synced_rows c.args.resync m in
    let asked = are_synced (shape_of m.newest) mended to in
    let seen = visible-still m c.args.limit c.visible-size.result c.visible_of-sectors.result c.requires.still c.visible-size.ensures c.visible_of-sectors.ensures.value in
    let within : to ≤ visible_size m c.args.limit = omega (arith, seen, c.if-sectors-at.false) in
    let same = c.are_synced.ensures ∙ ap (λ (s : Shape). are_synced s mended to) c.shape_in-shape.ensures in
    within-is (visible_size m c.args.limit) to c.first_write_refusal.result (write_refusal (shape_of m.newest) asked m) within
    (c.first_write_refusal.ensures ∙ ap₂ (λ (s : Shape) (b : Bool). write_refusal s b m) c.shape_in-shape.ensures same)

pub returns-clause-why : goal.returns-clause-why
returns-clause-why c =
    let m = c.args.members.now in
    let to = c.args.at + c.args.count in
    let mended = synced_rows c.args.resync m in
    let asked = are_synced (shape_of m.newest) mended to in
    let seen = visible-still m c.args.limit c.visible-size.result c.visible_of-sectors.result c.requires.still c.visible-size.ensures c.visible_of-sectors.ensures.value in
    let within : to ≤ visible_size m c.args.limit = omega (arith, seen, c.if-sectors-at.false) in
    let same = c.are_synced.ensures ∙ ap (λ (s : Shape). are_synced s mended to) c.shape_in-shape.ensures in
    write-judged (shape_of m.newest) (visible_size m c.args.limit) to asked m c.first_write_refusal.result within
    (c.first_write_refusal.ensures ∙ ap₂ (λ (s : Shape) (b : Bool). write_refusal s b m) c.shape_in-shape.ensures same)
