use Rattle.std.proofs.Common.{◌≤◌, ◌+◌, Bool, refl, ◌∙◌, ap, ap₂, arith}
use Rattle.stripe_io.specs.raid_types_the_Shape.{Shape}
use Rattle.stripe_io.specs.sb_specs_Reading.{shape_of}
use Rattle.sb_add_spare.specs.array_members_Whole.{list_size}
use Rattle.sb_add_spare.specs.array_members_Placed.{places_of}
use Rattle.sb_add_spare.specs.array_members_Lacking.{are_synced, synced_rows}
use Rattle.sb_add_spare.specs.sb_safe_updates_First.{write_refusal}
use Rattle.array_state.proofs.FirstLaws.{past-is, within-is, write-judged}
use Rattle.array_state.proofs.refusing.first_write_refusal_from.Goals as goal

pub returns-then-end-at-clause-first : goal.returns-then-end-at-clause-first
returns-then-end-at-clause-first c = past-is c.visible-end.result _ _ _ c.visible-end.ensures c.if-end-at.true

pub returns-then-end-at-clause-why : goal.returns-then-end-at-clause-why
returns-then-end-at-clause-why c = (c.visible-end.ensures, (let same = c.visible-end.ensures in let past = c.if-end-at.true in omega (arith, same, past)), refl)

pub returns-clause-first : goal.returns-clause-first
returns-clause-first c =
    let m = c.args.members.now in
    let to = c.args.at + c.args.count in
    let mended = synced_rows c.args.resync m in
    let asked = are_synced (shape_of m.newest) mended to in
    let within : to ≤ list_size (places_of m) = omega (arith, c.visible-end.ensures, c.if-end-at.false) in
    let same = c.are_synced.ensures ∙ ap (λ (s : Shape). are_synced s mended to) c.shape_in-shape.ensures in
    within-is (list_size (places_of m)) to c.first_write_refusal.result (write_refusal (shape_of m.newest) asked m) within
    (c.first_write_refusal.ensures ∙ ap₂ (λ (s : Shape) (b : Bool). write_refusal s b m) c.shape_in-shape.ensures same)

pub returns-clause-why : goal.returns-clause-why
returns-clause-why c =
    let m = c.args.members.now in
    let to = c.args.at + c.args.count in
    let mended = synced_rows c.args.resync m in
    let asked = are_synced (shape_of m.newest) mended to in
    let within : to ≤ list_size (places_of m) = omega (arith, c.visible-end.ensures, c.if-end-at.false) in
    let same = c.are_synced.ensures ∙ ap (λ (s : Shape). are_synced s mended to) c.shape_in-shape.ensures in
    write-judged (shape_of m.newest) (list_size (places_of m)) to asked m c.first_write_refusal.result within
    (c.first_write_refusal.ensures ∙ ap₂ (λ (s : Shape) (b : Bool). write_refusal s b m) c.shape_in-shape.ensures same)
