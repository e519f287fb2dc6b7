use Rattle.std.proofs.Common.{◌≡◌, ◌*◌, ◌≤◌, ℕ, IfSome, Option, ap, sym, subst, arith, true}
use Rattle.sb_safe_updates.specs.raid_types_Shapes.{is_multiple}
use Rattle.sb_safe_updates.specs.raid_types_the_Shape.{Shape}
use Rattle.sb_safe_updates.proofs.raid_layout_Places.{chunk_some}
use Rattle.sb_safe_updates.specs.sb_specs_Reading.{shape_of}
use Rattle.sb_safe_updates.specs.array_members_Status.{stripes_of}
use Rattle.sb_safe_updates.proofs.array_members_Stripes.{stripes-multiple, stripes-within}
use Rattle.stripe_io.proofs.mending.synced_rows.Goals as goal

pub overflow_mul-result : goal.overflow_mul-result
overflow_mul-result c =
    let m = c.args.members.now in
    let few = subst (λ (o : Option ℕ). IfSome o (λ mended. mended ≤ stripes_of m)) c.in-Some.is c.requires.progress in
    let within = stripes-within m.newest.size (shape_of m.newest).chunk c.in-Some.mended c.requires.multiple few in
    let same = ap (λ (s : Shape). c.in-Some.mended * s.chunk) c.shape_in.ensures in
    omega (arith, within, same)

pub returns-in-Some-clause-stripes : goal.returns-in-Some-clause-stripes
returns-in-Some-clause-stripes c =
    let shape = shape_of c.args.members.now.newest in
    subst (λ (s : Shape). is_multiple (c.in-Some.mended * s.chunk) shape.chunk ≡ true) (sym c.shape_in.ensures) (stripes-multiple c.in-Some.mended shape.chunk (chunk_some shape c.requires.shape))
