use Rattle.std.proofs.Common.{◌≡◌, ◌/◌, ◌*◌, ◌<◌, nat_le, Bool, true, false, if◌then◌else◌, ℕ, ap, sym, ◌∙◌, subst, arith}
use Rattle.std.proofs.lemmas.Bool.Decides.{nat_tests}
use Rattle.stripe_io.specs.raid_types_Shapes.{is_multiple, stripe_sectors}
use Rattle.stripe_io.specs.raid_types_the_Shape.{Shape}
use Rattle.stripe_io.specs.sb_codec_the_Sb.{Sb}
use Rattle.stripe_io.specs.sb_specs_Reading.{list_length}
use Rattle.stripe_io.proofs.array_members_Fit.{fit-short}
use Rattle.stripe_region_read.specs.Stretches.{relied_rows}
use Rattle.stripe_region_read.proofs.StretchLaws.{relied-within, relied-stripes}
use Rattle.stripe_region_read.proofs.stretches.relied_rows.Goals as goal

-- what is left where the list isn't relied on to its end
rows-are : (newest : Sb) (shape : Shape) (relied stripe length : ℕ) → stripe ≡ stripe_sectors shape → length ≡ list_length newest → relied < length → relied / stripe * shape.chunk ≡ relied_rows newest relied shape
rows-are newest shape relied stripe length same long short =
    ap (λ (k : ℕ). relied / k * shape.chunk) same
    ∙ ap (λ (b : Bool). if b then newest.size else relied / stripe_sectors shape * shape.chunk) (sym (below relied (list_length newest) (subst (λ (n : ℕ). relied < n) long short)))
  where
    below : (a b : ℕ) → a < b → nat_le b a ≡ false
    below a b lt = grind (arith, nat_tests, lt)

pub overflow_mul-result : goal.overflow_mul-result
overflow_mul-result c =
    let newest = c.args.members.now.newest in
    let rows = rows-are newest c.args.shape.now c.args.relied c.stripe_sectors.result c.list_length.result c.stripe_sectors.ensures.value c.list_length.ensures c.if-relied-list_length.false in
    let within = relied-within newest c.requires.fit c.args.shape.now c.requires.shape c.args.relied in
    let short = fit-short newest c.requires.fit in
    omega (arith, rows, within, short)

pub returns-clause-rows : goal.returns-clause-rows
returns-clause-rows c = rows-are c.args.members.now.newest c.args.shape.now c.args.relied c.stripe_sectors.result c.list_length.result c.stripe_sectors.ensures.value c.list_length.ensures c.if-relied-list_length.false

pub returns-clause-within : goal.returns-clause-within
returns-clause-within c =
    let newest = c.args.members.now.newest in
    let rows = rows-are newest c.args.shape.now c.args.relied c.stripe_sectors.result c.list_length.result c.stripe_sectors.ensures.value c.list_length.ensures c.if-relied-list_length.false in
    let within = relied-within newest c.requires.fit c.args.shape.now c.requires.shape c.args.relied in
    omega (arith, rows, within)

pub returns-clause-stripes : goal.returns-clause-stripes
returns-clause-stripes c =
    let newest = c.args.members.now.newest in
    let rows = rows-are newest c.args.shape.now c.args.relied c.stripe_sectors.result c.list_length.result c.stripe_sectors.ensures.value c.list_length.ensures c.if-relied-list_length.false in
    subst (λ (n : ℕ). is_multiple n c.args.shape.now.chunk ≡ true) (sym rows) (relied-stripes newest c.requires.fit c.args.shape.now c.requires.shape c.args.relied)
