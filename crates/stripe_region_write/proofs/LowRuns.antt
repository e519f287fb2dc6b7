-- A run that touches a row of the stripes below the position is of their shape.
use Rattle.std.proofs.Common.{◌≡◌, ℕ, ◌*◌, ◌/◌, ◌<◌, if◌then◌else◌, sym, ◌∙◌, ap, arith}
use Rattle.std.proofs.lemmas.Nat.{div_below}
use Rattle.stripe_region_read.specs.raid_types_the_Shape.{Shape}
use Rattle.stripe_region_read.specs.raid_types_Shapes.{data_disks, stripe_sectors}
use Rattle.stripe_region_read.specs.sb_codec_the_Sb.{Sb}
use Rattle.stripe_region_read.specs.raid_layout_Layout.{place}
use Rattle.stripe_region_read.proofs.raid_layout_Places.{chunk_some}
use Rattle.stripe_region_read.specs.reshape_geometry_Geometry.{ceiling}
use Rattle.stripe_region_read.proofs.reshape_geometry_Divisions.{quotient}
use Rattle.stripe_region_read.specs.sb_specs_Reading.{shape_of, list_length}
use Rattle.stripe_region_read.specs.history_Stands.{shape_for}
use Rattle.stripe_region_read.specs.crash_views_Regions.{AreShapesFit, place_by}
use Rattle.stripe_region_read.specs.array_members_Placed.{HaveSameReshape}
use Rattle.stripe_region_read.proofs.array_members_Fit.{for-alike}
use Rattle.stripe_region_read.proofs.array_members_Stripes.{of_stripe-touched}
use Rattle.stripe_region_write.specs.declared.runs.Run.{Run}
use Rattle.stripe_region_write.specs.Runs.{IsRun}
use Rattle.stripe_region_write.specs.Ends.{low_end, low_shape, low_stripes}
use Rattle.stripe_region_write.proofs.Together.{rows-together, together-shape}
use Rattle.stripe_region_write.proofs.RunLaws.{IsRunRow, run-sector}
use Rattle.stripe_region_write.proofs.Sides.{low-valid, low-fits, low-own, low-before}

turned : (d c q : ℕ) → q * (d * c) ≡ q * (c * d)
turned d c q = omega arith

-- each sector of the list in such a row is placed by it
pub low-rows : (newest : Sb) → AreShapesFit newest → (row y : ℕ) → row < low_stripes newest * (low_shape newest).chunk → y < list_length newest → (place_by newest y).row ≡ row → shape_for newest y ≡ low_shape newest
low-rows newest fit row y under y-in at =
    let shape = low_shape newest in
    let valid = low-valid newest fit in
    let some = chunk_some (low_shape newest) valid in
    let k : ℕ = row / (low_shape newest).chunk in
    let low : k < low_stripes newest = div_below row (low_shape newest).chunk (low_stripes newest) some under in
    let near = quotient row (low_shape newest).chunk some in
    let touch = of_stripe-touched (low_shape newest) valid k 0 (low_shape newest).chunk (omega arith) row (let from = near.0 in omega (arith, from)) (let to = near.1 in omega (arith, to)) in
    let before = low-before newest fit k low in
    let fits = low-fits newest fit in
    let stripes = turned (data_disks (low_shape newest)) (low_shape newest).chunk k in
    let end = touch.2 in
    let z-low : touch.0 < low_end newest = omega (arith, end, stripes, before) in
    let own = low-own newest fit touch.0 z-low in
    let z-in : touch.0 < list_length newest = omega (arith, z-low, fits) in
    together-shape newest touch.0 y (rows-together newest fit touch.0 y z-in y-in (ap (λ (s : Shape). (place s touch.0).row) own ∙ touch.3 ∙ sym at)) ∙ own

pub low-run : (newest : Sb) (fit : AreShapesFit newest) (run : Run) (is : IsRun newest run) (row : ℕ) → row < low_stripes newest * (low_shape newest).chunk → IsRunRow run row → run.shape ≡ low_shape newest
low-run newest fit run is row under touch =
    let t = run-sector newest fit run is row touch in
    let t-in : t.0 < list_length newest = (let end = t.2 in let within = is.within in omega (arith, end, within)) in
    sym (is.one t.0 t.1 t.2) ∙ low-rows newest fit row t.0 under t-in t.3

-- superblocks that say the same have as many of these stripes
module _ (old new : Sb) (reshape : HaveSameReshape old new) (shape : shape_of new ≡ shape_of old) (size : new.size ≡ old.size) where
  pub end-alike : low_end new ≡ low_end old
  end-alike i = if reshape.reshaping i then reshape.position i else 0

  pub low-alike : low_shape new ≡ low_shape old
  low-alike = for-alike old new reshape shape size 0

  pub low-stripes-alike : low_stripes new ≡ low_stripes old
  low-stripes-alike i = ceiling (end-alike i) (stripe_sectors (low-alike i))
