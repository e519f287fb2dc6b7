-- What stands behind the list's end in the last stripe below the position: where the list doesn't end there it is nothing, and forward it is the tail.
use Rattle.std.proofs.Common.{◌≡◌, inl, inr, ℕ, zero, suc, ◌+◌, ◌-◌, ◌*◌, ◌<◌, ◌≤◌, nat_lt, Bool, true, false, if◌then◌else◌, Some, sym, ◌∙◌, ap, subst, arith}
use Rattle.std.proofs.lemmas.Bool.Decides.{nat_tests}
use Rattle.reshape_progress.specs.raid_types_the_Shape.{Shape}
use Rattle.reshape_progress.specs.raid_types_the_Side_TheVariants.{Old, New}
use Rattle.reshape_progress.specs.raid_types_Shapes.{is_valid_shape, data_disks, stripe_sectors}
use Rattle.reshape_progress.specs.sb_codec_the_Sb.{Sb}
use Rattle.reshape_progress.specs.raid_layout_Layout.{place, stripe_of}
use Rattle.reshape_progress.proofs.raid_layout_Places.{chunk_some, stripe_of-row}
use Rattle.reshape_progress.specs.reshape_geometry_Geometry.{side}
use Rattle.reshape_progress.proofs.reshape_geometry_Divisions.{quotient_is}
use Rattle.reshape_progress.specs.sb_specs_Reading.{is_reshaping, is_backward, final_shape, list_length, data_offset_of}
use Rattle.reshape_progress.specs.stripe_row_Rows.{reading_of, held_slot}
use Rattle.reshape_progress.specs.crash_views_Regions.{AreShapesFit}
use Rattle.reshape_progress.specs.crash_views_Views.{IsTail}
use Rattle.reshape_progress.proofs.crash_views_UnderWay.{shape-on}
use Rattle.reshape_progress.specs.array_members_Lacking.{IsOfStripe}
use Rattle.reshape_progress.proofs.array_members_Stripes.{sector-in_stripes}
use Rattle.stripe_region_resync.specs.Mends.{low_shape, low_stripes}
use Rattle.stripe_region_resync.proofs.stripe_region_write_Sides.{low-valid, low-is, low-fits, low-ends, low-before, low-reach}
use Rattle.stripe_region_resync.proofs.StripeRows.{in-stripe}
use Rattle.reshape_progress_resync_laws.specs.Mended.{TailsAreEnds}

turn : (d c q : ℕ) → d * (q * c) ≡ q * (c * d)
turn d c q = omega arith

-- where a row lies in a stripe, so does the sector
stripe-is : (shape : Shape) (valid : is_valid_shape shape ≡ true) (k x : ℕ) → IsOfStripe shape k (place shape x).row → stripe_of shape x ≡ k
stripe-is shape valid k x at =
    let low = at.0 in
    let high = at.1 in
    let more = one-more k shape.chunk in
    sym (stripe_of-row shape valid x) ∙ quotient_is (place shape x).row shape.chunk k (chunk_some shape valid) low (omega (arith, high, more))
  where
    one-more : (k s : ℕ) → (k + 1) * s ≡ k * s + s
    one-more k s = omega arith

module _ (newest : Sb) (fit : AreShapesFit newest) (active : is_reshaping newest ≡ true) (x : ℕ) (past : list_length newest ≤ x) (under : (place (low_shape newest) x).row < low_stripes newest * (low_shape newest).chunk) where
  near : x < low_stripes newest * stripe_sectors (low_shape newest)
  near =
      let turned = turn (data_disks (low_shape newest)) (low_shape newest).chunk (low_stripes newest) in
      let below = sector-in_stripes (low_shape newest) (low-valid newest fit) x (low_stripes newest) under in
      omega (arith, turned, below)

  -- the list ends at the position
  ended : newest.reshape_position ≡ list_length newest
  ended = elim (low-ends newest fit) [
    | inl whole ↦ absurd (let here = near in let fits = low-fits newest fit in omega (arith, here, whole, fits, past))
    | inr last ↦ sym (low-is newest fit active) ∙ last
  ]

  -- before the end of the list, nothing is there
  pub none-ends : newest.reshape_position < list_length newest → ⊥
  none-ends before = absurd (let end = ended in omega (arith, end, before))

  -- forward, it is a tail
  module _ (forth : is_backward newest ≡ false) where
    more : low_stripes newest ≡ low_stripes newest - 1 + 1
    more = elim-some (low_stripes newest) near
      where
        elim-some : (n : ℕ) → x < n * stripe_sectors (low_shape newest) → n ≡ n - 1 + 1
        elim-some n lt = some n (none n lt)
          where
            some : (n : ℕ) → 0 < n → n ≡ n - 1 + 1
            some n lt = omega (arith, lt)

            none : (n : ℕ) → x < n * stripe_sectors (low_shape newest) → 0 < n
            none zero lt = absurd (let no : 0 * stripe_sectors (low_shape newest) ≡ 0 = omega arith in omega (arith, lt, no))
            none (suc m) lt = omega arith

    times : low_stripes newest * stripe_sectors (low_shape newest) ≡ (low_stripes newest - 1) * stripe_sectors (low_shape newest) + stripe_sectors (low_shape newest)
    times = ap (λ (n : ℕ). n * stripe_sectors (low_shape newest)) more ∙ one-more (low_stripes newest - 1) (stripe_sectors (low_shape newest))
      where
        one-more : (k s : ℕ) → (k + 1) * s ≡ k * s + s
        one-more k s = omega arith

    first-below : (low_stripes newest - 1) * stripe_sectors (low_shape newest) + (low_shape newest).chunk ≤ list_length newest
    first-below = let all = more in let before = low-before newest fit (low_stripes newest - 1) (omega (arith, all)) in let same = low-is newest fit active in let end = ended in omega (arith, before, same, end)

    some : 0 < (low_shape newest).chunk
    some = chunk_some (low_shape newest) (low-valid newest fit)

    pub is-new : low_shape newest ≡ final_shape newest
    is-new =
        shape-on newest active 0 New
        (ap (λ (b : Bool). side b newest.reshape_position 0) forth
        ∙ ap (λ (b : Bool). if b then New else Old) (lt-is 0 newest.reshape_position (let below = first-below in let chunk = some in let end = ended in omega (arith, below, chunk, end))))
      where
        lt-is : (a b : ℕ) → a < b → nat_lt a b ≡ true
        lt-is a b lt = grind (arith, nat_tests, lt)

    pub tail-there : IsTail newest x
    tail-there = record {
      active = active;
      forth = forth;
      through = ended;
      past = past;
      stripe = subst (λ (s : Shape). stripe_of s x ≡ stripe_of s (list_length newest - 1)) is-new
          (stripe-is (low_shape newest) (low-valid newest fit) (low_stripes newest - 1) x
          (in-stripe (low_shape newest) (low-valid newest fit) (low_stripes newest - 1) x
          (let below = first-below in omega (arith, below, past)) (let here = near in let all = times in omega (arith, here, all)))
          ∙ sym (stripe-is (low_shape newest) (low-valid newest fit) (low_stripes newest - 1) (list_length newest - 1)
          (in-stripe (low_shape newest) (low-valid newest fit) (low_stripes newest - 1) (list_length newest - 1)
          (let below = first-below in let chunk = some in omega (arith, below, chunk))
          (let reach = low-reach newest fit in let all = times in let below = first-below in let chunk = some in let same = low-is newest fit active in let end = ended in omega (arith, reach, all, below, chunk, same, end)))));
    }

pub tails-are-ends : TailsAreEnds
tails-are-ends m c list fit active (inr before) tail x slot past under held = absurd (none-ends m.newest fit active x past under before)
tails-are-ends m c list fit active (inl forth) tail x slot past under held =
    subst (λ (s : Shape). held_slot (reading_of m) (place s x).role (place s x).row ≡ Some slot → c slot (data_offset_of (reading_of m) slot + (place s x).row) ≡ list x)
    (sym (is-new m.newest fit active x past under forth)) (tail x slot (tail-there m.newest fit active x past under forth)) held
