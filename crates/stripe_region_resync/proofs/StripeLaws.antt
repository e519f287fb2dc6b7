-- The stripes of both regions, one behind another: each begins where the one before it ends.
use Rattle.std.proofs.Common.{◌≡◌, inl, inr, ℕ, ◌+◌, ◌-◌, ◌*◌, ◌/◌, ◌<◌, ◌≤◌, nat_lt, min, Bool, true, false, if◌then◌else◌, Option, Some, None, refl, sym, ◌∙◌, ap, subst, arith}
use Rattle.std.proofs.lemmas.Bool.{cases_lt}
use Rattle.std.proofs.lemmas.Bool.Decides.{nat_tests}
use Rattle.std.proofs.lemmas.Nat.{mul-le}
use Rattle.reshape_request.specs.raid_types_the_Shape.{Shape}
use Rattle.reshape_request.specs.raid_types_Shapes.{data_disks, stripe_sectors}
use Rattle.reshape_request.specs.sb_codec_the_Sb.{Sb}
use Rattle.reshape_request.proofs.reshape_geometry_Valid.{bounded}
use Rattle.reshape_request.specs.sb_specs_Reading.{list_length}
use Rattle.stripe_region_write.specs.crash_views_Regions.{AreShapesFit}
use Rattle.stripe_region_resync.specs.declared.stripes.Stripe.{Stripe}
use Rattle.stripe_region_resync.specs.Mends.{low_end, low_shape, high_shape, low_stripes, high_stripe, resync_stripes, stripe_after, relied_sector}
use Rattle.stripe_region_resync.specs.Laws.{IsSyncedNext, ResyncsGoOn}
use Rattle.stripe_region_write.proofs.Sides.{low-valid, high-valid, low-force, high-force, low-fits, low-own, high-own, list-stripes, high-whole, high-few, low-ends, low-before, low-reach, low-few}

lt-is : (a b : ℕ) → a < b → nat_lt a b ≡ true
lt-is a b lt = grind (arith, nat_tests, lt)

not-lt : (a b : ℕ) → b ≤ a → nat_lt a b ≡ false
not-lt a b le = grind (arith, nat_tests, le)

is-lt : (a b : ℕ) → nat_lt a b ≡ true → a < b
is-lt a b is = grind (arith, nat_tests, is)

-- one stripe more
one-more : (k s : ℕ) → (k + 1) * s ≡ k * s + s
one-more k s = omega arith

-- a chunk is no longer than its stripe
chunk-within : (c d : ℕ) → 1 ≤ d → c ≤ c * d
chunk-within c d some = let all = mul-le c 1 c d (omega arith) some in omega (arith, all)

abbrev pub stripe-at : Shape → ℕ → Stripe
stripe-at shape n = record { shape = shape; at = n }

-- ---- which one it is

pub behind-low : (newest : Sb) (mended : ℕ) → mended < low_stripes newest → stripe_after newest mended ≡ stripe-at (low_shape newest) mended
behind-low newest mended lt =
    ap (λ (b : Bool). if b then stripe-at (low_shape newest) mended else stripe-at (high_shape newest) (high_stripe newest + (mended - low_stripes newest))) (lt-is mended (low_stripes newest) lt)

pub behind-high : (newest : Sb) (mended : ℕ) → low_stripes newest ≤ mended → stripe_after newest mended ≡ stripe-at (high_shape newest) (high_stripe newest + (mended - low_stripes newest))
behind-high newest mended le =
    ap (λ (b : Bool). if b then stripe-at (low_shape newest) mended else stripe-at (high_shape newest) (high_stripe newest + (mended - low_stripes newest))) (not-lt mended (low_stripes newest) le)

-- where it begins
pub relied-low : (newest : Sb) (mended : ℕ) → mended < low_stripes newest → relied_sector newest (Some mended) ≡ mended * stripe_sectors (low_shape newest)
relied-low newest mended lt = ap (λ (s : Stripe). s.at * stripe_sectors s.shape) (behind-low newest mended lt)

pub relied-high : (newest : Sb) (mended : ℕ) → low_stripes newest ≤ mended
    → relied_sector newest (Some mended) ≡ (high_stripe newest + (mended - low_stripes newest)) * stripe_sectors (high_shape newest)
relied-high newest mended le = ap (λ (s : Stripe). s.at * stripe_sectors s.shape) (behind-high newest mended le)

module _ (newest : Sb) (fit : AreShapesFit newest) where
  -- the first of the upper region begins where the lower one ends
  pub relied-between : (mended : ℕ) → mended ≡ low_stripes newest → relied_sector newest (Some mended) ≡ low_end newest
  relied-between mended same =
      relied-high newest mended (omega (arith, same))
      ∙ ap (λ (n : ℕ). n * stripe_sectors (high_shape newest)) (let first : high_stripe newest + (mended - low_stripes newest) ≡ high_stripe newest = omega (arith, same) in first)
      ∙ sym (high-whole newest fit)

  -- a stripe of the lower region begins before that
  pub relied-low-fits : (mended : ℕ) → mended ≤ low_stripes newest → relied_sector newest (Some mended) ≤ low_end newest
  relied-low-fits mended le = elim (cases_lt mended (low_stripes newest)) [
    | inl lt ↦ (let here = relied-low newest mended lt in let before = low-before newest fit mended lt in omega (arith, here, before))
    | inr ge ↦ (let here = relied-between mended (omega (arith, le, ge)) in omega (arith, here))
  ]

  -- ---- a stripe of the lower region

  module _ (mended : ℕ) (lt : mended < low_stripes newest) where
    low-first : ℕ
    low-first = mended * stripe_sectors (low_shape newest)

    low-last : relied_sector newest (Some (mended + 1)) ≡ min (mended * stripe_sectors (low_shape newest) + stripe_sectors (low_shape newest)) (list_length newest)
    low-last = elim (cases_lt (mended + 1) (low_stripes newest)) [
      | inl more ↦ (
          let here = relied-low newest (mended + 1) more in
          let next = one-more mended (stripe_sectors (low_shape newest)) in
          let before = low-before newest fit (mended + 1) more in
          let fits = low-fits newest fit in
          omega (arith, here, next, before, fits))
      | inr last ↦ (
          let all : mended + 1 ≡ low_stripes newest = omega (arith, lt, last) in
          let here = relied-between (mended + 1) all in
          let times : low_stripes newest * stripe_sectors (low_shape newest) ≡ mended * stripe_sectors (low_shape newest) + stripe_sectors (low_shape newest) =
          ap (λ (n : ℕ). n * stripe_sectors (low_shape newest)) (sym all) ∙ one-more mended (stripe_sectors (low_shape newest)) in
          let reach = low-reach newest fit in
          let fits = low-fits newest fit in
          elim (low-ends newest fit) [
            | inl whole ↦ omega (arith, here, times, whole, fits)
            | inr end ↦ omega (arith, here, times, reach, end)
          ])
    ]

    pub low-next : IsSyncedNext newest mended (stripe-at (low_shape newest) mended)
    low-next = record {
      force = low-force newest fit;
      below = let few = low-few newest fit in omega (arith, few, lt);
      begins = relied-low newest mended lt;
      ends = low-last;
      chunk =
          let ends = low-last in
          let before = low-before newest fit mended lt in
          let fits = low-fits newest fit in
          let few = chunk-within (low_shape newest).chunk (data_disks (low_shape newest)) (bounded (low_shape newest) (low-valid newest fit)).some_data in
          omega (arith, ends, before, fits, few);
      own = λ x from under. low-own newest fit x (let most = relied-low-fits (mended + 1) (omega (arith, lt)) in omega (arith, under, most));
    }

  -- ---- a stripe of the upper one

  module _ (mended : ℕ) (ge : low_stripes newest ≤ mended) (lt : mended < resync_stripes newest) where
    abbrev at : ℕ
    at = high_stripe newest + (mended - low_stripes newest)

    high-below : high_stripe newest + (mended - low_stripes newest) < newest.size / (high_shape newest).chunk
    high-below = let few = high-few newest fit in omega (arith, few, ge, lt)

    high-last : relied_sector newest (Some (mended + 1)) ≡ at * stripe_sectors (high_shape newest) + stripe_sectors (high_shape newest)
    high-last =
        relied-high newest (mended + 1) (omega (arith, ge))
        ∙ ap (λ (n : ℕ). n * stripe_sectors (high_shape newest)) (let next : high_stripe newest + (mended + 1 - low_stripes newest) ≡ high_stripe newest + (mended - low_stripes newest) + 1 = omega (arith, ge) in next)
        ∙ one-more at (stripe_sectors (high_shape newest))

    pub high-within : at * stripe_sectors (high_shape newest) + stripe_sectors (high_shape newest) ≤ list_length newest
    high-within =
        let below = high-below in
        let all = mul-le (at + 1) (stripe_sectors (high_shape newest)) (newest.size / (high_shape newest).chunk) (stripe_sectors (high_shape newest)) (omega (arith, below)) (omega arith) in
        let next = one-more at (stripe_sectors (high_shape newest)) in
        let long = list-stripes newest fit in
        omega (arith, all, next, long)

    -- it begins behind the lower region
    pub high-from : low_end newest ≤ at * stripe_sectors (high_shape newest)
    high-from =
        let more = mul-le (high_stripe newest) (stripe_sectors (high_shape newest)) at (stripe_sectors (high_shape newest)) (omega arith) (omega arith) in
        let whole = high-whole newest fit in
        omega (arith, more, whole)

    pub high-next : IsSyncedNext newest mended (stripe-at (high_shape newest) at)
    high-next = record {
      force = high-force newest fit;
      below = high-below;
      begins = relied-high newest mended ge;
      ends = let ends = high-last in let within = high-within in omega (arith, ends, within);
      chunk =
          let ends = high-last in
          let few = chunk-within (high_shape newest).chunk (data_disks (high_shape newest)) (bounded (high_shape newest) (high-valid newest fit)).some_data in
          omega (arith, ends, few);
      own = λ x from under. high-own newest fit x (let far = high-from in omega (arith, far, from));
    }

  -- ---- either

  pub is-next : (mended : ℕ) → mended < resync_stripes newest → IsSyncedNext newest mended (stripe_after newest mended)
  is-next mended lt = elim (cases_lt mended (low_stripes newest)) [
    | inl low ↦ subst (λ (s : Stripe). IsSyncedNext newest mended s) (sym (behind-low newest mended low)) (low-next mended low)
    | inr high ↦ subst (λ (s : Stripe). IsSyncedNext newest mended s) (sym (behind-high newest mended high)) (high-next mended high lt)
  ]

pub mends-go-on : ResyncsGoOn
mends-go-on newest mended next fit is = of (nat_lt mended (resync_stripes newest)) refl is
  where
    same-stripe : (a b : Stripe) → ◌≡◌ {A = Option Stripe} (Some a) (Some b) → a ≡ b
    same-stripe a b e = cc

    of : (b : Bool) → nat_lt mended (resync_stripes newest) ≡ b → ◌≡◌ {A = Option Stripe} (if b then Some (stripe_after newest mended) else None) (Some next) → IsSyncedNext newest mended next
    of true less e = subst (λ (s : Stripe). IsSyncedNext newest mended s) (same-stripe (stripe_after newest mended) next e) (is-next newest fit mended (is-lt mended (resync_stripes newest) less))
    of false all e = absurd (cc)
