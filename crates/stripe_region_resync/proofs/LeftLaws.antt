-- The steps that a resync has left, by the formula of each way.
use Rattle.std.proofs.Common.{◌≡◌, inl, inr, ℕ, ◌+◌, ◌-◌, ◌*◌, ◌/◌, ◌<◌, ◌≤◌, nat_lt, nat_le, Bool, true, false, if◌then◌else◌, Some, None, refl, sym, ◌∙◌, ap, arith}
use Rattle.std.specs.Prelude.{IsTrue}
use Rattle.std.proofs.lemmas.Bool.{cases_lt}
use Rattle.std.proofs.lemmas.Bool.Decides.{nat_tests}
use Rattle.reshape_request.specs.raid_types_the_Shape.{Shape}
use Rattle.reshape_request.specs.raid_types_the_Side.{Side}
use Rattle.reshape_request.specs.raid_types_the_Side_TheVariants.{Old, New}
use Rattle.reshape_request.specs.raid_types_Shapes.{is_valid_shape, is_multiple, data_disks, stripe_sectors}
use Rattle.reshape_request.specs.bank_Given.{Given}
use Rattle.reshape_request.specs.sb_codec_the_Sb.{Sb}
use Rattle.reshape_request.specs.reshape_geometry_Geometry.{side, ceiling, beyond}
use Rattle.reshape_request.proofs.reshape_geometry_Divisions.{ceiling_le, next_multiple, quotient}
use Rattle.reshape_request.proofs.reshape_geometry_Valid.{bounded}
use Rattle.reshape_request.specs.sb_specs_the_Members.{Members}
use Rattle.reshape_request.specs.sb_specs_Reading.{is_reshaping, is_backward, shape_of, final_shape}
use Rattle.stripe_region_write.specs.history_Stands.{shape_at, shape_for}
use Rattle.stripe_region_write.specs.crash_views_Regions.{AreShapesFit}
use Rattle.stripe_region_write.specs.crash_views_Windows.{moved_past}
use Rattle.stripe_region_write.proofs.crash_views_UnderWay.{shape-on}
use Rattle.stripe_region_write.specs.array_members_Moving.{IsMoved}
use Rattle.stripe_region_write.proofs.array_members_Stripes.{stripes-whole}
use Rattle.reshape_request.specs.declared.window.Window.{Window}
use Rattle.reshape_request.specs.declared.window.Window.TheVariants.{Closed, Entered, Unsure}
use Rattle.stripe_region_resync.specs.Mends.{low_shape, high_shape, low_stripes, high_stripe, resync_stripes}
use Rattle.stripe_region_resync.specs.Left.{resyncs_at, position_behind, ResyncsAreCounted, ResyncLeftStays, RecordsLeaveResync, ResyncingTakesOne, ResyncEndsLast}
use Rattle.stripe_region_write.proofs.Sides.{low-some, low-is}

lt-is : (a b : ℕ) → a < b → nat_lt a b ≡ true
lt-is a b lt = grind (arith, nat_tests, lt)

not-lt : (a b : ℕ) → b ≤ a → nat_lt a b ≡ false
not-lt a b le = grind (arith, nat_tests, le)

is-le : (a b : ℕ) → a ≤ b → nat_le a b ≡ true
is-le a b le = grind (arith, nat_tests, le)

not-le : (a b : ℕ) → b < a → nat_le a b ≡ false
not-le a b lt = grind (arith, nat_tests, lt)

turn : (d c q : ℕ) → d * (q * c) ≡ q * (c * d)
turn d c q = omega arith

none-of : (k : ℕ) → 0 < k → ceiling 0 k ≡ 0
none-of k some = let few = ceiling_le 0 k 0 some (omega arith) in omega (arith, few)

-- ---- the stripes of two shapes

-- no more are below a position in the data than there are
pub few-below : (high : Shape) → IsTrue (is_valid_shape high) → (size position : ℕ) → is_multiple size high.chunk ≡ true → position ≤ data_disks high * size → position / stripe_sectors high ≤ size / high.chunk
few-below high valid size position multiple within = elim (cases_lt (size / high.chunk) (position / stripe_sectors high)) [
  | inl more ↦ absurd (
      let some = (bounded high valid).some_stripe in
      let past = next_multiple (size / high.chunk) (position / stripe_sectors high) (stripe_sectors high) more in
      let below = (quotient position (stripe_sectors high) (omega (arith, some))).0 in
      let all : data_disks high * size ≡ size / high.chunk * stripe_sectors high = ap (λ (n : ℕ). data_disks high * n) (sym (stripes-whole size high.chunk multiple)) ∙ turn (data_disks high) high.chunk (size / high.chunk) in
      omega (arith, past, below, all, within, some))
  | inr few ↦ few
]

module _ (newest : Sb) (fit : AreShapesFit newest) (active : is_reshaping newest ≡ true) where
  -- where the lower region is empty, its shape doesn't matter
  low-count : (shape : Shape) → IsTrue (is_valid_shape shape) → (0 < newest.reshape_position → low_shape newest ≡ shape) → low_stripes newest ≡ ceiling newest.reshape_position (stripe_sectors shape)
  low-count shape valid own = elim (cases_lt 0 newest.reshape_position) [
    | inl some ↦ (λ i. ceiling (low-is newest fit active i) (stripe_sectors (own some i)))
    | inr none ↦ (
        let zero : newest.reshape_position ≡ 0 = omega (arith, none) in
        let stripe = (bounded shape valid).some_stripe in
        ap (λ (n : ℕ). ceiling n (stripe_sectors (low_shape newest))) (low-is newest fit active ∙ zero) ∙ none-of (stripe_sectors (low_shape newest)) (low-some newest fit)
        ∙ sym (none-of (stripe_sectors shape) (omega (arith, stripe))) ∙ ap (λ (n : ℕ). ceiling n (stripe_sectors shape)) (sym zero))
  ]

  high-count : (shape : Shape) → high_shape newest ≡ shape → newest.size / (high_shape newest).chunk - high_stripe newest ≡ newest.size / shape.chunk - newest.reshape_position / stripe_sectors shape
  high-count shape same i = newest.size / (same i).chunk - low-is newest fit active i / stripe_sectors (same i)

  on : (x : ℕ) (back : Bool) → is_backward newest ≡ back → (s : Side) → side back newest.reshape_position x ≡ s → shape_for newest x ≡ shape_at newest s
  on x back is s at = shape-on newest active x s (ap (λ (b : Bool). side b newest.reshape_position x) is ∙ at)

  counted : (back : Bool) → is_backward newest ≡ back → resync_stripes newest ≡ resyncs_at (shape_of newest) (final_shape newest) newest.size back newest.reshape_position
  counted false is =
      (λ i. low-count (final_shape newest) fit.valid.final (λ some. on 0 false is New (ap (λ (b : Bool). if b then New else Old) (lt-is 0 newest.reshape_position some))) i
      + high-count (shape_of newest) (ap (λ (x : ℕ). shape_for newest x) (low-is newest fit active) ∙ on newest.reshape_position false is Old (ap (λ (b : Bool). if b then New else Old) (not-lt newest.reshape_position newest.reshape_position (omega arith)))) i)
  counted true is =
      (λ i. low-count (shape_of newest) fit.valid.old (λ some. on 0 true is Old (ap (λ (b : Bool). if b then New else Old) (not-le newest.reshape_position 0 some))) i
      + high-count (final_shape newest) (ap (λ (x : ℕ). shape_for newest x) (low-is newest fit active) ∙ on newest.reshape_position true is New (ap (λ (b : Bool). if b then New else Old) (is-le newest.reshape_position newest.reshape_position (omega arith)))) i)

pub mends-counted : ResyncsAreCounted
mends-counted newest fit active = counted newest fit active (is_backward newest) refl

-- ---- the steps

behind-stays : (given : Given) (old new : Members) (window : Window) → IsMoved given old new → position_behind new.newest window ≡ position_behind old.newest window
behind-stays given old new Closed moved = moved.reshape.position
behind-stays given old new (Entered span copied sectioned) moved = λ i. beyond (moved.reshape.backward i) span
behind-stays given old new (Unsure span) moved = moved.reshape.position

pub left-stays : ResyncLeftStays
left-stays given old new window None moved = refl
left-stays given old new window (Some mended) moved = λ i. resyncs_at (moved.shape i) (moved.reshape.final i) (moved.size i) (moved.reshape.backward i) (behind-stays given old new window moved i) - mended + 1

pub records-leave : RecordsLeaveResync
records-leave given old new span copied sectioned None moved = refl
records-leave given old new span copied sectioned (Some mended) moved = left-stays given (moved_past span old) new Closed (Some mended) moved

pub mending-takes-one : ResyncingTakesOne
mending-takes-one given old new mended fit active lt moved =
    ap (λ (n : ℕ). n + 1) (left-stays given old new Closed (Some (mended + 1)) moved)
    ∙ one (resyncs_at (shape_of old.newest) (final_shape old.newest) old.newest.size (is_backward old.newest) old.newest.reshape_position) (let all = mends-counted old.newest fit active in omega (arith, all, lt))
  where
    one : (all : ℕ) → mended < all → all - (mended + 1) + 1 + 1 ≡ all - mended + 1
    one all lt = omega (arith, lt)

pub resync-ends-last : ResyncEndsLast
resync-ends-last newest fit active =
    ap (λ (n : ℕ). resyncs_at (shape_of newest) (final_shape newest) newest.size (is_backward newest) newest.reshape_position - n + 1) (mends-counted newest fit active)
    ∙ none (resyncs_at (shape_of newest) (final_shape newest) newest.size (is_backward newest) newest.reshape_position)
  where
    none : (n : ℕ) → n - n + 1 ≡ 1
    none n = omega arith
