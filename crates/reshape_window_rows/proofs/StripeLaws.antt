-- Rows one after another, and the rows of a stripe.
use Rattle.std.proofs.Common.{◌≡◌, ◌⊎◌, inl, inr, ℕ, ◌+◌, ◌-◌, ◌*◌, ◌/◌, ◌<◌, ◌≤◌, true, List, get_or, Some, sym, subst, arith}
use Rattle.std.proofs.lemmas.Bool.{cases_lt}
use Rattle.std.proofs.lemmas.List.{length-replicate, get_or-replicate, get_or_past}
use Rattle.raid_layout.specs.raid_types_the_Shape.{Shape}
use Rattle.raid_layout.specs.raid_types_the_Span.{Span}
use Rattle.raid_layout.specs.raid_types_Sectors.{Sector, IsSector, zero_sector}
use Rattle.raid_layout.specs.raid_types_Shapes.{is_valid_shape, is_multiple, data_disks, stripe_sectors}
use Rattle.reshape_begin_end.specs.bank_Given.{Given}
use Rattle.reshape_begin_end.specs.bank_the_Operation.{Operation}
use Rattle.reshape_begin_end.specs.bank_Tape.{Contents, EachMark, IsIn, disk}
use Rattle.raid_layout.specs.Layout.{place}
use Rattle.raid_layout.proofs.Places.{chunk_some, place-sector_below}
use Rattle.reshape_begin_end.specs.reshape_geometry_Geometry.{ceiling, rows}
use Rattle.reshape_begin_end.specs.reshape_geometry_Geometry as geometry
use Rattle.reshape_begin_end.proofs.reshape_geometry_Divisions.{next_multiple, quotient}
use Rattle.reshape_begin_end.proofs.reshape_geometry_Rows.{rows_hold}
use Rattle.std.proofs.Math.Nat.{mul-le-mul_right}
use Rattle.reshape_begin_end.specs.sb_specs_the_Members.{Members}
use Rattle.reshape_begin_end.specs.sb_specs_Reading.{Reading, final_shape, list_length, next_window}
use Rattle.reshape_begin_end.specs.stripe_row_Rows.{reading_of, members_without}
use Rattle.reshape_begin_end.proofs.stripe_row_NewRow.{whole_sector}
use Rattle.reshape_begin_end.specs.stripe_list_Full.{AreWholeIn, RowStands}
use Rattle.reshape_begin_end.specs.stripe_list_Writing.{IsFull, IsRowKept, AreBehind, AreSuperblocksKept}
use Rattle.reshape_begin_end.proofs.stripe_list_PutLaws.{full_later, kept_then, full_stands}
use Rattle.reshape_begin_end.specs.crash_views_Regions.{AreShapesFit}
use Rattle.reshape_begin_end.specs.crash_views_Windows.{IsLess, IsWrittenAt, IsWindowPlace, IsCopying}
use Rattle.reshape_begin_end.proofs.crash_views_UnderWay.{window-row}
use Rattle.reshape_begin_end.specs.crash_safety_laws_Updates.{IsPastPlace}
use Rattle.reshape_window_rows.proofs.RunLaws.{marks_then}
use Rattle.reshape_window_rows.specs.Copies.{IsRoomFor, tail_of, IsCopied, IsZeroIn, IsOwnRow, IsStripeOf, IsPastStripe, IsChangedAt, IsRowsPlace}

-- ---- rows one after another

-- a run of rows more, at each mark
pub marks_more : {tells : Type 0} (start start' : Given) (m m' : Members) (from to row end : ℕ) (old mid new : List Operation) → start' ≡ start → m' ≡ m → from ≤ row → end ≤ to
    → EachMark tells start.start old mid (IsChangedAt (IsRowsPlace (reading_of m) from to) (disk start.start old))
    → EachMark tells start'.start mid new (IsChangedAt (IsRowsPlace (reading_of m') row end) (disk start'.start mid))
    → EachMark tells start.start old new (IsChangedAt (IsRowsPlace (reading_of m) from to) (disk start.start old))
marks_more start start' m m' from to row end old mid new same is low high marks more =
    marks_then start start' (IsRowsPlace (reading_of m) from to) (IsRowsPlace (reading_of m') row end) old mid new same (λ s k place.
    let there : IsRowsPlace (reading_of m) row end s k = subst (λ (n : Members). IsRowsPlace (reading_of n) row end s k) is place in
    record { role = there.role; row = there.row; held = there.held; low = omega (arith, low, there.low); high = omega (arith, high, there.high); place = there.place }) marks more

module _ (mid new : Members) (lost : ℕ) (is : new ≡ members_without lost mid) (before between after : Contents) (shape : Shape) (from row end : ℕ) (low : from ≤ row)
    (others : (other : ℕ) → (other < row) ⊎ (end ≤ other) → IsRowKept (reading_of mid) between after other) where
  -- more rows are full
  pub full_more : (span : Span) (tail : Span) (list : ℕ → Sector) (next : ℕ)
      → ((r : ℕ) → from ≤ r → r < row → IsOwnRow shape span tail r → IsFull (reading_of mid) between shape list r)
      → ((r : ℕ) → row ≤ r → r < next → IsOwnRow shape span tail r → IsFull (reading_of new) after shape list r)
      → (r : ℕ) → from ≤ r → r < next → IsOwnRow shape span tail r → IsFull (reading_of new) after shape list r
  full_more span tail list next was here r above lt own = elim (cases_lt r row) [
    | inl below ↦ full_later mid new lost between after shape list r is (others r (inl below)) (was r above below own)
    | inr high ↦ here r high lt own
  ]

  -- and each other one is as it was
  pub kept_more : row ≤ end → ((r : ℕ) → (r < from) ⊎ (row ≤ r) → IsRowKept (reading_of mid) before between r)
      → (r : ℕ) → (r < from) ⊎ (end ≤ r) → IsRowKept (reading_of new) before after r
  kept_more up was r (inl below) = kept_then mid new lost before between after r is (was r (inl below)) (others r (inl (omega (arith, below, low))))
  kept_more up was r (inr above) = kept_then mid new lost before between after r is (was r (inr (omega (arith, above, up)))) (others r (inr above))

-- ---- what a row that is full stands for

zero_whole : IsSector zero_sector
unfolding zero_sector
zero_whole = record {
  whole = length-replicate {A = ℕ} 512 0;
  bytes = λ at. elim (cases_lt at 512) [
    | inl below ↦ subst (λ (n : ℕ). n < 256) (sym (get_or-replicate 512 at 0 0 below)) (omega arith)
    | inr past ↦ subst (λ (n : ℕ). n < 256) (sym (get_or_past zero_sector at 0 (omega (arith, length-replicate {A = ℕ} 512 0, past)))) (omega arith)
  ];
}

-- the sectors that stand in a row of a window are whole: they lie in the buffer, or are zero
pub own_whole : (shape : Shape) (span : Span) (buffer : List ℕ) (tail : Span) (list : ℕ → Sector) (row : ℕ) → IsRoomFor span buffer → ((at : ℕ) → get_or buffer at 0 < 256)
    → IsOwnRow shape span tail row → IsCopied span buffer tail list → AreWholeIn shape list row
own_whole shape span buffer tail list row room small own copied x at = elim (own x at) [
  | inl inside ↦
      let low = inside.0 in
      let high = inside.1 in
      subst IsSector (copied.window x inside) (whole_sector buffer (span.hi - span.lo) (x - span.lo) room small (omega (arith, low, high)))
  | inr past ↦ subst IsSector (sym (copied.zeros x past)) zero_whole
]

pub row_stands : (r : Reading) (c : Contents) (shape : Shape) (list : ℕ → Sector) (row : ℕ) → AreWholeIn shape list row → IsFull r c shape list row → RowStands r c shape list row
row_stands r c shape list row whole full =
    let both = full_stands r c shape list row full in
    record { whole = whole; sectors = both.0; parity = both.1 }

-- ---- what a stop may leave

-- no place of a holder's rows is among the superblocks
pub superblocks_kept : (r : Reading) (from to : ℕ) (d e : ℕ → ℕ → List Sector) → AreBehind r → IsChangedAt (IsRowsPlace r from to) d e → AreSuperblocksKept d e
superblocks_kept r from to d e behind changed slot at low = by (changed slot at)
  where
    by : (e slot at ≡ d slot at) ⊎ IsRowsPlace r from to slot at → e slot at ≡ d slot at
    by (inl same) = same
    by (inr there) = absurd (
        let begins = behind there.role slot there.held in
        let place = there.place in
        omega (arith, low, begins, place)
        )

written_as : (P Q : ℕ → ℕ → Type 0) (d e : ℕ → ℕ → List Sector) → ((s k : ℕ) → P s k → Q s k) → IsChangedAt P d e → IsWrittenAt Q d e
written_as P Q d e to changed s k = by (changed s k)
  where
    by : (e s k ≡ d s k) ⊎ P s k → IsLess (d s k) (e s k) ⊎ Q s k
    by (inl same) = inl (λ v there. subst (λ (l : List Sector). IsIn l v) same there)
    by (inr there) = inr (to s k there)

-- ---- a stripe of a window

module _ (shape : Shape) (valid : is_valid_shape shape ≡ true) (span : Span) (stripe : ℕ) (of : IsStripeOf shape span stripe) where
  pub stripe_low : (rows shape span.lo span.hi).lo ≤ stripe * shape.chunk
  stripe_low = mul-le-mul_right shape.chunk of.0

  pub stripe_high : stripe * shape.chunk + shape.chunk ≤ (rows shape span.lo span.hi).hi
  stripe_high = next_multiple stripe (ceiling span.hi (stripe_sectors shape)) shape.chunk of.1

module _ (m : Members) (fit : AreShapesFit m.newest) (shape : Shape) (is : shape ≡ final_shape m.newest) (span : Span) (next : next_window m.newest ≡ Some span) (stripe : ℕ)
    (of : IsStripeOf shape span stripe) (whole : is_multiple m.newest.size shape.chunk ≡ true) where
  valid : is_valid_shape shape ≡ true
  valid = subst (λ (s : Shape). is_valid_shape s ≡ true) (sym is) fit.valid.final

  in_window : (row : ℕ) → stripe * shape.chunk ≤ row → row < stripe * shape.chunk + shape.chunk → geometry.IsIn row (rows (final_shape m.newest) span.lo span.hi)
  in_window row low high = subst (λ (s : Shape). geometry.IsIn row (rows s span.lo span.hi)) is
      (omega (arith, low, stripe_low shape valid span stripe of), omega (arith, high, stripe_high shape valid span stripe of))

  -- the members have its rows
  pub stripe_below : stripe * shape.chunk + shape.chunk ≤ m.newest.size
  stripe_below =
      let some : 0 < shape.chunk = chunk_some shape valid in
      let last : ℕ = stripe * shape.chunk + shape.chunk - 1 in
      let below = (window-row m.newest fit span next last (in_window last (omega (arith, some)) (omega (arith, some)))).below in
      omega (arith, below, some)

  -- each sector that stands there is the window's, or one of the tail
  pub own_row : (i : ℕ) → i < shape.chunk → IsOwnRow shape span (tail_of m.newest) (stripe * shape.chunk + i)
  own_row i lt x at =
      let row : ℕ = stripe * shape.chunk + i in
      let w = window-row m.newest fit span next row (in_window row (omega arith) (omega (arith, lt))) in
      let there : (place (final_shape m.newest) x).row ≡ row = subst (λ (s : Shape). (place s x).row ≡ row) is at in
      elim (w.ends x there) [
        | inl high ↦ inl (w.begins x there, high)
        | inr past ↦ inr (past, subst (λ (s : Shape). x < data_disks s * m.newest.size) is (place-sector_below shape valid x m.newest.size whole (let below = stripe_below in omega (arith, at, lt, below))))
      ]

  pub copying : (d e : ℕ → ℕ → List Sector) → IsChangedAt (IsRowsPlace (reading_of m) (stripe * shape.chunk) (stripe * shape.chunk + shape.chunk)) d e → IsCopying m span d e
  copying d e = written_as (IsRowsPlace (reading_of m) (stripe * shape.chunk) (stripe * shape.chunk + shape.chunk)) (IsWindowPlace m span) d e
      (λ s k there. record { role = there.role; row = there.row; held = there.held; written = in_window there.row there.low there.high; place = there.place })

-- ---- a stripe behind the list

abbrev pub nothing : Span
nothing = record { lo = 0; hi = 0 }

module _ (m : Members) (shape : Shape) (valid : is_valid_shape shape ≡ true) (is : shape ≡ final_shape m.newest) (stripe : ℕ) (past : IsPastStripe shape m.newest.size (list_length m.newest) stripe)
    (whole : is_multiple m.newest.size shape.chunk ≡ true) where
  pub past_below : stripe * shape.chunk + shape.chunk ≤ m.newest.size
  past_below =
      let few = next_multiple stripe (m.newest.size / shape.chunk) shape.chunk past.1 in
      let q = quotient m.newest.size shape.chunk (chunk_some shape valid) in
      omega (arith, few, q.0)

  begins : (rows shape 0 (list_length m.newest)).hi ≤ stripe * shape.chunk
  begins = mul-le-mul_right shape.chunk past.0

  -- no sector of the list stands there
  pub past_row : (i : ℕ) → i < shape.chunk → IsOwnRow shape nothing (tail_of m.newest) (stripe * shape.chunk + i)
  past_row i lt x at = elim (cases_lt x (list_length m.newest)) [
    | inl below ↦ absurd (
        let held = (rows_hold shape (record { lo = 0; hi = list_length m.newest }) x valid (omega arith, below)).1 in
        omega (arith, held, at, begins)
        )
    | inr behind ↦ inr (behind, subst (λ (s : Shape). x < data_disks s * m.newest.size) is (place-sector_below shape valid x m.newest.size whole (let below = past_below in omega (arith, at, lt, below))))
  ]

  pub zeroing : (d e : ℕ → ℕ → List Sector) → IsChangedAt (IsRowsPlace (reading_of m) (stripe * shape.chunk) (stripe * shape.chunk + shape.chunk)) d e → IsWrittenAt (IsPastPlace m) d e
  zeroing d e = written_as (IsRowsPlace (reading_of m) (stripe * shape.chunk) (stripe * shape.chunk + shape.chunk)) (IsPastPlace m) d e
      (λ s k there. record {
        role = there.role;
        row = there.row;
        held = there.held;
        past = subst (λ (s : Shape). (rows s 0 (list_length m.newest)).hi ≤ there.row) is (omega (arith, begins, there.low));
        place = there.place;
      })

-- a list that is zero in its tail has nothing of no window
pub nothing_copied : (tail : Span) (list : ℕ → Sector) (buffer : List ℕ) → IsZeroIn tail list → IsCopied nothing buffer tail list
nothing_copied tail list buffer zeros = record { window = λ x inside. absurd (let low = inside.1 in omega (arith, low)); zeros = zeros }
