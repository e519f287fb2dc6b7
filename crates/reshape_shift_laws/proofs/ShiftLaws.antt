-- Where the new rows begin at least one window before the old ones, no window reaches an old row.
use Rattle.std.proofs.Common.{◌≡◌, inl, inr, ℕ, ◌+◌, ◌*◌, ◌/◌, ◌%◌, ◌<◌, ◌≤◌, false, refl, sym, ap, subst, ◌∙◌, arith}
use Rattle.std.specs.Int.{◌∣◌}
use Rattle.std.proofs.Math.Nat.{dvd-add, dvd_refl, dvd_trans, div-mul_cancel, mul-le-mul_right, add-mul, zero-div, zero-mod}
use Rattle.reshape_geometry.specs.raid_types_the_Shape.{Shape}
use Rattle.reshape_geometry.specs.raid_types_the_Side_TheVariants.{Old}
use Rattle.reshape_geometry.specs.raid_types_Shapes.{data_disks, stripe_sectors}
use Rattle.reshape_geometry.specs.Geometry.{unit, list_end, side, ceiling, rows, row_at}
use Rattle.reshape_geometry.proofs.Divisions.{ceiling_grows, ceiling_shifts, ceiling_of_multiple}
use Rattle.reshape_geometry.proofs.Valid.{bounded, bounded_pair, the_unit}
use Rattle.stripe_region_laws.specs.Regions.{IsUnderWay}
use Rattle.stripe_region_laws.proofs.RegionLaws.{row-of, by-old, by-new, ahead, new-ahead, old-ahead, forward-is, ahead-row}
use Rattle.reshape_shift_laws.specs.Shifts.{least_shift, ShiftedWindowsOverwriteNothing, ShiftedRegionsAreApart, SmallerShiftsOverwrite, WindowsReachNoOtherRow}

module _ (old new : Shape) (size position : ℕ) (way : IsUnderWay old new size false position) where
  -- a position before the list's end is a whole number of units
  whole : position < list_end old new size → unit old new ∣ position
  whole lt = elim way.on_unit [ inl on ↦ on | inr last ↦ absurd (omega (arith, lt, last)) ]

  -- the old sectors that live are in rows from this one on
  lives : (y : ℕ) → y < list_end old new size → side false position y ≡ Old → row-of new position ≤ row_at old y
  lives y y-in is-old =
      let from = old-ahead position y is-old in
      let on = whole (omega (arith, from, y-in)) in
      let a = (by-old old new size way.force position on).high y from in
      let b = ahead old new size way.force position on way.directed in
      omega (arith, a, b)

  -- a window from there writes as many rows as the first one does, at most
  reach : (hi row : ℕ) → position < list_end old new size → hi ≤ position + unit old new → row < ceiling hi (stripe_sectors new) * new.chunk
      → row < row-of new position + least_shift old new
  reach hi row lt short within =
      let s : ℕ = stripe_sectors new in
      let b = bounded new way.force.new_valid in
      let t : ℕ = unit old new / stripe_sectors new in
      let times : unit old new ≡ unit old new / stripe_sectors new * stripe_sectors new = (bounded_pair old new size way.force).new_stripes in
      let grows : ceiling hi s ≤ ceiling (position + unit old new) s = ceiling_grows hi (position + unit old new) s (omega (arith, b.some_stripe)) short in
      let shifted : ceiling (position + unit old new) s ≡ ceiling position s + unit old new / s =
      ap (λ (n : ℕ). ceiling (position + n) s) times ∙ ceiling_shifts position (unit old new / s) s (omega (arith, b.some_stripe)) in
      let in-new : s ∣ position = dvd_trans s (the_unit old new way.force.old_valid way.force.new_valid).second (whole lt) in
      let here : ceiling position s ≡ position / s =
      ap (λ (n : ℕ). ceiling n s) (sym (div-mul_cancel s in-new)) ∙ ceiling_of_multiple (position / s) s (omega (arith, b.some_stripe)) in
      let first : ceiling (unit old new) s ≡ unit old new / s =
      ap (λ (n : ℕ). ceiling n s) times ∙ ceiling_of_multiple (unit old new / s) s (omega (arith, b.some_stripe)) in
      let wide : ceiling hi s * new.chunk ≤ (position / s + ceiling (unit old new) s) * new.chunk =
      mul-le-mul_right new.chunk (omega (arith, grows, shifted, here, first)) in
      let split : (position / s + ceiling (unit old new) s) * new.chunk ≡ position / s * new.chunk + ceiling (unit old new) s * new.chunk =
      add-mul (position / s) (ceiling (unit old new) s) new.chunk in
      omega (arith, within, wide, split)

pub windows-overwrite-nothing : ShiftedWindowsOverwriteNothing
windows-overwrite-nothing old new size position by span row is window-is within =
    let at = forward-is old new size position span window-is in
    let plain = ahead-row old new size position span row window-is is.way within in
    let short : span.hi ≤ position + unit old new = let e = at.2 in omega (arith, e) in
    let near = reach old new size position is.way span.hi row at.0 short within.1 in
    let enough = is.enough in
    record {
      below = plain.below;
      before = λ offset y room y-in is-old. (let far = lives old new size position is.way y y-in is-old in omega (arith, near, far, enough, room));
      behind = λ x x-in is-new same. plain.behind x x-in is-new same;
      begins = plain.begins;
      ends = plain.ends;
    }

pub windows-reach : WindowsReachNoOtherRow
windows-reach old new size position by offset span row y way room window-is within past y-in =
    let at = forward-is old new size position span window-is in
    let hi : span.hi ≡ position + unit old new = let e = at.2 in omega (arith, e, past, y-in) in
    let on : unit old new ∣ span.hi = subst (λ (n : ℕ). unit old new ∣ n) (sym hi) (dvd-add (unit old new) (whole old new size position way at.0) (dvd_refl (unit old new))) in
    let top = (by-new old new size way.force span.hi on).top in
    let near = within.1 in
    let far = (by-old old new size way.force span.hi on).high y past in
    let c = ahead old new size way.force span.hi on way.directed in
    omega (arith, top, near, far, c, room)

pub regions-apart : ShiftedRegionsAreApart
regions-apart old new size position by offset x y way room x-in y-in is-new is-old =
    let from = old-ahead position y is-old in
    let on = whole old new size position way (omega (arith, from, y-in)) in
    let a = (by-new old new size way.force position on).low x (new-ahead position x is-new) in
    let far = lives old new size position way y y-in is-old in
    omega (arith, a, far, room)

-- the first sector stands in the first row
first-row : (shape : Shape) → row_at shape 0 ≡ 0
first-row shape =
    let chunk : 0 / shape.chunk / data_disks shape ≡ 0 = ap (λ (n : ℕ). n / data_disks shape) (zero-div shape.chunk) ∙ zero-div (data_disks shape) in
    let product : 0 / shape.chunk / data_disks shape * shape.chunk ≡ 0 * shape.chunk = ap (λ (n : ℕ). n * shape.chunk) chunk in
    let none : 0 * shape.chunk ≡ 0 = omega arith in
    let left : 0 % shape.chunk ≡ 0 = zero-mod shape.chunk in
    omega (arith, product, none, left)

pub smaller-overwrite : SmallerShiftsOverwrite
smaller-overwrite old new size by span way long less window-is =
    let at = forward-is old new size 0 span window-is in
    let lo : span.lo ≡ 0 = at.1 in
    let hi : span.hi ≡ unit old new = let e = at.2 in omega (arith, e, long) in
    record {
      written = (first, (rw hi less));
      same = λ offset room. (let zero : row_at old 0 ≡ 0 = first-row old in omega (arith, zero, room));
      lives = refl;
    }
  where
    lo-zero : span.lo ≡ 0
    lo-zero = (forward-is old new size 0 span window-is).1

    first : (rows new span.lo span.hi).lo ≤ by
    first = let e = ap (λ (n : ℕ). n / stripe_sectors new * new.chunk) (lo-zero) ∙ ap (λ (n : ℕ). n * new.chunk) (zero-div (stripe_sectors new)) in omega (arith, e)
