-- A place on the unit divides the rows of both shapes, and forward the new rows lie before the old ones, backward behind them.
use Rattle.std.proofs.Common.{◌≡◌, ◌⊎◌, inl, inr, ℕ, ◌+◌, ◌-◌, ◌*◌, ◌/◌, ◌<◌, ◌≤◌, ◌==◌, nat_lt, nat_le, Bool, true, false, cond, min, Some, None, refl, sym, ap, subst, ◌∙◌, arith}
use Rattle.std.specs.Prelude.{IsTrue}
use Rattle.std.specs.Int.{◌∣◌}
use Rattle.std.proofs.lemmas.Bool.{cases_lt, and_parts, eqb-true}
use Rattle.std.proofs.lemmas.Bool.Decides.{nat_tests}
use Rattle.std.proofs.Math.Nat.{dvd-add, dvd_refl, dvd-mul_left, dvd_trans, div-mul_cancel, mul-le-mul_left, mul-le-mul_right, mul_assoc}
use Rattle.reshape_geometry.specs.raid_types_the_Shape.{Shape}
use Rattle.reshape_geometry.specs.raid_types_the_Span.{Span}
use Rattle.reshape_geometry.specs.raid_types_the_Side.{Side}
use Rattle.reshape_geometry.specs.raid_types_the_Side_TheVariants.{Old, New}
use Rattle.reshape_geometry.specs.raid_types_Shapes.{data_disks, stripe_sectors, is_valid_shape}
use Rattle.reshape_geometry.specs.Geometry.{AreInForce, unit, list_end, side, window, ceiling, rows, row_at, IsIn}
use Rattle.stripe_region_laws.specs.Regions.{IsUnderWay, RegionsAreApart, IsWindowRow, WindowsWriteTheirRows}
use Rattle.reshape_geometry.proofs.Divisions.{next_multiple, ceiling_of_multiple, ceiling_grows}
use Rattle.reshape_geometry.proofs.Rows.{rows_hold}
use Rattle.reshape_geometry.proofs.Valid.{bounded, the_unit, list_fits}

-- ---- one shape

-- the row at which the sectors from B on begin, where B is a whole number of stripes
abbrev pub row-of : Shape → ℕ → ℕ
row-of shape B = B / stripe_sectors shape * shape.chunk

-- it divides the rows
pub record IsDivided (shape : Shape) (B : ℕ) : Type 0 where
  pub low : (x : ℕ) → x < B → row_at shape x < row-of shape B
  pub high : (x : ℕ) → B ≤ x → row-of shape B ≤ row_at shape x
  pub top : (rows shape 0 B).hi ≡ row-of shape B

divided : (shape : Shape) (B : ℕ) → IsTrue (is_valid_shape shape) → stripe_sectors shape ∣ B → IsDivided shape B
divided shape B valid whole =
    let s : ℕ = stripe_sectors shape in
    let b = bounded shape valid in
    let times : B / s * s ≡ B = div-mul_cancel s whole in
    let top : ceiling B s ≡ B / s = ap (λ (n : ℕ). ceiling n s) (sym times) ∙ ceiling_of_multiple (B / s) s (omega (arith, b.some_stripe)) in
    let same : ceiling B s * shape.chunk ≡ row-of shape B = ap (λ (n : ℕ). n * shape.chunk) top in
    record {
      low = λ x lt. let held = (rows_hold shape (record { lo = 0; hi = B }) x valid (omega arith, lt)).1 in omega (arith, held, same);
      high = λ x ge. (rows_hold shape (record { lo = B; hi = x + 1 }) x valid (ge, omega arith)).0;
      top = same;
    }

-- ---- two shapes

-- of two equal products the factor beside the greater one is the lesser
lesser : (a b d e : ℕ) → a * d ≡ b * e → e ≤ d → 0 < d → a ≤ b
lesser a b d e same le some = elim (cases_lt b a) [
  | inl lt ↦ (let one : b * d + d ≤ a * d = next_multiple b a d lt in let two : b * e ≤ b * d = mul-le-mul_left b le in absurd (omega (arith, one, two, same, some)))
  | inr ge ↦ ge
]

-- the rows below B hold B sectors
held : (shape : Shape) (B : ℕ) → stripe_sectors shape ∣ B → row-of shape B * data_disks shape ≡ B
held shape B whole = mul_assoc (B / stripe_sectors shape) shape.chunk (data_disks shape) ∙ div-mul_cancel (stripe_sectors shape) whole

module _ (old new : Shape) (size : ℕ) (force : AreInForce old new size) (B : ℕ) (on : unit old new ∣ B) where
  in-old : stripe_sectors old ∣ B
  in-old = dvd_trans (stripe_sectors old) (the_unit old new force.old_valid force.new_valid).first on

  in-new : stripe_sectors new ∣ B
  in-new = dvd_trans (stripe_sectors new) (the_unit old new force.old_valid force.new_valid).second on

  pub by-old : IsDivided old B
  by-old = divided old B force.old_valid in-old

  pub by-new : IsDivided new B
  by-new = divided new B force.new_valid in-new

  pub ahead : data_disks old ≤ data_disks new → row-of new B ≤ row-of old B
  ahead wider = let n = (bounded new force.new_valid).some_data in
      lesser (row-of new B) (row-of old B) (data_disks new) (data_disks old) (held new B in-new ∙ sym (held old B in-old)) wider (omega (arith, n))

  pub behind : data_disks new ≤ data_disks old → row-of old B ≤ row-of new B
  behind wider = let n = (bounded old force.old_valid).some_data in
      lesser (row-of old B) (row-of new B) (data_disks old) (data_disks new) (held old B in-old ∙ sym (held new B in-new)) wider (omega (arith, n))

-- ---- sides

pub new-ahead : (p x : ℕ) → side false p x ≡ New → x < p
new-ahead p x is = of (nat_lt x p) refl is
  where
    of : (b : Bool) → nat_lt x p ≡ b → ◌≡◌ {A = Side} (cond b New Old) New → x < p
    of true e is = grind (arith, nat_tests, e)
    of false e is = absurd (cc)

pub old-ahead : (p x : ℕ) → side false p x ≡ Old → p ≤ x
old-ahead p x is = of (nat_lt x p) refl is
  where
    of : (b : Bool) → nat_lt x p ≡ b → ◌≡◌ {A = Side} (cond b New Old) Old → p ≤ x
    of true e is = absurd (cc)
    of false e is = grind (arith, nat_tests, e)

pub new-behind : (p x : ℕ) → side true p x ≡ New → p ≤ x
new-behind p x is = of (nat_le p x) refl is
  where
    of : (b : Bool) → nat_le p x ≡ b → ◌≡◌ {A = Side} (cond b New Old) New → p ≤ x
    of true e is = grind (arith, nat_tests, e)
    of false e is = absurd (cc)

pub old-behind : (p x : ℕ) → side true p x ≡ Old → x < p
old-behind p x is = of (nat_le p x) refl is
  where
    of : (b : Bool) → nat_le p x ≡ b → ◌≡◌ {A = Side} (cond b New Old) Old → x < p
    of true e is = absurd (cc)
    of false e is = grind (arith, nat_tests, e)

-- ---- the regions are apart

pub regions-apart : RegionsAreApart
regions-apart old new size false position x y way x-in y-in is-new is-old same = elim way.on_unit [
  | inl on ↦ (
      let a = (by-new old new size way.force position on).low x (new-ahead position x is-new) in
      let b = (by-old old new size way.force position on).high y (old-ahead position y is-old) in
      let c = ahead old new size way.force position on way.directed in
      absurd (omega (arith, a, b, c, same)))
  | inr last ↦ (let far = old-ahead position y is-old in absurd (omega (arith, far, last, y-in)))
]
regions-apart old new size true position x y way x-in y-in is-new is-old same = elim way.on_unit [
  | inl on ↦ (
      let a = (by-new old new size way.force position on).high x (new-behind position x is-new) in
      let b = (by-old old new size way.force position on).low y (old-behind position y is-old) in
      let c = behind old new size way.force position on way.directed in
      absurd (omega (arith, a, b, c, same)))
  | inr last ↦ (let far = new-behind position x is-new in absurd (omega (arith, far, last, x-in)))
]

-- ---- windows

pub forward-is : (old new : Shape) (size p : ℕ) (span : Span) → window old new size false p ≡ Some span
    → (p < list_end old new size) × (span.lo ≡ p) × (span.hi ≡ min (p + unit old new) (list_end old new size))
forward-is old new size p span is = of (nat_le (list_end old new size) p) refl is
  where
    of : (b : Bool) → nat_le (list_end old new size) p ≡ b → cond b None (Some (record { lo = p; hi = min (p + unit old new) (list_end old new size) })) ≡ Some span
        → (p < list_end old new size) × (span.lo ≡ p) × (span.hi ≡ min (p + unit old new) (list_end old new size))
    of true e is = absurd (cc)
    of false e is = (grind (arith, nat_tests, e), cc, cc)

pub backward-is : (old new : Shape) (size p : ℕ) (span : Span) → window old new size true p ≡ Some span
    → (0 < p) × (span.lo ≡ (p - 1) / unit old new * unit old new) × (span.hi ≡ p)
backward-is old new size p span is = of (p == 0) refl is
  where
    of : (b : Bool) → (p == 0) ≡ b → cond b None (Some (record { lo = (p - 1) / unit old new * unit old new; hi = p })) ≡ Some span
        → (0 < p) × (span.lo ≡ (p - 1) / unit old new * unit old new) × (span.hi ≡ p)
    of true e is = absurd (cc)
    of false e is = (grind (arith, nat_tests, e), cc, cc)

-- the rows that a span in the list touches are the member's
rows-short : (old new : Shape) (size lo hi row : ℕ) → AreInForce old new size → hi ≤ list_end old new size → IsIn row (rows new lo hi) → row < size
rows-short old new size lo hi row force le within =
    let b = bounded new force.new_valid in
    let up : ceiling hi (stripe_sectors new) ≤ size / new.chunk =
    (let one = ceiling_grows hi (list_end old new size) (stripe_sectors new) (omega (arith, b.some_stripe)) le in let two = list_fits old new size force in omega (arith, one, two)) in
    let wide : ceiling hi (stripe_sectors new) * new.chunk ≤ size / new.chunk * new.chunk = mul-le-mul_right new.chunk up in
    let whole : size / new.chunk * new.chunk ≡ size = eqb-true (size / new.chunk * new.chunk) size (and_parts _ _ force.new_size).1 in
    let top = within.1 in
    omega (arith, wide, whole, top)

-- a span begins at a place on the unit, or ends there
rows-from : (old new : Shape) (size : ℕ) (force : AreInForce old new size) (lo hi row : ℕ) → IsIn row (rows new lo hi) → row-of new lo ≤ row
rows-from old new size force lo hi row within = within.0

rows-to : (old new : Shape) (size : ℕ) (force : AreInForce old new size) (lo hi row : ℕ) → unit old new ∣ hi → IsIn row (rows new lo hi) → row < row-of new hi
rows-to old new size force lo hi row on within = let top = (by-new old new size force hi on).top in let high = within.1 in omega (arith, top, high)

module _ (old new : Shape) (size position : ℕ) (span : Span) (row : ℕ) (is : window old new size false position ≡ Some span) (way : IsUnderWay old new size false position) (within : IsIn row (rows new span.lo span.hi)) where
  abbrev end : ℕ
  end = list_end old new size

  at : (position < list_end old new size) × (span.lo ≡ position) × (span.hi ≡ min (position + unit old new) (list_end old new size))
  at = forward-is old new size position span is

  -- it begins on the unit
  from-unit : unit old new ∣ span.lo
  from-unit = subst (λ (n : ℕ). unit old new ∣ n) (sym at.1) (elim way.on_unit [
    | inl on ↦ on
    | inr last ↦ absurd (omega (arith, at.0, last))
  ])

  -- and ends there, or where the list does
  to-unit : (unit old new ∣ span.hi) ⊎ (span.hi ≡ list_end old new size)
  to-unit = elim (cases_lt (list_end old new size) (position + unit old new)) [
    | inl past ↦ inr (omega (arith, at.2, past))
    | inr fits ↦ inl (let same : position + unit old new ≡ span.hi = omega (arith, at.2, fits) in
        subst (λ (n : ℕ). unit old new ∣ n) same (dvd-add (unit old new) (subst (λ (n : ℕ). unit old new ∣ n) at.1 from-unit) (dvd_refl (unit old new))))
  ]

  low : row-of new span.lo ≤ row
  low = rows-from old new size way.force span.lo span.hi row within

  pub ahead-row : IsWindowRow old new size false position span row
  ahead-row = record {
    below = rows-short old new size span.lo span.hi row way.force (let e = at.2 in omega (arith, e)) within;
    beyond = λ y y-in is-old out same. (
        let far : span.hi ≤ y = elim (cases_lt y span.hi) [
          | inl lt ↦ absurd (out (let from = old-ahead position y is-old in let e = at.1 in omega (arith, from, e), lt))
          | inr ge ↦ ge
        ] in
        elim to-unit [
          | inl on ↦ (
              let a = rows-to old new size way.force span.lo span.hi row on within in
              let b = (by-old old new size way.force span.hi on).high y far in
              let c = ahead old new size way.force span.hi on way.directed in
              absurd (omega (arith, a, b, c, same)))
          | inr last ↦ absurd (omega (arith, far, last, y-in))
        ]);
    behind = λ x x-in is-new same. (
        let a = (by-new old new size way.force span.lo from-unit).low x (let before = new-ahead position x is-new in let e = at.1 in omega (arith, before, e)) in
        absurd (let l = low in omega (arith, a, l, same)));
    begins = λ x same. elim (cases_lt x span.lo) [
      | inl lt ↦ (let a = (by-new old new size way.force span.lo from-unit).low x lt in absurd (let l = low in omega (arith, a, l, same)))
      | inr ge ↦ ge
    ];
    ends = λ x same. elim to-unit [
      | inl on ↦ elim (cases_lt x span.hi) [
        | inl lt ↦ inl lt
        | inr ge ↦ (
            let a = rows-to old new size way.force span.lo span.hi row on within in
            let b = (by-new old new size way.force span.hi on).high x ge in
            absurd (omega (arith, a, b, same)))
      ]
      | inr last ↦ elim (cases_lt x span.hi) [ inl lt ↦ inl lt | inr ge ↦ inr (omega (arith, ge, last)) ]
    ];
  }

module _ (old new : Shape) (size position : ℕ) (span : Span) (row : ℕ) (is : window old new size true position ≡ Some span) (way : IsUnderWay old new size true position) (within : IsIn row (rows new span.lo span.hi)) where
  at-back : (0 < position) × (span.lo ≡ (position - 1) / unit old new * unit old new) × (span.hi ≡ position)
  at-back = backward-is old new size position span is

  from-back : unit old new ∣ span.lo
  from-back = subst (λ (n : ℕ). unit old new ∣ n) (sym at-back.1) (dvd-mul_left (unit old new) ((position - 1) / unit old new))

  to-back : (unit old new ∣ span.hi) ⊎ (span.hi ≡ list_end old new size)
  to-back = subst (λ (n : ℕ). (unit old new ∣ n) ⊎ (n ≡ list_end old new size)) (sym at-back.2) way.on_unit

  low-back : row-of new span.lo ≤ row
  low-back = rows-from old new size way.force span.lo span.hi row within

  pub behind-row : IsWindowRow old new size true position span row
  behind-row = record {
    below = rows-short old new size span.lo span.hi row way.force (let e = at-back.2 in let w = way.within in omega (arith, e, w)) within;
    beyond = λ y y-in is-old out same. (
        let near : y < span.lo = elim (cases_lt y span.lo) [
          | inl lt ↦ lt
          | inr ge ↦ absurd (out (ge, let to = old-behind position y is-old in let e = at-back.2 in omega (arith, to, e)))
        ] in
        let a = low-back in
        let b = (by-old old new size way.force span.lo from-back).low y near in
        let c = behind old new size way.force span.lo from-back way.directed in
        absurd (omega (arith, a, b, c, same)));
    behind = λ x x-in is-new same. elim to-back [
      | inl on ↦ (
          let a = rows-to old new size way.force span.lo span.hi row on within in
          let b = (by-new old new size way.force span.hi on).high x (let from = new-behind position x is-new in let e = at-back.2 in omega (arith, from, e)) in
          absurd (omega (arith, a, b, same)))
      | inr last ↦ (let from = new-behind position x is-new in let e = at-back.2 in absurd (omega (arith, from, e, last, x-in)))
    ];
    begins = λ x same. elim (cases_lt x span.lo) [
      | inl lt ↦ (let a = (by-new old new size way.force span.lo from-back).low x lt in absurd (let l = low-back in omega (arith, a, l, same)))
      | inr ge ↦ ge
    ];
    ends = λ x same. elim to-back [
      | inl on ↦ elim (cases_lt x span.hi) [
        | inl lt ↦ inl lt
        | inr ge ↦ (
            let a = rows-to old new size way.force span.lo span.hi row on within in
            let b = (by-new old new size way.force span.hi on).high x ge in
            absurd (omega (arith, a, b, same)))
      ]
      | inr last ↦ elim (cases_lt x span.hi) [ inl lt ↦ inl lt | inr ge ↦ inr (omega (arith, ge, last)) ]
    ];
  }

pub windows-write : WindowsWriteTheirRows
windows-write old new size false position span row way is within = ahead-row old new size position span row is way within
windows-write old new size true position span row way is within = behind-row old new size position span row is way within
