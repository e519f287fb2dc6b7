-- Where a reshape ends: the new shape alone. A list that is longer then has zeros behind its former end.
use Rattle.std.proofs.Common.{◌≡◌, ◌⊎◌, inl, inr, ℕ, ◌+◌, ◌-◌, ◌*◌, ◌/◌, ◌<◌, ◌≤◌, nat_lt, nat_le, ◌==◌, min, Bool, true, false, cond, Option, Some, None, refl, sym, ◌∙◌, ap, ap₂, subst, arith}
use Rattle.std.specs.Prelude.{IsTrue}
use Rattle.std.proofs.lemmas.Bool.{cases_lt}
use Rattle.std.proofs.lemmas.Bool.Decides.{nat_tests}
use Rattle.std.proofs.lemmas.List.{length-replicate, get_or-replicate, get_or_past}
use Rattle.std.proofs.Math.Nat.{mul-le-mul_right, div-div-eq-div-mul}
use Rattle.crash_safety_laws.specs.raid_types_the_Shape.{Shape}
use Rattle.crash_safety_laws.specs.raid_types_the_Place.{Place}
use Rattle.crash_safety_laws.specs.raid_types_Sectors.{Sector, zero_sector}
use Rattle.crash_safety_laws.specs.raid_types_Shapes.{data_disks, is_valid_shape, stripe_sectors}
use Rattle.crash_safety_laws.specs.bank_Given.{Given}
use Rattle.crash_safety_laws.specs.bank_Tape.{Contents, IsDrawn, IsIn}
use Rattle.crash_safety_laws.specs.raid_layout_Layout.{place, stripe_of}
use Rattle.crash_safety_laws.proofs.raid_layout_Places.{stripe_of-row, place-role_below, chunk_some, data_some}
use Rattle.crash_safety_laws.specs.reshape_geometry_Geometry.{window, unit, list_end, rows, ceiling}
use Rattle.crash_safety_laws.specs.stripe_region_laws_Regions.{IsDirected}
use Rattle.crash_safety_laws.proofs.reshape_geometry_Divisions.{quotient, next_multiple, ceiling_le, floor_grows}
use Rattle.crash_safety_laws.proofs.reshape_geometry_Valid.{bounded}
use Rattle.crash_safety_laws.proofs.reshape_geometry_Rows.{rows_hold}
use Rattle.crash_safety_laws.specs.sb_codec_the_Sb.{Sb}
use Rattle.crash_safety_laws.specs.raid_types_Sectors.{IsSector}
use Rattle.crash_safety_laws.specs.sb_specs_the_Members.{Members}
use Rattle.crash_safety_laws.specs.sb_specs_Reading.{Scope, is_clean, is_reshaping, is_backward, shape_of, final_shape, list_length, next_window, data_offset_of}
use Rattle.crash_safety_laws.specs.stripe_row_Rows.{reading_of, held_slot}
use Rattle.crash_safety_laws.specs.stripe_list_Full.{RowStands}
use Rattle.crash_safety_laws.proofs.stripe_list_FullLaws.{full-same, places-are-full}
use Rattle.crash_safety_laws.specs.history_ActiveSection.{section_for}
use Rattle.crash_safety_laws.specs.history_Stands.{shape_for}
use Rattle.crash_safety_laws.specs.crash_views_Regions.{backup_of, header_in, place_by, ArePlaced, DoWithout}
use Rattle.crash_safety_laws.specs.crash_views_Views.{Disk, Ledger, IsTail, IsViewRight}
use Rattle.crash_safety_laws.specs.crash_views_Windows.{HasNoSection}
use Rattle.crash_safety_laws.specs.Updates.{IsAtEnd}
use Rattle.crash_reshape_laws.specs.Ends.{IsKeptSlot, AreRolesKept, ArePlacesAlike, IsToldWith, IsEnded, IsGrown, EndsAreRight, EndsAreSeenRight}
use Rattle.crash_safety_laws.proofs.crash_views_Alike.{role-in-shape}
use Rattle.crash_safety_laws.proofs.crash_views_Stands.{for-still, list-still}
use Rattle.crash_safety_laws.proofs.LessViews.{ends-place, updates-seen}
use Rattle.crash_safety_laws.proofs.crash_views_UnderWay.{under-way}
use Rattle.crash_safety_laws.proofs.crash_views_Tails.{some-listed, first, listed, same-row}
use Rattle.crash_reshape_laws.proofs.EndLaws.{row-alike, same-placed, outside-none, clean-too, alike-plans, still-plain}

-- ---- the end has no window left

end-none : (newest : Sb) → is_reshaping newest ≡ true → IsAtEnd newest → next_window newest ≡ None
end-none newest active last =
    ap (λ (b : Bool). cond b (window (shape_of newest) (final_shape newest) newest.size (is_backward newest) newest.reshape_position) None) active
    ∙ of (is_backward newest) last
  where
    of : (back : Bool) → newest.reshape_position ≡ cond back 0 (list_length newest) → window (shape_of newest) (final_shape newest) newest.size back newest.reshape_position ≡ None
    of true is = ap (λ (b : Bool). cond b None (Some (record { lo = ((newest.reshape_position - 1) / unit (shape_of newest) (final_shape newest)) * unit (shape_of newest) (final_shape newest); hi = newest.reshape_position })))
        (zero-is newest.reshape_position is)
      where
        zero-is : (p : ℕ) → p ≡ 0 → (p == 0) ≡ true
        zero-is p z = grind (arith, nat_tests, z)
    of false is = ap (λ (b : Bool). cond b None (Some (record { lo = newest.reshape_position; hi = min (newest.reshape_position + unit (shape_of newest) (final_shape newest)) (list_end (shape_of newest) (final_shape newest) newest.size) })))
        (le-true (list_length newest) newest.reshape_position (omega (arith, is)))
      where
        le-true : (a b : ℕ) → a ≤ b → nat_le a b ≡ true
        le-true a b le = grind (arith, nat_tests, le)

pub end-plain : (scope : Scope) (m : Members) (d : Disk) → is_reshaping m.newest ≡ true → IsAtEnd m.newest → HasNoSection scope m d
end-plain scope m d active last header may = ap (section_for scope (λ s k. header) scope.backup) (end-none m.newest active last) ∙ of scope.backup
  where
    of : (backup : Option ℕ) → section_for scope (λ s k. header) backup None ≡ None
    of (Some b) = refl
    of None = refl

-- ---- rows by another list

pub row-list : (m : Members) (c : Contents) (shape : Shape) (list list' : ℕ → Sector) (row : ℕ) → IsTrue (is_valid_shape shape) → ((y : ℕ) → (place shape y).row ≡ row → list' y ≡ list y)
    → RowStands (reading_of m) c shape list row → RowStands (reading_of m) c shape list' row
row-list m c shape list list' row valid same stands = record {
  whole = λ y at. subst IsSector (sym (same y at)) (stands.whole y at);
  sectors = λ role slot lt part held. stands.sectors role slot lt part held ∙ full-same shape list list' row valid same role lt;
  parity = λ role slot lt part held. stands.parity role slot lt part held ∙ full-same shape list list' row valid same role lt;
}

-- sectors of one row are in one stripe
pub one-stripe : (shape : Shape) → IsTrue (is_valid_shape shape) → (x y : ℕ) → (place shape x).row ≡ (place shape y).row → stripe_of shape x ≡ stripe_of shape y
one-stripe shape valid x y same = sym (stripe_of-row shape valid x) ∙ ap (λ (r : ℕ). r / shape.chunk) same ∙ stripe_of-row shape valid y

-- ---- numbers, and zeros

pub zero-is-sector : IsSector zero_sector
unfolding zero_sector
zero-is-sector = record {
  whole = length-replicate {A = ℕ} 512 0;
  bytes = λ at. elim (cases_lt at 512) [
    | inl below ↦ subst (λ (x : ℕ). x < 256) (sym (get_or-replicate 512 at 0 0 below)) (omega arith)
    | inr past ↦ subst (λ (x : ℕ). x < 256) (sym (get_or_past zero_sector at 0 (let long = length-replicate {A = ℕ} 512 0 in omega (arith, long, past)))) (omega arith)
  ];
}

module _ (shape : Shape) (valid : IsTrue (is_valid_shape shape)) (n : ℕ) (some : 0 < n) where
  stripe-grows : (a b : ℕ) → a ≤ b → stripe_of shape a ≤ stripe_of shape b
  stripe-grows a b le = floor_grows (a / shape.chunk) (b / shape.chunk) (data_disks shape) (data_some shape valid) (floor_grows a b shape.chunk (chunk_some shape valid) le)

  -- one in the stripe of a listed sector is in the last stripe
  pub between : (x y : ℕ) → x < n → n ≤ y → stripe_of shape x ≡ stripe_of shape y → stripe_of shape y ≡ stripe_of shape (n - 1)
  between x y below past same =
      let low = stripe-grows x (n - 1) (omega (arith, below)) in
      let high = stripe-grows (n - 1) y (omega (arith, past)) in
      omega (arith, low, high, same)

  pub past-or-tail : (x : ℕ) → n ≤ x → (stripe_of shape x ≡ stripe_of shape (n - 1)) ⊎ ((rows shape 0 n).hi ≤ (place shape x).row)
  past-or-tail x past = elim (cases_lt (stripe_of shape (n - 1)) (stripe_of shape x)) [
    | inl less ↦ inr (
        let b = bounded shape valid in
        let ps : 0 < stripe_sectors shape = omega (arith, b.some_stripe) in
        let t : stripe_of shape (n - 1) ≡ (n - 1) / stripe_sectors shape = div-div-eq-div-mul (n - 1) shape.chunk (data_disks shape) in
        let q = quotient (n - 1) (stripe_sectors shape) ps in
        let next : (n - 1) / stripe_sectors shape * stripe_sectors shape + stripe_sectors shape ≤ stripe_of shape x * stripe_sectors shape =
        next_multiple ((n - 1) / stripe_sectors shape) (stripe_of shape x) (stripe_sectors shape) (omega (arith, less, t)) in
        let few : ceiling n (stripe_sectors shape) ≤ stripe_of shape x = ceiling_le n (stripe_sectors shape) (stripe_of shape x) ps (omega (arith, next, q.1, some)) in
        let le : ceiling n (stripe_sectors shape) * shape.chunk ≤ stripe_of shape x * shape.chunk = mul-le-mul_right shape.chunk few in
        omega (arith, le))
    | inr more ↦ inl (let high = stripe-grows (n - 1) x (omega (arith, past)) in omega (arith, more, high))
  ]

  -- a row past those of the list has no listed sector
  pub past-apart : (row y : ℕ) → (rows shape 0 n).hi ≤ row → (place shape y).row ≡ row → n ≤ y
  past-apart row y past at = elim (cases_lt y n) [
    | inl below ↦ absurd (let h = (rows_hold shape (record { lo = 0; hi = n }) y valid (omega arith, below)).1 in omega (arith, h, past, at))
    | inr more ↦ more
  ]

-- ---- the plan

module _ (scope : Scope) (given : Given) (before after : Ledger) (m plan : Members) (d : Disk) (ended : IsEnded m plan) (placed : ArePlaced scope given plan) (told : IsToldWith before after plan) where
  pub after-is : (x : ℕ) → shape_for plan.newest x ≡ final_shape m.newest
  after-is x = for-still plan.newest ended.still x ∙ ended.shape

  pub before-is : (x : ℕ) → x < list_length m.newest → shape_for m.newest x ≡ final_shape m.newest
  before-is x lt = (ends-place m.newest x ended.active lt).1 ended.last

  long-is : list_length plan.newest ≡ data_disks (final_shape m.newest) * m.newest.size
  long-is = list-still plan.newest ended.still ∙ (λ i. data_disks (ended.shape i) * ended.size i)

  module _ (sound : Type 0) (right : IsViewRight sound scope given before m d) where
    -- no longer list
    short : is_backward m.newest ≡ true → list_length plan.newest ≤ list_length m.newest
    short back =
        let le : data_disks (final_shape m.newest) ≤ data_disks (shape_of m.newest) = subst (IsDirected (shape_of m.newest) (final_shape m.newest)) back (under-way m.newest right.placed.fit ended.active).directed in
        let same : data_disks (final_shape m.newest) ≡ min (data_disks (shape_of m.newest)) (data_disks (final_shape m.newest)) = omega (arith, le) in
        let both : data_disks (final_shape m.newest) * m.newest.size ≡ list_length m.newest = ap (λ (k : ℕ). k * m.newest.size) same in
        let long = long-is in
        omega (arith, long, both)

    alike : list_length plan.newest ≤ list_length m.newest → ArePlacesAlike m plan
    alike within = record {
      within = within;
      shapes = λ x lt. same-placed (shape_for m.newest x) (shape_for plan.newest x) (after-is x ∙ sym (before-is x (omega (arith, lt, within))));
      kept = λ x lt. subst (λ (s : Shape). AreRolesKept m plan s.disks (shape_for plan.newest x).disks) (sym (before-is x (omega (arith, lt, within))))
          (subst (λ (s : Shape). AreRolesKept m plan (final_shape m.newest).disks s.disks) (sym (after-is x)) ended.kept);
    }

    short-right : is_backward m.newest ≡ true → IsViewRight sound scope given after plan d
    short-right back = alike-plans sound scope given before after m plan d (record {
      alike = alike (short back);
      placed = placed;
      told = told;
      clean = ended.clean;
      former = end-plain scope m d ended.active ended.last;
      plain = still-plain scope plan d ended.still;
      without = ended.without;
      headers = λ active. absurd (let still = ended.still in cc);
      tails = λ x tail. absurd (let still = ended.still in let active = tail.active in cc);
    }) right

    -- a longer one
    module _ (grown : IsGrown after m plan d) where
      valid : IsTrue (is_valid_shape (final_shape m.newest))
      valid = right.placed.fit.valid.final

      some : 0 < list_length m.newest
      some = some-listed m.newest right.placed.fit

      through : m.newest.reshape_position ≡ list_length m.newest
      through = ended.last ∙ ap (λ (b : Bool). cond b 0 (list_length m.newest)) grown.forth

      tail-of : (x : ℕ) → list_length m.newest ≤ x → stripe_of (final_shape m.newest) x ≡ stripe_of (final_shape m.newest) (list_length m.newest - 1) → IsTail m.newest x
      tail-of x past stripe = record { active = ended.active; forth = grown.forth; through = through; past = past; stripe = stripe }

      value : (x : ℕ) (v : Sector) → x < list_length plan.newest → (x < list_length m.newest → IsIn (before.values x) v) → (list_length m.newest ≤ x → v ≡ zero_sector) → IsIn (after.values x) v
      value x v lt was zero_is = elim (cases_lt x (list_length m.newest)) [
        | inl below ↦ told.values x v (let s = right.sized in omega (arith, below, s)) (let s = told.sized in omega (arith, lt, s)) (was below)
        | inr past ↦ subst (IsIn (after.values x)) (sym (zero_is past)) (grown.zeros x past lt)
      ]

      -- the list, and zeros behind it
      abbrev longer : (ℕ → Sector) → ℕ → Sector
      longer list x = cond (nat_lt x (list_length m.newest)) (list x) zero_sector

      longer-below : (list : ℕ → Sector) (x : ℕ) → x < list_length m.newest → longer list x ≡ list x
      longer-below list x lt = ap (λ (b : Bool). cond b (list x) zero_sector) (less x (list_length m.newest) lt)
        where
          less : (a b : ℕ) → a < b → nat_lt a b ≡ true
          less a b h = grind (arith, nat_tests, h)

      longer-past : (list : ℕ → Sector) (x : ℕ) → list_length m.newest ≤ x → longer list x ≡ zero_sector
      longer-past list x le = ap (λ (b : Bool). cond b (list x) zero_sector) (more x (list_length m.newest) le)
        where
          more : (a b : ℕ) → b ≤ a → nat_lt a b ≡ false
          more a b h = grind (arith, nat_tests, h)

      header-of : (c : Contents) → IsDrawn d c → IsIn (d (backup_of scope) 0) (header_in scope c)
      header-of c drawn = drawn (backup_of scope) 0

      module _ (clean : is_clean m.newest ≡ true) (few : DoWithout m) (premise : sound) (c : Contents) (drawn : IsDrawn d c) where
        -- the row of a listed sector
        listed-row : (x : ℕ) → x < list_length m.newest → RowStands (reading_of m) c (final_shape m.newest) (longer ((right.settled clean few premise).list)) (place (final_shape m.newest) x).row
        listed-row x below =
            let s = right.settled clean few premise in
            row-list m c (final_shape m.newest) s.list (longer s.list) (place (final_shape m.newest) x).row valid
            (λ y at. elim (cases_lt y (list_length m.newest)) [
              | inl inside ↦ longer-below s.list y inside
              | inr past ↦ (
                  let same = one-stripe (final_shape m.newest) valid y x at in
                  let last = between (final_shape m.newest) valid (list_length m.newest) some x y below past (sym same) in
                  longer-past s.list y past ∙ sym (s.zeros y (tail-of y past last)))
            ])
            (subst (λ (f : Shape). RowStands (reading_of m) c f s.list (place f x).row) (before-is x below)
            (s.rows c drawn x (outside-none scope m d (end-plain scope m d ended.active ended.last) (header_in scope c) (header-of c drawn) x below)))

        -- a row past those of the list
        past-row : (row : ℕ) → (rows (final_shape m.newest) 0 (list_length m.newest)).hi ≤ row → RowStands (reading_of m) c (final_shape m.newest) (longer ((right.settled clean few premise).list)) row
        past-row row past =
            let s = right.settled clean few premise in
            row-list m c (final_shape m.newest) (λ x. zero_sector) (longer s.list) row valid
            (λ y at. longer-past s.list y (past-apart (final_shape m.newest) valid (list_length m.newest) some row y past at))
            (record {
              whole = λ y at. zero-is-sector;
              sectors = λ role slot lt part held. grown.zeroed role row slot lt past held (c slot (data_offset_of (reading_of m) slot + row)) (drawn slot (data_offset_of (reading_of m) slot + row));
              parity = λ role slot lt part held. grown.zeroed role row slot lt past held (c slot (data_offset_of (reading_of m) slot + row)) (drawn slot (data_offset_of (reading_of m) slot + row));
            })

        each-row : (x : ℕ) → RowStands (reading_of m) c (final_shape m.newest) (longer ((right.settled clean few premise).list)) (place (final_shape m.newest) x).row
        each-row x = elim (cases_lt x (list_length m.newest)) [
          | inl below ↦ listed-row x below
          | inr past ↦ elim (past-or-tail (final_shape m.newest) valid (list_length m.newest) some x past) [
            | inl last ↦ (
                let tail = tail-of x past last in
                subst (RowStands (reading_of m) c (final_shape m.newest) (longer ((right.settled clean few premise).list))) (same-row m.newest right.placed.fit x tail)
                (listed-row (first m.newest right.placed.fit x tail) (listed m.newest right.placed.fit x tail)))
            | inr far ↦ past-row (place (final_shape m.newest) x).row far
          ]
        ]

      -- what a holder has at the place of a sector
      module _ (x slot : ℕ) (lt : x < list_length plan.newest) (held : held_slot (reading_of plan) (place_by plan.newest x).role (place_by plan.newest x).row ≡ Some slot) where
        at-final : (place_by plan.newest x) ≡ place (final_shape m.newest) x
        at-final = ap (λ (s : Shape). place s x) (after-is x)

        kept : IsKeptSlot m plan (final_shape m.newest).disks (place_by plan.newest x).role (place_by plan.newest x).row slot
        kept = ended.kept (place_by plan.newest x).role (place_by plan.newest x).row slot (subst (λ (s : Shape). (place_by plan.newest x).role < s.disks) (after-is x) (role-in-shape plan.newest placed.fit x)) held

        held-final : held_slot (reading_of m) (place (final_shape m.newest) x).role (place (final_shape m.newest) x).row ≡ Some slot
        held-final = subst (λ (p : Place). held_slot (reading_of m) p.role p.row ≡ Some slot) at-final kept.held

        sector-final : data_offset_of (reading_of plan) slot + (place_by plan.newest x).row ≡ data_offset_of (reading_of m) slot + (place (final_shape m.newest) x).row
        sector-final = ap₂ (λ (a b : ℕ). a + b) kept.offset (ap (λ (p : Place). p.row) at-final)

        module _ (v : Sector) (is : IsIn (d slot (data_offset_of (reading_of plan) slot + (place_by plan.newest x).row)) v) where
          here : IsIn (d slot (data_offset_of (reading_of m) slot + (place (final_shape m.newest) x).row)) v
          here = subst (λ (k : ℕ). IsIn (d slot k) v) sector-final is

          was : (header : Sector) → IsIn (d (backup_of scope) 0) header → x < list_length m.newest → IsIn (before.values x) v
          was header may below =
              let out = outside-none scope m d (end-plain scope m d ended.active ended.last) header may x below in
              let same = before-is x below in
              right.held header may x slot out (subst (λ (s : Shape). held_slot (reading_of m) (place s x).role (place s x).row ≡ Some slot) (sym same) held-final) v
              (subst (λ (s : Shape). IsIn (d slot (data_offset_of (reading_of m) slot + (place s x).row)) v) (sym same) here)

          zero-is : list_length m.newest ≤ x → v ≡ zero_sector
          zero-is past = elim (past-or-tail (final_shape m.newest) valid (list_length m.newest) some x past) [
            | inl last ↦ grown.tails x slot (tail-of x past last) held-final v here
            | inr far ↦ grown.zeroed (place (final_shape m.newest) x).role (place (final_shape m.newest) x).row slot
                (place-role_below (final_shape m.newest) valid x) far held-final v here
                ∙ places-are-full (final_shape m.newest) (λ x. zero_sector) x valid
          ]

      grown-right : IsViewRight sound scope given after plan d
      grown-right = record {
        placed = placed;
        sized = told.sized;
        gone = told.gone;
        unclean = λ dirty. told.unclean (right.unclean (clean-too m plan ended.clean ∙ dirty));
        reshaping = told.reshaping;
        held = λ header may x slot outside holds v is. value x v outside.within (was x slot outside.within holds v is header may) (zero-is x slot outside.within holds v is);
        sections = λ header may span active x low high v is. absurd (let none = still-plain scope plan d ended.still header may in cc);
        settled = λ clean few premise. (
            let clean' = clean-too m plan ended.clean ∙ clean in
            let few' = ended.without few in
            let s = right.settled clean' few' premise in
            record {
              list = longer s.list;
              allowed = λ x lt. value x (longer s.list x) lt
                  (λ below. subst (IsIn (before.values x)) (sym (longer-below s.list x below)) (s.allowed x below))
                  (longer-past s.list x);
              rows = λ c drawn x outside. subst (λ (f : Shape). RowStands (reading_of plan) c f (longer s.list) (place f x).row) (sym (after-is x))
                  (row-alike m plan c (final_shape m.newest) (final_shape m.newest) (longer s.list) (place (final_shape m.newest) x).row
                  (same-placed (final_shape m.newest) (final_shape m.newest) refl) ended.kept (each-row clean' few' premise c drawn x));
              zeros = λ x tail. absurd (let still = ended.still in let active = tail.active in cc);
            });
        headers = λ active premise. absurd (let still = ended.still in cc);
        tails = λ premise x slot tail. absurd (let still = ended.still in let active = tail.active in cc);
      }

pub ends : (sound : Type 0) → EndsAreRight sound
ends sound scope given before after m plan d ended placed told (inl back) right = short-right scope given before after m plan d ended placed told sound right back
ends sound scope given before after m plan d ended placed told (inr grown) right = grown-right scope given before after m plan d ended placed told sound right grown

pub ends-seen : (sound : Type 0) → EndsAreSeenRight sound
ends-seen sound scope given before after m plan d e c ended placed told way some updating right reads =
    updates-seen sound scope given before after m plan d e c some updating right (ends sound scope given before after m plan d ended placed told way right) reads
