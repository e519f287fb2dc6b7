-- Level 6 over level 5 places each sector alike, and has the same P.
use Rattle.std.proofs.Common.{◌≡◌, inl, inr, ℕ, ◌+◌, ◌-◌, ◌*◌, ◌/◌, ◌%◌, ◌<◌, ◌≤◌, ◌==◌, ◌&&◌, nat_le, nat_lt, Bool, true, false, not, cond, eqb-true, List, length, get_or, Some, None, refl, sym, ◌∙◌, ap, ap₂, subst, arith}
use Rattle.std.specs.Prelude.{IsTrue}
use Rattle.std.specs.Int.Bits.{bit_xor, xor_zero_r}
use Rattle.std.proofs.lemmas.Bool.{and_parts, cases_lt}
use Rattle.std.proofs.lemmas.Bool.Decides.{nat_tests}
use Rattle.std.proofs.lemmas.List.{ext_get_or}
use Rattle.std.proofs.Math.Nat.{mod-eq_of_lt}
use Rattle.crash_safety_laws.specs.raid_types_the_Shape.{Shape}
use Rattle.crash_safety_laws.specs.raid_types_the_Place.{Place}
use Rattle.crash_safety_laws.specs.raid_types_the_RowRoles.{RowRoles}
use Rattle.crash_safety_laws.specs.raid_types_Search.{tabulate}
use Rattle.crash_safety_laws.specs.raid_types_Sectors.{Sector}
use Rattle.crash_safety_laws.specs.raid_types_Shapes.{data_disks, is_valid_shape}
use Rattle.crash_safety_laws.proofs.raid_types_Tabulated.{get_or-tabulate}
use Rattle.crash_safety_laws.specs.raid_gf256_Field.{product}
use Rattle.crash_safety_laws.specs.reshape_plan_Plans.{as_six, taken_up}
use Rattle.crash_safety_laws.specs.raid_layout_Layout.{place, row_roles, stripe_of, data_index, stripe_p, stripe_q, stripe_data, p_role, data_role, is_six_over_five}
use Rattle.crash_safety_laws.proofs.raid_layout_Limits.{limited}
use Rattle.crash_safety_laws.proofs.raid_layout_Places.{data_index-below, row_roles-p_below}
use Rattle.crash_safety_laws.specs.raid_parity_Exponents.{is_data, is_this_q}
use Rattle.crash_safety_laws.specs.raid_parity_Parity.{p_byte, p_holds, q_holds}
use Rattle.crash_safety_laws.proofs.raid_parity_Columns.{bool_cases, weighed, weighed-is, data_sum-tabulate, total-more}
use Rattle.crash_safety_laws.proofs.raid_parity_Totals.{total, total-same}
use Rattle.crash_safety_laws.proofs.raid_parity_Contents.{filled-whole}
use Rattle.crash_safety_laws.specs.stripe_row_Writes.{is_parity, IsGoodRow}
use Rattle.crash_safety_laws.specs.stripe_list_Full.{full_sector, AreWholeIn}
use Rattle.crash_safety_laws.proofs.stripe_list_FullLaws.{full-data, full-good, sector_there}
use Rattle.crash_reshape_laws.specs.Takeovers.{TakenUpIsPlacedAlike}

-- ---- what the two shapes have in common

pub record IsOver (five six : Shape) : Type 0 where
  pub chunk : six.chunk ≡ five.chunk
  pub disks : six.disks ≡ five.disks + 1
  pub deep : data_disks six ≡ data_disks five
  pub p : (s : ℕ) → stripe_p six s ≡ stripe_p five s
  pub q : (s : ℕ) → stripe_q six s ≡ Some five.disks
  pub none : (s : ℕ) → stripe_q five s ≡ None
  pub role : (s i : ℕ) → i < data_disks five → stripe_data six s i ≡ stripe_data five s i

le-true : (a b : ℕ) → a ≤ b → nat_le a b ≡ true
le-true a b h = grind (arith, nat_tests, h)

le-false : (a b : ℕ) → b < a → nat_le a b ≡ false
le-false a b h = grind (arith, nat_tests, h)

lt-false : (a b : ℕ) → b ≤ a → nat_lt a b ≡ false
lt-false a b h = grind (arith, nat_tests, h)

-- a layout of Q on the last disk
module _ (layout chunk disks : ℕ) (few : layout ≤ 4) (some : 2 ≤ disks) where
  over : is_six_over_five (record { level = 6; layout = layout + 16; chunk = chunk; disks = disks + 1 }) ≡ true
  over = ap (λ (b : Bool). true && b) (le-true 16 (layout + 16) (omega arith))

  lay : layout + 16 - 16 ≡ layout
  lay = omega arith

  fewer : disks + 1 - 1 ≡ disks
  fewer = omega arith

  data-same : disks + 1 - 2 ≡ disks - 1
  data-same = omega arith

  one : disks - (disks - 1) ≡ 1
  one = omega (arith, some)

  p-same : (s : ℕ) → stripe_p (record { level = 6; layout = layout + 16; chunk = chunk; disks = disks + 1 }) s ≡ p_role layout disks (disks - 1) s
  p-same s = ap (λ (b : Bool). cond b (p_role (layout + 16 - 16) (disks + 1 - 1) (disks + 1 - 2) s) (p_role (layout + 16) (disks + 1) (disks + 1 - 2) s)) over
      ∙ (λ i. p_role (lay i) (fewer i) (data-same i) s)

  pub is-over : IsOver (record { level = 5; layout = layout; chunk = chunk; disks = disks }) (record { level = 6; layout = layout + 16; chunk = chunk; disks = disks + 1 })
  is-over = record {
    chunk = refl;
    disks = refl;
    deep = data-same;
    p = p-same;
    q = λ s. ap (λ (b : Bool). Some (cond b (disks + 1 - 1) ((stripe_p (record { level = 6; layout = layout + 16; chunk = chunk; disks = disks + 1 }) s + 1) % (disks + 1)))) over ∙ ap (λ (n : ℕ). Some n) fewer;
    none = λ s. refl;
    role = λ s i lt. ap (λ (b : Bool). cond b (data_role (layout + 16 - 16) (disks + 1 - 1) 1 (stripe_p (record { level = 6; layout = layout + 16; chunk = chunk; disks = disks + 1 }) s) i)
        (data_role (layout + 16) (disks + 1) (disks + 1 - (disks + 1 - 2)) (stripe_p (record { level = 6; layout = layout + 16; chunk = chunk; disks = disks + 1 }) s) i)) over
        ∙ (λ j. data_role (lay j) (fewer j) (sym one j) (p-same s j) i);
  }

-- the layout of parity last, where Q is behind P
module _ (chunk disks : ℕ) (some : 2 ≤ disks) where
  pub is-last : IsOver (record { level = 5; layout = 5; chunk = chunk; disks = disks }) (record { level = 6; layout = 5; chunk = chunk; disks = disks + 1 })
  is-last = record {
    chunk = refl;
    disks = refl;
    deep = omega arith;
    p = λ s. p-last;
    q = λ s. ap (λ (n : ℕ). Some n) (ap (λ (p : ℕ). (p + 1) % (disks + 1)) p-last ∙ ap (λ (n : ℕ). n % (disks + 1)) around ∙ mod-eq_of_lt (omega arith));
    none = λ s. refl;
    role = λ s i lt.
        (ap (λ (b : Bool). cond b (i + (disks + 1 - 2 + (disks + 1 - (disks + 1 - 2)) - (disks + 1))) (cond (nat_le (disks + 1 - 2) i) (i + (disks + 1 - (disks + 1 - 2))) i)) (lt-false (disks + 1) (disks + 1 - 2 + (disks + 1 - (disks + 1 - 2))) (omega (arith, some)))
        ∙ ap (λ (b : Bool). cond b (i + (disks + 1 - (disks + 1 - 2))) i) (le-false (disks + 1 - 2) i (omega (arith, lt))))
        ∙ sym (ap (λ (b : Bool). cond b (i + (disks - 1 + (disks - (disks - 1)) - disks)) (cond (nat_le (disks - 1) i) (i + (disks - (disks - 1))) i)) (lt-false disks (disks - 1 + (disks - (disks - 1))) (omega (arith, some)))
        ∙ ap (λ (b : Bool). cond b (i + (disks - (disks - 1))) i) (le-false (disks - 1) i lt));
  }
    where
      p-last : disks + 1 - 2 ≡ disks - 1
      p-last = omega arith

      around : disks - 1 + 1 ≡ disks
      around = omega (arith, some)

-- ---- places and P

module _ (five six : Shape) (v : IsTrue (is_valid_shape five)) (w : IsTrue (is_valid_shape six)) (over : IsOver five six) where
  stripe-same : (x : ℕ) → stripe_of six x ≡ stripe_of five x
  stripe-same x i = (x / over.chunk i) / over.deep i

  index-same : (x : ℕ) → data_index six x ≡ data_index five x
  index-same x i = (x / over.chunk i) % over.deep i

  pub places : (x : ℕ) → place six x ≡ place five x
  places x =
      let role : stripe_data six (stripe_of six x) (data_index six x) ≡ stripe_data five (stripe_of five x) (data_index five x) =
      ap₂ (λ (s j : ℕ). stripe_data six s j) (stripe-same x) (index-same x) ∙ over.role (stripe_of five x) (data_index five x) (data_index-below five v x) in
      let row : stripe_of six x * six.chunk + x % six.chunk ≡ stripe_of five x * five.chunk + x % five.chunk = (λ i. stripe-same x i * over.chunk i + x % over.chunk i) in
      λ i. record { role = role i; row = row i }

  module _ (list : ℕ → Sector) (row : ℕ) (whole : AreWholeIn five list row) where
    roles-five : row_roles five row ≡ record { disks = five.disks; p = stripe_p five (row / five.chunk); q = None }
    roles-five i = record { disks = five.disks; p = stripe_p five (row / five.chunk); q = over.none (row / five.chunk) i }

    roles-six : row_roles six row ≡ record { disks = five.disks + 1; p = stripe_p five (row / five.chunk); q = Some five.disks }
    roles-six =
        let p : stripe_p six (row / six.chunk) ≡ stripe_p five (row / five.chunk) = ap (λ (k : ℕ). stripe_p six (row / k)) over.chunk ∙ over.p (row / five.chunk) in
        let q : stripe_q six (row / six.chunk) ≡ Some five.disks = over.q (row / six.chunk) in
        let d : six.disks ≡ five.disks + 1 = over.disks in
        λ i. record { disks = d i; p = p i; q = q i }

    p-is : (row_roles six row).p ≡ (row_roles five row).p
    p-is = ap (λ (r : RowRoles). r.p) (roles-six ∙ refl) ∙ sym (ap (λ (r : RowRoles). r.p) roles-five)

    -- a role of the five has data in both, or in neither
    data-alike : (r : ℕ) → r < five.disks → is_data (row_roles six row) r ≡ is_data (row_roles five row) r
    data-alike r lt = ap (λ (roles : RowRoles). is_data roles r) roles-six
        ∙ ap (λ (b : Bool). not (r == stripe_p five (row / five.chunk)) && not b) (apart five.disks r lt)
        ∙ sym (ap (λ (roles : RowRoles). is_data roles r) roles-five)
      where
        apart : (a b : ℕ) → b < a → (a == b) ≡ false
        apart a b lt = grind (arith, nat_tests, lt)

    -- and the last role of the six has none
    last-none : is_data (row_roles six row) five.disks ≡ false
    last-none = ap (λ (roles : RowRoles). is_data roles five.disks) roles-six ∙ ap (λ (b : Bool). not (five.disks == stripe_p five (row / five.chunk)) && not b) (own five.disks) ∙ both (not (five.disks == stripe_p five (row / five.chunk)))
      where
        own : (a : ℕ) → (a == a) ≡ true
        own a = grind (arith, nat_tests)

        both : (b : Bool) → (b && false) ≡ false
        both true = refl
        both false = refl

    whole-six : AreWholeIn six list row
    whole-six x at = whole x (ap (λ (p : Place). p.row) (sym (places x)) ∙ at)

    -- a data role is full alike
    data-full : (role : ℕ) → role < five.disks → is_parity (row_roles five row) role ≡ false → full_sector six list row role ≡ full_sector five list row role
    data-full role lt here =
        let found = sector_there five role row v lt here in
        full-data six list role row found.0 w (places found.0 ∙ found.1) ∙ sym (full-data five list role row found.0 v found.1)

    -- P of a good row is the sum of its data
    p-sum : (shape : Shape) → IsTrue (is_valid_shape shape) → (f : ℕ → Sector) → IsGoodRow (row_roles shape row) f → (at : ℕ) → at < 512
        → total shape.disks (weighed (λ role. 1) (row_roles shape row) (λ r. get_or (f r) at 0)) ≡ get_or (f (row_roles shape row).p) at 0
    p-sum shape valid f good at lt =
        let both : (p_holds (row_roles shape row) (tabulate shape.disks (λ r. get_or (f r) at 0)) && q_holds (row_roles shape row) (tabulate shape.disks (λ r. get_or (f r) at 0))) ≡ true =
        sym (ap (λ (c : List ℕ). p_holds (row_roles shape row) c && q_holds (row_roles shape row) c) (filled-whole (row_roles shape row) shape.disks f at lt)) ∙ good.good at lt in
        let p = (and_parts (p_holds (row_roles shape row) (tabulate shape.disks (λ r. get_or (f r) at 0))) (q_holds (row_roles shape row) (tabulate shape.disks (λ r. get_or (f r) at 0))) both).0 in
        sym (data_sum-tabulate (λ role. 1) (row_roles shape row) shape.disks (λ r. get_or (f r) at 0))
        ∙ eqb-true (p_byte (row_roles shape row) (tabulate shape.disks (λ r. get_or (f r) at 0))) (get_or (tabulate shape.disks (λ r. get_or (f r) at 0)) (row_roles shape row).p 0) p
        ∙ get_or-tabulate shape.disks (λ r. get_or (f r) at 0) (row_roles shape row).p 0 (row_roles-p_below shape valid row)

    good5 : IsGoodRow (row_roles five row) (full_sector five list row)
    good5 = full-good five list row v whole

    good6 : IsGoodRow (row_roles six row) (full_sector six list row)
    good6 = full-good six list row w whole-six

    sums-same : (at : ℕ) → total six.disks (weighed (λ role. 1) (row_roles six row) (λ r. get_or (full_sector six list row r) at 0))
        ≡ total five.disks (weighed (λ role. 1) (row_roles five row) (λ r. get_or (full_sector five list row r) at 0))
    sums-same at =
        ap (λ (k : ℕ). total k (weighed (λ role. 1) (row_roles six row) (λ r. get_or (full_sector six list row r) at 0))) over.disks
        ∙ total-more five.disks (weighed (λ role. 1) (row_roles six row) (λ r. get_or (full_sector six list row r) at 0))
        ∙ ap (bit_xor (total five.disks (weighed (λ role. 1) (row_roles six row) (λ r. get_or (full_sector six list row r) at 0))))
        (weighed-is (λ role. 1) (row_roles six row) (λ r. get_or (full_sector six list row r) at 0) five.disks
        ∙ ap (λ (b : Bool). cond b (product 1 (get_or (full_sector six list row five.disks) at 0)) 0) last-none)
        ∙ xor_zero_r (total five.disks (weighed (λ role. 1) (row_roles six row) (λ r. get_or (full_sector six list row r) at 0)))
        ∙ total-same five.disks (weighed (λ role. 1) (row_roles six row) (λ r. get_or (full_sector six list row r) at 0)) (weighed (λ role. 1) (row_roles five row) (λ r. get_or (full_sector five list row r) at 0))
        (λ r lt. weighed-is (λ role. 1) (row_roles six row) (λ r. get_or (full_sector six list row r) at 0) r
        ∙ ap (λ (b : Bool). cond b (product 1 (get_or (full_sector six list row r) at 0)) 0) (data-alike r lt)
        ∙ elim (bool_cases (is_data (row_roles five row) r)) [
          | inl here ↦ ap (λ (s : Sector). cond (is_data (row_roles five row) r) (product 1 (get_or s at 0)) 0) (data-full r lt (ap not here))
          | inr other ↦ ap (λ (b : Bool). cond b (product 1 (get_or (full_sector six list row r) at 0)) 0) other ∙ sym (ap (λ (b : Bool). cond b (product 1 (get_or (full_sector five list row r) at 0)) 0) other)
        ]
        ∙ sym (weighed-is (λ role. 1) (row_roles five row) (λ r. get_or (full_sector five list row r) at 0) r))

    p-below : (row_roles five row).p < five.disks
    p-below = row_roles-p_below five v row

    p-full : full_sector six list row (row_roles five row).p ≡ full_sector five list row (row_roles five row).p
    p-full =
        let a : length (full_sector six list row (row_roles five row).p) ≡ 512 = (good6.whole (row_roles five row).p (let lt = p-below in let d = over.disks in omega (arith, lt, d))).whole in
        let b : length (full_sector five list row (row_roles five row).p) ≡ 512 = (good5.whole (row_roles five row).p p-below).whole in
        ext_get_or 0 (full_sector six list row (row_roles five row).p) (full_sector five list row (row_roles five row).p) (a ∙ sym b) (λ at lt.
        ap (λ (p : ℕ). get_or (full_sector six list row p) at 0) (sym p-is)
        ∙ sym (p-sum six w (full_sector six list row) good6 at (omega (arith, lt, a)))
        ∙ sums-same at
        ∙ p-sum five v (full_sector five list row) good5 at (omega (arith, lt, a)))

    -- a role with parity is P
    only-p : (role : ℕ) → is_parity (row_roles five row) role ≡ true → role ≡ (row_roles five row).p
    only-p role is = eqb-true role (row_roles five row).p (of (role == (row_roles five row).p) (sym (ap (λ (r : RowRoles). not (not (role == (row_roles five row).p) && not (is_this_q r.q role))) roles-five) ∙ is))
      where
        of : (b : Bool) → not (not b && true) ≡ true → b ≡ true
        of true e = refl
        of false e = absurd (cc)

    pub full-alike : (role : ℕ) → role < five.disks → full_sector six list row role ≡ full_sector five list row role
    full-alike role lt = elim (bool_cases (is_parity (row_roles five row) role)) [
      | inl parity ↦ subst (λ (r : ℕ). full_sector six list row r ≡ full_sector five list row r) (sym (only-p role parity)) p-full
      | inr other ↦ data-full role lt other
    ]

-- ---- the shape of a takeover

pub taken-over : (five : Shape) → IsTrue (is_valid_shape five) → five.level ≡ 5 → IsOver five (taken_up five)
taken-over five valid level =
    let l = limited five valid in
    elim l.layout [
      | inl small ↦ elim (cases_lt 4 five.layout) [
        | inl five-is ↦ (
            let lay : five.layout ≡ 5 = omega (arith, small, five-is) in
            let same : five ≡ record { level = 5; layout = 5; chunk = five.chunk; disks = five.disks } = (λ i. record { level = level i; layout = lay i; chunk = five.chunk; disks = five.disks }) in
            let up : taken_up five ≡ record { level = 6; layout = 5; chunk = five.chunk; disks = five.disks + 1 } = (λ i. record { level = 6; layout = as_six (lay i); chunk = five.chunk; disks = five.disks + 1 }) in
            subst (λ (a : Shape). IsOver a (taken_up five)) (sym same) (subst (IsOver (record { level = 5; layout = 5; chunk = five.chunk; disks = five.disks })) (sym up) (is-last five.chunk five.disks l.least)))
        | inr few ↦ (
            let same : five ≡ record { level = 5; layout = five.layout; chunk = five.chunk; disks = five.disks } = (λ i. record { level = level i; layout = five.layout; chunk = five.chunk; disks = five.disks }) in
            let lay : as_six five.layout ≡ five.layout + 16 = ap (λ (b : Bool). cond b (five.layout + 16) five.layout) (le-true five.layout 4 few) in
            let up : taken_up five ≡ record { level = 6; layout = five.layout + 16; chunk = five.chunk; disks = five.disks + 1 } = (λ i. record { level = 6; layout = lay i; chunk = five.chunk; disks = five.disks + 1 }) in
            subst (λ (a : Shape). IsOver a (taken_up five)) (sym same) (subst (IsOver (record { level = 5; layout = five.layout; chunk = five.chunk; disks = five.disks })) (sym up) (is-over five.layout five.chunk five.disks few l.least)))
      ]
      | inr six ↦ absurd (let s = six.0 in omega (arith, s, level))
    ]

pub taken-alike : TakenUpIsPlacedAlike
taken-alike five v w level =
    let over = taken-over five v level in (
      record { places = places five (taken_up five) v w over; full = λ list row role whole lt lt'. full-alike five (taken_up five) v w over list row whole role lt },
      record {
        places = λ x. sym (places five (taken_up five) v w over x);
        full = λ list row role whole lt lt'. sym (full-alike five (taken_up five) v w over list row (λ x at. whole x (ap (λ (p : Place). p.row) (places five (taken_up five) v w over x) ∙ at)) role lt');
      },
    )
