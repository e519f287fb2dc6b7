-- From the bytes of a row that was written to its parity and to its fill.
use Rattle.std.proofs.Common.{◌≡◌, ◌≢◌, ◌⊎◌, inl, inr, ℕ, ◌+◌, ◌*◌, ◌-◌, ◌<◌, ◌≤◌, Bool, true, false, cond, eqb, eq-eqb, ◌||◌, ◌&&◌, List, [], ◌∷◌, length, get_or, drop, Option, Some, None, sym, ap, ap₂, ◌∙◌, arith}
use Rattle.std.proofs.lemmas.Bool.{cases_eq}
use Rattle.std.proofs.lemmas.List.{ext_get_or, length-take, length-drop}
use Rattle.std.specs.Int.Bits.{bit_xor, xor_self, xor_zero_r}
use Rattle.std.specs.Option.{option_map_or}
use Rattle.raid_gf256.specs.Field.{product, power_of_two}
use Rattle.raid_gf256.proofs.FieldLaws.{product-one_l, product-lt, product_assoc, product-add_r}
use Rattle.raid_types.specs.declared.places.RowRoles.{RowRoles}
use Rattle.raid_types.specs.Search.{tabulate}
use Rattle.raid_types.proofs.Tabulated.{get_or-tabulate}
use Rattle.raid_parity.specs.Exponents.{is_q, is_data, exponent}
use Rattle.raid_parity.specs.Parity.{data_sum, p_holds, q_holds, q_holds_at, fits, filled, fill}
use Rattle.raid_parity.specs.Rows.{IsRowRoles, IsRowOf, parity_count, row_without, sector_of, byte_of, bytes_at, p_weight, q_weight}
use Rattle.raid_parity.proofs.Totals.{total-same, total-lt, put, same_xor}
use Rattle.raid_parity.proofs.Bytes.{sector_byte}
use Rattle.raid_parity.proofs.Columns.{tabulate-same, rest, rest-put, data_sum-agrees, p_rest, q_rest, p_holds-from, q_holds-from}
use Rattle.raid_parity.proofs.Solving.{plain_solved, weighted_solved}
use Rattle.raid_parity.proofs.Filling.{put_agrees, puts_agree, with_two, det, p_weight-lt, q_weight-lt}
use Rattle.raid_parity.proofs.Lacking.{lack_list, lack_list-one, lack_list-two, lacking_in-row, held, held-lacking, held-there, column-row, or_right}
use Rattle.raid_parity.proofs.Contents.{filled-unique, fill-is, fits_q, fits_p}
use Rattle.raid_parity.proofs.Columns.{bool_cases}

-- ---- sectors

pub sector_of-length : (bytes : List ℕ) (n role : ℕ) → IsRowOf n bytes → role < n → length (sector_of bytes role) ≡ 512
sector_of-length bytes n role whole lt =
    length-take (512 * role + 512 - 512 * role) (drop (512 * role) bytes) ∙ omega (arith, length-drop (512 * role) bytes)

pub sector_of-same : (old new : List ℕ) (role : ℕ) → length new ≡ length old → ((at : ℕ) → at < 512 → byte_of new role at ≡ byte_of old role at)
    → sector_of new role ≡ sector_of old role
sector_of-same old new role len same =
    let new_len = length-take (512 * role + 512 - 512 * role) (drop (512 * role) new) in
    let old_len = length-take (512 * role + 512 - 512 * role) (drop (512 * role) old) in
    ext_get_or 0 (sector_of new role) (sector_of old role) (omega (arith, new_len, old_len, length-drop (512 * role) new, length-drop (512 * role) old, len))
    (λ at lt.
    let below : at < 512 = omega (arith, lt, new_len) in
    sector_byte new role at below ∙ same at below ∙ sym (sector_byte old role at below))

bytes_of_sectors : (n : ℕ) (bytes : List ℕ) (at : ℕ) → at < 512 → tabulate n (λ r. get_or (sector_of bytes r) at 0) ≡ tabulate n (λ r. byte_of bytes r at)
bytes_of_sectors n bytes at lt = tabulate-same n (λ r. get_or (sector_of bytes r) at 0) (λ r. byte_of bytes r at) (λ r l. sector_byte bytes r at lt)

-- ---- the parity that was set

module _ (roles : RowRoles) (is : IsRowRoles roles) (old new : List ℕ)
    (data_same : (r at : ℕ) → at < 512 → is_data roles r ≡ true → byte_of new r at ≡ byte_of old r at) where
  pub p_met : ((at : ℕ) → at < 512 → byte_of new roles.p at ≡ data_sum (λ role. 1) roles 0 (bytes_at roles.disks old at))
      → (at : ℕ) → at < 512 → p_holds roles (tabulate roles.disks (λ r. get_or (sector_of new r) at 0)) ≡ true
  p_met p_set at lt =
      ap (p_holds roles) (bytes_of_sectors roles.disks new at lt)
      ∙ p_holds-from roles is (λ r. byte_of new r at) (sym (p_rest roles is (λ r. byte_of new r at))
      ∙ same_xor _ _ (data_sum-agrees (λ role. 1) roles roles.disks (λ r. byte_of new r at) (λ r. byte_of old r at) (λ r l d. data_same r at lt d) ∙ sym (p_set at lt)))

  pub q_met : (q : ℕ) → roles.q ≡ Some q
      → ((at : ℕ) → at < 512 → byte_of new q at ≡ data_sum (λ role. power_of_two (exponent roles q role)) roles 0 (bytes_at roles.disks old at))
      → (at : ℕ) → at < 512 → q_holds roles (tabulate roles.disks (λ r. get_or (sector_of new r) at 0)) ≡ true
  q_met q has_q q_set at lt =
      ap (q_holds roles) (bytes_of_sectors roles.disks new at lt)
      ∙ q_holds-from roles is (λ r. byte_of new r at) q has_q (sym (q_rest roles is (λ r. byte_of new r at) q has_q)
      ∙ same_xor _ _ (data_sum-agrees (λ role. power_of_two (exponent roles q role)) roles roles.disks (λ r. byte_of new r at) (λ r. byte_of old r at) (λ r l d. data_same r at lt d) ∙ sym (q_set at lt)))

  pub no_q_met : roles.q ≡ None → (at : ℕ) → at < 512 → q_holds roles (tabulate roles.disks (λ r. get_or (sector_of new r) at 0)) ≡ true
  no_q_met none at lt = ap (q_holds_at roles (tabulate roles.disks (λ r. get_or (sector_of new r) at 0))) none

-- ---- a solution is the fill

pub fill_solved : (roles : RowRoles) → IsRowRoles roles → (lacks : ℕ → Bool) (old new : List ℕ) → IsRowOf roles.disks new
    → ((place : ℕ) → get_or new place 0 < 256) → length (lack_list lacks roles.disks) ≤ parity_count roles
    → ((r at : ℕ) → at < 512 → lacks r ≡ false → byte_of new r at ≡ byte_of old r at)
    → ((at : ℕ) → at < 512 → fits roles (lack_list lacks roles.disks) (tabulate roles.disks (λ r. byte_of new r at)) ≡ true)
    → (m : ℕ) → m < roles.disks → sector_of new m ≡ fill roles (row_without lacks roles.disks (sector_of old)) m
fill_solved roles is lacks old new whole small few same fit m lt =
    sym (fill-is roles (row_without lacks roles.disks (sector_of old)) m (sector_of new m) (sector_of-length new roles.disks m whole lt) (λ at below.
    ap₂ (λ xs c. get_or (filled roles xs c) m 0) (lacking_in-row lacks roles.disks (sector_of old))
    (column-row lacks roles.disks (sector_of old) at below
    ∙ tabulate-same roles.disks (held lacks (λ r. get_or (sector_of old r) at 0)) (held lacks (λ r. byte_of new r at)) (λ r l. elim (bool_cases (lacks r)) [
      | inl lacking ↦ held-lacking lacks (λ r. get_or (sector_of old r) at 0) r lacking ∙ sym (held-lacking lacks (λ r. byte_of new r at) r lacking)
      | inr there ↦ held-there lacks (λ r. get_or (sector_of old r) at 0) r there ∙ sector_byte old r at below ∙ sym (same r at below there)
          ∙ sym (held-there lacks (λ r. byte_of new r at) r there)
    ]))
    ∙ ap (λ c. get_or c m 0) (filled-unique roles is lacks (λ r. byte_of new r at) (λ r l. small (512 * r + at)) few (fit at below))
    ∙ get_or-tabulate roles.disks (λ r. byte_of new r at) m 0 lt ∙ sym (sector_byte new m at below)))

pub rest-lt : (n : ℕ) (weight f : ℕ → ℕ) → ((r : ℕ) → f r < 256) → rest n weight f < 256
rest-lt n weight f small = total-lt n (λ r. product (weight r) (f r)) (λ r lt. product-lt (weight r) (f r) (small r))

-- one byte that makes an equation hold
pub solved_one : (n m : ℕ) (weight f g : ℕ → ℕ) → m < n → f m ≡ 0 → ((r : ℕ) → r < n → r ≢ m → g r ≡ f r) → weight m ≡ 1 → g m ≡ rest n weight f → rest n weight g ≡ 0
solved_one n m weight f g lt nothing same unit value =
    total-same n (λ r. product (weight r) (g r)) (λ r. product (weight r) (put f m (g m) r)) (λ r l. ap (product (weight r)) (sym (put_agrees n m f g same r l)))
    ∙ rest-put n m (g m) weight f lt nothing
    ∙ ap (bit_xor (rest n weight f)) (ap (λ u. product u (g m)) unit ∙ product-one_l (g m) ∙ value) ∙ xor_self (rest n weight f)

-- two bytes that do
pub solved_two : (n a b : ℕ) (weight f g : ℕ → ℕ) → a < n → b < n → a ≢ b → f a ≡ 0 → f b ≡ 0 → ((r : ℕ) → r < n → r ≢ a → r ≢ b → g r ≡ f r)
    → bit_xor (product (weight a) (g a)) (product (weight b) (g b)) ≡ rest n weight f → rest n weight g ≡ 0
solved_two n a b weight f g ha hb ne za zb same value =
    total-same n (λ r. product (weight r) (g r)) (λ r. product (weight r) (put (put f a (g a)) b (g b) r)) (λ r l. ap (product (weight r)) (sym (puts_agree n a b f g same r l)))
    ∙ with_two n a b (g a) (g b) weight f ha hb ne za zb ∙ ap (bit_xor (rest n weight f)) value ∙ xor_self (rest n weight f)

parity_count-pos : (roles : RowRoles) → 1 ≤ parity_count roles
parity_count-pos roles = among roles.q
  where
    among : (o : Option ℕ) → 1 ≤ option_map_or (λ q. 2) o 1
    among None = omega arith
    among (Some q) = omega arith

-- ---- one role

module _ (roles : RowRoles) (is : IsRowRoles roles) (old cleared new : List ℕ) (m : ℕ) (lt : m < roles.disks)
    (cleared_there : (at : ℕ) → at < 512 → byte_of cleared m at ≡ 0)
    (cleared_others : (r at : ℕ) → at < 512 → r ≢ m → byte_of cleared r at ≡ byte_of old r at)
    (new_others : (r at : ℕ) → at < 512 → r ≢ m → byte_of new r at ≡ byte_of cleared r at)
    (whole : IsRowOf roles.disks new) (small : (place : ℕ) → get_or new place 0 < 256)
    (value_q : is_q roles m ≡ true → (at : ℕ) → at < 512 → byte_of new m at ≡ data_sum (λ role. power_of_two (exponent roles m role)) roles 0 (bytes_at roles.disks cleared at))
    (value_other : is_q roles m ≡ false → (at : ℕ) → at < 512
    → byte_of new m at ≡ bit_xor (data_sum (λ role. 1) roles 0 (bytes_at roles.disks cleared at)) (byte_of cleared roles.p at))
    (q_of_m : is_q roles m ≡ true → (roles.q ≡ Some m) × (q_weight roles m m ≡ 1)) where
  one_fits : (at : ℕ) → at < 512 → fits roles (m ∷ []) (tabulate roles.disks (λ r. byte_of new r at)) ≡ true
  one_fits at below = elim (bool_cases (is_q roles m)) [
    | inl at_q ↦
        let has_q = (q_of_m at_q).0 in
        fits_q roles m (tabulate roles.disks (λ r. byte_of new r at)) at_q
        ∙ q_holds-from roles is (λ r. byte_of new r at) m has_q
        (solved_one roles.disks m (q_weight roles m) (λ r. byte_of cleared r at) (λ r. byte_of new r at) lt (cleared_there at below) (λ r l ne. new_others r at below ne) (q_of_m at_q).1
        (value_q at_q at below ∙ sym (xor_none (data_sum (λ role. power_of_two (exponent roles m role)) roles 0 (bytes_at roles.disks cleared at)) (byte_of cleared m at) (cleared_there at below))
        ∙ q_rest roles is (λ r. byte_of cleared r at) m has_q))
    | inr not_q ↦
        fits_p roles m (tabulate roles.disks (λ r. byte_of new r at)) not_q
        ∙ p_holds-from roles is (λ r. byte_of new r at)
        (solved_one roles.disks m (p_weight roles) (λ r. byte_of cleared r at) (λ r. byte_of new r at) lt (cleared_there at below) (λ r l ne. new_others r at below ne) (ap (λ b. cond b 0 1) not_q)
        (value_other not_q at below ∙ p_rest roles is (λ r. byte_of cleared r at)))
  ]
    where
      xor_none : (x y : ℕ) → y ≡ 0 → bit_xor x y ≡ x
      xor_none x y e = ap (bit_xor x) e ∙ xor_zero_r x

  pub one_filled : sector_of new m ≡ fill roles (row_without (λ role. eqb role m) roles.disks (sector_of old)) m
  one_filled =
      let list : lack_list (λ role. eqb role m) roles.disks ≡ m ∷ [] = lack_list-one m roles.disks lt in
      fill_solved roles is (λ role. eqb role m) old new whole small (omega (arith, ap length list, parity_count-pos roles))
      (λ r at below there.
      let ne : r ≢ m = λ e. let it : eqb r m ≡ true = eq-eqb r m e in absurd (cc) in
      new_others r at below ne ∙ cleared_others r at below ne)
      (λ at below. ap (λ xs. fits roles xs (tabulate roles.disks (λ r. byte_of new r at))) list ∙ one_fits at below) m lt

-- ---- two roles

-- a common factor may be taken out
factored : (over u w s t : ℕ) → over < 256 → u < 256 → w < 256 → s < 256 → t < 256
    → bit_xor (product (product over u) s) (product (product over w) t) ≡ product over (bit_xor (product u s) (product w t))
factored over u w s t ho hu hw hs ht =
    ap₂ bit_xor (product_assoc over u s ho hu hs) (product_assoc over w t ho hw ht)
    ∙ sym (product-add_r over (product u s) (product w t) (product-lt u s hs) (product-lt w t ht))

module _ (roles : RowRoles) (is : IsRowRoles roles) (q : ℕ) (has_q : roles.q ≡ Some q) (old cleared new : List ℕ) (a b : ℕ) (ha : a < roles.disks) (hb : b < roles.disks) (ne : a ≢ b)
    (a_cleared : (at : ℕ) → at < 512 → byte_of cleared a at ≡ 0) (b_cleared : (at : ℕ) → at < 512 → byte_of cleared b at ≡ 0)
    (cleared_others : (r at : ℕ) → at < 512 → r ≢ a → r ≢ b → byte_of cleared r at ≡ byte_of old r at)
    (new_others : (r at : ℕ) → at < 512 → r ≢ a → r ≢ b → byte_of new r at ≡ byte_of cleared r at)
    (whole : IsRowOf roles.disks new) (small : (place : ℕ) → get_or new place 0 < 256)
    (over : ℕ) (over_lt : over < 256) (inverse : product (det roles is q has_q a b) over ≡ 1) (s t : ℕ → ℕ)
    (s_is : (at : ℕ) → at < 512 → s at ≡ bit_xor (data_sum (λ role. 1) roles 0 (bytes_at roles.disks cleared at)) (byte_of cleared roles.p at))
    (t_is : (at : ℕ) → at < 512 → t at ≡ bit_xor (data_sum (λ role. power_of_two (exponent roles q role)) roles 0 (bytes_at roles.disks cleared at)) (byte_of cleared q at))
    (a_is : (at : ℕ) → at < 512 → byte_of new a at ≡ bit_xor (product (product over (q_weight roles q b)) (s at)) (product (product over (p_weight roles b)) (t at)))
    (b_is : (at : ℕ) → at < 512 → byte_of new b at ≡ bit_xor (product (product over (q_weight roles q a)) (s at)) (product (product over (p_weight roles a)) (t at))) where
  pa : p_weight roles a < 256
  pa = p_weight-lt roles a

  pb : p_weight roles b < 256
  pb = p_weight-lt roles b

  qa : q_weight roles q a < 256
  qa = q_weight-lt roles q a

  qb : q_weight roles q b < 256
  qb = q_weight-lt roles q b

  s_rest : (at : ℕ) → at < 512 → s at ≡ rest roles.disks (p_weight roles) (λ r. byte_of cleared r at)
  s_rest at below = s_is at below ∙ p_rest roles is (λ r. byte_of cleared r at)

  t_rest : (at : ℕ) → at < 512 → t at ≡ rest roles.disks (q_weight roles q) (λ r. byte_of cleared r at)
  t_rest at below = t_is at below ∙ q_rest roles is (λ r. byte_of cleared r at) q has_q

  cleared_small : (at : ℕ) → at < 512 → (r : ℕ) → byte_of cleared r at < 256
  cleared_small at below r = elim (cases_eq r a) [
    | inl e ↦ let nothing : byte_of cleared r at ≡ 0 = ap (λ k. byte_of cleared k at) e ∙ a_cleared at below in omega (arith, nothing)
    | inr na ↦ elim (cases_eq r b) [
      | inl e ↦ let nothing : byte_of cleared r at ≡ 0 = ap (λ k. byte_of cleared k at) e ∙ b_cleared at below in omega (arith, nothing)
      | inr nb ↦ rw (← new_others r at below na nb) (small (512 * r + at))
    ]
  ]

  s-lt : (at : ℕ) → at < 512 → s at < 256
  s-lt at below = rw (s_rest at below) (rest-lt roles.disks (p_weight roles) (λ r. byte_of cleared r at) (cleared_small at below))

  t-lt : (at : ℕ) → at < 512 → t at < 256
  t-lt at below = rw (t_rest at below) (rest-lt roles.disks (q_weight roles q) (λ r. byte_of cleared r at) (cleared_small at below))

  a_value : (at : ℕ) → at < 512 → byte_of new a at ≡ product over (bit_xor (product (q_weight roles q b) (s at)) (product (p_weight roles b) (t at)))
  a_value at below = a_is at below ∙ factored over (q_weight roles q b) (p_weight roles b) (s at) (t at) over_lt qb pb (s-lt at below) (t-lt at below)

  b_value : (at : ℕ) → at < 512 → byte_of new b at ≡ product over (bit_xor (product (q_weight roles q a) (s at)) (product (p_weight roles a) (t at)))
  b_value at below = b_is at below ∙ factored over (q_weight roles q a) (p_weight roles a) (s at) (t at) over_lt qa pa (s-lt at below) (t-lt at below)

  plain_value : (at : ℕ) → at < 512 → bit_xor (product (p_weight roles a) (byte_of new a at)) (product (p_weight roles b) (byte_of new b at)) ≡ rest roles.disks (p_weight roles) (λ r. byte_of cleared r at)
  plain_value at below =
      ap₂ (λ x y. bit_xor (product (p_weight roles a) x) (product (p_weight roles b) y)) (a_value at below) (b_value at below)
      ∙ plain_solved (p_weight roles a) (p_weight roles b) (q_weight roles q a) (q_weight roles q b) pa pb qa qb (s at) (t at) (s-lt at below) (t-lt at below) over over_lt inverse
      ∙ s_rest at below

  weighed_value : (at : ℕ) → at < 512 → bit_xor (product (q_weight roles q a) (byte_of new a at)) (product (q_weight roles q b) (byte_of new b at)) ≡ rest roles.disks (q_weight roles q) (λ r. byte_of cleared r at)
  weighed_value at below =
      ap₂ (λ x y. bit_xor (product (q_weight roles q a) x) (product (q_weight roles q b) y)) (a_value at below) (b_value at below)
      ∙ weighted_solved (p_weight roles a) (p_weight roles b) (q_weight roles q a) (q_weight roles q b) pa pb qa qb (s at) (t at) (s-lt at below) (t-lt at below) over over_lt inverse
      ∙ t_rest at below

  two_hold : (at : ℕ) → at < 512 → (p_holds roles (tabulate roles.disks (λ r. byte_of new r at)) && q_holds roles (tabulate roles.disks (λ r. byte_of new r at))) ≡ true
  two_hold at below =
      ap₂ (λ x y. x && y)
      (p_holds-from roles is (λ r. byte_of new r at) (solved_two roles.disks a b (p_weight roles) (λ r. byte_of cleared r at) (λ r. byte_of new r at) ha hb ne (a_cleared at below) (b_cleared at below)
      (λ r l na nb. new_others r at below na nb) (plain_value at below)))
      (q_holds-from roles is (λ r. byte_of new r at) q has_q (solved_two roles.disks a b (q_weight roles q) (λ r. byte_of cleared r at) (λ r. byte_of new r at) ha hb ne (a_cleared at below) (b_cleared at below)
      (λ r l na nb. new_others r at below na nb) (weighed_value at below)))

  two_fit : (xs : List ℕ) → (xs ≡ a ∷ b ∷ []) ⊎ (xs ≡ b ∷ a ∷ []) → (at : ℕ) → at < 512 → fits roles xs (tabulate roles.disks (λ r. byte_of new r at)) ≡ true
  two_fit xs order at below = elim order [
    | inl e ↦ ap (λ ys. fits roles ys (tabulate roles.disks (λ r. byte_of new r at))) e ∙ two_hold at below
    | inr e ↦ ap (λ ys. fits roles ys (tabulate roles.disks (λ r. byte_of new r at))) e ∙ two_hold at below
  ]

  two_parities : parity_count roles ≡ 2
  two_parities = ap (λ o. option_map_or (λ k. 2) o 1) has_q

  few : (xs : List ℕ) → (xs ≡ a ∷ b ∷ []) ⊎ (xs ≡ b ∷ a ∷ []) → length xs ≤ parity_count roles
  few xs order = elim order [
    | inl e ↦ omega (arith, ap length e, two_parities)
    | inr e ↦ omega (arith, ap length e, two_parities)
  ]

  pub two_filled : (m : ℕ) → m < roles.disks → sector_of new m ≡ fill roles (row_without (λ role. eqb role a || eqb role b) roles.disks (sector_of old)) m
  two_filled m lt =
      let order = lack_list-two a b roles.disks ha hb ne in
      fill_solved roles is (λ role. eqb role a || eqb role b) old new whole small (few (lack_list (λ role. eqb role a || eqb role b) roles.disks) order)
      (λ r at below there.
      let na : r ≢ a = λ e. let it : (eqb r a || eqb r b) ≡ true = ap (λ x. x || eqb r b) (eq-eqb r a e) in absurd (cc) in
      let nb : r ≢ b = λ e. let it : (eqb r a || eqb r b) ≡ true = or_right (eqb r a) (eqb r b) (eq-eqb r b e) in absurd (cc) in
      new_others r at below na nb ∙ cleared_others r at below na nb)
      (λ at below. two_fit (lack_list (λ role. eqb role a || eqb role b) roles.disks) order at below) m lt
