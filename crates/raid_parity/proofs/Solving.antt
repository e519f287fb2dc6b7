-- Two bytes x and y from a x + b y = s and c x + d y = t, where a d + b c is not 0.
use Rattle.std.proofs.Common.{◌≡◌, ℕ, ◌<◌, refl, sym, ap, ap₂, ◌∙◌}
use Rattle.std.specs.Int.Bits.{bit_xor, xor_comm, xor_self, xor_zero_l, xor_zero_r, xor_lt}
use Rattle.raid_gf256.specs.Field.{product}
use Rattle.raid_gf256.proofs.FieldLaws.{swap_middle, product-lt, product-one_l, product_comm, product_assoc, product-add_l, product-add_r}

-- two factors may be exchanged
pub product_swap : (a b x : ℕ) → a < 256 → b < 256 → x < 256 → product a (product b x) ≡ product b (product a x)
product_swap a b x ha hb hx =
    sym (product_assoc a b x ha hb hx) ∙ ap (λ u. product u x) (product_comm a b ha hb) ∙ product_assoc b a x hb ha hx

-- what a factor is taken from by its inverse
pub product_back : (a over x : ℕ) → a < 256 → over < 256 → x < 256 → product a over ≡ 1 → product over (product a x) ≡ x
product_back a over x ha ho hx e =
    sym (product_assoc over a x ho ha hx) ∙ ap (λ u. product u x) (product_comm over a ho ha ∙ e) ∙ product-one_l x

pub determinant : ℕ → ℕ → ℕ → ℕ → ℕ
determinant a b c d = bit_xor (product a d) (product b c)

pub determinant-is : (a b c d : ℕ) → determinant a b c d ≡ bit_xor (product a d) (product b c)
unfolding determinant
determinant-is a b c d = refl

pub determinant-lt : (a b c d : ℕ) → c < 256 → d < 256 → determinant a b c d < 256
unfolding determinant
determinant-lt a b c d hc hd = xor_lt 8 (product a d) (product b c) (product-lt a d hd) (product-lt b c hc)

-- the two unknowns exchanged
pub determinant-swap : (a b c d : ℕ) → determinant b a d c ≡ determinant a b c d
unfolding determinant
determinant-swap a b c d = xor_comm (product b c) (product a d)

module _ (a b c d : ℕ) (ha : a < 256) (hb : b < 256) (hc : c < 256) (hd : d < 256) where
  eliminated : (x y s t : ℕ) → x < 256 → y < 256 → bit_xor (product a x) (product b y) ≡ s → bit_xor (product c x) (product d y) ≡ t
      → bit_xor (product d s) (product b t) ≡ product (determinant a b c d) x
  unfolding determinant
  eliminated x y s t hx hy plain weighted =
      let ax = product-lt a x hx in
      let by = product-lt b y hy in
      let cx = product-lt c x hx in
      let dy = product-lt d y hy in
      ap₂ bit_xor (ap (product d) (sym plain) ∙ product-add_r d (product a x) (product b y) ax by)
      (ap (product b) (sym weighted) ∙ product-add_r b (product c x) (product d y) cx dy)
      ∙ swap_middle (product d (product a x)) (product d (product b y)) (product b (product c x)) (product b (product d y))
      ∙ ap₂ bit_xor
      (ap₂ bit_xor (product_swap d a x hd ha hx ∙ sym (product_assoc a d x ha hd hx)) (sym (product_assoc b c x hb hc hx)))
      (ap (λ u. bit_xor u (product b (product d y))) (product_swap d b y hd hb hy) ∙ xor_self (product b (product d y)))
      ∙ xor_zero_r (bit_xor (product (product a d) x) (product (product b c) x)) ∙ sym (product-add_l (product a d) (product b c) x)

  -- the first unknown has no other value
  pub first_is : (over x y s t : ℕ) → over < 256 → x < 256 → y < 256 → product (determinant a b c d) over ≡ 1
      → bit_xor (product a x) (product b y) ≡ s → bit_xor (product c x) (product d y) ≡ t
      → x ≡ product over (bit_xor (product d s) (product b t))
  first_is over x y s t ho hx hy inverse plain weighted =
      sym (ap (product over) (eliminated x y s t hx hy plain weighted)
      ∙ product_back (determinant a b c d) over x (determinant-lt a b c d hc hd) ho hx inverse)

  module _ (s t : ℕ) (hs : s < 256) (ht : t < 256) where
    inner_plain : bit_xor (product a (bit_xor (product d s) (product b t))) (product b (bit_xor (product c s) (product a t))) ≡ product (determinant a b c d) s
    unfolding determinant
    inner_plain =
        ap₂ bit_xor (product-add_r a (product d s) (product b t) (product-lt d s hs) (product-lt b t ht))
        (product-add_r b (product c s) (product a t) (product-lt c s hs) (product-lt a t ht))
        ∙ swap_middle (product a (product d s)) (product a (product b t)) (product b (product c s)) (product b (product a t))
        ∙ ap₂ bit_xor
        (ap₂ bit_xor (sym (product_assoc a d s ha hd hs)) (sym (product_assoc b c s hb hc hs)))
        (ap (λ u. bit_xor u (product b (product a t))) (product_swap a b t ha hb ht) ∙ xor_self (product b (product a t)))
        ∙ xor_zero_r (bit_xor (product (product a d) s) (product (product b c) s)) ∙ sym (product-add_l (product a d) (product b c) s)

    inner_weighted : bit_xor (product c (bit_xor (product d s) (product b t))) (product d (bit_xor (product c s) (product a t))) ≡ product (determinant a b c d) t
    unfolding determinant
    inner_weighted =
        ap₂ bit_xor (product-add_r c (product d s) (product b t) (product-lt d s hs) (product-lt b t ht))
        (product-add_r d (product c s) (product a t) (product-lt c s hs) (product-lt a t ht))
        ∙ swap_middle (product c (product d s)) (product c (product b t)) (product d (product c s)) (product d (product a t))
        ∙ ap₂ bit_xor
        (ap (λ u. bit_xor u (product d (product c s))) (product_swap c d s hc hd hs) ∙ xor_self (product d (product c s)))
        (ap₂ bit_xor (product_swap c b t hc hb ht ∙ sym (product_assoc b c t hb hc ht)) (product_swap d a t hd ha ht ∙ sym (product_assoc a d t ha hd ht)))
        ∙ xor_zero_l (bit_xor (product (product b c) t) (product (product a d) t))
        ∙ xor_comm (product (product b c) t) (product (product a d) t) ∙ sym (product-add_l (product a d) (product b c) t)

    gathered : (u w x y over : ℕ) → u < 256 → w < 256 → x < 256 → y < 256 → over < 256
        → bit_xor (product u (product over x)) (product w (product over y)) ≡ product over (bit_xor (product u x) (product w y))
    gathered u w x y over hu hw hx hy ho =
        ap₂ bit_xor (product_swap u over x hu ho hx) (product_swap w over y hw ho hy)
        ∙ sym (product-add_r over (product u x) (product w y) (product-lt u x hx) (product-lt w y hy))

    -- with these values both equations hold
    pub plain_solved : (over : ℕ) → over < 256 → product (determinant a b c d) over ≡ 1
        → bit_xor (product a (product over (bit_xor (product d s) (product b t)))) (product b (product over (bit_xor (product c s) (product a t)))) ≡ s
    plain_solved over ho inverse =
        gathered a b (bit_xor (product d s) (product b t)) (bit_xor (product c s) (product a t)) over ha hb
        (xor_lt 8 _ _ (product-lt d s hs) (product-lt b t ht)) (xor_lt 8 _ _ (product-lt c s hs) (product-lt a t ht)) ho
        ∙ ap (product over) inner_plain ∙ product_back (determinant a b c d) over s (determinant-lt a b c d hc hd) ho hs inverse

    pub weighted_solved : (over : ℕ) → over < 256 → product (determinant a b c d) over ≡ 1
        → bit_xor (product c (product over (bit_xor (product d s) (product b t)))) (product d (product over (bit_xor (product c s) (product a t)))) ≡ t
    weighted_solved over ho inverse =
        gathered c d (bit_xor (product d s) (product b t)) (bit_xor (product c s) (product a t)) over hc hd
        (xor_lt 8 _ _ (product-lt d s hs) (product-lt b t ht)) (xor_lt 8 _ _ (product-lt c s hs) (product-lt a t ht)) ho
        ∙ ap (product over) inner_weighted ∙ product_back (determinant a b c d) over t (determinant-lt a b c d hc hd) ho ht inverse
