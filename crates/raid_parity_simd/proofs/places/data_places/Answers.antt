use Rattle.std.proofs.Common.{◌≡◌, ℕ, ◌+◌, ◌-◌, ◌<◌, length, get_or, refl, sym, ap, ◌∙◌, arith}
use Rattle.std.proofs.lemmas.List.{length-set}
use Rattle.std.specs.Int.Bits.{bit_xor}
use Rattle.raid_parity.specs.raid_gf256_Field.{double}
use Rattle.raid_parity.specs.Exponents.{exponent}
use Rattle.raid_parity.proofs.Columns.{q_of}
use Rattle.raid_parity_simd.specs.Places.{plain_sum, weighed_sum}
use Rattle.raid_parity_simd.proofs.Falling.{placed, plain_from, weighed_from, plain_first, weighed_first, plain_next, weighed_next, plain_last, weighed_last}
use Rattle.raid_parity_simd.proofs.PlaceSums.{plain_sum-none, weighed_sum-none, plain_sum-listed, weighed_sum-listed}
use Rattle.raid_parity_simd.proofs.places.data_places.Goals as goal

pub loop-k-init : goal.loop-k-init
loop-k-init c =
    let roles = c.args.roles.now in
    let is = c.requires.roles in
    let q = c.args.q in
    let starts = c.args.starts.now in
    let e : roles.disks - 2 ≡ roles.disks - 2 - 0 = omega arith in
    record {
      whole = refl;
      of_role = λ j lt. absurd (omega arith);
      plain = λ f small.
          let g : ℕ → ℕ = λ role. f (get_or starts role 0) in
          plain_sum-none _ ∙ sym (plain_first roles is q c.requires.q g) ∙ ap (λ (k : ℕ). plain_from roles q g k) e;
      weighed = λ f small.
          let g : ℕ → ℕ = λ role. f (get_or starts role 0) in
          weighed_sum-none _ ∙ sym (weighed_first roles is q c.requires.q g) ∙ ap (λ (k : ℕ). weighed_from roles q g k) e;
    }

pub loop-k-preserved : goal.loop-k-preserved
loop-k-preserved c =
    let roles = c.args.roles.now in
    let is = c.requires.roles in
    let q = c.args.q in
    let starts = c.args.starts.now in
    let list = c.loop-k.list in
    let k : ℕ = c.loop-k.k in
    let m = c.data_role-role.result in
    let x : ℕ = get_or starts m 0 in
    let room : k < length list = omega (arith, c.loop-k.invariant.whole, is.most) in
    let e : ℕ = roles.disks - 2 - (k + 1) in
    let before : roles.disks - 2 - k ≡ e + 1 = omega arith in
    let at_e : exponent roles q m ≡ e = omega (arith, c.data_role-role.ensures.value) in
    let within = c.data_role-role.ensures.within in
    let data_m = c.data_role-role.ensures.data in
    record {
      whole = length-set list k x ∙ c.loop-k.invariant.whole;
      of_role = placed (λ j y. (role : ℕ) × (role < roles.disks) × (y ≡ get_or starts role 0)) list k x room c.loop-k.invariant.of_role (m, within, refl);
      plain = λ f small.
          let g : ℕ → ℕ = λ role. f (get_or starts role 0) in
          plain_sum-listed list k x f room
          ∙ ap (λ (y : ℕ). bit_xor y (f x)) (c.loop-k.invariant.plain f small ∙ ap (λ (j : ℕ). plain_from roles q g j) before)
          ∙ sym (plain_next roles is q c.requires.q g small m e within data_m at_e);
      weighed = λ f small.
          let g : ℕ → ℕ = λ role. f (get_or starts role 0) in
          weighed_sum-listed list k x f room
          ∙ ap (λ (y : ℕ). bit_xor (double y) (f x)) (c.loop-k.invariant.weighed f small ∙ ap (λ (j : ℕ). weighed_from roles q g j) before)
          ∙ sym (weighed_next roles is q c.requires.q g small m e within data_m at_e);
    }

pub returns : goal.returns
returns c =
    let roles = c.args.roles.now in
    let is = c.requires.roles in
    let q = c.args.q in
    let starts = c.args.starts.now in
    let two = (q_of roles is q c.requires.q).0 in
    let apart = (q_of roles is q c.requires.q).1 in
    let count : c.loop-k.k ≡ roles.disks - 2 = omega (arith, c.loop-k-test.false, c.loop-k.auto.k-end) in
    let none : roles.disks - 2 - c.loop-k.k ≡ 0 = omega (arith, count) in
    record {
      places = record {
        few = omega arith;
        of_role = λ j lt. c.loop-k.invariant.of_role j (omega (arith, lt, count));
      };
      plain = λ f small.
          let g : ℕ → ℕ = λ role. f (get_or starts role 0) in
          ap (λ (n : ℕ). plain_sum n (λ j. f (get_or c.loop-k.list j 0))) (sym count)
          ∙ c.loop-k.invariant.plain f small ∙ ap (λ (j : ℕ). plain_from roles q g j) none ∙ plain_last roles is q c.requires.q g;
      weighed = λ f small.
          let g : ℕ → ℕ = λ role. f (get_or starts role 0) in
          ap (λ (n : ℕ). weighed_sum n (λ j. f (get_or c.loop-k.list j 0))) (sym count)
          ∙ c.loop-k.invariant.weighed f small ∙ ap (λ (j : ℕ). weighed_from roles q g j) none ∙ weighed_last roles is q c.requires.q g;
    }
