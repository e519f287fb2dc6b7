use Rattle.std.proofs.Common.{◌≡◌, ℕ, ◌<◌, ◌||◌, eqb, get_or, sym, ap, ap₂, ◌∙◌, arith}
use Rattle.std.proofs.lemmas.List.{get_or-replicate}
use Rattle.std.specs.Int.Bits.{bit_xor}
use Rattle.raid_gf256.specs.Field.{product}
use Rattle.raid_parity.specs.Parity.{fill}
use Rattle.raid_parity.specs.Rows.{sector_of, row_without, p_weight, q_weight, IsRowOf}
use Rattle.raid_parity.proofs.Solving.{determinant-is}
use Rattle.raid_parity.proofs.Filling.{det, det_pos}
use Rattle.raid_parity.proofs.RowBytes.{sector_of-same, two_filled}
use Rattle.raid_parity.proofs.row.fill_two.Goals as goal

pub inv-over-requires : goal.inv-over-requires
inv-over-requires c =
    let roles = c.args.roles.now in
    let q = c.unwrap-q.result in
    let a = c.args.first in
    let b = c.args.second in
    let value : bit_xor c.mul.result c.mul-2.result ≡ det roles c.requires.roles q c.unwrap-q.ensures a b =
    ap₂ bit_xor (c.mul.ensures ∙ ap₂ product c.weights_of-one.ensures.p c.weights_of-two.ensures.q)
    (c.mul-2.ensures ∙ ap₂ product c.weights_of-two.ensures.p c.weights_of-one.ensures.q)
    ∙ sym (determinant-is (p_weight roles a) (p_weight roles b) (q_weight roles q a) (q_weight roles q b)) in
    let pos = det_pos roles c.requires.roles q c.unwrap-q.ensures a b c.requires.first c.requires.second c.requires.differ in
    omega (arith, value, pos)

pub returns : goal.returns
returns c =
    let roles = c.args.roles.now in
    let is = c.requires.roles in
    let q = c.unwrap-q.result in
    let has_q = c.unwrap-q.ensures in
    let a = c.args.first in
    let b = c.args.second in
    let ne = c.requires.differ in
    let old = c.args.row.now in
    let cleared = c.put_sector-2.new.row in
    let new = c.put_sector-4.new.row in
    let whole : IsRowOf roles.disks new = c.put_sector-4.auto.row ∙ c.put_sector-3.auto.row ∙ c.put_sector-2.auto.row ∙ c.put_sector.auto.row ∙ c.requires.whole in
    let small : (place : ℕ) → get_or new place 0 < 256 = λ place. let h = c.type_inv.row place in omega (arith, h) in
    let over = c.inv-over.result in
    let over_lt : over < 256 = omega arith in
    let value : bit_xor c.mul.result c.mul-2.result ≡ det roles is q has_q a b =
    ap₂ bit_xor (c.mul.ensures ∙ ap₂ product c.weights_of-one.ensures.p c.weights_of-two.ensures.q)
    (c.mul-2.ensures ∙ ap₂ product c.weights_of-two.ensures.p c.weights_of-one.ensures.q)
    ∙ sym (determinant-is (p_weight roles a) (p_weight roles b) (q_weight roles q a) (q_weight roles q b)) in
    let inverse : product (det roles is q has_q a b) over ≡ 1 = ap (λ (x : ℕ). product x over) (sym value) ∙ c.inv-over.ensures in
    let filled : (m : ℕ) → m < roles.disks → sector_of new m ≡ fill roles (row_without (λ role. eqb role a || eqb role b) roles.disks (sector_of old)) m =
    two_filled roles is q has_q old cleared new a b c.requires.first c.requires.second ne
    (λ at lt. c.put_sector-2.ensures.others a at lt ne ∙ c.put_sector.ensures.there at lt ∙ get_or-replicate 512 at 0 0 lt)
    (λ at lt. c.put_sector-2.ensures.there at lt ∙ get_or-replicate 512 at 0 0 lt)
    (λ r at lt na nb. c.put_sector-2.ensures.others r at lt nb ∙ c.put_sector.ensures.others r at lt na)
    (λ r at lt na nb. c.put_sector-4.ensures.others r at lt nb ∙ c.put_sector-3.ensures.others r at lt na)
    whole small over over_lt inverse (λ at. get_or c.rests.result.plain at 0) (λ at. get_or c.rests.result.weighed at 0)
    (λ at lt. c.rests.ensures.plain at lt) (λ at lt. c.rests.ensures.weighed at lt)
    (λ at lt. c.put_sector-4.ensures.others a at lt ne ∙ c.put_sector-3.ensures.there at lt ∙ c.combination-first_sector.ensures at lt
    ∙ ap₂ (λ (x y : ℕ). bit_xor (product x (get_or c.rests.result.plain at 0)) (product y (get_or c.rests.result.weighed at 0)))
    (c.mul-3.ensures ∙ ap (product over) c.weights_of-two.ensures.q) (c.mul-4.ensures ∙ ap (product over) c.weights_of-two.ensures.p))
    (λ at lt. c.put_sector-4.ensures.there at lt ∙ c.combination-second_sector.ensures at lt
    ∙ ap₂ (λ (x y : ℕ). bit_xor (product x (get_or c.rests.result.plain at 0)) (product y (get_or c.rests.result.weighed at 0)))
    (c.mul-5.ensures ∙ ap (product over) c.weights_of-one.ensures.q) (c.mul-6.ensures ∙ ap (product over) c.weights_of-one.ensures.p)) in
    record {
      first = filled a c.requires.first;
      second = filled b c.requires.second;
      others = λ role na nb.
          sector_of-same old new role (c.put_sector-4.auto.row ∙ c.put_sector-3.auto.row ∙ c.put_sector-2.auto.row ∙ c.put_sector.auto.row) (λ at lt.
          c.put_sector-4.ensures.others role at lt nb ∙ c.put_sector-3.ensures.others role at lt na
          ∙ c.put_sector-2.ensures.others role at lt nb ∙ c.put_sector.ensures.others role at lt na);
    }
