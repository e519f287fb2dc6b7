use Rattle.std.proofs.Common.{◌≡◌, ℕ, ◌+◌, ◌*◌, ◌<◌, ◌≤◌, inl, List, length, get_or, sym, ap, ap₂, ◌∙◌, arith, subst}
use Rattle.std.specs.Int.Bits.{bit_xor}
use Rattle.raid_parity.specs.raid_gf256_Field.{product}
use Rattle.raid_parity.proofs.Columns.{q_of}
use Rattle.raid_parity_simd.specs.Parts.{AreParts, part_byte, emptied, solved}
use Rattle.raid_parity_simd.proofs.Apart.{apart, stored_part, kept_part, outside_begun, outside_within}
use Rattle.raid_parity_simd.proofs.Emptied.{emptied-same, solved-same}
use Rattle.raid_parity_simd.proofs.solve.set_two.Goals as goal

pub loop-block-preserved : goal.loop-block-preserved
loop-block-preserved c =
    let roles = c.args.roles.now in
    let is = c.requires.roles in
    let q = c.args.q in
    let hq : q < roles.disks = (q_of roles is q c.requires.q).0 in
    let a = c.args.first in
    let b = c.args.second in
    let ha = c.requires.first in
    let hb = c.requires.second in
    let ne = c.requires.differ in
    let starts = c.args.starts.now in
    let a_start : ℕ = get_or starts a 0 in
    let b_start : ℕ = get_or starts b 0 in
    let old = c.args.bytes.now in
    let bytes = c.loop-block.bytes in
    let rested = c.cleared_rests-rests.new.bytes in
    let mid = c.store.new.into in
    let at : ℕ = c.loop-block.block * 64 in
    let next : ℕ = (c.loop-block.block + 1) * 64 in
    let rests = c.cleared_rests-rests in
    let one = c.combined-one in
    let two = c.combined-two in
    let parts = c.loop-block.invariant.parts in
    let room : at + 64 ≤ c.args.len = omega arith in
    let step : next ≡ at + 64 = omega arith in
    let a_within = parts.within a ha in
    let b_within = parts.within b hb in
    let rested_size : length rested ≡ length bytes = rests.auto.bytes in
    let mid_size : length mid ≡ length rested = c.store.auto.into in
    let column : ℕ → ℕ → ℕ = λ k role. part_byte old starts role k in
    -- the others are those of before
    let same : (k : ℕ) → k < c.args.len → (r : ℕ) → r < roles.disks → emptied (λ role. part_byte bytes starts role k) a b r ≡ emptied (column k) a b r = λ k lt r hr.
    emptied-same (λ role. part_byte bytes starts role k) (column k) a b r (λ na nb.
    c.loop-block.invariant.outside (get_or starts r 0 + k)
    (outside_begun a_start c.args.len at (get_or starts r 0 + k) (omega arith) (apart parts r a k hr ha na lt))
    (outside_begun b_start c.args.len at (get_or starts r 0 + k) (omega arith) (apart parts r b k hr hb nb lt))) in
    let value : (plain weighed k : ℕ) → ℕ = λ plain weighed k. solved roles q plain weighed (emptied (column k) a b) in
    -- what the two vectors hold
    let there : (plain weighed i : ℕ) → i < 64
    → bit_xor (product plain (get_or rests.result.plain i 0)) (product weighed (get_or rests.result.weighed i 0)) ≡ value plain weighed (at + i) = λ plain weighed i il.
    ap₂ (λ (x y : ℕ). bit_xor (product plain x) (product weighed y)) (rests.ensures.plain i il) (rests.ensures.weighed i il)
    ∙ solved-same roles is q hq plain weighed (emptied (λ role. part_byte bytes starts role (at + i)) a b) (emptied (column (at + i)) a b) (same (at + i) (omega arith)) in
    record {
      parts = subst (λ (size : ℕ). AreParts roles.disks starts c.args.len size) (sym (c.store-in-loop-block.auto.into ∙ mid_size ∙ rested_size)) parts;
      first = λ k lt.
          ap (λ (x : List ℕ). get_or x (a_start + k) 0) c.store-in-loop-block.ensures
          ∙ kept_part b_start c.args.len at (a_start + k) mid two.result two.ensures.lanes room (apart parts a b k ha hb ne (omega arith))
          ∙ ap (λ (x : List ℕ). get_or x (a_start + k) 0) c.store.ensures
          ∙ stored_part a_start at k (value c.args.factors.now.first_plain c.args.factors.now.first_weighed) rested one.result one.ensures.lanes (omega (arith, a_within, rested_size))
          (λ i il.
          one.ensures.each i il
          ∙ ap₂ (λ (x y : ℕ). bit_xor (product x (get_or rests.result.plain i 0)) (product y (get_or rests.result.weighed i 0)))
          c.products_of-first_plain.ensures.factor c.products_of-first_weighed.ensures.factor
          ∙ there c.args.factors.now.first_plain c.args.factors.now.first_weighed i il)
          (λ i il. rests.ensures.others (a_start + i) (inl (omega arith)) (outside_within b_start c.args.len at 64 (a_start + i) room (apart parts a b i ha hb ne (omega arith)))
          ∙ c.loop-block.invariant.first i il)
          (omega arith);
      second = λ k lt.
          ap (λ (x : List ℕ). get_or x (b_start + k) 0) c.store-in-loop-block.ensures
          ∙ stored_part b_start at k (value c.args.factors.now.second_plain c.args.factors.now.second_weighed) mid two.result two.ensures.lanes (omega (arith, b_within, rested_size, mid_size))
          (λ i il.
          two.ensures.each i il
          ∙ ap₂ (λ (x y : ℕ). bit_xor (product x (get_or rests.result.plain i 0)) (product y (get_or rests.result.weighed i 0)))
          c.products_of-second_plain.ensures.factor c.products_of-second_weighed.ensures.factor
          ∙ there c.args.factors.now.second_plain c.args.factors.now.second_weighed i il)
          (λ i il.
          ap (λ (x : List ℕ). get_or x (b_start + i) 0) c.store.ensures
          ∙ kept_part a_start c.args.len at (b_start + i) rested one.result one.ensures.lanes room (apart parts b a i hb ha (λ e. ne (sym e)) (omega arith))
          ∙ rests.ensures.others (b_start + i) (outside_within a_start c.args.len at 64 (b_start + i) room (apart parts b a i hb ha (λ e. ne (sym e)) (omega arith))) (inl (omega arith))
          ∙ c.loop-block.invariant.second i il)
          (omega arith);
      outside = λ place oa ob.
          ap (λ (x : List ℕ). get_or x place 0) c.store-in-loop-block.ensures
          ∙ kept_part b_start (at + 64) at place mid two.result two.ensures.lanes (omega arith) (outside_begun b_start next (at + 64) place (omega arith) ob)
          ∙ ap (λ (x : List ℕ). get_or x place 0) c.store.ensures
          ∙ kept_part a_start (at + 64) at place rested one.result one.ensures.lanes (omega arith) (outside_begun a_start next (at + 64) place (omega arith) oa)
          ∙ rests.ensures.others place (outside_within a_start next at 64 place (omega arith) oa) (outside_within b_start next at 64 place (omega arith) ob)
          ∙ c.loop-block.invariant.outside place (outside_begun a_start next at place (omega arith) oa) (outside_begun b_start next at place (omega arith) ob);
    }

pub returns-clause-first : goal.returns-clause-first
returns-clause-first c k lt = let cut = c.requires.parts.cut in c.loop-block.invariant.first k (omega arith)

pub returns-clause-second : goal.returns-clause-second
returns-clause-second c k lt = let cut = c.requires.parts.cut in c.loop-block.invariant.second k (omega arith)

pub returns-clause-others : goal.returns-clause-others
returns-clause-others c place oa ob =
    c.loop-block.invariant.outside place
    (outside_begun (get_or c.args.starts.now c.args.first 0) c.args.len (c.loop-block.block * 64) place (omega arith) oa)
    (outside_begun (get_or c.args.starts.now c.args.second 0) c.args.len (c.loop-block.block * 64) place (omega arith) ob)
