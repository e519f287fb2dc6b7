use Rattle.std.proofs.Common.{◌≡◌, ◌++◌, ℕ, List, length, take, drop, sym, ◌∙◌, ap, subst, arith}
use Rattle.std.proofs.lemmas.List.{take-append-le, take_all}
use Rattle.std.specs.Prelude.{Contains}
use Rattle.stripe_row.specs.Rows.{present, reading_of}
use Rattle.stripe_row.proofs.RowBytes.{on_ok}
use Rattle.stripe_list.specs.Buffers.{AreRead}
use Rattle.stripe_list.proofs.BufferLaws.{touched-below}
use Rattle.stripe_list.proofs.buffers.read_touched.Goals as goal

pub read_rows-requires-clause-below : goal.read_rows-requires-clause-below
read_rows-requires-clause-below g c = λ row has.
    touched-below c.args.shape.now c.args.members.now.newest.size c.args.first c.args.count row c.requires.rows.valid c.requires.rows.multiple c.requires.within
    (c.touched_rows.ensures.touched.only row (subst (λ (l : List ℕ). Contains l row) c.as_slice.ensures.value has))

-- what is written back is all that was read
written_back : (n : ℕ) (xs ys : List ℕ) → length xs ≡ n → take n (xs ++ ys) ≡ xs
written_back n xs ys size = take-append-le n xs ys (omega (arith, size)) ∙ take_all n xs (omega (arith, size))

pub returns-clause-read : goal.returns-clause-read
returns-clause-read g c =
    let before = present (g.B.Bank.given c.args.bank.now) (g.B.Bank.tape c.args.bank.now) in
    let size : length c.read_rows.new.buffer ≡ c.args.buffer.now.len = c.read_rows.auto.buffer ∙ c.as_mut_slice.ensures.len in
    let back = written_back c.args.buffer.now.len c.read_rows.new.buffer (drop (length c.read_rows.new.buffer) c.args.buffer.now.items) size in
    on_ok c.read_rows.result.answer (λ read told.
    subst (λ (l : List ℕ). AreRead c.args.shape.now c.args.synced (reading_of c.args.members.now) (reading_of c.read_rows.new.members) before c.touched_rows.new.rows.items l) (sym back)
    (subst (λ (l : List ℕ). AreRead c.args.shape.now c.args.synced (reading_of c.args.members.now) (reading_of c.read_rows.new.members) before l c.read_rows.new.buffer) c.as_slice.ensures.value (read told)))
    c.read_rows.ensures.read

pub returns-clause-below : goal.returns-clause-below
returns-clause-below g c = λ row has.
    touched-below c.args.shape.now c.args.members.now.newest.size c.args.first c.args.count row c.requires.rows.valid c.requires.rows.multiple c.requires.within
    (c.touched_rows.ensures.touched.only row has)

pub returns-clause-size : goal.returns-clause-size
returns-clause-size g c =
    let size : length c.read_rows.new.buffer ≡ c.args.buffer.now.len = c.read_rows.auto.buffer ∙ c.as_mut_slice.ensures.len in
    ap (λ (l : List ℕ). length l) (written_back c.args.buffer.now.len c.read_rows.new.buffer (drop (length c.read_rows.new.buffer) c.args.buffer.now.items) size)
    ∙ c.read_rows.auto.buffer ∙ ap (λ (l : List ℕ). length l) c.as_mut_slice.ensures.value
