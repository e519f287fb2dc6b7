use Rattle.std.proofs.Common.{◌≡◌, ◌++◌, ℕ, List, length, take, drop, sym, ◌∙◌, ap, subst, arith}
use Rattle.std.proofs.lemmas.List.{take-append-le, take_all}
use Rattle.std.specs.Prelude.{Contains, slice_index}
use Rattle.stripe_row.specs.bank_Tape.{disk}
use Rattle.stripe_row.proofs.bank_Marks.{each_mark-map}
use Rattle.stripe_row.specs.Rows.{present, reading_of}
use Rattle.stripe_list.specs.Buffers.{buffered}
use Rattle.stripe_list.specs.Writing.{AreDataFrom, IsPutting, AreSuperblocksKept}
use Rattle.stripe_list.proofs.LossLaws.{none_lost, rows_by}
use Rattle.stripe_list.proofs.PutLaws.{superblocks_kept, standing_after}
use Rattle.stripe_list.proofs.puts.write_touched.Goals as goal

pub returns-then-are_too_many-clause-lost : goal.returns-then-are_too_many-clause-lost
returns-then-are_too_many-clause-lost g c = none_lost c.args.shape.now c.args.members.now (g.B.Bank.faults_of c.args.bank.now) (g.B.Bank.faults_of c.args.bank.now) (λ s. omega arith)

pub returns-clause-each_mark : goal.returns-clause-each_mark
returns-clause-each_mark g c = λ list list' written own.
    let r = reading_of c.args.members.now in
    let shape = c.args.shape.now in
    let d = disk (g.B.Bank.given c.args.bank.now).start (g.B.Bank.tape c.args.bank.now) in
    each_mark-map (λ e. IsPutting r shape list' (Contains c.args.rows.now) d e × AreSuperblocksKept d e)
    (λ told e putting. (putting, superblocks_kept r shape list' (Contains c.args.rows.now) d e c.requires.behind putting)) (c.write_rows-lost.ensures.each_mark list list' written
    (λ told. subst (λ (l : List ℕ). AreDataFrom c.args.from_row shape list c.args.rows.now l) (sym c.as_mut_slice.ensures.value) (own told)))

pub returns-clause-full : goal.returns-clause-full
returns-clause-full g c = λ list list' written told own.
    c.write_rows-lost.ensures.full list list' written told (subst (λ (l : List ℕ). AreDataFrom c.args.from_row c.args.shape.now list c.args.rows.now l) (sym c.as_mut_slice.ensures.value) own)

pub returns-clause-rebuilt : goal.returns-clause-rebuilt
returns-clause-rebuilt g c = λ list list' written told own.
    c.write_rows-lost.ensures.rebuilt list list' written told (subst (λ (l : List ℕ). AreDataFrom c.args.from_row c.args.shape.now list c.args.rows.now l) (sym c.as_mut_slice.ensures.value) own)

-- what is written back is the whole buffer
written_back : (n : ℕ) (xs ys : List ℕ) → length xs ≡ n → take n (xs ++ ys) ≡ xs
written_back n xs ys size = take-append-le n xs ys (omega (arith, size)) ∙ take_all n xs (omega (arith, size))

pub returns-clause-standing : goal.returns-clause-standing
returns-clause-standing g c = λ told i low lt.
    let old = c.args.members.now in
    let new = c.write_rows-lost.new.members in
    let before = present (g.B.Bank.given c.args.bank.now) (g.B.Bank.tape c.args.bank.now) in
    let after = present (g.B.Bank.given c.write_rows-lost.new.bank) (g.B.Bank.tape c.write_rows-lost.new.bank) in
    let shape = c.args.shape.now in
    let rows = c.args.rows.now in
    let row = slice_index rows i in
    let size : length c.write_rows-lost.new.buffer ≡ c.args.buffer.now.len = c.write_rows-lost.auto.buffer ∙ c.as_mut_slice.ensures.len in
    let rest = drop (length c.write_rows-lost.new.buffer) c.args.buffer.now.items in
    let back = written_back c.args.buffer.now.len c.write_rows-lost.new.buffer rest size in
    standing_after old new c.write_rows-lost.result.lost before after shape row (buffered c.args.buffer.now.items i)
    (buffered (take c.args.buffer.now.len (c.write_rows-lost.new.buffer ++ rest)) i) c.write_rows-lost.ensures.lost.members
    (λ role is. ap (λ (l : List ℕ). buffered l i role) back ∙ c.write_rows-lost.ensures.rest i role low lt is ∙ ap (λ (l : List ℕ). buffered l i role) c.as_mut_slice.ensures.value)
    (c.write_rows-lost.ensures.others told row (λ j from to. c.requires.once j i (omega (arith, low, to)) lt))
    (c.requires.standing told i (omega (arith, low, c.write_rows-lost.ensures.reached)) lt)

pub returns-clause-size : goal.returns-clause-size
returns-clause-size g c =
    let size : length c.write_rows-lost.new.buffer ≡ c.args.buffer.now.len = c.write_rows-lost.auto.buffer ∙ c.as_mut_slice.ensures.len in
    ap (λ (l : List ℕ). length l) (written_back c.args.buffer.now.len c.write_rows-lost.new.buffer (drop (length c.write_rows-lost.new.buffer) c.args.buffer.now.items) size)
    ∙ c.write_rows-lost.auto.buffer ∙ ap (λ (l : List ℕ). length l) c.as_mut_slice.ensures.value

pub answer_of-requires : goal.answer_of-requires
answer_of-requires g c = (rows_by c.args.members.now c.write_rows-lost.result.lost c.write_rows-lost.ensures.given c.write_rows-lost.ensures.lost.members c.requires.rows).roles

pub returns-clause-rest : goal.returns-clause-rest
returns-clause-rest g c = λ i role low lt is.
    let size : length c.write_rows-lost.new.buffer ≡ c.args.buffer.now.len = c.write_rows-lost.auto.buffer ∙ c.as_mut_slice.ensures.len in
    ap (λ (l : List ℕ). buffered l i role) (written_back c.args.buffer.now.len c.write_rows-lost.new.buffer (drop (length c.write_rows-lost.new.buffer) c.args.buffer.now.items) size)
    ∙ c.write_rows-lost.ensures.rest i role low lt is ∙ ap (λ (l : List ℕ). buffered l i role) c.as_mut_slice.ensures.value
