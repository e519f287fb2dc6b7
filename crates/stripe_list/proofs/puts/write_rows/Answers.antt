use Rattle.std.proofs.Common.{◌≡◌, ◌+◌, ◌-◌, ◌*◌, ◌<◌, ◌≤◌, ℕ, List, length, take, drop, inr, sym, ◌∙◌, subst, arith, Some, ap}
use Rattle.std.specs.Prelude.{slice_index, Contains}
use Rattle.raid_layout.proofs.Limits.{limited}
use Rattle.raid_layout.specs.raid_types_Sectors.{Sector}
use Rattle.stripe_row.specs.raid_parity_Rows.{sector_of}
use Rattle.stripe_row.specs.sb_specs_the_Members.{Members}
use Rattle.stripe_row.specs.Rows.{present, reading_of, members_without}
use Rattle.stripe_list.specs.Calls.{AreLost}
use Rattle.stripe_list.specs.Buffers.{buffered, AreStanding}
use Rattle.stripe_list.specs.Writing.{AreDataOf, AreDataFrom}
use Rattle.stripe_list.proofs.Elements.{contains-at}
use Rattle.stripe_list.proofs.LossLaws.{none_lost, rows_by, row_in}
use Rattle.stripe_list.proofs.PartBytes.{sector-part, sector-part_other}
use Rattle.stripe_list.proofs.PutLaws.{marks_more, standing_later, data_same, none_then, full_more, rebuilt_more, kept_more}
use Rattle.stripe_row.proofs.Written.{members_without-none}
use Rattle.stripe_row.specs.bank_Given.{NeverFalls}
use Rattle.stripe_row.proofs.bank_Causes.{faulted_longer}
use Rattle.raid_layout.specs.raid_types_the_Shape.{Shape}
use Rattle.stripe_row.specs.sb_specs_Reading.{role_state, holder}
use Rattle.stripe_row.specs.Writes.{AreApart}
use Rattle.stripe_list.proofs.puts.write_rows.Goals as goal

pub rewrite_row-lost-requires-clause-row : goal.rewrite_row-lost-requires-clause-row
rewrite_row-lost-requires-clause-row g c =
    let was = c.loop-i.invariant in
    let row = slice_index c.args.rows.now c.loop-i.i in
    row_in (rows_by c.args.members.now 0 was.given (was.members ∙ members_without-none c.args.members.now) c.requires.rows)
    (subst (λ (m : Members). row < m.newest.size) (sym was.members) (c.requires.below row (contains-at c.args.rows.now c.loop-i.i c.loop-i-test.true)))

-- the row lies in its part of the buffer as it did at the start
part_is : (bytes first : List ℕ) (i disks role : ℕ) → role < disks → buffered bytes i role ≡ buffered first i role
    → sector_of (take (8192 * i + 512 * disks - 8192 * i) (drop (8192 * i) bytes)) role ≡ buffered first i role
part_is bytes first i disks role lt ahead =
    let n : 8192 * i + 512 * disks - 8192 * i ≡ 512 * disks = omega arith in
    sector-part bytes i role (8192 * i + 512 * disks - 8192 * i) (omega (arith, lt, n)) ∙ ahead

pub rewrite_row-lost-requires-clause-standing : goal.rewrite_row-lost-requires-clause-standing
rewrite_row-lost-requires-clause-standing g c = λ told.
    let was = c.loop-i.invariant in
    let shape = c.args.shape.now in
    let i = c.loop-i.i in
    let rows = c.args.rows.now in
    let low : c.args.from_row ≤ i = c.loop-i.auto.i in
    let before = present (g.B.Bank.given c.args.bank.now) (g.B.Bank.tape c.args.bank.now) in
    let between = present (g.B.Bank.given c.loop-i.bank) (g.B.Bank.tape c.loop-i.bank) in
    standing_later (reading_of c.loop-i.members) before between shape (slice_index rows i) (buffered c.args.buffer.now i)
    (sector_of (take (8192 * i + 512 * shape.disks - 8192 * i) (drop (8192 * i) c.loop-i.buffer)))
    (λ role lt. part_is c.loop-i.buffer c.args.buffer.now i shape.disks role lt (was.ahead i role (omega arith) c.loop-i-test.true lt))
    (was.others told (slice_index rows i) (λ j l h. c.requires.once j i h c.loop-i-test.true))
    (subst (λ (m : Members). AreStanding (reading_of m) before shape (slice_index rows i) (buffered c.args.buffer.now i)) (sym was.members) (c.requires.standing told i low c.loop-i-test.true))

pub returns-then-lost-ne0-clause-each_mark : goal.returns-then-lost-ne0-clause-each_mark
returns-then-lost-ne0-clause-each_mark g c = λ list list' written own.
    let was = c.loop-i.invariant in
    let shape = c.args.shape.now in
    let i = c.loop-i.i in
    let rows = c.args.rows.now in
    let row = slice_index rows i in
    let has : Contains rows row = contains-at rows i c.loop-i-test.true in
    marks_more (g.B.Bank.given c.args.bank.now) (g.B.Bank.given c.loop-i.bank) c.args.members.now c.loop-i.members shape list' (Contains rows) (λ other. other ≡ row)
    (g.B.Bank.tape c.args.bank.now) (g.B.Bank.tape c.loop-i.bank) (g.B.Bank.tape c.rewrite_row-lost.new.bank) c.requires.apart was.given was.members
    (λ other same. subst (λ (r : ℕ). Contains rows r) (sym same) has) (was.marks list list' written own)
    (c.rewrite_row-lost.ensures.each_mark list list' written (λ told.
    data_same shape list row (buffered c.args.buffer.now i) (sector_of (take (8192 * i + 512 * shape.disks - 8192 * i) (drop (8192 * i) c.loop-i.buffer))) c.requires.rows.valid
    (λ role lt. part_is c.loop-i.buffer c.args.buffer.now i shape.disks role lt (was.ahead i role (omega arith) c.loop-i-test.true lt)) (own told i c.loop-i.auto.i c.loop-i-test.true)))

pub returns-then-lost-ne0-clause-full : goal.returns-then-lost-ne0-clause-full
returns-then-lost-ne0-clause-full g c = λ list list' written told own.
    let was = c.loop-i.invariant in
    let did = c.rewrite_row-lost.ensures in
    let shape = c.args.shape.now in
    let i = c.loop-i.i in
    let rows = c.args.rows.now in
    let before = present (g.B.Bank.given c.args.bank.now) (g.B.Bank.tape c.args.bank.now) in
    let between = present (g.B.Bank.given c.loop-i.bank) (g.B.Bank.tape c.loop-i.bank) in
    let after = present (g.B.Bank.given c.rewrite_row-lost.new.bank) (g.B.Bank.tape c.rewrite_row-lost.new.bank) in
    full_more c.loop-i.members c.rewrite_row-lost.new.members c.rewrite_row-lost.result did.lost.members before between after shape rows c.requires.once c.args.from_row i c.loop-i-test.true
    (did.others told) list' (was.done list list' written told own)
    (did.full list list' written told (data_same shape list (slice_index rows i) (buffered c.args.buffer.now i) (sector_of (take (8192 * i + 512 * shape.disks - 8192 * i) (drop (8192 * i) c.loop-i.buffer))) c.requires.rows.valid
    (λ role lt. part_is c.loop-i.buffer c.args.buffer.now i shape.disks role lt (was.ahead i role (omega arith) c.loop-i-test.true lt)) (own i c.loop-i.auto.i c.loop-i-test.true)))

pub returns-then-lost-ne0-clause-rebuilt : goal.returns-then-lost-ne0-clause-rebuilt
returns-then-lost-ne0-clause-rebuilt g c = λ list list' written told own.
    let was = c.loop-i.invariant in
    let did = c.rewrite_row-lost.ensures in
    let shape = c.args.shape.now in
    let i = c.loop-i.i in
    let rows = c.args.rows.now in
    let before = present (g.B.Bank.given c.args.bank.now) (g.B.Bank.tape c.args.bank.now) in
    let between = present (g.B.Bank.given c.loop-i.bank) (g.B.Bank.tape c.loop-i.bank) in
    let after = present (g.B.Bank.given c.rewrite_row-lost.new.bank) (g.B.Bank.tape c.rewrite_row-lost.new.bank) in
    rebuilt_more c.loop-i.members c.rewrite_row-lost.new.members c.rewrite_row-lost.result did.lost.members before between after shape rows c.requires.once c.args.from_row i c.loop-i-test.true
    (did.others told) list list' c.loop-i.auto.i (was.others told) (was.rebuilt list list' written told own)
    (did.rebuilt list list' written told (data_same shape list (slice_index rows i) (buffered c.args.buffer.now i) (sector_of (take (8192 * i + 512 * shape.disks - 8192 * i) (drop (8192 * i) c.loop-i.buffer))) c.requires.rows.valid
    (λ role lt. part_is c.loop-i.buffer c.args.buffer.now i shape.disks role lt (was.ahead i role (omega arith) c.loop-i-test.true lt)) (own i c.loop-i.auto.i c.loop-i-test.true)))

pub returns-then-lost-ne0-clause-others : goal.returns-then-lost-ne0-clause-others
returns-then-lost-ne0-clause-others g c = λ told.
    let before = present (g.B.Bank.given c.args.bank.now) (g.B.Bank.tape c.args.bank.now) in
    let between = present (g.B.Bank.given c.loop-i.bank) (g.B.Bank.tape c.loop-i.bank) in
    let after = present (g.B.Bank.given c.rewrite_row-lost.new.bank) (g.B.Bank.tape c.rewrite_row-lost.new.bank) in
    kept_more c.loop-i.members c.rewrite_row-lost.new.members c.rewrite_row-lost.result c.rewrite_row-lost.ensures.lost.members before between after c.args.shape.now c.args.rows.now c.requires.once
    c.args.from_row c.loop-i.i c.loop-i-test.true (c.rewrite_row-lost.ensures.others told) c.loop-i.auto.i (c.loop-i.invariant.others told)

pub returns-then-lost-ne0-clause-rest : goal.returns-then-lost-ne0-clause-rest
returns-then-lost-ne0-clause-rest g c = λ j role le lt is.
    let few : c.args.shape.now.disks ≤ 16 = (limited c.args.shape.now c.requires.rows.valid).most in
    let within : 8192 * c.loop-i.i + 512 * c.args.shape.now.disks ≤ length c.loop-i.buffer = omega (arith, c.loop-i.auto.buffer, c.requires.buffer, few, c.loop-i-test.true) in
    sector-part_other c.loop-i.buffer c.rewrite_row-lost.new.bytes c.loop-i.i (16 * j + role) (512 * c.args.shape.now.disks) (omega (arith, few)) within
    (omega (arith, c.rewrite_row-lost.auto.bytes, within)) (inr (omega (arith, le)))
    ∙ c.loop-i.invariant.ahead j role (omega (arith, le)) lt is

pub loop-i-preserved : goal.loop-i-preserved
loop-i-preserved g c =
    let was = c.loop-i.invariant in
    let did = c.rewrite_row-lost.ensures in
    let shape = c.args.shape.now in
    let i = c.loop-i.i in
    let rows = c.args.rows.now in
    let row = slice_index rows i in
    let mid = c.loop-i.members in
    let new = c.rewrite_row-lost.new.members in
    let lost = c.rewrite_row-lost.result in
    let before = present (g.B.Bank.given c.args.bank.now) (g.B.Bank.tape c.args.bank.now) in
    let between = present (g.B.Bank.given c.loop-i.bank) (g.B.Bank.tape c.loop-i.bank) in
    let after = present (g.B.Bank.given c.rewrite_row-lost.new.bank) (g.B.Bank.tape c.rewrite_row-lost.new.bank) in
    let few : shape.disks ≤ 16 = (limited shape c.requires.rows.valid).most in
    let within : 8192 * i + 512 * shape.disks ≤ length c.loop-i.buffer = omega (arith, c.loop-i.auto.buffer, c.requires.buffer, few, c.loop-i-test.true) in
    let none : lost ≡ 0 = omega (arith, c.if-lost-ne0.false) in
    let has : Contains rows row = contains-at rows i c.loop-i-test.true in
    let own_row : (list : ℕ → Sector) → AreDataFrom c.args.from_row shape list rows c.args.buffer.now
    → AreDataOf shape list row (sector_of (take (8192 * i + 512 * shape.disks - 8192 * i) (drop (8192 * i) c.loop-i.buffer))) = λ list own.
    data_same shape list row (buffered c.args.buffer.now i) (sector_of (take (8192 * i + 512 * shape.disks - 8192 * i) (drop (8192 * i) c.loop-i.buffer))) c.requires.rows.valid
    (λ role lt. part_is c.loop-i.buffer c.args.buffer.now i shape.disks role lt (was.ahead i role (omega arith) c.loop-i-test.true lt)) (own i c.loop-i.auto.i c.loop-i-test.true) in
    record {
      marks = λ list list' written own.
          marks_more (g.B.Bank.given c.args.bank.now) (g.B.Bank.given c.loop-i.bank) c.args.members.now mid shape list' (Contains rows) (λ other. other ≡ row)
          (g.B.Bank.tape c.args.bank.now) (g.B.Bank.tape c.loop-i.bank) (g.B.Bank.tape c.rewrite_row-lost.new.bank) c.requires.apart was.given was.members
          (λ other same. subst (λ (r : ℕ). Contains rows r) (sym same) has) (was.marks list list' written own)
          (did.each_mark list list' written (λ told. own_row list (own told)));
      done = λ list list' written told own. full_more mid new lost did.lost.members before between after shape rows c.requires.once c.args.from_row i c.loop-i-test.true
          (did.others told) list' (was.done list list' written told own) (did.full list list' written told (own_row list own));
      rebuilt = λ list list' written told own. rebuilt_more mid new lost did.lost.members before between after shape rows c.requires.once c.args.from_row i c.loop-i-test.true
          (did.others told) list list' c.loop-i.auto.i (was.others told) (was.rebuilt list list' written told own) (did.rebuilt list list' written told (own_row list own));
      others = λ told. kept_more mid new lost did.lost.members before between after shape rows c.requires.once c.args.from_row i c.loop-i-test.true
          (did.others told) c.loop-i.auto.i (was.others told);
      ahead = λ j role le lt is.
          sector-part_other c.loop-i.buffer c.rewrite_row-lost.new.bytes i (16 * j + role) (512 * shape.disks) (omega (arith, few)) within
          (omega (arith, c.rewrite_row-lost.auto.bytes, within)) (inr (omega (arith, le)))
          ∙ was.ahead j role (omega (arith, le)) lt is;
      members = none_then mid new lost did.lost.members none ∙ was.members;
      given = did.given ∙ was.given;
      never_falls = λ s. omega (arith, was.never_falls s, did.lost.never_falls s);
    }

pub returns-clause-lost : goal.returns-clause-lost
returns-clause-lost g c =
    subst (λ (m : Members). AreLost c.args.shape.now c.args.members.now m 0 (g.B.Bank.faults_of c.args.bank.now) (g.B.Bank.faults_of c.loop-i.bank)) (sym c.loop-i.invariant.members)
    (none_lost c.args.shape.now c.args.members.now (g.B.Bank.faults_of c.args.bank.now) (g.B.Bank.faults_of c.loop-i.bank) c.loop-i.invariant.never_falls)

pub returns-clause-full : goal.returns-clause-full
returns-clause-full g c = λ list list' written told own i low lt. c.loop-i.invariant.done list list' written told own i low (omega (arith, lt, c.loop-i-test.false))

pub returns-clause-rebuilt : goal.returns-clause-rebuilt
returns-clause-rebuilt g c = λ list list' written told own i low lt. c.loop-i.invariant.rebuilt list list' written told own i low (omega (arith, lt, c.loop-i-test.false))

pub returns-clause-others : goal.returns-clause-others
returns-clause-others g c = λ told row apart. c.loop-i.invariant.others told row (λ j low lt. apart j low (omega (arith, lt, c.loop-i.auto.i-end c.requires.start)))

pub rewrite_row-lost-requires-clause-apart : goal.rewrite_row-lost-requires-clause-apart
rewrite_row-lost-requires-clause-apart g c = subst (λ (m : Members). AreApart (reading_of m)) (sym c.loop-i.invariant.members) c.requires.apart

-- what a row lost, counted from the beginning
lost_from : {shape : Shape} {old mid new : Members} {lost : ℕ} {first before after : ℕ → ℕ} → mid ≡ old → NeverFalls first before → AreLost shape mid new lost before after → AreLost shape old new lost first after
lost_from {lost = lost} {first = first} {before = before} {after = after} same never one = record {
  members = one.members ∙ ap (members_without lost) same;
  failed = λ s gone.
      let f = one.failed s gone in
      (faulted_longer s first before after after (never s) (omega arith) (one.never_falls s) f.0, f.1, f.2, subst (λ (m : Members). holder (role_state (reading_of m) f.1) ≡ Some s) same f.3);
  never_falls = λ s. omega (arith, never s, one.never_falls s);
}

pub returns-then-lost-ne0-clause-lost : goal.returns-then-lost-ne0-clause-lost
returns-then-lost-ne0-clause-lost g c = lost_from c.loop-i.invariant.members c.loop-i.invariant.never_falls c.rewrite_row-lost.ensures.lost
