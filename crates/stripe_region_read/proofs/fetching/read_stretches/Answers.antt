use Rattle.std.proofs.Common.{◌≡◌, ◌⊎◌, ◌+◌, ◌-◌, ◌*◌, ◌/◌, ◌<◌, ◌≤◌, ℕ, [], length, take, drop, inl, inr, refl, sym, ◌∙◌, ap, subst, arith, le_trans}
use Rattle.std.specs.Prelude.{bit_or}
use Rattle.std.proofs.lemmas.Bool.{cases_lt}
use Rattle.stripe_io.specs.raid_types_Sectors.{Sector}
use Rattle.stripe_io.specs.raid_types_Shapes.{data_disks}
use Rattle.stripe_io.specs.raid_types_the_Shape.{Shape}
use Rattle.stripe_io.specs.sb_codec_the_Sb.{Sb}
use Rattle.stripe_io.specs.bank_Tape.{Contents}
use Rattle.stripe_io.specs.raid_layout_Layout.{place}
use Rattle.stripe_io.specs.raid_parity_Rows.{sector_of}
use Rattle.stripe_io.specs.sb_specs_the_Members.{Members}
use Rattle.stripe_io.specs.stripe_row_Rows.{reading_of, present, members_without}
use Rattle.stripe_io.specs.stripe_list_Full.{DataStands, RowStands}
use Rattle.stripe_io.proofs.stripe_row_Written.{members_without-none}
use Rattle.stripe_io.proofs.stripe_list_LossLaws.{members_then}
use Rattle.stripe_io.proofs.stripe_list_ListLaws.{present_same}
use Rattle.stripe_io.specs.history_Stands.{shape_for}
use Rattle.stripe_io.specs.array_members_Placed.{AreWhole, AreLost, IsInForce, IsPlaced}
use Rattle.stripe_io.specs.array_members_Moving.{IsMoved}
use Rattle.stripe_io.proofs.array_members_MovedLaws.{moved-same, moved-lost, moved-then, lost-none}
use Rattle.stripe_io.proofs.array_members_LackingLaws.{since-same, since-lost, since-then, in-second}
use Rattle.stripe_io.proofs.array_members_LackingWrites.{lost-of}
use Rattle.stripe_io.proofs.sb_safe_updates_RefusingLaws.{not-err}
use Rattle.stripe_region_read.specs.Stretches.{IsStretch, IsOneRun, IsShapeOf, relied_rows}
use Rattle.stripe_region_read.proofs.StretchLaws.{list-short, data-few}
use Rattle.stripe_region_read.proofs.UnreadLaws.{answer-lacked}
use Rattle.stripe_region_read.proofs.StretchReads.{part-count, part-long, sector-here, sector-before, sector-read}
use Rattle.stripe_io.specs.bank_Given.{Given}
use Rattle.stripe_region_read.proofs.fetching.read_stretches.Goals as goal

-- a shape in force is one before, where slots were lost
force-old : (old mid : Members) (lost : ℕ) → mid ≡ members_without lost old → (shape : Shape) → IsInForce mid.newest shape → IsInForce old.newest shape
force-old old mid lost is shape force = subst (λ (m : Members). IsInForce m.newest shape) is force

-- behind the end is nothing below it
not-below : {X : Type 0} (a b : ℕ) → a < b → b ≤ a → X
not-below a b below end = absurd (omega (arith, below, end))

pub overflow_add-to : goal.overflow_add-to
overflow_add-to g c =
    let newest = c.args.members.now.newest in
    let few = data-few newest c.requires.placed.fit _ (inl refl) in
    let short = list-short newest _ (inl refl) in
    omega (arith, few, short, c.requires.within)

pub loop-at-init : goal.loop-at-init
loop-at-init g c =
    let m = c.args.members.now in
    let given = g.B.Bank.given c.args.bank.now in
    let f0 = g.B.Bank.faults_of c.args.bank.now in
    record {
      moved = moved-same given given m m refl refl c.requires.placed c.requires.unlost;
      lost = (0, members_without-none m);
      failed = since-same m f0 f0;
      kept = λ whole. refl;
      from = omega arith;
      within = omega arith;
      holds = λ told hidden list stands fills i low shown. absurd (omega (arith, low));
      tape = λ told. refl;
      given = refl;
      counts = λ s. omega arith;
    }

pub run_at-stretch-requires-clause-short : goal.run_at-stretch-requires-clause-short
run_at-stretch-requires-clause-short g c =
    let newest = c.args.members.now.newest in
    let few = data-few newest c.requires.placed.fit _ (inl refl) in
    let short = list-short newest _ (inl refl) in
    omega (arith, few, short, c.requires.within)

pub read_chunk-read-requires-clause-some : goal.read_chunk-read-requires-clause-some
read_chunk-read-requires-clause-some g c =
    let was = c.loop-at.invariant in
    let stretch = c.run_at-stretch.ensures in
    let d = c.loop-at.at - c.args.first in
    let e = c.run_at-stretch.result.end - c.args.first in
    let some : d ≤ e = (let more = stretch.some in let from = was.from in omega (arith, more, from)) in
    let within : 512 * e ≤ length c.loop-at.into = (let last = stretch.within in let size = c.loop-at.auto.into in omega (arith, last, size)) in
    let count = part-count c.loop-at.into [] d e within some in
    let more = stretch.some in
    let from = was.from in
    omega (arith, count, more, from)

pub read_chunk-read-requires-clause-run : goal.read_chunk-read-requires-clause-run
read_chunk-read-requires-clause-run g c =
    let was = c.loop-at.invariant in
    let stretch = c.run_at-stretch.ensures in
    let at = c.loop-at.at in
    let end = c.run_at-stretch.result.end in
    let d = at - c.args.first in
    let e = end - c.args.first in
    let some : d ≤ e = (let more = stretch.some in let from = was.from in omega (arith, more, from)) in
    let within : 512 * e ≤ length c.loop-at.into = (let last = stretch.within in let size = c.loop-at.auto.into in omega (arith, last, size)) in
    let count = part-count c.loop-at.into [] d e within some in
    let more = stretch.some in
    let from = was.from in
    subst (λ (n : ℕ). IsOneRun c.run_at-stretch.result.shape at n) (omega (arith, count, more, from)) stretch.run

pub read_chunk-read-requires-clause-within : goal.read_chunk-read-requires-clause-within
read_chunk-read-requires-clause-within g c =
    let was = c.loop-at.invariant in
    let stretch = c.run_at-stretch.ensures in
    let at = c.loop-at.at in
    let end = c.run_at-stretch.result.end in
    let d = at - c.args.first in
    let e = end - c.args.first in
    let some : d ≤ e = (let more = stretch.some in let from = was.from in omega (arith, more, from)) in
    let within : 512 * e ≤ length c.loop-at.into = (let last = stretch.within in let size = c.loop-at.auto.into in omega (arith, last, size)) in
    let count = part-count c.loop-at.into [] d e within some in
    let size = was.moved.size in
    let newest = c.loop-at.members.newest in
    let short = list-short c.args.members.now.newest c.run_at-stretch.result.shape (force-old c.args.members.now c.loop-at.members was.lost.0 was.lost.1 c.run_at-stretch.result.shape stretch.force) in
    let few = data-few newest was.moved.placed.fit c.run_at-stretch.result.shape stretch.force in
    let same = ap (λ (k : ℕ). data_disks c.run_at-stretch.result.shape * k) size in
    let last = stretch.within in
    let more = stretch.some in
    let from = was.from in
    omega (arith, count, short, few, same, last, more, from, c.requires.within)

pub read_chunk-read-requires-clause-short : goal.read_chunk-read-requires-clause-short
read_chunk-read-requires-clause-short g c =
    let was = c.loop-at.invariant in
    let stretch = c.run_at-stretch.ensures in
    let at = c.loop-at.at in
    let end = c.run_at-stretch.result.end in
    let d = at - c.args.first in
    let e = end - c.args.first in
    let some : d ≤ e = (let more = stretch.some in let from = was.from in omega (arith, more, from)) in
    let within : 512 * e ≤ length c.loop-at.into = (let last = stretch.within in let size = c.loop-at.auto.into in omega (arith, last, size)) in
    let count = part-count c.loop-at.into [] d e within some in
    let size = was.moved.size in
    let newest = c.loop-at.members.newest in
    let short = list-short c.args.members.now.newest c.run_at-stretch.result.shape (force-old c.args.members.now c.loop-at.members was.lost.0 was.lost.1 c.run_at-stretch.result.shape stretch.force) in
    let few = data-few newest was.moved.placed.fit c.run_at-stretch.result.shape stretch.force in
    let same = ap (λ (k : ℕ). data_disks c.run_at-stretch.result.shape * k) size in
    let last = stretch.within in
    let more = stretch.some in
    let from = was.from in
    omega (arith, count, short, few, same, last, more, from, c.requires.within)

pub returns-then-is_err-clause-moved : goal.returns-then-is_err-clause-moved
returns-then-is_err-clause-moved g c =
    let was = c.loop-at.invariant in
    let did = c.read_chunk-read.ensures in
    let old = c.args.members.now in
    let mid = c.loop-at.members in
    let new = c.read_chunk-read.new.members in
    let given = g.B.Bank.given c.args.bank.now in
    let f1 = g.B.Bank.faults_of c.loop-at.bank in
    let f2 = g.B.Bank.faults_of c.read_chunk-read.new.bank in
    let r = c.read_chunk-read.result.lost in
    let shape = c.run_at-stretch.result.shape in
    let lost1 : AreLost given shape mid new r f1 f2 = lost-of given shape mid new r f1 f2 was.moved.placed did.lost in
    let two : IsMoved given mid new = moved-lost given shape mid new r f1 f2 was.moved.placed lost1 was.moved.unlost in
    moved-then given old mid new was.moved two

pub returns-then-is_err-clause-lost : goal.returns-then-is_err-clause-lost
returns-then-is_err-clause-lost g c =
    let was = c.loop-at.invariant in
    let did = c.read_chunk-read.ensures in
    let old = c.args.members.now in
    let r = c.read_chunk-read.result.lost in
    (bit_or was.lost.0 r, did.lost.members ∙ ap (members_without r) was.lost.1 ∙ members_then was.lost.0 r old)

pub returns-then-is_err-clause-failed : goal.returns-then-is_err-clause-failed
returns-then-is_err-clause-failed g c =
    let was = c.loop-at.invariant in
    let did = c.read_chunk-read.ensures in
    let old = c.args.members.now in
    let mid = c.loop-at.members in
    let new = c.read_chunk-read.new.members in
    let given = g.B.Bank.given c.args.bank.now in
    let f0 = g.B.Bank.faults_of c.args.bank.now in
    let f1 = g.B.Bank.faults_of c.loop-at.bank in
    let f2 = g.B.Bank.faults_of c.read_chunk-read.new.bank in
    let r = c.read_chunk-read.result.lost in
    let shape = c.run_at-stretch.result.shape in
    let lost1 : AreLost given shape mid new r f1 f2 = lost-of given shape mid new r f1 f2 was.moved.placed did.lost in
    since-then old mid new 0 0 0 f0 f1 f2 was.counts did.lost.never_falls was.failed (since-lost given shape mid new r f1 f2 lost1) (in-second 0)

pub returns-then-is_err-clause-kept : goal.returns-then-is_err-clause-kept
returns-then-is_err-clause-kept g c =
    let was = c.loop-at.invariant in
    let did = c.read_chunk-read.ensures in
    let stretch = c.run_at-stretch.ensures in
    let mid = c.loop-at.members in
    let new = c.read_chunk-read.new.members in
    let given = g.B.Bank.given c.args.bank.now in
    let f1 = g.B.Bank.faults_of c.loop-at.bank in
    let f2 = g.B.Bank.faults_of c.read_chunk-read.new.bank in
    let r = c.read_chunk-read.result.lost in
    let shape = c.run_at-stretch.result.shape in
    let lost1 : AreLost given shape mid new r f1 f2 = lost-of given shape mid new r f1 f2 was.moved.placed did.lost in
    let two : IsMoved given mid new = moved-lost given shape mid new r f1 f2 was.moved.placed lost1 was.moved.unlost in
    λ whole. lost1.kept (lost-none given shape mid new r f1 f2 lost1 stretch.force whole) ∙ was.kept (two.whole whole)

pub returns-then-is_err-clause-counts : goal.returns-then-is_err-clause-counts
returns-then-is_err-clause-counts g c =
    λ s. le_trans (c.loop-at.invariant.counts s) (c.read_chunk-read.ensures.lost.never_falls s)

pub returns-then-is_err-clause-unread : goal.returns-then-is_err-clause-unread
returns-then-is_err-clause-unread g c =
    let was = c.loop-at.invariant in
    let did = c.read_chunk-read.ensures in
    let stretch = c.run_at-stretch.ensures in
    let mid = c.loop-at.members in
    let new = c.read_chunk-read.new.members in
    let shape = c.run_at-stretch.result.shape in
    let at = c.loop-at.at in
    let end = c.run_at-stretch.result.end in
    let d = at - c.args.first in
    let e = end - c.args.first in
    let some : d ≤ e = (let more = stretch.some in let from = was.from in omega (arith, more, from)) in
    let within : 512 * e ≤ length c.loop-at.into = (let last = stretch.within in let size = c.loop-at.auto.into in omega (arith, last, size)) in
    let newest : new.newest ≡ mid.newest = ap (λ (x : Members). x.newest) did.lost.members in
    let count = part-count c.loop-at.into [] d e within some in
    let from = was.from in
    let more = stretch.some in
    let last = stretch.within in
    let found = answer-lacked new shape c.args.relied c.relied_rows-rows.result at end more (subst (λ (sb : Sb). IsStretch sb shape at end) (sym newest) stretch.one)
    (subst (λ (sb : Sb). c.relied_rows-rows.result ≡ relied_rows sb c.args.relied shape) (sym newest) c.relied_rows-rows.ensures.rows)
    (length (take (512 * e - 512 * d) (drop (512 * d) c.loop-at.into)) / 512) (omega (arith, count, from, more)) c.read_chunk-read.result.answer (sym c.is_err.ensures.value ∙ c.if-is_err.true) did.answer in
    λ lt. let high = found.2 in (found.0, found.1, omega (arith, high, last), found.3)

pub returns-then-is_err-clause-holds : goal.returns-then-is_err-clause-holds
returns-then-is_err-clause-holds g c =
    let was = c.loop-at.invariant in
    let did = c.read_chunk-read.ensures in
    let stretch = c.run_at-stretch.ensures in
    let mid = c.loop-at.members in
    let new = c.read_chunk-read.new.members in
    let given = g.B.Bank.given c.args.bank.now in
    let f1 = g.B.Bank.faults_of c.loop-at.bank in
    let f2 = g.B.Bank.faults_of c.read_chunk-read.new.bank in
    let r = c.read_chunk-read.result.lost in
    let shape = c.run_at-stretch.result.shape in
    let lost1 : AreLost given shape mid new r f1 f2 = lost-of given shape mid new r f1 f2 was.moved.placed did.lost in
    let two : IsMoved given mid new = moved-lost given shape mid new r f1 f2 was.moved.placed lost1 was.moved.unlost in
    let at = c.loop-at.at in
    let end = c.run_at-stretch.result.end in
    let d = at - c.args.first in
    let e = end - c.args.first in
    let some : d ≤ e = (let more = stretch.some in let from = was.from in omega (arith, more, from)) in
    let within : 512 * e ≤ length c.loop-at.into = (let last = stretch.within in let size = c.loop-at.auto.into in omega (arith, last, size)) in
    λ told hidden list stands fills i low shown.
    sector-before c.loop-at.into c.read_chunk-read.new.into d e within some i (let from = was.from in omega (arith, low, from))
    ∙ was.holds told hidden list stands (elim fills [ inl whole ↦ inl (two.whole whole) | inr rows ↦ inr rows ]) i low shown

pub loop-at-preserved : goal.loop-at-preserved
loop-at-preserved g c =
    let was = c.loop-at.invariant in
    let did = c.read_chunk-read.ensures in
    let stretch = c.run_at-stretch.ensures in
    let old = c.args.members.now in
    let mid = c.loop-at.members in
    let new = c.read_chunk-read.new.members in
    let given = g.B.Bank.given c.args.bank.now in
    let f0 = g.B.Bank.faults_of c.args.bank.now in
    let f1 = g.B.Bank.faults_of c.loop-at.bank in
    let f2 = g.B.Bank.faults_of c.read_chunk-read.new.bank in
    let r = c.read_chunk-read.result.lost in
    let shape = c.run_at-stretch.result.shape in
    let lost1 : AreLost given shape mid new r f1 f2 = lost-of given shape mid new r f1 f2 was.moved.placed did.lost in
    let two : IsMoved given mid new = moved-lost given shape mid new r f1 f2 was.moved.placed lost1 was.moved.unlost in
    let at = c.loop-at.at in
    let end = c.run_at-stretch.result.end in
    let d = at - c.args.first in
    let e = end - c.args.first in
    let some : d ≤ e = (let more = stretch.some in let from = was.from in omega (arith, more, from)) in
    let within : 512 * e ≤ length c.loop-at.into = (let last = stretch.within in let size = c.loop-at.auto.into in omega (arith, last, size)) in
    record {
      moved = moved-then given old mid new was.moved two;
      lost = (bit_or was.lost.0 r, did.lost.members ∙ ap (members_without r) was.lost.1 ∙ members_then was.lost.0 r old);
      failed = since-then old mid new 0 0 0 f0 f1 f2 was.counts did.lost.never_falls was.failed (since-lost given shape mid new r f1 f2 lost1) (in-second 0);
      kept = λ whole. lost1.kept (lost-none given shape mid new r f1 f2 lost1 stretch.force whole) ∙ was.kept (two.whole whole);
      from = let from = was.from in let more = stretch.some in omega (arith, from, more);
      within = stretch.within;
      holds = λ told hidden list stands fills i high shown. elim (cases_lt (c.args.first + i) at) [
        | inl low ↦ sector-before c.loop-at.into c.read_chunk-read.new.into d e within some i (let from = was.from in omega (arith, low, from))
            ∙ was.holds told hidden list stands (elim fills [ inl whole ↦ inl (two.whole whole) | inr rows ↦ inr rows ]) i low shown
        | inr late ↦
            let tape0 = g.B.Bank.tape c.args.bank.now in
            let c0 = present given tape0 in
            let c1 = present (g.B.Bank.given c.loop-at.bank) (g.B.Bank.tape c.loop-at.bank) in
            let same : c1 ≡ c0 = present_same was.given (was.tape told) in
            let newest : mid.newest ≡ old.newest = ap (λ (x : Members). x.newest) was.lost.1 in
            let x = c.args.first + i in
            let j = i - d in
            let from = was.from in
            let more = stretch.some in
            let here : at + j ≡ x = omega (arith, late, from) in
            let long = part-long c.loop-at.into [] d e within some in
            let count = part-count c.loop-at.into [] d e within some in
            let part = c.read_chunk-read.new.into in
            let rows = c.relied_rows-rows.result in
            let placed : shape_for old.newest x ≡ shape = subst (λ (sb : Sb). shape_for sb x ≡ shape) newest (stretch.one x late high) in
            let read1 = not-err c.read_chunk-read.result.answer (sym c.is_err.ensures.value ∙ c.if-is_err.false) did.sectors told in
            let read : (list0 : ℕ → Sector) → DataStands (reading_of mid) c0 shape list0 (place shape x).row → ((place shape x).row < rows → AreWhole new ⊎ RowStands (reading_of mid) c0 shape list0 (place shape x).row)
            → sector_of part j ≡ list0 x =
            subst (λ (y : ℕ). (list0 : ℕ → Sector) → DataStands (reading_of mid) c0 shape list0 (place shape y).row → ((place shape y).row < rows → AreWhole new ⊎ RowStands (reading_of mid) c0 shape list0 (place shape y).row)
            → sector_of part j ≡ list0 y) here
            (subst (λ (k : Contents). (list0 : ℕ → Sector) → DataStands (reading_of mid) k shape list0 (place shape (at + j)).row
            → ((place shape (at + j)).row < rows → AreWhole new ⊎ RowStands (reading_of mid) k shape list0 (place shape (at + j)).row) → sector_of part j ≡ list0 (at + j)) same
            (λ list0. read1 list0 j (omega (arith, count, late, high, from, more)))) in
            sector-here c.loop-at.into part d e within some (c.read_chunk-read.auto.into ∙ long) i (omega (arith, late, from)) (omega (arith, high, from))
            ∙ sector-read given old mid new was.moved c.requires.placed c0 shape (force-old old mid was.lost.0 was.lost.1 shape stretch.force) c.args.relied rows
            (subst (λ (sb : Sb). rows ≡ relied_rows sb c.args.relied shape) newest c.relied_rows-rows.ensures.rows) x placed (sector_of part j) read (IsShapeOf old.newest c.args.first (c.args.first + length c.args.into.now / 512))
            (x, omega arith, (let last = stretch.within in omega (arith, high, last)), refl) hidden list stands shown fills
      ];
      tape = λ told. did.tape told ∙ was.tape told;
      given = did.given ∙ was.given;
      counts = λ s. le_trans (was.counts s) (did.lost.never_falls s);
    }

pub run_at-stretch-requires-clause-fit : goal.run_at-stretch-requires-clause-fit
run_at-stretch-requires-clause-fit g c = c.loop-at.invariant.moved.placed.fit

pub run_at-stretch-requires-clause-some : goal.run_at-stretch-requires-clause-some
run_at-stretch-requires-clause-some g c = c.loop-at-test.true

pub relied_rows-rows-requires-clause-fit : goal.relied_rows-rows-requires-clause-fit
relied_rows-rows-requires-clause-fit g c = c.loop-at.invariant.moved.placed.fit

pub relied_rows-rows-requires-clause-shape : goal.relied_rows-rows-requires-clause-shape
relied_rows-rows-requires-clause-shape g c = c.run_at-stretch.ensures.force

pub read_chunk-read-requires-clause-placed : goal.read_chunk-read-requires-clause-placed
read_chunk-read-requires-clause-placed g c = subst (λ (b : Given). IsPlaced b c.loop-at.members) (sym c.loop-at.invariant.given) c.loop-at.invariant.moved.placed

pub read_chunk-read-requires-clause-shape : goal.read_chunk-read-requires-clause-shape
read_chunk-read-requires-clause-shape g c = c.run_at-stretch.ensures.force

pub read_chunk-read-requires-clause-mended : goal.read_chunk-read-requires-clause-mended
read_chunk-read-requires-clause-mended g c = c.relied_rows-rows.ensures.within

pub read_chunk-read-requires-clause-stripes : goal.read_chunk-read-requires-clause-stripes
read_chunk-read-requires-clause-stripes g c = c.relied_rows-rows.ensures.stripes

pub returns-then-is_err-clause-from : goal.returns-then-is_err-clause-from
returns-then-is_err-clause-from g c = c.loop-at.invariant.from

pub returns-then-is_err-clause-within : goal.returns-then-is_err-clause-within
returns-then-is_err-clause-within g c = c.loop-at.invariant.within

pub returns-then-is_err-clause-tape : goal.returns-then-is_err-clause-tape
returns-then-is_err-clause-tape g c told = c.read_chunk-read.ensures.tape told ∙ c.loop-at.invariant.tape told

pub returns-then-is_err-clause-given : goal.returns-then-is_err-clause-given
returns-then-is_err-clause-given g c = c.read_chunk-read.ensures.given ∙ c.loop-at.invariant.given

pub returns-clause-moved : goal.returns-clause-moved
returns-clause-moved g c = c.loop-at.invariant.moved

pub returns-clause-lost : goal.returns-clause-lost
returns-clause-lost g c = c.loop-at.invariant.lost

pub returns-clause-failed : goal.returns-clause-failed
returns-clause-failed g c = c.loop-at.invariant.failed

pub returns-clause-kept : goal.returns-clause-kept
returns-clause-kept g c = c.loop-at.invariant.kept

pub returns-clause-from : goal.returns-clause-from
returns-clause-from g c = c.loop-at.invariant.from

pub returns-clause-within : goal.returns-clause-within
returns-clause-within g c = c.loop-at.invariant.within

pub returns-clause-tape : goal.returns-clause-tape
returns-clause-tape g c = c.loop-at.invariant.tape

pub returns-clause-given : goal.returns-clause-given
returns-clause-given g c = c.loop-at.invariant.given

pub returns-clause-counts : goal.returns-clause-counts
returns-clause-counts g c = c.loop-at.invariant.counts

pub returns-clause-unread : goal.returns-clause-unread
returns-clause-unread g c low = not-below c.loop-at.at _ low c.loop-at-test.false
