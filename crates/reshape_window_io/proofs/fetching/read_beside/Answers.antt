use Rattle.std.proofs.Common.{◌≡◌, inl, inr, ℕ, ◌+◌, ◌-◌, ◌*◌, ◌/◌, ◌≤◌, true, List, [], length, take, drop, Option, Some, None, is_some, refl, sym, ◌∙◌, ap, subst, le_trans, arith}
use mathlib.Core.List.{not-mem-nil}
use Rattle.std.specs.Prelude.{bit_or}
use Rattle.std.proofs.lemmas.Bool.{cases_lt}
use borrow.Rule.Slice.PartMut.{put_mid}
use Rattle.stripe_region_read.specs.raid_types_the_Refusal.{Refusal}
use Rattle.stripe_region_read.specs.raid_types_the_Shape.{Shape}
use Rattle.stripe_region_read.specs.bank_Tape.{Contents}
use Rattle.stripe_region_read.specs.sb_codec_the_Sb.{Sb}
use Rattle.stripe_region_read.specs.sb_specs_the_Members.{Members}
use Rattle.stripe_region_read.specs.sb_specs_Reading.{list_length}
use Rattle.reshape_window_steps.specs.stripe_row_Rows.{present, members_without}
use Rattle.reshape_window_steps.proofs.stripe_list_LossLaws.{members_then}
use Rattle.reshape_window_steps.proofs.stripe_list_ListLaws.{present_same}
use Rattle.reshape_window_steps.specs.array_members_Moving.{IsMoved}
use Rattle.reshape_window_steps.proofs.array_members_MovedLaws.{moved-then, moved-from}
use Rattle.reshape_window_steps.proofs.array_members_LackingLaws.{since-then, in-second}
use Rattle.reshape_window_steps.proofs.array_members_LackingLists.{none-of}
use Rattle.stripe_region_read.specs.Stretches.{IsShapeOf, ListStandsIn, RowsStandIn}
use Rattle.stripe_region_read.proofs.StretchReads.{part-long, list-among, rows-among}
use Rattle.stripe_region_read.proofs.StretchLaws.{list-short, data-few}
use Rattle.reshape_window_io.specs.Fetching.{IsShapeBeside}
use Rattle.reshape_window_io.proofs.Beside.{unread-beside, shape-beside, put-long, before-part, window-part, behind-part, list-to-moved, rows-to-moved}
use Rattle.stripe_region_read.specs.bank_Given.{Given}
use Rattle.reshape_window_steps.specs.array_members_Placed.{IsPlaced}
use Rattle.reshape_window_io.proofs.fetching.read_beside.Goals as goal

pub overflow_add-first : goal.overflow_add-first
overflow_add-first g c =
    let newest = c.args.members.now.newest in
    let few = data-few newest c.requires.placed.fit _ (inl refl) in
    let short = list-short newest _ (inl refl) in
    omega (arith, few, short, c.requires.within)

pub read_regions-refusal-requires-clause-into : goal.read_regions-refusal-requires-clause-into
read_regions-refusal-requires-clause-into g c =
    let bytes = c.args.into.now in
    let n : ℕ = length bytes / 512 in
    let part = c.part_of-part.ensures in
    let lo = c.part_of-part.result.lo in
    let hi = c.part_of-part.result.hi in
    let d : ℕ = lo - c.args.first in
    let e : ℕ = hi - c.args.first in
    let whole = c.requires.into in
    let begins = part.begins in
    let order = part.order in
    let ends = part.ends in
    let de : d ≤ e = omega (arith, begins, order) in
    let en : e ≤ n = omega (arith, begins, order, ends) in
    let long1 = part-long bytes [] 0 d (omega (arith, whole, de, en)) (omega arith) in
    omega (arith, long1)

pub read_regions-refusal-requires-clause-within : goal.read_regions-refusal-requires-clause-within
read_regions-refusal-requires-clause-within g c =
    let bytes = c.args.into.now in
    let n : ℕ = length bytes / 512 in
    let part = c.part_of-part.ensures in
    let lo = c.part_of-part.result.lo in
    let hi = c.part_of-part.result.hi in
    let d : ℕ = lo - c.args.first in
    let e : ℕ = hi - c.args.first in
    let whole = c.requires.into in
    let begins = part.begins in
    let order = part.order in
    let ends = part.ends in
    let de : d ≤ e = omega (arith, begins, order) in
    let en : e ≤ n = omega (arith, begins, order, ends) in
    let long1 = part-long bytes [] 0 d (omega (arith, whole, de, en)) (omega arith) in
    let within = c.requires.within in
    omega (arith, long1, de, en, within)

never : (o : Option Refusal) → is_some o ≡ true → o ≡ None → ⊥
never None is none = absurd (cc)
never (Some refusal) is none = absurd (cc)

pub returns-then-is_some-clause-refused : goal.returns-then-is_some-clause-refused
returns-then-is_some-clause-refused g c =
    let bytes = c.args.into.now in
    let n : ℕ = length bytes / 512 in
    let part = c.part_of-part.ensures in
    let lo = c.part_of-part.result.lo in
    let hi = c.part_of-part.result.hi in
    let d : ℕ = lo - c.args.first in
    let e : ℕ = hi - c.args.first in
    let whole = c.requires.into in
    let begins = part.begins in
    let order = part.order in
    let ends = part.ends in
    let de : d ≤ e = omega (arith, begins, order) in
    let en : e ≤ n = omega (arith, begins, order, ends) in
    let long1 = part-long bytes [] 0 d (omega (arith, whole, de, en)) (omega arith) in
    unread-beside (Some c.args.span.now) c.args.relied c.args.first (c.args.first + length (take (512 * d - 512 * 0) (drop (512 * 0) bytes)) / 512) c.args.first (c.args.first + n) c.read_regions-refusal.new.members (omega arith) (omega (arith, long1, de, en))
    (λ x low high. part.before x low (omega (arith, high, long1, begins))) c.read_regions-refusal.result c.read_regions-refusal.ensures.refused

pub returns-then-is_some-clause-holds : goal.returns-then-is_some-clause-holds
returns-then-is_some-clause-holds g c = λ none. absurd (never c.read_regions-refusal.result (sym c.is_some.ensures ∙ c.if-is_some.true) none)

pub fill_window-requires-clause-into : goal.fill_window-requires-clause-into
fill_window-requires-clause-into g c =
    let bytes = c.args.into.now in
    let n : ℕ = length bytes / 512 in
    let part = c.part_of-part.ensures in
    let first = c.args.first in
    let lo = c.part_of-part.result.lo in
    let hi = c.part_of-part.result.hi in
    let d : ℕ = lo - first in
    let e : ℕ = hi - first in
    let whole = c.requires.into in
    let begins = part.begins in
    let order = part.order in
    let ends = part.ends in
    let de : d ≤ e = omega (arith, begins, order) in
    let en : e ≤ n = omega (arith, begins, order, ends) in
    let one = c.read_regions-refusal.new.into in
    let part1 = part-long bytes [] 0 d (omega (arith, whole, de, en)) (omega arith) in
    let long1 : length one ≡ 512 * d - 512 * 0 = c.read_regions-refusal.auto.into ∙ part1 in
    let once : List ℕ = put_mid (512 * 0) (512 * d - 512 * 0) bytes one in
    let long-once : length once ≡ length bytes = put-long bytes one 0 d (omega (arith, whole, de, en)) (omega arith) long1 in
    let part2 = part-long once [] d e (omega (arith, whole, long-once, en)) de in
    omega (arith, part2, begins, order)

pub read_regions-requires-clause-into : goal.read_regions-requires-clause-into
read_regions-requires-clause-into g c =
    let bytes = c.args.into.now in
    let n : ℕ = length bytes / 512 in
    let part = c.part_of-part.ensures in
    let first = c.args.first in
    let lo = c.part_of-part.result.lo in
    let hi = c.part_of-part.result.hi in
    let d : ℕ = lo - first in
    let e : ℕ = hi - first in
    let whole = c.requires.into in
    let begins = part.begins in
    let order = part.order in
    let ends = part.ends in
    let de : d ≤ e = omega (arith, begins, order) in
    let en : e ≤ n = omega (arith, begins, order, ends) in
    let one = c.read_regions-refusal.new.into in
    let part1 = part-long bytes [] 0 d (omega (arith, whole, de, en)) (omega arith) in
    let long1 : length one ≡ 512 * d - 512 * 0 = c.read_regions-refusal.auto.into ∙ part1 in
    let once : List ℕ = put_mid (512 * 0) (512 * d - 512 * 0) bytes one in
    let long-once : length once ≡ length bytes = put-long bytes one 0 d (omega (arith, whole, de, en)) (omega arith) long1 in
    let part2 = part-long once [] d e (omega (arith, whole, long-once, en)) de in
    let two = c.fill_window.new.into in
    let long2 : length two ≡ 512 * e - 512 * d = c.fill_window.auto.into ∙ part2 in
    let twice : List ℕ = put_mid (512 * d) (512 * e - 512 * d) once two in
    let long-twice : length twice ≡ length once = put-long once two d e (omega (arith, whole, long-once, en)) de long2 in
    let part3 : length (take (length bytes - 512 * e) (drop (512 * e) twice)) ≡ 512 * n - 512 * e =
    subst (λ (l : ℕ). length (take (l - 512 * e) (drop (512 * e) twice)) ≡ 512 * n - 512 * e) (sym whole) (part-long twice [] e n (omega (arith, whole, long-once, long-twice)) en) in
    omega (arith, part3, whole)

pub read_regions-requires-clause-within : goal.read_regions-requires-clause-within
read_regions-requires-clause-within g c =
    let bytes = c.args.into.now in
    let n : ℕ = length bytes / 512 in
    let part = c.part_of-part.ensures in
    let first = c.args.first in
    let lo = c.part_of-part.result.lo in
    let hi = c.part_of-part.result.hi in
    let d : ℕ = lo - first in
    let e : ℕ = hi - first in
    let whole = c.requires.into in
    let begins = part.begins in
    let order = part.order in
    let ends = part.ends in
    let de : d ≤ e = omega (arith, begins, order) in
    let en : e ≤ n = omega (arith, begins, order, ends) in
    let one = c.read_regions-refusal.new.into in
    let part1 = part-long bytes [] 0 d (omega (arith, whole, de, en)) (omega arith) in
    let long1 : length one ≡ 512 * d - 512 * 0 = c.read_regions-refusal.auto.into ∙ part1 in
    let once : List ℕ = put_mid (512 * 0) (512 * d - 512 * 0) bytes one in
    let long-once : length once ≡ length bytes = put-long bytes one 0 d (omega (arith, whole, de, en)) (omega arith) long1 in
    let part2 = part-long once [] d e (omega (arith, whole, long-once, en)) de in
    let two = c.fill_window.new.into in
    let long2 : length two ≡ 512 * e - 512 * d = c.fill_window.auto.into ∙ part2 in
    let twice : List ℕ = put_mid (512 * d) (512 * e - 512 * d) once two in
    let long-twice : length twice ≡ length once = put-long once two d e (omega (arith, whole, long-once, en)) de long2 in
    let part3 : length (take (length bytes - 512 * e) (drop (512 * e) twice)) ≡ 512 * n - 512 * e =
    subst (λ (l : ℕ). length (take (l - 512 * e) (drop (512 * e) twice)) ≡ 512 * n - 512 * e) (sym whole) (part-long twice [] e n (omega (arith, whole, long-once, long-twice)) en) in
    let within = c.requires.within in
    let same : list_length c.read_regions-refusal.new.members.newest ≡ list_length c.args.members.now.newest = ap (λ (m : Members). list_length m.newest) c.read_regions-refusal.ensures.lost.1 in
    omega (arith, part3, whole, within, begins, order, ends, same)

pub returns-clause-moved : goal.returns-clause-moved
returns-clause-moved g c =
    let m = c.args.members.now in
    let k = c.read_regions-refusal.new.members in
    let new = c.read_regions.new.members in
    let given = g.B.Bank.given c.args.bank.now in
    let given1 = g.B.Bank.given c.read_regions-refusal.new.bank in
    let did = c.read_regions-refusal.ensures in
    let then = c.read_regions.ensures in
    let moved2 : IsMoved given k new = moved-from given given1 k k new did.given refl then.moved in
    moved-then given m k new did.moved moved2

pub returns-clause-lost : goal.returns-clause-lost
returns-clause-lost g c =
    let m = c.args.members.now in
    let did = c.read_regions-refusal.ensures in
    let then = c.read_regions.ensures in
    (bit_or did.lost.0 then.lost.0, then.lost.1 ∙ ap (members_without then.lost.0) did.lost.1 ∙ members_then did.lost.0 then.lost.0 m)

pub returns-clause-failed : goal.returns-clause-failed
returns-clause-failed g c =
    let m = c.args.members.now in
    let k = c.read_regions-refusal.new.members in
    let new = c.read_regions.new.members in
    let did = c.read_regions-refusal.ensures in
    let then = c.read_regions.ensures in
    since-then m k new 0 0 0 (g.B.Bank.faults_of c.args.bank.now) (g.B.Bank.faults_of c.read_regions-refusal.new.bank) (g.B.Bank.faults_of c.read_regions.new.bank) did.counts then.counts did.failed then.failed (in-second 0)

pub returns-clause-kept : goal.returns-clause-kept
returns-clause-kept g c =
    let k = c.read_regions-refusal.new.members in
    let new = c.read_regions.new.members in
    let given = g.B.Bank.given c.args.bank.now in
    let given1 = g.B.Bank.given c.read_regions-refusal.new.bank in
    let did = c.read_regions-refusal.ensures in
    let then = c.read_regions.ensures in
    let moved2 : IsMoved given k new = moved-from given given1 k k new did.given refl then.moved in
    λ whole. then.kept whole ∙ did.kept (moved2.whole whole)

pub returns-clause-refused : goal.returns-clause-refused
returns-clause-refused g c =
    let bytes = c.args.into.now in
    let n : ℕ = length bytes / 512 in
    let part = c.part_of-part.ensures in
    let first = c.args.first in
    let lo = c.part_of-part.result.lo in
    let hi = c.part_of-part.result.hi in
    let d : ℕ = lo - first in
    let e : ℕ = hi - first in
    let whole = c.requires.into in
    let begins = part.begins in
    let order = part.order in
    let ends = part.ends in
    let de : d ≤ e = omega (arith, begins, order) in
    let en : e ≤ n = omega (arith, begins, order, ends) in
    let one = c.read_regions-refusal.new.into in
    let part1 = part-long bytes [] 0 d (omega (arith, whole, de, en)) (omega arith) in
    let long1 : length one ≡ 512 * d - 512 * 0 = c.read_regions-refusal.auto.into ∙ part1 in
    let once : List ℕ = put_mid (512 * 0) (512 * d - 512 * 0) bytes one in
    let long-once : length once ≡ length bytes = put-long bytes one 0 d (omega (arith, whole, de, en)) (omega arith) long1 in
    let part2 = part-long once [] d e (omega (arith, whole, long-once, en)) de in
    let two = c.fill_window.new.into in
    let long2 : length two ≡ 512 * e - 512 * d = c.fill_window.auto.into ∙ part2 in
    let twice : List ℕ = put_mid (512 * d) (512 * e - 512 * d) once two in
    let long-twice : length twice ≡ length once = put-long once two d e (omega (arith, whole, long-once, en)) de long2 in
    let part3 : length (take (length bytes - 512 * e) (drop (512 * e) twice)) ≡ 512 * n - 512 * e =
    subst (λ (l : ℕ). length (take (l - 512 * e) (drop (512 * e) twice)) ≡ 512 * n - 512 * e) (sym whole) (part-long twice [] e n (omega (arith, whole, long-once, long-twice)) en) in
    unread-beside (Some c.args.span.now) c.args.relied hi (hi + length (take (length bytes - 512 * e) (drop (512 * e) twice)) / 512) first (first + n) c.read_regions.new.members (omega (arith, begins, order)) (omega (arith, part3, begins, order, ends, whole))
    (λ x low high. part.behind x low (omega (arith, high, part3, begins, order, ends, whole))) c.read_regions.result c.read_regions.ensures.refused

pub returns-clause-holds : goal.returns-clause-holds
returns-clause-holds g c = λ none told list stands buffered fills i lt.
    let bytes = c.args.into.now in
    let n : ℕ = length bytes / 512 in
    let part = c.part_of-part.ensures in
    let first = c.args.first in
    let lo = c.part_of-part.result.lo in
    let hi = c.part_of-part.result.hi in
    let d : ℕ = lo - first in
    let e : ℕ = hi - first in
    let whole = c.requires.into in
    let begins = part.begins in
    let order = part.order in
    let ends = part.ends in
    let de : d ≤ e = omega (arith, begins, order) in
    let en : e ≤ n = omega (arith, begins, order, ends) in
    let one = c.read_regions-refusal.new.into in
    let part1 = part-long bytes [] 0 d (omega (arith, whole, de, en)) (omega arith) in
    let long1 : length one ≡ 512 * d - 512 * 0 = c.read_regions-refusal.auto.into ∙ part1 in
    let once : List ℕ = put_mid (512 * 0) (512 * d - 512 * 0) bytes one in
    let long-once : length once ≡ length bytes = put-long bytes one 0 d (omega (arith, whole, de, en)) (omega arith) long1 in
    let part2 = part-long once [] d e (omega (arith, whole, long-once, en)) de in
    let two = c.fill_window.new.into in
    let long2 : length two ≡ 512 * e - 512 * d = c.fill_window.auto.into ∙ part2 in
    let twice : List ℕ = put_mid (512 * d) (512 * e - 512 * d) once two in
    let long-twice : length twice ≡ length once = put-long once two d e (omega (arith, whole, long-once, en)) de long2 in
    let part3 : length (take (length bytes - 512 * e) (drop (512 * e) twice)) ≡ 512 * n - 512 * e =
    subst (λ (l : ℕ). length (take (l - 512 * e) (drop (512 * e) twice)) ≡ 512 * n - 512 * e) (sym whole) (part-long twice [] e n (omega (arith, whole, long-once, long-twice)) en) in
    let m = c.args.members.now in
    let k = c.read_regions-refusal.new.members in
    let new = c.read_regions.new.members in
    let given = g.B.Bank.given c.args.bank.now in
    let given1 = g.B.Bank.given c.read_regions-refusal.new.bank in
    let tape0 = g.B.Bank.tape c.args.bank.now in
    let tape1 = g.B.Bank.tape c.read_regions-refusal.new.bank in
    let did = c.read_regions-refusal.ensures in
    let then = c.read_regions.ensures in
    let moved2 : IsMoved given k new = moved-from given given1 k k new did.given refl then.moved in
    let three = c.read_regions.new.into in
    let long3 : length three ≡ 512 * n - 512 * e = c.read_regions.auto.into ∙ part3 in
    let within = c.requires.within in
    let said : k.newest ≡ m.newest = ap (λ (m : Members). m.newest) did.lost.1 in
    let long : list_length k.newest ≡ list_length m.newest = ap list_length said in
    let now = present given tape0 in
    let same : present given1 tape1 ≡ now = present_same did.given (did.tape told) in
    let hidden = Some c.args.span.now in
    let asked : Shape → Type 0 = λ s. IsShapeBeside hidden m.newest first (first + n) s in
    let near_end : ℕ = first + length (take (512 * d - 512 * 0) (drop (512 * 0) bytes)) / 512 in
    let near : Shape → Type 0 = λ s. IsShapeOf m.newest first near_end s in
    let near_within : (s : Shape) → IsShapeOf m.newest first near_end s → IsShapeBeside hidden m.newest first (first + n) s =
    shape-beside hidden m.newest first near_end first (first + n) (omega arith) (omega (arith, part1, de, en)) (λ x low high. part.before x low (omega (arith, high, part1, begins))) in
    let far_end : ℕ = hi + length (take (length bytes - 512 * e) (drop (512 * e) twice)) / 512 in
    let far : Shape → Type 0 = λ s. IsShapeOf k.newest hi far_end s in
    let far_within : (s : Shape) → IsShapeOf k.newest hi far_end s → IsShapeBeside hidden m.newest first (first + n) s =
    λ s own. shape-beside hidden m.newest hi far_end first (first + n) (omega (arith, begins, order)) (omega (arith, part3, begins, order, ends, whole))
    (λ x low high. part.behind x low (omega (arith, high, part3, begins, order, ends, whole))) s (subst (λ (sb : Sb). IsShapeOf sb hi far_end s) said own) in
    elim (cases_lt i d) [
      | inl early ↦ before-part bytes one two three d e n (length bytes) whole whole de en long1 long2 long3 i early
          ∙ did.holds (none-of c.read_regions-refusal.result (sym c.is_some.ensures ∙ c.if-is_some.false)) told hidden list (list-among near asked near_within hidden m now list stands)
          (elim fills [ inl all ↦ inl (moved2.whole all) | inr rows ↦ inr (rows-among near asked near_within hidden m now list c.args.relied rows) ]) i (omega (arith, part1, early))
          (record { within = omega (arith, within, lt); outside = part.before (first + i) (omega arith) (omega (arith, early, begins)) })
      | inr late ↦ elim (cases_lt i e) [
        | inl inside ↦
            let here : lo + (i - d) ≡ first + i = omega (arith, late, begins) in
            window-part bytes one two three d e n (length bytes) whole whole de en long1 long2 long3 i late inside
            ∙ c.fill_window.ensures list buffered (i - d) (omega (arith, inside, late, begins)) ∙ ap list here
        | inr past ↦
            let here : hi + (i - e) ≡ first + i = omega (arith, past, begins, order) in
            behind-part bytes one two three d e n (length bytes) whole whole de en long1 long2 long3 i past lt
            ∙ then.holds none told hidden list
            (list-among far asked far_within hidden k (present given1 tape1) list
            (subst (λ (l : Contents). ListStandsIn asked hidden k l list) (sym same) (list-to-moved given m k now list did.moved c.requires.placed hidden asked stands)))
            (elim fills [
              | inl all ↦ inl all
              | inr rows ↦ inr (rows-among far asked far_within hidden k (present given1 tape1) list c.args.relied
                  (subst (λ (l : Contents). RowsStandIn asked hidden c.args.relied k l list) (sym same) (rows-to-moved given m k now list did.moved c.requires.placed hidden asked c.args.relied rows)))
            ]) (i - e) (omega (arith, past, lt, part3, whole))
            (record { within = omega (arith, within, lt, here, long); outside = part.behind (hi + (i - e)) (omega arith) (omega (arith, here, lt)) })
            ∙ ap list here
      ]
    ]

pub returns-clause-tape : goal.returns-clause-tape
returns-clause-tape g c = λ told. c.read_regions.ensures.tape told ∙ c.read_regions-refusal.ensures.tape told

pub returns-clause-counts : goal.returns-clause-counts
returns-clause-counts g c = λ s. le_trans (c.read_regions-refusal.ensures.counts s) (c.read_regions.ensures.counts s)

-- ---- what the searches would find too, for longer

pub is_some-requires : goal.is_some-requires
is_some-requires g c κs a has = absurd (not-mem-nil has)

pub read_regions-requires-clause-placed : goal.read_regions-requires-clause-placed
read_regions-requires-clause-placed g c =
    subst (λ (b : Given). IsPlaced b c.read_regions-refusal.new.members) (sym c.read_regions-refusal.ensures.given) c.read_regions-refusal.ensures.moved.placed
