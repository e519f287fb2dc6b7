use Rattle.std.proofs.Common.{◌⊎◌, inl, inr, ◌<◌, ℕ, refl, sym, ◌∙◌, subst}
use Rattle.std.specs.Prelude.{Contains, slice_index}
use Rattle.stripe_region_read.specs.bank_Given.{Given}
use Rattle.stripe_region_read.specs.stripe_row_Rows.{reading_of, present}
use Rattle.stripe_region_read.specs.stripe_list_Buffers.{buffered, AreStanding}
use Rattle.stripe_region_read.specs.array_members_Moving.{IsMoved}
use Rattle.stripe_region_read.specs.array_members_Lacking.{AreRowsWritten}
use Rattle.stripe_region_read.proofs.array_members_Elements.{contains-at}
use Rattle.stripe_region_read.proofs.array_members_Fit.{alike-force}
use Rattle.stripe_region_read.proofs.array_members_MovedLaws.{moved-from}
use Rattle.stripe_region_read.proofs.array_members_LackingLaws.{in-either}
use Rattle.stripe_region_read.proofs.array_members_LackingLists.{none-of}
use Rattle.stripe_region_read.proofs.array_members_LackingWrites.{others-then}
use Rattle.stripe_region_read.proofs.array_members_SafeStretch.{gone-before, safe-then, allowed-later, zeros-later, region-later, grows-longer, over-at, keeps-from}
use Rattle.stripe_region_read.specs.history_Sound.{OpensFit}
use Rattle.stripe_region_read.proofs.crash_safety_laws_Risen.{room-first, room-then}
use Rattle.stripe_region_write.proofs.RunLaws.{told-as}
use Rattle.stripe_region_write.proofs.WriteLaws.{some-none, row-apart, rows-apart, standing-apart, full-done, full-kept, rebuilt-kept}
use mathlib.Core.List.{not-mem-nil}
use Rattle.stripe_region_read.proofs.sb_safe_updates_FrameLaws.{keeps-then, stands-on}
use Rattle.stripe_region_write.proofs.writing.write_runs.Goals as goal

pub write_list_rows-near-requires-clause-below : goal.write_list_rows-near-requires-clause-below
write_list_rows-near-requires-clause-below g c =
    c.requires.low_rows.below

pub write_list_rows-near-requires-clause-once : goal.write_list_rows-near-requires-clause-once
write_list_rows-near-requires-clause-once g c =
    c.requires.low_rows.touched.once

pub write_list_rows-near-requires-clause-few : goal.write_list_rows-near-requires-clause-few
write_list_rows-near-requires-clause-few g c =
    c.requires.low_rows.few

pub write_list_rows-far-requires-clause-shape : goal.write_list_rows-far-requires-clause-shape
write_list_rows-far-requires-clause-shape g c =
    let m = c.args.members.now in
    let n = c.write_list_rows-near.new.members in
    let did = c.write_list_rows-near.ensures in
    let high = c.args.high.now in
    alike-force m.newest n.newest did.keeps.moved.reshape did.keeps.moved.shape did.keeps.moved.size high.shape c.requires.high

pub write_list_rows-far-requires-clause-below : goal.write_list_rows-far-requires-clause-below
write_list_rows-far-requires-clause-below g c =
    let did = c.write_list_rows-near.ensures in
    λ row has. subst (λ (k : ℕ). row < k) (sym did.keeps.moved.size) (c.requires.high_rows.below row has)

pub write_list_rows-far-requires-clause-once : goal.write_list_rows-far-requires-clause-once
write_list_rows-far-requires-clause-once g c =
    c.requires.high_rows.touched.once

pub write_list_rows-far-requires-clause-few : goal.write_list_rows-far-requires-clause-few
write_list_rows-far-requires-clause-few g c =
    c.requires.high_rows.few

pub write_list_rows-far-requires-clause-standing : goal.write_list_rows-far-requires-clause-standing
write_list_rows-far-requires-clause-standing g c =
    let m = c.args.members.now in
    let n = c.write_list_rows-near.new.members in
    let given = g.B.Bank.given c.args.bank.now in
    let did = c.write_list_rows-near.ensures in
    let tape0 = g.B.Bank.tape c.args.bank.now in
    let tape1 = g.B.Bank.tape c.write_list_rows-near.new.bank in
    let low = c.args.low.now in
    let high = c.args.high.now in
    let rows = c.args.rows.now in
    let far_rows = c.args.far_rows.now in
    λ told i lt. subst (λ (b : Given). AreStanding (reading_of n) (present b tape1) high.shape (slice_index far_rows i) (buffered c.args.far_buffer.now.items i)) (sym did.keeps.bank.same)
    (standing-apart low.shape c.args.first c.args.from.now rows c.write_list_rows-near.result.next n (present given tape0) (present given tape1) c.args.buffer.now.items c.write_list_rows-near.new.buffer.items
    (did.written told) did.within given m did.keeps.moved high.shape (slice_index far_rows i) (buffered c.args.far_buffer.now.items i) (λ has. c.requires.apart (slice_index far_rows i) has (contains-at far_rows i lt))
    (c.requires.high_standing told i lt))

pub returns-then-is_some-clause-refused : goal.returns-then-is_some-clause-refused
returns-then-is_some-clause-refused g c =
    told-as _ _ _ c.write_list_rows-near.result.refusal (λ refusal many. inl many) c.write_list_rows-near.ensures.refused

pub returns-then-is_some-clause-torn : goal.returns-then-is_some-clause-torn
returns-then-is_some-clause-torn g c =
    let n = c.write_list_rows-near.new.members in
    let given = g.B.Bank.given c.args.bank.now in
    let did = c.write_list_rows-near.ensures in
    let tape0 = g.B.Bank.tape c.args.bank.now in
    let tape1 = g.B.Bank.tape c.write_list_rows-near.new.bank in
    let low = c.args.low.now in
    let rows = c.args.rows.now in
    told-as _ _ _ c.write_list_rows-near.result.refusal (λ refusal many. inr (
      many,
      λ told. rows-apart low.shape c.args.first c.args.from.now rows c.write_list_rows-near.result.next n (present given tape0) (present given tape1)
          c.args.buffer.now.items c.write_list_rows-near.new.buffer.items (did.written told) did.within (Contains rows) (λ row has. has),
    )) c.write_list_rows-near.ensures.refused

pub returns-then-is_some-clause-low : goal.returns-then-is_some-clause-low
returns-then-is_some-clause-low g c =
    λ none. absurd (some-none c.write_list_rows-near.result.refusal (sym c.is_some.ensures ∙ c.if-is_some.true) none)

pub returns-then-is_some-clause-rebuilt : goal.returns-then-is_some-clause-rebuilt
returns-then-is_some-clause-rebuilt g c =
    λ none. absurd (some-none c.write_list_rows-near.result.refusal (sym c.is_some.ensures ∙ c.if-is_some.true) none)

pub returns-then-is_some-clause-high : goal.returns-then-is_some-clause-high
returns-then-is_some-clause-high g c =
    λ none. absurd (some-none c.write_list_rows-near.result.refusal (sym c.is_some.ensures ∙ c.if-is_some.true) none)

pub returns-then-is_some-clause-others : goal.returns-then-is_some-clause-others
returns-then-is_some-clause-others g c =
    let n = c.write_list_rows-near.new.members in
    let given = g.B.Bank.given c.args.bank.now in
    let did = c.write_list_rows-near.ensures in
    let tape0 = g.B.Bank.tape c.args.bank.now in
    let tape1 = g.B.Bank.tape c.write_list_rows-near.new.bank in
    let low = c.args.low.now in
    let rows = c.args.rows.now in
    let far_rows = c.args.far_rows.now in
    λ told. rows-apart low.shape c.args.first c.args.from.now rows c.write_list_rows-near.result.next n (present given tape0) (present given tape1) c.args.buffer.now.items c.write_list_rows-near.new.buffer.items
    (did.written told) did.within (λ row. Contains rows row ⊎ Contains far_rows row) (λ row has. inl has)

pub returns-then-is_some-clause-safe : goal.returns-then-is_some-clause-safe
returns-then-is_some-clause-safe g c =
    λ told world ledger room gone unclean dirty region far_region low_list low_list' high_list high_list' w far_w holds far_holds allowed far_allowed zeros far_zeros safe.
    c.write_list_rows-near.ensures.safe told world ledger room gone unclean dirty region low_list low_list' w (λ t. holds) allowed zeros safe

pub returns-clause-keeps : goal.returns-clause-keeps
returns-clause-keeps g c = keeps-then c.write_list_rows-near.ensures.keeps c.write_list_rows-far.ensures.keeps (in-either c.write_list_rows-near.result.spares c.write_list_rows-far.result.spares)

pub returns-clause-refused : goal.returns-clause-refused
returns-clause-refused g c =
    told-as _ _ _ c.write_list_rows-far.result.refusal (λ refusal many. inr many) c.write_list_rows-far.ensures.refused

pub returns-clause-torn : goal.returns-clause-torn
returns-clause-torn g c =
    told-as _ _ _ c.write_list_rows-far.result.refusal (λ refusal many. inl many) c.write_list_rows-far.ensures.refused

pub returns-clause-low : goal.returns-clause-low
returns-clause-low g c =
    let n = c.write_list_rows-near.new.members in
    let given = g.B.Bank.given c.args.bank.now in
    let given1 = g.B.Bank.given c.write_list_rows-near.new.bank in
    let did = c.write_list_rows-near.ensures in
    let tape0 = g.B.Bank.tape c.args.bank.now in
    let tape1 = g.B.Bank.tape c.write_list_rows-near.new.bank in
    let low = c.args.low.now in
    let high = c.args.high.now in
    let rows = c.args.rows.now in
    let far_rows = c.args.far_rows.now in
    let p = c.write_list_rows-far.new.members in
    let did2 = c.write_list_rows-far.ensures in
    let tape2 = g.B.Bank.tape c.write_list_rows-far.new.bank in
    let two : IsMoved given n p = moved-from given given1 n n p did.keeps.bank.same refl did2.keeps.moved in
    λ none told.
    let far_done : AreRowsWritten high.shape c.args.first c.args.from.now far_rows 0 c.write_list_rows-far.result.next p (present given tape1) (present given tape2) c.args.far_buffer.now.items c.write_list_rows-far.new.buffer.items =
    subst (λ (b : Given). AreRowsWritten high.shape c.args.first c.args.from.now far_rows 0 c.write_list_rows-far.result.next p (present b tape1) (present b tape2) c.args.far_buffer.now.items c.write_list_rows-far.new.buffer.items) did.keeps.bank.same (did2.written told) in
    full-kept low.shape c.args.first c.args.from.now rows c.write_list_rows-near.result.next n (present given tape0) (present given tape1) c.args.buffer.now.items c.write_list_rows-near.new.buffer.items
    (did.written told) (did.done (none-of c.write_list_rows-near.result.refusal (sym c.is_some.ensures ∙ c.if-is_some.false))) given p (present given tape2) two
    (λ row has. row-apart high.shape c.args.first c.args.from.now far_rows c.write_list_rows-far.result.next p (present given tape1) (present given tape2) c.args.far_buffer.now.items c.write_list_rows-far.new.buffer.items
    far_done did2.within row (c.requires.apart row has))

pub returns-clause-rebuilt : goal.returns-clause-rebuilt
returns-clause-rebuilt g c =
    let n = c.write_list_rows-near.new.members in
    let given = g.B.Bank.given c.args.bank.now in
    let given1 = g.B.Bank.given c.write_list_rows-near.new.bank in
    let did = c.write_list_rows-near.ensures in
    let tape0 = g.B.Bank.tape c.args.bank.now in
    let tape1 = g.B.Bank.tape c.write_list_rows-near.new.bank in
    let low = c.args.low.now in
    let high = c.args.high.now in
    let rows = c.args.rows.now in
    let far_rows = c.args.far_rows.now in
    let p = c.write_list_rows-far.new.members in
    let did2 = c.write_list_rows-far.ensures in
    let tape2 = g.B.Bank.tape c.write_list_rows-far.new.bank in
    let two : IsMoved given n p = moved-from given given1 n n p did.keeps.bank.same refl did2.keeps.moved in
    λ none told.
    let far_done : AreRowsWritten high.shape c.args.first c.args.from.now far_rows 0 c.write_list_rows-far.result.next p (present given tape1) (present given tape2) c.args.far_buffer.now.items c.write_list_rows-far.new.buffer.items =
    subst (λ (b : Given). AreRowsWritten high.shape c.args.first c.args.from.now far_rows 0 c.write_list_rows-far.result.next p (present b tape1) (present b tape2) c.args.far_buffer.now.items c.write_list_rows-far.new.buffer.items) did.keeps.bank.same (did2.written told) in
    rebuilt-kept low.shape c.args.first c.args.from.now rows c.write_list_rows-near.result.next n (present given tape0) (present given tape1) c.args.buffer.now.items c.write_list_rows-near.new.buffer.items
    (did.written told) (did.done (none-of c.write_list_rows-near.result.refusal (sym c.is_some.ensures ∙ c.if-is_some.false))) given p (present given tape2) two
    (λ row has. row-apart high.shape c.args.first c.args.from.now far_rows c.write_list_rows-far.result.next p (present given tape1) (present given tape2) c.args.far_buffer.now.items c.write_list_rows-far.new.buffer.items
    far_done did2.within row (c.requires.apart row has))

pub returns-clause-high : goal.returns-clause-high
returns-clause-high g c =
    let given = g.B.Bank.given c.args.bank.now in
    let did = c.write_list_rows-near.ensures in
    let tape1 = g.B.Bank.tape c.write_list_rows-near.new.bank in
    let high = c.args.high.now in
    let far_rows = c.args.far_rows.now in
    let p = c.write_list_rows-far.new.members in
    let did2 = c.write_list_rows-far.ensures in
    let tape2 = g.B.Bank.tape c.write_list_rows-far.new.bank in
    λ none told.
    let far_done : AreRowsWritten high.shape c.args.first c.args.from.now far_rows 0 c.write_list_rows-far.result.next p (present given tape1) (present given tape2) c.args.far_buffer.now.items c.write_list_rows-far.new.buffer.items =
    subst (λ (b : Given). AreRowsWritten high.shape c.args.first c.args.from.now far_rows 0 c.write_list_rows-far.result.next p (present b tape1) (present b tape2) c.args.far_buffer.now.items c.write_list_rows-far.new.buffer.items) did.keeps.bank.same (did2.written told) in
    full-done high.shape c.args.first c.args.from.now far_rows c.write_list_rows-far.result.next p (present given tape1) (present given tape2) c.args.far_buffer.now.items c.write_list_rows-far.new.buffer.items
    far_done (did2.done none)

pub returns-clause-others : goal.returns-clause-others
returns-clause-others g c =
    let m = c.args.members.now in
    let n = c.write_list_rows-near.new.members in
    let given = g.B.Bank.given c.args.bank.now in
    let given1 = g.B.Bank.given c.write_list_rows-near.new.bank in
    let did = c.write_list_rows-near.ensures in
    let tape0 = g.B.Bank.tape c.args.bank.now in
    let tape1 = g.B.Bank.tape c.write_list_rows-near.new.bank in
    let low = c.args.low.now in
    let high = c.args.high.now in
    let rows = c.args.rows.now in
    let far_rows = c.args.far_rows.now in
    let p = c.write_list_rows-far.new.members in
    let did2 = c.write_list_rows-far.ensures in
    let tape2 = g.B.Bank.tape c.write_list_rows-far.new.bank in
    let two : IsMoved given n p = moved-from given given1 n n p did.keeps.bank.same refl did2.keeps.moved in
    λ told.
    let far_done : AreRowsWritten high.shape c.args.first c.args.from.now far_rows 0 c.write_list_rows-far.result.next p (present given tape1) (present given tape2) c.args.far_buffer.now.items c.write_list_rows-far.new.buffer.items =
    subst (λ (b : Given). AreRowsWritten high.shape c.args.first c.args.from.now far_rows 0 c.write_list_rows-far.result.next p (present b tape1) (present b tape2) c.args.far_buffer.now.items c.write_list_rows-far.new.buffer.items) did.keeps.bank.same (did2.written told) in
    others-then given (λ row. Contains rows row ⊎ Contains far_rows row) m n p (present given tape0) (present given tape1) (present given tape2) two
    (rows-apart low.shape c.args.first c.args.from.now rows c.write_list_rows-near.result.next n (present given tape0) (present given tape1) c.args.buffer.now.items c.write_list_rows-near.new.buffer.items
    (did.written told) did.within (λ row. Contains rows row ⊎ Contains far_rows row) (λ row has. inl has))
    (rows-apart high.shape c.args.first c.args.from.now far_rows c.write_list_rows-far.result.next p (present given tape1) (present given tape2) c.args.far_buffer.now.items c.write_list_rows-far.new.buffer.items
    far_done did2.within (λ row. Contains rows row ⊎ Contains far_rows row) (λ row has. inr has))

pub returns-clause-clean : goal.returns-clause-clean
returns-clause-clean g c =
    c.write_list_rows-far.ensures.clean ∙ c.write_list_rows-near.ensures.clean

pub returns-clause-safe : goal.returns-clause-safe
returns-clause-safe g c =
    let m = c.args.members.now in
    let n = c.write_list_rows-near.new.members in
    let given = g.B.Bank.given c.args.bank.now in
    let given1 = g.B.Bank.given c.write_list_rows-near.new.bank in
    let did = c.write_list_rows-near.ensures in
    let tape0 = g.B.Bank.tape c.args.bank.now in
    let tape1 = g.B.Bank.tape c.write_list_rows-near.new.bank in
    let high = c.args.high.now in
    let far_rows = c.args.far_rows.now in
    let p = c.write_list_rows-far.new.members in
    let did2 = c.write_list_rows-far.ensures in
    let tape2 = g.B.Bank.tape c.write_list_rows-far.new.bank in
    let two : IsMoved given n p = moved-from given given1 n n p did.keeps.bank.same refl did2.keeps.moved in
    λ told world ledger room gone unclean dirty region far_region low_list low_list' high_list high_list' w far_w holds far_holds allowed far_allowed zeros far_zeros safe.
    let one = did.safe told world ledger (room-first m tape0 tape1 tape2 room (grows-longer did2.keeps.bank.grows told)) (gone-before given n p did.keeps.moved.placed two ledger gone) unclean dirty region low_list low_list' w (λ t. holds) allowed zeros safe in
    safe-then (OpensFit world) world.scope given ledger n p tape0 tape1 tape2 one
    (keeps-from world given given1 ledger p tape1 tape2 did.keeps.bank.same
    (did2.safe told world ledger (room-then tape2 told room did.keeps.rise) gone unclean (did.clean ∙ dirty) (region-later given m n high.shape (Contains far_rows) did.keeps.moved far_region) high_list high_list' far_w (λ t. far_holds)
    (allowed-later given m n did.keeps.moved ledger.values high_list' far_allowed) (λ fit. zeros-later given m n did.keeps.moved high_list' (far_zeros fit)) (over-at world given given1 ledger n tape1 did.keeps.bank.same one.next)))

pub write_list_rows-near-requires-clause-from : goal.write_list_rows-near-requires-clause-from
write_list_rows-near-requires-clause-from g c = c.requires.from

pub write_list_rows-near-requires-clause-short : goal.write_list_rows-near-requires-clause-short
write_list_rows-near-requires-clause-short g c = c.requires.short

pub write_list_rows-near-requires-clause-buffer : goal.write_list_rows-near-requires-clause-buffer
write_list_rows-near-requires-clause-buffer g c = c.requires.buffer

pub write_list_rows-near-requires-clause-shape : goal.write_list_rows-near-requires-clause-shape
write_list_rows-near-requires-clause-shape g c = c.requires.low

pub write_list_rows-near-requires-clause-standing : goal.write_list_rows-near-requires-clause-standing
write_list_rows-near-requires-clause-standing g c = c.requires.low_standing

pub is_some-requires : goal.is_some-requires
is_some-requires g c κs a has = absurd (not-mem-nil has)

pub returns-then-is_some-clause-keeps : goal.returns-then-is_some-clause-keeps
returns-then-is_some-clause-keeps g c = c.write_list_rows-near.ensures.keeps

pub returns-then-is_some-clause-clean : goal.returns-then-is_some-clause-clean
returns-then-is_some-clause-clean g c = c.write_list_rows-near.ensures.clean

pub returns-then-is_some-clause-buffer : goal.returns-then-is_some-clause-buffer
returns-then-is_some-clause-buffer g c = c.write_list_rows-near.ensures.size

pub write_list_rows-far-requires-clause-from : goal.write_list_rows-far-requires-clause-from
write_list_rows-far-requires-clause-from g c = c.requires.from

pub write_list_rows-far-requires-clause-short : goal.write_list_rows-far-requires-clause-short
write_list_rows-far-requires-clause-short g c = c.requires.short

pub write_list_rows-far-requires-clause-buffer : goal.write_list_rows-far-requires-clause-buffer
write_list_rows-far-requires-clause-buffer g c = c.requires.far_buffer

pub returns-clause-buffer : goal.returns-clause-buffer
returns-clause-buffer g c = c.write_list_rows-near.ensures.size

pub returns-clause-far_buffer : goal.returns-clause-far_buffer
returns-clause-far_buffer g c = c.write_list_rows-far.ensures.size

pub write_list_rows-near-requires-clause-stands : goal.write_list_rows-near-requires-clause-stands
write_list_rows-near-requires-clause-stands g c = c.requires.stands

pub write_list_rows-far-requires-clause-stands : goal.write_list_rows-far-requires-clause-stands
write_list_rows-far-requires-clause-stands g c = stands-on c.write_list_rows-near.ensures.keeps c.requires.stands
