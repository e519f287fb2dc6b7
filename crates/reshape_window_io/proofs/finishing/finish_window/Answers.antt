use Rattle.std.proofs.Common.{◌≡◌, ℕ, Option, Some, None, List, sym, ◌∙◌, ap, subst}
use mathlib.Core.List.{not-mem-nil}
use Rattle.std.specs.Prelude.{MatchOption, ⊤, is_some, true}
use Rattle.stripe_region_read.specs.raid_types_Sectors.{Sector}
use Rattle.stripe_region_read.specs.raid_types_the_Refusal.{Refusal}
use Rattle.stripe_region_read.specs.raid_types_the_Shape.{Shape}
use Rattle.stripe_region_read.specs.raid_types_the_Span.{Span}
use Rattle.stripe_region_read.specs.bank_Given.{Given}
use Rattle.stripe_region_read.specs.bank_the_Operation.{Operation}
use Rattle.stripe_region_read.specs.bank_Tape.{disk}
use Rattle.stripe_region_read.specs.reshape_geometry_Geometry.{stripes}
use Rattle.stripe_region_read.specs.sb_specs_the_Members.{Members}
use Rattle.stripe_region_read.specs.sb_specs_Reading.{final_shape, next_window}
use Rattle.reshape_window_steps.specs.stripe_row_Rows.{present, reading_of}
use Rattle.reshape_window_steps.specs.history_World.{World}
use Rattle.reshape_window_steps.specs.history_Sound.{OpensFit}
use Rattle.reshape_window_steps.specs.crash_views_Regions.{ArePlaced}
use Rattle.reshape_window_steps.specs.crash_views_Views.{AreHeadersFit, Ledger}
use Rattle.reshape_window_steps.specs.crash_views_Windows.{HasNoSection, moved_past}
use Rattle.reshape_window_steps.specs.crash_safety_laws_Marking.{AreOthersPresent}
use Rattle.reshape_window_steps.proofs.crash_safety_laws_Risen.{risen-then, room-first, room-then}
use Rattle.reshape_window_steps.specs.array_members_Moving.{IsMoved}
use Rattle.reshape_window_steps.specs.array_members_Lacking.{AreOtherRowsKept}
use Rattle.reshape_window_steps.proofs.array_members_HeldRows.{without-before}
use Rattle.reshape_window_steps.proofs.array_members_LackingLaws.{since-then, in-either, holders-at}
use Rattle.reshape_window_steps.proofs.array_members_LackingLists.{none-of}
use Rattle.reshape_window_steps.proofs.array_members_MovedLaws.{moved-then, grows-then}
use Rattle.reshape_window_steps.proofs.array_members_SafeStretch.{safe-then, over-at, keeps-from, grows-longer}
use Rattle.reshape_window_steps.specs.sb_safe_updates_Unused.{IsUnusedKept}
use Rattle.reshape_window_steps.proofs.sb_safe_updates_Unused.{unused-then}
use Rattle.reshape_window_steps.specs.Recording.{AreOthersFewer, IsCopiedWindow, IsRecorded}
use Rattle.reshape_window_steps.proofs.PastLaws.{past-moved, next-moved}
use Rattle.reshape_window_io.specs.Finishing.{IsOfRest, AreStripesCopied, IsOpenWindow}
use Rattle.reshape_window_io.proofs.Windows.{placed-later, headers-later, open-copied, all-copied, IsLeftBy, left-copied, left-others, left-gone, left-open, left-listed, left-rows}
use Rattle.reshape_window_io.proofs.finishing.finish_window.Given.{Over}
use Rattle.reshape_window_io.proofs.finishing.finish_window.Goals.{After-struct_known-1}
use Rattle.reshape_window_steps.proofs.sb_safe_updates_FrameLaws.{goes-then, stands-on}
use Rattle.reshape_window_io.proofs.finishing.finish_window.Goals as goal

pub record-recorded-requires-clause-stands : goal.record-recorded-requires-clause-stands
record-recorded-requires-clause-stands g c = stands-on c.copy_rest-copied.ensures.keeps c.requires.stands

pub record-recorded-requires-clause-next : goal.record-recorded-requires-clause-next
record-recorded-requires-clause-next g c =
    next-moved (g.B.Bank.given c.args.bank.now) c.args.members.now c.copy_rest-copied.new.members c.args.span.now c.copy_rest-copied.ensures.keeps.moved c.requires.next

-- ---- where a copy is refused

never : (o : Option Refusal) → is_some o ≡ true → o ≡ None → ⊥
never None is none = absurd (cc)
never (Some refusal) is none = absurd (cc)

some-match : (P : Type 0) {Q : Type 0} (o : Option Refusal) → is_some o ≡ true → Q → MatchOption o P (λ refusal. Q)
some-match P None is holds = absurd (cc)
some-match P (Some refusal) is holds = holds

match-some : (P : Type 0) (o : Option Refusal) → is_some o ≡ true → MatchOption o ⊤ (λ refusal. P) → P
match-some P None is holds = absurd (cc)
match-some P (Some refusal) is holds = holds

pub returns-then-is_some-clause-moved : goal.returns-then-is_some-clause-moved
returns-then-is_some-clause-moved g c = some-match _ c.copy_rest-copied.result.refusal (sym c.is_some.ensures ∙ c.if-is_some.true) c.copy_rest-copied.ensures.keeps.moved

pub returns-then-is_some-clause-recorded : goal.returns-then-is_some-clause-recorded
returns-then-is_some-clause-recorded g c = λ none. absurd (never c.copy_rest-copied.result.refusal (sym c.is_some.ensures ∙ c.if-is_some.true) none)

pub returns-then-is_some-clause-flushed : goal.returns-then-is_some-clause-flushed
returns-then-is_some-clause-flushed g c = λ none. absurd (never c.copy_rest-copied.result.refusal (sym c.is_some.ensures ∙ c.if-is_some.true) none)

pub returns-then-is_some-clause-plain : goal.returns-then-is_some-clause-plain
returns-then-is_some-clause-plain g c = λ none. absurd (never c.copy_rest-copied.result.refusal (sym c.is_some.ensures ∙ c.if-is_some.true) none)

pub returns-then-is_some-clause-listed : goal.returns-then-is_some-clause-listed
returns-then-is_some-clause-listed g c = λ none. absurd (never c.copy_rest-copied.result.refusal (sym c.is_some.ensures ∙ c.if-is_some.true) none)

pub returns-then-is_some-clause-named : goal.returns-then-is_some-clause-named
returns-then-is_some-clause-named g c = match-some _ c.copy_rest-copied.result.refusal (sym c.is_some.ensures ∙ c.if-is_some.true) c.copy_rest-copied.ensures.named

pub returns-then-is_some-clause-kept_open : goal.returns-then-is_some-clause-kept_open
returns-then-is_some-clause-kept_open g c = some-match ⊤ c.copy_rest-copied.result.refusal (sym c.is_some.ensures ∙ c.if-is_some.true)
    (λ told world ledger list opened.
    let given = g.B.Bank.given c.args.bank.now in
    let m = c.args.members.now in
    let n = c.copy_rest-copied.new.members in
    let tape0 = g.B.Bank.tape c.args.bank.now in
    let tape1 = g.B.Bank.tape c.copy_rest-copied.new.bank in
    let did = c.copy_rest-copied.ensures in
    let final = c.requires.shape in
    open-copied (OpensFit world) world.scope given ledger m n c.args.span.now c.args.buffer.now c.args.from c.copy_rest-copied.result.copied list (present given tape0) (present given tape1) (disk given.start tape0) (disk given.start tape1)
    c.requires.stands.placed did.keeps.moved did.clean
    (subst (λ (s : Shape). AreOtherRowsKept (IsOfRest s c.args.span.now c.args.from) (reading_of n) (present given tape0) (present given tape1)) final (did.others told)) (did.headers told) (did.copyable told world opened.able)
    (subst (λ (s : Shape). AreStripesCopied s c.args.span.now c.copy_rest-copied.result.copied n (present given tape1) list) final
    (did.stands told list opened.buffered (subst (λ (s : Shape). AreStripesCopied s c.args.span.now c.args.from m (present given tape0) list) (sym final) opened.written))) opened)

pub returns-then-is_some-clause-safe : goal.returns-then-is_some-clause-safe
returns-then-is_some-clause-safe g c = λ told world ledger room gone unclean list opened safe. c.copy_rest-copied.ensures.safe told world ledger room gone unclean opened.able safe

-- ---- where the record follows

-- what is left is that of the former members
moved-all : (given : Given) (span : Span) (m n new : Members) (o : Option Refusal) → next_window m.newest ≡ Some span → IsMoved given m n → IsLeftBy given span n new o → IsLeftBy given span m new o
moved-all given span m n new None next moved left = moved-then given (moved_past span m) (moved_past span n) new (past-moved given m n span moved next) left
moved-all given span m n new (Some refusal) next moved left = moved-then given m n new moved left

-- an open window, by what became of the record
open-left : (P : Type 0) (given : Given) (span : Span) (m new : Members) (o : Option Refusal) → IsLeftBy given span m new o → (IsMoved given m new → P) → MatchOption o ⊤ (λ refusal. P)
open-left P given span m new None left holds = tt
open-left P given span m new (Some refusal) left holds = holds left

-- and a closed one
closed-left : (given : Given) (span : Span) (m new : Members) (o : Option Refusal) → o ≡ None → IsLeftBy given span m new o → IsMoved given (moved_past span m) new
closed-left given span m new None none left = left
closed-left given span m new (Some refusal) none left = absurd (cc)

module _ (g : Over) (c : After-struct_known-1 g) where
  abbrev given : Given
  given = g.B.Bank.given c.args.bank.now

  abbrev given1 : Given
  given1 = g.B.Bank.given c.copy_rest-copied.new.bank

  abbrev m : Members
  m = c.args.members.now

  abbrev n : Members
  n = c.copy_rest-copied.new.members

  abbrev new : Members
  new = c.record-recorded.new.members

  abbrev tape0 : List Operation
  tape0 = g.B.Bank.tape c.args.bank.now

  abbrev tape1 : List Operation
  tape1 = g.B.Bank.tape c.copy_rest-copied.new.bank

  abbrev tape2 : List Operation
  tape2 = g.B.Bank.tape c.record-recorded.new.bank

  abbrev refusal : Option Refusal
  refusal = c.record-recorded.result.refusal

  left : IsLeftBy given c.args.span.now n new refusal
  left = subst (λ (b : Given). IsLeftBy b c.args.span.now n new refusal) c.copy_rest-copied.ensures.keeps.bank.same c.record-recorded.ensures.moved

  next : next_window n.newest ≡ Some c.args.span.now
  next = next-moved given m n c.args.span.now c.copy_rest-copied.ensures.keeps.moved c.requires.next

  others : g.B.Bank.tells → AreOthersPresent (present given tape1) (present given tape2)
  others told = subst (λ (b : Given). AreOthersPresent (present b tape1) (present b tape2)) c.copy_rest-copied.ensures.keeps.bank.same (c.record-recorded.ensures.others told)

  fewer : g.B.Bank.tells → AreOthersFewer (disk given.start tape1) (disk given.start tape2)
  fewer told = subst (λ (b : Given). AreOthersFewer (disk b.start tape1) (disk b.start tape2)) c.copy_rest-copied.ensures.keeps.bank.same (c.record-recorded.ensures.fewer told)

  all : c.copy_rest-copied.result.copied ≡ stripes (final_shape n.newest) c.args.span.now.lo c.args.span.now.hi
  all =
      let did = c.copy_rest-copied.ensures in
      did.all (none-of c.copy_rest-copied.result.refusal (sym c.is_some.ensures ∙ c.if-is_some.false))
      ∙ ap (λ (s : Shape). stripes s c.args.span.now.lo c.args.span.now.hi) (c.requires.shape ∙ sym did.keeps.moved.reshape.final)

  -- the window is open still, and its stripes are copied
  opened-now : g.B.Bank.tells → (world : World) (ledger : Ledger) (list : ℕ → Sector)
      → IsOpenWindow (OpensFit world) world.scope ledger m c.args.span.now c.args.buffer.now c.args.from list (present given tape0) (disk given.start tape0)
      → IsOpenWindow (OpensFit world) world.scope ledger n c.args.span.now c.args.buffer.now c.copy_rest-copied.result.copied list (present given tape1) (disk given.start tape1)
  opened-now told world ledger list opened =
      let did = c.copy_rest-copied.ensures in
      let final = c.requires.shape in
      open-copied (OpensFit world) world.scope given ledger m n c.args.span.now c.args.buffer.now c.args.from c.copy_rest-copied.result.copied list (present given tape0) (present given tape1) (disk given.start tape0) (disk given.start tape1)
      c.requires.stands.placed did.keeps.moved did.clean
      (subst (λ (s : Shape). AreOtherRowsKept (IsOfRest s c.args.span.now c.args.from) (reading_of n) (present given tape0) (present given tape1)) final (did.others told)) (did.headers told) (did.copyable told world opened.able)
      (subst (λ (s : Shape). AreStripesCopied s c.args.span.now c.copy_rest-copied.result.copied n (present given tape1) list) final
      (did.stands told list opened.buffered (subst (λ (s : Shape). AreStripesCopied s c.args.span.now c.args.from m (present given tape0) list) (sym final) opened.written))) opened

pub returns-clause-moved : goal.returns-clause-moved
returns-clause-moved g c = moved-all (given g c) c.args.span.now (m g c) (n g c) (new g c) (refusal g c) c.requires.next c.copy_rest-copied.ensures.keeps.moved (left g c)

pub returns-clause-recorded : goal.returns-clause-recorded
returns-clause-recorded g c = λ none.
    let did = c.copy_rest-copied.ensures in
    let put : IsRecorded g.B.Bank.tells (given g c) c.args.span.now (n g c) (new g c) (tape1 g c) (tape2 g c) =
    subst (λ (b : Given). IsRecorded g.B.Bank.tells b c.args.span.now (n g c) (new g c) (tape1 g c) (tape2 g c)) did.keeps.bank.same (c.record-recorded.ensures.recorded none) in
    record {
      mid = put.mid;
      tape = put.tape;
      lost = moved-then (given g c) (m g c) (n g c) put.mid did.keeps.moved put.lost;
      flushed = put.flushed;
      named = put.named;
      few = put.few;
      moved = put.moved;
      grows = (grows-then did.keeps.bank.grows put.grows.0, put.grows.1);
    }

pub returns-clause-failed : goal.returns-clause-failed
returns-clause-failed g c =
    let did = c.copy_rest-copied.ensures in
    let put = c.record-recorded.ensures in
    let s = c.copy_rest-copied.result.spares in
    let t = c.record-recorded.result.spares in
    since-then (m g c) (n g c) (new g c) s t _ (g.B.Bank.faults_of c.args.bank.now) (g.B.Bank.faults_of c.copy_rest-copied.new.bank) (g.B.Bank.faults_of c.record-recorded.new.bank) did.keeps.bank.counts put.bank.counts did.keeps.failed put.failed (in-either s t)

pub returns-clause-bank : goal.returns-clause-bank
returns-clause-bank g c = goes-then c.copy_rest-copied.ensures.keeps.bank c.record-recorded.ensures.bank

pub returns-clause-clean : goal.returns-clause-clean
returns-clause-clean g c = c.record-recorded.ensures.clean ∙ c.copy_rest-copied.ensures.clean

pub returns-clause-all : goal.returns-clause-all
returns-clause-all g c = λ none. c.copy_rest-copied.ensures.all (none-of c.copy_rest-copied.result.refusal (sym c.is_some.ensures ∙ c.if-is_some.false))

pub returns-clause-stands : goal.returns-clause-stands
returns-clause-stands g c = λ told list copied was.
    let did = c.copy_rest-copied.ensures in
    left-copied (given g c) c.args.span.now (n g c) (new g c) did.keeps.moved.placed (next g c) (present (given g c) (tape1 g c)) (present (given g c) (tape2 g c)) (others g c told) (refusal g c) (left g c)
    c.args.shape.now c.copy_rest-copied.result.copied list (did.stands told list copied was)

pub returns-clause-others : goal.returns-clause-others
returns-clause-others g c = λ told.
    let did = c.copy_rest-copied.ensures in
    left-others (given g c) c.args.span.now (n g c) (new g c) did.keeps.moved.placed (next g c) (present (given g c) (tape1 g c)) (present (given g c) (tape2 g c)) (others g c told) (refusal g c) (left g c)
    (IsOfRest c.args.shape.now c.args.span.now c.args.from) (present (given g c) (tape0 g c)) (did.others told)

pub returns-clause-flushed : goal.returns-clause-flushed
returns-clause-flushed g c = λ none told. holders-at (reading_of (new g c)) (given1 g c) (given g c) (tape2 g c) (sym c.copy_rest-copied.ensures.keeps.bank.same) (c.record-recorded.ensures.flushed told)

pub returns-clause-unused : goal.returns-clause-unused
returns-clause-unused g c = λ told.
    let did = c.copy_rest-copied.ensures in
    let start = (given g c).start in
    let put : IsUnusedKept (n g c) (disk start (tape1 g c)) (disk start (tape2 g c)) =
    subst (λ (b : Given). IsUnusedKept (n g c) (disk b.start (tape1 g c)) (disk b.start (tape2 g c))) did.keeps.bank.same (c.record-recorded.ensures.unused told) in
    unused-then (given g c) (m g c) (n g c) (disk start (tape0 g c)) (disk start (tape1 g c)) (disk start (tape2 g c)) did.keeps.moved (did.keeps.unused told) put

pub returns-clause-plain : goal.returns-clause-plain
returns-clause-plain g c = λ none told scope placed headers.
    let did = c.copy_rest-copied.ensures in
    let here : (b : Given) → Type 0 = λ b. ArePlaced scope b (n g c) → AreHeadersFit scope (n g c) (disk b.start (tape1 g c))
    → HasNoSection scope (new g c) (disk b.start (tape2 g c)) × AreHeadersFit scope (new g c) (disk b.start (tape2 g c)) in
    subst here did.keeps.bank.same (c.record-recorded.ensures.plain none told scope) (placed-later scope (given g c) (m g c) (n g c) did.keeps.moved placed)
    (headers-later scope (given g c) (m g c) (n g c) did.keeps.moved (disk (given g c).start (tape0 g c)) (disk (given g c).start (tape1 g c)) (did.headers told) headers)

pub returns-clause-kept_open : goal.returns-clause-kept_open
returns-clause-kept_open g c = open-left _ (given g c) c.args.span.now (n g c) (new g c) (refusal g c) (left g c) (λ moved told world ledger list was.
    left-open (given g c) c.args.span.now (n g c) (new g c) c.copy_rest-copied.ensures.keeps.moved.placed (next g c) (present (given g c) (tape1 g c)) (present (given g c) (tape2 g c)) (others g c told) (OpensFit world) world.scope ledger c.args.buffer.now
    c.copy_rest-copied.result.copied list (disk (given g c).start (tape1 g c)) (disk (given g c).start (tape2 g c)) moved c.record-recorded.ensures.clean (fewer g c told) (opened-now g c told world ledger list was))

pub returns-clause-listed : goal.returns-clause-listed
returns-clause-listed g c = λ none told world ledger list was.
    let did = c.copy_rest-copied.ensures in
    let moved = closed-left (given g c) c.args.span.now (n g c) (new g c) (refusal g c) none (left g c) in
    let window = all-copied (OpensFit world) world.scope ledger (n g c) c.args.span.now c.args.buffer.now c.copy_rest-copied.result.copied list (present (given g c) (tape1 g c)) (disk (given g c).start (tape1 g c)) (all g c)
    (opened-now g c told world ledger list was) in (
      left-listed (given g c) c.args.span.now (n g c) (new g c) did.keeps.moved.placed (next g c) (present (given g c) (tape1 g c)) (present (given g c) (tape2 g c)) (others g c told) list moved window.window window.stands,
      λ is does premise.
          let past = without-before (given g c) (moved_past c.args.span.now (n g c)) (new g c) moved does in
          left-rows (given g c) c.args.span.now (n g c) (new g c) did.keeps.moved.placed (next g c) (present (given g c) (tape1 g c)) (present (given g c) (tape2 g c)) (others g c told) list moved window.window
          (window.rows_are (sym c.record-recorded.ensures.clean ∙ is) (record { old = past.old; final = past.final }) premise),
    )

pub returns-clause-rise : goal.returns-clause-rise
returns-clause-rise g c = risen-then c.copy_rest-copied.ensures.keeps.rise c.record-recorded.ensures.rise

pub returns-clause-safe : goal.returns-clause-safe
returns-clause-safe g c = λ told world ledger room gone unclean list was safe.
    let did = c.copy_rest-copied.ensures in
    let put = c.record-recorded.ensures in
    let before = left-gone (given g c) c.args.span.now (n g c) (new g c) did.keeps.moved.placed (next g c) (present (given g c) (tape1 g c)) (present (given g c) (tape2 g c)) (others g c told) (refusal g c) (left g c) ledger gone in
    let early = did.safe told world ledger (room-first (m g c) (tape0 g c) (tape1 g c) (tape2 g c) room (grows-longer put.bank.grows told)) before unclean was.able safe in
    let window = all-copied (OpensFit world) world.scope ledger (n g c) c.args.span.now c.args.buffer.now c.copy_rest-copied.result.copied list (present (given g c) (tape1 g c)) (disk (given g c).start (tape1 g c)) (all g c)
    (opened-now g c told world ledger list was) in
    safe-then (OpensFit world) world.scope (given g c) ledger (n g c) (new g c) (tape0 g c) (tape1 g c) (tape2 g c) early
    (keeps-from world (given g c) (given1 g c) ledger (new g c) (tape1 g c) (tape2 g c) did.keeps.bank.same
    (put.safe told world ledger (room-then (tape2 g c) told room did.keeps.rise) gone (λ dirty. unclean (sym did.clean ∙ dirty)) list
    (λ none. subst (λ (b : Given). IsCopiedWindow (OpensFit world) world.scope ledger (n g c) c.args.span.now list (present b (tape1 g c)) (disk b.start (tape1 g c))) (sym did.keeps.bank.same) window)
    (over-at world (given g c) (given1 g c) ledger (n g c) (tape1 g c) did.keeps.bank.same early.next)))

-- ---- what the searches would find too, for longer

pub is_some-requires : goal.is_some-requires
is_some-requires g c κs a has = absurd (not-mem-nil has)

pub returns-then-is_some-clause-bank : goal.returns-then-is_some-clause-bank
returns-then-is_some-clause-bank g c = c.copy_rest-copied.ensures.keeps.bank

pub copy_rest-copied-requires-clause-stands : goal.copy_rest-copied-requires-clause-stands
copy_rest-copied-requires-clause-stands g c = c.requires.stands

pub returns-then-is_some-clause-failed : goal.returns-then-is_some-clause-failed
returns-then-is_some-clause-failed g c = c.copy_rest-copied.ensures.keeps.failed

pub returns-then-is_some-clause-unused : goal.returns-then-is_some-clause-unused
returns-then-is_some-clause-unused g c = c.copy_rest-copied.ensures.keeps.unused

pub returns-then-is_some-clause-rise : goal.returns-then-is_some-clause-rise
returns-then-is_some-clause-rise g c = c.copy_rest-copied.ensures.keeps.rise
