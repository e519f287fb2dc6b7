use Rattle.std.proofs.Common.{◌≡◌, inl, Option, Some, None, refl, sym, ◌∙◌, subst}
use mathlib.Core.List.{not-mem-nil}
use Rattle.std.specs.Prelude.{MatchOption, is_some, true}
use Rattle.reshape_window_rows.specs.raid_types_the_Refusal.{Refusal}
use Rattle.reshape_window_rows.specs.bank_Given.{Given}
use Rattle.reshape_window_rows.specs.bank_Tape.{disk}
use Rattle.reshape_window_rows.specs.stripe_row_Rows.{present, reading_of}
use Rattle.reshape_window_rows.specs.history_Sound.{OpensFit}
use Rattle.reshape_window_rows.specs.crash_views_Regions.{DoWithout}
use Rattle.reshape_window_rows.specs.crash_views_Views.{Disk, IsViewRight}
use Rattle.reshape_window_rows.specs.crash_views_Windows.{moved_past}
use Rattle.reshape_window_rows.specs.crash_safety_laws_Marking.{AreOthersPresent}
use Rattle.reshape_window_rows.specs.crash_safety_laws_Steady.{IsSteady}
use Rattle.reshape_window_rows.proofs.crash_safety_laws_Risen.{risen-then, room-first, room-then}
use Rattle.reshape_window_rows.specs.array_members_Lacking.{AreTooMany}
use Rattle.reshape_window_rows.specs.array_members_Moving.{IsMoved}
use Rattle.reshape_window_rows.proofs.array_members_LackingLaws.{since-then, in-either, holders-at}
use Rattle.reshape_window_rows.proofs.array_members_LackingLists.{none-of}
use Rattle.reshape_window_rows.proofs.array_members_MovedLaws.{moved-then}
use Rattle.reshape_window_rows.proofs.array_members_SafeStretch.{safe-then, over-at, keeps-from, grows-longer}
use Rattle.reshape_window_rows.specs.sb_safe_updates_Unused.{IsUnusedKept}
use Rattle.reshape_window_rows.proofs.sb_safe_updates_Unused.{rest-unused, unused-then}
use Rattle.reshape_window_steps.specs.Recording.{AreOthersFewer}
use Rattle.reshape_window_steps.proofs.CopyLaws.{refused-of}
use Rattle.reshape_window_steps.proofs.PastLaws.{past-moved, past-plain, past-headers, plain-moved, headers-moved, past-right, next-moved, gone-past}
use Rattle.reshape_window_steps.proofs.recording.record.Given.{Over}
use Rattle.reshape_window_steps.proofs.recording.record.Goals.{After-move_position-moved}
use Rattle.reshape_window_rows.proofs.sb_safe_updates_FrameLaws.{goes-then, stands-on}
use Rattle.reshape_window_steps.proofs.recording.record.Goals as goal

pub move_position-moved-requires-clause-stands : goal.move_position-moved-requires-clause-stands
move_position-moved-requires-clause-stands g c = stands-on c.flush_naming-flushed.ensures.keeps c.requires.stands

pub move_position-moved-requires-clause-next : goal.move_position-moved-requires-clause-next
move_position-moved-requires-clause-next g c =
    next-moved (g.B.Bank.given c.args.bank.now) c.args.members.now c.flush_naming-flushed.new.members c.args.span.now c.flush_naming-flushed.ensures.keeps.moved c.requires.next

-- ---- where too many are missing

some : (o : Option Refusal) → is_some o ≡ true → o ≡ None → ⊥
some None is none = absurd (cc)
some (Some refusal) is none = absurd (cc)

refused-moved : (P : Type 0) {Q : Type 0} (o : Option Refusal) → is_some o ≡ true → Q → MatchOption o P (λ refusal. Q)
refused-moved P None is moved = absurd (cc)
refused-moved P (Some refusal) is moved = moved

pub returns-then-is_some-clause-moved : goal.returns-then-is_some-clause-moved
returns-then-is_some-clause-moved g c = refused-moved _ c.too_many-refusal.result (sym c.is_some.ensures ∙ c.if-is_some.true) c.flush_naming-flushed.ensures.keeps.moved

pub returns-then-is_some-clause-refused : goal.returns-then-is_some-clause-refused
returns-then-is_some-clause-refused g c = refused-of c.flush_naming-flushed.new.members c.too_many-refusal.result c.too_many-refusal.ensures

pub returns-then-is_some-clause-fewer : goal.returns-then-is_some-clause-fewer
returns-then-is_some-clause-fewer g c = λ told s k v other may. c.flush_naming-flushed.ensures.rest told s k v (inl other) may

pub returns-then-is_some-clause-unused : goal.returns-then-is_some-clause-unused
returns-then-is_some-clause-unused g c = λ told.
    let start = (g.B.Bank.given c.args.bank.now).start in
    rest-unused c.args.members.now (disk start (g.B.Bank.tape c.args.bank.now)) (disk start (g.B.Bank.tape c.flush_naming-flushed.new.bank)) (c.flush_naming-flushed.ensures.rest told)

pub returns-then-is_some-clause-plain : goal.returns-then-is_some-clause-plain
returns-then-is_some-clause-plain g c = λ none. absurd (some c.too_many-refusal.result (sym c.is_some.ensures ∙ c.if-is_some.true) none)

pub returns-then-is_some-clause-safe : goal.returns-then-is_some-clause-safe
returns-then-is_some-clause-safe g c = λ told world ledger room gone unclean list copied safe. c.flush_naming-flushed.ensures.safe told world ledger room gone unclean safe

-- ---- where it is recorded

pub returns-clause-moved : goal.returns-clause-moved
returns-clause-moved g c =
    let given = g.B.Bank.given c.args.bank.now in
    let given1 = g.B.Bank.given c.flush_naming-flushed.new.bank in
    let m = c.args.members.now in
    let n = c.flush_naming-flushed.new.members in
    let new = c.move_position-moved.new.members in
    let did = c.flush_naming-flushed.ensures in
    moved-then given (moved_past c.args.span.now m) (moved_past c.args.span.now n) new (past-moved given m n c.args.span.now did.keeps.moved c.requires.next)
    (subst (λ (b : Given). IsMoved b (moved_past c.args.span.now n) new) did.keeps.bank.same c.move_position-moved.ensures.moved)

pub returns-clause-recorded : goal.returns-clause-recorded
returns-clause-recorded g c = λ none.
    let given = g.B.Bank.given c.args.bank.now in
    let n = c.flush_naming-flushed.new.members in
    let did = c.flush_naming-flushed.ensures in
    record {
      mid = n;
      tape = g.B.Bank.tape c.flush_naming-flushed.new.bank;
      lost = did.keeps.moved;
      flushed = did.flushed;
      named = did.missing;
      few = subst (λ (o : Option Refusal). MatchOption o (DoWithout n) (AreTooMany n)) (none-of c.too_many-refusal.result (sym c.is_some.ensures ∙ c.if-is_some.false)) c.too_many-refusal.ensures;
      moved = subst (λ (b : Given). IsMoved b (moved_past c.args.span.now n) c.move_position-moved.new.members) did.keeps.bank.same c.move_position-moved.ensures.moved;
      grows = (did.keeps.bank.grows, c.move_position-moved.ensures.bank.grows);
    }

pub returns-then-is_some-clause-recorded : goal.returns-then-is_some-clause-recorded
returns-then-is_some-clause-recorded g c = λ none. absurd (some c.too_many-refusal.result (sym c.is_some.ensures ∙ c.if-is_some.true) none)

pub returns-clause-failed : goal.returns-clause-failed
returns-clause-failed g c =
    let s = c.flush_naming-flushed.result in
    let t = c.move_position-moved.result in
    since-then c.args.members.now c.flush_naming-flushed.new.members c.move_position-moved.new.members s t _ (g.B.Bank.faults_of c.args.bank.now) (g.B.Bank.faults_of c.flush_naming-flushed.new.bank)
    (g.B.Bank.faults_of c.move_position-moved.new.bank) c.flush_naming-flushed.ensures.keeps.bank.counts c.move_position-moved.ensures.bank.counts c.flush_naming-flushed.ensures.keeps.failed c.move_position-moved.ensures.failed (in-either s t)

pub returns-clause-bank : goal.returns-clause-bank
returns-clause-bank g c = goes-then c.flush_naming-flushed.ensures.keeps.bank c.move_position-moved.ensures.bank

pub returns-clause-others : goal.returns-clause-others
returns-clause-others g c = λ told s k other.
    let tape1 = g.B.Bank.tape c.flush_naming-flushed.new.bank in
    let tape2 = g.B.Bank.tape c.move_position-moved.new.bank in
    subst (λ (b : Given). AreOthersPresent (present b tape1) (present b tape2)) c.flush_naming-flushed.ensures.keeps.bank.same (c.move_position-moved.ensures.others told) s k other
    ∙ c.flush_naming-flushed.ensures.others told s k other

pub returns-clause-flushed : goal.returns-clause-flushed
returns-clause-flushed g c = λ told.
    let given = g.B.Bank.given c.args.bank.now in
    let given1 = g.B.Bank.given c.flush_naming-flushed.new.bank in
    let did = c.flush_naming-flushed.ensures in
    holders-at (reading_of c.move_position-moved.new.members) given1 given (g.B.Bank.tape c.move_position-moved.new.bank) (sym did.keeps.bank.same)
    (c.move_position-moved.ensures.flushed told (holders-at (reading_of c.flush_naming-flushed.new.members) given given1 (g.B.Bank.tape c.flush_naming-flushed.new.bank) did.keeps.bank.same (did.flushed told)))

fewer-then : (d e f : Disk) → AreOthersFewer d e → AreOthersFewer e f → AreOthersFewer d f
fewer-then d e f one two s k v other may = one s k v other (two s k v other may)

module _ (g : Over) (c : After-move_position-moved g) (told : g.B.Bank.tells) where
  abbrev given : Given
  given = g.B.Bank.given c.args.bank.now

  abbrev first : Disk
  first = disk given.start (g.B.Bank.tape c.args.bank.now)

  abbrev mid : Disk
  mid = disk given.start (g.B.Bank.tape c.flush_naming-flushed.new.bank)

  abbrev last : Disk
  last = disk given.start (g.B.Bank.tape c.move_position-moved.new.bank)

  settled : AreOthersFewer first mid
  settled s k v other may = c.flush_naming-flushed.ensures.rest told s k v (inl other) may

  fewer : AreOthersFewer first last
  fewer = fewer-then first mid last settled
      (subst (λ (b : Given). AreOthersFewer (disk b.start (g.B.Bank.tape c.flush_naming-flushed.new.bank)) (disk b.start (g.B.Bank.tape c.move_position-moved.new.bank))) c.flush_naming-flushed.ensures.keeps.bank.same
      (c.move_position-moved.ensures.fewer told))

pub returns-clause-fewer : goal.returns-clause-fewer
returns-clause-fewer g c = λ told. fewer g c told

pub returns-clause-unused : goal.returns-clause-unused
returns-clause-unused g c = λ told.
    let n = c.flush_naming-flushed.new.members in
    let tape1 = g.B.Bank.tape c.flush_naming-flushed.new.bank in
    let tape2 = g.B.Bank.tape c.move_position-moved.new.bank in
    let did = c.flush_naming-flushed.ensures in
    let moved : IsUnusedKept n (mid g c told) (last g c told) =
    subst (λ (b : Given). IsUnusedKept n (disk b.start tape1) (disk b.start tape2)) did.keeps.bank.same (c.move_position-moved.ensures.unused told) in
    unused-then (given g c told) c.args.members.now n (first g c told) (mid g c told) (last g c told) did.keeps.moved
    (rest-unused c.args.members.now (first g c told) (mid g c told) (did.rest told)) moved

pub returns-clause-clean : goal.returns-clause-clean
returns-clause-clean g c = c.move_position-moved.ensures.clean ∙ c.flush_naming-flushed.ensures.clean

pub returns-clause-plain : goal.returns-clause-plain
returns-clause-plain g c = λ none told scope placed headers.
    let m = c.args.members.now in
    let new = c.move_position-moved.new.members in
    let span = c.args.span.now in
    let moved = returns-clause-moved g c in (
      plain-moved scope (given g c told) (moved_past span m) new (first g c told) (last g c told) moved (fewer g c told) (past-plain scope (given g c told) m span placed c.requires.next (first g c told) headers),
      headers-moved scope (given g c told) (moved_past span m) new (first g c told) (last g c told) moved (fewer g c told) (past-headers scope (given g c told) m span placed c.requires.next (first g c told) headers),
    )

pub returns-clause-rise : goal.returns-clause-rise
returns-clause-rise g c = risen-then c.flush_naming-flushed.ensures.keeps.rise c.move_position-moved.ensures.rise

pub returns-clause-safe : goal.returns-clause-safe
returns-clause-safe g c = λ told world ledger room gone unclean list copied safe.
    let m = c.args.members.now in
    let n = c.flush_naming-flushed.new.members in
    let new = c.move_position-moved.new.members in
    let span = c.args.span.now in
    let given1 = g.B.Bank.given c.flush_naming-flushed.new.bank in
    let tape0 = g.B.Bank.tape c.args.bank.now in
    let tape1 = g.B.Bank.tape c.flush_naming-flushed.new.bank in
    let tape2 = g.B.Bank.tape c.move_position-moved.new.bank in
    let did = c.flush_naming-flushed.ensures in
    let next = c.move_position-moved.ensures in
    let moved : IsMoved (given g c told) (moved_past span n) new = subst (λ (b : Given). IsMoved b (moved_past span n) new) did.keeps.bank.same next.moved in
    let gone1 = gone-past (given g c told) n new span did.keeps.moved.placed (next-moved (given g c told) m n span did.keeps.moved c.requires.next) moved ledger gone in
    let early = did.safe told world ledger (room-first m tape0 tape1 tape2 room (grows-longer next.bank.grows told)) gone1 unclean safe in
    let right = past-right (OpensFit world) world.scope (given g c told) ledger m n span list tape0 tape1 c.requires.stands.placed c.requires.next did.keeps.moved did.clean (did.flushed told) (did.others told) (settled g c told)
    (copied refl) gone1 in
    safe-then (OpensFit world) world.scope (given g c told) ledger n new tape0 tape1 tape2 early
    (keeps-from world (given g c told) given1 ledger new tape1 tape2 did.keeps.bank.same
    (next.safe told world ledger (room-then tape2 told room did.keeps.rise) gone (λ dirty. unclean (sym did.clean ∙ dirty))
    (subst (λ (b : Given). IsSteady (OpensFit world) world.scope b ledger n (disk b.start tape1) → IsViewRight (OpensFit world) world.scope b ledger (moved_past span n) (disk b.start tape1)) (sym did.keeps.bank.same) right)
    (over-at world (given g c told) given1 ledger n tape1 did.keeps.bank.same early.next)))

-- ---- what the searches would find too, for longer

pub is_some-requires : goal.is_some-requires
is_some-requires g c κs a has = absurd (not-mem-nil has)

pub returns-then-is_some-clause-bank : goal.returns-then-is_some-clause-bank
returns-then-is_some-clause-bank g c = c.flush_naming-flushed.ensures.keeps.bank

pub flush_naming-flushed-requires : goal.flush_naming-flushed-requires
flush_naming-flushed-requires g c = record { stands = c.requires.stands }

pub returns-then-is_some-clause-failed : goal.returns-then-is_some-clause-failed
returns-then-is_some-clause-failed g c = c.flush_naming-flushed.ensures.keeps.failed

pub returns-then-is_some-clause-rise : goal.returns-then-is_some-clause-rise
returns-then-is_some-clause-rise g c = c.flush_naming-flushed.ensures.keeps.rise
