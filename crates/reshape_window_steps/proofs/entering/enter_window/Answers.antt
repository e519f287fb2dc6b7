use Rattle.std.proofs.Common.{◌≡◌, ◌⊎◌, inl, inr, ◌/◌, ◌<◌, ℕ, true, List, length, Some, sym, ◌∙◌, ap, subst, arith}
use Rattle.std.specs.Prelude.{⊤}
use Rattle.reshape_window_rows.specs.raid_types_the_Shape.{Shape}
use Rattle.reshape_window_rows.specs.raid_types_Sectors.{Sector}
use Rattle.reshape_window_rows.specs.bank_the_Operation.{Operation}
use Rattle.reshape_window_rows.specs.bank_Given.{Given}
use Rattle.reshape_window_rows.specs.bank_Tape.{EachMark, disk}
use Rattle.reshape_window_rows.proofs.bank_Causes.{faulted_longer}
use Rattle.reshape_window_rows.proofs.bank_Marks.{each_mark-told}
use Rattle.reshape_window_rows.specs.sb_specs_the_Members.{Members}
use Rattle.reshape_window_rows.specs.sb_specs_Reading.{shape_of, next_window}
use Rattle.reshape_window_rows.specs.stripe_row_Rows.{present, reading_of, IsTolerated}
use Rattle.reshape_window_rows.proofs.stripe_row_RowBytes.{on_ok}
use Rattle.reshape_window_rows.specs.stripe_list_Calls.{IsAsked}
use Rattle.reshape_window_rows.specs.bank_backup_Written.{header_of}
use Rattle.reshape_window_rows.specs.bank_backup_Storing.{IsStoring, IsNaming, IsStoringOrNaming}
use Rattle.reshape_window_rows.specs.history_World.{World}
use Rattle.reshape_window_rows.specs.history_Sound.{OpensFit}
use Rattle.reshape_window_rows.specs.crash_views_Views.{Disk, Ledger}
use Rattle.reshape_window_rows.proofs.crash_views_BackupLaws.{stored-closed}
use Rattle.reshape_window_rows.specs.crash_safety_laws_Safety.{HasLiveSlot}
use Rattle.reshape_window_rows.specs.crash_safety_laws_Steady.{IsSafeOver, KeepsSafe}
use Rattle.reshape_window_rows.specs.Copies.{IsRoomFor, AreLackingGood}
use Rattle.reshape_window_steps.specs.Entering.{IsRead, IsEnterable}
use Rattle.reshape_window_rows.proofs.crash_views_Headers.{window-filled, window-short}
use Rattle.reshape_window_steps.proofs.EnterLaws.{read-section, opened, unsure, copyable, read-or, entered, was-read, tolerated, lost-later, none-still, left-live, read-safe, saved-safe}
use Rattle.reshape_window_steps.proofs.entering.enter_window.Given.{Over}
use Rattle.reshape_window_steps.proofs.entering.enter_window.Goals.{After-save-answer}
use Rattle.reshape_window_steps.proofs.entering.enter_window.Goals as goal

pub save-answer-requires-clause-filled : goal.save-answer-requires-clause-filled
save-answer-requires-clause-filled g c = window-filled c.args.members.now.newest c.requires.fit c.args.span.now c.requires.next

module _ (g : Over) (c : After-save-answer g) where
  abbrev first_given : Given
  first_given = g.B.Bank.given c.args.bank.now

  abbrev first_tape : List Operation
  first_tape = g.B.Bank.tape c.args.bank.now

  abbrev last_tape : List Operation
  last_tape = g.B.Bank.tape c.save-answer.new.bank

  abbrev start : Disk
  start = disk first_given.start first_tape

  abbrev last : Disk
  last = disk first_given.start last_tape

  newest-same : c.read_window-lost.new.members.newest ≡ c.args.members.now.newest
  newest-same = ap (λ (m : Members). m.newest) c.read_window-lost.ensures.lost.members

  next : next_window c.read_window-lost.new.members.newest ≡ Some c.args.span.now
  next = ap next_window newest-same ∙ c.requires.next

  filled : c.args.span.now.lo < c.args.span.now.hi
  filled = window-filled c.args.members.now.newest c.requires.fit c.args.span.now c.requires.next

  small : c.args.span.now.hi < 18446744073709551616
  small = window-short c.args.members.now.newest c.requires.fit c.args.span.now c.requires.next

  -- what the backup's call says, from the bank before the read on
  rebased : g.B.Bank.tells → (Q : Disk → Disk → Type 0)
      → Q (disk (g.B.Bank.given c.read_window-lost.new.bank).start (g.B.Bank.tape c.read_window-lost.new.bank)) (disk (g.B.Bank.given c.read_window-lost.new.bank).start last_tape) → Q start last
  rebased told Q held =
      subst (λ (l : List Operation). Q (disk first_given.start l) last) (c.read_window-lost.ensures.tape told)
      (subst (λ (b : Given). Q (disk b.start (g.B.Bank.tape c.read_window-lost.new.bank)) (disk b.start last_tape)) c.read_window-lost.ensures.given held)

  marks : EachMark g.B.Bank.tells first_given.start first_tape last_tape (IsStoringOrNaming c.args.backup (header_of c.args.uuid.now c.args.span.now) c.read_window-lost.new.buffer start)
  marks = each_mark-told (λ told.
      subst (λ (l : List Operation). EachMark g.B.Bank.tells first_given.start l last_tape
      (IsStoringOrNaming c.args.backup (header_of c.args.uuid.now c.args.span.now) c.read_window-lost.new.buffer (disk first_given.start l))) (c.read_window-lost.ensures.tape told)
      (subst (λ (b : Given). EachMark g.B.Bank.tells b.start (g.B.Bank.tape c.read_window-lost.new.bank) last_tape
      (IsStoringOrNaming c.args.backup (header_of c.args.uuid.now c.args.span.now) c.read_window-lost.new.buffer (disk b.start (g.B.Bank.tape c.read_window-lost.new.bank))))
      c.read_window-lost.ensures.given c.save-answer.ensures.each_mark))

pub returns-clause-lost : goal.returns-clause-lost
returns-clause-lost g c =
    lost-later c.args.shape.now c.args.members.now c.read_window-lost.new.members c.read_window-lost.result.lost (g.B.Bank.faults_of c.args.bank.now)
    (g.B.Bank.faults_of c.read_window-lost.new.bank) (g.B.Bank.faults_of c.save-answer.new.bank) c.read_window-lost.ensures.lost c.save-answer.ensures.counts

pub returns-clause-sectors : goal.returns-clause-sectors
returns-clause-sectors g c = λ is. was-read c.read_window-lost.result.answer c.save-answer.result c.save-answer.ensures.passed is c.read_window-lost.ensures.sectors

pub returns-clause-each_mark : goal.returns-clause-each_mark
returns-clause-each_mark g c = marks g c

pub returns-clause-active : goal.returns-clause-active
returns-clause-active g c = on_ok c.save-answer.result (λ named is told scope its.
    opened scope c.read_window-lost.new.members c.args.backup c.args.uuid.now c.args.span.now c.read_window-lost.new.buffer (start g c) (last g c) c.told-uuid (next g c) (filled g c) (small g c) its
    (rebased g c told (Rattle.reshape_window_rows.specs.bank_backup_Storing.IsNamed c.args.backup (header_of c.args.uuid.now c.args.span.now) c.read_window-lost.new.buffer) (named is told))) c.save-answer.ensures.stored

pub returns-clause-copyable : goal.returns-clause-copyable
returns-clause-copyable g c = on_ok c.save-answer.result (λ named told scope its.
    copyable scope c.args.members.now.newest c.read_window-lost.new.members (newest-same g c) c.args.span.now c.requires.next c.args.sectioned c.requires.critical (last g c)
    (λ is. (opened scope c.read_window-lost.new.members c.args.backup c.args.uuid.now c.args.span.now c.read_window-lost.new.buffer (start g c) (last g c) c.told-uuid (next g c) (filled g c) (small g c) (its is)
    (rebased g c told (Rattle.reshape_window_rows.specs.bank_backup_Storing.IsNamed c.args.backup (header_of c.args.uuid.now c.args.span.now) c.read_window-lost.new.buffer) (named is told))).0)) c.save-answer.ensures.stored

pub returns-clause-untouched : goal.returns-clause-untouched
returns-clause-untouched g c = λ is told scope its none.
    stored-closed scope c.read_window-lost.new.members c.args.backup c.read_window-lost.new.buffer (start g c) (last g c) its.backup
    (none-still scope c.args.members.now c.read_window-lost.new.members (start g c) (newest-same g c) none)
    (rebased g c told (IsStoring c.args.backup c.read_window-lost.new.buffer) (c.save-answer.ensures.untouched is told))

pub returns-clause-unsure : goal.returns-clause-unsure
returns-clause-unsure g c = λ is told scope its none.
    unsure scope c.read_window-lost.new.members c.args.backup c.args.uuid.now c.args.span.now c.read_window-lost.new.buffer (start g c) (last g c) c.told-uuid (next g c) (filled g c) (small g c) its
    (none-still scope c.args.members.now c.read_window-lost.new.members (start g c) (newest-same g c) none)
    (rebased g c told (IsNaming c.args.backup (header_of c.args.uuid.now c.args.span.now) c.read_window-lost.new.buffer) (c.save-answer.ensures.unsure is told))

pub returns-clause-failed : goal.returns-clause-failed
returns-clause-failed g c = λ fault is.
    faulted_longer c.args.backup (g.B.Bank.faults_of c.args.bank.now) (g.B.Bank.faults_of c.read_window-lost.new.bank) (g.B.Bank.faults_of c.save-answer.new.bank) (g.B.Bank.faults_of c.save-answer.new.bank)
    (c.read_window-lost.ensures.lost.never_falls c.args.backup) (omega arith) (c.save-answer.ensures.counts c.args.backup) (c.save-answer.ensures.failed fault is)

module _ (g : Over) (c : After-save-answer g) (told : g.B.Bank.tells) (world : World) (ledger : Ledger) (list : ℕ → Sector)
    (able : IsTolerated (reading_of c.read_window-lost.new.members) (shape_of c.args.members.now.newest)
    → IsEnterable world.scope ledger c.args.members.now c.read_window-lost.new.members c.args.backup c.args.uuid.now c.args.span.now c.args.synced c.args.sectioned list
    (present (first_given g c) (first_tape g c)) (start g c))
    (safe : IsSafeOver world (first_given g c) ledger c.args.members.now (first_tape g c)) where
  few : IsRead c.save-answer.result → IsTolerated (reading_of c.read_window-lost.new.members) (shape_of c.args.members.now.newest)
  few is = subst (IsTolerated (reading_of c.read_window-lost.new.members)) c.requires.shape
      (tolerated c.args.shape.now c.args.synced (reading_of c.read_window-lost.new.members) (IsAsked c.args.shape.now c.args.span.now.lo (length c.args.buffer.now / 512)) c.save-answer.result is
      (entered c.args.shape.now c.args.synced (reading_of c.read_window-lost.new.members) (IsAsked c.args.shape.now c.args.span.now.lo (length c.args.buffer.now / 512)) c.read_window-lost.result.answer
      c.save-answer.result c.save-answer.ensures.passed c.read_window-lost.ensures.answer))

  live : IsRead c.save-answer.result → HasLiveSlot c.read_window-lost.new.members
  live is = subst HasLiveSlot (sym c.read_window-lost.ensures.lost.members)
      (left-live (first_given g c) c.args.members.now c.read_window-lost.result.lost c.requires.rows.holders c.requires.unlost c.requires.fit.valid.old
      (subst (λ (m : Members). IsTolerated (reading_of m) (shape_of c.args.members.now.newest)) c.read_window-lost.ensures.lost.members (few is)))

  saved : c.args.sectioned ≡ true → IsRead c.save-answer.result → KeepsSafe world (first_given g c) ledger c.read_window-lost.new.members (first_tape g c) (last_tape g c)
  saved due is =
      let all = able (few is) in
      let its = (all.backup due).0 in
      saved-safe (OpensFit world) world.scope (first_given g c) ledger c.args.members.now c.read_window-lost.new.members c.read_window-lost.result.lost c.read_window-lost.ensures.lost.members
      (first_tape g c) (last_tape g c) c.args.backup c.args.span.now c.read_window-lost.new.buffer its.backup (ap length its.array ∙ c.told-uuid)
      (none-still world.scope c.args.members.now c.read_window-lost.new.members (start g c) (newest-same g c) (λ header may. (all.backup due).1 header may))
      (read-section c.args.members.now.newest c.read_window-lost.new.members (newest-same g c) c.requires.fit c.args.span.now c.read_window-lost.new.buffer list ledger.values c.requires.next
      room (returns-clause-sectors g c is told list (λ x slot. all.stands x slot) (λ clean. subst (λ (s : Shape). AreLackingGood (reading_of c.args.members.now) (reading_of c.read_window-lost.new.members)
      (present (first_given g c) (first_tape g c)) s c.args.span.now list) (sym c.requires.shape) (all.good clean))) all.allowed)
      (subst (λ (u : List ℕ). EachMark ⊤ (first_given g c).start (first_tape g c) (last_tape g c) (IsStoringOrNaming c.args.backup (header_of u c.args.span.now) c.read_window-lost.new.buffer (start g c)))
      (sym its.array) (record { longer = λ t. (marks g c).longer told; earlier = λ t. (marks g c).earlier told; each = λ t m low high. (marks g c).each told m low high }))
      (live is) safe
    where
      room : IsRoomFor c.args.span.now c.read_window-lost.new.buffer
      room = omega (arith, c.requires.buffer, c.read_window-lost.auto.buffer)

  kept : KeepsSafe world (first_given g c) ledger c.read_window-lost.new.members (first_tape g c) (last_tape g c)
  kept = of (read-or c.save-answer.result c.args.sectioned)
    where
      of : (c.args.sectioned ≡ true → IsRead c.save-answer.result → ⊥) ⊎ ((c.args.sectioned ≡ true) × IsRead c.save-answer.result)
          → KeepsSafe world (first_given g c) ledger c.read_window-lost.new.members (first_tape g c) (last_tape g c)
      of (inl none) =
          read-safe (OpensFit world) world.scope (first_given g c) ledger c.args.members.now c.read_window-lost.new.members c.read_window-lost.result.lost c.read_window-lost.ensures.lost.members
          (first_tape g c) (last_tape g c) (c.save-answer.ensures.same told none ∙ c.read_window-lost.ensures.tape told) safe
      of (inr both) = saved both.0 both.1

pub returns-clause-safe : goal.returns-clause-safe
returns-clause-safe g c = kept g c
