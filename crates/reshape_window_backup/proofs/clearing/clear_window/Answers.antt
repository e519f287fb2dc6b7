use Rattle.std.proofs.Common.{ℕ, List, length, sym, ◌∙◌, ap, subst}
use Rattle.stripe_region_read.specs.bank_the_Operation.{Operation}
use Rattle.stripe_region_read.specs.bank_Given.{Given}
use Rattle.stripe_region_read.specs.bank_Tape.{EachMark, disk}
use Rattle.reshape_progress.proofs.bank_Marks.{each_mark-told}
use Rattle.reshape_progress.proofs.stripe_row_RowBytes.{on_ok}
use Rattle.reshape_progress.specs.bank_backup_Written.{cleared_header}
use Rattle.reshape_progress.specs.bank_backup_Storing.{IsHeading, IsHeaded}
use Rattle.reshape_progress.specs.history_Sound.{OpensFit}
use Rattle.reshape_progress.specs.crash_views_Views.{Disk}
use Rattle.reshape_progress.proofs.crash_views_BackupLaws.{cleared-closed}
use Rattle.reshape_progress.specs.crash_safety_laws_Steady.{KeepsSafe}
use Rattle.reshape_progress.proofs.array_members_SafeStretch.{safe-none}
use Rattle.reshape_window_backup.proofs.SectionLaws.{unsure-still, marks-by, cleared-safe, at-end, on-err}
use Rattle.reshape_window_backup.proofs.clearing.clear_window.Given.{Over}
use Rattle.reshape_window_backup.proofs.clearing.clear_window.Goals.{After-clear_section}
use Rattle.reshape_window_backup.proofs.clearing.clear_window.Goals as goal

-- ---- the slot failed at the read

pub returns-in-Err-clause-safe : goal.returns-in-Err-clause-safe
returns-in-Err-clause-safe g c = λ told world ledger m header live there array held shut safe.
    let before = g.B.Bank.tape c.args.bank.now in
    subst (λ (l : List Operation). KeepsSafe world (g.B.Bank.given c.args.bank.now) ledger m before l) (sym (c.in-Err.ensures.tape told))
    (safe-none (OpensFit world) world.scope (g.B.Bank.given c.args.bank.now) ledger m before safe)

-- ---- the header is written

module _ (g : Over) (c : After-clear_section g) where
  abbrev given : Given
  given = g.B.Bank.given c.args.bank.now

  abbrev before : List Operation
  before = g.B.Bank.tape c.args.bank.now

  abbrev mid : List Operation
  mid = g.B.Bank.tape c.read.new.self

  abbrev after : List Operation
  after = g.B.Bank.tape c.clear_section.new.bank

  abbrev start : Disk
  start = disk given.start before

  marks : EachMark g.B.Bank.tells given.start before after (IsHeading c.args.backup (cleared_header c.args.uuid.now) start)
  marks = each_mark-told (λ told.
      subst (λ (l : List Operation). EachMark g.B.Bank.tells given.start l after (IsHeading c.args.backup (cleared_header c.args.uuid.now) (disk given.start l))) (c.read.ensures.tape told)
      (subst (λ (b : Given). EachMark g.B.Bank.tells b.start mid after (IsHeading c.args.backup (cleared_header c.args.uuid.now) (disk b.start mid))) c.read.ensures.given c.clear_section.ensures.each_mark))

pub returns-clause-each_mark : goal.returns-clause-each_mark
returns-clause-each_mark g c = marks g c

pub returns-clause-plain : goal.returns-clause-plain
returns-clause-plain g c = on_ok c.clear_section.result (λ headed told scope m there array.
    cleared-closed scope m c.args.backup (disk (g.B.Bank.given c.read.new.self).start (mid g c)) (disk (given g c).start (after g c)) there (ap (λ (u : List ℕ). length u) array ∙ c.told-uuid)
    (subst (λ (u : List ℕ). IsHeaded c.args.backup (cleared_header u) (disk (g.B.Bank.given c.read.new.self).start (mid g c)) (disk (given g c).start (after g c))) (sym array)
    (subst (λ (b : Given). IsHeaded c.args.backup (cleared_header c.args.uuid.now) (disk (g.B.Bank.given c.read.new.self).start (mid g c)) (disk b.start (after g c))) c.read.ensures.given (headed told))))
    c.clear_section.ensures.stored

pub returns-clause-unsure : goal.returns-clause-unsure
returns-clause-unsure g c = on-err c.clear_section.result (λ told scope m span there array was.
    unsure-still scope m c.args.backup span (start g c) (disk (given g c).start (after g c)) there (ap (λ (u : List ℕ). length u) array ∙ c.told-uuid)
    (subst (λ (u : List ℕ). IsHeading c.args.backup (cleared_header u) (start g c) (disk (given g c).start (after g c))) (sym array) (at-end (marks g c) told)) was)

pub returns-clause-safe : goal.returns-clause-safe
returns-clause-safe g c = λ told world ledger m header live there array held shut safe.
    cleared-safe (OpensFit world) world.scope (given g c) ledger m (before g c) (after g c) c.args.backup there (ap (λ (u : List ℕ). length u) array ∙ c.told-uuid) live safe header held shut
    (marks-by (λ u. IsHeading c.args.backup (cleared_header u) (start g c)) world.scope.uuid c.args.uuid.now told array (marks g c))
