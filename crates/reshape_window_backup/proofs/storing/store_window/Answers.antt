use Rattle.std.proofs.Common.{ℕ, List, length, ◌∙◌, ap}
use Rattle.stripe_region_read.specs.bank_Tape.{disk}
use Rattle.reshape_progress.proofs.stripe_row_RowBytes.{on_ok}
use Rattle.reshape_progress.specs.bank_backup_Written.{header_of}
use Rattle.reshape_progress.specs.bank_backup_Storing.{IsStoringOrNaming}
use Rattle.reshape_progress.specs.history_Sound.{OpensFit}
use Rattle.reshape_progress.specs.crash_views_Views.{Disk}
use Rattle.reshape_progress.proofs.crash_views_BackupLaws.{stored-closed}
use Rattle.reshape_window_backup.proofs.SectionLaws.{opened, unsure, marks-by, saved-safe}
use Rattle.reshape_window_backup.proofs.storing.store_window.Given.{Over}
use Rattle.reshape_window_backup.proofs.storing.store_window.Goals.{After-write_section}
use Rattle.reshape_window_backup.proofs.storing.store_window.Goals as goal

module _ (g : Over) (c : After-write_section g) where
  abbrev start : Disk
  start = disk (g.B.Bank.given c.args.bank.now).start (g.B.Bank.tape c.args.bank.now)

  abbrev last : Disk
  last = disk (g.B.Bank.given c.args.bank.now).start (g.B.Bank.tape c.write_section.new.bank)

pub returns-clause-active : goal.returns-clause-active
returns-clause-active g c = on_ok c.write_section.result (λ named told scope m fit next its.
    opened scope m c.args.backup c.args.uuid.now c.args.span.now c.args.buffer.now (start g c) (last g c) c.told-uuid fit next its (named told)) c.write_section.ensures.stored

pub returns-clause-untouched : goal.returns-clause-untouched
returns-clause-untouched g c = λ is told scope m its none.
    stored-closed scope m c.args.backup c.args.buffer.now (start g c) (last g c) its.backup none (c.write_section.ensures.untouched is told)

pub returns-clause-unsure : goal.returns-clause-unsure
returns-clause-unsure g c = λ is told scope m fit next its none.
    unsure scope m c.args.backup c.args.uuid.now c.args.span.now c.args.buffer.now (start g c) (last g c) c.told-uuid fit next its none (c.write_section.ensures.unsure is told)

pub returns-clause-safe : goal.returns-clause-safe
returns-clause-safe g c = λ told world ledger m live its none section safe.
    saved-safe (OpensFit world) world.scope (g.B.Bank.given c.args.bank.now) ledger m (g.B.Bank.tape c.args.bank.now) (g.B.Bank.tape c.write_section.new.bank) c.args.backup its.backup
    (ap (λ (u : List ℕ). length u) its.array ∙ c.told-uuid) live safe c.args.span.now c.args.buffer.now none section
    (marks-by (λ u. IsStoringOrNaming c.args.backup (header_of u c.args.span.now) c.args.buffer.now (start g c)) world.scope.uuid c.args.uuid.now told its.array c.write_section.ensures.each_mark)
