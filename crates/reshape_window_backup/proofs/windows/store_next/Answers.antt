use Rattle.std.proofs.Common.{Bool, sym, subst}
use Rattle.stripe_region_read.specs.bank_Tape.{disk}
use Rattle.reshape_progress.specs.history_Sound.{OpensFit}
use Rattle.reshape_progress.proofs.array_members_MarkedLaws.{grows-marks}
use Rattle.reshape_progress.proofs.array_members_SafeStretch.{safe-none}
use Rattle.reshape_progress.specs.Course.{IsStored}
use Rattle.reshape_window_backup.specs.Entering.{window_behind}
use Rattle.reshape_window_backup.proofs.StoredLaws.{section-stored}
use Rattle.reshape_progress.proofs.sb_safe_updates_FrameLaws.{goes-none}
use Rattle.reshape_window_backup.proofs.windows.store_next.Goals as goal

pub returns-then-not-sectioned-clause-safe : goal.returns-then-not-sectioned-clause-safe
returns-then-not-sectioned-clause-safe g c = λ told world ledger m live its none section safe.
    safe-none (OpensFit world) world.scope (g.B.Bank.given c.args.bank.now) ledger m (g.B.Bank.tape c.args.bank.now) safe

pub returns-clause-stored : goal.returns-clause-stored
returns-clause-stored g c = λ told scope m fit next its was.
    let e = disk (g.B.Bank.given c.args.bank.now).start (g.B.Bank.tape c.store_window.new.bank) in
    subst (λ (b : Bool). IsStored scope m (window_behind c.args.span.now b c.store_window.result) c.args.window.now e) (sym c.if-not-sectioned.false)
    (section-stored {given = g.B.Bank.given c.args.bank.now} c.store_window.result (record {
      room = c.requires.room;
      sixteen = c.told-uuid;
      marks = c.store_window.ensures.each_mark;
      active = c.store_window.ensures.active;
      untouched = c.store_window.ensures.untouched;
      unsure = c.store_window.ensures.unsure;
    }) told scope m fit next its was)

pub returns-clause-bank : goal.returns-clause-bank
returns-clause-bank g c = record {
  same = c.store_window.ensures.given;
  grows = grows-marks c.store_window.ensures.each_mark;
  counts = c.store_window.ensures.cause.never_falls;
}

pub returns-then-not-sectioned-clause-bank : goal.returns-then-not-sectioned-clause-bank
returns-then-not-sectioned-clause-bank g c = goes-none c.args.bank.now
