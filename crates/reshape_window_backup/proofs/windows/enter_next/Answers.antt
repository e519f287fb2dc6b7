use Rattle.std.proofs.Common.{◌≡◌, ◌≢◌, ◌⊎◌, ℕ, ◌-◌, ◌*◌, ◌++◌, true, Option, Some, None, List, length, take, take_all, sym, ◌∙◌, subst, arith}
use Rattle.std.specs.Prelude.{MatchOption}
use Rattle.std.proofs.lemmas.List.{take-append-le}
use Rattle.stripe_region_read.specs.raid_types_the_Refusal.{Refusal}
use Rattle.reshape_progress.specs.raid_types_the_Refusal_TheVariants.{BackupFault}
use Rattle.stripe_region_read.specs.bank_the_Operation.{Operation}
use Rattle.stripe_region_read.specs.bank_Given.{Given, IsFaulted}
use Rattle.stripe_region_read.specs.bank_Tape.{disk}
use Rattle.reshape_progress.specs.sb_specs_the_Members.{Members}
use Rattle.reshape_progress.specs.sb_specs_Reading.{next_window}
use Rattle.reshape_progress.specs.stripe_row_Rows.{present}
use Rattle.reshape_progress.specs.history_Sound.{OpensFit}
use Rattle.reshape_progress.specs.crash_views_Regions.{DoWithout}
use Rattle.reshape_progress.specs.crash_views_Windows.{HasNoSection}
use Rattle.reshape_progress.proofs.crash_views_Headers.{window-filled}
use Rattle.reshape_progress.proofs.crash_safety_laws_Risen.{risen-then, risen-none, room-first}
use Rattle.reshape_progress.specs.array_members_Lacking.{AreTooMany}
use Rattle.reshape_progress.specs.array_members_Moving.{IsMoved}
use Rattle.reshape_progress.proofs.array_members_LackingWrites.{others-same}
use Rattle.reshape_progress.proofs.array_members_LiveLeft.{without-left}
use Rattle.reshape_progress.proofs.array_members_SafeStretch.{allowed-later, grows-longer, over-at, keeps-from, safe-then}
use Rattle.reshape_progress.proofs.reshape_window_steps_CopyLaws.{window-alike}
use Rattle.reshape_progress.specs.reshape_request_the_Window.{Window}
use Rattle.reshape_progress.specs.reshape_request_the_Window_TheVariants.{Closed, Entered, Unsure}
use Rattle.reshape_progress.specs.Course.{HasWindowIn, IsStored}
use Rattle.reshape_window_backup.specs.Entering.{window_behind}
use Rattle.reshape_window_backup.proofs.SectionLaws.{read-section}
use Rattle.reshape_window_backup.proofs.WindowReads.{since-later}
use Rattle.reshape_window_backup.proofs.StoredLaws.{closed-kept}
use Rattle.reshape_window_backup.proofs.TriedLaws.{none-kept, rows-beside, refused-in, window-in, dead-in, has-in, none-in}
use Rattle.reshape_window_backup.proofs.windows.enter_next.Given.{Over}
use Rattle.reshape_window_backup.proofs.windows.enter_next.Goals.{After-window_behind}
use Rattle.reshape_progress.proofs.sb_safe_updates_FrameLaws.{goes-then}
use Rattle.reshape_window_backup.proofs.windows.enter_next.Goals as goal

-- ---- it wasn't read

pub returns-then-is_some-clause-kept : goal.returns-then-is_some-clause-kept
returns-then-is_some-clause-kept g c = λ told.
    let given = g.B.Bank.given c.args.bank.now in
    others-same given (λ row. ⊥) c.args.members.now c.read_next-read.new.members (present given (g.B.Bank.tape c.args.bank.now)) (present given (g.B.Bank.tape c.read_next-read.new.bank)) c.read_next-read.ensures.moved
    c.requires.stands.placed (c.read_next-read.ensures.others told)

pub returns-then-is_some-clause-stored : goal.returns-then-is_some-clause-stored
returns-then-is_some-clause-stored g c = λ told scope its none fit.
    let given = g.B.Bank.given c.args.bank.now in
    closed-kept scope given c.args.members.now c.read_next-read.new.members c.args.backup _ (disk given.start (g.B.Bank.tape c.args.bank.now)) (disk given.start (g.B.Bank.tape c.read_next-read.new.bank)) its.backup
    c.read_next-read.ensures.moved c.requires.aside (c.read_next-read.ensures.unused told) (record { section = none; sectors = tt; headers = fit })

pub returns-then-is_some-clause-safe : goal.returns-then-is_some-clause-safe
returns-then-is_some-clause-safe g c = λ told world ledger list room gone unclean its none stands filled allowed safe.
    c.read_next-read.ensures.safe told world ledger room gone unclean safe

-- ---- it was read

pub store_next-stored-requires-clause-filled : goal.store_next-stored-requires-clause-filled
store_next-stored-requires-clause-filled g c = window-filled c.args.members.now.newest c.requires.stands.placed.fit c.args.span.now c.requires.next

module _ (g : Over) (c : After-window_behind g) where
  abbrev given : Given
  given = g.B.Bank.given c.args.bank.now

  abbrev mid_given : Given
  mid_given = g.B.Bank.given c.read_next-read.new.bank

  abbrev one : List Operation
  one = g.B.Bank.tape c.args.bank.now

  abbrev two : List Operation
  two = g.B.Bank.tape c.read_next-read.new.bank

  abbrev three : List Operation
  three = g.B.Bank.tape c.store_next-stored.new.bank

  abbrev old : Members
  old = c.args.members.now

  abbrev new : Members
  new = c.read_next-read.new.members

  abbrev bytes : List ℕ
  bytes = c.read_next-read.new.window

  none : c.read_next-read.result.refusal ≡ None
  none = none-in c.read_next-read.result.refusal (sym c.is_some.ensures ∙ c.if-is_some.false)

  moved : IsMoved (g.B.Bank.given c.args.bank.now) c.args.members.now c.read_next-read.new.members
  moved = c.read_next-read.ensures.moved

  next : next_window c.read_next-read.new.members.newest ≡ Some c.args.span.now
  next = window-alike old.newest new.newest moved.reshape moved.shape moved.size ∙ c.requires.next

  does : DoWithout c.read_next-read.new.members
  does = subst (λ (o : Option Refusal). MatchOption o (DoWithout new) (AreTooMany new)) none c.read_next-read.ensures.refused

  long : length c.read_next-read.new.window ≡ 512 * (c.args.span.now.hi - c.args.span.now.lo)
  long = let part = c.read_next-read.auto.window in let front = c.split_at_mut-part.ensures.front_len in omega (arith, part, front)

  -- the window's bytes stand first in its buffer
  part-is : take (512 * (c.args.span.now.hi - c.args.span.now.lo)) (c.read_next-read.new.window ++ c.split_at_mut-part.result.1.now) ≡ c.read_next-read.new.window
  part-is =
      let room = long in
      take-append-le (512 * (c.args.span.now.hi - c.args.span.now.lo)) bytes c.split_at_mut-part.result.1.now (omega (arith, room)) ∙ take_all (512 * (c.args.span.now.hi - c.args.span.now.lo)) bytes (omega (arith, room))

pub returns-clause-since : goal.returns-clause-since
returns-clause-since g c =
    since-later (old g c) (new g c) c.read_next-read.result.roles c.read_next-read.result.spares (g.B.Bank.faults_of c.args.bank.now) (g.B.Bank.faults_of c.read_next-read.new.bank)
    (g.B.Bank.faults_of c.store_next-stored.new.bank) c.read_next-read.ensures.bank.counts c.store_next-stored.ensures.bank.counts c.read_next-read.ensures.since

pub returns-clause-refused : goal.returns-clause-refused
returns-clause-refused g c =
    subst (λ (o : Option Refusal). MatchOption o (DoWithout (new g c)) (λ refusal. AreTooMany (new g c) refusal ⊎ ((refusal ≡ BackupFault) × IsFaulted c.args.backup (g.B.Bank.faults_of c.args.bank.now) (g.B.Bank.faults_of c.store_next-stored.new.bank))))
    (sym c.refusal_in.ensures)
    (refused-in c.args.backup (new g c) (g.B.Bank.faults_of c.args.bank.now) (g.B.Bank.faults_of c.read_next-read.new.bank) (g.B.Bank.faults_of c.store_next-stored.new.bank) c.store_next-stored.result (does g c)
    c.read_next-read.ensures.bank.counts c.store_next-stored.ensures.bank.counts c.store_next-stored.ensures.failed)

pub returns-clause-window : goal.returns-clause-window
returns-clause-window g c =
    subst (λ (o : Option Refusal). MatchOption o (c.window_behind.result ≡ Entered c.args.span.now 0 c.args.sectioned) (λ refusal. (c.window_behind.result ≡ Closed) ⊎ ((c.window_behind.result ≡ Unsure c.args.span.now) × (c.args.sectioned ≡ true))))
    (sym c.refusal_in.ensures)
    (window-in c.args.span.now c.args.sectioned c.store_next-stored.result c.window_behind.result c.window_behind.ensures c.store_next-stored.ensures.sectioned)

pub returns-clause-dead : goal.returns-clause-dead
returns-clause-dead g c = λ unsure is.
    dead-in c.args.backup c.args.span.now unsure c.args.sectioned (g.B.Bank.faults_of c.read_next-read.new.bank) (g.B.Bank.faults_of c.store_next-stored.new.bank) c.store_next-stored.result
    (sym c.window_behind.ensures ∙ is) c.store_next-stored.ensures.bank.counts c.store_next-stored.ensures.failed

pub returns-clause-bank : goal.returns-clause-bank
returns-clause-bank g c = goes-then c.read_next-read.ensures.bank c.store_next-stored.ensures.bank

pub returns-clause-rise : goal.returns-clause-rise
returns-clause-rise g c = risen-then c.read_next-read.ensures.rise (risen-none (new g c) (two g c) (three g c) (grows-longer c.store_next-stored.ensures.bank.grows))

pub returns-clause-kept : goal.returns-clause-kept
returns-clause-kept g c = λ told.
    rows-beside (given g c) (old g c) (new g c) c.args.backup (one g c) (two g c) (three g c) (moved g c) c.requires.stands.placed c.requires.aside (c.read_next-read.ensures.others told)
    (subst (λ (b : Given). (s k : ℕ) → s ≢ c.args.backup → disk b.start (three g c) s k ≡ disk b.start (two g c) s k) c.read_next-read.ensures.bank.same (c.store_next-stored.ensures.beside told))

pub returns-clause-has : goal.returns-clause-has
returns-clause-has g c = λ told list stands filled.
    subst (λ (w : Window). HasWindowIn w (take (512 * (c.args.span.now.hi - c.args.span.now.lo)) (bytes g c ++ c.split_at_mut-part.result.1.now)) list) (sym c.window_behind.ensures)
    (subst (λ (l : List ℕ). HasWindowIn (window_behind c.args.span.now c.args.sectioned c.store_next-stored.result) l list) {x = bytes g c} (sym (part-is g c))
    (has-in c.args.span.now c.args.sectioned c.store_next-stored.result (bytes g c) list (long g c) (c.read_next-read.ensures.has (none g c) told list stands filled)))

pub returns-clause-stored : goal.returns-clause-stored
returns-clause-stored g c = λ told scope its clear fit.
    let start = (given g c).start in
    subst (λ (w : Window). IsStored scope (new g c) w (take (512 * (c.args.span.now.hi - c.args.span.now.lo)) (bytes g c ++ c.split_at_mut-part.result.1.now)) (disk start (three g c)))
    {x = window_behind c.args.span.now c.args.sectioned c.store_next-stored.result} (sym c.window_behind.ensures)
    (subst (λ (l : List ℕ). IsStored scope (new g c) (window_behind c.args.span.now c.args.sectioned c.store_next-stored.result) l (disk start (three g c))) {x = bytes g c} (sym (part-is g c))
    (subst (λ (b : Given). IsStored scope (new g c) (window_behind c.args.span.now c.args.sectioned c.store_next-stored.result) (bytes g c) (disk b.start (three g c))) c.read_next-read.ensures.bank.same
    (c.store_next-stored.ensures.stored told scope (new g c) (moved g c).placed.fit (next g c) its
    (subst (λ (b : Given). IsStored scope (new g c) Closed (bytes g c) (disk b.start (two g c))) (sym c.read_next-read.ensures.bank.same)
    (closed-kept scope (given g c) (old g c) (new g c) c.args.backup (bytes g c) (disk start (one g c)) (disk start (two g c)) its.backup (moved g c) c.requires.aside (c.read_next-read.ensures.unused told)
    (record { section = clear; sectors = tt; headers = fit }))))))

pub returns-clause-safe : goal.returns-clause-safe
returns-clause-safe g c = λ told world ledger list room gone unclean its clear stands filled allowed safe.
    let start = (given g c).start in
    let first = c.read_next-read.ensures.safe told world ledger (room-first (old g c) (one g c) (two g c) (three g c) room (grows-longer c.store_next-stored.ensures.bank.grows told)) gone unclean safe in
    safe-then (OpensFit world) world.scope (given g c) ledger (new g c) (new g c) (one g c) (two g c) (three g c) first
    (keeps-from world (given g c) (mid_given g c) ledger (new g c) (two g c) (three g c) c.read_next-read.ensures.bank.same
    (c.store_next-stored.ensures.safe told world ledger (new g c) (without-left (given g c) (new g c) (moved g c).placed (moved g c).unlost (does g c)) its
    (subst (λ (b : Given). HasNoSection world.scope (new g c) (disk b.start (two g c))) (sym c.read_next-read.ensures.bank.same)
    (none-kept world.scope (given g c) (old g c) (new g c) c.args.backup (disk start (one g c)) (disk start (two g c)) its.backup (moved g c) c.requires.aside (c.read_next-read.ensures.unused told) clear))
    (read-section (new g c) (moved g c).placed.fit c.args.span.now (bytes g c) list ledger.values (next g c) (long g c) (c.read_next-read.ensures.has (none g c) told list stands filled)
    (allowed-later (given g c) (old g c) (new g c) (moved g c) ledger.values list allowed))
    (over-at world (given g c) (mid_given g c) ledger (new g c) (two g c) c.read_next-read.ensures.bank.same first.next)))

pub returns-then-is_some-clause-bank : goal.returns-then-is_some-clause-bank
returns-then-is_some-clause-bank g c = c.read_next-read.ensures.bank

pub read_next-read-requires-clause-stands : goal.read_next-read-requires-clause-stands
read_next-read-requires-clause-stands g c = c.requires.stands
