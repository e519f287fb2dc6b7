use Rattle.std.proofs.Common.{◌≡◌, inl, ℕ, Option, Some, None, is_some, Bool, false, sym, ◌∙◌, ap, refl}
use Rattle.array_fixed_io.specs.sb_specs_Reading.{is_clean, list_length}
use Rattle.array_fixed_io.specs.array_members_Rebuilding.{Held}
use Rattle.array_fixed_io.specs.array_specs_Parts.{still_left}
use Rattle.array_fixed_sync.specs.Resyncing.{is_at_end}
use Rattle.array_fixed_io.specs.array_type_Rebuilding.{IsHeldOrNext}
use Rattle.array_fixed_sync.specs.Stepping.{IsHeldOrDue}
use Rattle.array_fixed_sync.proofs.ResyncLaws.{ok-so}
use Rattle.array_fixed_sync.proofs.NextLaws.{next-rebuild, next-same, held-due, resync-end, rebuild-end, undone-caused, stepped-wider}
use Rattle.array_fixed_sync.proofs.StepParts.{resync-entered, taken-short, resync-work, resync-caused, resync-clean, resync-untaken, resync-unended, rebuild-entered, rebuild-work, rebuild-clean, rebuild-unflushed}
use Rattle.array_fixed_sync.specs.Resyncing as resync
use Rattle.array_fixed_sync.proofs.stepping.still_step.Goals as goal

-- no resync is pending, as was found
none-pending : {o resync : Option ℕ} {some : Bool} → o ≡ resync → some ≡ is_some o → some ≡ false → resync ≡ None
none-pending {resync = resync} same found none = by resync (ap is_some (sym same) ∙ sym found ∙ none)
  where
    by : (o : Option ℕ) → is_some o ≡ false → o ≡ None
    by None is = refl
    by (Some mended) is = absurd (cc)

pub returns-then-is_some-clause-good : goal.returns-then-is_some-clause-good
returns-then-is_some-clause-good g c =
    ok-so c.resync_step.result (λ good. resync-end _ c.args.still.now.parts.work c.args.still.now.parts.members (ap is_some (sym c.resync.ensures.resync) ∙ sym c.is_some.ensures ∙ c.if-is_some.true) good) c.resync_step.ensures.good

pub returns-then-is_some-clause-stepped : goal.returns-then-is_some-clause-stepped
returns-then-is_some-clause-stepped g c =
    let a = c.args.still.now in
    let b = c.resync_step.new.still in
    stepped-wider g.B.Bank.tells (g.B.Bank.given a.parts.bank) (g.B.Bank.tape a.parts.bank) (g.B.Bank.tape b.parts.bank) (IsHeldOrDue a.parts.work a.parts.members) (Held a.parts.members)
    (g.B.Bank.faults_of a.parts.bank) (g.B.Bank.faults_of b.parts.bank) a b (λ role slot held. inl held) c.resync_step.ensures.stepped

pub rebuild_step-requires-clause-unbroken : goal.rebuild_step-requires-clause-unbroken
rebuild_step-requires-clause-unbroken g c =
    λ ends.
    c.requires.unbroken (next-same c.args.still.now.parts.work c.args.still.now.parts.members (none-pending c.resync.ensures.resync c.is_some.ensures c.if-is_some.false) ∙ ends)

pub rebuild_step-requires-clause-pending : goal.rebuild_step-requires-clause-pending
rebuild_step-requires-clause-pending g c =
    next-rebuild c.args.still.now.parts.work c.args.still.now.parts.members (none-pending c.resync.ensures.resync c.is_some.ensures c.if-is_some.false) c.requires.pending

pub returns-clause-caused : goal.returns-clause-caused
returns-clause-caused g c =
    undone-caused (list_length c.args.still.now.parts.members.newest) c.args.still.now.parts.work c.args.still.now.parts.members c.rebuild_step.new.still.parts.members c.rebuild_step.result
    (none-pending c.resync.ensures.resync c.is_some.ensures c.if-is_some.false) c.rebuild_step.ensures.caused

pub returns-clause-good : goal.returns-clause-good
returns-clause-good g c =
    ok-so c.rebuild_step.result (λ good. rebuild-end _ c.args.still.now.parts.work c.args.still.now.parts.members (none-pending c.resync.ensures.resync c.is_some.ensures c.if-is_some.false) good) c.rebuild_step.ensures.good

pub returns-clause-stepped : goal.returns-clause-stepped
returns-clause-stepped g c =
    let a = c.args.still.now in
    let b = c.rebuild_step.new.still in
    stepped-wider g.B.Bank.tells (g.B.Bank.given a.parts.bank) (g.B.Bank.tape a.parts.bank) (g.B.Bank.tape b.parts.bank) (IsHeldOrDue a.parts.work a.parts.members) (IsHeldOrNext a.parts.work a.parts.members)
    (g.B.Bank.faults_of a.parts.bank) (g.B.Bank.faults_of b.parts.bank) a b (held-due a.parts.work a.parts.members (none-pending c.resync.ensures.resync c.is_some.ensures c.if-is_some.false)) c.rebuild_step.ensures.stepped

-- ---- a resync's step

pub resync_step-requires-clause-pending : goal.resync_step-requires-clause-pending
resync_step-requires-clause-pending g c = ap is_some (sym c.resync.ensures.resync) ∙ sym c.is_some.ensures ∙ c.if-is_some.true

pub returns-then-is_some-clause-entered : goal.returns-then-is_some-clause-entered
returns-then-is_some-clause-entered g c =
    resync-entered c.args.who c.args.still.now.parts.entries c.resync_step.new.still.parts.entries c.args.still.now.parts.work c.args.still.now.parts.members c.resync_step.new.still.parts.members (still_left c.resync_step.new.still.parts.work c.resync_step.new.still.parts.members c.resync_step.new.still.ahead) c.resync_step.result
    (ap is_some (sym c.resync.ensures.resync) ∙ sym c.is_some.ensures ∙ c.if-is_some.true) c.resync_step.ensures.entered

pub returns-then-is_some-clause-memory : goal.returns-then-is_some-clause-memory
returns-then-is_some-clause-memory g c =
    taken-short c.args.who c.args.still.now.parts.entries c.resync_step.new.still.parts.entries (resync.next_kind c.args.still.now.parts.work.resync c.args.still.now.parts.members) (still_left c.resync_step.new.still.parts.work c.resync_step.new.still.parts.members c.resync_step.new.still.ahead) c.resync_step.result c.resync_step.ensures.entered

pub returns-then-is_some-clause-work : goal.returns-then-is_some-clause-work
returns-then-is_some-clause-work g c =
    resync-work c.args.still.now.parts.work c.resync_step.new.still.parts.work c.args.still.now.parts.members c.resync_step.result (ap is_some (sym c.resync.ensures.resync) ∙ sym c.is_some.ensures ∙ c.if-is_some.true) c.resync_step.ensures.work

pub returns-then-is_some-clause-caused : goal.returns-then-is_some-clause-caused
returns-then-is_some-clause-caused g c =
    resync-caused (list_length c.args.still.now.parts.members.newest) c.args.still.now.parts.work c.args.still.now.parts.members c.resync_step.new.still.parts.members c.resync_step.result (ap is_some (sym c.resync.ensures.resync) ∙ sym c.is_some.ensures ∙ c.if-is_some.true) c.resync_step.ensures.caused

pub returns-then-is_some-clause-clean : goal.returns-then-is_some-clause-clean
returns-then-is_some-clause-clean g c =
    resync-clean c.args.still.now.parts.work.resync (is_clean c.resync_step.new.still.parts.members.newest) (is_at_end c.args.still.now.parts.work.resync c.args.still.now.parts.members) (is_clean c.args.still.now.parts.members.newest) c.resync_step.result
    (ap is_some (sym c.resync.ensures.resync) ∙ sym c.is_some.ensures ∙ c.if-is_some.true) c.resync_step.ensures.clean

pub returns-then-is_some-clause-taken : goal.returns-then-is_some-clause-taken
returns-then-is_some-clause-taken g c =
    resync-untaken _ c.args.still.now.parts.work c.args.still.now.parts.members c.resync_step.result (ap is_some (sym c.resync.ensures.resync) ∙ sym c.is_some.ensures ∙ c.if-is_some.true)

pub returns-then-is_some-clause-whole : goal.returns-then-is_some-clause-whole
returns-then-is_some-clause-whole g c =
    resync-unended _ c.args.still.now.parts.work c.args.still.now.parts.members c.resync_step.result (ap is_some (sym c.resync.ensures.resync) ∙ sym c.is_some.ensures ∙ c.if-is_some.true)

pub returns-then-is_some-clause-held : goal.returns-then-is_some-clause-held
returns-then-is_some-clause-held g c =
    record { roles = λ role slot held. inl (c.resync_step.ensures.held role slot held); spares = c.resync_step.ensures.spares }

-- ---- a rebuild's step

pub rebuild_step-requires-clause-synced : goal.rebuild_step-requires-clause-synced
rebuild_step-requires-clause-synced g c = none-pending c.resync.ensures.resync c.is_some.ensures c.if-is_some.false

pub returns-clause-entered : goal.returns-clause-entered
returns-clause-entered g c =
    rebuild-entered c.args.who c.args.still.now.parts.entries c.rebuild_step.new.still.parts.entries c.args.still.now.parts.work c.args.still.now.parts.members c.rebuild_step.new.still.parts.members (still_left c.rebuild_step.new.still.parts.work c.rebuild_step.new.still.parts.members c.rebuild_step.new.still.ahead) c.rebuild_step.result
    (none-pending c.resync.ensures.resync c.is_some.ensures c.if-is_some.false) c.rebuild_step.ensures.entered

pub returns-clause-work : goal.returns-clause-work
returns-clause-work g c =
    rebuild-work c.args.still.now.parts.work c.rebuild_step.new.still.parts.work c.args.still.now.parts.members c.rebuild_step.result (none-pending c.resync.ensures.resync c.is_some.ensures c.if-is_some.false) c.rebuild_step.ensures.work

pub returns-clause-clean : goal.returns-clause-clean
returns-clause-clean g c =
    rebuild-clean c.args.still.now.parts.work.resync (is_clean c.rebuild_step.new.still.parts.members.newest) (is_at_end c.args.still.now.parts.work.resync c.args.still.now.parts.members) (is_clean c.args.still.now.parts.members.newest) c.rebuild_step.result
    (none-pending c.resync.ensures.resync c.is_some.ensures c.if-is_some.false) c.rebuild_step.ensures.clean

pub returns-clause-flushed : goal.returns-clause-flushed
returns-clause-flushed g c =
    rebuild-unflushed _ c.args.still.now.parts.work.resync c.args.still.now.parts.members c.rebuild_step.result (none-pending c.resync.ensures.resync c.is_some.ensures c.if-is_some.false)

pub returns-clause-taken : goal.returns-clause-taken
returns-clause-taken g c =
    ok-so c.rebuild_step.result (λ given kind. given (sym (next-same c.args.still.now.parts.work c.args.still.now.parts.members (none-pending c.resync.ensures.resync c.is_some.ensures c.if-is_some.false)) ∙ kind)) c.rebuild_step.ensures.taken

pub returns-clause-whole : goal.returns-clause-whole
returns-clause-whole g c =
    ok-so c.rebuild_step.result (λ whole kind. whole (sym (next-same c.args.still.now.parts.work c.args.still.now.parts.members (none-pending c.resync.ensures.resync c.is_some.ensures c.if-is_some.false)) ∙ kind)) c.rebuild_step.ensures.whole

pub returns-then-is_some-clause-still : goal.returns-then-is_some-clause-still
returns-then-is_some-clause-still g c = c.resync_step.ensures.still

pub returns-clause-still : goal.returns-clause-still
returns-clause-still g c = c.rebuild_step.ensures.still
