use Rattle.std.proofs.Common.{◌+◌, ◌/◌, None, length, ◌∙◌, arith}
use Rattle.reshape_progress.proofs.sb_specs_ValidFields.{few-roles}
use Rattle.reshape_progress.specs.stripe_row_Rows.{present}
use Rattle.reshape_progress.proofs.crash_views_Stands.{span-order, window-inside}
use Rattle.reshape_progress.specs.array_members_Placed.{AreWhole}
use Rattle.reshape_progress.proofs.array_members_Fit.{list-alike}
use Rattle.reshape_progress.proofs.array_members_LackingLaws.{lost-since}
use Rattle.stripe_region_read.specs.Stretches.{IsShapeOf}
use Rattle.reshape_progress.proofs.reshape_window_steps_CopyLaws.{window-alike}
use Rattle.reshape_window_backup.proofs.WindowReads.{window-end, refused-many, none-read, stands-in, rows-in, has-window}
use Rattle.reshape_window_backup.proofs.reading.read_next.Goals as goal

-- ---- what the calls require

pub overflow_cast-count : goal.overflow_cast-count
overflow_cast-count g c =
    let few = few-roles c.args.members.now.newest c.requires.stands.placed.fit.valid in
    let roles = c.requires.stands.placed.roles in
    let long = c.len-count.ensures in
    omega (arith, few, roles, long)

pub unassigned_roles-before-requires-clause-few : goal.unassigned_roles-before-requires-clause-few
unassigned_roles-before-requires-clause-few g c =
    let few = few-roles c.args.members.now.newest c.requires.stands.placed.fit.valid in
    let roles = c.requires.stands.placed.roles in
    let long = c.len-count.ensures in
    omega (arith, few, roles, long)

pub read_list-read-requires-clause-within : goal.read_list-read-requires-clause-within
read_list-read-requires-clause-within g c =
    let order = span-order c.args.members.now.newest c.requires.stands.placed.fit c.args.span.now c.requires.next in
    let inside = window-inside c.args.members.now.newest c.requires.stands.placed.fit c.args.span.now c.requires.next in
    let end = window-end c.args.span.now c.args.window.now order c.requires.room in
    omega (arith, end, inside)

pub newly_unassigned-requires-clause-few : goal.newly_unassigned-requires-clause-few
newly_unassigned-requires-clause-few g c =
    let few = few-roles c.args.members.now.newest c.requires.stands.placed.fit.valid in
    let roles = c.requires.stands.placed.roles in
    let long = c.len-count.ensures in
    omega (arith, few, roles, long)

-- ---- what is left

pub returns-clause-since : goal.returns-clause-since
returns-clause-since g c =
    lost-since (g.B.Bank.given c.args.bank.now) c.args.members.now c.read_list-read.new.members c.len-count.result c.unassigned_roles-before.result c.newly_unassigned.result c.read_list-read.result.spares
    (g.B.Bank.faults_of c.args.bank.now) (g.B.Bank.faults_of c.read_list-read.new.bank) c.requires.stands.placed c.read_list-read.ensures.keeps.moved c.read_list-read.ensures.keeps.failed
    (c.len-count.ensures ∙ c.requires.stands.placed.roles) c.unassigned_roles-before.ensures c.newly_unassigned.ensures

pub returns-clause-refused : goal.returns-clause-refused
returns-clause-refused g c =
    let old = c.args.members.now in
    let new = c.read_list-read.new.members in
    let moved = c.read_list-read.ensures.keeps.moved in
    let order = span-order old.newest c.requires.stands.placed.fit c.args.span.now c.requires.next in
    let end = window-end c.args.span.now c.args.window.now order c.requires.room in
    let long = list-alike old.newest new.newest moved.reshape moved.shape moved.size in
    let all = c.requires.relied in
    refused-many new moved.placed.fit c.args.span.now (window-alike old.newest new.newest moved.reshape moved.shape moved.size ∙ c.requires.next) c.args.relied
    (c.args.span.now.lo + length c.args.window.now / 512) c.read_list-read.result.refusal c.refusal_behind.result (omega (arith, long, all)) (omega (arith, end)) c.read_list-read.ensures.refused c.refusal_behind.ensures

pub returns-clause-has : goal.returns-clause-has
returns-clause-has g c = λ none told list stands filled.
    let old = c.args.members.now in
    let content = present (g.B.Bank.given c.args.bank.now) (g.B.Bank.tape c.args.bank.now) in
    let to = c.args.span.now.lo + length c.args.window.now / 512 in
    let room = c.requires.room in
    has-window old c.args.span.now c.read_list-read.new.into content list (length c.args.window.now / 512) c.args.relied c.requires.stands.placed.fit c.requires.next (omega (arith, room))
    (c.read_list-read.ensures.holds (none-read c.read_list-read.new.members c.read_list-read.result.refusal c.refusal_behind.result c.refusal_behind.ensures none) told None list
    (stands-in old c.args.span.now c.read_list-read.new.into content list (length c.args.window.now / 512) c.args.relied (IsShapeOf old.newest c.args.span.now.lo to) stands)
    (rows-in old c.args.span.now c.read_list-read.new.into content list (length c.args.window.now / 512) c.args.relied (IsShapeOf old.newest c.args.span.now.lo to) (AreWhole c.read_list-read.new.members) filled))

pub returns-clause-bank : goal.returns-clause-bank
returns-clause-bank g c = c.read_list-read.ensures.keeps.bank

pub read_list-read-requires-clause-stands : goal.read_list-read-requires-clause-stands
read_list-read-requires-clause-stands g c = c.requires.stands

pub returns-clause-moved : goal.returns-clause-moved
returns-clause-moved g c = c.read_list-read.ensures.keeps.moved

pub returns-clause-rise : goal.returns-clause-rise
returns-clause-rise g c = c.read_list-read.ensures.keeps.rise

pub returns-clause-unused : goal.returns-clause-unused
returns-clause-unused g c = c.read_list-read.ensures.keeps.unused
