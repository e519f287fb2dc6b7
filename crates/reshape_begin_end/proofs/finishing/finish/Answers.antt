use Rattle.std.proofs.Common.{◌<◌, ◌==◌, ℕ, List, refl, sym, ◌∙◌, ap, subst, arith}
use Rattle.std.specs.Prelude.{◌^◌, ◌-◌}
use Rattle.sb_safe_updates.specs.bank_the_Operation.{Operation}
use Rattle.sb_safe_updates.specs.bank_Given.{Given}
use Rattle.sb_safe_updates.specs.bank_Tape.{disk}
use Rattle.sb_safe_updates.specs.sb_specs_the_Members.{Members}
use Rattle.sb_safe_updates.specs.sb_specs_Outcome.{AreLive}
use Rattle.sb_safe_updates.proofs.sb_specs_ReadAlike.{count-same}
use Rattle.sb_safe_updates.specs.sb_specs_Updating.{planned_newest}
use Rattle.sb_safe_updates.specs.stripe_row_Rows.{reading_of, present}
use Rattle.sb_safe_updates.specs.history_Sound.{OpensFit}
use Rattle.sb_safe_updates.specs.crash_views_Windows.{IsFlushedRight}
use Rattle.sb_safe_updates.specs.crash_safety_laws_Changing.{IsChanged, IsSafeChange}
use Rattle.sb_safe_updates.specs.crash_safety_laws_Steady.{IsSteady, IsSafeOver}
use Rattle.sb_safe_updates.specs.crash_safety_laws_Updates.{planned_view}
use Rattle.sb_safe_updates.proofs.crash_safety_laws_PlannedRoles.{live-before}
use Rattle.sb_safe_updates.proofs.crash_safety_laws_Risen.{risen-then, room-then}
use Rattle.sb_safe_updates.proofs.Unused.{rest-unused}
use Rattle.reshape_sb_updates.specs.Ending.{ending}
use Rattle.sb_safe_updates.proofs.array_members_Fit.{few, count-alike}
use Rattle.sb_safe_updates.proofs.array_members_LackingLaws.{holders-updated, holders-fewer}
use Rattle.sb_safe_updates.proofs.array_members_MarkedLaws.{grows-marks, others-updated}
use Rattle.sb_safe_updates.proofs.array_members_MovedLaws.{grows-then}
use Rattle.sb_safe_updates.specs.array_members_Moving.{IsMoved}
use Rattle.reshape_begin_end.proofs.Made.{IsMade, offset-kept, new-placed, new-unlost, new-free}
use Rattle.reshape_begin_end.proofs.Named.{names-all}
use Rattle.reshape_begin_end.proofs.Cleared.{change-then}
use Rattle.reshape_begin_end.proofs.FinishLaws.{active-then, last-then, small-then, whole-then, gives-live, ended-made, ended-one, states-then, still-then, plan-flushed, lost-in-end, lost-in-flush, roles-lost, roles-gone, gone-then, room-first}
use Rattle.reshape_begin_end.proofs.finishing.finish.Given.{Over}
use Rattle.reshape_begin_end.proofs.finishing.finish.Goals.{After-check_entries}
use Rattle.reshape_begin_end.proofs.finishing.finish.Goals as goal

-- ---- what is asked of the calls

pub count_roles-count-requires : goal.count_roles-count-requires
count_roles-count-requires g c = few (g.B.Bank.given c.args.bank.now) c.args.members.now c.requires.stands.placed

pub unassigned_roles-before-requires-clause-few : goal.unassigned_roles-before-requires-clause-few
unassigned_roles-before-requires-clause-few g c = let most = few (g.B.Bank.given c.args.bank.now) c.args.members.now c.requires.stands.placed in let is = c.count_roles-count.ensures in omega (arith, most, is)

pub newly_unassigned-roles-requires-clause-known : goal.newly_unassigned-roles-requires-clause-known
newly_unassigned-roles-requires-clause-known g c =
    let moved = c.flush_naming-spares.ensures.keeps.moved in
    let same = count-alike c.args.members.now.newest c.flush_naming-spares.new.members.newest moved.reshape moved.shape moved.size in
    let long = c.requires.stands.placed.roles in
    let now = moved.placed.roles in
    let is = c.count_roles-count.ensures in
    omega (arith, same, long, now, is)

pub newly_unassigned-roles-requires-clause-few : goal.newly_unassigned-roles-requires-clause-few
newly_unassigned-roles-requires-clause-few g c = let most = few (g.B.Bank.given c.args.bank.now) c.args.members.now c.requires.stands.placed in let is = c.count_roles-count.ensures in omega (arith, most, is)

pub too_many-requires-clause-shapes : goal.too_many-requires-clause-shapes
too_many-requires-clause-shapes g c = c.flush_naming-spares.ensures.keeps.moved.placed.fit.valid

pub too_many-requires-clause-roles : goal.too_many-requires-clause-roles
too_many-requires-clause-roles g c = c.flush_naming-spares.ensures.keeps.moved.placed.roles

pub end_update-lost-requires-clause-live : goal.end_update-lost-requires-clause-live
end_update-lost-requires-clause-live g c = subst (λ (b : Given). AreLive b c.flush_naming-spares.new.members) (sym c.flush_naming-spares.ensures.keeps.bank.same) c.flush_naming-spares.ensures.keeps.moved.placed.live

pub end_update-lost-requires-clause-active : goal.end_update-lost-requires-clause-active
end_update-lost-requires-clause-active g c =
    active-then (g.B.Bank.given c.args.bank.now) c.args.members.now c.flush_naming-spares.new.members c.flush_naming-spares.ensures.keeps.moved c.requires.active c.requires.last c.requires.whole

pub end_update-lost-requires-clause-last : goal.end_update-lost-requires-clause-last
end_update-lost-requires-clause-last g c =
    last-then (g.B.Bank.given c.args.bank.now) c.args.members.now c.flush_naming-spares.new.members c.flush_naming-spares.ensures.keeps.moved c.requires.active c.requires.last c.requires.whole

pub end_update-lost-requires-clause-fit : goal.end_update-lost-requires-clause-fit
end_update-lost-requires-clause-fit g c = c.flush_naming-spares.ensures.keeps.moved.placed.fit

pub end_update-lost-requires-clause-roles : goal.end_update-lost-requires-clause-roles
end_update-lost-requires-clause-roles g c = c.flush_naming-spares.ensures.keeps.moved.placed.roles

pub end_update-lost-requires-clause-small : goal.end_update-lost-requires-clause-small
end_update-lost-requires-clause-small g c =
    small-then (g.B.Bank.given c.args.bank.now) c.args.members.now c.flush_naming-spares.new.members c.flush_naming-spares.ensures.keeps.moved c.requires.active c.requires.last c.requires.whole

pub end_update-lost-requires-clause-whole : goal.end_update-lost-requires-clause-whole
end_update-lost-requires-clause-whole g c =
    whole-then (g.B.Bank.given c.args.bank.now) c.args.members.now c.flush_naming-spares.new.members c.flush_naming-spares.ensures.keeps.moved c.requires.active c.requires.last c.requires.whole

-- ---- too many are missing

pub returns-in-Some-clause-answer : goal.returns-in-Some-clause-answer
returns-in-Some-clause-answer g c = c.in-Some.ensures

pub returns-in-Some-clause-placed : goal.returns-in-Some-clause-placed
returns-in-Some-clause-placed g c = c.flush_naming-spares.ensures.keeps.moved.placed

pub returns-in-Some-clause-unlost : goal.returns-in-Some-clause-unlost
returns-in-Some-clause-unlost g c = c.flush_naming-spares.ensures.keeps.moved.unlost

pub returns-in-Some-clause-free : goal.returns-in-Some-clause-free
returns-in-Some-clause-free g c = c.flush_naming-spares.ensures.keeps.moved.free c.requires.stands.free

pub returns-in-Some-clause-states : goal.returns-in-Some-clause-states
returns-in-Some-clause-states g c = c.flush_naming-spares.ensures.keeps.moved.states

pub returns-in-Some-clause-offsets : goal.returns-in-Some-clause-offsets
returns-in-Some-clause-offsets g c = c.flush_naming-spares.ensures.keeps.moved.offsets

pub returns-in-Some-clause-flushed : goal.returns-in-Some-clause-flushed
returns-in-Some-clause-flushed g c = c.flush_naming-spares.ensures.flushed

pub returns-in-Some-clause-others : goal.returns-in-Some-clause-others
returns-in-Some-clause-others g c = c.flush_naming-spares.ensures.others

pub returns-in-Some-clause-named : goal.returns-in-Some-clause-named
returns-in-Some-clause-named g c = c.flush_naming-spares.ensures.missing

pub returns-in-Some-clause-failed : goal.returns-in-Some-clause-failed
returns-in-Some-clause-failed g c =
    lost-in-flush (g.B.Bank.given c.args.bank.now) c.args.members.now c.flush_naming-spares.new.members c.flush_naming-spares.ensures.keeps.moved c.requires.stands.placed c.requires.whole c.count_roles-count.result
    c.unassigned_roles-before.result c.newly_unassigned-roles.result c.count_roles-count.ensures c.unassigned_roles-before.ensures c.newly_unassigned-roles.ensures c.flush_naming-spares.result
    (g.B.Bank.faults_of c.args.bank.now) (g.B.Bank.faults_of c.flush_naming-spares.new.bank) c.flush_naming-spares.ensures.keeps.failed

pub returns-in-Some-clause-refused : goal.returns-in-Some-clause-refused
returns-in-Some-clause-refused g c = λ why is. (refl, c.flush_naming-spares.ensures.keeps.moved)

pub returns-in-Some-clause-untouched : goal.returns-in-Some-clause-untouched
returns-in-Some-clause-untouched g c = λ why is. (
  c.flush_naming-spares.ensures.clean,
  λ tell. rest-unused c.args.members.now (disk (g.B.Bank.given c.args.bank.now).start (g.B.Bank.tape c.args.bank.now))
      (disk (g.B.Bank.given c.args.bank.now).start (g.B.Bank.tape c.flush_naming-spares.new.bank)) (c.flush_naming-spares.ensures.rest tell),
)

pub returns-in-Some-clause-ended : goal.returns-in-Some-clause-ended
returns-in-Some-clause-ended g c = λ none. absurd (cc)

pub returns-in-Some-clause-kept : goal.returns-in-Some-clause-kept
returns-in-Some-clause-kept g c = λ why is tell world told room gone unclean safe. c.flush_naming-spares.ensures.safe tell world told room gone unclean safe

pub returns-in-Some-clause-safe : goal.returns-in-Some-clause-safe
returns-in-Some-clause-safe g c = λ none. absurd (cc)

-- ---- it has ended

pub returns-clause-untouched : goal.returns-clause-untouched
returns-clause-untouched g c = λ why is. absurd (cc)

module _ (g : Over) (c : After-check_entries g) where
  abbrev first_given : Given
  first_given = g.B.Bank.given c.args.bank.now

  abbrev before : List Operation
  before = g.B.Bank.tape c.args.bank.now

  abbrev mid : List Operation
  mid = g.B.Bank.tape c.flush_naming-spares.new.bank

  abbrev after : List Operation
  after = g.B.Bank.tape c.end_update-lost.new.bank

  abbrev m : Members
  m = c.args.members.now

  abbrev f : Members
  f = c.flush_naming-spares.new.members

  abbrev n : Members
  n = c.end_update-lost.new.members

  moved : IsMoved first_given m f
  moved = c.flush_naming-spares.ensures.keeps.moved

  done : IsChanged g.B.Bank.tells first_given (ending f) f n mid after
  done = subst (λ (b : Given). IsChanged g.B.Bank.tells b (ending f) f n mid after) c.flush_naming-spares.ensures.keeps.bank.same c.end_update-lost.ensures.ended

  made : IsMade first_given f (ending f) n
  made = ended-made first_given m f moved c.requires.active c.requires.last c.requires.whole (moved.free c.requires.stands.free) n done c.end_update-lost.ensures.less c.end_update-lost.ensures.fit c.check_counts.ensures.own

pub returns-clause-answer : goal.returns-clause-answer
returns-clause-answer g c = record {
  still = c.end_update-lost.ensures.newest.still;
  shape = c.end_update-lost.ensures.newest.shape ∙ (moved g c).reshape.final;
  size = c.end_update-lost.ensures.newest.size ∙ (moved g c).size;
  clean = ap (λ (k : ℕ). k == 2 ^ 64 - 1) c.end_update-lost.ensures.newest.clean ∙ c.flush_naming-spares.ensures.clean;
}

pub returns-clause-placed : goal.returns-clause-placed
returns-clause-placed g c = new-placed (first_given g c) (f g c) (ending (f g c)) (n g c) (made g c)

pub returns-clause-unlost : goal.returns-clause-unlost
returns-clause-unlost g c = new-unlost (first_given g c) (f g c) (ending (f g c)) (n g c) (made g c)

pub returns-clause-free : goal.returns-clause-free
returns-clause-free g c = new-free (first_given g c) (f g c) (ending (f g c)) (n g c) (made g c)

pub returns-clause-states : goal.returns-clause-states
returns-clause-states g c = states-then (first_given g c) (m g c) (f g c) (moved g c) c.requires.active c.requires.last c.requires.whole ((moved g c).free c.requires.stands.free) (n g c) (done g c)
    c.end_update-lost.ensures.less c.end_update-lost.ensures.fit c.check_counts.ensures.own

pub returns-clause-offsets : goal.returns-clause-offsets
returns-clause-offsets g c = λ slot. offset-kept (first_given g c) (f g c) (ending (f g c)) (n g c) (made g c) slot ∙ (moved g c).offsets slot

pub returns-clause-flushed : goal.returns-clause-flushed
returns-clause-flushed g c = λ tell.
    holders-fewer (first_given g c) (f g c) (n g c) (after g c)
    (still-then (first_given g c) (m g c) (f g c) (moved g c) c.requires.active c.requires.last c.requires.whole ((moved g c).free c.requires.stands.free) (n g c) (done g c) c.end_update-lost.ensures.less
    c.end_update-lost.ensures.fit c.check_counts.ensures.own)
    (holders-updated (first_given g c) (reading_of (f g c)) (done g c).update tell (c.flush_naming-spares.ensures.flushed tell))

pub returns-clause-others : goal.returns-clause-others
returns-clause-others g c = λ tell s k other. others-updated (first_given g c) (done g c).update tell s k other ∙ c.flush_naming-spares.ensures.others tell s k other

pub returns-clause-named : goal.returns-clause-named
returns-clause-named g c = λ live.
    let gives = gives-live (first_given g c) (m g c) (f g c) (moved g c) c.requires.active c.requires.last c.requires.whole in
    let was = live-before (f g c) (n g c) (ending (f g c)) gives (done g c).roles (done g c).spares live.0 live.1 in
    names-all (first_given g c) (f g c) (ending (f g c)) (n g c) (made g c)
    (ended-one (first_given g c) (m g c) (f g c) (moved g c) c.requires.active c.requires.last c.requires.whole ((moved g c).free c.requires.stands.free) (n g c) (done g c) c.end_update-lost.ensures.less
    c.end_update-lost.ensures.fit c.check_counts.ensures.own)
    c.check_entries.ensures ((done g c).named (live.0, was.0, live.2))

pub returns-clause-bank : goal.returns-clause-bank
returns-clause-bank g c = record {
  same = c.end_update-lost.ensures.given ∙ c.flush_naming-spares.ensures.keeps.bank.same;
  grows = grows-then c.flush_naming-spares.ensures.keeps.bank.grows (grows-marks (done g c).update.marks);
  counts = λ s. let first = c.flush_naming-spares.ensures.keeps.bank.counts s in let then = c.end_update-lost.ensures.counts s in omega (arith, first, then);
}

pub returns-clause-rise : goal.returns-clause-rise
returns-clause-rise g c = risen-then c.flush_naming-spares.ensures.keeps.rise c.end_update-lost.ensures.rise

pub returns-clause-failed : goal.returns-clause-failed
returns-clause-failed g c =
    lost-in-end (first_given g c) (m g c) (f g c) (n g c) (moved g c) c.requires.active c.requires.last c.requires.whole (done g c) (g.B.Bank.faults_of c.args.bank.now) (g.B.Bank.faults_of c.flush_naming-spares.new.bank)
    (g.B.Bank.faults_of c.end_update-lost.new.bank) c.flush_naming-spares.ensures.keeps.bank.counts c.end_update-lost.ensures.counts c.end_update-lost.ensures.losses c.newly_unassigned-roles.result c.flush_naming-spares.result
    c.end_update-lost.result c.end_update-lost.ensures.result
    (ended-one (first_given g c) (m g c) (f g c) (moved g c) c.requires.active c.requires.last c.requires.whole ((moved g c).free c.requires.stands.free) (n g c) (done g c) c.end_update-lost.ensures.less
    c.end_update-lost.ensures.fit c.check_counts.ensures.own)
    c.flush_naming-spares.ensures.keeps.failed (moved g c).unlost ((moved g c).free c.requires.stands.free)
    (roles-lost (first_given g c) (m g c) (f g c) (moved g c) c.requires.stands.placed c.requires.whole c.count_roles-count.result c.unassigned_roles-before.result c.newly_unassigned-roles.result c.count_roles-count.ensures
    c.unassigned_roles-before.ensures c.newly_unassigned-roles.ensures c.flush_naming-spares.result (g.B.Bank.faults_of c.args.bank.now) (g.B.Bank.faults_of c.flush_naming-spares.new.bank) c.flush_naming-spares.ensures.keeps.failed)
    (roles-gone (first_given g c) (m g c) (f g c) (moved g c) c.requires.stands.placed c.requires.whole c.count_roles-count.result c.unassigned_roles-before.result c.newly_unassigned-roles.result c.count_roles-count.ensures
    c.unassigned_roles-before.ensures c.newly_unassigned-roles.ensures c.flush_naming-spares.result (g.B.Bank.faults_of c.args.bank.now) (g.B.Bank.faults_of c.flush_naming-spares.new.bank) c.flush_naming-spares.ensures.keeps.failed)

pub returns-clause-refused : goal.returns-clause-refused
returns-clause-refused g c = λ why is. absurd (cc)

pub returns-clause-ended : goal.returns-clause-ended
returns-clause-ended g c = λ none. record {
  flushed = f g c;
  mid = mid g c;
  moved = moved g c;
  holders = c.flush_naming-spares.ensures.flushed;
  enough = c.in-None.ensures;
  rise = c.flush_naming-spares.ensures.keeps.rise;
  safe = λ tell world told room gone tells unclean safe.
      let tells-flushed = gone-then (first_given g c) (m g c) (f g c) (moved g c) c.requires.stands.placed c.requires.whole c.count_roles-count.result c.unassigned_roles-before.result c.newly_unassigned-roles.result
      c.count_roles-count.ensures c.unassigned_roles-before.ensures c.newly_unassigned-roles.ensures told gone tells in
      (c.flush_naming-spares.ensures.safe tell world told room tells-flushed unclean safe).next;
  update = done g c;
}

pub returns-clause-kept : goal.returns-clause-kept
returns-clause-kept g c = λ why is. absurd (cc)

pub returns-clause-safe : goal.returns-clause-safe
returns-clause-safe g c = λ none tell world told more list room former able gone tells gone' unclean unclean' carried safe.
    let given = first_given g c in
    let tells-flushed = gone-then given (m g c) (f g c) (moved g c) c.requires.stands.placed c.requires.whole c.count_roles-count.result c.unassigned_roles-before.result c.newly_unassigned-roles.result c.count_roles-count.ensures
    c.unassigned_roles-before.ensures c.newly_unassigned-roles.ensures told gone tells in
    let kept = c.flush_naming-spares.ensures.safe tell world told (room-first (m g c) (before g c) (mid g c) (after g c) ((done g c).update.marks.longer tell) room) tells-flushed unclean safe in
    change-then (OpensFit world) world.scope given told more (n g c) (before g c) (mid g c) (after g c) kept.marks
    (subst
    (λ (b : Given). (IsSteady (OpensFit world) world.scope b told (f g c) (disk b.start (mid g c))
    → IsFlushedRight (OpensFit world) world.scope b more (planned_view (f g c) (ending (f g c)) (f g c).lost) (present given (mid g c)) list (disk b.start (mid g c)))
    → IsSafeOver world b told (f g c) (mid g c) → IsSafeChange (OpensFit world) world.scope b told more (n g c) (mid g c) (after g c)) c.flush_naming-spares.ensures.keeps.bank.same
    (λ stands safe'. c.end_update-lost.ensures.flushed tell world told more (room-then (after g c) tell room c.flush_naming-spares.ensures.keeps.rise) gone' carried (present given (mid g c)) list stands safe')
    (λ steady. plan-flushed given (m g c) (f g c) (moved g c) c.requires.active c.requires.last c.requires.whole world.scope former (OpensFit world) more (present given (before g c)) (present given (mid g c)) list
    (disk given.start (mid g c)) c.requires.stands.placed (c.flush_naming-spares.ensures.others tell) c.flush_naming-spares.ensures.clean c.in-None.ensures (c.flush_naming-spares.ensures.flushed tell) able unclean'
    (λ role lt missing. gone' role (subst (λ (k : ℕ). role < k)
    (count-same (planned_newest (ending (f g c)).shared (f g c).newest) (n g c).newest c.end_update-lost.ensures.less.array) lt) (c.end_update-lost.ensures.less.missing role missing)))
    kept.next)

pub returns-in-Some-clause-bank : goal.returns-in-Some-clause-bank
returns-in-Some-clause-bank g c = c.flush_naming-spares.ensures.keeps.bank

pub flush_naming-spares-requires : goal.flush_naming-spares-requires
flush_naming-spares-requires g c = record { stands = c.requires.stands }
