use Rattle.std.proofs.Common.{◌≡◌, ◌&&◌, ℕ, not, Bool, true, false, length, Some, inl, inr, refl, sym, ◌∙◌, ap, subst, arith, List}
use Rattle.std.proofs.lemmas.Bool.{cases_lt}
use Rattle.sb_safe_updates.specs.raid_types_Shapes.{has_slot}
use Rattle.sb_safe_updates.specs.raid_types_the_Shape.{Shape}
use Rattle.sb_safe_updates.specs.bank_the_Operation.{Operation}
use Rattle.sb_safe_updates.specs.bank_Given.{Given}
use Rattle.sb_safe_updates.specs.bank_Tape.{disk}
use Rattle.sb_safe_updates.proofs.raid_layout_Limits.{limited}
use Rattle.sb_safe_updates.specs.sb_specs_the_Members.{Members}
use Rattle.sb_safe_updates.specs.sb_specs_Reading.{Scope, shape_of}
use Rattle.sb_safe_updates.specs.sb_specs_Outcome.{AreLive}
use Rattle.sb_safe_updates.proofs.sb_specs_SlotSets.{none_above}
use Rattle.sb_safe_updates.specs.history_Sound.{OpensFit}
use Rattle.sb_safe_updates.specs.crash_views_Regions.{ArePlaced}
use Rattle.sb_safe_updates.specs.crash_safety_laws_Giving.{IsToldOf}
use Rattle.sb_safe_updates.specs.crash_safety_laws_Steady.{IsSafeOver}
use Rattle.sb_safe_updates.specs.crash_safety_laws_Updates.{planned_view}
use Rattle.reshape_sb_updates.specs.crash_reshape_laws_Ends.{IsCleared}
use Rattle.reshape_begin_end.specs.Begun.{is_idle_spare}
use Rattle.sb_safe_updates.specs.crash_safety_laws_Changing.{IsChanged, IsSafeChange}
use Rattle.sb_safe_updates.proofs.crash_safety_laws_PlannedRoles.{live-before}
use Rattle.reshape_sb_updates.specs.bank_backup_Written.{cleared_header}
use Rattle.reshape_sb_updates.specs.bank_backup_Storing.{IsHeaded}
use Rattle.reshape_sb_updates.specs.Beginning.{beginning}
use Rattle.sb_safe_updates.proofs.array_members_Fit.{roles-still}
use Rattle.sb_safe_updates.proofs.array_members_MarkedLaws.{grows-marks, others-updated}
use Rattle.sb_safe_updates.proofs.array_members_MovedLaws.{grows-then}
use Rattle.reshape_begin_end.proofs.Made.{IsMade, new-moved, new-free}
use Rattle.reshape_begin_end.proofs.Named.{names-all}
use Rattle.reshape_begin_end.proofs.Cleared.{at-end, heading-kept, present-kept, marks-of, change-then, room-longer, cleared-then, steady-before, steady-then, views-cleared}
use Rattle.reshape_begin_end.proofs.BeginLaws.{gives-live, begun-made, begun-one, begun-failed, begun-spares, begun-placed, begun-told}
use Rattle.reshape_begin_end.proofs.beginning.begin.Given.{Over}
use Rattle.reshape_begin_end.proofs.beginning.begin.Goals.{After-without-2}
use Rattle.reshape_begin_end.proofs.beginning.begin.Goals as goal

-- ---- what is asked of the calls

pub shape_in-first-requires : goal.shape_in-first-requires
shape_in-first-requires g c = c.requires.placed.fit.valid.old

pub idle_spares-idle-requires : goal.idle_spares-idle-requires
idle_spares-idle-requires g c = let most = (limited (shape_of c.args.members.now.newest) c.requires.in_force.old_valid).most in let is = ap (λ (s : Shape). s.disks) c.shape_in-first.ensures in omega (arith, most, is)

pub begin_update-lost-requires-clause-live : goal.begin_update-lost-requires-clause-live
begin_update-lost-requires-clause-live g c = subst (λ (b : Given). AreLive b c.args.members.now) (sym c.clear_section.ensures.given) c.requires.placed.live

pub begin_update-lost-requires-clause-roles : goal.begin_update-lost-requires-clause-roles
begin_update-lost-requires-clause-roles g c = roles-still (g.B.Bank.given c.args.bank.now) c.args.members.now c.requires.placed c.requires.still

-- ---- the backup failed

pub returns-in-Err-clause-answer : goal.returns-in-Err-clause-answer
returns-in-Err-clause-answer g c = λ why is. ((let both = is in cc), refl)

pub returns-in-Err-clause-refused : goal.returns-in-Err-clause-refused
returns-in-Err-clause-refused g c = λ why is. record { members = refl; tried = c.in-Err.ensures.err; failed = c.in-Err.ensures.cause.failed cc }

pub returns-in-Err-clause-begun : goal.returns-in-Err-clause-begun
returns-in-Err-clause-begun g c = λ none. absurd (cc)

pub returns-in-Err-clause-newest : goal.returns-in-Err-clause-newest
returns-in-Err-clause-newest g c = λ none. absurd (cc)

pub returns-in-Err-clause-taken : goal.returns-in-Err-clause-taken
returns-in-Err-clause-taken g c = λ none. absurd (cc)

pub returns-in-Err-clause-moved : goal.returns-in-Err-clause-moved
returns-in-Err-clause-moved g c = λ none. absurd (cc)

pub returns-in-Err-clause-failed : goal.returns-in-Err-clause-failed
returns-in-Err-clause-failed g c = λ none. absurd (cc)

pub returns-in-Err-clause-spares : goal.returns-in-Err-clause-spares
returns-in-Err-clause-spares g c = λ none. absurd (cc)

pub returns-in-Err-clause-free : goal.returns-in-Err-clause-free
returns-in-Err-clause-free g c = c.requires.free

pub returns-in-Err-clause-named : goal.returns-in-Err-clause-named
returns-in-Err-clause-named g c = λ none. absurd (cc)

pub returns-in-Err-clause-plain : goal.returns-in-Err-clause-plain
returns-in-Err-clause-plain g c = λ none. absurd (cc)

pub returns-in-Err-clause-others : goal.returns-in-Err-clause-others
returns-in-Err-clause-others g c = λ tell s k other beside.
    let given = g.B.Bank.given c.args.bank.now in
    let before = g.B.Bank.tape c.args.bank.now in
    let mid = g.B.Bank.tape c.clear_section.new.bank in
    present-kept given before mid s k (heading-kept c.args.backup (cleared_header c.args.uuid.now) (disk given.start before) (disk given.start mid) (at-end c.in-Err.ensures.each_mark tell) s k beside)

pub returns-in-Err-clause-bank : goal.returns-in-Err-clause-bank
returns-in-Err-clause-bank g c = record {
  same = c.clear_section.ensures.given;
  grows = grows-marks c.in-Err.ensures.each_mark;
  counts = c.in-Err.ensures.cause.never_falls;
}

pub returns-in-Err-clause-rise : goal.returns-in-Err-clause-rise
returns-in-Err-clause-rise g c = record { left = λ live. live; events = λ tell live. let longer = c.in-Err.ensures.each_mark.longer tell in omega (arith, longer) }

pub returns-in-Err-clause-kept : goal.returns-in-Err-clause-kept
returns-in-Err-clause-kept g c = λ why is tell world told live there array safe.
    let given = g.B.Bank.given c.args.bank.now in
    let before = g.B.Bank.tape c.args.bank.now in
    let mid = g.B.Bank.tape c.clear_section.new.bank in
    let sixteen : length world.scope.uuid ≡ 16 = ap (λ (l : List ℕ). length l) array ∙ c.told-uuid in
    let marks = marks-of world.scope given.start before mid c.args.backup c.args.uuid.now (disk given.start before) tell array c.in-Err.ensures.each_mark in
    record {
      marks = views-cleared (OpensFit world) world.scope given told c.args.members.now c.args.backup before mid there sixteen c.requires.still live marks safe;
      next = inl (steady-then (OpensFit world) world.scope given told c.args.members.now c.args.backup before mid there sixteen c.requires.still live marks safe);
    }

pub returns-in-Err-clause-safe : goal.returns-in-Err-clause-safe
returns-in-Err-clause-safe g c = λ none. absurd (cc)

-- ---- it is begun

module _ (g : Over) (c : After-without-2 g) where
  abbrev first_given : Given
  first_given = g.B.Bank.given c.args.bank.now

  abbrev before : List Operation
  before = g.B.Bank.tape c.args.bank.now

  abbrev mid : List Operation
  mid = g.B.Bank.tape c.clear_section.new.bank

  abbrev after : List Operation
  after = g.B.Bank.tape c.begin_update-lost.new.bank

  abbrev m : Members
  m = c.args.members.now

  abbrev n : Members
  n = c.begin_update-lost.new.members

  roles : length m.roles ≡ (shape_of m.newest).disks
  roles = roles-still first_given m c.requires.placed c.requires.still

  done : IsChanged g.B.Bank.tells first_given (beginning m c.args.to.now) m n mid after
  done = subst (λ (b : Given). IsChanged g.B.Bank.tells b (beginning m c.args.to.now) m n mid after) c.clear_section.ensures.given c.begin_update-lost.ensures.begun

  made : IsMade first_given m (beginning m c.args.to.now) n
  made = begun-made first_given m c.args.to.now c.requires.still roles c.requires.in_force c.requires.level c.requires.placed c.requires.free n done
      c.begin_update-lost.ensures.less c.begin_update-lost.ensures.fit c.check_counts.ensures.own

  -- the spares in the answer
  told-is : (s : ℕ) → has_slot c.without-2.result s ≡ (has_slot c.begin_update-lost.result s && has_slot c.idle_spares-idle.result s)
  told-is s = elim (cases_lt s 32) [
    | inl below ↦ c.without-2.ensures s below ∙ ap (λ (b : Bool). has_slot c.begin_update-lost.result s && not b) (c.without.ensures s below) ∙ twice (has_slot c.begin_update-lost.result s) (has_slot c.idle_spares-idle.result s)
    | inr above ↦ none_above c.without-2.result s (omega arith) above ∙ sym (ap (λ (b : Bool). b && has_slot c.idle_spares-idle.result s) (none_above c.begin_update-lost.result s (omega arith) above))
  ]
    where
      twice : (a b : Bool) → (a && not (a && not b)) ≡ (a && b)
      twice true true = refl
      twice true false = refl
      twice false b = refl

  module _ (tell : g.B.Bank.tells) (scope : Scope) (there : scope.backup ≡ Some c.args.backup) (array : scope.uuid ≡ c.args.uuid.now) where
    sixteen : length scope.uuid ≡ 16
    sixteen = ap (λ (l : List ℕ). length l) array ∙ c.told-uuid

    headed : IsHeaded c.args.backup (cleared_header scope.uuid) (disk first_given.start before) (disk first_given.start mid)
    headed = subst (λ (u : List ℕ). IsHeaded c.args.backup (cleared_header u) (disk first_given.start before) (disk first_given.start mid)) (sym array) (c.in-Ok.ensures.stored tell)

pub returns-clause-answer : goal.returns-clause-answer
returns-clause-answer g c = λ why is. absurd (cc)

pub returns-clause-refused : goal.returns-clause-refused
returns-clause-refused g c = λ why is. absurd (cc)

pub returns-clause-begun : goal.returns-clause-begun
returns-clause-begun g c = λ none. record { mid = mid g c; cleared = λ tell. c.in-Ok.ensures.did.all tell cc; update = done g c }

pub returns-clause-newest : goal.returns-clause-newest
returns-clause-newest g c = λ none. c.begin_update-lost.ensures.newest

pub returns-clause-taken : goal.returns-clause-taken
returns-clause-taken g c = λ none. c.begin_update-lost.ensures.taken

pub returns-clause-moved : goal.returns-clause-moved
returns-clause-moved g c = λ none. new-moved (first_given g c) c.args.members.now (beginning c.args.members.now c.args.to.now) c.begin_update-lost.new.members (made g c)

pub returns-clause-failed : goal.returns-clause-failed
returns-clause-failed g c = λ none.
    begun-failed (first_given g c) c.args.members.now c.args.to.now c.requires.still (roles g c) c.requires.in_force c.requires.level c.requires.placed c.requires.free c.begin_update-lost.new.members (done g c)
    c.begin_update-lost.ensures.less c.begin_update-lost.ensures.fit c.check_counts.ensures.own c.begin_update-lost.result c.idle_spares-idle.result c.without-2.result
    (g.B.Bank.faults_of c.args.bank.now) (g.B.Bank.faults_of c.clear_section.new.bank) (g.B.Bank.faults_of c.begin_update-lost.new.bank)
    c.clear_section.ensures.cause.never_falls c.begin_update-lost.ensures.counts c.begin_update-lost.ensures.losses c.begin_update-lost.ensures.result
    (λ s. subst (λ (k : ℕ). has_slot c.idle_spares-idle.result s ≡ is_idle_spare c.args.members.now.spares k c.args.to.now.disks s)
    (ap (λ (z : Shape). z.disks) c.shape_in-first.ensures) (c.idle_spares-idle.ensures s)) (told-is g c)

pub returns-clause-spares : goal.returns-clause-spares
returns-clause-spares g c = λ none.
    begun-spares (first_given g c) c.args.members.now c.args.to.now c.requires.still (roles g c) c.requires.in_force c.requires.level c.requires.placed c.requires.free c.begin_update-lost.new.members (done g c)
    c.begin_update-lost.ensures.less c.begin_update-lost.ensures.fit c.check_counts.ensures.own c.begin_update-lost.result c.idle_spares-idle.result c.without-2.result
    (g.B.Bank.faults_of c.args.bank.now) (g.B.Bank.faults_of c.clear_section.new.bank) (g.B.Bank.faults_of c.begin_update-lost.new.bank)
    c.clear_section.ensures.cause.never_falls c.begin_update-lost.ensures.counts c.begin_update-lost.ensures.losses c.begin_update-lost.ensures.result
    (λ s. subst (λ (k : ℕ). has_slot c.idle_spares-idle.result s ≡ is_idle_spare c.args.members.now.spares k c.args.to.now.disks s)
    (ap (λ (z : Shape). z.disks) c.shape_in-first.ensures) (c.idle_spares-idle.ensures s)) (told-is g c)

pub returns-clause-free : goal.returns-clause-free
returns-clause-free g c = new-free (first_given g c) c.args.members.now (beginning c.args.members.now c.args.to.now) c.begin_update-lost.new.members (made g c)

pub returns-clause-named : goal.returns-clause-named
returns-clause-named g c = λ none live.
    let m = c.args.members.now in
    let n = c.begin_update-lost.new.members in
    let gives = gives-live (first_given g c) m c.args.to.now c.requires.still (roles g c) c.requires.in_force c.requires.level c.requires.placed c.requires.free in
    let was = live-before m n (beginning m c.args.to.now) gives (done g c).roles (done g c).spares live.0 live.1 in
    names-all (first_given g c) m (beginning m c.args.to.now) n (made g c)
    (begun-one (first_given g c) m c.args.to.now c.requires.still (roles g c) c.requires.in_force c.requires.level c.requires.placed c.requires.free n (done g c) c.begin_update-lost.ensures.less c.begin_update-lost.ensures.fit
    c.check_counts.ensures.own)
    c.check_entries.ensures
    ((done g c).named (live.0, was.0, live.2))

pub returns-clause-plain : goal.returns-clause-plain
returns-clause-plain g c = λ none tell scope there array.
    cleared-then scope c.args.backup (disk (first_given g c).start (before g c)) (disk (first_given g c).start (mid g c)) (disk (first_given g c).start (after g c)) there (sixteen g c tell scope there array)
    (headed g c tell scope there array) (((done g c).update.end tell).touched.elsewhere c.args.backup 0 (omega arith))

pub returns-clause-others : goal.returns-clause-others
returns-clause-others g c = λ tell s k other beside.
    others-updated (first_given g c) (done g c).update tell s k other
    ∙ present-kept (first_given g c) (before g c) (mid g c) s k
    (heading-kept c.args.backup (cleared_header c.args.uuid.now) (disk (first_given g c).start (before g c)) (disk (first_given g c).start (mid g c)) (at-end c.in-Ok.ensures.each_mark tell) s k beside)

pub returns-clause-bank : goal.returns-clause-bank
returns-clause-bank g c = record {
  same = c.begin_update-lost.ensures.given ∙ c.clear_section.ensures.given;
  grows = grows-then (grows-marks c.in-Ok.ensures.each_mark) (grows-marks (done g c).update.marks);
  counts = λ s. let first = c.clear_section.ensures.cause.never_falls s in let then = c.begin_update-lost.ensures.counts s in omega (arith, first, then);
}

pub returns-clause-rise : goal.returns-clause-rise
returns-clause-rise g c = record {
  left = c.begin_update-lost.ensures.rise.left;
  events = λ tell live. let late = c.begin_update-lost.ensures.rise.events tell live in let longer = c.in-Ok.ensures.each_mark.longer tell in omega (arith, late, longer);
}

pub returns-clause-kept : goal.returns-clause-kept
returns-clause-kept g c = λ why is. absurd (cc)

pub returns-clause-safe : goal.returns-clause-safe
returns-clause-safe g c = λ none tell world told more room live is former with-plan gone gone' carried safe.
    let given = first_given g c in
    let m = c.args.members.now in
    let to = c.args.to.now in
    let marks = marks-of world.scope given.start (before g c) (mid g c) c.args.backup c.args.uuid.now (disk given.start (before g c)) tell is.array c.in-Ok.ensures.each_mark in
    let long = sixteen g c tell world.scope is.backup is.array in
    let cleared = cleared-then world.scope c.args.backup (disk given.start (before g c)) (disk given.start (mid g c)) (disk given.start (mid g c)) is.backup long (headed g c tell world.scope is.backup is.array) (inl refl) in
    let steady = steady-before (OpensFit world) world.scope given told m c.args.backup (before g c) (mid g c) is.backup long c.requires.still live marks safe in
    change-then (OpensFit world) world.scope given told more c.begin_update-lost.new.members (before g c) (mid g c) (after g c)
    (views-cleared (OpensFit world) world.scope given told m c.args.backup (before g c) (mid g c) is.backup long c.requires.still live marks safe)
    (subst
    (λ (b : Given). ArePlaced world.scope b (planned_view m (beginning m to) m.lost) → IsCleared world.scope (disk b.start (mid g c))
    → IsToldOf world.scope (planned_view m (beginning m to) m.lost) (disk b.start (mid g c)) told more
    → IsSafeOver world b told m (mid g c) → IsSafeChange (OpensFit world) world.scope b told more c.begin_update-lost.new.members (mid g c) (after g c)) c.clear_section.ensures.given
    (λ placed' cleared' told' safe'. c.begin_update-lost.ensures.safe tell world told more (room-longer m (before g c) (mid g c) (after g c) (c.in-Ok.ensures.each_mark.longer tell) room) placed' cleared' told' gone gone' carried safe')
    (begun-placed given m to c.requires.still (roles g c) c.requires.in_force c.requires.level c.requires.placed c.requires.free world.scope c.args.backup c.args.uuid.now is former c.check_counts.ensures.own)
    cleared
    (begun-told given m to c.requires.still (roles g c) c.requires.in_force c.requires.level c.requires.placed c.requires.free (OpensFit world) world.scope told more (disk given.start (before g c)) (disk given.start (mid g c)) steady cleared
    with-plan)
    (inl (steady-then (OpensFit world) world.scope given told m c.args.backup (before g c) (mid g c) is.backup long c.requires.still live marks safe)))
