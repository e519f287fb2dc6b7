use Rattle.std.proofs.Common.{◌≡◌, ◌≤◌, ◌<◌, ◌&&◌, ℕ, true, not, nat_lt, length, inr, refl, sym, ◌∙◌, ap, subst, min, ◌+◌, ◌-◌, arith, List}
use Rattle.std.specs.Prelude.{◌^◌}
use Rattle.sb_update.specs.raid_types_Shapes.{has_slot}
use Rattle.sb_update.specs.raid_types_the_Role.{Role}
use Rattle.sb_update.specs.bank_Given.{Given}
use Rattle.sb_update.specs.bank_Tape.{disk}
use Rattle.sb_update.specs.sb_specs_the_Change.{Change}
use Rattle.sb_update.specs.sb_specs_the_Members.{Members}
use Rattle.sb_update.specs.sb_specs_Reading.{role_count, holder}
use Rattle.sb_update.specs.sb_specs_Reads.{SaysSame, has_spare}
use Rattle.sb_update.specs.sb_specs_Update.{IsRoleGive, give_of}
use Rattle.sb_update.specs.sb_specs_Updating.{AreLosses, planned_newest}
use Rattle.sb_update.specs.sb_specs_Outcome.{with_added, live_set, AreLive, AreGivesOfLive}
use Rattle.crash_reshape_laws.specs.history_Sound.{OpensFit}
use Rattle.crash_reshape_laws.specs.crash_views_Regions.{ArePlaced}
use Rattle.crash_reshape_laws.specs.crash_safety_laws_Changing.{IsChanged}
use Rattle.sb_update.proofs.sb_specs_ValidFields.{few-roles}
use Rattle.std.proofs.lemmas.Bool.Decides.{nat_tests}
use Rattle.crash_reshape_laws.specs.crash_safety_laws_Updates.{IsLessView, planned_view}
use Rattle.crash_reshape_laws.proofs.crash_safety_laws_CalledLaws.{changed-by}
use Rattle.crash_reshape_laws.proofs.crash_safety_laws_ChangeSafe.{told-changed, risen-changed}
use Rattle.crash_reshape_laws.proofs.crash_safety_laws_PlansLose.{plans-lose}
use Rattle.crash_reshape_laws.proofs.LessPlaced.{less-placed}
use Rattle.crash_reshape_laws.specs.crash_safety_laws_Kinds.{IsDropping}
use Rattle.crash_reshape_laws.proofs.Begin.{flushed-change-safe}
use Rattle.crash_reshape_laws.proofs.crash_safety_laws_ChangeSafe.{safe-change}
use Rattle.crash_reshape_laws.proofs.crash_safety_laws_ChangeViews.{new-less, later-says, later-fits}
use Rattle.crash_reshape_laws.proofs.crash_safety_laws_FitKinds.{dropping-is-fit, dropping-live}
use Rattle.crash_reshape_laws.proofs.crash_safety_laws_KeptSafe.{steady-right, told-plan}
use Rattle.crash_reshape_laws.proofs.GrownLaws.{ends}
use Rattle.crash_reshape_laws.proofs.sb_read_laws_SaidSlots.{has-slots_below}
use Rattle.sb_update.specs.sb_specs_Update.{is_planned_spare}
use Rattle.sb_update.proofs.raid_types_Tabulated.{length-tabulate}
use Rattle.sb_update.specs.sb_specs_Outcome.{planned_state}
use Rattle.reshape_sb_updates.specs.Ending.{ending}
use Rattle.reshape_sb_updates.proofs.EndedPlan.{ended-alike, count-is, few, disks-are, disks-below, dropped-roles, dropped-spare, dropping, dropping-one, planned-ended-is, planned-fits-is, is-ended, plan-placed-is, without-is}
use Rattle.reshape_sb_updates.proofs.MoreLess.{less-then}
use Rattle.reshape_sb_updates.proofs.ending.end_update.Given.{Over}
use Rattle.reshape_sb_updates.proofs.ending.end_update.Goals.{After-update}
use Rattle.reshape_sb_updates.proofs.ending.end_update.Goals as goal

pub update-requires-clause-roles : goal.update-requires-clause-roles
update-requires-clause-roles g c = (let same = c.requires.roles in let most = few-roles c.args.members.now.newest c.requires.fit.valid in omega (arith, same, most))

pub ending-change-requires-clause-few : goal.ending-change-requires-clause-few
ending-change-requires-clause-few g c = (let same = c.requires.roles in let most = few-roles c.args.members.now.newest c.requires.fit.valid in omega (arith, same, most))

pub ending-change-requires-clause-disks : goal.ending-change-requires-clause-disks
ending-change-requires-clause-disks g c = disks-below c.args.members.now c.requires.active c.requires.fit c.requires.roles c.requires.small c.requires.whole

pub update-requires-clause-count : goal.update-requires-clause-count
update-requires-clause-count g c =
    subst (λ (ch : Change). role_count ch.shared ≤ 16) (sym c.ending-change.ensures) (few c.args.members.now c.requires.active c.requires.fit c.requires.roles c.requires.small c.requires.whole)

pub update-requires-clause-gives : goal.update-requires-clause-gives
update-requires-clause-gives g c = λ s below.
    subst (λ (ch : Change). IsRoleGive (give_of ch.gives s)) (sym c.ending-change.ensures) (dropped-roles c.args.members.now c.requires.active c.requires.fit c.requires.roles c.requires.small c.requires.whole s)

pub update-requires-clause-alone : goal.update-requires-clause-alone
update-requires-clause-alone g c = subst (λ (ch : Change). AreGivesOfLive c.args.members.now ch) (sym c.ending-change.ensures)
    (dropping-live c.args.members.now (ending c.args.members.now) (dropping c.args.members.now c.requires.active c.requires.fit c.requires.roles c.requires.small c.requires.whole))

module _ (g : Over) (c : After-update g) where
  abbrev m : Members
  m = c.args.members.now

  abbrev n : Members
  n = c.update.new.members

  abbrev ch : Change
  ch = ending c.args.members.now

  done : IsChanged g.B.Bank.tells (g.B.Bank.given c.args.bank.now) ch m n (g.B.Bank.tape c.args.bank.now) (g.B.Bank.tape c.update.new.bank)
  done =
      let did = c.update.ensures in
      changed-by g.B.Bank.tells (g.B.Bank.given c.args.bank.now) c.ending-change.result ch m n (g.B.Bank.tape c.args.bank.now)
      (g.B.Bank.tape c.update.new.bank) (g.B.Bank.faults_of c.args.bank.now) (g.B.Bank.faults_of c.update.new.bank) c.ending-change.ensures refl (record {
        update = did.update;
        named = did.named;
        newest = did.newest;
        turns = did.turns;
        turned = did.turned;
        rise = did.rise;
        own = did.own;
        roles = did.roles;
        spares = did.spares;
        alive = subst (λ (b : Given). AreLive b n) did.given did.live;
        losses = did.losses;
      })

  drops : IsDropping m ch
  drops = dropping m c.requires.active c.requires.fit c.requires.roles c.requires.small c.requires.whole

  says : SaysSame (planned_newest ch.shared m.newest) n.newest
  says = later-says (planned_newest ch.shared m.newest) n.newest done.newest

  less : IsLessView (planned_view m ch m.lost) n
  less = less-then (planned_view m ch m.lost) (planned_view m ch n.lost) n (plans-lose m ch m.lost n.lost done.stay (dropping-one m c.requires.active c.requires.fit c.requires.roles c.requires.small c.requires.whole))
      (new-less m n ch (dropping-live m ch drops) done.newest done.own done.roles done.spares)

pub returns-clause-ended : goal.returns-clause-ended
returns-clause-ended g c = done g c

pub returns-clause-newest : goal.returns-clause-newest
returns-clause-newest g c =
    ended-alike c.args.members.now.newest (planned_newest (ch g c).shared c.args.members.now.newest) c.update.new.members.newest (says g c)
    (planned-ended-is c.args.members.now c.requires.active c.requires.fit c.requires.roles c.requires.small c.requires.whole)

pub returns-clause-fit : goal.returns-clause-fit
returns-clause-fit g c = later-fits (planned_newest (ch g c).shared c.args.members.now.newest) c.update.new.members.newest (done g c).newest
    (planned-fits-is c.args.members.now c.requires.active c.requires.fit c.requires.roles c.requires.small c.requires.whole)

pub returns-clause-events : goal.returns-clause-events
returns-clause-events g c =
    subst (λ (ch : Change). c.update.new.members.lost ≡ (with_added c.args.members.now ch.added).lost → c.update.new.members.newest.events ≡ min (c.args.members.now.newest.events + 1) (2 ^ 64 - 1)) c.ending-change.ensures c.update.ensures.events

pub returns-clause-dropping : goal.returns-clause-dropping
returns-clause-dropping g c = drops g c

pub returns-clause-plan : goal.returns-clause-plan
returns-clause-plan g c = is-ended c.args.members.now c.requires.active c.requires.fit c.requires.roles c.requires.small c.requires.whole c.requires.last

pub returns-clause-roles : goal.returns-clause-roles
returns-clause-roles g c =
    ap (λ (l : List Role). length l) (done g c).roles ∙ length-tabulate (role_count (ch g c).shared) (planned_state c.args.members.now.roles (ch g c).gives c.update.new.members.lost) ∙ count-is c.args.members.now.newest c.requires.active c.requires.fit

pub returns-clause-dropped : goal.returns-clause-dropped
returns-clause-dropped g c = λ role slot from held kept.
    let m = c.args.members.now in
    let disks = disks-are m c.requires.active c.requires.fit c.requires.roles c.requires.small c.requires.whole in
    let gets = dropped-spare m c.requires.active c.requires.fit c.requires.roles c.requires.small c.requires.whole slot role (omega (arith, disks, from)) (ap holder held) in
    let lt = c.requires.small role slot (ap holder held) in
    let there : nat_lt slot 32 ≡ true = lt-is slot 32 lt in
    ap (λ (l : List ℕ). has_spare l slot) (done g c).spares
    ∙ has-slots_below (λ s. not (has_slot c.update.new.members.lost s) && is_planned_spare m.spares (ch g c).added (give_of (ch g c).gives s) s) slot 32
    ∙ (λ i. there i && (not (kept i) && is_planned_spare m.spares (ch g c).added (gets i) slot))
  where
    lt-is : (a b : ℕ) → a < b → nat_lt a b ≡ true
    lt-is a b lt = grind (arith, nat_tests)

pub returns-clause-less : goal.returns-clause-less
returns-clause-less g c = less g c

pub returns-clause-placed : goal.returns-clause-placed
returns-clause-placed g c scope placed =
    let m = c.args.members.now in
    subst (λ (b : Given). ArePlaced scope b c.update.new.members) (sym c.update.ensures.given)
    (less-placed scope (g.B.Bank.given c.args.bank.now) (planned_view m (ch g c) m.lost) c.update.new.members (less g c)
    (plan-placed-is m c.requires.active c.requires.fit c.requires.roles c.requires.small c.requires.whole scope (g.B.Bank.given c.args.bank.now) m.lost placed))

pub returns-clause-rise : goal.returns-clause-rise
returns-clause-rise g c = risen-changed (done g c) refl (dropping-live c.args.members.now (ch g c) (drops g c))

pub returns-clause-result : goal.returns-clause-result
returns-clause-result g c =
    subst (λ (ch : Change). (s : ℕ) → has_slot c.update.result s ≡ (has_slot c.update.new.members.lost s && not (has_slot (with_added c.args.members.now ch.added).lost s))) c.ending-change.ensures c.update.ensures.result

pub returns-clause-losses : goal.returns-clause-losses
returns-clause-losses g c =
    subst (λ (ch : Change). AreLosses (live_set c.args.members.now ch) (with_added c.args.members.now ch.added).lost c.update.new.members.lost (g.B.Bank.faults_of c.args.bank.now) (g.B.Bank.faults_of c.update.new.bank))
    c.ending-change.ensures c.update.ensures.losses

pub returns-clause-safe : goal.returns-clause-safe
returns-clause-safe g c = λ tell world told more room placed without tells way gone gone' carried safe.
    let m = c.args.members.now in
    let given = g.B.Bank.given c.args.bank.now in
    let before = g.B.Bank.tape c.args.bank.now in
    let after = g.B.Bank.tape c.update.new.bank in
    let so = told-changed tell (done g c) in
    safe-change (OpensFit world) world.scope given told more (ch g c) m c.update.new.members before after so refl (dropping-live m (ch g c) (drops g c)) room (λ steady. record {
      fit = dropping-is-fit world.scope steady.former m (ch g c) (disk given.start before) steady.since (drops g c);
      right = ends (OpensFit world) world.scope given told more m (planned_view m (ch g c) m.lost) (disk given.start before)
          (is-ended m c.requires.active c.requires.fit c.requires.roles c.requires.small c.requires.whole c.requires.last m.lost (without-is m c.requires.active c.requires.fit c.requires.roles c.requires.small c.requires.whole world.scope given m.lost placed without))
          (plan-placed-is m c.requires.active c.requires.fit c.requires.roles c.requires.small c.requires.whole world.scope given m.lost placed) tells way
          (steady-right (OpensFit world) world.scope given told m (disk given.start before) steady gone);
      gone = told-plan more given (ch g c) m c.update.new.members before after so gone';
      carried = carried;
    }) safe

pub returns-clause-flushed : goal.returns-clause-flushed
returns-clause-flushed g c = λ tell world told more room gone carried held list flushed safe.
    flushed-change-safe (OpensFit world) world.scope (g.B.Bank.given c.args.bank.now) told more (ch g c) c.args.members.now c.update.new.members (g.B.Bank.tape c.args.bank.now) (g.B.Bank.tape c.update.new.bank) held list
    (told-changed tell (done g c)) (inr (drops g c)) room gone carried flushed safe
