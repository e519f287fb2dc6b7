use Rattle.std.proofs.Common.{◌≡◌, ◌≤◌, ◌&&◌, ℕ, not, refl, sym, ◌∙◌, ap, subst, min, ◌+◌, ◌-◌, arith, List, get_or}
use Rattle.std.specs.Prelude.{◌^◌}
use Rattle.sb_update.specs.raid_types_Shapes.{has_slot}
use Rattle.sb_update.specs.raid_types_the_Role.{Role}
use Rattle.sb_update.specs.raid_types_the_Role_TheVariants.{Missing}
use Rattle.sb_update.specs.bank_Given.{Given}
use Rattle.sb_update.specs.sb_specs_the_Change.{Change}
use Rattle.sb_update.specs.sb_specs_the_Members.{Members}
use Rattle.sb_update.specs.sb_specs_Reading.{role_count, shape_of}
use Rattle.sb_update.specs.sb_specs_Reads.{SaysSame}
use Rattle.sb_update.specs.sb_specs_Update.{IsRoleGive, give_of}
use Rattle.sb_update.specs.sb_specs_Updating.{AreLosses, planned_newest}
use Rattle.sb_update.specs.sb_specs_Outcome.{with_added, live_set, AreLive, AreGivesOfLive}
use Rattle.crash_reshape_laws.specs.history_Sound.{OpensFit}
use Rattle.crash_reshape_laws.specs.crash_views_Regions.{ArePlaced}
use Rattle.crash_reshape_laws.proofs.crash_views_Alike.{backup-alike}
use Rattle.crash_reshape_laws.specs.crash_safety_laws_Changing.{IsChanged}
use Rattle.crash_reshape_laws.specs.crash_safety_laws_Kinds.{IsTaking}
use Rattle.sb_update.proofs.raid_layout_Limits.{limited}
use Rattle.crash_reshape_laws.specs.crash_safety_laws_Updates.{IsLessView, planned_view}
use Rattle.crash_reshape_laws.proofs.Begin.{begin-safe}
use Rattle.crash_reshape_laws.proofs.crash_safety_laws_CalledLaws.{changed-by}
use Rattle.crash_reshape_laws.proofs.crash_safety_laws_ChangeSafe.{told-changed, risen-changed}
use Rattle.crash_reshape_laws.proofs.crash_safety_laws_ChangeViews.{new-less, later-says, later-fits}
use Rattle.crash_reshape_laws.proofs.crash_safety_laws_FitKinds.{taking-live}
use Rattle.crash_reshape_laws.proofs.crash_safety_laws_PlannedRoles.{count-planned}
use Rattle.crash_reshape_laws.proofs.crash_safety_laws_PlansLose.{plans-lose}
use Rattle.crash_reshape_laws.proofs.LessPlaced.{less-placed}
use Rattle.crash_reshape_laws.proofs.PlanPlaced.{planned-placed}
use Rattle.reshape_sb_updates.specs.Beginning.{beginning}
use Rattle.reshape_sb_updates.proofs.MoreLess.{less-then}
use Rattle.reshape_sb_updates.proofs.Taken.{taking-one, taken-whole}
use Rattle.reshape_sb_updates.proofs.BegunPlan.{begun-alike, few, new-count, given-roles, taking, is-beginning, is-begun, planned-begun-is, planned-fits-is, new-roles-are-taken}
use Rattle.reshape_sb_updates.proofs.beginning.begin_update.Given.{Over}
use Rattle.reshape_sb_updates.proofs.beginning.begin_update.Goals.{After-update}
use Rattle.reshape_sb_updates.proofs.beginning.begin_update.Goals as goal

pub update-requires-clause-roles : goal.update-requires-clause-roles
update-requires-clause-roles g c = (let same = c.requires.roles in let most = (limited (shape_of c.args.members.now.newest) c.requires.in_force.old_valid).most in omega (arith, same, most))

pub update-requires-clause-count : goal.update-requires-clause-count
update-requires-clause-count g c =
    subst (λ (ch : Change). role_count ch.shared ≤ 16) (sym c.beginning-change.ensures) (few c.args.members.now c.args.to.now c.requires.still c.requires.roles c.requires.in_force c.requires.level)

pub update-requires-clause-gives : goal.update-requires-clause-gives
update-requires-clause-gives g c = λ s below.
    subst (λ (ch : Change). IsRoleGive (give_of ch.gives s)) (sym c.beginning-change.ensures) (given-roles c.args.members.now c.args.to.now c.requires.still c.requires.roles c.requires.in_force c.requires.level s)

pub update-requires-clause-alone : goal.update-requires-clause-alone
update-requires-clause-alone g c = subst (λ (ch : Change). AreGivesOfLive c.args.members.now ch) (sym c.beginning-change.ensures)
    (taking-live c.args.members.now (beginning c.args.members.now c.args.to.now) (taking c.args.members.now c.args.to.now c.requires.still c.requires.roles c.requires.in_force c.requires.level))

module _ (g : Over) (c : After-update g) where
  abbrev m : Members
  m = c.args.members.now

  abbrev n : Members
  n = c.update.new.members

  abbrev ch : Change
  ch = beginning c.args.members.now c.args.to.now

  done : IsChanged g.B.Bank.tells (g.B.Bank.given c.args.bank.now) ch m n (g.B.Bank.tape c.args.bank.now) (g.B.Bank.tape c.update.new.bank)
  done =
      let did = c.update.ensures in
      changed-by g.B.Bank.tells (g.B.Bank.given c.args.bank.now) c.beginning-change.result ch m n (g.B.Bank.tape c.args.bank.now)
      (g.B.Bank.tape c.update.new.bank) (g.B.Bank.faults_of c.args.bank.now) (g.B.Bank.faults_of c.update.new.bank) c.beginning-change.ensures refl (record {
        update = did.update;
        named = did.named;
        newest = did.newest;
        turns = did.turns;
        turned = did.turned;
        rise = did.rise;
        own = did.own;
        roles = did.roles;
        spares = did.spares;
        alive = subst (λ (b : Given). AreLive b n) did.given did.live;
        losses = did.losses;
      })

  takes : IsTaking m ch
  takes = taking m c.args.to.now c.requires.still c.requires.roles c.requires.in_force c.requires.level

  says : SaysSame (planned_newest ch.shared m.newest) n.newest
  says = later-says (planned_newest ch.shared m.newest) n.newest done.newest

  less : IsLessView (planned_view m ch m.lost) n
  less = less-then (planned_view m ch m.lost) (planned_view m ch n.lost) n (plans-lose m ch m.lost n.lost done.stay (taking-one m ch takes))
      (new-less m n ch (taking-live m ch takes) done.newest done.own done.roles done.spares)

pub returns-clause-begun : goal.returns-clause-begun
returns-clause-begun g c = done g c

pub returns-clause-newest : goal.returns-clause-newest
returns-clause-newest g c =
    begun-alike c.args.members.now.newest (planned_newest (ch g c).shared c.args.members.now.newest) c.update.new.members.newest c.args.to.now (says g c)
    (planned-begun-is c.args.members.now c.args.to.now c.requires.still c.requires.roles c.requires.in_force c.requires.level)

pub returns-clause-fit : goal.returns-clause-fit
returns-clause-fit g c = later-fits (planned_newest (ch g c).shared c.args.members.now.newest) c.update.new.members.newest (done g c).newest
    (planned-fits-is c.args.members.now c.args.to.now c.requires.still c.requires.roles c.requires.in_force c.requires.level)

pub returns-clause-events : goal.returns-clause-events
returns-clause-events g c =
    subst (λ (ch : Change). c.update.new.members.lost ≡ (with_added c.args.members.now ch.added).lost → c.update.new.members.newest.events ≡ min (c.args.members.now.newest.events + 1) (2 ^ 64 - 1)) c.beginning-change.ensures c.update.ensures.events

pub returns-clause-beginning : goal.returns-clause-beginning
returns-clause-beginning g c = is-beginning c.args.members.now c.args.to.now c.requires.still c.requires.roles c.requires.in_force c.requires.level

pub returns-clause-plan : goal.returns-clause-plan
returns-clause-plan g c = is-begun c.args.members.now c.args.to.now c.requires.still c.requires.roles c.requires.in_force c.requires.level

pub returns-clause-taken : goal.returns-clause-taken
returns-clause-taken g c = λ role from below.
    let t = new-roles-are-taken c.args.members.now c.args.to.now c.requires.still c.requires.roles c.requires.in_force c.requires.level c.requires.spares role from below in
    let count = new-count c.args.members.now c.args.to.now c.requires.still c.requires.roles c.requires.in_force c.requires.level in (
      t.0,
      t.1.spare,
      λ kept. ap (λ (l : List Role). get_or l role Missing) (done g c).roles
          ∙ taken-whole c.args.members.now (ch g c) (takes g c) c.update.new.members.lost (done g c).stay t.0 role t.1.small (omega (arith, count, below)) kept t.1.gets,
    )

pub returns-clause-less : goal.returns-clause-less
returns-clause-less g c = less g c

pub returns-clause-placed : goal.returns-clause-placed
returns-clause-placed g c scope placed there given =
    let m = c.args.members.now in
    let plan = planned_view m (ch g c) m.lost in
    subst (λ (b : Given). ArePlaced scope b c.update.new.members) (sym c.update.ensures.given)
    (less-placed scope (g.B.Bank.given c.args.bank.now) plan c.update.new.members (less g c)
    (planned-placed scope (g.B.Bank.given c.args.bank.now) m (ch g c) m.lost placed refl (count-planned m (ch g c))
    (planned-fits-is m c.args.to.now c.requires.still c.requires.roles c.requires.in_force c.requires.level)
    (backup-alike (planned_newest (ch g c).shared m.newest) c.update.new.members.newest (says g c) scope ∙ there) given))

pub returns-clause-rise : goal.returns-clause-rise
returns-clause-rise g c = risen-changed (done g c) refl (taking-live c.args.members.now (ch g c) (takes g c))

pub returns-clause-result : goal.returns-clause-result
returns-clause-result g c =
    subst (λ (ch : Change). (s : ℕ) → has_slot c.update.result s ≡ (has_slot c.update.new.members.lost s && not (has_slot (with_added c.args.members.now ch.added).lost s))) c.beginning-change.ensures c.update.ensures.result

pub returns-clause-losses : goal.returns-clause-losses
returns-clause-losses g c =
    subst (λ (ch : Change). AreLosses (live_set c.args.members.now ch) (with_added c.args.members.now ch.added).lost c.update.new.members.lost (g.B.Bank.faults_of c.args.bank.now) (g.B.Bank.faults_of c.update.new.bank))
    c.beginning-change.ensures c.update.ensures.losses

pub returns-clause-safe : goal.returns-clause-safe
returns-clause-safe g c = λ tell world told more room placed cleared tells gone gone' carried safe.
    begin-safe (OpensFit world) world.scope (g.B.Bank.given c.args.bank.now) told more (ch g c) c.args.members.now c.update.new.members (g.B.Bank.tape c.args.bank.now) (g.B.Bank.tape c.update.new.bank)
    (told-changed tell (done g c)) (is-beginning c.args.members.now c.args.to.now c.requires.still c.requires.roles c.requires.in_force c.requires.level) room placed
    cleared tells gone gone' carried safe
