use Rattle.std.proofs.Common.{◌≡◌, ◌≤◌, ◌&&◌, ℕ, not, refl, sym, subst, min, ◌+◌, ◌-◌, arith}
use Rattle.std.specs.Prelude.{◌^◌}
use Rattle.sb_update.specs.bank_Given.{Given}
use Rattle.sb_update.specs.sb_specs_the_Change.{Change}
use Rattle.sb_update.specs.sb_specs_Reading.{role_count}
use Rattle.sb_update.specs.sb_specs_Update.{IsRoleGive, give_of}
use Rattle.sb_update.specs.sb_specs_Updating.{AreLosses}
use Rattle.sb_update.specs.sb_specs_Outcome.{with_added, live_set, AreLive, AreGivesOfLive}
use Rattle.sb_update.specs.raid_types_Shapes.{has_slot}
use Rattle.crash_reshape_laws.specs.history_Sound.{OpensFit}
use Rattle.crash_reshape_laws.specs.crash_views_Regions.{ArePlaced}
use Rattle.crash_reshape_laws.specs.crash_views_Windows.{moved_past}
use Rattle.crash_reshape_laws.specs.crash_safety_laws_Kinds.{recording}
use Rattle.crash_reshape_laws.specs.crash_safety_laws_Changing.{IsChanged}
use Rattle.crash_reshape_laws.specs.crash_safety_laws_Updates.{IsLessView, planned_view}
use Rattle.crash_reshape_laws.proofs.crash_safety_laws_CalledLaws.{changed-by}
use Rattle.crash_reshape_laws.proofs.crash_safety_laws_ChangeSafe.{told-changed, risen-changed}
use Rattle.crash_reshape_laws.proofs.crash_safety_laws_ChangeViews.{new-less}
use Rattle.crash_reshape_laws.proofs.crash_safety_laws_Kept.{give_of-same, kept-less}
use Rattle.crash_reshape_laws.proofs.crash_safety_laws_KeptSafe.{record-safe}
use Rattle.crash_reshape_laws.proofs.LessPlaced.{less-placed}
use Rattle.reshape_sb_updates.proofs.MoreLess.{less-then}
use Rattle.reshape_sb_updates.proofs.position.record_position.Given.{Over}
use Rattle.reshape_sb_updates.proofs.position.record_position.Goals.{After-update}
use Rattle.reshape_sb_updates.proofs.position.record_position.Goals as goal

pub update-requires-clause-count : goal.update-requires-clause-count
update-requires-clause-count g c = subst (λ (ch : Change). role_count ch.shared ≤ 16) (sym c.recording-change.ensures) (let same = c.requires.roles in let few = c.requires.few in omega (arith, same, few))

pub update-requires-clause-gives : goal.update-requires-clause-gives
update-requires-clause-gives g c = λ s below. subst (λ (ch : Change). IsRoleGive (give_of ch.gives s)) (sym c.recording-change.ensures) (rw (give_of-same 32 s) tt)

pub update-requires-clause-alone : goal.update-requires-clause-alone
update-requires-clause-alone g c = subst (λ (ch : Change). AreGivesOfLive c.args.members.now ch) (sym c.recording-change.ensures) (λ slot none. give_of-same 32 slot)

module _ (g : Over) (c : After-update g) where
  done : IsChanged g.B.Bank.tells (g.B.Bank.given c.args.bank.now) (recording c.args.span.now c.args.members.now) c.args.members.now c.update.new.members (g.B.Bank.tape c.args.bank.now) (g.B.Bank.tape c.update.new.bank)
  done =
      let did = c.update.ensures in
      changed-by g.B.Bank.tells (g.B.Bank.given c.args.bank.now) c.recording-change.result (recording c.args.span.now c.args.members.now) c.args.members.now c.update.new.members (g.B.Bank.tape c.args.bank.now)
      (g.B.Bank.tape c.update.new.bank) (g.B.Bank.faults_of c.args.bank.now) (g.B.Bank.faults_of c.update.new.bank) c.recording-change.ensures refl (record {
        update = did.update;
        named = did.named;
        newest = did.newest;
        turns = did.turns;
        turned = did.turned;
        rise = did.rise;
        own = did.own;
        roles = did.roles;
        spares = did.spares;
        alive = subst (λ (b : Given). AreLive b c.update.new.members) did.given did.live;
        losses = did.losses;
      })

  live : AreGivesOfLive c.args.members.now (recording c.args.span.now c.args.members.now)
  live slot none = give_of-same 32 slot

  less : IsLessView (moved_past c.args.span.now c.args.members.now) c.update.new.members
  less =
      let m = c.args.members.now in
      let change = recording c.args.span.now m in
      let n = c.update.new.members in
      less-then (moved_past c.args.span.now m) (planned_view m change n.lost) n (kept-less m change n.lost (λ s. give_of-same 32 s) c.requires.roles) (new-less m n change live done.newest done.own done.roles done.spares)

pub returns-clause-recorded : goal.returns-clause-recorded
returns-clause-recorded g c = done g c

pub returns-clause-newest : goal.returns-clause-newest
returns-clause-newest g c = (less g c).array

pub returns-clause-events : goal.returns-clause-events
returns-clause-events g c =
    let m = c.args.members.now in
    subst (λ (ch : Change). c.update.new.members.lost ≡ (with_added m ch.added).lost → c.update.new.members.newest.events ≡ min (m.newest.events + 1) (2 ^ 64 - 1)) c.recording-change.ensures c.update.ensures.events

pub returns-clause-less : goal.returns-clause-less
returns-clause-less g c = less g c

pub returns-clause-placed : goal.returns-clause-placed
returns-clause-placed g c scope placed =
    subst (λ (b : Given). ArePlaced scope b c.update.new.members) (sym c.update.ensures.given)
    (less-placed scope (g.B.Bank.given c.args.bank.now) (moved_past c.args.span.now c.args.members.now) c.update.new.members (less g c) placed)

pub returns-clause-rise : goal.returns-clause-rise
returns-clause-rise g c = risen-changed (done g c) refl (live g c)

pub returns-clause-result : goal.returns-clause-result
returns-clause-result g c =
    subst (λ (ch : Change). (s : ℕ) → has_slot c.update.result s ≡ (has_slot c.update.new.members.lost s && not (has_slot (with_added c.args.members.now ch.added).lost s))) c.recording-change.ensures c.update.ensures.result

pub returns-clause-losses : goal.returns-clause-losses
returns-clause-losses g c =
    let m = c.args.members.now in
    subst (λ (ch : Change). AreLosses (live_set m ch) (with_added m ch.added).lost c.update.new.members.lost (g.B.Bank.faults_of c.args.bank.now) (g.B.Bank.faults_of c.update.new.bank)) c.recording-change.ensures c.update.ensures.losses

pub returns-clause-safe : goal.returns-clause-safe
returns-clause-safe g c = λ tell world told room gone right safe.
    record-safe (OpensFit world) world.scope (g.B.Bank.given c.args.bank.now) told c.args.span.now c.args.members.now c.update.new.members (g.B.Bank.tape c.args.bank.now) (g.B.Bank.tape c.update.new.bank)
    (told-changed tell (done g c)) room gone right safe
