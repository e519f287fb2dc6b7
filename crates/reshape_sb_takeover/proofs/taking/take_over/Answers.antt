use Rattle.std.proofs.Common.{◌≡◌, ◌≤◌, ◌&&◌, inl, inr, ℕ, true, not, Bool, Some, refl, sym, ◌∙◌, ap, subst, arith}
use Rattle.std.proofs.lemmas.Bool.{cases_lt}
use Rattle.reshape_begin_end.specs.raid_types_Shapes.{has_slot}
use Rattle.reshape_begin_end.specs.bank_Given.{Given}
use Rattle.reshape_begin_end.specs.bank_Tape.{disk}
use Rattle.reshape_begin_end.proofs.raid_layout_Limits.{limited}
use Rattle.reshape_begin_end.specs.sb_specs_the_Change.{Change}
use Rattle.reshape_begin_end.specs.sb_specs_the_Members.{Members}
use Rattle.reshape_begin_end.specs.sb_specs_Reading.{role_count, holder}
use Rattle.reshape_begin_end.specs.sb_specs_Reads.{SaysSame, has_spare}
use Rattle.reshape_begin_end.specs.sb_specs_Update.{IsRoleGive, give_of}
use Rattle.reshape_begin_end.specs.sb_specs_Updating.{AreLosses, planned_newest}
use Rattle.reshape_begin_end.specs.sb_specs_Outcome.{with_added, live_set, AreLive, AreGivesOfLive}
use Rattle.reshape_begin_end.proofs.sb_specs_SlotSets.{none_above}
use Rattle.reshape_begin_end.proofs.sb_specs_ValidFields.{few-roles}
use Rattle.reshape_begin_end.proofs.sb_read_laws_SaidSlots.{spare-known}
use Rattle.reshape_begin_end.specs.history_Sound.{OpensFit}
use Rattle.reshape_begin_end.specs.history_World.{World}
use Rattle.reshape_begin_end.specs.crash_views_Regions.{ArePlaced}
use Rattle.reshape_begin_end.specs.crash_views_Views.{Ledger}
use Rattle.reshape_begin_end.specs.crash_safety_laws_Changing.{IsChanged}
use Rattle.reshape_begin_end.specs.crash_safety_laws_Steady.{IsSteady}
use Rattle.reshape_begin_end.specs.crash_safety_laws_Updates.{IsLessView, planned_view}
use Rattle.reshape_begin_end.proofs.crash_safety_laws_CalledLaws.{changed-by}
use Rattle.reshape_begin_end.proofs.crash_safety_laws_ChangeSafe.{told-changed, risen-changed, safe-change}
use Rattle.reshape_begin_end.proofs.crash_safety_laws_ChangeViews.{new-less, later-says, later-fits}
use Rattle.reshape_begin_end.proofs.crash_safety_laws_KeptSafe.{steady-right, told-plan}
use Rattle.reshape_begin_end.proofs.crash_safety_laws_PlannedRoles.{live-before}
use Rattle.reshape_begin_end.proofs.crash_safety_laws_PlansLose.{plans-lose}
use Rattle.reshape_begin_end.proofs.crash_safety_laws_Stretch.{seen-own}
use Rattle.reshape_begin_end.proofs.crash_reshape_laws_Takeovers.{takeovers}
use Rattle.reshape_begin_end.proofs.reshape_sb_updates_MoreLess.{less-then}
use Rattle.reshape_begin_end.proofs.array_members_MarkedLaws.{grows-marks, others-updated}
use Rattle.reshape_begin_end.proofs.Made.{IsMade, new-moved, new-free}
use Rattle.reshape_begin_end.proofs.Named.{names-all}
use Rattle.reshape_sb_takeover.specs.TakingOver.{CanTakeUp, taking_over}
use Rattle.reshape_sb_takeover.proofs.TakenPlan.{taken-alike, small, few, role-gives, live, fit-update, one-holder, planned-to, planned-fits, plan-is, plan-placed, made}
use Rattle.reshape_sb_takeover.proofs.TakenLosses.{taken-failed, spares-were}
use Rattle.reshape_sb_takeover.proofs.taking.take_over.Given.{Over}
use Rattle.reshape_sb_takeover.proofs.taking.take_over.Goals.{After-without}
use Rattle.reshape_sb_takeover.proofs.taking.take_over.Goals as goal

pub holders_then-held-requires-clause-slot : goal.holders_then-held-requires-clause-slot
holders_then-held-requires-clause-slot g c = small (g.B.Bank.given c.args.bank.now) c.args.members.now c.args.to.now c.args.slot c.requires.stands.placed c.requires.stands.free c.requires.still c.requires.valid c.requires.can

pub holders_then-held-requires-clause-few : goal.holders_then-held-requires-clause-few
holders_then-held-requires-clause-few g c = (let same = c.requires.stands.placed.roles in let most = few-roles c.args.members.now.newest c.requires.stands.placed.fit.valid in omega (arith, same, most))

pub holders_then-held-requires-clause-small : goal.holders_then-held-requires-clause-small
holders_then-held-requires-clause-small g c = λ role slot held. (c.requires.stands.placed.holders role slot held).small

pub taking_over-change-requires-clause-slot : goal.taking_over-change-requires-clause-slot
taking_over-change-requires-clause-slot g c = small (g.B.Bank.given c.args.bank.now) c.args.members.now c.args.to.now c.args.slot c.requires.stands.placed c.requires.stands.free c.requires.still c.requires.valid c.requires.can

pub taking_over-change-requires-clause-disks : goal.taking_over-change-requires-clause-disks
taking_over-change-requires-clause-disks g c = (let least = (limited c.args.to.now c.requires.valid).least in omega (arith, least))

pub update-lost-requires-clause-live : goal.update-lost-requires-clause-live
update-lost-requires-clause-live g c = c.requires.stands.placed.live

pub update-lost-requires-clause-roles : goal.update-lost-requires-clause-roles
update-lost-requires-clause-roles g c = (let same = c.requires.stands.placed.roles in let most = few-roles c.args.members.now.newest c.requires.stands.placed.fit.valid in omega (arith, same, most))

pub update-lost-requires-clause-count : goal.update-lost-requires-clause-count
update-lost-requires-clause-count g c = subst (λ (ch : Change). role_count ch.shared ≤ 16) (sym c.taking_over-change.ensures)
    (few (g.B.Bank.given c.args.bank.now) c.args.members.now c.args.to.now c.args.slot c.requires.stands.placed c.requires.stands.free c.requires.still c.requires.valid c.requires.can)

pub update-lost-requires-clause-gives : goal.update-lost-requires-clause-gives
update-lost-requires-clause-gives g c = λ s below. subst (λ (ch : Change). IsRoleGive (give_of ch.gives s)) (sym c.taking_over-change.ensures)
    (role-gives (g.B.Bank.given c.args.bank.now) c.args.members.now c.args.to.now c.args.slot c.requires.stands.placed c.requires.stands.free c.requires.still c.requires.valid c.requires.can s)

pub update-lost-requires-clause-alone : goal.update-lost-requires-clause-alone
update-lost-requires-clause-alone g c = subst (λ (ch : Change). AreGivesOfLive c.args.members.now ch) (sym c.taking_over-change.ensures)
    (live (g.B.Bank.given c.args.bank.now) c.args.members.now c.args.to.now c.args.slot c.requires.stands.placed c.requires.stands.free c.requires.still c.requires.valid c.requires.can)

module _ (g : Over) (c : After-without g) where
  abbrev m : Members
  m = c.args.members.now

  abbrev n : Members
  n = c.update-lost.new.members

  abbrev b : Given
  b = g.B.Bank.given c.args.bank.now

  abbrev ch : Change
  ch = taking_over c.args.members.now c.args.to.now c.args.slot

  done : IsChanged g.B.Bank.tells b ch m n (g.B.Bank.tape c.args.bank.now) (g.B.Bank.tape c.update-lost.new.bank)
  done =
      let did = c.update-lost.ensures in
      changed-by g.B.Bank.tells (g.B.Bank.given c.args.bank.now) c.taking_over-change.result ch m n (g.B.Bank.tape c.args.bank.now)
      (g.B.Bank.tape c.update-lost.new.bank) (g.B.Bank.faults_of c.args.bank.now) (g.B.Bank.faults_of c.update-lost.new.bank) c.taking_over-change.ensures refl (record {
        update = did.update;
        named = did.named;
        newest = did.newest;
        turns = did.turns;
        turned = did.turned;
        rise = did.rise;
        own = did.own;
        roles = did.roles;
        spares = did.spares;
        alive = subst (λ (b : Given). AreLive b n) did.given did.live;
        losses = did.losses;
      })

  says : SaysSame (planned_newest ch.shared m.newest) n.newest
  says = later-says (planned_newest ch.shared m.newest) n.newest done.newest

  less : IsLessView (planned_view m ch m.lost) n
  less = less-then (planned_view m ch m.lost) (planned_view m ch n.lost) n
      (plans-lose m ch m.lost n.lost done.stay (one-holder b m c.args.to.now c.args.slot c.requires.stands.placed c.requires.stands.free c.requires.still c.requires.valid c.requires.can m.lost (λ s is. is)))
      (new-less m n ch (live b m c.args.to.now c.args.slot c.requires.stands.placed c.requires.stands.free c.requires.still c.requires.valid c.requires.can) done.newest done.own done.roles done.spares)

  made-then : IsMade b m ch n
  made-then = made b m c.args.to.now c.args.slot c.requires.stands.placed c.requires.stands.free c.requires.still c.requires.valid c.requires.can n done less
      (later-fits (planned_newest ch.shared m.newest) n.newest done.newest (planned-fits b m c.args.to.now c.args.slot c.requires.stands.placed c.requires.stands.free c.requires.still c.requires.valid c.requires.can)) c.check_counts.ensures

  -- a spare is looked at, so it isn't the backup, nor is a slot that holds a role
  module _ (world : World) (told : Ledger) (steady : IsSteady (OpensFit world) world.scope b told m (disk b.start (g.B.Bank.tape c.args.bank.now))) where
    aside-spare : CanTakeUp m c.args.to.now c.args.slot → world.scope.backup ≡ Some c.args.slot → ⊥
    aside-spare up is =
        let held = steady.since.held in
        let spare : has_spare steady.former.spares c.args.slot ≡ true = ap (λ (o : Members). has_spare o.spares c.args.slot) (sym steady.since.since) ∙ up.spare in
        let seen = (held.updated.held.each c.args.slot (spare-known world.scope held.known steady.former held.said c.args.slot spare)).seen in
        seen-own world.scope c.args.slot seen is

    aside : ArePlaced world.scope b m → world.scope.backup ≡ Some c.args.slot → ⊥
    aside former = elim c.requires.can [ inl up ↦ aside-spare up | inr down ↦ former.members_own c.args.to.now.disks c.args.slot (ap holder down.last) ]

pub returns-clause-taken : goal.returns-clause-taken
returns-clause-taken g c = done g c

pub returns-clause-newest : goal.returns-clause-newest
returns-clause-newest g c = taken-alike c.args.members.now.newest (planned_newest (ch g c).shared c.args.members.now.newest) c.update-lost.new.members.newest c.args.to.now (says g c)
    (planned-to (b g c) c.args.members.now c.args.to.now c.args.slot c.requires.stands.placed c.requires.stands.free c.requires.still c.requires.valid c.requires.can)

pub returns-clause-plan : goal.returns-clause-plan
returns-clause-plan g c = plan-is (b g c) c.args.members.now c.args.to.now c.args.slot c.requires.stands.placed c.requires.stands.free c.requires.still c.requires.valid c.requires.can c.args.members.now.lost

pub returns-clause-moved : goal.returns-clause-moved
returns-clause-moved g c = new-moved (b g c) c.args.members.now (ch g c) c.update-lost.new.members (made-then g c)

pub returns-clause-failed : goal.returns-clause-failed
returns-clause-failed g c =
    taken-failed (b g c) c.args.members.now c.args.to.now c.args.slot c.requires.stands.placed c.requires.stands.free c.requires.still c.requires.valid c.requires.can c.update-lost.new.members (done g c)
    c.update-lost.result c.holders_then-held.result c.without.result (g.B.Bank.faults_of c.args.bank.now) (g.B.Bank.faults_of c.update-lost.new.bank)
    (subst (λ (ch : Change). AreLosses (live_set c.args.members.now ch) (with_added c.args.members.now ch.added).lost c.update-lost.new.members.lost (g.B.Bank.faults_of c.args.bank.now) (g.B.Bank.faults_of c.update-lost.new.bank))
    c.taking_over-change.ensures c.update-lost.ensures.losses)
    (subst (λ (ch : Change). (s : ℕ) → has_slot c.update-lost.result s ≡ (has_slot c.update-lost.new.members.lost s && not (has_slot (with_added c.args.members.now ch.added).lost s))) c.taking_over-change.ensures
    c.update-lost.ensures.result)
    c.holders_then-held.ensures.only c.holders_then-held.ensures.all
    (λ s. elim (cases_lt s 32) [
      | inl below ↦ c.without.ensures s below
      | inr above ↦ none_above c.without.result s (omega arith) above ∙ sym (ap (λ (b : Bool). b && not (has_slot c.holders_then-held.result s)) (none_above c.update-lost.result s (omega arith) above))
    ])

pub returns-clause-spares : goal.returns-clause-spares
returns-clause-spares g c =
    spares-were (b g c) c.args.members.now c.args.to.now c.args.slot c.requires.stands.placed c.requires.stands.free c.requires.still c.requires.valid c.requires.can c.update-lost.new.members (done g c)
    c.update-lost.result c.holders_then-held.result c.without.result (g.B.Bank.faults_of c.args.bank.now) (g.B.Bank.faults_of c.update-lost.new.bank)
    (subst (λ (ch : Change). AreLosses (live_set c.args.members.now ch) (with_added c.args.members.now ch.added).lost c.update-lost.new.members.lost (g.B.Bank.faults_of c.args.bank.now) (g.B.Bank.faults_of c.update-lost.new.bank))
    c.taking_over-change.ensures c.update-lost.ensures.losses)
    (subst (λ (ch : Change). (s : ℕ) → has_slot c.update-lost.result s ≡ (has_slot c.update-lost.new.members.lost s && not (has_slot (with_added c.args.members.now ch.added).lost s))) c.taking_over-change.ensures
    c.update-lost.ensures.result)
    c.holders_then-held.ensures.only c.holders_then-held.ensures.all
    (λ s. elim (cases_lt s 32) [
      | inl below ↦ c.without.ensures s below
      | inr above ↦ none_above c.without.result s (omega arith) above ∙ sym (ap (λ (b : Bool). b && not (has_slot c.holders_then-held.result s)) (none_above c.update-lost.result s (omega arith) above))
    ])

pub returns-clause-free : goal.returns-clause-free
returns-clause-free g c = new-free (b g c) c.args.members.now (ch g c) c.update-lost.new.members (made-then g c)

pub returns-clause-named : goal.returns-clause-named
returns-clause-named g c = λ some.
    let m = c.args.members.now in
    let n = c.update-lost.new.members in
    let was = live-before m n (ch g c) (live (b g c) m c.args.to.now c.args.slot c.requires.stands.placed c.requires.stands.free c.requires.still c.requires.valid c.requires.can) (done g c).roles (done g c).spares some.0 some.1 in
    names-all (b g c) m (ch g c) n (made-then g c) (one-holder (b g c) m c.args.to.now c.args.slot c.requires.stands.placed c.requires.stands.free c.requires.still c.requires.valid c.requires.can n.lost (done g c).stay)
    c.check_entries.ensures ((done g c).named (some.0, was.0, some.2))

pub returns-clause-others : goal.returns-clause-others
returns-clause-others g c = λ tell. others-updated (b g c) (done g c).update tell

pub returns-clause-bank : goal.returns-clause-bank
returns-clause-bank g c = record {
  same = c.update-lost.ensures.given;
  grows = grows-marks (done g c).update.marks;
  counts = c.update-lost.ensures.counts;
}

pub returns-clause-rise : goal.returns-clause-rise
returns-clause-rise g c = risen-changed (done g c) refl (live (b g c) c.args.members.now c.args.to.now c.args.slot c.requires.stands.placed c.requires.stands.free c.requires.still c.requires.valid c.requires.can)

pub returns-clause-safe : goal.returns-clause-safe
returns-clause-safe g c = λ tell world told more room tells gone gone' carried safe.
    let m = c.args.members.now in
    let before = g.B.Bank.tape c.args.bank.now in
    let after = g.B.Bank.tape c.update-lost.new.bank in
    let so = told-changed tell (done g c) in
    safe-change (OpensFit world) world.scope (b g c) told more (ch g c) m c.update-lost.new.members before after so refl
    (live (b g c) m c.args.to.now c.args.slot c.requires.stands.placed c.requires.stands.free c.requires.still c.requires.valid c.requires.can) room (λ steady. (
    let was = steady-right (OpensFit world) world.scope (b g c) told m (disk (b g c).start before) steady gone in
    record {
      fit = fit-update (b g c) m c.args.to.now c.args.slot c.requires.stands.placed c.requires.stands.free c.requires.still c.requires.valid c.requires.can world.scope steady.former (disk (b g c).start before) steady.since;
      right = takeovers (OpensFit world) world.scope (b g c) told more m (planned_view m (ch g c) m.lost) (disk (b g c).start before)
          (plan-is (b g c) m c.args.to.now c.args.slot c.requires.stands.placed c.requires.stands.free c.requires.still c.requires.valid c.requires.can m.lost)
          (plan-placed (b g c) m c.args.to.now c.args.slot c.requires.stands.placed c.requires.stands.free c.requires.still c.requires.valid c.requires.can world.scope c.check_counts.ensures (aside g c world told steady was.placed) was.placed)
          tells was;
      gone = told-plan more (b g c) (ch g c) m c.update-lost.new.members before after so gone';
      carried = carried;
    })) safe
