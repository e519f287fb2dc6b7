use Rattle.std.proofs.Common.{◌≡◌, ◌<◌, inl, inr, ℕ, ◌&&◌, ◌||◌, Bool, false, not, Some, refl, sym, ◌∙◌, ap, subst, arith}
use Rattle.std.proofs.lemmas.Bool.{cases_eq, cases_lt}
use Rattle.raid_layout.specs.raid_types_Shapes.{has_slot}
use Rattle.sb_update.proofs.sb_specs_ValidFields.{few-roles}
use Rattle.sb_update.specs.bank_Given.{Given}
use Rattle.sb_update.specs.sb_specs_the_Change.{Change}
use Rattle.sb_update.specs.sb_specs_Reading.{shape_of, role_count}
use Rattle.sb_update.specs.sb_specs_Update.{IsRoleGive, give_of}
use Rattle.sb_update.specs.sb_specs_Outcome.{AreLive, AreGivesOfLive, is_in_update, with_added}
use Rattle.sb_update.proofs.sb_specs_SlotSets.{none_above}
use Rattle.array_members.specs.history_Sound.{OpensFit}
use Rattle.array_members.specs.crash_safety_laws_Marking.{giving}
use Rattle.array_members.proofs.MarkedLaws.{grows-marks, others-of}
use Rattle.array_members.proofs.Gives.{gives_of, give-here, give-other}
use Rattle.array_members.proofs.GivenMembers.{IsReceiver}
use Rattle.array_members.proofs.Fit.{few}
use Rattle.sb_safe_updates.proofs.GivenMoved.{moved-given, failed-given, holders-more}
use Rattle.sb_safe_updates.proofs.GivingDone.{given-left, losses-done}
use Rattle.array_members.specs.crash_safety_laws_Changing.{IsChanged}
use Rattle.array_members.proofs.crash_safety_laws_CalledLaws.{changed-by}
use Rattle.array_members.proofs.crash_safety_laws_ChangeSafe.{told-changed, risen-changed}
use Rattle.array_members.proofs.crash_role_laws_GivenSafe.{giving-stays-safe}
use Rattle.sb_safe_updates.proofs.GivenPlan.{gives-live, receiver-of, spare-receives}
use Rattle.sb_update.specs.sb_specs_the_Members.{Members}
use Rattle.array_members.specs.Placed.{IsPlaced}
use Rattle.sb_safe_updates.proofs.MadeWhole.{role-within}
use Rattle.sb_safe_updates.proofs.giving.give_role.Given.{Over}
use Rattle.sb_safe_updates.proofs.giving.give_role.Goals.{After-without}
use Rattle.sb_safe_updates.proofs.giving.give_role.Goals as goal

-- a role of the shape is one of the array's
within : {given : Given} {m : Members} → IsPlaced given m → {role : ℕ} → role < (shape_of m.newest).disks → role < role_count m.newest
within {given} {m} placed {role} below = subst (λ (n : ℕ). role < n) placed.roles (role-within given m placed role below)

pub holders-requires-clause-small : goal.holders-requires-clause-small
holders-requires-clause-small g c role slot held = (c.requires.stands.placed.holders role slot held).small

pub update-lost-requires-clause-gives : goal.update-lost-requires-clause-gives
update-lost-requires-clause-gives g c s below =
    subst (λ (ch : Change). IsRoleGive (give_of ch.gives s)) (sym c.giving-change.ensures) (elim (cases_eq s c.args.slot) [
      | inl same ↦ subst IsRoleGive (sym (ap (give_of (gives_of c.args.slot c.args.role (Some 0))) same ∙ give-here c.args.slot c.args.role (Some 0) (c.requires.stands.free c.args.slot c.requires.spare).room.small))
          (let most = few-roles c.args.members.now.newest c.requires.stands.placed.fit.valid in let lt = within c.requires.stands.placed c.requires.role in omega (arith, most, lt))
      | inr apart ↦ subst IsRoleGive (sym (give-other c.args.slot c.args.role (Some 0) s apart)) tt
    ])

pub update-lost-requires-clause-alone : goal.update-lost-requires-clause-alone
update-lost-requires-clause-alone g c =
    subst (λ (ch : Change). AreGivesOfLive c.args.members.now ch) (sym c.giving-change.ensures) (λ s none. elim (cases_eq s c.args.slot) [
      | inl same ↦ absurd (
          let live = (receiver-of (g.B.Bank.given c.args.bank.now) c.args.members.now c.args.role c.args.slot c.requires.stands.placed c.requires.stands.free (within c.requires.stands.placed c.requires.role) c.requires.vacant c.requires.spare).live in
          let there = ap (λ (t : ℕ). is_in_update c.args.members.now (giving c.args.members.now c.args.slot c.args.role (Some 0)) t) same ∙ ap (λ (b : Bool). b || false) live in
          let clash = sym there ∙ none in cc
          )
      | inr apart ↦ give-other c.args.slot c.args.role (Some 0) s apart
    ])

module _ (g : Over) (c : After-without g) where
  to : IsReceiver (g.B.Bank.given c.args.bank.now) c.args.members.now c.args.role c.args.slot
  to = receiver-of (g.B.Bank.given c.args.bank.now) c.args.members.now c.args.role c.args.slot c.requires.stands.placed c.requires.stands.free (within c.requires.stands.placed c.requires.role) c.requires.vacant c.requires.spare

  done : IsChanged g.B.Bank.tells (g.B.Bank.given c.args.bank.now) (giving c.args.members.now c.args.slot c.args.role (Some 0)) c.args.members.now c.update-lost.new.members (g.B.Bank.tape c.args.bank.now)
      (g.B.Bank.tape c.update-lost.new.bank)
  done =
      let did = c.update-lost.ensures in
      changed-by g.B.Bank.tells (g.B.Bank.given c.args.bank.now) c.giving-change.result (giving c.args.members.now c.args.slot c.args.role (Some 0)) c.args.members.now c.update-lost.new.members (g.B.Bank.tape c.args.bank.now)
      (g.B.Bank.tape c.update-lost.new.bank) (g.B.Bank.faults_of c.args.bank.now) (g.B.Bank.faults_of c.update-lost.new.bank) c.giving-change.ensures refl (record {
        update = did.update;
        named = did.named;
        newest = did.newest;
        turns = did.turns;
        turned = did.turned;
        rise = did.rise;
        own = did.own;
        roles = did.roles;
        spares = did.spares;
        alive = subst (λ (b : Given). AreLive b c.update-lost.new.members) did.given did.live;
        losses = did.losses;
      })

pub returns-clause-moved : goal.returns-clause-moved
returns-clause-moved g c = moved-given (g.B.Bank.given c.args.bank.now) (Some 0) c.args.role c.args.slot c.args.members.now c.update-lost.new.members c.requires.stands.placed (to g c) (given-left (done g c)) c.requires.stands.unlost

pub returns-clause-failed : goal.returns-clause-failed
returns-clause-failed g c =
    let did = c.update-lost.ensures in
    let given = g.B.Bank.given c.args.bank.now in
    let before = g.B.Bank.faults_of c.args.bank.now in
    let after = g.B.Bank.faults_of c.update-lost.new.bank in
    failed-given given (Some 0) c.args.role c.args.slot c.args.members.now c.update-lost.new.members c.requires.stands.placed (to g c) (given-left (done g c)) c.with-held.result c.update-lost.result c.without.result before after
    c.requires.stands.unlost c.requires.stands.free
    (holders-more given (Some 0) c.args.role c.args.slot c.args.members.now c.update-lost.new.members c.requires.stands.placed (to g c) (given-left (done g c)) c.holders.result c.with-held.result c.holders.ensures c.with-held.ensures)
    (losses-done (Some 0) c.args.role c.args.slot c.args.members.now c.update-lost.new.members before after c.giving-change.result c.giving-change.ensures did.losses)
    (subst (λ (ch : Change). (s : ℕ) → has_slot c.update-lost.result s ≡ (has_slot c.update-lost.new.members.lost s && not (has_slot (with_added c.args.members.now ch.added).lost s))) c.giving-change.ensures did.result)
    (λ s. elim (cases_lt s 32) [
      | inl below ↦ c.without.ensures s below
      | inr above ↦ none_above c.without.result s (omega arith) above ∙ sym (ap (λ (b : Bool). b && not (has_slot c.with-held.result s)) (none_above c.update-lost.result s (omega arith) above))
    ])

pub returns-clause-bank : goal.returns-clause-bank
returns-clause-bank g c = record {
  same = c.update-lost.ensures.given;
  grows = grows-marks c.update-lost.ensures.update.marks;
  counts = c.update-lost.ensures.counts;
}

pub returns-clause-others : goal.returns-clause-others
returns-clause-others g c = λ told. others-of (g.B.Bank.given c.args.bank.now) (g.B.Bank.tape c.args.bank.now) (g.B.Bank.tape c.update-lost.new.bank)
    (λ s k other. ((done g c).update.end told).touched.elsewhere s k other)

pub returns-clause-rise : goal.returns-clause-rise
returns-clause-rise g c = risen-changed (done g c) refl (gives-live (g.B.Bank.given c.args.bank.now) c.args.members.now c.requires.stands.placed (Some 0) c.args.role c.args.slot (to g c))

pub returns-clause-safe : goal.returns-clause-safe
returns-clause-safe g c = λ tell world told room gone here unclean safe.
    giving-stays-safe (OpensFit world) world.scope (g.B.Bank.given c.args.bank.now) told c.args.role c.args.slot c.args.members.now c.update-lost.new.members (g.B.Bank.tape c.args.bank.now)
    (g.B.Bank.tape c.update-lost.new.bank) (told-changed tell (done g c))
    (spare-receives (g.B.Bank.given c.args.bank.now) c.args.members.now c.args.role c.args.slot c.requires.stands.placed c.requires.stands.free (within c.requires.stands.placed c.requires.role) c.requires.vacant c.requires.spare) room gone safe

pub update-lost-requires-clause-roles : goal.update-lost-requires-clause-roles
update-lost-requires-clause-roles g c = let most = few (g.B.Bank.given c.args.bank.now) c.args.members.now c.requires.stands.placed in omega (arith, most)

pub holders-requires-clause-few : goal.holders-requires-clause-few
holders-requires-clause-few g c = let most = few (g.B.Bank.given c.args.bank.now) c.args.members.now c.requires.stands.placed in omega (arith, most)
