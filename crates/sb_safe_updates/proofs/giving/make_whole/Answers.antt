use Rattle.std.proofs.Common.{◌≡◌, inl, inr, ℕ, ◌&&◌, ◌||◌, Bool, true, false, not, refl, sym, ◌∙◌, ap, subst, arith}
use Rattle.std.specs.Prelude.{None, ⊤}
use Rattle.std.proofs.lemmas.Bool.{cases_eq, cases_lt}
use Rattle.raid_layout.specs.raid_types_Shapes.{has_slot}
use Rattle.raid_layout.proofs.Limits.{limited}
use Rattle.raid_layout.specs.raid_types_Sectors.{Sector}
use Rattle.sb_update.specs.bank_Given.{Given}
use Rattle.sb_update.specs.bank_Tape.{EachMark, disk}
use Rattle.sb_update.specs.sb_specs_the_Change.{Change}
use Rattle.sb_update.specs.sb_specs_Reading.{holder, shape_of}
use Rattle.sb_update.specs.sb_specs_Update.{IsRoleGive, give_of}
use Rattle.sb_update.specs.sb_specs_Stages.{AreFirstKept}
use Rattle.sb_update.specs.sb_specs_Rounds.{round_at, IsInRounds, ArePast}
use Rattle.sb_update.specs.sb_specs_Outcome.{AreLive, AreGivesOfLive, is_in_update, live_set, with_added}
use Rattle.sb_update.proofs.sb_specs_SlotSets.{none_above}
use Rattle.array_members.specs.history_World.{World}
use Rattle.array_members.specs.history_Sound.{OpensFit}
use Rattle.array_members.specs.stripe_row_Rows.{present}
use Rattle.array_members.specs.crash_views_Regions.{DoWithout}
use Rattle.array_members.specs.Lacking.{RowsStand}
use Rattle.array_members.specs.Rebuilding.{IsFlushedFull}
use Rattle.array_members.specs.crash_views_Views.{Ledger}
use Rattle.array_members.specs.crash_safety_laws_Safety.{HasRoomLeft}
use Rattle.array_members.specs.crash_safety_laws_Steady.{IsSafeOver, AreGoneTold, AreWritesAllowed, given_back}
use Rattle.array_members.proofs.Fit.{valid, few}
use Rattle.array_members.proofs.LiveLeft.{holder-left}
use Rattle.array_members.specs.crash_safety_laws_Marking.{giving}
use Rattle.array_members.proofs.MarkedLaws.{grows-marks, others-of}
use Rattle.array_members.proofs.Gives.{gives_of, give-here, give-other}
use Rattle.array_members.proofs.GivenMembers.{IsReceiver}
use Rattle.sb_safe_updates.proofs.GivenMoved.{moved-given, failed-given, holders-more}
use Rattle.sb_safe_updates.proofs.GivingDone.{given-left, losses-done}
use Rattle.sb_safe_updates.proofs.MadeWhole.{holder-receives, held-already, IsMoreBack, back-same, back-given, makable}
use Rattle.array_members.specs.crash_safety_laws_Changing.{IsChanged, IsSafeChange}
use Rattle.array_members.specs.crash_role_laws_Making.{IsMade}
use Rattle.array_members.proofs.crash_safety_laws_CalledLaws.{changed-by}
use Rattle.array_members.proofs.crash_safety_laws_ChangeSafe.{told-changed, told-marks, risen-changed, one-stretch, change-named}
use Rattle.array_members.proofs.crash_role_laws_MadeSafe.{making-safe}
use Rattle.sb_safe_updates.proofs.GivenPlan.{gives-live}
use Rattle.sb_safe_updates.proofs.giving.make_whole.Given.{Over}
use Rattle.sb_safe_updates.proofs.giving.make_whole.Goals.{After-without}
use Rattle.sb_safe_updates.proofs.giving.make_whole.Goals as goal

pub giving-change-requires : goal.giving-change-requires
giving-change-requires g c = (c.requires.stands.placed.holders c.args.role c.args.slot (ap holder c.requires.recovering)).small

pub holders-held-requires-clause-small : goal.holders-held-requires-clause-small
holders-held-requires-clause-small g c role slot held = (c.requires.stands.placed.holders role slot held).small

pub update-lost-requires-clause-gives : goal.update-lost-requires-clause-gives
update-lost-requires-clause-gives g c s below =
    subst (λ (ch : Change). IsRoleGive (give_of ch.gives s)) (sym c.giving-change.ensures) (elim (cases_eq s c.args.slot) [
      | inl same ↦ subst IsRoleGive (sym (ap (give_of (gives_of c.args.slot c.args.role None)) same ∙ give-here c.args.slot c.args.role None (holder-receives (g.B.Bank.given c.args.bank.now) c.args.members.now c.args.role c.args.slot c.requires.stands.placed c.requires.stands.unlost c.requires.role c.requires.recovering).room.small))
          (let most = (limited (shape_of c.args.members.now.newest) (valid (g.B.Bank.given c.args.bank.now) c.args.members.now c.requires.stands.placed)).most in let lt = c.requires.role in omega (arith, most, lt))
      | inr apart ↦ subst IsRoleGive (sym (give-other c.args.slot c.args.role None s apart)) tt
    ])

pub update-lost-requires-clause-alone : goal.update-lost-requires-clause-alone
update-lost-requires-clause-alone g c =
    subst (λ (ch : Change). AreGivesOfLive c.args.members.now ch) (sym c.giving-change.ensures) (λ s none. elim (cases_eq s c.args.slot) [
      | inl same ↦ absurd (
          let live = (holder-receives (g.B.Bank.given c.args.bank.now) c.args.members.now c.args.role c.args.slot c.requires.stands.placed c.requires.stands.unlost c.requires.role c.requires.recovering).live in
          let there = ap (λ (t : ℕ). is_in_update c.args.members.now (giving c.args.members.now c.args.slot c.args.role None) t) same ∙ ap (λ (b : Bool). b || false) live in
          let clash = sym there ∙ none in cc
          )
      | inr apart ↦ give-other c.args.slot c.args.role None s apart
    ])

module _ (g : Over) (c : After-without g) where
  to : IsReceiver (g.B.Bank.given c.args.bank.now) c.args.members.now c.args.role c.args.slot
  to = holder-receives (g.B.Bank.given c.args.bank.now) c.args.members.now c.args.role c.args.slot c.requires.stands.placed c.requires.stands.unlost c.requires.role c.requires.recovering

  done : IsChanged g.B.Bank.tells (g.B.Bank.given c.args.bank.now) (giving c.args.members.now c.args.slot c.args.role None) c.args.members.now c.update-lost.new.members (g.B.Bank.tape c.args.bank.now)
      (g.B.Bank.tape c.update-lost.new.bank)
  done =
      let did = c.update-lost.ensures in
      changed-by g.B.Bank.tells (g.B.Bank.given c.args.bank.now) c.giving-change.result (giving c.args.members.now c.args.slot c.args.role None) c.args.members.now c.update-lost.new.members (g.B.Bank.tape c.args.bank.now)
      (g.B.Bank.tape c.update-lost.new.bank) (g.B.Bank.faults_of c.args.bank.now) (g.B.Bank.faults_of c.update-lost.new.bank) c.giving-change.ensures refl (record {
        update = did.update;
        named = did.named;
        newest = did.newest;
        turns = did.turns;
        turned = did.turned;
        rise = did.rise;
        own = did.own;
        roles = did.roles;
        spares = did.spares;
        alive = subst (λ (b : Given). AreLive b c.update-lost.new.members) did.given did.live;
        losses = did.losses;
      })

  made : g.B.Bank.tells → IsMade ⊤ (g.B.Bank.given c.args.bank.now) (giving c.args.members.now c.args.slot c.args.role None) c.args.members.now c.update-lost.new.members (g.B.Bank.tape c.args.bank.now)
      (g.B.Bank.tape c.update-lost.new.bank)
  made tell =
      let m = c.args.members.now in
      let n = c.update-lost.new.members in
      let start = (g.B.Bank.given c.args.bank.now).start in
      let before = g.B.Bank.tape c.args.bank.now in
      let after = g.B.Bank.tape c.update-lost.new.bank in
      let did = c.update-lost.ensures in
      let rounds = subst (λ (ch : Change). AreFirstKept ch.gives (with_added m ch.added).lost n.lost → EachMark g.B.Bank.tells start before after
      (IsInRounds (with_added m ch.added) ch (with_added m ch.added).lost (live_set m ch) n.lost n.newest.events (disk start before))) c.giving-change.ensures did.rounds in
      let past = subst (λ (ch : Change). AreFirstKept ch.gives (with_added m ch.added).lost n.lost → g.B.Bank.tells
      → ArePast (with_added m ch.added) ch (with_added m ch.added).lost (live_set m ch) (disk start before) (round_at n.newest n.lost start after)) c.giving-change.ensures did.past in
      record { changed = told-changed tell done; rounds = λ kept. told-marks tell (rounds kept); past = λ kept one. past kept tell }

pub returns-clause-moved : goal.returns-clause-moved
returns-clause-moved g c = moved-given (g.B.Bank.given c.args.bank.now) None c.args.role c.args.slot c.args.members.now c.update-lost.new.members c.requires.stands.placed (to g c) (given-left (done g c)) c.requires.stands.unlost

pub returns-clause-failed : goal.returns-clause-failed
returns-clause-failed g c =
    let did = c.update-lost.ensures in
    let given = g.B.Bank.given c.args.bank.now in
    let before = g.B.Bank.faults_of c.args.bank.now in
    let after = g.B.Bank.faults_of c.update-lost.new.bank in
    failed-given given None c.args.role c.args.slot c.args.members.now c.update-lost.new.members c.requires.stands.placed (to g c) (given-left (done g c)) c.holders-held.result c.update-lost.result c.without.result before after
    c.requires.stands.unlost c.requires.stands.free
    (holders-more given None c.args.role c.args.slot c.args.members.now c.update-lost.new.members c.requires.stands.placed (to g c) (given-left (done g c)) c.holders-held.result c.holders-held.result c.holders-held.ensures
    (held-already c.args.members.now c.args.role c.args.slot c.holders-held.result c.holders-held.ensures c.requires.recovering))
    (losses-done None c.args.role c.args.slot c.args.members.now c.update-lost.new.members before after c.giving-change.result c.giving-change.ensures did.losses)
    (subst (λ (ch : Change). (s : ℕ) → has_slot c.update-lost.result s ≡ (has_slot c.update-lost.new.members.lost s && not (has_slot (with_added c.args.members.now ch.added).lost s))) c.giving-change.ensures did.result)
    (λ s. elim (cases_lt s 32) [
      | inl below ↦ c.without.ensures s below
      | inr above ↦ none_above c.without.result s (omega arith) above ∙ sym (ap (λ (b : Bool). b && not (has_slot c.holders-held.result s)) (none_above c.update-lost.result s (omega arith) above))
    ])

pub returns-clause-bank : goal.returns-clause-bank
returns-clause-bank g c = record {
  same = c.update-lost.ensures.given;
  grows = grows-marks c.update-lost.ensures.update.marks;
  counts = c.update-lost.ensures.counts;
}

pub returns-clause-others : goal.returns-clause-others
returns-clause-others g c = λ told. others-of (g.B.Bank.given c.args.bank.now) (g.B.Bank.tape c.args.bank.now) (g.B.Bank.tape c.update-lost.new.bank)
    (λ s k other. ((done g c).update.end told).touched.elsewhere s k other)

pub returns-clause-rise : goal.returns-clause-rise
returns-clause-rise g c = risen-changed (done g c) refl (gives-live (g.B.Bank.given c.args.bank.now) c.args.members.now c.requires.stands.placed None c.args.role c.args.slot (to g c))

-- by the ledger, or by one in which the role isn't gone
module _ (g : Over) (c : After-without g) (tell : g.B.Bank.tells) (world : World) (told : Ledger) (gone : AreGoneTold told c.update-lost.new.members) (here : told.gone c.args.role ≡ true)
    (premise : OpensFit world) (does : DoWithout c.args.members.now) (list : ℕ → Sector)
    (stands : RowsStand c.args.members.now (present (g.B.Bank.given c.args.bank.now) (g.B.Bank.tape c.args.bank.now)) list) (allowed : AreWritesAllowed c.args.members.now told.values list)
    (full : IsFlushedFull c.args.members.now c.args.role c.args.slot list (disk (g.B.Bank.given c.args.bank.now).start (g.B.Bank.tape c.args.bank.now)))
    (room : HasRoomLeft c.args.members.now (g.B.Bank.tape c.args.bank.now) (g.B.Bank.tape c.update-lost.new.bank)) (safe : IsSafeOver world (g.B.Bank.given c.args.bank.now) told c.args.members.now (g.B.Bank.tape c.args.bank.now)) where
  whole-safe : (more : Ledger) → IsMoreBack (OpensFit world) world.scope (g.B.Bank.given c.args.bank.now) told more c.args.role c.args.slot c.update-lost.new.members
      → IsSafeChange (OpensFit world) world.scope (g.B.Bank.given c.args.bank.now) told more c.update-lost.new.members (g.B.Bank.tape c.args.bank.now) (g.B.Bank.tape c.update-lost.new.bank)
  whole-safe more back =
      let given = g.B.Bank.given c.args.bank.now in
      let m = c.args.members.now in
      let n = c.update-lost.new.members in
      let before = g.B.Bank.tape c.args.bank.now in
      let after = g.B.Bank.tape c.update-lost.new.bank in
      making-safe (OpensFit world) world.scope given told more (giving m c.args.slot c.args.role None) c.args.slot c.args.role m n before after (made g c tell) refl
      (gives-live given m c.requires.stands.placed None c.args.role c.args.slot (to g c)) room
      (λ steady. makable (OpensFit world) world.scope given told c.args.role c.args.slot m n before after (told-changed tell (done g c)) c.requires.stands.placed c.requires.still (to g c) c.requires.role c.requires.recovering premise does list
      stands allowed full gone here steady more back) safe

pub returns-clause-safe : goal.returns-clause-safe
returns-clause-safe g c = λ tell world told room gone here unclean premise does list stands allowed full safe.
    one-stretch (OpensFit world) world.scope (g.B.Bank.given c.args.bank.now) told c.update-lost.new.members (g.B.Bank.tape c.args.bank.now) (g.B.Bank.tape c.update-lost.new.bank)
    (whole-safe g c tell world told gone here premise does list stands allowed full room safe told (back-same (OpensFit world) world.scope (g.B.Bank.given c.args.bank.now) told c.args.role c.args.slot c.update-lost.new.members gone))

pub returns-clause-given_back : goal.returns-clause-given_back
returns-clause-given_back g c = λ whole tell world told room gone here unclean premise does list stands allowed full safe.
    let given = g.B.Bank.given c.args.bank.now in
    let n = c.update-lost.new.members in
    let moved = returns-clause-moved g c in
    inl (change-named (OpensFit world) world.scope given told (given_back c.args.role told) n (g.B.Bank.tape c.args.bank.now) (g.B.Bank.tape c.update-lost.new.bank)
    (whole-safe g c tell world told gone here premise does list stands allowed full room safe (given_back c.args.role told) (back-given (OpensFit world) world.scope given told c.args.role c.args.slot n gone whole))
    (holder-left given n c.args.role c.args.slot moved.placed moved.unlost (ap holder whole))).steady

pub update-lost-requires-clause-roles : goal.update-lost-requires-clause-roles
update-lost-requires-clause-roles g c = let most = few (g.B.Bank.given c.args.bank.now) c.args.members.now c.requires.stands.placed in omega (arith, most)

pub holders-held-requires-clause-few : goal.holders-held-requires-clause-few
holders-held-requires-clause-few g c = let most = few (g.B.Bank.given c.args.bank.now) c.args.members.now c.requires.stands.placed in omega (arith, most)
