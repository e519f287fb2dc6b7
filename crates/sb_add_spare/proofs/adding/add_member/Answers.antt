use Rattle.std.proofs.Common.{◌≡◌, ◌⊎◌, inl, inr, ⊎_elim, ℕ, ◌<◌, ◌≤◌, ◌&&◌, Bool, true, false, not, replicate, refl, sym, ◌∙◌, ap, subst, arith}
use Rattle.std.specs.Prelude.{IfSome}
use Rattle.std.proofs.lemmas.Bool.{cases_lt}
use Rattle.sb_safe_updates.specs.raid_types_Shapes.{has_slot}
use Rattle.sb_safe_updates.specs.bank_Given.{Given}
use Rattle.sb_safe_updates.specs.bank_Tape.{EachMark, disk}
use Rattle.sb_safe_updates.specs.sb_specs_the_Give_TheVariants.{Same}
use Rattle.sb_safe_updates.specs.sb_specs_the_Change.{Change}
use Rattle.sb_safe_updates.specs.history_Sound.{OpensFit}
use Rattle.sb_safe_updates.specs.sb_specs_Reading.{role_count}
use Rattle.sb_safe_updates.specs.sb_specs_Update.{IsRoleGive, give_of, is_recovery}
use Rattle.sb_safe_updates.specs.sb_specs_Updating.{IsUpdate, IsWrittenBy, AreLosses, AreNamed, IsLater, IsSomeLeft, RisesByOperations, planned_newest}
use Rattle.sb_safe_updates.specs.sb_specs_Outcome.{IsAddable, AreGivesOfLive, AreLive, AreStored, with_added, live_set, is_left, planned_roles, planned_spares}
use Rattle.sb_safe_updates.specs.sb_specs_Reads.{has_spare}
use Rattle.sb_safe_updates.specs.sb_specs_Stages.{AreFirstKept}
use Rattle.sb_safe_updates.specs.sb_specs_Rounds.{round_at, IsInRounds, ArePast}
use Rattle.sb_safe_updates.proofs.sb_specs_SlotSets.{none_above}
use Rattle.sb_safe_updates.specs.crash_safety_laws_Marking.{adding}
use Rattle.sb_safe_updates.specs.array_members_Placed.{IsPlaced}
use Rattle.sb_safe_updates.specs.crash_safety_laws_Steady.{AreUnlost}
use Rattle.sb_safe_updates.specs.array_members_Rebuilding.{with_spare, AreSparesFree}
use Rattle.sb_safe_updates.proofs.array_members_AddedMembers.{addable, placed-with, unlost-roles, free-with, spare-with, live-here}
use Rattle.sb_safe_updates.proofs.array_members_Fit.{few as few-placed}
use Rattle.sb_add_spare.proofs.AddedSafe.{adding-safe}
use Rattle.sb_add_spare.proofs.AddedUpdates.{IsAddedBy, told-added, added-moved, added-risen, added-failed, told-spare, told-none, added-stored, added-rest, lost-spare}
use Rattle.sb_safe_updates.proofs.array_members_LiveLeft.{left-steady}
use Rattle.sb_safe_updates.proofs.crash_safety_laws_Kept.{give_of-same}
use Rattle.sb_safe_updates.proofs.array_members_MarkedLaws.{grows-marks, others-updated}
use Rattle.sb_safe_updates.proofs.sb_specs_ValidFields.{few-roles}
use Rattle.sb_add_spare.proofs.adding.add_member.Given.{Over}
use Rattle.sb_add_spare.proofs.adding.add_member.Goals.{After-without}
use Rattle.sb_add_spare.proofs.adding.add_member.Goals as goal

pub holders-held-requires-clause-small : goal.holders-held-requires-clause-small
holders-held-requires-clause-small g c role slot held = (c.requires.stands.placed.holders role slot held).small

pub update-lost-requires-clause-added : goal.update-lost-requires-clause-added
update-lost-requires-clause-added g c =
    let few = c.requires.stands.slots in
    let lt = c.requires.slot in
    subst (λ (ch : Change). IfSome ch.added (IsAddable (g.B.Bank.given c.args.bank.now))) (sym c.adding-change.ensures)
    (addable (g.B.Bank.given c.args.bank.now) c.args.members.now c.args.slot c.args.sb.now c.requires.made (omega (arith, few, lt)) c.requires.slot)

pub update-lost-requires-clause-count : goal.update-lost-requires-clause-count
update-lost-requires-clause-count g c =
    let m = c.args.members.now in
    subst (λ (ch : Change). role_count ch.shared ≤ 16) (sym c.adding-change.ensures)
    (few-roles m.newest c.requires.stands.placed.fit.valid)

pub update-lost-requires-clause-gives : goal.update-lost-requires-clause-gives
update-lost-requires-clause-gives g c = λ s below.
    subst (λ (ch : Change). IsRoleGive (give_of ch.gives s)) (sym c.adding-change.ensures) (rw (give_of-same 32 s) tt)

pub update-lost-requires-clause-alone : goal.update-lost-requires-clause-alone
update-lost-requires-clause-alone g c =
    subst (λ (ch : Change). AreGivesOfLive c.args.members.now ch) (sym c.adding-change.ensures) (λ slot none. give_of-same 32 slot)

-- no slot gets a recovery offset
all-kept : (lost lost' : ℕ) → AreFirstKept (replicate 32 Same) lost lost'
all-kept lost lost' s recovery gone = absurd (let none : false ≡ true = sym (ap is_recovery (give_of-same 32 s)) ∙ recovery in cc)

module _ (g : Over) (c : After-without g) where
  losses : AreLosses (live_set c.args.members.now (adding c.args.members.now c.args.slot c.args.sb.now)) (with_spare c.args.slot c.args.sb.now c.args.members.now).lost c.update-lost.new.members.lost
      (g.B.Bank.faults_of c.args.bank.now) (g.B.Bank.faults_of c.update-lost.new.bank)
  losses = subst (λ (ch : Change). AreLosses (live_set c.args.members.now ch) (with_added c.args.members.now ch.added).lost c.update-lost.new.members.lost
      (g.B.Bank.faults_of c.args.bank.now) (g.B.Bank.faults_of c.update-lost.new.bank)) c.adding-change.ensures c.update-lost.ensures.losses

  did : IsAddedBy g.B.Bank.tells (g.B.Bank.given c.args.bank.now) c.args.slot c.args.sb.now c.args.members.now c.update-lost.new.members (g.B.Bank.tape c.args.bank.now) (g.B.Bank.tape c.update-lost.new.bank)
  did =
      let m = c.args.members.now in
      let n = c.update-lost.new.members in
      let e = c.adding-change.ensures in
      let done = c.update-lost.ensures in
      let start = (g.B.Bank.given c.args.bank.now).start in
      let before = g.B.Bank.tape c.args.bank.now in
      let after = g.B.Bank.tape c.update-lost.new.bank in
      record {
        update = subst (λ (ch : Change). IsUpdate g.B.Bank.tells (live_set m ch) (with_added m ch.added).lost n.lost (IsWrittenBy (with_added m ch.added).newest ch (with_added m ch.added).own) start before after) e done.update;
        named = subst (λ (ch : Change). IsSomeLeft (live_set m ch) n.lost → AreNamed (with_added m ch.added) ch (with_added m ch.added).lost n.lost n.newest) e done.named;
        newest = subst (λ (ch : Change). IsLater (planned_newest ch.shared m.newest) n.newest) e done.newest;
        rounds = subst (λ (ch : Change). AreFirstKept ch.gives (with_added m ch.added).lost n.lost → EachMark g.B.Bank.tells start before after
            (IsInRounds (with_added m ch.added) ch (with_added m ch.added).lost (live_set m ch) n.lost n.newest.events (disk start before))) e done.rounds (all-kept (with_spare c.args.slot c.args.sb.now m).lost n.lost);
        past = subst (λ (ch : Change). AreFirstKept ch.gives (with_added m ch.added).lost n.lost → g.B.Bank.tells
            → ArePast (with_added m ch.added) ch (with_added m ch.added).lost (live_set m ch) (disk start before) (round_at n.newest n.lost start after)) e done.past (all-kept (with_spare c.args.slot c.args.sb.now m).lost n.lost);
        rise = subst (λ (ch : Change). RisesByOperations g.B.Bank.tells (live_set m ch) n.lost m.newest.events n.newest.events before after) e done.rise;
        stay = losses.stay;
        live = losses.live;
        own = subst (λ (ch : Change). AreStored n.newest ch.gives (is_left (live_set m ch) n.lost) (with_added m ch.added).own n.own) e done.own;
        held = subst (λ (b : Given). AreLive b n) done.given done.live;
        roles = subst (λ (ch : Change). n.roles ≡ planned_roles m ch n.lost) e done.roles;
        spares = subst (λ (ch : Change). n.spares ≡ planned_spares m ch n.lost) e done.spares;
      }

  few : c.args.slot < 32
  few = let all = c.requires.stands.slots in let lt = c.requires.slot in omega (arith, all, lt)

  with-placed : IsPlaced (g.B.Bank.given c.args.bank.now) (with_spare c.args.slot c.args.sb.now c.args.members.now)
  with-placed = placed-with (g.B.Bank.given c.args.bank.now) c.args.members.now c.args.slot c.args.sb.now c.requires.made c.requires.stands.placed c.requires.stands.unlost c.requires.stands.free c.requires.stands.slots c.requires.slot
      c.check_count.ensures.own (λ role held. c.requires.untaken role (inl held))

  with-unlost : AreUnlost (with_spare c.args.slot c.args.sb.now c.args.members.now)
  with-unlost = unlost-roles (g.B.Bank.given c.args.bank.now) c.args.members.now c.args.slot c.args.sb.now c.requires.made c.requires.stands.placed c.requires.stands.unlost c.requires.stands.free c.requires.stands.slots c.requires.slot
      c.check_count.ensures.own (λ role held. c.requires.untaken role (inl held))

  with-free : AreSparesFree (g.B.Bank.given c.args.bank.now) (with_spare c.args.slot c.args.sb.now c.args.members.now)
  with-free = free-with (g.B.Bank.given c.args.bank.now) c.args.members.now c.args.slot c.args.sb.now c.requires.made c.requires.stands.placed c.requires.stands.unlost c.requires.stands.free c.requires.stands.slots c.requires.slot
      c.check_count.ensures.own (λ role held. c.requires.untaken role (inl held))

  with-spare : has_spare (with_spare c.args.slot c.args.sb.now c.args.members.now).spares c.args.slot ≡ true
  with-spare = spare-with (g.B.Bank.given c.args.bank.now) c.args.members.now c.args.slot c.args.sb.now c.requires.made c.requires.stands.placed c.requires.stands.unlost c.requires.stands.free c.requires.stands.slots c.requires.slot
      c.check_count.ensures.own (λ role held. c.requires.untaken role (inl held))

  result : (s : ℕ) → has_slot c.update-lost.result s ≡ (has_slot c.update-lost.new.members.lost s && not (has_slot (with_spare c.args.slot c.args.sb.now c.args.members.now).lost s))
  result = subst (λ (ch : Change). (s : ℕ) → has_slot c.update-lost.result s ≡ (has_slot c.update-lost.new.members.lost s && not (has_slot (with_added c.args.members.now ch.added).lost s)))
      c.adding-change.ensures c.update-lost.ensures.result

  small : (s : ℕ) → has_slot c.without.result s ≡ true → s < 32
  small s is = elim (cases_lt s 32) [
    | inl below ↦ below
    | inr above ↦ absurd (let e = none_above c.without.result s (omega arith) above in cc)
  ]

  spare-or-told : (s : ℕ) → has_spare (with_spare c.args.slot c.args.sb.now c.args.members.now).spares s ≡ true → (has_spare c.update-lost.new.members.spares s ≡ true) ⊎ (has_slot c.without.result s ≡ true)
  spare-or-told = told-spare did c.requires.stands.placed with-unlost with-free c.holders-held.result c.update-lost.result c.without.result (g.B.Bank.faults_of c.args.bank.now) (g.B.Bank.faults_of c.update-lost.new.bank)
      c.holders-held.ensures result c.without.ensures small losses

  alive : has_slot (live_set c.args.members.now (adding c.args.members.now c.args.slot c.args.sb.now)) c.args.slot ≡ true
  alive = live-here c.args.members.now c.args.slot c.args.sb.now few

  -- where it isn't told, it isn't lost
  kept : has_slot c.without.result c.args.slot ≡ false → has_slot c.update-lost.new.members.lost c.args.slot ≡ false
  kept none = ⊎_elim (λ spare. lost-spare did c.args.slot spare) (λ told. absurd (let e = sym told ∙ none in cc)) (spare-or-told c.args.slot with-spare)

pub returns-clause-keeps : goal.returns-clause-keeps
returns-clause-keeps g c = record {
  bank = record { same = c.update-lost.ensures.given; grows = grows-marks c.update-lost.ensures.update.marks; counts = c.update-lost.ensures.counts };
  moved = added-moved (did g c) c.requires.stands.placed (with-placed g c) (did g c).held;
  failed = added-failed (did g c) c.requires.stands.placed (with-unlost g c) (with-free g c) c.holders-held.result c.update-lost.result c.without.result
      (g.B.Bank.faults_of c.args.bank.now) (g.B.Bank.faults_of c.update-lost.new.bank) c.holders-held.ensures (result g c) c.without.ensures (small g c) (losses g c);
  rise = added-risen (did g c) c.requires.stands.placed;
}

pub returns-clause-spare : goal.returns-clause-spare
returns-clause-spare g c = λ none. ⊎_elim (λ spare. spare) (λ told. absurd (let e = sym told ∙ none in cc)) (spare-or-told g c c.args.slot (with-spare g c))

pub returns-clause-lost : goal.returns-clause-lost
returns-clause-lost g c = λ is. told-none (did g c) c.requires.stands.placed (with-unlost g c) (with-free g c) c.holders-held.result c.update-lost.result c.without.result
    (g.B.Bank.faults_of c.args.bank.now) (g.B.Bank.faults_of c.update-lost.new.bank) c.holders-held.ensures (result g c) c.without.ensures (small g c) (losses g c) c.args.slot is

pub returns-clause-others : goal.returns-clause-others
returns-clause-others g c = λ told. others-updated (g.B.Bank.given c.args.bank.now) c.update-lost.ensures.update told

pub returns-clause-rest : goal.returns-clause-rest
returns-clause-rest g c = λ told. added-rest (did g c) told

pub returns-clause-stored : goal.returns-clause-stored
returns-clause-stored g c = λ none. added-stored (did g c) (few g c) c.check_count.ensures.own (alive g c) (kept g c none)

pub returns-clause-safe : goal.returns-clause-safe
returns-clause-safe g c = λ tell world told room gone unclean of_scope unknown second live safe.
    adding-safe (OpensFit world) world.scope (g.B.Bank.given c.args.bank.now) told c.update-lost.new.members c.args.slot c.args.sb.now (g.B.Bank.tape c.args.bank.now) (g.B.Bank.tape c.update-lost.new.bank)
    c.args.members.now c.requires.fresh (left-steady live safe) c.requires.stands.placed c.requires.stands.unlost c.requires.stands.free
    (record {
      few = c.requires.stands.slots;
      there = c.requires.slot;
      long = c.check_count.ensures.own;
      small = c.check_count.ensures.lost;
      untaken = λ role held. c.requires.untaken role (inl held);
      unspare = unspare (has_spare c.args.members.now.spares c.args.slot) refl;
      made = c.requires.made;
      of_scope = of_scope;
      unknown = unknown;
      second = second;
    })
    (told-added tell (did g c)) (room live) gone
  where
    unspare : (b : Bool) → has_spare c.args.members.now.spares c.args.slot ≡ b → b ≡ false
    unspare true is = absurd (c.requires.untaken 0 (inr is))
    unspare false is = refl

pub update-lost-requires-clause-roles : goal.update-lost-requires-clause-roles
update-lost-requires-clause-roles g c = let most = few-placed (g.B.Bank.given c.args.bank.now) c.args.members.now c.requires.stands.placed in omega (arith, most)

pub holders-held-requires-clause-few : goal.holders-held-requires-clause-few
holders-held-requires-clause-few g c = let most = few-placed (g.B.Bank.given c.args.bank.now) c.args.members.now c.requires.stands.placed in omega (arith, most)
