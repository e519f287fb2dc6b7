use Rattle.std.proofs.Common.{◌≡◌, inr, ℕ, ◌<◌, true, not, eq-eqb, refl, sym, ◌∙◌, ap, subst, arith, inl}
use Rattle.std.specs.Prelude.{Contains}
use Rattle.sb_safe_updates.specs.bank_Given.{Given}
use Rattle.sb_safe_updates.specs.bank_Tape.{disk}
use Rattle.sb_safe_updates.proofs.bank_Marks.{each_mark-map}
use Rattle.sb_safe_updates.specs.sb_specs_Reading.{role_state, holder, is_clean}
use Rattle.sb_safe_updates.specs.sb_specs_the_Members.{Members}
use Rattle.sb_safe_updates.specs.raid_types_the_Role_TheVariants.{Recovering}
use Rattle.sb_safe_updates.specs.raid_types_Shapes.{has_slot}
use Rattle.sb_safe_updates.specs.stripe_row_Rows.{reading_of, present}
use Rattle.sb_safe_updates.specs.stripe_list_Writing.{AreSuperblocksKept}
use Rattle.sb_safe_updates.proofs.stripe_list_LossLaws.{slot_lost, recovering-after}
use Rattle.sb_safe_updates.specs.history_Sound.{OpensFit}
use Rattle.sb_safe_updates.specs.array_members_Placed.{AreLost}
use Rattle.sb_safe_updates.specs.crash_safety_laws_Marking.{AreOthersPresent}
use Rattle.sb_safe_updates.specs.array_members_Moving.{IsMoved}
use Rattle.sb_safe_updates.specs.crash_safety_laws_Safety.{IsRisen}
use Rattle.sb_safe_updates.specs.crash_safety_laws_Steady.{KeepsSafe, IsUncleanTold}
use Rattle.sb_safe_updates.proofs.array_members_MovedLaws.{moved-from, moved-same}
use Rattle.sb_safe_updates.proofs.array_members_LackingLaws.{in-second, since-same}
use Rattle.sb_safe_updates.proofs.array_members_LackingWrites.{marks-here, lost-of, recovering-before}
use Rattle.sb_safe_updates.proofs.crash_safety_laws_Risen.{risen-lost, room-then, risen-none}
use Rattle.sb_safe_updates.proofs.array_members_SafeStretch.{safe-none, safe-then, safe-lost, over-at, keeps-from, grows-longer}
use Rattle.sb_safe_updates.proofs.array_members_Fit.{few}
use Rattle.sb_safe_updates.proofs.array_members_FilledParts.{found-in, safe-filled, others-filled, none-found}
use Rattle.stripe_io.proofs.FillingLaws.{filling-kept}
use Rattle.stripe_io.proofs.RefusedLaws.{true-false}
use Rattle.sb_safe_updates.specs.Frame.{KeepsMembers}
use Rattle.sb_safe_updates.proofs.FrameLaws.{members-none, members-of, members-then, members-lost, members-stand-on}
use Rattle.stripe_io.proofs.filling.fill_rows.Goals as goal

pub returns-then-is_none-clause-safe : goal.returns-then-is_none-clause-safe
returns-then-is_none-clause-safe g c = λ told world ledger room gone unclean safe.
    safe-none (OpensFit world) world.scope (g.B.Bank.given c.args.bank.now) ledger c.args.members.now (g.B.Bank.tape c.args.bank.now) safe

pub returns-then-is_none-clause-kept : goal.returns-then-is_none-clause-kept
returns-then-is_none-clause-kept g c = λ recovers.
    marks-here {P = AreSuperblocksKept (disk (g.B.Bank.given c.args.bank.now).start (g.B.Bank.tape c.args.bank.now))} g.B.Bank.tells (g.B.Bank.given c.args.bank.now).start (g.B.Bank.tape c.args.bank.now) (λ s at lt. refl)

pub returns-then-write_filled-clause-kept : goal.returns-then-write_filled-clause-kept
returns-then-write_filled-clause-kept g c = λ still.
    let start = (g.B.Bank.given c.args.bank.now).start in
    let tape0 = g.B.Bank.tape c.args.bank.now in
    each_mark-map (AreSuperblocksKept (disk start tape0))
    (λ told e filling. filling-kept (g.B.Bank.given c.args.bank.now) c.args.members.now c.args.target.now.role c.args.target.now.slot (disk start tape0) e c.requires.stands.placed still filling) c.write_filled.ensures.each_mark

pub returns-then-write_filled-clause-written : goal.returns-then-write_filled-clause-written
returns-then-write_filled-clause-written g c = λ recovered told list own. c.write_filled.ensures.written c.if-write_filled.true told list own

pub returns-then-write_filled-clause-safe : goal.returns-then-write_filled-clause-safe
returns-then-write_filled-clause-safe g c =
    λ told world ledger room gone unclean safe.
    let m = c.args.members.now in
    let role = c.args.target.now.role in
    let slot = c.args.target.now.slot in
    let found = found-in c.recovering_slot.result _ (c.is_none.ensures ∙ ap not c.if-is_none.false) c.recovering_slot.ensures.some in
    let recovers : role_state (reading_of m) role ≡ Recovering slot = subst (λ (s : ℕ). role_state (reading_of m) role ≡ Recovering s) (c.requires.recovering found.0 found.1) found.1 in
    safe-filled (OpensFit world) world.scope (g.B.Bank.given c.args.bank.now) ledger m role slot (g.B.Bank.tape c.args.bank.now) (g.B.Bank.tape c.write_filled.new.bank) told c.requires.stands.placed c.requires.stands.unlost recovers
    c.write_filled.ensures.each_mark safe

pub lose_slot-requires-clause-slot : goal.lose_slot-requires-clause-slot
lose_slot-requires-clause-slot g c =
    let found = found-in c.recovering_slot.result _ (c.is_none.ensures ∙ ap not c.if-is_none.false) c.recovering_slot.ensures.some in
    subst (λ (s : ℕ). s < 32) (c.requires.recovering found.0 found.1) (c.requires.stands.placed.holders c.args.target.now.role found.0 (ap holder found.1)).small

pub lose_slot-requires-clause-small : goal.lose_slot-requires-clause-small
lose_slot-requires-clause-small g c = λ role slot held. (c.requires.stands.placed.holders role slot held).small

pub record_missing-requires : goal.record_missing-requires
record_missing-requires g c =
    let given = g.B.Bank.given c.args.bank.now in
    let m = c.args.members.now in
    let n = c.lose_slot.new.members in
    let role = c.args.target.now.role in
    let slot = c.args.target.now.slot in
    let f0 = g.B.Bank.faults_of c.args.bank.now in
    let f1 = g.B.Bank.faults_of c.write_filled.new.bank in
    let shape = c.args.shape.now in
    let found = found-in c.recovering_slot.result _ (c.is_none.ensures ∙ ap not c.if-is_none.false) c.recovering_slot.ensures.some in
    let recovers : role_state (reading_of m) role ≡ Recovering slot = subst (λ (s : ℕ). role_state (reading_of m) role ≡ Recovering s) (c.requires.recovering found.0 found.1) found.1 in
    let lost : AreLost given shape m n c.lose_slot.result f0 f1 = lost-of given shape m n c.lose_slot.result f0 f1 c.requires.stands.placed
    (slot_lost shape m n c.lose_slot.result slot role f0 f1 c.lose_slot.ensures.members c.lose_slot.ensures.alone c.requires.role (ap holder recovers) (c.write_filled.ensures.failed c.if-write_filled.false) c.write_filled.ensures.bank.counts) in
    let first : KeepsMembers g.B.Bank.tells g.B.Bank.given g.B.Bank.tape g.B.Bank.faults_of c.args.bank.now c.write_filled.new.bank m n 0 =
    members-lost c.args.bank.now c.write_filled.new.bank shape m n c.lose_slot.result c.requires.stands.placed c.requires.stands.unlost lost c.write_filled.ensures.bank.same c.write_filled.ensures.bank.grows in
    record { stands = members-stand-on first c.requires.stands }

pub returns-clause-keeps : goal.returns-clause-keeps
returns-clause-keeps g c =
    let given = g.B.Bank.given c.args.bank.now in
    let m = c.args.members.now in
    let n = c.lose_slot.new.members in
    let role = c.args.target.now.role in
    let slot = c.args.target.now.slot in
    let f0 = g.B.Bank.faults_of c.args.bank.now in
    let f1 = g.B.Bank.faults_of c.write_filled.new.bank in
    let shape = c.args.shape.now in
    let found = found-in c.recovering_slot.result _ (c.is_none.ensures ∙ ap not c.if-is_none.false) c.recovering_slot.ensures.some in
    let recovers : role_state (reading_of m) role ≡ Recovering slot = subst (λ (s : ℕ). role_state (reading_of m) role ≡ Recovering s) (c.requires.recovering found.0 found.1) found.1 in
    let lost : AreLost given shape m n c.lose_slot.result f0 f1 = lost-of given shape m n c.lose_slot.result f0 f1 c.requires.stands.placed
    (slot_lost shape m n c.lose_slot.result slot role f0 f1 c.lose_slot.ensures.members c.lose_slot.ensures.alone c.requires.role (ap holder recovers) (c.write_filled.ensures.failed c.if-write_filled.false) c.write_filled.ensures.bank.counts) in
    let first : KeepsMembers g.B.Bank.tells g.B.Bank.given g.B.Bank.tape g.B.Bank.faults_of c.args.bank.now c.write_filled.new.bank m n 0 =
    members-lost c.args.bank.now c.write_filled.new.bank shape m n c.lose_slot.result c.requires.stands.placed c.requires.stands.unlost lost c.write_filled.ensures.bank.same c.write_filled.ensures.bank.grows in
    members-then first (members-of c.record_missing.ensures.keeps) (in-second c.record_missing.result)

pub returns-clause-clean : goal.returns-clause-clean
returns-clause-clean g c =
    c.record_missing.ensures.clean ∙ ap (λ (x : Members). is_clean x.newest) c.lose_slot.ensures.members

pub returns-clause-missing : goal.returns-clause-missing
returns-clause-missing g c =
    λ unnamed live. c.record_missing.ensures.missing live

pub returns-clause-kept : goal.returns-clause-kept
returns-clause-kept g c =
    λ still.
    let given = g.B.Bank.given c.args.bank.now in
    let m = c.args.members.now in
    let n = c.lose_slot.new.members in
    let role = c.args.target.now.role in
    let slot = c.args.target.now.slot in
    let f0 = g.B.Bank.faults_of c.args.bank.now in
    let f1 = g.B.Bank.faults_of c.write_filled.new.bank in
    let shape = c.args.shape.now in
    let found = found-in c.recovering_slot.result _ (c.is_none.ensures ∙ ap not c.if-is_none.false) c.recovering_slot.ensures.some in
    let recovers : role_state (reading_of m) role ≡ Recovering slot = subst (λ (s : ℕ). role_state (reading_of m) role ≡ Recovering s) (c.requires.recovering found.0 found.1) found.1 in
    let lost : AreLost given shape m n c.lose_slot.result f0 f1 = lost-of given shape m n c.lose_slot.result f0 f1 c.requires.stands.placed
    (slot_lost shape m n c.lose_slot.result slot role f0 f1 c.lose_slot.ensures.members c.lose_slot.ensures.alone c.requires.role (ap holder recovers) (c.write_filled.ensures.failed c.if-write_filled.false) c.write_filled.ensures.bank.counts) in
    let given1 = g.B.Bank.given c.write_filled.new.bank in
    let same : given1 ≡ given = c.write_filled.ensures.bank.same in
    let q = c.record_missing.new.members in
    let named = c.record_missing.ensures in
    let two : IsMoved given n q = moved-from given given1 n n q same refl named.keeps.moved in
    let out = (recovering-after m c.lose_slot.result role slot (subst (λ (x : Members). role_state (reading_of x) role ≡ Recovering slot) c.lose_slot.ensures.members (recovering-before two role slot still))).1 in
    let gone : has_slot c.lose_slot.result slot ≡ true = c.lose_slot.ensures.alone slot ∙ eq-eqb slot slot refl in
    true-false (sym gone ∙ out)

pub returns-clause-written : goal.returns-clause-written
returns-clause-written g c =
    λ still told list own i lt high.
    let given = g.B.Bank.given c.args.bank.now in
    let m = c.args.members.now in
    let n = c.lose_slot.new.members in
    let role = c.args.target.now.role in
    let slot = c.args.target.now.slot in
    let f0 = g.B.Bank.faults_of c.args.bank.now in
    let f1 = g.B.Bank.faults_of c.write_filled.new.bank in
    let shape = c.args.shape.now in
    let found = found-in c.recovering_slot.result _ (c.is_none.ensures ∙ ap not c.if-is_none.false) c.recovering_slot.ensures.some in
    let recovers : role_state (reading_of m) role ≡ Recovering slot = subst (λ (s : ℕ). role_state (reading_of m) role ≡ Recovering s) (c.requires.recovering found.0 found.1) found.1 in
    let lost : AreLost given shape m n c.lose_slot.result f0 f1 = lost-of given shape m n c.lose_slot.result f0 f1 c.requires.stands.placed
    (slot_lost shape m n c.lose_slot.result slot role f0 f1 c.lose_slot.ensures.members c.lose_slot.ensures.alone c.requires.role (ap holder recovers) (c.write_filled.ensures.failed c.if-write_filled.false) c.write_filled.ensures.bank.counts) in
    let given1 = g.B.Bank.given c.write_filled.new.bank in
    let same : given1 ≡ given = c.write_filled.ensures.bank.same in
    let q = c.record_missing.new.members in
    let named = c.record_missing.ensures in
    let two : IsMoved given n q = moved-from given given1 n n q same refl named.keeps.moved in
    let out = (recovering-after m c.lose_slot.result role slot (subst (λ (x : Members). role_state (reading_of x) role ≡ Recovering slot) c.lose_slot.ensures.members (recovering-before two role slot still))).1 in
    let gone : has_slot c.lose_slot.result slot ≡ true = c.lose_slot.ensures.alone slot ∙ eq-eqb slot slot refl in
    true-false (sym gone ∙ out)

pub returns-clause-others : goal.returns-clause-others
returns-clause-others g c =
    λ told.
    let given = g.B.Bank.given c.args.bank.now in
    let m = c.args.members.now in
    let n = c.lose_slot.new.members in
    let role = c.args.target.now.role in
    let slot = c.args.target.now.slot in
    let f0 = g.B.Bank.faults_of c.args.bank.now in
    let f1 = g.B.Bank.faults_of c.write_filled.new.bank in
    let shape = c.args.shape.now in
    let found = found-in c.recovering_slot.result _ (c.is_none.ensures ∙ ap not c.if-is_none.false) c.recovering_slot.ensures.some in
    let recovers : role_state (reading_of m) role ≡ Recovering slot = subst (λ (s : ℕ). role_state (reading_of m) role ≡ Recovering s) (c.requires.recovering found.0 found.1) found.1 in
    let lost : AreLost given shape m n c.lose_slot.result f0 f1 = lost-of given shape m n c.lose_slot.result f0 f1 c.requires.stands.placed
    (slot_lost shape m n c.lose_slot.result slot role f0 f1 c.lose_slot.ensures.members c.lose_slot.ensures.alone c.requires.role (ap holder recovers) (c.write_filled.ensures.failed c.if-write_filled.false) c.write_filled.ensures.bank.counts) in
    let given1 = g.B.Bank.given c.write_filled.new.bank in
    let same : given1 ≡ given = c.write_filled.ensures.bank.same in
    let named = c.record_missing.ensures in
    let tape0 = g.B.Bank.tape c.args.bank.now in
    let tape1 = g.B.Bank.tape c.write_filled.new.bank in
    let tape2 = g.B.Bank.tape c.record_missing.new.bank in
    inr (
      recovers,
      others-filled m role slot (Contains c.args.rows.now) (present given tape0) (present given tape1) (present given tape2) (c.write_filled.ensures.others told)
          (subst (λ (b : Given). AreOthersPresent (present b tape1) (present b tape2)) same (named.others told)),
    )

pub returns-clause-safe : goal.returns-clause-safe
returns-clause-safe g c =
    λ told world ledger room missing unclean safe.
    let given = g.B.Bank.given c.args.bank.now in
    let m = c.args.members.now in
    let n = c.lose_slot.new.members in
    let role = c.args.target.now.role in
    let slot = c.args.target.now.slot in
    let f0 = g.B.Bank.faults_of c.args.bank.now in
    let f1 = g.B.Bank.faults_of c.write_filled.new.bank in
    let shape = c.args.shape.now in
    let found = found-in c.recovering_slot.result _ (c.is_none.ensures ∙ ap not c.if-is_none.false) c.recovering_slot.ensures.some in
    let recovers : role_state (reading_of m) role ≡ Recovering slot = subst (λ (s : ℕ). role_state (reading_of m) role ≡ Recovering s) (c.requires.recovering found.0 found.1) found.1 in
    let lost : AreLost given shape m n c.lose_slot.result f0 f1 = lost-of given shape m n c.lose_slot.result f0 f1 c.requires.stands.placed
    (slot_lost shape m n c.lose_slot.result slot role f0 f1 c.lose_slot.ensures.members c.lose_slot.ensures.alone c.requires.role (ap holder recovers) (c.write_filled.ensures.failed c.if-write_filled.false) c.write_filled.ensures.bank.counts) in
    let given1 = g.B.Bank.given c.write_filled.new.bank in
    let same : given1 ≡ given = c.write_filled.ensures.bank.same in
    let q = c.record_missing.new.members in
    let named = c.record_missing.ensures in
    let tape0 = g.B.Bank.tape c.args.bank.now in
    let tape1 = g.B.Bank.tape c.write_filled.new.bank in
    let tape2 = g.B.Bank.tape c.record_missing.new.bank in
    let risen1 : IsRisen g.B.Bank.tells m n tape0 tape1 = risen-lost m n c.lose_slot.result tape0 tape1 c.lose_slot.ensures.members (grows-longer c.write_filled.ensures.bank.grows) in
    let first : KeepsSafe world given ledger m tape0 tape1 = safe-filled (OpensFit world) world.scope given ledger m role slot tape0 tape1 told c.requires.stands.placed c.requires.stands.unlost recovers c.write_filled.ensures.each_mark safe in
    let second : KeepsSafe world given ledger n tape0 tape1 = safe-then (OpensFit world) world.scope given ledger m n tape0 tape1 tape1 first (safe-lost (OpensFit world) world.scope given ledger m n c.lose_slot.result tape1 tape1 c.lose_slot.ensures.members refl first.next) in
    let unclean2 : IsUncleanTold ledger n = λ dirty. unclean (sym (ap (λ (x : Members). is_clean x.newest) c.lose_slot.ensures.members) ∙ dirty) in
    let third : KeepsSafe world given ledger q tape1 tape2 = keeps-from world given given1 ledger q tape1 tape2 same
    (named.safe told world ledger (room-then tape2 told room risen1) missing unclean2 (over-at world given given1 ledger n tape1 same second.next)) in
    safe-then (OpensFit world) world.scope given ledger n q tape0 tape1 tape2 second third

pub lose_slot-requires-clause-few : goal.lose_slot-requires-clause-few
lose_slot-requires-clause-few g c = let roles = few (g.B.Bank.given c.args.bank.now) c.args.members.now c.requires.stands.placed in omega (arith, roles)

pub write_filled-requires-clause-placed : goal.write_filled-requires-clause-placed
write_filled-requires-clause-placed g c = c.requires.stands.placed

pub write_filled-requires-clause-shape : goal.write_filled-requires-clause-shape
write_filled-requires-clause-shape g c = c.requires.shape

pub write_filled-requires-clause-role : goal.write_filled-requires-clause-role
write_filled-requires-clause-role g c = c.requires.role

pub write_filled-requires-clause-offset : goal.write_filled-requires-clause-offset
write_filled-requires-clause-offset g c = c.requires.offset

pub write_filled-requires-clause-below : goal.write_filled-requires-clause-below
write_filled-requires-clause-below g c = c.requires.below

pub write_filled-requires-clause-once : goal.write_filled-requires-clause-once
write_filled-requires-clause-once g c = c.requires.once

pub write_filled-requires-clause-buffer : goal.write_filled-requires-clause-buffer
write_filled-requires-clause-buffer g c = c.requires.buffer

pub write_filled-requires-clause-recovering : goal.write_filled-requires-clause-recovering
write_filled-requires-clause-recovering g c =
    let found = found-in c.recovering_slot.result _ (c.is_none.ensures ∙ ap not c.if-is_none.false) c.recovering_slot.ensures.some in
    subst (λ (s : ℕ). role_state (reading_of c.args.members.now) c.args.target.now.role ≡ Recovering s) (c.requires.recovering found.0 found.1) found.1

pub write_filled-requires-clause-held : goal.write_filled-requires-clause-held
write_filled-requires-clause-held g c =
    let found = found-in c.recovering_slot.result _ (c.is_none.ensures ∙ ap not c.if-is_none.false) c.recovering_slot.ensures.some in
    c.requires.held (subst (λ (s : ℕ). role_state (reading_of c.args.members.now) c.args.target.now.role ≡ Recovering s) (c.requires.recovering found.0 found.1) found.1)

pub returns-then-is_none-clause-keeps : goal.returns-then-is_none-clause-keeps
returns-then-is_none-clause-keeps g c = members-none c.args.bank.now c.args.members.now c.requires.stands

pub returns-then-is_none-clause-written : goal.returns-then-is_none-clause-written
returns-then-is_none-clause-written g c recovers told list own i low held =
    absurd (none-found c.recovering_slot.result _ (c.is_none.ensures ∙ ap not c.if-is_none.true) c.recovering_slot.ensures.none c.args.target.now.slot recovers)

pub returns-then-is_none-clause-others : goal.returns-then-is_none-clause-others
returns-then-is_none-clause-others g c told = inl refl

pub returns-then-write_filled-clause-keeps : goal.returns-then-write_filled-clause-keeps
returns-then-write_filled-clause-keeps g c = record {
  bank = record { same = c.write_filled.ensures.bank.same; grows = c.write_filled.ensures.bank.grows; counts = c.write_filled.ensures.bank.counts };
  moved = moved-same (g.B.Bank.given c.args.bank.now) (g.B.Bank.given c.args.bank.now) c.args.members.now c.args.members.now refl refl c.requires.stands.placed c.requires.stands.unlost;
  failed = since-same c.args.members.now (g.B.Bank.faults_of c.args.bank.now) (g.B.Bank.faults_of c.write_filled.new.bank);
  rise = risen-none c.args.members.now (g.B.Bank.tape c.args.bank.now) (g.B.Bank.tape c.write_filled.new.bank) (grows-longer c.write_filled.ensures.bank.grows);
}

pub returns-then-write_filled-clause-others : goal.returns-then-write_filled-clause-others
returns-then-write_filled-clause-others g c told =
    let found = found-in c.recovering_slot.result _ (c.is_none.ensures ∙ ap not c.if-is_none.false) c.recovering_slot.ensures.some in
    inr (subst (λ (s : ℕ). role_state (reading_of c.args.members.now) c.args.target.now.role ≡ Recovering s) (c.requires.recovering found.0 found.1) found.1, c.write_filled.ensures.others told)

pub returns-then-write_filled-clause-size : goal.returns-then-write_filled-clause-size
returns-then-write_filled-clause-size g c = c.write_filled.ensures.size

pub returns-clause-size : goal.returns-clause-size
returns-clause-size g c = c.write_filled.ensures.size
