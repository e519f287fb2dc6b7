use Rattle.std.proofs.Common.{◌≡◌, ◌≤◌, refl, sym, subst, min, ◌+◌, ◌-◌, arith}
use Rattle.std.specs.Prelude.{◌^◌}
use Rattle.sb_update.specs.bank_Given.{Given}
use Rattle.sb_update.specs.bank_Tape.{disk}
use Rattle.sb_update.specs.sb_specs_the_Change.{Change}
use Rattle.sb_update.specs.sb_specs_Reading.{role_count}
use Rattle.sb_update.specs.sb_specs_Update.{IsRoleGive, give_of}
use Rattle.sb_update.specs.sb_specs_Updating.{ArePlanned}
use Rattle.sb_update.specs.sb_specs_Outcome.{with_added, live_set, is_left, AreLive, AreGivesOfLive}
use Rattle.array_members.specs.Placed.{IsPlaced}
use Rattle.array_members.specs.crash_safety_laws_Marking.{marking}
use Rattle.array_members.proofs.crash_safety_laws_Kept.{give_of-same}
use Rattle.array_members.proofs.PlacedLaws.{marked-less, marked-count, placed-less, less-unlost}
use Rattle.array_members.proofs.crash_safety_laws_CalledLaws.{changed-by}
use Rattle.array_members.proofs.Fit.{few}
use Rattle.sb_safe_updates.proofs.marks.set_clean_mark.Goals as goal

pub update-requires-clause-count : goal.update-requires-clause-count
update-requires-clause-count g c =
    let m = c.args.members.now in
    subst (λ (ch : Change). role_count ch.shared ≤ 16) (sym c.marking-change.ensures)
    (marked-count m c.args.clean c.requires.placed.fit.valid)

pub update-requires-clause-gives : goal.update-requires-clause-gives
update-requires-clause-gives g c = λ s below.
    subst (λ (ch : Change). IsRoleGive (give_of ch.gives s)) (sym c.marking-change.ensures) (rw (give_of-same 32 s) tt)

pub update-requires-clause-alone : goal.update-requires-clause-alone
update-requires-clause-alone g c =
    subst (λ (ch : Change). AreGivesOfLive c.args.members.now ch) (sym c.marking-change.ensures) (λ slot none. give_of-same 32 slot)

pub returns-clause-marked : goal.returns-clause-marked
returns-clause-marked g c =
    let did = c.update.ensures in
    changed-by g.B.Bank.tells (g.B.Bank.given c.args.bank.now) c.marking-change.result (marking c.args.members.now c.args.clean) c.args.members.now c.update.new.members (g.B.Bank.tape c.args.bank.now) (g.B.Bank.tape c.update.new.bank)
    (g.B.Bank.faults_of c.args.bank.now) (g.B.Bank.faults_of c.update.new.bank) c.marking-change.ensures refl (record {
      update = did.update;
      named = did.named;
      newest = did.newest;
      turns = did.turns;
      turned = did.turned;
      rise = did.rise;
      own = did.own;
      roles = did.roles;
      spares = did.spares;
      alive = subst (λ (b : Given). AreLive b c.update.new.members) did.given did.live;
      losses = did.losses;
    })

pub returns-clause-planned : goal.returns-clause-planned
returns-clause-planned g c =
    let m = c.args.members.now in
    subst (λ (ch : Change). g.B.Bank.tells → ArePlanned c.update.new.members.newest ch.gives (with_added m ch.added).own (live_set m ch) c.update.new.members.lost
    (disk (g.B.Bank.given c.args.bank.now).start (g.B.Bank.tape c.update.new.bank))) c.marking-change.ensures c.update.ensures.planned

pub returns-clause-events : goal.returns-clause-events
returns-clause-events g c =
    let m = c.args.members.now in
    subst (λ (ch : Change). c.update.new.members.lost ≡ (with_added m ch.added).lost → c.update.new.members.newest.events ≡ min (m.newest.events + 1) (2 ^ 64 - 1)) c.marking-change.ensures c.update.ensures.events

pub returns-clause-less : goal.returns-clause-less
returns-clause-less g c =
    let m = c.args.members.now in
    let n = c.update.new.members in
    let marked = returns-clause-marked g c in
    marked-less m n c.args.clean (is_left (live_set m (marking m c.args.clean)) n.lost) marked.newest marked.own (g.B.Bank.given c.args.bank.now) n.lost c.requires.placed marked.roles

pub returns-clause-placed : goal.returns-clause-placed
returns-clause-placed g c =
    placed-less (g.B.Bank.given c.update.new.bank) c.update.new.members.lost c.args.members.now c.update.new.members (returns-clause-less g c)
    (subst (λ (b : Given). IsPlaced b c.args.members.now) (sym c.update.ensures.given) c.requires.placed) c.update.ensures.live

pub returns-clause-unlost : goal.returns-clause-unlost
returns-clause-unlost g c = less-unlost c.update.new.members.lost c.args.members.now c.update.new.members (returns-clause-less g c) refl

pub update-requires-clause-roles : goal.update-requires-clause-roles
update-requires-clause-roles g c = let most = few (g.B.Bank.given c.args.bank.now) c.args.members.now c.requires.placed in omega (arith, most)
