use Rattle.std.proofs.Common.{Some, refl, sym, ◌∙◌, subst, ◌≤◌}
use Rattle.array_fixed_io.specs.bank_Given.{Given}
use Rattle.array_fixed_io.specs.history_Sound.{OpensFit}
use Rattle.array_fixed_io.specs.stripe_row_Rows.{present}
use Rattle.array_fixed_io.specs.crash_safety_laws_Marking.{AreOthersPresent}
use Rattle.array_fixed_io.proofs.crash_safety_laws_Risen.{risen-then, room-first, room-then}
use Rattle.array_fixed_io.specs.array_members_Placed.{IsPlaced}
use Rattle.array_fixed_io.specs.array_members_Rebuilding.{AreSparesFree, with_recovering}
use Rattle.array_fixed_io.proofs.array_members_LackingLaws.{since-then, in-either}
use Rattle.array_fixed_io.proofs.array_members_MovedLaws.{grows-then, moved-then, moved-from}
use Rattle.array_fixed_io.proofs.array_members_SafeStretch.{gone-before, safe-then, grows-longer, over-at, keeps-from}
use Rattle.array_fixed_io.proofs.array_call_laws_RebuildGiven.{receiver-spare, free-then}
use Rattle.std.proofs.Math.Nat.{le_trans}
use Rattle.array_fixed_sync.proofs.naming.give_and_name.Goals as goal

pub record_missing-others-requires : goal.record_missing-others-requires
record_missing-others-requires g c =
    let did = c.give_role-spares.ensures in
    let given = g.B.Bank.given c.args.bank.now in
    let m = c.args.members.now in
    let to = receiver-spare given m c.requires.placed c.requires.free c.args.role c.args.slot c.requires.role c.requires.vacant c.requires.spare in
    record {
      stands = record {
        slots = subst (λ (b : Given). b.slots ≤ 32) (sym c.give_role-spares.ensures.bank.same) c.requires.slots;
        placed = subst (λ (b : Given). IsPlaced b c.give_role-spares.new.members) (sym did.bank.same) did.moved.placed;
        unlost = c.give_role-spares.ensures.moved.unlost;
        free = subst (λ (b : Given). AreSparesFree b c.give_role-spares.new.members) (sym did.bank.same) (did.moved.free (free-then given m c.requires.placed (Some 0) c.args.role c.args.slot to c.requires.free));
      };
    }

pub returns-clause-moved : goal.returns-clause-moved
returns-clause-moved g c =
    let m1 = c.give_role-spares.new.members in
    let did = c.give_role-spares.ensures in
    moved-then (g.B.Bank.given c.args.bank.now) (with_recovering c.args.role c.args.slot c.args.members.now) m1 c.record_missing-others.new.members did.moved
    (moved-from (g.B.Bank.given c.args.bank.now) (g.B.Bank.given c.give_role-spares.new.bank) m1 m1 c.record_missing-others.new.members did.bank.same refl c.record_missing-others.ensures.keeps.moved)

pub returns-clause-failed : goal.returns-clause-failed
returns-clause-failed g c =
    let s = c.give_role-spares.result in
    let t = c.record_missing-others.result in
    since-then (with_recovering c.args.role c.args.slot c.args.members.now) c.give_role-spares.new.members c.record_missing-others.new.members s t _ (g.B.Bank.faults_of c.args.bank.now) (g.B.Bank.faults_of c.give_role-spares.new.bank)
    (g.B.Bank.faults_of c.record_missing-others.new.bank) c.give_role-spares.ensures.bank.counts c.record_missing-others.ensures.keeps.bank.counts c.give_role-spares.ensures.failed c.record_missing-others.ensures.keeps.failed (in-either s t)

pub returns-clause-grows : goal.returns-clause-grows
returns-clause-grows g c = grows-then c.give_role-spares.ensures.bank.grows c.record_missing-others.ensures.keeps.bank.grows

pub returns-clause-others : goal.returns-clause-others
returns-clause-others g c =
    λ told s k other.
    let given = g.B.Bank.given c.args.bank.now in
    let did = c.give_role-spares.ensures in
    let tape1 = g.B.Bank.tape c.give_role-spares.new.bank in
    let tape2 = g.B.Bank.tape c.record_missing-others.new.bank in
    subst (λ (b : Given). AreOthersPresent (present b tape1) (present b tape2)) did.bank.same (c.record_missing-others.ensures.others told) s k other ∙ did.others told s k other

pub returns-clause-rise : goal.returns-clause-rise
returns-clause-rise g c = risen-then c.give_role-spares.ensures.rise c.record_missing-others.ensures.keeps.rise

pub returns-clause-safe : goal.returns-clause-safe
returns-clause-safe g c =
    λ tell world told room gone here unclean now.
    let m = c.args.members.now in
    let m1 = c.give_role-spares.new.members in
    let m2 = c.record_missing-others.new.members in
    let given = g.B.Bank.given c.args.bank.now in
    let given1 = g.B.Bank.given c.give_role-spares.new.bank in
    let tape0 = g.B.Bank.tape c.args.bank.now in
    let tape1 = g.B.Bank.tape c.give_role-spares.new.bank in
    let tape2 = g.B.Bank.tape c.record_missing-others.new.bank in
    let did = c.give_role-spares.ensures in
    let next = c.record_missing-others.ensures in
    let moved2 = moved-from given given1 m1 m1 m2 did.bank.same refl next.keeps.moved in
    let kept = did.safe tell world told (room-first m tape0 tape1 tape2 room (grows-longer next.keeps.bank.grows tell)) (gone-before given m1 m2 did.moved.placed moved2 told gone) here unclean now in
    safe-then (OpensFit world) world.scope given told m1 m2 tape0 tape1 tape2 kept
    (keeps-from world given given1 told m2 tape1 tape2 did.bank.same
    (next.safe tell world told (room-then tape2 tell room did.rise) gone (λ dirty. unclean (sym did.clean ∙ dirty)) (over-at world given given1 told m1 tape1 did.bank.same kept.next)))

pub returns-clause-missing : goal.returns-clause-missing
returns-clause-missing g c = c.record_missing-others.ensures.missing

pub returns-clause-counts : goal.returns-clause-counts
returns-clause-counts g c = λ slot. le_trans (c.give_role-spares.ensures.bank.counts slot) (c.record_missing-others.ensures.keeps.bank.counts slot)

pub give_role-spares-requires-clause-stands : goal.give_role-spares-requires-clause-stands
give_role-spares-requires-clause-stands g c = record { slots = c.requires.slots; placed = c.requires.placed; unlost = c.requires.unlost; free = c.requires.free }

pub returns-clause-given : goal.returns-clause-given
returns-clause-given g c = c.record_missing-others.ensures.keeps.bank.same ∙ c.give_role-spares.ensures.bank.same
