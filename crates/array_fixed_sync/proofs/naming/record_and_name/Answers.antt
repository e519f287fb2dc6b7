use Rattle.std.proofs.Common.{None, ◌≡◌, ℕ, ◌==◌, ◌&&◌, Bool, true, false, not, refl, sym, ◌∙◌, ap, subst, arith, ◌≤◌}
use Rattle.std.proofs.lemmas.Bool.Decides.{nat_tests}
use Rattle.array_fixed_io.specs.raid_types_the_Role.{Role}
use Rattle.array_fixed_io.specs.raid_types_the_Role_TheVariants.{Whole}
use Rattle.array_fixed_io.specs.bank_Given.{Given}
use Rattle.array_fixed_io.specs.history_Sound.{OpensFit}
use Rattle.array_fixed_io.specs.history_World.{World}
use Rattle.array_fixed_io.specs.sb_specs_the_Members.{Members}
use Rattle.array_fixed_io.specs.sb_specs_Reading.{is_whole, holder, role_state}
use Rattle.array_fixed_io.specs.stripe_row_Rows.{reading_of, present, is_missing}
use Rattle.array_fixed_io.specs.crash_safety_laws_Marking.{AreOthersPresent}
use Rattle.array_fixed_io.specs.crash_safety_laws_Safety.{HasRoomLeft}
use Rattle.array_fixed_io.specs.crash_safety_laws_Steady.{IsSafeOver, KeepsSafe, AreGoneTold, IsUncleanTold, given_back}
use Rattle.array_fixed_io.specs.crash_views_Views.{Ledger}
use Rattle.array_fixed_io.specs.array_members_Moving.{IsMoved}
use Rattle.array_fixed_io.proofs.crash_safety_laws_Risen.{risen-then, room-first, room-then}
use Rattle.array_fixed_io.specs.array_members_Placed.{IsPlaced}
use Rattle.array_fixed_io.specs.array_members_Rebuilding.{AreSparesFree, with_whole}
use Rattle.array_fixed_io.proofs.array_members_LackingLaws.{since-then, in-either}
use Rattle.array_fixed_io.proofs.array_members_MovedLaws.{grows-then, moved-then, moved-from}
use Rattle.array_fixed_io.proofs.array_members_SafeStretch.{gone-before, safe-then, grows-longer, over-at, keeps-from}
use Rattle.array_fixed_io.proofs.array_call_laws_RebuildGiven.{receiver-recovering, free-then}
use Rattle.array_fixed_sync.proofs.naming.record_and_name.Given.{Over}
use Rattle.array_fixed_sync.proofs.naming.record_and_name.Goals.{After-record_missing-others}
use Rattle.std.proofs.Math.Nat.{le_trans}
use Rattle.array_fixed_sync.proofs.naming.record_and_name.Goals as goal

pub record_missing-others-requires : goal.record_missing-others-requires
record_missing-others-requires g c =
    let did = c.flush_and_record-spares.ensures in
    let given = g.B.Bank.given c.args.bank.now in
    let m = c.args.members.now in
    let to = receiver-recovering given m c.requires.placed c.requires.unlost c.args.role c.args.slot c.requires.role c.requires.recovering in
    record {
      stands = record {
        slots = subst (λ (b : Given). b.slots ≤ 32) (sym c.flush_and_record-spares.ensures.bank.same) c.requires.slots;
        placed = subst (λ (b : Given). IsPlaced b c.flush_and_record-spares.new.members) (sym did.bank.same) did.moved.placed;
        unlost = c.flush_and_record-spares.ensures.moved.unlost;
        free = subst (λ (b : Given). AreSparesFree b c.flush_and_record-spares.new.members) (sym did.bank.same) (did.moved.free (free-then given m c.requires.placed None c.args.role c.args.slot to c.requires.free));
      };
    }

pub returns-clause-moved : goal.returns-clause-moved
returns-clause-moved g c =
    let m1 = c.flush_and_record-spares.new.members in
    let did = c.flush_and_record-spares.ensures in
    moved-then (g.B.Bank.given c.args.bank.now) (with_whole c.args.role c.args.slot c.args.members.now) m1 c.record_missing-others.new.members did.moved
    (moved-from (g.B.Bank.given c.args.bank.now) (g.B.Bank.given c.flush_and_record-spares.new.bank) m1 m1 c.record_missing-others.new.members did.bank.same refl c.record_missing-others.ensures.keeps.moved)

pub returns-clause-failed : goal.returns-clause-failed
returns-clause-failed g c =
    let s = c.flush_and_record-spares.result in
    let t = c.record_missing-others.result in
    since-then (with_whole c.args.role c.args.slot c.args.members.now) c.flush_and_record-spares.new.members c.record_missing-others.new.members s t _ (g.B.Bank.faults_of c.args.bank.now) (g.B.Bank.faults_of c.flush_and_record-spares.new.bank)
    (g.B.Bank.faults_of c.record_missing-others.new.bank) c.flush_and_record-spares.ensures.bank.counts c.record_missing-others.ensures.keeps.bank.counts c.flush_and_record-spares.ensures.failed c.record_missing-others.ensures.keeps.failed (in-either s t)

pub returns-clause-grows : goal.returns-clause-grows
returns-clause-grows g c = grows-then c.flush_and_record-spares.ensures.bank.grows c.record_missing-others.ensures.keeps.bank.grows

pub returns-clause-others : goal.returns-clause-others
returns-clause-others g c =
    λ told s k other.
    let given = g.B.Bank.given c.args.bank.now in
    let did = c.flush_and_record-spares.ensures in
    let tape1 = g.B.Bank.tape c.flush_and_record-spares.new.bank in
    let tape2 = g.B.Bank.tape c.record_missing-others.new.bank in
    subst (λ (b : Given). AreOthersPresent (present b tape1) (present b tape2)) did.bank.same (c.record_missing-others.ensures.others told) s k other ∙ did.others told s k other

pub returns-clause-rise : goal.returns-clause-rise
returns-clause-rise g c = risen-then c.flush_and_record-spares.ensures.rise c.record_missing-others.ensures.keeps.rise

-- what was done before it keeps the array safe, by any ledger that tells what is missing then
module _ (g : Over) (c : After-record_missing-others g) (tell : g.B.Bank.tells) (world : World) (told : Ledger) (room : HasRoomLeft c.args.members.now (g.B.Bank.tape c.args.bank.now) (g.B.Bank.tape c.record_missing-others.new.bank))
    (gone : AreGoneTold told c.record_missing-others.new.members) where
  room-before : HasRoomLeft c.args.members.now (g.B.Bank.tape c.args.bank.now) (g.B.Bank.tape c.flush_and_record-spares.new.bank)
  room-before = room-first c.args.members.now (g.B.Bank.tape c.args.bank.now) (g.B.Bank.tape c.flush_and_record-spares.new.bank) (g.B.Bank.tape c.record_missing-others.new.bank) room (grows-longer c.record_missing-others.ensures.keeps.bank.grows tell)

  moved-last : IsMoved (g.B.Bank.given c.args.bank.now) c.flush_and_record-spares.new.members c.record_missing-others.new.members
  moved-last = moved-from (g.B.Bank.given c.args.bank.now) (g.B.Bank.given c.flush_and_record-spares.new.bank) c.flush_and_record-spares.new.members c.flush_and_record-spares.new.members c.record_missing-others.new.members
      c.flush_and_record-spares.ensures.bank.same refl c.record_missing-others.ensures.keeps.moved

  gone-mid : AreGoneTold told c.flush_and_record-spares.new.members
  gone-mid = gone-before (g.B.Bank.given c.args.bank.now) c.flush_and_record-spares.new.members c.record_missing-others.new.members c.flush_and_record-spares.ensures.moved.placed moved-last told gone

  -- and naming does
  named-then : IsUncleanTold told c.args.members.now → IsSafeOver world (g.B.Bank.given c.args.bank.now) told c.flush_and_record-spares.new.members (g.B.Bank.tape c.flush_and_record-spares.new.bank)
      → KeepsSafe world (g.B.Bank.given c.args.bank.now) told c.record_missing-others.new.members (g.B.Bank.tape c.flush_and_record-spares.new.bank) (g.B.Bank.tape c.record_missing-others.new.bank)
  named-then unclean now =
      let did = c.flush_and_record-spares.ensures in
      let m1 = c.flush_and_record-spares.new.members in
      let m2 = c.record_missing-others.new.members in
      let given = g.B.Bank.given c.args.bank.now in
      let given1 = g.B.Bank.given c.flush_and_record-spares.new.bank in
      let tape1 = g.B.Bank.tape c.flush_and_record-spares.new.bank in
      let tape2 = g.B.Bank.tape c.record_missing-others.new.bank in
      keeps-from world given given1 told m2 tape1 tape2 did.bank.same
      (c.record_missing-others.ensures.safe tell world told (room-then tape2 tell room did.rise) gone (λ dirty. unclean (sym did.clean ∙ dirty)) (over-at world given given1 told m1 tape1 did.bank.same now))

pub returns-clause-safe : goal.returns-clause-safe
returns-clause-safe g c =
    λ tell world told room gone here unclean premise does list stands allowed full now.
    let given = g.B.Bank.given c.args.bank.now in
    let tape0 = g.B.Bank.tape c.args.bank.now in
    let tape1 = g.B.Bank.tape c.flush_and_record-spares.new.bank in
    let tape2 = g.B.Bank.tape c.record_missing-others.new.bank in
    let kept = c.flush_and_record-spares.ensures.safe tell world told (room-before g c tell world told room gone) (gone-mid g c tell world told room gone) here unclean premise does list stands allowed full now in
    safe-then (OpensFit world) world.scope given told c.flush_and_record-spares.new.members c.record_missing-others.new.members tape0 tape1 tape2 kept (named-then g c tell world told room gone unclean kept.next)

but : (a b : Bool) → a ≡ true → b ≡ false → (a && not b) ≡ true
but true false is apart = refl
but true true is apart = absurd (cc)
but false b is apart = absurd (cc)

ne : (a b : ℕ) → (a ≡ b → ⊥) → (a == b) ≡ false
ne a b apart = grind (arith, nat_tests, apart)

-- a role that is missing isn't this one, which is whole
other : (m : Members) (r role : ℕ) {slot : ℕ} → is_missing (reading_of m) r ≡ true → role_state (reading_of m) role ≡ Whole slot → (r == role) ≡ false
other m r role miss whole = ne r role (λ same. (
    let clash : true ≡ false = sym miss ∙ ap (is_missing (reading_of m)) same ∙ ap (λ (s : Role). not (is_whole s)) whole in
    cc
    ))

-- where the role is whole still, no ledger need tell it gone

pub returns-clause-given_back : goal.returns-clause-given_back
returns-clause-given_back g c =
    λ whole tell world told room gone here unclean premise does list stands allowed full now.
    let role = c.args.role in
    let m2 = c.record_missing-others.new.members in
    let was : role_state (reading_of c.flush_and_record-spares.new.members) role ≡ Whole c.args.slot = sym (c.record_missing-others.ensures.keeps.moved.states role c.args.slot (ap holder whole)) ∙ whole in
    let back = c.flush_and_record-spares.ensures.given_back was tell world told (room-before g c tell world told room gone) (gone-mid g c tell world told room gone) here unclean premise does list stands allowed full now in
    let told_back : AreGoneTold (given_back role told) m2 = (λ r lt miss. but (told.gone r) (r == role) (gone r lt miss) (other m2 r role miss whole)) in
    (named-then g c tell world (given_back role told) room told_back unclean back).next

pub returns-clause-missing : goal.returns-clause-missing
returns-clause-missing g c = c.record_missing-others.ensures.missing

pub returns-clause-counts : goal.returns-clause-counts
returns-clause-counts g c =
    λ slot. le_trans (c.flush_and_record-spares.ensures.bank.counts slot) (c.record_missing-others.ensures.keeps.bank.counts slot)

pub flush_and_record-spares-requires-clause-stands : goal.flush_and_record-spares-requires-clause-stands
flush_and_record-spares-requires-clause-stands g c = record { slots = c.requires.slots; placed = c.requires.placed; unlost = c.requires.unlost; free = c.requires.free }

pub returns-clause-given : goal.returns-clause-given
returns-clause-given g c = c.record_missing-others.ensures.keeps.bank.same ∙ c.flush_and_record-spares.ensures.bank.same
