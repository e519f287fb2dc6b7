use Rattle.std.proofs.Common.{ℕ, ◌≤◌, refl, sym, ◌∙◌, ap, subst, arith}
use Rattle.sb_update.specs.bank_Given.{Given}
use Rattle.sb_update.specs.bank_Tape.{Contents, disk}
use Rattle.raid_layout.specs.raid_types_Sectors.{Sector}
use Rattle.sb_update.specs.sb_specs_the_Members.{Members}
use Rattle.sb_update.specs.sb_specs_Reading.{holder}
use Rattle.array_members.specs.stripe_row_Rows.{present}
use Rattle.array_members.specs.history_World.{World}
use Rattle.array_members.specs.history_Sound.{OpensFit}
use Rattle.array_members.specs.Flushing.{OnlyFlushesAdded}
use Rattle.array_members.specs.crash_safety_laws_Marking.{AreOthersPresent}
use Rattle.array_members.specs.Lacking.{RowsStand}
use Rattle.array_members.specs.Rebuilding.{with_whole, AreRowsFull, IsFlushedFull}
use Rattle.array_members.specs.crash_safety_laws_Safety.{HasRoomLeft}
use Rattle.array_members.specs.crash_views_Views.{Ledger}
use Rattle.array_members.specs.crash_safety_laws_Steady.{IsSafeOver, KeepsSafe, IsUncleanTold, given_back}
use Rattle.array_members.proofs.Flushed.{contents-added}
use Rattle.array_members.proofs.MarkedSafe.{flushed-safe, lost-safe, added-longer}
use Rattle.array_members.proofs.crash_safety_laws_Risen.{risen-none, risen-lost, risen-then, room-then}
use Rattle.array_members.proofs.SafeStretch.{safe-then, over-at, keeps-from}
use Rattle.array_members.proofs.Fit.{few}
use Rattle.sb_safe_updates.proofs.WholeFlushed.{flush-added, ok-of, flushed-full, since-earlier, lost-moved, mid-placed, mid-free, out, failed-moved, failed-since}
use Rattle.sb_safe_updates.specs.Frame.{Stands, GoesOn}
use Rattle.sb_safe_updates.proofs.giving.flush_and_record.Given.{Over}
use Rattle.sb_safe_updates.proofs.giving.flush_and_record.Goals.{After-make_whole}
use Rattle.sb_safe_updates.proofs.FrameLaws.{goes-then}
use Rattle.sb_safe_updates.proofs.giving.flush_and_record.Goals as goal

pub flush-requires : goal.flush-requires
flush-requires g c = (c.requires.stands.placed.holders c.args.role c.args.slot (ap holder c.requires.recovering)).known

pub lose_slot-requires-clause-slot : goal.lose_slot-requires-clause-slot
lose_slot-requires-clause-slot g c = (c.requires.stands.placed.holders c.args.role c.args.slot (ap holder c.requires.recovering)).small

pub lose_slot-requires-clause-small : goal.lose_slot-requires-clause-small
lose_slot-requires-clause-small g c role slot held = (c.requires.stands.placed.holders role slot held).small

-- ---- where the slot failed

pub record_missing-requires : goal.record_missing-requires
record_missing-requires g c = record {
  stands = record {
    slots = subst (λ (b : Given). b.slots ≤ 32) (sym c.flush.ensures.given) c.requires.stands.slots;
    placed = mid-placed (g.B.Bank.given c.args.bank.now) (g.B.Bank.given c.flush.new.self) c.args.members.now c.lose_slot.new.members c.lose_slot.result c.args.role c.args.slot
        c.requires.stands.placed c.requires.stands.unlost c.requires.stands.free c.requires.role c.requires.recovering c.flush.ensures.given c.lose_slot.ensures.members c.lose_slot.ensures.alone;
    unlost = (lost-moved (g.B.Bank.given c.args.bank.now) (g.B.Bank.given c.flush.new.self) c.args.members.now c.lose_slot.new.members c.lose_slot.result c.args.role c.args.slot
        c.requires.stands.placed c.requires.stands.unlost c.requires.stands.free c.requires.role c.requires.recovering c.flush.ensures.given c.lose_slot.ensures.members c.lose_slot.ensures.alone).unlost;
    free = mid-free (g.B.Bank.given c.args.bank.now) (g.B.Bank.given c.flush.new.self) c.args.members.now c.lose_slot.new.members c.lose_slot.result c.args.role c.args.slot
        c.requires.stands.placed c.requires.stands.unlost c.requires.stands.free c.requires.role c.requires.recovering c.flush.ensures.given c.lose_slot.ensures.members c.lose_slot.ensures.alone;
  };
}

pub returns-then-is_err-clause-moved : goal.returns-then-is_err-clause-moved
returns-then-is_err-clause-moved g c = failed-moved (g.B.Bank.given c.args.bank.now) (g.B.Bank.given c.flush.new.self) c.args.members.now c.lose_slot.new.members c.lose_slot.result c.args.role c.args.slot
    c.requires.stands.placed c.requires.stands.unlost c.requires.stands.free c.requires.role c.requires.recovering c.flush.ensures.given c.lose_slot.ensures.members c.lose_slot.ensures.alone
    c.record_missing.new.members c.record_missing.ensures.keeps.moved c.requires.few

pub returns-then-is_err-clause-failed : goal.returns-then-is_err-clause-failed
returns-then-is_err-clause-failed g c = failed-since (g.B.Bank.given c.args.bank.now) (g.B.Bank.given c.flush.new.self) c.args.members.now c.lose_slot.new.members c.lose_slot.result c.args.role c.args.slot
    c.requires.stands.placed c.requires.stands.unlost c.requires.stands.free c.requires.role c.requires.recovering c.flush.ensures.given c.lose_slot.ensures.members c.lose_slot.ensures.alone
    c.record_missing.new.members c.record_missing.ensures.keeps.moved c.record_missing.result (g.B.Bank.faults_of c.args.bank.now) (g.B.Bank.faults_of c.flush.new.self) (g.B.Bank.faults_of c.record_missing.new.bank)
    c.flush.ensures.cause.never_falls c.record_missing.ensures.keeps.bank.counts (c.flush.ensures.cause.failed (sym c.is_err.ensures.value ∙ c.if-is_err.true)) c.record_missing.ensures.keeps.failed

pub returns-then-is_err-clause-rise : goal.returns-then-is_err-clause-rise
returns-then-is_err-clause-rise g c =
    let tape0 = g.B.Bank.tape c.args.bank.now in
    let tape1 = g.B.Bank.tape c.flush.new.self in
    risen-then (risen-lost c.args.members.now c.lose_slot.new.members c.lose_slot.result tape0 tape1 c.lose_slot.ensures.members
    (λ tell. added-longer tape0 tape1 (flush-added c.args.slot c.flush.ensures.did tell))) c.record_missing.ensures.keeps.rise

pub returns-then-is_err-clause-safe : goal.returns-then-is_err-clause-safe
returns-then-is_err-clause-safe g c = λ tell world told room gone here unclean premise does list stands allowed full now.
    let m = c.args.members.now in
    let n = c.lose_slot.new.members in
    let given = g.B.Bank.given c.args.bank.now in
    let given1 = g.B.Bank.given c.flush.new.self in
    let tape0 = g.B.Bank.tape c.args.bank.now in
    let tape1 = g.B.Bank.tape c.flush.new.self in
    let tape2 = g.B.Bank.tape c.record_missing.new.bank in
    let is = c.lose_slot.ensures.members in
    let added : g.B.Bank.tells → OnlyFlushesAdded tape0 tape1 = flush-added c.args.slot c.flush.ensures.did in
    let lost = lost-safe (OpensFit world) world.scope given told m n c.lose_slot.result tape0 tape1 is (added tell) now in
    safe-then (OpensFit world) world.scope given told n c.record_missing.new.members tape0 tape1 tape2 lost
    (keeps-from world given given1 told c.record_missing.new.members tape1 tape2 c.flush.ensures.given
    (c.record_missing.ensures.safe tell world told
    (room-then tape2 tell room (risen-lost m n c.lose_slot.result tape0 tape1 is (λ t. added-longer tape0 tape1 (added t)))) gone
    (subst (λ (x : Members). IsUncleanTold told x) (sym is) unclean) (over-at world given given1 told n tape1 c.flush.ensures.given lost.next)))

pub returns-then-is_err-clause-given_back : goal.returns-then-is_err-clause-given_back
returns-then-is_err-clause-given_back g c = λ whole tell world told room gone here unclean premise does list stands allowed full now.
    absurd (out (g.B.Bank.given c.args.bank.now) (g.B.Bank.given c.flush.new.self) c.args.members.now c.lose_slot.new.members c.lose_slot.result c.args.role c.args.slot
    c.requires.stands.placed c.requires.stands.unlost c.requires.stands.free c.requires.role c.requires.recovering c.flush.ensures.given c.lose_slot.ensures.members c.lose_slot.ensures.alone
    c.record_missing.new.members c.record_missing.ensures.keeps.moved c.args.role c.args.slot (ap holder whole) refl)

-- ---- where it was flushed

pub returns-clause-failed : goal.returns-clause-failed
returns-clause-failed g c = since-earlier (with_whole c.args.role c.args.slot c.args.members.now) c.make_whole.new.members c.make_whole.result
    (g.B.Bank.faults_of c.args.bank.now) (g.B.Bank.faults_of c.flush.new.self) (g.B.Bank.faults_of c.make_whole.new.bank) c.flush.ensures.cause.never_falls c.make_whole.ensures.bank.counts c.make_whole.ensures.failed

pub returns-clause-bank : goal.returns-clause-bank
returns-clause-bank g c =
    let flushed : GoesOn g.B.Bank.tells g.B.Bank.given g.B.Bank.tape g.B.Bank.faults_of c.args.bank.now c.flush.new.self = record {
      same = c.flush.ensures.given;
      grows = record { more = λ told. let added = flush-added c.args.slot c.flush.ensures.did told in (added.0, added.2) };
      counts = c.flush.ensures.cause.never_falls;
    } in
    goes-then flushed c.make_whole.ensures.bank

pub returns-clause-others : goal.returns-clause-others
returns-clause-others g c = λ told s k other.
    let given = g.B.Bank.given c.args.bank.now in
    let tape0 = g.B.Bank.tape c.args.bank.now in
    let tape1 = g.B.Bank.tape c.flush.new.self in
    let tape2 = g.B.Bank.tape c.make_whole.new.bank in
    subst (λ (b : Given). AreOthersPresent (present b tape1) (present b tape2)) c.flush.ensures.given (c.make_whole.ensures.others told) s k other
    ∙ ap (λ (d : Contents). d s k) (contents-added given.start tape0 tape1 (flush-added c.args.slot c.flush.ensures.did told))

pub returns-clause-rise : goal.returns-clause-rise
returns-clause-rise g c =
    let tape0 = g.B.Bank.tape c.args.bank.now in
    let tape1 = g.B.Bank.tape c.flush.new.self in
    risen-then (risen-none c.args.members.now tape0 tape1 (λ tell. added-longer tape0 tape1 (flush-added c.args.slot c.flush.ensures.did tell))) c.make_whole.ensures.rise

-- the rows stand as they did
module _ (g : Over) (c : After-make_whole g) (tell : g.B.Bank.tells) (list : ℕ → Sector) where
  stands-then : RowsStand c.args.members.now (present (g.B.Bank.given c.args.bank.now) (g.B.Bank.tape c.args.bank.now)) list
      → RowsStand c.args.members.now (present (g.B.Bank.given c.flush.new.self) (g.B.Bank.tape c.flush.new.self)) list
  stands-then stands =
      subst (λ (b : Given). RowsStand c.args.members.now (present b (g.B.Bank.tape c.flush.new.self)) list) (sym c.flush.ensures.given)
      (subst (λ (d : Contents). RowsStand c.args.members.now d list)
      (sym (contents-added (g.B.Bank.given c.args.bank.now).start (g.B.Bank.tape c.args.bank.now) (g.B.Bank.tape c.flush.new.self) (flush-added c.args.slot c.flush.ensures.did tell))) stands)

  full-then : AreRowsFull c.args.members.now c.args.role c.args.slot list (present (g.B.Bank.given c.args.bank.now) (g.B.Bank.tape c.args.bank.now))
      → IsFlushedFull c.args.members.now c.args.role c.args.slot list (disk (g.B.Bank.given c.flush.new.self).start (g.B.Bank.tape c.flush.new.self))
  full-then full =
      subst (λ (b : Given). IsFlushedFull c.args.members.now c.args.role c.args.slot list (disk b.start (g.B.Bank.tape c.flush.new.self))) (sym c.flush.ensures.given)
      (flushed-full (g.B.Bank.given c.args.bank.now) c.args.members.now c.args.role c.args.slot list (g.B.Bank.tape c.args.bank.now) (g.B.Bank.tape c.flush.new.self)
      (c.flush.ensures.did.all tell (ok-of c.flush.result (sym c.is_err.ensures.value ∙ c.if-is_err.false))) full)

  room-after : HasRoomLeft c.args.members.now (g.B.Bank.tape c.args.bank.now) (g.B.Bank.tape c.make_whole.new.bank) → HasRoomLeft c.args.members.now (g.B.Bank.tape c.flush.new.self) (g.B.Bank.tape c.make_whole.new.bank)
  room-after room = room-then (g.B.Bank.tape c.make_whole.new.bank) tell room
      (risen-none c.args.members.now (g.B.Bank.tape c.args.bank.now) (g.B.Bank.tape c.flush.new.self)
      (λ t. added-longer (g.B.Bank.tape c.args.bank.now) (g.B.Bank.tape c.flush.new.self) (flush-added c.args.slot c.flush.ensures.did t)))

  flushed : (world : World) (told : Ledger) → IsSafeOver world (g.B.Bank.given c.args.bank.now) told c.args.members.now (g.B.Bank.tape c.args.bank.now)
      → KeepsSafe world (g.B.Bank.given c.args.bank.now) told c.args.members.now (g.B.Bank.tape c.args.bank.now) (g.B.Bank.tape c.flush.new.self)
  flushed world told now = flushed-safe (OpensFit world) world.scope (g.B.Bank.given c.args.bank.now) told c.args.members.now (g.B.Bank.tape c.args.bank.now) (g.B.Bank.tape c.flush.new.self)
      (flush-added c.args.slot c.flush.ensures.did tell) now

pub returns-clause-safe : goal.returns-clause-safe
returns-clause-safe g c = λ tell world told room gone here unclean premise does list stands allowed full now.
    let m = c.args.members.now in
    let n = c.make_whole.new.members in
    let given = g.B.Bank.given c.args.bank.now in
    let given1 = g.B.Bank.given c.flush.new.self in
    let tape0 = g.B.Bank.tape c.args.bank.now in
    let tape1 = g.B.Bank.tape c.flush.new.self in
    let tape2 = g.B.Bank.tape c.make_whole.new.bank in
    let kept = flushed g c tell list world told now in
    safe-then (OpensFit world) world.scope given told m n tape0 tape1 tape2 kept
    (keeps-from world given given1 told n tape1 tape2 c.flush.ensures.given
    (c.make_whole.ensures.safe tell world told (room-after g c tell list room) gone here unclean premise does list (stands-then g c tell list stands) allowed (full-then g c tell list full)
    (over-at world given given1 told m tape1 c.flush.ensures.given kept.next)))

pub returns-clause-given_back : goal.returns-clause-given_back
returns-clause-given_back g c = λ whole tell world told room gone here unclean premise does list stands allowed full now.
    let given = g.B.Bank.given c.args.bank.now in
    let given1 = g.B.Bank.given c.flush.new.self in
    let tape1 = g.B.Bank.tape c.flush.new.self in
    let tape2 = g.B.Bank.tape c.make_whole.new.bank in
    let kept = flushed g c tell list world told now in
    subst (λ (b : Given). IsSafeOver world b (given_back c.args.role told) c.make_whole.new.members tape2) c.flush.ensures.given
    (c.make_whole.ensures.given_back whole tell world told (room-after g c tell list room) gone here unclean premise does list (stands-then g c tell list stands) allowed (full-then g c tell list full)
    (over-at world given given1 told c.args.members.now tape1 c.flush.ensures.given kept.next))

pub lose_slot-requires-clause-few : goal.lose_slot-requires-clause-few
lose_slot-requires-clause-few g c = let most = few (g.B.Bank.given c.args.bank.now) c.args.members.now c.requires.stands.placed in omega (arith, most)

pub make_whole-requires-clause-stands : goal.make_whole-requires-clause-stands
make_whole-requires-clause-stands g c = subst (λ (b : Given). Stands b c.args.members.now) (sym c.flush.ensures.given) c.requires.stands

pub returns-then-is_err-clause-bank : goal.returns-then-is_err-clause-bank
returns-then-is_err-clause-bank g c =
    let flushed : GoesOn g.B.Bank.tells g.B.Bank.given g.B.Bank.tape g.B.Bank.faults_of c.args.bank.now c.flush.new.self = record {
      same = c.flush.ensures.given;
      grows = record { more = λ told. let added = flush-added c.args.slot c.flush.ensures.did told in (added.0, added.2) };
      counts = c.flush.ensures.cause.never_falls;
    } in
    goes-then flushed c.record_missing.ensures.keeps.bank
