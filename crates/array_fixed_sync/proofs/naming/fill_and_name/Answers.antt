use Rattle.std.proofs.Common.{◌≡◌, inl, inr, ℕ, ◌<◌, ◌||◌, Bool, true, false, not, Some, None, Option, is_some, refl, sym, ◌∙◌, ap, subst, arith, ⊎_elim, ◌≤◌}
use Rattle.array_fixed_io.specs.bank_Given.{Given}
use Rattle.array_fixed_io.specs.raid_types_the_Refusal.{Refusal}
use Rattle.array_fixed_io.specs.raid_types_the_Shape.{Shape}
use Rattle.array_fixed_io.specs.raid_types_the_Role.{Role}
use Rattle.array_fixed_io.specs.raid_types_the_Role_TheVariants.{Recovering}
use Rattle.array_fixed_io.specs.sb_specs_the_Members.{Members}
use Rattle.array_fixed_io.specs.sb_specs_Reading.{holder, role_state, shape_of}
use Rattle.array_fixed_io.specs.stripe_row_Rows.{reading_of, present}
use Rattle.array_fixed_io.specs.history_Sound.{OpensFit}
use Rattle.array_fixed_io.specs.crash_safety_laws_Marking.{AreOthersPresent}
use Rattle.array_fixed_io.proofs.crash_safety_laws_Risen.{risen-then, room-first, room-then}
use Rattle.array_fixed_io.specs.array_members_Placed.{IsPlaced, is_unassigned}
use Rattle.array_fixed_io.specs.array_members_Rebuilding.{AreSparesFree}
use Rattle.array_fixed_io.proofs.array_members_LackingLaws.{since-then, in-either}
use Rattle.array_fixed_io.proofs.array_members_MovedLaws.{grows-then, moved-then, moved-from}
use Rattle.array_fixed_io.proofs.array_members_SafeStretch.{gone-before, safe-then, grows-longer, over-at, keeps-from}
use Rattle.std.proofs.Math.Nat.{le_trans}
use Rattle.array_fixed_io.proofs.array_call_specs_DegradedLaws.{within-count}
use Rattle.array_fixed_sync.proofs.naming.fill_and_name.Goals as goal

-- of two tests that fail the second fails
second : (a b : Bool) → (a || not b) ≡ false → b ≡ true
second true b e = absurd (cc)
second false true e = refl
second false false e = absurd (cc)

first : (a b : Bool) → (a || b) ≡ false → a ≡ false
first true b e = absurd (cc)
first false b e = refl

none-of : (o : Option Refusal) → is_some o ≡ false → o ≡ None
none-of None e = refl
none-of (Some refusal) e = absurd (cc)

-- a role that no slot holds recovers on none
vacant-not : (m : Members) (role slot : ℕ) → is_unassigned (reading_of m) role ≡ true → role_state (reading_of m) role ≡ Recovering slot → ⊥
vacant-not m role slot vacant recovers = (let clash : true ≡ false = sym vacant ∙ ap (λ (s : Role). not (is_some (holder s))) recovers in cc)

neither : (a b : Bool) → (a || not b) ≡ true → a ≡ false → b ≡ true → ⊥
neither true b e is has = cc
neither false true e is has = cc
neither false false e is has = cc

pub is_unassigned-requires : goal.is_unassigned-requires
is_unassigned-requires g c =
    let did = c.fill-filled.ensures in
    let given = g.B.Bank.given c.args.bank.now in
    let below : c.args.role < (shape_of c.fill-filled.new.members.newest).disks = subst (λ (s : Shape). c.args.role < s.disks) (c.requires.shape ∙ sym did.keeps.moved.shape) c.requires.role in
    let counted = within-count given c.fill-filled.new.members did.keeps.moved.placed c.args.role below in
    let long = did.keeps.moved.placed.roles in
    omega (arith, counted, long)

-- ---- the slot is there, or it isn't filled

pub returns-then-is_some-is_unassigned-clause-missing : goal.returns-then-is_some-is_unassigned-clause-missing
returns-then-is_some-is_unassigned-clause-missing g c =
    λ none vacant live.
    absurd (neither c.is_some.result c.is_unassigned.result c.if-is_some-is_unassigned.true (c.is_some.ensures ∙ ap (λ (o : Option Refusal). is_some o) none) (c.is_unassigned.ensures ∙ vacant))

pub returns-then-is_some-is_unassigned-clause-counts : goal.returns-then-is_some-is_unassigned-clause-counts
returns-then-is_some-is_unassigned-clause-counts g c = c.fill-filled.ensures.keeps.bank.counts

-- ---- it is lost

pub record_missing-others-requires : goal.record_missing-others-requires
record_missing-others-requires g c =
    let did = c.fill-filled.ensures in
    record {
      stands = record {
        slots = subst (λ (b : Given). b.slots ≤ 32) (sym c.fill-filled.ensures.keeps.bank.same) c.requires.slots;
        placed = subst (λ (b : Given). IsPlaced b c.fill-filled.new.members) (sym did.keeps.bank.same) did.keeps.moved.placed;
        unlost = c.fill-filled.ensures.keeps.moved.unlost;
        free = subst (λ (b : Given). AreSparesFree b c.fill-filled.new.members) (sym did.keeps.bank.same) (did.keeps.moved.free c.requires.free);
      };
    }

pub returns-clause-moved : goal.returns-clause-moved
returns-clause-moved g c =
    let m1 = c.fill-filled.new.members in
    let did = c.fill-filled.ensures in
    moved-then (g.B.Bank.given c.args.bank.now) c.args.members.now m1 c.record_missing-others.new.members did.keeps.moved
    (moved-from (g.B.Bank.given c.args.bank.now) (g.B.Bank.given c.fill-filled.new.bank) m1 m1 c.record_missing-others.new.members did.keeps.bank.same refl c.record_missing-others.ensures.keeps.moved)

pub returns-clause-failed : goal.returns-clause-failed
returns-clause-failed g c =
    let s = c.fill-filled.result.spares in
    let t = c.record_missing-others.result in
    since-then c.args.members.now c.fill-filled.new.members c.record_missing-others.new.members s t _ (g.B.Bank.faults_of c.args.bank.now) (g.B.Bank.faults_of c.fill-filled.new.bank)
    (g.B.Bank.faults_of c.record_missing-others.new.bank) c.fill-filled.ensures.keeps.bank.counts c.record_missing-others.ensures.keeps.bank.counts c.fill-filled.ensures.keeps.failed c.record_missing-others.ensures.keeps.failed (in-either s t)

pub returns-clause-grows : goal.returns-clause-grows
returns-clause-grows g c = grows-then c.fill-filled.ensures.keeps.bank.grows c.record_missing-others.ensures.keeps.bank.grows

-- it recovers on no slot then

pub returns-clause-filled : goal.returns-clause-filled
returns-clause-filled g c =
    λ none recovers.
    let vacant = sym c.is_unassigned.ensures ∙ second c.is_some.result c.is_unassigned.result c.if-is_some-is_unassigned.false in
    absurd (vacant-not c.fill-filled.new.members c.args.role c.args.slot vacant (sym (c.record_missing-others.ensures.keeps.moved.states c.args.role c.args.slot (ap holder recovers)) ∙ recovers))

pub returns-clause-others : goal.returns-clause-others
returns-clause-others g c =
    λ told s k other.
    let given = g.B.Bank.given c.args.bank.now in
    let did = c.fill-filled.ensures in
    let tape1 = g.B.Bank.tape c.fill-filled.new.bank in
    let tape2 = g.B.Bank.tape c.record_missing-others.new.bank in
    let same = subst (λ (b : Given). AreOthersPresent (present b tape1) (present b tape2)) did.keeps.bank.same (c.record_missing-others.ensures.others told) s k other in
    ⊎_elim (λ was. inl (same ∙ was)) (λ place. inr place) (did.others told s k other)

pub returns-clause-rise : goal.returns-clause-rise
returns-clause-rise g c = risen-then c.fill-filled.ensures.keeps.rise c.record_missing-others.ensures.keeps.rise

pub returns-clause-safe : goal.returns-clause-safe
returns-clause-safe g c =
    λ tell world told room gone unclean now.
    let m = c.args.members.now in
    let m1 = c.fill-filled.new.members in
    let m2 = c.record_missing-others.new.members in
    let given = g.B.Bank.given c.args.bank.now in
    let given1 = g.B.Bank.given c.fill-filled.new.bank in
    let tape0 = g.B.Bank.tape c.args.bank.now in
    let tape1 = g.B.Bank.tape c.fill-filled.new.bank in
    let tape2 = g.B.Bank.tape c.record_missing-others.new.bank in
    let did = c.fill-filled.ensures in
    let next = c.record_missing-others.ensures in
    let moved2 = moved-from given given1 m1 m1 m2 did.keeps.bank.same refl next.keeps.moved in
    let kept = did.safe tell world told (room-first m tape0 tape1 tape2 room (grows-longer next.keeps.bank.grows tell)) (gone-before given m1 m2 did.keeps.moved.placed moved2 told gone) unclean now in
    safe-then (OpensFit world) world.scope given told m1 m2 tape0 tape1 tape2 kept
    (keeps-from world given given1 told m2 tape1 tape2 did.keeps.bank.same
    (next.safe tell world told (room-then tape2 tell room did.keeps.rise) gone (λ dirty. unclean (sym did.clean ∙ dirty)) (over-at world given given1 told m1 tape1 did.keeps.bank.same kept.next)))

pub returns-clause-missing : goal.returns-clause-missing
returns-clause-missing g c = λ none vacant. c.record_missing-others.ensures.missing

pub returns-clause-counts : goal.returns-clause-counts
returns-clause-counts g c = λ slot. le_trans (c.fill-filled.ensures.keeps.bank.counts slot) (c.record_missing-others.ensures.keeps.bank.counts slot)

pub returns-clause-buffer : goal.returns-clause-buffer
returns-clause-buffer g c = c.fill-filled.ensures.buffer

pub fill-filled-requires-clause-stands : goal.fill-filled-requires-clause-stands
fill-filled-requires-clause-stands g c = record { slots = c.requires.slots; placed = c.requires.placed; unlost = c.requires.unlost; free = c.requires.free }

pub returns-clause-given : goal.returns-clause-given
returns-clause-given g c = c.record_missing-others.ensures.keeps.bank.same ∙ c.fill-filled.ensures.keeps.bank.same

pub returns-then-is_some-is_unassigned-clause-moved : goal.returns-then-is_some-is_unassigned-clause-moved
returns-then-is_some-is_unassigned-clause-moved g c = c.fill-filled.ensures.keeps.moved

pub returns-then-is_some-is_unassigned-clause-failed : goal.returns-then-is_some-is_unassigned-clause-failed
returns-then-is_some-is_unassigned-clause-failed g c = c.fill-filled.ensures.keeps.failed

pub returns-then-is_some-is_unassigned-clause-grows : goal.returns-then-is_some-is_unassigned-clause-grows
returns-then-is_some-is_unassigned-clause-grows g c = c.fill-filled.ensures.keeps.bank.grows

pub returns-then-is_some-is_unassigned-clause-rise : goal.returns-then-is_some-is_unassigned-clause-rise
returns-then-is_some-is_unassigned-clause-rise g c = c.fill-filled.ensures.keeps.rise

pub returns-then-is_some-is_unassigned-clause-given : goal.returns-then-is_some-is_unassigned-clause-given
returns-then-is_some-is_unassigned-clause-given g c = c.fill-filled.ensures.keeps.bank.same
