use Rattle.std.proofs.Common.{◌≡◌, Bool, true, false, Option, refl, sym, ◌∙◌, subst, inl, ℕ}
use Rattle.std.specs.Prelude.{MatchOption}
use Rattle.reshape_window_rows.specs.raid_types_the_Refusal.{Refusal}
use Rattle.reshape_window_rows.specs.raid_types_the_Shape.{Shape}
use Rattle.reshape_window_rows.specs.sb_specs_Reading.{final_shape}
use Rattle.reshape_window_rows.specs.bank_Given.{Given}
use Rattle.reshape_window_rows.specs.stripe_row_Rows.{present}
use Rattle.reshape_window_rows.specs.history_Sound.{OpensFit}
use Rattle.reshape_window_rows.specs.crash_views_Regions.{DoWithout}
use Rattle.reshape_window_rows.specs.crash_safety_laws_Marking.{AreOthersPresent}
use Rattle.reshape_window_rows.proofs.crash_safety_laws_Risen.{room-then}
use Rattle.reshape_window_rows.specs.array_members_Moving.{IsMoved}
use Rattle.reshape_window_rows.specs.array_members_Lacking.{DoesWithout, AreTooMany}
use Rattle.reshape_window_rows.proofs.array_members_HeldRows.{shape-without-before}
use Rattle.reshape_window_steps.specs.Copying.{IsOfStripeFrom, AreHeadersKept}
use Rattle.reshape_window_rows.proofs.array_members_MovedLaws.{moved-from}
use Rattle.reshape_window_rows.proofs.array_members_LackingLaws.{in-second}
use Rattle.reshape_window_rows.proofs.array_members_LackingWrites.{others-then, others-same}
use Rattle.reshape_window_rows.proofs.array_members_SafeStretch.{safe-then, over-at, keeps-from}
use Rattle.reshape_window_steps.proofs.CopyLaws.{row-later}
use Rattle.reshape_window_rows.specs.bank_Tape.{disk}
use Rattle.reshape_window_rows.proofs.sb_safe_updates_FrameLaws.{keeps-then, stands-on}
use Rattle.reshape_window_steps.proofs.zeroing.zero_part.Goals as goal

-- the first sector is none of those of a superblock
zero-apart : ◌≡◌ {A = ℕ} 0 8 → ⊥
zero-apart e = absurd (cc)

pub record_missing-spares-requires : goal.record_missing-spares-requires
record_missing-spares-requires g c = record { stands = stands-on c.zero_stretch-done.ensures.keeps c.requires.stands }

pub returns-clause-keeps : goal.returns-clause-keeps
returns-clause-keeps g c = keeps-then c.zero_stretch-done.ensures.keeps c.record_missing-spares.ensures.keeps (in-second c.record_missing-spares.result)

pub returns-clause-further : goal.returns-clause-further
returns-clause-further g c = λ none.
    let did = c.zero_stretch-done.ensures in
    let does : DoWithout c.record_missing-spares.new.members = subst (λ (o : Option Refusal). MatchOption o (DoWithout c.record_missing-spares.new.members) (AreTooMany c.record_missing-spares.new.members)) none c.too_many.ensures in
    let moved = c.record_missing-spares.ensures.keeps.moved in
    let final : c.args.shape.now ≡ final_shape c.record_missing-spares.new.members.newest = c.requires.shape ∙ sym did.keeps.moved.reshape.final ∙ sym moved.reshape.final in
    let few = shape-without-before (g.B.Bank.given c.zero_stretch-done.new.bank) c.zero_stretch-done.new.members c.record_missing-spares.new.members moved c.args.shape.now
    (subst (λ (s : Shape). DoesWithout s c.record_missing-spares.new.members) (sym final) does.final) in
    did.further (not-true c.zero_stretch-done.result.refused (λ is. did.refused is few))
  where
    not-true : (b : Bool) → (b ≡ true → ⊥) → b ≡ false
    not-true true never = absurd (never refl)
    not-true false never = refl

pub returns-clause-stands : goal.returns-clause-stands
returns-clause-stands g c = λ told list zeros row at.
    let given = g.B.Bank.given c.args.bank.now in
    let given1 = g.B.Bank.given c.zero_stretch-done.new.bank in
    let n = c.zero_stretch-done.new.members in
    let new = c.record_missing-spares.new.members in
    let did = c.zero_stretch-done.ensures in
    let named = c.record_missing-spares.ensures in
    let tape1 = g.B.Bank.tape c.zero_stretch-done.new.bank in
    let tape2 = g.B.Bank.tape c.record_missing-spares.new.bank in
    let moved : IsMoved given n new = moved-from given given1 n n new did.keeps.bank.same refl named.keeps.moved in
    let others : AreOthersPresent (present given tape1) (present given tape2) = subst (λ (b : Given). AreOthersPresent (present b tape1) (present b tape2)) did.keeps.bank.same (named.others told) in
    row-later given n new moved c.args.shape.now list row (present given tape1) (present given tape2)
    (others-same given (λ r. ⊥) n new (present given tape1) (present given tape2) moved did.keeps.moved.placed others row (λ none. none))
    (did.stands told list zeros row at)

pub returns-clause-others : goal.returns-clause-others
returns-clause-others g c = λ told.
    let given = g.B.Bank.given c.args.bank.now in
    let given1 = g.B.Bank.given c.zero_stretch-done.new.bank in
    let n = c.zero_stretch-done.new.members in
    let new = c.record_missing-spares.new.members in
    let did = c.zero_stretch-done.ensures in
    let named = c.record_missing-spares.ensures in
    let tape1 = g.B.Bank.tape c.zero_stretch-done.new.bank in
    let tape2 = g.B.Bank.tape c.record_missing-spares.new.bank in
    let moved : IsMoved given n new = moved-from given given1 n n new did.keeps.bank.same refl named.keeps.moved in
    let others : AreOthersPresent (present given tape1) (present given tape2) = subst (λ (b : Given). AreOthersPresent (present b tape1) (present b tape2)) did.keeps.bank.same (named.others told) in
    let among = IsOfStripeFrom c.args.shape.now c.args.stripe c.args.done c.args.shape.now.chunk in
    others-then given among c.args.members.now n new (present given (g.B.Bank.tape c.args.bank.now)) (present given tape1) (present given tape2) moved (did.others told)
    (others-same given among n new (present given tape1) (present given tape2) moved did.keeps.moved.placed others)

pub returns-clause-safe : goal.returns-clause-safe
returns-clause-safe g c = λ told world ledger room gone unclean safe.
    let given = g.B.Bank.given c.args.bank.now in
    let given1 = g.B.Bank.given c.zero_stretch-done.new.bank in
    let tape0 = g.B.Bank.tape c.args.bank.now in
    let tape1 = g.B.Bank.tape c.zero_stretch-done.new.bank in
    let tape2 = g.B.Bank.tape c.record_missing-spares.new.bank in
    let n = c.zero_stretch-done.new.members in
    let did = c.zero_stretch-done.ensures in
    let named = c.record_missing-spares.ensures in
    let one = did.safe told world ledger safe in
    safe-then (OpensFit world) world.scope given ledger n c.record_missing-spares.new.members tape0 tape1 tape2 one
    (keeps-from world given given1 ledger c.record_missing-spares.new.members tape1 tape2 did.keeps.bank.same
    (named.safe told world ledger (room-then tape2 told room did.keeps.rise) gone (λ dirty. unclean (sym did.clean ∙ dirty)) (over-at world given given1 ledger n tape1 did.keeps.bank.same one.next)))

pub returns-clause-headers : goal.returns-clause-headers
returns-clause-headers g c = λ told s v may.
    let did = c.zero_stretch-done.ensures in
    let tape1 = g.B.Bank.tape c.zero_stretch-done.new.bank in
    let tape2 = g.B.Bank.tape c.record_missing-spares.new.bank in
    let named : AreHeadersKept (disk (g.B.Bank.given c.args.bank.now).start tape1) (disk (g.B.Bank.given c.args.bank.now).start tape2) =
    subst (λ (b : Given). AreHeadersKept (disk b.start tape1) (disk b.start tape2)) did.keeps.bank.same (λ s1 v1 may1. c.record_missing-spares.ensures.rest told s1 0 v1 (inl zero-apart) may1) in
    did.headers told s v (named s v may)

-- ---- what the searches would find too, for longer

pub returns-clause-clean : goal.returns-clause-clean
returns-clause-clean g c = c.record_missing-spares.ensures.clean ∙ c.zero_stretch-done.ensures.clean

pub zero_stretch-done-requires-clause-slots : goal.zero_stretch-done-requires-clause-slots
zero_stretch-done-requires-clause-slots g c = c.requires.stands.slots

pub zero_stretch-done-requires-clause-placed : goal.zero_stretch-done-requires-clause-placed
zero_stretch-done-requires-clause-placed g c = c.requires.stands.placed

pub zero_stretch-done-requires-clause-unlost : goal.zero_stretch-done-requires-clause-unlost
zero_stretch-done-requires-clause-unlost g c = c.requires.stands.unlost
