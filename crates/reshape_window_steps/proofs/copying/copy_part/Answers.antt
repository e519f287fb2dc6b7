use Rattle.std.proofs.Common.{◌≡◌, Bool, true, false, Option, refl, sym, ◌∙◌, subst, ℕ}
use Rattle.std.specs.Prelude.{MatchOption}
use Rattle.reshape_window_rows.specs.raid_types_the_Refusal.{Refusal}
use Rattle.reshape_window_rows.specs.raid_types_the_Shape.{Shape}
use Rattle.reshape_window_rows.specs.sb_specs_Reading.{final_shape}
use Rattle.reshape_window_rows.specs.bank_Given.{Given}
use Rattle.reshape_window_rows.specs.bank_Tape.{EachMark, disk}
use Rattle.reshape_window_rows.proofs.stripe_row_Turns.{marks_last}
use Rattle.reshape_window_rows.specs.stripe_row_Rows.{present}
use Rattle.reshape_window_rows.specs.history_Sound.{OpensFit}
use Rattle.reshape_window_rows.specs.crash_views_Regions.{backup_of, DoWithout}
use Rattle.reshape_window_rows.specs.crash_safety_laws_Marking.{AreOthersPresent}
use Rattle.reshape_window_rows.proofs.crash_safety_laws_Risen.{room-then}
use Rattle.reshape_window_rows.specs.array_members_Moving.{IsMoved}
use Rattle.reshape_window_rows.specs.array_members_Lacking.{DoesWithout, AreTooMany}
use Rattle.reshape_window_rows.proofs.array_members_HeldRows.{shape-without-before}
use Rattle.reshape_window_rows.specs.sb_safe_updates_Named.{AreDataKept}
use Rattle.reshape_window_steps.specs.Copying.{IsOfStripeFrom}
use Rattle.reshape_window_rows.proofs.array_members_MovedLaws.{moved-from}
use Rattle.reshape_window_rows.proofs.array_members_LackingLaws.{in-second}
use Rattle.reshape_window_rows.proofs.array_members_LackingWrites.{others-then, others-same}
use Rattle.reshape_window_rows.proofs.array_members_SafeStretch.{safe-then, over-at, keeps-from}
use Rattle.reshape_window_steps.proofs.CopyLaws.{row-later, copyable-later, kept-less}
use Rattle.reshape_window_rows.proofs.sb_safe_updates_FrameLaws.{keeps-then, stands-on}
use Rattle.reshape_window_steps.proofs.copying.copy_part.Goals as goal

-- the first sector is none of those of a superblock
zero-apart : ◌≡◌ {A = ℕ} 0 8 → ⊥
zero-apart e = absurd (cc)

pub record_missing-spares-requires : goal.record_missing-spares-requires
record_missing-spares-requires g c = record { stands = stands-on c.copy_stretch-done.ensures.keeps c.requires.stands }

pub returns-clause-keeps : goal.returns-clause-keeps
returns-clause-keeps g c = keeps-then c.copy_stretch-done.ensures.keeps c.record_missing-spares.ensures.keeps (in-second c.record_missing-spares.result)

pub returns-clause-further : goal.returns-clause-further
returns-clause-further g c = λ none.
    let did = c.copy_stretch-done.ensures in
    let does : DoWithout c.record_missing-spares.new.members = subst (λ (o : Option Refusal). MatchOption o (DoWithout c.record_missing-spares.new.members) (AreTooMany c.record_missing-spares.new.members)) none c.too_many.ensures in
    let moved = c.record_missing-spares.ensures.keeps.moved in
    let final : c.args.shape.now ≡ final_shape c.record_missing-spares.new.members.newest = c.requires.shape ∙ sym did.keeps.moved.reshape.final ∙ sym moved.reshape.final in
    let few = shape-without-before (g.B.Bank.given c.copy_stretch-done.new.bank) c.copy_stretch-done.new.members c.record_missing-spares.new.members moved c.args.shape.now
    (subst (λ (s : Shape). DoesWithout s c.record_missing-spares.new.members) (sym final) does.final) in
    did.further (not-true c.copy_stretch-done.result.refused (λ is. did.refused is few))
  where
    not-true : (b : Bool) → (b ≡ true → ⊥) → b ≡ false
    not-true true never = absurd (never refl)
    not-true false never = refl

pub returns-clause-stands : goal.returns-clause-stands
returns-clause-stands g c = λ told list copied row at.
    let given = g.B.Bank.given c.args.bank.now in
    let given1 = g.B.Bank.given c.copy_stretch-done.new.bank in
    let n = c.copy_stretch-done.new.members in
    let new = c.record_missing-spares.new.members in
    let did = c.copy_stretch-done.ensures in
    let named = c.record_missing-spares.ensures in
    let tape1 = g.B.Bank.tape c.copy_stretch-done.new.bank in
    let tape2 = g.B.Bank.tape c.record_missing-spares.new.bank in
    let moved : IsMoved given n new = moved-from given given1 n n new did.keeps.bank.same refl named.keeps.moved in
    let others : AreOthersPresent (present given tape1) (present given tape2) = subst (λ (b : Given). AreOthersPresent (present b tape1) (present b tape2)) did.keeps.bank.same (named.others told) in
    row-later given n new moved c.args.shape.now list row (present given tape1) (present given tape2)
    (others-same given (λ r. ⊥) n new (present given tape1) (present given tape2) moved did.keeps.moved.placed others row (λ none. none))
    (did.stands told list copied row at)

pub returns-clause-others : goal.returns-clause-others
returns-clause-others g c = λ told.
    let given = g.B.Bank.given c.args.bank.now in
    let given1 = g.B.Bank.given c.copy_stretch-done.new.bank in
    let n = c.copy_stretch-done.new.members in
    let new = c.record_missing-spares.new.members in
    let did = c.copy_stretch-done.ensures in
    let named = c.record_missing-spares.ensures in
    let tape1 = g.B.Bank.tape c.copy_stretch-done.new.bank in
    let tape2 = g.B.Bank.tape c.record_missing-spares.new.bank in
    let moved : IsMoved given n new = moved-from given given1 n n new did.keeps.bank.same refl named.keeps.moved in
    let others : AreOthersPresent (present given tape1) (present given tape2) = subst (λ (b : Given). AreOthersPresent (present b tape1) (present b tape2)) did.keeps.bank.same (named.others told) in
    let among = IsOfStripeFrom c.args.shape.now c.args.stripe c.args.done c.args.shape.now.chunk in
    others-then given among c.args.members.now n new (present given (g.B.Bank.tape c.args.bank.now)) (present given tape1) (present given tape2) moved (did.others told)
    (others-same given among n new (present given tape1) (present given tape2) moved did.keeps.moved.placed others)

pub returns-clause-safe : goal.returns-clause-safe
returns-clause-safe g c = λ told world ledger room gone unclean able safe.
    let given = g.B.Bank.given c.args.bank.now in
    let given1 = g.B.Bank.given c.copy_stretch-done.new.bank in
    let tape0 = g.B.Bank.tape c.args.bank.now in
    let tape1 = g.B.Bank.tape c.copy_stretch-done.new.bank in
    let tape2 = g.B.Bank.tape c.record_missing-spares.new.bank in
    let n = c.copy_stretch-done.new.members in
    let did = c.copy_stretch-done.ensures in
    let named = c.record_missing-spares.ensures in
    let one = did.safe told world ledger able safe in
    safe-then (OpensFit world) world.scope given ledger n c.record_missing-spares.new.members tape0 tape1 tape2 one
    (keeps-from world given given1 ledger c.record_missing-spares.new.members tape1 tape2 did.keeps.bank.same
    (named.safe told world ledger (room-then tape2 told room did.keeps.rise) gone (λ dirty. unclean (sym did.clean ∙ dirty)) (over-at world given given1 ledger n tape1 did.keeps.bank.same one.next)))

pub returns-clause-copyable : goal.returns-clause-copyable
returns-clause-copyable g c = λ told world able.
    let given = g.B.Bank.given c.args.bank.now in
    let n = c.copy_stretch-done.new.members in
    let new = c.record_missing-spares.new.members in
    let did = c.copy_stretch-done.ensures in
    let named = c.record_missing-spares.ensures in
    let tape1 = g.B.Bank.tape c.copy_stretch-done.new.bank in
    let tape2 = g.B.Bank.tape c.record_missing-spares.new.bank in
    let kept = subst (λ (b : Given). EachMark g.B.Bank.tells b.start tape1 tape2 (AreDataKept (disk b.start tape1))) did.keeps.bank.same named.«data» in
    let last = marks_last kept told in
    copyable-later world.scope n new named.keeps.moved.reshape named.keeps.moved.shape named.keeps.moved.size c.args.span.now (disk given.start tape1) (disk given.start tape2)
    (λ header may. kept-less (disk given.start tape1 (backup_of world.scope) 0) (disk given.start tape2 (backup_of world.scope) 0) (last (backup_of world.scope) 0 zero-apart) header may)
    (did.copyable told world able)

pub returns-clause-headers : goal.returns-clause-headers
returns-clause-headers g c = λ told s v may.
    let given = g.B.Bank.given c.args.bank.now in
    let did = c.copy_stretch-done.ensures in
    let tape1 = g.B.Bank.tape c.copy_stretch-done.new.bank in
    let tape2 = g.B.Bank.tape c.record_missing-spares.new.bank in
    let kept = subst (λ (b : Given). EachMark g.B.Bank.tells b.start tape1 tape2 (AreDataKept (disk b.start tape1))) did.keeps.bank.same c.record_missing-spares.ensures.«data» in
    let last = marks_last kept told in
    did.headers told s v (kept-less (disk given.start tape1 s 0) (disk given.start tape2 s 0) (last s 0 zero-apart) v may)

-- ---- what the searches would find too, for longer

pub returns-clause-clean : goal.returns-clause-clean
returns-clause-clean g c = c.record_missing-spares.ensures.clean ∙ c.copy_stretch-done.ensures.clean

pub copy_stretch-done-requires-clause-slots : goal.copy_stretch-done-requires-clause-slots
copy_stretch-done-requires-clause-slots g c = c.requires.stands.slots

pub copy_stretch-done-requires-clause-placed : goal.copy_stretch-done-requires-clause-placed
copy_stretch-done-requires-clause-placed g c = c.requires.stands.placed

pub copy_stretch-done-requires-clause-unlost : goal.copy_stretch-done-requires-clause-unlost
copy_stretch-done-requires-clause-unlost g c = c.requires.stands.unlost
