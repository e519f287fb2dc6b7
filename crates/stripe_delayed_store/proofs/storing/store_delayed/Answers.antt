use Rattle.std.proofs.Common.{◌≡◌, refl, sym, ◌∙◌, subst, le_trans}
use Rattle.std.specs.Prelude.{Option, Some, None, MatchOption, ⊤}
use Rattle.sb_safe_updates.specs.bank_Given.{Given}
use Rattle.sb_safe_updates.specs.stripe_row_Rows.{present}
use Rattle.sb_safe_updates.specs.crash_safety_laws_Marking.{AreOthersPresent}
use Rattle.sb_safe_updates.specs.Frame.{Stands}
use Rattle.sb_safe_updates.specs.history_Sound.{OpensFit}
use Rattle.sb_safe_updates.proofs.array_members_MovedLaws.{moved-then, moved-from, grows-then}
use Rattle.sb_safe_updates.proofs.array_members_LackingLaws.{since-then, in-second}
use Rattle.sb_safe_updates.proofs.array_members_LackingWrites.{others-then, others-same}
use Rattle.sb_safe_updates.proofs.crash_safety_laws_Risen.{risen-then, room-then}
use Rattle.sb_safe_updates.proofs.array_members_SafeStretch.{safe-then, over-at, keeps-from}
use Rattle.stripe_delayed_store.proofs.StoredLaws.{full-stays, rebuilt-stays}
use mathlib.Core.List.{not-mem-nil}
use Rattle.stripe_delayed_store.proofs.storing.store_delayed.Goals as goal

pub record_missing-spares-requires : goal.record_missing-spares-requires
record_missing-spares-requires g c =
    let did = c.store_one-refusal.ensures in
    record {
      stands = subst (λ (b : Given). Stands b c.store_one-refusal.new.members) (sym did.given)
          (record { slots = c.requires.slots; placed = did.moved.placed; unlost = did.moved.unlost; free = did.moved.free c.requires.free });
    }

pub is_some-requires : goal.is_some-requires
is_some-requires g c κs a has = absurd (not-mem-nil has)

-- where it is refused
refused-some : {A : Type 0} (P : Type 0) (Q : A → Type 0) (o : Option A) → MatchOption o P Q → MatchOption o ⊤ Q
refused-some P Q None is = tt
refused-some P Q (Some a) is = is

pub returns-then-is_some-clause-refused : goal.returns-then-is_some-clause-refused
returns-then-is_some-clause-refused g c = refused-some _ _ c.store_one-refusal.result c.store_one-refusal.ensures.refused

pub returns-then-is_some-clause-safe : goal.returns-then-is_some-clause-safe
returns-then-is_some-clause-safe g c = λ told world ledger room gone unclean dirty region list own allowed zeros safe. c.store_one-refusal.ensures.safe told world ledger dirty region list own allowed zeros safe

pub returns-then-is_some-clause-moved : goal.returns-then-is_some-clause-moved
returns-then-is_some-clause-moved g c = c.store_one-refusal.ensures.moved

pub returns-then-is_some-clause-failed : goal.returns-then-is_some-clause-failed
returns-then-is_some-clause-failed g c = c.store_one-refusal.ensures.failed

pub returns-then-is_some-clause-grows : goal.returns-then-is_some-clause-grows
returns-then-is_some-clause-grows g c = c.store_one-refusal.ensures.grows

pub returns-then-is_some-clause-full : goal.returns-then-is_some-clause-full
returns-then-is_some-clause-full g c = c.store_one-refusal.ensures.full

pub returns-then-is_some-clause-rebuilt : goal.returns-then-is_some-clause-rebuilt
returns-then-is_some-clause-rebuilt g c = c.store_one-refusal.ensures.rebuilt

pub returns-then-is_some-clause-others : goal.returns-then-is_some-clause-others
returns-then-is_some-clause-others g c = c.store_one-refusal.ensures.others

pub returns-then-is_some-clause-rise : goal.returns-then-is_some-clause-rise
returns-then-is_some-clause-rise g c = c.store_one-refusal.ensures.rise

pub returns-then-is_some-clause-given : goal.returns-then-is_some-clause-given
returns-then-is_some-clause-given g c = c.store_one-refusal.ensures.given

pub returns-clause-moved : goal.returns-clause-moved
returns-clause-moved g c =
    let given = g.B.Bank.given c.args.bank.now in
    let n = c.store_one-refusal.new.members in
    let did = c.store_one-refusal.ensures in
    moved-then given c.args.members.now n c.record_missing-spares.new.members did.moved
    (moved-from given (g.B.Bank.given c.store_one-refusal.new.bank) n n c.record_missing-spares.new.members did.given refl c.record_missing-spares.ensures.keeps.moved)

pub returns-clause-failed : goal.returns-clause-failed
returns-clause-failed g c =
    since-then c.args.members.now c.store_one-refusal.new.members c.record_missing-spares.new.members 0 c.record_missing-spares.result c.record_missing-spares.result
    (g.B.Bank.faults_of c.args.bank.now) (g.B.Bank.faults_of c.store_one-refusal.new.bank) (g.B.Bank.faults_of c.record_missing-spares.new.bank)
    c.store_one-refusal.ensures.counts c.record_missing-spares.ensures.keeps.bank.counts c.store_one-refusal.ensures.failed c.record_missing-spares.ensures.keeps.failed (in-second c.record_missing-spares.result)

pub returns-clause-grows : goal.returns-clause-grows
returns-clause-grows g c = grows-then c.store_one-refusal.ensures.grows c.record_missing-spares.ensures.keeps.bank.grows

pub returns-clause-rise : goal.returns-clause-rise
returns-clause-rise g c = risen-then c.store_one-refusal.ensures.rise c.record_missing-spares.ensures.keeps.rise

pub returns-clause-counts : goal.returns-clause-counts
returns-clause-counts g c = λ s. le_trans (c.store_one-refusal.ensures.counts s) (c.record_missing-spares.ensures.keeps.bank.counts s)

pub returns-clause-full : goal.returns-clause-full
returns-clause-full g c = λ list told own.
    let given = g.B.Bank.given c.args.bank.now in
    let given1 = g.B.Bank.given c.store_one-refusal.new.bank in
    let tape1 = g.B.Bank.tape c.store_one-refusal.new.bank in
    let tape2 = g.B.Bank.tape c.record_missing-spares.new.bank in
    let n = c.store_one-refusal.new.members in
    let did = c.store_one-refusal.ensures in
    full-stays given n c.record_missing-spares.new.members (moved-from given given1 n n c.record_missing-spares.new.members did.given refl c.record_missing-spares.ensures.keeps.moved) did.moved.placed
    (present given tape1) (present given tape2)
    (subst (λ (b : Given). AreOthersPresent (present b tape1) (present b tape2)) did.given (c.record_missing-spares.ensures.others told))
    c.args.shape.now list c.args.row (did.full list told own)

pub returns-clause-rebuilt : goal.returns-clause-rebuilt
returns-clause-rebuilt g c = λ stored list told own differ.
    let given = g.B.Bank.given c.args.bank.now in
    let given1 = g.B.Bank.given c.store_one-refusal.new.bank in
    let tape1 = g.B.Bank.tape c.store_one-refusal.new.bank in
    let tape2 = g.B.Bank.tape c.record_missing-spares.new.bank in
    let n = c.store_one-refusal.new.members in
    let did = c.store_one-refusal.ensures in
    rebuilt-stays given n c.record_missing-spares.new.members (moved-from given given1 n n c.record_missing-spares.new.members did.given refl c.record_missing-spares.ensures.keeps.moved) did.moved.placed
    (present given (g.B.Bank.tape c.args.bank.now)) (present given tape1) (present given tape2)
    (subst (λ (b : Given). AreOthersPresent (present b tape1) (present b tape2)) did.given (c.record_missing-spares.ensures.others told))
    c.args.shape.now stored list c.args.row (did.rebuilt stored list told own differ)

pub returns-clause-others : goal.returns-clause-others
returns-clause-others g c = λ told.
    let given = g.B.Bank.given c.args.bank.now in
    let given1 = g.B.Bank.given c.store_one-refusal.new.bank in
    let tape0 = g.B.Bank.tape c.args.bank.now in
    let tape1 = g.B.Bank.tape c.store_one-refusal.new.bank in
    let tape2 = g.B.Bank.tape c.record_missing-spares.new.bank in
    let n = c.store_one-refusal.new.members in
    let did = c.store_one-refusal.ensures in
    let moved = moved-from given given1 n n c.record_missing-spares.new.members did.given refl c.record_missing-spares.ensures.keeps.moved in
    others-then given (λ other. other ≡ c.args.row) c.args.members.now n c.record_missing-spares.new.members (present given tape0) (present given tape1) (present given tape2) moved (did.others told)
    (others-same given (λ other. other ≡ c.args.row) n c.record_missing-spares.new.members (present given tape1) (present given tape2) moved did.moved.placed
    (subst (λ (b : Given). AreOthersPresent (present b tape1) (present b tape2)) did.given (c.record_missing-spares.ensures.others told)))

pub returns-clause-safe : goal.returns-clause-safe
returns-clause-safe g c = λ told world ledger room gone unclean dirty region list own allowed zeros safe.
    let given = g.B.Bank.given c.args.bank.now in
    let given1 = g.B.Bank.given c.store_one-refusal.new.bank in
    let tape0 = g.B.Bank.tape c.args.bank.now in
    let tape1 = g.B.Bank.tape c.store_one-refusal.new.bank in
    let tape2 = g.B.Bank.tape c.record_missing-spares.new.bank in
    let n = c.store_one-refusal.new.members in
    let did = c.store_one-refusal.ensures in
    let named = c.record_missing-spares.ensures in
    let one = did.safe told world ledger dirty region list own allowed zeros safe in
    safe-then (OpensFit world) world.scope given ledger n c.record_missing-spares.new.members tape0 tape1 tape2 one
    (keeps-from world given given1 ledger c.record_missing-spares.new.members tape1 tape2 did.given
    (named.safe told world ledger (room-then tape2 told room did.rise) gone (λ is. unclean) (over-at world given given1 ledger n tape1 did.given one.next)))

pub returns-clause-given : goal.returns-clause-given
returns-clause-given g c = c.record_missing-spares.ensures.keeps.bank.same ∙ c.store_one-refusal.ensures.given
