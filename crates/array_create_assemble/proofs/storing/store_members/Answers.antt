use Rattle.std.proofs.Common.{◌≡◌, ◌≢◌, ◌+◌, ℕ, List, get_or, Option, None, inl, inr, refl, sym, ap, ◌∙◌, subst, arith}
use Rattle.std.proofs.lemmas.Bool.{cases_eq}
use Rattle.array_found_laws.specs.sb_codec_the_Sb.{Sb}
use Rattle.bank.specs.declared.bank.Operation.{Operation}
use Rattle.bank.specs.Given.{Given}
use Rattle.bank.specs.Tape.{Contents}
use Rattle.sb_add_spare.specs.stripe_row_Rows.{present}
use Rattle.array_create_assemble.specs.Filling.{IsSlotDone, IsStored, AreSlotsDone, AreFirst}
use Rattle.array_create_assemble.proofs.FillLaws.{below-then, below-more}
use Rattle.array_create_assemble.proofs.FirstLaws.{first-none, slots-more, slot-first, stored-none, stored-more, apart-present, counts-none, counts-more, counts-wider, fault-later}
use Rattle.array_create_assemble.proofs.storing.store_members.Goals as goal

pub store_next-requires-clause-first : goal.store_next-requires-clause-first
store_next-requires-clause-first g c = first-none (g.B.Bank.given c.args.bank.now) c.args.spec.now c.args.own.now c.requires.none

-- what a sector but the superblock's held it still holds
rows-kept : (start : Contents) (old new : List Operation) (slot : ℕ) (before now after : Contents) → IsSlotDone start old new slot
    → ((s k : ℕ) → s ≢ slot → after s k ≡ now s k) → ((k : ℕ) → k ≢ 8 → after slot k ≡ now slot k)
    → ((s k : ℕ) → k ≢ 8 → now s k ≡ before s k) → (s k : ℕ) → k ≢ 8 → after s k ≡ before s k
rows-kept start old new slot before now after done others here was s k other = elim (cases_eq s slot) [
  | inl same ↦ (ap (λ m. after m k) same ∙ here k other ∙ ap (λ m. now m k) (sym same)) ∙ was s k other
  | inr apart ↦ others s k apart ∙ was s k other
]

pub returns-in-Err-clause-tape : goal.returns-in-Err-clause-tape
returns-in-Err-clause-tape g c = λ told. below-more 1 c.args.spec.now.shape.disks _ _ c.requires.some (c.store_next.ensures.tape told)

pub loop-slot-init : goal.loop-slot-init
loop-slot-init g c =
    let did = c.in-Ok.ensures in
    let given : Given = g.B.Bank.given c.args.bank.now in
    let old : List Operation = g.B.Bank.tape c.args.bank.now in
    let new : List Operation = g.B.Bank.tape c.store_next.new.bank in
    record {
      same = did.given;
      newest = did.newest;
      kept = did.first;
      stored = λ told. stored-more given 0 c.args.own.now c.store_next.new.own (present given old) (present given new)
          (stored-none given c.args.own.now (present given old)) (did.stored told) did.others
          (λ s k other. apart-present given.start old new 0 s k (did.done told) other);
      rows = λ told. rows-kept given.start old new 0 (present given old) (present given old) (present given new) (did.done told)
          (λ s k other. apart-present given.start old new 0 s k (did.done told) other) (did.rows told) (λ s k other. refl);
      done = λ told. slot-first given.start old new (did.done told);
      tape = did.tape;
      counts = counts-more 0 (g.B.Bank.faults_of c.args.bank.now) (g.B.Bank.faults_of c.args.bank.now) (g.B.Bank.faults_of c.store_next.new.bank)
          (counts-none (g.B.Bank.faults_of c.args.bank.now)) did.cause.never_falls did.cause.others;
    }

pub loop-slot-preserved : goal.loop-slot-preserved
loop-slot-preserved g c =
    let was = c.loop-slot.invariant in
    let did = c.in-Ok-store_next.ensures in
    let given : Given = g.B.Bank.given c.args.bank.now in
    let n : ℕ = c.loop-slot.slot in
    let first : List Operation = g.B.Bank.tape c.args.bank.now in
    let old : List Operation = g.B.Bank.tape c.loop-slot.bank in
    let new : List Operation = g.B.Bank.tape c.store_next-in-loop-slot.new.bank in
    let own : List (Option Sb) = c.loop-slot.own in
    let own' : List (Option Sb) = c.store_next-in-loop-slot.new.own in
    record {
      same = did.given ∙ was.same;
      newest = did.others 0 (omega arith) ∙ was.newest;
      kept = subst (λ (b : Given). AreFirst b c.args.spec.now (n + 1) own') was.same did.first;
      stored = λ told. (let done : IsSlotDone given.start old new n = subst (λ (b : Given). IsSlotDone b.start old new n) was.same (did.done told) in
          stored-more given n own own' (present given old) (present given new) (was.stored told)
          (subst (λ (b : Given). IsStored (b.sectors n) (present b new n) (get_or own' n None)) was.same (did.stored told)) did.others
          (λ s k other. apart-present given.start old new n s k done other));
      rows = λ told. (let done : IsSlotDone given.start old new n = subst (λ (b : Given). IsSlotDone b.start old new n) was.same (did.done told) in
          rows-kept given.start old new n (present given first) (present given old) (present given new) done
          (λ s k other. apart-present given.start old new n s k done other)
          (subst (λ (b : Given). (k : ℕ) → k ≢ 8 → present b new n k ≡ present b old n k) was.same (did.rows told)) (was.rows told));
      done = λ told. slots-more given.start n first old new (was.done told)
          (subst (λ (b : Given). IsSlotDone b.start old new n) was.same (did.done told));
      tape = λ told. below-then (n + 1) first old new (below-more n (n + 1) first old (omega arith) (was.tape told)) (did.tape told);
      counts = counts-more n (g.B.Bank.faults_of c.args.bank.now) (g.B.Bank.faults_of c.loop-slot.bank) (g.B.Bank.faults_of c.store_next-in-loop-slot.new.bank)
          was.counts did.cause.never_falls did.cause.others;
    }

pub returns-in-Err-store_next-clause-tape : goal.returns-in-Err-store_next-clause-tape
returns-in-Err-store_next-clause-tape g c = λ told.
    let n : ℕ = c.loop-slot.slot in
    below-then c.args.spec.now.shape.disks _ _ _ (below-more n c.args.spec.now.shape.disks _ _ (omega (arith, c.loop-slot-test.true)) (c.loop-slot.invariant.tape told))
    (below-more (n + 1) c.args.spec.now.shape.disks _ _ (omega (arith, c.loop-slot-test.true)) (c.store_next-in-loop-slot.ensures.tape told))

pub returns-in-Err-store_next-clause-counts : goal.returns-in-Err-store_next-clause-counts
returns-in-Err-store_next-clause-counts g c =
    counts-wider (c.loop-slot.slot + 1) c.args.spec.now.shape.disks _ _ (omega (arith, c.loop-slot-test.true))
    (counts-more c.loop-slot.slot _ _ _ c.loop-slot.invariant.counts c.store_next-in-loop-slot.ensures.cause.never_falls c.store_next-in-loop-slot.ensures.cause.others)

pub returns-in-Err-store_next-clause-cause : goal.returns-in-Err-store_next-clause-cause
returns-in-Err-store_next-clause-cause g c = (
  c.loop-slot-test.true,
  fault-later c.loop-slot.slot (g.B.Bank.faults_of c.args.bank.now) (g.B.Bank.faults_of c.loop-slot.bank) (g.B.Bank.faults_of c.store_next-in-loop-slot.new.bank)
      (c.loop-slot.invariant.counts.never_falls c.loop-slot.slot)
      (c.store_next-in-loop-slot.ensures.cause.never_falls c.loop-slot.slot) (c.in-Err-store_next.ensures.cause.failed refl),
)

pub returns-clause-first : goal.returns-clause-first
returns-clause-first g c =
    let all : c.loop-slot.slot ≡ c.args.spec.now.shape.disks = omega (arith, c.requires.some, c.loop-slot.auto.slot-end, c.loop-slot-test.false) in
    subst (λ n. AreFirst (g.B.Bank.given c.args.bank.now) c.args.spec.now n c.loop-slot.own) all c.loop-slot.invariant.kept

pub returns-clause-stored : goal.returns-clause-stored
returns-clause-stored g c = λ told slot h. c.loop-slot.invariant.stored told slot (omega (arith, h, c.loop-slot-test.false))

pub returns-clause-done : goal.returns-clause-done
returns-clause-done g c = λ told.
    let all : c.loop-slot.slot ≡ c.args.spec.now.shape.disks = omega (arith, c.requires.some, c.loop-slot.auto.slot-end, c.loop-slot-test.false) in
    subst (λ n. AreSlotsDone (g.B.Bank.given c.args.bank.now).start n (g.B.Bank.tape c.args.bank.now) (g.B.Bank.tape c.loop-slot.bank)) all (c.loop-slot.invariant.done told)

pub returns-clause-tape : goal.returns-clause-tape
returns-clause-tape g c = λ told.
    let all : c.loop-slot.slot ≡ c.args.spec.now.shape.disks = omega (arith, c.requires.some, c.loop-slot.auto.slot-end, c.loop-slot-test.false) in
    below-more c.loop-slot.slot c.args.spec.now.shape.disks _ _ (omega (arith, all)) (c.loop-slot.invariant.tape told)

pub returns-clause-counts : goal.returns-clause-counts
returns-clause-counts g c =
    let all : c.loop-slot.slot ≡ c.args.spec.now.shape.disks = omega (arith, c.requires.some, c.loop-slot.auto.slot-end, c.loop-slot-test.false) in
    counts-wider c.loop-slot.slot c.args.spec.now.shape.disks _ _ (omega (arith, all)) c.loop-slot.invariant.counts
