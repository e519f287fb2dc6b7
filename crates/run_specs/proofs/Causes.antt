-- Why nothing was made or found stays a cause, over a longer time and where the slots hold the same.
use Rattle.std.proofs.Common.{◌≡◌, ℕ, ◌+◌, ◌-◌, ◌^◌, ◌<◌, ◌≤◌, ◌==◌, ◌&&◌, inl, inr, Bool, true, false, Option, Some, None, List, [], ◌∷◌, length, refl, sym, ◌∙◌, ap, subst, arith, append-nil, take_all}
use Rattle.std.proofs.lemmas.Bool.{cases_eq}
use Rattle.std.proofs.lemmas.Bool.Decides.{nat_tests}
use Rattle.std.specs.Prelude.{is_some, nat_le, if◌then◌else◌, MatchOption, IfSome, ⊤}
use Rattle.array_requests.specs.raid_types_Sectors.{Sector}
use Rattle.array_requests.specs.raid_types_Search.{least_below}
use Rattle.array_requests.specs.raid_types_the_Fault.{Fault}
use Rattle.array_requests.specs.raid_types_the_Fault_TheVariants.{Refused as IsRefusedWith, NoMemory}
use Rattle.array_requests.specs.raid_types_the_Refusal.{Refusal}
use Rattle.array_requests.specs.raid_types_the_Refusal_TheVariants.{UuidInUse, SlotFault}
use Rattle.script.specs.sb_codec_Superblock.{superblock_in}
use Rattle.array_requests.specs.bank_Given.{Given, IsFaulted, NeverFalls}
use Rattle.array_requests.specs.bank_the_Operation.{Operation}
use Rattle.array_requests.specs.bank_the_Operation_TheVariants.{Write, Flush}
use Rattle.array_requests.specs.bank_Tape.{Contents, contents, value_after}
use Rattle.array_requests.proofs.bank_Laws.{value_after-append}
use Rattle.array_requests.specs.array_members_Flushing.{OnlyFlushesAdded}
use Rattle.array_requests.specs.array_members_Moving.{Grows}
use Rattle.array_requests.proofs.array_members_Flushed.{contents-added}
use Rattle.array_requests.specs.array_create_assemble_Filling.{AreBelow, OnlyBelow}
use Rattle.array_requests.specs.sb_specs_Reading.{Scope, of_array, is_seen}
use Rattle.script.specs.history_Stands.{verdict}
use Rattle.array_requests.specs.array_create_assemble_the_CreateSpec.{CreateSpec}
use Rattle.array_requests.specs.array_create_assemble_Opening.{scope_of, array_of, AreGiven, HasFoundNone}
use Rattle.array_requests.specs.array_create_assemble_Made.{is_used, used_slot, IsUse, IsLateRefusal, HasCreateCause}

-- has failed since every earlier moment, and at every later one
pub faulted-wider : {first before now last : ℕ → ℕ} (slot : ℕ) → NeverFalls first before → NeverFalls before now → NeverFalls now last → IsFaulted slot before now → IsFaulted slot first last
faulted-wider slot early between late (inl rose) = inl (omega (arith, rose, early slot, late slot))
faulted-wider {first = first} slot early between late (inr full) = elim (cases_eq (first slot) (2 ^ 64 - 1)) [
  | inl same ↦ inr same
  | inr other ↦ inl (omega (arith, other, full, early slot, between slot, late slot))
]

pub given-wider : {first before now last : ℕ → ℕ} {bank : Given} {given : ℕ} → NeverFalls first before → NeverFalls before now → NeverFalls now last → AreGiven bank given before now → AreGiven bank given first last
given-wider early between late was = record {
  known = was.known;
  sound = λ s has. omega (arith, was.sound s has, early s);
  failed = λ s lt not. faulted-wider s early between late (was.failed s lt not);
}

-- whether a slot is used is seen in that slot alone, and only from slot n on
used-here : (scope : Scope) (c d : Contents) (n slot : ℕ) → (n ≤ slot → d slot ≡ c slot) → is_used scope d n slot ≡ is_used scope c n slot
used-here scope c d n slot same = by_test (nat_le n slot) refl
  where
    reached : nat_le n slot ≡ true → n ≤ slot
    reached is = grind (arith, nat_tests, is)

    by_test : (b : Bool) → nat_le n slot ≡ b → is_used scope d n slot ≡ is_used scope c n slot
    by_test true is = ap (λ (at : ℕ → Sector). nat_le n slot && is_some (of_array scope.uuid (if is_seen scope slot then superblock_in (scope.sizes.sectors slot) at else None))) (same (reached is))
    by_test false is =
        ap (λ (b : Bool). b && is_some (of_array scope.uuid (if is_seen scope slot then superblock_in (scope.sizes.sectors slot) (d slot) else None))) is
        ∙ sym (ap (λ (b : Bool). b && is_some (of_array scope.uuid (if is_seen scope slot then superblock_in (scope.sizes.sectors slot) (c slot) else None))) is)

pub used-same : (scope : Scope) (c d : Contents) (n : ℕ) → ((s : ℕ) → n ≤ s → d s ≡ c s) → used_slot scope d n ≡ used_slot scope c n
used-same scope c d n same = ap (least_below scope.sizes.slots) (λ i s. used-here scope c d n s (same s) i)

module _ {told later : Type 0} {first before now last : ℕ → ℕ} (fewer : later → told) (early : NeverFalls first before) (between : NeverFalls before now) (late : NeverFalls now last)
    (bank : Given) (backup : Option ℕ) (c d : Contents) where
  -- of a create, where the slots behind those that it wanted hold the same
  module _ (spec : CreateSpec) (same : later → (s : ℕ) → spec.shape.disks ≤ s → d s ≡ c s) where
    use-later : (used : Option ℕ) → IsUse told bank c backup spec before now used → IsUse later bank d backup spec first last used
    use-later used was = record {
      given = was.given;
      slots = given-wider early between late was.slots;
      is = λ t. used-same (scope_of bank backup was.given spec.uuid) c d spec.shape.disks (same t) ∙ was.is (fewer t);
    }

    late-later : (refusal : Refusal) → IsLateRefusal told bank c backup spec before now refusal → IsLateRefusal later bank d backup spec first last refusal
    late-later (UuidInUse slot) was = use-later (Some slot) was
    late-later (SlotFault slot) (known, failed, unused) = (known, faulted-wider slot early between late failed, use-later None unused)
    late-later refusal was = absurd was

    pub create-later : (fault : Fault) → HasCreateCause told bank c backup spec before now fault → HasCreateCause later bank d backup spec first last fault
    create-later fault (inl is) = inl is
    create-later (IsRefusedWith refusal) (inr (none, why)) = inr (none, late-later refusal why)
    create-later NoMemory (inr (none, why)) = inr (none, tt)

  -- of an assemble, where the slots hold the same
  module _ (asked : Option (List ℕ)) (same : later → d ≡ c) where
    pub assemble-later : (fault : Fault) → HasFoundNone told bank c backup asked before now fault → HasFoundNone later bank d backup asked first last fault
    assemble-later (IsRefusedWith refusal) was = record {
      given = was.given;
      slots = given-wider early between late was.slots;
      why = λ t. subst (λ (x : Contents). verdict (scope_of bank backup was.given (array_of bank backup was.given asked x)) x ≡ Some refusal) (sym (same t)) (was.why (fewer t));
    }
    assemble-later NoMemory was = tt

-- ---- what the slots hold once operations were added

present-is : (start : Contents) (tape : List Operation) (s k : ℕ) → contents start tape (length tape) s k ≡ value_after s k (start s k) tape
present-is start tape s k = ap (λ (l : List Operation). value_after s k (start s k) l) (take_all (length tape) tape (omega arith))

below-value : (n s k : ℕ) (v : Sector) (ops : List Operation) → AreBelow n ops → n ≤ s → value_after s k v ops ≡ v
below-value n s k v [] below le = refl
below-value n s k v (Flush t ∷ ops) below le = below-value n s k v ops below le
below-value n s k v (Write t j w ∷ ops) (lt, below) le =
    ap (λ (b : Bool). value_after s k (if b && (j == k) then w else v) ops) (other t s (omega (arith, lt, le))) ∙ below-value n s k v ops below le
  where
    other : (a b : ℕ) → a < b → (a == b) ≡ false
    other a b lt = grind (arith, nat_tests, lt)

-- no slot from n on was written
pub below-present : (start : Contents) (n : ℕ) (old new : List Operation) → OnlyBelow n old new → (s : ℕ) → n ≤ s → contents start new (length new) s ≡ contents start old (length old) s
below-present start n old new (ops, below, is) s le = λ i k. same k i
  where
    same : (k : ℕ) → contents start new (length new) s k ≡ contents start old (length old) s k
    same k = present-is start new s k ∙ ap (λ (l : List Operation). value_after s k (start s k) l) is ∙ value_after-append s k (start s k) old ops
        ∙ below-value n s k (value_after s k (start s k) old) ops below le ∙ sym (present-is start old s k)

pub below-grows : {tells : Type 0} {n : ℕ} {old new : List Operation} → (tells → OnlyBelow n old new) → Grows tells old new
below-grows was = record { more = λ t. let added = was t in (added.0, added.2) }

pub grows-none : {tells : Type 0} (tape : List Operation) → Grows tells tape tape
grows-none tape = record { more = λ t. ([], sym (append-nil tape)) }

pub flushes-grow : {tells : Type 0} {old new : List Operation} → (tells → OnlyFlushesAdded old new) → Grows tells old new
flushes-grow was = record { more = λ t. let added = was t in (added.0, added.2) }

-- a refused create, by what the slots hold afterwards
pub create-refused : {tells : Type 0} {before now : ℕ → ℕ} (given : Given) (backup : Option ℕ) (spec : CreateSpec) (old new : List Operation) (fault : Fault) → NeverFalls before now → (tells → OnlyBelow spec.shape.disks old new)
    → HasCreateCause tells given (contents given.start old (length old)) backup spec before now fault → HasCreateCause tells given (contents given.start new (length new)) backup spec before now fault
create-refused given backup spec old new fault falls tape was =
    create-later (λ t. t) (λ s. omega arith) falls (λ s. omega arith) given backup (contents given.start old (length old)) (contents given.start new (length new)) spec
    (λ t s le. below-present given.start spec.shape.disks old new (tape t) s le) fault was

-- a refused assemble
pub assemble-refused : {tells : Type 0} {before now : ℕ → ℕ} (given : Given) (backup : Option ℕ) (asked : Option (List ℕ)) (old new : List Operation) (fault : Fault) → NeverFalls before now → (tells → OnlyFlushesAdded old new)
    → HasFoundNone tells given (contents given.start old (length old)) backup asked before now fault → HasFoundNone tells given (contents given.start new (length new)) backup asked before now fault
assemble-refused given backup asked old new fault falls tape was =
    assemble-later (λ t. t) (λ s. omega arith) falls (λ s. omega arith) given backup (contents given.start old (length old)) (contents given.start new (length new)) asked
    (λ t. contents-added given.start old new (tape t)) fault was

-- the backup is a slot of the bank
pub backup-known : (slots : ℕ) (backup : Option ℕ) → MatchOption backup ⊤ (λ slot. slot + 1 ≡ slots) → IfSome backup (λ slot. slot < slots)
backup-known slots None last = tt
backup-known slots (Some slot) last = omega (arith, last)
