-- What an opening found runs, with or without a reshape.
use Rattle.std.proofs.Common.{◌≡◌, inl, inr, ℕ, ◌<◌, ◌≤◌, Bool, true, false, MatchBool, List, [], length, Option, Some, None, IfSome, Result, Ok, Err, IfOk, IfErr, sym, ◌∙◌, ap, subst, arith}
use Rattle.array_create_assemble.specs.raid_types_the_Fault.{Fault}
use Rattle.array_create_assemble.specs.raid_types_the_Fault_TheVariants.{Refused, NoMemory}
use Rattle.array_create_assemble.specs.raid_types_the_Refusal_TheVariants.{BackupAbsent}
use Rattle.array_create_assemble.specs.raid_types_Shapes.{has_slot}
use Rattle.array_create_assemble.specs.bank_the_Operation.{Operation}
use Rattle.array_create_assemble.specs.bank_Given.{Given, NeverFalls}
use Rattle.array_create_assemble.specs.bank_Tape.{Contents, contents}
use Rattle.array_create_assemble.proofs.bank_Causes.{faulted_longer}
use Rattle.array_create_assemble.specs.sb_specs_the_Members.{Members}
use Rattle.array_create_assemble.specs.sb_specs_Found.{AreInSectors}
use Rattle.array_create_assemble.specs.sb_specs_Reading.{is_reshaping}
use Rattle.array_create_assemble.specs.sb_specs_Writing.{AreWritable}
use Rattle.array_create_assemble.specs.history_Stands.{verdict}
use Rattle.array_steps.specs.crash_views_Regions.{DoWithout}
use Rattle.array_create_assemble.specs.array_members_Flushing.{OnlyItsSlotsFail}
use Rattle.array_steps.specs.array_call_specs_Adopting.{IsAdopted}
use Rattle.array_reshaping_open_laws.specs.reshape_request_Left.{phases_of}
use Rattle.array_steps.specs.array_specs_Parts.{RunningParts}
use Rattle.array_create_assemble.specs.declared.opening.Opened.{Opened}
use Rattle.array_create_assemble.specs.Opening.{scope_of, array_of, AreGiven, AreOfGiven, AreCounted, AreFlushed, IsFound, IsAside, IsOpened, IsUnfound, HasFoundNone}
use Rattle.array_create_assemble.proofs.RunningLaws.{assembled}
use Rattle.array_reshaping_open_laws.specs.Opening.{AreOpenedMoving}
use Rattle.array_open.specs.Adopted.{IsMovingAdopted, IsNotAdopted}
use Rattle.array_open.specs.Found.{IsStillFound, IsMovingFound, IsRunningFound}
use Rattle.array_open.proofs.FoundMoving.{found-moving, found-roles, found-does, backup-failed}
use Rattle.array_open.proofs.Same.{adopted-same}

-- ---- results

pub err-then : {T E : Type 0} (result : Result T E) (P Q : E → Type 0) → ((e : E) → P e → Q e) → IfErr result P → IfErr result Q
err-then (Ok x) P Q step p = tt
err-then (Err e) P Q step p = step e p

pub ok-both : {T E : Type 0} (P Q : T → Type 0) (result : Result T E) → IfOk result P → IfOk result Q → IfOk result (λ x. P x × Q x)
ok-both P Q (Ok x) p q = (p, q)
ok-both P Q (Err e) p q = tt

pub err-both : {T E : Type 0} (P Q : E → Type 0) (result : Result T E) → IfErr result P → IfErr result Q → IfErr result (λ e. P e × Q e)
err-both P Q (Ok x) p q = tt
err-both P Q (Err e) p q = (p, q)

-- ---- either

-- what was found runs, by what its superblocks tell
as-told : {B : Type 0} (tells : Type 0) (bank : Given) (tape : List Operation) (backup : Option ℕ) (asked : Option (List ℕ)) (before after : ℕ → ℕ) (run : RunningParts B) (b : Bool) → is_reshaping run.parts.members.newest ≡ b
    → MatchBool b (IsMovingFound tells bank tape backup asked before after run) (IsStillFound tells bank tape backup asked before after run) → IsRunningFound tells bank tape backup asked before after run
as-told tells bank tape backup asked before after run b is found =
    subst (λ (b : Bool). MatchBool b (IsMovingFound tells bank tape backup asked before after run) (IsStillFound tells bank tape backup asked before after run)) (sym is) found

-- ---- without a reshape

pub opened-still : {tells : Type 0} (bank : Given) (c : Contents) (backup : Option ℕ) (asked : Option (List ℕ)) (opened : Opened) → IsFound tells bank c backup asked opened
    → is_reshaping opened.members.newest ≡ false → IsOpened tells bank c backup asked opened
opened-still bank c backup asked opened is still = record { elected = is.elected; lost = is.lost; still = still; array = is.array; says = is.says; accepted = is.accepted }

pub still-found : {B tells : Type 0} (tape_of : B → List Operation) (faults_of : B → ℕ → ℕ) (device : B) (bank : Given) (backup : Option ℕ) (asked : Option (List ℕ)) (before : ℕ → ℕ) (opened : Opened)
    → IsOpened tells bank (contents bank.start (tape_of device) (length (tape_of device))) backup asked opened → AreGiven bank opened.given before (faults_of device)
    → IfSome asked (λ uuid. opened.members.newest.set_uuid ≡ uuid) → (run : RunningParts B) → IsAdopted tells device (tape_of device) opened.given backup opened.members run.parts → phases_of run.ahead ≡ [] → run.limit ≡ None
    → IsRunningFound tells bank (tape_of run.parts.bank) backup asked before (faults_of run.parts.bank) run
still-found {B = B} {tells = tells} tape_of faults_of device bank backup asked before opened is given named run did planless unlimited =
    as-told tells bank (tape_of run.parts.bank) backup asked before (faults_of run.parts.bank) run false (ap (λ (m : Members). is_reshaping m.newest) did.members_are ∙ is.still)
    (subst (λ (b : B). IsStillFound tells bank (tape_of b) backup asked before (faults_of b) run) (sym did.bank_is) (record {
      assembled = assembled device bank (tape_of device) backup opened run.parts did asked before (faults_of device) is given named;
      planless = planless;
      unlimited = unlimited;
    }))

-- ---- in a reshape

-- what was found of it, with this backup
pub found-there : {tells : Type 0} (bank : Given) (tape : List Operation) (slot : ℕ) (backup : Option ℕ) (backup_is : backup ≡ Some slot) (asked : Option (List ℕ)) (opened : Opened) → bank.slots ≤ 32
    → IsFound tells bank (contents bank.start tape (length tape)) backup asked opened → is_reshaping opened.members.newest ≡ true → IsAside backup opened.members.own → AreWritable bank opened.members.own
    → AreOfGiven opened.given opened.members.own → AreCounted bank → ((s : ℕ) → has_slot opened.given s ≡ true → s < bank.slots) → (tells → AreInSectors (contents bank.start tape (length tape)) opened.members.own)
    → (tells → AreFlushed bank.start tape opened.given) → AreOpenedMoving tells bank tape opened.given slot opened.members
found-there {tells = tells} bank tape slot backup backup_is asked opened few is active aside =
    found-moving bank tape asked opened slot few (subst (λ (b : Option ℕ). IsFound tells bank (contents bank.start tape (length tape)) b asked opened) backup_is is) active
    (subst (λ (b : Option ℕ). IsAside b opened.members.own) backup_is aside)

-- what a call found in a bank that has the same operations since
found-same : {tells : Type 0} (bank : Given) (tape tape' : List Operation) (backup : Option ℕ) (asked : Option (List ℕ)) (opened : Opened) → (tells → tape' ≡ tape)
    → IsFound tells bank (contents bank.start tape (length tape)) backup asked opened → IsFound tells bank (contents bank.start tape' (length tape')) backup asked opened
found-same {tells = tells} bank tape tape' backup asked opened same is = record {
  elected = is.elected;
  lost = is.lost;
  backed = is.backed;
  array = λ t. (now t).array t;
  says = λ t. (now t).says t;
  accepted = λ t. (now t).accepted t;
}
  where
    now : tells → IsFound tells bank (contents bank.start tape' (length tape')) backup asked opened
    now t = subst (λ (l : List Operation). IsFound tells bank (contents bank.start l (length l)) backup asked opened) (sym (same t)) is

given-later : (bank : Given) (given : ℕ) (before mid after : ℕ → ℕ) → NeverFalls before mid → NeverFalls mid after → AreGiven bank given before mid → AreGiven bank given before after
given-later bank given before mid after rose falls are = record {
  known = are.known;
  sound = are.sound;
  failed = λ s known none. faulted_longer s before before mid after (omega arith) (falls s) (rose s) (are.failed s known none);
}

pub counts-both : (bank : Given) (before mid after : ℕ → ℕ) → OnlyItsSlotsFail bank before mid → OnlyItsSlotsFail bank mid after → OnlyItsSlotsFail bank before after
counts-both bank before mid after one two = record {
  never_falls = λ s. let low = one.never_falls s in let high = two.never_falls s in omega (arith, low, high);
  others = λ s past. two.others s past ∙ one.others s past;
}

pub moving-found : {B tells : Type 0} (tape_of : B → List Operation) (faults_of : B → ℕ → ℕ) (bank : Given) (tape : List Operation) (slot : ℕ) (backup : Option ℕ) (backup_is : backup ≡ Some slot)
    (asked : Option (List ℕ)) (before mid : ℕ → ℕ) (opened : Opened) → IsFound tells bank (contents bank.start tape (length tape)) backup asked opened → AreOpenedMoving tells bank tape opened.given slot opened.members
    → NeverFalls before mid → AreGiven bank opened.given before mid → IfSome asked (λ uuid. opened.members.newest.set_uuid ≡ uuid) → (run : RunningParts B) → (tells → tape_of run.parts.bank ≡ tape)
    → NeverFalls mid (faults_of run.parts.bank) → IsMovingAdopted tells bank tape opened.given slot opened.members run
    → IsRunningFound tells bank (tape_of run.parts.bank) backup asked before (faults_of run.parts.bank) run
moving-found {tells = tells} tape_of faults_of bank tape slot backup backup_is asked before mid opened is are rose given named run same falls did =
    as-told tells bank (tape_of run.parts.bank) backup asked before (faults_of run.parts.bank) run true (ap (λ (m : Members). is_reshaping m.newest) did.members_are ∙ are.active) (record {
      former = opened.members;
      slot = slot;
      backup_is = backup_is;
      opened = subst (λ (n : ℕ). IsFound tells bank (contents bank.start (tape_of run.parts.bank) (length (tape_of run.parts.bank))) backup asked (record { members = opened.members; given = n })) (sym did.given)
          (found-same bank tape (tape_of run.parts.bank) backup asked opened same is);
      active = are.active;
      adopted = subst (λ (n : ℕ). IsMovingAdopted tells bank (tape_of run.parts.bank) n slot opened.members run) (sym did.given) (adopted-same bank tape (tape_of run.parts.bank) opened.given slot opened.members run same did);
      roles = ap (λ (m : Members). m.roles) did.members_are ∙ found-roles are did.recovering did.are;
      does = subst DoWithout (sym did.members_are) (found-does are did.recovering did.are);
      given = subst (λ (n : ℕ). AreGiven bank n before (faults_of run.parts.bank)) (sym did.given) (given-later bank opened.given before mid (faults_of run.parts.bank) rose falls given);
      named = subst (λ (u : List ℕ). IfSome asked (λ uuid. u ≡ uuid)) (sym did.uuid) named;
    })

-- ---- what is refused

pub none-found : (tells : Type 0) (bank : Given) (c c' : Contents) (backup : Option ℕ) (asked : Option (List ℕ)) (before after : ℕ → ℕ) (fault : Fault)
    → (tells → c' ≡ c) → HasFoundNone tells bank c' backup asked before after fault → HasFoundNone tells bank c backup asked before after fault
none-found tells bank c c' backup asked before after (Refused refusal) same cause = record {
  given = cause.given;
  slots = cause.slots;
  why = λ t. subst (λ (k : Contents). verdict (scope_of bank backup cause.given (array_of bank backup cause.given asked k)) k ≡ Some refusal) (same t) (cause.why t);
}
none-found tells bank c c' backup asked before after NoMemory same cause = tt

-- want of memory has no cause
pub no-memory : (tells : Type 0) (bank : Given) (c : Contents) (backup : Option ℕ) (asked : Option (List ℕ)) (before after : ℕ → ℕ) (fault : Fault) → fault ≡ NoMemory
    → HasFoundNone tells bank c backup asked before after fault
no-memory tells bank c backup asked before after fault is = subst (λ (f : Fault). HasFoundNone tells bank c backup asked before after f) (sym is) tt

-- an array in a reshape that isn't taken over
pub not-adopted : {B tells : Type 0} (bank : Given) (c : Contents) (slot : ℕ) (backup : Option ℕ) (backup_is : backup ≡ Some slot) (asked : Option (List ℕ)) (before mid after : ℕ → ℕ) (device left : B) (opened : Opened)
    (fault : Fault) → bank.slots ≤ 32 → IsFound tells bank c backup asked opened → is_reshaping opened.members.newest ≡ true → AreGiven bank opened.given before mid → NeverFalls before mid → NeverFalls mid after
    → IsNotAdopted slot device left mid after fault → HasFoundNone tells bank c backup asked before after fault
not-adopted {tells = tells} bank c slot backup backup_is asked before mid after device left opened fault few is active given rose falls (inl short) = no-memory tells bank c backup asked before after fault short.0
not-adopted {tells = tells} bank c slot backup backup_is asked before mid after device left opened fault few is active given rose falls (inr failed) =
    subst (λ (f : Fault). HasFoundNone tells bank c backup asked before after f) (sym failed.0)
    (subst (λ (b : Option ℕ). IsUnfound tells bank c b asked before after BackupAbsent) (sym backup_is)
    (backup-failed bank c asked opened slot few (subst (λ (b : Option ℕ). IsFound tells bank c b asked opened) backup_is is) active before mid after given rose falls failed.1))
