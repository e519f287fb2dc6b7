-- What an opening found stays so, as long as nothing more is written.
use Rattle.std.proofs.Common.{◌≡◌, ℕ, List, length, sym, ◌∙◌, ap, subst}
use Rattle.array_create_assemble.specs.bank_the_Operation.{Operation}
use Rattle.array_create_assemble.specs.bank_Given.{Given}
use Rattle.array_create_assemble.specs.sb_specs_the_Members.{Members}
use Rattle.array_reshaping_open_laws.specs.reshape_request_the_Window.{Window}
use Rattle.array_steps.specs.array_specs_Parts.{RunningParts}
use Rattle.array_reshaping_open_laws.specs.Opening.{AreOpenedMoving, IsOpenedMoving}
use Rattle.array_open.specs.Adopted.{IsMovingAdopted}

members-same : {tells : Type 0} (bank : Given) (tape tape' : List Operation) (given backup : ℕ) (members : Members) → (tells → tape' ≡ tape)
    → AreOpenedMoving tells bank tape given backup members → AreOpenedMoving tells bank tape' given backup members
members-same {tells = tells} bank tape tape' given backup members same is = record {
  elected = is.elected;
  aside = is.aside;
  active = is.active;
  backed = is.backed;
  stored = λ t. (subst (λ (l : List Operation). AreOpenedMoving tells bank l given backup members) (sym (same t)) is).stored t;
}

pub opened-same : {tells : Type 0} (bank : Given) (tape tape' : List Operation) (given backup : ℕ) (members : Members) (window : Window) (bytes : List ℕ) → (tells → tape' ≡ tape)
    → IsOpenedMoving tells bank tape given backup members window bytes → IsOpenedMoving tells bank tape' given backup members window bytes
opened-same {tells = tells} bank tape tape' given backup members window bytes same is = record {
  members_are = members-same bank tape tape' given backup members same is.members_are;
  whole = λ t. (now t).whole t;
  window_is = is.window_is;
  found = λ t. (now t).found t;
  sectors = λ t. (now t).sectors t;
}
  where
    now : tells → IsOpenedMoving tells bank tape' given backup members window bytes
    now t = subst (λ (l : List Operation). IsOpenedMoving tells bank l given backup members window bytes) (sym (same t)) is

pub adopted-same : {B tells : Type 0} (bank : Given) (tape tape' : List Operation) (slots backup : ℕ) (former : Members) (made : RunningParts B) → (tells → tape' ≡ tape)
    → IsMovingAdopted tells bank tape slots backup former made → IsMovingAdopted tells bank tape' slots backup former made
adopted-same {tells = tells} bank tape tape' slots backup former made same is = record {
  uuid = is.uuid;
  given = is.given;
  first = λ t. is.first t ∙ ap (λ (l : List Operation). length l) (sym (same t));
  last = is.last;
  entries = is.entries;
  backup_is = is.backup_is;
  recovering = is.recovering;
  are = is.are;
  members_are = is.members_are;
  work = is.work;
  course = is.course;
  window = λ t. (subst (λ (l : List Operation). IsMovingAdopted tells bank l slots backup former made) (sym (same t)) is).window t;
  planless = is.planless;
  unlimited = is.unlimited;
}
