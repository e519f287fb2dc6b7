-- What a create and an assemble are refused for, where no device failed.
use Rattle.std.proofs.Common.{ℕ, Bool, true, false, not, cond, nat_lt, List, Option, None, Some, IfSome, subst, sym, inl, inr}
use Rattle.std.specs.Prelude.{option_map}
use Rattle.std.specs.Option.{option_or}
use Rattle.array_create_assemble.specs.declared.spec.CreateSpec.{CreateSpec}
use Rattle.array_create_assemble.specs.Creating.{bad_field, member_slots, rows_end, short_member, create_refusal}
use Rattle.array_create_assemble.specs.Made.{IsLateRefusal, HasCreateCause}
use Rattle.array_create_assemble.specs.Opening.{scope_of, array_of, HasFoundNone}
use Rattle.array_create_assemble.specs.raid_types_Shapes.{is_multiple}
use Rattle.array_reply_specs.specs.bank_Given.{Given, IsFaulted}
use Rattle.history_whole_laws.specs.bank_Tape.{Contents}
use Rattle.array_reply_specs.specs.raid_types_the_Fault.{Fault}
use Rattle.array_reply_specs.specs.raid_types_the_Fault_TheVariants.{Refused as IsRefusedWith, NoMemory}
use Rattle.history_whole_laws.specs.raid_types_the_Refusal.{Refusal}
use Rattle.history_whole_laws.specs.raid_types_the_Refusal_TheVariants.{BackupFault, SlotFault, BadShape, SizeNotMultiple, NoSuchSlot, SlotTooSmall}
use Rattle.array_create_assemble.specs.raid_types_the_ShapeField.{ShapeField}
use Rattle.history_whole_laws.specs.Unfailed.{IsForNoFailure}
use Rattle.history_whole_laws.proofs.Verdicts.{verdict-unfailed}

-- ---- optional refusals

-- optional refusals, none of which is for a failure
abbrev Unfailed : Option Refusal → Type 0
Unfailed refusal = IfSome refusal IsForNoFailure

either : (a b : Option Refusal) → Unfailed a → Unfailed b → Unfailed (option_or a b)
either None b first second = second
either (Some refusal) b first second = first

each : {T : Type 0} (f : T → Refusal) (o : Option T) → ((x : T) → IsForNoFailure (f x)) → Unfailed (option_map f o)
each f None always = tt
each f (Some x) always = always x

on-test : (b : Bool) (x y : Option Refusal) → Unfailed x → Unfailed y → Unfailed (cond b x y)
on-test true x y first second = first
on-test false x y first second = second

-- ---- a create

module _ (given : Given) (backup : Option ℕ) (spec : CreateSpec) where
  short-for : Unfailed (option_map (λ slot. SlotTooSmall (given.sectors slot) (rows_end spec)) (short_member given spec))
  short-for = each (λ (slot : ℕ). SlotTooSmall (given.sectors slot) (rows_end spec)) (short_member given spec) (λ slot. tt)

  create-for : Unfailed (create_refusal given backup spec)
  create-for =
      let short = option_map (λ (slot : ℕ). SlotTooSmall (given.sectors slot) (rows_end spec)) (short_member given spec) in
      let many = cond (nat_lt (member_slots given.slots backup) spec.shape.disks) (Some (NoSuchSlot (member_slots given.slots backup))) short in
      let odd = cond (not (is_multiple spec.size spec.shape.chunk)) (Some (SizeNotMultiple spec.size spec.shape.chunk)) many in
      either (option_map (λ (field : ShapeField). BadShape field) (bad_field spec)) odd (each (λ (field : ShapeField). BadShape field) (bad_field spec) (λ field. tt))
      (on-test (not (is_multiple spec.size spec.shape.chunk)) (Some (SizeNotMultiple spec.size spec.shape.chunk)) many tt
      (on-test (nat_lt (member_slots given.slots backup) spec.shape.disks) (Some (NoSuchSlot (member_slots given.slots backup))) short tt short-for))

abbrev OfFault : Fault → Type 0
OfFault (IsRefusedWith refusal) = IsForNoFailure refusal
OfFault NoMemory = Unit {0}

module _ (tells : Type 0) (given : Given) (c : Contents) (backup : Option ℕ) (before now : ℕ → ℕ) (none : (slot : ℕ) → IsFaulted slot before now → ⊥) where
  late-unfailed : (spec : CreateSpec) (refusal : Refusal) → IsLateRefusal tells given c backup spec before now refusal → IsForNoFailure refusal
  late-unfailed spec (SlotFault slot) why = none slot why.1
  late-unfailed spec BackupFault why = why
  late-unfailed spec refusal why = tt

  pub create-unfailed : (spec : CreateSpec) (refusal : Refusal) → HasCreateCause tells given c backup spec before now (IsRefusedWith refusal) → IsForNoFailure refusal
  create-unfailed spec refusal (inl (first, is, same)) = subst (λ (fault : Fault). OfFault fault) (sym same) (subst (λ (o : Option Refusal). Unfailed o) is (create-for given backup spec))
  create-unfailed spec refusal (inr (is, why)) = late-unfailed spec refusal why

  -- ---- an assemble

  pub assemble-unfailed : tells → (asked : Option (List ℕ)) (refusal : Refusal) → HasFoundNone tells given c backup asked before now (IsRefusedWith refusal) → IsForNoFailure refusal
  assemble-unfailed told asked refusal why = verdict-unfailed (scope_of given backup why.given (array_of given backup why.given asked c)) c refusal (why.why told)
