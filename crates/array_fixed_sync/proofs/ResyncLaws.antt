-- What a step of a resync leaves as it is.
use Rattle.std.proofs.Common.{◌≡◌, ℕ, ◌==◌, Bool, Option, Some, None, Result, Ok, Err, OnOk, List, [], ◌∷◌, ◌++◌, refl, sym, ◌∙◌, ap, subst}
use Rattle.std.specs.Option.{option_eq}
use Rattle.array_fixed_io.specs.raid_types_Sectors.{Sector}
use Rattle.array_fixed_io.specs.raid_types_the_Who.{Who}
use Rattle.array_fixed_io.specs.raid_types_the_Fault.{Fault}
use Rattle.array_fixed_io.specs.raid_types_the_Fault_TheVariants.{Refused as IsRefusedWith, NoMemory}
use Rattle.array_fixed_io.specs.sb_specs_the_Members.{Members}
use Rattle.array_fixed_io.specs.history_the_Entry.{Entry}
use Rattle.array_fixed_io.specs.history_the_Event.{Event}
use Rattle.array_fixed_io.specs.history_the_Event_TheVariants.{Step, Refused}
use Rattle.array_fixed_io.specs.history_the_StepKind.{StepKind}
use Rattle.array_fixed_io.specs.history_Flat.{values_after, values_of}
use Rattle.array_fixed_io.specs.history_Plain.{entries_of}
use Rattle.array_fixed_io.specs.history_append_Losing.{losses_of}
use Rattle.array_fixed_io.specs.array_members_Status.{stripes_of}
use Rattle.array_fixed_io.specs.array_call_specs_Calls.{IsBehind, IsCausedBy, AreValuesKept}
use Rattle.array_fixed_io.proofs.history_append_CallLaws.{losses-are, values-losses}
use Rattle.array_fixed_io.proofs.array_call_specs_NowLaws.{values-more}
use Rattle.array_fixed_io.specs.array_specs_Calls.{IsStepTaken}
use Rattle.array_fixed_sync.specs.Resyncing.{is_at_end, IsUnsynced}

-- ---- the list

-- an event that changes no values, behind losses
pub kept-behind : (who : Who) (old new : List Entry) (event : Event) → ((x : ℕ) (values : List Sector) → values_after x values event ≡ values) → IsBehind who old new event → AreValuesKept old new
kept-behind who old new event quiet was list x =
    ap (λ (l : List Entry). values_of list l x) was.is
    ∙ values-more list old (entries_of who was.end (losses_of was.roles was.spares ++ event ∷ [])) x
    ∙ values-losses who was.end (losses_of was.roles was.spares) (event ∷ []) (losses-are was.roles was.spares) x (values_of list old x)
    ∙ quiet x (values_of list old x)

-- a step, done or not
pub kept-settled : {T : Type 0} (who : Who) (old new : List Entry) (kind : StepKind) (left : ℕ) (result : Result T Fault) → IsStepTaken who old new kind left result → AreValuesKept old new
kept-settled who old new kind left (Ok x) was = kept-behind who old new (Step kind left) (λ x values. refl) was
kept-settled who old new kind left (Err (IsRefusedWith refusal)) was = kept-behind who old new (Refused refusal) (λ x values. refl) was
kept-settled who old new kind left (Err NoMemory) was = absurd was

-- ---- the end

-- the test that a resync has mended every stripe
pub at_end-is : (found resync : Option ℕ) (stripes : ℕ) (members : Members) (b : Bool) → found ≡ resync → stripes ≡ stripes_of members → option_eq (λ m n. m == n) found (Some stripes) ≡ b → is_at_end resync members ≡ b
at_end-is found resync stripes members b same count is =
    by resync ∙ ap (λ (n : ℕ). option_eq (λ m n. m == n) resync (Some n)) (sym count) ∙ ap (λ (r : Option ℕ). option_eq (λ m n. m == n) r (Some stripes)) (sym same) ∙ is
  where
    by : (r : Option ℕ) → is_at_end r members ≡ option_eq (λ m n. m == n) r (Some (stripes_of members))
    by None = refl
    by (Some mended) = refl

-- a cause, by the kind of the step
pub caused-as : {T : Type 0} (visible : ℕ) (at last : Bool) (old new : Members) (result : Result T Fault) → at ≡ last → IsCausedBy visible 0 (IsUnsynced last) old new result → IsCausedBy visible 0 (IsUnsynced at) old new result
caused-as visible at last old new result is was = subst (λ (b : Bool). IsCausedBy visible 0 (IsUnsynced b) old new result) (sym is) was

pub ok-so : {T E : Type 0} (r : Result T E) {F G : Type 0} → (F → G) → OnOk r F → OnOk r G
ok-so (Ok x) so fact = so fact
ok-so (Err e) so fact = tt
