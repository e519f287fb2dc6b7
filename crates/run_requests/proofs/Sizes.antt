-- How long the list is behind the entries of a call.
use Rattle.std.proofs.Common.{◌≡◌, ◌⊎◌, inl, inr, ℕ, List, [], ◌∷◌, ◌++◌, Result, Ok, Err, refl, sym, ◌∙◌, ap, append-nil}
use Rattle.std.proofs.lemmas.List.Sums.{fold-append}
use Rattle.std.proofs.lemmas.List.Elements.{All-push, All-head, All-tail, All-weaker}
use Rattle.std.specs.List.{All}
use Rattle.run_specs.specs.raid_types_the_Who.{Who}
use Rattle.run_specs.specs.raid_types_the_Fault.{Fault}
use Rattle.run_specs.specs.raid_types_the_Fault_TheVariants.{Refused as IsRefusedWith, NoMemory}
use Rattle.run_specs.specs.raid_types_the_Refusal_TheVariants.{BackupFault}
use Rattle.run_specs.specs.bank_the_Operation.{Operation}
use Rattle.run_specs.specs.history_the_Entry.{Entry}
use Rattle.run_specs.specs.history_the_Event.{Event}
use Rattle.run_specs.specs.history_the_Event_TheVariants.{Resized, Refused}
use Rattle.run_specs.specs.history_the_Request.{Request}
use Rattle.run_specs.specs.history_Flat.{length_after, length_of}
use Rattle.run_specs.specs.history_OneShape.{IsOfCall}
use Rattle.run_specs.specs.history_Plain.{entries_of}
use Rattle.run_specs.specs.history_append_Losing.{losses_of}
use Rattle.run_specs.proofs.history_append_CallLaws.{losses-are}
use Rattle.run_specs.specs.array_call_specs_Calls.{StandsInside, IsReplied, IsAnswered, IsBehind, IsEntered}
use Rattle.run_specs.proofs.array_call_specs_ReplyLaws.{inside-losses}
use Rattle.run_specs.specs.history_invariant_Recorded.{entry_of}
use Rattle.run_specs.specs.array_reshaping_laws_Writing.{IsRepliedBehind, IsWriteReplied}
use Rattle.run_specs.specs.Asked.{IsSizedBy}
use Rattle.run_specs.proofs.AskLaws.{one}
use Rattle.run_specs.proofs.array_requests_Leaving.{tells-or-leaves}
use Rattle.run_specs.proofs.history_laws_OneShapeGrowing.{entries-both}

abbrev step : ℕ → Entry → ℕ
step n e = length_after n e.event

-- the list has one length by all entries, whether it is counted from the length before the call or from that behind it
pub sized-now : {a b : ℕ} {old new : List Entry} → length_of a old ≡ a → IsSizedBy a b old new → (length_of a new ≡ b) × (length_of b new ≡ b)
sized-now {a = a} {b = b} {old = old} {new = new} was sized = (before, of (tells-or-leaves new))
  where
    before : length_of a new ≡ b
    before = ap (λ (l : List Entry). length_of a l) sized.grown ∙ fold-append step a old sized.more ∙ ap (λ (n : ℕ). length_of n sized.more) was ∙ sym sized.sized

    of : ((n : ℕ) → length_of n new ≡ n) ⊎ ((n m : ℕ) → length_of n new ≡ length_of m new) → length_of b new ≡ b
    of (inl leaves) = leaves b
    of (inr tells) = tells b a ∙ before

pub sized-none : {a b : ℕ} {old new : List Entry} → b ≡ a → new ≡ old → IsSizedBy a b old new
sized-none {old = old} same is = record { more = []; grown = is ∙ sym (append-nil old); sized = same }

-- ---- a call that tells no length

abbrev Leaves : Entry → Type 0
Leaves e = (n : ℕ) → length_after n e.event ≡ n

pub leaves-all : (entries : List Entry) → All Leaves entries → (n : ℕ) → length_of n entries ≡ n
leaves-all [] all n = refl
leaves-all (e ∷ entries) all n = ap (λ (k : ℕ). length_of k entries) (All-head Leaves e entries all n) ∙ leaves-all entries (All-tail Leaves e entries all) n

inside-leaves : (event : Event) → StandsInside event → (n : ℕ) → length_after n event ≡ n
inside-leaves (Resized k) is n = absurd is
inside-leaves event is n = refl

sized-last : {a b : ℕ} {old new : List Entry} (inner : List Entry) (e : Entry) → b ≡ a → All (λ e. StandsInside e.event) inner → ((n : ℕ) → length_after n e.event ≡ n) → new ≡ old ++ (inner ++ e ∷ []) → IsSizedBy a b old new
sized-last {a = a} inner e same inside leaves is = record {
  more = inner ++ e ∷ [];
  grown = is;
  sized = same ∙ sym (leaves-all (inner ++ e ∷ []) (All-push Leaves inner e (All-weaker (λ e. StandsInside e.event) Leaves (λ e is. inside-leaves e.event is) inner inside) leaves) a);
}

sized-replied : {a b size : ℕ} {request : Request} {who : Who} {old new : List Entry} {event : Event} → b ≡ a → ((n : ℕ) → length_after n event ≡ n) → IsReplied size request who old new event → IsSizedBy a b old new
sized-replied {who = who} {old = old} {event = event} same leaves was =
    sized-last (entries_of who was.end was.inner) (one who was.end event) same was.inside leaves (was.is ∙ ap (λ (l : List Entry). old ++ l) (entries-both who was.end was.inner (event ∷ [])))

pub sized-answered : {a b : ℕ} (size : ℕ) (request : Request) (who : Who) {old new : List Entry} (event : Event) (r : Result (Unit {0}) Fault) → b ≡ a → ((n : ℕ) → length_after n event ≡ n) → IsAnswered size request who old new event r → IsSizedBy a b old new
sized-answered size request who event (Ok x) same leaves was = sized-replied same leaves was
sized-answered size request who event (Err (IsRefusedWith refusal)) same leaves was = sized-replied same (λ n. refl) was
sized-answered size request who event (Err NoMemory) same leaves was = sized-none same was

pub sized-behind : {a b : ℕ} {who : Who} {old new : List Entry} {event : Event} → b ≡ a → ((n : ℕ) → length_after n event ≡ n) → IsBehind who old new event → IsSizedBy a b old new
sized-behind {who = who} {old = old} {event = event} same leaves was =
    sized-last (entries_of who was.end (losses_of was.roles was.spares)) (one who was.end event) same (inside-losses who was.end (losses_of was.roles was.spares) (losses-are was.roles was.spares)) leaves
    (was.is ∙ ap (λ (l : List Entry). old ++ l) (entries-both who was.end (losses_of was.roles was.spares) (event ∷ [])))

pub sized-entered : {a b : ℕ} {tells : Type 0} {tape : List Operation} {who : Who} {old new : List Entry} {event : Event} → b ≡ a → ((n : ℕ) → length_after n event ≡ n) → IsEntered tells tape who old new (event ∷ []) → IsSizedBy a b old new
sized-entered {a = a} {who = who} {event = event} same leaves was = record { more = one who was.end event ∷ []; grown = was.is; sized = same ∙ sym (leaves a) }

sized-repeated : {a b size : ℕ} {request : Request} {who : Who} {old new : List Entry} {event : Event} → b ≡ a → ((n : ℕ) → length_after n event ≡ n) → IsRepliedBehind size request who old new event → IsSizedBy a b old new
sized-repeated {who = who} {event = event} same leaves was =
    sized-last was.call (entry_of who was.end event) same (All-weaker (λ e. IsOfCall who e × StandsInside e.event) (λ e. StandsInside e.event) (λ e is. is.1) was.call was.own) leaves was.is

pub sized-written : {a b : ℕ} (size at : ℕ) (body : List (List ℕ)) (who : Who) {old new : List Entry} (r : Result (Unit {0}) Fault) → b ≡ a → IsWriteReplied size at body who old new r → IsSizedBy a b old new
sized-written size at body who (Ok x) same was = sized-repeated same (λ n. refl) was
sized-written size at body who (Err (IsRefusedWith BackupFault)) same was = record { more = entry_of who (was.0) (Refused BackupFault) ∷ []; grown = was.1; sized = same }
sized-written size at body who (Err (IsRefusedWith refusal)) same was = sized-repeated same (λ n. refl) was
sized-written size at body who (Err NoMemory) same was = sized-none same was
