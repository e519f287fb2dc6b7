-- What an array keeps, after a call.
use Rattle.std.proofs.Common.{◌≡◌, ℕ, ◌≤◌, inl, inr, false, Option, List, [], ◌∷◌, length, take, refl, sym, ◌∙◌, ap, subst}
use Rattle.std.specs.Prelude.{fold, slice_index_or}
use Rattle.raid_types.specs.Sectors.{Sector}
use Rattle.raid_types.specs.declared.answers.Who.{Who}
use Rattle.history_append.specs.bank_Given.{Given}
use Rattle.history_append.specs.bank_Tape.{IsIn}
use Rattle.history_append.specs.bank_the_Operation.{Operation}
use Rattle.history_append.specs.sb_specs_Reading.{Scope}
use Rattle.history_append.specs.history_the_Entry.{Entry}
use Rattle.history_append.specs.history_the_Event.{Event}
use Rattle.history_append.specs.history_the_Event_TheVariants.{Flushed, Stopped}
use Rattle.history_append.specs.history_Flat.{values_after}
use Rattle.history_append.specs.history_World.{opening_list}
use Rattle.history_append.specs.history_Plain.{entries_of}
use Rattle.history_append.specs.history_OneShape.{ShapeOpening, KeepShape}
use Rattle.history_append.proofs.history_laws_OneShapeGrowing.{IsOneShapeCall}
use Rattle.history_append.specs.array_members_Rebuilding.{HasNoRebuilt}
use Rattle.history_append.specs.array_members_Moving.{Grows}
use Rattle.array_call_specs.specs.Kept.{scope_in, world_in}
use Rattle.history_append.specs.history_Losses.{is_resync_end}
use Rattle.history_append.specs.history_Sound.{LosesNoRole}
use Rattle.array_call_specs.specs.Calls.{IsSettling}
use Rattle.array_call_specs.proofs.MadeLaws.{opening-grown}
use Rattle.history_append.proofs.CallLaws.{GivesNone}
use Rattle.history_append.proofs.LeftLaws.{TellLeft}
use Rattle.array_call_specs.proofs.LedgerLaws.{HasNewest}
use Rattle.array_call_specs.proofs.RecordLaws.{AreSilent}
use Rattle.array_call_specs.proofs.OnlyLaws.{MakeSpares}

-- ---- the opening stays what it was

pub opening-later : {tells : Type 0} {tape tape' : List Operation} (given : Given) (scope : Scope) (first : ℕ) → Grows tells tape tape' → (tells → first ≤ length tape)
    → tells → opening_list (world_in given tape' scope first) ≡ opening_list (world_in given tape scope first)
opening-later {tape = tape} given scope first grows begun t =
    let g = grows.more t in
    ap (λ (l : List Operation). opening_list (world_in given l scope first)) g.1 ∙ opening-grown (world_in given tape scope first) g.0 (begun t)

-- ---- what events leave of the list

-- these events leave what the list holds
abbrev pub AreStill : Who → ℕ → List Event → Type 0
AreStill who end events = (x : ℕ) (values : List Sector) → slice_index_or (fold (λ values e. values_after x values e.event) values (entries_of who end events)) 0 [] ≡ slice_index_or values 0 []

flushed-still : (values : List Sector) → slice_index_or (take 1 values) 0 [] ≡ slice_index_or values 0 []
flushed-still [] = refl
flushed-still (v ∷ values) = refl

-- the newest value of each sector stays allowed
abbrev pub KeepsNewest : Who → ℕ → Event → Type 0
KeepsNewest who end event = (x : ℕ) (values : List Sector) → HasNewest values → IsIn (fold (λ values e. values_after x values e.event) values (entries_of who end (event ∷ []))) (slice_index_or values 0 [])

first-stays : (values : List Sector) → HasNewest values → IsIn (take 1 values) (slice_index_or values 0 [])
first-stays [] has = absurd has
first-stays (w ∷ values) has = inl refl

-- a flush or a stop
pub record Settles (event : Event) : Type 0 where
  pub silent : (who : Who) (end : ℕ) → AreSilent who end (event ∷ [])
  pub left : (steps : ℕ) (who : Who) (end : ℕ) → TellLeft steps who end (event ∷ [])
  pub still : (who : Who) (end : ℕ) → AreStill who end (event ∷ [])
  pub call : (opening : ShapeOpening) (before : List Entry) (who : Who) (end : ℕ) → IsOneShapeCall opening before who end (event ∷ [])
  pub keep : (who : Who) (end : ℕ) → KeepShape (entries_of who end (event ∷ []))
  pub gives : (who : Who) (end : ℕ) → GivesNone (entries_of who end (event ∷ []))
  pub ends : is_resync_end event ≡ false
  pub unbuilt : (who : Who) (end : ℕ) → HasNoRebuilt (entries_of who end (event ∷ []))
  pub loses : (who : Who) (end : ℕ) → LosesNoRole (entries_of who end (event ∷ []))
  pub makes : (spares : List ℕ) (who : Who) (end : ℕ) → MakeSpares spares (entries_of who end (event ∷ []))
  pub newest : (who : Who) (end : ℕ) → KeepsNewest who end event

pub flush-settles : Settles Flushed
flush-settles = record { silent = λ who end. record { length = λ n. refl; limit = refl }; left = λ steps who end left is. is; still = λ who end x values. flushed-still values; call = λ opening before who end. (tt, tt, tt); keep = λ who end. refl; gives = λ who end role. refl; ends = refl; unbuilt = λ who end. refl; loses = λ who end role. refl; makes = λ spares who end slot spare is. inl is; newest = λ who end x values has. first-stays values has }

pub stop-settles : Settles Stopped
stop-settles = record { silent = λ who end. record { length = λ n. refl; limit = refl }; left = λ steps who end left is. is; still = λ who end x values. flushed-still values; call = λ opening before who end. (tt, tt, tt); keep = λ who end. refl; gives = λ who end role. refl; ends = refl; unbuilt = λ who end. refl; loses = λ who end role. refl; makes = λ spares who end slot spare is. inl is; newest = λ who end x values has. first-stays values has }

pub settles-of : (event : Event) → IsSettling event → Settles event
settles-of event (inl is) = subst Settles (sym is) flush-settles
settles-of event (inr is) = subst Settles (sym is) stop-settles

-- ---- what is kept, as a method leaves it

-- the same slots of the same bank are looked at
pub scope-same : {given' : Given} {uuid uuid' : List ℕ} {slots slots' : ℕ} (given : Given) (backup : Option ℕ) → given' ≡ given → uuid' ≡ uuid → slots' ≡ slots
    → scope_in given' uuid' slots' backup ≡ scope_in given uuid slots backup
scope-same given backup same is slots_are = λ i. scope_in (same i) (is i) (slots_are i) backup

-- the opening's list
pub list-same : {tells : Type 0} {given' : Given} {scope' : Scope} {first' : ℕ} {tape tape' : List Operation} (given : Given) (scope : Scope) (first : ℕ) → given' ≡ given → scope' ≡ scope → first' ≡ first → Grows tells tape tape'
    → (tells → first ≤ length tape) → tells → opening_list (world_in given' tape' scope' first') ≡ opening_list (world_in given tape scope first)
list-same {tape' = tape'} given scope first same scope_is first_is grows begun t = (λ i. opening_list (world_in (same i) tape' (scope_is i) (first_is i))) ∙ opening-later given scope first grows begun t
