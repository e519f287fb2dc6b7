-- What a call leaves of the members, and the steps that it tells left.
use Rattle.std.proofs.Common.{◌≡◌, ℕ, ◌≤◌, false, Option, None, ◌+◌, List, [], ◌∷◌, ◌++◌, length, refl, sym, subst}
use Rattle.std.specs.Prelude.{IfSome}
use Rattle.raid_types.specs.declared.answers.Who.{Who}
use Rattle.history_append.specs.bank_Given.{Given}
use Rattle.history_append.specs.bank_the_Operation.{Operation}
use Rattle.history_append.specs.sb_specs_the_Members.{Members}
use Rattle.history_append.specs.sb_specs_Reading.{is_reshaping, shape_of}
use Rattle.history_append.specs.history_the_Entry.{Entry}
use Rattle.history_append.specs.history_the_Event.{Event}
use Rattle.history_append.specs.history_World.{World}
use Rattle.history_append.specs.history_Plain.{entries_of}
use Rattle.history_append.specs.history_Legal.{told_left}
use Rattle.history_append.specs.array_members_Placed.{IsPlaced}
use Rattle.history_append.specs.crash_safety_laws_Steady.{AreUnlost, IsSafeOver, KeepsSafe, AreGoneTold, IsUncleanTold}
use Rattle.history_append.specs.crash_safety_laws_Safety.{HasRoomLeft}
use Rattle.history_append.specs.crash_views_Views.{Ledger}
use Rattle.history_append.specs.array_members_Rebuilding.{AreSparesFree}
use Rattle.history_append.proofs.LeftLaws.{TellLeft, left-behind, fold-left, left-more}
use Rattle.history_append.specs.history_the_Event_TheVariants.{Lost, SpareLost}
use Rattle.history_append.specs.history_the_LostCause_TheVariants.{Fault}
use Rattle.history_append.proofs.CallLaws.{AreLossEvents}

-- The members are of the same array as before, and each has its place.
pub record StayPlaced (given : Given) (old new : Members) : Type 0 where
  pub placed : IsPlaced given new
  pub still : is_reshaping new.newest ≡ false
  pub unlost : AreUnlost new
  pub free : AreSparesFree given new
  pub spares : length new.spares ≤ 32
  pub shape : shape_of new.newest ≡ shape_of old.newest
  pub size : new.newest.size ≡ old.newest.size

-- what names the missing members keeps an array safe
abbrev pub NamesSafe : Type 0 → Given → Members → Members → List Operation → List Operation → Type 0
NamesSafe tells given old new before after = tells → (world : World) → (told : Ledger) → HasRoomLeft old before after → AreGoneTold told new → IsUncleanTold told old
    → IsSafeOver world given told old before → KeepsSafe world given told new before after

-- ---- the steps left that are told

-- The steps left behind losses and other events: as many as before, where none was lost, and any number otherwise.
pub left-lost : (steps steps' : ℕ) (entries : List Entry) (who : Who) (end : ℕ) (xs tail : List Event) → AreLossEvents xs → (xs ≡ [] → steps' ≡ steps) → IfSome (told_left entries) (λ n. n ≡ steps)
    → TellLeft steps' who end tail → IfSome (told_left (entries ++ entries_of who end (xs ++ tail))) (λ n. n ≡ steps')
left-lost steps steps' entries who end [] tail are same was tell = left-more steps' entries who end tail (subst (λ (s : ℕ). IfSome (told_left entries) (λ n. n ≡ s)) (sym (same refl)) was) tell
left-lost steps steps' entries who end (Lost role Fault ∷ xs) tail are same was tell =
    subst (λ (o : Option ℕ). IfSome o (λ n. n ≡ steps')) (sym (fold-left None entries (entries_of who end (Lost role Fault ∷ xs ++ tail)))) (left-behind steps' who end xs tail are tell None tt)
left-lost steps steps' entries who end (SpareLost slot ∷ xs) tail are same was tell =
    subst (λ (o : Option ℕ). IfSome o (λ n. n ≡ steps')) (sym (fold-left None entries (entries_of who end (SpareLost slot ∷ xs ++ tail)))) (left-behind steps' who end xs tail are tell None tt)
left-lost steps steps' entries who end (event ∷ xs) tail are same was tell = absurd are
