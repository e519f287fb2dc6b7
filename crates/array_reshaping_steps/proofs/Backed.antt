-- The backup of an array in a reshape, by its slot.
use Rattle.std.proofs.Common.{◌≡◌, ℕ, Option, Some, List, sym, subst}
use Rattle.std.specs.Prelude.{IfSome, unwrap_or}
use Rattle.array_type.specs.raid_types_the_Span.{Span}
use Rattle.array_type.specs.bank_Given.{Given, IsFaulted}
use Rattle.array_type.specs.sb_specs_the_Members.{Members}
use Rattle.array_type.specs.sb_specs_Reading.{next_window}
use Rattle.array_type.specs.array_call_specs_Kept.{scope_in}
use Rattle.array_type.specs.array_reshaping_invariant_Moving.{AreReshaping}
use Rattle.array_type.proofs.array_reshaping_laws_EnterLaws.{HasBackup, backup-for}

module _ (backup : Option ℕ) (slot : ℕ) (is : backup ≡ Some slot) where
  -- what holds of the array's backup holds of its slot, and the other way round
  pub of-slot : (P : ℕ → Type 0) → P (unwrap_or backup 0) → P slot
  of-slot P = subst (λ (b : Option ℕ). P (unwrap_or b 0)) is

  pub to-slot : (P : ℕ → Type 0) → P slot → P (unwrap_or backup 0)
  to-slot P = subst (λ (b : Option ℕ). P (unwrap_or b 0)) (sym is)

  -- it is there, with room for the section of the next window
  pub backed-for : (given : Given) (uuid : List ℕ) (slots : ℕ) (m : Members) (span : Span) → AreReshaping (scope_in given uuid slots backup) given m → next_window m.newest ≡ Some span → HasBackup given uuid slots slot span
  backed-for given uuid slots m span are = backup-for given uuid slots slot m span (subst (λ (b : Option ℕ). AreReshaping (scope_in given uuid slots b) given m) is are)

  -- it failed
  pub faulted : (before after : ℕ → ℕ) → IsFaulted slot before after → IfSome backup (λ its. IsFaulted its before after)
  faulted before after = subst (λ (b : Option ℕ). IfSome b (λ its. IsFaulted its before after)) (sym is)
