-- Why a stripe of a resync isn't mended, of an array of one shape: as the rows of that shape aren't written.
use Rattle.std.proofs.Common.{◌≡◌, inl, inr, false, Option, Some, None, refl, subst}
use Rattle.std.specs.Prelude.{MatchOption}
use Rattle.stripe_io.specs.raid_types_the_Refusal.{Refusal}
use Rattle.stripe_io.specs.raid_types_the_Shape.{Shape}
use Rattle.stripe_io.specs.sb_specs_the_Members.{Members}
use Rattle.stripe_io.specs.sb_specs_Reading.{is_reshaping, shape_of}
use Rattle.sb_add_spare.specs.array_members_Lacking.{IsUnwritten}
use Rattle.stripe_io.proofs.array_members_LackingLaws.{too-many-still}
use Rattle.array_call_laws.specs.array_call_specs_Calls.{IsUnmendable}

pub unmendable-of : (shape : Shape) (m : Members) (refusal : Refusal) → shape ≡ shape_of m.newest → IsUnwritten shape false m refusal → IsUnmendable m refusal
unmendable-of shape m refusal same why = by (subst (λ (s : Shape). IsUnwritten s false m refusal) same why)
  where
    by : IsUnwritten (shape_of m.newest) false m refusal → IsUnmendable m refusal
    by (inl many) = inl (inl many)
    by (inr found) = inr found

pub unwritten-then : (m : Members) (refusal : Refusal) → is_reshaping m.newest ≡ false → IsUnmendable m refusal → IsUnwritten (shape_of m.newest) false m refusal
unwritten-then m refusal still (inl many) = inl (too-many-still m refusal still many)
unwritten-then m refusal still (inr found) = inr found

pub unmended-told : (m : Members) (found : Option Refusal) → is_reshaping m.newest ≡ false
    → MatchOption found ((refusal : Refusal) → IsUnwritten (shape_of m.newest) false m refusal → ⊥) (IsUnwritten (shape_of m.newest) false m)
    → MatchOption found ((refusal : Refusal) → IsUnmendable m refusal → ⊥) (IsUnmendable m)
unmended-told m None still none = λ refusal why. none refusal (unwritten-then m refusal still why)
unmended-told m (Some refusal) still why = unmendable-of (shape_of m.newest) m refusal refl why
