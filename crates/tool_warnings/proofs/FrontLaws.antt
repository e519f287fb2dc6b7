-- The superblock in the first bytes of a file, as it is decoded.
use Rattle.std.proofs.Common.{◌≡◌, ℕ, ◌≤◌, Bool, true, false, cond, ◌&&◌, List, length, refl, sym, ap, ◌∙◌, Option, Some, None, IsTrue, IsSome, IfSome}
use Rattle.std.specs.Prelude.{◌↔◌}
use Rattle.std.proofs.lemmas.Bool.{le-leb}
use Rattle.sb_codec.specs.declared.sb.Sb.{Sb}
use Rattle.sb_codec.specs.Superblock.{is_valid, sb_of}
use Rattle.tool_warnings.specs.Fronts.{superblock_sectors, superblock_at}

by_validity : (found : Option Sb) (valid : Bool) (sb : Sb) → (IsSome found ↔ IsTrue valid) → IfSome found (λ x. x ≡ sb)
    → found ≡ cond valid (Some sb) None
by_validity None true sb iff same = absurd (cc (iff.1 refl))
by_validity None false sb iff same = refl
by_validity (Some x) true sb iff same = ap (λ y. Some y) same
by_validity (Some x) false sb iff same = absurd (cc (iff.0 refl))

pub decoded : (front bytes : List ℕ) (found : Option Sb) → 5120 ≤ length front → bytes ≡ superblock_sectors front
    → (IsSome found ↔ IsTrue (is_valid bytes)) → IfSome found (λ sb. sb ≡ sb_of bytes) → found ≡ superblock_at front
unfolding superblock_at
decoded front bytes found long same valid fields =
    by_validity found (is_valid bytes) (sb_of bytes) valid fields
    ∙ ap (λ b. cond (is_valid b) (Some (sb_of b)) None) same
    ∙ ap (λ long_enough. cond (long_enough && is_valid (superblock_sectors front)) (Some (sb_of (superblock_sectors front))) None)
    (sym (le-leb 5120 (length front) long))
