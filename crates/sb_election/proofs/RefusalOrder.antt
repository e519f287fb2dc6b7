-- Refusals one after another.
use Rattle.std.proofs.Common.{◌≡◌, [], ◌∷◌, Option, Some, None, refl}
use Rattle.std.specs.Option.{option_or}
use Rattle.sb_specs.specs.raid_types_the_Refusal.{Refusal}
use Rattle.sb_specs.specs.Verdict.{first_of_all}

pub three_by_three : (a b c d e f : Option Refusal)
    → first_of_all (a ∷ b ∷ c ∷ d ∷ e ∷ f ∷ []) ≡ option_or (first_of_all (a ∷ b ∷ c ∷ [])) (first_of_all (d ∷ e ∷ f ∷ []))
three_by_three (Some x) b c d e f = refl
three_by_three None (Some x) c d e f = refl
three_by_three None None (Some x) d e f = refl
three_by_three None None None d e f = refl

pub early : (front rest : Option Refusal) (refusal : Refusal) → Some refusal ≡ front → option_or front rest ≡ Some refusal
early None rest refusal e = absurd (cc)
early (Some x) rest refusal e = cc

pub late : (front rest : Option Refusal) → front ≡ None → option_or front rest ≡ rest
late None rest e = refl
late (Some x) rest e = absurd (cc)
