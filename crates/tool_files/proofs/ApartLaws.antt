-- A file that isn't among others differs from each of them.
use Rattle.std.proofs.Common.{◌≡◌, ◌≢◌, List, [], ◌∷◌, ◌++◌, get_or, ◌∙◌}
use Rattle.std.specs.List.{AllPairs, Contains}
use Rattle.std.proofs.lemmas.List.{get_or_default}
use Rattle.std.proofs.lemmas.List.Quantifiers.{all_pairs_push}

pub apart_push : {X : Type 0} (xs : List X) (x : X) → AllPairs (λ one other. one ≢ other) xs → ¬ Contains xs x → AllPairs (λ one other. one ≢ other) (xs ++ x ∷ [])
apart_push xs x apart none = all_pairs_push (λ one other. one ≢ other) xs x apart (λ k d lt same. none (k, lt, get_or_default xs k x d lt ∙ same))
