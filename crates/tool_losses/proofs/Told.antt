-- What is told, one after another.
use Rattle.std.proofs.Common.{◌≡◌, ℕ, ◌+◌, List, [], ◌∷◌, ◌++◌, take, slice_get, append_assoc, Some, sym, ap, ◌∙◌}
use Rattle.std.specs.List.{flat_map}
use Rattle.std.proofs.lemmas.List.{take_more, flat_map_more}
use Rattle.std.proofs.lemmas.Option.{get_or_from_slice_get, slice_get_within}
use Rattle.history.specs.declared.events.Entry.{Entry}

pub told_more : (f : Entry → List ℕ) (before : List ℕ) (entries : List Entry) (at : ℕ) (e : Entry) → slice_get entries at ≡ Some e
    → (before ++ flat_map f (take at entries)) ++ f e ≡ before ++ flat_map f (take (at + 1) entries)
told_more f before entries at e there =
    let taken : take (at + 1) entries ≡ take at entries ++ e ∷ [] =
    take_more entries at e (slice_get_within entries at e there) ∙ ap (λ x. take at entries ++ x ∷ []) (get_or_from_slice_get entries at e e there) in
    flat_map_more f before (take at entries) e ∙ ap (λ l. before ++ flat_map f l) (sym taken)

pub joined : (before one two between after : List ℕ) → between ≡ before ++ one → after ≡ between ++ two → after ≡ before ++ (one ++ two)
joined before one two between after e f = f ∙ ap (λ l. l ++ two) e ∙ append_assoc before one two
