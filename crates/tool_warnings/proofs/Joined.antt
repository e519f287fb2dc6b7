-- What is appended, one after another, is appended at once.
use Rattle.std.proofs.Common.{◌≡◌, ℕ, List, ◌++◌, append_assoc, ap, ◌∙◌}

pub joined : (z a b i j : List ℕ) → i ≡ z ++ a → j ≡ i ++ b → j ≡ z ++ (a ++ b)
joined z a b i j e f = f ∙ ap (λ l. l ++ b) e ∙ append_assoc z a b

pub joined-three : (z a b c i j k : List ℕ) → i ≡ z ++ a → j ≡ i ++ b → k ≡ j ++ c → k ≡ z ++ ((a ++ b) ++ c)
joined-three z a b c i j k e f h = joined z (a ++ b) c j k (joined z a b i j e f) h

pub joined-four : (z a b c d i j k l : List ℕ) → i ≡ z ++ a → j ≡ i ++ b → k ≡ j ++ c → l ≡ k ++ d → l ≡ z ++ (((a ++ b) ++ c) ++ d)
joined-four z a b c d i j k l e f h m = joined z ((a ++ b) ++ c) d k l (joined-three z a b c i j k e f h) m
