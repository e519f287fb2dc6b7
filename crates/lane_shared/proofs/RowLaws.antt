-- Rows of passes.
use Rattle.std.proofs.Common.{◌≡◌, ℕ, List, [], ◌∷◌, length, refl, subst}
use Rattle.lane_lock.specs.declared.lock.Pass.{Pass}
use Rattle.lane_lock.specs.Ways.{Ways}
use Rattle.lane_lock.specs.Passes.{LockId, AreNew, Ended}

module _ {T Q : Type 0} where
  -- three callers have three passes
  pub three-new : (id : LockId) (value : T) (passes : List (Pass T Q)) → AreNew id value (1 ∷ 2 ∷ 255 ∷ []) passes → length passes ≡ 3
  three-new id value [] new = absurd new
  three-new id value (a ∷ []) new = absurd new.3
  three-new id value (a ∷ b ∷ []) new = absurd new.3.3
  three-new id value (a ∷ b ∷ c ∷ []) new = refl
  three-new id value (a ∷ b ∷ c ∷ d ∷ passes) new = absurd new.3.3.3

  pub new-as : (id : LockId) (value : T) (callers : List ℕ) (passes passes' : List (Pass T Q)) → passes ≡ passes' → AreNew id value callers passes → AreNew id value callers passes'
  new-as id value callers passes passes' is new = subst (λ (l : List (Pass T Q)). AreNew id value callers l) is new

  pub ended-as : {A : Type 0} (w : Ways T Q A) (start : T) (passes passes' : List (Pass T Q)) (end : T) → passes ≡ passes' → Ended w start passes end → Ended w start passes' end
  ended-as w start passes passes' end is ended = subst (λ (l : List (Pass T Q)). Ended w start l end) is ended
