-- The passes of a lock, as its start makes them and as its close takes them.
use Rattle.std.specs.Prelude.{◌≡◌, ℕ, ◌==◌, if◌then◌else◌, List, [], ◌∷◌, ⊤}
use Rattle.atomic_table.specs.Seated.{TableId}
use Rattle.lane_lock.specs.declared.call.Call.{Call}
use Rattle.lane_lock.specs.declared.lock.Pass.{Pass}
use Rattle.lane_lock.specs.Ways.{Ways}
use Rattle.lane_lock.specs.Turns.{OnSeen, resting, fresh, mine_of}

-- which lock it is
abbrev pub LockId : Type 0
LockId = TableId

module _ {T Q : Type 0} where
  -- one pass of this lock for each caller, in their order, which has seen this value and has made no call
  abbrev pub AreNew : LockId → T → List ℕ → List (Pass T Q) → Type 0
  AreNew id value [] [] = ⊤
  AreNew id value [] (p ∷ ps) = ⊥
  AreNew id value (c ∷ cs) [] = ⊥
  AreNew id value (c ∷ cs) (p ∷ ps) = (p.caller ≡ c) × (p.seat.table_id ≡ id) × (p.seat.me.0 ≡ resting value value (fresh (c ∷ []))) × AreNew id value cs ps

  -- the calls that the passes tell of a caller; none, where it has no pass
  abbrev pub calls_by : ℕ → List (Pass T Q) → List (Call Q)
  calls_by c [] = []
  calls_by c (p ∷ ps) = if p.caller == c then mine_of p.seat.me.0.hands else calls_by c ps

  abbrev pub EachPass : (Pass T Q → Type 0) → List (Pass T Q) → Type 0
  EachPass P [] = ⊤
  EachPass P (p ∷ ps) = P p × EachPass P ps

-- The value at the end: its history begins with all that each pass has seen, and since the start it has just these calls of each caller, and
-- none of anybody else.
pub record Ended {T Q A : Type 0} (w : Ways T Q A) (start : T) (passes : List (Pass T Q)) (x : T) : Type 0 where
  pub sound : w.IsSound x
  pub begins : w.Begins start x
  pub seen : EachPass (λ p. OnSeen p.seat.me.0 (λ a. w.Begins a x)) passes
  pub made : (c : ℕ) → w.Made start x c (calls_by c passes)
