-- What a lock has to know of the value that it keeps.
use Rattle.std.specs.Prelude.{◌≢◌, ℕ, ◌-◌, ◌<◌, ◌≤◌, Bool, List, [], ◌∷◌, ◌++◌}
use Rattle.lane_lock.specs.declared.call.Call.{Call}

-- The length of a value's history, which values are sound, which history begins another, what a caller may ask, which replies are entries,
-- what one answered request adds, and which calls a caller has made since the first of two values.
pub record Ways (T Q A : Type 0) : Type 1 where
  pub size : T → ℕ
  pub IsSound : T → Type 0
  pub Begins : T → T → Type 0
  pub IsAskable : ℕ → Q → Type 0
  pub is_done : A → Bool
  pub Adds : T → T → ℕ → Q → A → Type 0
  pub Made : T → T → ℕ → List (Call Q) → Type 0

-- the call of a request whose reply ends this history
abbrev pub call_to : {T Q A : Type 0} → Ways T Q A → Q → T → Call Q
call_to w request y = record { request = request; at = w.size y - 1 }

pub record IsLawful {T Q A : Type 0} (w : Ways T Q A) : Type 0 where
  pub same : (x : T) → w.IsSound x → w.Begins x x
  pub further : (x y z : T) → w.Begins x y → w.Begins y z → w.Begins x z
  pub either : (x y now : T) → w.IsSound x → w.IsSound y → w.IsSound now → w.Begins x now → w.Begins y now → w.size x ≤ w.size y → w.Begins x y
  pub grows : (x y : T) (caller : ℕ) (request : Q) (reply : A) → w.IsSound x → w.Adds x y caller request reply → w.IsSound y × w.Begins x y × (w.size x < w.size y)
  pub none : (x : T) (caller : ℕ) → w.IsSound x → w.Made x x caller []
  pub own : (start x y : T) (caller : ℕ) (request : Q) (reply : A) (mine : List (Call Q)) → w.IsSound x → w.Begins start x → w.Adds x y caller request reply
      → w.Made start x caller mine → w.Made start y caller (mine ++ call_to w request y ∷ [])
  pub others : (start x y : T) (caller other : ℕ) (request : Q) (reply : A) (mine : List (Call Q)) → w.IsSound x → w.Begins start x → w.Adds x y caller request reply
      → other ≢ caller → w.Made start x other mine → w.Made start y other mine
