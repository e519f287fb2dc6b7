-- A gate, as a lock sees it: its history is its count of turns.
use Rattle.std.proofs.Common.{◌≡◌, ℕ, ◌+◌, ◌≤◌, Bool, true, false, arith}
use Rattle.std.specs.Prelude.{⊤}
use Rattle.lane_lock.specs.Ways.{Ways, IsLawful}
use Rattle.test_lane_lock.specs.declared.gate.Turn.{Turn}
use Rattle.test_lane_lock.specs.declared.gate.Turn.TheVariants.{Counted, Full}

abbrev pub is_counted : Turn → Bool
is_counted (Counted let_go) = true
is_counted Full = false

abbrev pub gate_ways : Ways ℕ (Unit {0}) Turn
gate_ways = record {
  size = λ t. t;
  IsSound = λ t. ⊤;
  Begins = λ s t. s ≤ t;
  IsAskable = λ caller request. ⊤;
  is_done = is_counted;
  Adds = λ s t caller request reply. t ≡ s + 1;
  Made = λ start t caller mine. ⊤;
}

pub gate_lawful : IsLawful gate_ways
gate_lawful = record {
  same = λ x sound. omega arith;
  further = λ x y z p q. omega arith;
  either = λ x y now sx sy sn p q le. le;
  grows = λ x y caller request reply sound adds. (tt, omega arith, omega arith);
  none = λ x caller sound. tt;
  own = λ start x y caller request reply mine sound before adds made. tt;
  others = λ start x y caller other request reply mine sound before adds ne made. tt;
}
