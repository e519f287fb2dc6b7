-- What a caller has seen that was never served.
use Rattle.std.specs.Prelude.{[], None}
use Rattle.history.specs.Seen.{Seen}

-- no entries, over a bank without slots
abbrev pub nothing_seen : Seen
nothing_seen = record {
  world = record {
    start = λ slot at. [];
    tape = [];
    scope = record { uuid = []; given = 0; backup = None; sizes = record { slots = 0; sectors = λ slot. 0 } };
    first = 0;
  };
  entries = [];
}
