-- How a legal history of an array that keeps its shape grows.
use Rattle.std.specs.Prelude.{ℕ, ◌≤◌, List, ◌++◌}
use Rattle.std.specs.List.{All}
use Rattle.history.specs.raid_types_the_Who.{Who}
use Rattle.history.specs.declared.events.Entry.{Entry}
use Rattle.history.specs.Flat.{last_of}
use Rattle.history.specs.Legal.{IsNumbered}
use Rattle.history.specs.Growing.{BeginAnother}
use Rattle.history.specs.OneShape.{ShapeOpening, AreOneShape, IsOneShapeLegal, IsOfCall, IsCallOpen}

-- A history with a new call behind it is legal where the history is, and the call is by itself; the tape has grown meanwhile.
abbrev pub OneShapeHistoriesGrow : Type 0
OneShapeHistoriesGrow = (opening : ShapeOpening) (ops more : ℕ) (entries added : List Entry) → ops ≤ more
    → BeginAnother (last_of entries) added → IsOneShapeLegal opening ops entries → AreOneShape opening more entries added
    → IsOneShapeLegal opening more (entries ++ added)

-- An entry of a call that goes on is numbered rightly.
abbrev pub OpenCallsAreNumbered : Type 0
OpenCallsAreNumbered = (entries : List Entry) (who : Who) (e : Entry) → IsCallOpen entries who → IsOfCall who e → IsNumbered entries e

-- A history with more entries of such a call behind it is legal where the history is, and they are.
abbrev pub OneShapeHistoriesGoOn : Type 0
OneShapeHistoriesGoOn = (opening : ShapeOpening) (ops more : ℕ) (entries added : List Entry) (who : Who) → ops ≤ more
    → IsCallOpen entries who → All (λ e. IsOfCall who e) added → IsOneShapeLegal opening ops entries → AreOneShape opening more entries added
    → IsOneShapeLegal opening more (entries ++ added)
