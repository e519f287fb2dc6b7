-- No layout below this one has the name.
use Rattle.std.proofs.Common.{◌≡◌, None}
use Rattle.raid_types.specs.Search.{least_below}
use Rattle.script_words.specs.Layouts.{layout_name, is_name}
use Rattle.script_words.proofs.layouts.layout_named.Given as goal

abbrev pub invariant-loop-layout : goal.invariant-loop-layout
invariant-loop-layout l = least_below l.layout (λ layout. is_name (layout_name layout) l.name) ≡ None
