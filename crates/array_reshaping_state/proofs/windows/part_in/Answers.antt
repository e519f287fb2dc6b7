use Rattle.std.proofs.Common.{◌↔◌, ℕ, sym, subst, Option}
use Rattle.reshape_progress.specs.raid_types_the_Span.{Span}
use Rattle.reshape_progress.specs.reshape_geometry_Geometry.{IsIn}
use Rattle.array_reshaping_state.proofs.PartLaws.{IsAskedIn}
use Rattle.array_reshaping_state.proofs.windows.part_in.Goals as goal

pub returns-in-Some-clause-sectors : goal.returns-in-Some-clause-sectors
returns-in-Some-clause-sectors c =
    subst (λ (o : Option Span). (x : ℕ) → IsIn x c.part_of.result ↔ IsAskedIn o c.args.from c.args.to x) (sym c.in-Some.is) c.part_of.ensures.sectors
