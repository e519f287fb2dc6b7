use Rattle.sb_add_spare.specs.stripe_row_Rows.{reading_of}
use Rattle.array_call_laws.proofs.array_call_specs_FoundLaws.{AreStripesFound}
use Rattle.array_state.proofs.work.found_rebuilt.Given as goal

-- those of the roles before this one
abbrev pub invariant-loop-role : goal.invariant-loop-role
invariant-loop-role l = AreStripesFound (reading_of l.members) l.chunk l.role l.rebuilt
