use Rattle.std.proofs.Common.{ℕ, ◌≤◌, Option, Some, None, arith, MatchOption}
use Rattle.stripe_io.specs.raid_types_the_Refusal.{Refusal}
use Rattle.stripe_io.specs.sb_specs_the_Members.{Members}
use Rattle.sb_add_spare.specs.crash_views_Regions.{DoWithout}
use Rattle.sb_add_spare.specs.array_members_Lacking.{AreTooMany}
use Rattle.stripe_io.proofs.array_members_LackingLaws.{never-both}
use Rattle.array_call_laws.specs.array_call_specs_Calls.{IsRefusalOf}
use Rattle.array_call_laws.proofs.array_call_specs_ReplyLaws.{too-many-of, refused-for}
use Rattle.array_state.proofs.refusing.refusal_of.Goals as goal

by-missing : (visible to : ℕ) (m : Members) (found : Option Refusal) → to ≤ visible → MatchOption found (DoWithout m) (AreTooMany m) → IsRefusalOf visible to AreTooMany m found
by-missing visible to m None le does = (le, λ refusal many. never-both m refusal does many)
by-missing visible to m (Some refusal) le many = refused-for visible to AreTooMany m m refusal (too-many-of m refusal many) le many

pub returns : goal.returns
returns c = by-missing c.args.visible c.args.to c.args.members.now c.too_many.result (omega arith) c.too_many.ensures
