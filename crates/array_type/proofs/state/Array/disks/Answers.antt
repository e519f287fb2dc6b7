use Rattle.std.proofs.Common.{sym, ◌∙◌, ap, arith}
use Rattle.array_state.specs.raid_types_the_Shape.{Shape}
use Rattle.sb_election.proofs.raid_layout_Limits.{limited}
use Rattle.sb_election.specs.sb_specs_Reading.{shape_of, is_reshaping}
use Rattle.array_parts.proofs.array_members_Fit.{valid, roles-still}
use Rattle.array_type.proofs.Alike.{alike}
use Rattle.array_type.proofs.state.Array.disks.Goals as goal

pub returns-clause-roles : goal.returns-clause-roles
returns-clause-roles g c =
    let a = c.self.inside in
    let are = (alike c.self.invariant).kept.members_are in
    let still = ap (λ p. is_reshaping p.parts.members.newest) c.self.view_is ∙ c.requires.still in
    rw (← c.self.view_is) (roles-still (g.B.Bank.given a.bank) a.members are.placed still ∙ sym (ap (λ (s : Shape). s.disks) c.shape_in.ensures))

pub returns-clause-few : goal.returns-clause-few
returns-clause-few g c =
    let a = c.self.inside in
    let same = ap (λ (s : Shape). s.disks) c.shape_in.ensures in
    let most = (limited (shape_of a.members.newest) (valid (g.B.Bank.given a.bank) a.members (alike c.self.invariant).kept.members_are.placed)).most in
    omega (arith, same, most)
