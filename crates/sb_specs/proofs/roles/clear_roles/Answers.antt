use Rattle.std.proofs.Common.{◌≡◌, ℕ, ◌+◌, List, ◌++◌, take, drop, map, slice_set, slice_index, ◌∙◌, ap, sym, subst, arith}
use Rattle.sb_specs.specs.Update.{faulty_role}
use Rattle.sb_specs.proofs.RoleTables.{changed-more}
use Rattle.sb_specs.proofs.roles.clear_roles.Goals as goal

pub loop-dev-preserved : goal.loop-dev-preserved
loop-dev-preserved c =
    let t = c.args.entries.now in
    let i = c.loop-dev.dev in
    let step = changed-more faulty_role t i 0 (omega arith) in
    ap (λ (e : ℕ). slice_set c.loop-dev.entries i e) c.max.ensures
    ∙ subst (λ (l : List ℕ). slice_set l i (faulty_role (slice_index l i)) ≡ map faulty_role (take (i + 1) t) ++ drop (i + 1) t) (sym c.loop-dev.invariant) step

pub returns : goal.returns
returns c =
    let all : c.loop-dev.dev ≡ 128 = omega arith in
    subst (λ (n : ℕ). c.loop-dev.entries ≡ map faulty_role (take n c.args.entries.now) ++ drop n c.args.entries.now) all c.loop-dev.invariant
