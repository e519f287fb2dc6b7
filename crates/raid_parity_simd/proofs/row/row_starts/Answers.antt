use Rattle.std.proofs.Common.{◌≡◌, ℕ, ◌*◌, ◌<◌, length, refl, ◌∙◌, arith}
use Rattle.std.proofs.lemmas.List.{length-set}
use Rattle.raid_parity_simd.proofs.Falling.{placed}
use Rattle.raid_parity_simd.proofs.row.row_starts.Goals as goal

pub loop-role-preserved : goal.loop-role-preserved
loop-role-preserved c =
    let role : ℕ = c.loop-role.role in
    let room : role < length c.loop-role.starts = omega (arith, c.loop-role.invariant.whole) in
    record {
      whole = length-set c.loop-role.starts role (512 * c.loop-role.role) ∙ c.loop-role.invariant.whole;
      there = placed (λ j start. start ≡ 512 * j) c.loop-role.starts role (512 * c.loop-role.role) room c.loop-role.invariant.there refl;
    }
