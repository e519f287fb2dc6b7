use Rattle.std.proofs.Common.{◌≡◌, ℕ, ◌+◌, ◌*◌, ◌<◌, length, refl, ◌∙◌, arith}
use Rattle.std.proofs.lemmas.List.{length-set}
use Rattle.raid_parity_simd.specs.Buffers.{role_bytes}
use Rattle.raid_parity_simd.proofs.Falling.{placed}
use Rattle.raid_parity_simd.proofs.buffers.buffer_starts.Goals as goal

pub loop-role-preserved : goal.loop-role-preserved
loop-role-preserved c =
    let role : ℕ = c.loop-role.role in
    let room : role < length c.loop-role.starts = omega (arith, c.loop-role.invariant.whole) in
    record {
      whole = length-set c.loop-role.starts role (role_bytes * c.loop-role.role + 512 * c.args.first) ∙ c.loop-role.invariant.whole;
      there = placed (λ j start. start ≡ role_bytes * j + 512 * c.args.first) c.loop-role.starts role (role_bytes * c.loop-role.role + 512 * c.args.first) room c.loop-role.invariant.there refl;
    }
