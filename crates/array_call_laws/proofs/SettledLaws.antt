-- Where no resync is pending.
use Rattle.std.proofs.Common.{◌≡◌, ℕ, ◌≤◌, Bool, false, Option, Some, None, sym, ◌∙◌, arith}
use Rattle.array_call_specs.specs.sb_specs_the_Members.{Members}
use Rattle.std.specs.Prelude.{is_some}
use Rattle.array_call_specs.specs.array_members_Lacking.{synced_rows}

-- where no resync is pending, every row is mended
pub all-mended : (m : Members) (resync : Option ℕ) (unsynced : Bool) → unsynced ≡ is_some resync → unsynced ≡ false → m.newest.size ≤ synced_rows resync m
all-mended m None unsynced same synced = omega arith
all-mended m (Some mended) unsynced same synced = absurd (let no = sym same ∙ synced in cc)
