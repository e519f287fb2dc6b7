-- A resync that has mended each stripe has mended each row.
use Rattle.std.proofs.Common.{◌≡◌, ℕ, ◌*◌, ◌/◌, ◌≤◌, true, Option, Some, ◌∙◌, ap, arith}
use Rattle.std.proofs.lemmas.Bool.Decides.{nat_tests}
use Rattle.array_call_specs.specs.raid_types_Shapes.{is_multiple}
use Rattle.array_call_specs.specs.bank_Given.{Given}
use Rattle.array_call_specs.specs.sb_specs_the_Members.{Members}
use Rattle.array_call_specs.specs.sb_specs_Reading.{shape_of}
use Rattle.array_call_specs.specs.array_members_Placed.{IsPlaced}
use Rattle.array_call_specs.specs.array_members_Status.{stripes_of}
use Rattle.array_call_specs.specs.array_members_Lacking.{synced_rows}
use Rattle.array_call_specs.proofs.array_members_Fit.{multiple}

-- ---- every stripe is mended

whole_size : (n c : ℕ) → is_multiple n c ≡ true → n / c * c ≡ n
whole_size n c h = grind (arith, nat_tests)

-- the rows of all stripes are all rows
pub all-mended : {given : Given} {resync : Option ℕ} {members : Members} → IsPlaced given members → resync ≡ Some (stripes_of members) → synced_rows resync members ≡ members.newest.size
all-mended {given = given} {members = members} placed all =
    ap (λ (o : Option ℕ). synced_rows o members) all ∙ whole_size members.newest.size (shape_of members.newest).chunk (multiple given members placed)

pub enough-mended : {given : Given} {resync : Option ℕ} {members : Members} → IsPlaced given members → resync ≡ Some (stripes_of members) → members.newest.size ≤ synced_rows resync members
enough-mended placed all = let same = all-mended placed all in omega (arith, same)
