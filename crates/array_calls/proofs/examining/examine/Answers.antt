use Rattle.array_type.proofs.array_fixed_laws_AddLaws.{ready-same}
use Rattle.array_type.proofs.array_reshaping_laws_Examined.{ready-still}
use Rattle.array_type.proofs.Rest.{on-both}
use Rattle.array_type.proofs.Alike.{goes-on, stays-at-rest}
use Rattle.array_type.specs.sb_specs_Reading.{is_reshaping}
use Rattle.array_calls.proofs.examining.examine.Goals as goal

pub invariant_of-array : goal.invariant_of-array
invariant_of-array g c =
    on-both (is_reshaping c.array.inside.members.newest)
    (λ active. goes-on (c.array.invariant.moves active).0 (
    let was = (c.array.invariant.moves active).1 in
    let a = c.array.inside in
    let did = c.read_superblock.ensures in
    ready-still {tells = g.B.Bank.tells} {backup = a.backup} did.given did.tape did.cause.never_falls was))
    (λ still. stays-at-rest (c.array.invariant.rests still).0 (
    let was = (c.array.invariant.rests still).1 in
    let a = c.array.inside in
    let did = c.read_superblock.ensures in
    ready-same {tells = g.B.Bank.tells} {backup = a.backup} did.given did.tape did.cause.never_falls was))

pub returns-clause-found : goal.returns-clause-found
returns-clause-found g c =
    rw (← c.array.view_is) c.read_superblock.ensures.found

pub returns-clause-tape : goal.returns-clause-tape
returns-clause-tape g c =
    rw (← c.array.view_is) c.read_superblock.ensures.tape
