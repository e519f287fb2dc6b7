use Rattle.std.proofs.Common.{◌≡◌, ◌≤◌, take, length, replicate, ◌∙◌, arith}
use Rattle.std.specs.Str.{bytes_eq}
use Rattle.history.specs.raid_types_Bytes.{little}
use Rattle.script.proofs.KindLaws.{kind-zero, kind-seed, kind-hex, little-four}
use Rattle.script.proofs.reply.look_at.Goals as goal

pub returns-then-are_alike : goal.returns-then-are_alike
returns-then-are_alike c =
    let told : c.are_alike.result ≡ bytes_eq c.args.sector.now (replicate 512 0) = c.are_alike.ensures in
    kind-zero c.args.x c.args.sector.now c.are_alike.result told c.if-are_alike.true

pub returns-then-are_alike-2 : goal.returns-then-are_alike-2
returns-then-are_alike-2 c =
    let sector = c.args.sector.now in
    let told : c.are_alike.result ≡ bytes_eq sector (replicate 512 0) = c.are_alike.ensures in
    let long : 4 ≤ length sector = omega (arith, c.told-sector) in
    let number : c.from_le_bytes-seed.result ≡ little (take 4 sector) = c.from_le_bytes-seed.ensures ∙ little-four sector long in
    kind-seed c.args.x sector c.seed_contents.result c.are_alike.result c.are_alike-2.result c.from_le_bytes-seed.result
    told c.if-are_alike.false number c.seed_contents.ensures c.are_alike-2.ensures c.if-are_alike-2.true

pub returns-else-are_alike-2 : goal.returns-else-are_alike-2
returns-else-are_alike-2 c =
    let sector = c.args.sector.now in
    let told : c.are_alike.result ≡ bytes_eq sector (replicate 512 0) = c.are_alike.ensures in
    let long : 4 ≤ length sector = omega (arith, c.told-sector) in
    let number : c.from_le_bytes-seed.result ≡ little (take 4 sector) = c.from_le_bytes-seed.ensures ∙ little-four sector long in
    kind-hex c.args.x sector c.seed_contents.result c.are_alike.result c.are_alike-2.result c.from_le_bytes-seed.result
    told c.if-are_alike.false number c.seed_contents.ensures c.are_alike-2.ensures c.if-are_alike-2.false
