use Rattle.std.proofs.Common.{◌≡◌, take, drop, ◌∙◌, ap, arith}
use Rattle.std.proofs.lemmas.List.{append-nil, take_all, length-drop}
use Rattle.sb_codec.specs.Superblock.{two_by_two}
use Rattle.sb_codec.proofs.codec.sectors_of.Goals as goal

pub encode-requires-clause-roles : goal.encode-requires-clause-roles
encode-requires-clause-roles c =
    let roles = c.args.sb.now.dev_roles in
    let rest : take 256 (drop 128 roles) ≡ drop 128 roles = take_all 256 (drop 128 roles) (omega (arith, length-drop 128 roles, c.type_inv.sb)) in
    ap two_by_two (append-nil _) ∙ c.put_roles.ensures ∙ rest
