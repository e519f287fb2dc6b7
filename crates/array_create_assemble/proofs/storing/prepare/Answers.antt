use Rattle.std.proofs.Common.{List, ℕ, drop, length, sym, ap, ◌∙◌, arith}
use Rattle.std.proofs.lemmas.List.{length-drop}
use Rattle.array_found_laws.specs.sb_codec_the_Sb.{Sb}
use Rattle.array_found_laws.specs.sb_codec_Superblock.{checksum}
use Rattle.array_create_assemble.specs.Making.{created_sb}
use Rattle.array_create_assemble.proofs.FillLaws.{last-entries, made-of}
use Rattle.array_create_assemble.proofs.storing.prepare.Goals as goal

pub created_sb-sb-requires-clause-second : goal.created_sb-sb-requires-clause-second
created_sb-sb-requires-clause-second c = ap length c.last_entries.ensures ∙ length-drop 128 c.fields_of-found.result.dev_roles ∙ omega arith

pub encode-requires-clause-roles : goal.encode-requires-clause-roles
encode-requires-clause-roles c =
    last-entries c.args.spec.now.shape.disks c.args.bytes.now (omega arith)
    ∙ sym (ap (λ (sb : Sb). drop 128 sb.dev_roles) c.created_sb-sb.ensures
    ∙ ap (λ (second : List ℕ). drop 128 (created_sb c.args.spec.now c.args.number c.args.sectors second).dev_roles)
    (c.last_entries.ensures ∙ ap (λ (sb : Sb). drop 128 sb.dev_roles) c.fields_of-found.ensures))

pub returns-clause-made : goal.returns-clause-made
returns-clause-made c =
    made-of c.args.spec.now c.args.number c.args.sectors (checksum c.encode.new.sectors) c.last_entries.result.now c.created_sb-sb.result c.fields_of.result
    (ap length c.last_entries.ensures ∙ length-drop 128 c.fields_of-found.result.dev_roles ∙ omega arith)
    c.created_sb-sb.ensures (c.fields_of.ensures ∙ c.encode.ensures.fields)

pub returns-clause-small : goal.returns-clause-small
returns-clause-small c = c.fits-bytes
