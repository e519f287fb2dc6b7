use Rattle.std.proofs.Common.{◌≡◌, ◌∙◌, append-nil, take, drop, refl, sym, ap, arith}
use Rattle.std.proofs.lemmas.List.{length-drop, take_all}
use Rattle.sb_codec.specs.declared.sb.Sb.{Sb}
use Rattle.sb_codec.specs.Superblock.{two_by_two}
use Rattle.sb_codec.proofs.SuperblockLaws.{writable-valid, others-stand}
use Rattle.test_devices.proofs.superblocks.rewritten.Goals as goal

pub encode-requires-clause-writable : goal.encode-requires-clause-writable
encode-requires-clause-writable c =
    writable-valid c.args.sectors.now c.in_ok-sb.sb (c.in_ok-sb.ensures.valid.0 refl) c.in_ok-sb.ensures.fields

pub encode-requires-clause-roles : goal.encode-requires-clause-roles
encode-requires-clause-roles c =
    let sectors = c.args.sectors.now in
    let whole : take 512 (drop 512 sectors) ≡ drop 512 sectors = take_all 512 (drop 512 sectors) (omega (arith, length-drop 512 sectors, c.told-sectors)) in
    ap two_by_two (append-nil c.copy_from_slice.new.self ∙ c.copy_from_slice.ensures.after ∙ whole)
    ∙ others-stand c.args.sectors.now c.told-sectors
    ∙ ap (λ (s : Sb). drop 128 s.dev_roles) (sym c.in_ok-sb.ensures.fields)
