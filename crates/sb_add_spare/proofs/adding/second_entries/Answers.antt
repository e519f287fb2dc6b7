use Rattle.std.proofs.Common.{◌∙◌, drop, sym, ap, take_all, arith}
use Rattle.std.proofs.lemmas.List.{length-drop}
use Rattle.sb_safe_updates.specs.sb_codec_the_Sb.{Sb}
use Rattle.sb_safe_updates.proofs.sb_codec_SuperblockLaws.{others-stand}
use Rattle.sb_add_spare.proofs.adding.second_entries.Goals as goal

pub returns-clause-entries : goal.returns-clause-entries
returns-clause-entries c =
    c.copy_from_slice.ensures.after
    ∙ take_all _ (drop 128 c.fields_of-found.result.dev_roles) (omega (arith, length-drop 128 c.fields_of-found.result.dev_roles))
    ∙ ap (λ (sb : Sb). drop 128 sb.dev_roles) c.fields_of-found.ensures
    ∙ sym (others-stand c.args.bytes.now c.told-bytes)

pub returns-clause-small : goal.returns-clause-small
returns-clause-small c = c.fits-bytes
