use Rattle.std.proofs.Common.{codes, ap, ◌∙◌}
use Rattle.script.specs.sb_specs_Reading.{is_clean}
use Rattle.script_status.specs.Texts.{fields_text, clean_word}
use Rattle.script_status.proofs.examine.push_superblock.Goals as goal
use Rattle.script.proofs.AppendLaws.{then, retold, failed, longer}

pub returns-in_err-push_owner-clause-appended : goal.returns-in_err-push_owner-clause-appended
returns-in_err-push_owner-clause-appended c = failed c.from_residual.ensures.0 (longer (clean_word (is_clean c.args.sb.now)) (longer (codes " ") (longer (fields_text c.args.sb.now) c.in_err-push_owner.ensures.appended)))

pub returns-in_err-push_fields-clause-appended : goal.returns-in_err-push_fields-clause-appended
returns-in_err-push_fields-clause-appended c = failed c.from_residual-in_err-push_fields.ensures.0 (longer (clean_word (is_clean c.args.sb.now)) (longer (codes " ") (then c.in_ok-push_owner.ensures.appended c.in_err-push_fields.ensures.appended)))

pub returns-in_err-push_words-clause-appended : goal.returns-in_err-push_words-clause-appended
returns-in_err-push_words-clause-appended c = failed c.from_residual-in_err-push_words.ensures.0 (longer (clean_word (is_clean c.args.sb.now)) (then (then c.in_ok-push_owner.ensures.appended c.in_ok-push_fields.ensures.appended) c.in_err-push_words.ensures.appended))

pub returns-clause-appended : goal.returns-clause-appended
returns-clause-appended c = then (then (then c.in_ok-push_owner.ensures.appended c.in_ok-push_fields.ensures.appended) c.in_ok-push_words.ensures.appended) (retold (c.clean_name.ensures.word ∙ ap clean_word c.is_clean.ensures) c.push_words-2.ensures.appended)
