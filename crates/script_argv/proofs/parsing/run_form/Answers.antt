use Rattle.std.proofs.Common.{rules, ap₂, ◌≡◌, ◌∙◌}
use Rattle.clap.specs.Words.{rule_of, with_rule}
use Rattle.script_argv.specs.Words.{backup_rule, script_rule, image_rule}
use Rattle.script_argv.proofs.parsing.run_form.Goals as goal

pub returns : goal.returns
returns c =
    let backup_is : rule_of c.action-backup.result ≡ backup_rule = search rules in
    let script_is : rule_of c.action-script.result ≡ script_rule = search rules in
    let image_is : rule_of c.action-image.result ≡ image_rule = search rules in
    c.in_ok-command.ensures.shape (search rules)
    ∙ ap₂ with_rule (c.in_ok-arg-2.ensures.shape (search rules)
    ∙ ap₂ with_rule (c.in_ok-arg.ensures.shape (search rules) ∙ ap₂ with_rule c.new-4.ensures.app backup_is) script_is) image_is
