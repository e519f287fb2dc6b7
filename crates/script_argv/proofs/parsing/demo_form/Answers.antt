use Rattle.std.proofs.Common.{rules, ap₂, ◌≡◌, ◌∙◌}
use Rattle.clap.specs.Words.{rule_of, with_rule}
use Rattle.script_argv.specs.Words.{size_rule}
use Rattle.script_argv.proofs.parsing.demo_form.Goals as goal

pub returns : goal.returns
returns c =
    let size_is : rule_of c.action-size.result ≡ size_rule = search rules in
    c.in_ok-command.ensures.shape (search rules) ∙ ap₂ with_rule c.new-2.ensures.app size_is
