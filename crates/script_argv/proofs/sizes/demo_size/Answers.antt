use Rattle.std.proofs.Common.{◌∙◌, map, string_bytes, subst}
use Rattle.script_argv.specs.Words.{IsParsedAs, demo_app}
use Rattle.script_argv.proofs.Parsed.{no_size_in, size_is_in}
use Rattle.script_argv.proofs.sizes.demo_size.Goals as goal

pub returns-in-Ok-Some-clause-named : goal.returns-in-Ok-Some-clause-named
returns-in-Ok-Some-clause-named c =
    let words = map string_bytes c.args.words.now in
    c.found_size.ensures.named ∙ size_is_in words c.in-Ok-Some.matches (subst (IsParsedAs demo_app words) c.in-Ok-Some.field-0-is c.in-Ok-Some.ensures)

pub returns-in-Ok-None-clause-named : goal.returns-in-Ok-None-clause-named
returns-in-Ok-None-clause-named c =
    let words = map string_bytes c.args.words.now in
    no_size_in words (subst (IsParsedAs demo_app words) c.in-Ok-None.field-0-is c.in-Ok-None.ensures)
