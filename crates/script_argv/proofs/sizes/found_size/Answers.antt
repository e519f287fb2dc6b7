use Rattle.std.proofs.Common.{rules, ◌∙◌, Some, None}
use Rattle.clap.specs.Words.{found_of}
use Rattle.script_argv.proofs.Parsed.{size_read}
use Rattle.script_argv.proofs.sizes.found_size.Goals as goal

pub returns-in_default-clause-named : goal.returns-in_default-clause-named
returns-in_default-clause-named c = size_read (found_of c.args.matches.now) None (search rules)

pub returns-clause-named : goal.returns-clause-named
returns-clause-named c = c.size_of.ensures.named ∙ size_read (found_of c.args.matches.now) (Some c.in-Some.word.now) c.in-Some.ensures
