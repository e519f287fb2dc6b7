use Rattle.std.proofs.Common.{rules, Some, None, map, string_bytes}
use Rattle.script_argv.proofs.Named.{demo_asked}
use Rattle.script_argv.proofs.command.demo_of.Goals as goal

pub returns-in-Ok-Some-clause-named : goal.returns-in-Ok-Some-clause-named
returns-in-Ok-Some-clause-named c =
    demo_asked (map string_bytes c.args.words.now) (Some c.in-Ok-Some.size) (search rules) (search rules) (search rules) (search rules)

pub returns-in-Ok-None-clause-named : goal.returns-in-Ok-None-clause-named
returns-in-Ok-None-clause-named c =
    demo_asked (map string_bytes c.args.words.now) None (search rules) (search rules) (search rules) (search rules)
