use Rattle.std.proofs.Common.{rules, ◌≡◌, Some, None, map, option_map, string_bytes, subst}
use Rattle.script_argv.specs.Words.{told_by, paths_in}
use Rattle.script_argv.proofs.Named.{run_in}
use Rattle.script_argv.proofs.command.run_of.Goals as goal

pub returns-in-Ok-Some-clause-named : goal.returns-in-Ok-Some-clause-named
returns-in-Ok-Some-clause-named c =
    let words = map string_bytes c.args.words.now in
    run_in words (Some (told_by c.in-Ok-Some.paths)) (search rules) (search rules)
    (subst (λ found. option_map told_by found ≡ paths_in words) c.in-Ok-Some.field-0-is c.in-Ok-Some.ensures)

pub returns-in-Ok-None-clause-named : goal.returns-in-Ok-None-clause-named
returns-in-Ok-None-clause-named c =
    let words = map string_bytes c.args.words.now in
    run_in words None (search rules) (search rules)
    (subst (λ found. option_map told_by found ≡ paths_in words) c.in-Ok-None.field-0-is c.in-Ok-None.ensures)
