use Rattle.std.proofs.Common.{◌∙◌, map, string_bytes, subst}
use Rattle.std.proofs.lemmas.Result.{IfOk-weaker}
use Rattle.script_argv.specs.Words.{IsParsedAs, run_app}
use Rattle.script_argv.proofs.Parsed.{none_in, some_in}
use Rattle.script_argv.proofs.paths.paths_of.Goals as goal

pub returns-in-Ok-Some : goal.returns-in-Ok-Some
returns-in-Ok-Some c =
    let words = map string_bytes c.args.words.now in
    IfOk-weaker c.found_paths.result _ _ (λ found h. h ∙ some_in words c.in-Ok-Some.matches (subst (IsParsedAs run_app words) c.in-Ok-Some.field-0-is c.in-Ok-Some.ensures))
    c.found_paths.ensures

pub returns-in-Ok-None : goal.returns-in-Ok-None
returns-in-Ok-None c =
    let words = map string_bytes c.args.words.now in
    none_in words (subst (IsParsedAs run_app words) c.in-Ok-None.field-0-is c.in-Ok-None.ensures)
