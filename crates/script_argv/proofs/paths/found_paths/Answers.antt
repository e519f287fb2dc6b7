use Rattle.std.proofs.Common.{rules, ◌∙◌, Some, map, option_map}
use Rattle.std.proofs.lemmas.Result.{IfOk-weaker}
use Rattle.clap.specs.Words.{found_of}
use Rattle.script_argv.proofs.Parsed.{paths_read, no_script_read, no_images_read}
use Rattle.script_argv.proofs.paths.found_paths.Goals as goal

pub returns-in_default : goal.returns-in_default
returns-in_default c = no_script_read (found_of c.args.matches.now) (search rules)

pub returns-in_default-get_strs : goal.returns-in_default-get_strs
returns-in_default-get_strs c = no_images_read (found_of c.args.matches.now) (search rules)

pub returns : goal.returns
returns c =
    IfOk-weaker c.new_paths.result _ _ (λ found h. h ∙ paths_read (found_of c.args.matches.now) (Some c.in-Some.script.now)
    (option_map (λ s. s.now) c.get_str-2.result) (Some (map (λ v. v.now) c.in-Some-get_strs.images.now)) c.in-Some.ensures
    c.in-Some-get_strs.ensures c.get_str-2.ensures) c.new_paths.ensures
