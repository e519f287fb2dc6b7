use Rattle.std.proofs.Common.{rules, map, string_bytes}
use Rattle.clap.specs.Words.{app_of}
use Rattle.script_argv.proofs.Parsed.{parsed, refused}
use Rattle.script_argv.proofs.parsing.parse.Goals as goal

pub returns-in-Ok : goal.returns-in-Ok
returns-in-Ok c =
    parsed (app_of c.args.form) (map string_bytes c.args.words.now) c.in-Ok.matches c.requires.simple c.requires.free
    c.in-Ok.ensures.matches c.in-Ok.ensures.kinds

pub returns : goal.returns
returns c =
    refused (app_of c.args.form) (map string_bytes c.args.words.now) c.in-Err.error c.requires.free c.in-Err.ensures.kinds
    (c.is_short.ensures.no (search rules))
