use Rattle.std.specs.Prelude.{map, string_bytes}
use Rattle.clap.specs.Words.{app_of}
use Rattle.clap.specs.Values.{kind_of}
use Rattle.command_words.proofs.Refused.{refused}
use Rattle.command_words.proofs.command_among.Goals as goal

pub returns-in-Err-clause-refused : goal.returns-in-Err-clause-refused
returns-in-Err-clause-refused c =
    refused (app_of c.args.command.now) c.requires (map string_bytes c.args.words.now) c.refusal.result (kind_of c.in-Err.error) c.refusal.ensures c.in-Err.ensures.passes
