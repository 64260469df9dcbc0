use Rattle.std.proofs.Common.{ap, ◌∙◌, codes}
use Rattle.std.proofs.lemmas.Result.{IfOk-weaker}
use Rattle.clap.specs.Words.{with_subcommand, new_app}
use Rattle.command_words.proofs.app.with_plain_commands.Goals as goal

pub returns : goal.returns
returns c =
    let two = c.in_ok-two.ensures ∙ ap (λ a. with_subcommand a (new_app (codes "script")).top) c.in_ok-one.ensures in
    IfOk-weaker c.with_command-3.result _ _ (λ r adds. adds ∙ ap (λ a. with_subcommand a (new_app (codes "whatif")).top) two) c.with_command-3.ensures
