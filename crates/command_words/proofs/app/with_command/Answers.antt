use Rattle.std.proofs.Common.{ap, ◌∙◌, ◌≡◌}
use Rattle.std.proofs.lemmas.Result.{IfOk-weaker}
use Rattle.clap.specs.Words.{App, app_of, with_subcommand, new_app}
use Rattle.clap.specs.Simple.{app_of_fields}
use Rattle.command_words.proofs.Plain.{has_globals}
use Rattle.command_words.proofs.app.with_command.Goals as goal

pub returns : goal.returns
returns c =
    let top = λ (a : App). a.top in
    let named : app_of c.about-command.result ≡ new_app c.args.name.now = ap app_of_fields c.about-command.ensures ∙ c.new.ensures.app in
    IfOk-weaker c.subcommand.result _ _ (λ r adds. adds.shape (ap has_globals c.about-command.ensures ∙ c.new.ensures.local) ∙ ap (with_subcommand (app_of c.args.program)) (ap top named)) c.subcommand.ensures
