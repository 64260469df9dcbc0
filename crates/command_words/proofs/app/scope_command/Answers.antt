use Rattle.std.proofs.Common.{ap, ◌∙◌, ◌≡◌, true, codes}
use Rattle.std.proofs.lemmas.Result.{IfOk-weaker}
use Rattle.clap.specs.Words.{App, app_of, with_subcommand, new_app}
use Rattle.clap.specs.Simple.{app_of_fields}
use Rattle.command_words.specs.Named.{with_plain, race_app, explain_app, picture_app}
use Rattle.command_words.proofs.app.scope_command.Goals as goal

abbrev top_required : App → App
top_required a = record a { top = record a.top { subcommand_required = true } }

pub returns : goal.returns
returns c =
    let bare : app_of c.subcommand_required-bare.result ≡ top_required (new_app (codes "arc_scope")) = ap app_of_fields c.subcommand_required-bare.ensures ∙ ap top_required (ap app_of_fields c.about.ensures ∙ c.new.ensures.app) in
    let plain = c.in_ok-plain.ensures ∙ ap with_plain bare in
    let more = c.in_ok-more.ensures ∙ ap (λ a. with_subcommand a race_app.top) plain in
    IfOk-weaker c.with_questions.result _ _ (λ r adds. adds ∙ ap (λ a. with_subcommand (with_subcommand a explain_app.top) picture_app.top) more) c.with_questions.ensures
