use Rattle.std.proofs.Common.{ap, ap₂, ◌∙◌, ◌≡◌, codes}
use Rattle.std.proofs.lemmas.Result.{IfOk-weaker}
use Rattle.clap.specs.Words.{App, Rule, app_of, new_app, with_rule}
use Rattle.clap.specs.Simple.{app_of_fields}
use Rattle.command_words.specs.Named.{objects_rule}
use Rattle.command_words.proofs.app.picture_command.Goals as goal

pub returns : goal.returns
returns c =
    let titled : app_of c.about-titled.result ≡ new_app (codes "picture") = ap app_of_fields c.about-titled.ensures ∙ c.new.ensures.app in
    IfOk-weaker c.with_objects.result _ _ (λ r is. is ∙ ap₂ (λ (a : App) (rule : Rule). with_rule (with_rule a rule) objects_rule) titled c.flag-all.ensures.rule) c.with_objects.ensures
