use Rattle.std.proofs.Common.{ap, ap₂, ◌∙◌, ◌≡◌, Bool, ◌||◌, codes}
use Rattle.std.proofs.lemmas.Result.{IfOk-weaker}
use Rattle.clap.specs.Words.{App, app_of, with_rule, with_subcommand, new_app}
use Rattle.clap.specs.Simple.{app_of_fields}
use Rattle.command_words.proofs.Plain.{has_globals}
use Rattle.command_words.proofs.app.with_race.Goals as goal

pub returns : goal.returns
returns c =
    let top = λ (a : App). a.top in
    let titled : app_of c.about-titled.result ≡ new_app (codes "race") = ap app_of_fields c.about-titled.ensures ∙ c.new.ensures.app in
    let race = c.in_ok-race.ensures.shape c.workers_option.ensures.local ∙ ap₂ with_rule titled c.workers_option.ensures.rule in
    let local = c.in_ok-race.ensures.globals ∙ ap₂ (λ (x y : Bool). x || y) (ap has_globals c.about-titled.ensures ∙ c.new.ensures.local) c.workers_option.ensures.local in
    IfOk-weaker c.subcommand.result _ _ (λ r adds. adds.shape local ∙ ap (with_subcommand (app_of c.args.program)) (ap top race)) c.subcommand.ensures
