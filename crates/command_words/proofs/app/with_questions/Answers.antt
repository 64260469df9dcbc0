use Rattle.std.proofs.Common.{ap, ap₂, ◌∙◌}
use Rattle.std.proofs.lemmas.Result.{IfOk-weaker}
use Rattle.clap.specs.Words.{App, app_of, with_subcommand}
use Rattle.clap.specs.declared.builder.command.Command.{out-Command}
use Rattle.command_words.proofs.Plain.{no_globals}
use Rattle.command_words.proofs.app.with_questions.Goals as goal

pub returns : goal.returns
returns c =
    let top = λ (a : App). a.top in
    let plain = λ (a : App). a.top.is_plain in
    let one = c.in_ok-one.ensures.shape (no_globals (out-Command c.in_ok-explain.explain) (ap plain c.in_ok-explain.ensures)) ∙ ap (with_subcommand (app_of c.args.program)) (ap top c.in_ok-explain.ensures) in
    IfOk-weaker c.subcommand-2.result _ _ (λ r adds. adds.shape (no_globals (out-Command c.in_ok-picture.picture) (ap plain c.in_ok-picture.ensures)) ∙ ap₂ with_subcommand one (ap top c.in_ok-picture.ensures)) c.subcommand-2.ensures
