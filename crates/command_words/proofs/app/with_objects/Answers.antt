use Rattle.std.proofs.Common.{ap₂, ◌∙◌}
use Rattle.std.proofs.lemmas.Result.{IfOk-weaker}
use Rattle.clap.specs.Words.{with_rule}
use Rattle.command_words.proofs.app.with_objects.Goals as goal

pub returns : goal.returns
returns c =
    let optional = c.in_ok-optional.ensures.shape c.requires in
    IfOk-weaker c.arg-2.result _ _ (λ r adds. adds.shape c.objects_argument.ensures.local ∙ ap₂ with_rule optional c.objects_argument.ensures.rule) c.arg-2.ensures
