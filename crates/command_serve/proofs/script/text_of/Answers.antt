use Rattle.std.proofs.Common.{List, ◌++◌, ◌∙◌, ap₂}
use Rattle.std.proofs.lemmas.Result.{IfOk-weaker}
use Rattle.trace_reader.specs.declared.request.RequestLine.{RequestLine}
use Rattle.edit_desk.specs.Answers.{Standing}
use Rattle.command_serve.specs.Replay.{report_of_replay}
use Rattle.command_serve.specs.Script.{replies_text, replies_from, standing_from}
use Rattle.command_serve.proofs.script.text_of.Goals as goal

pub returns-in-Ok : goal.returns-in-Ok
returns-in-Ok c =
    let from = λ (s : Standing) (lines : List RequestLine). replies_text (replies_from s lines) ++ report_of_replay (standing_from s lines).trace in
    IfOk-weaker c.text_on.result _ _ (λ text is. is ∙ ap₂ from c.in-Ok.ensures.standing c.into_vec.ensures) c.text_on.ensures
