use Rattle.std.proofs.Common.{rules, ◌≡◌, ◌≤◌, length, vec_len, arith}
use Rattle.std.proofs.lemmas.Result.{IfOk-weaker}
use Rattle.trace_types.specs.declared.limits.TheConstants.{MAX_INPUT}
use Rattle.command_serve.specs.Serve.{IsDueOrTooLong}
use Rattle.command_serve.proofs.Served.{due-short, served}
use Rattle.command_serve.proofs.serve.serve.Goals as goal

pub returns-in-Ok : goal.returns-in-Ok
returns-in-Ok g c =
    let is = g.C.Answers.IsDue c.args.command.now in
    let input = c.in-Ok.input.items in
    let read = c.in-Ok.ensures in
    let long : vec_len c.in-Ok.input ≡ length input = search rules in
    let short : length input ≤ MAX_INPUT = omega (arith, long, read.ok.2) in
    let may = IfOk-weaker c.answer.result _ (IsDueOrTooLong is input) (λ d h. due-short is input d short h) c.answer.ensures in
    let done = c.write_due.ensures in
    served is g.S.Source _ _ g.K.Sink _ _ input c.answer.result _ read.input.0 read.input.1 read.read may done.written done.memory done.device done.other
