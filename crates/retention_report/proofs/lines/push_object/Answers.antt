use Rattle.std.proofs.Common.{string_bytes}
use Rattle.retention_report.proofs.ToldLemmas.{object_lines}
use Rattle.retention_report.proofs.lines.push_object.Goals as goal

pub returns-clause-lines : goal.returns-clause-lines
returns-clause-lines c =
    object_lines c.args.with_lives c.args.ops.now c.args.object (string_bytes c.args.text.now) _ _ _
    c.in_ok-push_report_line.ensures c.in_ok-push_life_lines.ensures c.in_ok-push_account_lines.ensures.lines
