use Rattle.std.proofs.Common.{refl, string_bytes}
use Rattle.retention_report.proofs.ToldLemmas.{account_none, account_some}
use Rattle.retention_report.proofs.lines.push_account_lines.Goals as goal

pub returns-in_default-clause-lines : goal.returns-in_default-clause-lines
returns-in_default-clause-lines c = account_none c.args.ops.now c.args.told.now.end c.args.object (string_bytes c.args.text.now) _ c.requires.of c.in_default.ensures refl

pub returns-clause-lines : goal.returns-clause-lines
returns-clause-lines c =
    account_some c.args.ops.now c.args.told.now.end c.args.object c.in-Some.index _ (string_bytes c.args.text.now) _ c.requires.of c.in-Some.ensures.0 c.in-Some.ensures.1
    (c.in_ok-account.ensures.account c.args.ops.now c.requires.losses c.requires.of c.requires.lost c.requires.dated) c.in_ok-push_account.ensures
