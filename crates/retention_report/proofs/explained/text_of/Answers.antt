use Rattle.std.proofs.Common.{◌≡◌, ◌∙◌, sym, length, string_bytes}
use Rattle.std.proofs.lemmas.List.{nil_from_length}
use Rattle.ownership_model.proofs.Counting.{same_number}
use Rattle.retention_report.proofs.ToldLemmas.{told_none, told_some}
use Rattle.retention_report.proofs.explained.text_of.Goals as goal

pub returns-then-is_empty : goal.returns-then-is_empty
returns-then-is_empty c =
    let none : length c.args.objects.now ≡ 0 = same_number (length c.args.objects.now) 0 (sym c.is_empty.ensures ∙ c.if-is_empty.true) in
    told_none c.args.with_lives c.args.ops.now c.args.objects.now (string_bytes c.new-text.result) _ (nil_from_length c.args.objects.now none) c.new-text.ensures.bytes c.in_ok-push_summary.ensures

pub returns : goal.returns
returns c =
    told_some c.args.with_lives c.args.ops.now c.args.objects.now (string_bytes c.new-text.result) _ (sym c.is_empty.ensures ∙ c.if-is_empty.false) c.new-text.ensures.bytes c.in_ok-push_lines.ensures.lines
