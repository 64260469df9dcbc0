use Rattle.std.proofs.Common.{◌+◌, ◌++◌, take, ap, sym, ◌∙◌, append_assoc, string_bytes}
use Rattle.std.proofs.lemmas.List.Concat.{flat_map-append}
use Rattle.trace_types.specs.declared.stretches.Stretch.{Stretch}
use Rattle.trace_types.specs.Stretches.{ops_of, outcomes_of}
use Rattle.leak_report.specs.Lines.{lines_of}
use Rattle.leak_report.specs.Text.{line_text, lines_text}
use Rattle.leak_report.proofs.LineLemmas.{lines_append}
use Rattle.leak_report.proofs.StretchLemmas.{flat_map_more, as_many}
use Rattle.leak_report.proofs.line_text.push_all_lines.Goals as goal

pub loop-stretch-preserved : goal.loop-stretch-preserved
loop-stretch-preserved c =
    let s = c.stretch-item.result in
    let ss = c.args.stretches.now in
    let i = c.loop-stretch.stretch-index in
    let ops = flat_map_more (λ (s : Stretch). s.ops.now) ss i s c.loop-stretch-test.true c.stretch-item.is in
    let outs = flat_map_more (λ (s : Stretch). s.outcomes.now) ss i s c.loop-stretch-test.true c.stretch-item.is in
    let before = lines_of (ops_of (take i ss)) (outcomes_of (take i ss)) in
    let here = lines_of s.ops.now s.outcomes.now in
    let all = ap (λ xs. lines_of xs (outcomes_of (take (i + 1) ss))) ops ∙ ap (lines_of (ops_of (take i ss) ++ s.ops.now)) outs
    ∙ lines_append (ops_of (take i ss)) s.ops.now (outcomes_of (take i ss)) s.outcomes.now (as_many (take i ss)) in
    c.in_ok-push_lines.ensures
    ∙ ap (λ xs. xs ++ lines_text here) c.loop-stretch.invariant
    ∙ append_assoc (string_bytes c.args.text.now) (lines_text before) (lines_text here)
    ∙ ap (λ xs. string_bytes c.args.text.now ++ xs) (sym (ap lines_text all ∙ flat_map-append line_text before here))
