use Rattle.std.proofs.Common.{◌-◌, sym, ◌∙◌}
use Rattle.trace_reader.specs.Plain.{is_unescaped_byte}
use Rattle.trace_reader.proofs.Texts.{cut_at, all_before}
use Rattle.trace_reader.proofs.plain.texts.closed_behind.Goals as goal

pub returns-clause-quoted : goal.returns-clause-quoted
returns-clause-quoted c =
    let whole = c.args.whole in
    cut_at c.args.text.now whole (c.min.result - whole) c.in_ok-len.len c.in_ok-len.ensures.0 34 c.in_ok-len.ensures.1

pub returns-clause-plain : goal.returns-clause-plain
returns-clause-plain c =
    let whole = c.args.whole in
    all_before c.args.text.now whole (c.min.result - whole) c.in_ok-len.len c.in_ok-len.ensures.0 is_unescaped_byte c.requires.plain (sym c.is_unescaped.ensures ∙ c.if-not-is_unescaped.false)
