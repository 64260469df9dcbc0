use Rattle.std.proofs.Common.{◌≡◌, ◌+◌, ◌-◌, take, drop, true, sym, ap, ◌∙◌, arith}
use Rattle.std.specs.List.{list_all}
use Rattle.trace_reader.specs.Plain.{is_unescaped_byte}
use Rattle.trace_reader.proofs.Texts.{all_of_more}
use Rattle.trace_reader.proofs.plain.texts.unescaped_blocks.Goals as goal

pub ends-preserved : goal.ends-preserved
ends-preserved c =
    let end = c.ends.end in
    let block : list_all is_unescaped_byte (take (end + 128 - end) (drop end c.args.text.now)) ≡ true = sym c.is_unescaped.ensures ∙ c.if-not-is_unescaped.false in
    let size : 128 ≡ end + 128 - end = omega arith in
    (omega arith, all_of_more is_unescaped_byte c.args.text.now end 128 c.ends.invariant.1 (ap (λ n. list_all is_unescaped_byte (take n (drop end c.args.text.now))) size ∙ block))
