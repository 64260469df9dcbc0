use Rattle.trace_reader.proofs.PlainLemmas.{if_read, member_of}
use Rattle.trace_reader.proofs.plain.line.member.Goals as goal

pub returns : goal.returns
returns c =
    let key = c.in-Some.ensures in
    if_read c.keep.result _ _ _
    (λ rest found. (key.0, found.0, member_of c.args.text.now key.0 c.after_spaces.result.now c.in-Some.value.now rest.now found.0 key.2 c.after_spaces.ensures found.1, λ ms. found.2 key.0 ms key.1))
    c.keep.ensures
