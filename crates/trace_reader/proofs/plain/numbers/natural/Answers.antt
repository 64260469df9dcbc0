use Rattle.std.proofs.Common.{◌≡◌, get_or, arith}
use Rattle.trace_reader.proofs.PlainLemmas.{decimal_at}
use Rattle.trace_reader.proofs.plain.numbers.natural.Goals.{else-text-eq48-via-then-text-eq48+else-len-gt1, else-text-eq48-via-else-text-eq48}
use Rattle.trace_reader.proofs.plain.numbers.natural.Goals as goal

pub returns-clause-number : goal.returns-clause-number
returns-clause-number c =
    let s = c.args.text.now in
    let n = c.in_ok-n.n in
    let k = c.in_ok-n.len in
    let lone : get_or s 0 0 ≡ 48 → k ≡ 1 = λ zero. elim c.else-text-eq48.branch [
      | else-text-eq48-via-then-text-eq48+else-len-gt1 w ↦ grind arith
      | else-text-eq48-via-else-text-eq48 w ↦ grind arith
    ] in
    (decimal_at s k n c.in_ok-n.ensures.value.0 c.in_ok-n.ensures.value.1 c.in_ok-n.ensures.len.0 c.in_ok-n.ensures.len.1 c.in_ok-n.ensures.len.2 lone, c.in_ok-n.ensures.len.2)
