use Rattle.std.proofs.Common.{◌≡◌, ◌-◌, ◌<◌, ◌≤◌, length, take, drop, ap, sym, subst, arith}
use Rattle.std.proofs.lemmas.List.{take_rest}
use Rattle.run_engine.specs.Segments.{trace_of}
use Rattle.run_engine.proofs.SeekLemmas.{rest-inside, ops-there}
use Rattle.run_engine.proofs.segments.seek.ops_from.Goals as goal

pub returns-then-rest-ops-clause-ops : goal.returns-then-rest-ops-clause-ops
returns-then-rest-ops-clause-ops c =
    let all = trace_of c.args.segments.now in
    let rest = c.args.place - c.last_from-i.result.1 in
    let last = c.last_from-i.ensures.last in
    let lt : c.last_from-i.result.0 < length c.args.segments.now = omega (arith, last.within, c.if-i-len.false, c.len.ensures) in
    let few : c.args.place - c.last_from-i.result.1 ≤ length c.at-segment.result.ops = omega (arith, ap length c.ops-ops.ensures, c.if-rest-ops.true) in
    subst (λ ys. ys ≡ take (length ys) (drop c.args.place all)) (sym (take_rest c.ops-ops.result.now rest))
    (subst (λ xs. drop rest xs ≡ take (length (drop rest xs)) (drop c.args.place all)) (sym c.ops-ops.ensures)
    (ops-there c.args.segments.now c.args.place c.last_from-i.result.0 c.last_from-i.result.1 c.at-segment.result lt c.at-segment.ensures last.place last.before few))

pub returns-clause-some : goal.returns-clause-some
returns-clause-some c lt =
    let less = rest-inside c.args.segments.now c.args.place c.last_from-i.result.0 c.last_from-i.result.1 c.at-segment.result c.last_from-i.ensures.last lt c.at-segment.ensures in
    absurd (omega (arith, ap length c.ops-ops.ensures, c.if-rest-ops.false))
