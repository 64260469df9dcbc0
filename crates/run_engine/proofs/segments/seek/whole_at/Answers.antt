use Rattle.std.proofs.Common.{◌≡◌, ◌<◌, length, take, arith}
use Rattle.run_engine.specs.Segments.{trace_of}
use Rattle.run_engine.proofs.SeekLemmas.{ops-whole}
use Rattle.run_engine.proofs.segments.seek.whole_at.Goals as goal

pub returns : goal.returns
returns c =
    let last = c.last_from-i.ensures.last in
    let there : c.last_from-i.result.0 < length c.args.segments.now = omega (arith, last.within) in
    let begins : length (trace_of (take c.last_from-i.result.0 c.args.segments.now)) ≡ c.args.place = omega (arith, last.place) in
    rw c.shared_ops.ensures (ops-whole c.args.segments.now c.args.place c.last_from-i.result.0 c.at.result there c.at.ensures begins)
