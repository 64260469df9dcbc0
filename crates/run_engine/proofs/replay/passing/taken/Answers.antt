use Rattle.std.proofs.Common.{◌+◌, List, length, take, arith, ap, sym, subst, ◌∙◌}
use Rattle.std.proofs.Math.Seq.{take-append_seam}
use Rattle.trace_types.specs.Operation.{Operation}
use Rattle.run_engine.specs.Segments.{trace_of, all_marks}
use Rattle.run_engine.specs.inner.OldRun.{reusable}
use Rattle.run_engine.specs.inner.Origins.{stepped_chunk}
use Rattle.run_engine.specs.inner.Untouched.{AreTakenOver}
use Rattle.run_engine.proofs.ConvergeLemmas.{over-few}
use Rattle.run_engine.proofs.FreshLemmas.{begins-there}
use Rattle.run_engine.proofs.OverLemmas.{GoesOn-over}
use Rattle.run_engine.proofs.replay.passing.taken.Goals as goal

pub touch_each-requires-clause-fits : goal.touch_each-requires-clause-fits
touch_each-requires-clause-fits c =
    let next = c.requires.next in
    omega (arith, over-few c.args.revision.now.ops.now.ops (trace_of c.args.next.segments) _ c.args.progress.prefix.len c.requires.prefix.within (sym c.requires.shared ∙ next.trace), c.args.revision.now.holds.trace.few)

pub touch_each-requires-clause-there : goal.touch_each-requires-clause-there
touch_each-requires-clause-there c =
    let next = c.requires.next in
    ap (take (length (trace_of c.args.next.segments))) (sym c.requires.shared ∙ next.trace) ∙ take-append_seam (trace_of c.args.next.segments) _

pub joined-requires-clause-fits : goal.joined-requires-clause-fits
joined-requires-clause-fits c =
    let next = c.requires.next in
    omega (arith, next.len_is, over-few c.args.revision.now.ops.now.ops (trace_of c.args.next.segments) _ c.args.progress.prefix.len c.requires.prefix.within (sym c.requires.shared ∙ next.trace), c.args.revision.now.holds.trace.few)

pub joined-requires-clause-behind : goal.joined-requires-clause-behind
joined-requires-clause-behind c = λ last. begins-there (stepped_chunk c.args.next.origin) c.args.progress.prefix.fresh c.args.progress.prefix.end (c.requires.origin c.args.shelf.now.chunks).start_is (c.requires.placed.fresh last)

pub returns-clause-beside : goal.returns-clause-beside
returns-clause-beside c = λ count.
    let joined = c.in_ok-prefix.ensures in
    let next = c.requires.next in
    GoesOn-over (trace_of c.args.revision.now.segments.now) c.args.revision.now.ops.now.ops (reusable c.args.revision.now) c.args.progress.prefix c.in_ok-prefix.prefix c.args.next.segments
    c.args.shelf.now c.touch_each.new.shelf count c.args.revision.now.holds.trace.distinct c.requires.prefix
    (subst (λ (ops : List Operation). AreTakenOver (trace_of c.args.revision.now.segments.now) (all_marks c.args.revision.now.segments.now) c.args.progress.prefix.end ops c.args.next.segments) c.requires.shared next.taken)
    (rw joined.answered c.in_ok-touch_each.ensures.answered) joined.segments (joined.end ∙ next.end_is) (joined.len ∙ ap (λ n. c.args.progress.prefix.len + n) next.len_is)

pub returns-clause-placed : goal.returns-clause-placed
returns-clause-placed c = c.in_ok-prefix.ensures.placed c.touch_each.new.shelf.chunks (c.requires.origin c.touch_each.new.shelf.chunks)
