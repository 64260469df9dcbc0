use Rattle.std.proofs.Common.{◌≡◌, ◌+◌, ◌≤◌, IsTrue, length, take, drop, rules, arith, refl, ap, sym, subst, ◌∙◌}
use Rattle.std.specs.Prelude.{IfSome}
use Rattle.ownership_model.specs.State.{nothing_held}
use Rattle.ownership_model.specs.Step.{end_from}
use Rattle.heap_difference.specs.Differences.{IsDifference}
use Rattle.run_engine.specs.Segments.{trace_of}
use Rattle.run_engine.specs.inner.Difference.{DifferAt}
use Rattle.run_engine.proofs.PlaceLemmas.{place-within, trace_of-prefix}
use Rattle.run_engine.proofs.ConvergeLemmas.{new-unused, DifferAt-passed, over-few, over-end, over-far}
use Rattle.run_engine.proofs.replay.passing.next_untouched.Goals.{in-None, in-Some-next}
use Rattle.run_engine.proofs.replay.passing.next_untouched.Goals as goal

pub untouched_stretches-requires-clause-unused : goal.untouched_stretches-requires-clause-unused
untouched_stretches-requires-clause-unused c =
    new-unused c.args.revision.now.ops.now.ops c.args.progress.now.prefix.len c.args.progress.now.prefix.segments (drop c.args.old.now.index c.args.revision.now.segments.now) c.args.progress.now.prefix.end
    c.requires.prefix c.args.revision.now.holds.trace.distinct c.requires.shared

pub untouched_stretches-requires-clause-difference : goal.untouched_stretches-requires-clause-difference
untouched_stretches-requires-clause-difference c =
    let there : IsTrue c.in_ok-did_look.did_look = search rules in
    subst (λ o. IfSome o (λ k. IsDifference k c.args.old.now.mark c.args.progress.now.prefix.end)) (sym c.in-Some.ensures) (c.in_ok-did_look.ensures.keys there)

pub pass-requires-clause-edited : goal.pass-requires-clause-edited
pass-requires-clause-edited c =
    let there : IsTrue c.in_ok-did_look.did_look = search rules in
    let next = rw c.in-Some-next.is at c.in_ok-next.ensures.next in
    omega (
      arith,
      c.in_ok-did_look.ensures.edited there,
      next.len_is,
      over-few c.args.revision.now.ops.now.ops (trace_of c.in-Some-next.piece.segments) _ c.args.progress.now.prefix.len c.requires.prefix.within (sym c.requires.shared ∙ next.trace),
      c.args.revision.now.holds.trace.few,
    )

pub pass-requires-clause-base : goal.pass-requires-clause-base
pass-requires-clause-base c =
    let there : IsTrue c.in_ok-did_look.did_look = search rules in
    let next = rw c.in-Some-next.is at c.in_ok-next.ensures.next in
    let old = c.args.revision.now.segments.now in
    let far = over-far old c.args.old.now.index (length c.in-Some-next.piece.segments) c.args.old.now.at (trace_of c.in-Some-next.piece.segments) c.requires.place next.trace in
    let le : length (trace_of (take (c.args.old.now.index + length c.in-Some-next.piece.segments) old)) ≤ length (trace_of old) = place-within old (c.args.old.now.index + length c.in-Some-next.piece.segments) _ refl in
    omega (arith, c.in_ok-did_look.ensures.base there, next.len_is, far, le, c.args.revision.now.holds.kept.trace.few)

pub returns-clause-known : goal.returns-clause-known
returns-clause-known c =
    let there : IsTrue c.in_ok-did_look.did_look = search rules in
    let known = c.in_ok-did_look.ensures.known in
    elim c.match-next.branch [
      | in-None w ↦ rw w.difference-is (w.miss.ensures c.args.revision.now known)
      | in-Some-next w ↦
          let old = c.args.revision.now.segments.now in
          let next = rw w.in-Some-next.is at c.in_ok-next.ensures.next in
          let far = over-far old c.args.old.now.index (length w.in-Some-next.piece.segments) c.args.old.now.at (trace_of w.in-Some-next.piece.segments) c.requires.place next.trace in
          let far-len : length (trace_of (take (c.args.old.now.index + length w.in-Some-next.piece.segments) old)) ≡ c.args.old.now.at + w.in-Some-next.piece.len = far ∙ ap (λ n. c.args.old.now.at + n) (sym next.len_is) in
          let differ : IsDifference c.in-Some.keys.now (end_from nothing_held (take (c.args.old.now.at + w.in-Some-next.piece.len) (trace_of old))) w.in-Some-next.piece.end =
          subst (λ ops. IsDifference c.in-Some.keys.now (end_from nothing_held ops) w.in-Some-next.piece.end) (trace_of-prefix old (c.args.old.now.index + length w.in-Some-next.piece.segments) (c.args.old.now.at + w.in-Some-next.piece.len) far-len)
          (rw w.in-Some-next.is at c.in_ok-next.ensures.difference) in
          let end = over-end c.args.revision.now.ops.now.ops (trace_of w.in-Some-next.piece.segments) (trace_of (drop (c.args.old.now.index + length w.in-Some-next.piece.segments) old)) c.args.progress.now.prefix.len w.in-Some-next.piece.len
          c.args.progress.now.prefix.end w.in-Some-next.piece.end c.requires.prefix.state (sym c.requires.shared ∙ next.trace) next.end_is next.len_is in
          let passed : IfSome c.look.new.self.keys (λ k. DifferAt c.args.revision.now k (c.look.new.self.edited + w.in-Some-next.piece.len) (c.look.new.self.base + w.in-Some-next.piece.len)) =
          subst (λ o. IfSome o (λ k. DifferAt c.args.revision.now k (c.look.new.self.edited + w.in-Some-next.piece.len) (c.look.new.self.base + w.in-Some-next.piece.len))) c.in-Some.ensures
          (DifferAt-passed c.args.revision.now c.in-Some.keys.now c.args.progress.now.prefix.len c.args.old.now.at c.look.new.self.edited c.look.new.self.base w.in-Some-next.piece.len w.in-Some-next.piece.end end
          (c.in_ok-did_look.ensures.edited there) (c.in_ok-did_look.ensures.base there) differ) in
          rw w.difference-is (w.pass.ensures c.args.revision.now passed)
    ]
