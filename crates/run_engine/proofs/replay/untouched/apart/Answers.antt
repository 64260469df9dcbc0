use Rattle.std.proofs.Common.{◌≡◌, ◌+◌, ◌<◌, length, take, arith, sym, ap, subst, ◌∙◌}
use Rattle.ownership_model.specs.State.{State, nothing_held}
use Rattle.ownership_model.specs.Step.{end_from}
use Rattle.agreement.specs.Agreement.{Agree}
use Rattle.heap_difference.specs.Differences.{IsDifference}
use Rattle.heap_difference.specs.Layers.{IsLaidBy}
use Rattle.run_engine.specs.Segments.{trace_of}
use Rattle.run_engine.proofs.UntouchedLemmas.{end-under, next-under}
use Rattle.run_engine.proofs.replay.untouched.apart.Goals.{then-count-gt1+in_ok-is_apart+else-not-is_apart, else-count-gt1}
use Rattle.run_engine.proofs.replay.untouched.apart.Goals as goal

pub laid-requires : goal.laid-requires
laid-requires c =
    let old = c.args.revision.now.segments.now in
    let after : c.in_ok-share.field-0 ≡ end_from nothing_held (trace_of (take (c.args.index + length c.args.run) old)) =
    c.in_ok-share.ensures ∙ (rw c.in-Some.is at c.in_ok-after.ensures.heap) ∙ ap (λ n. end_from nothing_held (trace_of (take (c.args.index + n) old))) c.len-count.ensures in
    record { state = end_from c.args.layer.now.from (trace_of c.args.run); is = subst (λ (m : State). IsLaidBy c.args.layer.now m (end_from c.args.layer.now.from (trace_of c.args.run))) (sym after) c.requires.under.laid }

pub is_apart-requires : goal.is_apart-requires
is_apart-requires c =
    let old = c.args.revision.now.segments.now in
    let heap : c.in-Some.after ≡ end_from nothing_held (trace_of (take (c.args.index + c.len-count.result) old)) = rw c.in-Some.is at c.in_ok-after.ensures.heap in
    let end : c.in_ok-end.end ≡ end_from c.args.layer.now.from (trace_of c.args.run) =
    end-under old c.args.layer.now c.args.index c.len-count.result c.args.run c.in-Some.after c.in_ok-end.end c.args.revision.now.holds.kept.trace.distinct c.requires.under c.len-count.ensures heap (rw c.in_ok-share.ensures at c.in_ok-end.ensures) in
    rw end
    (subst (λ (m : State). IsDifference c.args.keys.now m (end_from c.args.layer.now.from (trace_of c.args.run))) (sym (heap ∙ ap (λ n. end_from nothing_held (trace_of (take (c.args.index + n) old))) c.len-count.ensures))
    (c.requires.under.differs c.args.keys.now c.requires.within c.requires.difference))

pub returns : goal.returns
returns c =
    let old = c.args.revision.now.segments.now in
    let heap : c.in-Some.after ≡ end_from nothing_held (trace_of (take (c.args.index + c.len-count.result) old)) = rw c.in-Some.is at c.in_ok-after.ensures.heap in
    let end : c.in_ok-end.end ≡ end_from c.args.layer.now.from (trace_of c.args.run) =
    end-under old c.args.layer.now c.args.index c.len-count.result c.args.run c.in-Some.after c.in_ok-end.end c.args.revision.now.holds.kept.trace.distinct c.requires.under c.len-count.ensures heap (rw c.in_ok-share.ensures at c.in_ok-end.ensures) in
    let apart : 1 < c.len-count.result → Agree c.in_ok-end.end c.in-Some.after → ⊥ = elim c.if-count-gt1.branch [
      | then-count-gt1+in_ok-is_apart+else-not-is_apart w ↦ λ many. w.in_ok-is_apart.ensures.apart w.if-not-is_apart.false
      | else-count-gt1 w ↦ λ many agree. absurd (omega (arith, many, w.if-count-gt1.false))
    ] in
    let made = c.next_of.ensures in
    record {
      next = next-under old c.args.layer.now c.args.index c.len-count.result c.args.run c.in-Some.after c.in_ok-end.end c.next_of.result c.requires.under c.len-count.ensures heap end (rw c.in-Some.is at c.in_ok-after.ensures.some) apart made.segments made.len made.end;
      difference = rw (made.segments, made.end, end) (c.requires.under.differs c.args.keys.now c.requires.within c.requires.difference);
      origin = λ chunks. made.origin chunks c.args.layer.now.from;
      known = elim c.if-count-gt1.branch [
        | then-count-gt1+in_ok-is_apart+else-not-is_apart w ↦ λ r h. rw w.divergence-is (w.is_apart.ensures.known r h)
        | else-count-gt1 w ↦ λ r h. rw w.divergence-is h
      ];
    }
