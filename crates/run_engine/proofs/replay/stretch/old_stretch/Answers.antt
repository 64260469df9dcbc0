use Rattle.std.proofs.Common.{◌≡◌, ℕ, ◌+◌, ◌-◌, ◌≤◌, suc, IsTrue, List, length, take, drop, rules, arith, ap, sym, subst, ◌∙◌}
use Rattle.std.specs.Prelude.{Some, slice_range, ◌⊎◌}
use Rattle.std.proofs.lemmas.List.{length-take, length-drop}
use Rattle.trace_types.specs.Operation.{Operation}
use Rattle.ownership_model.specs.State.{nothing_held}
use Rattle.ownership_model.specs.Step.{end_from}
use Rattle.run_engine.specs.Segments.{trace_of, BeginsMarked}
use Rattle.run_engine.specs.HeadAndTail.{AreAlike}
use Rattle.run_engine.proofs.PieceLemmas.{old-piece}
use Rattle.run_engine.proofs.MarksLemmas.{old-part, old-stretch-is}
use Rattle.run_engine.proofs.PlaceLemmas.{trace_of-prefix}
use Rattle.run_engine.proofs.StretchLemmas.{stretch-ops, stretch-behind, fork-mark}
use Rattle.run_engine.proofs.replay.stretch.old_stretch.Goals as goal

pub returns : goal.returns
returns c =
    let old = c.args.revision.now.segments.now in
    let ops : List Operation = c.args.revision.now.ops.now.ops in
    let i = c.in-Some-segment_at.i in
    let k : ℕ = c.reach-j.result - (c.in-Some-segment_at.i + 1) in
    let order = c.reach-j.ensures.order in
    let n : c.reach-j.result - c.in-Some-segment_at.i ≡ suc (c.reach-j.result - (c.in-Some-segment_at.i + 1)) = omega arith in
    let m : c.reach-j.result ≡ c.in-Some-segment_at.i + suc (c.reach-j.result - (c.in-Some-segment_at.i + 1)) = omega arith in
    let stretch : c.in_ok-segments.segments ≡ take (suc k) (drop c.in-Some-segment_at.i c.args.revision.now.segments.now) = c.in_ok-segments.ensures ∙ ap (λ x. take x (drop c.in-Some-segment_at.i c.args.revision.now.segments.now)) n in
    let long : c.ops_len-len.result ≡ length (trace_of (take (suc k) (drop c.in-Some-segment_at.i c.args.revision.now.segments.now))) = c.ops_len-len.ensures.value ∙ ap (λ ss. length (trace_of ss)) stretch in
    let value : length (trace_of (slice_range c.args.revision.now.segments.now c.in-Some-segment_at.i c.reach-j.result)) ≡ c.ops_len-len.result = sym (c.ops_len-len.ensures.value ∙ ap (λ ss. length (trace_of ss)) c.in_ok-segments.ensures) in
    let alike : AreAlike (trace_of c.args.revision.now.segments.now) ops c.args.at c.in-Some.alike.from c.in-Some.alike.at c.in-Some.alike.len =
    subst (λ base. AreAlike base ops c.args.at c.in-Some.alike.from c.in-Some.alike.at c.in-Some.alike.len) c.args.revision.now.holds.base c.in-Some.ensures in
    let fits : c.ops_len-len.result ≤ length (slice_range ops c.args.at c.args.to) = omega (arith, length-take (c.args.to - c.args.at) (drop c.args.at ops), length-drop c.args.at ops) in
    let parts : trace_of (take (suc k) (drop c.in-Some-segment_at.i c.args.revision.now.segments.now)) ≡ take c.ops_len-len.result (slice_range ops c.args.at c.args.to) =
    stretch-ops c.args.revision.now.segments.now ops c.in-Some-segment_at.i (suc k) c.in-Some.alike.from c.in-Some.alike.at c.in-Some.alike.len c.args.at c.args.to alike c.in-Some-segment_at.ensures.place (omega arith) (omega arith)
    ∙ ap (λ x. take x (slice_range ops c.args.at c.args.to)) (sym long) in
    let bare = c.reach-j.ensures.none in
    let t : IsTrue c.in_ok-is_same.is_same = search rules in
    let heap : c.in-Some-mark.mark ≡ c.args.heap.now = c.in_ok-is_same.ensures t in
    let mark : c.at.result.mark ≡ Some c.args.heap.now = sym c.in-Some-mark.ensures ∙ ap Some heap in
    let whole : BeginsMarked (drop (i + suc k) c.args.revision.now.segments.now) ⊎ (64 ≤ c.ops_len-len.result) = subst (λ j. BeginsMarked (drop j c.args.revision.now.segments.now) ⊎ (64 ≤ c.ops_len-len.result)) m
    (subst (λ n. BeginsMarked (drop c.reach-j.result c.args.revision.now.segments.now) ⊎ (64 ≤ n)) value (c.reach-j.ensures.whole (omega arith))) in
    let after = rw c.in-Some-2.is at c.in_ok-after.ensures in
    record {
      gap = old-part c.args.revision.now.segments.now c.in-Some-segment_at.i k c.at.result c.args.heap.now (slice_range ops c.args.at c.args.to) c.ops_len-len.result c.in-Some-segment_at.ensures.within c.at.ensures mark bare fits parts whole;
      stretch = old-stretch-is c.args.revision.now.segments.now c.args.revision.now.end.now c.in-Some-segment_at.i k c.at.result c.args.heap.now (slice_range ops c.args.at c.args.to) c.ops_len-len.result c.args.revision.now.holds.kept.run c.in-Some-segment_at.ensures.within c.at.ensures mark bare fits parts whole;
      piece = rw stretch
          (old-piece c.args.revision.now.segments.now c.args.revision.now.end.now c.in-Some-segment_at.i k c.at.result c.args.heap.now c.in-Some-2.after (slice_range ops c.args.at c.args.to) c.ops_len-len.result
          c.args.revision.now.holds.kept.run c.in-Some-segment_at.ensures.within c.at.ensures mark bare fits parts
          (after ∙ ap (λ j. end_from nothing_held (trace_of (take j c.args.revision.now.segments.now))) m));
      base = after ∙ ap (end_from nothing_held) (trace_of-prefix c.args.revision.now.segments.now c.reach-j.result (c.in-Some.alike.from + (c.args.at - c.in-Some.alike.at) + c.ops_len-len.result)
          (stretch-behind c.args.revision.now.segments.now c.in_ok-segments.segments c.in-Some-segment_at.i c.reach-j.result _ c.ops_len-len.result (omega arith) c.in_ok-segments.ensures c.in-Some-segment_at.ensures.place c.ops_len-len.ensures.value));
      next = λ chunks. record { start_is = tt; end_is = tt; kept = tt };
    }

pub has_heap-requires : goal.has_heap-requires
has_heap-requires c = λ t.
    fork-mark c.args.revision.now c.args.fork c.in-Some-segment_at.i c.args.at (c.in-Some.alike.from + (c.args.at - c.in-Some.alike.at)) c.at.result c.args.heap.now c.in-Some-mark.mark c.requires.fork (c.is_at.ensures.0 t) c.requires.heap
    c.in-Some-segment_at.ensures.place c.in-Some-segment_at.ensures.within c.at.ensures c.in-Some-mark.ensures
