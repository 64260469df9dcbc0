-- Where a replay and the old run beside it may differ.
use Rattle.std.proofs.Common.{◌≡◌, ℕ, ◌+◌, ◌<◌, ◌≤◌, List, ◌++◌, length, take, get_or, Bool, true, false, refl, ap, sym, subst, ◌∙◌, arith}
use Rattle.std.specs.Prelude.{◌||◌, ◌==◌}
use Rattle.std.proofs.Math.Seq.{take-length}
use Rattle.std.proofs.lemmas.List.{length-take}
use Rattle.std.proofs.lemmas.List.Folds.{list_any-append}
use Rattle.trace_types.specs.Operation.{Operation}
use Rattle.trace_types.specs.declared.outcomes.Outcome.{Outcome}
use Rattle.ownership_model.specs.State.{State, nothing_held}
use Rattle.ownership_model.specs.Step.{end_from, outcomes_from}
use Rattle.ownership_model.specs.Reach.{has}
use Rattle.ownership_model.specs.Touched.{touched_in, AgreeOutside}
use Rattle.ownership_model.proofs.LawsHold.{appends, touched}
use Rattle.run_engine.specs.SegmentView.{SegmentView}
use Rattle.run_engine.specs.Segments.{ops_of, trace_of, AreReplayFrom, IsReached}
use Rattle.run_engine.specs.inner.OldRun.{old_trace, new_trace}
use Rattle.run_engine.specs.declared.replay.divergence.Divergence.{Divergence}
use Rattle.run_engine.specs.declared.replay.progress.Fork.{Fork}
use Rattle.run_engine.specs.declared.replay.revision.Revision.{Revision}
use Rattle.run_engine.specs.inner.Divergence.{IsFork, DifferWithin, IsDivergence, HasFollowed, HasCompared}
use Rattle.run_engine.proofs.ListingLemmas.{take-shorter}
use Rattle.run_engine.proofs.SegmentLemmas.{trace_of-next}
use Rattle.run_engine.proofs.PieceLemmas.{segment-at}
use Rattle.run_engine.proofs.PlaceLemmas.{trace_of-prefix, place-within}

-- the same from the other side
outside-sym : (os : List ℕ) (m n : State) → AgreeOutside os m n → AgreeOutside os n m
outside-sym os m n h q none = sym (h q none)

neither : (a b : Bool) → (a || b) ≡ false → (a ≡ false) × (b ≡ false)
neither true b e = absurd cc
neither false b e = (refl, e)

-- behind more operations the objects that their outcomes tell of may differ, too
outside-next : (os : List ℕ) (m other : State) (ops : List Operation) (outcomes : List Outcome) → AgreeOutside os m other → outcomes ≡ outcomes_from m ops
    → AgreeOutside (os ++ touched_in outcomes) (end_from m ops) other
outside-next os m other ops outcomes h is q none =
    let parts = neither (has q os) (has q (touched_in outcomes)) (sym (list_any-append (λ p. p == q) os (touched_in outcomes)) ∙ none) in
    let stays : has q (touched_in (outcomes_from m ops)) ≡ false = sym (ap (λ xs. has q (touched_in xs)) is) ∙ parts.1 in
    sym (touched m ops q stays) ∙ h q parts.0

-- where a segment begins at the position
pub HasFollowed-none : (segments : List SegmentView) (first at from : ℕ) (os : List ℕ) → length (trace_of (take first segments)) ≡ at → at ≡ from → HasFollowed segments from first os os
HasFollowed-none segments first at from os place e =
    let there : trace_of (take first segments) ≡ take from (trace_of segments) = trace_of-prefix segments first at place ∙ ap (λ n. take n (trace_of segments)) e in
    let fits : at ≤ length (trace_of segments) = place-within segments first at place in
    record {
      within = omega arith;
      outside = λ other h. subst (λ ops. AgreeOutside os (end_from nothing_held ops) other) (sym there) h;
    }

-- behind one more segment
pub HasFollowed-next : (segments : List SegmentView) (from i : ℕ) (s : SegmentView) (os more : List ℕ) → AreReplayFrom nothing_held segments → i < length segments → s ≡ get_or segments i s
    → HasFollowed segments from i os more → HasFollowed segments from (i + 1) os (more ++ touched_in s.outcomes)
HasFollowed-next segments from i s os more replay lt is h =
    let m : State = end_from nothing_held (trace_of (take i segments)) in
    let there : end_from nothing_held (trace_of (take (i + 1) segments)) ≡ end_from m (ops_of s) =
    ap (end_from nothing_held) (trace_of-next segments i s lt is) ∙ appends.end nothing_held (trace_of (take i segments)) (ops_of s) in
    record {
      within = h.within;
      outside = λ other apart. subst (λ n. AgreeOutside (more ++ touched_in s.outcomes) n other) (sym there)
          (outside-next more m other (ops_of s) s.outcomes (h.outside other apart) (segment-at nothing_held segments i s replay lt is).outcomes);
    }

-- both replays have gone on
pub caught-up : (ops : List Operation) (old segments : List SegmentView) (edited base x index at : ℕ) (os more all : List ℕ) (heap : State)
    → AgreeOutside os (end_from nothing_held (take edited ops)) (end_from nothing_held (take base (trace_of old))) → IsReached ops x segments heap
    → HasFollowed segments edited (length segments) os more → HasFollowed old base index more all → length (trace_of (take index old)) ≡ at
    → AgreeOutside all (end_from nothing_held (take x ops)) (end_from nothing_held (take at (trace_of old)))
caught-up ops old segments edited base x index at os more all heap h reached new then place =
    let few : edited ≤ x = omega (arith, new.within, ap length reached.trace, length-take x ops) in
    let begin : take edited (trace_of segments) ≡ take edited ops = ap (take edited) reached.trace ∙ take-shorter edited x ops few in
    let end : trace_of (take (length segments) segments) ≡ take x ops = ap trace_of (take-length segments) ∙ reached.trace in
    let base_state : State = end_from nothing_held (take base (trace_of old)) in
    let here : AgreeOutside more (end_from nothing_held (take x ops)) base_state =
    subst (λ t. AgreeOutside more (end_from nothing_held t) base_state) end
    (new.outside base_state (subst (λ t. AgreeOutside os (end_from nothing_held t) base_state) (sym begin) h)) in
    outside-sym all (end_from nothing_held (take at (trace_of old))) (end_from nothing_held (take x ops))
    (subst (λ t. AgreeOutside all (end_from nothing_held t) (end_from nothing_held (take x ops))) (trace_of-prefix old index at place)
    (then.outside (end_from nothing_held (take x ops)) (outside-sym more (end_from nothing_held (take x ops)) base_state here)))

-- where both stand at one heap nothing differs
pub IsDivergence-fork : (r : Revision) (d : Divergence) (fork : Fork) → ((m : State) → DifferWithin d m m) → d.edited ≡ fork.edited → d.base ≡ fork.base → IsFork r fork → IsDivergence r d
IsDivergence-fork r d fork h edited base same =
    let there : end_from nothing_held (take d.edited (new_trace r)) ≡ end_from nothing_held (take d.base (old_trace r)) =
    ap (λ n. end_from nothing_held (take n (new_trace r))) edited ∙ same ∙ sym (ap (λ n. end_from nothing_held (take n (old_trace r))) base) in
    subst (DifferWithin d (end_from nothing_held (take d.edited (new_trace r)))) there (h (end_from nothing_held (take d.edited (new_trace r))))

-- the heaps where both stand
pub record StandAt (r : Revision) (d : Divergence) (heap mark : State) : Type 0 where
  pub heap_is : heap ≡ end_from nothing_held (take d.edited (new_trace r))
  pub mark_is : mark ≡ end_from nothing_held (take d.base (old_trace r))

-- so it is at the end of the prefix, and at an old checkpoint
pub stand-there : (r : Revision) (d : Divergence) (x at : ℕ) (segments : List SegmentView) (heap mark : State) → IsReached (new_trace r) x segments heap
    → mark ≡ end_from nothing_held (take at (old_trace r)) → d.edited ≡ x → d.base ≡ at → StandAt r d heap mark
stand-there r d x at segments heap mark reached is edited base = record {
  heap_is = reached.state ∙ ap (λ n. end_from nothing_held (take n (new_trace r))) (sym edited);
  mark_is = is ∙ ap (λ n. end_from nothing_held (take n (old_trace r))) (sym base);
}

pub differ-here : (r : Revision) (d : Divergence) (heap mark : State) → StandAt r d heap mark → IsDivergence r d → DifferWithin d heap mark
differ-here r d heap mark at h =
    subst (λ m. DifferWithin d m mark) (sym at.heap_is)
    (subst (DifferWithin d (end_from nothing_held (take d.edited (new_trace r)))) (sym at.mark_is) h)

-- what a comparison leaves
pub IsDivergence-compared : (r : Revision) (d after : Divergence) (heap mark : State) → StandAt r d heap mark → HasCompared d after heap mark → IsDivergence r after
IsDivergence-compared r d after heap mark at h =
    let heap_is : heap ≡ end_from nothing_held (take after.edited (new_trace r)) = at.heap_is ∙ ap (λ n. end_from nothing_held (take n (new_trace r))) (sym h.edited) in
    let mark_is : mark ≡ end_from nothing_held (take after.base (old_trace r)) = at.mark_is ∙ ap (λ n. end_from nothing_held (take n (old_trace r))) (sym h.base) in
    subst (λ m. DifferWithin after m (end_from nothing_held (take after.base (old_trace r)))) heap_is
    (subst (DifferWithin after heap) mark_is h.within)
