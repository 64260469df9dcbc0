use Rattle.std.proofs.Common.{◌≡◌, length, sym, subst, ap, ◌∙◌, arith}
use Rattle.std.proofs.lemmas.Bool.{eqb-true}
use Rattle.std.specs.Prelude.{IfSome}
use Rattle.ownership_model.specs.Step.{end_from}
use Rattle.op_step.specs.Chunk.{Chunk, IsReplayOf}
use Rattle.run_engine.proofs.ReplacedLemmas.{before-begins, before-there, before-chunk, before-keys}
use Rattle.run_engine.proofs.replay.replaced.Replaced.before.Goals as goal

pub overflow_sub-at : goal.overflow_sub-at
overflow_sub-at c =
    omega (
      arith,
      before-begins c.args.revision.now.segments.now c.args.revision.now.end.now c.args.old.now.index c.args.old.now.at (length c.ops.result.now) c.at-segment.result
          (record { kept = c.args.revision.now.holds.kept; within = c.requires.within; some = c.if-old-eq0.false; is = c.at-segment.ensures; place = c.requires.place }) (ap length c.ops.ensures),
    )

-- the checkpoint where it begins, by its position
pub heap_at-requires : goal.heap_at-requires
heap_at-requires c = λ same.
    subst (λ m. IfSome c.args.self.now.heap (λ h. h ≡ m))
    (before-there c.args.revision.now.segments.now c.args.revision.now.end.now c.in-Some.mark c.args.old.now.index c.args.old.now.at (length c.ops.result.now) c.args.self.now.at c.at-segment.result
    (record { kept = c.args.revision.now.holds.kept; within = c.requires.within; some = c.if-old-eq0.false; is = c.at-segment.ensures; place = c.requires.place }) (ap length c.ops.ensures) c.in-Some.ensures same)
    c.requires.known.heap

pub chunk-requires-clause-replay : goal.chunk-requires-clause-replay
chunk-requires-clause-replay c =
    before-chunk c.args.revision.now.segments.now c.args.revision.now.end.now c.in-Some.mark c.in_ok-start.start c.in_ok-share.field-0 c.args.old.now.index c.args.old.now.at c.at-segment.result
    (record { kept = c.args.revision.now.holds.kept; within = c.requires.within; some = c.if-old-eq0.false; is = c.at-segment.ensures; place = c.requires.place }) c.in-Some.ensures c.in_ok-start.ensures (c.in_ok-share.ensures ∙ c.requires.mark)

pub chunk-requires-clause-keys : goal.chunk-requires-clause-keys
chunk-requires-clause-keys c =
    before-keys c.args.revision.now.segments.now c.args.revision.now.end.now c.in-Some.mark c.in_ok-start.start c.args.old.now.index c.args.old.now.at c.at-segment.result
    (record { kept = c.args.revision.now.holds.kept; within = c.requires.within; some = c.if-old-eq0.false; is = c.at-segment.ensures; place = c.requires.place }) c.in-Some.ensures c.in_ok-start.ensures

-- the chunk that is made
chunk-is : (c : goal.In-Some-chunk) → c.in-Some-chunk.chunk ≡ record { start = c.in_ok-start.start; ops = c.at-segment.result.ops }
chunk-is c = rw c.in-Some-chunk.is at c.in_ok-chunk.ensures

pub returns-in-Some-chunk-clause-ends : goal.returns-in-Some-chunk-clause-ends
returns-in-Some-chunk-clause-ends c =
    let replay : IsReplayOf (record { start = c.in_ok-start.start; ops = c.at-segment.result.ops }) c.at-segment.result.outcomes c.in_ok-share.field-0 =
    before-chunk c.args.revision.now.segments.now c.args.revision.now.end.now c.in-Some.mark c.in_ok-start.start c.in_ok-share.field-0 c.args.old.now.index c.args.old.now.at c.at-segment.result
    (record { kept = c.args.revision.now.holds.kept; within = c.requires.within; some = c.if-old-eq0.false; is = c.at-segment.ensures; place = c.requires.place }) c.in-Some.ensures c.in_ok-start.ensures (c.in_ok-share.ensures ∙ c.requires.mark) in
    ap (λ (k : Chunk). end_from k.start k.ops) (chunk-is c) ∙ sym replay.end_is ∙ c.in_ok-share.ensures

pub returns-in-Some-chunk-clause-follows : goal.returns-in-Some-chunk-clause-follows
returns-in-Some-chunk-clause-follows c = λ same.
    subst (λ m. IfSome c.args.self.now.chunks (λ s. s ≡ m))
    (before-there c.args.revision.now.segments.now c.args.revision.now.end.now c.in-Some.mark c.args.old.now.index c.args.old.now.at (length c.ops.result.now) c.args.self.now.at c.at-segment.result
    (record { kept = c.args.revision.now.holds.kept; within = c.requires.within; some = c.if-old-eq0.false; is = c.at-segment.ensures; place = c.requires.place }) (ap length c.ops.ensures) c.in-Some.ensures (eqb-true _ _ same)
    ∙ sym (ap (λ (k : Chunk). k.start) (chunk-is c) ∙ c.in_ok-start.ensures))
    c.requires.known.chunks
