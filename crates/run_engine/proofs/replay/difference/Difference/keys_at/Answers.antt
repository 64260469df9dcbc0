use Rattle.std.proofs.Common.{List, subst}
use Rattle.ownership_model.specs.declared.key.Key.{Key}
use Rattle.heap_difference.specs.KeySets.{Has}
use Rattle.run_engine.specs.inner.OldRun.{new_trace}
use Rattle.run_engine.proofs.DifferenceLemmas.{gathered-both}
use Rattle.run_engine.proofs.replay.difference.Difference.keys_at.Goals as goal

-- what was gathered has all at which the heaps differ
pub found-requires : goal.found-requires
found-requires c =
    gathered-both (new_trace c.args.revision.now) c.args.revision.now.segments.now c.args.progress.now.prefix.segments c.args.self.now.edited c.args.self.now.base c.args.progress.now.prefix.len c.args.old.now.index c.args.old.now.at
    c.in-Some.before c.new-told.result.items c.gather.new.keys.items c.gather-2.new.keys.items c.in_ok-of.field-0 c.in_ok-all.all c.args.progress.now.prefix.end c.args.old.now.mark
    c.args.revision.now.holds.trace.distinct c.args.revision.now.holds.kept.trace.distinct
    (rw c.in-Some.is at c.requires.known) c.requires.prefix
    (rw c.len.ensures at (c.in_ok-are_told.ensures c.if-not-are_told.false)) (c.in_ok-are_both.ensures c.if-not-are_both.false)
    (subst (λ (ks : List Key). Has c.in_ok-of.field-0 ks) c.deref.ensures.value c.in_ok-of.ensures) c.in_ok-all.ensures
    c.requires.place c.requires.mark
