use Rattle.std.proofs.Common.{◌++◌, ◌∙◌, drop, arith}
use Rattle.std.proofs.lemmas.List.{drop_all}
use Rattle.ownership_model.specs.Footprint.{moved_by_changes}
use Rattle.object_heap.specs.Counted.{drafted}
use Rattle.object_heap.proofs.GainLemmas.{can_next, fits_next, bounded_next, changed_next}
use Rattle.object_heap.proofs.ToldLemmas.{told_change, told_changes}
use Rattle.object_heap.proofs.draft.Draft.apply_told.Goals as goal

pub loop-change-preserved : goal.loop-change-preserved
loop-change-preserved c =
    let old = drafted c.loop-change.self in
    let new = drafted c.change_told.new.self in
    let made = c.in_ok-change_told.ensures.made.state in
    let so_far = c.loop-change.invariant in
    record {
      counted = c.in_ok-change_told.ensures.made.counted;
      bounded = bounded_next old new c.args.changes.now c.loop-change.change-index c.change-item.result (omega arith) c.change-item.is made so_far.bounded so_far.can so_far.fits;
      can = can_next old new c.args.changes.now c.loop-change.change-index c.change-item.result (omega arith) c.change-item.is made so_far.can;
      fits = fits_next old new c.args.changes.now c.loop-change.change-index c.change-item.result (omega arith) c.change-item.is made so_far.fits;
      rest = changed_next old new c.args.changes.now c.loop-change.change-index c.change-item.result (omega arith) c.change-item.is made ∙ so_far.rest;
      told =
          told_change old new c.args.changes.now c.loop-change.change-index c.change-item.result (omega arith) c.change-item.is made c.loop-change.keys.items c.change_told.new.keys.items
          (c.args.keys.now.items ++ moved_by_changes (drafted c.args.self.now) c.args.changes.now) c.in_ok-change_told.ensures.told so_far.told;
    }

pub returns-clause-told : goal.returns-clause-told
returns-clause-told c =
    told_changes (drafted c.loop-change.self) (drop c.loop-change.change-index c.args.changes.now) c.loop-change.keys.items (c.args.keys.now.items ++ moved_by_changes (drafted c.args.self.now) c.args.changes.now)
    (drop_all c.loop-change.change-index c.args.changes.now (omega arith)) c.loop-change.invariant.told
