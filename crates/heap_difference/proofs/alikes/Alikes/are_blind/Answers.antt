use Rattle.std.proofs.Common.{◌≡◌, ◌∙◌, sym, inl, inr, ◌⊎◌, length}
use Rattle.std.specs.Iterator.Adapters.{zip_first, zip_second}
use Rattle.std.specs.Slice.Iter.{iter_rest}
use Rattle.heap_difference.proofs.AlikeLemmas.{blind_end}
use Rattle.heap_difference.proofs.alikes.Alikes.are_blind.Goals as goal

pub returns : goal.returns
returns c =
    let ended : (length (iter_rest (zip_first c.loop-op.op-iterator)) ≡ 0) ⊎ (length (iter_rest (zip_second c.loop-op.op-iterator)) ≡ 0) = elim c.in-None.ensures.steps [ inl x ↦ inl x.1.0 | inr x ↦ inr x.1.0 ] in
    blind_end c.args.self.now.shifts.items c.args.self.now.fields.items (iter_rest (zip_first c.loop-op.op-iterator)) (iter_rest (zip_second c.loop-op.op-iterator)) ended ∙ sym c.loop-op.invariant.so_far
