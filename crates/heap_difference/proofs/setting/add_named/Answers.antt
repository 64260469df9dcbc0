use Rattle.std.proofs.Common.{◌≡◌, ◌++◌, ◌∙◌, ap, sym, inl, inr, ◌⊎◌, length, List}
use Rattle.std.proofs.lemmas.List.{append-nil}
use Rattle.std.specs.Iterator.Adapters.{zip_first, zip_second}
use Rattle.std.specs.Slice.Iter.{iter_rest}
use Rattle.ownership_model.specs.declared.key.Key.{Key}
use Rattle.heap_difference.proofs.NamingLemmas.{names_end}
use Rattle.heap_difference.proofs.setting.add_named.Goals as goal

pub returns : goal.returns
returns c =
    let ended : (length (iter_rest (zip_first c.loop-op.op-iterator)) ≡ 0) ⊎ (length (iter_rest (zip_second c.loop-op.op-iterator)) ≡ 0) = elim c.in-None.ensures.steps [ inl x ↦ inl x.1.0 | inr x ↦ inr x.1.0 ] in
    let keys : List Key = c.loop-op.keys.items in
    sym (c.loop-op.invariant.so_far ∙ ap (λ (ks : List Key). keys ++ ks) (names_end (iter_rest (zip_first c.loop-op.op-iterator)) (iter_rest (zip_second c.loop-op.op-iterator)) ended) ∙ append-nil keys)
