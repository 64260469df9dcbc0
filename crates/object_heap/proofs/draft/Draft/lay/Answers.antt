use Rattle.std.proofs.Common.{ap, ◌∙◌, subst}
use Rattle.ownership_model.specs.State.{State}
use Rattle.object_heap.specs.Counted.{drafted}
use Rattle.object_heap.specs.Laid.{with_puts, with_cells, with_entries, with_fields, IsDrafted}
use Rattle.object_heap.proofs.GainLemmas.{on_ok}
use Rattle.object_heap.proofs.draft.Draft.lay.Goals as goal

pub returns : goal.returns
returns c =
    let from = drafted c.args.from.now in
    on_ok c.put_fields.result c.put_fields.ensures (λ r.
    subst (λ (k : State). IsDrafted c.put_fields.new.self (with_fields c.args.fields.now k))
    (c.in_ok-copy_objects.ensures.state ∙ ap (λ (k : State). with_entries from c.args.objects.now k)
    (c.in_ok-copy_cells.ensures.state ∙ ap (λ (k : State). with_cells from c.args.cells.now k)
    (c.in_ok-put_each.ensures.state ∙ ap (λ (k : State). with_puts c.args.puts.now k) c.in_ok-end_each.ensures.state))) r)
