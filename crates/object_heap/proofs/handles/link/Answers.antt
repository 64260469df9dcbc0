use Rattle.std.proofs.Common.{ap, ◌∙◌}
use Rattle.std.specs.FinMap.{insert}
use Rattle.object_heap.specs.HandlesView.{holdings_of, places_of}
use Rattle.object_heap.proofs.GainLemmas.{on_ok}
use Rattle.object_heap.proofs.HandleLemmas.{holdings_with, places_with}
use Rattle.object_heap.proofs.handles.link.Goals as goal

pub returns-clause-holdings : goal.returns-clause-holdings
returns-clause-holdings c =
    let h = c.args.handle in
    on_ok c.insert-2.result c.insert-2.ensures.ok (λ _.
    ap holdings_of c.in_ok-insert.ensures.ok ∙ holdings_with c.set_later.new.kept h c.args.held ∙ ap (λ m. insert m h c.args.held.holding) c.in_ok-set_later.ensures.holdings)

pub returns-clause-places : goal.returns-clause-places
returns-clause-places c =
    let h = c.args.handle in
    on_ok c.insert-2.result c.insert-2.ensures.ok (λ _.
    ap places_of c.in_ok-insert.ensures.ok ∙ places_with c.set_later.new.kept h c.args.held ∙ ap (λ m. insert m h c.args.held.place) c.in_ok-set_later.ensures.places)
