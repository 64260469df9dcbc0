use Rattle.std.proofs.Common.{ap, ◌∙◌}
use Rattle.std.specs.Prelude.{Some}
use Rattle.std.specs.FinMap.{insert}
use Rattle.object_heap.specs.Links.{relinked_earlier}
use Rattle.object_heap.specs.HandlesView.{holdings_of, places_of}
use Rattle.object_heap.proofs.GainLemmas.{on_ok}
use Rattle.object_heap.proofs.HandleLemmas.{holdings_with, places_with}
use Rattle.object_heap.proofs.handles.link_above.Goals as goal

pub returns-clause-holdings : goal.returns-clause-holdings
returns-clause-holdings c =
    let h = c.args.handle in
    on_ok c.raise_last.result c.raise_last.ensures (λ _.
    ap holdings_of c.in_ok-insert.ensures.ok ∙ holdings_with c.set_earlier.new.kept h c.args.held
    ∙ ap (λ m. insert m h c.args.held.holding) (c.in_ok-set_earlier.ensures.holdings ∙ c.in_ok-set_later.ensures.holdings))

pub returns-clause-places : goal.returns-clause-places
returns-clause-places c =
    let h = c.args.handle in
    let place = c.args.held.place in
    on_ok c.raise_last.result c.raise_last.ensures (λ _.
    ap places_of c.in_ok-insert.ensures.ok ∙ places_with c.set_earlier.new.kept h c.args.held
    ∙ ap (λ m. insert m h place) (c.in_ok-set_earlier.ensures.places ∙ ap (λ m. relinked_earlier m place.later (Some h)) c.in_ok-set_later.ensures.places))
