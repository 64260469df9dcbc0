use Rattle.std.proofs.Common.{ap, ◌∙◌}
use Rattle.object_heap.specs.Links.{relinked_later, relinked_earlier}
use Rattle.object_heap.specs.HandlesView.{holdings_of, places_of}
use Rattle.object_heap.proofs.GainLemmas.{on_ok}
use Rattle.object_heap.proofs.HandleLemmas.{holdings_less, places_less}
use Rattle.object_heap.proofs.handles.unlink.Goals as goal

pub returns-clause-holdings : goal.returns-clause-holdings
returns-clause-holdings c =
    on_ok c.set_last.result c.set_last.ensures (λ _.
    c.in_ok-set_earlier.ensures.holdings ∙ c.in_ok-set_later.ensures.holdings ∙ ap holdings_of c.in_ok-remove.ensures.ok ∙ holdings_less c.args.kept.now c.args.handle)

pub returns-clause-places : goal.returns-clause-places
returns-clause-places c =
    let place = c.args.place in
    on_ok c.set_last.result c.set_last.ensures (λ _.
    c.in_ok-set_earlier.ensures.places
    ∙ ap (λ m. relinked_earlier m place.later place.earlier) (c.in_ok-set_later.ensures.places
    ∙ ap (λ m. relinked_later m place.earlier place.later) (ap places_of c.in_ok-remove.ensures.ok ∙ places_less c.args.kept.now c.args.handle)))
