use Rattle.std.proofs.Common.{ℕ, ap, ◌∙◌, sym}
use Rattle.std.specs.Prelude.{Option}
use Rattle.object_heap.specs.Links.{relinked_later}
use Rattle.object_heap.specs.HandlesView.{holdings_of, places_of}
use Rattle.object_heap.proofs.HandleLemmas.{later_holdings, later_places}
use Rattle.object_heap.proofs.handles.set_later.Goals as goal

pub returns-clause-holdings : goal.returns-clause-holdings
returns-clause-holdings c = ap holdings_of c.in_ok-update.ensures.ok ∙ later_holdings c.args.kept.now c.in-Some.handle c.args.later

pub returns-clause-places : goal.returns-clause-places
returns-clause-places c =
    ap places_of c.in_ok-update.ensures.ok ∙ later_places c.args.kept.now c.in-Some.handle c.args.later
    ∙ ap (λ (o : Option ℕ). relinked_later (places_of c.args.kept.now) o c.args.later) (sym c.in-Some.is)
