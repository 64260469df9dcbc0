use Rattle.object_heap.specs.Counted.{drafted}
use Rattle.object_heap.proofs.GainLemmas.{on_ok}
use Rattle.object_heap.proofs.ExchangeLemmas.{makes_patch}
use Rattle.object_heap.proofs.draft.Draft.exchange.Goals as goal

pub returns-clause-state : goal.returns-clause-state
returns-clause-state c =
    on_ok c.put_in_all.result c.put_in_all.ensures.state (λ is.
    makes_patch (drafted c.args.self.now) (drafted c.take_out_all.new.self) (drafted c.put_in_all.new.self) c.args.removed.now c.args.added.now c.in_ok-take_out_all.ensures.state is)
