use Rattle.std.proofs.Common.{◌≡◌, [], ◌∙◌, arith, rules}
use Rattle.std.specs.FinMap.{insert}
use Rattle.object_heap.specs.declared.draft.Draft.{Draft}
use Rattle.object_heap.specs.Counted.{drafted}
use Rattle.object_heap.proofs.GainLemmas.{on_both, room}
use Rattle.object_heap.proofs.LayLemmas.{put_made}
use Rattle.object_heap.proofs.draft.Draft.put_one.Goals as goal

pub hold_holding-requires-clause-room : goal.hold_holding-requires-clause-room
hold_holding-requires-clause-room c =
    let old = c.args.self.now in
    room old.objects.counts (drafted old) [] c.requires.bounded c.requires.counted (omega arith)

pub returns : goal.returns
returns c =
    let old = c.args.self.now in
    let put = c.args.put.now in
    let new : Draft = record { handles = c.enter_above.new.self; cells = old.cells; objects = c.hold_holding.new.objects } in
    let same : c.in_ok-copy.copy ≡ put.holding = search rules in
    on_both c.enter_above.result c.enter_above.ensures.held c.enter_above.ensures.scopes (λ held scopes.
    put_made old new put
    (λ i. record { handles = (held ∙ (λ j. insert old.handles.holdings put.handle (same j))) i; cells = old.cells; objects = c.in_ok-hold_holding.ensures.entries i; scopes = scopes i })
    c.requires.free c.requires.fits c.requires.bounded c.requires.counted c.in_ok-hold_holding.ensures.counts)
