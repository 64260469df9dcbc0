use Rattle.std.proofs.Common.{◌≡◌, ◌<◌, ◌-◌, length, get_or, arith}
use Rattle.std.specs.Prelude.{Some, slice_get}
use Rattle.std.proofs.lemmas.List.{get_or_read}
use Rattle.retention.specs.Graph.{size}
use Rattle.retention.specs.Paths.{Points}
use Rattle.retention.proofs.LeftSteps.{top_of, last_seen}
use Rattle.retention.proofs.search.Search.visit.Goals as goal

pub index-requires : goal.index-requires
index-requires c =
    let got : slice_get c.loop-last.self.path.items (length c.loop-last.self.path.items - 1) ≡ Some c.in-Some.last = cc (c.last.ensures.value, c.deref.ensures.value, c.copied.ensures, c.in-Some.is) in
    let top = top_of c.loop-last.self.path.items c.in-Some.last got in
    let inside : c.in-Some.last < size c.args.graph.now =
    last_seen (Points c.args.graph.now) (size c.args.graph.now) c.loop-last.self.seen.items c.loop-last.self.path.items c.loop-last.self.order.items c.loop-last.invariant.searching c.in-Some.last top.0 top.1 in
    let left : length c.loop-last.self.left.items ≡ size c.args.graph.now = c.loop-last.invariant.left.long in
    omega (arith, inside, left, c.loop-last.self.left.ok.0)

pub pass-requires-clause-more : goal.pass-requires-clause-more
pass-requires-clause-more c =
    let got : slice_get c.loop-last.self.path.items (length c.loop-last.self.path.items - 1) ≡ Some c.in-Some.last = cc (c.last.ensures.value, c.deref.ensures.value, c.copied.ensures, c.in-Some.is) in
    let top = top_of c.loop-last.self.path.items c.in-Some.last got in
    let inside : c.in-Some.last < size c.args.graph.now =
    last_seen (Points c.args.graph.now) (size c.args.graph.now) c.loop-last.self.seen.items c.loop-last.self.path.items c.loop-last.self.order.items c.loop-last.invariant.searching c.in-Some.last top.0 top.1 in
    let left : length c.loop-last.self.left.items ≡ size c.args.graph.now = c.loop-last.invariant.left.long in
    let read : c.index.result.now ≡ get_or c.loop-last.self.left.items c.in-Some.last 0 = get_or_read c.loop-last.self.left.items c.in-Some.last c.index.result.now (omega (arith, inside, left)) c.index.ensures 0 in
    omega (arith, read, c.if-index-eq0.false)
