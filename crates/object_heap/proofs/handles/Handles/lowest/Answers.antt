use Rattle.std.proofs.Common.{◌∙◌, sym}
use Rattle.object_heap.proofs.UnderLemmas.{AreOnce, lowest_first, lowest_next, lowest_fewer, lowest_last}
use Rattle.object_heap.proofs.HandleLemmas.{once_seen}
use Rattle.object_heap.proofs.handles.Handles.lowest.Goals as goal

pub loop-earlier-init : goal.loop-earlier-init
loop-earlier-init c =
    let once : AreOnce c.args.self.now.scopes = once_seen c.self.inside.kept c.self.inside.last c.args.self.now c.self.view_is c.self.invariant in
    lowest_first c.args.self.now.scopes once c.args.label c.in_ok-lowest.lowest (sym c.in_ok-lowest.ensures)

pub loop-earlier-smaller : goal.loop-earlier-smaller
loop-earlier-smaller c =
    let once : AreOnce c.args.self.now.scopes = once_seen c.self.inside.kept c.self.inside.last c.args.self.now c.self.view_is c.self.invariant in
    lowest_fewer c.args.self.now.scopes once c.loop-earlier.lowest c.in-Some.earlier (sym c.in-Some.ensures)

pub loop-earlier-preserved : goal.loop-earlier-preserved
loop-earlier-preserved c =
    let once : AreOnce c.args.self.now.scopes = once_seen c.self.inside.kept c.self.inside.last c.args.self.now c.self.view_is c.self.invariant in
    lowest_next c.args.self.now.scopes once c.loop-earlier.lowest c.in-Some.earlier (sym c.in-Some.ensures) ∙ c.loop-earlier.invariant

pub returns : goal.returns
returns c =
    let once : AreOnce c.args.self.now.scopes = once_seen c.self.inside.kept c.self.inside.last c.args.self.now c.self.view_is c.self.invariant in
    sym (lowest_last c.args.self.now.scopes once c.loop-earlier.lowest (sym c.in_default.ensures)) ∙ c.loop-earlier.invariant
