use Rattle.std.proofs.Common.{rules, ◌≡◌, ◌<◌, ◌≤◌, List, length, get_or, sym, subst}
use Rattle.std.proofs.lemmas.List.{take_all}
use Rattle.std.specs.List.{All}
use mathlib.Core.List.{IsPrefix}
use Rattle.edit_desk.specs.declared.entries.Entry.{Entry}
use Rattle.live_sessions.specs.Views.{PassView}
use Rattle.live_sessions.proofs.Prefixes.{all_take_more}
use Rattle.live_sessions.proofs.locked.LockedDesk.close.Goals as goal

pub loop-at-preserved : goal.loop-at-preserved
loop-at-preserved g c =
    let rs = c.args.receipts.now in
    let h = c.args.self in
    let r = c.index-receipts-at.result in
    let front : IsPrefix c.front.result.now c.self.inside.front = search rules in
    let whole : c.self.inside.front ≡ h = search rules in
    let one : IsPrefix r.front h = subst (λ (z : List Entry × List Entry). IsPrefix z.0 z.1) (λ i. (c.front.ensures i, whole i)) front in
    let here : IsPrefix (get_or rs c.loop-at.at r).front h = subst (λ (z : PassView). IsPrefix z.front h) c.index-receipts-at.is one in
    let lt : c.loop-at.at < length rs = search rules in
    all_take_more (λ (z : PassView). IsPrefix z.front h) rs c.loop-at.at r lt c.loop-at.invariant here

pub returns-clause-begun : goal.returns-clause-begun
returns-clause-begun g c =
    let rs = c.args.receipts.now in
    let h = c.args.self in
    let le : length rs ≤ c.loop-at.at = search rules in
    let all : All (λ (z : PassView). IsPrefix z.front h) rs = subst (All (λ (z : PassView). IsPrefix z.front h)) (take_all c.loop-at.at rs le) c.loop-at.invariant in
    subst (λ (x : List Entry). All (λ (z : PassView). IsPrefix z.front x) rs) (sym c.self.view_is) all
