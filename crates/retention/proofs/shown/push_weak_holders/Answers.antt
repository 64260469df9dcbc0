use Rattle.std.proofs.Common.{◌≡◌, ◌<◌, ◌≤◌, ◌+◌, length, get_or, sym, ap, ◌∙◌, subst, arith, true}
use Rattle.std.proofs.lemmas.List.{get_or_read}
use Rattle.ownership_model.specs.Reach.{has}
use Rattle.retention.specs.Layout.{naming}
use Rattle.retention.specs.Graph.{places, target_at}
use Rattle.retention.specs.Paths.{marked, with_member}
use Rattle.retention.proofs.PathLemmas.{has_at}
use Rattle.retention.proofs.JoinSteps.{naming_at}
use Rattle.retention.proofs.ShownSteps.{IsShowing, marked_within, showing_start, showing_either, showing_next, showing_end}
use Rattle.retention.proofs.shown.push_weak_holders.Goals as goal

pub loop-at-init : goal.loop-at-init
loop-at-init c = showing_start c.args.graph.now c.args.near.now.items c.args.shown.now.items c.requires.marked

pub returns-clause-each : goal.returns-clause-each
returns-clause-each c =
    showing_end c.args.graph.now c.args.near.now.items c.args.shown.now.items c.loop-at.at c.loop-at.near.items c.loop-at.shown.items c.loop-at.invariant
    (omega (arith, c.loop-at-test.false, c.len-at-end.ensures, c.args.near.now.ok.0)) c.requires.marked

pub weak_source-source-requires : goal.weak_source-source-requires
weak_source-source-requires c =
    let first : c.loop-at.at < length c.args.near.now.items = omega (arith, c.loop-at-test.true, c.len-at-end.ensures, c.args.near.now.ok.0) in
    let kept = c.loop-at.invariant.kept c.loop-at.at first in
    let index : c.index-index.result.now ≡ get_or c.args.near.now.items c.loop-at.at 0 = get_or_read c.loop-at.near.items c.loop-at.at c.index-index.result.now kept.0 c.index-index.ensures 0 ∙ kept.1 in
    let all : c.holders-place-items.result.now ≡ naming c.args.graph.now.targets.items (get_or c.args.near.now.items c.loop-at.at 0) = c.holders-place-items.ensures ∙ ap (naming c.args.graph.now.targets.items) index in
    subst (λ xs. get_or xs c.loop-place.place-index 0 < places c.args.graph.now) (sym all)
    (naming_at c.args.graph.now (get_or c.args.near.now.items c.loop-at.at 0) c.loop-place.place-index (subst (λ xs. c.loop-place.place-index < length xs) all c.loop-place-test.true)).0

pub loop-place-preserved : goal.loop-place-preserved
loop-place-preserved c =
    let first : c.loop-at.at < length c.args.near.now.items = omega (arith, c.loop-at-test.true, c.len-at-end.ensures, c.args.near.now.ok.0) in
    let kept = c.loop-at.invariant.kept c.loop-at.at first in
    let index : c.index-index.result.now ≡ get_or c.args.near.now.items c.loop-at.at 0 = get_or_read c.loop-at.near.items c.loop-at.at c.index-index.result.now kept.0 c.index-index.ensures 0 ∙ kept.1 in
    let all : c.holders-place-items.result.now ≡ naming c.args.graph.now.targets.items (get_or c.args.near.now.items c.loop-at.at 0) = c.holders-place-items.ensures ∙ ap (naming c.args.graph.now.targets.items) index in
    let inside : c.loop-place.place-index < length (naming c.args.graph.now.targets.items (get_or c.args.near.now.items c.loop-at.at 0)) = subst (λ xs. c.loop-place.place-index < length xs) all c.loop-place-test.true in
    let here : get_or (naming c.args.graph.now.targets.items (get_or c.args.near.now.items c.loop-at.at 0)) c.loop-place.place-index 0 ≡ get_or c.holders-place-items.result.now c.loop-place.place-index 0 = ap (λ xs. get_or xs c.loop-place.place-index 0) (sym all) in
    subst (λ ns. IsShowing c.args.graph.now c.args.near.now.items c.args.shown.now.items c.loop-at.at (c.loop-place.place-index + 1) ns c.join.new.marks.items) (sym c.in_ok-join.ensures.members)
    (subst (λ bs. IsShowing c.args.graph.now c.args.near.now.items c.args.shown.now.items c.loop-at.at (c.loop-place.place-index + 1) (with_member c.weak_source-source.result c.loop-place.shown.items c.loop-place.near.items) bs) (sym c.in_ok-join.ensures.marks)
    (showing_either c.args.graph.now c.args.near.now.items c.args.shown.now.items c.loop-at.at c.loop-place.place-index c.loop-place.near.items c.loop-place.shown.items c.loop-place.invariant
    (get_or c.holders-place-items.result.now c.loop-place.place-index 0) here
    (subst (λ x. target_at c.args.graph.now x ≡ get_or c.args.near.now.items c.loop-at.at 0) here (naming_at c.args.graph.now (get_or c.args.near.now.items c.loop-at.at 0) c.loop-place.place-index inside).1)
    (c.requires.marked (get_or c.args.near.now.items c.loop-at.at 0) ∙ has_at c.args.near.now.items c.loop-at.at first) (c.loop-place.invariant.long ∙ c.requires.long)
    c.weak_source-source.result c.weak_source-source.ensures.own c.weak_source-source.ensures.all))

pub loop-at-preserved : goal.loop-at-preserved
loop-at-preserved c =
    let first : c.loop-at.at < length c.args.near.now.items = omega (arith, c.loop-at-test.true, c.len-at-end.ensures, c.args.near.now.ok.0) in
    let kept = c.loop-at.invariant.kept c.loop-at.at first in
    let index : c.index-index.result.now ≡ get_or c.args.near.now.items c.loop-at.at 0 = get_or_read c.loop-at.near.items c.loop-at.at c.index-index.result.now kept.0 c.index-index.ensures 0 ∙ kept.1 in
    let all : c.holders-place-items.result.now ≡ naming c.args.graph.now.targets.items (get_or c.args.near.now.items c.loop-at.at 0) = c.holders-place-items.ensures ∙ ap (naming c.args.graph.now.targets.items) index in
    showing_next c.args.graph.now c.args.near.now.items c.args.shown.now.items c.loop-at.at c.loop-place.place-index c.loop-place.near.items c.loop-place.shown.items c.loop-place.invariant
    (subst (λ xs. length xs ≤ c.loop-place.place-index) all c.loop-place-test.false)

pub holders-place-items-requires : goal.holders-place-items-requires
holders-place-items-requires c =
    let first : c.loop-at.at < length c.args.near.now.items = omega (arith, c.loop-at-test.true, c.len-at-end.ensures, c.args.near.now.ok.0) in
    let kept = c.loop-at.invariant.kept c.loop-at.at first in
    let index : get_or c.loop-at.near.items c.loop-at.at 0 ≡ c.index-index.result.now = sym (get_or_read c.loop-at.near.items c.loop-at.at c.index-index.result.now kept.0 c.index-index.ensures 0) in
    let there : marked c.loop-at.shown.items c.index-index.result.now ≡ true =
    c.loop-at.invariant.listed c.index-index.result.now ∙ subst (λ x. has x c.loop-at.near.items ≡ true) index (has_at c.loop-at.near.items c.loop-at.at kept.0) in
    subst (λ n. c.index-index.result.now < n) (c.loop-at.invariant.long ∙ c.requires.long) (marked_within c.loop-at.shown.items c.index-index.result.now there)
