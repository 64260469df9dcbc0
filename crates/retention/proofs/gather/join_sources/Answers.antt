use Rattle.std.proofs.Common.{◌≡◌, ◌+◌, ◌<◌, ◌≤◌, get_or, length, sym, ap, subst, arith, true}
use Rattle.std.specs.List.{All}
use Rattle.retention.specs.Graph.{size, places, target_at}
use Rattle.retention.specs.Layout.{naming}
use Rattle.retention.specs.Paths.{marked, with_member}
use Rattle.retention.proofs.JoinSteps.{IsJoining, join_start, naming_at, all_has, join_either, join_within, join_end}
use Rattle.retention.proofs.gather.join_sources.Goals as goal

pub loop-place-init : goal.loop-place-init
loop-place-init c = record {
  joining = join_start c.args.graph.now c.args.member c.args.members.now.items c.args.marks.now.items (λ z h. all_has (λ i. marked c.args.marks.now.items i ≡ true) c.args.members.now.items z c.requires.begun h);
  within = c.requires.all;
}

pub strong_source-source-requires : goal.strong_source-source-requires
strong_source-source-requires c =
    subst (λ xs. get_or xs c.loop-place.place-index 0 < places c.args.graph.now) (sym c.holders-place-items.ensures)
    (naming_at c.args.graph.now c.args.member c.loop-place.place-index (subst (λ xs. c.loop-place.place-index < length xs) c.holders-place-items.ensures c.loop-place-test.true)).0

pub loop-place-preserved : goal.loop-place-preserved
loop-place-preserved c =
    let inside : c.loop-place.place-index < length (naming c.args.graph.now.targets.items c.args.member) = subst (λ xs. c.loop-place.place-index < length xs) c.holders-place-items.ensures c.loop-place-test.true in
    let here : get_or (naming c.args.graph.now.targets.items c.args.member) c.loop-place.place-index 0 ≡ get_or c.holders-place-items.result.now c.loop-place.place-index 0 = ap (λ xs. get_or xs c.loop-place.place-index 0) (sym c.holders-place-items.ensures) in
    let long : length c.loop-place.marks.items ≡ size c.args.graph.now = omega (arith, c.loop-place.invariant.joining.long, c.requires.long, c.args.marks.now.ok.0) in
    record {
      joining =
          subst (λ xs. IsJoining c.args.graph.now c.args.member c.args.members.now.items c.args.marks.now.items (c.loop-place.place-index + 1) xs c.join.new.marks.items) (sym c.in_ok-join.ensures.members)
          (subst (λ bs. IsJoining c.args.graph.now c.args.member c.args.members.now.items c.args.marks.now.items (c.loop-place.place-index + 1) (with_member c.strong_source-source.result c.loop-place.marks.items c.loop-place.members.items) bs) (sym c.in_ok-join.ensures.marks)
          (join_either c.args.graph.now c.args.member c.args.members.now.items c.args.marks.now.items c.loop-place.place-index c.loop-place.members.items c.loop-place.marks.items c.loop-place.invariant.joining
          (get_or c.holders-place-items.result.now c.loop-place.place-index 0) here long
          (subst (λ x. target_at c.args.graph.now x ≡ c.args.member) here (naming_at c.args.graph.now c.args.member c.loop-place.place-index inside).1)
          c.strong_source-source.result c.strong_source-source.ensures.own c.strong_source-source.ensures.all));
      within =
          subst (λ xs. All (λ i. i < size c.args.graph.now) xs) (sym c.in_ok-join.ensures.members)
          (join_within c.args.graph.now (get_or c.holders-place-items.result.now c.loop-place.place-index 0) c.strong_source-source.result c.loop-place.marks.items c.loop-place.members.items c.strong_source-source.ensures.own c.loop-place.invariant.within);
    }

pub returns-clause-joined : goal.returns-clause-joined
returns-clause-joined c =
    join_end c.args.graph.now c.args.member c.args.members.now.items c.args.marks.now.items c.loop-place.place-index c.loop-place.members.items c.loop-place.marks.items c.loop-place.invariant.joining
    (subst (λ xs. length xs ≤ c.loop-place.place-index) c.holders-place-items.ensures c.loop-place-test.false) c.args.graph.now.laid.targets_long
