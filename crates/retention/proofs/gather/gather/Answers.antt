use Rattle.std.proofs.Common.{◌≡◌, ◌<◌, length, sym, arith, true}
use Rattle.std.proofs.lemmas.List.{get_or_read}
use Rattle.retention.specs.Paths.{Points, marked}
use Rattle.retention.proofs.GatherSteps.{gather_start, gather_more, gather_end, gathered_marked}
use Rattle.retention.proofs.JoinSteps.{all_has}
use Rattle.retention.proofs.gather.gather.Goals as goal

pub loop-at-init : goal.loop-at-init
loop-at-init c = record {
  gathering = gather_start (Points c.args.graph.now) c.args.members.now.items c.args.marks.now.items (λ z h. all_has (λ i. marked c.args.marks.now.items i ≡ true) c.args.members.now.items z c.requires.begun h);
  within = c.requires.within;
}

pub join_sources-requires-clause-long : goal.join_sources-requires-clause-long
join_sources-requires-clause-long c = omega (arith, c.loop-at.invariant.gathering.long, c.requires.long, c.args.marks.now.ok.0, c.loop-at.marks.ok.0)

pub join_sources-requires-clause-begun : goal.join_sources-requires-clause-begun
join_sources-requires-clause-begun c = gathered_marked (Points c.args.graph.now) c.args.members.now.items c.args.marks.now.items c.loop-at.at c.loop-at.members.items c.loop-at.marks.items c.loop-at.invariant.gathering

pub loop-at-preserved : goal.loop-at-preserved
loop-at-preserved c =
    let inside : c.loop-at.at < length c.loop-at.members.items = omega (arith, c.loop-at-test.true, c.len.ensures, c.loop-at.members.ok.0) in
    record {
      gathering = gather_more (Points c.args.graph.now) c.args.members.now.items c.args.marks.now.items c.loop-at.at c.index-member.result.now c.loop-at.members.items c.join_sources.new.members.items c.loop-at.marks.items c.join_sources.new.marks.items
          c.loop-at.invariant.gathering inside (sym (get_or_read c.loop-at.members.items c.loop-at.at c.index-member.result.now inside c.index-member.ensures 0)) c.in_ok-join_sources.ensures.joined;
      within = c.in_ok-join_sources.ensures.within;
    }

pub returns-clause-gathered : goal.returns-clause-gathered
returns-clause-gathered c =
    gather_end (Points c.args.graph.now) c.args.members.now.items c.args.marks.now.items c.loop-at.at c.loop-at.members.items c.loop-at.marks.items c.loop-at.invariant.gathering
    (omega (arith, c.loop-at-test.false, c.len.ensures, c.loop-at.members.ok.0))
