use Rattle.std.proofs.Common.{◌∙◌, ap, sym}
use Rattle.std.specs.Prelude.{None, fold}
use Rattle.std.specs.Ordering.{nat_cmp}
use Rattle.std.specs.BTreeSet.{contains}
use Rattle.run_engine.specs.RunView.{RunView}
use Rattle.run_engine.specs.Segments.{trace_of, all_marks}
use Rattle.run_engine.specs.GivenUp.{given_up}
use Rattle.run_engine.specs.inner.Onward.{among}
use Rattle.run_engine.proofs.ClearedLemmas.{trace_of-cleared, IsKept-cleared, all_marks-cleared}
use Rattle.run_engine.proofs.AnsweredLemmas.{given_up-all, goes-same}
use Rattle.run_engine.proofs.run.Run.give_up_named.Goals as goal

pub invariant_of-self : goal.invariant_of-self
invariant_of-self c = rw c.clear_named.ensures (IsKept-cleared (contains nat_cmp c.args.answered.now) c.self.inside.segments c.self.inside.end c.self.invariant)

pub returns-clause-trace : goal.returns-clause-trace
returns-clause-trace c =
    ap trace_of c.clear_named.ensures ∙ trace_of-cleared (contains nat_cmp c.args.answered.now) None c.self.inside.segments ∙ ap (λ (s : RunView). s.trace) c.self.view_is

pub returns-clause-marks : goal.returns-clause-marks
returns-clause-marks c = λ names are.
    let named = contains nat_cmp c.args.answered.now in
    let segments = c.self.inside.segments in
    ap all_marks c.clear_named.ensures ∙ all_marks-cleared named segments c.self.invariant.run.full
    ∙ goes-same named (among names) (trace_of segments) are (all_marks segments)
    ∙ sym (given_up-all (trace_of segments) names (all_marks segments) c.self.invariant.trace.distinct)
    ∙ ap (λ (s : RunView). fold (given_up s.trace) s.marks names) c.self.view_is
