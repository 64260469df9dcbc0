use Rattle.std.proofs.Common.{◌∙◌, ap, sym, length}
use Rattle.run_engine.specs.inner.Parts.{joined, starts_from}
use Rattle.run_engine.specs.Segments.{trace_of}
use Rattle.run_engine.proofs.SegmentLemmas.{trace_of-without_mark}
use Rattle.run_engine.proofs.BlocksLemmas.{length-without}
use Rattle.run_engine.proofs.GiveUpLemmas.{has_mark-at}
use Rattle.run_engine.proofs.segments.blocks.Segments.clear_mark.Goals as goal

pub invariant_of-self : goal.invariant_of-self
invariant_of-self c = (
  c.self.invariant.0 ∙ sym c.clear_at.ensures.starts,
  c.self.invariant.1 ∙ sym (ap length c.clear_at.ensures.segments ∙ length-without (joined c.self.inside.blocks.items) c.args.index),
  c.self.invariant.2,
  c.self.invariant.3 ∙ ap (starts_from 0) (sym c.clear_at.ensures.traces),
  c.self.invariant.4 ∙ ap length (sym (ap trace_of c.clear_at.ensures.segments ∙ trace_of-without_mark (joined c.self.inside.blocks.items) c.args.index)),
  c.self.invariant.5,
)

pub returns-clause-answer : goal.returns-clause-answer
returns-clause-answer c = c.is_marked-was.ensures ∙ sym (has_mark-at c.args.self.now c.args.index c.at.result c.requires c.at.ensures)
