use Rattle.std.proofs.Common.{◌∙◌, ap, length}
use Rattle.run_engine.specs.Segments.{trace_of}
use Rattle.run_engine.proofs.segments.block.Block.ops_len.Goals as goal

pub returns-clause-value : goal.returns-clause-value
returns-clause-value c = c.self.invariant.3.ops_are ∙ ap (λ ss. length (trace_of ss)) c.self.view_is

pub returns-clause-few : goal.returns-clause-few
returns-clause-few c = c.self.invariant.3.few
