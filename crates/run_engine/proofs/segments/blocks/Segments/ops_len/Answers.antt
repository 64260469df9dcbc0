use Rattle.std.proofs.Common.{◌∙◌, ap, length}
use Rattle.run_engine.specs.Segments.{trace_of}
use Rattle.run_engine.proofs.segments.blocks.Segments.ops_len.Goals as goal

pub returns-clause-value : goal.returns-clause-value
returns-clause-value c = c.self.invariant.4 ∙ ap (λ ss. length (trace_of ss)) c.self.view_is
