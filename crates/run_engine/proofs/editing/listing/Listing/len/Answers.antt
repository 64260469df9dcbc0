use Rattle.std.proofs.Common.{◌∙◌}
use Rattle.run_engine.proofs.SpanLemmas.{view-length}
use Rattle.run_engine.proofs.editing.listing.Listing.len.Goals as goal

pub returns : goal.returns
returns c = c.self.invariant.1 ∙ view-length c.self.inside.base c.self.inside.spans.items c.args.self.now c.self.invariant.0 c.self.view_is
