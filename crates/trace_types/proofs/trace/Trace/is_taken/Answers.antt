use Rattle.std.proofs.Common.{◌∙◌, ap}
use Rattle.std.specs.Prelude.{is_some}
use Rattle.trace_types.proofs.PlaceLemmas.{taken_where_placed}
use Rattle.trace_types.proofs.trace.Trace.is_taken.Goals as goal

pub returns : goal.returns
returns c = c.is_some.ensures ∙ ap is_some c.place.ensures ∙ taken_where_placed c.args.id c.args.self.now
