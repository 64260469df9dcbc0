use Rattle.std.proofs.Common.{◌∙◌, ap}
use Rattle.std.specs.Prelude.{is_some}
use Rattle.run_engine.proofs.ListingLemmas.{taken_where_placed}
use Rattle.run_engine.proofs.editing.listing.Listing.is_taken.Goals as goal

pub returns : goal.returns
returns c = c.is_some.ensures ∙ ap is_some c.place.ensures.value ∙ taken_where_placed c.args.id c.args.self.now.ops
