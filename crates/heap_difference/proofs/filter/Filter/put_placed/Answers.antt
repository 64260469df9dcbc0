use Rattle.std.proofs.Common.{◌∷◌, []}
use Rattle.ownership_model.specs.declared.key.Key.TheVariants as key
use Rattle.heap_difference.proofs.FilterLemmas.{put_on}
use Rattle.heap_difference.proofs.filter.Filter.put_placed.Goals as goal

pub returns : goal.returns
returns c = put_on c.args.self.now c.put.new.self c.put-2.new.self (key.Handle c.args.handle ∷ []) (key.Cell c.args.cell ∷ []) c.put.ensures c.put-2.ensures
