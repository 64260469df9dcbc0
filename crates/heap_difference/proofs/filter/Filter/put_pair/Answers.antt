use Rattle.std.proofs.Common.{◌∷◌, []}
use Rattle.ownership_model.specs.declared.key.Key.TheVariants as key
use Rattle.heap_difference.proofs.FilterLemmas.{put_on}
use Rattle.heap_difference.proofs.filter.Filter.put_pair.Goals as goal

pub returns : goal.returns
returns c = put_on c.args.self.now c.put.new.self c.put-2.new.self (key.Handle c.args.first ∷ []) (key.Handle c.args.second ∷ []) c.put.ensures c.put-2.ensures
