use Rattle.std.proofs.Common.{List, ◌++◌}
use Rattle.std.specs.Prelude.{flat_map}
use Rattle.ownership_model.specs.declared.key.Key.{Key}
use Rattle.heap_difference.specs.Naming.{op_keys, outcome_keys}
use Rattle.heap_difference.proofs.FilterLemmas.{put_on}
use Rattle.heap_difference.proofs.filter.Filter.of.Goals as goal

pub returns : goal.returns
returns c =
    let named : List Key = flat_map op_keys c.args.ops.now in
    let told_of : List Key = flat_map outcome_keys c.args.outcomes.now in
    (put_on _ c.put_all.new.self c.put_outcomes.new.self c.args.told.now (named ++ told_of) c.put_all.ensures
    (put_on c.put_all.new.self c.put_ops.new.self c.put_outcomes.new.self named told_of c.put_ops.ensures c.put_outcomes.ensures)).has
