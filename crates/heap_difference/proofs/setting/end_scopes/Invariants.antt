use Rattle.std.proofs.Common.{◌≡◌, take, false}
use Rattle.ownership_model.specs.Sets.{end_scopes}
use Rattle.heap_difference.proofs.setting.end_scopes.Given as goal

abbrev pub invariant-loop-op : goal.invariant-loop-op
invariant-loop-op l = end_scopes (take l.op-index l.ops) ≡ false
