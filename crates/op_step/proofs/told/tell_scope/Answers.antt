use Rattle.std.proofs.Common.{◌≡◌, ap}
use Rattle.std.specs.Prelude.{flat_map}
use Rattle.trace_types.specs.declared.kinds.Kind.{Kind}
use Rattle.object_heap.proofs.CoverLemmas.{ok_as}
use Rattle.op_step.specs.Told.{ended_key, ended_keys}
use Rattle.op_step.proofs.told.tell_scope.Goals as goal

pub returns-in-ScopeEnd : goal.returns-in-ScopeEnd
returns-in-ScopeEnd c =
    let told = flat_map ended_key c.args.changes.now in
    let same : ended_keys c.args.kind.now c.args.changes.now ≡ told = ap (λ (kd : Kind). ended_keys kd c.args.changes.now) c.in-ScopeEnd.is in
    ok_as c.tell_ended.result c.args.keys.now.items c.tell_ended.new.keys.items told (ended_keys c.args.kind.now c.args.changes.now) c.tell_ended.ensures same
