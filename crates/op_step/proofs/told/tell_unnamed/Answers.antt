use Rattle.std.proofs.Common.{◌≡◌, ◌∙◌, ap, sym, List}
use Rattle.trace_types.specs.declared.slots.Change.{Change}
use Rattle.ownership_model.specs.declared.plan.Plan.{Plan}
use Rattle.object_heap.proofs.CoverLemmas.{ok_as}
use Rattle.op_step.specs.Told.{first_keys, ended_keys, unnamed_keys}
use Rattle.op_step.proofs.told.tell_unnamed.Goals as goal

pub returns-in-Skip : goal.returns-in-Skip
returns-in-Skip c =
    let m = c.args.heap.now in
    let kd = c.args.kind.now in
    let same : unnamed_keys m kd c.args.plan.now ≡ first_keys m kd = ap (λ (p : Plan). unnamed_keys m kd p) c.in-Skip.is in
    ok_as c.tell_first.result c.args.keys.now.items c.tell_first.new.keys.items (first_keys m kd) (unnamed_keys m kd c.args.plan.now) c.tell_first.ensures same

pub returns-in-Act : goal.returns-in-Act
returns-in-Act c =
    let m = c.args.heap.now in
    let kd = c.args.kind.now in
    let told = ended_keys kd c.as_slice.result.now in
    let same : unnamed_keys m kd c.args.plan.now ≡ told = ap (λ (p : Plan). unnamed_keys m kd p) c.in-Act.is ∙ ap (λ (cs : List Change). ended_keys kd cs) (sym c.as_slice.ensures) in
    ok_as c.tell_scope.result c.args.keys.now.items c.tell_scope.new.keys.items told (unnamed_keys m kd c.args.plan.now) c.tell_scope.ensures same
