use Rattle.std.proofs.lemmas.Result.{IfOk-weaker}
use Rattle.command_serve.proofs.Told.{pictured, pictured_fault}
use Rattle.command_serve.proofs.picture.picture_due.Goals as goal

pub returns-in-Ok : goal.returns-in-Ok
returns-in-Ok c =
    IfOk-weaker c.told.result _ _ (λ due is. pictured c.args.objects.now c.args.with_all c.args.input.items c.in-Ok.trace due (rw c.deref.ensures.value at c.in-Ok.ensures.ok) is) c.told.ensures

pub returns-in-Err : goal.returns-in-Err
returns-in-Err c =
    pictured_fault c.args.objects.now c.args.with_all c.args.input.items c.in-Err.fault c.fault_due.result c.fault_due.ensures.due c.fault_due.ensures.cause (rw c.deref.ensures.value at c.in-Err.ensures.fault)
