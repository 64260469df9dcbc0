use Rattle.trace_reader.proofs.Rests.{op_goes_on}
use Rattle.trace_reader.proofs.op.rest_op.Goals as goal

pub returns-in-Ok : goal.returns-in-Ok
returns-in-Ok c before tells =
    let found = c.in-Ok.ensures.ok before in
    op_goes_on c.members_of_op.result before c.args.rest.now found.0 found.1 (c.members_of_op.ensures found.0 (found.2 tells))
