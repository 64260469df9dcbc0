use Rattle.std.proofs.Common.{ℕ, List, arith}
use Rattle.trace_types.specs.Operation.{Operation}
use Rattle.run_engine.specs.Bounds.{StepsAtMostFrom}
use Rattle.edit_desk.specs.Versions.{ReplaysWithin}
use Rattle.edit_desk.proofs.published.what_if.Goals as goal

-- where nothing is stepped, no more is than may be
none-stepped : (old ops : List Operation) (marks : List ℕ) (n : ℕ) → StepsAtMostFrom old ops marks n n
none-stepped old ops marks n = λ head tail r shared greatest.
    let early = greatest.early in
    let within = shared.head_is.within in
    let rest = shared.tail_is.within in
    record { whole = omega arith; stop = λ p mark le agrees. omega arith }

pub returns-in_err-try_size-clause-bound : goal.returns-in_err-try_size-clause-bound
unfolding ReplaysWithin
returns-in_err-try_size-clause-bound c = λ ops e. none-stepped c.args.published.now.run.trace ops c.args.published.now.run.marks c.args.meter.now

pub returns-in_err-shelf-clause-bound : goal.returns-in_err-shelf-clause-bound
unfolding ReplaysWithin
returns-in_err-shelf-clause-bound c = λ ops e. none-stepped c.args.published.now.run.trace ops c.args.published.now.run.marks c.args.meter.now
