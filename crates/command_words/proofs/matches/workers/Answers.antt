use Rattle.std.proofs.Common.{◌≤◌, arith}
use Rattle.clap.specs.Words.{found_of, one_of, rows_of}
use Rattle.clap.specs.Matches.{one_text}
use Rattle.clap.proofs.WalkLemmas.{one_text-rows}
use Rattle.trace_types.specs.declared.limits.TheConstants.{MAX_WORKERS}
use Rattle.command_words.specs.Named.{workers_id}
use Rattle.command_words.proofs.Numbers.{some_workers, no_workers, other_workers, if_none}
use Rattle.command_words.proofs.matches.workers.Goals as goal

pub returns-in_err-workers-clause-none : goal.returns-in_err-workers-clause-none
returns-in_err-workers-clause-none c =
    let f = found_of c.args.matches.now in
    if_none c.from_residual.result _ (no_workers (one_text f workers_id) (one_of workers_id (rows_of f)) (one_text-rows f workers_id) (λ t is. (c.in_err-workers.ensures.value t is).1.0))

pub returns-then-workers-lt1-clause-none : goal.returns-then-workers-lt1-clause-none
returns-then-workers-lt1-clause-none c =
    let f = found_of c.args.matches.now in
    other_workers (one_text f workers_id) (one_of workers_id (rows_of f)) c.in_ok-workers.workers (one_text-rows f workers_id) (λ t is. (c.in_ok-workers.ensures.value t is).0)
    (λ n e low high. absurd (omega (arith, e, low, c.if-workers-lt1.true)))

pub returns-then-workers-gt-MAX_WORKERS-clause-none : goal.returns-then-workers-gt-MAX_WORKERS-clause-none
returns-then-workers-gt-MAX_WORKERS-clause-none c =
    let f = found_of c.args.matches.now in
    other_workers (one_text f workers_id) (one_of workers_id (rows_of f)) c.in_ok-workers.workers (one_text-rows f workers_id) (λ t is. (c.in_ok-workers.ensures.value t is).0)
    (λ n e low high. absurd (omega (arith, e, high, c.if-workers-gt-MAX_WORKERS.true)))

pub returns-clause-some : goal.returns-clause-some
returns-clause-some c =
    let f = found_of c.args.matches.now in
    let low : 1 ≤ c.in_ok-workers.workers = omega (arith, c.if-workers-lt1.false) in
    let high : c.in_ok-workers.workers ≤ MAX_WORKERS = omega (arith, c.if-workers-gt-MAX_WORKERS.false) in
    some_workers (one_text f workers_id) (one_of workers_id (rows_of f)) c.in_ok-workers.workers (one_text-rows f workers_id) c.in_ok-workers.ensures.none (λ t is. (c.in_ok-workers.ensures.value t is).0) low high
