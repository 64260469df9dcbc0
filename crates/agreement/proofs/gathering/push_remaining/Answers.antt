use Rattle.std.proofs.Common.{◌≡◌, ap, rules}
use Rattle.trace_types.specs.declared.outcomes.Counts.{Counts}
use Rattle.ownership_model.specs.declared.remaining.Remaining.{Remaining}
use Rattle.agreement.proofs.GatheringLemmas.{on_ok, put_remaining, none_remaining}
use Rattle.agreement.proofs.gathering.push_remaining.Goals as goal

pub returns-in_ok-copy-in-Some : goal.returns-in_ok-copy-in-Some
returns-in_ok-copy-in-Some c =
    let same : c.in_ok-copy-in-Some.copy ≡ c.in-Some.entry.now = search rules in
    let x : Remaining = record { entry = c.in_ok-copy-in-Some.copy; strong = c.counts-strong.result.strong; weak = c.counts-strong.result.weak } in
    on_ok c.insert.result c.insert.ensures.ok (λ is.
    put_remaining c.args.heap.now c.args.rest.now c.insert.new.self c.args.object c.in-Some.entry.now x is c.in-Some.ensures
    (λ i. record { entry = same i; strong = ap (λ (k : Counts). k.strong) c.counts-strong.ensures i; weak = ap (λ (k : Counts). k.weak) c.counts-strong.ensures i }))

pub returns-in-None : goal.returns-in-None
returns-in-None c = none_remaining c.args.heap.now c.args.rest.now c.args.object c.in-None.ensures
