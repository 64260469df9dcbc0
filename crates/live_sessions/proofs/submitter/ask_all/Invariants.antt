use Rattle.std.proofs.Common.{◌≡◌, ◌++◌}
use Rattle.std.specs.Vec.Iter.{into_iter_items}
use Rattle.live_sessions.specs.Races.{asked_by}
use Rattle.live_sessions.proofs.submitter.ask_all.Given as goal

abbrev pub invariant-loop-request : goal.invariant-loop-request
invariant-loop-request g l = record {
  same : l.pass.session ≡ l.fn.pass.session;
  asks : asked_by l.fn.pass.session l.pass.front ++ into_iter_items l.request-iterator ≡ asked_by l.fn.pass.session l.fn.pass.front ++ l.fn.requests.items;
}
