use Rattle.std.proofs.Common.{◌≡◌, ◌++◌, map, length}
use Rattle.std.specs.Vec.Iter.{into_iter_items}
use Rattle.live_sessions.specs.Races.{given, AllFresh}
use Rattle.live_sessions.proofs.race.start.Given as goal

abbrev pub invariant-loop-own : goal.invariant-loop-own
invariant-loop-own g l = record {
  number : l.session ≡ length l.submitters.items;
  handed : map given l.submitters.items ++ into_iter_items l.own-iterator ≡ l.fn.requests.items;
  started : AllFresh l.submitters.items;
}
