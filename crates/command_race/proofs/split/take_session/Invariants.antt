use Rattle.std.proofs.Common.{◌≡◌, ◌++◌}
use Rattle.std.specs.Vec.Iter.{into_iter_items}
use Rattle.command_race.specs.Race.{requests_of, others_of}
use Rattle.command_race.proofs.split.take_session.Given as goal

abbrev pub invariant-loop-line : goal.invariant-loop-line
invariant-loop-line l = record {
  own : l.own ++ requests_of l.fn.session (into_iter_items l.line-iterator) ≡ requests_of l.fn.session l.fn.lines.items;
  others : l.others.items ++ others_of l.fn.session (into_iter_items l.line-iterator) ≡ others_of l.fn.session l.fn.lines.items;
}
