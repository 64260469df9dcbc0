use Rattle.std.proofs.Common.{◌≡◌, [], map, take}
use Rattle.trace_types.specs.Stretches.{outcomes_of}
use Rattle.leak_report.specs.Lives.{events_of, made_after}
use Rattle.leak_report.specs.Told.{begins, told_by_all}
use Rattle.leak_report.proofs.lives.lives.Given as goal

abbrev pub invariant-loop-stretch : goal.invariant-loop-stretch
invariant-loop-stretch l = l.lives.items ≡ map (told_by_all (events_of (outcomes_of (take l.stretch-index l.stretches)))) (map begins (made_after [] (outcomes_of l.stretches)))
