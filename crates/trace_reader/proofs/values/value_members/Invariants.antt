use Rattle.std.proofs.Common.{◌≡◌, List, ◌++◌}
use Rattle.serde_json.specs.View.{members_view}
use Rattle.serde_json.proofs.Views.{Entry}
use Rattle.trace_reader.specs.Looks.{Tells}
use Rattle.trace_reader.proofs.values.value_members.Given as goal

abbrev pub invariant-loop-text : goal.invariant-loop-text
invariant-loop-text l = (done : List Entry) × (l.members.entries ≡ done ++ l.text-iterator) × Tells l.kept (members_view done)
