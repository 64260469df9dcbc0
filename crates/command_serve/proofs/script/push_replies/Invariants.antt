use Rattle.std.proofs.Common.{◌≡◌, ◌++◌}
use Rattle.std.specs.Prelude.{string_bytes}
use Rattle.std.specs.Vec.Iter.{into_iter_items}
use Rattle.command_serve.specs.Script.{replies_text, replies_from, standing_from}
use Rattle.command_serve.proofs.script.push_replies.Given as goal

abbrev pub invariant-loop-line : goal.invariant-loop-line
invariant-loop-line l = record {
  text : string_bytes l.text ++ replies_text (replies_from l.desk.standing (into_iter_items l.line-iterator)) ≡ string_bytes l.initial.text ++ replies_text (replies_from l.initial.desk.standing (into_iter_items l.initial.line-iterator));
  desk : standing_from l.desk.standing (into_iter_items l.line-iterator) ≡ standing_from l.initial.desk.standing (into_iter_items l.initial.line-iterator);
}
