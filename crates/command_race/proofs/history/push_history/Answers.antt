use Rattle.std.proofs.Common.{rules, ◌≡◌, ◌++◌, List, Some, ap, ◌∙◌}
use Rattle.std.specs.Prelude.{slice_get, string_bytes}
use Rattle.command_race.specs.Race.{entry_text}
use Rattle.command_race.proofs.Histories.{history_more}
use Rattle.command_race.proofs.history.push_history.Goals as goal

pub loop-place-preserved : goal.loop-place-preserved
loop-place-preserved c =
    let h = c.args.desk.now.standing.history in
    let e = c.in-Some.entry.now in
    let is : slice_get h c.loop-place.place ≡ Some e = search rules in
    let more : string_bytes c.push_entry.new.text ≡ string_bytes c.loop-place.text ++ entry_text e = search rules in
    more ∙ (ap (λ (t : List _). t ++ entry_text e) c.loop-place.invariant ∙ history_more _ h c.loop-place.place e is)
