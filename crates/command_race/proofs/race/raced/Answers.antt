use Rattle.std.proofs.Common.{◌≡◌, ℕ, List, [], subst}
use Rattle.std.specs.Prelude.{slice_index_or}
use Rattle.std.proofs.lemmas.Option.{IfSome_then}
use Rattle.trace_reader.specs.declared.request.RequestLine.{RequestLine}
use Rattle.command_race.specs.Race.{requests_of}
use Rattle.command_race.proofs.Due.{raced_lines}
use Rattle.command_race.proofs.race.raced.Goals as goal

pub returns-in-Some : goal.returns-in-Some
returns-in-Some g c =
    let script = c.args.script in
    let requests = c.in-Some.requests.items in
    let each = subst (λ (lines : List RequestLine). (s : ℕ) → slice_index_or requests s [] ≡ requests_of s lines) c.into_vec.ensures c.in-Some.ensures.each in
    IfSome_then c.race_from.result c.race_from.ensures (λ text is. raced_lines script.trace script.requests requests text.items each is)
