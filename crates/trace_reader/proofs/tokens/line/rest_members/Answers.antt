use Rattle.std.proofs.Common.{◌≡◌, ap, sym, ◌∙◌}
use Rattle.json.specs.Lex.{tokens}
use Rattle.trace_reader.specs.Looks.{members_from}
use Rattle.trace_reader.proofs.Rests.{json_from-refused, json_from-read, on_ok}
use Rattle.trace_reader.proofs.tokens.line.rest_members.Goals as goal

pub returns-in_default-clause-err : goal.returns-in_default-clause-err
returns-in_default-clause-err c refused = λ before. json_from-refused before _ (λ u. absurd (c.in_default.ensures u))

pub returns-clause-ok : goal.returns-clause-ok
returns-clause-ok c =
    let same : tokens c.args.rest.now ≡ c.in-Ok-new.reader = sym (c.in-Ok-new.ensures.ok ∙ ap tokens c.in-Ok.ensures.0) in
    on_ok c.last_members.result _ _
    (λ found before. let read = found before in (read.0, json_from-read before c.args.rest.now read.0 c.in-Ok.ensures.1 (ap (members_from before) same ∙ read.1), read.2))
    c.last_members.ensures.ok

pub returns-clause-err : goal.returns-clause-err
returns-clause-err c refused = λ before.
    let same : tokens c.args.rest.now ≡ c.in-Ok-new.reader = sym (c.in-Ok-new.ensures.ok ∙ ap tokens c.in-Ok.ensures.0) in
    json_from-refused before _ (λ u. ap (members_from before) same ∙ c.last_members.ensures.err refused before)
