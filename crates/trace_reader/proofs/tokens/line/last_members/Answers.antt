use Rattle.std.proofs.Common.{◌≡◌, [], Some, ap, ◌∙◌, arith}
use Rattle.json.specs.Reads.{token_of}
use Rattle.trace_reader.proofs.Rests.{members_from-refused, members_from-more, members_from-read}
use Rattle.trace_reader.proofs.tokens.line.last_members.Goals as goal

pub returns-in_err-read_members-clause-err : goal.returns-in_err-read_members-clause-err
returns-in_err-read_members-clause-err c refused = λ before. members_from-refused before c.args.reader.now (c.read_members.ensures.err (grind arith) before)

pub returns-in-Some-clause-err : goal.returns-in-Some-clause-err
returns-in-Some-clause-err c refused = λ before.
    let found = c.in_ok-read_members.ensures.ok before in
    members_from-more before c.args.reader.now found.0 (token_of c.in-Some.field-0) c.next.new.self (found.1 ∙ ap (λ r. Some (found.0, r)) c.in-Some.ensures.value)

pub returns-clause-ok : goal.returns-clause-ok
returns-clause-ok c before =
    let found = c.in_ok-read_members.ensures.ok before in
    let last : c.read_members.new.reader ≡ [] = grind arith in
    (found.0, members_from-read before c.args.reader.now found.0 (found.1 ∙ ap (λ r. Some (found.0, r)) last), found.2)
