use Rattle.retention.specs.Graph.{is_field_of}
use Rattle.retention.proofs.account.under.Goals as goal

pub way-requires-clause-walked : goal.way-requires-clause-walked
way-requires-clause-walked c = (is_field_of c.args.end.now.graph c.args.end.now.cycles.marks.items, c.requires.cycles)

pub returns : goal.returns
returns c =
    let e = c.args.end.now in
    (c.requires.leaked, c.requires.apart, c.unwrap_or-since.ensures, λ come. c.in_ok-way.ensures (is_field_of e.graph e.cycles.marks.items) c.requires.cycles come)
