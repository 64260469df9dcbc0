use Rattle.std.proofs.Common.{refl}
use Rattle.clap.specs.Words.{found_of, rows_of}
use Rattle.command_words.specs.Named.{life_id}
use Rattle.command_words.proofs.Objects.{given}
use Rattle.command_words.proofs.matches.explain.Goals as goal

pub returns-in-Some-clause-some : goal.returns-in-Some-clause-some
returns-in-Some-clause-some c =
    let f = found_of c.args.own.now in
    let told = c.get_flag.ensures in
    (rows_of f, refl, rw c.in-Some.is at c.in_ok-objects.ensures.some, given f life_id c.get_flag.result told.none told.value told.other)
