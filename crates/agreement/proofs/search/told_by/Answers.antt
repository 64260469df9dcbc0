use Rattle.std.proofs.Common.{◌≡◌, ◌∙◌, sym, length}
use Rattle.std.proofs.lemmas.List.{nil_from_length}
use Rattle.ownership_model.proofs.Counting.{same_number}
use Rattle.agreement.proofs.SuspectLemmas.{no_suspects}
use Rattle.agreement.proofs.search.told_by.Goals as goal

pub returns-then-is_empty : goal.returns-then-is_empty
returns-then-is_empty c =
    let none : length c.args.suspects.now ≡ 0 = same_number (length c.args.suspects.now) 0 (sym c.is_empty.ensures ∙ c.if-is_empty.true) in
    no_suspects c.args.new.now c.args.old.now c.args.suspects.now (nil_from_length c.args.suspects.now none) c.requires.roots c.requires.outside
