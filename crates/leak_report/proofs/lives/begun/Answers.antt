use Rattle.std.proofs.Common.{◌∙◌, map, ap, subst, sym, arith, List}
use Rattle.std.proofs.lemmas.List.{take_all}
use Rattle.leak_report.specs.declared.lives.Life.{Life}
use Rattle.leak_report.specs.Told.{HasRisingObjects, begins}
use Rattle.leak_report.proofs.ToldLemmas.{begin_rising}
use Rattle.leak_report.proofs.lives.begun.Goals as goal

pub returns-clause-rising : goal.returns-clause-rising
returns-clause-rising c =
    let made = c.args.made.now in
    let all = c.loop-object.invariant ∙ ap (map begins) (take_all c.loop-object.object-index made (omega (arith, c.loop-object-test.false))) in
    subst (λ (ls : List Life). HasRisingObjects ls) (sym all) (begin_rising made c.requires)
