use Rattle.std.proofs.Common.{[], get_or, ◌∙◌, ap, sym}
use Rattle.std.proofs.lemmas.List.Sums.{fold_more}
use Rattle.std.specs.Ordering.{nat_cmp}
use Rattle.std.specs.BTreeSet.{insert_key}
use Rattle.leak_report.proofs.rising.in_order.Goals as goal

pub loop-number-preserved : goal.loop-number-preserved
loop-number-preserved c =
    let i = c.loop-number.number-index in
    c.in_ok-insert.ensures
    ∙ ap (λ os. insert_key nat_cmp os (get_or c.args.numbers.now i 0)) c.loop-number.invariant
    ∙ sym (fold_more (insert_key nat_cmp) [] c.args.numbers.now i 0 c.loop-number-test.true)
