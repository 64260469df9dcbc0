use Rattle.std.proofs.Common.{◌≡◌, suc, ◌+◌, ◌∙◌, ap, get_or, take, arith}
use Rattle.std.specs.Ordering.{nat_cmp}
use Rattle.std.specs.BTreeSet.{insert_key}
use Rattle.leak_report.proofs.RisingLemmas.{insert_key-next}
use Rattle.leak_report.proofs.rising.set_of.Goals as goal

pub loop-number-preserved : goal.loop-number-preserved
loop-number-preserved c =
    let ks = c.args.numbers.now in
    let i = c.loop-number.number-index in
    let more : suc i ≡ i + 1 = omega arith in
    c.in_ok-insert.ensures.keys
    ∙ ap (λ before. insert_key nat_cmp before (get_or ks i 0)) c.loop-number.invariant
    ∙ insert_key-next ks i c.requires c.loop-number-test.true
    ∙ ap (λ n. take n ks) more
