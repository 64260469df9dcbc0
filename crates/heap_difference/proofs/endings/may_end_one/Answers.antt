use Rattle.std.proofs.Common.{◌≡◌, ◌∙◌, sym, subst, true, false, List}
use Rattle.std.specs.Prelude.{option_to_list}
use Rattle.std.specs.List.{list_any}
use Rattle.std.proofs.lemmas.List.{take_all}
use Rattle.std.proofs.lemmas.List.Folds.{list_any_at}
use Rattle.object_heap.specs.declared.put.Put.{Put}
use Rattle.heap_difference.specs.Endings.{may_end}
use Rattle.heap_difference.proofs.MayEndLemmas.{any_under}
use Rattle.heap_difference.proofs.endings.may_end_one.Goals as goal

pub returns-then-may_end_its_under : goal.returns-then-may_end_its_under
returns-then-may_end_its_under c =
    let p = may_end c.args.kind.now in
    let here : list_any p (option_to_list c.put-item.result.under) ≡ true = sym c.may_end_its_under.ensures ∙ c.if-may_end_its_under.true in
    sym (any_under p c.args.puts.now
    ∙ list_any_at (λ (x : Put). list_any p (option_to_list x.under)) c.args.puts.now c.loop-put.put-index c.put-item.result c.loop-put-test.true
    (subst (λ (x : Put). list_any p (option_to_list x.under) ≡ true) c.put-item.is here))

pub returns : goal.returns
returns c =
    let p = may_end c.args.kind.now in
    sym (any_under p c.args.puts.now
    ∙ subst (λ (xs : List Put). list_any (λ x. list_any p (option_to_list x.under)) xs ≡ false) (take_all c.loop-put.put-index c.args.puts.now c.loop-put-test.false) c.loop-put.invariant)
