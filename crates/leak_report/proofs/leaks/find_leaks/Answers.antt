use Rattle.std.proofs.Common.{◌≡◌, ◌∙◌, sym, ap, subst}
use Rattle.std.specs.Ordering.{nat_cmp}
use Rattle.std.specs.BTreeSet.{contains}
use Rattle.std.specs.List.Sorted.{IsStrictlySortedBy}
use Rattle.std.specs.FinMap.{keys}
use Rattle.ownership_model.specs.Leaks.{leaks_of, leaked_in, husks_in}
use Rattle.leak_report.specs.HolderPass.{leak_names}
use Rattle.leak_report.proofs.HolderLemmas.{names-unheld, leaked_rise, found_leaks}
use Rattle.leak_report.proofs.leaks.find_leaks.Goals as goal

pub push_holders-requires-clause-same : goal.push_holders-requires-clause-same
push_holders-requires-clause-same c =
    ap leak_names c.in_ok-leaked.ensures ∙ names-unheld c.deref-2.result.now ∙ c.deref-2.ensures.value ∙ sym c.deref-4.ensures.value

pub push_holders-requires-clause-rising : goal.push_holders-requires-clause-rising
push_holders-requires-clause-rising c =
    let names : c.deref-4.result.now ≡ leaked_in (λ o. contains nat_cmp c.in_ok-reached.reached o) c.args.heap.now (keys c.args.heap.now.objects) =
    c.deref-4.ensures.value ∙ c.in_ok-names.ensures ∙ ap (leaked_in (λ o. contains nat_cmp c.in_ok-reached.reached o) c.args.heap.now) (c.deref.ensures.value ∙ c.in_ok-objects.ensures) in
    subst (λ os. IsStrictlySortedBy nat_cmp os) (sym names) (leaked_rise (λ o. contains nat_cmp c.in_ok-reached.reached o) c.args.heap.now)

pub returns : goal.returns
returns c =
    let leaked : c.from_vec.result ≡ (leaks_of c.args.heap.now).leaked =
    c.from_vec.ensures ∙ found_leaks (λ o. contains nat_cmp c.in_ok-reached.reached o) c.args.heap.now c.deref.result.now c.deref-3.result.now c.deref-2.result.now c.in_ok-leaked.leaked.items c.push_holders.new.leaks.items
    c.in_ok-reached.ensures (c.deref.ensures.value ∙ c.in_ok-objects.ensures) (c.deref-3.ensures.value ∙ c.in_ok-objects.ensures)
    (c.deref-2.ensures.value ∙ c.in_ok-names.ensures) c.in_ok-leaked.ensures c.in_ok-push_holders.ensures in
    let husks : c.from_vec-2.result ≡ (leaks_of c.args.heap.now).husks =
    c.from_vec-2.ensures ∙ c.in_ok-husks.ensures ∙ ap (husks_in c.args.heap.now) (c.deref-5.ensures.value ∙ c.in_ok-objects.ensures) in
    ap (λ x. record { leaked = x; husks = c.from_vec-2.result }) leaked ∙ ap (λ x. record { leaked = (leaks_of c.args.heap.now).leaked; husks = x }) husks
