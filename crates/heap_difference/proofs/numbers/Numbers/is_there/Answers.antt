use Rattle.std.proofs.Common.{ap, ◌∙◌, sym, subst}
use Rattle.std.specs.List.Sorted.{IsStrictlyIncreasing}
use Rattle.ownership_model.specs.Reach.{has}
use Rattle.heap_difference.proofs.KeyLemmas.{searched_has}
use Rattle.heap_difference.proofs.numbers.Numbers.is_there.Goals as goal

pub returns : goal.returns
returns c =
    c.is_ok.ensures.value
    ∙ searched_has c.args.number c.deref.result.now c.binary_search.result (subst IsStrictlyIncreasing (sym c.deref.ensures.value) c.self.invariant) c.binary_search.ensures.position
    ∙ ap (has c.args.number) (c.deref.ensures.value ∙ c.self.view_is)
