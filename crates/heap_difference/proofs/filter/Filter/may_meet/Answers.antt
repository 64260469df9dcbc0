use Rattle.std.proofs.Common.{rules, ◌≡◌, ◌<◌, ◌∙◌, ap, sym, ℕ, List, get_or, bit_and}
use Rattle.heap_difference.specs.Filters.{may_have}
use Rattle.heap_difference.proofs.FilterLemmas.{have_none}
use Rattle.heap_difference.proofs.filter.Filter.may_meet.Goals as goal

pub returns : goal.returns
returns c e x here =
    let a : List ℕ = c.self.inside.words in
    let b : List ℕ = c.other.inside.words in
    let none : (j : ℕ) → j < 32 → bit_and (get_or a j 0) (get_or b j 0) ≡ 0 = search rules in
    sym (ap (λ w. may_have w x) c.other.view_is) ∙ have_none a b none x (ap (λ w. may_have w x) c.self.view_is ∙ here)
