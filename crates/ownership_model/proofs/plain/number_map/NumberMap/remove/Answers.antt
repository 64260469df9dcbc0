use Rattle.std.proofs.Common.{ap, ◌∙◌, List, ℕ}
use Rattle.std.specs.Ordering.{nat_cmp}
use Rattle.std.specs.FinMap as map
use Rattle.ownership_model.proofs.NumberMapLemmas.{sorted_filter, remove-filter}
use Rattle.ownership_model.proofs.plain.number_map.NumberMap.remove.Goals as goal

pub invariant_of-self : goal.invariant_of-self
invariant_of-self g c = rw c.cut_in.ensures (sorted_filter c.args.key c.self.inside.items.items c.self.invariant)

pub returns : goal.returns
returns g c = ap (λ (es : List (ℕ × g.row.V.Denot)). map.from_sorted {R = nat_cmp} es) c.cut_in.ensures ∙ remove-filter c.args.key c.self.inside.items.items c.self.invariant ∙ ap (λ m. map.remove m c.args.key) c.self.view_is
