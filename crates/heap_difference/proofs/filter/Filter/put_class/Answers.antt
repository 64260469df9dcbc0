use Rattle.std.proofs.Common.{ap, ◌∙◌}
use Rattle.heap_difference.specs.Filters.{class_bit}
use Rattle.heap_difference.proofs.FilterLemmas.{bit_is_set, bit_stays}
use Rattle.heap_difference.proofs.filter.Filter.put_class.Goals as goal

pub returns-clause-set : goal.returns-clause-set
returns-clause-set c = bit_is_set c.self.inside.words c.self.told c.args.class c.requires

pub returns-clause-stays : goal.returns-clause-stays
returns-clause-stays c e h = bit_stays c.self.inside.words c.self.told c.args.class c.requires e (ap (λ w. class_bit w e) c.self.view_is ∙ h)
