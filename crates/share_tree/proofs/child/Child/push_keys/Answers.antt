use Rattle.std.proofs.Common.{ap, sym, ◌∙◌, ◌++◌, ◌-◌, append-nil}
use Rattle.std.specs.Option.{option_map}
use Rattle.std.specs.Arc.{arc_value}
use Rattle.share_tree.specs.Digits.{child_at}
use Rattle.share_tree.proofs.EntryLemmas.{keys_from-none}
use Rattle.share_tree.proofs.child.Child.push_keys.Goals as goal

pub returns-in-None : goal.returns-in-None
returns-in-None g c =
    sym (ap (λ ks. c.args.keys.now.items ++ ks) (keys_from-none _ c.args.base g.C.Level.SPAN (λ q a b. ap (λ child. child_at g.C.Level.at child (q - c.args.base)) (sym c.self.view_is ∙ ap (option_map arc_value) c.in-None.is))) ∙ append-nil c.args.keys.now.items)
