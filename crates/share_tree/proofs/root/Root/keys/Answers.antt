use Rattle.std.proofs.Common.{◌^◌, ◌∷◌, ◌++◌, [], ap, sym, ◌∙◌, arith}
use Rattle.std.specs.Arc.{arc_value}
use Rattle.share_tree.specs.Entries.{keys_from}
use Rattle.share_tree.specs.Levels.{root_at}
use Rattle.share_tree.proofs.RootLemmas.{one-keys}
use Rattle.share_tree.proofs.root.Root.keys.Goals as goal

pub returns-in_ok-push-in-One : goal.returns-in_ok-push-in-One
returns-in_ok-push-in-One g c =
    c.in_ok-push-in-One.ensures.items
    ∙ ap (λ ks. ks ++ c.in-One.only ∷ []) c.new-keys.ensures.items
    ∙ sym (one-keys c.in-One.only (arc_value c.in-One.field-1).value (omega arith))
    ∙ ap (λ r. keys_from (root_at r) 0 (2 ^ 32)) (sym c.in-One.is)
