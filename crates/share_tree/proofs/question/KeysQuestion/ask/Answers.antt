use Rattle.std.proofs.Common.{ap, ◌∙◌, ◌++◌}
use Rattle.share_tree.specs.Digits.{child_at}
use Rattle.share_tree.specs.Entries.{keys_from, moved}
use Rattle.share_tree.proofs.ShortLemmas.{keys-below}
use Rattle.share_tree.proofs.question.KeysQuestion.ask.Goals as goal

pub returns : goal.returns
returns g c =
    c.in_ok-push_keys.ensures
    ∙ ap (λ ks. ks ++ keys_from (moved (child_at g.C.Level.at c.args.child.now) 0) 0 g.C.Level.SPAN) c.new-keys.ensures.items
    ∙ keys-below g.C.Level.SPAN (child_at g.C.Level.at c.args.child.now) c.requires
