use Rattle.std.proofs.Common.{◌≡◌, ◌∙◌, sym, subst, false, List}
use Rattle.std.specs.List.{list_any}
use Rattle.std.proofs.lemmas.List.{take_all}
use Rattle.std.proofs.lemmas.List.Folds.{list_any_at}
use Rattle.ownership_model.specs.declared.key.Key.{Key}
use Rattle.ownership_model.specs.declared.key.Key.TheVariants.{Handle}
use Rattle.heap_difference.specs.KeySets.{is_among}
use Rattle.heap_difference.proofs.KeyLemmas.{meet_listed}
use Rattle.heap_difference.proofs.key_set.KeySet.touches.Goals as goal

pub returns-then-has : goal.returns-then-has
returns-then-has c =
    sym (list_any_at (is_among c.args.self.now) c.args.keys.now c.loop-key.key-index (Handle 0) c.loop-key-test.true (sym c.has.ensures ∙ c.if-has.true))
    ∙ meet_listed c.args.self.now c.args.keys.now

pub returns : goal.returns
returns c =
    sym (subst (λ (ks : List Key). list_any (is_among c.args.self.now) ks ≡ false) (take_all c.loop-key.key-index c.args.keys.now c.loop-key-test.false) c.loop-key.invariant)
    ∙ meet_listed c.args.self.now c.args.keys.now
