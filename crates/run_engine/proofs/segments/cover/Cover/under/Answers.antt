use Rattle.std.proofs.Common.{◌≡◌, ◌++◌, [], ◌∷◌, ◌∙◌, ap, refl, subst, sym}
use Rattle.std.specs.Prelude.{None, IfSome, option_map, option_to_list}
use Rattle.std.specs.Arc.{arc_value}
use Rattle.heap_difference.specs.Layers.{LayerView}
use Rattle.run_engine.specs.inner.Layered.{stacked, AreWithin, IsWithin}
use Rattle.run_engine.proofs.LayeredLemmas.{within-both}
use Rattle.run_engine.proofs.PieceLemmas.{is_some-none}
use Rattle.run_engine.proofs.segments.cover.Cover.under.Goals as goal

-- it comes in place of all
pub returns-then-are_within : goal.returns-then-are_within
returns-then-are_within c =
    let l = arc_value c.args.layer.now in
    let bare : option_map arc_value c.args.exchange.now ≡ None = ap (option_map arc_value) (is_some-none c.args.exchange.now (sym c.is_some.ensures ∙ c.if-is_some.false)) in
    let lower : AreWithin (stacked (option_map arc_value c.self.inside.lower)) l = subst (AreWithin (stacked (option_map arc_value c.self.inside.lower))) c.deref-2.ensures (c.are_within.ensures c.if-are_within.true) in
    let top : AreWithin (option_to_list c.self.inside.top) l = subst (λ (v : LayerView). IsWithin c.self.inside.top v) c.deref.ensures (c.is_within.ensures c.if-not-is_within.false) in
    record {
      lowest = [];
      others = c.args.self.now;
      own_is = refl;
      none = subst (λ x. IfSome x (λ _. c.args.self.now ≡ [])) (sym bare) tt;
      within = subst (λ os. AreWithin os l) c.self.view_is (within-both (stacked (option_map arc_value c.self.inside.lower)) (option_to_list c.self.inside.top) l lower top);
      new_is = ap (λ o. o ∷ []) c.in_ok-top.ensures;
    }

-- or of the last one
pub returns : goal.returns
returns c =
    let bare : option_map arc_value c.args.exchange.now ≡ None = ap (option_map arc_value) (is_some-none c.args.exchange.now (sym c.is_some.ensures ∙ c.if-is_some.false)) in
    record {
      lowest = stacked (option_map arc_value c.self.inside.lower);
      others = option_to_list c.self.inside.top;
      own_is = sym c.self.view_is;
      none = subst (λ x. IfSome x (λ _. option_to_list c.self.inside.top ≡ [])) (sym bare) tt;
      within = subst (λ (v : LayerView). IsWithin c.self.inside.top v) c.deref.ensures (c.is_within.ensures c.if-not-is_within.false);
      new_is = λ j. stacked (c.in_ok-shared_layers.ensures j) ++ c.in_ok-top.ensures j ∷ [];
    }
