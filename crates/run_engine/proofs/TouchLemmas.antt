-- Touches in turn, and the checkpoints that are given up by them.
use Rattle.std.proofs.Common.{◌≡◌, ℕ, List, [], ◌∷◌, ◌++◌, refl, ap, sym, subst, ◌∙◌}
use Rattle.std.specs.Prelude.{Option, Some, None, fold, option_to_list}
use Rattle.trace_types.specs.Operation.{Operation}
use Rattle.mark_shelf.specs.Shelf.{Shelf}
use Rattle.run_engine.specs.RunView.{RunView}
use Rattle.run_engine.specs.GivenUp.{AreTouches, given_up, IsTouched}

given_up-append : (trace : List Operation) (marks more less : List ℕ) → fold (given_up trace) marks (more ++ less) ≡ fold (given_up trace) (fold (given_up trace) marks more) less
given_up-append trace marks [] less = refl
given_up-append trace marks (g ∷ more) less = given_up-append trace (given_up trace marks g) more less

behind : (answer : Option ℕ) (more less : List ℕ) → option_to_list answer ++ (more ++ less) ≡ (option_to_list answer ++ more) ++ less
behind None more less = refl
behind (Some g) more less = refl

pub AreTouches-append : (a b c : Shelf) (ids more gone others : List ℕ) → AreTouches a ids gone b → AreTouches b more others c → AreTouches a (ids ++ more) (gone ++ others) c
AreTouches-append a b c [] more gone others h k = subst (λ s. AreTouches s more (gone ++ others) c) h.0 (subst (λ l. AreTouches b more (l ++ others) c) (sym h.1) k)
AreTouches-append a b c (id ∷ ids) more gone others (answer, mid, rest, first, later, is) k =
    (answer, mid, rest ++ others, first, AreTouches-append mid b c ids more rest others later k, ap (λ l. l ++ others) is ∙ sym (behind answer rest others))

pub IsTouched-append : (r s t : RunView) (a b c : Shelf) (ids more : List ℕ) → IsTouched r s a b ids → IsTouched s t b c more → IsTouched r t a c (ids ++ more)
IsTouched-append r s t a b c ids more h k = record {
  gone = h.gone ++ k.gone;
  touches = AreTouches-append a b c ids more h.gone k.gone h.touches k.touches;
  trace = k.trace ∙ h.trace;
  marks = k.marks ∙ ap (λ ops. fold (given_up ops) s.marks k.gone) h.trace ∙ ap (λ ms. fold (given_up r.trace) ms k.gone) h.marks ∙ sym (given_up-append r.trace r.marks h.gone k.gone);
}
