-- From a stop on: each later stretch of the old replay has the outcomes of the new one and touches and moves the same, and each
-- later state can be patched.
use Rattle.std.proofs.Common.{◌≡◌, ℕ, List, [], ◌∷◌, ◌++◌, ap, ◌∙◌, sym, subst, Bool}
use Rattle.std.specs.Prelude.{IsTrue}
use Rattle.trace_types.specs.Operation.{Operation}
use Rattle.trace_types.specs.Trace.{has_distinct_numbers}
use Rattle.ownership_model.specs.State.{State, IsSound}
use Rattle.ownership_model.specs.Step.{outcomes_from, AreUnused}
use Rattle.ownership_model.specs.Footprint.{footprints_from, moved_from}
use Rattle.ownership_model.specs.Laws.{StopsEarly, ReplayAlike, StopsLater}
use Rattle.ownership_model.specs.Patch.{Remains}
use Rattle.ownership_model.proofs.ReplayLemmas.{appends_hold, footprints_from-append, moved_from-append}

rest_of : {X : Type 0} → List X → List X
rest_of [] = []
rest_of (x ∷ xs) = xs

cancel : {X : Type 0} (a b c : List X) → a ++ b ≡ a ++ c → b ≡ c
unfolding rest_of
cancel [] b c e = e
cancel (x ∷ a) b c e = cancel a b c (ap rest_of e)

-- where the wholes are equal and so are their fronts, the rests are
same_rest : {X : Type 0} (a b c d : List X) → a ≡ c → a ++ b ≡ c ++ d → b ≡ d
same_rest a b c d front whole = cancel c b d (ap (λ xs. xs ++ b) (sym front) ∙ whole)

pub stops_later : (r : ℕ → Bool) (new old : State) (x : Remains) → ReplayAlike r new old x
    → (p q : List Operation) → IsTrue (has_distinct_numbers (p ++ q)) → AreUnused new (p ++ q) → AreUnused old (p ++ q) → StopsLater new old x p q
stops_later r new old x alike p q distinct unused unused_too =
    let front : StopsEarly r new old x p = alike p (appends_hold.distinct_front p q distinct) (appends_hold.unused_front new p q unused) (appends_hold.unused_front old p q unused_too) in
    let whole : StopsEarly r new old x (p ++ q) = alike (p ++ q) distinct unused unused_too in
    record {
      state = front.end;
      sound = subst (λ (m : State). IsSound m []) front.end front.sound;
      outcomes = same_rest (outcomes_from new p) _ (outcomes_from old p) _ front.outcomes (sym (appends_hold.outcomes new p q) ∙ whole.outcomes ∙ appends_hold.outcomes old p q);
      footprints = same_rest (footprints_from new p) _ (footprints_from old p) _ front.footprints (sym (footprints_from-append p q new) ∙ whole.footprints ∙ footprints_from-append p q old);
      moved = same_rest (moved_from new p) _ (moved_from old p) _ front.moved (sym (moved_from-append p q new) ∙ whole.moved ∙ moved_from-append p q old);
    }
