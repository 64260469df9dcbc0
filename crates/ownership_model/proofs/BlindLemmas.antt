-- When operations are blind to objects, one after another.
use Rattle.std.proofs.Common.{◌≡◌, ℕ, List, [], ◌∷◌, refl, Bool, true, false}
use Rattle.std.specs.Prelude.{not}
use Rattle.std.specs.List.{AllByRecursion}
use mathlib.Core.Logic.{⊎_elim, inl, inr}
use Rattle.trace_types.specs.declared.outcomes.Event.{Event}
use Rattle.trace_types.specs.declared.outcomes.Outcome.{Outcome}
use Rattle.trace_types.specs.Operation.{Operation}
use Rattle.ownership_model.specs.Step.{step}
use Rattle.ownership_model.specs.Touched.{event_object}
use Rattle.ownership_model.specs.declared.key.Key.{Key}
use Rattle.ownership_model.specs.declared.key.Key.TheVariants.{Handle, Cell, Object, Scope}
use Rattle.ownership_model.specs.Alike.{AreWithin}
use Rattle.ownership_model.specs.Footprint.{footprint}
use Rattle.ownership_model.specs.Near.{is_object_of, IsBlind}
use Rattle.ownership_model.specs.NearLaws.{BlindOnesAre, ApartOnesAre, BlindAppends, FewerAreBlind, BlindHolds}
use Rattle.ownership_model.proofs.AlikeLemmas.{within_front, within_back}

-- operations that are blind as their outcomes tell are so from the state
listed_blind : BlindOnesAre
listed_blind a loose m [] c = tt
listed_blind a loose m (op ∷ ops) c = (inl c.0, listed_blind a loose (step m op).state ops c.1)

-- so are operations that touch none of these objects
apart_blind : ApartOnesAre
apart_blind a loose m [] c = tt
apart_blind a loose m (op ∷ ops) c =
    (inr (within_front (λ x. not (is_object_of a x)) (footprint m op) _ c), apart_blind a loose (step m op).state ops (within_back (λ x. not (is_object_of a x)) (footprint m op) _ c))

-- blind ones behind blind ones are blind together
blind_appends : BlindAppends
blind_appends a loose m [] more c d = d
blind_appends a loose m (op ∷ ops) more c d = (c.0, blind_appends a loose (step m op).state ops more c.1 d)

-- what is not among more is not among fewer
not_fewer : (x y : Bool) → (x ≡ true → y ≡ true) → y ≡ false → x ≡ false
not_fewer true y f c = let there : y ≡ true = f refl in absurd cc
not_fewer false y f c = refl

-- the same, said with not
not_among : (x y : Bool) → (x ≡ true → y ≡ true) → not y ≡ true → not x ≡ true
not_among true true f c = c
not_among true false f c = let there : false ≡ true = f refl in absurd cc
not_among false y f c = refl

module _ (a b : ℕ → Bool) (fewer : (o : ℕ) → b o ≡ true → a o ≡ true) where
  -- events of other objects than more are of others than fewer
  fewer_events : (es : List Event) → AllByRecursion (λ e. a (event_object e) ≡ false) es → AllByRecursion (λ e. b (event_object e) ≡ false) es
  fewer_events [] c = tt
  fewer_events (e ∷ es) c = (not_fewer (b (event_object e)) (a (event_object e)) (fewer (event_object e)) c.0, fewer_events es c.1)

  -- what is no object of more is none of fewer
  fewer_keys : (keys : List Key) → AreWithin (λ x. not (is_object_of a x)) keys → AreWithin (λ x. not (is_object_of b x)) keys
  fewer_keys [] c = tt
  fewer_keys (Handle h ∷ keys) c = (refl, fewer_keys keys c.1)
  fewer_keys (Cell e ∷ keys) c = (refl, fewer_keys keys c.1)
  fewer_keys (Object o ∷ keys) c = (not_among (b o) (a o) (fewer o) c.0, fewer_keys keys c.1)
  fewer_keys (Scope t ∷ keys) c = (refl, fewer_keys keys c.1)

  -- an operation that is blind to more objects is blind to fewer
  fewer_blind : (loose : ℕ → ℕ → Bool) (op : Operation) (x : Outcome) → IsBlind a loose op x → IsBlind b loose op x
  fewer_blind loose op x c = record {
    events = fewer_events x.events c.events;
    copied = c.copied;
    counts = λ n is close. c.counts n is (fewer n.object close);
    fields = λ n i is close. c.fields n i is (fewer n.object close);
  }

-- so are operations, one after another
fewer_are_blind : FewerAreBlind
fewer_are_blind a b loose m [] fewer c = tt
fewer_are_blind a b loose m (op ∷ ops) fewer c = (
  ⊎_elim (λ blind. inl (fewer_blind a b fewer loose op (step m op).outcome blind)) (λ out. inr (fewer_keys a b fewer (footprint m op) out)) c.0,
  fewer_are_blind a b loose (step m op).state ops fewer c.1,
)

-- the law
pub blind_holds : BlindHolds
blind_holds = record { listed = listed_blind; apart = apart_blind; appends = blind_appends; fewer = fewer_are_blind }
