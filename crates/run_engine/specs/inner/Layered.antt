-- Heaps of segments that are kept as older ones, over which layers lie.
use Rattle.std.specs.Prelude.{◌≡◌, ◌++◌, ◌∷◌, [], List, Option, Some, None, IfSome, option_map, option_to_list, refl}
use Rattle.std.specs.Coded.{Coded, code_by, coded×, coded_option}
use Rattle.trace_types.specs.declared.outcomes.Outcome.{Outcome}
use Rattle.ownership_model.specs.State.{State, IsSound}
use Rattle.ownership_model.specs.Patch.{Remains}
use Rattle.agreement.specs.Laid.{with_laid, IsSoundWith}
use Rattle.agreement.specs.RemainsCode.{remains_code}
use Rattle.heap_difference.specs.Layers.{LayerView, layer_code, with_layer, IsLaidBy, Covers}
use Rattle.run_engine.specs.SegmentView.{SegmentView}

-- a layer, and what is exchanged in a state before it is laid over that, if anything is
pub record OverView : Type 0 where
  pub below : Option Remains
  pub layer : LayerView

-- by which a proof tells them apart
abbrev pub over_code : Coded OverView
over_code =
    code_by (Option Remains × LayerView) (coded× (coded_option remains_code) layer_code)
    (λ o. (o.below, o.layer)) (λ p. record { below = p.0; layer = p.1 }) (λ _. refl)

-- the state with the exchange made, and the layer laid over that
abbrev pub with_over : OverView → State → State
with_over o m = with_layer o.layer (with_laid o.below m)

-- the state with the layers laid over it, the first of them first
abbrev pub with_all : List OverView → State → State
with_all [] m = m
with_all (o ∷ os) m = with_all os (with_over o m)

-- the layers, if there are any
abbrev pub stacked : Option (List OverView) → List OverView
stacked None = []
stacked (Some os) = os

-- the lower layers, and then the last one
abbrev pub covering : Option (List OverView) → Option OverView → List OverView
covering lower top = stacked lower ++ option_to_list top

-- the layer makes the new state of the old one, which is sound
pub record Makes (l : LayerView) (new old : State) : Type 0 where
  pub sound : IsSound old []
  pub laid : IsLaidBy l old new

-- the exchange can be made in a state, and the layer be laid over that
pub record CanLie (o : OverView) (m : State) : Type 0 where
  pub sound : IsSoundWith o.below m
  pub makes : Makes o.layer (with_over o m) (with_laid o.below m)

-- each can be laid over what those before it make of the state
abbrev pub AreLaid : List OverView → State → Type 0
AreLaid [] m = Unit {0}
AreLaid (o ∷ os) m = CanLie o m × AreLaid os (with_over o m)

-- so they can over one that is kept
abbrev pub AreLaidBelow : List OverView → Option State → Type 0
AreLaidBelow os kept = IfSome kept (AreLaid os)

-- nothing is exchanged below a layer, and all that it lays is laid by the other one
pub record IsCovered (o : OverView) (other : LayerView) : Type 0 where
  pub nothing : o.below ≡ None
  pub covers : Covers other o.layer

-- so it is with each of these
abbrev pub AreWithin : List OverView → LayerView → Type 0
AreWithin [] other = Unit {0}
AreWithin (o ∷ os) other = IsCovered o other × AreWithin os other

-- and with the layer, if there is one
abbrev pub IsWithin : Option OverView → LayerView → Type 0
IsWithin layer other = AreWithin (option_to_list layer) other

-- The layer, with what is exchanged below it, lies over the lowest of these, in place of the others, and lays all that they do: none goes where
-- something is exchanged
pub record IsOver (own : List OverView) (x : Option Remains) (l : LayerView) (new : List OverView) : Type 0 where
  pub lowest : List OverView
  pub others : List OverView
  pub own_is : own ≡ lowest ++ others
  pub none : IfSome x (λ _. others ≡ [])
  pub within : AreWithin others l
  pub new_is : new ≡ lowest ++ record { below = x; layer = l } ∷ []

-- the layer makes the new state of the segment's checkpoint and anchor, if they are kept
pub record CanStand (l : LayerView) (s : SegmentView) (new : State) : Type 0 where
  pub mark : IfSome s.mark (Makes l new)
  pub anchor : IfSome s.anchor (Makes l new)

-- there is such a state
pub record MayStand (l : LayerView) (s : SegmentView) : Type 0 where
  pub new : State
  pub is : CanStand l s new

-- the segment, which begins with the new state
abbrev pub standing_at : State → SegmentView → SegmentView
standing_at new s = record s { mark = option_map (λ m. new) s.mark; anchor = option_map (λ m. new) s.anchor }

-- the same with its checkpoint there in any case
abbrev pub started_at : State → SegmentView → SegmentView
started_at new s = record s { mark = Some new; anchor = option_map (λ m. new) s.anchor }

-- the same with these outcomes
abbrev pub told_at : List Outcome → SegmentView → SegmentView
told_at outcomes s = record s { outcomes = outcomes }
