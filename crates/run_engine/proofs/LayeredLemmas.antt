-- Segments whose heaps are kept as older ones, over which layers lie.
use Rattle.std.proofs.Common.{◌≡◌, ◌++◌, ◌∷◌, ◌<◌, ◌+◌, ℕ, List, [], ap, refl, subst, sym, ◌∙◌, take, drop, length}
use Rattle.std.specs.Prelude.{Option, Some, None, IfSome, option_map}
use Rattle.std.proofs.Math.ListN.{get_or}
use Rattle.std.proofs.lemmas.List.{take_more, drop_more}
use Rattle.ownership_model.specs.State.{State, IsSound}
use Rattle.ownership_model.specs.Patch.{Remains, patched}
use Rattle.ownership_model.specs.Reach.{has}
use Rattle.agreement.specs.Laid.{with_laid, IsSoundWith}
use Rattle.heap_difference.specs.declared.key_set.KeySet.{KeySet}
use Rattle.heap_difference.specs.Alikes.{AreEntriesAlike, HoldFields}
use Rattle.heap_difference.specs.Differences.{IsDifference}
use Rattle.heap_difference.specs.Puts.{ArePuts}
use Rattle.heap_difference.specs.Layers.{LayerView, IsLayer, IsLaidBy, AreAmong}
use Rattle.heap_difference.proofs.LayerLemmas.{layers_hold}
use Rattle.run_engine.specs.SegmentView.{SegmentView}
use Rattle.run_engine.specs.inner.Blocks.{laid_over, AreSoundBelow}
use Rattle.run_engine.specs.inner.Layered.{CanStand, OverView, with_over, with_all, Makes, CanLie, AreLaid, AreLaidBelow, IsCovered, AreWithin, IsOver, standing_at}

-- what the layer makes of a state under others, all of which it covers, it makes of the state that is kept
makes-below : (others : List OverView) (l : LayerView) (m new : State) → AreWithin others l → AreLaid others m → Makes l new (with_all others m) → Makes l new m
makes-below [] l m new within below makes = makes
makes-below (o ∷ os) l m new within below makes =
    let rest : Makes l new (with_over o m) = makes-below os l (with_over o m) new within.1 below.1 makes in
    let bare : with_laid o.below m ≡ m = ap (λ x. with_laid x m) within.0.nothing in
    let here : Makes o.layer (with_over o m) m = subst (Makes o.layer (with_over o m)) bare below.0.makes in
    record {
      sound = here.sound;
      laid = layers_hold.through l o.layer m (with_over o m) new here.laid within.0.covers rest.laid;
    }

-- layers one behind the other
all-both : (lowest others : List OverView) (m : State) → with_all (lowest ++ others) m ≡ with_all others (with_all lowest m)
all-both [] others m = refl
all-both (b ∷ bs) others m = all-both bs others (with_over b m)

-- the lower ones can be laid over a state
pub lower-laid : (lowest others : List OverView) (m : State) → AreLaid (lowest ++ others) m → AreLaid lowest m
lower-laid [] others m laid = tt
lower-laid (b ∷ bs) others m laid = (laid.0, lower-laid bs others (with_over b m) laid.1)

-- and the others over what they make
upper-laid : (lowest others : List OverView) (m : State) → AreLaid (lowest ++ others) m → AreLaid others (with_all lowest m)
upper-laid [] others m laid = laid
upper-laid (b ∷ bs) others m laid = upper-laid bs others (with_over b m) laid.1

-- one more over them
one-more : (lowest : List OverView) (o : OverView) (m : State) → AreLaid lowest m → CanLie o (with_all lowest m) → AreLaid (lowest ++ o ∷ []) m
one-more [] o m laid lies = (lies, tt)
one-more (b ∷ bs) o m laid lies = (laid.0, one-more bs o (with_over b m) laid.1 lies)

-- the layer makes the new state of a heap that is kept, if one is, with what stays below it
pub record StandsOver (own new : List OverView) (kept : Option State) (made : State) : Type 0 where
  pub is : option_map (with_all new) kept ≡ option_map (λ (m : State). made) (option_map (with_all own) kept)
  pub below : IfSome kept (AreLaid new)

-- what it makes of the state that they make, with the exchange, it makes of that which the lowest make
made-over : (lowest others : List OverView) (x : Option Remains) (l : LayerView) (m made : State) → IfSome x (λ _. others ≡ []) → AreWithin others l → AreLaid (lowest ++ others) m
    → Makes l made (with_laid x (with_all (lowest ++ others) m)) → Makes l made (with_laid x (with_all lowest m))
made-over lowest others None l m made none within laid makes =
    makes-below others l (with_all lowest m) made within (upper-laid lowest others m laid) (subst (Makes l made) (all-both lowest others m) makes)
made-over lowest others (Some r) l m made none within laid makes =
    subst (λ os. Makes l made (with_laid (Some r) (with_all os (with_all lowest m)))) none (subst (λ n. Makes l made (with_laid (Some r) n)) (all-both lowest others m) makes)

-- so is the state with the exchange sound
sound-over : (lowest others : List OverView) (x : Option Remains) (m : State) → IfSome x (λ _. others ≡ []) → IsSoundWith x (with_all (lowest ++ others) m) → IsSoundWith x (with_all lowest m)
sound-over lowest others None m none sound = tt
sound-over lowest others (Some r) m none sound =
    subst (λ os. IsSoundWith (Some r) (with_all os (with_all lowest m))) none (subst (IsSoundWith (Some r)) (all-both lowest others m) sound)

pub stands-over : (own new : List OverView) (x : Option Remains) (l : LayerView) (kept : Option State) (made : State) → IsOver own x l new → IfSome kept (AreLaid own) → IfSome (option_map (with_all own) kept) (IsSoundWith x)
    → IfSome (option_map (with_laid x) (option_map (with_all own) kept)) (Makes l made) → StandsOver own new kept made
stands-over own new x l None made over laid sound makes = record { is = refl; below = tt }
stands-over own new x l (Some m) made over laid sound makes =
    let o : OverView = record { below = x; layer = l } in
    let base = with_all over.lowest m in
    let own-laid : AreLaid (over.lowest ++ over.others) m = subst (λ os. AreLaid os m) over.own_is laid in
    let here : Makes l made (with_laid x base) =
    made-over over.lowest over.others x l m made over.none over.within own-laid (subst (λ os. Makes l made (with_laid x (with_all os m))) over.own_is makes) in
    let can : IsSoundWith x base = sound-over over.lowest over.others x m over.none (subst (λ os. IsSoundWith x (with_all os m)) over.own_is sound) in
    let is : with_over o base ≡ made = layers_hold.made l (with_laid x base) made here.laid here.sound in
    record {
      is = ap Some (ap (λ os. with_all os m) over.new_is ∙ all-both over.lowest (o ∷ []) m ∙ is);
      below = subst (λ os. AreLaid os m) (sym over.new_is)
          (one-more over.lowest o m (lower-laid over.lowest over.others m own-laid) (record { sound = can; makes = subst (λ n. Makes l n (with_laid x base)) (sym is) here }));
    }

-- one more layer that is covered, behind others
pub within-more : (os : List OverView) (o : OverView) (other : LayerView) → AreWithin os other → IsCovered o other → AreWithin (os ++ o ∷ []) other
within-more [] o other within here = (here, tt)
within-more (b ∷ bs) o other within here = (within.0, within-more bs o other within.1 here)

-- the lower layers and the last one
pub within-both : (os others : List OverView) (other : LayerView) → AreWithin os other → AreWithin others other → AreWithin (os ++ others) other
within-both [] others other within rest = rest
within-both (b ∷ bs) others other within rest = (within.0, within-both bs others other within.1 rest)

-- over the heap that the lower ones make the last one can be laid
pub last-laid : (lower : List OverView) (o : OverView) (m : State) → AreLaid (lower ++ o ∷ []) m → CanLie o (with_all lower m)
last-laid lower o m laid = (upper-laid lower (o ∷ []) m laid).0

-- and what they make with it
pub last-made : (lower : List OverView) (o : OverView) (m : State) → with_all (lower ++ o ∷ []) m ≡ with_over o (with_all lower m)
last-made lower o m = all-both lower (o ∷ []) m

-- the layers from a place on: the one there, and those behind it
pub from-place : (os : List OverView) (i : ℕ) (o : OverView) → i < length os → o ≡ get_or os i o → drop i os ≡ o ∷ drop (i + 1) os
from-place os i o lt is = drop_more os i o lt ∙ ap (λ v. v ∷ drop (i + 1) os) (sym is)

-- the layers up to a place and the one there
pub to-place : (os : List OverView) (i : ℕ) (o : OverView) → i < length os → o ≡ get_or os i o → take (i + 1) os ≡ take i os ++ o ∷ []
to-place os i o lt is = take_more os i o lt ∙ ap (λ v. take i os ++ v ∷ []) (sym is)

-- what stands in a heap at some keys and at others can be laid over a state that differs from it at no more than those, and makes the heap
pub layer-laid : (l : LayerView) (keys : KeySet) (old heap : State) → l.from ≡ heap → IsLayer l → AreAmong keys l → AreEntriesAlike l.shifts l.fields old heap → HoldFields l.fields heap → IsSound heap []
    → ArePuts (λ h. has h l.keys.handles) l.from l.puts → IsDifference keys old heap → IsLaidBy l old heap
layer-laid l keys old heap from layer within near holds sound puts differ =
    subst (IsLaidBy l old) from
    (subst (λ (m : State). IsDifference l.keys old m → AreEntriesAlike l.shifts l.fields old m → HoldFields l.fields m → IsSound m [] → IsLaidBy l old l.from) from
    (λ differs alike held sound_here. layers_hold.start l old layer differs alike held sound_here puts) (layers_hold.more keys l.keys old heap differ within) near holds sound)

-- a heap with nothing over it stands as it is
pub none-laid : (kept : Option State) → AreLaidBelow [] kept
none-laid None = tt
none-laid (Some m) = tt

-- a segment with no heap stands as it is at each state
pub stands-bare : (new : State) (s : SegmentView) → s.mark ≡ None → s.anchor ≡ None → s ≡ standing_at new s
stands-bare new s mark anchor =
    let same : (o : Option State) → o ≡ None → o ≡ option_map (λ (m : State). new) o = λ o e. e ∙ sym (ap (option_map (λ (m : State). new)) e) in
    λ i. record s { mark = same s.mark mark i; anchor = same s.anchor anchor i }

-- a segment in which something is exchanged stands at a state as the segment itself does
pub stands-exchanged : (x : Option Remains) (new : State) (s : SegmentView) → standing_at new (laid_over x s) ≡ standing_at new s
stands-exchanged None new s = refl
stands-exchanged (Some r) new s =
    let same : (o : Option State) → option_map (λ (m : State). new) (option_map (λ m. patched m r) o) ≡ option_map (λ (m : State). new) o = elim [ None ↦ refl | Some m ↦ refl ] in
    λ i. record s { mark = same s.mark i; anchor = same s.anchor i }

-- the exchange leaves what is kept of it sound
pub sound-mark : (x : Option Remains) (s : SegmentView) → AreSoundBelow x (s ∷ []) → IfSome s.mark (IsSoundWith x) × IfSome s.anchor (IsSoundWith x)
sound-mark None s sound = (each s.mark, each s.anchor)
  where
    each : (o : Option State) → IfSome o (IsSoundWith None)
    each None = tt
    each (Some m) = tt
sound-mark (Some r) s sound = sound.0

-- what makes the new state of a heap with the exchange is laid over that
pub laid-marks : (x : Option Remains) (l : LayerView) (s : SegmentView) (new : State) → CanStand l (laid_over x s) new → IfSome (option_map (with_laid x) s.mark) (Makes l new) × IfSome (option_map (with_laid x) s.anchor) (Makes l new)
laid-marks None l s new can = (same s.mark can.mark, same s.anchor can.anchor)
  where
    same : (o : Option State) → IfSome o (Makes l new) → IfSome (option_map (with_laid None) o) (Makes l new)
    same None makes = tt
    same (Some m) makes = makes
laid-marks (Some r) l s new can = (can.mark, can.anchor)
